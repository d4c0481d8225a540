-- The sizes and the counters, taken apart number by number.
use Rattle.std.proofs.Common.{◌≡◌, ℕ, ◌^◌, ◌<◌, List, [], ◌++◌, length, refl, ap, ◌∙◌, arith}
use Rattle.std.proofs.lemmas.List.{nil_from_length}
use Rattle.byteorder.specs.Endian.{little_bytes}
use Rattle.fx_super.specs.Super.{sizes, counters, AreSizes, AreCounters}
use Rattle.fx_base.proofs.Bytes.{same_4, same_8}

-- pieces that were taken one after another
pub four_pieces : (x r1 r2 r3 r4 a b c d : List ℕ) → x ≡ a ++ r1 → r1 ≡ b ++ r2 → r2 ≡ c ++ r3 → r3 ≡ d ++ r4 → x ≡ a ++ (b ++ (c ++ (d ++ r4)))
four_pieces x r1 r2 r3 r4 a b c d e1 e2 e3 e4 =
    e1 ∙ ap (λ (r : List ℕ). a ++ r) (e2 ∙ ap (λ (r : List ℕ). b ++ r) (e3 ∙ ap (λ (r : List ℕ). c ++ r) e4))

-- What was read: each number stands before the rest.
pub record ReadSizes (bytes : List ℕ) (blocks generation ring zero : ℕ) : Type 0 where
  pub r1 : List ℕ
  pub r2 : List ℕ
  pub r3 : List ℕ
  pub r4 : List ℕ
  pub blocks_fit : blocks < 2 ^ 32
  pub generation_fits : generation < 2 ^ 64
  pub ring_fits : ring < 2 ^ 32
  pub zero_fits : zero < 2 ^ 32
  pub blocks_is : bytes ≡ little_bytes 4 blocks ++ r1
  pub generation_is : r1 ≡ little_bytes 8 generation ++ r2
  pub ring_is : r2 ≡ little_bytes 4 ring ++ r3
  pub zero_is : r3 ≡ little_bytes 4 zero ++ r4
  pub ends : length r4 ≡ 0

pub sizes_made : (bytes : List ℕ) (b g r z : ℕ) → ReadSizes bytes b g r z → z ≡ 0 → AreSizes bytes b g r
unfolding sizes
sizes_made bytes b g r z h e =
    let last : h.r4 ≡ [] = nil_from_length h.r4 h.ends in
    let end : h.r3 ≡ little_bytes 4 0 ++ [] = h.zero_is ∙ ap (λ (n : ℕ). little_bytes 4 n ++ h.r4) e ∙ ap (λ (x : List ℕ). little_bytes 4 0 ++ x) last in
    record {
      blocks_fit = h.blocks_fit;
      generation_fits = h.generation_fits;
      ring_fits = h.ring_fits;
      bytes_are = four_pieces bytes h.r1 h.r2 h.r3 [] (little_bytes 4 b) (little_bytes 8 g) (little_bytes 4 r) (little_bytes 4 0) h.blocks_is h.generation_is h.ring_is end;
    }

pub sizes_read : (bytes : List ℕ) (b g r : ℕ) → AreSizes bytes b g r → ReadSizes bytes b g r 0
unfolding sizes
sizes_read bytes b g r h =
    record {
      r1 = little_bytes 8 g ++ (little_bytes 4 r ++ little_bytes 4 0);
      r2 = little_bytes 4 r ++ little_bytes 4 0;
      r3 = little_bytes 4 0;
      r4 = [];
      blocks_fit = h.blocks_fit;
      generation_fits = h.generation_fits;
      ring_fits = h.ring_fits;
      zero_fits = omega arith;
      blocks_is = h.bytes_are;
      generation_is = refl;
      ring_is = refl;
      zero_is = refl;
      ends = refl;
    }

-- The same bytes read twice give the same numbers.
pub record SameSizes (b g r z b' g' r' z' : ℕ) : Type 0 where
  pub blocks : b ≡ b'
  pub generation : g ≡ g'
  pub ring : r ≡ r'
  pub zero : z ≡ z'

pub same_sizes : (bytes : List ℕ) (b g r z b' g' r' z' : ℕ) → ReadSizes bytes b g r z → ReadSizes bytes b' g' r' z' → SameSizes b g r z b' g' r' z'
same_sizes bytes b g r z b' g' r' z' h k =
    let s1 = same_4 bytes h.r1 k.r1 b b' h.blocks_fit k.blocks_fit h.blocks_is k.blocks_is in
    let s2 = same_8 h.r1 h.r2 k.r2 g g' h.generation_fits k.generation_fits h.generation_is (s1.1 ∙ k.generation_is) in
    let s3 = same_4 h.r2 h.r3 k.r3 r r' h.ring_fits k.ring_fits h.ring_is (s2.1 ∙ k.ring_is) in
    let s4 = same_4 h.r3 h.r4 k.r4 z z' h.zero_fits k.zero_fits h.zero_is (s3.1 ∙ k.zero_is) in
    record { blocks = s1.0; generation = s2.0; ring = s3.0; zero = s4.0 }

pub record ReadCounters (bytes : List ℕ) (sequence chain base next_id next_store objects allocs zero : ℕ) : Type 0 where
  pub r1 : List ℕ
  pub r2 : List ℕ
  pub r3 : List ℕ
  pub r4 : List ℕ
  pub r5 : List ℕ
  pub r6 : List ℕ
  pub r7 : List ℕ
  pub r8 : List ℕ
  pub sequence_fits : sequence < 2 ^ 64
  pub chain_fits : chain < 2 ^ 64
  pub base_fits : base < 2 ^ 64
  pub next_id_fits : next_id < 2 ^ 64
  pub next_store_fits : next_store < 2 ^ 32
  pub objects_fit : objects < 2 ^ 32
  pub allocs_fit : allocs < 2 ^ 32
  pub zero_fits : zero < 2 ^ 32
  pub sequence_is : bytes ≡ little_bytes 8 sequence ++ r1
  pub chain_is : r1 ≡ little_bytes 8 chain ++ r2
  pub base_is : r2 ≡ little_bytes 8 base ++ r3
  pub next_id_is : r3 ≡ little_bytes 8 next_id ++ r4
  pub next_store_is : r4 ≡ little_bytes 4 next_store ++ r5
  pub objects_are : r5 ≡ little_bytes 4 objects ++ r6
  pub allocs_are : r6 ≡ little_bytes 4 allocs ++ r7
  pub zero_is : r7 ≡ little_bytes 4 zero ++ r8
  pub ends : length r8 ≡ 0

pub counters_made : (bytes : List ℕ) (s c b i t o a z : ℕ) → ReadCounters bytes s c b i t o a z → z ≡ 0 → AreCounters bytes s c b i t o a
unfolding counters
counters_made bytes s c b i t o a z h e =
    let last : h.r8 ≡ [] = nil_from_length h.r8 h.ends in
    let end : h.r7 ≡ little_bytes 4 0 ++ [] = h.zero_is ∙ ap (λ (n : ℕ). little_bytes 4 n ++ h.r8) e ∙ ap (λ (x : List ℕ). little_bytes 4 0 ++ x) last in
    let back : h.r4 ≡ little_bytes 4 t ++ (little_bytes 4 o ++ (little_bytes 4 a ++ (little_bytes 4 0 ++ []))) =
    four_pieces h.r4 h.r5 h.r6 h.r7 [] (little_bytes 4 t) (little_bytes 4 o) (little_bytes 4 a) (little_bytes 4 0) h.next_store_is h.objects_are h.allocs_are end in
    let front : bytes ≡ little_bytes 8 s ++ (little_bytes 8 c ++ (little_bytes 8 b ++ (little_bytes 8 i ++ h.r4))) =
    four_pieces bytes h.r1 h.r2 h.r3 h.r4 (little_bytes 8 s) (little_bytes 8 c) (little_bytes 8 b) (little_bytes 8 i) h.sequence_is h.chain_is h.base_is h.next_id_is in
    record {
      sequence_fits = h.sequence_fits;
      chain_fits = h.chain_fits;
      base_fits = h.base_fits;
      next_id_fits = h.next_id_fits;
      next_store_fits = h.next_store_fits;
      objects_fit = h.objects_fit;
      allocs_fit = h.allocs_fit;
      bytes_are = front ∙ ap (λ (r : List ℕ). little_bytes 8 s ++ (little_bytes 8 c ++ (little_bytes 8 b ++ (little_bytes 8 i ++ r)))) back;
    }

pub counters_read : (bytes : List ℕ) (s c b i t o a : ℕ) → AreCounters bytes s c b i t o a → ReadCounters bytes s c b i t o a 0
unfolding counters
counters_read bytes s c b i t o a h =
    let after_allocs : List ℕ = little_bytes 4 0 in
    let after_objects : List ℕ = little_bytes 4 a ++ after_allocs in
    let after_store : List ℕ = little_bytes 4 o ++ after_objects in
    let after_id : List ℕ = little_bytes 4 t ++ after_store in
    let after_base : List ℕ = little_bytes 8 i ++ after_id in
    let after_chain : List ℕ = little_bytes 8 b ++ after_base in
    record {
      r1 = little_bytes 8 c ++ after_chain;
      r2 = after_chain;
      r3 = after_base;
      r4 = after_id;
      r5 = after_store;
      r6 = after_objects;
      r7 = after_allocs;
      r8 = [];
      sequence_fits = h.sequence_fits;
      chain_fits = h.chain_fits;
      base_fits = h.base_fits;
      next_id_fits = h.next_id_fits;
      next_store_fits = h.next_store_fits;
      objects_fit = h.objects_fit;
      allocs_fit = h.allocs_fit;
      zero_fits = omega arith;
      sequence_is = h.bytes_are;
      chain_is = refl;
      base_is = refl;
      next_id_is = refl;
      next_store_is = refl;
      objects_are = refl;
      allocs_are = refl;
      zero_is = refl;
      ends = refl;
    }

pub record SameCounters (s c b i t o a z s' c' b' i' t' o' a' z' : ℕ) : Type 0 where
  pub sequence : s ≡ s'
  pub chain : c ≡ c'
  pub base : b ≡ b'
  pub next_id : i ≡ i'
  pub next_store : t ≡ t'
  pub objects : o ≡ o'
  pub allocs : a ≡ a'
  pub zero : z ≡ z'

pub same_counters : (bytes : List ℕ) (s c b i t o a z s' c' b' i' t' o' a' z' : ℕ) → ReadCounters bytes s c b i t o a z → ReadCounters bytes s' c' b' i' t' o' a' z' → SameCounters s c b i t o a z s' c' b' i' t' o' a' z'
same_counters bytes s c b i t o a z s' c' b' i' t' o' a' z' h k =
    let s1 = same_8 bytes h.r1 k.r1 s s' h.sequence_fits k.sequence_fits h.sequence_is k.sequence_is in
    let s2 = same_8 h.r1 h.r2 k.r2 c c' h.chain_fits k.chain_fits h.chain_is (s1.1 ∙ k.chain_is) in
    let s3 = same_8 h.r2 h.r3 k.r3 b b' h.base_fits k.base_fits h.base_is (s2.1 ∙ k.base_is) in
    let s4 = same_8 h.r3 h.r4 k.r4 i i' h.next_id_fits k.next_id_fits h.next_id_is (s3.1 ∙ k.next_id_is) in
    let s5 = same_4 h.r4 h.r5 k.r5 t t' h.next_store_fits k.next_store_fits h.next_store_is (s4.1 ∙ k.next_store_is) in
    let s6 = same_4 h.r5 h.r6 k.r6 o o' h.objects_fit k.objects_fit h.objects_are (s5.1 ∙ k.objects_are) in
    let s7 = same_4 h.r6 h.r7 k.r7 a a' h.allocs_fit k.allocs_fit h.allocs_are (s6.1 ∙ k.allocs_are) in
    let s8 = same_4 h.r7 h.r8 k.r8 z z' h.zero_fits k.zero_fits h.zero_is (s7.1 ∙ k.zero_is) in
    record { sequence = s1.0; chain = s2.0; base = s3.0; next_id = s4.0; next_store = s5.0; objects = s6.0; allocs = s7.0; zero = s8.0 }

-- one block of counters has one list of numbers
pub counters_of_one : (bytes : List ℕ) (s c b i t o a s' c' b' i' t' o' a' : ℕ) → AreCounters bytes s c b i t o a → AreCounters bytes s' c' b' i' t' o' a' → SameCounters s c b i t o a 0 s' c' b' i' t' o' a' 0
counters_of_one bytes s c b i t o a s' c' b' i' t' o' a' h k =
    same_counters bytes s c b i t o a 0 s' c' b' i' t' o' a' 0 (counters_read bytes s c b i t o a h) (counters_read bytes s' c' b' i' t' o' a' k)
