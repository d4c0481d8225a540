-- A superblock taken apart: what stands after the version, the body and the block.
use Rattle.std.proofs.Common.{◌≡◌, ℕ, ◌^◌, ◌<◌, ◌≤◌, inl, inr, List, [], ◌++◌, length, take, drop, refl, sym, ap, ◌∙◌, arith, length-append, take-append-drop}
use Rattle.std.specs.Prelude.{All}
use Rattle.std.proofs.lemmas.List.{drop-drop, take_at, drop_at, get_or_past}
use Rattle.std.proofs.lemmas.Bool.{cases_lt}
use Rattle.byteorder.specs.Endian.{little_bytes, little_number}
use Rattle.byteorder.specs.Numbers.{little_number-reads_back}
use Rattle.fx_sum.specs.Checksum.{fletch}
use Rattle.fx_sum.proofs.Fits.{fletch_fits}
use Rattle.fx_super.specs.Layers.{layer_bytes}
use Rattle.fx_super.specs.declared.superblock.TheConstants.{MAGIC}
use Rattle.fx_super.specs.Super.{Fields, KeepsRules, IsAfterVersion, IsLayer, IsSuper, sizes, counters, super_padding, after_version, super_body, super_block}
use Rattle.fx_super.proofs.Lists.{length-layer_bytes, same_list, EachFits}
use Rattle.fx_base.proofs.Bytes.{reads_4, reads_8, same_8}
use Rattle.fx_super.proofs.Parts.{sizes_read, counters_read, same_sizes, same_counters}

-- The parts of what stands after the version, by their places.
record Cut (bytes a b c d e : List ℕ) : Type 0 where
  first : take 20 bytes ≡ a
  second : take 48 (drop 20 bytes) ≡ b
  third : take 128 (drop 68 bytes) ≡ c
  fourth : take 128 (drop 196 bytes) ≡ d
  last : drop 324 bytes ≡ e

cut : (bytes a b c d e : List ℕ) → length a ≡ 20 → length b ≡ 48 → length c ≡ 128 → length d ≡ 128 → bytes ≡ a ++ (b ++ (c ++ (d ++ e))) → Cut bytes a b c d e
cut bytes a b c d e la lb lc ld h =
    let d1 : drop 20 bytes ≡ b ++ (c ++ (d ++ e)) = ap (drop 20) h ∙ drop_at a (b ++ (c ++ (d ++ e))) 20 la in
    let d2 : drop 68 bytes ≡ c ++ (d ++ e) = sym (drop-drop 48 20 bytes) ∙ ap (drop 48) d1 ∙ drop_at b (c ++ (d ++ e)) 48 lb in
    let d3 : drop 196 bytes ≡ d ++ e = sym (drop-drop 128 68 bytes) ∙ ap (drop 128) d2 ∙ drop_at c (d ++ e) 128 lc in
    let d4 : drop 324 bytes ≡ e = sym (drop-drop 128 196 bytes) ∙ ap (drop 128) d3 ∙ drop_at d e 128 ld in
    record {
      first = ap (take 20) h ∙ take_at a (b ++ (c ++ (d ++ e))) 20 la;
      second = ap (take 48) d1 ∙ take_at b (c ++ (d ++ e)) 48 lb;
      third = ap (take 128) d2 ∙ take_at c (d ++ e) 128 lc;
      fourth = ap (take 128) d3 ∙ take_at d e 128 ld;
      last = d4;
    }

glued : (bytes a b c d e : List ℕ) → Cut bytes a b c d e → bytes ≡ a ++ (b ++ (c ++ (d ++ e)))
glued bytes a b c d e h =
    let j4 : drop 196 bytes ≡ d ++ e = sym (take-append-drop 128 (drop 196 bytes)) ∙ ap (λ (x : List ℕ). take 128 (drop 196 bytes) ++ x) (drop-drop 128 196 bytes ∙ h.last) ∙ ap (λ (x : List ℕ). x ++ e) h.fourth in
    let j3 : drop 68 bytes ≡ c ++ (d ++ e) = sym (take-append-drop 128 (drop 68 bytes)) ∙ ap (λ (x : List ℕ). take 128 (drop 68 bytes) ++ x) (drop-drop 128 68 bytes ∙ j4) ∙ ap (λ (x : List ℕ). x ++ (d ++ e)) h.third in
    let j2 : drop 20 bytes ≡ b ++ (c ++ (d ++ e)) = sym (take-append-drop 48 (drop 20 bytes)) ∙ ap (λ (x : List ℕ). take 48 (drop 20 bytes) ++ x) (drop-drop 48 20 bytes ∙ j3) ∙ ap (λ (x : List ℕ). x ++ (c ++ (d ++ e))) h.second in
    sym (take-append-drop 20 bytes) ∙ ap (λ (x : List ℕ). take 20 bytes ++ x) j2 ∙ ap (λ (x : List ℕ). x ++ (b ++ (c ++ (d ++ e)))) h.first

length-sizes : (b g r : ℕ) → length (sizes b g r) ≡ 20
unfolding sizes
length-sizes b g r = refl

length-counters : (s c b i t o a : ℕ) → length (counters s c b i t o a) ≡ 48
unfolding counters
length-counters s c b i t o a = refl

length-padding : length super_padding ≡ 3744
unfolding super_padding
length-padding = refl

abbrev sizes_in : Fields → List ℕ
sizes_in f = sizes f.blocks f.generation f.ring

abbrev counters_in : Fields → List ℕ
counters_in f = counters f.sequence f.chain f.base f.next_id f.next_store (length f.objects) (length f.allocs)

abbrev tail_of : Fields → List ℕ
tail_of f = little_bytes 8 f.floor ++ super_padding

pub after_made : (bytes : List ℕ) (f : Fields) → IsAfterVersion bytes f → bytes ≡ after_version f
unfolding after_version
after_made bytes f h =
    glued bytes (sizes_in f) (counters_in f) (layer_bytes f.objects) (layer_bytes f.allocs) (tail_of f) (record {
      first = h.sizes_are.bytes_are;
      second = h.counters_are.bytes_are;
      third = h.objects_are.bytes_are;
      fourth = h.allocs_are.bytes_are;
      last = h.tail_is;
    })

-- each field of a list of layers fits four bytes
layers_fit : (f : Fields) (list : List ℕ) → f.blocks < 2 ^ 32 → All (IsLayer f) list → EachFits list
layers_fit f list h k i =
    elim (cases_lt i (length list)) [
      | inl lt ↦ (let on = (k i 0 lt).on_device in omega arith)
      | inr le ↦ rw (get_or_past list i 0 le) (omega arith)
    ]

pub after_parts : (bytes : List ℕ) (f : Fields) → KeepsRules f → bytes ≡ after_version f → IsAfterVersion bytes f
unfolding after_version
after_parts bytes f k e =
    let blocks_fit : f.blocks < 2 ^ 32 = omega (arith, k.blocks_most) in
    let p = cut bytes (sizes_in f) (counters_in f) (layer_bytes f.objects) (layer_bytes f.allocs) (tail_of f) (length-sizes f.blocks f.generation f.ring) (length-counters f.sequence f.chain f.base f.next_id f.next_store (length f.objects) (length f.allocs)) (length-layer_bytes f.objects k.objects_most) (length-layer_bytes f.allocs k.allocs_most) e in
    record {
      sizes_are = record { blocks_fit = blocks_fit; generation_fits = omega (arith, k.generation_most); ring_fits = omega (arith, k.ring_most); bytes_are = p.first };
      counters_are = record {
        sequence_fits = omega (arith, k.sequence_below);
        chain_fits = k.chain_fits;
        base_fits = omega (arith, k.base_below);
        next_id_fits = omega (arith, k.next_id_most);
        next_store_fits = omega (arith, k.next_store_most);
        objects_fit = omega (arith, k.objects_most);
        allocs_fit = omega (arith, k.allocs_most);
        bytes_are = p.second;
      };
      objects_are = record { count_is = refl; count_fits = k.objects_most; each_fits = layers_fit f f.objects blocks_fit k.objects_are; bytes_are = p.third };
      allocs_are = record { count_is = refl; count_fits = k.allocs_most; each_fits = layers_fit f f.allocs blocks_fit k.allocs_are; bytes_are = p.fourth };
      floor_fits = omega (arith, k.floor_most, k.generation_most);
      tail_is = p.last;
    }

-- fields with the same numbers and lists are the same
same_records : (f g : Fields) → f.version ≡ g.version → f.blocks ≡ g.blocks → f.generation ≡ g.generation → f.ring ≡ g.ring → f.sequence ≡ g.sequence → f.chain ≡ g.chain → f.base ≡ g.base → f.next_id ≡ g.next_id → f.next_store ≡ g.next_store → f.objects ≡ g.objects → f.allocs ≡ g.allocs → f.floor ≡ g.floor → f ≡ g
same_records f g v b n r s c a d t o l e i = record { version = v i; blocks = b i; generation = n i; ring = r i; sequence = s i; chain = c i; base = a i; next_id = d i; next_store = t i; objects = o i; allocs = l i; floor = e i }

-- the same bytes after the version are of the same fields
pub same_after : (bytes : List ℕ) (f g : Fields) → f.version ≡ g.version → IsAfterVersion bytes f → IsAfterVersion bytes g → f ≡ g
same_after bytes f g v h k =
    let s = same_sizes (take 20 bytes) f.blocks f.generation f.ring 0 g.blocks g.generation g.ring 0 (sizes_read (take 20 bytes) f.blocks f.generation f.ring h.sizes_are) (sizes_read (take 20 bytes) g.blocks g.generation g.ring k.sizes_are) in
    let part = take 48 (drop 20 bytes) in
    let c = same_counters part f.sequence f.chain f.base f.next_id f.next_store (length f.objects) (length f.allocs) 0 g.sequence g.chain g.base g.next_id g.next_store (length g.objects) (length g.allocs) 0 (counters_read part f.sequence f.chain f.base f.next_id f.next_store (length f.objects) (length f.allocs) h.counters_are) (counters_read part g.sequence g.chain g.base g.next_id g.next_store (length g.objects) (length g.allocs) k.counters_are) in
    let objects = same_list (take 128 (drop 68 bytes)) (length f.objects) (length g.objects) f.objects g.objects c.objects h.objects_are k.objects_are in
    let allocs = same_list (take 128 (drop 196 bytes)) (length f.allocs) (length g.allocs) f.allocs g.allocs c.allocs h.allocs_are k.allocs_are in
    let floor = same_8 (drop 324 bytes) super_padding super_padding f.floor g.floor h.floor_fits k.floor_fits h.tail_is k.tail_is in
    same_records f g v s.blocks s.generation s.ring c.sequence c.chain c.base c.next_id c.next_store objects allocs floor.0

pub length-after_version : (f : Fields) → length f.objects ≤ 32 → length f.allocs ≤ 32 → length (after_version f) ≡ 4076
unfolding after_version
length-after_version f o a =
    let e4 = length-append (layer_bytes f.allocs) (tail_of f) in
    let e3 = length-append (layer_bytes f.objects) (layer_bytes f.allocs ++ tail_of f) in
    let e2 = length-append (counters_in f) (layer_bytes f.objects ++ (layer_bytes f.allocs ++ tail_of f)) in
    let e1 = length-append (sizes_in f) (counters_in f ++ (layer_bytes f.objects ++ (layer_bytes f.allocs ++ tail_of f))) in
    let tail_len : length (tail_of f) ≡ 3752 = omega (arith, length-append (little_bytes 8 f.floor) super_padding, length-padding) in
    omega (arith, e1, e2, e3, e4, tail_len, length-layer_bytes f.objects o, length-layer_bytes f.allocs a, length-sizes f.blocks f.generation f.ring, length-counters f.sequence f.chain f.base f.next_id f.next_store (length f.objects) (length f.allocs))

pub length-super_body : (f : Fields) → length f.objects ≤ 32 → length f.allocs ≤ 32 → length (super_body f) ≡ 4088
unfolding super_body
length-super_body f o a = omega (arith, length-after_version f o a)

-- What a superblock's bytes are, by their places.
pub record Stands (block : List ℕ) (f : Fields) : Type 0 where
  pub long : length block ≡ 4096
  pub body_is : take 4088 block ≡ super_body f
  pub sum_is : little_number 8 (drop 4088 block) ≡ fletch 0 (take 4088 block)
  pub magic_is : little_number 8 block ≡ MAGIC
  pub version_is : little_number 4 (drop 8 block) ≡ f.version
  pub after_is : drop 12 (take 4088 block) ≡ after_version f

pub stands : (block : List ℕ) (f : Fields) → IsSuper block f → Stands block f
unfolding super_block super_body
stands block f h =
    let sum = fletch 0 (super_body f) in
    let len = length-super_body f h.rules.objects_most h.rules.allocs_most in
    let body_is : take 4088 block ≡ super_body f = ap (take 4088) h.bytes_are ∙ take_at (super_body f) (little_bytes 8 sum) 4088 len in
    let back : drop 4088 block ≡ little_bytes 8 sum = ap (drop 4088) h.bytes_are ∙ drop_at (super_body f) (little_bytes 8 sum) 4088 len in
    let version_fits : f.version < 2 ^ 32 = omega (arith, h.rules.version_is) in
    record {
      long = omega (arith, ap length h.bytes_are, length-append (super_body f) (little_bytes 8 sum), len);
      body_is = body_is;
      sum_is = ap (little_number 8) back ∙ little_number-reads_back 8 sum [] (fletch_fits 0 (super_body f) (omega arith)) ∙ ap (fletch 0) (sym body_is);
      magic_is = reads_8 block ((little_bytes 4 f.version ++ after_version f) ++ little_bytes 8 sum) MAGIC (omega arith) h.bytes_are;
      version_is = reads_4 (drop 8 block) (after_version f ++ little_bytes 8 sum) f.version version_fits (ap (drop 8) h.bytes_are);
      after_is = ap (drop 12) body_is;
    }
