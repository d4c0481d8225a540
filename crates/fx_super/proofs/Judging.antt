-- What is said of a block, from what was read of it.
use Rattle.std.proofs.Common.{◌≡◌, ℕ, ◌^◌, ◌<◌, List, ◌++◌, length, take, drop, replicate, refl, sym, ap, subst, ◌∙◌, arith, length-take, length-drop, take-append-drop}
use Rattle.std.specs.Prelude.{Result, Ok, Err, IsOkAnd}
use Rattle.std.proofs.lemmas.List.{drop-drop, drop-take, take_all}
use Rattle.byteorder.specs.Endian.{little_bytes, little_number}
use Rattle.byteorder.specs.Numbers.{little_from-take}
use Rattle.fx_sum.specs.Checksum.{fletch}
use Rattle.fx_super.specs.declared.superblock.TheConstants.{MAGIC}
use Rattle.fx_super.specs.declared.superblock.Super.{Super}
use Rattle.fx_super.specs.declared.decode.SuperFault.{SuperFault}
use Rattle.fx_super.specs.declared.decode.SuperFault.TheVariants.{Bad, Version}
use Rattle.fx_super.specs.Layers.{HoldsLayers}
use Rattle.fx_super.specs.Super.{Fields, KeepsRules, AreSizes, AreCounters, IsAfterVersion, IsSuper, IsVersion, Decoded, fields_of, super_padding, after_version, super_body, super_block}
use Rattle.fx_base.proofs.Bytes.{IsBytes, IsBytes-drop, IsBytes-take, wide4, wide8, same_8}
use Rattle.fx_super.proofs.Blocks.{stands, after_made, after_parts, same_after}
use Rattle.fx_super.proofs.Chosen.{one_fields, no_other_version}

-- What was read of a block: the sum, the magic, the version, and the bytes after it.
pub record Looked (block : List ℕ) (stated sum magic version : ℕ) (after : List ℕ) : Type 0 where
  pub stated_is : stated ≡ little_number 8 (drop 4088 block)
  pub sum_is : sum ≡ fletch 0 (take 4088 block)
  pub magic_is : magic ≡ little_number 8 block
  pub version_is : version ≡ little_number 4 (drop 8 block)
  pub after_is : after ≡ drop 12 (take 4088 block)

-- the numbers at the front are those of the block
pub magic_in_front : (block : List ℕ) → little_number 8 (take 4088 block) ≡ little_number 8 block
magic_in_front block = little_from-take 0 8 4088 block (omega arith)

pub version_in_front : (block : List ℕ) → little_number 4 (drop 8 (take 4088 block)) ≡ little_number 4 (drop 8 block)
version_in_front block = ap (little_number 4) (drop-take 8 4080 block) ∙ little_from-take 0 4 4080 (drop 8 block) (omega arith)

-- The block is no superblock of any version.
abbrev pub IsNone : List ℕ → Type 0
IsNone block = ((f : Fields) → IsSuper block f → ⊥) × ((v : ℕ) → IsVersion block v → ⊥)

pub wrong_sum : (block : List ℕ) (stated sum : ℕ) → stated ≡ little_number 8 (drop 4088 block) → sum ≡ fletch 0 (take 4088 block) → (stated ≡ sum → ⊥) → IsNone block
wrong_sum block stated sum e d wrong =
    (λ f h. wrong (e ∙ (stands block f h).sum_is ∙ sym d), λ v h. wrong (e ∙ h.sum_is ∙ sym d))

pub wrong_magic : (block : List ℕ) (magic : ℕ) → magic ≡ little_number 8 block → (magic ≡ MAGIC → ⊥) → IsNone block
wrong_magic block magic e wrong =
    (λ f h. wrong (e ∙ (stands block f h).magic_is), λ v h. wrong (e ∙ h.magic_is))

pub other_version : (block : List ℕ) (stated sum magic version : ℕ) (after : List ℕ) → Looked block stated sum magic version after → stated ≡ sum → magic ≡ MAGIC → (version ≡ 1 → ⊥) → IsVersion block version
other_version block stated sum magic version after l right same other =
    record { magic_is = sym l.magic_is ∙ same; sum_is = sym l.stated_is ∙ right ∙ l.sum_is; version_is = sym l.version_is; is_other = other }

-- version 1, so that it is none of another version
none_other : (block : List ℕ) (version : ℕ) → version ≡ little_number 4 (drop 8 block) → version ≡ 1 → (v : ℕ) → IsVersion block v → ⊥
none_other block version e one v h = h.is_other (sym h.version_is ∙ sym e ∙ one)

after_of : (block : List ℕ) (stated sum magic version : ℕ) (after : List ℕ) (f : Fields) → Looked block stated sum magic version after → IsSuper block f → IsAfterVersion after f
after_of block stated sum magic version after f l h = after_parts after f h.rules (l.after_is ∙ (stands block f h).after_is)

pub no_fields : (block : List ℕ) (stated sum magic version : ℕ) (after : List ℕ) → Looked block stated sum magic version after → version ≡ 1 → ((f : Fields) → IsAfterVersion after f → ⊥) → IsNone block
no_fields block stated sum magic version after l one none =
    (λ f h. none f (after_of block stated sum magic version after f l h), none_other block version l.version_is one)

pub no_rules : (block : List ℕ) (stated sum magic version : ℕ) (after : List ℕ) (g : Fields) → Looked block stated sum magic version after → version ≡ 1 → g.version ≡ 1 → IsAfterVersion after g → (KeepsRules g → ⊥) → IsNone block
no_rules block stated sum magic version after g l one first made broken =
    (λ f h. broken (subst KeepsRules (same_after after f g (h.rules.version_is ∙ sym first) (after_of block stated sum magic version after f l h) made) h.rules), none_other block version l.version_is one)

-- the parts of a block make a superblock
pub block_made : (block : List ℕ) (stated sum magic version : ℕ) (after : List ℕ) (f : Fields) → length block ≡ 4096 → IsBytes block → Looked block stated sum magic version after → stated ≡ sum → magic ≡ MAGIC → version ≡ f.version → IsAfterVersion after f → KeepsRules f → IsSuper block f
unfolding super_block super_body
block_made block stated sum magic version after f len fits l right same one made rules =
    let body = take 4088 block in
    let end = drop 4088 block in
    let body_len : length body ≡ 4088 = omega (arith, length-take 4088 block) in
    let end_len : length end ≡ 8 = omega (arith, length-drop 4088 block) in
    let body_fits : IsBytes body = IsBytes-take 4088 block fits in
    let first : take 8 body ≡ little_bytes 8 MAGIC = sym (wide8.stands body (omega arith) body_fits) ∙ ap (little_bytes 8) (magic_in_front block ∙ sym l.magic_is ∙ same) in
    let second : take 4 (drop 8 body) ≡ little_bytes 4 f.version = sym (wide4.stands (drop 8 body) (omega (arith, length-drop 8 body)) (IsBytes-drop 8 body body_fits)) ∙ ap (little_bytes 4) (version_in_front block ∙ sym l.version_is ∙ one) in
    let third : drop 4 (drop 8 body) ≡ after_version f = drop-drop 4 8 body ∙ sym l.after_is ∙ after_made after f made in
    let later : drop 8 body ≡ little_bytes 4 f.version ++ after_version f = sym (take-append-drop 4 (drop 8 body)) ∙ ap (λ (x : List ℕ). take 4 (drop 8 body) ++ x) third ∙ ap (λ (x : List ℕ). x ++ after_version f) second in
    let body_is : body ≡ super_body f = sym (take-append-drop 8 body) ∙ ap (λ (x : List ℕ). take 8 body ++ x) later ∙ ap (λ (x : List ℕ). x ++ (little_bytes 4 f.version ++ after_version f)) first in
    let end_is : end ≡ little_bytes 8 (fletch 0 (super_body f)) = sym (wide8.stands end (omega arith) (IsBytes-drop 4088 block fits) ∙ take_all 8 end (omega arith)) ∙ ap (little_bytes 8) (sym l.stated_is ∙ right ∙ l.sum_is ∙ ap (fletch 0) body_is) in
    record {
      rules = rules;
      bytes_are = sym (take-append-drop 4088 block) ∙ ap (λ (x : List ℕ). x ++ end) body_is ∙ ap (λ (x : List ℕ). super_body f ++ x) end_is;
    }

-- what is said of a superblock, and of one of another version
pub decoded_super : (block : List ℕ) (r : Result Super SuperFault) (f : Fields) → Decoded block r → IsSuper block f → IsOkAnd r (λ s. fields_of s ≡ f)
decoded_super block (Ok s) f d h = one_fields block (fields_of s) f d h
decoded_super block (Err (Version v)) f d h = absurd (no_other_version block f v h d)
decoded_super block (Err Bad) f d h = absurd (d.0 f h)

pub decoded_version : (block : List ℕ) (r : Result Super SuperFault) (v : ℕ) → Decoded block r → IsVersion block v → r ≡ Err (Version v)
decoded_version block (Ok s) v d h = absurd (no_other_version block (fields_of s) v d h)
decoded_version block (Err (Version w)) v d h = ap (λ (n : ℕ). Err (Version n)) (sym d.version_is ∙ h.version_is)
decoded_version block (Err Bad) v d h = absurd (d.1 v h)

-- The bytes after the version, cut at the places of the parts.
pub record CutUp (bytes sizes counters objects allocs tail : List ℕ) : Type 0 where
  pub sizes_are : sizes ≡ take 20 bytes
  pub counters_are : counters ≡ take 48 (drop 20 bytes)
  pub objects_are : objects ≡ take 128 (drop 68 bytes)
  pub allocs_are : allocs ≡ take 128 (drop 196 bytes)
  pub tail_is : tail ≡ drop 324 bytes

pub cut_up : (bytes r1 r2 r3 sizes counters objects allocs tail : List ℕ) → sizes ≡ take 20 bytes → r1 ≡ drop 20 bytes → counters ≡ take 48 r1 → r2 ≡ drop 48 r1 → objects ≡ take 128 r2 → r3 ≡ drop 128 r2 → allocs ≡ take 128 r3 → tail ≡ drop 128 r3 → CutUp bytes sizes counters objects allocs tail
cut_up bytes r1 r2 r3 sizes counters objects allocs tail s e1 c e2 o e3 a t =
    let d2 : r2 ≡ drop 68 bytes = e2 ∙ ap (drop 48) e1 ∙ drop-drop 48 20 bytes in
    let d3 : r3 ≡ drop 196 bytes = e3 ∙ ap (drop 128) d2 ∙ drop-drop 128 68 bytes in
    record {
      sizes_are = s;
      counters_are = c ∙ ap (take 48) e1;
      objects_are = o ∙ ap (take 128) d2;
      allocs_are = a ∙ ap (take 128) d3;
      tail_is = t ∙ ap (drop 128) d3 ∙ drop-drop 128 196 bytes;
    }

-- the zeros after the floor
padding_is : super_padding ≡ replicate 3744 0
unfolding super_padding
padding_is = refl

abbrev AreZero : List ℕ → Type 0
AreZero xs = xs ≡ replicate (length xs) 0

pub zeros_are_padding : (tail zeros : List ℕ) (floor : ℕ) → length zeros ≡ 3744 → tail ≡ little_bytes 8 floor ++ zeros → AreZero zeros → tail ≡ little_bytes 8 floor ++ super_padding
zeros_are_padding tail zeros floor len e zero =
    e ∙ ap (λ (x : List ℕ). little_bytes 8 floor ++ x) (zero ∙ ap (λ (n : ℕ). replicate n 0) len ∙ sym padding_is)

pub padding_is_zero : (tail zeros : List ℕ) (floor : ℕ) (f : Fields) → floor < 2 ^ 64 → f.floor < 2 ^ 64 → length zeros ≡ 3744 → tail ≡ little_bytes 8 floor ++ zeros → tail ≡ little_bytes 8 f.floor ++ super_padding → AreZero zeros
padding_is_zero tail zeros floor f fits f_fits len e d =
    (same_8 tail zeros super_padding floor f.floor fits f_fits e d).1 ∙ padding_is ∙ ap (λ (n : ℕ). replicate n 0) (sym len)

-- the parts that were read, at their places
pub sizes_here : (bytes part : List ℕ) (b g r : ℕ) → part ≡ take 20 bytes → AreSizes part b g r → AreSizes (take 20 bytes) b g r
sizes_here bytes part b g r e h = subst (λ (x : List ℕ). AreSizes x b g r) e h

pub counted_there : (bytes counters : List ℕ) (f : Fields) → counters ≡ take 48 (drop 20 bytes) → IsAfterVersion bytes f → AreCounters counters f.sequence f.chain f.base f.next_id f.next_store (length f.objects) (length f.allocs)
counted_there bytes counters f e h =
    subst (λ (x : List ℕ). AreCounters x f.sequence f.chain f.base f.next_id f.next_store (length f.objects) (length f.allocs)) (sym e) h.counters_are

pub counted_here : (bytes counters : List ℕ) (s c b i t o a o' a' : ℕ) → counters ≡ take 48 (drop 20 bytes) → o ≡ o' → a ≡ a' → AreCounters counters s c b i t o a → AreCounters (take 48 (drop 20 bytes)) s c b i t o' a'
counted_here bytes counters s c b i t o a o' a' e p q h =
    let moved = subst (λ (x : List ℕ). AreCounters x s c b i t o a) e h in
    let first = subst (λ (n : ℕ). AreCounters (take 48 (drop 20 bytes)) s c b i t n a) p moved in
    subst (λ (n : ℕ). AreCounters (take 48 (drop 20 bytes)) s c b i t o' n) q first

pub listed_there : (part there : List ℕ) (count : ℕ) (list : List ℕ) → part ≡ there → length list ≡ count → HoldsLayers there (length list) list → HoldsLayers part count list
listed_there part there count list e n h =
    record { count_is = n; count_fits = omega (arith, h.count_fits); each_fits = h.each_fits; bytes_are = e ∙ h.bytes_are }

pub listed_here : (part there : List ℕ) (count : ℕ) (list : List ℕ) → part ≡ there → HoldsLayers part count list → HoldsLayers there (length list) list
listed_here part there count list e h =
    record { count_is = refl; count_fits = omega (arith, h.count_is, h.count_fits); each_fits = h.each_fits; bytes_are = sym e ∙ h.bytes_are }
