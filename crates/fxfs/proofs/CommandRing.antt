-- What the words of `mkfs` tell of its ring.
use Rattle.std.proofs.Common.{◌≡◌, ℕ, ◌<◌, ◌≤◌, ◌^◌, ◌&&◌, Bool, true, false, List, [], ◌∷◌, refl, arith, length}
use Rattle.std.specs.Prelude.{Option, Some, None, nat_le, nat_lt, nat_eq, take, drop, codes, if◌then◌else◌}
use Rattle.std.specs.Cmp.Lexicographic.{pointwise}
use Rattle.std.specs.Str.{bytes_eq}
use Rattle.std.specs.Str.Parse.{digits_value}
use Rattle.std.proofs.lemmas.Bool.{leb-true, and_parts}
use Rattle.std.specs.Prelude.{Result, Err}
use Rattle.std.specs.List.{list_all}
use Rattle.std.specs.Char.{is_ascii_digit}
use Rattle.std.specs.Str.Parse.{ParsesUnsigned}
use Rattle.std.proofs.lemmas.Bool.{ltb-true}
use Rattle.std.proofs.lemmas.Result.{OkIff-at_err}
use Rattle.std.proofs.lemmas.Str.Parse.{parse_digits}
use Rattle.fx_script.proofs.Numbers.{are_digits, own}
use Rattle.fxfs.specs.declared.command.Command.{Command}
use Rattle.fxfs.specs.declared.command.Command.TheVariants.{Mkfs}
use Rattle.fx_super.specs.declared.superblock.TheConstants.{MIN_RING, MAX_RING}
use Rattle.fxfs.specs.declared.command.TheConstants.{MOST_DIGITS}
use Rattle.fxfs.specs.Command.{is_count, is_ring, mkfs_with, mkfs_of, shell_of, command_of}

pub record IsRing (ring : ℕ) : Type 0 where
  pub least : 256 ≤ ring
  pub most : ring ≤ 1024

is_ring_parts : (ring : ℕ) → is_ring ring ≡ true → IsRing ring
is_ring_parts ring h =
    let parts = and_parts (nat_le MIN_RING ring) (nat_le ring MAX_RING) h in
    record { least = leb-true MIN_RING ring parts.0; most = leb-true ring MAX_RING parts.1 }

-- a test that gives a value was true
if_some : (b : Bool) (value : ℕ) (ring : ℕ) → (if b then Some (Mkfs value) else None) ≡ Some (Mkfs ring) → (b ≡ true) × (value ≡ ring)
if_some true value ring e = (refl, cc)
if_some false value ring e = absurd (cc)

with_ring : (word : List ℕ) (ring : ℕ) → mkfs_with word ≡ Some (Mkfs ring) → IsRing ring
with_ring word ring e =
    let told = if_some (is_count word && is_ring (digits_value 10 word)) (digits_value 10 word) ring e in
    let test = and_parts (is_count word) (is_ring (digits_value 10 word)) told.0 in
    let r = is_ring_parts (digits_value 10 word) test.1 in
    record { least = omega (arith, r.least, told.1); most = omega (arith, r.most, told.1) }

when_some : (b : Bool) (o : Option Command) (ring : ℕ) → (o ≡ Some (Mkfs ring) → IsRing ring) → (if b then o else None) ≡ Some (Mkfs ring) → IsRing ring
when_some true o ring h e = h e
when_some false o ring h e = absurd (cc)

after_mkfs : (options : List (List ℕ)) (ring : ℕ) → mkfs_of options ≡ Some (Mkfs ring) → IsRing ring
after_mkfs [] ring e = let same : 256 ≡ ring = cc in record { least = omega arith; most = omega arith }
after_mkfs (option ∷ []) ring e = when_some (pointwise nat_eq (take 10 option) (codes "--journal=")) (mkfs_with (drop 10 option)) ring (with_ring (drop 10 option) ring) e
after_mkfs (option ∷ number ∷ []) ring e = when_some (bytes_eq option (codes "--journal")) (mkfs_with number) ring (with_ring number ring) e
after_mkfs (option ∷ number ∷ word ∷ words) ring e = absurd (cc)

not_shell : (options : List (List ℕ)) (ring : ℕ) → shell_of options ≡ Some (Mkfs ring) → IsRing ring
not_shell [] ring e = absurd (cc)
not_shell (word ∷ words) ring e = absurd (cc)

either_word : (a b : Bool) (options : List (List ℕ)) (ring : ℕ) → (if a then shell_of options else if b then mkfs_of options else None) ≡ Some (Mkfs ring) → IsRing ring
either_word true b options ring e = not_shell options ring e
either_word false b options ring e = when_some b (mkfs_of options) ring (after_mkfs options ring) e

-- the ring of `mkfs` has 256 to 1,024 blocks
pub ring_of_command : (words : List (List ℕ)) (ring : ℕ) → command_of words ≡ Some (Mkfs ring) → IsRing ring
ring_of_command [] ring e = absurd (cc)
ring_of_command (word ∷ options) ring e = either_word (bytes_eq word (codes "shell")) (bytes_eq word (codes "mkfs")) options ring e

-- what `is_count` tells
pub record IsCount (word : List ℕ) : Type 0 where
  pub some : 0 < length word
  pub digits : are_digits word ≡ true

pub IsCount-from_test : (word : List ℕ) → is_count word ≡ true → IsCount word
IsCount-from_test word h =
    let parts = and_parts (nat_lt 0 (length word) && nat_le (length word) MOST_DIGITS) (list_all is_ascii_digit word) h in
    let first = and_parts (nat_lt 0 (length word)) (nat_le (length word) MOST_DIGITS) parts.0 in
    record { some = ltb-true 0 (length word) first.0; digits = parts.1 }

by_test : (t : Bool) → (t ≡ true → ⊥) → t ≡ false
by_test true no_way = absurd (no_way refl)
by_test false no_way = refl

none_at : (a b : Bool) (o : Option Command) → b ≡ false → None ≡ (if a && b then o else None)
none_at true b o e = cc
none_at false b o e = refl

-- digits of a number that is too large
pub too_large : {E : Type 0} (word : List ℕ) (read : Result ℕ E) (error : E) → is_count word ≡ true → ParsesUnsigned 32 10 word read → read ≡ Err error → None ≡ mkfs_with word
too_large word read error h parsed is =
    let d = IsCount-from_test word h in
    let none = OkIff-at_err read ((0 < length word) × (digits_value 10 word < 2 ^ 32)) (digits_value 10 word) error (parse_digits own 32 word read parsed d.digits) is in
    let large : is_ring (digits_value 10 word) ≡ false = by_test (is_ring (digits_value 10 word)) (λ e. none (d.some, omega (arith, (is_ring_parts (digits_value 10 word) e).most))) in
    none_at (is_count word) (is_ring (digits_value 10 word)) (Some (Mkfs (digits_value 10 word))) large
