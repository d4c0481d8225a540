-- What the tests of names and of bytes tell of lists of them.
use Rattle.std.proofs.Common.{◌≡◌, ℕ, suc, ◌<◌, true, List, [], ◌∷◌, get_or, refl}
use Rattle.std.specs.List.{AllByRecursion, list_all}
use Rattle.std.proofs.lemmas.Bool.{and_parts}
use Rattle.fx_item.specs.Name.{is_name}

pub names_tested : (names : List (List ℕ)) → list_all is_name names ≡ true → AllByRecursion (λ name. is_name name ≡ true) names
names_tested [] e = tt
names_tested (name ∷ names) e = let parts = and_parts (is_name name) (list_all is_name names) e in (parts.0, names_tested names parts.1)

pub tested_names : (names : List (List ℕ)) → AllByRecursion (λ name. is_name name ≡ true) names → list_all is_name names ≡ true
tested_names [] all = refl
tested_names (name ∷ names) (one, rest) = rw one (tested_names names rest)

pub below_256 : (bytes : List ℕ) → ((i : ℕ) → get_or bytes i 0 < 256) → AllByRecursion (λ b. b < 256) bytes
below_256 [] low = tt
below_256 (b ∷ bytes) low = (low 0, below_256 bytes (λ i. low (suc i)))
