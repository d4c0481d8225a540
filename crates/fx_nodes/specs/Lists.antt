-- What stands in a list, and what stands in it twice.
use Rattle.std.specs.Prelude.{◌≡◌, ◌⊎◌, List, [], ◌∷◌}

abbrev pub IsIn : {X : Type 0} → List X → X → Type 0
IsIn [] x = ⊥
IsIn (y ∷ ys) x = (y ≡ x) ⊎ IsIn ys x

-- at two places or more
abbrev pub IsRepeated : {X : Type 0} → List X → X → Type 0
IsRepeated [] x = ⊥
IsRepeated (y ∷ ys) x = ((y ≡ x) × IsIn ys x) ⊎ IsRepeated ys x
