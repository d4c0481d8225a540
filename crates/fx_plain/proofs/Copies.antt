-- A list of clones that are equal is equal.
use Rattle.std.proofs.Common.{◌≡◌, List, [], ◌∷◌, refl}
use Rattle.std.specs.Prelude.{Result, Ok, Err, IfOk, MatchResult}
use Rattle.std.specs.List.{AllZip}

same_list : {X : Type 0} (xs ys : List X) → AllZip (λ x y. y ≡ x) xs ys → ys ≡ xs
same_list [] [] h = refl
same_list [] (y ∷ ys) h = absurd h
same_list (x ∷ xs) [] h = absurd h
same_list (x ∷ xs) (y ∷ ys) h = λ i. h.0 i ∷ same_list xs ys h.1 i

pub same_copy : {X E : Type 0} (Q : E → Type 0) (copied : Result (List X) E) (xs : List X) → MatchResult copied (λ ys. AllZip (λ x y. y ≡ x) xs ys) Q → IfOk copied (λ ys. ys ≡ xs)
same_copy Q (Ok ys) xs h = same_list xs ys h
same_copy Q (Err e) xs h = tt
