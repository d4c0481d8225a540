-- A list of which so many items were gone over.
use Rattle.std.proofs.Common.{◌≡◌, ℕ, zero, suc, List, [], ◌∷◌, ◌++◌, take, drop, refl, ap}

pub take_more : {A : Type 0} (n : ℕ) (xs rest : List A) (x : A) → drop n xs ≡ x ∷ rest → take (suc n) xs ≡ take n xs ++ x ∷ []
take_more zero [] rest x e = absurd (cc)
take_more zero (y ∷ ys) rest x e = let same : y ≡ x = cc in ap (λ z. z ∷ []) same
take_more (suc n) [] rest x e = absurd (cc)
take_more (suc n) (y ∷ ys) rest x e = ap (λ zs. y ∷ zs) (take_more n ys rest x e)

pub drop_more : {A : Type 0} (n : ℕ) (xs rest : List A) (x : A) → drop n xs ≡ x ∷ rest → drop (suc n) xs ≡ rest
drop_more zero [] rest x e = absurd (cc)
drop_more zero (y ∷ ys) rest x e = cc
drop_more (suc n) [] rest x e = absurd (cc)
drop_more (suc n) (y ∷ ys) rest x e = drop_more n ys rest x e

pub take_all : {A : Type 0} (n : ℕ) (xs : List A) → drop n xs ≡ [] → take n xs ≡ xs
take_all zero [] e = refl
take_all zero (y ∷ ys) e = absurd (cc)
take_all (suc n) [] e = refl
take_all (suc n) (y ∷ ys) e = ap (λ zs. y ∷ zs) (take_all n ys e)
