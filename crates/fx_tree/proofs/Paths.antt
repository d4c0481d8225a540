-- Paths from their end, and paths that go on from another.
use Rattle.std.proofs.Common.{◌≡◌, ◌≢◌, ℕ, ◌++◌, List, [], ◌∷◌, length, length-append, refl, ap, ◌∙◌, arith}
use Rattle.std.specs.Prelude.{Option, Some, None, option_and_then}

pub not_nil : (q : List (List ℕ)) (x : List ℕ) → q ++ x ∷ [] ≢ []
not_nil [] x e = cc e
not_nil (y ∷ q) x e = cc e

pub not_nil_more : (q : List (List ℕ)) (x : List ℕ) (r : List (List ℕ)) → (q ++ x ∷ []) ++ r ≢ []
not_nil_more [] x r e = cc e
not_nil_more (y ∷ q) x r e = cc e

-- the last name and what stands before it are told by a path
pub snoc_parts : (p q : List (List ℕ)) (x y : List ℕ) → p ++ x ∷ [] ≡ q ++ y ∷ [] → (p ≡ q) × (x ≡ y)
snoc_parts [] [] x y e = (refl, cc e)
snoc_parts [] (b ∷ q) x y e = absurd (not_nil q y (cc e))
snoc_parts (a ∷ p) [] x y e = absurd (not_nil p x (cc e))
snoc_parts (a ∷ p) (b ∷ q) x y e =
    let h : a ≡ b = cc e in
    let t = snoc_parts p q x y (cc e) in
    (ap (λ z. z ∷ p) h ∙ ap (λ z. b ∷ z) t.0, t.1)

-- a path is longer than the one that it goes on from
pub not_longer : (p r : List (List ℕ)) (x : List ℕ) → (p ++ r) ++ x ∷ [] ≢ p
not_longer p r x e = omega (arith, ap length e, length-append (p ++ r) (x ∷ []), length-append p r)

pub longer_path : (p : List (List ℕ)) (x : List ℕ) (r : List (List ℕ)) → p ≢ (p ++ x ∷ []) ++ r
longer_path p x r e = omega (arith, ap length e, length-append (p ++ x ∷ []) r, length-append p (x ∷ []))

pub follow : {A B : Type 0} (f g : A → Option B) (o : Option A) → ((w : A) → o ≡ Some w → f w ≡ g w) → option_and_then f o ≡ option_and_then g o
follow f g None h = refl
follow f g (Some w) h = h w refl
