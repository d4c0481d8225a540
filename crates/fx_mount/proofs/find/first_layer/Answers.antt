use Rattle.std.proofs.Common.{◌≡◌, ℕ, ◌++◌, ◌∷◌, List, get_or, subst, arith}
use Rattle.fx_mount.proofs.Finding.{first-of, first-of-second}
use Rattle.fx_mount.proofs.find.first_layer.Goals as goal

pub returns-then-objects-gt0 : goal.returns-then-objects-gt0
returns-then-objects-gt0 c =
    let objects : List ℕ = c.as_slice-objects.result.now in
    subst (λ (xs : List ℕ). (rest : List ℕ) × (xs ++ c.args.sup.now.allocs ≡ get_or objects 0 0 ∷ rest)) c.as_slice-objects.ensures.layers
    (first-of objects c.args.sup.now.allocs (omega arith))

pub returns-then-allocs-gt0 : goal.returns-then-allocs-gt0
returns-then-allocs-gt0 c =
    let objects : List ℕ = c.as_slice-objects.result.now in
    let allocs : List ℕ = c.as_slice-allocs.result.now in
    subst (λ (xs : List ℕ). (rest : List ℕ) × (xs ++ c.args.sup.now.allocs ≡ get_or allocs 0 0 ∷ rest)) c.as_slice-objects.ensures.layers
    (subst (λ (ys : List ℕ). (rest : List ℕ) × (objects ++ ys ≡ get_or allocs 0 0 ∷ rest)) c.as_slice-allocs.ensures.layers
    (first-of-second objects allocs (omega arith) (omega arith)))
