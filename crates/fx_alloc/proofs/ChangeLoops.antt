-- Block after block of a list gets another use.
use Rattle.std.proofs.Common.{◌≡◌, ℕ, ◌+◌, ◌<◌, ◌≤◌, zero, suc, List, [], ◌∷◌, length, get_or, drop, All, subst, arith, add-one}
use Rattle.std.proofs.lemmas.List.{drop_all}
use Rattle.std.proofs.Math.Seq.{drop-cons}
use Rattle.fx_alloc.specs.declared.uses.Use.{Use}
use Rattle.fx_alloc.specs.declared.pins.Kept.{Kept}
use Rattle.fx_alloc.specs.Pins.{kept_blocks}
use Rattle.fx_alloc.specs.Layers.{change_use, change_all}

pub change_all-next : (f : Use → Use) (bs : List ℕ) (i : ℕ) (uses result : List Use) → i < length bs → change_all f (drop i bs) uses ≡ result → change_all f (drop (i + 1) bs) (change_use f (get_or bs i 0) uses) ≡ result
unfolding change_all
change_all-next f bs i uses result l e = rw add-one (subst (λ (cs : List ℕ). change_all f cs uses ≡ result) (drop-cons bs i 0 l) e)

pub change_all-done : (f : Use → Use) (bs : List ℕ) (i : ℕ) (uses result : List Use) → length bs ≤ i → change_all f (drop i bs) uses ≡ result → uses ≡ result
unfolding change_all
change_all-done f bs i uses result l e = subst (λ (cs : List ℕ). change_all f cs uses ≡ result) (drop_all i bs l) e

pub change_kept-next : (f : Use → Use) (ks : List Kept) (i : ℕ) (d : Kept) (uses result : List Use) → i < length ks → change_all f (kept_blocks (drop i ks)) uses ≡ result → change_all f (kept_blocks (drop (i + 1) ks)) (change_use f (get_or ks i d).block uses) ≡ result
unfolding change_all
change_kept-next f ks i d uses result l e = rw add-one (subst (λ (ls : List Kept). change_all f (kept_blocks ls) uses ≡ result) (drop-cons ks i d l) e)

pub change_kept-done : (f : Use → Use) (ks : List Kept) (i : ℕ) (uses result : List Use) → length ks ≤ i → change_all f (kept_blocks (drop i ks)) uses ≡ result → uses ≡ result
unfolding change_all
change_kept-done f ks i uses result l e = subst (λ (ls : List Kept). change_all f (kept_blocks ls) uses ≡ result) (drop_all i ks l) e

pub kept_block-at : (P : ℕ → Type 0) (ks : List Kept) (i : ℕ) (d : Kept) → All P (kept_blocks ks) → i < length ks → P (get_or ks i d).block
kept_block-at P [] i d a l = absurd (omega (arith, l))
kept_block-at P (k ∷ ks) zero d a l = a 0 0 (omega arith)
kept_block-at P (k ∷ ks) (suc i) d a l = kept_block-at P ks i d (λ n e m. a (suc n) e (omega (arith, m))) (omega (arith, l))
