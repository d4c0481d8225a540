-- Where the blocks of a ring stand: each in a place of its own.
use Rattle.std.proofs.Common.{◌≡◌, ℕ, zero, suc, ◌+◌, ◌*◌, ◌/◌, ◌%◌, ◌-◌, ◌<◌, ⊎_elim, List, [], ◌∷◌, ◌++◌, length, drop, sym, ◌∙◌, ap, arith}
use Rattle.std.specs.Prelude.{Some, slice_get}
use Rattle.std.proofs.lemmas.Bool.{cases_lt}
use Rattle.std.proofs.lemmas.Nat.{div-add-mod', mod-mul-add}
use Rattle.std.proofs.lemmas.Option.{same_Some}
use Rattle.std.proofs.Math.Nat.{add-mod_right}
use Rattle.fx_journal.specs.Ring.{Queued, IsLinked, number}

-- a number less than the ring's size further on has another place
further : (ring n d : ℕ) → d < ring → (n + d) % ring ≡ n % ring → d ≡ 0
further ring n d lt e =
    let a : ℕ = n / ring * ring in
    let m : ℕ = n % ring in
    let whole : a + m ≡ n = div-add-mod' n ring in
    ⊎_elim
    (λ low. (let sum : a + (m + d) ≡ n + d = omega arith in
    let here : (n + d) % ring ≡ m + d = ap (λ (k : ℕ). k % ring) (sym sum) ∙ mod-mul-add (n / ring) ring (m + d) low in
    omega (arith, here, e)))
    (λ high. (let sum : a + (m + d - ring) + ring ≡ n + d = omega arith in
    let here : (n + d) % ring ≡ m + d - ring = ap (λ (k : ℕ). k % ring) (sym sum) ∙ add-mod_right (a + (m + d - ring)) ring ∙ mod-mul-add (n / ring) ring (m + d - ring) (omega arith) in
    absurd (omega (arith, here, e))))
    (cases_lt (m + d) ring)

-- two numbers of a range of the ring's size have two places
pub same_place : (ring n i k : ℕ) → i < ring → k < ring → (n + i) % ring ≡ (n + k) % ring → i ≡ k
same_place ring n i k lt other e = ⊎_elim
    (λ less. (let sum : n + i + (k - i) ≡ n + k = omega arith in omega (arith, further ring (n + i) (k - i) (omega arith) (ap (λ (m : ℕ). m % ring) sum ∙ sym e))))
    (λ more. (let sum : n + k + (i - k) ≡ n + i = omega arith in omega (arith, further ring (n + k) (i - k) (omega arith) (ap (λ (m : ℕ). m % ring) sum ∙ e))))
    (cases_lt i k)

-- the elements of a longer list
pub get-more : {X : Type 0} → (xs ys : List X) (i : ℕ) (x : X) → slice_get xs i ≡ Some x → slice_get (xs ++ ys) i ≡ Some x
get-more [] ys i x e = absurd (cc)
get-more (y ∷ xs) ys zero x e = e
get-more (y ∷ xs) ys (suc i) x e = get-more xs ys i x e

pub get-first : {X : Type 0} → (xs ys : List X) (i : ℕ) (x : X) → i < length xs → slice_get (xs ++ ys) i ≡ Some x → slice_get xs i ≡ Some x
get-first [] ys i x lt e = absurd (omega arith)
get-first (y ∷ xs) ys zero x lt e = e
get-first (y ∷ xs) ys (suc i) x lt e = get-first xs ys i x (omega arith) e

pub get-drop : {X : Type 0} → (xs ys : List X) (n : ℕ) (x : X) → drop n xs ≡ x ∷ ys → slice_get xs n ≡ Some x
get-drop [] ys zero x e = absurd (cc)
get-drop [] ys (suc n) x e = absurd (cc)
get-drop (y ∷ xs) ys zero x e = ap (λ (l : List _). slice_get l 0) e
get-drop (y ∷ xs) ys (suc n) x e = get-drop xs ys n x e

pub drop-get : {X : Type 0} → (xs : List X) (n : ℕ) (x : X) → slice_get xs n ≡ Some x → drop n xs ≡ x ∷ drop (n + 1) xs
drop-get [] n x e = absurd (cc)
drop-get (y ∷ xs) zero x e = ap (λ (z : _). z ∷ xs) (same_Some y x e)
drop-get (y ∷ xs) (suc n) x e = let further : suc (n + 1) ≡ suc n + 1 = omega arith in drop-get xs n x e ∙ ap (λ (k : ℕ). x ∷ drop k (y ∷ xs)) further

-- the sequence numbers follow each other
pub sequence-linked : (epoch n : ℕ) (blocks : List Queued) (chain i : ℕ) (q : Queued) → IsLinked epoch n blocks chain → slice_get blocks i ≡ Some q → q.sequence ≡ number (n + i)
sequence-linked epoch n [] chain i q linked e = absurd (cc)
sequence-linked epoch n (p ∷ ps) chain zero q linked e = ap (λ (x : Queued). x.sequence) (sym (same_Some p q e)) ∙ linked.0 ∙ ap number (omega arith)
sequence-linked epoch n (p ∷ ps) chain (suc i) q linked e = sequence-linked epoch (n + 1) ps chain i q linked.2 e ∙ ap number (omega arith)
