-- Which numbers keep another from a key: each of them is among those that the list names, and none else.
use Rattle.std.proofs.Common.{◌≡◌, ◌≢◌, ℕ, ◌==◌, ◌&&◌, true, false, not, cond, eqb, nat_eq, List, [], ◌∷◌, map, filter, All, Some, None, refl, sym, ap, ◌∙◌, subst, eqb-true, ne_eqb, eq-eqb}
use Rattle.std.specs.List.{IsDistinct}
use Rattle.std.proofs.lemmas.Bool.{eqb-false, and_from}
use Rattle.std.proofs.lemmas.List.Elements.{All-nil, All-cons, All-head, All-tail, All-weaker, All-from_recursion}
use Rattle.std.proofs.lemmas.Map.Keys.{IsDistinct-head, IsDistinct-tail}
use Rattle.fx_item.specs.declared.lock.LockKey.{LockKey}
use Rattle.fx_item.specs.declared.lock.Mode.{Mode}
use Rattle.fx_keys.specs.declared.seats.Seat.{Seat}
use Rattle.fx_keys.specs.Holdings.{Grants}
use Rattle.fx_keys.specs.Seats.{seat_of, blockers, is_blocking}
use Rattle.fx_keys.proofs.SeatLists.{seat_here, seat_past}

pub not_some : {X : Type 0} (x : X) → None ≡ Some x → ⊥
not_some x e = absurd (cc)

-- whoever is in the list has what all its numbers have
pub found_has : (P : ℕ → Type 0) (ss : List Seat) → All P (map (λ s. s.who) ss) → (w : ℕ) (g : Grants) → seat_of ss w ≡ Some g → P w
found_has P [] all w g is = absurd (not_some g is)
found_has P (s ∷ ss) all w g is =
    elim (eqb w s.who) as (λ b. eqb w s.who ≡ b → P w) [
      | true ↦ λ e. subst P (sym (eqb-true w s.who e)) (All-head P s.who (map (λ s. s.who) ss) all)
      | false ↦ λ e. found_has P ss (All-tail P s.who (map (λ s. s.who) ss) all) w g (sym (seat_past s ss w e) ∙ is)
    ] refl

module _ (who : ℕ) (key : LockKey) (mode : Mode) where
  rest_of : List Seat → List Seat
  rest_of ss = filter (λ s. not (s.who == who) && is_blocking key mode s.holdings) ss

  head_blocks : (P : ℕ → Type 0) (s : Seat) (ss : List Seat) → (not (s.who == who) && is_blocking key mode s.holdings) ≡ true → All P (blockers who key mode (s ∷ ss)) → P s.who
  unfolding rest_of
  head_blocks P s ss e all = All-head P s.who (blockers who key mode ss) (subst (λ b. All P (map (λ s. s.who) (cond b (s ∷ rest_of ss) (rest_of ss)))) e all)

  others_block : (P : ℕ → Type 0) (s : Seat) (ss : List Seat) → All P (blockers who key mode (s ∷ ss)) → All P (blockers who key mode ss)
  unfolding rest_of
  others_block P s ss all =
      elim (not (s.who == who) && is_blocking key mode s.holdings) as (λ b. All P (map (λ s. s.who) (cond b (s ∷ rest_of ss) (rest_of ss))) → All P (blockers who key mode ss)) [
        | true ↦ λ a. All-tail P s.who (blockers who key mode ss) a
        | false ↦ λ a. a
      ] all

  -- another number whose hold conflicts has what all that are named have
  pub blocker_has : (P : ℕ → Type 0) (ss : List Seat) → All P (blockers who key mode ss) → (w : ℕ) (g : Grants) → w ≢ who → seat_of ss w ≡ Some g → is_blocking key mode g ≡ true → P w
  blocker_has P [] all w g ne is conflict = absurd (not_some g is)
  blocker_has P (s ∷ ss) all w g ne is conflict =
      elim (eqb w s.who) as (λ b. eqb w s.who ≡ b → P w) [
        | true ↦ λ e.
            let same = eqb-true w s.who e in
            let grants_are : Some s.holdings ≡ Some g = sym (seat_here s ss w e) ∙ is in
            let grants : s.holdings ≡ g = cc in
            let passes = and_from (not (s.who == who)) (is_blocking key mode s.holdings) (ap not (ne_eqb s.who who (λ x. ne (same ∙ x)))) (ap (is_blocking key mode) grants ∙ conflict) in
            subst P (sym same) (head_blocks P s ss passes all)
        | false ↦ λ e. blocker_has P ss (others_block P s ss all) w g ne (sym (seat_past s ss w e) ∙ is) conflict
      ] refl

  pub record IsBlocker (ss : List Seat) (w : ℕ) : Type 0 where
    pub apart : w ≢ who
    pub grants : Grants
    pub seat : seat_of ss w ≡ Some grants
    pub blocks : is_blocking key mode grants ≡ true

  -- and whoever is named is such a number
  pub all_block : (ss : List Seat) → IsDistinct nat_eq (map (λ s. s.who) ss) → All (IsBlocker ss) (blockers who key mode ss)
  unfolding rest_of
  all_block [] apart = All-nil (IsBlocker [])
  all_block (s ∷ ss) apart =
      let first : All (λ y. nat_eq s.who y ≡ false) (map (λ s. s.who) ss) = All-from_recursion (λ y. nat_eq s.who y ≡ false) (map (λ s. s.who) ss) (IsDistinct-head nat_eq s.who (map (λ s. s.who) ss) apart) in
      let later : (w : ℕ) → IsBlocker ss w → IsBlocker (s ∷ ss) w = λ w x.
      let differs = found_has (λ y. nat_eq s.who y ≡ false) ss first w x.grants x.seat in
      let past = seat_past s ss w (ne_eqb w s.who (λ same. eqb-false s.who w differs (sym same))) in
      record { apart = x.apart; grants = x.grants; seat = past ∙ x.seat; blocks = x.blocks } in
      let rest = All-weaker (IsBlocker ss) (IsBlocker (s ∷ ss)) later (blockers who key mode ss) (all_block ss (IsDistinct-tail nat_eq s.who (map (λ s. s.who) ss) apart)) in
      elim (s.who == who) as (λ a. (s.who == who) ≡ a → All (IsBlocker (s ∷ ss)) (map (λ s. s.who) (cond (not a && is_blocking key mode s.holdings) (s ∷ rest_of ss) (rest_of ss)))) [
        | true ↦ λ e. rest
        | false ↦ λ e. elim (is_blocking key mode s.holdings) as (λ b. is_blocking key mode s.holdings ≡ b → All (IsBlocker (s ∷ ss)) (map (λ s. s.who) (cond b (s ∷ rest_of ss) (rest_of ss)))) [
          | true ↦ λ f. All-cons (IsBlocker (s ∷ ss)) s.who (blockers who key mode ss) (record { apart = eqb-false s.who who e; grants = s.holdings; seat = seat_here s ss s.who (eq-eqb s.who s.who refl); blocks = f }) rest
          | false ↦ λ f. rest
        ] refl
      ] refl
