-- The list of numbers, by number: what new keys or places of one, and a departure, make of it.
use Rattle.std.proofs.Common.{◌≡◌, ◌≢◌, ℕ, zero, suc, ◌+◌, ◌-◌, ◌<◌, ◌≤◌, ◌==◌, ◌⊎◌, inl, inr, true, false, not, cond, eqb, nat_eq, List, [], ◌∷◌, ◌++◌, map, length, set, get_or, length-set, length-append, All, Option, Some, None, is_some, unwrap_or, refl, sym, ap, ◌∙◌, arith, eqb-true, ne_eqb, eq-eqb, ◌||◌}
use Rattle.std.specs.List.{IsDistinct, AllWithin, HoldsAt, list_any, refill}
use Rattle.std.specs.Ordering.{nat_cmp, eq_by_cmp}
use Rattle.std.proofs.lemmas.Bool.{eqb-false}
use Rattle.std.proofs.lemmas.List.Elements.{All-cons, All-head, All-tail, All-from_recursion, recursion_from_All}
use Rattle.std.proofs.lemmas.Map.Keys.{IsDistinct-head, IsDistinct-tail, IsDistinct-cons}
use Rattle.fx_keys.specs.declared.seats.Seat.{Seat}
use Rattle.fx_keys.specs.Holdings.{Grants, no_grants}
use Rattle.fx_keys.specs.Seats.{seat_of, grants_of, seated, left_by, SeatIs}
use Rattle.fx_keys.proofs.Retained.{refill_whole}
use Rattle.fx_keys.proofs.Orders.{nat_ties}

pub seat_here : (s : Seat) (ss : List Seat) (w : ℕ) → eqb w s.who ≡ true → seat_of (s ∷ ss) w ≡ Some s.holdings
seat_here s ss w e = ap (λ b. cond b (Some s.holdings) (seat_of ss w)) (nat_ties w s.who ∙ e)

pub seat_past : (s : Seat) (ss : List Seat) (w : ℕ) → eqb w s.who ≡ false → seat_of (s ∷ ss) w ≡ seat_of ss w
seat_past s ss w e = ap (λ b. cond b (Some s.holdings) (seat_of ss w)) (nat_ties w s.who ∙ e)

-- whether a number is in the list
pub is_some-seat_of : (ss : List Seat) (w : ℕ) → is_some (seat_of ss w) ≡ list_any (nat_eq w) (map (λ s. s.who) ss)
is_some-seat_of [] w = refl
is_some-seat_of (s ∷ ss) w =
    elim (eqb w s.who) as (λ b. eqb w s.who ≡ b → is_some (seat_of (s ∷ ss) w) ≡ (b || list_any (nat_eq w) (map (λ s. s.who) ss))) [
      | true ↦ λ e. ap is_some (seat_here s ss w e)
      | false ↦ λ e. ap is_some (seat_past s ss w e) ∙ is_some-seat_of ss w
    ] refl

-- ---- the place of a number

pub seat_found : (who : ℕ) (ss : List Seat) (i : ℕ) (d : Seat) → SeatIs ss who (Some i) → seat_of ss who ≡ Some (get_or ss i d).holdings
seat_found who [] i d (lt, is, before) = absurd (omega arith)
seat_found who (s ∷ ss) zero d (lt, is, before) = seat_here s ss who (eq-eqb who s.who (sym (is d)))
seat_found who (s ∷ ss) (suc i) d (lt, is, before) =
    seat_past s ss who (ne_eqb who s.who (λ same. before zero d (omega arith) (omega arith) (sym same)))
    ∙ seat_found who ss i d (omega arith, is, λ k c low high. before (suc k) c (omega arith) (omega arith))

pub seat_missing : (who : ℕ) (ss : List Seat) → SeatIs ss who None → seat_of ss who ≡ None
seat_missing who [] all = refl
seat_missing who (s ∷ ss) all =
    seat_past s ss who (ne_eqb who s.who (λ same. All-head (λ s. s.who ≢ who) s ss all (sym same)))
    ∙ seat_missing who ss (All-tail (λ s. s.who ≢ who) s ss all)

-- ---- a number has other keys or places

seated_at : (g : Grants) (who : ℕ) (ss : List Seat) (i : ℕ) (d : Seat) → SeatIs ss who (Some i) → set ss i (record { who = (get_or ss i d).who; holdings = g }) ≡ seated who g ss
seated_at g who [] i d (lt, is, before) = absurd (omega arith)
seated_at g who (s ∷ ss) zero d (lt, is, before) = sym (ap (λ b. cond b (record s { holdings = g } ∷ ss) (s ∷ seated who g ss)) (eq-eqb s.who who (is d)))
seated_at g who (s ∷ ss) (suc i) d (lt, is, before) =
    ap (λ l. s ∷ l) (seated_at g who ss i d (omega arith, is, λ k c low high. before (suc k) c (omega arith) (omega arith)))
    ∙ sym (ap (λ b. cond b (record s { holdings = g } ∷ ss) (s ∷ seated who g ss)) (ne_eqb s.who who (before zero d (omega arith) (omega arith))))

pub seated_new : (g : Grants) (who : ℕ) (ss : List Seat) → SeatIs ss who None → seated who g ss ≡ ss ++ record { who = who; holdings = g } ∷ []
seated_new g who [] all = refl
seated_new g who (s ∷ ss) all =
    ap (λ b. cond b (record s { holdings = g } ∷ ss) (s ∷ seated who g ss)) (ne_eqb s.who who (All-head (λ s. s.who ≢ who) s ss all))
    ∙ ap (λ l. s ∷ l) (seated_new g who ss (All-tail (λ s. s.who ≢ who) s ss all))

-- as a slice has it that is written back
pub seated_in_place : (g : Grants) (who : ℕ) (ss xs : List Seat) (i n : ℕ) (d : Seat) → xs ≡ ss → n ≡ length ss → SeatIs ss who (Some i) → refill n ss (set xs i (record { who = (get_or xs i d).who; holdings = g })) ≡ seated who g ss
seated_in_place g who ss xs i n d same long seat =
    let there : set xs i (record { who = (get_or xs i d).who; holdings = g }) ≡ set ss i (record { who = (get_or ss i d).who; holdings = g }) =
    ap (λ l. set l i (record { who = (get_or l i d).who; holdings = g })) same in
    let size = length-set ss i (record { who = (get_or ss i d).who; holdings = g }) in
    ap (refill n ss) there
    ∙ refill_whole n ss (set ss i (record { who = (get_or ss i d).who; holdings = g })) long (size ∙ sym long)
    ∙ seated_at g who ss i d seat

pub seat_of-seated : (who : ℕ) (g : Grants) (ss : List Seat) (w : ℕ) → seat_of (seated who g ss) w ≡ cond (eqb w who) (Some g) (seat_of ss w)
seat_of-seated who g [] w = ap (λ b. cond b (Some g) None) (nat_ties w who)
seat_of-seated who g (s ∷ ss) w =
    elim (s.who == who) as (λ b. (s.who == who) ≡ b → seat_of (cond b (record s { holdings = g } ∷ ss) (s ∷ seated who g ss)) w ≡ cond (eqb w who) (Some g) (seat_of (s ∷ ss) w)) [
      | true ↦ λ e. elim (eqb w who) as (λ a. eqb w who ≡ a → seat_of (record s { holdings = g } ∷ ss) w ≡ cond a (Some g) (seat_of (s ∷ ss) w)) [
        | true ↦ λ f. seat_here (record s { holdings = g }) ss w (eq-eqb w s.who (eqb-true w who f ∙ sym (eqb-true s.who who e)))
        | false ↦ λ f.
            let past = ne_eqb w s.who (λ same. eqb-false w who f (same ∙ eqb-true s.who who e)) in
            seat_past (record s { holdings = g }) ss w past ∙ sym (seat_past s ss w past)
      ] refl
      | false ↦ λ e. elim (eqb w s.who) as (λ a. eqb w s.who ≡ a → seat_of (s ∷ seated who g ss) w ≡ cond (eqb w who) (Some g) (seat_of (s ∷ ss) w)) [
        | true ↦ λ f.
            let apart = ne_eqb w who (λ same. eqb-false s.who who e (sym (eqb-true w s.who f) ∙ same)) in
            seat_here s (seated who g ss) w f ∙ sym (seat_here s ss w f) ∙ ap (λ b. cond b (Some g) (seat_of (s ∷ ss) w)) (sym apart)
        | false ↦ λ f. seat_past s (seated who g ss) w f ∙ seat_of-seated who g ss w ∙ ap (cond (eqb w who) (Some g)) (sym (seat_past s ss w f))
      ] refl
    ] refl

-- the numbers stay, or there is one more
pub numbers-seated : (who : ℕ) (g : Grants) (ss : List Seat) → (map (λ s. s.who) (seated who g ss) ≡ map (λ s. s.who) ss) ⊎ ((list_any (nat_eq who) (map (λ s. s.who) ss) ≡ false) × (map (λ s. s.who) (seated who g ss) ≡ map (λ s. s.who) ss ++ who ∷ []))
numbers-seated who g [] = inr (refl, refl)
numbers-seated who g (s ∷ ss) =
    elim (s.who == who) as (λ b. (s.who == who) ≡ b → (map (λ (s : Seat). s.who) (cond b (record s { holdings = g } ∷ ss) (s ∷ seated who g ss)) ≡ s.who ∷ map (λ (s : Seat). s.who) ss) ⊎ (((nat_eq who s.who || list_any (nat_eq who) (map (λ (s : Seat). s.who) ss)) ≡ false) × (map (λ (s : Seat). s.who) (cond b (record s { holdings = g } ∷ ss) (s ∷ seated who g ss)) ≡ s.who ∷ (map (λ (s : Seat). s.who) ss ++ who ∷ [])))) [
      | true ↦ λ _. inl refl
      | false ↦ λ e. elim (numbers-seated who g ss) [
        | inl same ↦ inl (ap (λ l. s.who ∷ l) same)
        | inr new ↦ inr ((λ i. ne_eqb who s.who (λ same. eqb-false s.who who e (sym same)) i || new.0 i), ap (λ l. s.who ∷ l) new.1)
      ]
    ] refl

-- ---- a number goes

pub seat_of-left : (who : ℕ) (ss : List Seat) (w : ℕ) → seat_of (left_by who ss) w ≡ cond (eqb w who) None (seat_of ss w)
seat_of-left who [] w = elim (eqb w who) as (λ b. ◌≡◌ {A = Option Grants} None (cond b None None)) [ true ↦ refl | false ↦ refl ]
seat_of-left who (s ∷ ss) w =
    elim (s.who == who) as (λ b. (s.who == who) ≡ b → seat_of (cond (not b) (s ∷ left_by who ss) (left_by who ss)) w ≡ cond (eqb w who) None (seat_of (s ∷ ss) w)) [
      | true ↦ λ e. seat_of-left who ss w ∙ elim (eqb w who) as (λ a. eqb w who ≡ a → cond a None (seat_of ss w) ≡ cond a None (seat_of (s ∷ ss) w)) [
        | true ↦ λ _. refl
        | false ↦ λ f. sym (seat_past s ss w (ne_eqb w s.who (λ same. eqb-false w who f (same ∙ eqb-true s.who who e))))
      ] refl
      | false ↦ λ e. elim (eqb w s.who) as (λ a. eqb w s.who ≡ a → seat_of (s ∷ left_by who ss) w ≡ cond (eqb w who) None (seat_of (s ∷ ss) w)) [
        | true ↦ λ f.
            let apart = ne_eqb w who (λ same. eqb-false s.who who e (sym (eqb-true w s.who f) ∙ same)) in
            seat_here s (left_by who ss) w f ∙ sym (seat_here s ss w f) ∙ ap (λ b. cond b None (seat_of (s ∷ ss) w)) (sym apart)
        | false ↦ λ f. seat_past s (left_by who ss) w f ∙ seat_of-left who ss w ∙ ap (cond (eqb w who) None) (sym (seat_past s ss w f))
      ] refl
    ] refl

numbers_left : (P : ℕ → Type 0) (who : ℕ) (ss : List Seat) → All P (map (λ s. s.who) ss) → All P (map (λ s. s.who) (left_by who ss))
numbers_left P who [] all = all
numbers_left P who (s ∷ ss) all =
    let rest = numbers_left P who ss (All-tail P s.who (map (λ (s : Seat). s.who) ss) all) in
    elim (not (s.who == who)) as (λ b. All P (map (λ (s : Seat). s.who) (cond b (s ∷ left_by who ss) (left_by who ss)))) [
      | true ↦ All-cons P s.who (map (λ (s : Seat). s.who) (left_by who ss)) (All-head P s.who (map (λ (s : Seat). s.who) ss) all) rest
      | false ↦ rest
    ]

pub apart-left : (who : ℕ) (ss : List Seat) → IsDistinct nat_eq (map (λ s. s.who) ss) → IsDistinct nat_eq (map (λ s. s.who) (left_by who ss))
apart-left who [] apart = apart
apart-left who (s ∷ ss) apart =
    let P : ℕ → Type 0 = λ y. nat_eq s.who y ≡ false in
    let rest = apart-left who ss (IsDistinct-tail nat_eq s.who (map (λ (s : Seat). s.who) ss) apart) in
    let first = recursion_from_All P (map (λ (s : Seat). s.who) (left_by who ss)) (numbers_left P who ss (All-from_recursion P (map (λ (s : Seat). s.who) ss) (IsDistinct-head nat_eq s.who (map (λ (s : Seat). s.who) ss) apart))) in
    elim (not (s.who == who)) as (λ b. IsDistinct nat_eq (map (λ (s : Seat). s.who) (cond b (s ∷ left_by who ss) (left_by who ss)))) [
      | true ↦ IsDistinct-cons nat_eq s.who (map (λ (s : Seat). s.who) (left_by who ss)) first rest
      | false ↦ rest
    ]

pub length-left : (who : ℕ) (ss : List Seat) → length (left_by who ss) ≤ length ss
length-left who [] = omega arith
length-left who (s ∷ ss) =
    let rest = length-left who ss in
    elim (not (s.who == who)) as (λ b. length (cond b (s ∷ left_by who ss) (left_by who ss)) ≤ suc (length ss)) [ true ↦ omega arith | false ↦ omega arith ]

-- ---- what a number has

pub grants_found : (who : ℕ) (ss xs : List Seat) (i : ℕ) (d : Seat) → xs ≡ ss → SeatIs ss who (Some i) → (get_or xs i d).holdings ≡ grants_of ss who
grants_found who ss xs i d same seat = ap (λ l. (get_or l i d).holdings) same ∙ sym (ap (λ o. unwrap_or o no_grants) (seat_found who ss i d seat))

pub grants_missing : (who : ℕ) (ss : List Seat) → SeatIs ss who None → grants_of ss who ≡ no_grants
grants_missing who ss seat = ap (λ o. unwrap_or o no_grants) (seat_missing who ss seat)
