-- What a look at a number's first and last key says of all of them, and what a caller knows then.
use Rattle.std.proofs.Common.{◌≡◌, ◌≢◌, ℕ, zero, suc, ◌+◌, ◌<◌, ◌≤◌, ◌⊎◌, inl, inr, ◌||◌, Bool, true, false, cond, nat_eq, List, [], ◌∷◌, map, length, get_or, All, Option, Some, None, is_some, Ordering, Less, Equal, Greater, refl, sym, ap, ◌∙◌, subst, arith, eqb-true}
use Rattle.std.specs.List.{list_any}
use Rattle.std.specs.Ordering.{is_lt}
use Rattle.std.proofs.lemmas.Bool.{or_cases, cases_lt}
use Rattle.std.proofs.lemmas.Cmp.{nat_eq_equiv}
use Rattle.std.proofs.lemmas.List.{length-map}
use Rattle.std.proofs.lemmas.List.Elements.{All-head, All-tail}
use Rattle.std.proofs.lemmas.Map.Made.{length-le_from_is_member}
use Rattle.smallvec.specs.SmallVec.{SmallVec}
use Rattle.fx_item.specs.declared.lock.LockKey.{LockKey}
use Rattle.fx_item.specs.declared.lock.Mode.{Mode}
use Rattle.fx_item.specs.declared.lock.Mode.TheVariants.{Change}
use Rattle.fx_item.specs.LockKey.{key_cmp}
use Rattle.fx_keys.specs.declared.holdings.Hold.{Hold}
use Rattle.fx_keys.specs.declared.seats.Seat.{Seat}
use Rattle.fx_keys.specs.declared.table.TheConstants.{MAX_NUMBERS}
use Rattle.fx_keys.specs.Table.{IsListed, HasSeatFor, IsAboveKeysOf, IsNextToRaise}
use Rattle.fx_keys.specs.Holdings.{IsKeyArray, mode_in}
use Rattle.fx_keys.specs.Seats.{seats_table, seat_of, grants_of, AreSeats}
use Rattle.fx_item.proofs.KeyOrder.{lock_keys_total}
use Rattle.fx_keys.proofs.Orders.{same_or_not, keys_untied}
use Rattle.fx_keys.proofs.Retained.{any_default}
use Rattle.fx_keys.proofs.HoldArrays.{sorted_less, some_none}
use Rattle.fx_keys.proofs.SeatLists.{is_some-seat_of}
use Rattle.fx_keys.proofs.KeyTables.{AreApart, mode_of-table, held_seat, seated_there}

-- ---- the first and the last key

pub from_is_lt : (r : Ordering) → is_lt r ≡ true → r ≡ Less
from_is_lt Less e = refl
from_is_lt Equal e = absurd (cc)
from_is_lt Greater e = absurd (cc)

pub last_below : (hs : List Hold) (key : LockKey) (i : ℕ) (e : Hold) → IsKeyArray hs → i + 1 ≡ length hs → key_cmp (get_or hs i e).key key ≡ Less → All (λ h. key_cmp h.key key ≡ Less) hs
last_below hs key i e sorted last less k d lt =
    let there : key_cmp (get_or hs i d).key key ≡ Less = subst (λ (h : Hold). key_cmp h.key key ≡ Less) (any_default hs i e d (omega arith)) less in
    elim (cases_lt k i) [
      | inl low ↦ lock_keys_total.trans (get_or hs k d).key (get_or hs i d).key key (sorted_less hs k i d sorted low (omega arith)) there
      | inr high ↦ let same : i ≡ k = omega arith in subst (λ j. key_cmp (get_or hs j d).key key ≡ Less) same there
    ]

pub first_not_below : (hs : List Hold) (key : LockKey) (e : Hold) → IsKeyArray hs → 0 < length hs → key_cmp (get_or hs 0 e).key key ≢ Less → All (λ h. key_cmp h.key key ≢ Less) hs
first_not_below hs key e sorted some not_less k d lt less =
    not_less (subst (λ (h : Hold). key_cmp h.key key ≡ Less) (any_default hs 0 d e some) (elim (cases_lt 0 k) [
      | inl high ↦ lock_keys_total.trans (get_or hs 0 d).key (get_or hs k d).key key (sorted_less hs 0 k d sorted high lt) less
      | inr low ↦ let same : k ≡ 0 = omega arith in subst (λ j. key_cmp (get_or hs j d).key key ≡ Less) same less
    ]))

-- ---- a number's keys in the table

-- a key that is held has what all have
key_has : (P : LockKey → Type 0) (hs : List Hold) → All (λ h. P h.key) hs → (k : LockKey) (m : Mode) → mode_in hs k ≡ Some m → P k
key_has P [] all k m is = absurd (some_none m (sym is))
key_has P (h ∷ hs) all k m is =
    elim (same_or_not k h.key) [
      | inl same ↦ subst P (sym same) (All-head (λ h. P h.key) h hs all)
      | inr ne ↦ key_has P hs (All-tail (λ h. P h.key) h hs all) k m (sym (ap (λ b. cond b (Some h.mode) (mode_in hs k)) (keys_untied k h.key ne)) ∙ is)
    ]

pub above_from : (ss : List Seat) → AreApart ss → (who : ℕ) (key : LockKey) → All (λ h. key_cmp h.key key ≡ Less) (grants_of ss who).holds → IsAboveKeysOf (seats_table ss) who key
above_from ss apart who key all k m is = key_has (λ j. key_cmp j key ≡ Less) (grants_of ss who).holds all k m (sym (mode_of-table ss apart who k) ∙ is)

pub first_from : (ss : List Seat) → AreApart ss → (who : ℕ) (key : LockKey) → All (λ h. key_cmp h.key key ≢ Less) (grants_of ss who).holds → IsNextToRaise (seats_table ss) who key
first_from ss apart who key all k less is = key_has (λ j. key_cmp j key ≢ Less) (grants_of ss who).holds all k Change (sym (mode_of-table ss apart who k) ∙ is) less

-- ---- places for numbers

member_has : (P : ℕ → Type 0) (xs : List ℕ) (q : ℕ) → All P xs → list_any (nat_eq q) xs ≡ true → P q
member_has P [] q all any = absurd (cc)
member_has P (x ∷ xs) q all any =
    elim (or_cases (nat_eq q x) (list_any (nat_eq q) xs) any) [
      | inl e ↦ subst P (sym (eqb-true q x e)) (All-head P x xs all)
      | inr rest ↦ member_has P xs q (All-tail P x xs all) rest
    ]

listed_there : (ss : List Seat) → AreApart ss → (q : ℕ) → IsListed (seats_table ss) q → is_some (seat_of ss q) ≡ true
listed_there ss apart q (inl some) = there (seat_of ss q) (seated_there ss q some)
  where
    there : {X : Type 0} (o : Option X) → o ≢ None → is_some o ≡ true
    there None ne = absurd (ne refl)
    there (Some x) ne = refl
listed_there ss apart q (inr held) = ap is_some (held_seat (seat_of ss q) held.0 held.1 (sym (mode_of-table ss apart q held.0) ∙ held.2)).1

pub seat_from : (ss : SmallVec Seat) → AreSeats ss → length ss.items < MAX_NUMBERS → (who : ℕ) → HasSeatFor (seats_table ss.items) who
seat_from ss sound less who others apart each =
    let t = seats_table ss.items in
    let size = length-map ss.items (λ (s : Seat). s.who) in
    let member : (q : ℕ) → list_any (nat_eq q) others ≡ true → list_any (nat_eq q) (map (λ (s : Seat). s.who) ss.items) ≡ true = λ q h.
    sym (is_some-seat_of ss.items q) ∙ listed_there ss.items sound.apart q (member_has (λ w. (w ≢ who) × IsListed t w) others q each h).1 in
    let few = length-le_from_is_member nat_eq_equiv others (map (λ (s : Seat). s.who) ss.items) apart member in
    omega arith
