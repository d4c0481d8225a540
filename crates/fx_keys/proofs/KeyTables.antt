-- Tables by the list of numbers: what each call keeps, and what it does to the table.
use Rattle.std.proofs.Common.{◌≡◌, ◌≢◌, ℕ, zero, suc, ◌+◌, ◌-◌, ◌<◌, ◌≤◌, ◌==◌, ◌&&◌, ◌⊎◌, inl, inr, Bool, true, false, not, cond, eqb, nat_eq, List, [], ◌∷◌, ◌++◌, map, length, get_or, All, Option, Some, None, Result, Ok, Err, OnOk, OnErr, Less, is_some, unwrap_or, refl, sym, ap, ◌∙◌, subst, arith, eqb-true, ne_eqb, eq-eqb, length-append}
use Rattle.std.specs.List.{IsDistinct, list_any}
use Rattle.std.specs.Ordering.{nat_cmp, eq_by_cmp}
use Rattle.std.specs.Cmp.{nat_cmp_total}
use Rattle.std.specs.FinMap as finite
use Rattle.std.specs.FinMap.{get-from_entries, get-insert, get-retain_keys, same_map, nat_cmp-IsAntisymmetric, get-remove}
use Rattle.std.proofs.lemmas.Bool.{eqb-false, cases_eq}
use Rattle.std.proofs.lemmas.Cmp.{nat_eq_equiv}
use Rattle.std.proofs.lemmas.List.{length-map}
use Rattle.std.proofs.lemmas.List.Elements.{All-nil, All-weaker, All-contains, All-from_recursion}
use Rattle.std.proofs.lemmas.Map.Keys.{IsDistinct-push, IsDistinct-head, IsDistinct-tail}
use Rattle.std.proofs.lemmas.Map.Made.{All-is_member}
use Rattle.smallvec.specs.SmallVec.{SmallVec, HasRoomFor}
use Rattle.fx_item.specs.declared.lock.LockKey.{LockKey}
use Rattle.fx_item.specs.declared.lock.Mode.{Mode}
use Rattle.fx_item.specs.declared.lock.Mode.TheVariants.{Share, Change, Write, Read}
use Rattle.fx_item.specs.LockKey.{key_cmp}
use Rattle.fx_keys.specs.declared.holdings.Hold.{Hold}
use Rattle.fx_keys.specs.declared.seats.Seat.{Seat}
use Rattle.fx_keys.specs.declared.table.TheConstants.{MAX_NUMBERS}
use Rattle.fx_keys.specs.Conflict.{are_conflicting}
use Rattle.fx_keys.specs.Table.{Table, hold_cmp, mode_of, room_of, IsConsistent, IsListed, HasSeatFor, IsAboveKeysOf, HoldsOff, Reads, IsLeast, GainsRoom, Gains, Rises, Leaves}
use Rattle.fx_keys.specs.Holdings.{Grants, no_grants, mode_in, roomier, granted, IsRaised}
use Rattle.fx_keys.specs.Seats.{holds_at, holds_in, rooms_in, seats_table, seat_of, grants_of, seated, with_places, with_hold, RaisesAt, left_by, is_excluding, is_blocking, blockers, IsLeastOf, AreSeats}
use Rattle.fx_keys.proofs.Orders.{hold_total, hold_exact, hold_ties, key_itself, numbers_apart, key_irreflexive, get-insert_same, get-insert_other, get-left, same_or_not, keys_apart, nat_ties}
use Rattle.fx_keys.proofs.HoldArrays.{mode_granted, some_none}
use Rattle.fx_keys.proofs.SeatLists.{seat_here, seat_past, is_some-seat_of, seat_of-seated, numbers-seated, seat_of-left, apart-left, length-left}
use Rattle.fx_keys.proofs.Blockers.{found_has, blocker_has, all_block, IsBlocker}

abbrev pub AreApart : List Seat → Type 0
AreApart ss = IsDistinct nat_eq (map (λ s. s.who) ss)

-- ---- the parts of a table

abbrev or_else : {X : Type 0} → Option X → Option X → Option X
or_else None b = b
or_else (Some a) b = Some a

find-append : (q : LockKey × ℕ) (xs ys : List ((LockKey × ℕ) × Mode)) → finite.find hold_cmp q (xs ++ ys) ≡ or_else (finite.find hold_cmp q xs) (finite.find hold_cmp q ys)
find-append q [] ys = refl
find-append q (x ∷ xs) ys =
    elim (eq_by_cmp hold_cmp q x.0) as (λ b. cond b (Some x.1) (finite.find hold_cmp q (xs ++ ys)) ≡ or_else (cond b (Some x.1) (finite.find hold_cmp q xs)) (finite.find hold_cmp q ys)) [
      | true ↦ refl
      | false ↦ find-append q xs ys
    ]

or_none : {X : Type 0} (a : Option X) → or_else a None ≡ a
or_none None = refl
or_none (Some a) = refl

or_other : {X : Type 0} (b : Option X) → or_else None b ≡ b
or_other b = refl

and_true : (b : Bool) → (b && true) ≡ b
and_true true = refl
and_true false = refl

and_false : (b : Bool) → (b && false) ≡ false
and_false true = refl
and_false false = refl

-- a number's holds are its own
find_own : (who : ℕ) (key : LockKey) (hs : List Hold) → finite.find hold_cmp (key, who) (map (λ h. ((h.key, who), h.mode)) hs) ≡ mode_in hs key
find_own who key [] = refl
find_own who key (h ∷ hs) =
    let tie : eq_by_cmp hold_cmp (key, who) (h.key, who) ≡ eq_by_cmp key_cmp key h.key = hold_ties key h.key who who ∙ (ap (λ b. eq_by_cmp key_cmp key h.key && b) (eq-eqb who who refl) ∙ and_true (eq_by_cmp key_cmp key h.key)) in
    λ i. cond (tie i) (Some h.mode) (find_own who key hs i)

find_other : (who w : ℕ) (key : LockKey) (hs : List Hold) → w ≢ who → finite.find hold_cmp (key, w) (map (λ h. ((h.key, who), h.mode)) hs) ≡ None
find_other who w key [] ne = refl
find_other who w key (h ∷ hs) ne = λ i. cond (numbers_apart key h.key w who ne i) (Some h.mode) (find_other who w key hs ne i)

-- a number stands in the list once
gone_after : (s : Seat) (ss : List Seat) → AreApart (s ∷ ss) → grants_of ss s.who ≡ no_grants
gone_after s ss apart =
    let first = All-from_recursion (λ y. nat_eq s.who y ≡ false) (map (λ s. s.who) ss) (IsDistinct-head nat_eq s.who (map (λ s. s.who) ss) apart) in
    elim (seat_of ss s.who) as (λ o. seat_of ss s.who ≡ o → unwrap_or o no_grants ≡ no_grants) [
      | None ↦ λ _. refl
      | Some g ↦ λ e.
          let differs = found_has (λ y. nat_eq s.who y ≡ false) ss first s.who g e in
          absurd (eqb-false s.who s.who differs refl)
    ] refl

find_holds : (ss : List Seat) → AreApart ss → (w : ℕ) (key : LockKey) → finite.find hold_cmp (key, w) (holds_in ss) ≡ mode_in (grants_of ss w).holds key
find_holds [] apart w key = refl
find_holds (s ∷ ss) apart w key =
    let rest = find_holds ss (IsDistinct-tail nat_eq s.who (map (λ s. s.who) ss) apart) w key in
    find-append (key, w) (holds_at s) (holds_in ss)
    ∙ elim (cases_eq w s.who) [
      | inl e ↦
          let none : finite.find hold_cmp (key, w) (holds_in ss) ≡ None = rest ∙ ap (λ g. mode_in g.holds key) (ap (grants_of ss) e ∙ gone_after s ss apart) in
          ap (or_else (finite.find hold_cmp (key, w) (holds_at s))) none
          ∙ or_none (finite.find hold_cmp (key, w) (holds_at s))
          ∙ ap (λ v. finite.find hold_cmp (key, v) (holds_at s)) e
          ∙ find_own s.who key s.holdings.holds
          ∙ sym (ap (λ o. mode_in (unwrap_or o no_grants).holds key) (seat_here s ss w (eq-eqb w s.who e)))
      | inr ne ↦
          ap (λ o. or_else o (finite.find hold_cmp (key, w) (holds_in ss))) (find_other s.who w key s.holdings.holds ne)
          ∙ or_other (finite.find hold_cmp (key, w) (holds_in ss))
          ∙ rest
          ∙ sym (ap (λ o. mode_in (unwrap_or o no_grants).holds key) (seat_past s ss w (ne_eqb w s.who ne)))
    ]

pub mode_of-table : (ss : List Seat) → AreApart ss → (who : ℕ) (key : LockKey) → mode_of (seats_table ss) who key ≡ mode_in (grants_of ss who).holds key
mode_of-table ss apart who key = get-from_entries hold_total (holds_in ss) (key, who) ∙ find_holds ss apart who key

abbrev places_in : Option Grants → Option ℕ
places_in None = None
places_in (Some g) = Some g.places

find_rooms : (ss : List Seat) (w : ℕ) → finite.find nat_cmp w (rooms_in ss) ≡ places_in (seat_of ss w)
find_rooms [] w = refl
find_rooms (s ∷ ss) w =
    elim (eq_by_cmp nat_cmp w s.who) as (λ b. cond b (Some s.holdings.places) (finite.find nat_cmp w (rooms_in ss)) ≡ places_in (cond b (Some s.holdings) (seat_of ss w))) [
      | true ↦ refl
      | false ↦ find_rooms ss w
    ]

rooms_of-table : (ss : List Seat) (w : ℕ) → finite.get (seats_table ss).rooms w ≡ places_in (seat_of ss w)
rooms_of-table ss w = get-from_entries nat_cmp_total (rooms_in ss) w ∙ find_rooms ss w

pub room_of-table : (ss : List Seat) (who : ℕ) → room_of (seats_table ss) who ≡ (grants_of ss who).places
room_of-table ss who = ap (λ o. unwrap_or o 0) (rooms_of-table ss who) ∙ of (seat_of ss who)
  where
    of : (o : Option Grants) → unwrap_or (places_in o) 0 ≡ (unwrap_or o no_grants).places
    of None = refl
    of (Some g) = refl

grants_of-seated : (who : ℕ) (g : Grants) (ss : List Seat) (w : ℕ) → grants_of (seated who g ss) w ≡ cond (eqb w who) g (grants_of ss w)
grants_of-seated who g ss w = ap (λ o. unwrap_or o no_grants) (seat_of-seated who g ss w) ∙ of (eqb w who)
  where
    of : (b : Bool) → unwrap_or (cond b (Some g) (seat_of ss w)) no_grants ≡ cond b g (grants_of ss w)
    of true = refl
    of false = refl

grants_of-left : (who : ℕ) (ss : List Seat) (w : ℕ) → grants_of (left_by who ss) w ≡ cond (eqb w who) no_grants (grants_of ss w)
grants_of-left who ss w = ap (λ o. unwrap_or o no_grants) (seat_of-left who ss w) ∙ of (eqb w who)
  where
    of : (b : Bool) → unwrap_or (cond b None (seat_of ss w)) no_grants ≡ cond b no_grants (grants_of ss w)
    of true = refl
    of false = refl

pub apart-seated : (who : ℕ) (g : Grants) (ss : List Seat) → AreApart ss → AreApart (seated who g ss)
apart-seated who g ss apart =
    elim (numbers-seated who g ss) [
      | inl same ↦ subst (IsDistinct nat_eq) (sym same) apart
      | inr new ↦ subst (IsDistinct nat_eq) (sym new.1) (IsDistinct-push nat_eq_equiv (map (λ s. s.who) ss) who apart new.0)
    ]

-- a number that holds a key is in the list
pub held_seat : (o : Option Grants) (key : LockKey) (m : Mode) → mode_in (unwrap_or o no_grants).holds key ≡ Some m → (g : Grants) × (o ≡ Some g) × (mode_in g.holds key ≡ Some m)
held_seat None key m is = absurd (some_none m (sym is))
held_seat (Some g) key m is = (g, refl, is)

-- ---- what the calls ask for

pub above_all : (ss : List Seat) → AreApart ss → (who : ℕ) (key : LockKey) → IsAboveKeysOf (seats_table ss) who key → All (λ h. key_cmp h.key key ≡ Less) (grants_of ss who).holds
above_all ss apart who key above k d lt =
    let m = mode_listed (grants_of ss who).holds k d lt in
    above (get_or (grants_of ss who).holds k d).key m.0 (mode_of-table ss apart who (get_or (grants_of ss who).holds k d).key ∙ m.1)
  where
    mode_listed : (hs : List Hold) (k : ℕ) (d : Hold) → k < length hs → (m : Mode) × (mode_in hs (get_or hs k d).key ≡ Some m)
    mode_listed [] k d lt = absurd (omega arith)
    mode_listed (h ∷ hs) zero d lt = (h.mode, ap (λ b. cond b (Some h.mode) (mode_in hs h.key)) (key_itself h.key))
    mode_listed (h ∷ hs) (suc k) d lt =
        let rest = mode_listed hs k d (omega arith) in
        elim (eq_by_cmp key_cmp (get_or hs k d).key h.key) as (λ b. (m : Mode) × (cond b (Some h.mode) (mode_in hs (get_or hs k d).key) ≡ Some m)) [
          | true ↦ (h.mode, refl)
          | false ↦ rest
        ]

-- ---- who is in the way

excluding_mode : (o : Option Mode) (mode : Mode) → is_excluding o mode ≡ true → (held : Mode) × (o ≡ Some held) × (are_conflicting held mode ≡ true)
excluding_mode None mode e = absurd (cc)
excluding_mode (Some held) mode e = (held, refl, e)

blocker_blocks : (ss : List Seat) → AreApart ss → (who : ℕ) (key : LockKey) (mode : Mode) (w : ℕ) → IsBlocker who key mode ss w → HoldsOff (seats_table ss) who key mode w
blocker_blocks ss apart who key mode w b =
    let x = excluding_mode (mode_in b.grants.holds key) mode b.blocks in
    record {
      apart = b.apart;
      held = x.0;
      holds = mode_of-table ss apart w key ∙ (ap (λ o. mode_in (unwrap_or o no_grants).holds key) b.seat ∙ x.1);
      conflict = x.2;
    }

has_blocker : (P : ℕ → Type 0) (ss : List Seat) → AreApart ss → (who : ℕ) (key : LockKey) (mode : Mode) → All P (blockers who key mode ss) → (w : ℕ) → HoldsOff (seats_table ss) who key mode w → P w
has_blocker P ss apart who key mode all w b =
    let x = held_seat (seat_of ss w) key b.held (sym (mode_of-table ss apart w key) ∙ b.holds) in
    blocker_has who key mode P ss all w x.0 b.apart x.1 (ap (λ o. is_excluding o mode) x.2 ∙ b.conflict)

pub least_blocks : (ss : List Seat) → AreApart ss → (who : ℕ) (key : LockKey) (mode : Mode) (w : ℕ) → IsLeastOf (blockers who key mode ss) (Some w) → IsLeast (HoldsOff (seats_table ss) who key mode) w
least_blocks ss apart who key mode w least = record {
  here = blocker_blocks ss apart who key mode w (All-contains (IsBlocker who key mode ss) (blockers who key mode ss) w (all_block who key mode ss apart) least.0);
  least = λ v b. has_blocker (λ v. w ≤ v) ss apart who key mode least.1 v b;
}

pub none_blocks : (ss : List Seat) → AreApart ss → (who : ℕ) (key : LockKey) (mode : Mode) → IsLeastOf (blockers who key mode ss) None → (w : ℕ) → ¬ (HoldsOff (seats_table ss) who key mode w)
none_blocks ss apart who key mode none w b =
    has_blocker (λ _. ⊥) ss apart who key mode (subst (All (λ _. ⊥)) (sym none) (All-nil (λ _. ⊥))) w b

pub reads_block : (t : Table) (who : ℕ) (key : LockKey) (w : ℕ) → Reads t who key w → HoldsOff t who key Write w
reads_block t who key w r = record { apart = r.apart; held = Read; holds = r.holds; conflict = refl }

-- beside a Change there are only Reads
only_read : (m : Mode) → are_conflicting m Change ≢ true → m ≡ Read
only_read Share none = absurd (none refl)
only_read Change none = absurd (none refl)
only_read Write none = absurd (none refl)
only_read Read none = refl

pub least_reads : (t : Table) (who : ℕ) (key : LockKey) (w : ℕ) → IsConsistent t → mode_of t who key ≡ Some Change → IsLeast (HoldsOff t who key Write) w → IsLeast (Reads t who key) w
least_reads t who key w consistent change h =
    let b = h.here in
    let reads = only_read b.held (λ conflict. consistent key w who b.held Change b.apart b.holds change conflict) in
    record {
      here = record { apart = b.apart; holds = b.holds ∙ ap Some reads };
      least = λ v r. h.least v (reads_block t who key v r);
    }

-- ---- a hold is granted or raised

-- what is held after it was granted, or was held before
held_cases : (holds : finite.FinMap hold_cmp Mode) (key : LockKey) (who : ℕ) (mode : Mode) (k : LockKey) (w : ℕ) (m : Mode) → finite.get (finite.insert holds (key, who) mode) (k, w) ≡ Some m → ((w ≡ who) × ((k ≡ key) × (m ≡ mode))) ⊎ (finite.get holds (k, w) ≡ Some m)
held_cases holds key who mode k w m is =
    elim (cases_eq w who) [
      | inr ne ↦ inr (sym (get-insert_other holds key who mode k w ne) ∙ is)
      | inl e ↦ elim (same_or_not k key) [
        | inr ne ↦ inr (sym (get-insert hold_total holds (key, who) mode (k, w) ∙ ap (λ b. cond b (Some mode) (finite.get holds (k, w))) (keys_apart k key w who ne)) ∙ is)
        | inl f ↦
            let here : finite.get (finite.insert holds (key, who) mode) (k, w) ≡ Some mode = (λ i. finite.get (finite.insert holds (key, who) mode) (f i, e i)) ∙ get-insert_same holds (key, who) mode in
            let both : Some m ≡ Some mode = sym is ∙ here in
            let same : m ≡ mode = cc in
            inl (e, (f, same))
      ]
    ]

swapped : (m n : Mode) → are_conflicting m n ≡ are_conflicting n m
swapped Share Share = refl
swapped Share Change = refl
swapped Share Write = refl
swapped Share Read = refl
swapped Change Share = refl
swapped Change Change = refl
swapped Change Write = refl
swapped Change Read = refl
swapped Write Share = refl
swapped Write Change = refl
swapped Write Write = refl
swapped Write Read = refl
swapped Read Share = refl
swapped Read Change = refl
swapped Read Write = refl
swapped Read Read = refl

pub granted_consistent : (s t : Table) (who : ℕ) (key : LockKey) (mode : Mode) → IsConsistent s → ((w : ℕ) → ¬ (HoldsOff s who key mode w)) → t.holds ≡ finite.insert s.holds (key, who) mode → IsConsistent t
granted_consistent s t who key mode consistent free became k v w m n ne here there conflict =
    let old : (w : ℕ) (n : Mode) → mode_of t w k ≡ Some n → ((w ≡ who) × ((k ≡ key) × (n ≡ mode))) ⊎ (mode_of s w k ≡ Some n) = λ w n is. held_cases s.holds key who mode k w n (ap (λ h. finite.get h (k, w)) (sym became) ∙ is) in
    elim (old v m here) [
      | inl a ↦ elim (old w n there) [
        | inl b ↦ ne (a.0 ∙ sym b.0)
        | inr is ↦ free w (record {
          apart = λ e. ne (a.0 ∙ sym e);
          held = n;
          holds = ap (λ x. mode_of s w x) (sym a.1.0) ∙ is;
          conflict = swapped n mode ∙ (ap (λ x. are_conflicting x n) (sym a.1.1) ∙ conflict);
        })
      ]
      | inr is ↦ elim (old w n there) [
        | inl b ↦ free v (record {
          apart = λ e. ne (e ∙ sym b.0);
          held = m;
          holds = ap (λ x. mode_of s v x) (sym b.1.0) ∙ is;
          conflict = ap (are_conflicting m) (sym b.1.1) ∙ conflict;
        })
        | inr older ↦ consistent k v w m n ne is older conflict
      ]
    ]

-- the number holds one more key, or a key in another mode
pub holds_grown : (ss ts : List Seat) → AreApart ss → (who : ℕ) (key : LockKey) (mode : Mode) (g : Grants) → ((k : LockKey) → mode_in g.holds k ≡ cond (eq_by_cmp key_cmp k key) (Some mode) (mode_in (grants_of ss who).holds k)) → ts ≡ seated who g ss → (seats_table ts).holds ≡ finite.insert (seats_table ss).holds (key, who) mode
holds_grown ss ts apart who key mode g modes is =
    same_map hold_total hold_exact (seats_table ts).holds (finite.insert (seats_table ss).holds (key, who) mode) (λ q. at q.0 q.1)
  where
    pick : (k : LockKey) (w : ℕ) (b : Bool) → eqb w who ≡ b → mode_in (cond b g (grants_of ss w)).holds k ≡ cond (eq_by_cmp key_cmp k key && b) (Some mode) (mode_in (grants_of ss w).holds k)
    pick k w true e =
        subst (λ v. mode_in g.holds k ≡ cond (eq_by_cmp key_cmp k key && true) (Some mode) (mode_in (grants_of ss v).holds k)) (sym (eqb-true w who e))
        (modes k ∙ ap (λ b. cond b (Some mode) (mode_in (grants_of ss who).holds k)) (sym (and_true (eq_by_cmp key_cmp k key))))
    pick k w false e = ap (λ b. cond b (Some mode) (mode_in (grants_of ss w).holds k)) (sym (and_false (eq_by_cmp key_cmp k key)))

    at : (k : LockKey) (w : ℕ) → finite.get (seats_table ts).holds (k, w) ≡ finite.get (finite.insert (seats_table ss).holds (key, who) mode) (k, w)
    at k w =
        ap (λ l. mode_of (seats_table l) w k) is
        ∙ mode_of-table (seated who g ss) (apart-seated who g ss apart) w k
        ∙ ap (λ x. mode_in x.holds k) (grants_of-seated who g ss w)
        ∙ pick k w (eqb w who) refl
        ∙ ap (λ b. cond b (Some mode) (mode_in (grants_of ss w).holds k)) (sym (hold_ties k key w who))
        ∙ ap (cond (eq_by_cmp hold_cmp (k, w) (key, who)) (Some mode)) (sym (mode_of-table ss apart w k))
        ∙ sym (get-insert hold_total (seats_table ss).holds (key, who) mode (k, w))

-- what other numbers hold and may take stays
pub other_mode : (ss ts : List Seat) → AreApart ss → (who : ℕ) (g : Grants) → ts ≡ seated who g ss → (w : ℕ) → w ≢ who → (k : LockKey) → mode_of (seats_table ts) w k ≡ mode_of (seats_table ss) w k
other_mode ss ts apart who g is w ne k =
    ap (λ l. mode_of (seats_table l) w k) is
    ∙ mode_of-table (seated who g ss) (apart-seated who g ss apart) w k
    ∙ ap (λ x. mode_in x.holds k) (grants_of-seated who g ss w ∙ ap (λ b. cond b g (grants_of ss w)) (ne_eqb w who ne))
    ∙ sym (mode_of-table ss apart w k)

pub other_room : (ss ts : List Seat) (who : ℕ) (g : Grants) → ts ≡ seated who g ss → (w : ℕ) → w ≢ who → room_of (seats_table ts) w ≡ room_of (seats_table ss) w
other_room ss ts who g is w ne =
    ap (λ l. room_of (seats_table l) w) is
    ∙ room_of-table (seated who g ss) w
    ∙ ap (λ x. x.places) (grants_of-seated who g ss w ∙ ap (λ b. cond b g (grants_of ss w)) (ne_eqb w who ne))
    ∙ sym (room_of-table ss w)

pub own_grants : (ss ts : List Seat) (who : ℕ) (g : Grants) → ts ≡ seated who g ss → grants_of ts who ≡ g
own_grants ss ts who g is = ap (λ l. grants_of l who) is ∙ grants_of-seated who g ss who ∙ ap (λ b. cond b g (grants_of ss who)) (eq-eqb who who refl)

-- a list of numbers stays sound where one has other keys or places
pub seated_sound : (ss ts : SmallVec Seat) (who : ℕ) (g : Grants) → AreSeats ss → ts.items ≡ seated who g ss.items → ts.capacity ≡ ss.capacity → (seat_of ss.items who ≡ None → HasRoomFor ss 1) → IsListed (seats_table ts.items) who → IsConsistent (seats_table ts.items) → AreSeats ts
seated_sound ss ts who g sound is inline fits listed consistent = record {
  apart = subst AreApart (sym is) (apart-seated who g ss.items sound.apart);
  few = few;
  inline = inline ∙ sound.inline;
  used = λ w here. elim (cases_eq w who) [
    | inl e ↦ subst (IsListed (seats_table ts.items)) (sym e) listed
    | inr ne ↦ elim (sound.used w (ap is_some (sym (seat_of-seated who g ss.items w ∙ ap (λ b. cond b (Some g) (seat_of ss.items w)) (ne_eqb w who ne))) ∙ (ap (λ l. is_some (seat_of l w)) (sym is) ∙ here))) [
      | inl some ↦ inl (subst (λ n. 0 < n) (sym (other_room ss.items ts.items who g is w ne)) some)
      | inr held ↦ inr (held.0, held.1, other_mode ss.items ts.items sound.apart who g is w ne held.0 ∙ held.2)
    ]
  ];
  consistent = consistent;
}
  where
    none_of : (o : Option Grants) → is_some o ≡ false → o ≡ None
    none_of None e = refl
    none_of (Some n) e = absurd (cc)

    few : length ts.items ≤ MAX_NUMBERS
    few =
        let size = ap length is in
        let now = length-map (seated who g ss.items) (λ (s : Seat). s.who) in
        let old = length-map ss.items (λ (s : Seat). s.who) in
        let most = sound.few in
        elim (numbers-seated who g ss.items) [
          | inl same ↦ let count = ap length same in omega arith
          | inr new ↦
              let count = ap length new.1 in
              let one = length-append (map (λ (s : Seat). s.who) ss.items) (who ∷ []) in
              let cap = sound.inline in
              let room = fits (none_of (seat_of ss.items who) (is_some-seat_of ss.items who ∙ new.0)) in
              omega arith
        ]

-- ---- a number asks

pub asked_modes : (ss : List Seat) → AreApart ss → (who : ℕ) (key : LockKey) (mode : Mode) → IsAboveKeysOf (seats_table ss) who key → (k : LockKey) → mode_in (granted key mode (grants_of ss who)).holds k ≡ cond (eq_by_cmp key_cmp k key) (Some mode) (mode_in (grants_of ss who).holds k)
asked_modes ss apart who key mode above k = mode_granted (grants_of ss who).holds key mode k (above_all ss apart who key above)

-- a number with places is in the list
pub seated_there : (ss : List Seat) (who : ℕ) → 0 < room_of (seats_table ss) who → seat_of ss who ≢ None
seated_there ss who some none =
    let zero_room : room_of (seats_table ss) who ≡ 0 = room_of-table ss who ∙ ap (λ o. (unwrap_or o no_grants).places) none in
    omega arith

pub asked_gains : (ss ts : List Seat) → AreApart ss → (who : ℕ) (key : LockKey) (mode : Mode) → 0 < room_of (seats_table ss) who → IsAboveKeysOf (seats_table ss) who key → ts ≡ with_hold who key mode ss → Gains (seats_table ss) (seats_table ts) who key mode
asked_gains ss ts apart who key mode some above is =
    let old = room_of-table ss who in
    let new : room_of (seats_table ts) who ≡ (grants_of ss who).places - 1 = room_of-table ts who ∙ ap (λ g. g.places) (own_grants ss ts who (granted key mode (grants_of ss who)) is) in
    record {
      holds = holds_grown ss ts apart who key mode (granted key mode (grants_of ss who)) (asked_modes ss apart who key mode above) is;
      room = omega arith;
      others = λ w ne. other_room ss ts who (granted key mode (grants_of ss who)) is w ne;
    }

pub asked_sound : (ss ts : SmallVec Seat) (who : ℕ) (key : LockKey) (mode : Mode) → AreSeats ss → 0 < room_of (seats_table ss.items) who → Gains (seats_table ss.items) (seats_table ts.items) who key mode → ts.items ≡ with_hold who key mode ss.items → ts.capacity ≡ ss.capacity → ((w : ℕ) → ¬ (HoldsOff (seats_table ss.items) who key mode w)) → AreSeats ts
asked_sound ss ts who key mode sound some gains is inline free =
    seated_sound ss ts who (granted key mode (grants_of ss.items who)) sound is inline
    (λ none. absurd (seated_there ss.items who some none))
    (inr (key, mode, ap (λ h. finite.get h (key, who)) gains.holds ∙ get-insert_same (seats_table ss.items).holds (key, who) mode))
    (granted_consistent (seats_table ss.items) (seats_table ts.items) who key mode sound.consistent free gains.holds)

-- ---- a number raises a hold

pub raised_rises : (ss ts : List Seat) → AreApart ss → (who : ℕ) (key : LockKey) → mode_of (seats_table ss) who key ≡ Some Change → RaisesAt who key ss ts → Rises (seats_table ss) (seats_table ts) who key
raised_rises ss ts apart who key held r = record {
  holds = holds_grown ss ts apart who key Write r.grants r.raised.modes r.seats;
  rooms = same_map nat_cmp_total nat_cmp-IsAntisymmetric (seats_table ts).rooms (seats_table ss).rooms (λ w.
      rooms_of-table ts w ∙ (ap (λ l. places_in (seat_of l w)) r.seats ∙ (ap places_in (seat_of-seated who r.grants ss w) ∙ (stays w (eqb w who) refl ∙ sym (rooms_of-table ss w)))));
}
  where
    there : (g : Grants) × (seat_of ss who ≡ Some g) × (mode_in g.holds key ≡ Some Change)
    there = held_seat (seat_of ss who) key Change (sym (mode_of-table ss apart who key) ∙ held)

    stays : (w : ℕ) (b : Bool) → eqb w who ≡ b → places_in (cond b (Some r.grants) (seat_of ss w)) ≡ places_in (seat_of ss w)
    stays w false e = refl
    stays w true e =
        ap Some (r.raised.places ∙ ap (λ o. (unwrap_or o no_grants).places) there.1)
        ∙ sym (ap places_in (ap (seat_of ss) (eqb-true w who e) ∙ there.1))

pub raised_sound : (ss ts : SmallVec Seat) (who : ℕ) (key : LockKey) → AreSeats ss → mode_of (seats_table ss.items) who key ≡ Some Change → Rises (seats_table ss.items) (seats_table ts.items) who key → RaisesAt who key ss.items ts.items → ts.capacity ≡ ss.capacity → ((w : ℕ) → ¬ (HoldsOff (seats_table ss.items) who key Write w)) → AreSeats ts
raised_sound ss ts who key sound held rises r inline free =
    seated_sound ss ts who r.grants sound r.seats inline
    (λ none. absurd (some_none Change (sym (sym (mode_of-table ss.items sound.apart who key ∙ ap (λ o. mode_in (unwrap_or o no_grants).holds key) none) ∙ held))))
    (inr (key, Write, ap (λ h. finite.get h (key, who)) rises.holds ∙ get-insert_same (seats_table ss.items).holds (key, who) Write))
    (granted_consistent (seats_table ss.items) (seats_table ts.items) who key Write sound.consistent free rises.holds)

-- ---- a number gets room

pub seat_left : (ss : SmallVec Seat) (who : ℕ) → AreSeats ss → HasSeatFor (seats_table ss.items) who → seat_of ss.items who ≡ None → HasRoomFor ss 1
seat_left ss who sound seat none =
    let numbers : List ℕ = map (λ (s : Seat). s.who) ss.items in
    let each : (w : ℕ) → list_any (nat_eq w) numbers ≡ true → (w ≢ who) × IsListed (seats_table ss.items) w = λ w there. (
      (λ e. let both : is_some (seat_of ss.items who) ≡ true = is_some-seat_of ss.items who ∙ subst (λ v. list_any (nat_eq v) numbers ≡ true) e there in let gone = ap is_some none in absurd (cc)),
      sound.used w (is_some-seat_of ss.items w ∙ there),
    ) in
    let few = seat numbers sound.apart (All-weaker (λ w. list_any (nat_eq w) numbers ≡ true) (λ w. (w ≢ who) × IsListed (seats_table ss.items) w) each numbers (All-is_member nat_eq_equiv numbers)) in
    let size = length-map ss.items (λ (s : Seat). s.who) in
    let inline = sound.inline in
    omega arith

room_gains : (ss ts : List Seat) → AreApart ss → (who count : ℕ) → ts ≡ seated who (roomier count (grants_of ss who)) ss → GainsRoom (seats_table ss) (seats_table ts) who count
room_gains ss ts apart who count is = record {
  holds = same_map hold_total hold_exact (seats_table ts).holds (seats_table ss).holds (λ q. at q.0 q.1);
  room = room_of-table ts who ∙ (ap (λ g. g.places) (own_grants ss ts who (roomier count (grants_of ss who)) is) ∙ ap (λ n. n + count) (sym (room_of-table ss who)));
  others = λ w ne. other_room ss ts who (roomier count (grants_of ss who)) is w ne;
}
  where
    at : (k : LockKey) (w : ℕ) → mode_of (seats_table ts) w k ≡ mode_of (seats_table ss) w k
    at k w = elim (cases_eq w who) [
      | inr ne ↦ other_mode ss ts apart who (roomier count (grants_of ss who)) is w ne k
      | inl e ↦
          ap (λ v. mode_of (seats_table ts) v k) e
          ∙ mode_of-table ts (subst AreApart (sym is) (apart-seated who (roomier count (grants_of ss who)) ss apart)) who k
          ∙ ap (λ g. mode_in g.holds k) (own_grants ss ts who (roomier count (grants_of ss who)) is)
          ∙ sym (mode_of-table ss apart who k)
          ∙ ap (λ v. mode_of (seats_table ss) v k) (sym e)
    ]

pub same_consistent : (s t : Table) → IsConsistent s → t.holds ≡ s.holds → IsConsistent t
same_consistent s t consistent same k v w m n ne here there =
    consistent k v w m n ne (ap (λ h. finite.get h (k, v)) (sym same) ∙ here) (ap (λ h. finite.get h (k, w)) (sym same) ∙ there)

room_sound : (ss ts : SmallVec Seat) (who count : ℕ) → AreSeats ss → HasSeatFor (seats_table ss.items) who → 0 < count → GainsRoom (seats_table ss.items) (seats_table ts.items) who count → ts.items ≡ seated who (roomier count (grants_of ss.items who)) ss.items → ts.capacity ≡ ss.capacity → AreSeats ts
room_sound ss ts who count sound seat some gains is inline =
    let room = gains.room in
    seated_sound ss ts who (roomier count (grants_of ss.items who)) sound is inline
    (λ none. seat_left ss who sound seat none)
    (inl (omega arith))
    (same_consistent (seats_table ss.items) (seats_table ts.items) sound.consistent gains.holds)

sound_still : (ss ts : SmallVec Seat) → AreSeats ss → ts.items ≡ ss.items → ts.capacity ≡ ss.capacity → AreSeats ts
sound_still ss ts sound items capacity =
    let same : ts ≡ ss = λ i. record { items = items i; capacity = capacity i } in
    subst AreSeats (sym same) sound

-- what a call for room does, and that it keeps
pub room_given : (ss ts : SmallVec Seat) (who count : ℕ) → AreSeats ss → HasSeatFor (seats_table ss.items) who → ts.items ≡ with_places who count ss.items → ts.capacity ≡ ss.capacity → GainsRoom (seats_table ss.items) (seats_table ts.items) who count × AreSeats ts
room_given ss ts who count sound seat is inline =
    elim (cases_eq count 0) [
      | inl none ↦
          let stays : ts.items ≡ ss.items = is ∙ ap (λ b. cond b ss.items (seated who (roomier count (grants_of ss.items who)) ss.items)) (eq-eqb count 0 none) in
          let room = ap (λ l. room_of (seats_table l) who) stays in (
            record {
              holds = ap (λ l. (seats_table l).holds) stays;
              room = omega arith;
              others = λ w ne. ap (λ l. room_of (seats_table l) w) stays;
            },
            sound_still ss ts sound stays inline,
          )
      | inr ne ↦
          let grows : ts.items ≡ seated who (roomier count (grants_of ss.items who)) ss.items = is ∙ ap (λ b. cond b ss.items (seated who (roomier count (grants_of ss.items who)) ss.items)) (ne_eqb count 0 ne) in
          let gains = room_gains ss.items ts.items sound.apart who count grows in
          (gains, room_sound ss ts who count sound seat (some count ne) gains grows inline)
    ]
  where
    some : (n : ℕ) → n ≢ 0 → 0 < n
    some zero ne = absurd (ne refl)
    some (suc n) ne = omega arith

-- the call succeeded or changed nothing
pub room_sound_always : {T E : Type 0} (r : Result T E) (ss ts : SmallVec Seat) (who count : ℕ) → AreSeats ss → HasSeatFor (seats_table ss.items) who → OnOk r (ts.items ≡ with_places who count ss.items) → OnErr r (ts.items ≡ ss.items) → ts.capacity ≡ ss.capacity → AreSeats ts
room_sound_always (Ok x) ss ts who count sound seat ok err inline = (room_given ss ts who count sound seat ok inline).1
room_sound_always (Err x) ss ts who count sound seat ok err inline = sound_still ss ts sound err inline

-- ---- a number leaves

pub left_is : (ss ts : List Seat) → AreApart ss → (who : ℕ) → ts ≡ left_by who ss → Leaves (seats_table ss) (seats_table ts) who
left_is ss ts apart who is = record {
  holds = same_map hold_total hold_exact (seats_table ts).holds (finite.retain_keys (seats_table ss).holds (λ hold. not (hold.1 == who))) (λ q. at q.0 q.1);
  rooms = same_map nat_cmp_total nat_cmp-IsAntisymmetric (seats_table ts).rooms (finite.remove (seats_table ss).rooms who) (λ w.
      rooms_of-table ts w
      ∙ (ap (λ l. places_in (seat_of l w)) is ∙ (ap places_in (seat_of-left who ss w) ∙ (gone (eqb w who) (seat_of ss w)
      ∙ (ap (λ b. cond b None (places_in (seat_of ss w))) (sym (nat_ties w who))
      ∙ sym (get-remove nat_cmp_total (seats_table ss).rooms who w ∙ ap (cond (eq_by_cmp nat_cmp w who) None) (rooms_of-table ss w)))))));
}
  where
    gone : (b : Bool) (o : Option Grants) → places_in (cond b None o) ≡ cond b None (places_in o)
    gone true o = refl
    gone false o = refl

    pick : (k : LockKey) (b : Bool) (g : Grants) → mode_in (cond b no_grants g).holds k ≡ cond (not b) (mode_in g.holds k) None
    pick k true g = refl
    pick k false g = refl

    at : (k : LockKey) (w : ℕ) → mode_of (seats_table ts) w k ≡ finite.get (finite.retain_keys (seats_table ss).holds (λ hold. not (hold.1 == who))) (k, w)
    at k w =
        ap (λ l. mode_of (seats_table l) w k) is
        ∙ mode_of-table (left_by who ss) (apart-left who ss apart) w k
        ∙ ap (λ g. mode_in g.holds k) (grants_of-left who ss w)
        ∙ pick k (eqb w who) (grants_of ss w)
        ∙ ap (λ o. cond (not (w == who)) o None) (sym (mode_of-table ss apart w k))
        ∙ sym (get-left (seats_table ss).holds who (k, w))

kept_some : (b : Bool) (o : Option Mode) (m : Mode) → cond (not b) o None ≡ Some m → (b ≡ false) × (o ≡ Some m)
kept_some true o m is = absurd (some_none m (sym is))
kept_some false o m is = (refl, is)

pub left_consistent : (s t : Table) (who : ℕ) → Leaves s t who → IsConsistent s → IsConsistent t
left_consistent s t who leaves consistent k v w m n ne here there =
    let old : (w : ℕ) (m : Mode) → mode_of t w k ≡ Some m → mode_of s w k ≡ Some m = λ w m is. (kept_some (w == who) (mode_of s w k) m (sym (ap (λ h. finite.get h (k, w)) leaves.holds ∙ get-left s.holds who (k, w)) ∙ is)).1 in
    consistent k v w m n ne (old v m here) (old w n there)

pub left_sound : (ss ts : SmallVec Seat) (who : ℕ) → AreSeats ss → Leaves (seats_table ss.items) (seats_table ts.items) who → ts.items ≡ left_by who ss.items → ts.capacity ≡ ss.capacity → AreSeats ts
left_sound ss ts who sound leaves is inline =
    let size = ap length is in
    let fewer = length-left who ss.items in
    let few = sound.few in
    record {
      apart = subst AreApart (sym is) (apart-left who ss.items sound.apart);
      few = omega arith;
      inline = inline ∙ sound.inline;
      used = λ w here.
          let kept = stays w (eqb w who) refl here in
          elim (sound.used w kept.1) [
            | inl some ↦ inl (subst (λ n. 0 < n) (sym (ap (λ l. room_of (seats_table l) w) is ∙ (room_of-table (left_by who ss.items) w ∙ (ap (λ g. g.places) (same w kept.0) ∙ sym (room_of-table ss.items w))))) some)
            | inr held ↦ inr (held.0, held.1, ap (λ l. mode_of (seats_table l) w held.0) is ∙ (mode_of-table (left_by who ss.items) (apart-left who ss.items sound.apart) w held.0 ∙ (ap (λ g. mode_in g.holds held.0) (same w kept.0) ∙ (sym (mode_of-table ss.items sound.apart w held.0) ∙ held.2))))
          ];
      consistent = left_consistent (seats_table ss.items) (seats_table ts.items) who leaves sound.consistent;
    }
  where
    same : (w : ℕ) → eqb w who ≡ false → grants_of (left_by who ss.items) w ≡ grants_of ss.items w
    same w e = grants_of-left who ss.items w ∙ ap (λ b. cond b no_grants (grants_of ss.items w)) e

    kept_is_some : (b : Bool) (o : Option Grants) → is_some (cond b None o) ≡ true → (b ≡ false) × (is_some o ≡ true)
    kept_is_some true o e = absurd (cc)
    kept_is_some false o e = (refl, e)

    stays : (w : ℕ) (b : Bool) → eqb w who ≡ b → is_some (seat_of ts.items w) ≡ true → (eqb w who ≡ false) × (is_some (seat_of ss.items w) ≡ true)
    stays w b e here = kept_is_some (eqb w who) (seat_of ss.items w) (ap is_some (sym (seat_of-left who ss.items w)) ∙ (ap (λ l. is_some (seat_of l w)) (sym is) ∙ here))

-- ---- the new table

nothing_apart : AreApart []
unfolding IsDistinct
nothing_apart = tt

pub new_consistent : (ss : List Seat) → ss ≡ [] → IsConsistent (seats_table ss)
new_consistent ss none k v w m n ne here there =
    absurd (some_none m (sym (ap (λ l. mode_of (seats_table l) v k) (sym none) ∙ here) ∙ mode_of-table [] nothing_apart v k))

pub new_sound : (ss : SmallVec Seat) → ss.items ≡ [] → ss.capacity ≡ MAX_NUMBERS → AreSeats ss
new_sound ss none cap =
    let size = ap length none in
    record {
      apart = subst AreApart (sym none) nothing_apart;
      few = omega arith;
      inline = cap;
      used = λ w here. let gone : is_some (seat_of ss.items w) ≡ false = ap (λ l. is_some (seat_of l w)) none in absurd (cc);
      consistent = new_consistent ss.items none;
    }
