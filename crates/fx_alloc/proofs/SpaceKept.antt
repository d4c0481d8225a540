-- The parts of an allocator fit one another after each change.
use Rattle.std.proofs.Common.{◌≡◌, ℕ, ◌+◌, ◌<◌, ◌≤◌, ◌^◌, Bool, true, false, cond, ◌&&◌, ◌==◌, Some, None, eqb, List, [], ◌∷◌, ◌++◌, length, get_or, set, map, count_by, take, drop, not, Option, IsSome, refl, sym, ◌∙◌, ap, subst, arith, length-set, inl, inr}
use Rattle.std.proofs.lemmas.List.{get_or-set_same, get_or-set_other, get_or_default, take-append-le, take_all}
use Rattle.std.proofs.lemmas.List.Sums.{sum_by-set, sum_by-cons}
use Rattle.std.proofs.lemmas.Bool.{cases_eq, true≢false, eqb-false, ne_eqb}
use Rattle.std.proofs.Math.Seq.{map-set_same}
use Rattle.fx_item.specs.declared.space.TheConstants.{MAX_GIVEN}
use Rattle.fx_alloc.specs.declared.uses.Use.{Use}
use Rattle.fx_alloc.specs.declared.uses.Use.TheVariants.{System, Drawn}
use Rattle.fx_alloc.specs.declared.uses.Waiting.{Waiting}
use Rattle.fx_alloc.specs.declared.holders.Holder.{Holder}
use Rattle.fx_alloc.specs.declared.holders.TheConstants.{VACANT}
use Rattle.fx_alloc.specs.declared.chain.Chain.{Chain}
use Rattle.fx_alloc.specs.Uses.{is_free, is_drawn_by, is_laid, put_all}
use Rattle.fx_alloc.specs.Space.{holder_at, undrawn, drawn, held_nodes, held_attributes, left_aside, turned, sitting, CanReserve}
use Rattle.fx_item.specs.declared.space.Need.{Need}
use Rattle.fx_alloc.specs.Pins.{PinTable}
use Rattle.fx_alloc.specs.Holders.{sits_on, held_seat, vacant_seat, needing}
use Rattle.fx_alloc.proofs.Positions.{position-some, position-none}
use Rattle.fx_alloc.specs.Inside.{IsDrawn, AreHolders, IsSpace}
use Rattle.fx_alloc.specs.Uses.{AreUsed}
use Rattle.fx_alloc.proofs.UseLists.{moved, within, AreUsed-less, AreUsed-first, one_of, none_of}

-- ---- the test of a seat

pub same_seat : (s : ℕ) → is_drawn_by s (Drawn s) ≡ true
same_seat s = told (eqb s s) refl
  where
    told : (b : Bool) → eqb s s ≡ b → b ≡ true
    told true e = refl
    told false e = absurd (eqb-false s s e refl)

pub other_seat : (s t : ℕ) → (s ≡ t → ⊥) → is_drawn_by s (Drawn t) ≡ false
other_seat s t n = ne_eqb t s (λ e. n (sym e))

-- ---- what was drawn from a seat gets another use

same_where_none : (seat : ℕ) (to x : Use) → is_drawn_by seat x ≡ false → turned seat to x ≡ x
same_where_none seat to x e = ap (λ (b : Bool). cond b to x) e

none_turned : (seat : ℕ) (to : Use) (us : List Use) → count_by (is_drawn_by seat) us ≡ 0 → map (turned seat to) us ≡ us
none_turned seat to [] e = refl
none_turned seat to (x ∷ xs) e =
    let s : count_by (is_drawn_by seat) (x ∷ xs) ≡ cond (is_drawn_by seat x) 1 0 + count_by (is_drawn_by seat) xs = sum_by-cons (λ y. cond (is_drawn_by seat y) 1 0) x xs in
    let n : is_drawn_by seat x ≡ false = not_one (is_drawn_by seat x) (omega arith) in
    let r : map (turned seat to) xs ≡ xs = none_turned seat to xs (omega arith) in
    ap (λ (y : Use). y ∷ map (turned seat to) xs) (same_where_none seat to x n) ∙ ap (λ (ys : List Use). x ∷ ys) r
  where
    not_one : (b : Bool) → cond {A = ℕ} b 1 0 ≡ 0 → b ≡ false
    not_one true h = absurd (omega arith)
    not_one false h = refl

turned-to : (seat : ℕ) (to : Use) → turned seat to to ≡ to
turned-to seat to = both (is_drawn_by seat to)
  where
    both : (b : Bool) → cond b to to ≡ to
    both true = refl
    both false = refl

turned-drawn : (seat : ℕ) (to x : Use) → x ≡ Drawn seat → turned seat to x ≡ to
turned-drawn seat to x e = ap (λ (b : Bool). cond b to x) (ap (λ (y : Use). is_drawn_by seat y) e ∙ same_seat seat)

pub put_all-turned : (seat : ℕ) (to : Use) (bs : List ℕ) (us : List Use) → is_drawn_by seat to ≡ false → AreUsed (Drawn seat) us bs → count_by (is_drawn_by seat) us ≡ length bs → put_all to bs us ≡ map (turned seat to) us
unfolding put_all
put_all-turned seat to [] us n h e = sym (none_turned seat to us e)
put_all-turned seat to (b ∷ bs) us n h e =
    let f : count_by (is_drawn_by seat) (set us b to) + cond (is_drawn_by seat (Drawn seat)) 1 0 ≡ count_by (is_drawn_by seat) us + cond (is_drawn_by seat to) 1 0 = moved (is_drawn_by seat) us b (Drawn seat) to (within us b (Drawn seat) (AreUsed-first (Drawn seat) us b bs h) (λ x. cc)) (AreUsed-first (Drawn seat) us b bs h) in
    let g : cond {A = ℕ} (is_drawn_by seat (Drawn seat)) 1 0 ≡ 1 = one_of (is_drawn_by seat (Drawn seat)) (same_seat seat) in
    let k : cond {A = ℕ} (is_drawn_by seat to) 1 0 ≡ 0 = none_of (is_drawn_by seat to) n in
    put_all-turned seat to bs (set us b to) n (AreUsed-less (Drawn seat) to us b bs h) (omega arith)
    ∙ map-set_same (turned seat to) us b to System (turned-to seat to ∙ sym (turned-drawn seat to (get_or us b System) (AreUsed-first (Drawn seat) us b bs h)))

-- ---- what is held changes, and nothing that was drawn

pub at_seat : (holders : List Holder) (seat : ℕ) (h : Holder) → seat < length holders → holder_at (set holders seat h) seat ≡ h
at_seat holders seat h l = get_or-set_same holders seat h VACANT l

pub at_others : (holders : List Holder) (seat j : ℕ) (h : Holder) → (j ≡ seat → ⊥) → holder_at (set holders seat h) j ≡ holder_at holders j
at_others holders seat j h n = get_or-set_other holders seat j h VACANT n

-- nobody else has the number
abbrev pub IsAlone : List Holder → ℕ → Holder → Type 0
IsAlone holders seat h = (j : ℕ) → j < 32 → (j ≡ seat → ⊥) → h.sits ≡ true → (holder_at holders j).sits ≡ true → h.who ≡ (holder_at holders j).who → ⊥

pub AreHolders-set : (holders : List Holder) (heads heads2 : List ℕ) (seat : ℕ) (h : Holder) → AreHolders holders heads → seat < 32 → length heads2 ≡ 32 → IsAlone holders seat h → (h.sits ≡ false → h ≡ VACANT) → held_nodes (set holders seat h) < 2 ^ 33 → held_attributes (set holders seat h) < 2 ^ 34 → AreHolders (set holders seat h) heads2
AreHolders-set holders heads heads2 seat h a l e alone v n m = record {
  seats = length-set holders seat h ∙ a.seats;
  heads_len = e;
  apart = apart;
  vacant = vacant;
  nodes = n;
  attributes = m;
}
  where
    here : holder_at (set holders seat h) seat ≡ h
    here = at_seat holders seat h (omega (arith, a.seats, l))

    vacant : (i : ℕ) → (holder_at (set holders seat h) i).sits ≡ false → holder_at (set holders seat h) i ≡ VACANT
    vacant i si = elim (cases_eq i seat) [
      | inl ei ↦ (let hi : holder_at (set holders seat h) i ≡ h = ap (λ k. holder_at (set holders seat h) k) ei ∙ here in
          hi ∙ v (sym (ap (λ (x : Holder). x.sits) hi) ∙ si))
      | inr ni ↦ (let hi : holder_at (set holders seat h) i ≡ holder_at holders i = at_others holders seat i h ni in
          hi ∙ a.vacant i (sym (ap (λ (x : Holder). x.sits) hi) ∙ si))
    ]

    apart : (i j : ℕ) → i < 32 → j < 32 → (holder_at (set holders seat h) i).sits ≡ true → (holder_at (set holders seat h) j).sits ≡ true → (holder_at (set holders seat h) i).who ≡ (holder_at (set holders seat h) j).who → i ≡ j
    apart i j li lj si sj w =
        elim (cases_eq i seat) [
          | inl ei ↦ (elim (cases_eq j seat) [
            | inl ej ↦ ei ∙ sym ej
            | inr nj ↦ (let hi : holder_at (set holders seat h) i ≡ h = ap (λ k. holder_at (set holders seat h) k) ei ∙ here in
                let hj : holder_at (set holders seat h) j ≡ holder_at holders j = at_others holders seat j h nj in
                absurd (alone j lj nj (sym (ap (λ (x : Holder). x.sits) hi) ∙ si) (sym (ap (λ (x : Holder). x.sits) hj) ∙ sj)
                (sym (ap (λ (x : Holder). x.who) hi) ∙ w ∙ ap (λ (x : Holder). x.who) hj)))
          ])
          | inr ni ↦ (let hi : holder_at (set holders seat h) i ≡ holder_at holders i = at_others holders seat i h ni in
              elim (cases_eq j seat) [
                | inl ej ↦ (let hj : holder_at (set holders seat h) j ≡ h = ap (λ k. holder_at (set holders seat h) k) ej ∙ here in
                    absurd (alone i li ni (sym (ap (λ (x : Holder). x.sits) hj) ∙ sj) (sym (ap (λ (x : Holder). x.sits) hi) ∙ si)
                    (sym (ap (λ (x : Holder). x.who) hj) ∙ sym w ∙ ap (λ (x : Holder). x.who) hi)))
                | inr nj ↦ (let hj : holder_at (set holders seat h) j ≡ holder_at holders j = at_others holders seat j h nj in
                    a.apart i j li lj (sym (ap (λ (x : Holder). x.sits) hi) ∙ si) (sym (ap (λ (x : Holder). x.sits) hj) ∙ sj)
                    (sym (ap (λ (x : Holder). x.who) hi) ∙ w ∙ ap (λ (x : Holder). x.who) hj))
              ])
        ]

-- who stays is alone as before
pub IsAlone-same : (holders : List Holder) (heads : List ℕ) (seat : ℕ) (h : Holder) → AreHolders holders heads → seat < 32 → h.sits ≡ (holder_at holders seat).sits → h.who ≡ (holder_at holders seat).who → IsAlone holders seat h
IsAlone-same holders heads seat h a l es ew j lj n s t w = n (sym (a.apart seat j l lj (sym es ∙ s) t (sym ew ∙ w)))

pub IsAlone-vacant : (holders : List Holder) (seat : ℕ) → IsAlone holders seat VACANT
IsAlone-vacant holders seat j lj n s t w = true≢false (sym s)

pub IsSpace-needs : {uses : List Use} {links : List ℕ} {ring given free live pinned : ℕ} {holders : List Holder} {heads : List ℕ} {layers laid : Chain} {waiting : List Waiting} {aside : Option ℕ}
    → (given2 seat : ℕ) (h : Holder) → IsSpace uses links ring given free live pinned holders heads layers laid waiting aside
    → seat < 32 → h.drawn ≡ (holder_at holders seat).drawn → IsAlone holders seat h → (h.sits ≡ false → h ≡ VACANT)
    → held_nodes (set holders seat h) < 2 ^ 33 → held_attributes (set holders seat h) < 2 ^ 34 → given2 ≤ MAX_GIVEN
    → undrawn (set holders seat h) + left_aside aside laid.len ≤ free
    → IsSpace uses links ring given2 free live pinned (set holders seat h) heads layers laid waiting aside
IsSpace-needs {uses} {links} {ring} {given} {free} {live} {pinned} {holders} {heads} {layers} {laid} {waiting} {aside} given2 seat h s l e alone v n m g f =
    let sum : drawn (set holders seat h) + (holder_at holders seat).drawn ≡ drawn holders + h.drawn = sum_by-set (λ x. x.drawn) holders seat h VACANT (omega (arith, s.seats.seats, l)) in
    record {
      small = s.small;
      linked = s.linked;
      ids = g;
      counts = record {
        of_system = s.counts.of_system;
        of_free = s.counts.of_free;
        of_live = s.counts.of_live;
        of_freed = s.counts.of_freed;
        of_layers = s.counts.of_layers;
        of_laid = s.counts.of_laid;
        of_pinned = s.counts.of_pinned;
        of_all = (let a = s.counts.of_all in omega (arith, a, sum, e));
      };
      seats = AreHolders-set holders heads heads seat h s.seats l s.seats.heads_len alone v n m;
      of_seats = λ t. subst (λ (k : ℕ). IsDrawn uses links (get_or heads t 0) k t) (sym (same_drawn t)) (s.of_seats t);
      of_layers = s.of_layers;
      of_laid = s.of_laid;
      of_freed = s.of_freed;
      rising = s.rising;
      few_laid = s.few_laid;
      fits = f;
    }
  where
    same_drawn : (t : ℕ) → (holder_at (set holders seat h) t).drawn ≡ (holder_at holders t).drawn
    same_drawn t = elim (cases_eq t seat) [
      | inl q ↦ ap (λ k. (holder_at (set holders seat h) k).drawn) q ∙ ap (λ (x : Holder). x.drawn) (at_seat holders seat h (omega (arith, s.seats.seats, l))) ∙ e ∙ ap (λ k. (holder_at holders k).drawn) (sym q)
      | inr q ↦ ap (λ (x : Holder). x.drawn) (at_others holders seat t h q)
    ]

and_first : (a b : Bool) → (a && b) ≡ true → a ≡ true
and_first true b e = refl
and_first false b e = e

sits_here : (who : ℕ) (h : Holder) → sits_on who h ≡ true → h.sits ≡ true
sits_here who h e = and_first h.sits (h.who == who) e

pub seat_found : (holders : List Holder) (who seat : ℕ) → length holders ≡ 32 → held_seat holders who ≡ Some seat → (seat < 32) × ((holder_at holders seat).sits ≡ true)
seat_found holders who seat n e =
    let f : (seat < length holders) × (sits_on who (get_or holders seat VACANT) ≡ true) = position-some (λ h. sits_on who h) holders seat VACANT e in
    (omega (arith, n, f.0), sits_here who (holder_at holders seat) f.1)

-- what was asked for is reserved
pub IsSpace-reserved : {uses : List Use} {links : List ℕ} {ring given free live pinned : ℕ} {holders : List Holder} {heads : List ℕ} {layers laid : Chain} {waiting : List Waiting} {aside : Option ℕ}
    → (nodes attributes room seat : ℕ) (need : Need) (pins : PinTable) → IsSpace uses links ring given free live pinned holders heads layers laid waiting aside
    → seat < 32 → (holder_at holders seat).sits ≡ true
    → CanReserve (record { ring = ring; nodes = nodes; attributes = attributes; given = given; uses = uses; holders = holders; waiting = waiting; room = room; aside = aside; pins = pins }) need
    → IsSpace uses links ring (given + need.nodes) free live pinned (set holders seat (needing (holder_at holders seat) need)) heads layers laid waiting aside
IsSpace-reserved {uses} {links} {ring} {given} {free} {live} {pinned} {holders} {heads} {layers} {laid} {waiting} {aside} nodes attributes room seat need pins s l sits can =
    IsSpace-needs (given + need.nodes) seat (needing (holder_at holders seat) need) s l refl
    (IsAlone-same holders heads seat (needing (holder_at holders seat) need) s.seats l refl refl) (λ e. absurd (true≢false (sym sits ∙ e)))
    (bound_nodes can) (bound_attributes can) (bound_given can) (bound_free can)
  where
    below : seat < length holders
    below = omega (arith, s.seats.seats, l)

    sum_nodes : held_nodes (set holders seat (needing (holder_at holders seat) need)) + (holder_at holders seat).nodes ≡ held_nodes holders + ((holder_at holders seat).nodes + need.nodes)
    sum_nodes = sum_by-set (λ x. x.nodes) holders seat (needing (holder_at holders seat) need) VACANT below

    sum_attributes : held_attributes (set holders seat (needing (holder_at holders seat) need)) + (holder_at holders seat).attributes ≡ held_attributes holders + ((holder_at holders seat).attributes + need.attributes)
    sum_attributes = sum_by-set (λ x. x.attributes) holders seat (needing (holder_at holders seat) need) VACANT below

    sum_held : undrawn (set holders seat (needing (holder_at holders seat) need)) + (holder_at holders seat).held ≡ undrawn holders + ((holder_at holders seat).held + need.blocks)
    sum_held = sum_by-set (λ x. x.held) holders seat (needing (holder_at holders seat) need) VACANT below

    bound_nodes : CanReserve (record { ring = ring; nodes = nodes; attributes = attributes; given = given; uses = uses; holders = holders; waiting = waiting; room = room; aside = aside; pins = pins }) need → held_nodes (set holders seat (needing (holder_at holders seat) need)) < 2 ^ 33
    bound_nodes (inl z) = omega (arith, sum_nodes, s.seats.nodes, z.0)
    bound_nodes (inr r) = omega (arith, sum_nodes, s.small, r.0.0)

    bound_attributes : CanReserve (record { ring = ring; nodes = nodes; attributes = attributes; given = given; uses = uses; holders = holders; waiting = waiting; room = room; aside = aside; pins = pins }) need → held_attributes (set holders seat (needing (holder_at holders seat) need)) < 2 ^ 34
    bound_attributes (inl z) = omega (arith, sum_attributes, s.seats.attributes, z.1)
    bound_attributes (inr r) = omega (arith, sum_attributes, s.small, r.0.0)

    bound_given : CanReserve (record { ring = ring; nodes = nodes; attributes = attributes; given = given; uses = uses; holders = holders; waiting = waiting; room = room; aside = aside; pins = pins }) need → given + need.nodes ≤ MAX_GIVEN
    bound_given (inl z) = omega (arith, s.ids, z.0)
    bound_given (inr r) = r.0.1

    bound_free : CanReserve (record { ring = ring; nodes = nodes; attributes = attributes; given = given; uses = uses; holders = holders; waiting = waiting; room = room; aside = aside; pins = pins }) need → undrawn (set holders seat (needing (holder_at holders seat) need)) + left_aside aside laid.len ≤ free
    bound_free (inl z) = omega (arith, sum_held, s.fits, z.2)
    bound_free (inr r) =
        let f : undrawn holders + left_aside aside (count_by is_laid uses) + need.blocks ≤ count_by is_free uses = omega (arith, r.1) in
        let g : undrawn holders + left_aside aside laid.len + need.blocks ≤ free = subst (λ k. undrawn holders + left_aside aside laid.len + need.blocks ≤ k) s.counts.of_free (subst (λ k. undrawn holders + left_aside aside k + need.blocks ≤ count_by is_free uses) s.counts.of_laid f) in
        omega (arith, sum_held, g)

-- what a search for a number's seat found
pub seat_facts : (items slice : List Holder) (who seat : ℕ) (r : Option ℕ) → slice ≡ items → r ≡ held_seat slice who → r ≡ Some seat → length items ≡ 32 → (held_seat items who ≡ Some seat) × (seat < 32) × ((holder_at items seat).sits ≡ true)
seat_facts items slice who seat r e f g n =
    let found : held_seat items who ≡ Some seat = subst (λ (l : List Holder). held_seat l who ≡ Some seat) e (sym f ∙ g) in
    let h : (seat < 32) × ((holder_at items seat).sits ≡ true) = seat_found items who seat n found in
    (found, h.0, h.1)

-- the holder that was read at a seat
pub holder_read : (items : List Holder) (seat : ℕ) (h : Holder) → h ≡ get_or items seat h → seat < 32 → length items ≡ 32 → h ≡ holder_at items seat
holder_read items seat h e l n = e ∙ get_or_default items seat h VACANT (omega (arith, l, n))

-- a list that was lent whole is what was written
pub refill : {X : Type 0} (n : ℕ) (new old : List X) → length new ≡ n → take n (new ++ drop (length new) old) ≡ new
refill n new old e = take-append-le n new (drop (length new) old) (omega (arith, e)) ∙ take_all n new (omega (arith, e))

and_both : (a b : Bool) → a ≡ true → b ≡ true → (a && b) ≡ true
and_both true b x y = y
and_both false b x y = x

same_number : (n m : ℕ) → n ≡ m → eqb n m ≡ true
same_number n m e = told (eqb n m) refl
  where
    told : (b : Bool) → eqb n m ≡ b → b ≡ true
    told true h = refl
    told false h = absurd (eqb-false n m h e)

-- the number takes a seat that nobody has
pub IsSpace-seat_given : {uses : List Use} {links : List ℕ} {ring given free live pinned : ℕ} {holders : List Holder} {heads : List ℕ} {layers laid : Chain} {waiting : List Waiting} {aside : Option ℕ}
    → (who seat : ℕ) → IsSpace uses links ring given free live pinned holders heads layers laid waiting aside
    → held_seat holders who ≡ None → vacant_seat holders ≡ Some seat
    → IsSpace uses links ring given free live pinned (set holders seat (sitting who)) heads layers laid waiting aside
IsSpace-seat_given {uses} {links} {ring} {given} {free} {live} {pinned} {holders} {heads} {layers} {laid} {waiting} {aside} who seat s none some =
    IsSpace-needs given seat (sitting who) s (omega (arith, place.0, s.seats.seats)) (sym (ap (λ (h : Holder). h.drawn) empty)) alone (λ e. absurd (true≢false e))
    (omega (arith, s.seats.nodes, sum_by-set (λ x. x.nodes) holders seat (sitting who) VACANT place.0))
    (omega (arith, s.seats.attributes, sum_by-set (λ x. x.attributes) holders seat (sitting who) VACANT place.0))
    s.ids
    (omega (arith, s.fits, sum_by-set (λ x. x.held) holders seat (sitting who) VACANT place.0))
  where
    place : (seat < length holders) × (not (get_or holders seat VACANT).sits ≡ true)
    place = position-some (λ h. not h.sits) holders seat VACANT some

    empty : holder_at holders seat ≡ VACANT
    empty = s.seats.vacant seat (is_not (holder_at holders seat).sits place.1)
      where
        is_not : (b : Bool) → not b ≡ true → b ≡ false
        is_not true e = sym e
        is_not false e = refl

    alone : IsAlone holders seat (sitting who)
    alone j lj n t u w = true≢false (sym (and_both (holder_at holders j).sits ((holder_at holders j).who == who) u (same_number (holder_at holders j).who who (sym w))) ∙ position-none (λ h. sits_on who h) holders j VACANT none (omega (arith, lj, s.seats.seats)))

pub seat_given-has : (holders : List Holder) (who seat : ℕ) → seat < length holders → IsSome (held_seat (set holders seat (sitting who)) who)
seat_given-has holders who seat l = there (held_seat (set holders seat (sitting who)) who) (λ e.
    true≢false (sym (ap (λ (h : Holder). sits_on who h) (at_seat holders seat (sitting who) l) ∙ same_number who who refl) ∙ position-none (λ h. sits_on who h) (set holders seat (sitting who)) seat VACANT e (omega (arith, l, length-set holders seat (sitting who)))))
  where
    there : (o : Option ℕ) → (o ≡ None → ⊥) → IsSome o
    there None n = absurd (n refl)
    there (Some x) n = refl

pub vacant_found : (holders : List Holder) (seat : ℕ) → vacant_seat holders ≡ Some seat → seat < length holders
vacant_found holders seat e = (position-some (λ h. not h.sits) holders seat VACANT e).0
