-- The allocator's table over its calls, beside the events on uses.
use Rattle.std.proofs.Common.{◌≡◌, ℕ, zero, suc, ◌+◌, ◌<◌, ◌≤◌, ◌==◌, ◌||◌, not, Bool, true, false, cond, if◌then◌else◌, List, [], ◌∷◌, ◌++◌, length, set, get_or, ltb, refl, sym, ap, subst, ◌∙◌, arith, length-set, ◌⊎◌, inl, inr, Some, None}
use Rattle.std.specs.Prelude.{nat_le, All}
use Rattle.std.specs.List.{position_or_len}
use Rattle.std.proofs.lemmas.Bool.{cases_Bool, and_parts, eqb-true, le-leb, lt-leb, ne_eqb, eq-eqb}
use Rattle.std.proofs.lemmas.Bool.Decides.{eqb_tells, leb_tells}
use Rattle.std.proofs.lemmas.List.{get_or-set_same, get_or-set_other, length-map}
use Rattle.fx_alloc.specs.declared.uses.Use as table
use Rattle.fx_alloc.specs.declared.uses.Use.TheVariants as called
use Rattle.fx_alloc.specs.declared.uses.Waiting.{Waiting}
use Rattle.fx_alloc.specs.declared.holders.Holder.{Holder}
use Rattle.fx_alloc.specs.Uses.{use_at, put_all, AreUsed, StandOnce, IsApartFrom}
use Rattle.fx_alloc.specs.Pins.{is_among, is_kept}
use Rattle.fx_alloc.specs.Layers.{switched_use, unpinned_use}
use Rattle.fx_alloc.specs.Holders.{held_seat, sits_on, needing, having_drawn}
use Rattle.fx_alloc.specs.Space.{Space, holder_at, reserved, drawing, holder_ended, turned, freeing, settling, settled_blocks, left_waiting, AreRising, setting_aside, unlaid, laying, IsSwitched, IsUnpinned}
use Rattle.fx_alloc.specs.Inside.{IsSoundSpace, waiting_blocks}
use Rattle.fx_alloc.proofs.Positions.{position-some}
use Rattle.fx_alloc.proofs.Changes.{at-map, used-where}
use Rattle.fx_alloc.proofs.SpaceMoves.{settled_used}
use Rattle.fx_alloc.proofs.UseLists.{length-put_all}
use Rattle.fx_uses.specs.Uses.{Use, Free, Drawn, Staged, Live, Freed, System, Layer, Aside, Laid, Coming, Pinned, IsDrawnFor}
use Rattle.fx_uses.specs.Events.{at_place, taken_over, given_back, let_go, abandoned, laid_firm, switched, pin_ended}
use Rattle.fx_space_uses.specs.TableUses.{WaitsAs, IsDrawnFrom, IsCalled, IsTableOf}

-- ---- what the table tells

pub free_tells : (s : Space) (b : ℕ) (u : Use) (v : table.Use) → IsCalled s b u v → v ≡ called.Free → u ≡ Free
free_tells s b Free v c e = refl
free_tells s b (Drawn who) v c e = let q : called.Drawn c.0 ≡ called.Free = sym c.2 ∙ e in absurd (cc)
free_tells s b (Staged who) v c e = let q : called.Drawn c.0 ≡ called.Free = sym c.2 ∙ e in absurd (cc)
free_tells s b (Live since) v c e = let q : called.Live ≡ called.Free = sym c ∙ e in absurd (cc)
free_tells s b (Freed since until) v c e = let q : called.Freed ≡ called.Free = sym c.0 ∙ e in absurd (cc)
free_tells s b System v c e = let q : called.System ≡ called.Free = sym c ∙ e in absurd (cc)
free_tells s b Layer v c e = let q : called.Layer ≡ called.Free = sym c ∙ e in absurd (cc)
free_tells s b Aside v c e = let q : called.Laid ≡ called.Free = sym c ∙ e in absurd (cc)
free_tells s b Laid v c e = let q : called.Laid ≡ called.Free = sym c ∙ e in absurd (cc)
free_tells s b Coming v c e = let q : called.Laid ≡ called.Free = sym c ∙ e in absurd (cc)
free_tells s b Pinned v c e = let q : called.Pinned ≡ called.Free = sym c ∙ e in absurd (cc)

-- what stands at a seat that there is none of
abbrev pub empty_seat : Holder
empty_seat = holder_at [] 0

-- the number that has a seat sits on it, and no other does
pub sits : (holders : List Holder) (who seat : ℕ) → held_seat holders who ≡ Some seat → sits_on who (holder_at holders seat) ≡ true
sits holders who seat e = (position-some (λ h. sits_on who h) holders seat empty_seat e).1

pub one_sits : (holders : List Holder) (who other seat : ℕ) → held_seat holders who ≡ Some seat → held_seat holders other ≡ Some seat → who ≡ other
one_sits holders who other seat e q =
    let a = and_parts (holder_at holders seat).sits ((holder_at holders seat).who == who) (sits holders who seat e) in
    let b = and_parts (holder_at holders seat).sits ((holder_at holders seat).who == other) (sits holders other seat q) in
    sym (eqb-true (holder_at holders seat).who who a.1) ∙ eqb-true (holder_at holders seat).who other b.1

drawn_seat : (i j : ℕ) → called.Drawn i ≡ called.Drawn j → i ≡ j
drawn_seat i j e = cc

pub drawn_tells : (s : Space) (b : ℕ) (u : Use) (v : table.Use) (who seat : ℕ) → IsCalled s b u v → held_seat s.holders who ≡ Some seat → v ≡ called.Drawn seat → IsDrawnFor who u
drawn_tells s b (Drawn w) v who seat c e q = one_sits s.holders w who seat (c.1 ∙ ap Some (drawn_seat c.0 seat (sym c.2 ∙ q))) e
drawn_tells s b (Staged w) v who seat c e q = one_sits s.holders w who seat (c.1 ∙ ap Some (drawn_seat c.0 seat (sym c.2 ∙ q))) e
drawn_tells s b Free v who seat c e q = let z : called.Free ≡ called.Drawn seat = sym c ∙ q in absurd (cc)
drawn_tells s b (Live since) v who seat c e q = let z : called.Live ≡ called.Drawn seat = sym c ∙ q in absurd (cc)
drawn_tells s b (Freed since until) v who seat c e q = let z : called.Freed ≡ called.Drawn seat = sym c.0 ∙ q in absurd (cc)
drawn_tells s b System v who seat c e q = let z : called.System ≡ called.Drawn seat = sym c ∙ q in absurd (cc)
drawn_tells s b Layer v who seat c e q = let z : called.Layer ≡ called.Drawn seat = sym c ∙ q in absurd (cc)
drawn_tells s b Aside v who seat c e q = let z : called.Laid ≡ called.Drawn seat = sym c ∙ q in absurd (cc)
drawn_tells s b Laid v who seat c e q = let z : called.Laid ≡ called.Drawn seat = sym c ∙ q in absurd (cc)
drawn_tells s b Coming v who seat c e q = let z : called.Laid ≡ called.Drawn seat = sym c ∙ q in absurd (cc)
drawn_tells s b Pinned v who seat c e q = let z : called.Pinned ≡ called.Drawn seat = sym c ∙ q in absurd (cc)

-- ---- other parts of the allocator change

-- seats of numbers stay, and what waits does
pub record KeepsCalls (s t : Space) : Type 0 where
  pub seats : (who seat : ℕ) → held_seat s.holders who ≡ Some seat → held_seat t.holders who ≡ Some seat
  pub waits : (b n : ℕ) → WaitsAs s.waiting b n → WaitsAs t.waiting b n

pub still_called : (s t : Space) (b : ℕ) (u : Use) (v : table.Use) → KeepsCalls s t → IsCalled s b u v → IsCalled t b u v
still_called s t b Free v k c = c
still_called s t b (Drawn who) v k c = (c.0, k.seats who c.0 c.1, c.2)
still_called s t b (Staged who) v k c = (c.0, k.seats who c.0 c.1, c.2)
still_called s t b (Live since) v k c = c
still_called s t b (Freed since until) v k c = (c.0, k.waits b until c.1)
still_called s t b System v k c = c
still_called s t b Layer v k c = c
still_called s t b Aside v k c = c
still_called s t b Laid v k c = c
still_called s t b Coming v k c = c
still_called s t b Pinned v k c = c

place_alike : (p : Holder → Bool) (xs : List Holder) (i : ℕ) (y : Holder) → p y ≡ p (get_or xs i empty_seat) → position_or_len p (set xs i y) ≡ position_or_len p xs
place_alike p [] i y e = refl
place_alike p (x ∷ xs) zero y e = ap (λ (b : Bool). cond (not b) (1 + position_or_len p xs) 0) e
place_alike p (x ∷ xs) (suc i) y e = ap (λ (n : ℕ). cond (not (p x)) (1 + n) 0) (place_alike p xs i y e)

-- one holder changes, and the number still has its seat
pub seat_alike : (holders : List Holder) (at who seat : ℕ) (h : Holder) → sits_on who h ≡ sits_on who (holder_at holders at) → held_seat holders who ≡ Some seat → held_seat (set holders at h) who ≡ Some seat
seat_alike holders at who seat h same e =
    ap (λ (n : ℕ). cond (ltb n (length (set holders at h))) (Some n) None) (place_alike (λ x. sits_on who x) holders at h same)
    ∙ ap (λ (n : ℕ). cond (ltb (position_or_len (λ x. sits_on who x) holders) n) (Some (position_or_len (λ x. sits_on who x) holders)) None) (length-set holders at h)
    ∙ e

-- ---- one block of the table changes

pub called_at : (uses : ℕ → Use) (s t : Space) (at : ℕ) (to : Use) (v : table.Use) → t.uses ≡ set s.uses at v → at < length s.uses → KeepsCalls s t → IsCalled t at to v → IsTableOf uses s → IsTableOf (at_place at to uses) t
called_at uses s t at to v e lt k new h = record {
  each = λ b below.
      let size : length t.uses ≡ length s.uses = ap length e ∙ length-set s.uses at v in
      elim (eqb_tells at b) [
        | inl same ↦ subst (λ (c : Bool). IsCalled t b (if c then to else uses b) (use_at t.uses b)) (sym same.0)
            (subst (λ (w : table.Use). IsCalled t b to w) (sym (ap (λ (us : List table.Use). use_at us b) e ∙ subst (λ (c : ℕ). use_at (set s.uses at v) c ≡ v) same.1 (get_or-set_same s.uses at v called.System lt)))
            (subst (λ (c : ℕ). IsCalled t c to v) same.1 new))
        | inr other ↦ subst (λ (c : Bool). IsCalled t b (if c then to else uses b) (use_at t.uses b)) (sym other.0)
            (subst (λ (w : table.Use). IsCalled t b (uses b) w) (sym (ap (λ (us : List table.Use). use_at us b) e ∙ get_or-set_other s.uses at b v called.System (λ q. other.1 (sym q))))
            (still_called s t b (uses b) (use_at s.uses b) k (h.each b (omega (arith, below, size)))))
      ];
}

pub called_draw : (uses : ℕ → Use) (s : Space) (who at seat : ℕ) → held_seat s.holders who ≡ Some seat → at < length s.uses → IsTableOf uses s → IsTableOf (at_place at (Drawn who) uses) (drawing s at seat)
called_draw uses s who at seat e lt h = called_at uses s (drawing s at seat) at (Drawn who) (called.Drawn seat) refl lt keeps (seat, keeps.seats who seat e, refl) h
  where
    keeps : KeepsCalls s (drawing s at seat)
    keeps = record { seats = λ w k q. seat_alike s.holders seat w k (having_drawn (holder_at s.holders seat)) refl q; waits = λ b n x. x }

pub called_reserved : (uses : ℕ → Use) (s : Space) (seat : ℕ) (need : _) → IsTableOf uses s → IsTableOf uses (reserved s need seat)
called_reserved uses s seat need h = record { each = λ b lt. still_called s (reserved s need seat) b (uses b) (use_at s.uses b) (record { seats = λ w k q. seat_alike s.holders seat w k (needing (holder_at s.holders seat) need) refl q; waits = λ c n x. x }) (h.each b lt) }

-- the staging of a block
pub called_staged : (uses : ℕ → Use) (s : Space) (who at : ℕ) (to : Use) → IsDrawnFor who (uses at) → (to ≡ Drawn who) ⊎ (to ≡ Staged who) → IsTableOf uses s → IsTableOf (at_place at to uses) s
called_staged uses s who at to drawn is h = record {
  each = λ b lt. elim (eqb_tells at b) [
    | inl same ↦ subst (λ (c : Bool). IsCalled s b (if c then to else uses b) (use_at s.uses b)) (sym same.0) (put b (subst (λ (c : ℕ). IsDrawnFor who (uses c)) same.1 drawn) (h.each b lt))
    | inr other ↦ subst (λ (c : Bool). IsCalled s b (if c then to else uses b) (use_at s.uses b)) (sym other.0) (h.each b lt)
  ];
}
  where
    from : (b : ℕ) (u : Use) → IsDrawnFor who u → IsCalled s b u (use_at s.uses b) → IsDrawnFrom s who (use_at s.uses b)
    from b (Drawn w) d c = subst (λ (x : ℕ). IsDrawnFrom s x (use_at s.uses b)) d c
    from b (Staged w) d c = subst (λ (x : ℕ). IsDrawnFrom s x (use_at s.uses b)) d c
    from b u d c = absurd d

    put : (b : ℕ) → IsDrawnFor who (uses b) → IsCalled s b (uses b) (use_at s.uses b) → IsCalled s b to (use_at s.uses b)
    put b d c = elim is [
      | inl e ↦ subst (λ (u : Use). IsCalled s b u (use_at s.uses b)) (sym e) (from b (uses b) d c)
      | inr e ↦ subst (λ (u : Use). IsCalled s b u (use_at s.uses b)) (sym e) (from b (uses b) d c)
    ]

-- ---- all blocks change by a function of their uses

pub called_each : (uses : ℕ → Use) (s t : Space) (f : ℕ → Use → Use) (g : ℕ → table.Use → table.Use) → length t.uses ≡ length s.uses → ((b : ℕ) → use_at t.uses b ≡ g b (use_at s.uses b)) → ((b : ℕ) → IsCalled s b (uses b) (use_at s.uses b) → IsCalled t b (f b (uses b)) (g b (use_at s.uses b)))
    → IsTableOf uses s → IsTableOf (λ b. f b (uses b)) t
called_each uses s t f g size at step h = record {
  each = λ b lt. subst (λ (v : table.Use). IsCalled t b (f b (uses b)) v) (sym (at b)) (step b (h.each b (omega (arith, lt, size))));
}

-- ---- the holder ends: what it staged is live, or what it drew is free

module _ (s : Space) (who seat : ℕ) (e : held_seat s.holders who ≡ Some seat) (to : table.Use) where
  ended : Space
  ended = holder_ended s to seat

  others_keep : (w k : ℕ) → (w ≡ who → ⊥) → held_seat s.holders w ≡ Some k → held_seat (set s.holders seat empty_seat) w ≡ Some k
  others_keep w k ne q = seat_alike s.holders seat w k empty_seat (sym off) q
    where
      by : (b : Bool) → sits_on w (holder_at s.holders seat) ≡ b → b ≡ false
      by false x = refl
      by true x =
          let a = and_parts (holder_at s.holders seat).sits ((holder_at s.holders seat).who == who) (sits s.holders who seat e) in
          let c = and_parts (holder_at s.holders seat).sits ((holder_at s.holders seat).who == w) x in
          absurd (ne (sym (eqb-true (holder_at s.holders seat).who w c.1) ∙ eqb-true (holder_at s.holders seat).who who a.1))

      off : sits_on w (holder_at s.holders seat) ≡ sits_on w empty_seat
      off = by (sits_on w (holder_at s.holders seat)) refl

  -- what another number drew is as it was
  others_drawn : (w : ℕ) (v : table.Use) → (w ≡ who → ⊥) → IsDrawnFrom s w v → IsDrawnFrom (holder_ended s to seat) w (turned seat to v)
  others_drawn w v ne c = (c.0, others_keep w c.0 ne c.1, ap (turned seat to) c.2 ∙ ap (λ (b : Bool). if b then to else called.Drawn c.0) (ne_eqb c.0 seat (λ q. ne (one_sits s.holders w who seat (c.1 ∙ ap Some q) e))))

  own_drawn : (v : table.Use) → IsDrawnFrom s who v → turned seat to v ≡ to
  own_drawn v c = ap (turned seat to) c.2 ∙ ap (λ (b : Bool). if b then to else called.Drawn c.0) (eq-eqb c.0 seat (some_is c.0 seat (sym c.1 ∙ e)))
    where
      some_is : (i j : ℕ) → Some i ≡ Some j → i ≡ j
      some_is i j q = cc

  own_or : (w : ℕ) (v : table.Use) (f : Bool → Use) (b : ℕ) → IsDrawnFrom s w v → IsCalled (holder_ended s to seat) b (f true) to → IsCalled (holder_ended s to seat) b (f false) (turned seat to v) ⊎ (w ≡ who) → (w ≡ who → ⊥) ⊎ (w ≡ who) → IsCalled (holder_ended s to seat) b (f (w == who)) (turned seat to v)
  own_or w v f b c own other (inr same) = subst (λ (t : Bool). IsCalled (holder_ended s to seat) b (f t) (turned seat to v)) (sym (eq-eqb w who same))
      (subst (λ (x : table.Use). IsCalled (holder_ended s to seat) b (f true) x) (sym (own_drawn v (subst (λ (n : ℕ). IsDrawnFrom s n v) same c))) own)
  own_or w v f b c own other (inl ne) = subst (λ (t : Bool). IsCalled (holder_ended s to seat) b (f t) (turned seat to v)) (sym (ne_eqb w who ne)) (elim other [ inl x ↦ x | inr same ↦ absurd (ne same) ])

  apart : (w : ℕ) → (w ≡ who → ⊥) ⊎ (w ≡ who)
  apart w = elim (eqb_tells w who) [ inl same ↦ inr same.1 | inr other ↦ inl other.1 ]

  other_case : (w : ℕ) (v : table.Use) (u : Use) (b : ℕ) → IsDrawnFrom s w v → ((x : table.Use) → IsDrawnFrom (holder_ended s to seat) w x → IsCalled (holder_ended s to seat) b u x) → IsCalled (holder_ended s to seat) b u (turned seat to v) ⊎ (w ≡ who)
  other_case w v u b c make = elim (apart w) [ inl ne ↦ inl (make (turned seat to v) (others_drawn w v ne c)) | inr same ↦ inr same ]

  still_turned : (b : ℕ) (u : Use) (v w : table.Use) → v ≡ w → turned seat to w ≡ w → turned seat to v ≡ w
  still_turned b u v w q z = ap (turned seat to) q ∙ z

pub called_taken : (uses : ℕ → Use) (s : Space) (who n seat : ℕ) → held_seat s.holders who ≡ Some seat → ((b : ℕ) → uses b ≡ Drawn who → ⊥) → IsTableOf uses s → IsTableOf (λ b. taken_over who n (uses b)) (holder_ended s called.Live seat)
called_taken uses s who n seat e none h = called_each uses s (holder_ended s called.Live seat) (λ b. taken_over who n) (λ b. turned seat called.Live)
    (length-map s.uses (turned seat called.Live)) (λ b. at-map (turned seat called.Live) s.uses b refl) (λ b c. one b (uses b) refl (use_at s.uses b) c) h
  where
    one : (b : ℕ) (u : Use) → uses b ≡ u → (v : table.Use) → IsCalled s b u v → IsCalled (holder_ended s called.Live seat) b (taken_over who n u) (turned seat called.Live v)
    one b (Staged w) q v c = own_or s who seat e called.Live w v (λ t. if t then Live n else Staged w) b c refl (other_case s who seat e called.Live w v (Staged w) b c (λ x y. y)) (apart s who seat e called.Live w)
    one b (Drawn w) q v c = others_drawn s who seat e called.Live w v (λ same. none b (q ∙ ap Drawn same)) c
    one b Free q v c = ap (turned seat called.Live) c
    one b (Live since) q v c = ap (turned seat called.Live) c
    one b (Freed since until) q v c = (ap (turned seat called.Live) c.0, c.1)
    one b System q v c = ap (turned seat called.Live) c
    one b Layer q v c = ap (turned seat called.Live) c
    one b Aside q v c = ap (turned seat called.Live) c
    one b Laid q v c = ap (turned seat called.Live) c
    one b Coming q v c = ap (turned seat called.Live) c
    one b Pinned q v c = ap (turned seat called.Live) c

pub called_given : (uses : ℕ → Use) (s : Space) (who seat : ℕ) → held_seat s.holders who ≡ Some seat → IsTableOf uses s → IsTableOf (λ b. given_back who (uses b)) (holder_ended s called.Free seat)
called_given uses s who seat e h = called_each uses s (holder_ended s called.Free seat) (λ b. given_back who) (λ b. turned seat called.Free)
    (length-map s.uses (turned seat called.Free)) (λ b. at-map (turned seat called.Free) s.uses b refl) (λ b c. one b (uses b) (use_at s.uses b) c) h
  where
    one : (b : ℕ) (u : Use) (v : table.Use) → IsCalled s b u v → IsCalled (holder_ended s called.Free seat) b (given_back who u) (turned seat called.Free v)
    one b (Staged w) v c = own_or s who seat e called.Free w v (λ t. if t then Free else Staged w) b c refl (other_case s who seat e called.Free w v (Staged w) b c (λ x y. y)) (apart s who seat e called.Free w)
    one b (Drawn w) v c = own_or s who seat e called.Free w v (λ t. if t then Free else Drawn w) b c refl (other_case s who seat e called.Free w v (Drawn w) b c (λ x y. y)) (apart s who seat e called.Free w)
    one b Free v c = ap (turned seat called.Free) c
    one b (Live since) v c = ap (turned seat called.Free) c
    one b (Freed since until) v c = (ap (turned seat called.Free) c.0, c.1)
    one b System v c = ap (turned seat called.Free) c
    one b Layer v c = ap (turned seat called.Free) c
    one b Aside v c = ap (turned seat called.Free) c
    one b Laid v c = ap (turned seat called.Free) c
    one b Coming v c = ap (turned seat called.Free) c
    one b Pinned v c = ap (turned seat called.Free) c

-- ---- what is freed and settled

waits_more : (ws : List Waiting) (w : Waiting) (b n : ℕ) → WaitsAs ws b n → WaitsAs (ws ++ w ∷ []) b n
waits_more [] w b n x = absurd x
waits_more (v ∷ ws) w b n (inl x) = inl x
waits_more (v ∷ ws) w b n (inr x) = inr (waits_more ws w b n x)

waits_last : (ws : List Waiting) (b n : ℕ) → WaitsAs (ws ++ record { block = b; number = n } ∷ []) b n
waits_last [] b n = inl (refl, refl)
waits_last (v ∷ ws) b n = inr (waits_last ws b n)

pub called_freed : (uses : ℕ → Use) (s : Space) (at since n : ℕ) → at < length s.uses → IsTableOf uses s → IsTableOf (at_place at (Freed since n) uses) (freeing s at n)
called_freed uses s at since n lt h = called_at uses s (freeing s at n) at (Freed since n) called.Freed refl lt
    (record { seats = λ w k q. q; waits = λ b m x. waits_more s.waiting (record { block = at; number = n }) b m x }) (refl, waits_last s.waiting at n) h

among_apart : (b : ℕ) (ws : List Waiting) (n : ℕ) → IsApartFrom b (waiting_blocks ws) → is_among b (settled_blocks n ws) ≡ false
among_apart b [] n h = refl
among_apart b (w ∷ ws) n h = by (nat_le w.number n) (among_apart b ws n h.1)
  where
    by : (t : Bool) → is_among b (settled_blocks n ws) ≡ false → is_among b (cond t (w.block ∷ settled_blocks n ws) []) ≡ false
    by true ih = ap (λ (x : Bool). x || is_among b (settled_blocks n ws)) (ne_eqb w.block b (λ q. h.0 (sym q))) ∙ ih
    by false ih = refl

waits_number : (ws : List Waiting) (b m : ℕ) (w : Waiting) → All (λ (v : Waiting). w.number ≤ v.number) ws → WaitsAs ws b m → w.number ≤ m
waits_number [] b m w a x = absurd x
waits_number (v ∷ ws) b m w a (inl x) = omega (arith, a 0 v (omega arith), x.1)
waits_number (v ∷ ws) b m w a (inr x) = waits_number ws b m w (λ k d lt. a (suc k) d (omega (arith, lt))) x

-- a block whose number is settled is among those that are let go
waits_settled : (ws : List Waiting) (b m n : ℕ) → AreRising ws → WaitsAs ws b m → m ≤ n → is_among b (settled_blocks n ws) ≡ true
unfolding AreRising
waits_settled [] b m n r x le = absurd x
waits_settled (w ∷ ws) b m n r (inl x) le =
    ap (λ (t : Bool). is_among b (cond t (w.block ∷ settled_blocks n ws) [])) (le-leb w.number n (omega (arith, x.1, le)))
    ∙ ap (λ (t : Bool). t || is_among b (settled_blocks n ws)) (eq-eqb w.block b x.0)
waits_settled (w ∷ ws) b m n r (inr x) le =
    ap (λ (t : Bool). is_among b (cond t (w.block ∷ settled_blocks n ws) [])) (le-leb w.number n (omega (arith, waits_number ws b m w r.0 x, le)))
    ∙ or_true (w.block == b) (is_among b (settled_blocks n ws)) (waits_settled ws b m n r.1 x le)
  where
    or_true : (s t : Bool) → t ≡ true → (s || t) ≡ true
    or_true true t e = refl
    or_true false t e = e

-- and one whose number is not waits on
waits_on : (ws : List Waiting) (b m n : ℕ) → StandOnce (waiting_blocks ws) → WaitsAs ws b m → n < m → (is_among b (settled_blocks n ws) ≡ false) × WaitsAs (left_waiting n ws) b m
waits_on [] b m n o x lt = absurd x
waits_on (w ∷ ws) b m n o (inl x) lt =
    let past : nat_le w.number n ≡ false = lt-leb w.number n (omega (arith, x.1, lt)) in
    (ap (λ (t : Bool). is_among b (cond t (w.block ∷ settled_blocks n ws) [])) past, subst (λ (t : Bool). WaitsAs (cond t (left_waiting n ws) (w ∷ ws)) b m) (sym past) (inl x))
waits_on (w ∷ ws) b m n o (inr x) lt = by (nat_le w.number n) (waits_on ws b m n o.1 x lt)
  where
    other : w.block ≡ b → ⊥
    other q = apart_waits ws o.0 x
      where
        apart_waits : (vs : List Waiting) → IsApartFrom w.block (waiting_blocks vs) → WaitsAs vs b m → ⊥
        apart_waits [] a y = y
        apart_waits (v ∷ vs) a (inl y) = a.0 (q ∙ sym y.0)
        apart_waits (v ∷ vs) a (inr y) = apart_waits vs a.1 y

    by : (t : Bool) → (is_among b (settled_blocks n ws) ≡ false) × WaitsAs (left_waiting n ws) b m → (is_among b (cond t (w.block ∷ settled_blocks n ws) []) ≡ false) × WaitsAs (cond t (left_waiting n ws) (w ∷ ws)) b m
    by true ih = (ap (λ (y : Bool). y || is_among b (settled_blocks n ws)) (ne_eqb w.block b other) ∙ ih.0, ih.1)
    by false ih = (refl, inr x)

pub put_apart : (to : table.Use) (bs : List ℕ) (us : List table.Use) (b : ℕ) → is_among b bs ≡ false → use_at (put_all to bs us) b ≡ use_at us b
unfolding put_all
put_apart to [] us b n = refl
put_apart to (c ∷ cs) us b n = by (put_apart to cs (set us c to) b) (c == b) refl n
  where
    by : (is_among b cs ≡ false → use_at (put_all to cs (set us c to)) b ≡ use_at (set us c to) b) → (t : Bool) → (c == b) ≡ t → (t || is_among b cs) ≡ false → use_at (put_all to cs (set us c to)) b ≡ use_at us b
    by ih true e q = let z : true ≡ false = q in absurd (cc)
    by ih false e q = ih q ∙ get_or-set_other us c b to called.System (λ y. let z : true ≡ false = sym (eq-eqb c b (sym y)) ∙ e in absurd (cc))

pub put_among : (to : table.Use) (bs : List ℕ) (us : List table.Use) (b : ℕ) → b < length us → is_among b bs ≡ true → use_at (put_all to bs us) b ≡ to
unfolding put_all
put_among to [] us b lt n = let z : false ≡ true = n in absurd (cc)
put_among to (c ∷ cs) us b lt n = elim (cases_Bool (is_among b cs)) [
  | inl later ↦ put_among to cs (set us c to) b (omega (arith, lt, length-set us c to)) later
  | inr no' ↦ by (c == b) refl (ap (λ (t : Bool). (c == b) || t) (sym no') ∙ n) no'
]
  where
    by : (t : Bool) → (c == b) ≡ t → (t || false) ≡ true → is_among b cs ≡ false → use_at (put_all to cs (set us c to)) b ≡ to
    by true e q no' = put_apart to cs (set us c to) b no' ∙ subst (λ (k : ℕ). use_at (set us k to) b ≡ to) (sym (eqb-true c b e)) (get_or-set_same us b to called.System lt)
    by false e q no' = let z : false ≡ true = q in absurd (cc)

pub called_settled : (uses : ℕ → Use) (s : Space) (n : ℕ) → IsSoundSpace s → IsTableOf uses s → IsTableOf (λ b. let_go n (uses b)) (settling s n)
called_settled uses s n sound h = record {
  each = λ b below.
      let lt : b < length s.uses = omega (arith, below, length-put_all called.Free (settled_blocks n s.waiting) s.uses) in
      one b lt (uses b) (h.each b lt);
}
  where
    front : AreUsed called.Freed s.uses (settled_blocks n s.waiting)
    front = settled_used n s.waiting sound.waits

    -- a block that is not freed is not let go
    same : (b : ℕ) → (use_at s.uses b ≡ called.Freed → ⊥) → use_at (put_all called.Free (settled_blocks n s.waiting) s.uses) b ≡ use_at s.uses b
    same b ne = elim (cases_Bool (is_among b (settled_blocks n s.waiting))) [
      | inl among ↦ absurd (ne (used-where called.Freed s.uses (settled_blocks n s.waiting) b front among))
      | inr apart ↦ put_apart called.Free (settled_blocks n s.waiting) s.uses b apart
    ]

    drawn : (b who : ℕ) → IsDrawnFrom s who (use_at s.uses b) → IsDrawnFrom (settling s n) who (use_at (put_all called.Free (settled_blocks n s.waiting) s.uses) b)
    drawn b who c = (c.0, c.1, same b (λ q. let z : called.Drawn c.0 ≡ called.Freed = sym c.2 ∙ q in absurd (cc)) ∙ c.2)

    one : (b : ℕ) → b < length s.uses → (u : Use) → IsCalled s b u (use_at s.uses b) → IsCalled (settling s n) b (let_go n u) (use_at (put_all called.Free (settled_blocks n s.waiting) s.uses) b)
    one b lt (Freed since until) c = elim (leb_tells until n) [
      | inl up ↦ subst (λ (t : Bool). IsCalled (settling s n) b (if t then Free else Freed since until) (use_at (put_all called.Free (settled_blocks n s.waiting) s.uses) b)) (sym up.0)
          (put_among called.Free (settled_blocks n s.waiting) s.uses b lt (waits_settled s.waiting b until n sound.rising c.1 up.1))
      | inr past ↦
          let on = waits_on s.waiting b until n sound.waits.apart c.1 (omega (arith, past.1)) in
          subst (λ (t : Bool). IsCalled (settling s n) b (if t then Free else Freed since until) (use_at (put_all called.Free (settled_blocks n s.waiting) s.uses) b)) (sym past.0)
          (put_apart called.Free (settled_blocks n s.waiting) s.uses b on.0 ∙ c.0, on.1)
    ]
    one b lt (Drawn who) c = drawn b who c
    one b lt (Staged who) c = drawn b who c
    one b lt Free c = same b (λ q. let z : called.Free ≡ called.Freed = sym c ∙ q in absurd (cc)) ∙ c
    one b lt (Live since) c = same b (λ q. let z : called.Live ≡ called.Freed = sym c ∙ q in absurd (cc)) ∙ c
    one b lt System c = same b (λ q. let z : called.System ≡ called.Freed = sym c ∙ q in absurd (cc)) ∙ c
    one b lt Layer c = same b (λ q. let z : called.Layer ≡ called.Freed = sym c ∙ q in absurd (cc)) ∙ c
    one b lt Aside c = same b (λ q. let z : called.Laid ≡ called.Freed = sym c ∙ q in absurd (cc)) ∙ c
    one b lt Laid c = same b (λ q. let z : called.Laid ≡ called.Freed = sym c ∙ q in absurd (cc)) ∙ c
    one b lt Coming c = same b (λ q. let z : called.Laid ≡ called.Freed = sym c ∙ q in absurd (cc)) ∙ c
    one b lt Pinned c = same b (λ q. let z : called.Pinned ≡ called.Freed = sym c ∙ q in absurd (cc)) ∙ c

-- ---- a checkpoint and pins

drawn_through : (s t : Space) (who : ℕ) (v w : table.Use) → t.holders ≡ s.holders → ((seat : ℕ) → v ≡ called.Drawn seat → w ≡ called.Drawn seat) → IsDrawnFrom s who v → IsDrawnFrom t who w
drawn_through s t who v w e f c = (c.0, ap (λ (hs : List Holder). held_seat hs who) e ∙ c.1, f c.0 c.2)

pub called_aside : (uses : ℕ → Use) (s : Space) → ((b : ℕ) → uses b ≡ Coming → ⊥) → IsTableOf uses s → IsTableOf (λ b. abandoned (uses b)) (setting_aside s)
called_aside uses s none h = called_each uses s (setting_aside s) (λ b. abandoned) (λ b. unlaid) (length-map s.uses unlaid) (λ b. at-map unlaid s.uses b refl) (λ b c. one b (uses b) refl (use_at s.uses b) c) h
  where
    one : (b : ℕ) (u : Use) → uses b ≡ u → (v : table.Use) → IsCalled s b u v → IsCalled (setting_aside s) b (abandoned u) (unlaid v)
    one b Coming q v c = absurd (none b q)
    one b (Drawn who) q v c = drawn_through s (setting_aside s) who v (unlaid v) refl (λ seat x. ap unlaid x) c
    one b (Staged who) q v c = drawn_through s (setting_aside s) who v (unlaid v) refl (λ seat x. ap unlaid x) c
    one b (Freed since until) q v c = (ap unlaid c.0, c.1)
    one b Free q v c = ap unlaid c
    one b (Live since) q v c = ap unlaid c
    one b System q v c = ap unlaid c
    one b Layer q v c = ap unlaid c
    one b Aside q v c = ap unlaid c
    one b Laid q v c = ap unlaid c
    one b Pinned q v c = ap unlaid c

pub called_laying : (uses : ℕ → Use) (s : Space) (at : ℕ) → at < length s.uses → IsTableOf uses s → IsTableOf (at_place at Aside uses) (laying s at)
called_laying uses s at lt h = called_at uses s (laying s at) at Aside called.Laid refl lt (record { seats = λ w k q. q; waits = λ b n x. x }) refl h

-- what a checkpoint writes and flushes keeps its name
pub called_laid : (uses : ℕ → Use) (s : Space) (at : ℕ) → uses at ≡ Aside → IsTableOf uses s → IsTableOf (at_place at Laid uses) s
called_laid uses s at aside h = record {
  each = λ b lt. elim (eqb_tells at b) [
    | inl same ↦ subst (λ (c : Bool). IsCalled s b (if c then Laid else uses b) (use_at s.uses b)) (sym same.0) (subst (λ (u : Use). IsCalled s b u (use_at s.uses b)) (sym (ap uses same.1) ∙ aside) (h.each b lt))
    | inr other ↦ subst (λ (c : Bool). IsCalled s b (if c then Laid else uses b) (use_at s.uses b)) (sym other.0) (h.each b lt)
  ];
}

pub called_laid_firm : (uses : ℕ → Use) (s : Space) → IsTableOf uses s → IsTableOf (λ b. laid_firm (uses b)) s
called_laid_firm uses s h = record { each = λ b lt. one b (uses b) (h.each b lt) }
  where
    one : (b : ℕ) (u : Use) → IsCalled s b u (use_at s.uses b) → IsCalled s b (laid_firm u) (use_at s.uses b)
    one b Laid c = c
    one b u c = c

pub called_switched : (uses : ℕ → Use) (s t : Space) (stay : List ℕ) → IsSwitched s t stay → ((b : ℕ) → (uses b ≡ Aside) ⊎ (uses b ≡ Laid) → ⊥) → IsTableOf uses s → IsTableOf (λ b. switched (is_among b stay) (is_kept s.pins.kept b) (uses b)) t
called_switched uses s t stay is none h = called_each uses s t (λ b. switched (is_among b stay) (is_kept s.pins.kept b)) (λ b. switched_use (is_among b stay) (is_kept s.pins.kept b)) is.disk is.uses
    (λ b c. one b (is_among b stay) (is_kept s.pins.kept b) (uses b) refl (use_at s.uses b) c) h
  where
    holders : t.holders ≡ s.holders
    holders = ap (λ (x : Space). x.holders) is.others

    waiting : t.waiting ≡ s.waiting
    waiting = ap (λ (x : Space). x.waiting) is.others

    one : (b : ℕ) (stays kept : Bool) (u : Use) → uses b ≡ u → (v : table.Use) → IsCalled s b u v → IsCalled t b (switched stays kept u) (switched_use stays kept v)
    one b stays kept Aside q v c = absurd (none b (inl q))
    one b stays kept Laid q v c = absurd (none b (inr q))
    one b true kept Layer q v c = ap (switched_use true kept) c
    one b false true Layer q v c = ap (switched_use false true) c
    one b false false Layer q v c = ap (switched_use false false) c
    one b stays kept Coming q v c = ap (switched_use stays kept) c
    one b stays kept (Drawn who) q v c = drawn_through s t who v (switched_use stays kept v) holders (λ seat x. ap (switched_use stays kept) x) c
    one b stays kept (Staged who) q v c = drawn_through s t who v (switched_use stays kept v) holders (λ seat x. ap (switched_use stays kept) x) c
    one b stays kept (Freed since until) q v c = (ap (switched_use stays kept) c.0, subst (λ (ws : List Waiting). WaitsAs ws b until) (sym waiting) c.1)
    one b stays kept Free q v c = ap (switched_use stays kept) c
    one b stays kept (Live since) q v c = ap (switched_use stays kept) c
    one b stays kept System q v c = ap (switched_use stays kept) c
    one b stays kept Pinned q v c = ap (switched_use stays kept) c

pub called_pinned : (uses : ℕ → Use) (s t : Space) (pin : ℕ) → IsUnpinned s t pin → IsTableOf uses s → IsTableOf (λ b. pin_ended (is_kept t.pins.kept b) (uses b)) t
called_pinned uses s t pin is h = called_each uses s t (λ b. pin_ended (is_kept t.pins.kept b)) (λ b. unpinned_use (is_kept t.pins.kept b)) is.disk is.uses (λ b c. one b (is_kept t.pins.kept b) (uses b) (use_at s.uses b) c) h
  where
    holders : t.holders ≡ s.holders
    holders = ap (λ (x : Space). x.holders) is.others

    waiting : t.waiting ≡ s.waiting
    waiting = ap (λ (x : Space). x.waiting) is.others

    one : (b : ℕ) (kept : Bool) (u : Use) (v : table.Use) → IsCalled s b u v → IsCalled t b (pin_ended kept u) (unpinned_use kept v)
    one b true Pinned v c = ap (unpinned_use true) c
    one b false Pinned v c = ap (unpinned_use false) c
    one b kept (Drawn who) v c = drawn_through s t who v (unpinned_use kept v) holders (λ seat x. ap (unpinned_use kept) x) c
    one b kept (Staged who) v c = drawn_through s t who v (unpinned_use kept v) holders (λ seat x. ap (unpinned_use kept) x) c
    one b kept (Freed since until) v c = (ap (unpinned_use kept) c.0, subst (λ (ws : List Waiting). WaitsAs ws b until) (sym waiting) c.1)
    one b kept Free v c = ap (unpinned_use kept) c
    one b kept (Live since) v c = ap (unpinned_use kept) c
    one b kept System v c = ap (unpinned_use kept) c
    one b kept Layer v c = ap (unpinned_use kept) c
    one b kept Aside v c = ap (unpinned_use kept) c
    one b kept Laid v c = ap (unpinned_use kept) c
    one b kept Coming v c = ap (unpinned_use kept) c

-- a pin is made: only pins change
pub called_same : (uses : ℕ → Use) (s t : Space) → t.uses ≡ s.uses → t.holders ≡ s.holders → t.waiting ≡ s.waiting → IsTableOf uses s → IsTableOf uses t
called_same uses s t us hs ws h = record {
  each = λ b lt. subst (λ (v : table.Use). IsCalled t b (uses b) v) (ap (λ (x : List table.Use). use_at x b) (sym us))
      (still_called s t b (uses b) (use_at s.uses b) (record { seats = λ who seat q. ap (λ (x : List Holder). held_seat x who) hs ∙ q; waits = λ c n x. subst (λ (v : List Waiting). WaitsAs v c n) (sym ws) x })
      (h.each b (omega (arith, lt, ap length us))));
}
