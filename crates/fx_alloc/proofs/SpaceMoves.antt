-- The parts of an allocator fit one another after blocks were drawn, taken over, freed and settled.
use Rattle.std.proofs.Common.{◌≡◌, ℕ, ◌+◌, ◌-◌, ◌<◌, ◌≤◌, zero, suc, Bool, true, false, cond, nat_le, List, [], ◌∷◌, ◌++◌, length, get_or, set, map, count_by, All, Option, refl, sym, ◌∙◌, ap, subst, arith, length-set, length-append, inl, inr, leb-false}
use Rattle.std.proofs.lemmas.List.{get_or_default, get_or-set_same, get_or-set_other, map-append}
use Rattle.std.proofs.lemmas.List.Sums.{sum_by-set}
use Rattle.std.proofs.lemmas.List.Elements.{All-append}
use Rattle.std.proofs.lemmas.Bool.{cases_eq, true≢false}
use Rattle.fx_alloc.specs.declared.uses.Use.{Use}
use Rattle.fx_alloc.specs.declared.uses.Use.TheVariants.{System, Free, Drawn, Live, Freed, Layer, Laid}
use Rattle.fx_alloc.specs.declared.uses.Waiting.{Waiting}
use Rattle.fx_alloc.specs.declared.holders.Holder.{Holder}
use Rattle.fx_alloc.specs.declared.holders.TheConstants.{VACANT}
use Rattle.fx_alloc.specs.declared.chain.Chain.{Chain}
use Rattle.fx_alloc.specs.Uses.{is_system, is_free, is_drawn_by, is_live, is_freed, is_layer, is_laid, is_pinned, put_all, blocks_from}
use Rattle.fx_alloc.specs.Holders.{having_drawn}
use Rattle.fx_alloc.specs.Space.{holder_at, undrawn, drawn, turned, settled_blocks, left_waiting, IsLatest}
use Rattle.fx_alloc.specs.Space.{AreRising}
use Rattle.fx_alloc.specs.Inside.{waiting_blocks, IsDrawn, IsSpace}
use Rattle.fx_alloc.specs.Uses.{AreUsed}
use Rattle.fx_alloc.proofs.UseLists.{moved, within, AreUsed-kept, AreUsed-zero, AreUsed-links, AreUsed-head, one_of, none_of, length-put_all, count-put_all, AreUsed-others, AreUsed-left, AreUsed-front, AreUsed-back, length-blocks_from}
use Rattle.fx_alloc.proofs.SpaceKept.{same_seat, other_seat, put_all-turned, at_seat, at_others, AreHolders-set, IsAlone-same, IsAlone-vacant}

pub IsSpace-drawn : {uses : List Use} {links : List ℕ} {ring given free live pinned : ℕ} {holders : List Holder} {heads : List ℕ} {layers laid : Chain} {waiting : List Waiting} {aside : Option ℕ}
    → (seat b : ℕ) → IsSpace uses links ring given free live pinned holders heads layers laid waiting aside
    → seat < 32 → (holder_at holders seat).sits ≡ true → 0 < (holder_at holders seat).held → get_or uses b System ≡ Free
    → IsSpace (set uses b (Drawn seat)) (set links b (get_or heads seat 0)) ring given (free - 1) live pinned (set holders seat (having_drawn (holder_at holders seat))) (set heads seat b) layers laid waiting aside
IsSpace-drawn {uses} {links} {ring} {given} {free} {live} {pinned} {holders} {heads} {layers} {laid} {waiting} {aside} seat b s l sits held e = record {
  small = omega (arith, s.small, length-set uses b (Drawn seat));
  linked = length-set links b (get_or heads seat 0) ∙ s.linked ∙ sym (length-set uses b (Drawn seat));
  ids = s.ids;
  counts = record {
    of_system = omega (arith, moved is_system uses b Free (Drawn seat) on_disk e, s.counts.of_system);
    of_free = omega (arith, moved is_free uses b Free (Drawn seat) on_disk e, s.counts.of_free);
    of_live = omega (arith, moved is_live uses b Free (Drawn seat) on_disk e, s.counts.of_live);
    of_freed = omega (arith, moved is_freed uses b Free (Drawn seat) on_disk e, s.counts.of_freed);
    of_layers = omega (arith, moved is_layer uses b Free (Drawn seat) on_disk e, s.counts.of_layers);
    of_laid = omega (arith, moved is_laid uses b Free (Drawn seat) on_disk e, s.counts.of_laid);
    of_pinned = omega (arith, moved is_pinned uses b Free (Drawn seat) on_disk e, s.counts.of_pinned);
    of_all = omega (arith, sum_drawn, s.counts.of_all, s.counts.of_free, moved is_free uses b Free (Drawn seat) on_disk e, length-set uses b (Drawn seat));
  };
  seats = AreHolders-set holders heads (set heads seat b) seat (having_drawn (holder_at holders seat)) s.seats l (length-set heads seat b ∙ s.seats.heads_len)
      (IsAlone-same holders heads seat (having_drawn (holder_at holders seat)) s.seats l refl refl) (λ q. absurd (true≢false (sym sits ∙ q)))
      (omega (arith, s.seats.nodes, sum_by-set (λ x. x.nodes) holders seat (having_drawn (holder_at holders seat)) VACANT below))
      (omega (arith, s.seats.attributes, sum_by-set (λ x. x.attributes) holders seat (having_drawn (holder_at holders seat)) VACANT below));
  of_seats = of_seats;
  of_layers = AreUsed-kept Layer (Drawn seat) uses b (blocks_from (set links b (get_or heads seat 0)) layers.head layers.len) (λ x. cc) (AreUsed-links Layer uses links b (get_or heads seat 0) layers.head layers.len (λ x. cc) s.of_layers);
  of_laid = AreUsed-kept Laid (Drawn seat) uses b (blocks_from (set links b (get_or heads seat 0)) laid.head laid.len) (λ x. cc) (AreUsed-links Laid uses links b (get_or heads seat 0) laid.head laid.len (λ x. cc) s.of_laid);
  of_freed = AreUsed-kept Freed (Drawn seat) uses b (waiting_blocks waiting) (λ x. cc) s.of_freed;
  rising = s.rising;
  few_laid = s.few_laid;
  fits = omega (arith, s.fits, s.counts.of_free, moved is_free uses b Free (Drawn seat) on_disk e, sum_held, held);
}
  where
    on_disk : b < length uses
    on_disk = within uses b Free e (λ x. cc)

    below : seat < length holders
    below = omega (arith, s.seats.seats, l)

    sum_drawn : drawn (set holders seat (having_drawn (holder_at holders seat))) + (holder_at holders seat).drawn ≡ drawn holders + ((holder_at holders seat).drawn + 1)
    sum_drawn = sum_by-set (λ x. x.drawn) holders seat (having_drawn (holder_at holders seat)) VACANT below

    sum_held : undrawn (set holders seat (having_drawn (holder_at holders seat))) + (holder_at holders seat).held ≡ undrawn holders + ((holder_at holders seat).held - 1)
    sum_held = sum_by-set (λ x. x.held) holders seat (having_drawn (holder_at holders seat)) VACANT below

    of_here : IsDrawn (set uses b (Drawn seat)) (set links b (get_or heads seat 0)) b ((holder_at holders seat).drawn + 1) seat
    of_here = record {
      chain = AreUsed-head (Drawn seat) uses links b (get_or heads seat 0) (holder_at holders seat).drawn on_disk (omega (arith, s.linked, on_disk)) (λ x. cc) (s.of_seats seat).chain;
      counted = (let k : cond {A = ℕ} (is_drawn_by seat (Drawn seat)) 1 0 ≡ 1 = one_of (is_drawn_by seat (Drawn seat)) (same_seat seat) in
          omega (arith, moved (is_drawn_by seat) uses b Free (Drawn seat) on_disk e, k, (s.of_seats seat).counted));
    }

    of_others : (t : ℕ) → (t ≡ seat → ⊥) → IsDrawn (set uses b (Drawn seat)) (set links b (get_or heads seat 0)) (get_or heads t 0) (holder_at holders t).drawn t
    of_others t q = record {
      chain = AreUsed-kept (Drawn t) (Drawn seat) uses b (blocks_from (set links b (get_or heads seat 0)) (get_or heads t 0) (holder_at holders t).drawn) (λ x. cc) (AreUsed-links (Drawn t) uses links b (get_or heads seat 0) (get_or heads t 0) (holder_at holders t).drawn (λ x. cc) (s.of_seats t).chain);
      counted = (let k : cond {A = ℕ} (is_drawn_by t (Drawn seat)) 1 0 ≡ 0 = none_of (is_drawn_by t (Drawn seat)) (other_seat t seat q) in
          omega (arith, moved (is_drawn_by t) uses b Free (Drawn seat) on_disk e, k, (s.of_seats t).counted));
    }

    of_seats : (t : ℕ) → IsDrawn (set uses b (Drawn seat)) (set links b (get_or heads seat 0)) (get_or (set heads seat b) t 0) (holder_at (set holders seat (having_drawn (holder_at holders seat))) t).drawn t
    of_seats t = elim (cases_eq t seat) [
      | inl q ↦ subst (λ k. IsDrawn (set uses b (Drawn seat)) (set links b (get_or heads seat 0)) (get_or (set heads seat b) k 0) (holder_at (set holders seat (having_drawn (holder_at holders seat))) k).drawn k) (sym q)
          (subst (λ k. IsDrawn (set uses b (Drawn seat)) (set links b (get_or heads seat 0)) k (holder_at (set holders seat (having_drawn (holder_at holders seat))) seat).drawn seat) (sym (get_or-set_same heads seat b 0 (omega (arith, s.seats.heads_len, l))))
          (subst (λ (h : Holder). IsDrawn (set uses b (Drawn seat)) (set links b (get_or heads seat 0)) b h.drawn seat) (sym (at_seat holders seat (having_drawn (holder_at holders seat)) below)) of_here))
      | inr q ↦ subst (λ k. IsDrawn (set uses b (Drawn seat)) (set links b (get_or heads seat 0)) k (holder_at (set holders seat (having_drawn (holder_at holders seat))) t).drawn t) (sym (get_or-set_other heads seat t b 0 q))
          (subst (λ (h : Holder). IsDrawn (set uses b (Drawn seat)) (set links b (get_or heads seat 0)) (get_or heads t 0) h.drawn t) (sym (at_others holders seat t (having_drawn (holder_at holders seat)) q)) (of_others t q))
    ]

-- ---- what was drawn from a seat

ended_as : {uses : List Use} {links : List ℕ} {ring given free live pinned : ℕ} {holders : List Holder} {heads : List ℕ} {layers laid : Chain} {waiting : List Waiting} {aside : Option ℕ}
    → (to : Use) (seat free2 live2 : ℕ) → IsSpace uses links ring given free live pinned holders heads layers laid waiting aside
    → seat < 32 → is_system to ≡ false → is_freed to ≡ false → is_layer to ≡ false → is_laid to ≡ false → is_pinned to ≡ false → ((t : ℕ) → is_drawn_by t to ≡ false)
    → count_by is_free (put_all to (blocks_from links (get_or heads seat 0) (holder_at holders seat).drawn) uses) ≡ free2
    → count_by is_live (put_all to (blocks_from links (get_or heads seat 0) (holder_at holders seat).drawn) uses) ≡ live2
    → free2 + live2 ≡ free + live + (holder_at holders seat).drawn → free ≤ free2
    → IsSpace (put_all to (blocks_from links (get_or heads seat 0) (holder_at holders seat).drawn) uses) links ring given free2 live2 pinned (set holders seat VACANT) heads layers laid waiting aside
ended_as {uses} {links} {ring} {given} {free} {live} {pinned} {holders} {heads} {layers} {laid} {waiting} {aside} to seat free2 live2 s l ts tf tl ta tp td cf cl total more = record {
  small = omega (arith, s.small, length-put_all to (blocks_from links (get_or heads seat 0) (holder_at holders seat).drawn) uses);
  linked = s.linked ∙ sym (length-put_all to (blocks_from links (get_or heads seat 0) (holder_at holders seat).drawn) uses);
  ids = s.ids;
  counts = record {
    of_system = omega (arith, count-put_all is_system (Drawn seat) to (blocks_from links (get_or heads seat 0) (holder_at holders seat).drawn) uses false false (λ x. cc) refl ts (s.of_seats seat).chain, s.counts.of_system);
    of_free = cf;
    of_live = cl;
    of_freed = omega (arith, count-put_all is_freed (Drawn seat) to (blocks_from links (get_or heads seat 0) (holder_at holders seat).drawn) uses false false (λ x. cc) refl tf (s.of_seats seat).chain, s.counts.of_freed);
    of_layers = omega (arith, count-put_all is_layer (Drawn seat) to (blocks_from links (get_or heads seat 0) (holder_at holders seat).drawn) uses false false (λ x. cc) refl tl (s.of_seats seat).chain, s.counts.of_layers);
    of_laid = omega (arith, count-put_all is_laid (Drawn seat) to (blocks_from links (get_or heads seat 0) (holder_at holders seat).drawn) uses false false (λ x. cc) refl ta (s.of_seats seat).chain, s.counts.of_laid);
    of_pinned = omega (arith, count-put_all is_pinned (Drawn seat) to (blocks_from links (get_or heads seat 0) (holder_at holders seat).drawn) uses false false (λ x. cc) refl tp (s.of_seats seat).chain, s.counts.of_pinned);
    of_all = omega (arith, sum_drawn, s.counts.of_all, total, length-put_all to (blocks_from links (get_or heads seat 0) (holder_at holders seat).drawn) uses);
  };
  seats = AreHolders-set holders heads heads seat VACANT s.seats l s.seats.heads_len (IsAlone-vacant holders seat) (λ q. refl)
      (omega (arith, s.seats.nodes, sum_by-set (λ x. x.nodes) holders seat VACANT VACANT below))
      (omega (arith, s.seats.attributes, sum_by-set (λ x. x.attributes) holders seat VACANT VACANT below));
  of_seats = of_seats;
  of_layers = AreUsed-others Layer (Drawn seat) to uses (blocks_from links (get_or heads seat 0) (holder_at holders seat).drawn) (blocks_from links layers.head layers.len) (λ x. cc) (s.of_seats seat).chain s.of_layers;
  of_laid = AreUsed-others Laid (Drawn seat) to uses (blocks_from links (get_or heads seat 0) (holder_at holders seat).drawn) (blocks_from links laid.head laid.len) (λ x. cc) (s.of_seats seat).chain s.of_laid;
  of_freed = AreUsed-others Freed (Drawn seat) to uses (blocks_from links (get_or heads seat 0) (holder_at holders seat).drawn) (waiting_blocks waiting) (λ x. cc) (s.of_seats seat).chain s.of_freed;
  rising = s.rising;
  few_laid = s.few_laid;
  fits = omega (arith, s.fits, more, sum_by-set (λ x. x.held) holders seat VACANT VACANT below);
}
  where
    below : seat < length holders
    below = omega (arith, s.seats.seats, l)

    sum_drawn : drawn (set holders seat VACANT) + (holder_at holders seat).drawn ≡ drawn holders + 0
    sum_drawn = sum_by-set (λ x. x.drawn) holders seat VACANT VACANT below

    len : length (blocks_from links (get_or heads seat 0) (holder_at holders seat).drawn) ≡ (holder_at holders seat).drawn
    len = length-blocks_from links (get_or heads seat 0) (holder_at holders seat).drawn

    of_here : IsDrawn (put_all to (blocks_from links (get_or heads seat 0) (holder_at holders seat).drawn) uses) links (get_or heads seat 0) 0 seat
    of_here = record {
      chain = AreUsed-zero (Drawn seat) (put_all to (blocks_from links (get_or heads seat 0) (holder_at holders seat).drawn) uses) links (get_or heads seat 0);
      counted = omega (arith, len, count-put_all (is_drawn_by seat) (Drawn seat) to (blocks_from links (get_or heads seat 0) (holder_at holders seat).drawn) uses true false (λ x. cc) (same_seat seat) (td seat) (s.of_seats seat).chain, (s.of_seats seat).counted);
    }

    of_others : (t : ℕ) → (t ≡ seat → ⊥) → IsDrawn (put_all to (blocks_from links (get_or heads seat 0) (holder_at holders seat).drawn) uses) links (get_or heads t 0) (holder_at holders t).drawn t
    of_others t q = record {
      chain = AreUsed-others (Drawn t) (Drawn seat) to uses (blocks_from links (get_or heads seat 0) (holder_at holders seat).drawn) (blocks_from links (get_or heads t 0) (holder_at holders t).drawn) (λ x. q (drawn_alike t seat x)) (s.of_seats seat).chain (s.of_seats t).chain;
      counted = omega (arith, count-put_all (is_drawn_by t) (Drawn seat) to (blocks_from links (get_or heads seat 0) (holder_at holders seat).drawn) uses false false (λ x. cc) (other_seat t seat q) (td t) (s.of_seats seat).chain, (s.of_seats t).counted);
    }
      where
        drawn_alike : (t u : ℕ) → Drawn u ≡ Drawn t → t ≡ u
        drawn_alike t u x = cc

    of_seats : (t : ℕ) → IsDrawn (put_all to (blocks_from links (get_or heads seat 0) (holder_at holders seat).drawn) uses) links (get_or heads t 0) (holder_at (set holders seat VACANT) t).drawn t
    of_seats t = elim (cases_eq t seat) [
      | inl q ↦ subst (λ k. IsDrawn (put_all to (blocks_from links (get_or heads seat 0) (holder_at holders seat).drawn) uses) links (get_or heads k 0) (holder_at (set holders seat VACANT) k).drawn k) (sym q)
          (subst (λ (h : Holder). IsDrawn (put_all to (blocks_from links (get_or heads seat 0) (holder_at holders seat).drawn) uses) links (get_or heads seat 0) h.drawn seat) (sym (at_seat holders seat VACANT below)) of_here)
      | inr q ↦ subst (λ (h : Holder). IsDrawn (put_all to (blocks_from links (get_or heads seat 0) (holder_at holders seat).drawn) uses) links (get_or heads t 0) h.drawn t) (sym (at_others holders seat t VACANT q)) (of_others t q)
    ]

pub IsSpace-undone : {uses : List Use} {links : List ℕ} {ring given free live pinned : ℕ} {holders : List Holder} {heads : List ℕ} {layers laid : Chain} {waiting : List Waiting} {aside : Option ℕ}
    → (seat : ℕ) → IsSpace uses links ring given free live pinned holders heads layers laid waiting aside → seat < 32
    → IsSpace (map (turned seat Free) uses) links ring given (free + (holder_at holders seat).drawn) live pinned (set holders seat VACANT) heads layers laid waiting aside
IsSpace-undone {uses} {links} {ring} {given} {free} {live} {pinned} {holders} {heads} {layers} {laid} {waiting} {aside} seat s l =
    let len : length (blocks_from links (get_or heads seat 0) (holder_at holders seat).drawn) ≡ (holder_at holders seat).drawn = length-blocks_from links (get_or heads seat 0) (holder_at holders seat).drawn in
    subst (λ (us : List Use). IsSpace us links ring given (free + (holder_at holders seat).drawn) live pinned (set holders seat VACANT) heads layers laid waiting aside)
    (put_all-turned seat Free (blocks_from links (get_or heads seat 0) (holder_at holders seat).drawn) uses refl (s.of_seats seat).chain ((s.of_seats seat).counted ∙ sym len))
    (ended_as Free seat (free + (holder_at holders seat).drawn) live s l refl refl refl refl refl (λ t. refl)
    (omega (arith, len, count-put_all is_free (Drawn seat) Free (blocks_from links (get_or heads seat 0) (holder_at holders seat).drawn) uses false true (λ x. cc) refl refl (s.of_seats seat).chain, s.counts.of_free))
    (omega (arith, count-put_all is_live (Drawn seat) Free (blocks_from links (get_or heads seat 0) (holder_at holders seat).drawn) uses false false (λ x. cc) refl refl (s.of_seats seat).chain, s.counts.of_live))
    (omega arith) (omega arith))

pub IsSpace-taken_over : {uses : List Use} {links : List ℕ} {ring given free live pinned : ℕ} {holders : List Holder} {heads : List ℕ} {layers laid : Chain} {waiting : List Waiting} {aside : Option ℕ}
    → (seat : ℕ) → IsSpace uses links ring given free live pinned holders heads layers laid waiting aside → seat < 32
    → IsSpace (map (turned seat Live) uses) links ring given free (live + (holder_at holders seat).drawn) pinned (set holders seat VACANT) heads layers laid waiting aside
IsSpace-taken_over {uses} {links} {ring} {given} {free} {live} {pinned} {holders} {heads} {layers} {laid} {waiting} {aside} seat s l =
    let len : length (blocks_from links (get_or heads seat 0) (holder_at holders seat).drawn) ≡ (holder_at holders seat).drawn = length-blocks_from links (get_or heads seat 0) (holder_at holders seat).drawn in
    subst (λ (us : List Use). IsSpace us links ring given free (live + (holder_at holders seat).drawn) pinned (set holders seat VACANT) heads layers laid waiting aside)
    (put_all-turned seat Live (blocks_from links (get_or heads seat 0) (holder_at holders seat).drawn) uses refl (s.of_seats seat).chain ((s.of_seats seat).counted ∙ sym len))
    (ended_as Live seat free (live + (holder_at holders seat).drawn) s l refl refl refl refl refl (λ t. refl)
    (omega (arith, count-put_all is_free (Drawn seat) Live (blocks_from links (get_or heads seat 0) (holder_at holders seat).drawn) uses false false (λ x. cc) refl refl (s.of_seats seat).chain, s.counts.of_free))
    (omega (arith, len, count-put_all is_live (Drawn seat) Live (blocks_from links (get_or heads seat 0) (holder_at holders seat).drawn) uses false true (λ x. cc) refl refl (s.of_seats seat).chain, s.counts.of_live))
    (omega arith) (omega arith))

-- ---- what waits

pub AreRising-more : (ws : List Waiting) (w : Waiting) → AreRising ws → IsLatest w.number ws → AreRising (ws ++ w ∷ [])
unfolding AreRising
AreRising-more [] w h a = (λ k d l. absurd (omega (arith, l)), tt)
AreRising-more (v ∷ vs) w h a =
    (All-append (λ (x : Waiting). v.number ≤ x.number) vs (w ∷ []) h.0 (one_after v w (a 0 v (omega arith))), AreRising-more vs w h.1 (λ k d l. a (suc k) d (omega (arith, l))))
  where
    one_after : (v w : Waiting) → v.number ≤ w.number → All (λ (x : Waiting). v.number ≤ x.number) (w ∷ [])
    one_after v w h zero d l = h
    one_after v w h (suc k) d l = absurd (omega (arith, l))

pub IsSpace-freed : {uses : List Use} {links : List ℕ} {ring given free live pinned : ℕ} {holders : List Holder} {heads : List ℕ} {layers laid : Chain} {waiting : List Waiting} {aside : Option ℕ}
    → (b : ℕ) (w : Waiting) → IsSpace uses links ring given free live pinned holders heads layers laid waiting aside
    → w.block ≡ b → get_or uses b System ≡ Live → IsLatest w.number waiting
    → IsSpace (set uses b Freed) links ring given free (live - 1) pinned holders heads layers laid (waiting ++ w ∷ []) aside
IsSpace-freed {uses} {links} {ring} {given} {free} {live} {pinned} {holders} {heads} {layers} {laid} {waiting} {aside} b w s wb e latest = record {
  small = omega (arith, s.small, length-set uses b Freed);
  linked = s.linked ∙ sym (length-set uses b Freed);
  ids = s.ids;
  counts = record {
    of_system = omega (arith, moved is_system uses b Live Freed on_disk e, s.counts.of_system);
    of_free = omega (arith, moved is_free uses b Live Freed on_disk e, s.counts.of_free);
    of_live = omega (arith, moved is_live uses b Live Freed on_disk e, s.counts.of_live);
    of_freed = omega (arith, moved is_freed uses b Live Freed on_disk e, s.counts.of_freed, more);
    of_layers = omega (arith, moved is_layer uses b Live Freed on_disk e, s.counts.of_layers);
    of_laid = omega (arith, moved is_laid uses b Live Freed on_disk e, s.counts.of_laid);
    of_pinned = omega (arith, moved is_pinned uses b Live Freed on_disk e, s.counts.of_pinned);
    of_all = omega (arith, s.counts.of_all, s.counts.of_live, moved is_live uses b Live Freed on_disk e, length-set uses b Freed, more);
  };
  seats = s.seats;
  of_seats = λ t. record {
    chain = AreUsed-kept (Drawn t) Freed uses b (blocks_from links (get_or heads t 0) (holder_at holders t).drawn) (λ x. cc) (s.of_seats t).chain;
    counted = omega (arith, moved (is_drawn_by t) uses b Live Freed on_disk e, (s.of_seats t).counted);
  };
  of_layers = AreUsed-kept Layer Freed uses b (blocks_from links layers.head layers.len) (λ x. cc) s.of_layers;
  of_laid = AreUsed-kept Laid Freed uses b (blocks_from links laid.head laid.len) (λ x. cc) s.of_laid;
  of_freed = subst (λ (bs : List ℕ). AreUsed Freed (set uses b Freed) bs) blocks (AreUsed-back Freed uses b (waiting_blocks waiting) on_disk (λ x. cc) s.of_freed);
  rising = AreRising-more waiting w s.rising latest;
  few_laid = s.few_laid;
  fits = s.fits;
}
  where
    on_disk : b < length uses
    on_disk = within uses b Live e (λ x. cc)

    more : length (waiting ++ w ∷ []) ≡ length waiting + 1
    more = length-append waiting (w ∷ [])

    blocks : waiting_blocks waiting ++ b ∷ [] ≡ waiting_blocks (waiting ++ w ∷ [])
    blocks = ap (λ k. waiting_blocks waiting ++ k ∷ []) (sym wb) ∙ sym (map-append (λ (v : Waiting). v.block) waiting (w ∷ []))

-- ---- what is settled

pub blocks-split : (n : ℕ) (ws : List Waiting) → waiting_blocks ws ≡ settled_blocks n ws ++ waiting_blocks (left_waiting n ws)
blocks-split n [] = refl
blocks-split n (w ∷ ws) = told (blocks-split n ws) (nat_le w.number n)
  where
    told : waiting_blocks ws ≡ settled_blocks n ws ++ waiting_blocks (left_waiting n ws) → (b : Bool) → waiting_blocks (w ∷ ws) ≡ (cond b (w.block ∷ settled_blocks n ws) []) ++ waiting_blocks (cond b (left_waiting n ws) (w ∷ ws))
    told e true = ap (λ (bs : List ℕ). w.block ∷ bs) e
    told e false = refl

pub length-left : (n : ℕ) (ws : List Waiting) → length (settled_blocks n ws) + length (left_waiting n ws) ≡ length ws
length-left n [] = refl
length-left n (w ∷ ws) = told (length-left n ws) (nat_le w.number n)
  where
    told : length (settled_blocks n ws) + length (left_waiting n ws) ≡ length ws → (b : Bool) → length (cond b (w.block ∷ settled_blocks n ws) []) + length (cond b (left_waiting n ws) (w ∷ ws)) ≡ length (w ∷ ws)
    told e true = omega (arith, e)
    told e false = omega arith

pub AreRising-left : (n : ℕ) (ws : List Waiting) → AreRising ws → AreRising (left_waiting n ws)
unfolding AreRising
AreRising-left n [] h = tt
AreRising-left n (w ∷ ws) h = told (AreRising-left n ws h.1) (nat_le w.number n)
  where
    told : AreRising (left_waiting n ws) → (b : Bool) → AreRising (cond b (left_waiting n ws) (w ∷ ws))
    told r true = r
    told r false = h

pub IsSpace-settled : {uses : List Use} {links : List ℕ} {ring given free live pinned : ℕ} {holders : List Holder} {heads : List ℕ} {layers laid : Chain} {waiting : List Waiting} {aside : Option ℕ}
    → (n : ℕ) → IsSpace uses links ring given free live pinned holders heads layers laid waiting aside
    → IsSpace (put_all Free (settled_blocks n waiting) uses) links ring given (free + length (settled_blocks n waiting)) live pinned holders heads layers laid (left_waiting n waiting) aside
IsSpace-settled {uses} {links} {ring} {given} {free} {live} {pinned} {holders} {heads} {layers} {laid} {waiting} {aside} n s = record {
  small = omega (arith, s.small, length-put_all Free (settled_blocks n waiting) uses);
  linked = s.linked ∙ sym (length-put_all Free (settled_blocks n waiting) uses);
  ids = s.ids;
  counts = record {
    of_system = omega (arith, count-put_all is_system Freed Free (settled_blocks n waiting) uses false false (λ x. cc) refl refl front, s.counts.of_system);
    of_free = omega (arith, count-put_all is_free Freed Free (settled_blocks n waiting) uses false true (λ x. cc) refl refl front, s.counts.of_free);
    of_live = omega (arith, count-put_all is_live Freed Free (settled_blocks n waiting) uses false false (λ x. cc) refl refl front, s.counts.of_live);
    of_freed = omega (arith, count-put_all is_freed Freed Free (settled_blocks n waiting) uses true false (λ x. cc) refl refl front, s.counts.of_freed, length-left n waiting);
    of_layers = omega (arith, count-put_all is_layer Freed Free (settled_blocks n waiting) uses false false (λ x. cc) refl refl front, s.counts.of_layers);
    of_laid = omega (arith, count-put_all is_laid Freed Free (settled_blocks n waiting) uses false false (λ x. cc) refl refl front, s.counts.of_laid);
    of_pinned = omega (arith, count-put_all is_pinned Freed Free (settled_blocks n waiting) uses false false (λ x. cc) refl refl front, s.counts.of_pinned);
    of_all = omega (arith, s.counts.of_all, length-left n waiting, length-put_all Free (settled_blocks n waiting) uses);
  };
  seats = s.seats;
  of_seats = λ t. record {
    chain = AreUsed-others (Drawn t) Freed Free uses (settled_blocks n waiting) (blocks_from links (get_or heads t 0) (holder_at holders t).drawn) (λ x. cc) front (s.of_seats t).chain;
    counted = omega (arith, count-put_all (is_drawn_by t) Freed Free (settled_blocks n waiting) uses false false (λ x. cc) refl refl front, (s.of_seats t).counted);
  };
  of_layers = AreUsed-others Layer Freed Free uses (settled_blocks n waiting) (blocks_from links layers.head layers.len) (λ x. cc) front s.of_layers;
  of_laid = AreUsed-others Laid Freed Free uses (settled_blocks n waiting) (blocks_from links laid.head laid.len) (λ x. cc) front s.of_laid;
  of_freed = AreUsed-left Freed Free uses (settled_blocks n waiting) (waiting_blocks (left_waiting n waiting)) whole;
  rising = AreRising-left n waiting s.rising;
  few_laid = s.few_laid;
  fits = omega (arith, s.fits);
}
  where
    whole : AreUsed Freed uses (settled_blocks n waiting ++ waiting_blocks (left_waiting n waiting))
    whole = subst (λ (bs : List ℕ). AreUsed Freed uses bs) (blocks-split n waiting) s.of_freed

    front : AreUsed Freed uses (settled_blocks n waiting)
    front = AreUsed-front Freed uses (settled_blocks n waiting) (waiting_blocks (left_waiting n waiting)) whole

rising-le : (ws : List Waiting) (d : Waiting) (k j : ℕ) → AreRising ws → k ≤ j → j < length ws → (get_or ws k d).number ≤ (get_or ws j d).number
unfolding AreRising
rising-le [] d k j h e l = absurd (omega (arith, l))
rising-le (w ∷ ws) d zero zero h e l = omega arith
rising-le (w ∷ ws) d zero (suc j) h e l = h.0 j d (omega (arith, l))
rising-le (w ∷ ws) d (suc k) zero h e l = absurd (omega (arith, e))
rising-le (w ∷ ws) d (suc k) (suc j) h e l = rising-le ws d k j h.1 (omega (arith, e)) (omega (arith, l))

-- the last number of a rising list is its greatest
pub IsLatest-last : (n : ℕ) (ws : List Waiting) (last : Waiting) → AreRising ws → last ≡ get_or ws (length ws - 1) last → last.number ≤ n → IsLatest n ws
IsLatest-last n ws last h e m k d l =
    let le : (get_or ws k last).number ≤ (get_or ws (length ws - 1) last).number = rising-le ws last k (length ws - 1) h (omega (arith, l)) (omega (arith, l)) in
    let same : (get_or ws k d).number ≡ (get_or ws k last).number = ap (λ (w : Waiting). w.number) (get_or_default ws k d last l) in
    let end : last.number ≡ (get_or ws (length ws - 1) last).number = ap (λ (w : Waiting). w.number) e in
    omega (arith, le, same, end, m)

pub settled_used : {uses : List Use} (n : ℕ) (waiting : List Waiting) → AreUsed Freed uses (waiting_blocks waiting) → AreUsed Freed uses (settled_blocks n waiting)
settled_used {uses} n waiting a = AreUsed-front Freed uses (settled_blocks n waiting) (waiting_blocks (left_waiting n waiting)) (subst (λ (bs : List ℕ). AreUsed Freed uses bs) (blocks-split n waiting) a)

pub at_most : (n m : ℕ) → n ≤ m → nat_le n m ≡ true
at_most n m l = told (nat_le n m) refl
  where
    told : (b : Bool) → nat_le n m ≡ b → b ≡ true
    told true e = refl
    told false e = absurd (omega (arith, l, leb-false n m e))
