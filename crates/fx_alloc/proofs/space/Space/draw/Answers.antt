use Rattle.std.proofs.Common.{◌≡◌, ◌<◌, List, None, IsSomeAnd, refl, arith, sym, ◌∙◌, subst, count_by, get_or}
use Rattle.std.proofs.lemmas.List.Sums.{get_or-le-sum_by}
use Rattle.std.proofs.lemmas.Grind.{get_or_default_zero}
use Rattle.fx_alloc.specs.declared.uses.Use.{Use}
use Rattle.fx_alloc.specs.declared.uses.Use.TheVariants.{Free, Drawn}
use Rattle.fx_alloc.specs.declared.holders.Holder.{Holder}
use Rattle.fx_alloc.specs.declared.holders.TheConstants.{VACANT}
use Rattle.fx_alloc.specs.Uses.{is_free, use_at}
use Rattle.fx_alloc.specs.Holders.{held_seat}
use Rattle.fx_alloc.specs.Space.{Space, holder_at, HoldsBlock}
use Rattle.fx_alloc.proofs.SpaceKept.{seat_facts, holder_read}
use Rattle.fx_alloc.proofs.SpaceMoves.{IsSpace-drawn}
use Rattle.fx_alloc.proofs.FitPins.{FitPins-same, SameHeld-set}
use Rattle.fx_alloc.proofs.space.Space.draw.Goals as goal

pub next_free-at-requires : goal.next_free-at-requires
next_free-at-requires c =
    let f = seat_facts _ _ _ _ _ c.as_slice.ensures.value c.find_seat.ensures c.in-Some.is c.self.invariant.0.seats.seats in
    let h : IsSomeAnd (held_seat c.self.inside.holders.items c.args.who) (λ seat. 0 < (holder_at c.self.inside.holders.items seat).held) = subst (λ (s : Space). HoldsBlock s c.args.who) (sym c.self.view_is) c.requires in
    let held : 0 < (holder_at c.self.inside.holders.items c.in-Some.seat).held = subst (λ o. IsSomeAnd o (λ seat. 0 < (holder_at c.self.inside.holders.items seat).held)) f.0 h in
    let some : 0 < count_by is_free c.self.inside.uses.items = omega (arith, held, c.self.invariant.0.fits, c.self.invariant.0.counts.of_free, get_or-le-sum_by (λ h. h.held) c.self.inside.holders.items c.in-Some.seat VACANT (omega (arith, f.1, c.self.invariant.0.seats.seats))) in
    subst (λ (us : List Use). 0 < count_by is_free us) (sym c.as_slice-2.ensures.value) some

pub unreachable-requires : goal.unreachable-requires
unreachable-requires c =
    let none : held_seat c.self.inside.holders.items c.args.who ≡ None = subst (λ (l : List Holder). held_seat l c.args.who ≡ None) c.as_slice.ensures.value (sym c.find_seat.ensures ∙ c.in_default.is) in
    let h : IsSomeAnd (held_seat c.self.inside.holders.items c.args.who) (λ seat. 0 < (holder_at c.self.inside.holders.items seat).held) = subst (λ (s : Space). HoldsBlock s c.args.who) (sym c.self.view_is) c.requires in
    subst (λ o. IsSomeAnd o (λ seat. 0 < (holder_at c.self.inside.holders.items seat).held)) none h

pub invariant_of-self : goal.invariant_of-self
invariant_of-self c =
    let f = seat_facts _ _ _ _ _ c.as_slice.ensures.value c.find_seat.ensures c.in-Some.is c.self.invariant.0.seats.seats in
    let h : IsSomeAnd (held_seat c.self.inside.holders.items c.args.who) (λ seat. 0 < (holder_at c.self.inside.holders.items seat).held) = subst (λ (s : Space). HoldsBlock s c.args.who) (sym c.self.view_is) c.requires in
    let held : 0 < (holder_at c.self.inside.holders.items c.in-Some.seat).held = subst (λ o. IsSomeAnd o (λ seat. 0 < (holder_at c.self.inside.holders.items seat).held)) f.0 h in
    let read : c.index.result.now ≡ holder_at c.self.inside.holders.items c.in-Some.seat = holder_read _ _ _ c.index.ensures f.1 c.self.invariant.0.seats.seats in
    let head : c.index-before.result.now ≡ get_or c.self.inside.heads.items c.in-Some.seat 0 = c.index-before.ensures ∙ get_or_default_zero c.self.inside.heads.items c.in-Some.seat c.index-before.result.now (omega (arith, f.1, c.self.invariant.0.seats.heads_len)) in
    let free : use_at c.self.inside.uses.items c.next_free-at.result ≡ Free = subst (λ (us : List Use). use_at us c.next_free-at.result ≡ Free) c.as_slice-2.ensures.value c.next_free-at.ensures.free in
    rw (c.with_drawn-holder.ensures, read, head)
    (IsSpace-drawn c.in-Some.seat c.next_free-at.result c.self.invariant.0 f.1 f.2 held free, FitPins-same (SameHeld-set c.self.inside.uses.items c.next_free-at.result Free (Drawn c.in-Some.seat) free (λ x. cc) refl refl) c.self.invariant.1)
