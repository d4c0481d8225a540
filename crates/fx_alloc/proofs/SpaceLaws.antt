-- Room by the counts is room by the rule over plain numbers; and what may be drawn is free.
use Rattle.std.proofs.Common.{◌≡◌, ℕ, ◌+◌, ◌<◌, ◌⊎◌, Option, Some, None, IsSomeAnd, length, subst, refl, arith, inl, inr}
use Rattle.std.proofs.lemmas.List.Sums.{get_or-le-sum_by}
use Rattle.fx_item.specs.declared.space.Need.{Need}
use Rattle.fx_item.specs.SpaceRule.{NeedsNothing, FitsCounted, HasRoom}
use Rattle.fx_alloc.specs.declared.holders.TheConstants.{VACANT}
use Rattle.fx_alloc.specs.Holders.{held_seat, sits_on}
use Rattle.fx_alloc.specs.Space.{Space, beyond_of, nodes_with, attributes_with, blocks_with, waiting_of, free_count, undrawn, live_of, drawn, held_nodes, held_attributes, holder_at, PassesCounts}
use Rattle.fx_alloc.specs.Inside.{IsSoundSpace}
use Rattle.fx_alloc.specs.SpaceLaws.{counted_sizes, CountsAgree, DrawsAreFree}
use Rattle.fx_alloc.proofs.Positions.{position-some}

fits-same : (disk ring n m a b c d w : ℕ) → n ≡ m → a ≡ b → c ≡ d → FitsCounted disk ring n a c w → FitsCounted disk ring m b d w
fits-same disk ring n m a b c d w e f g h =
    subst (λ k. FitsCounted disk ring k b d w) e (subst (λ k. FitsCounted disk ring n k d w) f (subst (λ k. FitsCounted disk ring n a k w) g h))

room-counted : (s : Space) (need : Need) → HasRoom (length s.uses) s.ring (counted_sizes s) need (beyond_of s) → NeedsNothing need ⊎ PassesCounts s need
room-counted s need (inl none) = inl none
room-counted s need (inr h) = inr (
  fits-same (length s.uses) s.ring
      (s.nodes + need.nodes + held_nodes s.holders) (nodes_with s need)
      (s.attributes + need.attributes + held_attributes s.holders) (attributes_with s need)
      (live_of s + need.blocks + (undrawn s.holders + drawn s.holders)) (blocks_with s need)
      (waiting_of s) (omega arith) (omega arith) (omega arith) h.0,
  h.1,
)

counted-room : (s : Space) (need : Need) → NeedsNothing need ⊎ PassesCounts s need → HasRoom (length s.uses) s.ring (counted_sizes s) need (beyond_of s)
counted-room s need (inl none) = inl none
counted-room s need (inr h) = inr (
  fits-same (length s.uses) s.ring
      (nodes_with s need) (s.nodes + need.nodes + held_nodes s.holders)
      (attributes_with s need) (s.attributes + need.attributes + held_attributes s.holders)
      (blocks_with s need) (live_of s + need.blocks + (undrawn s.holders + drawn s.holders))
      (waiting_of s) (omega arith) (omega arith) (omega arith) h.0,
  h.1,
)

pub counts-agree : CountsAgree
counts-agree s need = (room-counted s need, counted-room s need)

free-of : (s : Space) (who : ℕ) (o : Option ℕ) → held_seat s.holders who ≡ o → IsSoundSpace s → IsSomeAnd o (λ seat. 0 < (holder_at s.holders seat).held) → 0 < free_count s
free-of s who None e sound h = absurd h
free-of s who (Some seat) e sound h =
    let f = position-some (λ x. sits_on who x) s.holders seat VACANT e in
    omega (arith, h, sound.held, get_or-le-sum_by (λ x. x.held) s.holders seat VACANT f.0)

pub draws-are_free : DrawsAreFree
draws-are_free s who sound h = free-of s who (held_seat s.holders who) refl sound h
