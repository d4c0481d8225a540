-- Who holds what.
use Rattle.std.specs.Prelude.{ℕ, ◌+◌, ◌-◌, ◌==◌, ◌&&◌, not, Bool, List, Option, position}
use Rattle.fx_item.specs.declared.space.Need.{Need}
use Rattle.fx_alloc.specs.declared.holders.Holder.{Holder}

-- the number has the seat
abbrev pub sits_on : ℕ → Holder → Bool
sits_on who h = h.sits && (h.who == who)

abbrev pub held_seat : List Holder → ℕ → Option ℕ
held_seat holders who = position (λ h. sits_on who h) holders

abbrev pub vacant_seat : List Holder → Option ℕ
vacant_seat holders = position (λ h. not h.sits) holders

abbrev pub needing : Holder → Need → Holder
needing h need = record h {
  nodes = h.nodes + need.nodes;
  attributes = h.attributes + need.attributes;
  held = h.held + need.blocks;
}

abbrev pub having_drawn : Holder → Holder
having_drawn h = record h { held = h.held - 1; drawn = h.drawn + 1 }
