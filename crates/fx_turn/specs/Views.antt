-- The view of a seat at each step of a turn, and what contracts see of it.
use Rattle.std.specs.Prelude.{◌≡◌, ℕ, ◌+◌, ◌-◌, ◌<◌, Bool, true, false, List, [], ◌∷◌, count_by}
use Rattle.std.specs.FinMap.{empty}
use Rattle.atomic_table.specs.Seated.{TableId}
use Rattle.fx_turn.specs.declared.view.View.{View}
use Rattle.fx_turn.specs.Lists.{longer, shorter}
use Rattle.fx_turn.specs.Parts.{Parts, only, without, union, without_others}
use Rattle.fx_turn.specs.States.{PassState, HeldState}

module _ {N P : Type 0} where
  -- a pass that does not hold the turn
  abbrev pub resting : List N → ℕ → ℕ → Parts P → View N P
  resting seen own shares mine = record {
    seen = seen;
    own = own;
    shares = shares;
    mine = mine;
    holds = false;
    taken_log = [];
    taken_parts = empty;
    shorter = [];
    first = empty;
    second = empty;
  }

  -- it holds the turn, and took the value with this log and these parts
  abbrev pub holding : View N P → List N → Parts P → View N P
  holding v log parts = record {
    seen = v.seen;
    own = v.own;
    shares = v.shares;
    mine = v.mine;
    holds = true;
    taken_log = log;
    taken_parts = parts;
    shorter = [];
    first = empty;
    second = empty;
  }

  -- it gave the value back, with this log and these parts
  abbrev pub given : (N → Bool) → View N P → List N → Parts P → View N P
  given counts v log parts =
      resting log (v.own + (count_by counts log - count_by counts v.taken_log)) v.shares
      (without_others v.taken_parts v.mine parts)

  -- what stays with a pass when a share and who's part are cut off, and what is cut off
  abbrev pub stays : ℕ → View N P → View N P
  stays who v = resting v.seen v.own (v.shares - 1) (without who v.mine)

  abbrev pub leaves : ℕ → View N P → View N P
  leaves who v = resting v.seen 0 1 (only who v.mine)

  -- two passes put together
  abbrev pub joined : View N P → View N P → View N P
  joined v w = record {
    seen = longer v.seen w.seen;
    own = v.own + w.own;
    shares = v.shares + w.shares;
    mine = union v.mine w.mine;
    holds = false;
    taken_log = [];
    taken_parts = empty;
    shorter = shorter v.seen w.seen;
    first = v.mine;
    second = w.mine;
  }

  -- what is left of the second of them
  abbrev pub spent : View N P
  spent = resting [] 0 0 empty

  abbrev pub state_of : TableId → View N P → PassState N P
  state_of id v = record { turn = id; seen = v.seen; own = v.own; shares = v.shares; mine = v.mine }

  abbrev pub pass_of : TableId → List (View N P) → PassState N P
  pass_of id [] = record { turn = id; seen = []; own = 0; shares = 0; mine = empty }
  pass_of id (v ∷ vs) = state_of id v

  abbrev pub held_of : TableId → View N P → HeldState N P
  held_of id v = record { pass = state_of id v; log = v.taken_log; parts = v.taken_parts }

  -- there is one view, with a share, and it does not hold the turn
  abbrev pub Rests : List (View N P) → Type 0
  Rests views = (v : View N P) × (views ≡ v ∷ []) × (v.holds ≡ false) × (0 < v.shares)
