-- One step of a walk.
use Rattle.std.proofs.Common.{◌≡◌, ℕ, ◌+◌, ◌<◌, List, [], refl, length, take, drop, get_or, drop-cons, add-one}
use Rattle.std.proofs.Math.Seq.{take-suc}
use Rattle.std.specs.Prelude.{Option}
use Rattle.std.specs.FinMap.{get}
use Rattle.fx_plain.specs.Tree.{Tree}
use Rattle.fx_plain.specs.Table.{walk_from, or_else, obstacle}
use Rattle.fx_plain.specs.declared.step.Refusal.{Refusal}

pub walk_from_next : (tree : Tree) (path : List (List ℕ)) (i : ℕ) (found : Option Refusal) → i < length path → found ≡ obstacle (get tree (take i path))
    → or_else found (walk_from tree (take (i + 1) path) (drop (i + 1) path)) ≡ walk_from tree (take i path) (drop i path)
walk_from_next tree path i found h e =
    let name = get_or path i [] in
    rw (e, add-one, drop-cons path i [], take-suc path i []) refl
