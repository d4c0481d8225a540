-- A node in the place of another.
use Rattle.std.proofs.Common.{◌≡◌, ℕ, List, refl, sym, ap, ◌∙◌, cond}
use Rattle.std.specs.Prelude.{Option, Some, None, is_some}
use Rattle.std.specs.FinMap.{get, insert}
use Rattle.fx_plain.specs.Node.{Node}
use Rattle.fx_plain.specs.Tree.{Tree}
use Rattle.fx_memtree.specs.Carried.{put_in_place}

pub left_out : (t : Tree) (path : List (List ℕ)) (o : Option Node) → o ≡ None → t ≡ put_in_place t path o
left_out t path o e = ap (put_in_place t path) (sym e)

pub not_placed : (t : Tree) (path : List (List ℕ)) (o : Option Node) (node : Node) → o ≡ Some node → get t path ≡ None → t ≡ put_in_place t path o
not_placed t path o node e none = ap (λ p. cond (is_some p) (insert t path node) t) (sym none) ∙ ap (put_in_place t path) (sym e)

pub placed : (t : Tree) (path : List (List ℕ)) (o : Option Node) (node other : Node) → o ≡ Some node → get t path ≡ Some other → insert t path node ≡ put_in_place t path o
placed t path o node other e there = ap (λ p. cond (is_some p) (insert t path node) t) (sym there) ∙ ap (put_in_place t path) (sym e)
