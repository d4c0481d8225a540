-- A write into the node at a path is one into the tree.
use Rattle.std.proofs.Common.{◌≡◌, ℕ, ◌+◌, Bool, true, false, cond, List, length, refl, sym, ap, ◌∙◌}
use Rattle.std.specs.Prelude.{None, Some, Result, Ok, Err, nat_lt}
use Rattle.std.specs.FinMap.{get, insert}
use Rattle.fx_plain.specs.Node.{Node, Dir, File, written}
use Rattle.fx_plain.specs.Tree.{Tree}
use Rattle.fx_plain.specs.Table.{walk, write_at}
use Rattle.fx_plain.specs.Memory.{write_node}
use Rattle.fx_plain.specs.declared.contents.TheConstants.{MAX_FILE}
use Rattle.fx_plain.specs.declared.step.Answer.{Answer}
use Rattle.fx_plain.specs.declared.step.Answer.TheVariants.{Done}
use Rattle.fx_plain.specs.declared.step.Refusal.{Refusal}
use Rattle.fx_plain.specs.declared.step.Refusal.TheVariants.{IsDir, NotFound, TooLong}
use Rattle.fx_plain.proofs.Views.{insert_same}

-- what is left of the tree, where the node at the path is written
abbrev put_back : Tree → List (List ℕ) → Result Answer Refusal × Node → Result Answer Refusal × Tree
put_back tree path outcome = (outcome.0, insert tree path outcome.1)

at_node : (tree : Tree) (path : List (List ℕ)) (at : ℕ) (text : List ℕ) (node : Node) → get tree path ≡ Some node → write_at tree path at text None (Some node) ≡ put_back tree path (write_node at text node)
at_node tree path at text (Dir attributes) e = ap (λ t. (Err IsDir, t)) (sym (insert_same tree path (Dir attributes) e))
at_node tree path at text (File contents attributes) e = by (nat_lt MAX_FILE (at + length text))
  where
    by : (b : Bool) → cond b (let a : Result Answer Refusal × Tree = (Err TooLong, tree) in a) (Ok Done, insert tree path (File (written at text contents) attributes))
        ≡ put_back tree path (cond b (Err TooLong, File contents attributes) (Ok Done, File (written at text contents) attributes))
    by true = ap (λ t. (Err TooLong, t)) (sym (insert_same tree path (File contents attributes) e))
    by false = refl

-- a node that is there
pub written_there : (tree after : Tree) (path : List (List ℕ)) (at : ℕ) (text : List ℕ) (old new : Node) (answer : Result Answer Refusal) → None ≡ walk tree path → get tree path ≡ Some old → after ≡ insert tree path new → write_node at text old ≡ (answer, new)
    → write_at tree path at text (walk tree path) (get tree path) ≡ (answer, after)
written_there tree after path at text old new answer way there is done =
    (λ i. write_at tree path at text (sym way i) (there i))
    ∙ at_node tree path at text old there
    ∙ ap (put_back tree path) done
    ∙ ap (λ t. (answer, t)) (sym is)

-- no node
pub written_nowhere : (tree after : Tree) (path : List (List ℕ)) (at : ℕ) (text : List ℕ) → None ≡ walk tree path → get tree path ≡ None → after ≡ tree → write_at tree path at text (walk tree path) (get tree path) ≡ (Err NotFound, after)
written_nowhere tree after path at text way there is = (λ i. write_at tree path at text (sym way i) (there i)) ∙ ap (λ t. (Err NotFound, t)) (sym is)
