-- The plan of each step does it.
use Rattle.std.proofs.Common.{ℕ, List, sym, subst}
use Rattle.fx_item.specs.Overlay.{Said}
use Rattle.fx_plain.specs.Tree.{Tree}
use Rattle.fx_namespace.specs.Commits.{IsBelow}
use Rattle.fx_contents.specs.Points.{Points, value_under}
use Rattle.fx_contents.specs.Standing.{StandForTree}
use Rattle.fx_steps.specs.declared.step.TreeStep.{TreeStep}
use Rattle.fx_tree.specs.Keys.{KeepsKeys}
use Rattle.fx_tree.specs.Plans.{IsDoneBy, IsNamesPlan, OfCreate, OfDelAttr, OfMkdir, OfRemove, OfRename, OfSetAttr}
use Rattle.fx_tree.proofs.NewNodes.{create_does, mkdir_does}
use Rattle.fx_tree.proofs.Removals.{remove_does}
use Rattle.fx_tree.proofs.Attributes.{set_does, unset_does}
use Rattle.fx_tree.proofs.Renames.{rename_does}
use Rattle.fx_tree.proofs.Over.{plan_over}

pub plan_does : (m : Points) (f : ℕ → List ℕ) (t : Tree) (id store : ℕ) (step : TreeStep) (said : Said) → StandForTree m f t → IsBelow (value_under m) id store
    → IsNamesPlan m id store step said → IsDoneBy m said f t step
plan_does m f t id store step said s b (OfMkdir path is d) = subst (IsDoneBy m said f t) (sym is) (mkdir_does m f t id store path said s b d)
plan_does m f t id store step said s b (OfCreate path is d) = subst (IsDoneBy m said f t) (sym is) (create_does m f t id store path said s b d)
plan_does m f t id store step said s b (OfRemove path is d) = subst (IsDoneBy m said f t) (sym is) (remove_does m f t path said s d)
plan_does m f t id store step said s b (OfSetAttr path name value is d) = subst (IsDoneBy m said f t) (sym is) (set_does m f t path name value said s d)
plan_does m f t id store step said s b (OfDelAttr path name is d) = subst (IsDoneBy m said f t) (sym is) (unset_does m f t path name said s d)
plan_does m f t id store step said s b (OfRename from to is d) = subst (IsDoneBy m said f t) (sym is) (rename_does m f t from to said s d)

pub plan_promises : (m n : Points) (f g : ℕ → List ℕ) (t u : Tree) (id store : ℕ) (step : TreeStep) (said : Said) → StandForTree m f t → StandForTree n g u
    → IsBelow (value_under n) id store → KeepsKeys m n step → IsNamesPlan m id store step said → IsDoneBy n said g u step
plan_promises m n f g t u id store step said s r b keeps d = plan_does n g u id store step said r b (plan_over m n f g t u id store step said s r keeps d)
