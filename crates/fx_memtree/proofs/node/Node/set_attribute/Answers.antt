use Rattle.std.proofs.Common.{ℕ, List, Some, subst}
use Rattle.fx_memtree.proofs.Attributes.{Changed, marked_by}
use Rattle.fx_memtree.proofs.node.Node.set_attribute.Goals as goal

pub returns-clause-ok : goal.returns-clause-ok
returns-clause-ok c =
    let old = c.self.inside.attributes.entries in
    let new = c.insert.new.self.entries in
    marked_by c.self.inside.kind old new c.args.name.now (Some c.args.value.now) c.args.self.now c.self.view_is
    (subst (λ (value : List ℕ). Changed old new c.args.name.now (Some value)) c.in_ok-clone-2.ensures.cases
    (subst (λ (name : List ℕ). Changed old new name (Some c.in_ok-clone-2.field-0)) c.in_ok-clone.ensures.cases c.in_ok-insert.ensures.updates.0))
