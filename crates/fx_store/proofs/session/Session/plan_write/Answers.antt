use Rattle.std.proofs.Common.{◌∙◌, List, sym, ap, subst}
use Rattle.std.specs.FinMap.{get}
use Rattle.fx_item.specs.Item.{PlainItem}
use Rattle.fx_plain.specs.declared.step.Step.TheVariants.{Write}
use Rattle.fx_store.specs.Session.{IsPlan}
use Rattle.fx_store.proofs.Planning.{file_known, file_plan}
use Rattle.fx_store.proofs.session.Session.plan_write.Goals as goal

pub unreachable-requires : goal.unreachable-requires
unreachable-requires c =
    let w = c.requires.written in
    let known = file_known w.0 c.args.self.now.tree c.args.self.now.nodes c.args.self.now.next w.3 c.args.path.now w.1 w.2 w.4 in
    c.in_default.not-Some known.0 (c.get.ensures ∙ ap (get c.args.self.now.nodes) c.as_slice.ensures ∙ known.2)

pub returns : goal.returns
returns c = record {
  plan = λ items at text k done.
      subst (λ (list : List PlainItem). IsPlan items c.args.self.now.nodes c.args.self.now.next (Write c.args.path.now at text) list c.args.self.now.next) (sym c.in_ok-items.ensures)
      (file_plan items c.args.self.now.tree c.args.self.now.nodes c.args.self.now.next k c.args.path.now at text done c.in-Some.node (ap (get c.args.self.now.nodes) (sym c.as_slice.ensures) ∙ sym c.get.ensures ∙ c.in-Some.is));
}
