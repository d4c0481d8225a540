use Rattle.std.proofs.Common.{◌≡◌, ◌++◌, sym, subst, ap, ◌∙◌}
use Rattle.std.specs.List.{flat_map}
use Rattle.fx_item.specs.Item.{item_of, items_of}
use Rattle.fx_item.specs.Look.{value_in}
use Rattle.fx_sound.specs.Image.{points_in}
use Rattle.fx_audit.specs.Audited.{plain_image}
use Rattle.fx_audit.specs.Nodes.{LeadBadNodes, amiss_by, one_or_none}
use Rattle.fx_audit.proofs.BadNodes.{leads}
use Rattle.fx_audit.proofs.Seen.{flat_items}
use Rattle.fx_audit.proofs.nodes.leading.Goals as goal

pub returns : goal.returns
returns c =
    let image = plain_image c.args.image.now in
    let found = c.in_ok-wrong.wrong in
    let all : c.push_found.new.nodes.items ≡ flat_map (amiss_by image.ring image.disk (points_in image.items)) image.items ++ one_or_none found =
    c.in_ok-push_found.ensures ∙ ap (λ xs. xs ++ one_or_none found) (c.in_ok-bad.ensures ∙ flat_items (amiss_by image.ring image.disk (points_in image.items)) c.args.image.now.items.now) in
    subst (LeadBadNodes image) (sym all) (leads image c.requires (value_in c.in_ok-names.names.items) c.in_ok-names.ensures found c.in_ok-wrong.ensures.stands c.in_ok-wrong.ensures.wrong)
