-- An image with this soundness is sound as plain data.
use Rattle.std.proofs.Common.{◌≡◌, ℕ, List, sym, subst}
use Rattle.std.proofs.Math.Path.{fun_ext}
use Rattle.fx_disk.specs.Record.{Cell}
use Rattle.fx_plain.specs.Tree.{Tree}
use Rattle.fx_contents.specs.Points.{Points}
use Rattle.fx_contents.specs.Standing.{AreClear, StandForTree}
use Rattle.fx_uses.specs.Uses.{image_block}
use Rattle.fx_cuts.specs.Joined.{NumberedItems, points_up_to}
use Rattle.fx_cuts.specs.Images.{IsImageUpTo}
use Rattle.fx_sound.specs.Image.{PlainImage, points_in}
use Rattle.fx_sound.specs.Parts.{IsSoundImage, IsClearImage}
use Rattle.fx_layered.specs.Gathered.{IsGatheredImage, IsSoundThere, layers_meanings}

pub sound_there : (sum : List ℕ → ℕ) (first_data : ℕ) (before : ℕ → Cell) (generation : ℕ) (image : List (List ℕ)) (base : ℕ) (points : Points) (txns : NumberedItems) (k : ℕ) (tree : Tree)
    → IsImageUpTo (layers_meanings sum first_data before generation) image base points txns k tree
    → (plain : PlainImage) × IsGatheredImage image base points txns k plain × IsSoundImage plain × IsClearImage plain (image_block image) × StandForTree (points_in plain.items) (image_block image) tree
sound_there sum first_data before generation image base points txns k tree h =
    let s : IsSoundThere image base points txns k = h.sound in
    let same : points_up_to points txns k ≡ points_in s.plain.items = sym (fun_ext s.gathered.items_are) in (
      s.plain,
      s.gathered,
      s.sound,
      subst (λ (m : Points). AreClear m (image_block image)) same h.stands.clear,
      subst (λ (m : Points). StandForTree m (image_block image) tree) same h.stands.stands,
    )
