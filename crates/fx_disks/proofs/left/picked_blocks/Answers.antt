use Rattle.std.proofs.Common.{◌≡◌, arith, length, sym, refl}
use Rattle.fx_disks.proofs.Leaving.{image-of, image-left}
use Rattle.fx_disks.proofs.left.picked_blocks.Goals as goal

pub choose_all-requires-clause-tracked : goal.choose_all-requires-clause-tracked
choose_all-requires-clause-tracked c = rw c.deref.ensures.value c.follow-flushed.ensures.tracked

pub returns-clause-image : goal.returns-clause-image
returns-clause-image c =
    let held = rw (c.deref-2.ensures.value, c.deref-3.ensures.value) at c.in_ok-blocks.ensures in
    let lens : length c.follow-flushed.new.tracks.items ≡ length c.args.entry.now = omega (arith, c.follow-flushed.ensures.len, c.in_ok-resize.ensures.len, c.resize.new.self.ok.0) in
    let len : length c.choose_all.new.chosen.items ≡ length c.args.entry.now = omega (arith, c.choose_all.ensures.len, c.in_ok-resize-2.ensures.len, c.resize-2.new.self.ok.0) in
    image-of 0 _ _ _ _ _ _ _ _ len lens (c.if-not-choose_all.ensures.are_picks refl) c.follow-flushed.ensures.tracked held

pub returns-clause-left : goal.returns-clause-left
returns-clause-left c =
    let held = rw (c.deref-2.ensures.value, c.deref-3.ensures.value) at c.in_ok-blocks.ensures in
    let lens : length c.follow-flushed.new.tracks.items ≡ length c.args.entry.now = omega (arith, c.follow-flushed.ensures.len, c.in_ok-resize.ensures.len, c.resize.new.self.ok.0) in
    let len : length c.choose_all.new.chosen.items ≡ length c.args.entry.now = omega (arith, c.choose_all.ensures.len, c.in_ok-resize-2.ensures.len, c.resize-2.new.self.ok.0) in
    image-left _ _ _ _ _ _ _ _ _ c.requires.record len lens (c.if-not-choose_all.ensures.are_picks refl) c.follow-flushed.ensures.tracked held
