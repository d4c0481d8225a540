use Rattle.std.proofs.Common.{◌≡◌, ◌∙◌, ℕ, List, ◌∷◌, [], ◌++◌, length, reverse, ap, sym, subst, arith, length-append}
use Rattle.std.specs.Prelude.{All}
use Rattle.std.proofs.lemmas.List.{reverse-reverse, length-reverse}
use Rattle.std.proofs.lemmas.Map.Views.{All-map-IsPermutation}
use Rattle.fx_item.specs.Item.{PlainItem, items_of}
use Rattle.fx_item.specs.declared.item.Item.{Item}
use Rattle.fx_record.specs.Commits.{IsCommit}
use Rattle.fx_record.specs.Txns.{txns_of}
use Rattle.fx_layerset.specs.Levels.{PlainLevel, SetState, SetLevels, batch_level}
use Rattle.fx_found.specs.Image.{batch_levels}
use Rattle.fx_found.proofs.Batches.{commit_apart, last_good, front_good, batch_moved}
use Rattle.fx_found.proofs.levels.gather.Goals as goal

pub loop-items-init : goal.loop-items-init
loop-items-init c =
    let same : c.reserve.new.self.levels ≡ c.new-set.result.levels = c.in_ok-reserve.ensures.levels in
    let all : List (ℕ × List Item) = c.into_vec-txns.result.items in
    let back : reverse c.reverse.new.self.items ≡ c.args.txns = ap reverse c.reverse.ensures.items ∙ reverse-reverse all ∙ c.into_vec-txns.ensures in
    record {
      batches = ap (λ (w : List PlainLevel). w ++ batch_levels (txns_of (reverse c.reverse.new.self.items))) (ap (λ (s : SetLevels). s.batches) same ∙ c.new-set.ensures.batches)
          ∙ ap (λ (w : List (ℕ × List Item)). batch_levels (txns_of w)) back;
      objects = ap (λ (s : SetLevels). s.objects) same ∙ c.new-set.ensures.objects ∙ c.in_ok-objects.ensures;
      allocs = ap (λ (s : SetLevels). s.allocs) same ∙ c.new-set.ensures.allocs ∙ c.in_ok-allocs.ensures;
      room = let n : length c.reverse.new.self.items ≡ length all = ap length c.reverse.ensures.items ∙ length-reverse all in omega (arith, n, c.in_ok-reserve.ensures.room, c.len.ensures);
      commits = All-map-IsPermutation (λ (t : ℕ × List Item). (t.0, items_of t.1)) (λ (t : ℕ × List PlainItem). IsCommit t.1) all c.reverse.new.self.items c.reverse.ensures.permutation
          (subst (λ (w : List (ℕ × List Item)). All (λ t. IsCommit t.1) (txns_of w)) (sym c.into_vec-txns.ensures) c.requires);
    }

pub of-requires : goal.of-requires
of-requires c = commit_apart (items_of c.in-Some.items) (last_good c.loop-items.txns.items c.pop.new.self.items (c.in-Some.field-0-0, c.in-Some.items) c.in-Some.ensures.items c.loop-items.invariant.commits)

pub loop-items-preserved : goal.loop-items-preserved
loop-items-preserved c =
    let inv = c.loop-items.invariant in
    let t : ℕ × List Item = (c.in-Some.field-0-0, c.in-Some.items) in
    let is : c.loop-items.txns.items ≡ c.pop.new.self.items ++ t ∷ [] = c.in-Some.ensures.items in
    let made = c.in_ok-batch.ensures.ok ∙ c.of.ensures in
    let pushed : c.push.new.self.levels.batches ≡ c.loop-items.set.levels.batches ++ batch_level (items_of c.in-Some.items) ∷ [] =
    ap (λ (s : SetState). s.levels.batches) c.push.ensures ∙ ap (λ (w : List PlainItem). c.loop-items.set.levels.batches ++ batch_level w ∷ []) made in
    record {
      batches = batch_moved c.loop-items.txns.items c.pop.new.self.items t is inv.commits c.loop-items.set.levels.batches c.push.new.self.levels.batches (batch_levels (txns_of c.args.txns)) pushed inv.batches;
      objects = ap (λ (s : SetState). s.levels.objects) c.push.ensures ∙ inv.objects;
      allocs = ap (λ (s : SetState). s.levels.allocs) c.push.ensures ∙ inv.allocs;
      room = omega (arith, inv.room, ap length is, ap length pushed, ap (λ (s : SetState). s.room.batches) c.push.ensures, length-append c.pop.new.self.items (t ∷ []), length-append c.loop-items.set.levels.batches (batch_level (items_of c.in-Some.items) ∷ []));
      commits = front_good c.loop-items.txns.items c.pop.new.self.items t is inv.commits;
    }
