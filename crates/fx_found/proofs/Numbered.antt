-- What stands after the transactions that are kept, and the number that is kept by extents.
use Rattle.std.proofs.Common.{◌≡◌, ℕ, true, List, [], ◌∷◌, ◌++◌, map, reverse, refl, sym, ap, ◌∙◌, Option, Some, None}
use Rattle.std.proofs.lemmas.List.{append_assoc, map-append, reverse-append}
use Rattle.std.proofs.Math.Path.{fun_ext}
use Rattle.std.specs.List.{Contains}
use Rattle.fx_item.specs.Item.{PlainItem}
use Rattle.fx_item.specs.Overlay.{Entry, Point, live_in, or_older, says, standing}
use Rattle.fx_contents.specs.Points.{Points, entry_after, points_after}
use Rattle.fx_contents.specs.Allocated.{AreAllocated}
use Rattle.fx_merge.specs.Cursor.{says_all}
use Rattle.fx_layerset.specs.Levels.{PlainLevel, SetLevels, batch_level, item_lists, newest_first}
use Rattle.fx_live.specs.Live.{AreTogether, IsKeptByExtents, points_through}
use Rattle.fx_live.proofs.Together.{kept_by_extents}
use Rattle.fx_uses.specs.Live.{AreNumbered, txn_of}
use Rattle.fx_kept.specs.Kept.{IsKeptIn}
use Rattle.fx_verify.specs.Kept.{is_written}
use Rattle.fx_sound.specs.Image.{points_in}
use Rattle.fx_found.specs.Image.{ImageParts, StandInLevels, batch_levels, kept_txns, levels_of_parts}
use Rattle.fx_found.specs.Only.{base_points}
use Rattle.fx_found.specs.Reading.{sums_in}
use Rattle.fx_found.proofs.Sums.{image_keeps}

abbrev Transactions : Type 0
Transactions = List (ℕ × List PlainItem)

-- one more level over older ones
over_older : (newest : List PlainItem) (older : List (List PlainItem)) → live_in (says_all (newest ∷ older)) ≡ points_after (live_in (says_all older)) (says newest)
over_older newest older = fun_ext (λ p. by_case p (says newest p) refl)
  where
    by_case : (p : Point) (o : Option (Option Entry)) → says newest p ≡ o → live_in (says_all (newest ∷ older)) p ≡ points_after (live_in (says_all older)) (says newest) p
    by_case p None e =
        ap (λ (o : Option (Option Entry)). standing (or_older o (says_all older p))) e ∙ sym (ap (λ (o : Option (Option Entry)). entry_after o (live_in (says_all older) p)) e)
    by_case p (Some x) e =
        ap (λ (o : Option (Option Entry)). standing (or_older o (says_all older p))) e ∙ sym (ap (λ (o : Option (Option Entry)). entry_after o (live_in (says_all older) p)) e)

abbrev lists : Transactions → List (List PlainItem)
lists ts = item_lists (batch_levels ts)

through : (ts : Transactions) (older : List (List PlainItem)) → live_in (says_all (item_lists (reverse (batch_levels ts)) ++ older)) ≡ points_through (live_in (says_all older)) ts
through [] older = refl
through (t ∷ ts) older =
    let turned : reverse (batch_level t.1 ∷ batch_levels ts) ≡ reverse (batch_levels ts) ++ batch_level t.1 ∷ [] = reverse-append (batch_level t.1 ∷ []) (batch_levels ts) in
    let joined : item_lists (reverse (batch_level t.1 ∷ batch_levels ts)) ++ older ≡ item_lists (reverse (batch_levels ts)) ++ (t.1 ∷ older) =
    ap (λ (w : List PlainLevel). item_lists w ++ older) turned ∙ ap (λ (w : List (List PlainItem)). w ++ older) (map-append (λ (l : PlainLevel). l.items) (reverse (batch_levels ts)) (batch_level t.1 ∷ []))
    ∙ append_assoc (item_lists (reverse (batch_levels ts))) (t.1 ∷ []) older in
    ap (λ (w : List (List PlainItem)). live_in (says_all w)) joined ∙ through ts (t.1 ∷ older) ∙ ap (λ (m : Points). points_through m ts) (over_older t.1 older)

pub points_kept : (p : ImageParts) (items : List PlainItem) → StandInLevels (levels_of_parts p) items → (x : Point) → points_in items x ≡ points_through (base_points p) (kept_txns p) x
points_kept p items h x =
    let s : SetLevels = levels_of_parts p in
    let split : item_lists (newest_first s) ≡ item_lists (reverse s.batches) ++ item_lists (reverse s.objects ++ reverse s.allocs) =
    ap item_lists (append_assoc (reverse s.batches) (reverse s.objects) (reverse s.allocs)) ∙ map-append (λ (l : PlainLevel). l.items) (reverse s.batches) (reverse s.objects ++ reverse s.allocs) in
    h.said x ∙ ap (λ (w : List (List PlainItem)). live_in (says_all w) x) split ∙ ap (λ (m : Points). m x) (through (kept_txns p) (item_lists (reverse s.objects ++ reverse s.allocs)))

pub extents_keep : (sum : List ℕ → ℕ) (begin : ℕ) (image : List (List ℕ)) (m : Points) (base k : ℕ) (txns : Transactions) (blocks : List ℕ) → AreAllocated m → AreTogether m txns → AreNumbered base (map txn_of txns)
    → ((b : ℕ) → (Contains blocks b → is_written txns b ≡ true) × (is_written txns b ≡ true → Contains blocks b)) → IsKeptIn sum begin image base txns k → IsKeptByExtents m base txns (sums_in sum begin image blocks) k
extents_keep sum begin image m base k txns blocks a t numbered each h = (kept_by_extents m txns (sums_in sum begin image blocks) a t base k).0 (image_keeps sum begin image txns blocks each base k numbered h)
