-- What a look from a block on tells of it.
use Rattle.std.proofs.Common.{◌≡◌, inl, inr, ℕ, Bool, true, false, cond, Some, None, refl, sym, ap, ◌∙◌}
use Rattle.fx_item.specs.Item.{PlainItem}
use Rattle.fx_item.specs.Look.{FindsLive}
use Rattle.fx_item.specs.Overlay.{AtFileBlock, Said, covers, entry_in, live_in}
use Rattle.fx_item.specs.Place.{Below, begins, file_place}
use Rattle.fx_item.proofs.Covered.{lies_covers}
use Rattle.fx_item.proofs.PlaceOrder.{either, upto_itself}
use Rattle.fx_extent.specs.Blocks.{entry_by}

pub looked : (said : Said) (x : PlainItem) (s i n : ℕ) → FindsLive said (file_place s i n) (Some x) → entry_by x (AtFileBlock s i n) ≡ live_in said (AtFileBlock s i n)
looked said x s i n h = by (covers x.key (AtFileBlock s i n)) refl
  where
    by : (b : Bool) → covers x.key (AtFileBlock s i n) ≡ b → cond (covers x.key (AtFileBlock s i n)) (entry_in x.key x.value (AtFileBlock s i n)) None ≡ live_in said (AtFileBlock s i n)
    by true e = ap (λ t. cond t (entry_in x.key x.value (AtFileBlock s i n)) None) e ∙ sym (h.stands (AtFileBlock s i n) (upto_itself (file_place s i n)) e)
    by false e = ap (λ t. cond t (entry_in x.key x.value (AtFileBlock s i n)) None) e ∙ sym (h.first (AtFileBlock s i n) (upto_itself (file_place s i n)) before)
      where
        before : Below (file_place s i n) (begins x.key)
        before = elim (either (begins x.key) (file_place s i n)) [
          | inl upto ↦ absurd (cc (sym e ∙ lies_covers x.key (AtFileBlock s i n) upto h.reaches))
          | inr below ↦ below
        ]
