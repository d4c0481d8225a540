-- How a merge goes on behind its last item.
use Rattle.std.proofs.Common.{List, Option, Some, None, sym, ◌∙◌, ap, subst, inl, inr}
use Rattle.std.specs.Borrow.{Bor}
use Rattle.fx_item.specs.Item.{PlainKey, ObjectKey, AttributeKey, ExtentKey, ChildKey, GraveKey, AllocationKey, GoneValue, PlainItem, IsItem, IsKey, item_of}
use Rattle.fx_item.specs.Place.{Place, Upto, Below, begins, ends}
use Rattle.fx_item.specs.Overlay.{Said, at}
use Rattle.fx_item.specs.Look.{IsFirstFrom}
use Rattle.fx_item.specs.Meeting.{Meets}
use Rattle.fx_item.specs.declared.item.Item.{Item}
use Rattle.fx_item.specs.declared.meeting.Meet.TheVariants as meets
use Rattle.fx_merge.specs.Cursor.{AllHold, level_lists}
use Rattle.fx_merge.specs.Merge.{IsRemainder, IsTrimmed, IsTrimmedLast, place_now}
use Rattle.fx_merge.specs.declared.cursor.Cursor.{Cursor, Empty, One, Two'}
use Rattle.fx_item.proofs.PlaceOrder.{below_below, below_then, below_upto, not_both, upto_upto, upto_itself}
use Rattle.fx_item.proofs.Between.{not_empty}
use Rattle.fx_item.proofs.Covered.{covers_below, lies_covers}
use Rattle.fx_merge.proofs.Halves.{later_known}

-- ---- an item behind the last one

module _ (last item : PlainItem) (g : IsItem last) (reaches : Below (ends last.key) (ends item.key)) where
  pub behind_apart : Meets last item meets.Apart → Upto (ends last.key) (begins item.key)
  behind_apart (inl h) = h
  behind_apart (inr h) = absurd (not_both (below_below (not_empty last.key g.key) (below_then reaches h)) (upto_itself (begins last.key)))

  pub not_past : Upto (ends item.key) (ends last.key) → ⊥
  not_past h = not_both reaches h

  pub part_trims : (rest : Item) → IsRemainder last item (Some rest) → IsTrimmed last item (item_of rest)
  part_trims rest h = record {
    first = λ said f. record {
      good = h.1.good;
      reaches = subst (Below (ends last.key)) (sym h.1.end) reaches;
      stands = λ p up c.
          let high : Below (at p) (ends item.key) = subst (Below (at p)) h.1.end (covers_below (item_of rest).key p c) in
          f.stands p up (lies_covers item.key p (upto_upto (below_upto h.0) up) high) ∙ ap Some (sym (h.1.same p c));
      first = λ p up b. absurd (not_both (subst (Below (at p)) h.1.begin b) up);
    };
    begin = subst (Upto (ends last.key)) (sym h.1.begin) (upto_itself (ends last.key));
    end = h.1.end;
  }

pub trimmed_first : (said : Said) (from : PlainKey) (last : Option PlainItem) (item x : PlainItem) → IsTrimmedLast last item x → IsFirstFrom said (place_now from last) item → IsFirstFrom said (place_now from last) x
trimmed_first said from None item x e f = subst (IsFirstFrom said (begins from)) (sym e) f
trimmed_first said from (Some last) item x t f = t.first said f

-- ---- a later place

pub later_all : {L : Type 0} (items : Bor L → List PlainItem) (from place : Place) (cursor : Cursor L) → Upto from place → AllHold items from cursor → AllHold items place cursor
later_all items from place Empty le h = tt
later_all items from place (One level) le h = tt
later_all items from place (Two' p head newer last older) le h = (
  later_known (level_lists items newer) from place head le h.0,
  later_known (level_lists items older) from place last le h.1,
  later_all items from place newer le h.2,
  later_all items from place older le h.3,
)

pub gone_good : (k : PlainKey) → IsKey k → IsItem (record { key = k; value = GoneValue })
gone_good (ObjectKey s i) h = record { key = h; value = tt }
gone_good (AttributeKey s i name) h = record { key = h; value = tt }
gone_good (ExtentKey s i a b) h = record { key = h; value = tt }
gone_good (ChildKey s i name) h = record { key = h; value = tt }
gone_good (GraveKey s i) h = record { key = h; value = tt }
gone_good (AllocationKey a b) h = record { key = h; value = tt }
