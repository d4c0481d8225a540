-- Overlays of overlays, and what stands under keys after lists.
use Rattle.std.proofs.Common.{◌≡◌, Bool, true, false, List, [], ◌∷◌, ◌++◌, map, reverse, Option, Some, None, refl, sym, ◌∙◌, ap, cond}
use Rattle.std.specs.List.{fold}
use Rattle.std.proofs.lemmas.List.{append-nil, append_assoc, map-append, reverse-append}
use Rattle.fx_item.specs.Item.{PlainKey, ObjectKey, AttributeKey, ExtentKey, ChildKey, GraveKey, AllocationKey, PlainItem}
use Rattle.fx_item.specs.Overlay.{Point, AtKey, Entry, Said, covers, says, or_older, over, overlay, standing}
use Rattle.fx_item.specs.Look.{ItemMap, value_of_entry, map_of, is_point_key, after, no_items}
use Rattle.fx_item.specs.Meeting.{OverlayLaw, AfterAllLaw}
use Rattle.fx_item.proofs.Covered.{entry_at}

pub or_else_again : (a b c : Option (Option Entry)) → or_older (or_older a b) c ≡ or_older a (or_older b c)
or_else_again (Some e) b c = refl
or_else_again None b c = refl

pub over_again : (m n o : Said) (p : Point) → over (over m n) o p ≡ over m (over n o) p
over_again m n o p = or_else_again (m p) (n p) (o p)

-- the overlay of lists in two parts, newer ones and older ones
pub overlay_holds : OverlayLaw
overlay_holds [] ys p = refl
overlay_holds (x ∷ xs) ys p = ap (or_older (x p)) (overlay_holds xs ys p) ∙ sym (or_else_again (x p) (overlay xs p) (overlay ys p))

-- ---- what stands after lists

-- no list says anything of a range as one point
pub range_silent : (items : List PlainItem) (key : PlainKey) → is_point_key key ≡ false → says items (AtKey key) ≡ None
range_silent [] key h = refl
range_silent (x ∷ items) key h = ap (λ b. cond b (Some (entry_at x (AtKey key))) (says items (AtKey key))) (no x.key key h) ∙ range_silent items key h
  where
    no : (k key : PlainKey) → is_point_key key ≡ false → covers k (AtKey key) ≡ false
    no k (ObjectKey s i) h = absurd (cc h)
    no k (AttributeKey s i name) h = absurd (cc h)
    no k (ChildKey s i name) h = absurd (cc h)
    no k (GraveKey s i) h = absurd (cc h)
    no (ObjectKey t j) (ExtentKey s i a b) h = refl
    no (AttributeKey t j name) (ExtentKey s i a b) h = refl
    no (ExtentKey t j c d) (ExtentKey s i a b) h = refl
    no (ChildKey t j name) (ExtentKey s i a b) h = refl
    no (GraveKey t j) (ExtentKey s i a b) h = refl
    no (AllocationKey c d) (ExtentKey s i a b) h = refl
    no (ObjectKey t j) (AllocationKey a b) h = refl
    no (AttributeKey t j name) (AllocationKey a b) h = refl
    no (ExtentKey t j c d) (AllocationKey a b) h = refl
    no (ChildKey t j name) (AllocationKey a b) h = refl
    no (GraveKey t j) (AllocationKey a b) h = refl
    no (AllocationKey c d) (AllocationKey a b) h = refl

-- one more list before an overlay is one more list after the map
after_one : (items : List PlainItem) (older : Said) (key : PlainKey) → map_of (over (says items) older) key ≡ after (map_of older) items key
after_one items older key = by_kind (is_point_key key) refl
  where
    word : (o : Option (Option Entry)) → value_of_entry (standing (or_older o (older (AtKey key)))) ≡ elim o [ Some entry ↦ value_of_entry entry | None ↦ value_of_entry (standing (older (AtKey key))) ]
    word None = refl
    word (Some e) = refl

    by_kind : (b : Bool) → is_point_key key ≡ b → map_of (over (says items) older) key ≡ after (map_of older) items key
    by_kind true h =
        ap (λ b. cond b (value_of_entry (standing (over (says items) older (AtKey key)))) None) h ∙ word (says items (AtKey key))
        ∙ ap (λ z. elim (says items (AtKey key)) [ Some entry ↦ value_of_entry entry | None ↦ z ]) (sym (ap (λ b. cond b (value_of_entry (standing (older (AtKey key)))) None) h))
    by_kind false h =
        ap (λ b. cond b (value_of_entry (standing (over (says items) older (AtKey key)))) None) h
        ∙ sym (ap (λ b. cond b (value_of_entry (standing (older (AtKey key)))) None) h)
        ∙ sym (ap (λ o. elim o [ Some entry ↦ value_of_entry entry | None ↦ map_of older key ]) (range_silent items key h))

nothing_stands : (key : PlainKey) → no_items key ≡ map_of (overlay []) key
nothing_stands key = by_kind (is_point_key key)
  where
    by_kind : (b : Bool) → no_items key ≡ cond b (value_of_entry (standing None)) None
    by_kind true = refl
    by_kind false = refl

turned : (x : List PlainItem) (rest : List (List PlainItem)) (older : List Said) → map says (reverse (x ∷ rest)) ++ older ≡ map says (reverse rest) ++ says x ∷ older
turned x rest older =
    ap (λ l. map says l ++ older) (reverse-append (x ∷ []) rest) ∙ ap (λ l. l ++ older) (map-append says (reverse rest) (x ∷ []))
    ∙ append_assoc (map says (reverse rest)) (says x ∷ []) older

module _ (key : PlainKey) where
  stacked : (lists : List (List PlainItem)) (m : ItemMap) (older : List Said) → m key ≡ map_of (overlay older) key
      → fold after m lists key ≡ map_of (overlay (map says (reverse lists) ++ older)) key
  stacked [] m older h = h
  stacked (x ∷ rest) m older h =
      stacked rest (after m x) (says x ∷ older) (ap (λ z. elim (says x (AtKey key)) [ Some entry ↦ value_of_entry entry | None ↦ z ]) h ∙ sym (after_one x (overlay older) key))
      ∙ ap (λ l. map_of (overlay l) key) (sym (turned x rest older))

pub after_all_holds : AfterAllLaw
after_all_holds lists key =
    stacked key lists no_items [] (nothing_stands key) ∙ ap (λ l. map_of (overlay l) key) (append-nil (map says (reverse lists)))
