-- The first item from a place on, looked for in a list item by item.
use Rattle.std.proofs.Common.{◌≡◌, ◌<◌, ◌+◌, ◌++◌, ℕ, List, [], ◌∷◌, length, map, take, get_or, add-one, refl, sym, ap, ◌∙◌, arith, Bool, true, false, cond, suc}
use Rattle.std.proofs.Math.Seq.{take-suc}
use Rattle.std.proofs.lemmas.List.{map-append}
use Rattle.std.specs.Prelude.{Option, Some, None, Contains}
use Rattle.std.specs.Ordering.{is_le}
use Rattle.fx_item.specs.Item.{PlainKey, PlainItem, PlainValue, key_of, item_of}
use Rattle.fx_item.specs.declared.item.Item.{Item}
use Rattle.fx_item.specs.Look.{FindsFrom, FindsLive, IsFirstFrom, is_gone, map_of}
use Rattle.fx_item.specs.Overlay.{AtKey, Entry, Point, Said, covers, entry_in, or_older, says, standing}
use Rattle.fx_item.specs.Place.{Below, Place, Upto, begins, ends, place_cmp}
use Rattle.fx_item.proofs.Covered.{before_not, behind_not, covers_below, same_key_is}
use Rattle.fx_item.proofs.Keys.{from_point, map_none}
use Rattle.fx_item.proofs.Between.{not_empty}
use Rattle.fx_item.proofs.PlaceOrder.{below_then, below_upto, le_upto, not_le_below, upto_upto}
use Rattle.fx_namespace.proofs.Items.{covers_key}
use Rattle.fx_dir.specs.Sample.{IsPlain}

-- ---- one more item

says_more : (xs : List PlainItem) (x : PlainItem) (p : Point) → says (xs ++ x ∷ []) p ≡ or_older (says xs p) (says (x ∷ []) p)
says_more [] x p = refl
says_more (y ∷ xs) x p = by_test (covers y.key p) (says_more xs x p)
  where
    by_test : (b : Bool) → says (xs ++ x ∷ []) p ≡ or_older (says xs p) (says (x ∷ []) p)
        → cond b (Some (entry_in y.key y.value p)) (says (xs ++ x ∷ []) p) ≡ or_older (cond b (Some (entry_in y.key y.value p)) (says xs p)) (says (x ∷ []) p)
    by_test true ih = refl
    by_test false ih = ih

module _ (xs : List PlainItem) (x : PlainItem) (p : Point) where
  alone : (b : Bool) → covers x.key p ≡ b → says (x ∷ []) p ≡ cond b (Some (entry_in x.key x.value p)) None
  alone b e = ap (λ t. cond t (Some (entry_in x.key x.value p)) None) e

  -- what the list says stays
  stays : (e : Option Entry) → says xs p ≡ Some e → says (xs ++ x ∷ []) p ≡ Some e
  stays e h = says_more xs x p ∙ ap (λ o. or_older o (says (x ∷ []) p)) h

  -- and where it says nothing, the item speaks
  comes : says xs p ≡ None → covers x.key p ≡ true → says (xs ++ x ∷ []) p ≡ Some (entry_in x.key x.value p)
  comes h c = says_more xs x p ∙ ap (λ o. or_older o (says (x ∷ []) p)) h ∙ alone true c

  silent : says xs p ≡ None → covers x.key p ≡ false → says (xs ++ x ∷ []) p ≡ None
  silent h c = says_more xs x p ∙ ap (λ o. or_older o (says (x ∷ []) p)) h ∙ alone false c

module _ (xs : List PlainItem) (x : PlainItem) (from : Place) where
  -- an item that ends before the place is not looked for
  passed_over : (best : Option PlainItem) → Upto (ends x.key) from → FindsFrom (says xs) from best → FindsFrom (says (xs ++ x ∷ [])) from best
  passed_over None out f = λ p up. silent xs x p (f p up) (behind_not x.key p (upto_upto out up))
  passed_over (Some b) out f = record {
    good = f.good;
    reaches = f.reaches;
    stands = λ p up c. stays xs x p (entry_in b.key b.value p) (f.stands p up c);
    first = λ p up low. silent xs x p (f.first p up low) (behind_not x.key p (upto_upto out up));
  }

  module _ (plain : IsPlain x) (reaches : Below from (ends x.key)) where
    -- the first one that is found
    first_one : FindsFrom (says xs) from None → IsFirstFrom (says (xs ++ x ∷ [])) from x
    first_one f = record {
      good = plain.good;
      reaches = reaches;
      stands = λ p up c. comes xs x p (f p up) c;
      first = λ p up low. silent xs x p (f p up) (before_not x.key p low);
    }

    -- one before the best so far
    new_first : (b : PlainItem) → Upto (ends x.key) (begins b.key) → IsFirstFrom (says xs) from b → IsFirstFrom (says (xs ++ x ∷ [])) from x
    new_first b before f = record {
      good = plain.good;
      reaches = reaches;
      stands = λ p up c. comes xs x p (f.first p up (below_then (covers_below x.key p c) before)) c;
      first = λ p up low. silent xs x p (f.first p up (below_then low (upto_upto starts before))) (before_not x.key p low);
    }
      where
        starts : Upto (begins x.key) (ends x.key)
        starts = below_upto (not_empty x.key plain.good.key)

    -- one that does not end before the best so far
    same_first : (b : PlainItem) → Below (begins b.key) (ends x.key) → IsFirstFrom (says xs) from b → IsFirstFrom (says (xs ++ x ∷ [])) from b
    same_first b behind f = record {
      good = f.good;
      reaches = f.reaches;
      stands = λ p up c. stays xs x p (entry_in b.key b.value p) (f.stands p up c);
      first = λ p up low. silent xs x p (f.first p up low) (before_not x.key p (below_then low (from_point x.key b.key plain.point behind)));
    }

-- ---- by the tests of the code

-- the item ends at the place or before it, by a test
abbrev pub ends_by : PlainItem → Place → Bool
ends_by x place = is_le (place_cmp (ends x.key) place)

pub skipped : (xs : List PlainItem) (x : PlainItem) (from : Place) (best : Option PlainItem) → ends_by x from ≡ true → FindsFrom (says xs) from best → FindsFrom (says (xs ++ x ∷ [])) from best
skipped xs x from best e f = passed_over xs x from best (le_upto e) f

pub found_first : (xs : List PlainItem) (x : PlainItem) (from : Place) → IsPlain x → ends_by x from ≡ false → FindsFrom (says xs) from None → FindsFrom (says (xs ++ x ∷ [])) from (Some x)
found_first xs x from plain e f = first_one xs x from plain (not_le_below e) f

pub found_before : (xs : List PlainItem) (x b : PlainItem) (from : Place) → IsPlain x → ends_by x from ≡ false → ends_by x (begins b.key) ≡ true → FindsFrom (says xs) from (Some b) → FindsFrom (says (xs ++ x ∷ [])) from (Some x)
found_before xs x b from plain e before f = new_first xs x from plain (not_le_below e) b (le_upto before) f

pub found_behind : (xs : List PlainItem) (x b : PlainItem) (from : Place) → IsPlain x → ends_by x from ≡ false → ends_by x (begins b.key) ≡ false → FindsFrom (says xs) from (Some b) → FindsFrom (says (xs ++ x ∷ [])) from (Some b)
found_behind xs x b from plain e behind f = same_first xs x from plain (not_le_below e) b (not_le_below behind) f

-- what is found and no tombstone is what stands first
pub stands_first : (said : Said) (from : Place) (x : PlainItem) → is_gone x.value ≡ false → IsFirstFrom said from x → FindsLive said from (Some x)
stands_first said from x alive f = record {
  good = f.good;
  alive = alive;
  reaches = f.reaches;
  stands = λ p up c. ap standing (f.stands p up c);
  first = λ p up low. ap standing (f.first p up low);
}

pub nothing_stands : (said : Said) (from : Place) → FindsFrom said from None → FindsLive said from None
nothing_stands said from f = λ p up. ap standing (f p up)

-- ---- the items of a vector, one after another

pub next_items : (items : List Item) (i : ℕ) (x : Item) → i < length items → x ≡ get_or items i x → map item_of (take (i + 1) items) ≡ map item_of (take i items) ++ item_of x ∷ []
next_items items i x less is =
    ap (λ n. map item_of (take n items)) (add-one i) ∙ ap (map item_of) (take-suc items i x less ∙ ap (λ y. take i items ++ y ∷ []) (sym is)) ∙ map-append item_of (take i items) (x ∷ [])

-- where something is said of a key, it is among the keys
said_key : (items : List Item) (key : PlainKey) (e : Option Entry) → says (map item_of items) (AtKey key) ≡ Some e → Contains (map (λ (x : Item). key_of x.key) items) key
said_key [] key e h = absurd (cc h)
said_key (x ∷ items) key e h = by_test (covers (key_of x.key) (AtKey key)) refl (said_key items key e) h
  where
    by_test : (b : Bool) → covers (key_of x.key) (AtKey key) ≡ b → (says (map item_of items) (AtKey key) ≡ Some e → Contains (map (λ (x : Item). key_of x.key) items) key)
        → cond b (Some (entry_in (item_of x).key (item_of x).value (AtKey key))) (says (map item_of items) (AtKey key)) ≡ Some e → Contains (map (λ (x : Item). key_of x.key) (x ∷ items)) key
    by_test true c ih h = (0, omega arith, same_key_is (key_of x.key) key (sym (covers_key (key_of x.key) key) ∙ c))
    by_test false c ih h = let k = ih h in (suc k.0, (let l = k.1 in omega arith), k.2)

pub has_key : (items : List Item) (key : PlainKey) (value : PlainValue) → map_of (says (map item_of items)) key ≡ Some value → Contains (map (λ (x : Item). key_of x.key) items) key
has_key items key value e = by_said (says (map item_of items) (AtKey key)) refl
  where
    by_said : (o : Option (Option Entry)) → says (map item_of items) (AtKey key) ≡ o → Contains (map (λ (x : Item). key_of x.key) items) key
    by_said None h = absurd (let k : None ≡ Some value = sym (map_none (says (map item_of items)) key (λ point. ap standing h)) ∙ e in cc)
    by_said (Some entry) h = said_key items key entry h
