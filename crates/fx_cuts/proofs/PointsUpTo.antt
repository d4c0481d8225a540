-- What stands at each point after transactions that are cut in pieces, and after one more.
use Rattle.std.proofs.Common.{◌≡◌, ℕ, zero, suc, ◌+◌, ◌<◌, ◌≤◌, Bool, if◌then◌else◌, List, [], ◌∷◌, ◌++◌, length, map, refl, sym, ap, ◌∙◌, arith, Some, None}
use Rattle.std.specs.Prelude.{nat_le, slice_get}
use Rattle.std.proofs.lemmas.Bool.{lt-leb, le-leb}
use Rattle.fx_item.specs.Item.{PlainItem}
use Rattle.fx_item.specs.Overlay.{says}
use Rattle.fx_contents.specs.Points.{Points, points_after}
use Rattle.fx_uses.specs.Live.{Txn, txn_of, AreNumbered}
use Rattle.fx_uses.proofs.LiveOverLists.{Each, numbered_least, numbered_most}
use Rattle.fx_cuts.specs.Joined.{NumberedItems, points_up_to}

abbrev pub One : Type 0
One = ℕ × List PlainItem

pub got_map : (xs : NumberedItems) (i : ℕ) (x : One) → slice_get xs i ≡ Some x → slice_get (map txn_of xs) i ≡ Some (txn_of x)
got_map [] i x e = let z : None ≡ Some x = e in absurd (cc)
got_map (y ∷ xs) zero x e = let same : y ≡ x = cc in ap (λ (v : One). Some (txn_of v)) same
got_map (y ∷ xs) (suc i) x e = got_map xs i x e

pub mapped_append : (xs ys : NumberedItems) → map txn_of (xs ++ ys) ≡ map txn_of xs ++ map txn_of ys
mapped_append [] ys = refl
mapped_append (x ∷ xs) ys = ap (λ (w : List Txn). txn_of x ∷ w) (mapped_append xs ys)

pub mapped_length : (xs : NumberedItems) → length (map txn_of xs) ≡ length xs
mapped_length [] = refl
mapped_length (x ∷ xs) = ap suc (mapped_length xs)

pub points_append : (m : Points) (xs ys : NumberedItems) (k : ℕ) → points_up_to m (xs ++ ys) k ≡ points_up_to (points_up_to m xs k) ys k
points_append m [] ys k = refl
points_append m (x ∷ xs) ys k = points_append (if nat_le x.0 k then points_after m (says x.1) else m) xs ys k

-- transactions beyond the number change nothing
pub points_beyond : (m : Points) (xs : NumberedItems) (k : ℕ) → Each (λ (x : One). k < x.0) xs → points_up_to m xs k ≡ m
points_beyond m [] k h = refl
points_beyond m (x ∷ xs) k h =
    ap (λ (t : Bool). points_up_to (if t then points_after m (says x.1) else m) xs k) (lt-leb x.0 k (h 0 x refl))
    ∙ points_beyond m xs k (λ i y e. h (suc i) y e)

-- two numbers that reach all of them give the same
pub points_reached : (m : Points) (xs : NumberedItems) (j k : ℕ) → Each (λ (x : One). (x.0 ≤ j) × (x.0 ≤ k)) xs → points_up_to m xs j ≡ points_up_to m xs k
points_reached m [] j k h = refl
points_reached m (x ∷ xs) j k h =
    let at : (x.0 ≤ j) × (x.0 ≤ k) = h 0 x refl in
    ap (λ (t : Bool). points_up_to (if t then points_after m (says x.1) else m) xs j) (le-leb x.0 j at.0 ∙ sym (le-leb x.0 k at.1))
    ∙ points_reached (if nat_le x.0 k then points_after m (says x.1) else m) xs j k (λ i y e. h (suc i) y e)

pub least_of : (base : ℕ) (xs : NumberedItems) → AreNumbered base (map txn_of xs) → Each (λ (x : One). base < x.0) xs
least_of base xs h i x got = numbered_least base (map txn_of xs) h i (txn_of x) (got_map xs i x got)

pub most_of : (base : ℕ) (xs : NumberedItems) → AreNumbered base (map txn_of xs) → Each (λ (x : One). x.0 ≤ base + length xs) xs
most_of base xs h i x got = let le : x.0 ≤ base + length (map txn_of xs) = numbered_most base (map txn_of xs) h i (txn_of x) (got_map xs i x got) in omega (arith, le, mapped_length xs)
