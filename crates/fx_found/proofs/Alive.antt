-- What items say once their tombstones are dropped.
use Rattle.std.proofs.Common.{◌≡◌, ℕ, zero, suc, ◌-◌, ◌<◌, ◌≤◌, Bool, true, false, not, cond, List, [], ◌∷◌, length, drop, filter, refl, sym, ap, subst, ◌∙◌, arith, Some, None}
use Rattle.std.specs.List.{slice_get}
use Rattle.fx_item.specs.Item.{PlainItem, PlainValue, GoneValue, IsItem, ObjectKey, item_of, items_of, value_of}
use Rattle.fx_item.specs.declared.item.Item.{Item}
use Rattle.fx_item.specs.Place.{Upto, begins, ends}
use Rattle.fx_item.specs.Overlay.{Point, covers, entry_in, says, live_in, standing}
use Rattle.fx_item.specs.Look.{AllApart, is_gone}
use Rattle.fx_item.proofs.PlaceOrder.{below_then}
use Rattle.fx_item.proofs.Covered.{before_not, covers_below}
use Rattle.fx_merge.specs.Merge.{MergeState}
use Rattle.fx_merge.specs.Run.{IsMerged}
use Rattle.fx_layerset.specs.Levels.{PlainLevel, SetLevels, merge_over, newest, upper_levels}
use Rattle.fx_layerset.proofs.Replaced.{from_first}
use Rattle.fx_sound.specs.Image.{AreStanding}
use Rattle.fx_found.specs.Image.{StandInLevels}

abbrev alive : PlainItem → Bool
alive x = not (is_gone x.value)

abbrev alive_of : List PlainItem → List PlainItem
alive_of xs = filter alive xs

-- ---- lists apart

tail_apart : (x : PlainItem) (xs : List PlainItem) → AllApart (x ∷ xs) → AllApart xs
tail_apart x xs h = record {
  good = λ i y e. h.good (suc i) y e;
  apart = λ i j y z l e f. h.apart (suc i) (suc j) y z (omega (arith, l)) e f;
}

cons_apart : (x : PlainItem) (xs : List PlainItem) → IsItem x → ((i : ℕ) (y : PlainItem) → slice_get xs i ≡ Some y → Upto (ends x.key) (begins y.key)) → AllApart xs → AllApart (x ∷ xs)
cons_apart x xs good behind h = record { good = good_at; apart = apart_at }
  where
    good_at : (i : ℕ) (y : PlainItem) → slice_get (x ∷ xs) i ≡ Some y → IsItem y
    good_at zero y e = let same : x ≡ y = cc in subst IsItem same good
    good_at (suc i) y e = h.good i y e

    apart_at : (i j : ℕ) (y z : PlainItem) → i < j → slice_get (x ∷ xs) i ≡ Some y → slice_get (x ∷ xs) j ≡ Some z → Upto (ends y.key) (begins z.key)
    apart_at i zero y z l e f = absurd (omega (arith, l))
    apart_at zero (suc j) y z l e f = let same : x ≡ y = cc in subst (λ (w : PlainItem). Upto (ends w.key) (begins z.key)) same (behind j z f)
    apart_at (suc i) (suc j) y z l e f = h.apart i j y z (omega (arith, l)) e f

-- an element that is kept stood in the list, and is alive
kept_at : (xs : List PlainItem) (i : ℕ) (y : PlainItem) → slice_get (alive_of xs) i ≡ Some y → ((j : ℕ) × (slice_get xs j ≡ Some y)) × (is_gone y.value ≡ false)
kept_at [] i y e = absurd (let z : None ≡ Some y = e in cc)
kept_at (x ∷ xs) i y e = by_test (is_gone x.value) refl i (λ j f. kept_at xs j y f) e
  where
    by_test : (t : Bool) → is_gone x.value ≡ t → (i : ℕ) → ((j : ℕ) → slice_get (alive_of xs) j ≡ Some y → ((k : ℕ) × (slice_get xs k ≡ Some y)) × (is_gone y.value ≡ false))
        → slice_get (cond (not (is_gone x.value)) (x ∷ alive_of xs) (alive_of xs)) i ≡ Some y → ((k : ℕ) × (slice_get (x ∷ xs) k ≡ Some y)) × (is_gone y.value ≡ false)
    by_test true q i rest e =
        let r = rest i (sym (ap (λ (t : Bool). slice_get (cond (not t) (x ∷ alive_of xs) (alive_of xs)) i) q) ∙ e) in
        ((suc r.0.0, r.0.1), r.1)
    by_test false q zero rest e =
        let here : Some x ≡ Some y = sym (ap (λ (t : Bool). slice_get (cond (not t) (x ∷ alive_of xs) (alive_of xs)) zero) q) ∙ e in
        let same : x ≡ y = cc in
        ((0, here), subst (λ (w : PlainItem). is_gone w.value ≡ false) same q)
    by_test false q (suc i) rest e =
        let r = rest i (sym (ap (λ (t : Bool). slice_get (cond (not t) (x ∷ alive_of xs) (alive_of xs)) (suc i)) q) ∙ e) in
        ((suc r.0.0, r.0.1), r.1)

pub alive_apart : (xs : List PlainItem) → AllApart xs → AllApart (alive_of xs)
alive_apart [] h = h
alive_apart (x ∷ xs) h = by_test (is_gone x.value) refl (alive_apart xs (tail_apart x xs h))
  where
    by_test : (t : Bool) → is_gone x.value ≡ t → AllApart (alive_of xs) → AllApart (alive_of (x ∷ xs))
    by_test true q rest = subst (λ (t : Bool). AllApart (cond (not t) (x ∷ alive_of xs) (alive_of xs))) (sym q) rest
    by_test false q rest = subst (λ (t : Bool). AllApart (cond (not t) (x ∷ alive_of xs) (alive_of xs))) (sym q)
        (cons_apart x (alive_of xs) (h.good 0 x refl) (λ i y e. let k = kept_at xs i y e in h.apart 0 (suc k.0.0) x y (omega arith) refl k.0.1) rest)

pub alive_standing : (xs : List PlainItem) → AllApart xs → AreStanding (alive_of xs)
alive_standing xs h = record { apart = alive_apart xs h; alive = λ i x e. (kept_at xs i x e).1 }

-- ---- what they say

nothing_said : (xs : List PlainItem) (p : Point) → ((i : ℕ) (x : PlainItem) → slice_get xs i ≡ Some x → covers x.key p ≡ false) → says xs p ≡ None
nothing_said [] p h = refl
nothing_said (x ∷ xs) p h = ap (λ (b : Bool). cond b (Some (entry_in x.key x.value p)) (says xs p)) (h 0 x refl) ∙ nothing_said xs p (λ i y e. h (suc i) y e)

gone_entry : (x : PlainItem) (p : Point) → is_gone x.value ≡ true → entry_in x.key x.value p ≡ None
gone_entry x p e = by_value x.value e
  where
    by_value : (v : PlainValue) → is_gone v ≡ true → entry_in x.key v p ≡ None
    by_value GoneValue e = refl
    by_value v e = absurd (cc)

pub alive_says : (xs : List PlainItem) (p : Point) → AllApart xs → live_in (says (alive_of xs)) p ≡ live_in (says xs) p
alive_says [] p h = refl
alive_says (x ∷ xs) p h = by_test (is_gone x.value) refl (covers x.key p) refl (alive_says xs p (tail_apart x xs h))
  where
    by_test : (t : Bool) → is_gone x.value ≡ t → (b : Bool) → covers x.key p ≡ b → live_in (says (alive_of xs)) p ≡ live_in (says xs) p → live_in (says (alive_of (x ∷ xs))) p ≡ live_in (says (x ∷ xs)) p
    by_test false q true c rest =
        ap (λ (t : Bool). live_in (says (cond (not t) (x ∷ alive_of xs) (alive_of xs))) p) q
        ∙ ap (λ (b : Bool). standing (cond b (Some (entry_in x.key x.value p)) (says (alive_of xs) p))) c ∙ sym (ap (λ (b : Bool). standing (cond b (Some (entry_in x.key x.value p)) (says xs p))) c)
    by_test false q false c rest =
        ap (λ (t : Bool). live_in (says (cond (not t) (x ∷ alive_of xs) (alive_of xs))) p) q
        ∙ ap (λ (b : Bool). standing (cond b (Some (entry_in x.key x.value p)) (says (alive_of xs) p))) c ∙ rest ∙ sym (ap (λ (b : Bool). standing (cond b (Some (entry_in x.key x.value p)) (says xs p))) c)
    by_test true q true c rest =
        let behind : says xs p ≡ None = nothing_said xs p (λ i y e. before_not y.key p (below_then (covers_below x.key p c) (h.apart 0 (suc i) x y (omega arith) refl e))) in
        ap (λ (t : Bool). live_in (says (cond (not t) (x ∷ alive_of xs) (alive_of xs))) p) q ∙ rest ∙ ap standing behind
        ∙ sym (ap (λ (b : Bool). standing (cond b (Some (entry_in x.key x.value p)) (says xs p))) c ∙ gone_entry x p q)
    by_test true q false c rest =
        ap (λ (t : Bool). live_in (says (cond (not t) (x ∷ alive_of xs) (alive_of xs))) p) q ∙ rest
        ∙ sym (ap (λ (b : Bool). standing (cond b (Some (entry_in x.key x.value p)) (says xs p))) c)

-- ---- all levels

all_newest : (n : ℕ) (levels : List PlainLevel) → length levels ≤ n → newest n levels ≡ levels
all_newest n levels le = ap (λ (k : ℕ). drop k levels) (let z : length levels - n ≡ 0 = omega (arith, le) in z)

pub all_levels : (n : ℕ) (s : SetLevels) → length s.objects ≤ n → length s.allocs ≤ n → upper_levels n s ≡ s
all_levels n s a b = λ i. record s { objects = all_newest n s.objects a i; allocs = all_newest n s.allocs b i }

pub items_stand : (s : SetLevels) (m : MergeState) (n : ℕ) (items : List PlainItem) → m ≡ merge_over (upper_levels n s) (begins (ObjectKey 0 0)) → length s.objects ≤ n → length s.allocs ≤ n → IsMerged m items → StandInLevels s (alive_of items)
items_stand s m n items e a b h =
    let whole : m ≡ merge_over s (begins (ObjectKey 0 0)) = e ∙ ap (λ (t : SetLevels). merge_over t (begins (ObjectKey 0 0))) (all_levels n s a b) in
    let merged : IsMerged (merge_over s (begins (ObjectKey 0 0))) items = subst (λ t. IsMerged t items) whole h in
    record {
      standing = alive_standing items merged.apart;
      said = λ p. alive_says items p merged.apart ∙ ap standing (merged.same p (from_first p));
    }

-- ---- the program's items

abbrev test : Item → Bool
test y = not (is_gone (value_of y.value))

pub items_alive : (xs : List Item) → items_of (filter (λ (x : Item). not (is_gone (value_of x.value))) xs) ≡ alive_of (items_of xs)
items_alive [] = refl
items_alive (x ∷ xs) = by_test (is_gone (value_of x.value)) refl (items_alive xs)
  where
    by_test : (t : Bool) → is_gone (value_of x.value) ≡ t → items_of (filter test xs) ≡ alive_of (items_of xs) → items_of (filter test (x ∷ xs)) ≡ alive_of (items_of (x ∷ xs))
    by_test true q rest = ap (λ (t : Bool). items_of (cond (not t) (x ∷ filter test xs) (filter test xs))) q ∙ rest ∙ sym (ap (λ (t : Bool). cond (not t) (item_of x ∷ alive_of (items_of xs)) (alive_of (items_of xs))) q)
    by_test false q rest = ap (λ (t : Bool). items_of (cond (not t) (x ∷ filter test xs) (filter test xs))) q ∙ ap (λ (w : List PlainItem). item_of x ∷ w) rest ∙ sym (ap (λ (t : Bool). cond (not t) (item_of x ∷ alive_of (items_of xs)) (alive_of (items_of xs))) q)
