-- The keys of one number: where a key stands in order, and what is granted after a new one and a raised one.
use Rattle.std.proofs.Common.{◌≡◌, ◌≢◌, ℕ, zero, suc, ◌+◌, ◌<◌, ◌≤◌, true, false, cond, List, [], ◌∷◌, ◌++◌, map, length, set, get_or, All, Bool, ◌⊎◌, inl, inr, Option, Some, None, Result, Ok, Err, Less, Greater, refl, sym, ap, ◌∙◌, subst, arith}
use Rattle.std.specs.List.Sorted.{IsStrictlySortedBy, IsSortedBy, IsSearchInRange, IsBinarySearchResult}
use Rattle.std.proofs.lemmas.List.Sorted.{searchable_from_sorted}
use Rattle.std.specs.Ordering.{eq_by_cmp, is_lt, ordering_reverse}
use Rattle.std.specs.FinMap as finite
use Rattle.std.specs.FinMap.{find, get-from_entries, get-insert, same_map, from_entries_push}
use Rattle.std.specs.Cmp.{tied_itself}
use Rattle.std.proofs.lemmas.Bool.{cases_lt}
use Rattle.std.proofs.lemmas.List.{length-map, get_or-map, map-append}
use Rattle.std.proofs.lemmas.List.Elements.{All-nil, All-head, All-tail, All-push, All-map, All-from_recursion, recursion_from_All}
use Rattle.std.proofs.lemmas.Map.Keys.{Less-from_sorted}
use Rattle.std.proofs.Math.Seq.{map-set_same}
use Rattle.fx_item.specs.declared.lock.LockKey.{LockKey}
use Rattle.fx_item.specs.declared.lock.Mode.TheVariants.{Write}
use Rattle.fx_item.specs.LockKey.{key_cmp}
use Rattle.fx_item.proofs.KeyOrder.{lock_keys_total, lock_keys_exact}
use Rattle.fx_keys.proofs.Orders.{key_itself, keys_untied, key_irreflexive, same_or_not}
use Rattle.fx_parts.specs.Parts.{Grant}
use Rattle.fx_numbers.specs.declared.held.HeldKey.{HeldKey}
use Rattle.fx_numbers.specs.Held.{AreHeldInOrder, FindsHeld, grant_held, grants_held, raised_in}

abbrev entry_held : HeldKey → LockKey × Grant
entry_held h = (h.key, grant_held h)

abbrev pub grant_in : List HeldKey → LockKey → Option Grant
grant_in hs key = find key_cmp key (map entry_held hs)

pub get_held : (hs : List HeldKey) (key : LockKey) → finite.get (grants_held hs) key ≡ grant_in hs key
get_held hs key = get-from_entries lock_keys_total (map entry_held hs) key

pub sorted_less : (hs : List HeldKey) (i j : ℕ) (d : HeldKey) → AreHeldInOrder hs → i < j → j < length hs → key_cmp (get_or hs i d).key (get_or hs j d).key ≡ Less
sorted_less hs i j d sorted lt in' =
    let there : j < length (map (λ (h : HeldKey). h.key) hs) = subst (λ n. j < n) (sym (length-map hs (λ (h : HeldKey). h.key))) in' in
    let less = Less-from_sorted key_cmp (map (λ h. h.key) hs) i j d.key sorted lt there in
    let first : key_cmp (get_or hs i d).key (get_or (map (λ (h : HeldKey). h.key) hs) j d.key) ≡ Less =
    subst (λ k. key_cmp k (get_or (map (λ (h : HeldKey). h.key) hs) j d.key) ≡ Less) (get_or-map (λ (h : HeldKey). h.key) hs i d d.key (omega arith)) less in
    subst (λ k. key_cmp (get_or hs i d).key k ≡ Less) (get_or-map (λ (h : HeldKey). h.key) hs j d d.key in') first

not_less : (j k : LockKey) → key_cmp j k ≡ Less → j ≢ k
not_less j k less same = key_irreflexive k (subst (λ x. key_cmp x k ≡ Less) same less)

-- what a binary search says of keys in order
pub found_held : (hs : List HeldKey) (key : LockKey) (r : Result ℕ ℕ) → AreHeldInOrder hs → IsSearchInRange r (length hs) → IsBinarySearchResult (λ (h : HeldKey). key_cmp h.key key) hs r → FindsHeld hs key r
found_held hs key (Ok i) sorted bound found = (bound, λ d. lock_keys_exact (get_or hs i d).key key (found d))
found_held hs key (Err i) sorted bound found =
    let up : IsSortedBy (λ (a : HeldKey) (b : HeldKey). is_lt (key_cmp a.key b.key)) hs = λ k d low high.
    ap is_lt (lock_keys_total.antisymm (get_or hs (k + 1) d).key (get_or hs k d).key ∙ ap ordering_reverse (sorted_less hs k (k + 1) d sorted (omega arith) high)) in
    let within = found (searchable_from_sorted lock_keys_total (λ (h : HeldKey). h.key) hs key up) in
    (bound, within.0, within.1)

-- the key stands at the place and nowhere before it
record IsFirstAt (hs : List HeldKey) (key : LockKey) (i : ℕ) (d : HeldKey) : Type 0 where
  pub within : i < length hs
  pub here : (get_or hs i d).key ≡ key
  pub before : (k : ℕ) → k < i → (get_or hs k d).key ≢ key

first_at : (hs : List HeldKey) (key : LockKey) (i : ℕ) (d : HeldKey) → AreHeldInOrder hs → i < length hs → (get_or hs i d).key ≡ key → IsFirstAt hs key i d
first_at hs key i d sorted within here = record {
  within = within;
  here = here;
  before = λ k lt. not_less (get_or hs k d).key key (subst (λ j. key_cmp (get_or hs k d).key j ≡ Less) here (sorted_less hs k i d sorted lt within));
}

later_at : (h : HeldKey) (hs : List HeldKey) (key : LockKey) (i : ℕ) (d : HeldKey) → IsFirstAt (h ∷ hs) key (suc i) d → IsFirstAt hs key i d
later_at h hs key i d at = let lt = at.within in record { within = omega arith; here = at.here; before = λ k less. at.before (suc k) (omega arith) }

grant_at_first : (hs : List HeldKey) (key : LockKey) (i : ℕ) (d : HeldKey) → IsFirstAt hs key i d → grant_in hs key ≡ Some (grant_held (get_or hs i d))
grant_at_first [] key i d at = let lt = at.within in absurd (omega arith)
grant_at_first (h ∷ hs) key zero d at = ap (λ b. cond b (Some (grant_held h)) (grant_in hs key)) (subst (λ k. eq_by_cmp key_cmp k h.key ≡ true) at.here (key_itself h.key))
grant_at_first (h ∷ hs) key (suc i) d at =
    ap (λ b. cond b (Some (grant_held h)) (grant_in hs key)) (keys_untied key h.key (λ same. at.before zero (omega arith) (sym same)))
    ∙ grant_at_first hs key i d (later_at h hs key i d at)

grant_none : (hs : List HeldKey) (key : LockKey) → All (λ h. h.key ≢ key) hs → grant_in hs key ≡ None
grant_none [] key all = refl
grant_none (h ∷ hs) key all =
    ap (λ b. cond b (Some (grant_held h)) (grant_in hs key)) (keys_untied key h.key (λ same. All-head (λ h. h.key ≢ key) h hs all (sym same)))
    ∙ grant_none hs key (All-tail (λ h. h.key ≢ key) h hs all)

grant_missing : (hs : List HeldKey) (key : LockKey) (i : ℕ) → FindsHeld hs key (Err i) → grant_in hs key ≡ None
grant_missing hs key i at =
    grant_none hs key (λ k d lt same. apart hs key i k d at lt same)
  where
    apart : (hs : List HeldKey) (key : LockKey) (i k : ℕ) (d : HeldKey) → FindsHeld hs key (Err i) → k < length hs → (get_or hs k d).key ≢ key
    apart hs key i k d at lt same =
        let tie = tied_itself lock_keys_total key in
        elim (split k i) [
          | inl low ↦ let less : key_cmp key key ≡ Less = subst (λ j. key_cmp j key ≡ Less) same (at.1 k d (omega arith) low) in absurd (cc)
          | inr high ↦ let more : key_cmp key key ≡ Greater = subst (λ j. key_cmp j key ≡ Greater) same (at.2 k d high lt) in absurd (cc)
        ]
      where
        split : (k i : ℕ) → (k < i) ⊎ (i ≤ k)
        split k i = cases_lt k i

-- ---- a new key

sorted_push : (ks : List LockKey) (key : LockKey) → IsStrictlySortedBy key_cmp ks → All (λ k. key_cmp k key ≡ Less) ks → IsStrictlySortedBy key_cmp (ks ++ key ∷ [])
unfolding IsStrictlySortedBy
sorted_push [] key sorted all = (recursion_from_All (λ k. key_cmp key k ≡ Less) [] (All-nil (λ k. key_cmp key k ≡ Less)), tt)
sorted_push (k ∷ ks) key sorted all = (
  recursion_from_All (λ j. key_cmp k j ≡ Less) (ks ++ key ∷ []) (All-push (λ j. key_cmp k j ≡ Less) ks key (All-from_recursion (λ j. key_cmp k j ≡ Less) ks sorted.0) (All-head (λ k. key_cmp k key ≡ Less) k ks all)),
  sorted_push ks key sorted.1 (All-tail (λ k. key_cmp k key ≡ Less) k ks all),
)

-- what is granted lies below, so every key does
pub all_below : (hs : List HeldKey) (key : LockKey) → AreHeldInOrder hs → ((k : LockKey) (grant : Grant) → finite.get (grants_held hs) k ≡ Some grant → key_cmp k key ≡ Less) → All (λ h. key_cmp h.key key ≡ Less) hs
all_below hs key sorted above i d lt =
    above (get_or hs i d).key (grant_held (get_or hs i d))
    (get_held hs (get_or hs i d).key ∙ grant_at_first hs (get_or hs i d).key i d (first_at hs (get_or hs i d).key i d sorted lt refl))

pub pushed_sorted : (hs : List HeldKey) (h : HeldKey) → AreHeldInOrder hs → All (λ g. key_cmp g.key h.key ≡ Less) hs → AreHeldInOrder (hs ++ h ∷ [])
pushed_sorted hs h sorted all =
    subst (IsStrictlySortedBy key_cmp) (sym (map-append (λ (h : HeldKey). h.key) hs (h ∷ [])))
    (sorted_push (map (λ h. h.key) hs) h.key sorted (All-map (λ k. key_cmp k h.key ≡ Less) (λ (h : HeldKey). h.key) hs all))

pub pushed_grants : (hs : List HeldKey) (h : HeldKey) → All (λ g. key_cmp g.key h.key ≡ Less) hs → grants_held (hs ++ h ∷ []) ≡ finite.insert (grants_held hs) h.key (grant_held h)
pushed_grants hs h all =
    ap (λ l. finite.from_entries l) (map-append entry_held hs (h ∷ []))
    ∙ from_entries_push lock_keys_total lock_keys_exact (map entry_held hs) h.key (grant_held h) (grant_none hs h.key (λ k d lt same. not_less (get_or hs k d).key h.key (all k d lt) same))

-- ---- a raised key

abbrev pub write_held : HeldKey → HeldKey
write_held h = record { key = h.key; mode = Write; number = h.number }

grant_set : (hs : List HeldKey) (key : LockKey) (i : ℕ) (d : HeldKey) (k : LockKey) → IsFirstAt hs key i d → grant_in (set hs i (write_held (get_or hs i d))) k ≡ cond (eq_by_cmp key_cmp k key) (Some (grant_held (write_held (get_or hs i d)))) (grant_in hs k)
grant_set [] key i d k at = let lt = at.within in absurd (omega arith)
grant_set (h ∷ hs) key zero d k at =
    ap (λ j. cond (eq_by_cmp key_cmp k j) (Some (grant_held (write_held h))) (grant_in hs k)) at.here
    ∙ absorbed (eq_by_cmp key_cmp k key) ∙ ap (λ j. cond (eq_by_cmp key_cmp k key) (Some (grant_held (write_held h))) (cond (eq_by_cmp key_cmp k j) (Some (grant_held h)) (grant_in hs k))) (sym at.here)
  where
    absorbed : (b : Bool) → cond b (Some (grant_held (write_held h))) (grant_in hs k) ≡ cond b (Some (grant_held (write_held h))) (cond b (Some (grant_held h)) (grant_in hs k))
    absorbed true = refl
    absorbed false = refl
grant_set (h ∷ hs) key (suc i) d k at =
    ap (λ o. cond (eq_by_cmp key_cmp k h.key) (Some (grant_held h)) o) (grant_set hs key i d k (later_at h hs key i d at))
    ∙ elim (same_or_not k h.key) [
      | inl same ↦
          let mine : eq_by_cmp key_cmp k h.key ≡ true = subst (λ j. eq_by_cmp key_cmp k j ≡ true) same (key_itself k) in
          let other : eq_by_cmp key_cmp k key ≡ false = keys_untied k key (λ e. at.before zero (omega arith) (sym same ∙ e)) in
          both (eq_by_cmp key_cmp k h.key) (eq_by_cmp key_cmp k key) (grant_in hs k) (inl (mine, other))
      | inr ne ↦ both (eq_by_cmp key_cmp k h.key) (eq_by_cmp key_cmp k key) (grant_in hs k) (inr (keys_untied k h.key ne))
    ]
  where
    both : (a b : Bool) (o : Option Grant) → (((a ≡ true) × (b ≡ false)) ⊎ (a ≡ false)) → cond a (Some (grant_held h)) (cond b (Some (grant_held (write_held (get_or hs i d)))) o) ≡ cond b (Some (grant_held (write_held (get_or hs i d)))) (cond a (Some (grant_held h)) o)
    both true true o (inl e) = absurd (cc)
    both true true o (inr e) = absurd (cc)
    both true false o e = refl
    both false true o e = refl
    both false false o e = refl

pub raised_sorted : (hs : List HeldKey) (i : ℕ) (d : HeldKey) → AreHeldInOrder hs → AreHeldInOrder (set hs i (write_held (get_or hs i d)))
raised_sorted hs i d sorted =
    subst (IsStrictlySortedBy key_cmp) (sym (map-set_same (λ (h : HeldKey). h.key) hs i (write_held (get_or hs i d)) d refl)) sorted

raised_entry : (grants : finite.FinMap key_cmp Grant) (key : LockKey) (o : Option Grant) → finite.get grants key ≡ o → raised_in key grants ≡ elim o [ Some grant ↦ finite.insert grants key (record grant { mode = Write }) | None ↦ grants ]
raised_entry grants key o e = ap (λ (z : Option Grant). elim z as (λ y. finite.FinMap key_cmp Grant) [ Some grant ↦ finite.insert grants key (record grant { mode = Write }) | None ↦ grants ]) e

pub raised_grants : (hs : List HeldKey) (key : LockKey) (i : ℕ) (d : HeldKey) → AreHeldInOrder hs → FindsHeld hs key (Ok i) → grants_held (set hs i (write_held (get_or hs i d))) ≡ raised_in key (grants_held hs)
raised_grants hs key i d sorted at =
    let first = first_at hs key i d sorted at.0 (at.1 d) in
    let g = grant_held (write_held (get_or hs i d)) in
    same_map lock_keys_total lock_keys_exact (grants_held (set hs i (write_held (get_or hs i d)))) (finite.insert (grants_held hs) key g) (λ q.
    get_held (set hs i (write_held (get_or hs i d))) q
    ∙ grant_set hs key i d q first
    ∙ ap (λ o. cond (eq_by_cmp key_cmp q key) (Some g) o) (sym (get_held hs q))
    ∙ sym (get-insert lock_keys_total (grants_held hs) key g q))
    ∙ sym (raised_entry (grants_held hs) key (Some (grant_held (get_or hs i d))) (get_held hs key ∙ grant_at_first hs key i d first))

pub not_raised : (hs : List HeldKey) (key : LockKey) (i : ℕ) → FindsHeld hs key (Err i) → raised_in key (grants_held hs) ≡ grants_held hs
not_raised hs key i at = raised_entry (grants_held hs) key None (get_held hs key ∙ grant_missing hs key i at)

pub nothing_held : AreHeldInOrder []
unfolding IsStrictlySortedBy
nothing_held = tt
