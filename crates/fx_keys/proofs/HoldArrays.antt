-- The keys of one number: where a key stands in order, and in which mode it is held after a new hold and a raised one.
use Rattle.std.proofs.Common.{◌≡◌, ◌≢◌, ℕ, zero, suc, ◌+◌, ◌-◌, ◌<◌, ◌≤◌, true, false, cond, List, [], ◌∷◌, ◌++◌, map, length, set, get_or, All, Bool, ◌⊎◌, inl, inr, Option, Some, None, Result, Ok, Err, Less, Greater, refl, sym, ap, ◌∙◌, subst, arith}
use Rattle.std.specs.List.{AllWithin, HoldsAt}
use Rattle.std.specs.List.Sorted.{IsStrictlySortedBy, IsSortedBy, IsSearchInRange, IsBinarySearchResult}
use Rattle.std.proofs.lemmas.List.Sorted.{searchable_from_sorted}
use Rattle.std.specs.Ordering.{eq_by_cmp, is_lt, ordering_reverse}
use Rattle.std.specs.FinMap.Entries.{find-append}
use Rattle.std.specs.Cmp.{tied_itself}
use Rattle.std.proofs.lemmas.List.{length-map, get_or-map, map-append}
use Rattle.std.proofs.lemmas.List.Elements.{All-nil, All-head, All-tail, All-push, All-map, All-from_recursion, recursion_from_All}
use Rattle.std.proofs.lemmas.Map.Keys.{Less-from_sorted}
use Rattle.std.proofs.Math.Seq.{map-set_same}
use Rattle.fx_item.specs.declared.lock.LockKey.{LockKey}
use Rattle.fx_item.specs.declared.lock.Mode.{Mode}
use Rattle.fx_item.specs.declared.lock.Mode.TheVariants.{Write}
use Rattle.fx_keys.specs.declared.holdings.Hold.{Hold}
use Rattle.fx_item.specs.LockKey.{key_cmp}
use Rattle.fx_keys.specs.Holdings.{Grants, IsKeyArray, Locates, mode_in, granted, IsRaised}
use Rattle.std.specs.FinMap.{find}
use Rattle.std.proofs.lemmas.Bool.{cases_lt}
use Rattle.fx_item.proofs.KeyOrder.{lock_keys_total, lock_keys_exact}
use Rattle.fx_keys.proofs.Orders.{key_itself, keys_untied, key_irreflexive, same_or_not}

pub sorted_less : (hs : List Hold) (i j : ℕ) (d : Hold) → IsKeyArray hs → i < j → j < length hs → key_cmp (get_or hs i d).key (get_or hs j d).key ≡ Less
sorted_less hs i j d sorted lt in' =
    let there : j < length (map (λ (h : Hold). h.key) hs) = subst (λ n. j < n) (sym (length-map hs (λ (h : Hold). h.key))) in' in
    let less = Less-from_sorted key_cmp (map (λ h. h.key) hs) i j d.key sorted lt there in
    let first : key_cmp (get_or hs i d).key (get_or (map (λ (h : Hold). h.key) hs) j d.key) ≡ Less =
    subst (λ k. key_cmp k (get_or (map (λ (h : Hold). h.key) hs) j d.key) ≡ Less) (get_or-map (λ (h : Hold). h.key) hs i d d.key (omega arith)) less in
    subst (λ k. key_cmp (get_or hs i d).key k ≡ Less) (get_or-map (λ (h : Hold). h.key) hs j d d.key in') first

not_less : (j k : LockKey) → key_cmp j k ≡ Less → j ≢ k
not_less j k less same = key_irreflexive k (subst (λ x. key_cmp x k ≡ Less) same less)

-- what a binary search says of keys in order
pub located : (hs : List Hold) (key : LockKey) (r : Result ℕ ℕ) → IsKeyArray hs → IsSearchInRange r (length hs) → IsBinarySearchResult (λ (h : Hold). key_cmp h.key key) hs r → Locates hs key r
located hs key (Ok i) sorted bound found = (bound, λ d. lock_keys_exact (get_or hs i d).key key (found d))
located hs key (Err i) sorted bound found =
    let up : IsSortedBy (λ (a : Hold) (b : Hold). is_lt (key_cmp a.key b.key)) hs = λ k d low high.
    ap is_lt (lock_keys_total.antisymm (get_or hs (k + 1) d).key (get_or hs k d).key ∙ ap ordering_reverse (sorted_less hs k (k + 1) d sorted (omega arith) high)) in
    let within = found (searchable_from_sorted lock_keys_total (λ (h : Hold). h.key) hs key up) in
    (bound, within.0, within.1)

-- the key stands at the place and nowhere before it
record IsFirstAt (hs : List Hold) (key : LockKey) (i : ℕ) (d : Hold) : Type 0 where
  pub within : i < length hs
  pub here : (get_or hs i d).key ≡ key
  pub before : (k : ℕ) → k < i → (get_or hs k d).key ≢ key

first_at : (hs : List Hold) (key : LockKey) (i : ℕ) (d : Hold) → IsKeyArray hs → Locates hs key (Ok i) → IsFirstAt hs key i d
first_at hs key i d sorted at = record {
  within = at.0;
  here = at.1 d;
  before = λ k lt. not_less (get_or hs k d).key key (subst (λ j. key_cmp (get_or hs k d).key j ≡ Less) (at.1 d) (sorted_less hs k i d sorted lt at.0));
}

later_at : (h : Hold) (hs : List Hold) (key : LockKey) (i : ℕ) (d : Hold) → IsFirstAt (h ∷ hs) key (suc i) d → IsFirstAt hs key i d
later_at h hs key i d at = let lt = at.within in record { within = omega arith; here = at.here; before = λ k less. at.before (suc k) (omega arith) }

mode_at_first : (hs : List Hold) (key : LockKey) (i : ℕ) (d : Hold) → IsFirstAt hs key i d → mode_in hs key ≡ Some (get_or hs i d).mode
mode_at_first [] key i d at = let lt = at.within in absurd (omega arith)
mode_at_first (h ∷ hs) key zero d at = ap (λ b. cond b (Some h.mode) (mode_in hs key)) (subst (λ k. eq_by_cmp key_cmp k h.key ≡ true) at.here (key_itself h.key))
mode_at_first (h ∷ hs) key (suc i) d at =
    ap (λ b. cond b (Some h.mode) (mode_in hs key)) (keys_untied key h.key (λ same. at.before zero (omega arith) (sym same)))
    ∙ mode_at_first hs key i d (later_at h hs key i d at)

mode_in_none : (hs : List Hold) (key : LockKey) → All (λ h. h.key ≢ key) hs → mode_in hs key ≡ None
mode_in_none [] key all = refl
mode_in_none (h ∷ hs) key all =
    ap (λ b. cond b (Some h.mode) (mode_in hs key)) (keys_untied key h.key (λ same. All-head (λ h. h.key ≢ key) h hs all (sym same)))
    ∙ mode_in_none hs key (All-tail (λ h. h.key ≢ key) h hs all)

pub mode_found : (hs : List Hold) (key : LockKey) (i : ℕ) (d : Hold) → IsKeyArray hs → Locates hs key (Ok i) → mode_in hs key ≡ Some (get_or hs i d).mode
mode_found hs key i d sorted at = mode_at_first hs key i d (first_at hs key i d sorted at)

pub mode_missing : (hs : List Hold) (key : LockKey) (i : ℕ) → Locates hs key (Err i) → mode_in hs key ≡ None
mode_missing hs key i at =
    mode_in_none hs key (λ k d lt same. apart hs key i k d at lt same)
  where
    apart : (hs : List Hold) (key : LockKey) (i k : ℕ) (d : Hold) → Locates hs key (Err i) → k < length hs → (get_or hs k d).key ≢ key
    apart hs key i k d at lt same =
        let tie = tied_itself lock_keys_total key in
        elim (split k i) [
          | inl low ↦ let less : key_cmp key key ≡ Less = subst (λ j. key_cmp j key ≡ Less) same (at.1 k d (omega arith) low) in absurd (cc)
          | inr high ↦ let more : key_cmp key key ≡ Greater = subst (λ j. key_cmp j key ≡ Greater) same (at.2 k d high lt) in absurd (cc)
        ]
      where
        split : (k i : ℕ) → (k < i) ⊎ (i ≤ k)
        split k i = cases_lt k i

-- all keys lie below this one, so it is not held
pub mode_above : (hs : List Hold) (key : LockKey) → All (λ h. key_cmp h.key key ≡ Less) hs → mode_in hs key ≡ None
mode_above hs key all = mode_in_none hs key (λ k d lt same. not_less (get_or hs k d).key key (all k d lt) same)

-- ---- a new hold

sorted_push : (ks : List LockKey) (key : LockKey) → IsStrictlySortedBy key_cmp ks → All (λ k. key_cmp k key ≡ Less) ks → IsStrictlySortedBy key_cmp (ks ++ key ∷ [])
unfolding IsStrictlySortedBy
sorted_push [] key sorted all = (recursion_from_All (λ k. key_cmp key k ≡ Less) [] (All-nil (λ k. key_cmp key k ≡ Less)), tt)
sorted_push (k ∷ ks) key sorted all = (
  recursion_from_All (λ j. key_cmp k j ≡ Less) (ks ++ key ∷ []) (All-push (λ j. key_cmp k j ≡ Less) ks key (All-from_recursion (λ j. key_cmp k j ≡ Less) ks sorted.0) (All-head (λ k. key_cmp k key ≡ Less) k ks all)),
  sorted_push ks key sorted.1 (All-tail (λ k. key_cmp k key ≡ Less) k ks all),
)

pub sorted_granted : (hs : List Hold) (key : LockKey) (mode : Mode) → IsKeyArray hs → All (λ h. key_cmp h.key key ≡ Less) hs → IsKeyArray (hs ++ record { key = key; mode = mode } ∷ [])
sorted_granted hs key mode sorted all =
    subst (IsStrictlySortedBy key_cmp) (sym (map-append (λ (h : Hold). h.key) hs (record { key = key; mode = mode } ∷ [])))
    (sorted_push (map (λ h. h.key) hs) key sorted (All-map (λ k. key_cmp k key ≡ Less) (λ (h : Hold). h.key) hs all))

pub mode_granted : (hs : List Hold) (key : LockKey) (mode : Mode) (k : LockKey) → All (λ h. key_cmp h.key key ≡ Less) hs → mode_in (hs ++ record { key = key; mode = mode } ∷ []) k ≡ cond (eq_by_cmp key_cmp k key) (Some mode) (mode_in hs k)
mode_granted hs key mode k all =
    ap (λ l. find key_cmp k l) (map-append (λ (h : Hold). (h.key, h.mode)) hs (record { key = key; mode = mode } ∷ []))
    ∙ find-append key_cmp lock_keys_total (map (λ (h : Hold). (h.key, h.mode)) hs) key mode k (mode_above hs key all)

-- ---- a raised hold

mode_set : (hs : List Hold) (key : LockKey) (i : ℕ) (d : Hold) (mode : Mode) (k : LockKey) → IsFirstAt hs key i d → mode_in (set hs i (record { key = (get_or hs i d).key; mode = mode })) k ≡ cond (eq_by_cmp key_cmp k key) (Some mode) (mode_in hs k)
mode_set [] key i d mode k at = let lt = at.within in absurd (omega arith)
mode_set (h ∷ hs) key zero d mode k at =
    ap (λ j. cond (eq_by_cmp key_cmp k j) (Some mode) (mode_in hs k)) at.here
    ∙ absorbed (eq_by_cmp key_cmp k key) ∙ ap (λ j. cond (eq_by_cmp key_cmp k key) (Some mode) (cond (eq_by_cmp key_cmp k j) (Some h.mode) (mode_in hs k))) (sym at.here)
  where
    absorbed : (b : Bool) → cond b (Some mode) (mode_in hs k) ≡ cond b (Some mode) (cond b (Some h.mode) (mode_in hs k))
    absorbed true = refl
    absorbed false = refl
mode_set (h ∷ hs) key (suc i) d mode k at =
    ap (λ o. cond (eq_by_cmp key_cmp k h.key) (Some h.mode) o) (mode_set hs key i d mode k (later_at h hs key i d at))
    ∙ elim (same_or_not k h.key) [
      | inl same ↦
          let mine : eq_by_cmp key_cmp k h.key ≡ true = subst (λ j. eq_by_cmp key_cmp k j ≡ true) same (key_itself k) in
          let other : eq_by_cmp key_cmp k key ≡ false = keys_untied k key (λ e. at.before zero (omega arith) (sym same ∙ e)) in
          both (eq_by_cmp key_cmp k h.key) (eq_by_cmp key_cmp k key) (mode_in hs k) (inl (mine, other))
      | inr ne ↦ both (eq_by_cmp key_cmp k h.key) (eq_by_cmp key_cmp k key) (mode_in hs k) (inr (keys_untied k h.key ne))
    ]
  where
    both : (a b : Bool) (o : Option Mode) → (((a ≡ true) × (b ≡ false)) ⊎ (a ≡ false)) → cond a (Some h.mode) (cond b (Some mode) o) ≡ cond b (Some mode) (cond a (Some h.mode) o)
    both true true o (inl e) = absurd (cc)
    both true true o (inr e) = absurd (cc)
    both true false o e = refl
    both false true o e = refl
    both false false o e = refl

pub sorted_raised : (hs : List Hold) (key : LockKey) (i : ℕ) (d : Hold) (mode : Mode) → IsKeyArray hs → IsKeyArray (set hs i (record { key = (get_or hs i d).key; mode = mode }))
sorted_raised hs key i d mode sorted =
    subst (IsStrictlySortedBy key_cmp) (sym (map-set_same (λ (h : Hold). h.key) hs i (record { key = (get_or hs i d).key; mode = mode }) d refl)) sorted

pub is_raised : (hs : List Hold) (key : LockKey) (i : ℕ) (d : Hold) (places : ℕ) → IsKeyArray hs → Locates hs key (Ok i) → IsRaised (record { holds = hs; places = places }) key (record { holds = set hs i (record { key = (get_or hs i d).key; mode = Write }); places = places })
is_raised hs key i d places sorted at = record { modes = λ k. mode_set hs key i d Write k (first_at hs key i d sorted at); places = refl }

pub nothing_sorted : IsKeyArray []
unfolding IsStrictlySortedBy
nothing_sorted = tt

pub some_none : {X : Type 0} (x : X) → Some x ≡ None → ⊥
some_none x e = absurd (cc)
