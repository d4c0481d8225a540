-- What stays where levels are replaced, and that all batches are merged.
use Rattle.std.proofs.Common.{◌≡◌, ℕ, zero, suc, ◌-◌, ◌<◌, Bool, true, false, List, [], ◌∷◌, ◌++◌, length, map, take, drop, reverse, get_or, Option, Some, None, refl, sym, ◌∙◌, ap, subst, cond, arith}
use Rattle.std.proofs.lemmas.List.{reverse-append, append-nil, take-append-drop, take-map, drop-map, drop_all, length-map}
use Rattle.std.specs.Ordering.{nat_cmp, ordering_then, is_gt}
use Rattle.std.specs.declared.cmp.Ordering.{Ordering}
use Rattle.std.specs.declared.cmp.Ordering.TheVariants.{Less, Equal, Greater}
use Rattle.std.specs.Cmp.Lexicographic.{slice_cmp}
use Rattle.fx_item.specs.Item.{PlainKey, ObjectKey, AttributeKey, ExtentKey, ChildKey, GraveKey, AllocationKey, PlainItem}
use Rattle.fx_item.specs.Place.{Place, Upto, begins}
use Rattle.fx_item.specs.Overlay.{Point, AtKey, AtFileBlock, AtDeviceBlock, Entry, at, covers, says, or_older, standing, live_in}
use Rattle.fx_item.specs.Look.{MayFail}
use Rattle.fx_item.specs.declared.look.LookFault.{LookFault}
use Rattle.fx_merge.specs.Merge.{MergeState}
use Rattle.fx_merge.specs.Run.{IsMerged}
use Rattle.fx_layerset.specs.Levels.{PlainLevel, SetLevels, batch_level, newest_first, said_over, said_in_set, lacked_by, merge_over, newest, below_newest, upper_levels, installed_levels}
use Rattle.fx_layerset.specs.Alike.{SayAlike, IsMergeOf, AreOfTree, MayInstall, InstallLaw}
use Rattle.fx_item.proofs.Between.{nat_less}
use Rattle.fx_item.proofs.Covered.{entry_at, same_key_is}
use Rattle.fx_layerset.proofs.Newest.{over_levels}
use Rattle.fx_layerset.proofs.Spoken.{three_parts}

or_none : (o : Option (Option Entry)) → or_older o None ≡ o
or_none (Some e) = refl
or_none None = refl

-- newer ones over older ones, where the list is the oldest first
pub over_older : (older newer : List PlainLevel) (p : Point) → said_over (reverse (older ++ newer)) p ≡ or_older (said_over (reverse newer) p) (said_over (reverse older) p)
over_older older newer p = ap (λ l. said_over l p) (reverse-append older newer) ∙ over_levels (reverse newer) (reverse older) p

pub one_level : (l : PlainLevel) (p : Point) → said_over (l ∷ []) p ≡ says l.items p
one_level l p = or_none (says l.items p)

-- ---- tidying

pub tidied_says : (s : SetLevels) (below : ℕ) (items : List PlainItem) → IsMergeOf (take below s.batches) items
    → SayAlike (said_in_set (record s { batches = batch_level items ∷ drop below s.batches })) (said_in_set s)
tidied_says s below items h p =
    three_parts (reverse (batch_level items ∷ rest)) (reverse s.objects) (reverse s.allocs) p
    ∙ ap (λ z. or_older (or_older z (said_over (reverse s.objects) p)) (said_over (reverse s.allocs) p)) same
    ∙ sym (three_parts (reverse s.batches) (reverse s.objects) (reverse s.allocs) p)
  where
    rest : List PlainLevel
    rest = drop below s.batches

    same : said_over (reverse (batch_level items ∷ rest)) p ≡ said_over (reverse s.batches) p
    same = over_older (batch_level items ∷ []) rest p
        ∙ ap (λ z. or_older (said_over (reverse rest) p) z) (one_level (batch_level items) p ∙ h p)
        ∙ sym (over_older (take below s.batches) rest p)
        ∙ ap (λ l. said_over (reverse l) p) (take-append-drop below s.batches)

-- ---- points and trees

-- a key covers points of its own tree
pub covers_tree : (k : PlainKey) (p : Point) → covers k p ≡ true → (begins k).tree ≡ (at p).tree
covers_tree (ObjectKey s i) (AtKey key) e = ap (λ z. (at (AtKey z)).tree) (same_key_is (ObjectKey s i) key e)
covers_tree (ObjectKey s i) (AtFileBlock t j n) e = absurd (cc e)
covers_tree (ObjectKey s i) (AtDeviceBlock n) e = absurd (cc e)
covers_tree (AttributeKey s i name) (AtKey key) e = ap (λ z. (at (AtKey z)).tree) (same_key_is (AttributeKey s i name) key e)
covers_tree (AttributeKey s i name) (AtFileBlock t j n) e = absurd (cc e)
covers_tree (AttributeKey s i name) (AtDeviceBlock n) e = absurd (cc e)
covers_tree (ExtentKey s i a b) (AtKey key) e = absurd (cc e)
covers_tree (ExtentKey s i a b) (AtFileBlock t j n) e = refl
covers_tree (ExtentKey s i a b) (AtDeviceBlock n) e = absurd (cc e)
covers_tree (ChildKey s i name) (AtKey key) e = ap (λ z. (at (AtKey z)).tree) (same_key_is (ChildKey s i name) key e)
covers_tree (ChildKey s i name) (AtFileBlock t j n) e = absurd (cc e)
covers_tree (ChildKey s i name) (AtDeviceBlock n) e = absurd (cc e)
covers_tree (GraveKey s i) (AtKey key) e = ap (λ z. (at (AtKey z)).tree) (same_key_is (GraveKey s i) key e)
covers_tree (GraveKey s i) (AtFileBlock t j n) e = absurd (cc e)
covers_tree (GraveKey s i) (AtDeviceBlock n) e = absurd (cc e)
covers_tree (AllocationKey a b) (AtKey key) e = absurd (cc e)
covers_tree (AllocationKey a b) (AtFileBlock t j n) e = absurd (cc e)
covers_tree (AllocationKey a b) (AtDeviceBlock n) e = refl

-- there are two trees
two_trees : (k : PlainKey) (n : ℕ) → (begins k).tree ≡ suc (suc n) → ⊥
two_trees (ObjectKey s i) n e = cc e
two_trees (AttributeKey s i name) n e = cc e
two_trees (ExtentKey s i a b) n e = cc e
two_trees (ChildKey s i name) n e = cc e
two_trees (GraveKey s i) n e = cc e
two_trees (AllocationKey a b) n e = cc e

module _ (p : Point) where
  says_none : (items : List PlainItem) → ((k : ℕ) (d : PlainItem) → k < length items → covers (get_or items k d).key p ≡ true → ⊥) → says items p ≡ None
  says_none [] h = refl
  says_none (x ∷ items) h = by_case (says_none items (λ k d l. h (suc k) d (omega arith))) (covers x.key p) refl where
    by_case : says items p ≡ None → (b : Bool) → covers x.key p ≡ b → says (x ∷ items) p ≡ None
    by_case rest true c = absurd (h 0 x (omega arith) c)
    by_case rest false c = ap (λ b. cond b (Some (entry_at x p)) (says items p)) c ∙ rest

  -- levels of one tree say nothing of a point of another one
  pub unsaid : (tree : ℕ) (levels : List PlainLevel) → AreOfTree tree levels → (tree ≡ (at p).tree → ⊥) → said_over (reverse levels) p ≡ None
  unsaid tree [] all other = refl
  unsaid tree (l ∷ levels) all other =
      over_older (l ∷ []) levels p
      ∙ ap (λ o. or_older o (said_over (l ∷ []) p)) (unsaid tree levels (λ k d w. all (suc k) d (omega arith)) other)
      ∙ one_level l p
      ∙ says_none l.items (λ k d w c. other (sym (all 0 l (omega arith) k d w) ∙ covers_tree (get_or l.items k d).key p c))

  pub unsaid_far : (n : ℕ) → (at p).tree ≡ suc (suc n) → (levels : List PlainLevel) → said_over levels p ≡ None
  unsaid_far n e [] = refl
  unsaid_far n e (l ∷ levels) = ap (λ o. or_older o (said_over levels p)) (says_none l.items (λ k d w c. two_trees (get_or l.items k d).key n (covers_tree (get_or l.items k d).key p c ∙ e)))
      ∙ unsaid_far n e levels

-- ---- installing

abbrev Word : Type 0
Word = Option (Option Entry)

-- newer ones, those replaced, what is shown of one tree and of the other
shown_objects : (n t o new : Word) → standing new ≡ standing (or_older t o) → standing (or_older (or_older n new) None) ≡ standing (or_older (or_older (or_older n t) o) None)
shown_objects (Some e) t o new h = refl
shown_objects None t o new h = ap standing (or_none new) ∙ h ∙ sym (ap standing (or_none (or_older t o)))

shown_allocs : (n t a new : Word) → standing new ≡ standing (or_older t a) → standing (or_older (or_older n None) new) ≡ standing (or_older (or_older (or_older n t) None) a)
shown_allocs (Some e) t a new h = refl
shown_allocs None (Some e) a new h = h
shown_allocs None None a new h = h

module _ (s : SetLevels) (below n : ℕ) (objects allocs : List PlainLevel) (m : MayInstall s below n objects allocs) (p : Point) where
  abbrev newer : Word
  newer = said_over (reverse (drop below s.batches)) p

  abbrev taken : Word
  taken = said_over (reverse (take below s.batches)) p

  abbrev old_objects : Word
  old_objects = said_over (reverse s.objects) p

  abbrev old_allocs : Word
  old_allocs = said_over (reverse s.allocs) p

  abbrev new_objects : Word
  new_objects = said_over (reverse (below_newest n s.objects ++ objects)) p

  abbrev new_allocs : Word
  new_allocs = said_over (reverse (below_newest n s.allocs ++ allocs)) p

  all_batches : said_over (reverse s.batches) p ≡ or_older newer taken
  all_batches = sym (ap (λ l. said_over (reverse l) p) (take-append-drop below s.batches)) ∙ over_older (take below s.batches) (drop below s.batches) p

  before : said_in_set s p ≡ or_older (or_older (or_older newer taken) old_objects) old_allocs
  before = three_parts (reverse s.batches) (reverse s.objects) (reverse s.allocs) p
      ∙ ap (λ z. or_older (or_older z old_objects) old_allocs) all_batches

  now : said_in_set (installed_levels s below n objects allocs) p ≡ or_older (or_older newer new_objects) new_allocs
  now = three_parts (reverse (drop below s.batches)) (reverse (below_newest n s.objects ++ objects)) (reverse (below_newest n s.allocs ++ allocs)) p

  -- a list in its two parts, turned
  turned_parts : (levels : List PlainLevel) → reverse (newest n levels) ++ reverse (below_newest n levels) ≡ reverse levels
  turned_parts levels = sym (reverse-append (below_newest n levels) (newest n levels)) ∙ ap reverse (take-append-drop (length levels - n) levels)

  module _ (levels new : List PlainLevel)
      (h : live_in (said_over (reverse new ++ reverse (below_newest n levels))) p
      ≡ live_in (said_over (reverse (take below s.batches) ++ (reverse (newest n levels) ++ reverse (below_newest n levels)))) p) where
    replaced : standing (said_over (reverse (below_newest n levels ++ new)) p) ≡ standing (or_older taken (said_over (reverse levels) p))
    replaced =
        ap (λ l. standing (said_over l p)) (reverse-append (below_newest n levels) new) ∙ h
        ∙ ap standing (over_levels (reverse (take below s.batches)) (reverse (newest n levels) ++ reverse (below_newest n levels)) p
        ∙ ap (λ l. or_older taken (said_over l p)) (turned_parts levels))

  module _ (tree : ℕ) (levels new : List PlainLevel) (o : AreOfTree tree levels) (w : AreOfTree tree new) (other : tree ≡ (at p).tree → ⊥) where
    unsaid_old : said_over (reverse levels) p ≡ None
    unsaid_old = unsaid p tree levels o other

    unsaid_new : said_over (reverse (below_newest n levels ++ new)) p ≡ None
    unsaid_new =
        over_older (below_newest n levels) new p ∙ ap (λ z. or_older z (said_over (reverse (below_newest n levels)) p)) (unsaid p tree new w other)
        ∙ stay (said_over (reverse (below_newest n levels)) p) (sym (over_older (below_newest n levels) (newest n levels) p) ∙ ap (λ l. said_over (reverse l) p) (take-append-drop (length levels - n) levels) ∙ unsaid_old)
      where
        stay : (z : Word) → or_older (said_over (reverse (newest n levels)) p) z ≡ None → z ≡ None
        stay None e = refl
        stay (Some d) e = absurd (never (said_over (reverse (newest n levels)) p) e) where
          never : (y : Word) → or_older y (Some d) ≡ None → ⊥
          never (Some c) f = cc f
          never None f = cc f

  by_tree : (t : ℕ) → (at p).tree ≡ t → live_in (said_in_set (installed_levels s below n objects allocs)) p ≡ live_in (said_in_set s) p
  by_tree zero e =
      let other : 1 ≡ (at p).tree → ⊥ = λ f. let g : 1 ≡ 0 = f ∙ e in cc in
      ap standing (now ∙ ap (λ z. or_older (or_older newer new_objects) z) (unsaid_new 1 s.allocs allocs m.allocs_apart m.new_allocs_apart other))
      ∙ shown_objects newer taken old_objects new_objects (replaced s.objects objects (m.objects_shown p e))
      ∙ sym (ap standing (before ∙ ap (λ z. or_older (or_older (or_older newer taken) old_objects) z) (unsaid_old 1 s.allocs allocs m.allocs_apart m.new_allocs_apart other)))
  by_tree (suc zero) e =
      let other : 0 ≡ (at p).tree → ⊥ = λ f. let g : 0 ≡ 1 = f ∙ e in cc in
      ap standing (now ∙ ap (λ z. or_older (or_older newer z) new_allocs) (unsaid_new 0 s.objects objects m.objects_apart m.new_objects_apart other))
      ∙ shown_allocs newer taken old_allocs new_allocs (replaced s.allocs allocs (m.allocs_shown p e))
      ∙ sym (ap standing (before ∙ ap (λ z. or_older (or_older (or_older newer taken) z) old_allocs) (unsaid_old 0 s.objects objects m.objects_apart m.new_objects_apart other)))
  by_tree (suc (suc k)) e =
      ap standing (unsaid_far p k e (newest_first (installed_levels s below n objects allocs)))
      ∙ sym (ap standing (unsaid_far p k e (newest_first s)))

pub install_holds : InstallLaw
install_holds s below n objects allocs m p = by_tree s below n objects allocs m p ((at p).tree) refl

-- ---- all batches as one

not_after : (a b : Ordering) → is_gt a ≡ false → is_gt b ≡ false → is_gt (ordering_then a b) ≡ false
not_after Less b h k = refl
not_after Equal b h k = k
not_after Greater b h k = h

from_zero : (n : ℕ) → is_gt (nat_cmp 0 n) ≡ false
from_zero zero = refl
from_zero (suc n) = ap is_gt (nat_less 0 (suc n) (omega arith))

from_one : (n : ℕ) → is_gt (nat_cmp 1 (suc n)) ≡ false
from_one zero = refl
from_one (suc n) = ap is_gt (nat_less 1 (suc (suc n)) (omega arith))

from_empty : (name : List ℕ) → is_gt (slice_cmp nat_cmp [] name) ≡ false
from_empty [] = refl
from_empty (x ∷ name) = refl

first_of_all : (q : Place) (k : ℕ) → q.kind ≡ suc k → Upto (begins (ObjectKey 0 0)) q
first_of_all q k e = record {
  holds = not_after _ _ (from_zero q.tree) (not_after _ _ (from_zero q.store) (not_after _ _ (from_zero q.id)
      (not_after _ _ (subst (λ n. is_gt (nat_cmp 1 n) ≡ false) (sym e) (from_one k))
      (not_after _ _ (from_zero q.number) (not_after _ _ (from_empty q.name) (from_zero q.past))))));
}

pub from_first : (p : Point) → Upto (begins (ObjectKey 0 0)) (at p)
from_first (AtKey (ObjectKey s i)) = first_of_all (begins (ObjectKey s i)) 0 refl
from_first (AtKey (AttributeKey s i name)) = first_of_all (begins (AttributeKey s i name)) 1 refl
from_first (AtKey (ExtentKey s i a b)) = record { holds = refl }
from_first (AtKey (ChildKey s i name)) = first_of_all (begins (ChildKey s i name)) 3 refl
from_first (AtKey (GraveKey s i)) = first_of_all (begins (GraveKey s i)) 4 refl
from_first (AtKey (AllocationKey a b)) = record { holds = refl }
from_first (AtFileBlock s i n) = first_of_all (at (AtFileBlock s i n)) 2 refl
from_first (AtDeviceBlock n) = first_of_all (at (AtDeviceBlock n)) 5 refl

-- no layer at all: the batches alone
pub only_batches : (s : SetLevels) → newest_first (upper_levels 0 s) ≡ reverse s.batches
only_batches s =
    ap (λ l. reverse s.batches ++ reverse l ++ reverse (newest 0 s.allocs)) (none s.objects)
    ∙ ap (λ l. reverse s.batches ++ [] ++ reverse l) (none s.allocs)
    ∙ append-nil (reverse s.batches ++ []) ∙ append-nil (reverse s.batches)
  where
    none : (levels : List PlainLevel) → newest 0 levels ≡ []
    none levels = drop_all (length levels - 0) levels (omega arith)

pub merged_all : (s : SetLevels) (m : MergeState) (items : List PlainItem) → m ≡ merge_over (upper_levels 0 s) (begins (ObjectKey 0 0)) → IsMerged m items
    → IsMergeOf s.batches items
merged_all s m items e h p =
    let g : IsMerged (merge_over (upper_levels 0 s) (begins (ObjectKey 0 0))) items = subst (λ t. IsMerged t items) e h in
    g.same p (from_first p) ∙ ap (λ l. said_over l p) (only_batches s)

pub merged_fails : (s : SetLevels) (m : MergeState) (fault : LookFault) → m ≡ merge_over (upper_levels 0 s) (begins (ObjectKey 0 0)) → MayFail m.lacks fault
    → MayFail (lacked_by (reverse s.batches)) fault
merged_fails s m fault e h =
    subst (λ l. MayFail (lacked_by l) fault) (only_batches s) (subst (λ (t : MergeState). MayFail t.lacks fault) e h)

-- ---- lists of the program as levels

module _ {X Y : Type 0} (f : X → Y) (n : ℕ) (xs : List X) where
  pub newest_map : newest n (map f xs) ≡ map f (newest n xs)
  newest_map = ap (λ k. drop (k - n) (map f xs)) (length-map xs f) ∙ drop-map f (length xs - n) xs

  pub below_newest_map : below_newest n (map f xs) ≡ map f (below_newest n xs)
  below_newest_map = ap (λ k. take (k - n) (map f xs)) (length-map xs f) ∙ take-map f (length xs - n) xs
