-- Lists of levels from the newest one on, and a merge of them.
use Rattle.std.proofs.Common.{◌≡◌, false, List, [], ◌∷◌, ◌++◌, map, reverse, None, refl, sym, ◌∙◌, ap, subst, append_assoc}
use Rattle.std.specs.List.{flat_map}
use Rattle.std.proofs.lemmas.Grind.{flat_map-append}
use Rattle.std.proofs.lemmas.List.{map-append, reverse-append, append-nil}
use Rattle.fx_item.specs.Item.{PlainKey}
use Rattle.fx_item.specs.Place.{begins}
use Rattle.fx_item.specs.Overlay.{Point, says, or_older, overlay}
use Rattle.fx_item.specs.Look.{MayFail}
use Rattle.fx_item.specs.declared.look.LookFault.{LookFault}
use Rattle.fx_merge.specs.Merge.{merge_state}
use Rattle.fx_layerset.specs.Levels.{PlainLevel, SetLevels, newest_first, item_lists, said_over, lacked_by, merge_over}
use Rattle.fx_item.proofs.Overlays.{overlay_holds}
use Rattle.fx_merge.proofs.Halves.{fails_left, fails_right}

-- newer levels over older ones
pub over_levels : (xs ys : List PlainLevel) (p : Point) → said_over (xs ++ ys) p ≡ or_older (said_over xs p) (said_over ys p)
over_levels xs ys p =
    ap (λ l. overlay (map says l) p) (map-append (λ l. l.items) xs ys)
    ∙ ap (λ l. overlay l p) (map-append says (item_lists xs) (item_lists ys))
    ∙ overlay_holds (map says (item_lists xs)) (map says (item_lists ys)) p

pub lacked_both : (xs ys : List PlainLevel) → lacked_by (xs ++ ys) ≡ lacked_by xs ++ lacked_by ys
lacked_both xs ys = flat_map-append (λ l. l.lacks) xs ys

module _ (xs ys : List PlainLevel) (fault : LookFault) where
  pub newer_fails : MayFail (lacked_by xs) fault → MayFail (lacked_by (xs ++ ys)) fault
  newer_fails h = subst (λ b. MayFail b fault) (sym (lacked_both xs ys)) (fails_left (lacked_by xs) (lacked_by ys) fault h)

  pub older_fails : MayFail (lacked_by ys) fault → MayFail (lacked_by (xs ++ ys)) fault
  older_fails h = subst (λ b. MayFail b fault) (sym (lacked_both xs ys)) (fails_right (lacked_by xs) (lacked_by ys) fault h)

-- ---- a list, the oldest first, from its end

pub turned_last : {X Y : Type 0} (f : X → Y) (older : List X) (x : X) → reverse (map f (older ++ x ∷ [])) ≡ f x ∷ reverse (map f older)
turned_last f older x = ap reverse (map-append f older (x ∷ [])) ∙ reverse-append (map f older) (f x ∷ [])

module _ {X Y V : Type 0} (now : X → V) (val : Y → V) where
  -- one more level goes over
  pub gather_more : (refs new : List X) (x : X) (y : Y) (rest older : List Y) (goal : List V) → new ≡ refs ++ x ∷ [] → rest ≡ older ++ y ∷ [] → now x ≡ val y
      → map now refs ++ reverse (map val rest) ≡ goal → map now new ++ reverse (map val older) ≡ goal
  gather_more refs new x y rest older goal n r e h =
      ap (λ l. map now l ++ reverse (map val older)) n ∙ ap (λ l. l ++ reverse (map val older)) (map-append now refs (x ∷ []))
      ∙ append_assoc (map now refs) (now x ∷ []) (reverse (map val older)) ∙ ap (λ v. map now refs ++ v ∷ reverse (map val older)) e
      ∙ sym (ap (λ l. map now refs ++ l) (ap (λ l. reverse (map val l)) r ∙ turned_last val older y)) ∙ h

  pub gather_all : (refs : List X) (rest : List Y) (goal : List V) → rest ≡ [] → map now refs ++ reverse (map val rest) ≡ goal → map now refs ≡ goal
  gather_all refs rest goal r h = sym (append-nil (map now refs)) ∙ sym (ap (λ l. map now refs ++ reverse (map val l)) r) ∙ h

-- ---- a merge of the levels of a set

pub map_each : {X Y V : Type 0} (g : Y → V) (f : X → Y) (xs : List X) → map (λ x. g (f x)) xs ≡ map g (map f xs)
map_each g f [] = refl
map_each g f (x ∷ xs) = ap (λ l. g (f x) ∷ l) (map_each g f xs)

pub flat_each : {X Y V : Type 0} (g : Y → List V) (f : X → Y) (xs : List X) → flat_map (λ x. g (f x)) xs ≡ flat_map g (map f xs)
flat_each g f [] = refl
flat_each g f (x ∷ xs) = ap (λ l. g (f x) ++ l) (flat_each g f xs)

pub merged_state : {X : Type 0} (level : X → PlainLevel) (refs : List X) (s : SetLevels) (from : PlainKey) → map level refs ≡ newest_first s
    → merge_state (λ x. (level x).items) (λ x. (level x).lacks) refs from None ≡ merge_over s (begins from)
merged_state level refs s from e = λ i. record {
  levels = lists i;
  lacks = lacked i;
  place = begins from;
  started = false;
} where
  lists : map (λ x. (level x).items) refs ≡ item_lists (newest_first s)
  lists = map_each (λ l. l.items) level refs ∙ ap item_lists e

  lacked : flat_map (λ x. (level x).lacks) refs ≡ lacked_by (newest_first s)
  lacked = flat_each (λ l. l.lacks) level refs ∙ ap lacked_by e
