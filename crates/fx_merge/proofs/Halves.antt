-- What comes first in two halves of levels, and what stays known of each.
use Rattle.std.proofs.Common.{◌≡◌, ℕ, zero, suc, Bool, true, false, not, ◌||◌, List, [], ◌∷◌, ◌++◌, map, Option, Some, None, refl, sym, ◌∙◌, ap, subst, inl, inr, arith}
use Rattle.std.specs.Prelude.{◌==◌, IfOk, IfSome, Result, Ok, Err, option_map}
use Rattle.std.specs.List.{Contains, flat_map}
use Rattle.std.specs.Ordering.{is_le}
use Rattle.std.proofs.lemmas.Grind.{flat_map-append}
use Rattle.std.proofs.lemmas.List.{map-append}
use Rattle.std.proofs.lemmas.List.Elements.{Contains-append_left, Contains-append_right}
use Rattle.std.proofs.lemmas.List.Folds.{list_any-append}
use Rattle.fx_item.specs.Item.{PlainItem, item_of, key_of}
use Rattle.fx_item.specs.Place.{Place, place_cmp, Upto, Below, begins, ends}
use Rattle.fx_item.specs.Overlay.{Point, Entry, Said, says, or_older, over, overlay}
use Rattle.fx_item.specs.Look.{IsFirstFrom, FindsFrom, MayFail, has_block}
use Rattle.fx_item.specs.declared.item.Item.{Item}
use Rattle.fx_item.specs.declared.look.LookFault.{LookFault}
use Rattle.fx_item.specs.declared.look.LookFault.TheVariants as faults
use Rattle.fx_merge.specs.Choice.{head_item, HasEdges, IfItem, ComesFirst, StaysOrGoes}
use Rattle.fx_merge.specs.Cursor.{reaches, item_edges, list_edges, edges_of, says_all, HeadHolds, FindsIn}
use Rattle.fx_merge.specs.declared.choice.Head.{Head}
use Rattle.fx_merge.specs.declared.choice.Head.TheVariants as heads
use Rattle.fx_item.proofs.PlaceOrder.{not_le_below, upto_itself, upto_then, upto_upto}
use Rattle.fx_item.proofs.Overlays.{overlay_holds}

-- ---- a later place

-- what was found from an earlier place is found from a later one, if it ends past it
pub still_first : (said : Said) (from place : Place) (x : PlainItem) → Upto from place → Below place (ends x.key) → IsFirstFrom said from x → IsFirstFrom said place x
still_first said from place x le reach f = record {
  good = f.good;
  reaches = reach;
  stands = λ p up c. f.stands p (upto_upto le up) c;
  first = λ p up b. f.first p (upto_upto le up) b;
}

still_edges : (es : List Place) (from place : Place) (x : Option PlainItem) → Upto from place → HasEdges es from x → HasEdges es place x
still_edges es from place None le h = tt
still_edges es from place (Some x) le h = (λ b. h.0 (upto_then le b), λ b. h.1 (upto_then le b))

not_true : (b : Bool) → not b ≡ true → b ≡ false
not_true true e = absurd (cc e)
not_true false e = refl

module _ (lists : List (List PlainItem)) (place : Place) where
  -- what is known and reaches past the place comes first from there on
  pub known_first : (head : Head) (t : Bool) → t ≡ true → t ≡ reaches place head → HeadHolds lists place head → FindsIn lists place (head_item head)
  known_first heads.Unknown t a b h = absurd (cc (sym b ∙ a))
  known_first (heads.Known None) t a b h = record {
    finds = λ p up. h.finds p (upto_upto h.upto up);
    edges = tt;
  }
  known_first (heads.Known (Some x)) t a b h = record {
    finds = still_first (says_all lists) h.from place (item_of x) h.upto (not_le_below (not_true (is_le (place_cmp (ends (key_of x.key)) place)) (sym b ∙ a))) h.finds;
    edges = still_edges (edges_of lists) h.from place (Some (item_of x)) h.upto h.edges;
  }

  pub first_known : (found : Option Item) → FindsIn lists place (option_map item_of found) → HeadHolds lists place (heads.Known found)
  first_known found h = record { from = place; upto = upto_itself place; finds = h.finds; edges = h.edges }

  pub stays : (old new : Head) → StaysOrGoes old new → HeadHolds lists place old → HeadHolds lists place new
  stays old new (inl e) h = subst (HeadHolds lists place) (sym e) h
  stays old new (inr e) h = subst (HeadHolds lists place) (sym e) tt

  pub first_good : (x : Option PlainItem) → FindsIn lists place x → IfItem x
  first_good None h = tt
  first_good (Some x) h = h.finds.good

-- a later place keeps what is known
pub later_known : (lists : List (List PlainItem)) (from place : Place) (head : Head) → Upto from place → HeadHolds lists from head → HeadHolds lists place head
later_known lists from place heads.Unknown le h = tt
later_known lists from place (heads.Known x) le h = record { from = h.from; upto = upto_upto h.upto le; finds = h.finds; edges = h.edges }

-- ---- two halves

pub finds_same : (m n : Said) (place : Place) (x : Option PlainItem) → ((p : Point) → m p ≡ n p) → FindsFrom m place x → FindsFrom n place x
finds_same m n place None same f = λ p up. sym (same p) ∙ f p up
finds_same m n place (Some x) same f = record {
  good = f.good;
  reaches = f.reaches;
  stands = λ p up c. sym (same p) ∙ f.stands p up c;
  first = λ p up b. sym (same p) ∙ f.first p up b;
}

module _ (newer older : List (List PlainItem)) where
  says_both : (p : Point) → over (says_all newer) (says_all older) p ≡ says_all (newer ++ older) p
  says_both p = sym (ap (λ l. overlay l p) (map-append says newer older) ∙ overlay_holds (map says newer) (map says older) p)

  edges_both : edges_of (newer ++ older) ≡ edges_of newer ++ edges_of older
  edges_both = flat_map-append list_edges newer older

  edges_left : (place : Place) (x : Option PlainItem) → HasEdges (edges_of newer) place x → HasEdges (edges_of (newer ++ older)) place x
  edges_left place None h = tt
  edges_left place (Some x) h = (
    λ b. subst (λ es. Contains es (begins x.key)) (sym edges_both) (Contains-append_left (edges_of newer) (edges_of older) (begins x.key) (h.0 b)),
    λ b. subst (λ es. Contains es (ends x.key)) (sym edges_both) (Contains-append_left (edges_of newer) (edges_of older) (ends x.key) (h.1 b)),
  )

  edges_right : (place : Place) (x : Option PlainItem) → HasEdges (edges_of older) place x → HasEdges (edges_of (newer ++ older)) place x
  edges_right place None h = tt
  edges_right place (Some x) h = (
    λ b. subst (λ es. Contains es (begins x.key)) (sym edges_both) (Contains-append_right (edges_of newer) (edges_of older) (begins x.key) (h.0 b)),
    λ b. subst (λ es. Contains es (ends x.key)) (sym edges_both) (Contains-append_right (edges_of newer) (edges_of older) (ends x.key) (h.1 b)),
  )

  pub both_first : (place : Place) (h i x : Option PlainItem) → FindsIn newer place h → FindsIn older place i → ComesFirst place h i x → FindsIn (newer ++ older) place x
  both_first place h i x f g c = record {
    finds = finds_same (over (says_all newer) (says_all older)) (says_all (newer ++ older)) place x says_both (c.first (says_all newer) (says_all older) f.finds g.finds);
    edges = c.edges (edges_of (newer ++ older)) (edges_left place h f.edges) (edges_right place i g.edges);
  }

-- ---- one level, and none

pub none_first : (place : Place) → FindsIn [] place None
none_first place = record { finds = λ p up. refl; edges = tt }

or_nothing : (o : Option (Option Entry)) → o ≡ or_older o None
or_nothing (Some e) = refl
or_nothing None = refl

edge_of : (items : List PlainItem) (x : PlainItem) (q : Place) → Contains (item_edges x) q → Contains items x → Contains (list_edges items) q
edge_of [] x q h c = absurd (let l = c.1 in omega arith)
edge_of (y ∷ items) x q h (zero, l, e) = Contains-append_left (item_edges y) (list_edges items) q (subst (λ z. Contains (item_edges z) q) (sym e) h)
edge_of (y ∷ items) x q h (suc k, l, e) = Contains-append_right (item_edges y) (list_edges items) q (edge_of items x q h (k, omega arith, e))

one_edge : (items : List PlainItem) (x : PlainItem) (q : Place) → Contains (item_edges x) q → Contains items x → Contains (edges_of (items ∷ [])) q
one_edge items x q h c = Contains-append_left (list_edges items) [] q (edge_of items x q h c)

pub one_first : (items : List PlainItem) (place : Place) (x : Option PlainItem) → FindsFrom (says items) place x → ((y : PlainItem) → x ≡ Some y → Contains items y) → FindsIn (items ∷ []) place x
one_first items place x f among = record {
  finds = finds_same (says items) (says_all (items ∷ [])) place x (λ p. or_nothing (says items p)) f;
  edges = edges x among;
} where
  edges : (x : Option PlainItem) → ((y : PlainItem) → x ≡ Some y → Contains items y) → HasEdges (edges_of (items ∷ [])) place x
  edges None c = tt
  edges (Some y) c = (λ b. one_edge items y (begins y.key) (0, omega arith, refl) (c y refl), λ b. one_edge items y (ends y.key) (1, omega arith, refl) (c y refl))

-- ---- blocks that are not at hand

or_left : (a b : Bool) → a ≡ true → (a || b) ≡ true
or_left true b e = refl
or_left false b e = absurd (cc e)

or_right : (a b : Bool) → b ≡ true → (a || b) ≡ true
or_right true b e = refl
or_right false b e = e

pub fails_left : (a b : List ℕ) (fault : LookFault) → MayFail a fault → MayFail (a ++ b) fault
fails_left a b (faults.Need n) h = list_any-append (λ k. k == n) a b ∙ or_left (has_block a n) (has_block b n) h
fails_left a b faults.OutOfMemory h = tt

pub fails_right : (a b : List ℕ) (fault : LookFault) → MayFail b fault → MayFail (a ++ b) fault
fails_right a b (faults.Need n) h = list_any-append (λ k. k == n) a b ∙ or_right (has_block a n) (has_block b n) h
fails_right a b faults.OutOfMemory h = tt

-- ---- the levels of a node as lists

module _ {L : Type 0} (lacks : L → List ℕ) (newer older levels : List L) (two : levels ≡ newer ++ older) (fault : LookFault) where
  lacks_both : flat_map lacks levels ≡ flat_map lacks newer ++ flat_map lacks older
  lacks_both = ap (flat_map lacks) two ∙ flat_map-append lacks newer older

  pub fails_newer : MayFail (flat_map lacks newer) fault → MayFail (flat_map lacks levels) fault
  fails_newer h = subst (λ b. MayFail b fault) (sym lacks_both) (fails_left (flat_map lacks newer) (flat_map lacks older) fault h)

  pub fails_older : MayFail (flat_map lacks older) fault → MayFail (flat_map lacks levels) fault
  fails_older h = subst (λ b. MayFail b fault) (sym lacks_both) (fails_right (flat_map lacks newer) (flat_map lacks older) fault h)

pub two_found : {L : Type 0} (items : L → List PlainItem) (newer older levels : List L) → levels ≡ newer ++ older → (place : Place) (h i : Head) (x : Option PlainItem)
    → FindsIn (map items newer) place (head_item h) → FindsIn (map items older) place (head_item i) → ComesFirst place (head_item h) (head_item i) x → FindsIn (map items levels) place x
two_found items newer older levels two place h i x f g c =
    subst (λ l. FindsIn l place x) (sym (ap (map items) two ∙ map-append items newer older)) (both_first (map items newer) (map items older) place (head_item h) (head_item i) x f g c)

pub one_found : {L : Type 0} (items : L → List PlainItem) (level : L) (levels : List L) → levels ≡ level ∷ [] → (place : Place) (r : Result (Option Item) LookFault)
    → IfOk r (λ found. FindsFrom (says (items level)) place (option_map item_of found)) → IfOk r (λ found. IfSome found (λ item. Contains (items level) (item_of item)))
    → IfOk r (λ found. FindsIn (map items levels) place (option_map item_of found))
one_found items level levels one place (Err e) f among = tt
one_found items level levels one place (Ok None) f among =
    subst (λ l. FindsIn (map items l) place None) (sym one) (one_first (items level) place None f (λ y e. absurd (cc e)))
one_found items level levels one place (Ok (Some x)) f among =
    subst (λ l. FindsIn (map items l) place (Some (item_of x))) (sym one) (one_first (items level) place (Some (item_of x)) f (λ y e. subst (Contains (items level)) (cc e) among))
