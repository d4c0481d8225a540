-- What tombstones say.
use Rattle.std.proofs.Common.{◌≡◌, ◌≢◌, ◌⊎◌, inl, inr, ℕ, ◌<◌, ◌≤◌, ◌++◌, List, [], ◌∷◌, zero, suc, map, refl, sym, ap, subst, ◌∙◌, Bool, true, false, cond}
use Rattle.std.specs.Prelude.{Option, Some, None, slice_get, nat_eq, nat_le, nat_lt, ◌==◌, ◌&&◌}
use Rattle.std.specs.Cmp.Lexicographic.{pointwise, same_text}
use Rattle.std.proofs.lemmas.Bool.{and_parts, eqb-true, leb-true, ltb-true}
use Rattle.fx_item.specs.Item.{PlainKey, ObjectKey, AttributeKey, ExtentKey, ChildKey, GraveKey, AllocationKey}
use Rattle.fx_item.specs.Overlay.{Point, AtKey, AtFileBlock, AtDeviceBlock, Entry, covers, or_older, says}
use Rattle.fx_item.specs.Place.{begins}
use Rattle.fx_item.proofs.Between.{just_past}
use Rattle.fx_item.proofs.Covered.{file_upto, lies_covers}
use Rattle.fx_item.proofs.PlaceOrder.{upto_itself}
use Rattle.fx_extent.proofs.Chains.{says_append}
use Rattle.fx_namespace.specs.Nodes.{NodeId}
use Rattle.fx_contents.specs.Removal.{IsBesideNode}
use Rattle.fx_node.specs.Counts.{IsAmong}
use Rattle.fx_node.specs.Portions.{attribute_gone, gone, portion_items, run_gone, when}
use Rattle.fx_node.specs.declared.holding.BlockRun.{BlockRun}
use Rattle.fx_node.proofs.Runs.{file_below}

-- ---- one after another: a tombstone, or nothing

abbrev pub IsGoneSaid : Option (Option Entry) → Type 0
IsGoneSaid said = (said ≡ None) ⊎ (said ≡ Some None)

pub gone_then : (a b : Option (Option Entry)) → IsGoneSaid a → IsGoneSaid b → IsGoneSaid (or_older a b)
gone_then None b x y = y
gone_then (Some None) b x y = inr refl
gone_then (Some (Some e)) b (inl q) y = absurd (cc q)
gone_then (Some (Some e)) b (inr q) y = absurd (cc q)

pub none_then : (a b : Option (Option Entry)) → a ≡ None → b ≡ None → or_older a b ≡ None
none_then None b x y = y
none_then (Some o) b x y = absurd (cc x)

-- the first says it, or the first is a tombstone or nothing and the next says it
pub first_says : (a b : Option (Option Entry)) → a ≡ Some None → or_older a b ≡ Some None
first_says None b x = absurd (cc x)
first_says (Some o) b x = x

pub next_says : (a b : Option (Option Entry)) → IsGoneSaid a → b ≡ Some None → or_older a b ≡ Some None
next_says None b x y = y
next_says (Some None) b x y = refl
next_says (Some (Some e)) b (inl q) y = absurd (cc q)
next_says (Some (Some e)) b (inr q) y = absurd (cc q)

one_says : (k : PlainKey) (p : Point) (b : Bool) → covers k p ≡ b → says (gone k ∷ []) p ≡ cond b (Some None) None
one_says k p true e = ap (λ t. cond t (Some None) None) e
one_says k p false e = ap (λ t. cond t (Some None) None) e

-- ---- tombstones of a list of keys

module _ {X : Type 0} (key : X → PlainKey) where
  pub gone_map : (xs : List X) (p : Point) → IsGoneSaid (says (map (λ x. gone (key x)) xs) p)
  gone_map [] p = inl refl
  gone_map (x ∷ xs) p = by (covers (key x) p) (gone_map xs p)
    where
      by : (b : Bool) → IsGoneSaid (says (map (λ x. gone (key x)) xs) p) → IsGoneSaid (cond b (Some None) (says (map (λ x. gone (key x)) xs) p))
      by true h = inr refl
      by false h = h

  pub none_map : (xs : List X) (p : Point) → ((x : X) → covers (key x) p ≡ false) → says (map (λ x. gone (key x)) xs) p ≡ None
  none_map [] p no_cover = refl
  none_map (x ∷ xs) p no_cover = ap (λ b. cond b (Some None) (says (map (λ x. gone (key x)) xs) p)) (no_cover x) ∙ none_map xs p no_cover

  pub none_map_in : (xs : List X) (p : Point) → ((x : X) → IsAmong xs x → covers (key x) p ≡ false) → says (map (λ x. gone (key x)) xs) p ≡ None
  none_map_in [] p no_cover = refl
  none_map_in (x ∷ xs) p no_cover = ap (λ b. cond b (Some None) (says (map (λ x. gone (key x)) xs) p)) (no_cover x (inl refl)) ∙ none_map_in xs p (λ y i. no_cover y (inr i))

  pub some_map : (xs : List X) (p : Point) (i : ℕ) (x : X) → slice_get xs i ≡ Some x → covers (key x) p ≡ true → says (map (λ x. gone (key x)) xs) p ≡ Some None
  some_map [] p i x g c = absurd (cc g)
  some_map (y ∷ xs) p zero x g c = ap (λ b. cond b (Some None) (says (map (λ x. gone (key x)) xs) p)) (ap (λ z. covers (key z) p) (same g) ∙ c)
    where
      same : Some y ≡ Some x → y ≡ x
      same e = cc e
  some_map (y ∷ xs) p (suc i) x g c = by (covers (key y) p) (some_map xs p i x g c)
    where
      by : (b : Bool) → says (map (λ x. gone (key x)) xs) p ≡ Some None → cond b (Some None) (says (map (λ x. gone (key x)) xs) p) ≡ Some None
      by true h = refl
      by false h = h

pub gone_when : (last : Bool) (k : PlainKey) (p : Point) → IsGoneSaid (says (when last (gone k)) p)
gone_when false k p = inl refl
gone_when true k p = by (covers k p)
  where
    by : (b : Bool) → IsGoneSaid (cond b (Some None) None)
    by true = inr refl
    by false = inl refl

pub none_when : (last : Bool) (k : PlainKey) (p : Point) → covers k p ≡ false → says (when last (gone k)) p ≡ None
none_when false k p e = refl
none_when true k p e = ap (λ b. cond b (Some None) None) e

pub said_when : (last : Bool) (k : PlainKey) (p : Point) → covers k p ≡ true → says (when last (gone k)) p ≡ cond last (Some None) None
said_when false k p e = refl
said_when true k p e = ap (λ b. cond b (Some None) None) e

-- ---- what keys of a node cover

pub covers_object : (s i : ℕ) → covers (ObjectKey s i) (AtKey (ObjectKey s i)) ≡ true
covers_object s i = lies_covers (ObjectKey s i) (AtKey (ObjectKey s i)) (upto_itself (begins (ObjectKey s i))) (just_past s i 1 [])

pub covers_grave : (s i : ℕ) → covers (GraveKey s i) (AtKey (GraveKey s i)) ≡ true
covers_grave s i = lies_covers (GraveKey s i) (AtKey (GraveKey s i)) (upto_itself (begins (GraveKey s i))) (just_past s i 5 [])

pub covers_attribute : (s i : ℕ) (name : List ℕ) → covers (AttributeKey s i name) (AtKey (AttributeKey s i name)) ≡ true
covers_attribute s i name = lies_covers (AttributeKey s i name) (AtKey (AttributeKey s i name)) (upto_itself (begins (AttributeKey s i name))) (just_past s i 2 name)

pub covers_place : (s i start stop n : ℕ) → start ≤ n → n < stop → covers (ExtentKey s i start stop) (AtFileBlock s i n) ≡ true
covers_place s i start stop n low high = lies_covers (ExtentKey s i start stop) (AtFileBlock s i n) (file_upto s i start n low) (file_below s i n stop high)

false_from : (b : Bool) → (b ≡ true → ⊥) → b ≡ false
false_from true h = absurd (h refl)
false_from false h = refl

module _ (node : NodeId) (p : Point) (beside : IsBesideNode node p) where
  same : (s i : ℕ) → ((node.store == s) && (node.id == i)) ≡ true → (node.store ≡ s) × (node.id ≡ i)
  same s i e = let q = and_parts (node.store == s) (node.id == i) e in (eqb-true node.store s q.0, eqb-true node.id i q.1)

  object_off : (q : Point) → p ≡ q → covers (ObjectKey node.store node.id) q ≡ true → ⊥
  object_off (AtKey (ObjectKey s i)) e c = let n = same s i c in beside.object (e ∙ ap (λ z. AtKey (ObjectKey z i)) (sym n.0) ∙ ap (λ z. AtKey (ObjectKey node.store z)) (sym n.1))
  object_off (AtKey (AttributeKey s i name)) e c = cc c
  object_off (AtKey (ExtentKey s i a b)) e c = cc c
  object_off (AtKey (ChildKey s i name)) e c = cc c
  object_off (AtKey (GraveKey s i)) e c = cc c
  object_off (AtKey (AllocationKey a b)) e c = cc c
  object_off (AtFileBlock s i n) e c = cc c
  object_off (AtDeviceBlock b) e c = cc c

  grave_off : (q : Point) → p ≡ q → covers (GraveKey node.store node.id) q ≡ true → ⊥
  grave_off (AtKey (GraveKey s i)) e c = let n = same s i c in beside.grave (e ∙ ap (λ z. AtKey (GraveKey z i)) (sym n.0) ∙ ap (λ z. AtKey (GraveKey node.store z)) (sym n.1))
  grave_off (AtKey (AttributeKey s i name)) e c = cc c
  grave_off (AtKey (ExtentKey s i a b)) e c = cc c
  grave_off (AtKey (ChildKey s i name)) e c = cc c
  grave_off (AtKey (ObjectKey s i)) e c = cc c
  grave_off (AtKey (AllocationKey a b)) e c = cc c
  grave_off (AtFileBlock s i n) e c = cc c
  grave_off (AtDeviceBlock b) e c = cc c

  attribute_off : (name : List ℕ) (q : Point) → p ≡ q → covers (AttributeKey node.store node.id name) q ≡ true → ⊥
  attribute_off name (AtKey (AttributeKey s i other)) e c =
      let n = same s i (and_parts ((node.store == s) && (node.id == i)) (pointwise nat_eq name other) c).0 in
      beside.attribute other (e ∙ ap (λ z. AtKey (AttributeKey z i other)) (sym n.0) ∙ ap (λ z. AtKey (AttributeKey node.store z other)) (sym n.1))
  attribute_off name (AtKey (GraveKey s i)) e c = cc c
  attribute_off name (AtKey (ExtentKey s i a b)) e c = cc c
  attribute_off name (AtKey (ChildKey s i other)) e c = cc c
  attribute_off name (AtKey (ObjectKey s i)) e c = cc c
  attribute_off name (AtKey (AllocationKey a b)) e c = cc c
  attribute_off name (AtFileBlock s i n) e c = cc c
  attribute_off name (AtDeviceBlock b) e c = cc c

  run_off : (start stop : ℕ) (q : Point) → p ≡ q → covers (ExtentKey node.store node.id start stop) q ≡ true → ⊥
  run_off start stop (AtFileBlock s i n) e c =
      let n2 = same s i (and_parts ((node.store == s) && (node.id == i)) (nat_le start n) (and_parts ((node.store == s) && (node.id == i) && nat_le start n) (nat_lt n stop) c).0).0 in
      beside.file n (e ∙ ap (λ z. AtFileBlock z i n) (sym n2.0) ∙ ap (λ z. AtFileBlock node.store z n) (sym n2.1))
  run_off start stop (AtKey (AttributeKey s i other)) e c = cc c
  run_off start stop (AtKey (GraveKey s i)) e c = cc c
  run_off start stop (AtKey (ExtentKey s i a b)) e c = cc c
  run_off start stop (AtKey (ChildKey s i other)) e c = cc c
  run_off start stop (AtKey (ObjectKey s i)) e c = cc c
  run_off start stop (AtKey (AllocationKey a b)) e c = cc c
  run_off start stop (AtDeviceBlock b) e c = cc c

  pub beside_object : covers (ObjectKey node.store node.id) p ≡ false
  beside_object = false_from (covers (ObjectKey node.store node.id) p) (object_off p refl)

  pub beside_grave : covers (GraveKey node.store node.id) p ≡ false
  beside_grave = false_from (covers (GraveKey node.store node.id) p) (grave_off p refl)

  pub beside_attribute : (name : List ℕ) → covers (AttributeKey node.store node.id name) p ≡ false
  beside_attribute name = false_from (covers (AttributeKey node.store node.id name) p) (attribute_off name p refl)

  pub beside_run : (run : BlockRun) → covers (ExtentKey node.store node.id run.start run.end) p ≡ false
  beside_run run = false_from (covers (ExtentKey node.store node.id run.start run.end) p) (run_off run.start run.end p refl)

-- ---- the items of a portion, part by part

module _ (node : NodeId) (last : Bool) (names : List (List ℕ)) (runs : List BlockRun) (p : Point) where
  abbrev of_object : Option (Option Entry)
  of_object = says (when last (gone (ObjectKey node.store node.id))) p

  abbrev of_names : Option (Option Entry)
  of_names = says (map (attribute_gone node) names) p

  abbrev of_runs : Option (Option Entry)
  of_runs = says (map (run_gone node) runs) p

  abbrev of_grave : Option (Option Entry)
  of_grave = says (when last (gone (GraveKey node.store node.id))) p

  pub parts : says (portion_items node last names runs) p ≡ or_older (or_older (or_older of_object of_names) of_runs) of_grave
  parts = says_append (when last (gone (ObjectKey node.store node.id)) ++ map (attribute_gone node) names ++ map (run_gone node) runs) (when last (gone (GraveKey node.store node.id))) p
      ∙ ap (λ o. or_older o of_grave) (says_append (when last (gone (ObjectKey node.store node.id)) ++ map (attribute_gone node) names) (map (run_gone node) runs) p
      ∙ ap (λ o. or_older o of_runs) (says_append (when last (gone (ObjectKey node.store node.id))) (map (attribute_gone node) names) p))

  object_gone : IsGoneSaid of_object
  object_gone = gone_when last (ObjectKey node.store node.id) p

  names_gone : IsGoneSaid of_names
  names_gone = gone_map (λ name. AttributeKey node.store node.id name) names p

  runs_gone : IsGoneSaid of_runs
  runs_gone = gone_map (λ (run : BlockRun). ExtentKey node.store node.id run.start run.end) runs p

  grave_gone : IsGoneSaid of_grave
  grave_gone = gone_when last (GraveKey node.store node.id) p

  pub all_gone : IsGoneSaid (says (portion_items node last names runs) p)
  all_gone = subst IsGoneSaid (sym parts) (gone_then _ _ (gone_then _ _ (gone_then _ _ object_gone names_gone) runs_gone) grave_gone)

  pub names_say : of_names ≡ Some None → says (portion_items node last names runs) p ≡ Some None
  names_say e = parts ∙ first_says _ _ (first_says _ _ (next_says _ _ object_gone e))

  pub runs_say : of_runs ≡ Some None → says (portion_items node last names runs) p ≡ Some None
  runs_say e = parts ∙ first_says _ _ (next_says _ _ (gone_then _ _ object_gone names_gone) e)

  pub nothing_said : covers (ObjectKey node.store node.id) p ≡ false → ((name : List ℕ) → covers (AttributeKey node.store node.id name) p ≡ false)
      → ((run : BlockRun) → covers (ExtentKey node.store node.id run.start run.end) p ≡ false) → covers (GraveKey node.store node.id) p ≡ false
      → says (portion_items node last names runs) p ≡ None
  nothing_said o a r g = parts ∙ none_then _ _ (none_then _ _ (none_then _ _ (none_when last (ObjectKey node.store node.id) p o)
      (none_map (λ name. AttributeKey node.store node.id name) names p a))
      (none_map (λ (run : BlockRun). ExtentKey node.store node.id run.start run.end) runs p r))
      (none_when last (GraveKey node.store node.id) p g)

  pub nothing_said_in : covers (ObjectKey node.store node.id) p ≡ false → ((name : List ℕ) → IsAmong names name → covers (AttributeKey node.store node.id name) p ≡ false)
      → ((run : BlockRun) → IsAmong runs run → covers (ExtentKey node.store node.id run.start run.end) p ≡ false) → covers (GraveKey node.store node.id) p ≡ false
      → says (portion_items node last names runs) p ≡ None
  nothing_said_in o a r g = parts ∙ none_then _ _ (none_then _ _ (none_then _ _ (none_when last (ObjectKey node.store node.id) p o)
      (none_map_in (λ name. AttributeKey node.store node.id name) names p a))
      (none_map_in (λ (run : BlockRun). ExtentKey node.store node.id run.start run.end) runs p r))
      (none_when last (GraveKey node.store node.id) p g)

  none_first : (a b c d : Option (Option Entry)) → b ≡ None → c ≡ None → d ≡ None → or_older (or_older (or_older a b) c) d ≡ a
  none_first None b c d x y z = (λ i. or_older (or_older (x i) (y i)) (z i))
  none_first (Some o) b c d x y z = refl

  none_last : (a b c d : Option (Option Entry)) → a ≡ None → b ≡ None → c ≡ None → or_older (or_older (or_older a b) c) d ≡ d
  none_last a b c d w x y = (λ i. or_older (or_older (or_older (w i) (x i)) (y i)) d)

pub object_said : (node : NodeId) (last : Bool) (names : List (List ℕ)) (runs : List BlockRun) → says (portion_items node last names runs) (AtKey (ObjectKey node.store node.id)) ≡ cond last (Some None) None
object_said node last names runs =
    let p : Point = AtKey (ObjectKey node.store node.id) in
    parts node last names runs p
    ∙ none_first node last names runs p _ _ _ _ (none_map (λ name. AttributeKey node.store node.id name) names p (λ x. refl))
    (none_map (λ (run : BlockRun). ExtentKey node.store node.id run.start run.end) runs p (λ x. refl)) (none_when last (GraveKey node.store node.id) p refl)
    ∙ said_when last (ObjectKey node.store node.id) p (covers_object node.store node.id)

pub grave_said : (node : NodeId) (last : Bool) (names : List (List ℕ)) (runs : List BlockRun) → says (portion_items node last names runs) (AtKey (GraveKey node.store node.id)) ≡ cond last (Some None) None
grave_said node last names runs =
    let p : Point = AtKey (GraveKey node.store node.id) in
    parts node last names runs p
    ∙ none_last node last names runs p _ _ _ _ (none_when last (ObjectKey node.store node.id) p refl) (none_map (λ name. AttributeKey node.store node.id name) names p (λ x. refl))
    (none_map (λ (run : BlockRun). ExtentKey node.store node.id run.start run.end) runs p (λ x. refl))
    ∙ said_when last (GraveKey node.store node.id) p (covers_grave node.store node.id)

-- ---- what is not taken

pub other_name : (s i : ℕ) (x name : List ℕ) → x ≢ name → covers (AttributeKey s i x) (AtKey (AttributeKey s i name)) ≡ false
other_name s i x name ne = false_from (covers (AttributeKey s i x) (AtKey (AttributeKey s i name)))
    (λ c. ne (same_text x name (sym (and_parts ((s == s) && (i == i)) (pointwise nat_eq x name) c).1)))

pub other_place : (s i start stop n : ℕ) → (start ≤ n → n < stop → ⊥) → covers (ExtentKey s i start stop) (AtFileBlock s i n) ≡ false
other_place s i start stop n out = false_from (covers (ExtentKey s i start stop) (AtFileBlock s i n)) (λ c.
    let q = and_parts ((s == s) && (i == i) && nat_le start n) (nat_lt n stop) c in
    out (leb-true start n (and_parts ((s == s) && (i == i)) (nat_le start n) q.0).1) (ltb-true n stop q.1))
