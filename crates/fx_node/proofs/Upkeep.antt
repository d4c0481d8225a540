-- A portion takes away of a node in the graveyard, and leaves every tree as it was.
use Rattle.std.proofs.Common.{◌≡◌, ◌≢◌, ◌⊎◌, inl, inr, ℕ, List, refl, sym, ap, subst, ◌∙◌, Bool, true, false, cond}
use Rattle.std.specs.Prelude.{Option, Some, None}
use Rattle.fx_item.specs.Item.{ObjectKey, AttributeKey, ExtentKey, GraveKey, PlainValue, items_of}
use Rattle.fx_item.specs.Look.{value_of_entry}
use Rattle.fx_item.specs.Overlay.{Point, AtKey, AtFileBlock, AtDeviceBlock, Entry, Said, live_in, or_older, over, says, standing}
use Rattle.fx_namespace.specs.Nodes.{NodeId, told_kind}
use Rattle.fx_namespace.proofs.Walks.{node_path, same_node}
use Rattle.fx_contents.specs.Points.{Points, entry_after, points_after, value_under}
use Rattle.fx_contents.specs.Removal.{Trims}
use Rattle.fx_contents.specs.Standing.{AreWithin, HasObject}
use Rattle.fx_node.specs.Held.{HasAttribute, IsHole}
use Rattle.fx_node.specs.Portions.{IsPortionOf, TakesPart, SomeNames, AllNames, portion_items}
use Rattle.fx_node.specs.Reaped.{AreAfterBeside, SaysReaped}
use Rattle.fx_node.specs.declared.holding.BlockRun.{BlockRun}
use Rattle.fx_node.specs.declared.reaping.Portion.{Portion}
use Rattle.fx_node.proofs.Tombstones.{IsGoneSaid, all_gone, beside_attribute, beside_grave, beside_object, beside_run, covers_attribute, covers_place, grave_said, names_say, nothing_said, object_said, runs_say, some_map}

-- ---- what the items of a portion say

gone_is : (said : Option (Option Entry)) (o : Option Entry) → IsGoneSaid said → said ≡ Some o → o ≡ None
gone_is said o (inl q) e = absurd (cc (sym q ∙ e))
gone_is said o (inr q) e = let r : Some o ≡ Some None = sym e ∙ q in cc r

module _ (m : Points) (node : NodeId) (names : List (List ℕ)) (runs : List BlockRun) where
  attribute_said : (last : Bool) → TakesPart m node names runs last → last ≡ true → (name : List ℕ) → HasAttribute m node name
      → says (portion_items node last names runs) (AtKey (AttributeKey node.store node.id name)) ≡ Some None
  attribute_said last (SomeNames first none) e name has = absurd (cc e)
  attribute_said last (AllNames l first rest) e name has =
      let i = first.every refl name has in
      names_say node last names runs (AtKey (AttributeKey node.store node.id name))
      (some_map (λ x. AttributeKey node.store node.id x) names (AtKey (AttributeKey node.store node.id name)) i.0 name i.1 (covers_attribute node.store node.id name))

  block_said : (last : Bool) → TakesPart m node names runs last → last ≡ true → (n : ℕ)
      → IsHole m node n ⊎ (says (portion_items node last names runs) (AtFileBlock node.store node.id n) ≡ Some None)
  block_said last (SomeNames first none) e n = absurd (cc e)
  block_said last (AllNames l first rest) e n = elim (rest.every e n) [
    | inl h ↦ inl h
    | inr r ↦ inr (runs_say node last names runs (AtFileBlock node.store node.id n)
        (some_map (λ (x : BlockRun). ExtentKey node.store node.id x.start x.end) runs (AtFileBlock node.store node.id n) r.0 r.1 r.2 (covers_place node.store node.id r.1.start r.1.end n r.3 r.4)))
  ]

  pub portion_says : (last : Bool) → TakesPart m node names runs last → SaysReaped m (says (portion_items node last names runs)) node last
  portion_says last t = record {
    gone = λ p o e. gone_is (says (portion_items node last names runs) p) o (all_gone node last names runs p) e;
    beside = λ p b. nothing_said node last names runs p (beside_object node p b) (beside_attribute node p b) (beside_run node p b) (beside_grave node p b);
    device = λ b. nothing_said node last names runs (AtDeviceBlock b) refl (λ x. refl) (λ x. refl) refl;
    object = object_said node last names runs;
    grave = grave_said node last names runs;
    attribute = λ e name has. attribute_said last t e name has;
    block = λ e n. block_said last t e n;
  }

pub reaped_said : (m : Points) (node : NodeId) (portion : Portion) → IsPortionOf m node portion → SaysReaped m (says (items_of portion.items)) node portion.last
reaped_said m node portion p = subst (λ xs. SaysReaped m (says xs) node portion.last) (sym p.items) (portion_says m node p.names p.runs portion.last p.takes)

-- ---- upkeep

module _ (m n : Points) (node : NodeId) (said : Said) (last : Bool) (s : SaysReaped m said node last) (after : AreAfterBeside m said n)
    (grave : PlainValue) (waits : value_under m (GraveKey node.store node.id) ≡ Some grave) where
  -- what stands afterwards stood before
  stood_by : (o : Option (Option Entry)) (p : Point) (entry : Entry) → said p ≡ o → entry_after o (m p) ≡ Some entry → m p ≡ Some entry
  stood_by None p entry e h = h
  stood_by (Some o) p entry e h = absurd (let q : None ≡ Some entry = sym (s.gone p o e) ∙ h in cc)

  pub stood : (p : Point) → ((b : ℕ) → p ≢ AtDeviceBlock b) → (entry : Entry) → n p ≡ Some entry → m p ≡ Some entry
  stood p no_block entry e = stood_by (said p) p entry refl (sym (after p no_block) ∙ e)

  pub unsaid : (p : Point) → ((b : ℕ) → p ≢ AtDeviceBlock b) → said p ≡ None → n p ≡ m p
  unsaid p no_block e = after p no_block ∙ ap (λ o. entry_after o (m p)) e

  pub taken : (p : Point) → ((b : ℕ) → p ≢ AtDeviceBlock b) → said p ≡ Some None → n p ≡ None
  taken p no_block e = after p no_block ∙ ap (λ o. entry_after o (m p)) e

  pub valued : (a b : Option Entry) → ((entry : Entry) → a ≡ Some entry → b ≡ Some entry) → (v : PlainValue) → value_of_entry a ≡ Some v → value_of_entry b ≡ Some v
  valued None b same v e = absurd (cc e)
  valued (Some entry) b same v e = ap value_of_entry (same entry refl) ∙ e

  other_object : (store id : ℕ) → record { store = store; id = id } ≢ node → value_under n (ObjectKey store id) ≡ value_under m (ObjectKey store id)
  other_object store id ne = ap value_of_entry (unsaid (AtKey (ObjectKey store id)) (λ b q. cc) (s.beside (AtKey (ObjectKey store id)) (record {
    object = λ q. ne (node_path (record { store = store; id = id }) node (cc q) (cc q));
    grave = λ q. cc;
    file = λ k q. cc;
    attribute = λ x q. cc;
    device = λ b q. cc;
  })))

  same_object : last ≡ false → value_under n (ObjectKey node.store node.id) ≡ value_under m (ObjectKey node.store node.id)
  same_object e = ap value_of_entry (unsaid (AtKey (ObjectKey node.store node.id)) (λ b q. cc) (s.object ∙ ap (λ b. cond b (Some None) None) e))

  -- an Object stays, unless it is that of the node and the portion is the last
  object_stays : (store id : ℕ) → ((record { store = store; id = id } ≡ node) → last ≡ true → ⊥) → value_under n (ObjectKey store id) ≡ value_under m (ObjectKey store id)
  object_stays store id stays = by (same_node (record { store = store; id = id }) node) last refl
    where
      by : (record { store = store; id = id } ≡ node) ⊎ (record { store = store; id = id } ≢ node) → (b : Bool) → last ≡ b → value_under n (ObjectKey store id) ≡ value_under m (ObjectKey store id)
      by (inr ne) b e = other_object store id ne
      by (inl is) true e = absurd (stays is e)
      by (inl is) false e = subst (λ (z : NodeId). value_under n (ObjectKey z.store z.id) ≡ value_under m (ObjectKey z.store z.id)) (sym is) (same_object e)

  module _ (within : AreWithin m) where
    none_some : {A : Type 0} {a : Option A} {x : A} → a ≡ None → a ≡ Some x → ⊥
    none_some f e = cc (sym f ∙ e)

    root_by : (o : Option PlainValue) → value_under n (GraveKey 0 0) ≡ o → o ≡ None
    root_by None e = refl
    root_by (Some v) e = absurd (none_some within.root (valued (n (AtKey (GraveKey 0 0))) (m (AtKey (GraveKey 0 0))) (stood (AtKey (GraveKey 0 0)) (λ b q. cc)) v e))

    extent_gone : (store id k : ℕ) (entry : Entry) → n (AtFileBlock store id k) ≡ Some entry → m (AtFileBlock store id k) ≡ Some entry → (record { store = store; id = id } ≡ node) → last ≡ true → ⊥
    extent_gone store id k entry e f is l =
        let e2 : n (AtFileBlock node.store node.id k) ≡ Some entry = subst (λ (z : NodeId). n (AtFileBlock z.store z.id k) ≡ Some entry) is e in
        let f2 : m (AtFileBlock node.store node.id k) ≡ Some entry = subst (λ (z : NodeId). m (AtFileBlock z.store z.id k) ≡ Some entry) is f in
        elim (s.block l k) [ inl h ↦ none_some h f2 | inr h ↦ none_some (taken (AtFileBlock node.store node.id k) (λ b q. cc) h) e2 ]

    attribute_gone_by : (store id : ℕ) (x : List ℕ) (v : PlainValue) → value_under n (AttributeKey store id x) ≡ Some v → value_under m (AttributeKey store id x) ≡ Some v → (record { store = store; id = id } ≡ node) → last ≡ true → ⊥
    attribute_gone_by store id x v e f is l =
        let e2 : value_under n (AttributeKey node.store node.id x) ≡ Some v = subst (λ (z : NodeId). value_under n (AttributeKey z.store z.id x) ≡ Some v) is e in
        let f2 : value_under m (AttributeKey node.store node.id x) ≡ Some v = subst (λ (z : NodeId). value_under m (AttributeKey z.store z.id x) ≡ Some v) is f in
        none_some (ap value_of_entry (taken (AtKey (AttributeKey node.store node.id x)) (λ b q. cc) (s.attribute l x (v, f2)))) e2

    grave_gone_by : (store id : ℕ) (v : PlainValue) → value_under n (GraveKey store id) ≡ Some v → (record { store = store; id = id } ≡ node) → last ≡ true → ⊥
    grave_gone_by store id v e is l =
        let e2 : value_under n (GraveKey node.store node.id) ≡ Some v = subst (λ (z : NodeId). value_under n (GraveKey z.store z.id) ≡ Some v) is e in
        none_some (ap value_of_entry (taken (AtKey (GraveKey node.store node.id)) (λ b q. cc) (s.grave ∙ ap (λ b. cond b (Some None) None) l))) e2

    still : (store id : ℕ) → ((record { store = store; id = id } ≡ node) → last ≡ true → ⊥) → HasObject m store id → HasObject n store id
    still store id stays h = (h.0, ap told_kind (object_stays store id stays) ∙ h.1)

    within_after : AreWithin n
    within_after = record {
      root = root_by (value_under n (GraveKey 0 0)) refl;
      extent = λ store id k entry e.
          let f = stood (AtFileBlock store id k) (λ b q. cc) entry e in
          let h = within.extent store id k entry f in
          (h.0, object_stays store id (extent_gone store id k entry e f) ∙ h.1, h.2);
      grave = λ store id v e.
          let f = valued (n (AtKey (GraveKey store id))) (m (AtKey (GraveKey store id))) (stood (AtKey (GraveKey store id)) (λ b q. cc)) v e in
          still store id (grave_gone_by store id v e) (within.grave store id v f);
      attribute = λ store id x v e.
          let f = valued (n (AtKey (AttributeKey store id x))) (m (AtKey (AttributeKey store id x))) (stood (AtKey (AttributeKey store id x)) (λ b q. cc)) v e in
          still store id (attribute_gone_by store id x v e f) (within.attribute store id x v f);
    }

    after_by : (b : Bool) → last ≡ b → (value_under n (GraveKey node.store node.id) ≡ Some grave) ⊎ (value_under n (ObjectKey node.store node.id) ≡ None)
    after_by true e = inr (ap value_of_entry (taken (AtKey (ObjectKey node.store node.id)) (λ b q. cc) (s.object ∙ ap (λ b. cond b (Some None) None) e)))
    after_by false e = inl (ap value_of_entry (unsaid (AtKey (GraveKey node.store node.id)) (λ b q. cc) (s.grave ∙ ap (λ b. cond b (Some None) None) e)) ∙ waits)

    pub reaping_trims : Trims m n node
    reaping_trims = record {
      grave = grave;
      waits = waits;
      after = after_by last refl;
      within = within_after;
      others = λ p b. unsaid p b.device (s.beside p b);
    }

-- what stands after one more list
pub one_more : (newer older : Said) (p : Point) → points_after (live_in older) newer p ≡ live_in (over newer older) p
one_more newer older p = by (newer p) (older p)
  where
    by : (n o : Option (Option Entry)) → entry_after n (standing o) ≡ standing (or_older n o)
    by (Some entry) o = refl
    by None o = refl
