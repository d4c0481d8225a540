-- The nodes in the graveyard, found one after another.
use Rattle.std.proofs.Common.{◌≡◌, ℕ, ◌+◌, ◌^◌, ◌<◌, ◌≤◌, ◌++◌, List, [], ◌∷◌, length, refl, sym, ap, subst, ◌∙◌, arith, true, false, inl, inr}
use Rattle.std.specs.Prelude.{Option, Some, None, slice_get}
use Rattle.std.specs.declared.cmp.Ordering.TheVariants.{Less, Equal, Greater}
use Rattle.std.specs.declared.cmp.Ordering.{Ordering}
use Rattle.std.proofs.lemmas.Option.{slice_get_within}
use Rattle.fx_item.specs.Item.{PlainKey, ObjectKey, AttributeKey, ExtentKey, ChildKey, GraveKey, AllocationKey, PlainItem, IsKey}
use Rattle.fx_item.specs.Look.{FindsLive, IsFirstLive, ItemMap, is_point_key, map_of}
use Rattle.fx_item.specs.Meeting.{IsFirstKey}
use Rattle.fx_item.specs.Overlay.{Said}
use Rattle.fx_item.specs.Place.{Below, Upto, begins, ends}
use Rattle.fx_item.proofs.Keys.{from_point, key_holds}
use Rattle.fx_item.proofs.PlaceOrder.{not_both}
use Rattle.fx_base.proofs.Lists.{got_kept, got_last, got_split}
use Rattle.fx_namespace.specs.Nodes.{NodeId}
use Rattle.fx_namespace.proofs.Walks.{node_path}
use Rattle.fx_node.specs.Waiting.{AreGraves, HasNumbers, IsNextNodeIn, Waits, next_node_by, node_by_key, node_rank, rank_from}
use Rattle.fx_node.specs.declared.graveyard.NextNode.{NextNode}
use Rattle.fx_node.proofs.Ranks.{cases_le, graves_upto, key_less, less_rank, rank_less}

-- ---- the next node, by the first item

greater_not_less : let a : Ordering = Greater in a ≡ Less → ⊥
greater_not_less e = cc

module _ (said : Said) (from : NodeId) (fit : from.id < 2 ^ 64) where
  no_item : FindsLive said (begins (GraveKey from.store from.id)) None → IsNextNodeIn (map_of said) from None
  no_item f other n le w =
      let e : None ≡ Some w.0 = sym (key_holds said (GraveKey from.store from.id) None f (GraveKey other.store other.id) (graves_upto from other n.id le)) ∙ w.1 in cc

  module _ (x : PlainItem) (f : IsFirstLive said (begins (GraveKey from.store from.id)) x) where
    first_key : IsFirstKey said (GraveKey from.store from.id) x
    first_key = key_holds said (GraveKey from.store from.id) (Some x) f

    -- no grave stands before the item
    none_before : (other : NodeId) → HasNumbers other → node_rank from ≤ node_rank other → Below (begins (GraveKey other.store other.id)) (begins x.key) → Waits (map_of said) other → ⊥
    none_before other n le b w = let e : None ≡ Some w.0 = sym (first_key.first (GraveKey other.store other.id) (graves_upto from other n.id le) b) ∙ w.1 in cc

    -- an item of a node that is no grave lies behind all graves up to that node
    behind : (node : NodeId) → HasNumbers node
        → ((other : NodeId) → node_rank other < node_rank node → Below (begins (GraveKey other.store other.id)) (begins x.key))
        → node_rank from < node_rank node → IsNextNodeIn (map_of said) from (Some (record { node = node; waits = false }))
    behind node n before less = (n, λ other m le l w. none_before other m le (before other l) w, λ q. absurd (cc q), λ q. less)

    by_key : (k : PlainKey) → x.key ≡ k → IsKey k → Below (begins (GraveKey from.store from.id)) (ends k) → IsNextNodeIn (map_of said) from (node_by_key k)
    by_key (ObjectKey s i) e g r =
        behind (record { store = s; id = i }) (record { store = g.0; id = g.1 })
        (λ other l. subst (λ k. Below (begins (GraveKey other.store other.id)) (begins k)) (sym e) (record { holds = rank_less other (record { store = s; id = i }) Greater g.1 l }))
        (less_rank from (record { store = s; id = i }) Greater greater_not_less fit r.holds)
    by_key (AttributeKey s i name) e g r =
        behind (record { store = s; id = i }) (record { store = g.0; id = g.1 })
        (λ other l. subst (λ k. Below (begins (GraveKey other.store other.id)) (begins k)) (sym e) (record { holds = rank_less other (record { store = s; id = i }) Greater g.1 l }))
        (less_rank from (record { store = s; id = i }) Greater greater_not_less fit r.holds)
    by_key (ExtentKey s i start stop) e g r =
        behind (record { store = s; id = i }) (record { store = g.0; id = g.1 })
        (λ other l. subst (λ k. Below (begins (GraveKey other.store other.id)) (begins k)) (sym e) (record { holds = rank_less other (record { store = s; id = i }) Greater g.1 l }))
        (less_rank from (record { store = s; id = i }) Greater greater_not_less fit r.holds)
    by_key (ChildKey s i name) e g r =
        behind (record { store = s; id = i }) (record { store = g.0; id = g.1 })
        (λ other l. subst (λ k. Below (begins (GraveKey other.store other.id)) (begins k)) (sym e) (record { holds = rank_less other (record { store = s; id = i }) Greater g.1 l }))
        (less_rank from (record { store = s; id = i }) Greater greater_not_less fit r.holds)
    by_key (GraveKey s i) e g r = (
      record { store = g.0; id = g.1 },
      λ other m le l w. none_before other m le (subst (λ k. Below (begins (GraveKey other.store other.id)) (begins k)) (sym e) (record { holds = rank_less other (record { store = s; id = i }) Equal g.1 l })) w,
      λ q. ((x.value, ap (map_of said) (sym e) ∙ first_key.stands (ap is_point_key e)), upto_rank (from_point (GraveKey s i) (GraveKey from.store from.id) refl r)),
      λ q. absurd (cc q),
    )
      where
        upto_rank : Upto (begins (GraveKey from.store from.id)) (begins (GraveKey s i)) → node_rank from ≤ node_rank (record { store = s; id = i })
        upto_rank u = elim (cases_le (node_rank from) (node_rank (record { store = s; id = i }))) [
          | inl l ↦ l
          | inr l ↦ absurd (not_both (record { holds = rank_less (record { store = s; id = i }) from Equal fit l }) u)
        ]
    by_key (AllocationKey start stop) e g r = λ other n le w.
        none_before other n le (subst (λ k. Below (begins (GraveKey other.store other.id)) (begins k)) (sym e) (record { holds = refl })) w

  pub next_node_found : (item : Option PlainItem) → FindsLive said (begins (GraveKey from.store from.id)) item → IsNextNodeIn (map_of said) from (next_node_by item)
  next_node_found None f = no_item f
  next_node_found (Some x) f = by_key x f x.key refl f.good.key f.reaches

-- ---- the graves so far

-- the nodes of places below a bound that wait
pub record AreGravesBefore (m : ItemMap) (bound : ℕ) (nodes : List NodeId) : Type 0 where
  pub there : (i : ℕ) (node : NodeId) → slice_get nodes i ≡ Some node → Waits m node
  pub all : (node : NodeId) → HasNumbers node → Waits m node → node_rank node < bound → (i : ℕ) × (slice_get nodes i ≡ Some node)
  pub below : (i : ℕ) (node : NodeId) → slice_get nodes i ≡ Some node → HasNumbers node × (node_rank node < bound)
  pub rising : (i j : ℕ) (x y : NodeId) → i < j → slice_get nodes i ≡ Some x → slice_get nodes j ≡ Some y → node_rank x < node_rank y

pub no_graves : (m : ItemMap) → AreGravesBefore m 0 []
no_graves m = record {
  there = λ i node g. absurd (cc g);
  all = λ node n w l. absurd (omega (arith, l));
  below = λ i node g. absurd (cc g);
  rising = λ i j x y l g h. absurd (cc g);
}

module _ {m : ItemMap} {bound : ℕ} {nodes : List NodeId} (b : AreGravesBefore m bound nodes) where
  -- nothing waits up to a greater bound
  pub further : (more : ℕ) → bound ≤ more → ((other : NodeId) → HasNumbers other → bound ≤ node_rank other → node_rank other < more → Waits m other → ⊥) → AreGravesBefore m more nodes
  further more le none = record {
    there = b.there;
    all = λ node n w l. elim (cases_le bound (node_rank node)) [ inl h ↦ absurd (none node n h l w) | inr h ↦ b.all node n w h ];
    below = λ i node g. ((b.below i node g).0, omega (arith, (b.below i node g).1, le));
    rising = b.rising;
  }

  -- one more waits, and none before it
  pub one_grave : (next : NodeId) → HasNumbers next → Waits m next → bound ≤ node_rank next
      → ((other : NodeId) → HasNumbers other → bound ≤ node_rank other → node_rank other < node_rank next → Waits m other → ⊥)
      → AreGravesBefore m (node_rank next + 1) (nodes ++ next ∷ [])
  one_grave next n w le none = record {
    there = λ i node g. elim (got_split nodes next i node g) [ inl a ↦ b.there i node a | inr a ↦ subst (Waits m) a.1 w ];
    all = λ node k v l. elim (cases_le bound (node_rank node)) [
      | inl h ↦ elim (cases_le (node_rank next) (node_rank node)) [
        | inl u ↦ (length nodes, got_last nodes next ∙ ap Some (same_rank next node n k (omega (arith, u, l))))
        | inr u ↦ absurd (none node k h u v)
      ]
      | inr h ↦ let i = b.all node k v h in (i.0, got_kept nodes next i.0 node i.1)
    ];
    below = λ i node g. elim (got_split nodes next i node g) [
      | inl a ↦ ((b.below i node a).0, omega (arith, (b.below i node a).1, le))
      | inr a ↦ (subst HasNumbers a.1 n, subst (λ z. node_rank z < node_rank next + 1) a.1 (omega arith))
    ];
    rising = λ i j x y l g h. elim (got_split nodes next j y h) [
      | inl c ↦ elim (got_split nodes next i x g) [ inl a ↦ b.rising i j x y l a c | inr a ↦ absurd (omega (arith, a.0, slice_get_within nodes j y c, l)) ]
      | inr c ↦ elim (got_split nodes next i x g) [
        | inl a ↦ subst (λ z. node_rank x < node_rank z) c.1 (omega (arith, (b.below i x a).1, le))
        | inr a ↦ absurd (omega (arith, a.0, c.0, l))
      ]
    ];
  }
    where
      same_rank : (x y : NodeId) → HasNumbers x → HasNumbers y → node_rank x ≡ node_rank y → x ≡ y
      same_rank x y p q e =
          let s : x.store ≡ y.store = omega (arith, e, p.id, q.id) in
          let i : x.id ≡ y.id = omega (arith, e, s) in
          node_path x y s i

  pub all_graves : ((other : NodeId) → HasNumbers other → bound ≤ node_rank other → Waits m other → ⊥) → AreGraves m nodes
  all_graves none = record {
    there = b.there;
    all = λ node n w. elim (cases_le bound (node_rank node)) [ inl h ↦ absurd (none node n h w) | inr h ↦ b.all node n w h ];
    rising = λ i j x y l g h. key_less x y (b.below j y h).0.id (b.rising i j x y l g h);
  }

-- no node is beyond the last
pub none_beyond : (other : NodeId) → HasNumbers other → 2 ^ 96 ≤ node_rank other → ⊥
none_beyond other n le = omega (arith, le, n.store, n.id)

-- ---- one step of the loop, and its end

module _ {m : ItemMap} {at : NodeId} {from : Option NodeId} (here : from ≡ Some at) {nodes : List NodeId} (b : AreGravesBefore m (rank_from from) nodes) where
  at_here : AreGravesBefore m (node_rank at) nodes
  at_here = subst (λ o. AreGravesBefore m (rank_from o) nodes) here b

  module _ {found : Option NextNode} (f : IsNextNodeIn m at found) where
    pub graves_end : found ≡ None → (all : List NodeId) → all ≡ nodes → AreGraves m all
    graves_end is all same = subst (AreGraves m) (sym same) (all_graves at_here (subst (IsNextNodeIn m at) is f))

    module _ (next : NextNode) (is : found ≡ Some next) where
      found_next : IsNextNodeIn m at (Some next)
      found_next = subst (IsNextNodeIn m at) is f

      pub graves_more : next.waits ≡ true → (bound : ℕ) → bound ≡ node_rank next.node + 1 → (more : List NodeId) → more ≡ nodes ++ next.node ∷ [] → AreGravesBefore m bound more
      graves_more w bound e more same =
          let h = found_next.2 w in
          subst (λ z. AreGravesBefore m z more) (sym e) (subst (AreGravesBefore m (node_rank next.node + 1)) (sym same) (one_grave at_here next.node found_next.0 h.0 h.1 found_next.1))

      pub graves_on : next.waits ≡ false → AreGravesBefore m (node_rank next.node) nodes
      graves_on w = let l = found_next.3 w in further at_here (node_rank next.node) (omega (arith, l)) found_next.1
