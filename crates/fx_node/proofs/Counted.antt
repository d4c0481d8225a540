-- What a portion takes, counted.
use Rattle.std.proofs.Common.{◌≡◌, ◌≢◌, ◌⊎◌, inl, inr, ℕ, zero, suc, ◌+◌, ◌-◌, ◌<◌, ◌≤◌, ◌++◌, List, [], ◌∷◌, length, map, length-append, refl, sym, ap, subst, ◌∙◌, arith, Bool, true, false, cond}
use Rattle.std.specs.Prelude.{Option, Some, None, slice_get}
use Rattle.std.specs.List.{flat_map}
use Rattle.std.specs.declared.cmp.Ordering.TheVariants.{Less}
use Rattle.std.proofs.lemmas.Bool.{cases_lt}
use Rattle.std.proofs.lemmas.List.{length-map}
use Rattle.std.proofs.lemmas.List.Concat.{flat_map-cons}
use Rattle.std.proofs.lemmas.List.FromFn.{length-range_with_len}
use Rattle.std.proofs.lemmas.List.Sorted.{length_permutation}
use Rattle.fx_dir.proofs.Order.{not_below_itself}
use Rattle.fx_item.specs.Item.{AttributeKey, ExtentKey, GraveKey, PlainItem, PlainValue, items_of}
use Rattle.fx_item.specs.Look.{value_of_entry}
use Rattle.fx_item.specs.Name.{name_cmp}
use Rattle.fx_item.specs.Overlay.{Point, AtKey, AtFileBlock, AtDeviceBlock, Entry, Said, says}
use Rattle.fx_item.specs.declared.Sizes.{Sizes}
use Rattle.fx_item.specs.declared.space.Delta.{Delta}
use Rattle.fx_namespace.specs.Nodes.{NodeId}
use Rattle.fx_namespace.proofs.Walks.{node_path, same_node}
use Rattle.fx_contents.specs.Points.{Points, block_in, device_block, value_under}
use Rattle.fx_node.specs.Counts.{AreAllOf, AreGraveyardSizes, AreOnce, IsAmong, IsBuriedAttribute, IsBuriedBlock, LosesSizes}
use Rattle.fx_node.specs.Held.{HasAttribute, IsInRun}
use Rattle.fx_node.specs.Portions.{AllNames, IsPortionOf, SomeNames, TakesPart, portion_items, blocks_of_run}
use Rattle.fx_node.specs.Reaped.{AreAfterBeside, SaysReaped}
use Rattle.fx_node.specs.Waiting.{Waits}
use Rattle.fx_node.specs.declared.holding.BlockRun.{BlockRun}
use Rattle.fx_node.specs.declared.reaping.Portion.{Portion}
use Rattle.fx_node.proofs.Onces.{among_either, among_left, among_map, among_place, among_right, left_of, map_among, once_append, once_map, place_among, same_all}
use Rattle.fx_node.proofs.Taken.{takes_runs}
use Rattle.fx_node.proofs.Tombstones.{covers_attribute, covers_place, names_say, nothing_said_in, other_name, other_place, runs_say, some_map}
use Rattle.fx_node.proofs.Upkeep.{portion_says, stood, taken, unsaid, valued}

-- ---- the places of runs

module _ (node : NodeId) where
  abbrev places_from : ℕ → ℕ → List (NodeId × ℕ)
  places_from a zero = []
  places_from a (suc n) = (node, a) ∷ places_from (a + 1) n

  in_places : (a n : ℕ) (b : NodeId × ℕ) → IsAmong (places_from a n) b → (b.0 ≡ node) × (a ≤ b.1) × (b.1 < a + n)
  in_places a zero b h = absurd h
  in_places a (suc n) b (inl e) = (sym (ap (λ (z : NodeId × ℕ). z.0) e), omega (arith, ap (λ (z : NodeId × ℕ). z.1) e), omega (arith, ap (λ (z : NodeId × ℕ). z.1) e))
  in_places a (suc n) b (inr h) = let r = in_places (a + 1) n b h in (r.0, omega (arith, r.1), omega (arith, r.2))

  places_in : (a n k : ℕ) → a ≤ k → k < a + n → IsAmong (places_from a n) (node, k)
  places_in a zero k low high = absurd (omega (arith, low, high))
  places_in a (suc n) k low high = elim (cases_lt a k) [
    | inl h ↦ inr (places_in (a + 1) n k (omega (arith, h)) (omega (arith, high)))
    | inr h ↦ let e : a ≡ k = omega (arith, low, h) in inl (ap (λ z. (node, z)) e)
  ]

  places_once : (a n : ℕ) → AreOnce (places_from a n)
  places_once a zero = tt
  places_once a (suc n) = (λ h. (let r = in_places (a + 1) n (node, a) h in absurd (omega (arith, r.1))), places_once (a + 1) n)

  places_length : (a n : ℕ) → length (places_from a n) ≡ n
  places_length a zero = refl
  places_length a (suc n) = let r = places_length (a + 1) n in omega (arith, r)

  abbrev run_places : List BlockRun → List (NodeId × ℕ)
  run_places [] = []
  run_places (r ∷ rs) = places_from r.start (r.end - r.start) ++ run_places rs

  pub among_run : (runs : List BlockRun) (b : NodeId × ℕ) → IsAmong (run_places runs) b → (b.0 ≡ node) × IsInRun runs b.1
  among_run [] b h = absurd h
  among_run (r ∷ rs) b h = elim (among_either (places_from r.start (r.end - r.start)) (run_places rs) b h) [
    | inl i ↦ let q = in_places r.start (r.end - r.start) b i in (q.0, (0, r, refl, q.1, omega (arith, q.1, q.2)))
    | inr i ↦ let q = among_run rs b i in (q.0, (suc q.1.0, q.1.1, q.1.2, q.1.3, q.1.4))
  ]

  run_among : (runs : List BlockRun) (n i : ℕ) (run : BlockRun) → slice_get runs i ≡ Some run → run.start ≤ n → n < run.end → IsAmong (run_places runs) (node, n)
  run_among [] n i run g low high = absurd (cc g)
  run_among (r ∷ rs) n zero run g low high =
      let e : r ≡ run = cc g in
      among_left (places_from r.start (r.end - r.start)) (run_places rs) (node, n)
      (places_in r.start (r.end - r.start) n (omega (arith, low, ap (λ (z : BlockRun). z.start) e)) (omega (arith, low, high, ap (λ (z : BlockRun). z.start) e, ap (λ (z : BlockRun). z.end) e)))
  run_among (r ∷ rs) n (suc i) run g low high = among_right (places_from r.start (r.end - r.start)) (run_places rs) (node, n) (run_among rs n i run g low high)

  runs_once : (runs : List BlockRun) → ((i j : ℕ) (x y : BlockRun) → i < j → slice_get runs i ≡ Some x → slice_get runs j ≡ Some y → x.end ≤ y.start) → AreOnce (run_places runs)
  runs_once [] apart = tt
  runs_once (r ∷ rs) apart = once_append (places_from r.start (r.end - r.start)) (run_places rs) (places_once r.start (r.end - r.start))
      (runs_once rs (λ i j x y l g h. apart (suc i) (suc j) x y (omega (arith, l)) g h))
      (λ b i j. (let p = in_places r.start (r.end - r.start) b i in let q = (among_run rs b j).1 in
      absurd (omega (arith, p.1, p.2, q.3, apart 0 (suc q.0) r q.1 (omega arith) refl q.2))))

  runs_length : (runs : List BlockRun) → length (run_places runs) ≡ length (flat_map blocks_of_run runs)
  runs_length [] = refl
  runs_length (r ∷ rs) = omega (
    arith,
    runs_length rs,
    length-append (places_from r.start (r.end - r.start)) (run_places rs),
    places_length r.start (r.end - r.start),
    ap length (flat_map-cons blocks_of_run r rs),
    length-append (blocks_of_run r) (flat_map blocks_of_run rs),
    length-range_with_len r.block (r.end - r.start),
  )

once_rising : (names : List (List ℕ)) → ((i j : ℕ) (x y : List ℕ) → i < j → slice_get names i ≡ Some x → slice_get names j ≡ Some y → name_cmp x y ≡ Less) → AreOnce names
once_rising [] rising = tt
once_rising (x ∷ xs) rising =
    (λ h. (let q = among_place xs x h in not_below_itself x (rising 0 (suc q.0) x x (omega arith) refl q.1)), once_rising xs (λ i j a b l g h. rising (suc i) (suc j) a b (omega (arith, l)) g h))

-- ---- what is taken, and what stays

module _ (m : Points) (node : NodeId) (names : List (List ℕ)) (runs : List BlockRun) (last : Bool) where
  abbrev items_said : Said
  items_said = says (portion_items node last names runs)

  name_taken : (name : List ℕ) → IsAmong names name → items_said (AtKey (AttributeKey node.store node.id name)) ≡ Some None
  name_taken name h =
      let i = among_place names name h in
      names_say node last names runs (AtKey (AttributeKey node.store node.id name))
      (some_map (λ x. AttributeKey node.store node.id x) names (AtKey (AttributeKey node.store node.id name)) i.0 name i.1 (covers_attribute node.store node.id name))

  name_stays : (name : List ℕ) → (IsAmong names name → ⊥) → items_said (AtKey (AttributeKey node.store node.id name)) ≡ None
  name_stays name out = nothing_said_in node last names runs (AtKey (AttributeKey node.store node.id name)) refl
      (λ x i. other_name node.store node.id x name (λ e. out (subst (IsAmong names) e i))) (λ run i. refl) refl

  pub place_taken : (n : ℕ) → IsInRun runs n → items_said (AtFileBlock node.store node.id n) ≡ Some None
  place_taken n r = runs_say node last names runs (AtFileBlock node.store node.id n)
      (some_map (λ (x : BlockRun). ExtentKey node.store node.id x.start x.end) runs (AtFileBlock node.store node.id n) r.0 r.1 r.2 (covers_place node.store node.id r.1.start r.1.end n r.3 r.4))

  pub place_stays : (n : ℕ) → (IsInRun runs n → ⊥) → items_said (AtFileBlock node.store node.id n) ≡ None
  place_stays n out = nothing_said_in node last names runs (AtFileBlock node.store node.id n) refl (λ x i. refl)
      (λ run i. (let q = among_place runs run i in other_place node.store node.id run.start run.end n (λ low high. out (q.0, run, q.1, low, high)))) refl

-- ---- the graveyard after a portion

module _ (m n : Points) (node : NodeId) (names : List (List ℕ)) (runs : List BlockRun) (last : Bool) (t : TakesPart m node names runs last)
    (after : AreAfterBeside m (says (portion_items node last names runs)) n) (waits : Waits (value_under m) node) where
  abbrev said : Said
  said = says (portion_items node last names runs)

  reaped : SaysReaped m (says (portion_items node last names runs)) node last
  reaped = portion_says m node names runs last t

  still_there : (p : Point) → ((b : ℕ) → p ≢ AtDeviceBlock b) → (entry : Entry) → n p ≡ Some entry → m p ≡ Some entry
  still_there = stood m n node (says (portion_items node last names runs)) last reaped after waits.0 waits.1

  unchanged : (p : Point) → ((b : ℕ) → p ≢ AtDeviceBlock b) → says (portion_items node last names runs) p ≡ None → n p ≡ m p
  unchanged = unsaid m n node (says (portion_items node last names runs)) last reaped after waits.0 waits.1

  removed : (p : Point) → ((b : ℕ) → p ≢ AtDeviceBlock b) → says (portion_items node last names runs) p ≡ Some None → n p ≡ None
  removed = taken m n node (says (portion_items node last names runs)) last reaped after waits.0 waits.1

  value_before : (a b : Option Entry) → ((entry : Entry) → a ≡ Some entry → b ≡ Some entry) → (v : PlainValue) → value_of_entry a ≡ Some v → value_of_entry b ≡ Some v
  value_before = valued m n node (says (portion_items node last names runs)) last reaped after waits.0 waits.1

  waited : (x : NodeId) → Waits (value_under n) x → Waits (value_under m) x
  waited x w = (w.0, value_before (n (AtKey (GraveKey x.store x.id))) (m (AtKey (GraveKey x.store x.id))) (still_there (AtKey (GraveKey x.store x.id)) (λ b q. cc)) w.0 w.1)

  grave_same : (x : NodeId) → (x ≡ node → last ≡ true → ⊥) → (x ≡ node) ⊎ (x ≢ node) → (b : Bool) → last ≡ b → n (AtKey (GraveKey x.store x.id)) ≡ m (AtKey (GraveKey x.store x.id))
  grave_same x stays (inl is) true e = absurd (stays is e)
  grave_same x stays (inl is) false e = subst (λ (z : NodeId). n (AtKey (GraveKey z.store z.id)) ≡ m (AtKey (GraveKey z.store z.id))) (sym is)
      (unchanged (AtKey (GraveKey node.store node.id)) (λ b q. cc) (reaped.grave ∙ ap (λ b. cond b (Some None) None) e))
  grave_same x stays (inr ne) b e = unchanged (AtKey (GraveKey x.store x.id)) (λ b q. cc) (reaped.beside (AtKey (GraveKey x.store x.id)) (record {
    object = λ q. cc;
    grave = λ q. ne (node_path x node (cc q) (cc q));
    file = λ k q. cc;
    attribute = λ y q. cc;
    device = λ b q. cc;
  }))

  waits_on : (x : NodeId) → (x ≡ node → last ≡ true → ⊥) → Waits (value_under m) x → Waits (value_under n) x
  waits_on x stays w = (w.0, ap value_of_entry (grave_same x stays (same_node x node) last refl) ∙ w.1)

  not_last : Waits (value_under n) node → last ≡ true → ⊥
  not_last w e =
      let q : None ≡ Some w.0 = sym (ap value_of_entry (removed (AtKey (GraveKey node.store node.id)) (λ b q. cc) (reaped.grave ∙ ap (λ b. cond b (Some None) None) e))) ∙ w.1 in cc

  -- ---- nodes

  abbrev taken_nodes : List NodeId
  taken_nodes = cond last (node ∷ []) []

  in_nodes : (b : Bool) (x : NodeId) → IsAmong (cond b (node ∷ []) []) x → (x ≡ node) × (b ≡ true)
  in_nodes true x (inl e) = (sym e, refl)
  in_nodes true x (inr h) = absurd h
  in_nodes false x h = absurd h

  nodes_in : (b : Bool) (x : NodeId) → x ≡ node → b ≡ true → IsAmong (cond b (node ∷ []) []) x
  nodes_in true x e f = inl (sym e)
  nodes_in false x e f = absurd (cc f)

  nodes_once : (b : Bool) → AreOnce (cond b (node ∷ []) [])
  nodes_once true = (λ h. h, tt)
  nodes_once false = tt

  nodes_length : (b : Bool) → length (cond b (node ∷ []) []) ≡ cond b 1 0
  nodes_length true = refl
  nodes_length false = refl

  nodes_left : (all : List NodeId) → AreAllOf (Waits (value_under m)) all → (rest : List NodeId) × AreAllOf (Waits (value_under n)) rest × (length rest + cond last 1 0 ≡ length all)
  nodes_left all a =
      let r = left_of (cond last (node ∷ []) []) (Waits (value_under m)) all a (nodes_once last) (λ y i. subst (Waits (value_under m)) (sym (in_nodes last y i).0) waits) in (
        r.0,
        same_all (λ x. Waits (value_under m) x × (IsAmong (cond last (node ∷ []) []) x → ⊥)) (Waits (value_under n)) r.0 r.1
            (λ x p. waits_on x (λ e f. p.1 (nodes_in last x e f)) p.0)
            (λ x w. (waited x w, λ i. (let q = in_nodes last x i in not_last (subst (Waits (value_under n)) q.0 w) q.1))),
        ap (λ k. length r.0 + k) (sym (nodes_length last)) ∙ r.2,
      )

  -- ---- attributes

  all_names : last ≡ true → (name : List ℕ) → HasAttribute m node name → IsAmong names name
  all_names e name has = by t e
    where
      by : {runs : List BlockRun} {last : Bool} → TakesPart m node names runs last → last ≡ true → IsAmong names name
      by (SomeNames f none) e = absurd (cc e)
      by (AllNames l f rest) e = let i = f.every refl name has in place_among names i.0 name i.1

  names_there : (name : List ℕ) → IsAmong names name → HasAttribute m node name
  names_there name h = by t
    where
      by : {runs : List BlockRun} {last : Bool} → TakesPart m node names runs last → HasAttribute m node name
      by (SomeNames f none) = let i = among_place names name h in (f.there i.0 name i.1).0
      by (AllNames l f rest) = let i = among_place names name h in (f.there i.0 name i.1).0

  names_once : AreOnce names
  names_once = by t
    where
      by : {runs : List BlockRun} {last : Bool} → TakesPart m node names runs last → AreOnce names
      by (SomeNames f none) = once_rising names f.rising
      by (AllNames l f rest) = once_rising names f.rising

  abbrev taken_names : List (NodeId × List ℕ)
  taken_names = map (λ (name : List ℕ). (node, name)) names

  attribute_point : (a : NodeId × List ℕ) → (IsAmong (map (λ (name : List ℕ). (node, name)) names) a → ⊥) → (a.0 ≡ node) ⊎ (a.0 ≢ node)
      → n (AtKey (AttributeKey a.0.store a.0.id a.1)) ≡ m (AtKey (AttributeKey a.0.store a.0.id a.1))
  attribute_point a out (inl is) = subst (λ (z : NodeId). n (AtKey (AttributeKey z.store z.id a.1)) ≡ m (AtKey (AttributeKey z.store z.id a.1))) (sym is)
      (unchanged (AtKey (AttributeKey node.store node.id a.1)) (λ b q. cc) (name_stays m node names runs last a.1
      (λ i. out (subst (λ (z : NodeId). IsAmong {A = NodeId × List ℕ} (map (λ (name : List ℕ). (node, name)) names) (z, a.1)) (sym is) (map_among (λ (name : List ℕ). (node, name)) names a.1 i)))))
  attribute_point a out (inr ne) = unchanged (AtKey (AttributeKey a.0.store a.0.id a.1)) (λ b q. cc) (reaped.beside (AtKey (AttributeKey a.0.store a.0.id a.1)) (record {
    object = λ q. cc;
    grave = λ q. cc;
    file = λ k q. cc;
    attribute = λ y q. ne (node_path a.0 node (cc q) (cc q));
    device = λ b q. cc;
  }))

  attribute_taken : (a : NodeId × List ℕ) → IsAmong (map (λ (name : List ℕ). (node, name)) names) a → HasAttribute n a.0 a.1 → ⊥
  attribute_taken a i has =
      let q = among_map (λ (name : List ℕ). (node, name)) names a i in
      let e : n (AtKey (AttributeKey a.0.store a.0.id a.1)) ≡ None = subst (λ (z : NodeId × List ℕ). n (AtKey (AttributeKey z.0.store z.0.id z.1)) ≡ None) q.2
      (removed (AtKey (AttributeKey node.store node.id q.0)) (λ b q. cc) (name_taken m node names runs last q.0 q.1)) in
      let r : None ≡ Some has.0 = sym (ap value_of_entry e) ∙ has.1 in cc

  attributes_left : (all : List (NodeId × List ℕ)) → AreAllOf (IsBuriedAttribute m) all → (rest : List (NodeId × List ℕ)) × AreAllOf (IsBuriedAttribute n) rest × (length rest + length names ≡ length all)
  attributes_left all a =
      let r = left_of (map (λ (name : List ℕ). (node, name)) names) (IsBuriedAttribute m) all a (once_map (λ (name : List ℕ). (node, name)) (λ x y e. ap (λ (z : NodeId × List ℕ). z.1) e) names names_once)
      (λ y i. (let q = among_map (λ (name : List ℕ). (node, name)) names y i in subst (IsBuriedAttribute m) q.2 (waits, names_there q.0 q.1))) in (
        r.0,
        same_all (λ x. IsBuriedAttribute m x × (IsAmong (map (λ (name : List ℕ). (node, name)) names) x → ⊥)) (IsBuriedAttribute n) r.0 r.1
            (λ x p. (
              waits_on x.0 (λ e f. p.1 (subst (λ (z : NodeId). IsAmong {A = NodeId × List ℕ} (map (λ (name : List ℕ). (node, name)) names) (z, x.1)) (sym e)
                  (map_among (λ (name : List ℕ). (node, name)) names x.1 (all_names f x.1 (subst (λ (z : NodeId). HasAttribute m z x.1) e p.0.1))))) p.0.0,
              (p.0.1.0, ap value_of_entry (attribute_point x p.1 (same_node x.0 node)) ∙ p.0.1.1),
            ))
            (λ x w. (
              (waited x.0 w.0, (w.1.0, value_before (n (AtKey (AttributeKey x.0.store x.0.id x.1))) (m (AtKey (AttributeKey x.0.store x.0.id x.1))) (still_there (AtKey (AttributeKey x.0.store x.0.id x.1)) (λ b q. cc)) w.1.0 w.1.1)),
              λ i. attribute_taken x i w.1,
            )),
        ap (λ k. length r.0 + k) (sym (length-map names (λ (name : List ℕ). (node, name)))) ∙ r.2,
      )

  -- ---- blocks

  all_blocks : last ≡ true → (k block : ℕ) → device_block m node k ≡ Some block → IsInRun runs k
  all_blocks e k block has = by runs last t e
    where
      by : (runs : List BlockRun) (last : Bool) → TakesPart m node names runs last → last ≡ true → IsInRun runs k
      by runs last (SomeNames f none) e = absurd (cc e)
      by runs last (AllNames l f rest) e = elim (rest.every e k) [
        | inl h ↦ absurd (let q : None ≡ Some block = sym (ap block_in h) ∙ has in cc)
        | inr r ↦ r
      ]

  runs_apart : AreOnce (run_places node runs)
  runs_apart = by runs last t
    where
      by : (runs : List BlockRun) (last : Bool) → TakesPart m node names runs last → AreOnce (run_places node runs)
      by runs last (SomeNames f none) = subst (λ rs. AreOnce (run_places node rs)) (sym none) tt
      by runs last (AllNames l f rest) = runs_once node runs rest.apart

  block_there : (k : ℕ) → IsInRun runs k → (block : ℕ) × (device_block m node k ≡ Some block)
  block_there k r = let q = takes_runs t r.0 r.1 r.2 in (r.1.block + (k - r.1.start), q.held k r.3 r.4)

  pub block_point : (b : NodeId × ℕ) → (IsAmong (run_places node runs) b → ⊥) → (b.0 ≡ node) ⊎ (b.0 ≢ node) → n (AtFileBlock b.0.store b.0.id b.1) ≡ m (AtFileBlock b.0.store b.0.id b.1)
  block_point b out (inl is) = subst (λ (z : NodeId). n (AtFileBlock z.store z.id b.1) ≡ m (AtFileBlock z.store z.id b.1)) (sym is)
      (unchanged (AtFileBlock node.store node.id b.1) (λ b q. cc) (place_stays m node names runs last b.1
      (λ r. out (subst (λ (z : NodeId). IsAmong {A = NodeId × ℕ} (run_places node runs) (z, b.1)) (sym is) (run_among node runs b.1 r.0 r.1 r.2 r.3 r.4)))))
  block_point b out (inr ne) = unchanged (AtFileBlock b.0.store b.0.id b.1) (λ b q. cc) (reaped.beside (AtFileBlock b.0.store b.0.id b.1) (record {
    object = λ q. cc;
    grave = λ q. cc;
    file = λ k q. ne (node_path b.0 node (cc q) (cc q));
    attribute = λ y q. cc;
    device = λ b q. cc;
  }))

  pub block_before : (b : NodeId × ℕ) (block : ℕ) → device_block n b.0 b.1 ≡ Some block → device_block m b.0 b.1 ≡ Some block
  block_before b block e = by (n (AtFileBlock b.0.store b.0.id b.1)) refl e
    where
      by : (o : Option Entry) → n (AtFileBlock b.0.store b.0.id b.1) ≡ o → block_in o ≡ Some block → device_block m b.0 b.1 ≡ Some block
      by None f g = absurd (cc g)
      by (Some entry) f g = ap block_in (still_there (AtFileBlock b.0.store b.0.id b.1) (λ b q. cc) entry f) ∙ g

  block_taken : (b : NodeId × ℕ) → IsAmong (run_places node runs) b → (block : ℕ) → device_block n b.0 b.1 ≡ Some block → ⊥
  block_taken b i block has =
      let q = among_run node runs b i in
      let e : n (AtFileBlock b.0.store b.0.id b.1) ≡ None = subst (λ (z : NodeId). n (AtFileBlock z.store z.id b.1) ≡ None) (sym q.0)
      (removed (AtFileBlock node.store node.id b.1) (λ b q. cc) (place_taken m node names runs last b.1 q.1)) in
      let r : None ≡ Some block = sym (ap block_in e) ∙ has in cc

  pub block_gone : (k : ℕ) → IsInRun runs k → (block : ℕ) → device_block n node k ≡ Some block → ⊥
  block_gone k r block has =
      let e : n (AtFileBlock node.store node.id k) ≡ None = removed (AtFileBlock node.store node.id k) (λ b q. cc) (place_taken m node names runs last k r) in
      let q : None ≡ Some block = sym (ap block_in e) ∙ has in cc

  blocks_left : (all : List (NodeId × ℕ)) → AreAllOf (IsBuriedBlock m) all → (rest : List (NodeId × ℕ)) × AreAllOf (IsBuriedBlock n) rest × (length rest + length (flat_map blocks_of_run runs) ≡ length all)
  blocks_left all a =
      let r = left_of (run_places node runs) (IsBuriedBlock m) all a runs_apart
      (λ y i. (let q = among_run node runs y i in
      let h = block_there y.1 q.1 in
      (subst (Waits (value_under m)) (sym q.0) waits, (h.0, subst (λ (z : NodeId). device_block m z y.1 ≡ Some h.0) (sym q.0) h.1)))) in (
        r.0,
        same_all (λ x. IsBuriedBlock m x × (IsAmong (run_places node runs) x → ⊥)) (IsBuriedBlock n) r.0 r.1
            (λ x p. (
              waits_on x.0 (λ e f. (let z = all_blocks f x.1 p.0.1.0 (subst (λ (z : NodeId). device_block m z x.1 ≡ Some p.0.1.0) e p.0.1.1) in
                  p.1 (subst (λ (w : NodeId). IsAmong {A = NodeId × ℕ} (run_places node runs) (w, x.1)) (sym e) (run_among node runs x.1 z.0 z.1 z.2 z.3 z.4)))) p.0.0,
              (p.0.1.0, ap block_in (block_point x p.1 (same_node x.0 node)) ∙ p.0.1.1),
            ))
            (λ x w. ((waited x.0 w.0, (w.1.0, block_before x w.1.0 w.1.1)), λ i. block_taken x i w.1.0 w.1.1)),
        ap (λ k. length r.0 + k) (sym (runs_length node runs)) ∙ r.2,
      )

pub portion_loses : (m n : Points) (node : NodeId) (portion : Portion) (old : Sizes) → Waits (value_under m) node → IsPortionOf m node portion
    → AreAfterBeside m (says (items_of portion.items)) n → AreGraveyardSizes m old → LosesSizes n old portion.delta.reaped
portion_loses m n node portion old waits p after g =
    let told : AreAfterBeside m (says (portion_items node portion.last p.names p.runs)) n = subst (λ (xs : List PlainItem). AreAfterBeside m (says xs) n) p.items after in
    let a = nodes_left m n node p.names p.runs portion.last p.takes told waits g.nodes g.nodes_are in
    let b = attributes_left m n node p.names p.runs portion.last p.takes told waits g.attributes g.attributes_are in
    let c = blocks_left m n node p.names p.runs portion.last p.takes told waits g.blocks g.blocks_are in
    subst (λ (d : Sizes). LosesSizes n old d) (sym (ap (λ (d : Delta). d.reaped) p.delta)) (record {
      sizes = record { nodes = length a.0; attributes = length b.0; blocks = length c.0 };
      are = record {
        nodes = a.0;
        attributes = b.0;
        blocks = c.0;
        nodes_are = a.1;
        attributes_are = b.1;
        blocks_are = c.1;
        node_count = refl;
        attribute_count = refl;
        block_count = refl;
      };
      nodes = a.2 ∙ g.node_count;
      attributes = b.2 ∙ g.attribute_count;
      blocks = ap (λ k. length c.0 + k) (length_permutation (flat_map blocks_of_run p.runs) portion.frees p.freed) ∙ c.2 ∙ g.block_count;
    })

-- ---- what a portion takes is something

many_blocks : (runs : List BlockRun) → ((i : ℕ) (run : BlockRun) → slice_get runs i ≡ Some run → run.start < run.end) → length runs ≤ length (flat_map blocks_of_run runs)
many_blocks [] some = omega arith
many_blocks (r ∷ rs) some =
    omega (arith, many_blocks rs (λ i run g. some (suc i) run g), some 0 r refl, ap length (flat_map-cons blocks_of_run r rs), length-append (blocks_of_run r) (flat_map blocks_of_run rs), length-range_with_len r.block (r.end - r.start))

takes_many : {m : Points} {node : NodeId} {names : List (List ℕ)} {runs : List BlockRun} (last : Bool) → TakesPart m node names runs last → last ≡ false → 256 ≤ length names + length runs
takes_many last (SomeNames f none) e = let r = f.full refl in omega (arith, r)
takes_many last (AllNames l f rest) e = let r = rest.full e in omega (arith, r, f.few)

pub portion_falls : (m : Points) (node : NodeId) (portion : Portion) → IsPortionOf m node portion
    → (portion.last ≡ true → portion.delta.reaped.nodes ≡ 1) × (portion.last ≡ false → 256 ≤ portion.delta.reaped.attributes + portion.delta.reaped.blocks)
portion_falls m node portion p = (
  λ e. ap (λ (d : Delta). d.reaped.nodes) p.delta ∙ ap (λ (b : Bool). cond b 1 0) e,
  λ e. (let a = takes_many portion.last p.takes e in
      let b = many_blocks p.runs (λ i run g. (takes_runs p.takes i run g).some) in
      omega (arith, a, b, ap (λ (d : Delta). d.reaped.attributes) p.delta, ap (λ (d : Delta). d.reaped.blocks) p.delta, length_permutation (flat_map blocks_of_run p.runs) portion.frees p.freed)),
)
