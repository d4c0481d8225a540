-- Which nodes children lead to: one step further, and to the end.
use Rattle.std.proofs.Common.{◌≡◌, ◌⊎◌, inl, inr, ℕ, ◌+◌, List, [], ◌∷◌, ◌++◌, length, length-append, refl, sym, ap, subst, ◌∙◌, Bool, true, arith}
use Rattle.std.specs.Prelude.{Some, option_and_then}
use Rattle.std.proofs.lemmas.List.{append-nil}
use Rattle.std.proofs.lemmas.Option.{option_and_then_some}
use Rattle.fx_item.specs.Look.{ItemMap}
use Rattle.fx_namespace.specs.Nodes.{NodeId, child, node_at, node_from}
use Rattle.fx_namespace.proofs.Walks.{EndsWith, ends_with, last_step, more_step, node_from-append}
use Rattle.fx_nodes.specs.Lists.{IsIn}
use Rattle.fx_nodes.specs.Links.{Link, is_same_node, links_from, nodes_below, targets_in, targets_of}
use Rattle.fx_nodes.specs.Reach.{AreReached, AreTaken, IsLevel, IsReachedFrom}
use Rattle.fx_nodes.proofs.Links.{AreLinks}
use Rattle.fx_nodes.proofs.Lists.{filter_in, flat_in, in_cases, in_filter, in_flat, in_left, in_map, in_right, map_in}
use Rattle.fx_nodes.proofs.Nodes.{is_node_itself, is_node_same}

-- What is so while nodes are gathered: those whose children were followed, and the fresh ones.
pub record AreSpreading (m : ItemMap) (seeds : List NodeId) (old now : NodeId → Bool) (all fresh : List NodeId) : Type 0 where
  pub sound : (q : NodeId) → IsIn (all ++ fresh) q → IsReachedFrom m seeds q
  pub begun : (q : NodeId) → IsIn seeds q → IsIn (all ++ fresh) q
  pub closed : (p q : NodeId) (name : List ℕ) → IsIn all p → child m p name ≡ Some q → IsIn (all ++ fresh) q
  pub rest : (q : NodeId) → now q ≡ true → (old q ≡ true) × (IsIn (all ++ fresh) q → ⊥)
  pub kept : (q : NodeId) → old q ≡ true → (now q ≡ true) ⊎ IsIn (all ++ fresh) q

reaches_more : (m : ItemMap) (seeds : List NodeId) (p q : NodeId) (name : List ℕ) → IsReachedFrom m seeds p → child m p name ≡ Some q → IsReachedFrom m seeds q
reaches_more m seeds p q name r e =
    (r.0, r.1 ++ name ∷ [], r.2, node_from-append m r.0 r.1 (name ∷ []) ∙ ap (option_and_then (λ z. node_from m z (name ∷ []))) r.3 ∙ ap (option_and_then (λ z. node_from m z [])) e)

module _ {m : ItemMap} {links : List Link} (a : AreLinks m links) where
  pub led_from : (p q : NodeId) → IsIn (targets_of links p) q → (name : List ℕ) × (child m p name ≡ Some q)
  led_from p q i =
      let l = map_in (λ l. l.node) (links_from links p) q i in
      let f = filter_in (λ l. is_same_node l.parent p) links l.0 l.1 in
      (l.0.name, ap (λ z. child m z l.0.name) (sym (is_node_same l.0.parent p f.1)) ∙ a.sound l.0 f.0 ∙ ap Some l.2)

  pub in_targets : (p q : NodeId) (name : List ℕ) → child m p name ≡ Some q → IsIn (targets_of links p) q
  in_targets p q name e =
      let l : Link = record { parent = p; name = name; node = q } in
      in_map (λ l. l.node) (links_from links p) l (in_filter (λ l. is_same_node l.parent p) links l (a.whole l e) (is_node_itself p))

  pub below_led : (nodes : List NodeId) (q : NodeId) → IsIn (nodes_below links nodes) q → (p : NodeId) × IsIn nodes p × ((name : List ℕ) × (child m p name ≡ Some q))
  below_led nodes q i = let p = flat_in (targets_of links) nodes q i in (p.0, p.1, led_from p.0 q p.2)

  pub in_below : (nodes : List NodeId) (p q : NodeId) (name : List ℕ) → IsIn nodes p → child m p name ≡ Some q → IsIn (nodes_below links nodes) q
  in_below nodes p q name i e = in_flat (targets_of links) nodes p q i (in_targets p q name e)

  -- each child leads to one of the targets
  pub in_all_targets : (p q : NodeId) (name : List ℕ) → child m p name ≡ Some q → IsIn (targets_in links) q
  in_all_targets p q name e = let l : Link = record { parent = p; name = name; node = q } in in_map (λ l. l.node) links l (a.whole l e)

  -- ---- paths of one more name

  pub level_more : (n : ℕ) (level next : List NodeId) → IsLevel m n level → ((q : NodeId) → IsIn next q → IsIn (nodes_below links level) q) → ((q : NodeId) → IsIn (nodes_below links level) q → IsIn next q) → IsLevel m (n + 1) next
  level_more n level next l back on = record { sound = sound; whole = λ path q n e. whole path q n e (ends_with path) }
    where
      sound : (q : NodeId) → IsIn next q → (path : List (List ℕ)) × (length path ≡ n + 1) × (node_at m path ≡ Some q)
      sound q i =
          let p = below_led level q (back q i) in
          let w = l.sound p.0 p.1 in
          (w.0 ++ p.2.0 ∷ [], length-append w.0 (p.2.0 ∷ []) ∙ ap (λ k. k + 1) w.1, more_step m w.0 p.0 p.2.0 q w.2 p.2.1)

      whole : (path : List (List ℕ)) (q : NodeId) → length path ≡ n + 1 → node_at m path ≡ Some q → EndsWith path → IsIn next q
      whole path q long e (inl is) = absurd (omega (arith, ap length is))
      whole path q long e (inr k) =
          let s = last_step m k.0 k.1 q (subst (λ c. node_at m c ≡ Some q) k.2 e) in
          let short : length k.0 ≡ n = omega (arith, ap length k.2, length-append k.0 (k.1 ∷ [])) in
          on q (in_below level s.0 q k.1 (l.whole k.0 s.0 short s.1) s.2)

  -- ---- to the end

  module _ {seeds : List NodeId} {old : NodeId → Bool} (held : (q : NodeId) → IsIn (targets_in links) q → old q ≡ true) where
    pub spreading_first : (now : NodeId → Bool) (fresh : List NodeId) → ((q : NodeId) → IsIn seeds q → old q ≡ true) → AreTaken old now seeds fresh → AreSpreading m seeds old now [] fresh
    spreading_first now fresh there t = record {
      sound = λ q i. let c = t.came q i in (q, [], c.0, refl);
      begun = λ q i. t.taken q i (there q i);
      closed = λ p q name i e. absurd i;
      rest = λ q e. let r = t.rest q e in (r.0, λ i. r.1 (t.came q i).0);
      kept = λ q e. t.kept q e;
    }

    module _ (now next : NodeId → Bool) (all fresh more : List NodeId) (s : AreSpreading m seeds old now all fresh) (t : AreTaken now next (nodes_below links fresh) more) where
      -- what children of fresh nodes lead to
      led : (q : NodeId) → IsIn (nodes_below links fresh) q → IsIn ((all ++ fresh) ++ more) q
      led q i = elim (s.kept q (held q (by_link (below_led fresh q i)))) [
        | inl n ↦ in_right (all ++ fresh) more q (t.taken q i n)
        | inr j ↦ in_left (all ++ fresh) more q j
      ]
        where
          by_link : (p : NodeId) × IsIn fresh p × ((name : List ℕ) × (child m p name ≡ Some q)) → IsIn (targets_in links) q
          by_link p = in_all_targets p.0 q p.2.0 p.2.1

      pub spreading_more : AreSpreading m seeds old next (all ++ fresh) more
      spreading_more = record {
        sound = λ q i. elim (in_cases (all ++ fresh) more q i) [
          | inl j ↦ s.sound q j
          | inr j ↦ let p = below_led fresh q (t.came q j).0 in reaches_more m seeds p.0 q p.2.0 (s.sound p.0 (in_right all fresh p.0 p.1)) p.2.1
        ];
        begun = λ q i. in_left (all ++ fresh) more q (s.begun q i);
        closed = λ p q name i e. elim (in_cases all fresh p i) [
          | inl j ↦ in_left (all ++ fresh) more q (s.closed p q name j e)
          | inr j ↦ led q (in_below fresh p q name j e)
        ];
        rest = λ q e.
            let r = t.rest q e in
            let o = s.rest q r.0 in
            (o.0, λ i. elim (in_cases (all ++ fresh) more q i) [ inl j ↦ o.1 j | inr j ↦ r.1 (t.came q j).0 ]);
        kept = λ q e. elim (s.kept q e) [
          | inl n ↦ elim (t.kept q n) [ inl z ↦ inl z | inr j ↦ inr (in_right (all ++ fresh) more q j) ]
          | inr j ↦ inr (in_left (all ++ fresh) more q j)
        ];
      }

    -- a walk from a node that was followed stays among such nodes
    walked : (now : NodeId → Bool) (all : List NodeId) → AreSpreading m seeds old now all [] → (path : List (List ℕ)) (p q : NodeId) → IsIn all p → node_from m p path ≡ Some q → IsIn all q
    walked now all s [] p q i e = subst (IsIn all) (cc e) i
    walked now all s (x ∷ path) p q i e = option_and_then_some (λ z. node_from m z path) (child m p x) q e (λ z step rest.
        walked now all s path z q (subst (λ ns. IsIn ns z) (append-nil all) (s.closed p z x i step)) rest)

    pub spread_all : (now : NodeId → Bool) (all : List NodeId) → AreSpreading m seeds old now all [] → AreReached m old now seeds all
    spread_all now all s = record {
      sound = λ q i. s.sound q (in_left all [] q i);
      whole = λ q r. walked now all s r.1 r.0 q (subst (λ ns. IsIn ns r.0) (append-nil all) (s.begun r.0 r.2)) r.3;
      rest = λ q e. let r = s.rest q e in (r.0, λ i. r.1 (in_left all [] q i));
      kept = λ q e. elim (s.kept q e) [ inl n ↦ inl n | inr i ↦ inr (subst (λ ns. IsIn ns q) (append-nil all) i) ];
    }
