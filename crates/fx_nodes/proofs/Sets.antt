-- Nodes put into a set and taken out of it, one by one.
use Rattle.std.proofs.Common.{◌≡◌, ◌≢◌, ◌⊎◌, inl, inr, List, [], ◌∷◌, ◌++◌, refl, sym, ap, subst, ◌∙◌, Bool, true, false, cond}
use Rattle.std.specs.Prelude.{not}
use Rattle.std.specs.Ordering.{is_eq}
use Rattle.fx_item.specs.LockKey.{key_cmp}
use Rattle.fx_namespace.specs.Nodes.{NodeId}
use Rattle.fx_nodes.specs.Lists.{IsIn, IsRepeated}
use Rattle.fx_nodes.specs.Faults.{AreRepeated}
use Rattle.fx_nodes.specs.Reach.{AreAdded, AreTaken}
use Rattle.fx_nodes.proofs.Lists.{in_last, in_left, last_cases, repeated_before, repeated_cases, repeated_last}
use Rattle.fx_base.proofs.TotalOrders.{same_or_apart, same_tie}
use Rattle.fx_item.proofs.KeyOrder.{lock_keys_exact, lock_keys_total}

abbrev pub at : NodeId → NodeId → Bool
at a b = is_eq (key_cmp a b)

same_at : (a b : NodeId) → a ≡ b → at a b ≡ true
same_at = same_tie lock_keys_total lock_keys_exact

-- one node or another one
by_node : (a b : NodeId) → ((a ≡ b) × (at a b ≡ true)) ⊎ ((a ≢ b) × (at a b ≡ false))
by_node = same_or_apart lock_keys_total lock_keys_exact

module _ {old now then' : NodeId → Bool} {nodes : List NodeId} (x : NodeId) where
  pub added_more : AreAdded old now nodes → ((q : NodeId) → then' q ≡ cond (at x q) true (now q)) → AreAdded old then' (nodes ++ x ∷ [])
  added_more a step = record { held = held; kept = λ q e. stays q (a.kept q e); added = added }
    where
      here : (q : NodeId) → x ≡ q → then' q ≡ true
      here q e = step q ∙ ap (λ b. cond b true (now q)) (same_at x q e)

      stays : (q : NodeId) → now q ≡ true → then' q ≡ true
      stays q e = elim (by_node x q) [ inl s ↦ here q s.0 | inr s ↦ step q ∙ ap (λ b. cond b true (now q)) s.1 ∙ e ]

      held : (q : NodeId) → then' q ≡ true → (old q ≡ true) ⊎ IsIn (nodes ++ x ∷ []) q
      held q e = elim (by_node x q) [
        | inl s ↦ inr (subst (IsIn (nodes ++ x ∷ [])) s.0 (in_last nodes x))
        | inr s ↦ elim (a.held q (sym (step q ∙ ap (λ b. cond b true (now q)) s.1) ∙ e)) [ inl o ↦ inl o | inr i ↦ inr (in_left nodes (x ∷ []) q i) ]
      ]

      added : (q : NodeId) → IsIn (nodes ++ x ∷ []) q → then' q ≡ true
      added q i = elim (last_cases nodes x q i) [ inl j ↦ stays q (a.added q j) | inr s ↦ here q s ]

  module _ {fresh : List NodeId} (t : AreTaken old now nodes fresh) (step : (q : NodeId) → then' q ≡ cond (at x q) false (now q)) where
    still : (q : NodeId) → then' q ≡ true → (x ≢ q) × (now q ≡ true)
    still q e = elim (by_node x q) [
      | inl s ↦ absurd (cc (sym e ∙ step q ∙ ap (λ b. cond b false (now q)) s.1))
      | inr s ↦ (s.0, sym (step q ∙ ap (λ b. cond b false (now q)) s.1) ∙ e)
    ]

    left_over : (q : NodeId) → then' q ≡ true → (old q ≡ true) × (IsIn (nodes ++ x ∷ []) q → ⊥)
    left_over q e =
        let s = still q e in
        let r = t.rest q s.1 in
        (r.0, λ i. elim (last_cases nodes x q i) [ inl j ↦ r.1 j | inr j ↦ s.0 j ])

    -- a node that was in the set
    pub taken_more : now x ≡ true → AreTaken old then' (nodes ++ x ∷ []) (fresh ++ x ∷ [])
    taken_more there = record {
      came = λ q i. elim (last_cases fresh x q i) [
        | inl j ↦ let c = t.came q j in (in_left nodes (x ∷ []) q c.0, c.1)
        | inr s ↦ (subst (IsIn (nodes ++ x ∷ [])) s (in_last nodes x), subst (λ z. old z ≡ true) s (t.rest x there).0)
      ];
      taken = λ q i e. elim (last_cases nodes x q i) [ inl j ↦ in_left fresh (x ∷ []) q (t.taken q j e) | inr s ↦ subst (IsIn (fresh ++ x ∷ [])) s (in_last fresh x) ];
      rest = left_over;
      kept = λ q e. elim (t.kept q e) [
        | inl n ↦ elim (by_node x q) [ inl s ↦ inr (subst (IsIn (fresh ++ x ∷ [])) s.0 (in_last fresh x)) | inr s ↦ inl (step q ∙ ap (λ b. cond b false (now q)) s.1 ∙ n) ]
        | inr f ↦ inr (in_left fresh (x ∷ []) q f)
      ];
    }

    -- a node that was not
    pub taken_skip : now x ≡ false → AreTaken old then' (nodes ++ x ∷ []) fresh
    taken_skip gone = record {
      came = λ q i. let c = t.came q i in (in_left nodes (x ∷ []) q c.0, c.1);
      taken = λ q i e. elim (last_cases nodes x q i) [
        | inl j ↦ t.taken q j e
        | inr s ↦ elim (t.kept q e) [ inl n ↦ absurd (cc (sym n ∙ ap now (sym s) ∙ gone)) | inr f ↦ f ]
      ];
      rest = left_over;
      kept = λ q e. elim (t.kept q e) [
        | inl n ↦ elim (by_node x q) [ inl s ↦ absurd (cc (sym n ∙ ap now (sym s.0) ∙ gone)) | inr s ↦ inl (step q ∙ ap (λ b. cond b false (now q)) s.1 ∙ n) ]
        | inr f ↦ inr f
      ];
    }

-- ---- nodes that come twice

pub repeated_more : (nodes twice : List NodeId) (x : NodeId) → AreRepeated nodes twice → IsIn nodes x → AreRepeated (nodes ++ x ∷ []) (twice ++ x ∷ [])
repeated_more nodes twice x r i = record {
  sound = λ q j. elim (last_cases twice x q j) [ inl k ↦ repeated_before nodes x q (r.sound q k) | inr s ↦ subst (IsRepeated (nodes ++ x ∷ [])) s (repeated_last nodes x i) ];
  whole = λ q j. elim (repeated_cases nodes x q j) [ inl k ↦ in_left twice (x ∷ []) q (r.whole q k) | inr s ↦ subst (IsIn (twice ++ x ∷ [])) s.0 (in_last twice x) ];
}

pub repeated_skip : (nodes twice : List NodeId) (x : NodeId) → AreRepeated nodes twice → (IsIn nodes x → ⊥) → AreRepeated (nodes ++ x ∷ []) twice
repeated_skip nodes twice x r ne = record {
  sound = λ q j. repeated_before nodes x q (r.sound q j);
  whole = λ q j. elim (repeated_cases nodes x q j) [ inl k ↦ r.whole q k | inr s ↦ absurd (ne (subst (IsIn nodes) (sym s.0) s.1)) ];
}

-- a node that an insertion finds in the set, or does not
pub not_new : (had new : Bool) → new ≡ not had → new ≡ false → had ≡ true
not_new true new e f = refl
not_new false new e f = absurd (cc (sym f ∙ e))

pub is_new : (had new : Bool) → new ≡ not had → new ≡ true → had ≡ false
is_new true new e f = absurd (cc (sym f ∙ e))
is_new false new e f = refl

module _ {now : NodeId → Bool} {nodes : List NodeId} (a : AreAdded (λ q. false) now nodes) (x : NodeId) where
  pub held_in : now x ≡ true → IsIn nodes x
  held_in e = elim (a.held x e) [ inl f ↦ absurd (cc f) | inr i ↦ i ]

  pub not_held : now x ≡ false → IsIn nodes x → ⊥
  not_held e i = absurd (cc (sym e ∙ a.added x i))
