-- The order of nodes.
use Rattle.std.proofs.Common.{◌≡◌, ◌≢◌, ◌⊎◌, inl, inr, ℕ, List, [], ◌∷◌, refl, sym, ap, subst, ◌∙◌, Bool, true, false}
use Rattle.std.specs.Prelude.{IsTrue, ◌==◌, ◌&&◌}
use Rattle.std.specs.Cmp.{IsEquivalence, and_equiv, nat_eq_equiv, on_equiv, tied_itself}
use Rattle.std.specs.List.{fold, reduce}
use Rattle.std.specs.Ordering.{is_le, is_lt, min_by_ordering, ordering_reverse}
use Rattle.std.specs.declared.cmp.Ordering.{Ordering}
use Rattle.std.specs.declared.cmp.Ordering.TheVariants.{Less, Equal, Greater}
use Rattle.std.proofs.lemmas.Bool.{and_parts, eqb-true}
use Rattle.fx_base.proofs.Orderings.{less_from}
use Rattle.fx_base.proofs.TotalOrders as orders
use Rattle.fx_item.proofs.KeyOrder.{lock_keys_exact, lock_keys_total}
use Rattle.fx_item.specs.LockKey.{key_cmp}
use Rattle.fx_namespace.specs.Nodes.{NodeId}
use Rattle.fx_namespace.proofs.Walks.{node_path}
use Rattle.fx_nodes.specs.Lists.{IsIn}
use Rattle.fx_nodes.specs.Links.{is_same_node}
use Rattle.fx_nodes.specs.Faults.{IsLeastNode}

pub is_node_same : (a b : NodeId) → is_same_node a b ≡ true → a ≡ b
is_node_same a b e = let p = and_parts (a.store == b.store) (a.id == b.id) e in node_path a b (eqb-true a.store b.store p.0) (eqb-true a.id b.id p.1)

eqb_itself : (n : ℕ) → (n == n) ≡ true
eqb_itself = nat_eq_equiv.refl

pub is_node_itself : (a : NodeId) → is_same_node a a ≡ true
is_node_itself a = ap (λ b. b && (a.id == a.id)) (eqb_itself a.store) ∙ eqb_itself a.id

pub is_node_at : (a b : NodeId) → a ≡ b → is_same_node a b ≡ true
is_node_at a b e = subst (λ c. is_same_node a c ≡ true) e (is_node_itself a)

pub not_node : (a b : NodeId) → a ≢ b → is_same_node a b ≡ false
not_node a b ne = by_test (is_same_node a b) refl
  where
    by_test : (t : Bool) → is_same_node a b ≡ t → is_same_node a b ≡ false
    by_test true e = absurd (ne (is_node_same a b e))
    by_test false e = e

-- one is up to the other
abbrev pub IsUpTo : NodeId → NodeId → Type 0
IsUpTo a b = IsTrue (is_le (key_cmp a b))

pub up_to_cases : (a b : NodeId) → IsUpTo a b → (key_cmp a b ≡ Less) ⊎ (a ≡ b)
up_to_cases = orders.up_to_cases lock_keys_total lock_keys_exact

pub up_to_itself : (a : NodeId) → IsUpTo a a
up_to_itself = orders.up_to_itself lock_keys_total lock_keys_exact

-- what is up to a node below another is below it
pub less_after : (a b c : NodeId) → IsUpTo a b → is_lt (key_cmp b c) ≡ true → is_lt (key_cmp a c) ≡ true
less_after a b c h l = elim (up_to_cases a b h) [
  | inl e ↦ ap is_lt (lock_keys_total.trans a b c e (less_from (key_cmp b c) l))
  | inr e ↦ ap (λ x. is_lt (key_cmp x c)) e ∙ l
]

-- what is up to a node and not below it is it
pub same_after : (a b : NodeId) → IsUpTo a b → is_lt (key_cmp a b) ≡ false → a ≡ b
same_after = orders.same_from_test lock_keys_total lock_keys_exact

pub less_apart : (a b : NodeId) → is_lt (key_cmp a b) ≡ true → is_same_node a b ≡ false
less_apart a b l = not_node a b (λ e. absurd (cc (sym (ap is_lt (subst (λ c. key_cmp a c ≡ Equal) e (tied_itself lock_keys_total a))) ∙ l)))

pub is_node_equiv : IsEquivalence is_same_node
is_node_equiv = and_equiv (on_equiv (λ k. k.store) nat_eq_equiv) (on_equiv (λ k. k.id) nat_eq_equiv)

pub up_to_trans : (a b c : NodeId) → IsUpTo a b → IsUpTo b c → IsUpTo a c
up_to_trans = orders.up_to_trans lock_keys_total lock_keys_exact

-- ---- the least of some nodes

abbrev pub lesser : NodeId → NodeId → NodeId
lesser a b = min_by_ordering (key_cmp a b) a b

lesser_cases : (a b : NodeId) → ((lesser a b ≡ a) × IsUpTo a b) ⊎ ((lesser a b ≡ b) × IsUpTo b a)
lesser_cases a b = by_order (key_cmp a b) refl (lock_keys_total.antisymm b a)
  where
    by_order : (o : Ordering) → key_cmp a b ≡ o → key_cmp b a ≡ ordering_reverse (key_cmp a b) → ((lesser a b ≡ a) × IsUpTo a b) ⊎ ((lesser a b ≡ b) × IsUpTo b a)
    by_order Less e back = inl (ap (λ o. min_by_ordering o a b) e, ap is_le e)
    by_order Equal e back = inl (ap (λ o. min_by_ordering o a b) e, ap is_le e)
    by_order Greater e back = inr (ap (λ o. min_by_ordering o a b) e, ap is_le (back ∙ ap ordering_reverse e))

-- the least so far, over more nodes
pub fold_least : (xs : List NodeId) (x : NodeId) → IsIn (x ∷ xs) (fold lesser x xs) × ((q : NodeId) → IsIn (x ∷ xs) q → IsUpTo (fold lesser x xs) q)
fold_least [] x = (inl refl, λ q i. elim i [ inl e ↦ subst (IsUpTo x) e (up_to_itself x) | inr f ↦ absurd f ])
fold_least (y ∷ xs) x = by_lesser (lesser_cases x y) (fold_least xs (lesser x y))
  where
    by_lesser : ((lesser x y ≡ x) × IsUpTo x y) ⊎ ((lesser x y ≡ y) × IsUpTo y x)
        → IsIn (lesser x y ∷ xs) (fold lesser (lesser x y) xs) × ((q : NodeId) → IsIn (lesser x y ∷ xs) q → IsUpTo (fold lesser (lesser x y) xs) q)
        → IsIn (x ∷ y ∷ xs) (fold lesser (lesser x y) xs) × ((q : NodeId) → IsIn (x ∷ y ∷ xs) q → IsUpTo (fold lesser (lesser x y) xs) q)
    by_lesser (inl c) ih = (
      elim ih.0 [ inl e ↦ inl (sym c.0 ∙ e) | inr i ↦ inr (inr i) ],
      λ q i. elim i [
        | inl e ↦ ih.1 q (inl (c.0 ∙ e))
        | inr j ↦ elim j [ inl e ↦ up_to_trans _ x q (ih.1 x (inl c.0)) (subst (IsUpTo x) e c.1) | inr k ↦ ih.1 q (inr k) ]
      ],
    )
    by_lesser (inr c) ih = (
      elim ih.0 [ inl e ↦ inr (inl (sym c.0 ∙ e)) | inr i ↦ inr (inr i) ],
      λ q i. elim i [
        | inl e ↦ up_to_trans _ y q (ih.1 y (inl c.0)) (subst (IsUpTo y) e c.1)
        | inr j ↦ elim j [ inl e ↦ ih.1 q (inl (c.0 ∙ e)) | inr k ↦ ih.1 q (inr k) ]
      ],
    )

pub reduce_least : (xs : List NodeId) → IsLeastNode xs (reduce lesser xs)
reduce_least [] = refl
reduce_least (x ∷ xs) = fold_least xs x
