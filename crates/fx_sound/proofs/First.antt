-- At most one fault is the first; and what has no least node, or number, is nowhere.
use Rattle.std.proofs.Common.{◌≡◌, ◌⊎◌, inl, inr, ℕ, zero, suc, ◌<◌, ◌≤◌, refl, sym, ap, ◌∙◌, arith}
use Rattle.std.specs.Prelude.{IsTrue}
use Rattle.std.specs.Ordering.{is_le, nat_cmp, ordering_then}
use Rattle.std.specs.declared.cmp.Ordering.{Ordering}
use Rattle.std.specs.declared.cmp.Ordering.TheVariants.{Less, Equal, Greater}
use Rattle.std.proofs.lemmas.Bool.{cases_lt}
use Rattle.std.proofs.lemmas.Cmp.{ranked}
use Rattle.fx_base.proofs.TotalOrders.{below_or_up_to, up_to_both}
use Rattle.fx_item.proofs.KeyOrder.{lock_keys_exact, lock_keys_total}
use Rattle.fx_item.specs.LockKey.{key_cmp}
use Rattle.fx_namespace.specs.Nodes.{NodeId}
use Rattle.fx_sound.specs.declared.image.ImageFault.{ImageFault}
use Rattle.fx_sound.specs.declared.image.ImageFault.TheVariants.{BadTree, Unsound, Cramped}
use Rattle.fx_sound.specs.Image.{PlainImage}
use Rattle.fx_sound.specs.Faults.{IsCrampedBy, IsFirstFault}

abbrev pub node_of : ℕ → ℕ → NodeId
node_of s i = record { store = s; id = i }

same_free : (image : PlainImage) (n k : ℕ) → IsCrampedBy image n → IsCrampedBy image k → n ≡ k
same_free image n k (inl a) (inl b) = a.1 ∙ sym b.1
same_free image n k (inl a) (inr b) = absurd (a.0 b.0)
same_free image n k (inr a) (inl b) = absurd (b.0 a.0)
same_free image n k (inr a) (inr b) = a.2 ∙ sym b.2

same_nodes : (x y : NodeId) → IsTrue (is_le (key_cmp x y)) → IsTrue (is_le (key_cmp y x)) → x ≡ y
same_nodes x y h k = up_to_both lock_keys_total lock_keys_exact x y h k

pub one_first : (image : PlainImage) (a b : ImageFault) → IsFirstFault image a → IsFirstFault image b → a ≡ b
one_first image (BadTree s i) (BadTree t j) x y = ap (λ (z : NodeId). BadTree z.store z.id) (same_nodes (node_of s i) (node_of t j) (x.least (node_of t j) y.amiss) (y.least (node_of s i) x.amiss))
one_first image (BadTree s i) (Unsound b) x y = absurd (y.0 (node_of s i) x.amiss)
one_first image (BadTree s i) (Cramped n) x y = absurd (y.0 (node_of s i) x.amiss)
one_first image (Unsound b) (BadTree s i) x y = absurd (x.0 (node_of s i) y.amiss)
one_first image (Unsound b) (Unsound c) x y = ap Unsound (let l = x.1.least c y.1.unsound in let r = y.1.least b x.1.unsound in omega (arith, l, r))
one_first image (Unsound b) (Cramped n) x y = absurd (y.1 b x.1.unsound)
one_first image (Cramped n) (BadTree s i) x y = absurd (x.0 (node_of s i) y.amiss)
one_first image (Cramped n) (Unsound b) x y = absurd (x.1 b y.1.unsound)
one_first image (Cramped n) (Cramped k) x y = ap Cramped (same_free image n k x.2 y.2)

-- ---- nodes

less_parts : (s t i j : ℕ) (r q : Ordering) → r ≡ nat_cmp s t → q ≡ nat_cmp i j → ordering_then r q ≡ Less → (s < t) ⊎ ((s ≡ t) × (i < j))
less_parts s t i j Less q e f h = inl (ranked s t Less e)
less_parts s t i j Equal Less e f h = inr (ranked s t Equal e, ranked i j Less f)
less_parts s t i j Equal Equal e f h = absurd (cc)
less_parts s t i j Equal Greater e f h = absurd (cc)
less_parts s t i j Greater q e f h = absurd (cc)

node_parts : (x y : NodeId) → key_cmp x y ≡ Less → (x.store < y.store) ⊎ ((x.store ≡ y.store) × (x.id < y.id))
node_parts x y h = less_parts x.store y.store x.id y.id (nat_cmp x.store y.store) (nat_cmp x.id y.id) refl refl h

module _ (P : NodeId → Type 0) (none : (node : NodeId) → P node → ((other : NodeId) → P other → IsTrue (is_le (key_cmp node other))) → ⊥) where
  at_node : (node : NodeId) → ((other : NodeId) → P other → other.store < node.store → ⊥) → ((other : NodeId) → P other → other.store ≡ node.store → other.id < node.id → ⊥) → P node → ⊥
  at_node node low here p = none node p (λ other q. elim (below_or_up_to lock_keys_total lock_keys_exact node other) [
    | inl less ↦ elim (node_parts other node less) [ inl l ↦ absurd (low other q l) | inr l ↦ absurd (here other q l.0 l.1) ]
    | inr up ↦ up
  ])

  ids : (s : ℕ) → ((other : NodeId) → P other → other.store < s → ⊥) → (i : ℕ) (other : NodeId) → P other → other.store ≡ s → other.id < i → ⊥
  ids s low zero other p e l = omega (arith, l)
  ids s low (suc i) other p e l = at_node other (λ o q k. low o q (omega (arith, k, e))) (λ o q f k. ids s low i o q (f ∙ e) (omega (arith, k, l))) p

  stores : (s : ℕ) (other : NodeId) → P other → other.store < s → ⊥
  stores zero other p l = omega (arith, l)
  stores (suc s) other p l = at_node other (λ o q k. stores s o q (omega (arith, k, l)))
      (λ o q f k. ids other.store (λ x w m. stores s x w (omega (arith, m, l))) other.id o q f k) p

  pub no_node : (node : NodeId) → P node → ⊥
  no_node node p = stores (suc node.store) node p (omega arith)

-- ---- numbers

module _ (P : ℕ → Type 0) (none : (b : ℕ) → P b → ((c : ℕ) → P c → b ≤ c) → ⊥) where
  numbers : (n b : ℕ) → P b → b < n → ⊥
  numbers zero b p l = omega (arith, l)
  numbers (suc n) b p l = none b p (λ c q. elim (cases_lt c b) [ inl k ↦ absurd (numbers n c q (omega (arith, k, l))) | inr k ↦ k ])

  pub no_number : (b : ℕ) → P b → ⊥
  no_number b p = numbers (suc b) b p (omega arith)
