-- Nodes by one number: its order is that of nodes, and that of the places of their keys.
use Rattle.std.proofs.Common.{◌≡◌, ◌⊎◌, ℕ, ◌^◌, ◌<◌, ◌≤◌, refl, sym, ap, ◌∙◌, arith, inl, inr}
use Rattle.std.specs.Ordering.{nat_cmp, ordering_then}
use Rattle.std.specs.declared.cmp.Ordering.{Ordering}
use Rattle.std.specs.declared.cmp.Ordering.TheVariants.{Less, Equal, Greater}
use Rattle.std.proofs.lemmas.Bool.{cases_lt}
use Rattle.std.proofs.lemmas.Cmp.{ranked}
use Rattle.fx_item.specs.Item.{GraveKey}
use Rattle.fx_item.specs.LockKey.{key_cmp}
use Rattle.fx_item.specs.Place.{Upto, begins}
use Rattle.fx_item.proofs.Between.{nat_less}
use Rattle.fx_item.proofs.PlaceOrder.{either}
use Rattle.fx_namespace.specs.Nodes.{NodeId}
use Rattle.fx_node.specs.Waiting.{node_rank}

pub cases_le : (a b : ℕ) → (a ≤ b) ⊎ (b < a)
cases_le a b = elim (cases_lt b a) [ inl h ↦ inr h | inr h ↦ inl h ]

-- by store, by id, and then by something more
abbrev pub then_more : NodeId → NodeId → Ordering → Ordering
then_more a b r = ordering_then (nat_cmp a.store b.store) (ordering_then (nat_cmp a.id b.id) r)

pub rank_less : (a b : NodeId) (r : Ordering) → b.id < 2 ^ 64 → node_rank a < node_rank b → then_more a b r ≡ Less
rank_less a b r fit h = by (nat_cmp a.store b.store) refl where
  by : (o : Ordering) → o ≡ nat_cmp a.store b.store → then_more a b r ≡ Less
  by Less e = ap (λ o. ordering_then o (ordering_then (nat_cmp a.id b.id) r)) (sym e)
  by Equal e =
      let s : a.store ≡ b.store = ranked a.store b.store Equal e in
      let l : a.id < b.id = omega (arith, s, h) in
      ap (λ o. ordering_then o (ordering_then (nat_cmp a.id b.id) r)) (sym e) ∙ ap (λ o. ordering_then o r) (nat_less a.id b.id l)
  by Greater e = absurd (let s : b.store < a.store = ranked a.store b.store Greater e in omega (arith, s, h, fit))

pub less_rank : (a b : NodeId) (r : Ordering) → (r ≡ Less → ⊥) → a.id < 2 ^ 64 → then_more a b r ≡ Less → node_rank a < node_rank b
less_rank a b r bare fit h = by (nat_cmp a.store b.store) refl where
  by_id : a.store ≡ b.store → (o : Ordering) → o ≡ nat_cmp a.id b.id → ordering_then (nat_cmp a.id b.id) r ≡ Less → node_rank a < node_rank b
  by_id s Less e f = let l : a.id < b.id = ranked a.id b.id Less e in omega (arith, s, l)
  by_id s Equal e f = absurd (bare (ap (λ o. ordering_then o r) e ∙ f))
  by_id s Greater e f = absurd (let q : Greater ≡ Less = ap (λ o. ordering_then o r) e ∙ f in cc)

  by : (o : Ordering) → o ≡ nat_cmp a.store b.store → node_rank a < node_rank b
  by Less e = let s : a.store < b.store = ranked a.store b.store Less e in omega (arith, s, fit)
  by Equal e = by_id (ranked a.store b.store Equal e) (nat_cmp a.id b.id) refl (ap (λ o. ordering_then o (ordering_then (nat_cmp a.id b.id) r)) e ∙ h)
  by Greater e = absurd (let q : Greater ≡ Less = ap (λ o. ordering_then o (ordering_then (nat_cmp a.id b.id) r)) e ∙ h in cc)

equal_not_less : let a : Ordering = Equal in a ≡ Less → ⊥
equal_not_less e = cc

pub key_less : (a b : NodeId) → b.id < 2 ^ 64 → node_rank a < node_rank b → key_cmp a b ≡ Less
key_less a b fit h = sym (plain (nat_cmp a.store b.store) (nat_cmp a.id b.id)) ∙ rank_less a b Equal fit h where
  plain : (x y : Ordering) → ordering_then x (ordering_then y Equal) ≡ ordering_then x y
  plain Less y = refl
  plain Greater y = refl
  plain Equal Less = refl
  plain Equal Equal = refl
  plain Equal Greater = refl

pub graves_upto : (a b : NodeId) → b.id < 2 ^ 64 → node_rank a ≤ node_rank b → Upto (begins (GraveKey a.store a.id)) (begins (GraveKey b.store b.id))
graves_upto a b fit h = elim (either (begins (GraveKey a.store a.id)) (begins (GraveKey b.store b.id))) [
  | inl u ↦ u
  | inr l ↦ absurd (let k : node_rank b < node_rank a = less_rank b a Equal equal_not_less fit l.holds in omega (arith, k, h))
]
