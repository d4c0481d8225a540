-- Sets of blocks by their tests.
use Rattle.std.proofs.Common.{◌≡◌, ◌↔◌, ℕ, ◌+◌, ◌<◌, ◌≤◌, ◌==◌, ◌||◌, Bool, true, false, cond, List, [], ◌∷◌, ◌++◌, map, take, get_or, length, Option, Some, None, refl, sym, ap, subst, ◌∙◌, eq-eqb, BTreeSet}
use Rattle.std.specs.Prelude.{is_some}
use Rattle.std.specs.BTreeSet.{btree_set_len}
use Rattle.std.specs.List.{Contains, list_any}
use Rattle.std.specs.Ordering.{is_eq, nat_cmp}
use Rattle.std.proofs.lemmas.List.{map-append, take_all, take_more}
use Rattle.std.proofs.lemmas.List.Folds.{list_any-append, list_any_more}
use Rattle.std.proofs.lemmas.Cmp.{nat_cmp_total}
use Rattle.std.proofs.lemmas.Map.Lookups.{exact_unsigned}
use Rattle.std.proofs.lemmas.Map.Views.{btree_set_contains_iff}
use Rattle.fx_item.specs.Item.{PlainItem, items_of}
use Rattle.fx_item.specs.declared.item.Item.{Item}
use Rattle.fx_verify.specs.Kept.{is_written, last_stated, plain_txns, writes_block, written_by}
use Rattle.fx_verify.specs.Wrong.{holds_block}
use Rattle.fx_verify.specs.Written.{StatesLike}
use Rattle.fx_verify.proofs.Numbers.{is_eq_nat}

pub one_held : (set : BTreeSet ℕ) → (btree_set_len set ≡ 0 → ⊥) → (b : ℕ) × (holds_block set b ≡ true)
one_held set some = of set.keys some
  where
    of : (ks : List ℕ) → (length ks ≡ 0 → ⊥) → (b : ℕ) × (list_any (λ k. is_eq (nat_cmp b k)) ks ≡ true)
    of [] some = absurd (some refl)
    of (k ∷ ks) some = (k, ap (λ t. t || list_any (λ q. is_eq (nat_cmp k q)) ks) (is_eq_nat k k ∙ eq-eqb k k refl))

-- a list has a pair for each block that it states
any_stated : (b : ℕ) (ps : List (ℕ × ℕ)) (old : Option ℕ) → is_some (last_stated b ps old) ≡ (list_any (λ p. p.0 == b) ps || is_some old)
any_stated b [] old = refl
any_stated b (p ∷ ps) old = any_stated b ps (cond (p.0 == b) (Some p.1) old) ∙ by (p.0 == b) (list_any (λ q. q.0 == b) ps)
  where
    by : (t rest : Bool) → (rest || is_some (cond t (Some p.1) old)) ≡ ((t || rest) || is_some old)
    by true true = refl
    by true false = refl
    by false true = refl
    by false false = refl

pub or_false : (t : Bool) → (t || false) ≡ t
or_false true = refl
or_false false = refl

-- lists that state the same are of the same blocks
states_any : (ps qs : List (ℕ × ℕ)) → StatesLike ps qs → (b : ℕ) → list_any (λ p. p.0 == b) qs ≡ list_any (λ p. p.0 == b) ps
states_any ps qs like b =
    sym (or_false (list_any (λ p. p.0 == b) qs)) ∙ sym (any_stated b qs None) ∙ ap is_some (like b None)
    ∙ any_stated b ps None ∙ or_false (list_any (λ p. p.0 == b) ps)

-- one more block
pub block_more : (pairs : List (ℕ × ℕ)) (i : ℕ) (old now new : ℕ → Bool) → i < length pairs
    → ((b : ℕ) → now b ≡ (old b || list_any (λ p. p.0 == b) (take i pairs)))
    → ((b : ℕ) → new b ≡ cond (is_eq (nat_cmp (get_or pairs i (0, 0)).0 b)) true (now b))
    → (b : ℕ) → new b ≡ (old b || list_any (λ p. p.0 == b) (take (i + 1) pairs))
block_more pairs i old now new lt before step b =
    let x = get_or pairs i (0, 0) in
    step b ∙ (λ j. cond (is_eq_nat x.0 b j) true (before b j)) ∙ turned (x.0 == b) (old b) (list_any (λ p. p.0 == b) (take i pairs))
    ∙ ap (λ t. old b || t) (sym (list_any_more (λ (p : ℕ × ℕ). p.0 == b) pairs i (0, 0) lt))
  where
    turned : (t o r : Bool) → cond t true (o || r) ≡ (o || (r || t))
    turned true true r = refl
    turned true false true = refl
    turned true false false = refl
    turned false true r = refl
    turned false false true = refl
    turned false false false = refl

pub blocks_end : (items : List PlainItem) (written pairs : List (ℕ × ℕ)) (i : ℕ) (old new : ℕ → Bool) → StatesLike (written_by items) written → pairs ≡ written → length pairs ≤ i
    → ((b : ℕ) → new b ≡ (old b || list_any (λ p. p.0 == b) (take i pairs))) → (b : ℕ) → new b ≡ (old b || writes_block items b)
blocks_end items written pairs i old new like same le all b =
    all b ∙ ap (λ ps. old b || list_any (λ (p : ℕ × ℕ). p.0 == b) ps) (take_all i pairs le ∙ same) ∙ ap (λ t. old b || t) (states_any (written_by items) written like b)

-- the list of the set's blocks has those that were written
pub blocks_are : (txns : List (ℕ × List Item)) (i : ℕ) (set : BTreeSet ℕ) (blocks : List ℕ) → length txns ≤ i → blocks ≡ set.keys
    → ((b : ℕ) → holds_block set b ≡ is_written (plain_txns (take i txns)) b)
    → (b : ℕ) → Contains blocks b ↔ (is_written (plain_txns txns) b ≡ true)
blocks_are txns i set blocks le same all b =
    let held = btree_set_contains_iff nat_cmp_total exact_unsigned set b in
    let is : holds_block set b ≡ is_written (plain_txns txns) b = all b ∙ ap (λ ts. is_written (plain_txns ts) b) (take_all i txns le) in (
      λ c. sym is ∙ held.1 (subst (λ ks. Contains ks b) same c),
      λ e. subst (λ ks. Contains ks b) (sym same) (held.0 (is ∙ e)),
    )

-- one more transaction
pub written_more : (txns : List (ℕ × List Item)) (i : ℕ) (t : ℕ × List Item) (now new : ℕ → Bool) → i < length txns → t ≡ get_or txns i t
    → ((b : ℕ) → now b ≡ is_written (plain_txns (take i txns)) b)
    → ((b : ℕ) → new b ≡ (now b || writes_block (items_of t.1) b))
    → (b : ℕ) → new b ≡ is_written (plain_txns (take (i + 1) txns)) b
written_more txns i t now new lt is before step b =
    let plain : ℕ × List Item → ℕ × List PlainItem = λ u. (u.0, items_of u.1) in
    step b ∙ (λ j. before b j || sym (or_false (writes_block (items_of t.1) b)) j)
    ∙ sym (
    ap (λ xs. is_written (map plain xs) b) (take_more txns i t lt ∙ ap (λ y. take i txns ++ y ∷ []) (sym is))
    ∙ ap (λ us. is_written us b) (map-append plain (take i txns) (t ∷ []))
    ∙ list_any-append (λ (u : ℕ × List PlainItem). writes_block u.1 b) (map plain (take i txns)) (plain t ∷ [])
    )
