-- The map in memory without a key.
use Rattle.std.proofs.Common.{◌≡◌, ◌≢◌, ◌⊎◌, inl, inr, ℕ, List, refl, sym, ap, ◌∙◌, cond, Bool, true, false}
use Rattle.std.specs.Prelude.{Option, None, Some}
use Rattle.std.specs.Cmp.{eq_by_cmp_equiv}
use Rattle.std.specs.declared.cmp.Ordering.{Ordering}
use Rattle.std.specs.declared.cmp.Ordering.TheVariants.{Less, Equal, Greater}
use Rattle.std.specs.Map.{KeepsOthers, lookup}
use Rattle.std.specs.Ordering.{eq_by_cmp, is_eq}
use Rattle.std.specs.BTreeMap.{is_at}
use Rattle.std.specs.FinMap.{get, get-remove, remove, same_map}
use Rattle.fx_plain.specs.Node.{Node}
use Rattle.fx_plain.specs.Tree.{Tree, path_cmp}
use Rattle.fx_plain.specs.Memory.{tree_of}
use Rattle.fx_plain.proofs.Paths.{paths_total, paths_exact}
use Rattle.fx_plain.proofs.Views.{Entries, Key, get-tree_of, key_cmp}
use Rattle.fx_steps.proofs.Below.{path_false, path_true, same_path}

-- ---- what is gone is gone, and else all lies where it lay

module _ (old new : Entries) (p : List (List ℕ)) where
  abbrev at : List (List ℕ) → Key → Bool
  at q = is_at (λ (k : Key). path_cmp q k.items)

  apart : (q : List (List ℕ)) → q ≢ p → (k : Key) → at p k ≡ true → at q k ≡ false
  apart q ne k e = path_false q k.items (λ f. ne (f ∙ sym (tied p k.items e)))
    where
      tied : (a b : List (List ℕ)) → eq_by_cmp path_cmp a b ≡ true → a ≡ b
      tied a b e = by (path_cmp a b) refl e
        where
          by : (o : Ordering) → path_cmp a b ≡ o → is_eq o ≡ true → a ≡ b
          by Less is f = absurd (cc f)
          by Equal is f = paths_exact a b is
          by Greater is f = absurd (cc f)

  pub taken_by : lookup (at p) new ≡ None → KeepsOthers (eq_by_cmp key_cmp) (at p) old new → tree_of new ≡ remove (tree_of old) p
  unfolding KeepsOthers
  taken_by none others = same_map paths_total paths_exact _ _ (λ q.
      get-tree_of new q ∙ by q (same_path q p) ∙ sym (get-remove paths_total (tree_of old) p q ∙ ap (cond (eq_by_cmp path_cmp q p) None) (get-tree_of old q)))
    where
      by : (q : List (List ℕ)) → (q ≡ p) ⊎ (q ≢ p) → lookup (at q) new ≡ cond (eq_by_cmp path_cmp q p) None (lookup (at q) old)
      by q (inl e) = ap (λ z. lookup (at z) new) e ∙ none ∙ ap (λ b. cond b None (lookup (at q) old)) (sym (path_true q p e))
      by q (inr ne) =
          others (at q) (λ x y e. (eq_by_cmp_equiv paths_total).congr q x.items y.items e) (apart q ne)
          ∙ ap (λ b. cond b None (lookup (at q) old)) (sym (path_false q p ne))
