-- A tree once a path is moved to another, path by path.
use Rattle.std.proofs.Common.{◌≡◌, ◌≢◌, ◌⊎◌, inl, inr, ℕ, ◌++◌, List, [], ◌∷◌, refl, sym, ap, ◌∙◌, cond}
use Rattle.std.specs.Prelude.{Bool, true, false, Option, Some, None, map}
use Rattle.std.specs.Ordering.{eq_by_cmp}
use Rattle.std.specs.FinMap.{get, entries, get-entries, get-from_entries}
use Rattle.std.specs.FinMap.Entries.{find}
use Rattle.fx_plain.specs.Node.{Node}
use Rattle.fx_plain.specs.Tree.{Tree, path_cmp}
use Rattle.fx_plain.proofs.Paths.{paths_total}
use Rattle.fx_steps.specs.Moved.{IsMoved, landed, moved, moved_path, rest_below}
use Rattle.fx_steps.proofs.Below.{Path, cancel, nested, path_false, path_true, rest_is, rest_of_append, same_path}

abbrev pub Entries : Type 0
Entries = List (Path × Node)

same_test : (a b c d : Path) → (a ≡ b → c ≡ d) → (c ≡ d → a ≡ b) → eq_by_cmp path_cmp a b ≡ eq_by_cmp path_cmp c d
same_test a b c d f g = by_case (same_path a b)
  where
    by_case : (a ≡ b) ⊎ (a ≢ b) → eq_by_cmp path_cmp a b ≡ eq_by_cmp path_cmp c d
    by_case (inl e) = path_true a b e ∙ sym (path_true c d (f e))
    by_case (inr ne) = path_false a b ne ∙ sym (path_false c d (λ e. ne (g e)))

-- the first entry of a list is not the one, and the others have none
pub split_none : (b : Bool) (x : Node) (o : Option Node) → cond b (Some x) o ≡ None → (b ≡ false) × (o ≡ None)
split_none true x o e = absurd (cc e)
split_none false x o e = (refl, e)

module _ (from to : Path) (into : (r : Path) → to ≢ from ++ r) (onto : (r : Path) → from ≢ to ++ r) where
  abbrev pub all : Entries → Entries
  all es = map (λ e. (moved_path from to e.0, e.1)) es

  pub apart : (a b : Path) → to ++ a ≢ from ++ b
  apart a b e = elim (nested to from a b e) [ inl c ↦ into c.0 c.1 | inr c ↦ onto c.0 c.1 ]

  -- where a path moves to, by what is left of it
  goes : (k r : Path) → rest_below from k ≡ Some r → moved_path from to k ≡ to ++ r
  goes k r e = ap (landed to k) e

  stays : (k : Path) → rest_below from k ≡ None → moved_path from to k ≡ k
  stays k e = ap (landed to k) e

  not_from : (k r : Path) → rest_below from k ≡ None → k ≢ from ++ r
  not_from k r e f = cc (sym e ∙ ap (rest_below from) f ∙ rest_of_append from r)

  inside_key : (k r : Path) → to ++ r ≢ k → (o : Option Path) → rest_below from k ≡ o → to ++ r ≡ moved_path from to k → from ++ r ≡ k
  inside_key k r ne None e f = absurd (ne (f ∙ stays k e))
  inside_key k r ne (Some s) e f = ap (λ z. from ++ z) (cancel to r s (f ∙ goes k s e)) ∙ sym (rest_is from k s e)

  inside_back : (k r : Path) → from ++ r ≡ k → to ++ r ≡ moved_path from to k
  inside_back k r e = sym (goes k r (ap (rest_below from) (sym e) ∙ rest_of_append from r))

  gone_key : (k r : Path) → (o : Option Path) → rest_below from k ≡ o → from ++ r ≢ moved_path from to k
  gone_key k r None e f = not_from k r e (sym (f ∙ stays k e))
  gone_key k r (Some s) e f = apart s r (sym (f ∙ goes k s e))

  other_key : (q k : Path) → ((r : Path) → q ≢ to ++ r) → ((r : Path) → q ≢ from ++ r) → (o : Option Path) → rest_below from k ≡ o → eq_by_cmp path_cmp q (moved_path from to k) ≡ eq_by_cmp path_cmp q k
  other_key q k f g None e = ap (eq_by_cmp path_cmp q) (stays k e)
  other_key q k f g (Some s) e = path_false q (moved_path from to k) (λ d. f s (d ∙ goes k s e)) ∙ sym (path_false q k (λ d. g s (d ∙ rest_is from k s e)))

  pub find_inside : (es : Entries) (r : Path) → ((s : Path) → find path_cmp (to ++ s) es ≡ None) → find path_cmp (to ++ r) (all es) ≡ find path_cmp (from ++ r) es
  find_inside [] r h = refl
  find_inside (e ∷ es) r h =
      ap (λ b. cond b (Some e.1) (find path_cmp (to ++ r) (all es))) (same_test (to ++ r) (moved_path from to e.0) (from ++ r) e.0
      (inside_key e.0 r (λ d. cc (sym (split_none (eq_by_cmp path_cmp (to ++ r) e.0) e.1 (find path_cmp (to ++ r) es) (h r)).0 ∙ path_true (to ++ r) e.0 d)) (rest_below from e.0) refl)
      (inside_back e.0 r))
      ∙ ap (cond (eq_by_cmp path_cmp (from ++ r) e.0) (Some e.1)) (find_inside es r (λ s. (split_none (eq_by_cmp path_cmp (to ++ s) e.0) e.1 (find path_cmp (to ++ s) es) (h s)).1))

  find_gone : (es : Entries) (r : Path) → find path_cmp (from ++ r) (all es) ≡ None
  find_gone [] r = refl
  find_gone (e ∷ es) r =
      ap (λ b. cond b (Some e.1) (find path_cmp (from ++ r) (all es))) (path_false (from ++ r) (moved_path from to e.0) (gone_key e.0 r (rest_below from e.0) refl)) ∙ find_gone es r

  pub find_others : (es : Entries) (q : Path) → ((r : Path) → q ≢ to ++ r) → ((r : Path) → q ≢ from ++ r) → find path_cmp q (all es) ≡ find path_cmp q es
  find_others [] q f g = refl
  find_others (e ∷ es) q f g =
      ap (λ b. cond b (Some e.1) (find path_cmp q (all es))) (other_key q e.0 f g (rest_below from e.0) refl)
      ∙ ap (cond (eq_by_cmp path_cmp q e.0) (Some e.1)) (find_others es q f g)

  pub moves : (t : Tree) → ((r : Path) → get t (to ++ r) ≡ None) → IsMoved (get t) (get (moved t from to)) from to
  moves t free = record {
    inside = λ r. get-from_entries paths_total (all (entries t)) (to ++ r) ∙ find_inside (entries t) r (λ s. sym (get-entries t (to ++ s)) ∙ free s) ∙ sym (get-entries t (from ++ r));
    gone = λ r. get-from_entries paths_total (all (entries t)) (from ++ r) ∙ find_gone (entries t) r;
    others = λ q f g. get-from_entries paths_total (all (entries t)) q ∙ find_others (entries t) q f g ∙ sym (get-entries t q);
  }
