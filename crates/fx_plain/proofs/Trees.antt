-- What a step leaves of a tree.
use Rattle.std.proofs.Common.{◌≡◌, ◌≢◌, ◌⊎◌, inl, inr, ℕ, ◌+◌, List, [], ◌∷◌, ◌++◌, refl, sym, ap, ◌∙◌, cond, Bool, true, false, length, length-append, arith, append_assoc}
use Rattle.std.specs.Prelude.{Option, None, Some, Result, Ok, Err, nat_lt}
use Rattle.std.specs.Cmp.{tied_itself}
use Rattle.std.specs.declared.cmp.Ordering.{Ordering}
use Rattle.std.specs.declared.cmp.Ordering.TheVariants.{Less, Equal, Greater}
use Rattle.std.specs.Ordering.{is_eq}
use Rattle.std.specs.FinMap.{get, insert, get-insert, get-empty, empty}
use Rattle.std.proofs.lemmas.List.{append-nil}
use Rattle.fx_plain.specs.Node.{Attributes, Contents, Node, Dir, File, empty_dir, empty_file, written}
use Rattle.fx_plain.specs.Tree.{IsDirAt, IsTree, Tree, path_cmp, root}
use Rattle.fx_plain.specs.Table.{create, do_step, mkdir, obstacle, or_else, place, walk, walk_from, write_at}
use Rattle.fx_plain.specs.declared.contents.TheConstants.{MAX_FILE}
use Rattle.fx_plain.specs.declared.step.Step.{Step}
use Rattle.fx_plain.specs.declared.step.Step.TheVariants.{Mkdir, Create, Write, Read, List as ListStep, Stat as StatStep}
use Rattle.fx_plain.specs.declared.step.Answer.{Answer}
use Rattle.fx_plain.specs.declared.step.Answer.TheVariants.{Done}
use Rattle.fx_plain.specs.declared.step.Refusal.{Refusal}
use Rattle.fx_plain.specs.declared.step.Refusal.TheVariants.{TooLong}
use Rattle.fx_plain.proofs.Paths.{paths_total, paths_exact}

-- what an insertion leaves at a path q: the new node where q is the path, and else what lay there
abbrev pub Left : Tree → List (List ℕ) → Node → List (List ℕ) → Type 0
Left tree p node q = ((q ≡ p) × (get (insert tree p node) q ≡ Some node)) ⊎ ((q ≢ p) × (get (insert tree p node) q ≡ get tree q))

less_equal : let a : Ordering = Less in a ≡ Equal → ⊥
less_equal e = cc

greater_equal : let a : Ordering = Greater in a ≡ Equal → ⊥
greater_equal e = cc

pub left : (tree : Tree) (p : List (List ℕ)) (node : Node) (q : List (List ℕ)) → Left tree p node q
left tree p node q = by_order (path_cmp q p) refl
  where
    by_order : (o : Ordering) → path_cmp q p ≡ o → Left tree p node q
    by_order Equal e = inl (paths_exact q p e, get-insert paths_total tree p node q ∙ ap (λ o. cond (is_eq o) (Some node) (get tree q)) e)
    by_order Less e = inr (λ s. less_equal (sym e ∙ ap (λ x. path_cmp x p) s ∙ tied_itself paths_total p), get-insert paths_total tree p node q ∙ ap (λ o. cond (is_eq o) (Some node) (get tree q)) e)
    by_order Greater e = inr (λ s. greater_equal (sym e ∙ ap (λ x. path_cmp x p) s ∙ tied_itself paths_total p), get-insert paths_total tree p node q ∙ ap (λ o. cond (is_eq o) (Some node) (get tree q)) e)

both_none : (a b : Option Refusal) → or_else a b ≡ None → (a ≡ None) × (b ≡ None)
both_none None b e = (refl, e)
both_none (Some r) b e = absurd (cc)

abbrev IsDir : Option Node → Type 0
IsDir there = (attributes : Attributes) × (there ≡ Some (Dir attributes))

is_dir : (there : Option Node) → obstacle there ≡ None → IsDir there
is_dir None e = absurd (cc)
is_dir (Some (Dir attributes)) e = (attributes, refl)
is_dir (Some (File contents attributes)) e = absurd (cc)

-- the path above a path that is walked is a directory
pub walked : (tree : Tree) (before rest : List (List ℕ)) (name : List ℕ) → walk_from tree before (rest ++ name ∷ []) ≡ None → IsDirAt tree (before ++ rest)
walked tree before [] name e = let here = is_dir _ (both_none _ _ e).0 in (here.0, ap (get tree) (append-nil before) ∙ here.1)
walked tree before (x ∷ rest) name e =
    let below = walked tree (before ++ x ∷ []) rest name (both_none _ _ e).1 in
    (below.0, ap (get tree) (sym (append_assoc before (x ∷ []) rest)) ∙ below.1)

longer : (p : List (List ℕ)) (n : List ℕ) → p ≢ p ++ n ∷ []
longer p n e = omega (arith, ap length e, length-append p (n ∷ []))

-- a node put below directories, where no directory lies
inserted : (tree : Tree) (p : List (List ℕ)) (node : Node) → IsTree tree → p ≢ [] → walk tree p ≡ None → ¬ (IsDirAt tree p) → IsTree (insert tree p node)
inserted tree p node k some way free = record {
  top = elim (left tree p node []) [ inl a ↦ absurd (some (sym a.0)) | inr a ↦ a.1 ∙ k.top ];
  above = λ q name there e. above q name there e (left tree p node (q ++ name ∷ [])) (left tree p node q);
}
  where
    above : (q : List (List ℕ)) (name : List ℕ) (there : Node) → get (insert tree p node) (q ++ name ∷ []) ≡ Some there → Left tree p node (q ++ name ∷ []) → Left tree p node q → IsDirAt (insert tree p node) q
    above q name there e (inl a) (inl b) = absurd (longer q name (b.0 ∙ sym a.0))
    above q name there e (inl a) (inr b) = let w = walked tree [] q name (ap (walk tree) a.0 ∙ way) in (w.0, b.1 ∙ w.1)
    above q name there e (inr a) (inl b) = let d = k.above q name there (sym a.1 ∙ e) in absurd (free (d.0, ap (get tree) (sym b.0) ∙ d.1))
    above q name there e (inr a) (inr b) = let d = k.above q name there (sym a.1 ∙ e) in (d.0, b.1 ∙ d.1)

pub IsTree-root : IsTree root
IsTree-root = record {
  top = elim (left empty [] empty_dir []) [ inl a ↦ a.1 | inr a ↦ absurd (a.0 refl) ];
  above = λ q name there e. elim (left empty [] empty_dir (q ++ name ∷ [])) [ inl a ↦ absurd (not_nil q name a.0) | inr a ↦ absurd (cc (sym e ∙ a.1 ∙ get-empty path_cmp (q ++ name ∷ []))) ];
}
  where
    not_nil : (q : List (List ℕ)) (name : List ℕ) → q ++ name ∷ [] ≢ []
    not_nil [] name e = cc
    not_nil (x ∷ q) name e = cc

placed : (tree : Tree) (p : List (List ℕ)) (node : Node) → IsTree tree → p ≢ [] → (way : Option Refusal) (there : Option Node) → walk tree p ≡ way → get tree p ≡ there → IsTree (place tree p node way there).1
placed tree p node k some (Some r) there e f = k
placed tree p node k some None (Some other) e f = k
placed tree p node k some None None e f = inserted tree p node k some e (λ d. cc (sym f ∙ d.1))

overwritten : (tree : Tree) (p : List (List ℕ)) (at : ℕ) (text : List ℕ) (b : Bool) (contents : Contents) (attributes : Attributes) → IsTree tree → walk tree p ≡ None → get tree p ≡ Some (File contents attributes)
    → IsTree (cond b (let a : Result Answer Refusal × Tree = (Err TooLong, tree) in a) (Ok Done, insert tree p (File (written at text contents) attributes))).1
overwritten tree p at text true contents attributes k e f = k
overwritten tree p at text false contents attributes k e f = inserted tree p (File (written at text contents) attributes) k (λ r. cc (sym k.top ∙ ap (get tree) (sym r) ∙ f)) e (λ d. cc (sym f ∙ d.1))

write_kept : (tree : Tree) (p : List (List ℕ)) (at : ℕ) (text : List ℕ) → IsTree tree → (way : Option Refusal) (there : Option Node) → walk tree p ≡ way → get tree p ≡ there → IsTree (write_at tree p at text way there).1
write_kept tree p at text k (Some r) there e f = k
write_kept tree p at text k None None e f = k
write_kept tree p at text k None (Some (Dir attributes)) e f = k
write_kept tree p at text k None (Some (File contents attributes)) e f = overwritten tree p at text (nat_lt MAX_FILE (at + length text)) contents attributes k e f

mkdir_kept : (tree : Tree) (p : List (List ℕ)) → IsTree tree → IsTree (mkdir tree p).1
mkdir_kept tree [] k = k
mkdir_kept tree (n ∷ ns) k = placed tree (n ∷ ns) empty_dir k (λ e. cc) (walk tree (n ∷ ns)) (get tree (n ∷ ns)) refl refl

create_kept : (tree : Tree) (p : List (List ℕ)) → IsTree tree → IsTree (create tree p).1
create_kept tree [] k = k
create_kept tree (n ∷ []) k = k
create_kept tree (n ∷ m ∷ ns) k = placed tree (n ∷ m ∷ ns) empty_file k (λ e. cc) (walk tree (n ∷ m ∷ ns)) (get tree (n ∷ m ∷ ns)) refl refl

pub IsTree-do_step : (tree : Tree) (step : Step) → IsTree tree → IsTree (do_step tree step).1
IsTree-do_step tree (Mkdir path) k = mkdir_kept tree path k
IsTree-do_step tree (Create path) k = create_kept tree path k
IsTree-do_step tree (Write path at text) k = write_kept tree path at text k (walk tree path) (get tree path) refl refl
IsTree-do_step tree (Read path at count) k = k
IsTree-do_step tree (ListStep path) k = k
IsTree-do_step tree (StatStep path) k = k
