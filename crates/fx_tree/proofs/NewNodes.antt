-- The plan of a new node makes it.
use Rattle.std.proofs.Common.{◌≡◌, ◌≢◌, ◌⊎◌, inl, inr, ℕ, List, [], ◌∷◌, ◌++◌, refl, sym, ap, ◌∙◌, subst, arith}
use Rattle.std.specs.Prelude.{Some, None, Result, Ok}
use Rattle.std.proofs.lemmas.List.{append-nil}
use Rattle.std.specs.FinMap.{get, insert}
use Rattle.fx_item.specs.Item.{ChildKey, ObjectKey}
use Rattle.fx_item.specs.Look.{value_of_entry}
use Rattle.fx_item.specs.Overlay.{AtKey, Said}
use Rattle.fx_plain.specs.Node.{Node, empty_dir, empty_file}
use Rattle.fx_plain.specs.Table.{create, mkdir, place, walk}
use Rattle.fx_plain.specs.Tree.{Tree}
use Rattle.fx_plain.specs.declared.kind.Kind.{Kind}
use Rattle.fx_plain.specs.declared.kind.Kind.TheVariants.{Dir, File}
use Rattle.fx_plain.specs.declared.step.Answer.{Answer}
use Rattle.fx_plain.specs.declared.step.Answer.TheVariants.{Done}
use Rattle.fx_plain.specs.declared.step.Refusal.{Refusal}
use Rattle.fx_plain.specs.declared.step.Step.TheVariants.{Mkdir, Create}
use Rattle.fx_namespace.specs.Changes.{IsPlaceFor}
use Rattle.fx_namespace.specs.Commits.{IsBelow, IsFreePlace, IsNextNode, new_value}
use Rattle.fx_namespace.specs.Nodes.{NodeId, kind_of, node_at, root_node}
use Rattle.fx_namespace.specs.Trees.{bare, node_of}
use Rattle.fx_namespace.proofs.Commits.{new_place}
use Rattle.fx_contents.specs.Points.{Points, entry_after, named, points_after, value_under}
use Rattle.fx_contents.specs.Removal.{GainsEmpty}
use Rattle.fx_contents.specs.Standing.{AreClear, StandForTree}
use Rattle.fx_contents.proofs.Amiss.{none_at}
use Rattle.fx_contents.proofs.NewNode.{gain_clear, gain_stands}
use Rattle.fx_steps.specs.Rows.{with_basic}
use Rattle.fx_steps.specs.declared.step.TreeStep.TheVariants.{Basic}
use Rattle.fx_tree.specs.Plans.{IsDoneBy, PlansNewNode}
use Rattle.fx_tree.proofs.Ways.{named_below, same_at, same_kind}
use Rattle.fx_tree.proofs.InTree.{dir_at, nothing_at, walked}

abbrev Outcome : Type 0
Outcome = Result Answer Refusal × Tree

-- ---- on the tree

placed : (t : Tree) (path : List (List ℕ)) (x : Node) → walk t path ≡ None → get t path ≡ None → place t path x (walk t path) (get t path) ≡ (Ok Done, insert t path x)
placed t path x way free = ap (λ w. place t path x w (get t path)) way ∙ ap (place t path x None) free

made_dir : (t : Tree) (path : List (List ℕ)) → path ≢ [] → walk t path ≡ None → get t path ≡ None → mkdir t path ≡ (Ok Done, insert t path empty_dir)
made_dir t [] ne way free = absurd (ne refl)
made_dir t (x ∷ names) ne way free = placed t (x ∷ names) empty_dir way free

made_file : (t : Tree) (above : List (List ℕ)) (name : List ℕ) (path : List (List ℕ)) → above ≢ [] → path ≡ above ++ name ∷ [] → walk t path ≡ None → get t path ≡ None → create t path ≡ (Ok Done, insert t path empty_file)
made_file t above name [] ne is way free = absurd (empty above is)
  where
    empty : (above : List (List ℕ)) → [] ≡ above ++ name ∷ [] → ⊥
    empty [] e = cc e
    empty (y ∷ ys) e = cc e
made_file t [] name (x ∷ []) ne is way free = absurd (ne refl)
made_file t (y ∷ []) name (x ∷ []) ne is way free = absurd (cc is)
made_file t (y ∷ z ∷ ys) name (x ∷ []) ne is way free = absurd (cc is)
made_file t above name (x ∷ y ∷ names) ne is way free = placed t (x ∷ y ∷ names) empty_file way free

-- ---- on the items

module _ {m : Points} {f : ℕ → List ℕ} {t : Tree} {id store : ℕ} {path : List (List ℕ)} {kind : Kind} {said : Said}
    (s : StandForTree m f t) (b : IsBelow (value_under m) id store) (d : PlansNewNode m id store path kind said) where
  way : node_at (named m) d.above ≡ Some d.parent
  way = same_at m d.above ∙ d.way

  directory : kind_of (named m) d.parent ≡ Some Dir
  directory = same_kind s d.above d.parent way ∙ d.directory

  way_free : walk t path ≡ None
  way_free = ap (walk t) d.path_is ∙ walked s.stands s.tree_is d.above d.parent d.name way directory

  nothing : get t (d.above ++ d.name ∷ []) ≡ None
  nothing = ap (get t) (sym (append-nil (d.above ++ d.name ∷ []))) ∙ nothing_at s.stands s.tree_is d.above d.parent d.name way d.free []

  free_place : IsFreePlace (named m) t d.above d.parent d.name
  free_place =
      let dir = dir_at s.stands s.tree_is d.above d.parent way directory in
      record { way = way; attributes = dir.0; directory = dir.1; free = nothing; depth = d.depth }

  is_place : IsPlaceFor (named m) d.above d.parent d.name d.node kind
  is_place = new_place s.stands s.tree_is (named_below m id store b) free_place d.next

  high : IsNextNode d.parent d.node kind id store → (d.node.id ≡ id) ⊎ (d.node.store ≡ store)
  high (inl a) = inr (ap (λ z. z.store) a.2)
  high (inr a) = inl (ap (λ z. z.id) a.1)

  fresh : value_under m (ObjectKey d.node.store d.node.id) ≡ None
  fresh = none_at (value_under m (ObjectKey d.node.store d.node.id)) (λ v e.
      let k = b.key (ObjectKey d.node.store d.node.id) v e in
      elim (high d.next) [ inl i ↦ omega arith | inr j ↦ omega arith ])

  gains : GainsEmpty m (points_after m said) d.parent d.name d.node (new_value kind)
  gains = record {
    fresh = fresh;
    object = ap (λ o. value_of_entry (entry_after o (m (AtKey (ObjectKey d.node.store d.node.id))))) d.says.object;
    entry = ap (λ o. value_of_entry (entry_after o (m (AtKey (ChildKey d.parent.store d.parent.id d.name))))) d.says.entry;
    others = λ p a c e. ap (λ o. entry_after o (m p)) (d.says.others p a c);
  }

  stands_at : StandForTree (points_after m said) f (insert t path (node_of bare d.node kind))
  stands_at = subst (λ p. StandForTree (points_after m said) f (insert t p (node_of bare d.node kind))) (sym d.path_is)
      (gain_stands m (points_after m said) d.parent d.name d.node kind gains s.within f t d.above s is_place)

  clear : AreClear m f → AreClear (points_after m said) f
  clear c = gain_clear m (points_after m said) d.parent d.name d.node kind gains s.within f c

  free_here : get t path ≡ None
  free_here = ap (get t) d.path_is ∙ nothing

  not_top : path ≢ []
  not_top e = empty d.above (sym e ∙ d.path_is)
    where
      empty : (above : List (List ℕ)) → [] ≡ above ++ d.name ∷ [] → ⊥
      empty [] q = cc q
      empty (y ∷ ys) q = cc q

pub mkdir_does : (m : Points) (f : ℕ → List ℕ) (t : Tree) (id store : ℕ) (path : List (List ℕ)) (said : Said) → StandForTree m f t → IsBelow (value_under m) id store
    → PlansNewNode m id store path Dir said → IsDoneBy m said f t (Basic (Mkdir path))
mkdir_does m f t id store path said s b d =
    let e = made_dir t path (not_top s b d) (way_free s b d) (free_here s b d) in
    record {
      done = ap (λ (r : Outcome). with_basic r.0) e;
      stands = subst (λ (r : Outcome). StandForTree (points_after m said) f r.1) (sym e) (stands_at s b d);
      clear = clear s b d;
    }

-- a file has no place in the root
inner : (parent node : NodeId) (id store : ℕ) → IsNextNode parent node File id store → parent ≢ root_node
inner parent node id store (inl a) = absurd (cc a.1)
inner parent node id store (inr a) = a.0

pub create_does : (m : Points) (f : ℕ → List ℕ) (t : Tree) (id store : ℕ) (path : List (List ℕ)) (said : Said) → StandForTree m f t → IsBelow (value_under m) id store
    → PlansNewNode m id store path File said → IsDoneBy m said f t (Basic (Create path))
create_does m f t id store path said s b d =
    let below : d.above ≢ [] = λ q. inner d.parent d.node id store d.next (let o : Some d.parent ≡ Some root_node = sym d.way ∙ ap (node_at (value_under m)) q in cc o) in
    let e = made_file t d.above d.name path below d.path_is (way_free s b d) (free_here s b d) in
    record {
      done = ap (λ (r : Outcome). with_basic r.0) e;
      stands = subst (λ (r : Outcome). StandForTree (points_after m said) f r.1) (sym e) (stands_at s b d);
      clear = clear s b d;
    }
