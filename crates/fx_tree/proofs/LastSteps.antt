-- A walk, and its last step.
use Rattle.std.proofs.Common.{◌≡◌, ℕ, List, [], ◌∷◌, ◌++◌, length, length-append, take, refl, sym, ap, ◌∙◌, subst, arith}
use Rattle.std.specs.Prelude.{Some, slice_get}
use Rattle.fx_item.specs.Look.{ItemMap, map_of}
use Rattle.fx_item.specs.Item.{PlainKey}
use Rattle.fx_item.specs.Overlay.{Said, live_in}
use Rattle.fx_item.specs.declared.lock.LockKey.{LockKey}
use Rattle.fx_plain.specs.Tree.{Tree}
use Rattle.fx_namespace.specs.Nodes.{node_at}
use Rattle.fx_namespace.specs.Trees.{Holdings, IsTreeOf}
use Rattle.fx_contents.specs.Points.{value_under}
use Rattle.fx_contents.specs.Standing.{holdings_of}
use Rattle.fx_dir.specs.Walk.{EndsAfter, EndsInTree, GoesThrough}
use Rattle.fx_dir.specs.declared.walk.WalkEnd.{WalkEnd}
use Rattle.fx_tree.specs.Planned.{IsLastStep, MeetsWalk}
use Rattle.fx_tree.proofs.Ways.{seen_tree}

-- what a look says under keys is what stands there
abbrev pub IsLookLaw : Type 0
IsLookLaw = (said : Said) (key : PlainKey) → map_of said key ≡ value_under (live_in said) key

pub map_is : IsLookLaw → (said : Said) → map_of said ≡ value_under (live_in said)
map_is law said = λ i key. law said key i

pub met : IsLookLaw → (said : Said) (path : List (List ℕ)) (dirs : List LockKey) (end : WalkEnd) → GoesThrough (map_of said) path dirs → EndsAfter (map_of said) path (length dirs) end
    → ((h : Holdings) (t : Tree) → IsTreeOf (map_of said) h t → EndsInTree t path end) → MeetsWalk (live_in said) path dirs end
met law said path dirs end through ends tree = record {
  through = subst (λ m. GoesThrough m path dirs) (map_is law said) through;
  ends_after = subst (λ m. EndsAfter m path (length dirs) end) (map_is law said) ends;
  tree = λ f t s. tree (holdings_of (live_in said) f s.attributes) t (subst (λ m. IsTreeOf m (holdings_of (live_in said) f s.attributes) t) (sym (map_is law said)) (seen_tree s));
}

taken : (before rest : List (List ℕ)) → take (length before) (before ++ rest) ≡ before
taken [] [] = refl
taken [] (x ∷ rest) = refl
taken (x ∷ before) rest = ap (λ z. x ∷ z) (taken before rest)

last_got : (front : List LockKey) (x : LockKey) → slice_get (front ++ x ∷ []) (length front) ≡ Some x
last_got [] x = refl
last_got (y ∷ front) x = last_got front x

pub last_is : (path above : List (List ℕ)) (name : List ℕ) (dirs front : List LockKey) (parent : LockKey) → length dirs ≡ length path → path ≡ above ++ name ∷ [] → dirs ≡ front ++ parent ∷ []
    → (m : ItemMap) → GoesThrough m path dirs → IsLastStep m path parent name
last_is path above name dirs front parent same path_is dirs_is m through =
    let count : length front ≡ length above = omega (arith, same, ap length path_is, ap length dirs_is, length-append above (name ∷ []), length-append front (parent ∷ [])) in
    let got : slice_get dirs (length above) ≡ Some parent = ap (slice_get dirs) (sym count) ∙ ap (λ z. slice_get z (length front)) dirs_is ∙ last_got front parent in
    record {
      above = above;
      path_is = path_is;
      way = ap (node_at m) (sym (taken above (name ∷ [])) ∙ ap (take (length above)) (sym path_is)) ∙ through.node (length above) parent got;
      directory = through.kind (length above) parent got;
    }
