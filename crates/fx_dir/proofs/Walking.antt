-- A walk along a path, name by name.
use Rattle.std.proofs.Common.{◌≡◌, ◌⊎◌, inl, inr, ℕ, ◌+◌, ◌<◌, ◌≤◌, ◌++◌, List, [], ◌∷◌, length, length-append, take, refl, sym, ap, ◌∙◌, arith, get_or, add-one, Bool, true, false, cond, suc}
use Rattle.std.specs.Prelude.{Option, Some, None, option_map, option_and_then, nat_lt}
use Rattle.std.proofs.Math.Seq.{take-suc}
use Rattle.std.proofs.lemmas.Bool.Decides.{leb_tells}
use Rattle.std.proofs.lemmas.List.{take_all}
use Rattle.std.proofs.lemmas.Option.{some_pair_parts}
use Rattle.fx_base.proofs.Lists.{got_split}
use Rattle.fx_item.specs.Look.{ItemMap}
use Rattle.fx_item.specs.declared.lock.LockKey.{LockKey}
use Rattle.fx_plain.specs.declared.kind.Kind.{Kind}
use Rattle.fx_plain.specs.declared.kind.Kind.TheVariants.{Dir, File}
use Rattle.fx_plain.specs.contracts.kind.Kind as contracts
use Rattle.fx_plain.specs.declared.step.Refusal.TheVariants.{NotFound, NotDir}
use denote.Enum.Bare.{sameb}
use Rattle.fx_namespace.specs.Nodes.{child, kind_at, kind_of, node_from, node_at, root_node}
use Rattle.fx_namespace.proofs.Walks.{node_from-append}
use Rattle.fx_dir.specs.declared.walk.WalkEnd.TheVariants.{Node, Missing, Stopped}
use Rattle.fx_dir.specs.Walk.{child_with_kind, EndsAfter, GoesThrough, refusal_of, with_kind}

-- after the first i names: the directories so far, and the node with its kind
pub record IsWalkTo (m : ItemMap) (path : List (List ℕ)) (i : ℕ) (dirs : List LockKey) (at : LockKey) (kind : Kind) : Type 0 where
  pub through : GoesThrough m path dirs
  pub count : length dirs ≡ i
  pub node : node_at m (take i path) ≡ Some at
  pub is_kind : kind_of m at ≡ Some kind

-- what is no file is a directory
pub is_dir : (kind : Kind) → false ≡ sameb contracts.the_type kind File → kind ≡ Dir
is_dir Dir e = refl
is_dir File e = absurd (cc e)

pub is_file : (kind : Kind) → true ≡ sameb contracts.the_type kind File → kind ≡ File
is_file Dir e = absurd (cc e)
is_file File e = refl

module _ {m : ItemMap} {path : List (List ℕ)} {i : ℕ} {dirs : List LockKey} {at : LockKey} {kind : Kind} (w : IsWalkTo m path i dirs at kind) where
  pub ends_at_file : kind ≡ File → i < length path → EndsAfter m path (length dirs) (Stopped NotDir)
  ends_at_file file less =
      let here : kind_at m (take (length dirs) path) ≡ Some File =
      ap (λ n. kind_at m (take n path)) w.count ∙ ap (option_and_then (kind_of m)) w.node ∙ w.is_kind ∙ ap Some file in
      (omega (arith, w.count), ap refusal_of here)

  pub ends_at_node : length path ≤ i → i ≤ length path → EndsAfter m path (length dirs) (Node at kind)
  ends_at_node over under = (omega (arith, w.count), ap (node_at m) (sym (take_all i path over)) ∙ w.node, w.is_kind)

  module _ (dir : kind ≡ Dir) where
    pub through_one_more : GoesThrough m path (dirs ++ at ∷ [])
    through_one_more = record {
      node = λ j d e. elim (got_split dirs at j d e) [
        | inl a ↦ w.through.node j d a
        | inr a ↦ ap (λ n. node_at m (take n path)) (a.0 ∙ w.count) ∙ w.node ∙ ap Some a.1
      ];
      kind = λ j d e. elim (got_split dirs at j d e) [
        | inl a ↦ w.through.kind j d a
        | inr a ↦ ap (kind_of m) (sym a.1) ∙ w.is_kind ∙ ap Some dir
      ];
    }

    more_dirs : length (dirs ++ at ∷ []) ≡ i + 1
    more_dirs = length-append dirs (at ∷ []) ∙ ap (λ n. n + 1) w.count

    -- the node after one more name
    next_node : (name : List ℕ) → i < length path → name ≡ get_or path i name → node_at m (take (i + 1) path) ≡ child m at name
    next_node name less is =
        let parts : take (i + 1) path ≡ take i path ++ name ∷ [] =
        ap (λ n. take n path) (add-one i) ∙ take-suc path i name less ∙ ap (λ n. take i path ++ n ∷ []) (sym is) in
        ap (node_at m) parts ∙ node_from-append m root_node (take i path) (name ∷ []) ∙ ap (option_and_then (λ z. node_from m z (name ∷ []))) w.node ∙ same (child m at name)
      where
        same : (o : Option LockKey) → option_and_then (λ z. Some z) o ≡ o
        same None = refl
        same (Some z) = refl

    missing : (o : Option LockKey) → with_kind m o ≡ None → option_and_then (kind_of m) o ≡ None
    missing None e = refl
    missing (Some z) e = no_kind (kind_of m z) e
      where
        no_kind : (k : Option Kind) → option_map {U = LockKey × Kind} (λ q. (z, q)) k ≡ None → k ≡ None
        no_kind None e = refl
        no_kind (Some q) e = absurd (cc)

    found : (o : Option LockKey) (next : LockKey) (k : Kind) → with_kind m o ≡ Some (next, k) → (o ≡ Some next) × (kind_of m next ≡ Some k)
    found None next k e = absurd (cc)
    found (Some z) next k e = by_kind (kind_of m z) refl e
      where
        by_kind : (q : Option Kind) → kind_of m z ≡ q → option_map {U = LockKey × Kind} (λ k. (z, k)) q ≡ Some (next, k) → (Some z ≡ Some next) × (kind_of m next ≡ Some k)
        by_kind None is e = absurd (cc)
        by_kind (Some q) is e = let p = some_pair_parts z next q k e in (ap Some p.0, ap (kind_of m) (sym p.0) ∙ is ∙ ap Some p.1)

    pub one_more : (name : List ℕ) (next : LockKey) (k : Kind) → i < length path → name ≡ get_or path i name → child_with_kind m at name ≡ Some (next, k) → IsWalkTo m path (i + 1) (dirs ++ at ∷ []) next k
    one_more name next k less is e =
        let f = found (child m at name) next k e in
        record { through = through_one_more; count = more_dirs; node = next_node name less is ∙ f.0; is_kind = f.1 }

    pub ends_missing : (name : List ℕ) → i < length path → name ≡ get_or path i name → child_with_kind m at name ≡ None
        → EndsAfter m path (length (dirs ++ at ∷ [])) (cond (nat_lt (i + 1) (length path)) (Stopped NotFound) Missing)
    ends_missing name less is e = by_test (nat_lt (i + 1) (length path)) (leb_tells (suc (i + 1)) (length path))
      where
        nothing : kind_at m (take (i + 1) path) ≡ None
        nothing = ap (option_and_then (kind_of m)) (next_node name less is) ∙ missing (child m at name) e

        by_test : (b : Bool) → ((b ≡ true) × (suc (i + 1) ≤ length path)) ⊎ ((b ≡ false) × (length path < suc (i + 1))) → EndsAfter m path (length (dirs ++ at ∷ [])) (cond b (Stopped NotFound) Missing)
        by_test true (inl a) = (omega (arith, more_dirs, a.1), ap refusal_of (ap (λ n. kind_at m (take n path)) more_dirs ∙ nothing))
        by_test true (inr a) = absurd (cc a.0)
        by_test false (inl a) = absurd (cc a.0)
        by_test false (inr a) = (omega (arith, more_dirs, a.1), ap (kind_at m) (sym (take_all (i + 1) path (omega (arith, a.1)))) ∙ nothing)
