-- A walk meets the same nodes in two maps that agree at the nodes that it walks, and a step that is
-- planned over one is planned over the other.
use Rattle.std.proofs.Common.{◌≡◌, ◌⊎◌, inl, inr, ℕ, List, [], ◌∷◌, ◌++◌, Some, refl, sym, ap, ◌∙◌, append_assoc}
use Rattle.std.specs.Prelude.{option_and_then}
use Rattle.std.proofs.lemmas.Option.{option_and_then_some}
use Rattle.fx_item.specs.Item.{PlainItem}
use Rattle.fx_item.specs.declared.lock.Mode.{Mode}
use Rattle.fx_item.specs.declared.lock.Mode.TheVariants.{Share, Change}
use Rattle.fx_plain.specs.declared.kind.Kind.{Kind}
use Rattle.fx_plain.specs.declared.kind.Kind.TheVariants as kinds
use Rattle.fx_plain.specs.declared.step.Step.{Step}
use Rattle.fx_plain.specs.declared.step.Step.TheVariants.{Mkdir, Create}
use Rattle.fx_namespace.specs.Nodes.{NodeId, child, led_to, node_at, node_from, root_node}
use Rattle.fx_namespace.proofs.Walks.{more_step}
use Rattle.fx_parts.specs.Live.{AgreeAt, LiveMap, name_map}
use Rattle.fx_parts.specs.Parts.{Reservation}
use Rattle.fx_parts.specs.Plans.{IsPathOf, IsPlanKey, IsPlanOf, IsRoomFor, IsWalkedBy, KeyOfFile, KeyOfParent, KeyOfWay, OfCreate, OfMkdir, OfWrite, PlansDirectory, PlansFile, PlansWrite}
use Rattle.fx_parts.proofs.Lives.{entry_agrees, kind_agrees, object_agrees}

module _ (m n : LiveMap) where
  -- they agree at each node that the path goes through
  abbrev pub AgreeAlong : List (List ℕ) → Type 0
  AgreeAlong path = (node : NodeId) → IsWalkedBy (name_map m) path node → AgreeAt node m n

  -- a walk from a node that the path leads to on
  same_from : (path before rest : List (List ℕ)) (node last : NodeId) → AgreeAlong path → path ≡ before ++ rest → node_at (name_map m) before ≡ Some node → node_from (name_map m) node rest ≡ Some last
      → node_from (name_map n) node rest ≡ Some last
  same_from path before [] node last agree is way e = e
  same_from path before (name ∷ rest) node last agree is way e =
      let same : child (name_map n) node name ≡ child (name_map m) node name = ap led_to (entry_agrees m n node name (agree node (record { before = before; name = name; rest = rest; path_is = is; way = way }))) in
      option_and_then_some (λ z. node_from (name_map m) z rest) (child (name_map m) node name) last e (λ next found more.
      ap (option_and_then (λ z. node_from (name_map n) z rest)) (same ∙ found)
      ∙ same_from path (before ++ name ∷ []) rest next last agree (is ∙ sym (append_assoc before (name ∷ []) rest)) (more_step (name_map m) before node name next way found) more)

  pub same_at : (path : List (List ℕ)) (node : NodeId) → AgreeAlong path → node_at (name_map m) path ≡ Some node → node_at (name_map n) path ≡ Some node
  same_at path node agree e = same_from path [] path root_node node agree refl refl e

  -- the nodes above a path are walked by it
  pub along_above : (above : List (List ℕ)) (name : List ℕ) → AgreeAlong (above ++ name ∷ []) → AgreeAlong above
  along_above above name agree node w = agree node (record {
    before = w.before;
    name = w.name;
    rest = w.rest ++ name ∷ [];
    path_is = ap (λ z. z ++ name ∷ []) w.path_is ∙ append_assoc w.before (w.name ∷ w.rest) (name ∷ []);
    way = w.way;
  })

  module _ (step : Step) (keys : (node : NodeId) (mode : Mode) → IsPlanKey (name_map m) step node mode → AgreeAt node m n) where
    along : (path : List (List ℕ)) → IsPathOf step path → AgreeAlong path
    along path is node walked = keys node Share (KeyOfWay path is walked refl)

    room_kept : (r : Reservation) (above : List (List ℕ)) (name : List ℕ) (parent node : NodeId) (kind : Kind) → (step ≡ Mkdir (above ++ name ∷ [])) ⊎ (step ≡ Create (above ++ name ∷ [])) → IsPathOf step (above ++ name ∷ [])
        → IsRoomFor (name_map m) r above name parent node kind → IsRoomFor (name_map n) r above name parent node kind
    room_kept r above name parent node kind is path k =
        let here : AgreeAt parent m n = keys parent Change (KeyOfParent above name is k.way refl) in
        record {
          depth = k.depth;
          way = same_at above parent (along_above above name (along (above ++ name ∷ []) path)) k.way;
          directory = kind_agrees m n parent here ∙ k.directory;
          free = entry_agrees m n parent name here ∙ k.free;
          next = k.next;
          given = k.given;
        }

    pub plan_kept : (r : Reservation) (items : List PlainItem) → IsPlanOf (name_map m) r step items → IsPlanOf (name_map n) r step items
    plan_kept r items (PlansDirectory above name parent node is room are) = PlansDirectory above name parent node is (room_kept r above name parent node kinds.Dir (inl is) (OfMkdir is) room) are
    plan_kept r items (PlansFile above name parent node is below room are) = PlansFile above name parent node is below (room_kept r above name parent node kinds.File (inr is) (OfCreate is) room) are
    plan_kept r items (PlansWrite path at text node is small way file are) =
        PlansWrite path at text node is small (same_at path node (along path (OfWrite at text is)) way)
        (object_agrees m n node (keys node Change (KeyOfFile path at text is way refl)) ∙ file) are
