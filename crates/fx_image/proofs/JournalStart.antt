-- The journal of a disk that was just mounted.
use Rattle.std.proofs.Common.{◌≡◌, ℕ, true, false, List, refl, sym, ◌∙◌, ap, arith, append-nil}
use Rattle.std.specs.Prelude.{Option, Some, None, option_and_then, option_map, if◌then◌else◌}
use Rattle.std.specs.FinMap.{same_map}
use Rattle.std.proofs.lemmas.List.Elements.{All-nil}
use Rattle.fx_item.specs.Look.{ItemMap, next_id_after, next_store_after}
use Rattle.fx_plain.specs.Node.{empty_dir}
use Rattle.fx_plain.specs.Tree.{Tree}
use Rattle.fx_plain.specs.Bare.{bare, bare_node}
use Rattle.fx_plain.specs.declared.kind.Kind.{Kind}
use Rattle.fx_plain.specs.declared.kind.Kind.TheVariants as kinds
use Rattle.fx_plain.proofs.Bare.{get-bare}
use Rattle.fx_plain.proofs.Paths.{paths_total, paths_exact}
use Rattle.fx_namespace.specs.Nodes.{NodeId, is_root, object_kind, node_at}
use Rattle.fx_namespace.specs.Trees as trees
use Rattle.fx_history.proofs.Histories.{legal_none}
use Rattle.fx_history.proofs.Settling.{first_none}
use Rattle.fx_jblock.specs.declared.Start.{Start}
use Rattle.fx_journal.specs.declared.stream.StreamBlock.{StreamBlock}
use Rattle.fx_record.specs.Commits.{IsCommit}
use Rattle.fx_super.specs.Super.{Fields}
use Rattle.fx_image.specs.Standing.{Transactions, StandsFor, items_after, lists_of}
use Rattle.fx_supers.specs.Supers.{Supers}
use Rattle.fx_supers.specs.SessionLog.{IsSessionLog, bare_session}
use Rattle.fx_image.specs.Journal.{IsJournal, IsReading, IsUncut, new_journal}
use Rattle.fx_image.proofs.Replay.{replay_none}

-- ---- a tree that items stand for has files that hold nothing

bare-kind : (node : NodeId) (kind : Option Kind) → option_map bare_node (option_map (trees.node_of trees.bare node) kind) ≡ option_map (trees.node_of trees.bare node) kind
bare-kind node None = refl
bare-kind node (Some kinds.Dir) = refl
bare-kind node (Some kinds.File) = refl

bare-shown : (m : ItemMap) (node : NodeId) → option_map bare_node (trees.shown m trees.bare node) ≡ trees.shown m trees.bare node
bare-shown m node =
    elim (is_root node) as (λ t. option_map bare_node (if t then Some empty_dir else option_map (trees.node_of trees.bare node) (object_kind m node)) ≡ (if t then Some empty_dir else option_map (trees.node_of trees.bare node) (object_kind m node)))
    [ true ↦ refl | false ↦ bare-kind node (object_kind m node) ]

bare-at : (m : ItemMap) (o : Option NodeId) → option_map bare_node (option_and_then (trees.shown m trees.bare) o) ≡ option_and_then (trees.shown m trees.bare) o
bare-at m None = refl
bare-at m (Some node) = bare-shown m node

pub stands-bare : (m : ItemMap) (tree : Tree) → StandsFor m tree → tree ≡ bare tree
stands-bare m tree s = same_map paths_total paths_exact tree (bare tree)
    (λ path. s.tree_is.at path ∙ sym (bare-at m (node_at m path)) ∙ ap (option_map bare_node) (sym (s.tree_is.at path)) ∙ sym (get-bare tree path))

-- ---- the journal

module _ (size from : ℕ) (tree : Tree) (base : ℕ) (super : Fields) (read : List StreamBlock) (place : Start) (txns : Transactions) (reading : IsReading size base super read place txns) (supers : Supers)
    (log : IsSessionLog (bare_session size from (record { super = super; read = read; place = place }) supers)) (uncut : IsUncut super supers) where
  pub journal-new : (calls : ℕ) → StandsFor (items_after txns) tree → IsJournal (new_journal size from tree base super read place txns supers) calls
  journal-new calls stands = record {
    reading = reading;
    log = log;
    uncut = uncut;
    records = record { each = All-nil IsCommit; joined = refl };
    marked = record { few = omega arith; first = first_none; by_now = λ i d lt. absurd (omega arith); whole = omega arith };
    few = record {
      few = omega arith;
      ids = omega (arith, ap (next_id_after super.next_id) (append-nil (lists_of txns)));
      stores = omega (arith, ap (next_store_after super.next_store) (append-nil (lists_of txns)));
    };
    legal = legal_none tree base;
    replays = replay_none tree base txns stands (stands-bare (items_after txns) tree stands);
  }
