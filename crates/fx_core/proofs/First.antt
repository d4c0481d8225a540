-- The core of an image without transactions that was just mounted.
use Rattle.std.proofs.Common.{◌≡◌, ℕ, ◌+◌, List, [], ◌∷◌, length, refl, sym, ap, subst, ◌∙◌, arith}
use Rattle.std.specs.Prelude.{Option, None, Some, option_and_then}
use Rattle.std.specs.FinMap as finite
use Rattle.std.specs.FinMap.{get-empty, get-insert}
use Rattle.fx_item.specs.Look.{ItemMap}
use Rattle.fx_plain.specs.Node.{empty_dir}
use Rattle.fx_plain.specs.Tree.{path_cmp, root}
use Rattle.fx_plain.proofs.Paths.{paths_total}
use Rattle.fx_namespace.specs.Nodes.{NodeId, Stands, node_at, node_from, root_node}
use Rattle.fx_namespace.specs.Trees as holdings
use Rattle.fx_namespace.specs.Trees.{IsTreeOf}
use Rattle.fx_disk.specs.Seen.{DiskSeen}
use Rattle.fx_pool.specs.Region.{Region}
use Rattle.fx_super.specs.Super.{Fields, KeepsRules}
use Rattle.fx_journal.specs.Ring.{RingState}
use Rattle.fx_layerset.specs.Levels.{SetLevels}
use Rattle.fx_log.specs.Chosen.{layers_of, next_generation, start_of}
use Rattle.fx_record.specs.Txns.{Nothing}
use Rattle.fx_supers.specs.Supers.{Supers, only_supers}
use Rattle.fx_image.specs.Standing.{HasSessionRoom, StandsFor}
use Rattle.fx_image.specs.Journal.{IsJournal, IsReading, new_journal}
use Rattle.fx_image.specs.Mounted.{IsMounted}
use Rattle.fx_image.proofs.JournalStart.{journal-new, stands-bare}
use Rattle.fx_image.proofs.MountCalls.{log-raised, uncut-raised}
use Rattle.fx_image.proofs.Mounted.{mounted-new}
use Rattle.fx_numbers.specs.State.{lists_in}
use Rattle.fx_numbers.specs.declared.given.Found.{Found}
use Rattle.fx_super.specs.Chosen.{other}
use Rattle.fx_core.specs.Core.{BeginsCore, IsFirstDisk}
use Rattle.fx_core.specs.Tail.{HasRingBuffers}

-- ---- no item stands for the root

abbrev nothing : ItemMap
nothing key = None

none_some : {X : Type 0} (x : X) → (let a : Option X = None in a ≡ Some x) → ⊥
none_some x e = cc

walk_nothing : (path : List (List ℕ)) (node : NodeId) → node_from nothing root_node path ≡ Some node → path ≡ []
walk_nothing [] node e = refl
walk_nothing (x ∷ path) node e = absurd (none_some node e)

stands_nothing : Stands nothing
stands_nothing = record {
  volumes = λ name value e. absurd (none_some value e);
  inner = λ node name value ne e. absurd (none_some value e);
  objects = λ node name next e. absurd (none_some next e);
  tops = λ name next e. absurd (none_some next e);
  parents = λ node name value ne e. absurd (none_some value e);
  once = λ a b x y next e f. absurd (none_some next e);
  reached = λ node value e. absurd (none_some value e);
  depth = λ path node e. omega (arith, ap length (walk_nothing path node e));
}

at_root : (path : List (List ℕ)) → finite.get root path ≡ option_and_then (holdings.shown nothing holdings.bare) (node_at nothing path)
at_root [] = get-insert paths_total finite.empty [] empty_dir []
at_root (x ∷ path) = get-insert paths_total finite.empty [] empty_dir (x ∷ path) ∙ get-empty path_cmp (x ∷ path)

stands_root : StandsFor nothing root
stands_root = record { stands = stands_nothing; tree_is = record { at = at_root } }

-- ---- the first core

module _ (seen : DiskSeen) (f : Fields) (disk : IsFirstDisk seen f) (rules : KeepsRules f) (next_rules : KeepsRules (next_generation f)) (blocks : f.blocks ≡ seen.size) (none : layers_of f ≡ []) (room : HasSessionRoom f [])
    (found : Found) (kept : found.kept ≡ f.base) (base : found.base ≡ f.base) (found_blocks : found.blocks ≡ seen.size) (ids : found.ids ≡ f.next_id) (stores : found.stores ≡ f.next_store) (faults : found.faults ≡ seen.faults) (size : found.ring ≡ f.ring)
    (levels : SetLevels) (empty : lists_in levels ≡ []) (ring : RingState) (pool : Region)
    (ring_is : ring ≡ record { start = start_of f; size = f.ring; epoch = f.generation + 1; closed = 0; chain = (start_of f).chain; text = []; promised = 0; queued = 0; buffers = [] }) (buffers : HasRingBuffers ring pool) where
  reading : IsReading seen.size f.base f [] (start_of f) []
  reading = record {
    head = record { rules = rules; blocks = blocks; series = refl };
    layers = none;
    txns_are = record { records = []; read = Nothing; ordered = refl; txns_are = refl };
    base_is = omega arith;
    room = room;
  }

  abbrev first_supers : Supers
  first_supers = only_supers (next_generation f) (other disk.which)

  first_journal : IsJournal (new_journal seen.size seen.calls root f.base f [] (start_of f) [] first_supers) seen.calls
  first_journal = journal-new seen.size seen.calls root f.base f [] (start_of f) [] reading first_supers
      (log-raised seen.size seen.calls root f.base f [] (start_of f) [] reading (omega arith) disk.which next_rules) (uncut-raised f (other disk.which)) seen.calls stands_root

  pub first_begins : BeginsCore seen seen.calls [] found levels ring pool
  first_begins = record {
    tree = root;
    super = f;
    read = [];
    place = start_of f;
    supers = first_supers;
    stands = stands_root;
    is_bare = stands-bare nothing root stands_root;
    mounted = subst (λ (k : ℕ). IsMounted (new_journal seen.size seen.calls root k f [] (start_of f) [] first_supers) seen ring pool) (sym kept)
        (mounted-new seen.size seen.calls root f.base f [] (start_of f) [] (other disk.which) seen ring pool first_journal disk.on_disk ring_is);
    lists = empty;
    ids = ids;
    stores = stores;
    unused = λ node given point here. ap (λ (ls : List (List Rattle.fx_item.specs.Item.PlainItem)). Rattle.fx_parts.specs.Live.live_in_lists ls point) empty;
    base = base;
    blocks = found_blocks;
    faults = faults;
    size = size ∙ ap (λ (r : RingState). r.size) (sym ring_is);
    buffers = buffers;
    promised = ap (λ (r : RingState). r.promised) ring_is;
    queued = ap (λ (r : RingState). r.queued) ring_is;
    text = ap (λ (r : RingState). r.text) ring_is;
  }
