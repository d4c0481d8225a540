-- What a session in memory has to do with the items of its commits.
use Rattle.std.specs.Prelude.{◌≡◌, ℕ, ◌+◌, ◌<◌, ◌^◌, List, [], Some, Vec, length, vec_capacity, vec_len}
use Rattle.std.specs.Global.{Global}
use Rattle.std.specs.FinMap.{get}
use Rattle.fx_item.specs.Item.{PlainItem}
use Rattle.fx_item.specs.Look.{ItemMap, after, after_all, next_id, next_store}
use Rattle.fx_plain.specs.Bare.{bare}
use Rattle.fx_plain.specs.Tree.{Tree}
use Rattle.fx_plain.specs.declared.kind.Kind.{Kind}
use Rattle.fx_plain.specs.declared.kind.Kind.TheVariants as kinds
use Rattle.fx_plain.specs.declared.step.Step.{Step}
use Rattle.fx_plain.specs.declared.step.Step.TheVariants.{Mkdir, Create}
use Rattle.fx_namespace.specs.Nodes.{NodeId, node_at}
use Rattle.fx_namespace.specs.Commits.{IsBelow}
use Rattle.fx_record.specs.Record.{TransactionRecord, record_bytes}
use Rattle.fx_record.specs.Txns.{txns_of}
use Rattle.fx_history.specs.History.{tree_at}
use Rattle.fx_image.specs.Standing.{StandsFor}
use Rattle.fx_image.specs.Replay.{AreItemsOf}
use Rattle.fx_image.specs.Journal.{Journal, journal_id, journal_lists, journal_store}
use Rattle.fx_store.specs.Nodes.{NodeTable}
use Rattle.fx_store.specs.declared.commit.Numbers.{Numbers}
use Rattle.fx_store.specs.declared.commit.Commit.{Commit}
use Rattle.fx_store.specs.declared.opening.Contents.{Contents}
use Rattle.fx_store.specs.declared.session.Session.{Session}

-- The table has the node of each path that leads to one.
pub record KnowsNodes (items : ItemMap) (nodes : NodeTable) : Type 0 where
  pub knows : (path : List (List ℕ)) (node : NodeId) → node_at items path ≡ Some node
      → get nodes path ≡ Some node

-- The items stand for the tree, the table has their nodes, and the next numbers are above all that
-- they use.
pub record KnowsItems (items : ItemMap) (tree : Tree) (nodes : NodeTable) (next : Numbers)
    : Type 0 where
  pub stands : StandsFor items (bare tree)
  pub knows : KnowsNodes items nodes
  pub below : IsBelow items next.id next.store
  pub ids : next.id < 2 ^ 63
  pub stores : next.store + 1 < 2 ^ 32

-- The session has them so.
abbrev pub IsSession : ItemMap → Session → Type 0
IsSession items s = KnowsItems items s.tree s.nodes s.next

-- The session has what was read of a journal, and no commits.
pub record BeginsWith (c : Contents) (s : Session) : Type 0 where
  pub base : s.base ≡ c.base
  pub txns : s.txns ≡ c.txns
  pub tree : s.tree ≡ c.tree
  pub nodes : s.nodes ≡ c.nodes
  pub history : s.history.items ≡ []
  pub settled : s.settled ≡ 0
  pub next : s.next ≡ record { id = c.next_id; store = c.next_store }

-- The session may have noted a node, and its history may have more room: what items it stands for
-- it still does.
pub record HasNoted (s t : Session) : Type 0 where
  pub same : t ≡ record s { nodes = t.nodes; history = t.history }
  pub history : t.history.items ≡ s.history.items
  pub session : (items : ItemMap) → IsSession items s → IsSession items t

-- The history has room for one more entry, and there is room for the step in it.
pub record HasEntryRoom (s : Session) (room : Vec Step Global) : Type 0 where
  pub entry : vec_len s.history < vec_capacity s.history
  pub step : vec_len room < vec_capacity room
  pub empty : room.items ≡ []

-- the step that makes a node of this kind
abbrev pub new_step : Kind → List (List ℕ) → Step
new_step kinds.Dir path = Mkdir path
new_step kinds.File path = Create path

-- These are the items of the step, with these next numbers before it and after it, and the table
-- has the nodes that there are after it.
pub record IsPlan (items : ItemMap) (nodes : NodeTable) (before : Numbers) (step : Step)
    (list : List PlainItem) (after_it : Numbers) : Type 0 where
  pub are : AreItemsOf items before.id before.store step list
  pub knows : KnowsNodes (after items list) nodes
  pub id : after_it.id ≡ next_id before.id list
  pub store : after_it.store ≡ next_store before.store list

-- The commit has the record of such items, under its number.
pub record IsReadyCommit (items : ItemMap) (nodes : NodeTable) (before : Numbers) (step : Step)
    (commit : Commit) : Type 0 where
  pub list : List PlainItem
  pub plan : IsPlan items nodes before step list commit.next
  pub bytes : commit.record.items ≡ record_bytes (TransactionRecord commit.number list)

-- what stands after the journal's commits
abbrev pub items_now : Journal → ItemMap
items_now j = after_all (journal_lists j)

-- The session is that of the journal's commits.
pub record IsSessionOf (j : Journal) (s : Session) : Type 0 where
  pub base : s.base ≡ j.opening.base
  pub txns : txns_of s.txns ≡ j.opening.txns
  pub history : s.history.items ≡ j.commits.history
  pub settled : s.settled ≡ j.commits.marks
  pub tree : s.tree
      ≡ tree_at j.opening.tree j.commits.history (j.opening.base + length j.commits.history)
  pub knows : KnowsNodes (items_now j) s.nodes
  pub id : s.next.id ≡ journal_id j
  pub store : s.next.store ≡ journal_store j
