-- A step meets the same on two trees of names, where the nodes agree that its path meets.
use Rattle.std.proofs.Common.{◌≡◌, ◌⊎◌, inl, inr, ℕ, ◌+◌, Bool, true, false, cond, List, [], ◌∷◌, ◌++◌, Option, Some, None, refl, sym, ap, subst, ◌∙◌, append_assoc, length, is_some}
use Rattle.std.specs.Prelude.{Result, Ok, Err, nat_lt, option_and_then, option_map}
use Rattle.std.specs.FinMap.{get, insert}
use Rattle.std.proofs.lemmas.List.{append-nil}
use Rattle.std.proofs.lemmas.Map.Lookups.{btree_set_from_contains}
use Rattle.fx_plain.specs.Bare.{bare}
use Rattle.fx_plain.specs.Node.{Dir, File, Node, empty_dir, empty_file, written}
use Rattle.fx_plain.specs.Table.{create, do_step, list_at, mkdir, obstacle, or_else, place, read_at, stat_at, walk, walk_from, write_at}
use Rattle.fx_plain.specs.Tree.{Tree, children}
use Rattle.fx_plain.specs.declared.contents.TheConstants.{MAX_FILE}
use Rattle.fx_plain.specs.declared.kind.Kind.{Kind}
use Rattle.fx_plain.specs.declared.kind.Kind.TheVariants as kinds
use Rattle.fx_plain.specs.declared.step.Answer.{Answer}
use Rattle.fx_plain.specs.declared.step.Answer.TheVariants.{Done, Names, Stat}
use Rattle.fx_plain.specs.declared.step.Refusal.{Refusal}
use Rattle.fx_plain.specs.declared.step.Refusal.TheVariants.{TooLong}
use Rattle.fx_plain.specs.declared.step.Step.{Step}
use Rattle.fx_plain.specs.declared.step.Step.TheVariants.{Write, Read, List as ListStep, Stat as StatStep}
use Rattle.fx_plain.proofs.Children.{children_found, children_rise, names_exact, names_total}
use Rattle.fx_namespace.specs.Nodes.{NodeId, child, is_root, led_to, node_at, node_from, object_kind, root_node}
use Rattle.fx_namespace.specs.Trees.{IsTreeOf, node_of, shown}
use Rattle.fx_namespace.specs.Trees as holdings
use Rattle.fx_namespace.proofs.Walks.{more_step, node_from-append}
use Rattle.fx_parts.specs.Live.{AgreeAt, LiveMap, MakesNames, name_map}
use Rattle.fx_parts.specs.Plans.{ByList, ByRead, ByStat, IsOnPath, IsPathOf, LooksAt, OfCreate, OfMkdir, OfWrite}
use Rattle.fx_parts.proofs.Lives.{entry_agrees, object_agrees}

-- ---- what answers depend on

module _ (t u : Tree) where
  place_alike : (path : List (List ℕ)) (node : Node) (way : Option Refusal) (there : Option Node) → (place u path node way there).0 ≡ (place t path node way there).0
  place_alike path node (Some refusal) there = refl
  place_alike path node None (Some other) = refl
  place_alike path node None None = refl

  write_alike : (path : List (List ℕ)) (at : ℕ) (text : List ℕ) (way : Option Refusal) (there : Option Node) → (write_at u path at text way there).0 ≡ (write_at t path at text way there).0
  write_alike path at text (Some refusal) there = refl
  write_alike path at text None None = refl
  write_alike path at text None (Some (Dir attributes)) = refl
  write_alike path at text None (Some (File contents attributes)) = by (nat_lt MAX_FILE (at + length text))
    where
      by : (b : Bool) → (let a : Result Answer Refusal × Tree = cond b (Err TooLong, u) (Ok Done, insert u path (File (written at text contents) attributes)) in a).0
          ≡ (let a : Result Answer Refusal × Tree = cond b (Err TooLong, t) (Ok Done, insert t path (File (written at text contents) attributes)) in a).0
      by true = refl
      by false = refl

  list_alike : (path : List (List ℕ)) → children u path ≡ children t path → (way : Option Refusal) (there : Option Node) → list_at u path way there ≡ list_at t path way there
  list_alike path same (Some refusal) there = refl
  list_alike path same None None = refl
  list_alike path same None (Some (Dir attributes)) = ap (λ names. list_by names) same
    where
      list_by : List (List ℕ) → Result Answer Refusal
      list_by names = Ok (Names names)
  list_alike path same None (Some (File contents attributes)) = refl

  stat_alike : (path : List (List ℕ)) → children u path ≡ children t path → (way : Option Refusal) (there : Option Node) → stat_at u path way there ≡ stat_at t path way there
  stat_alike path same (Some refusal) there = refl
  stat_alike path same None None = refl
  stat_alike path same None (Some (Dir attributes)) = ap (λ names. stat_by names) same
    where
      stat_by : List (List ℕ) → Result Answer Refusal
      stat_by names = Ok (Stat kinds.Dir (length names) 0)
  stat_alike path same None (Some (File contents attributes)) = refl

  module _ (path : List (List ℕ)) (way : walk u path ≡ walk t path) (there : get u path ≡ get t path) (names : children u path ≡ children t path) where
    placed : (node : Node) → (place u path node (walk u path) (get u path)).0 ≡ (place t path node (walk t path) (get t path)).0
    placed node = place_alike path node (walk u path) (get u path) ∙ ap (λ w. (place t path node w (get u path)).0) way ∙ ap (λ o. (place t path node (walk t path) o).0) there

    written_alike : (at : ℕ) (text : List ℕ) → (do_step u (Write path at text)).0 ≡ (do_step t (Write path at text)).0
    written_alike at text = write_alike path at text (walk u path) (get u path) ∙ ap (λ w. (write_at t path at text w (get u path)).0) way ∙ ap (λ o. (write_at t path at text (walk t path) o).0) there

    read_alike : (at count : ℕ) → (do_step u (Read path at count)).0 ≡ (do_step t (Read path at count)).0
    read_alike at count = ap (λ w. read_at at count w (get u path)) way ∙ ap (λ o. read_at at count (walk t path) o) there

    listed_alike : (do_step u (ListStep path)).0 ≡ (do_step t (ListStep path)).0
    listed_alike = list_alike path names (walk u path) (get u path) ∙ ap (λ w. list_at t path w (get u path)) way ∙ ap (λ o. list_at t path (walk t path) o) there

    told_alike : (do_step u (StatStep path)).0 ≡ (do_step t (StatStep path)).0
    told_alike = stat_alike path names (walk u path) (get u path) ∙ ap (λ w. stat_at t path w (get u path)) way ∙ ap (λ o. stat_at t path (walk t path) o) there

  mkdir_alike : (path : List (List ℕ)) → walk u path ≡ walk t path → get u path ≡ get t path → children u path ≡ children t path → (mkdir u path).0 ≡ (mkdir t path).0
  mkdir_alike [] way there names = refl
  mkdir_alike (x ∷ xs) way there names = placed (x ∷ xs) way there names empty_dir

  create_alike : (path : List (List ℕ)) → walk u path ≡ walk t path → get u path ≡ get t path → children u path ≡ children t path → (create u path).0 ≡ (create t path).0
  create_alike [] way there names = refl
  create_alike (x ∷ []) way there names = refl
  create_alike (x ∷ y ∷ ys) way there names = placed (x ∷ y ∷ ys) way there names empty_file

  -- the names of a directory are those that lie in it
  children_alike : (path : List (List ℕ)) → ((name : List ℕ) → is_some (get u (path ++ name ∷ [])) ≡ is_some (get t (path ++ name ∷ []))) → children u path ≡ children t path
  children_alike path same = btree_set_from_contains names_total (record { keys = children u path }) (record { keys = children t path }) (children_rise u path) (children_rise t path)
      (λ name. children_found u path name ∙ same name ∙ sym (children_found t path name)) names_exact

-- ---- two maps that agree along a path

module _ (m n : LiveMap) (before after : Tree) (was : MakesNames m before) (is : MakesNames n after) (path : List (List ℕ))
    (agree : (node : NodeId) → IsOnPath (name_map m) path node → AgreeAt node m n) where
  -- a walk from a node that the path leads to on
  walk_alike : (front rest : List (List ℕ)) (node : NodeId) → path ≡ front ++ rest → node_at (name_map m) front ≡ Some node → (part more : List (List ℕ)) → rest ≡ part ++ more
      → node_from (name_map n) node part ≡ node_from (name_map m) node part
  walk_alike front rest node whole way [] more e = refl
  walk_alike front rest node whole way (name ∷ part) more e =
      ap (option_and_then (λ z. node_from (name_map n) z part)) same
      ∙ by (child (name_map m) node name) refl (λ next found.
      walk_alike (front ++ name ∷ []) (part ++ more) next (whole ∙ ap (λ r. front ++ r) e ∙ sym (append_assoc front (name ∷ []) (part ++ more))) (more_step (name_map m) front node name next way found) part more refl)
    where
      here : AgreeAt node m n
      here = agree node (record { before = front; rest = rest; path_is = whole; way = way })

      same : child (name_map n) node name ≡ child (name_map m) node name
      same = ap led_to (entry_agrees m n node name here)

      by : (o : Option NodeId) → child (name_map m) node name ≡ o → ((next : NodeId) → child (name_map m) node name ≡ Some next → node_from (name_map n) next part ≡ node_from (name_map m) next part)
          → option_and_then (λ z. node_from (name_map n) z part) (child (name_map m) node name) ≡ option_and_then (λ z. node_from (name_map m) z part) (child (name_map m) node name)
      by None found later = ap (option_and_then (λ z. node_from (name_map n) z part)) found ∙ sym (ap (option_and_then (λ z. node_from (name_map m) z part)) found)
      by (Some next) found later =
          ap (option_and_then (λ z. node_from (name_map n) z part)) found ∙ later next found
          ∙ sym (ap (option_and_then (λ z. node_from (name_map m) z part)) found)

  node_alike : (front rest : List (List ℕ)) → path ≡ front ++ rest → node_at (name_map n) front ≡ node_at (name_map m) front
  node_alike front rest whole = walk_alike [] (front ++ rest) root_node whole refl front rest refl

  shown_alike : (front rest : List (List ℕ)) → path ≡ front ++ rest → (o : Option NodeId) → node_at (name_map m) front ≡ o → option_and_then (shown (name_map n) holdings.bare) o ≡ option_and_then (shown (name_map m) holdings.bare) o
  shown_alike front rest whole None e = refl
  shown_alike front rest whole (Some node) e =
      ap (λ k. cond (is_root node) (Some empty_dir) (option_map (node_of holdings.bare node) k)) (object_agrees m n node (agree node (record { before = front; rest = rest; path_is = whole; way = e })))

  get_alike : (front rest : List (List ℕ)) → path ≡ front ++ rest → get (bare after) front ≡ get (bare before) front
  get_alike front rest whole =
      is.tree_is.at front ∙ ap (option_and_then (shown (name_map n) holdings.bare)) (node_alike front rest whole)
      ∙ shown_alike front rest whole (node_at (name_map m) front) refl ∙ sym (was.tree_is.at front)

  walks_alike : (front rest : List (List ℕ)) → path ≡ front ++ rest → walk_from (bare after) front rest ≡ walk_from (bare before) front rest
  walks_alike front [] whole = refl
  walks_alike front (name ∷ rest) whole =
      ap (λ o. or_else (obstacle o) (walk_from (bare after) (front ++ name ∷ []) rest)) (get_alike front (name ∷ rest) whole)
      ∙ ap (λ w. or_else (obstacle (get (bare before) front)) w) (walks_alike (front ++ name ∷ []) rest (whole ∙ sym (append_assoc front (name ∷ []) rest)))

  whole_path : path ≡ path ++ []
  whole_path = sym (append-nil path)

  -- what lies below the path's node
  below_alike : (name : List ℕ) → is_some (get (bare after) (path ++ name ∷ [])) ≡ is_some (get (bare before) (path ++ name ∷ []))
  below_alike name = below (node_at (name_map m) path) refl
    where
      -- what a child leads to is shown
      shown_some : (live : LiveMap) (t : Tree) → MakesNames live t → (node : NodeId) → node_at (name_map live) path ≡ Some node → (o : Option NodeId) → child (name_map live) node name ≡ o
          → is_some (get (bare t) (path ++ name ∷ [])) ≡ is_some o
      shown_some live t k node way o found = by o found
        where
          reached : node_at (name_map live) (path ++ name ∷ []) ≡ child (name_map live) node name
          reached = node_from-append (name_map live) root_node path (name ∷ []) ∙ ap (option_and_then (λ z. node_from (name_map live) z (name ∷ []))) way ∙ itself (child (name_map live) node name)
            where
              itself : (o : Option NodeId) → option_and_then (λ z. node_from (name_map live) z []) o ≡ o
              itself None = refl
              itself (Some z) = refl

          at : get (bare t) (path ++ name ∷ []) ≡ option_and_then (shown (name_map live) holdings.bare) (child (name_map live) node name)
          at = k.tree_is.at (path ++ name ∷ []) ∙ ap (option_and_then (shown (name_map live) holdings.bare)) reached

          there : (next : NodeId) (b : Bool) (kind : Option Kind) → (found : Kind) × (kind ≡ Some found) → is_some (cond b (Some empty_dir) (option_map (node_of holdings.bare next) kind)) ≡ true
          there next true kind f = refl
          there next false None f = absurd (none_kind f.0 f.1)
            where
              none_kind : (kind : Kind) → (let a : Option Kind = None in a ≡ Some kind) → ⊥
              none_kind kind e = cc
          there next false (Some kind) f = refl

          by : (o : Option NodeId) → child (name_map live) node name ≡ o → is_some (get (bare t) (path ++ name ∷ [])) ≡ is_some o
          by None e = ap is_some (at ∙ ap (option_and_then (shown (name_map live) holdings.bare)) e)
          by (Some next) e =
              ap is_some (at ∙ ap (option_and_then (shown (name_map live) holdings.bare)) e)
              ∙ there next (is_root next) (object_kind (name_map live) next) (k.stands.objects node name next e)

      -- nothing lies below a path that leads nowhere
      nowhere : (live : LiveMap) (t : Tree) → MakesNames live t → node_at (name_map live) path ≡ None → is_some (get (bare t) (path ++ name ∷ [])) ≡ false
      nowhere live t k none = ap is_some (k.tree_is.at (path ++ name ∷ [])
          ∙ ap (option_and_then (shown (name_map live) holdings.bare)) (node_from-append (name_map live) root_node path (name ∷ []) ∙ ap (option_and_then (λ z. node_from (name_map live) z (name ∷ []))) none))

      below : (o : Option NodeId) → node_at (name_map m) path ≡ o → is_some (get (bare after) (path ++ name ∷ [])) ≡ is_some (get (bare before) (path ++ name ∷ []))
      below None e = nowhere n after is (node_alike path [] whole_path ∙ e) ∙ sym (nowhere m before was e)
      below (Some node) e =
          let here = agree node (record { before = path; rest = []; path_is = whole_path; way = e }) in
          let same : child (name_map n) node name ≡ child (name_map m) node name = ap led_to (entry_agrees m n node name here) in
          shown_some n after is node (node_alike path [] whole_path ∙ e) (child (name_map m) node name) same ∙ sym (shown_some m before was node e (child (name_map m) node name) refl)

  way_alike : walk (bare after) path ≡ walk (bare before) path
  way_alike = walks_alike [] path refl

  there_alike : get (bare after) path ≡ get (bare before) path
  there_alike = get_alike path [] whole_path

  names_alike : children (bare after) path ≡ children (bare before) path
  names_alike = children_alike (bare before) (bare after) path below_alike

abbrev Alike : Tree → Tree → Step → Type 0
Alike t u step = (do_step u step).0 ≡ (do_step t step).0

pub looks_alike : (m n : LiveMap) (before after : Tree) → MakesNames m before → MakesNames n after → (step : Step) (path : List (List ℕ)) → IsPathOf step path ⊎ LooksAt step path
    → ((node : NodeId) → IsOnPath (name_map m) path node → AgreeAt node m n) → Alike (bare before) (bare after) step
looks_alike m n before after was is step path about agree = by about
  where
    way : walk (bare after) path ≡ walk (bare before) path
    way = way_alike m n before after was is path agree

    there : get (bare after) path ≡ get (bare before) path
    there = there_alike m n before after was is path agree

    names : children (bare after) path ≡ children (bare before) path
    names = names_alike m n before after was is path agree

    by : IsPathOf step path ⊎ LooksAt step path → Alike (bare before) (bare after) step
    by (inl (OfMkdir e)) = subst (Alike (bare before) (bare after)) (sym e) (mkdir_alike (bare before) (bare after) path way there names)
    by (inl (OfCreate e)) = subst (Alike (bare before) (bare after)) (sym e) (create_alike (bare before) (bare after) path way there names)
    by (inl (OfWrite at text e)) = subst (Alike (bare before) (bare after)) (sym e) (written_alike (bare before) (bare after) path way there names at text)
    by (inr (ByRead at count e)) = subst (Alike (bare before) (bare after)) (sym e) (read_alike (bare before) (bare after) path way there names at count)
    by (inr (ByList e)) = subst (Alike (bare before) (bare after)) (sym e) (listed_alike (bare before) (bare after) path way there names)
    by (inr (ByStat e)) = subst (Alike (bare before) (bare after)) (sym e) (told_alike (bare before) (bare after) path way there names)
