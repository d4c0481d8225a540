-- The items of a line that writes or cuts one file, point by point.
use Rattle.std.proofs.Common.{◌≡◌, ◌≢◌, inl, inr, ℕ, zero, suc, ◌+◌, ◌-◌, ◌*◌, ◌/◌, ◌<◌, ◌≤◌, ◌==◌, ◌&&◌, ◌||◌, Bool, true, false, cond, List, [], ◌∷◌, ◌++◌, map, length, nat_eq, Option, Some, None, refl, sym, ap, subst, ◌∙◌, arith, eqb-true, eq-eqb}
use Rattle.std.specs.Prelude.{◌⊎◌, ◌↔◌, nat_le, nat_lt, option_map, option_to_list, slice_get}
use Rattle.std.specs.List.{find, list_any}
use Rattle.std.proofs.lemmas.Bool.{and_from, and_parts, and_right, cases_Bool, cases_lt, le-leb, le-ltb, lt-ltb, ltb-true, ne_eqb}
use Rattle.std.proofs.lemmas.Option.{slice_get-map}
use Rattle.fx_item.specs.Item.{PlainKey, ObjectKey, AttributeKey, ExtentKey, ChildKey, GraveKey, AllocationKey, FileValue, GoneValue, PlainItem, PlainValue}
use Rattle.fx_item.specs.Overlay.{Point, AtKey, AtFileBlock, AtDeviceBlock, Entry, ValueEntry, BlockEntry, Said, covers, or_older, says, same_key}
use Rattle.fx_plain.specs.Node.{covered}
use Rattle.fx_base.specs.declared.block.TheConstants.{BLOCK_BYTES}
use Rattle.fx_namespace.specs.Nodes.{NodeId}
use Rattle.fx_contents.specs.Cuts.{IsEdge, IsFront, SaysCut, cut_block}
use Rattle.fx_contents.specs.Files.{blocks_for}
use Rattle.fx_contents.specs.Points.{Points, device_block, named, unless_waiting, value_under}
use Rattle.fx_contents.specs.Rewrites.{IsBeside}
use Rattle.fx_contents.specs.Staged.{SaysWrite, StagedBlock}
use Rattle.fx_contents.specs.Standing.{AreWithin}
use Rattle.fx_contents.specs.Writes.{is_covered}
use Rattle.fx_contents.proofs.FileBytes.{contains-covered}
use Rattle.fx_extent.specs.Allocations.{AreAllocationsOf, said_by}
use Rattle.fx_extent.specs.Listed.{AreCut, file_items, file_said, gone_item, staged_blocks, place_said}
use Rattle.fx_extent.specs.Staged.{AreExtentsOf, AreInPlaces, new_entry, said_of}
use Rattle.fx_extent.specs.Touched.{is_between, is_cut_inside}
use Rattle.fx_extent.specs.declared.storing.NewBlock.{NewBlock}
use Rattle.fx_extent.proofs.Chains.{says_append}

-- ---- what the list says

abbrev unsaid : Option (Option Entry)
unsaid = None

abbrev no_entry : Option (Option Entry)
no_entry = Some None

-- the places that are taken away
gone_file : (node : NodeId) (from to s i n : ℕ) → says (option_to_list (gone_item node from to)) (AtFileBlock s i n)
    ≡ cond ((node.store == s) && (node.id == i)) (cond (is_between from to n) (Some None) None) None
gone_file node from to s i n = by (nat_lt from to) refl (node.store == s) (node.id == i)
  where
    inside : (a b l h : Bool) → cond (((a && b) && l) && h) no_entry unsaid ≡ cond (a && b) (cond (l && h) no_entry unsaid) unsaid
    inside true true l h = refl
    inside true false l h = refl
    inside false b l h = refl

    nothing : (t : Bool) → unsaid ≡ cond t unsaid unsaid
    nothing true = refl
    nothing false = refl

    by : (t : Bool) → nat_lt from to ≡ t → (a b : Bool)
        → says (option_to_list (cond t (Some (record { key = ExtentKey node.store node.id from to; value = GoneValue })) None)) (AtFileBlock s i n)
        ≡ cond ((node.store == s) && (node.id == i)) (cond (is_between from to n) (Some None) None) None
    by true e a b = inside (node.store == s) (node.id == i) (nat_le from n) (nat_lt n to)
    by false e a b =
        let none : is_between from to n ≡ false = grind (arith, e) in
        nothing ((node.store == s) && (node.id == i)) ∙ sym (ap (λ t. cond ((node.store == s) && (node.id == i)) (cond t (Some None) None) None) none)

gone_key : (node : NodeId) (from to : ℕ) (key : PlainKey) → says (option_to_list (gone_item node from to)) (AtKey key) ≡ None
gone_key node from to key = by (nat_lt from to) key
  where
    by : (t : Bool) (key : PlainKey) → says (option_to_list (cond t (Some (record { key = ExtentKey node.store node.id from to; value = GoneValue })) None)) (AtKey key) ≡ None
    by false key = refl
    by true (ObjectKey s i) = refl
    by true (AttributeKey s i name) = refl
    by true (ExtentKey s i start stop) = refl
    by true (ChildKey s i name) = refl
    by true (GraveKey s i) = refl
    by true (AllocationKey start stop) = refl

gone_device : (node : NodeId) (from to b : ℕ) → says (option_to_list (gone_item node from to)) (AtDeviceBlock b) ≡ None
gone_device node from to b = by (nat_lt from to)
  where
    by : (t : Bool) → says (option_to_list (cond t (Some (record { key = ExtentKey node.store node.id from to; value = GoneValue })) None)) (AtDeviceBlock b) ≡ None
    by true = refl
    by false = refl

alone : (o : Option (Option Entry)) → or_older o None ≡ o
alone None = refl
alone (Some x) = refl

module _ (node : NodeId) (len from to : ℕ) (blocks : List NewBlock) (taken freed : List ℕ) (extents allocations : List PlainItem)
    (e : AreExtentsOf node blocks extents) (a : AreAllocationsOf taken freed allocations) where
  gone : List PlainItem
  gone = option_to_list (gone_item node from to)

  rest_says : (p : Point) → says (extents ++ option_to_list (gone_item node from to) ++ allocations) p ≡ or_older (or_older (said_of node blocks p) (says (option_to_list (gone_item node from to)) p)) (said_by taken freed p)
  rest_says p = says_append (extents ++ option_to_list (gone_item node from to)) allocations p
      ∙ (λ j. or_older (says_append extents (option_to_list (gone_item node from to)) p j) (a.said p j))
      ∙ ap (λ o. or_older (or_older o (says (option_to_list (gone_item node from to)) p)) (said_by taken freed p)) (e.said p)

  pub items_said : (p : Point) → says (file_items node len extents (gone_item node from to) allocations) p ≡ file_said node len blocks from to taken freed p
  items_said (AtKey key) =
      ap (cond (same_key (ObjectKey node.store node.id) key) (Some (Some (ValueEntry (FileValue len))))) (rest_says (AtKey key) ∙ alone (or_older None (says (option_to_list (gone_item node from to)) (AtKey key))) ∙ gone_key node from to key)
  items_said (AtDeviceBlock b) = rest_says (AtDeviceBlock b) ∙ ap (λ o. or_older o (said_by taken freed (AtDeviceBlock b))) (gone_device node from to b)
  items_said (AtFileBlock s i n) =
      rest_says (AtFileBlock s i n) ∙ alone (or_older (said_of node blocks (AtFileBlock s i n)) (says (option_to_list (gone_item node from to)) (AtFileBlock s i n)))
      ∙ ap (or_older (said_of node blocks (AtFileBlock s i n))) (gone_file node from to s i n) ∙ by ((node.store == s) && (node.id == i))
    where
      by : (t : Bool) → or_older (cond t (option_map new_entry (find (λ x. x.index == n) blocks)) None) (cond t (cond (is_between from to n) (Some None) None) None) ≡ cond t (place_said blocks from to n) None
      by true = refl
      by false = refl

-- ---- the new blocks by their places

pub find_at : (least : ℕ) (xs : List NewBlock) (i : ℕ) (x : NewBlock) → AreInPlaces least xs → slice_get xs i ≡ Some x → (least ≤ x.index) × (find (λ y. y.index == x.index) xs ≡ Some x)
find_at least [] i x r g = absurd (let q : None ≡ Some x = g in cc)
find_at least (y ∷ ys) zero x r g =
    let is : y ≡ x = (let q : Some y ≡ Some x = g in cc q) in
    subst (λ (z : NewBlock). (least ≤ z.index) × (find (λ w. w.index == z.index) (y ∷ ys) ≡ Some z)) is
    (r.0, ap (λ t. cond t (Some y) (find (λ w. w.index == y.index) ys)) (eq-eqb y.index y.index refl))
find_at least (y ∷ ys) (suc i) x r g =
    let h = find_at (y.index + 1) ys i x r.3 g in
    let differs : (y.index == x.index) ≡ false = ne_eqb y.index x.index (λ q. omega (arith, q, h.0)) in
    (omega (arith, h.0, r.0), ap (λ t. cond t (Some y) (find (λ w. w.index == x.index) ys)) differs ∙ h.1)

module _ (sum : List ℕ → ℕ) where
  abbrev new_block : StagedBlock → NewBlock
  new_block s = record { index = s.index; block = s.block; sum = sum s.bytes }

  pub new_none : (staged : List StagedBlock) (k : ℕ) → list_any (λ y. nat_eq y k) (map (λ s. s.index) staged) ≡ false → find (λ x. x.index == k) (staged_blocks sum staged) ≡ None
  new_none [] k e = refl
  new_none (s ∷ rest) k e =
      let p = neither (nat_eq s.index k) (list_any (λ y. nat_eq y k) (map (λ s. s.index) rest)) e in
      ap (λ t. cond t (Some (new_block s)) (find (λ x. x.index == k) (staged_blocks sum rest))) p.0 ∙ new_none rest k p.1
    where
      neither : (a b : Bool) → (a || b) ≡ false → (a ≡ false) × (b ≡ false)
      neither false b e = (refl, e)
      neither true b e = absurd (let q : true ≡ false = e in cc)

-- ---- a write

itself : (node : NodeId) → ((node.store == node.store) && (node.id == node.id)) ≡ true
itself node = and_from (node.store == node.store) (node.id == node.id) (eq-eqb node.store node.store refl) (eq-eqb node.id node.id refl)

module _ (said : Said) (node : NodeId) (len from to : ℕ) (blocks : List NewBlock) (taken freed : List ℕ) (is : (p : Point) → said p ≡ file_said node len blocks from to taken freed p) where
  said_object : said (AtKey (ObjectKey node.store node.id)) ≡ Some (Some (ValueEntry (FileValue len)))
  said_object = is (AtKey (ObjectKey node.store node.id)) ∙ ap (λ t. cond t (Some (Some (ValueEntry (FileValue len)))) None) (itself node)

  pub said_place : (n : ℕ) → said (AtFileBlock node.store node.id n) ≡ place_said blocks from to n
  said_place n = is (AtFileBlock node.store node.id n) ∙ ap (λ t. cond t (place_said blocks from to n) None) (itself node)

  said_beside : (p : Point) → IsBeside node p → said p ≡ None
  said_beside p b = is p ∙ by p b
    where
      by : (p : Point) → IsBeside node p → file_said node len blocks from to taken freed p ≡ None
      by (AtDeviceBlock block) b = absurd (b.device block refl)
      by (AtFileBlock s i n) b = elim (cases_Bool ((node.store == s) && (node.id == i))) [
        | inr other ↦ ap (λ t. cond t (place_said blocks from to n) None) other
        | inl same ↦
            let p = and_parts (node.store == s) (node.id == i) same in
            absurd (b.file n (λ j. AtFileBlock (sym (eqb-true node.store s p.0) j) (sym (eqb-true node.id i p.1) j) n))
      ]
      by (AtKey (AttributeKey s i name)) b = refl
      by (AtKey (ExtentKey s i start stop)) b = refl
      by (AtKey (ChildKey s i name)) b = refl
      by (AtKey (GraveKey s i)) b = refl
      by (AtKey (AllocationKey start stop)) b = refl
      by (AtKey (ObjectKey s i)) b = elim (cases_Bool ((node.store == s) && (node.id == i))) [
        | inr other ↦ ap (λ t. cond t (Some (Some (ValueEntry (FileValue len)))) None) other
        | inl same ↦
            let p = and_parts (node.store == s) (node.id == i) same in
            absurd (b.object (λ j. AtKey (ObjectKey (sym (eqb-true node.store s p.0) j) (sym (eqb-true node.id i p.1) j))))
      ]

pub says_write : (said : Said) (sum : List ℕ → ℕ) (node : NodeId) (len at : ℕ) (text : List ℕ) (staged : List StagedBlock) (taken freed : List ℕ) → 0 < length text
    → map (λ s. s.index) staged ≡ covered at text → AreInPlaces 0 (staged_blocks sum staged) → ((p : Point) → said p ≡ file_said node len (staged_blocks sum staged) 0 0 taken freed p) → SaysWrite said node len at text staged
says_write said sum node len at text staged taken freed some places rising is = record {
  object = said_object said node len 0 0 (staged_blocks sum staged) taken freed is;
  entry = λ i s g. (
    sum s.bytes,
    said_place said node len 0 0 (staged_blocks sum staged) taken freed is s.index
        ∙ ap (λ o. or_older (option_map new_entry o) (cond (is_between 0 0 s.index) (Some None) None)) (find_at 0 (staged_blocks sum staged) i (new_block sum s) rising (slice_get-map (new_block sum) staged i ∙ ap (option_map (new_block sum)) g)).1,
  );
  kept = λ k c.
      said_place said node len 0 0 (staged_blocks sum staged) taken freed is k
      ∙ ap (λ o. or_older (option_map new_entry o) (cond (is_between 0 0 k) (Some None) None)) (new_none sum staged k (ap (list_any (λ y. nat_eq y k)) places ∙ contains-covered at text some k ∙ c))
      ∙ ap (λ t. cond t (Some None) None) (nowhere k);
  others = said_beside said node len 0 0 (staged_blocks sum staged) taken freed is;
}
  where
    nowhere : (k : ℕ) → is_between 0 0 k ≡ false
    nowhere k = grind (arith)

-- ---- a truncation

module _ (said : Said) (sum : List ℕ → ℕ) (m : Points) (f g : ℕ → List ℕ) (node : NodeId) (size len : ℕ) (staged : List StagedBlock) (taken freed : List ℕ)
    (within : AreWithin m) (before : named m (ObjectKey node.store node.id) ≡ Some (FileValue len)) (cut : AreCut m f node size len staged)
    (is : (p : Point) → said p ≡ file_said node size (staged_blocks sum staged) (blocks_for size) (blocks_for len) taken freed p) where
  here : (n : ℕ) → said (AtFileBlock node.store node.id n) ≡ place_said (staged_blocks sum staged) (blocks_for size) (blocks_for len) n
  here = said_place said node size (blocks_for size) (blocks_for len) (staged_blocks sum staged) taken freed is

  -- no block lies past the file's end
  past_end : (k : ℕ) → len ≤ k * BLOCK_BYTES → m (AtFileBlock node.store node.id k) ≡ None
  past_end k h = by (m (AtFileBlock node.store node.id k)) refl
    where
      object : value_under m (ObjectKey node.store node.id) ≡ Some (FileValue len)
      object = seen (value_under m (GraveKey node.store node.id)) before
        where
          seen : (grave : Option PlainValue) → unless_waiting grave (value_under m (ObjectKey node.store node.id)) ≡ Some (FileValue len) → value_under m (ObjectKey node.store node.id) ≡ Some (FileValue len)
          seen None e = e
          seen (Some x) e = absurd (let q : None ≡ Some (FileValue len) = e in cc)

      by : (o : Option Entry) → m (AtFileBlock node.store node.id k) ≡ o → m (AtFileBlock node.store node.id k) ≡ None
      by None e = e
      by (Some entry) e =
          let r = within.extent node.store node.id k entry e in
          let q : Some (FileValue len) ≡ Some (FileValue r.0) = sym object ∙ r.1 in
          let same : len ≡ r.0 = cc q in
          absurd (omega (arith, h, same, r.2))

  -- the new block is in the block in which the size lies
  off_edge : (k : ℕ) → (IsEdge size len k → ⊥) → find (λ x. x.index == k) (staged_blocks sum staged) ≡ None
  off_edge k off = by staged cut
    where
      by : (staged : List StagedBlock) → AreCut m f node size len staged → find (λ x. x.index == k) (staged_blocks sum staged) ≡ None
      by [] c = refl
      by (s ∷ []) c = ap (λ t. cond t (Some (new_block sum s)) None) (ne_eqb s.index k (λ e. off (subst (IsEdge size len) e c.0)))
      by (s ∷ next ∷ rest) c = absurd c

  taken_from : (k : ℕ) → (k * BLOCK_BYTES < size) → is_between (blocks_for size) (blocks_for len) k ≡ false
  taken_from k h = ap (λ t. t && nat_lt k (blocks_for len)) (above (blocks_for size) k (omega arith))
    where
      above : (a b : ℕ) → b < a → nat_le a b ≡ false
      above a b l = grind (arith, l)

  gone_places : (k : ℕ) → size ≤ k * BLOCK_BYTES → (said (AtFileBlock node.store node.id k) ≡ Some None) ⊎ ((said (AtFileBlock node.store node.id k) ≡ None) × (m (AtFileBlock node.store node.id k) ≡ None))
  gone_places k h =
      let off : IsEdge size len k → ⊥ = λ e. omega (arith, e.0, h) in
      let says_it = here k ∙ ap (λ o. or_older (option_map new_entry o) (cond (is_between (blocks_for size) (blocks_for len) k) (Some None) None)) (off_edge k off) in
      elim (cases_lt k (blocks_for len)) [
        | inl l ↦ inl (says_it ∙ ap (λ t. cond t (Some None) None) (and_from (nat_le (blocks_for size) k) (nat_lt k (blocks_for len)) (le-leb (blocks_for size) k (omega (arith, h))) (lt-ltb k (blocks_for len) l)))
        | inr l ↦ inr (says_it ∙ ap (λ t. cond t (Some None) None) (and_right (nat_le (blocks_for size) k) (nat_lt k (blocks_for len)) (le-ltb k (blocks_for len) l)), past_end k (omega (arith, l)))
      ]

  edge_place : (stored : (i : ℕ) (s : StagedBlock) → slice_get staged i ≡ Some s → g s.block ≡ s.bytes) (k old : ℕ) → IsEdge size len k → device_block m node k ≡ Some old
      → (block sum : ℕ) × (said (AtFileBlock node.store node.id k) ≡ Some (Some (BlockEntry block sum))) × (g block ≡ cut_block size k (f old))
  edge_place stored k old e held = by staged cut stored (here k)
    where
      by : (staged : List StagedBlock) → AreCut m f node size len staged → ((i : ℕ) (s : StagedBlock) → slice_get staged i ≡ Some s → g s.block ≡ s.bytes)
          → said (AtFileBlock node.store node.id k) ≡ place_said (staged_blocks sum staged) (blocks_for size) (blocks_for len) k
          → (block sum : ℕ) × (said (AtFileBlock node.store node.id k) ≡ Some (Some (BlockEntry block sum))) × (g block ≡ cut_block size k (f old))
      by [] c stored says_it = absurd (c k old e held)
      by (s ∷ next ∷ rest) c stored says_it = absurd c
      by (s ∷ []) c stored says_it =
          let same : s.index ≡ k = omega (arith, c.0.0, c.0.1, e.0, e.1) in
          let q : Some c.1 ≡ Some old = sym c.2 ∙ ap (device_block m node) same ∙ held in
          let block : c.1 ≡ old = cc q in (
            s.block,
            sum s.bytes,
            says_it ∙ ap (λ t. or_older (option_map new_entry (cond t (Some (new_block sum s)) None)) (cond (is_between (blocks_for size) (blocks_for len) k) (Some None) None)) (eq-eqb s.index k same),
            stored 0 s refl ∙ c.3 ∙ (λ j. cut_block size (same j) (f (block j))),
          )

  kept_place : (k : ℕ) → k * BLOCK_BYTES < size → (IsFront size len k) ⊎ (device_block m node k ≡ None) → said (AtFileBlock node.store node.id k) ≡ None
  kept_place k h why =
      here k ∙ ap (λ o. or_older (option_map new_entry o) (cond (is_between (blocks_for size) (blocks_for len) k) (Some None) None)) (by staged cut) ∙ ap (λ t. cond t (Some None) None) (taken_from k h)
    where
      not_here : (s : StagedBlock) → IsEdge size len s.index → (old : ℕ) → device_block m node s.index ≡ Some old → s.index ≡ k → ⊥
      not_here s e old held same = elim why [
        | inl (inl front) ↦ omega (arith, front, e.0, e.1, same)
        | inl (inr grown) ↦ omega (arith, grown, e.2)
        | inr none ↦ absurd (let q : None ≡ Some old = sym none ∙ ap (device_block m node) (sym same) ∙ held in cc)
      ]

      by : (staged : List StagedBlock) → AreCut m f node size len staged → find (λ x. x.index == k) (staged_blocks sum staged) ≡ None
      by [] c = refl
      by (s ∷ []) c = ap (λ t. cond t (Some (new_block sum s)) None) (ne_eqb s.index k (not_here s c.0 c.1 c.2))
      by (s ∷ next ∷ rest) c = absurd c

  pub says_cut : ((i : ℕ) (s : StagedBlock) → slice_get staged i ≡ Some s → g s.block ≡ s.bytes)
      → ((other : NodeId) (k block : ℕ) → device_block m other k ≡ Some block → (other ≢ node) ⊎ (IsFront size len k) → g block ≡ f block) → SaysCut m said f g node size len
  says_cut stored same = record {
    object = said_object said node size (blocks_for size) (blocks_for len) (staged_blocks sum staged) taken freed is;
    gone = gone_places;
    edge = edge_place stored;
    kept = kept_place;
    others = said_beside said node size (blocks_for size) (blocks_for len) (staged_blocks sum staged) taken freed is;
    same = same;
  }

-- ---- cut inside a block

pub inside_edge : (size len n : ℕ) → (is_cut_inside size len n ≡ true) ↔ IsEdge size len n
inside_edge size len n = (
  λ e.
      let p = and_parts (nat_lt size len && (nat_lt (n * BLOCK_BYTES) len && nat_lt size ((n + 1) * BLOCK_BYTES))) (nat_lt (n * BLOCK_BYTES) size) e in
      let q = and_parts (nat_lt size len) (nat_lt (n * BLOCK_BYTES) len && nat_lt size ((n + 1) * BLOCK_BYTES)) p.0 in
      let r = and_parts (nat_lt (n * BLOCK_BYTES) len) (nat_lt size ((n + 1) * BLOCK_BYTES)) q.1 in
      (ltb-true (n * BLOCK_BYTES) size p.1, ltb-true size ((n + 1) * BLOCK_BYTES) r.1, ltb-true size len q.0),
  λ e. and_from (nat_lt size len && (nat_lt (n * BLOCK_BYTES) len && nat_lt size ((n + 1) * BLOCK_BYTES))) (nat_lt (n * BLOCK_BYTES) size)
      (and_from (nat_lt size len) (nat_lt (n * BLOCK_BYTES) len && nat_lt size ((n + 1) * BLOCK_BYTES)) (lt-ltb size len e.2)
      (and_from (nat_lt (n * BLOCK_BYTES) len) (nat_lt size ((n + 1) * BLOCK_BYTES)) (lt-ltb (n * BLOCK_BYTES) len (omega (arith, e.0, e.2))) (lt-ltb size ((n + 1) * BLOCK_BYTES) e.1)))
      (lt-ltb (n * BLOCK_BYTES) size e.0),
)
