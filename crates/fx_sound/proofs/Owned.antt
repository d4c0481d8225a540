-- Which blocks files have and the allocator has taken; where no block is unsound they are the same.
use Rattle.std.proofs.Common.{◌≡◌, ◌≢◌, ◌⊎◌, inl, inr, ℕ, ◌+◌, ◌-◌, ◌<◌, ◌≤◌, Bool, true, false, List, [], ◌∷◌, get_or, refl, sym, ap, subst, ◌∙◌, arith}
use Rattle.std.specs.Prelude.{Option, Some, None}
use Rattle.std.proofs.lemmas.Bool.{cases_lt}
use Rattle.fx_base.proofs.Numbers.{same_or_not}
use Rattle.fx_item.specs.Item.{PlainKey, ExtentKey, PlainValue, ExtentValue, PlainItem, IsItem}
use Rattle.fx_item.specs.Overlay.{AtDeviceBlock, AtFileBlock, BlockEntry, Entry, ValueEntry}
use Rattle.fx_namespace.specs.Nodes.{NodeId}
use Rattle.fx_namespace.proofs.Walks.{same_node}
use Rattle.fx_nodes.specs.Lists.{IsIn}
use Rattle.fx_contents.specs.Allocated.{AreAllocated}
use Rattle.fx_contents.specs.Points.{Points, block_in, device_block}
use Rattle.fx_sound.specs.Image.{AreStanding, PlainImage, points_in}
use Rattle.fx_sound.specs.Parts.{HasTrueAllocations, IsReserved}
use Rattle.fx_sound.specs.Faults.{HasNoUnsoundBlock, IsUnsoundAt, Leaked, Untaken, Shared, Misplaced}
use Rattle.fx_sound.proofs.First.{node_of}
use Rattle.fx_sound.proofs.Listed.{InExtent, extent_block, file_block}
use Rattle.fx_sound.proofs.Rooms.{Decided, both_or_not}

-- an extent of the items has the block
pub record IsHolder (items : List PlainItem) (b : ℕ) : Type 0 where
  pub node : NodeId
  pub start : ℕ
  pub stop : ℕ
  pub block : ℕ
  pub sums : List ℕ
  pub listed : IsIn items (record { key = ExtentKey node.store node.id start stop; value = ExtentValue block sums })
  pub low : block ≤ b
  pub high : b < block + (stop - start)

holder_later : (x : PlainItem) (xs : List PlainItem) (b : ℕ) → IsHolder xs b → IsHolder (x ∷ xs) b
holder_later x xs b h = record { node = h.node; start = h.start; stop = h.stop; block = h.block; sums = h.sums; listed = inr h.listed; low = h.low; high = h.high }

-- one item has the block, or has not
OneHolds : ℕ → PlainKey → PlainValue → Type 0
OneHolds b (ExtentKey s i start stop) (ExtentValue block sums) = (block ≤ b) × (b < block + (stop - start))
OneHolds b k v = ⊥

range_or_not : (a b c : ℕ) → Decided ((a ≤ b) × (b < c))
range_or_not a b c = both_or_not (le a b) (lt b c)
  where
    le : (a b : ℕ) → Decided (a ≤ b)
    le a b = elim (cases_lt b a) [ inl h ↦ inr (λ k. omega (arith, h, k)) | inr h ↦ inl h ]

    lt : (b c : ℕ) → Decided (b < c)
    lt b c = elim (cases_lt b c) [ inl h ↦ inl h | inr h ↦ inr (λ k. omega (arith, h, k)) ]

one_or_not : (b : ℕ) (k : PlainKey) (v : PlainValue) → Decided (OneHolds b k v)
unfolding OneHolds
one_or_not b (ExtentKey s i start stop) (ExtentValue block sums) = range_or_not block b (block + (stop - start))
one_or_not b k v = inr (λ h. h)

holder_here : (b : ℕ) (k : PlainKey) (v : PlainValue) (xs : List PlainItem) → OneHolds b k v → IsHolder (record { key = k; value = v } ∷ xs) b
unfolding OneHolds
holder_here b (ExtentKey s i start stop) (ExtentValue block sums) xs h = record { node = node_of s i; start = start; stop = stop; block = block; sums = sums; listed = inl refl; low = h.0; high = h.1 }
holder_here b k v xs h = absurd h

holds_by : (b : ℕ) (x : PlainItem) (s i start stop block : ℕ) (sums : List ℕ) → x ≡ record { key = ExtentKey s i start stop; value = ExtentValue block sums }
    → block ≤ b → b < block + (stop - start) → OneHolds b x.key x.value
unfolding OneHolds
holds_by b x s i start stop block sums e l h = subst (λ (z : PlainItem). OneHolds b z.key z.value) (sym e) (l, h)

pub holder_or_not : (items : List PlainItem) (b : ℕ) → Decided (IsHolder items b)
holder_or_not [] b = inr (λ h. absurd h.listed)
holder_or_not (x ∷ xs) b = by (one_or_not b x.key x.value) (holder_or_not xs b)
  where
    by : Decided (OneHolds b x.key x.value) → Decided (IsHolder xs b) → Decided (IsHolder (x ∷ xs) b)
    by (inl h) rest = inl (holder_here b x.key x.value xs h)
    by (inr n) (inl h) = inl (holder_later x xs b h)
    by (inr n) (inr m) = inr (λ h. elim h.listed [
      | inl e ↦ n (holds_by b x h.node.store h.node.id h.start h.stop h.block h.sums e h.low h.high)
      | inr i ↦ m (record { node = h.node; start = h.start; stop = h.stop; block = h.block; sums = h.sums; listed = i; low = h.low; high = h.high })
    ])

module _ (items : List PlainItem) (s : AreStanding items) where
  -- the place of the file that has the block
  pub place_of : {b : ℕ} → IsHolder items b → ℕ
  place_of {b} h = h.start + (b - h.block)

  pub held_at : (b : ℕ) (h : IsHolder items b) → device_block (points_in items) h.node (h.start + (b - h.block)) ≡ Some b
  held_at b h =
      let n : ℕ = h.start + (b - h.block) in
      let low : h.start ≤ h.start + (b - h.block) = omega arith in
      let high : h.start + (b - h.block) < h.stop = omega (arith, h.low, h.high) in
      let is : h.block + (h.start + (b - h.block) - h.start) ≡ b = omega (arith, h.low) in
      ap block_in (extent_block items s h.node.store h.node.id h.start h.stop (h.start + (b - h.block)) h.block h.sums h.listed low high) ∙ ap Some is

  named_block : (e : Entry) (b : ℕ) → block_in (Some e) ≡ Some b → (sum : ℕ) × (e ≡ BlockEntry b sum)
  named_block (BlockEntry c sum) b h = let same : c ≡ b = cc in (sum, ap (λ z. BlockEntry z sum) same)
  named_block (ValueEntry v) b h = absurd (cc h)

  same_entry : (b c x y : ℕ) → BlockEntry b x ≡ BlockEntry c y → b ≡ c
  same_entry b c x y e = cc

  some_entry : (o : Option Entry) (b : ℕ) → block_in o ≡ Some b → (e : Entry) × (o ≡ Some e) × (block_in (Some e) ≡ Some b)
  some_entry None b h = absurd (cc h)
  some_entry (Some e) b h = (e, refl, h)

  -- block n of a node is in an extent, which has the block of the device
  pub record IsHeldBy (node : NodeId) (n b : ℕ) : Type 0 where
    pub extent : ℕ × ℕ
    pub block : ℕ
    pub sums : List ℕ
    pub listed : IsIn items (record { key = ExtentKey node.store node.id extent.0 extent.1; value = ExtentValue block sums })
    pub low : extent.0 ≤ n
    pub high : n < extent.1
    pub is : block + (n - extent.0) ≡ b

  pub held_by : (node : NodeId) (n b : ℕ) → device_block (points_in items) node n ≡ Some b → IsHeldBy node n b
  held_by node n b h =
      let e = some_entry (points_in items (AtFileBlock node.store node.id n)) b h in
      let k = named_block e.0 b e.2 in
      let x = file_block items s node.store node.id n e.0 e.1 in
      record {
        extent = (x.start, x.stop);
        block = x.block;
        sums = x.sums;
        listed = x.listed;
        low = x.low;
        high = x.high;
        is = same_entry (x.block + (n - x.start)) b (get_or x.sums (n - x.start) 0) k.0 (sym x.is ∙ k.1);
      }

  pub holder_by : (node : NodeId) (n b : ℕ) → device_block (points_in items) node n ≡ Some b → IsHolder items b
  holder_by node n b h =
      let x = held_by node n b h in
      record {
        node = node;
        start = x.extent.0;
        stop = x.extent.1;
        block = x.block;
        sums = x.sums;
        listed = x.listed;
        low = omega (arith, x.is);
        high = omega (arith, x.is, x.low, x.high);
      }

  -- a file has the block, or none has
  pub held_or_not : (b : ℕ) → ((node : NodeId) × (n : ℕ) × (device_block (points_in items) node n ≡ Some b)) ⊎ ((node : NodeId) (n : ℕ) → device_block (points_in items) node n ≡ Some b → ⊥)
  held_or_not b = elim (holder_or_not items b) [
    | inl h ↦ inl (h.node, h.start + (b - h.block), held_at b h)
    | inr none ↦ inr (λ node n e. none (holder_by node n b e))
  ]

entry_or_not : (o : Option Entry) → ((e : Entry) × (o ≡ Some e)) ⊎ (o ≡ None)
entry_or_not (Some e) = inl (e, refl)
entry_or_not None = inr refl

pub places_or_not : (a b : NodeId) (i j : ℕ) → Decided ((a ≡ b) × (i ≡ j))
places_or_not a b i j = both_or_not (same_node a b) (same_or_not i j)

pub true_blocks : (image : PlainImage) → AreStanding image.items → HasNoUnsoundBlock image → HasTrueAllocations image
true_blocks image s fine = record {
  allocated = record {
    live = λ b entry e. elim (held_or_not image.items s b) [ inl h ↦ h | inr none ↦ absurd (fine b (Leaked entry e none)) ];
    taken = λ node n b e. elim (entry_or_not (points_in image.items (AtDeviceBlock b))) [ inl h ↦ h | inr none ↦ absurd (fine b (Untaken node n e none)) ];
    once = λ a c i j b e f. elim (places_or_not a c i j) [ inl h ↦ h | inr ne ↦ absurd (fine b (Shared a c i j e f ne)) ];
  };
  apart = λ b entry e reserved. fine b (Misplaced entry e reserved);
}

pub none_unsound : (image : PlainImage) → HasTrueAllocations image → HasNoUnsoundBlock image
none_unsound image t b (Leaked entry e none) = let h = t.allocated.live b entry e in none h.0 h.1 h.2
none_unsound image t b (Untaken node n e none) = let h = t.allocated.taken node n b e in let q : None ≡ Some h.0 = sym none ∙ h.1 in cc
none_unsound image t b (Shared a c i j e f ne) = ne (t.allocated.once a c i j b e f)
none_unsound image t b (Misplaced entry e reserved) = t.apart b entry e reserved
