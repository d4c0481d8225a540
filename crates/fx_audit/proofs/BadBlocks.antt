-- By its counts a block is bad exactly where it is unsound.
use Rattle.std.proofs.Common.{◌≡◌, ◌⊎◌, inl, inr, ℕ, zero, suc, ◌+◌, ◌-◌, ◌<◌, ◌≤◌, Bool, true, false, cond, List, [], ◌∷◌, ◌++◌, map, length, get_or, refl, sym, ap, subst, ◌∙◌, arith}
use Rattle.std.specs.Prelude.{Option, Some, None, Contains, nat_le, nat_lt, ◌==◌, ◌||◌, not, IfNone, IfSome}
use Rattle.std.specs.List.{flat_map}
use Rattle.std.proofs.lemmas.Bool.{cases_lt, eq-eqb, eqb-true, le-leb, leb-true, lt-ltb, ltb-true}
use Rattle.fx_item.specs.Item.{PlainItem, PlainKey, ExtentKey, AllocationKey, PlainValue, ExtentValue, TakenValue}
use Rattle.fx_item.specs.declared.item.TheConstants.{MAX_DEVICE_BLOCKS}
use Rattle.fx_item.specs.Look.{AllApart}
use Rattle.fx_item.specs.Overlay.{AtDeviceBlock, AtFileBlock, Entry, ValueEntry, covers}
use Rattle.fx_verify.specs.Kept.{is_within}
use Rattle.fx_namespace.specs.Nodes.{NodeId}
use Rattle.fx_nodes.specs.Lists.{IsIn}
use Rattle.fx_nodes.proofs.Lists.{contains_from, flat_in, in_flat, in_from, in_map, in_right, map_in}
use Rattle.fx_contents.specs.Points.{device_block}
use Rattle.fx_sound.specs.Image.{AreStanding, PlainImage, points_in}
use Rattle.fx_sound.specs.Parts.{IsReserved}
use Rattle.fx_sound.specs.Faults.{HasNoUnsoundBlock, IsLeastUnsound, IsUnsoundAt, Leaked, Untaken, Shared, Misplaced}
use Rattle.fx_sound.proofs.First.{node_of}
use Rattle.fx_sound.proofs.Listed.{InAllocation, allocation_block, apart_tail, covers_file, good_in, not_head, taken_block}
use Rattle.fx_sound.proofs.Owned.{IsHeldBy, IsHolder, held_at, held_by, holder_by}
use Rattle.fx_audit.specs.Claims.{AreClaims, FindsFirst, claims_on, file_range, file_ranges, is_bad_block, is_reserved, is_unsound_count, single_ranges, taken_range, taken_ranges}
use Rattle.fx_audit.proofs.Counted.{SomeHas, TwoHave, counts_some, counts_two, false_or_true, is_within_range, some_counted, two_counted, within_parts}

-- ---- what ranges say of items

module _ (b : ℕ) where
  holder_of : (items : List PlainItem) (k : PlainKey) (v : PlainValue) → IsIn items (record { key = k; value = v }) → (r : ℕ × ℕ) → IsIn (file_range k v) r → is_within r.0 r.1 b ≡ true → IsHolder items b
  holder_of items (ExtentKey t j a c) (ExtentValue block sums) i r (inl e) w =
      let p = within_parts block (block + (c - a)) b (ap (λ (z : ℕ × ℕ). is_within z.0 z.1 b) e ∙ w) in
      record { node = node_of t j; start = a; stop = c; block = block; sums = sums; listed = i; low = p.0; high = p.1 }
  holder_of items (ExtentKey t j a c) (ExtentValue block sums) i r (inr f) w = absurd f
  holder_of items k v i r j w = absurd j

  some_holder : (items : List PlainItem) → SomeHas b (file_ranges items) → IsHolder items b
  some_holder items h = let x = flat_in (λ (x : PlainItem). file_range x.key x.value) items h.0 h.1 in holder_of items x.0.key x.0.value x.1 h.0 x.2 h.2

  range_of : (items : List PlainItem) (h : IsHolder items b) → is_within h.block (h.block + (h.stop - h.start)) b ≡ true
  range_of items h = is_within_range h.block (h.block + (h.stop - h.start)) b h.low h.high

  holder_some : (items : List PlainItem) → IsHolder items b → SomeHas b (file_ranges items)
  holder_some items h = (
    (h.block, h.block + (h.stop - h.start)),
    in_flat (λ (x : PlainItem). file_range x.key x.value) items (record { key = ExtentKey h.node.store h.node.id h.start h.stop; value = ExtentValue h.block h.sums }) (h.block, h.block + (h.stop - h.start)) h.listed (inl refl),
    range_of items h,
  )

  taken_of : (items : List PlainItem) (k : PlainKey) (v : PlainValue) → IsIn items (record { key = k; value = v }) → (r : ℕ × ℕ) → IsIn (taken_range k v) r → is_within r.0 r.1 b ≡ true → InAllocation items b
  taken_of items (AllocationKey a c) TakenValue i r (inl e) w =
      let p = within_parts a c b (ap (λ (z : ℕ × ℕ). is_within z.0 z.1 b) e ∙ w) in
      record { start = a; stop = c; listed = i; low = p.0; high = p.1 }
  taken_of items (AllocationKey a c) TakenValue i r (inr f) w = absurd f
  taken_of items k v i r j w = absurd j

  some_taken : (items : List PlainItem) → SomeHas b (taken_ranges items) → InAllocation items b
  some_taken items h = let x = flat_in (λ (x : PlainItem). taken_range x.key x.value) items h.0 h.1 in taken_of items x.0.key x.0.value x.1 h.0 x.2 h.2

  taken_some : (items : List PlainItem) → InAllocation items b → SomeHas b (taken_ranges items)
  taken_some items h = (
    (h.start, h.stop),
    in_flat (λ (x : PlainItem). taken_range x.key x.value) items (record { key = AllocationKey h.start h.stop; value = TakenValue }) (h.start, h.stop) h.listed (inl refl),
    is_within_range h.start h.stop b h.low h.high,
  )

  some_single : (blocks : List ℕ) → SomeHas b (single_ranges blocks) → Contains blocks b
  some_single blocks h =
      let x = map_in (λ (n : ℕ). (n, n + 1)) blocks h.0 h.1 in
      let p = within_parts x.0 (x.0 + 1) b (ap (λ (z : ℕ × ℕ). is_within z.0 z.1 b) x.2 ∙ h.2) in
      let same : x.0 ≡ b = omega (arith, p.0, p.1) in
      contains_from blocks b (subst (IsIn blocks) same x.1)

  single_some : (blocks : List ℕ) → Contains blocks b → SomeHas b (single_ranges blocks)
  single_some blocks h = ((b, b + 1), in_map (λ (n : ℕ). (n, n + 1)) blocks b (in_from blocks b h), is_within_range b (b + 1) b (omega arith) (omega arith))

  -- ---- two items

  -- two items have the block
  abbrev TwoHold : List PlainItem → Type 0
  TwoHold [] = ⊥
  TwoHold (x ∷ xs) = (SomeHas b (file_range x.key x.value) × IsHolder xs b) ⊎ TwoHold xs

  two_step : (k : PlainKey) (v : PlainValue) (rest : List (ℕ × ℕ)) → TwoHave b (file_range k v ++ rest) → (SomeHas b (file_range k v) × SomeHas b rest) ⊎ TwoHave b rest
  two_step (ExtentKey t j a c) (ExtentValue block sums) rest (inl h) = inl (((block, block + (c - a)), inl refl, h.0), h.1)
  two_step (ExtentKey t j a c) (ExtentValue block sums) rest (inr h) = inr h
  two_step k v rest h = inr h

  two_items : (xs : List PlainItem) → TwoHave b (file_ranges xs) → TwoHold xs
  two_items [] h = absurd h
  two_items (x ∷ xs) h = elim (two_step x.key x.value (file_ranges xs) h) [ inl a ↦ inl (a.0, some_holder xs a.1) | inr a ↦ inr (two_items xs a) ]

  two_front : (rs qs : List (ℕ × ℕ)) → SomeHas b rs → SomeHas b qs → TwoHave b (rs ++ qs)
  two_front [] qs h g = absurd h.1
  two_front (r ∷ rs) qs h g = elim h.1 [
    | inl e ↦ inl (ap (λ (z : ℕ × ℕ). is_within z.0 z.1 b) e ∙ h.2, (g.0, in_right rs qs g.0 g.1, g.2))
    | inr i ↦ inr (two_front rs qs (h.0, i, h.2) g)
  ]

  two_back : (rs qs : List (ℕ × ℕ)) → TwoHave b qs → TwoHave b (rs ++ qs)
  two_back [] qs h = h
  two_back (r ∷ rs) qs h = inr (two_back rs qs h)

  ranges_of : PlainItem → List (ℕ × ℕ)
  ranges_of x = file_range x.key x.value

  item_some : (xs : List PlainItem) (x : PlainItem) → IsIn xs x → SomeHas b (file_range x.key x.value) → SomeHas b (file_ranges xs)
  item_some xs x i h = (h.0, in_flat (λ (x : PlainItem). file_range x.key x.value) xs x h.0 i h.1, h.2)

  two_from : (xs : List PlainItem) (x y : PlainItem) → IsIn xs x → IsIn xs y → (x ≡ y → ⊥) → SomeHas b (file_range x.key x.value) → SomeHas b (file_range y.key y.value) → TwoHave b (file_ranges xs)
  two_from [] x y i j ne h g = absurd i
  two_from (z ∷ zs) x y (inl e) (inl f) ne h g = absurd (ne (sym e ∙ f))
  two_from (z ∷ zs) x y (inl e) (inr j) ne h g =
      two_front (file_range z.key z.value) (file_ranges zs) (subst (λ (w : PlainItem). SomeHas b (file_range w.key w.value)) (sym e) h) (item_some zs y j g)
  two_from (z ∷ zs) x y (inr i) (inl f) ne h g =
      two_front (file_range z.key z.value) (file_ranges zs) (subst (λ (w : PlainItem). SomeHas b (file_range w.key w.value)) (sym f) g) (item_some zs x i h)
  two_from (z ∷ zs) x y (inr i) (inr j) ne h g = two_back (file_range z.key z.value) (file_ranges zs) (two_from zs x y i j ne h g)

  -- two places of files that have the block
  record Shares (xs : List PlainItem) : Type 0 where
    g : IsHolder xs b
    h : IsHolder xs b
    different : (g.node ≡ h.node) × (g.start + (b - g.block) ≡ h.start + (b - h.block)) → ⊥

  abbrev deeper : (x : PlainItem) (xs : List PlainItem) → IsHolder xs b → IsHolder (x ∷ xs) b
  deeper x xs k = record { node = k.node; start = k.start; stop = k.stop; block = k.block; sums = k.sums; listed = inr k.listed; low = k.low; high = k.high }

  holder_covers : (xs : List PlainItem) (k : IsHolder xs b) → covers (ExtentKey k.node.store k.node.id k.start k.stop) (AtFileBlock k.node.store k.node.id (k.start + (b - k.block))) ≡ true
  holder_covers xs k = covers_file k.node.store k.node.id k.start k.stop (k.start + (b - k.block)) (omega arith) (omega (arith, k.low, k.high))

  first_two : (k : PlainKey) (v : PlainValue) (xs : List PlainItem) → AllApart (record { key = k; value = v } ∷ xs) → SomeHas b (file_range k v) → IsHolder xs b → Shares (record { key = k; value = v } ∷ xs)
  first_two (ExtentKey t j a c) (ExtentValue block sums) xs apart s later = elim s.1 [
    | inr f ↦ absurd f
    | inl e ↦
        let p = within_parts block (block + (c - a)) b (ap (λ (z : ℕ × ℕ). is_within z.0 z.1 b) e ∙ s.2) in
        let head : IsHolder (record { key = ExtentKey t j a c; value = ExtentValue block sums } ∷ xs) b =
        record { node = node_of t j; start = a; stop = c; block = block; sums = sums; listed = inl refl; low = p.0; high = p.1 } in
        record {
          g = head;
          h = deeper (record { key = ExtentKey t j a c; value = ExtentValue block sums }) xs later;
          different = λ same.
              let mine : covers (ExtentKey t j a c) (AtFileBlock t j (a + (b - block))) ≡ true = covers_file t j a c (a + (b - block)) (omega arith) (omega (arith, p.0, p.1)) in
              let there : covers (ExtentKey t j a c) (AtFileBlock later.node.store later.node.id (later.start + (b - later.block))) ≡ true =
              subst (λ (n : ℕ). covers (ExtentKey t j a c) (AtFileBlock later.node.store later.node.id n) ≡ true) same.1
              (subst (λ (n : NodeId). covers (ExtentKey t j a c) (AtFileBlock n.store n.id (a + (b - block))) ≡ true) same.0 mine) in
              let not : covers (ExtentKey t j a c) (AtFileBlock later.node.store later.node.id (later.start + (b - later.block))) ≡ false =
              not_head (record { key = ExtentKey t j a c; value = ExtentValue block sums }) xs apart (record { key = ExtentKey later.node.store later.node.id later.start later.stop; value = ExtentValue later.block later.sums })
              (AtFileBlock later.node.store later.node.id (later.start + (b - later.block))) later.listed (holder_covers xs later) in
              let q : true ≡ false = sym there ∙ not in cc;
        }
  ]
  first_two k v xs apart s later = absurd s.1

  shares : (xs : List PlainItem) → AllApart xs → TwoHold xs → Shares xs
  shares [] a h = absurd h
  shares (x ∷ xs) a (inl h) = first_two x.key x.value xs a h.0 h.1
  shares (x ∷ xs) a (inr h) = let k = shares xs (apart_tail x xs a) h in record { g = deeper x xs k.g; h = deeper x xs k.h; different = k.different }

-- ---- the block, by its counts

abbrev extent_item : (t q k l o : ℕ) (sums : List ℕ) → PlainItem
extent_item t q k l o sums = record { key = ExtentKey t q k l; value = ExtentValue o sums }

zero_or_more : (n : ℕ) → (n ≡ 0) ⊎ (0 < n)
zero_or_more zero = inl refl
zero_or_more (suc n) = inr (omega arith)

not_one : (n : ℕ) → not (n == 1) ≡ true → 0 < n → 2 ≤ n
not_one n e l = elim (cases_lt n 2) [
  | inr h ↦ h
  | inl h ↦ let one : n ≡ 1 = omega (arith, h, l) in absurd (let q : false ≡ true = sym (ap not (eq-eqb n 1 one)) ∙ e in cc)
]

apart_from_one : (n : ℕ) → (n ≡ 1 → ⊥) → not (n == 1) ≡ true
apart_from_one n ne = elim (false_or_true (n == 1)) [ inl e ↦ absurd (ne (eqb-true n 1 e)) | inr e ↦ ap not e ]

apart_from_zero : (n : ℕ) → 0 < n → (n == 0) ≡ false
apart_from_zero n l = elim (false_or_true (n == 0)) [ inl e ↦ absurd (let z : n ≡ 0 = eqb-true n 0 e in omega (arith, z, l)) | inr e ↦ e ]

or_split : (x y : Bool) → (x || y) ≡ true → (x ≡ true) ⊎ (y ≡ true)
or_split true y e = inl refl
or_split false y e = inr e

or_first : (x y : Bool) → x ≡ true → (x || y) ≡ true
or_first true y e = refl
or_first false y e = absurd (cc)

or_second : (x y : Bool) → y ≡ true → (x || y) ≡ true
or_second true y e = refl
or_second false y e = e

module _ (files taken : ℕ) (reserved : Bool) where
  by_zero : taken ≡ 0 → is_unsound_count files taken reserved ≡ nat_lt 0 files
  by_zero e = ap (λ x. cond x (nat_lt 0 files) (not (files == 1) || reserved)) (eq-eqb taken 0 e)

  by_some : 0 < taken → is_unsound_count files taken reserved ≡ (not (files == 1) || reserved)
  by_some l = ap (λ x. cond x (nat_lt 0 files) (not (files == 1) || reserved)) (apart_from_zero taken l)

module _ (image : PlainImage) (s : AreStanding image.items) (b : ℕ) where
  abbrev on_files : ℕ
  on_files = claims_on (file_ranges image.items) b

  abbrev on_taken : ℕ
  on_taken = claims_on (taken_ranges image.items) b

  abbrev on_layers : ℕ
  on_layers = claims_on (single_ranges image.layers) b

  abbrev kept_back : Bool
  kept_back = is_reserved image.ring image.disk on_layers b

  taken_entry : 0 < on_taken → points_in image.items (AtDeviceBlock b) ≡ Some (ValueEntry TakenValue)
  taken_entry l = let a = some_taken b image.items (some_counted b (taken_ranges image.items) l) in allocation_block image.items s a.start a.stop b a.listed a.low a.high

  entry_taken : (e : Entry) → points_in image.items (AtDeviceBlock b) ≡ Some e → 0 < on_taken
  entry_taken e h = counts_some b (taken_ranges image.items) (taken_some b image.items (taken_block image.items s b e h))

  no_entry : on_taken ≡ 0 → points_in image.items (AtDeviceBlock b) ≡ None
  no_entry z = by (points_in image.items (AtDeviceBlock b)) refl
    where
      by : (o : Option Entry) → points_in image.items (AtDeviceBlock b) ≡ o → o ≡ None
      by None e = refl
      by (Some x) e = absurd (let l : 0 < on_taken = entry_taken x e in omega (arith, l, z))

  held_files : (node : NodeId) (n : ℕ) → device_block (points_in image.items) node n ≡ Some b → 0 < on_files
  held_files node n e = counts_some b (file_ranges image.items) (holder_some b image.items (holder_by image.items s node n b e))

  reserved_is : kept_back ≡ true → IsReserved image b
  reserved_is e = elim (or_split (nat_lt b (image.ring + 2) || nat_lt 0 on_layers) (nat_le image.disk b) e) [
    | inl h ↦ elim (or_split (nat_lt b (image.ring + 2)) (nat_lt 0 on_layers) h) [
      | inl k ↦ inl (ltb-true b (image.ring + 2) k)
      | inr k ↦ inr (inl (some_single b image.layers (some_counted b (single_ranges image.layers) (ltb-true 0 on_layers k))))
    ]
    | inr h ↦ inr (inr (leb-true image.disk b h))
  ]

  is_kept_back : IsReserved image b → kept_back ≡ true
  is_kept_back (inl h) = or_first (nat_lt b (image.ring + 2) || nat_lt 0 on_layers) (nat_le image.disk b) (or_first (nat_lt b (image.ring + 2)) (nat_lt 0 on_layers) (lt-ltb b (image.ring + 2) h))
  is_kept_back (inr (inl h)) = or_first (nat_lt b (image.ring + 2) || nat_lt 0 on_layers) (nat_le image.disk b)
      (or_second (nat_lt b (image.ring + 2)) (nat_lt 0 on_layers) (lt-ltb 0 on_layers (counts_some b (single_ranges image.layers) (single_some b image.layers h))))
  is_kept_back (inr (inr h)) = or_second (nat_lt b (image.ring + 2) || nat_lt 0 on_layers) (nat_le image.disk b) (le-leb image.disk b h)

  shared_two : (a c : NodeId) (i j : ℕ) → device_block (points_in image.items) a i ≡ Some b → device_block (points_in image.items) c j ≡ Some b → ((a ≡ c) × (i ≡ j) → ⊥) → 2 ≤ on_files
  shared_two a c i j e f ne =
      let x = held_by image.items s a i b e in
      let y = held_by image.items s c j b f in
      let px : PlainItem = record { key = ExtentKey a.store a.id x.extent.0 x.extent.1; value = ExtentValue x.block x.sums } in
      let py : PlainItem = record { key = ExtentKey c.store c.id y.extent.0 y.extent.1; value = ExtentValue y.block y.sums } in
      counts_two b (file_ranges image.items) (two_from b image.items px py x.listed y.listed
      (λ same. ne (not_same a.store a.id x.extent.0 x.extent.1 x.block x.sums c.store c.id y.extent.0 y.extent.1 y.block y.sums same i j x.is y.is x.low y.low))
      ((x.block, x.block + (x.extent.1 - x.extent.0)), inl refl, is_within_range x.block (x.block + (x.extent.1 - x.extent.0)) b (omega (arith, x.is)) (omega (arith, x.is, x.low, x.high)))
      ((y.block, y.block + (y.extent.1 - y.extent.0)), inl refl, is_within_range y.block (y.block + (y.extent.1 - y.extent.0)) b (omega (arith, y.is)) (omega (arith, y.is, y.low, y.high))))
    where
      parts : (t q k l o : ℕ) (sums : List ℕ) (t2 q2 k2 l2 o2 : ℕ) (sums2 : List ℕ)
          → ExtentKey t q k l ≡ ExtentKey t2 q2 k2 l2 → ExtentValue o sums ≡ ExtentValue o2 sums2 → (t ≡ t2) × (q ≡ q2) × (k ≡ k2) × (o ≡ o2)
      parts t q k l o sums t2 q2 k2 l2 o2 sums2 e f = (cc, cc, cc, cc)

      not_same : (t q k l o : ℕ) (sums : List ℕ) (t2 q2 k2 l2 o2 : ℕ) (sums2 : List ℕ)
          → extent_item t q k l o sums ≡ extent_item t2 q2 k2 l2 o2 sums2
          → (i j : ℕ) → o + (i - k) ≡ b → o2 + (j - k2) ≡ b → k ≤ i → k2 ≤ j → (node_of t q ≡ node_of t2 q2) × (i ≡ j)
      not_same t q k l o sums t2 q2 k2 l2 o2 sums2 same i j x y low low2 =
          let p = parts t q k l o sums t2 q2 k2 l2 o2 sums2 (ap (λ (z : PlainItem). z.key) same) (ap (λ (z : PlainItem). z.value) same) in
          (λ d. record { store = p.0 d; id = p.1 d }, omega (arith, p.2, p.3, x, y, low, low2))

  pub unsound_if : is_unsound_count on_files on_taken kept_back ≡ true → IsUnsoundAt image b
  unsound_if e = elim (zero_or_more on_taken) [
    | inl z ↦
        let l : 0 < on_files = ltb-true 0 on_files (sym (by_zero on_files on_taken kept_back z) ∙ e) in
        let h = some_holder b image.items (some_counted b (file_ranges image.items) l) in
        Untaken h.node (h.start + (b - h.block)) (held_at image.items s b h) (no_entry z)
    | inr t ↦ elim (or_split (not (on_files == 1)) kept_back (sym (by_some on_files on_taken kept_back t) ∙ e)) [
      | inr k ↦ Misplaced (ValueEntry TakenValue) (taken_entry t) (reserved_is k)
      | inl k ↦ elim (zero_or_more on_files) [
        | inl z ↦ Leaked (ValueEntry TakenValue) (taken_entry t) (λ node n h. let l : 0 < on_files = held_files node n h in omega (arith, l, z))
        | inr l ↦
            let two = shares b image.items s.apart (two_items b image.items (two_counted b (file_ranges image.items) (not_one on_files k l))) in
            Shared two.g.node two.h.node (two.g.start + (b - two.g.block)) (two.h.start + (b - two.h.block)) (held_at image.items s b two.g) (held_at image.items s b two.h) two.different
      ]
    ]
  ]

  pub unsound_only : IsUnsoundAt image b → is_unsound_count on_files on_taken kept_back ≡ true
  unsound_only (Leaked entry e none) =
      by_some on_files on_taken kept_back (entry_taken entry e) ∙ or_first (not (on_files == 1)) kept_back (apart_from_one on_files (λ one.
      let h = some_holder b image.items (some_counted b (file_ranges image.items) (omega (arith, one))) in none h.node (h.start + (b - h.block)) (held_at image.items s b h)))
  unsound_only (Untaken node n e none) = elim (zero_or_more on_taken) [
    | inl z ↦ by_zero on_files on_taken kept_back z ∙ lt-ltb 0 on_files (held_files node n e)
    | inr l ↦ absurd (let q : None ≡ Some (ValueEntry TakenValue) = sym none ∙ taken_entry l in cc)
  ]
  unsound_only (Shared a c i j e f ne) =
      let two : 2 ≤ on_files = shared_two a c i j e f ne in
      elim (zero_or_more on_taken) [
        | inl z ↦ by_zero on_files on_taken kept_back z ∙ lt-ltb 0 on_files (omega (arith, two))
        | inr l ↦ by_some on_files on_taken kept_back l ∙ or_first (not (on_files == 1)) kept_back (apart_from_one on_files (λ one. omega (arith, one, two)))
      ]
  unsound_only (Misplaced entry e reserved) = by_some on_files on_taken kept_back (entry_taken entry e) ∙ or_second (not (on_files == 1)) kept_back (is_kept_back reserved)

  -- such a block is one of the greatest device
  taken_below : (e : Entry) → points_in image.items (AtDeviceBlock b) ≡ Some e → b < MAX_DEVICE_BLOCKS
  taken_below e h =
      let a = taken_block image.items s b e h in
      let range = (good_in image.items s (record { key = AllocationKey a.start a.stop; value = TakenValue }) a.listed).key in
      omega (arith, a.high, range.1)

  held_below : (node : NodeId) (n : ℕ) → device_block (points_in image.items) node n ≡ Some b → b < MAX_DEVICE_BLOCKS
  held_below node n e =
      let h = holder_by image.items s node n b e in
      let x = (good_in image.items s (record { key = ExtentKey h.node.store h.node.id h.start h.stop; value = ExtentValue h.block h.sums }) h.listed).value in
      omega (arith, h.high, x.count, x.inside)

  pub unsound_below : IsUnsoundAt image b → b < MAX_DEVICE_BLOCKS
  unsound_below (Leaked entry e none) = taken_below entry e
  unsound_below (Untaken node n e none) = held_below node n e
  unsound_below (Shared a c i j e f ne) = held_below a i e
  unsound_below (Misplaced entry e reserved) = taken_below entry e

-- ---- the first one

module _ (image : PlainImage) (s : AreStanding image.items) (files taken layers : List ℕ)
    (f : AreClaims (file_ranges image.items) files) (t : AreClaims (taken_ranges image.items) taken) (l : AreClaims (single_ranges image.layers) layers) where
  tested : (b : ℕ) → b < MAX_DEVICE_BLOCKS → is_bad_block image.ring image.disk files taken layers b
      ≡ is_unsound_count (claims_on (file_ranges image.items) b) (claims_on (taken_ranges image.items) b) (is_reserved image.ring image.disk (claims_on (single_ranges image.layers) b) b)
  tested b below =
      ap (λ (x : ℕ). is_unsound_count x (get_or taken b 0) (is_reserved image.ring image.disk (get_or layers b 0) b)) (f b below)
      ∙ ap (λ (x : ℕ). is_unsound_count (claims_on (file_ranges image.items) b) x (is_reserved image.ring image.disk (get_or layers b 0) b)) (t b below)
      ∙ ap (λ (x : ℕ). is_unsound_count (claims_on (file_ranges image.items) b) (claims_on (taken_ranges image.items) b) (is_reserved image.ring image.disk x b)) (l b below)

  tests_true : (b : ℕ) → IsUnsoundAt image b → is_bad_block image.ring image.disk files taken layers b ≡ true
  tests_true b u = tested b (unsound_below image s b u) ∙ unsound_only image s b u

  pub none_found : (found : Option ℕ) → FindsFirst (is_bad_block image.ring image.disk files taken layers) found → IfNone found (HasNoUnsoundBlock image)
  none_found (Some b) h = tt
  none_found None h = λ b u. let q : true ≡ false = sym (tests_true b u) ∙ h b (unsound_below image s b u) in cc

  pub least_found : (found : Option ℕ) → FindsFirst (is_bad_block image.ring image.disk files taken layers) found → IfSome found (IsLeastUnsound image)
  least_found None h = tt
  least_found (Some b) h = record {
    unsound = unsound_if image s b (sym (tested b h.0) ∙ h.1);
    least = λ other u. elim (cases_lt other b) [ inl less ↦ absurd (let q : true ≡ false = sym (tests_true other u) ∙ h.2 other less in cc) | inr le ↦ le ];
  }

-- the same of equal tables
pub first_by : (ring disk : ℕ) (found : Option ℕ) {f g h k l n : List ℕ} → f ≡ g → h ≡ k → l ≡ n → FindsFirst (is_bad_block ring disk f h l) found → FindsFirst (is_bad_block ring disk g k n) found
first_by ring disk found {f} {g} {h} {k} {l} {n} e i j x =
    subst (λ (z : List ℕ). FindsFirst (is_bad_block ring disk g k z) found) j
    (subst (λ (z : List ℕ). FindsFirst (is_bad_block ring disk g z l) found) i (subst (λ (z : List ℕ). FindsFirst (is_bad_block ring disk z h l) found) e x))
