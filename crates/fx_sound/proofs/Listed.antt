-- Items that stand: what stands at a point is what the one item says that covers it.
use Rattle.std.proofs.Common.{◌≡◌, ◌⊎◌, inl, inr, ℕ, suc, ◌+◌, ◌-◌, ◌<◌, ◌≤◌, Bool, true, false, cond, List, [], ◌∷◌, get_or, refl, sym, ap, subst, ◌∙◌, arith}
use Rattle.std.specs.Prelude.{Option, Some, None, nat_le, nat_lt, ◌==◌, ◌&&◌}
use Rattle.std.specs.List.{slice_get}
use Rattle.std.proofs.lemmas.Bool.{and_parts, eqb-true, eq-eqb, leb-true, le-leb, ltb-true, lt-ltb}
use Rattle.fx_item.specs.Item.{PlainKey, ObjectKey, AttributeKey, ExtentKey, ChildKey, GraveKey, AllocationKey, PlainValue, GoneValue, DirectoryValue, FileValue, AttributeValue, ChildValue, WaitingValue, ExtentValue, TakenValue, PlainItem, IsItem, Suits}
use Rattle.fx_item.specs.Place.{Upto, begins, ends}
use Rattle.fx_item.specs.Overlay.{Point, AtKey, AtFileBlock, AtDeviceBlock, Entry, ValueEntry, BlockEntry, at, covers, entry_in, says, standing}
use Rattle.fx_item.specs.Look.{AllApart, is_gone, is_point_key, value_of_entry}
use Rattle.fx_item.proofs.PlaceOrder.{upto_itself, upto_upto}
use Rattle.fx_item.proofs.Between.{just_past}
use Rattle.fx_item.proofs.Covered.{behind_not, covers_upto, lies_covers, same_key_is}
use Rattle.fx_nodes.specs.Lists.{IsIn}
use Rattle.fx_nodes.proofs.Tree.{at_in}
use Rattle.fx_contents.specs.Points.{value_under}
use Rattle.fx_sound.specs.Image.{AreStanding, points_in}

-- ---- lists in order

pub apart_tail : (x : PlainItem) (xs : List PlainItem) → AllApart (x ∷ xs) → AllApart xs
apart_tail x xs a = record {
  good = λ i y e. a.good (suc i) y e;
  apart = λ i j y z l e f. a.apart (suc i) (suc j) y z (omega (arith, l)) e f;
}

pub head_apart : (x : PlainItem) (xs : List PlainItem) → AllApart (x ∷ xs) → (y : PlainItem) → IsIn xs y → Upto (ends x.key) (begins y.key)
head_apart x xs a y i = let k = at_in xs y i in a.apart 0 (suc k.0) x y (omega arith) refl k.2

-- a later item's points are not the first one's
pub not_head : (x : PlainItem) (xs : List PlainItem) → AllApart (x ∷ xs) → (y : PlainItem) (p : Point) → IsIn xs y → covers y.key p ≡ true → covers x.key p ≡ false
not_head x xs a y p i c = behind_not x.key p (upto_upto (head_apart x xs a y i) (covers_upto y.key p c))

pub said_at : (xs : List PlainItem) → AllApart xs → (x : PlainItem) (p : Point) → IsIn xs x → covers x.key p ≡ true → says xs p ≡ Some (entry_in x.key x.value p)
said_at [] a x p i c = absurd i
said_at (y ∷ ys) a x p (inl e) c =
    ap (λ b. cond b (Some (entry_in y.key y.value p)) (says ys p)) (ap (λ (z : PlainItem). covers z.key p) e ∙ c) ∙ ap (λ (z : PlainItem). Some (entry_in z.key z.value p)) e
said_at (y ∷ ys) a x p (inr i) c =
    ap (λ b. cond b (Some (entry_in y.key y.value p)) (says ys p)) (not_head y ys a x p i c) ∙ said_at ys (apart_tail y ys a) x p i c

pub one_covers : (xs : List PlainItem) → AllApart xs → (x y : PlainItem) (p : Point) → IsIn xs x → IsIn xs y → covers x.key p ≡ true → covers y.key p ≡ true → x ≡ y
one_covers [] a x y p i j c d = absurd i
one_covers (z ∷ zs) a x y p (inl e) (inl f) c d = sym e ∙ f
one_covers (z ∷ zs) a x y p (inl e) (inr j) c d = absurd (let q : true ≡ false = sym c ∙ sym (ap (λ (w : PlainItem). covers w.key p) e) ∙ not_head z zs a y p j d in cc)
one_covers (z ∷ zs) a x y p (inr i) (inl f) c d = absurd (let q : true ≡ false = sym d ∙ sym (ap (λ (w : PlainItem). covers w.key p) f) ∙ not_head z zs a x p i c in cc)
one_covers (z ∷ zs) a x y p (inr i) (inr j) c d = one_covers zs (apart_tail z zs a) x y p i j c d

-- the item of a list that says something of a point
pub record Says (xs : List PlainItem) (p : Point) (said : Option Entry) : Type 0 where
  pub item : PlainItem
  pub listed : IsIn xs item
  pub covers_it : covers item.key p ≡ true
  pub is : entry_in item.key item.value p ≡ said

later : (x : PlainItem) (xs : List PlainItem) (p : Point) (said : Option Entry) → Says xs p said → Says (x ∷ xs) p said
later x xs p said s = record { item = s.item; listed = inr s.listed; covers_it = s.covers_it; is = s.is }

says_step : (x : PlainItem) (xs : List PlainItem) (p : Point) (said : Option Entry) (b : Bool) → covers x.key p ≡ b → (says xs p ≡ Some said → Says xs p said)
    → cond b (Some (entry_in x.key x.value p)) (says xs p) ≡ Some said → Says (x ∷ xs) p said
says_step x xs p said true c ih e = record { item = x; listed = inl refl; covers_it = c; is = cc }
says_step x xs p said false c ih e = later x xs p said (ih e)

pub says_by : (xs : List PlainItem) (p : Point) (said : Option Entry) → says xs p ≡ Some said → Says xs p said
says_by [] p said e = absurd (cc e)
says_by (x ∷ xs) p said e = says_step x xs p said (covers x.key p) refl (says_by xs p said) e

standing_some : (o : Option (Option Entry)) (e : Entry) → standing o ≡ Some e → o ≡ Some (Some e)
standing_some None e h = absurd (cc h)
standing_some (Some x) e h = ap Some h

-- ---- point keys

pub covers_key : (k q : PlainKey) → covers k (AtKey q) ≡ true → k ≡ q
covers_key (ObjectKey s i) q e = same_key_is (ObjectKey s i) q e
covers_key (AttributeKey s i name) q e = same_key_is (AttributeKey s i name) q e
covers_key (ExtentKey s i a b) q e = same_key_is (ExtentKey s i a b) q e
covers_key (ChildKey s i name) q e = same_key_is (ChildKey s i name) q e
covers_key (GraveKey s i) q e = same_key_is (GraveKey s i) q e
covers_key (AllocationKey a b) q e = same_key_is (AllocationKey a b) q e

pub covers_self : (k : PlainKey) → is_point_key k ≡ true → covers k (AtKey k) ≡ true
covers_self (ObjectKey s i) e = lies_covers (ObjectKey s i) (AtKey (ObjectKey s i)) (upto_itself (begins (ObjectKey s i))) (just_past s i 1 [])
covers_self (AttributeKey s i name) e = lies_covers (AttributeKey s i name) (AtKey (AttributeKey s i name)) (upto_itself (begins (AttributeKey s i name))) (just_past s i 2 name)
covers_self (ChildKey s i name) e = lies_covers (ChildKey s i name) (AtKey (ChildKey s i name)) (upto_itself (begins (ChildKey s i name))) (just_past s i 4 name)
covers_self (GraveKey s i) e = lies_covers (GraveKey s i) (AtKey (GraveKey s i)) (upto_itself (begins (GraveKey s i))) (just_past s i 5 [])
covers_self (ExtentKey s i a b) e = absurd (cc)
covers_self (AllocationKey a b) e = absurd (cc)

-- an entry of a key that is no tombstone
pub key_entry : (k : PlainKey) (v : PlainValue) (q : PlainKey) → is_gone v ≡ false → entry_in k v (AtKey q) ≡ Some (ValueEntry v)
key_entry k GoneValue q a = absurd (cc)
key_entry (ExtentKey s i x y) (ExtentValue block sums) q a = refl
key_entry k v q a = refl

entry_value : (o : Option Entry) (v : PlainValue) → value_of_entry o ≡ Some v → o ≡ Some (ValueEntry v)
entry_value None v e = absurd (cc e)
entry_value (Some (ValueEntry w)) v e = let same : w ≡ v = cc in ap (λ z. Some (ValueEntry z)) same
entry_value (Some (BlockEntry b s)) v e = absurd (cc e)

same_value : (v w : PlainValue) → Some (ValueEntry v) ≡ Some (ValueEntry w) → v ≡ w
same_value v w e = cc

module _ (items : List PlainItem) (s : AreStanding items) where
  pub good_in : (x : PlainItem) → IsIn items x → IsItem x
  good_in x i = let k = at_in items x i in s.apart.good k.0 x k.2

  pub alive_in : (x : PlainItem) → IsIn items x → is_gone x.value ≡ false
  alive_in x i = let k = at_in items x i in s.alive k.0 x k.2

  pub stands_at : (x : PlainItem) (p : Point) → IsIn items x → covers x.key p ≡ true → points_in items p ≡ entry_in x.key x.value p
  stands_at x p i c = ap standing (said_at items s.apart x p i c)

  pub stands_by : (p : Point) (e : Entry) → points_in items p ≡ Some e → Says items p (Some e)
  stands_by p e h = says_by items p (Some e) (standing_some (says items p) e h)

  -- an item of a point key stands under it
  key_stands : (x : PlainItem) → IsIn items x → is_point_key x.key ≡ true → points_in items (AtKey x.key) ≡ Some (ValueEntry x.value)
  key_stands x i p = stands_at x (AtKey x.key) i (covers_self x.key p) ∙ key_entry x.key x.value x.key (alive_in x i)

  under_point : (k : PlainKey) → is_point_key k ≡ true → value_under (points_in items) k ≡ value_of_entry (points_in items (AtKey k))
  under_point (ObjectKey t j) p = refl
  under_point (AttributeKey t j name) p = refl
  under_point (ChildKey t j name) p = refl
  under_point (GraveKey t j) p = refl
  under_point (ExtentKey t j a b) p = absurd (cc)
  under_point (AllocationKey a b) p = absurd (cc)

  pub value_stands : (x : PlainItem) → IsIn items x → is_point_key x.key ≡ true → value_under (points_in items) x.key ≡ Some x.value
  value_stands x i p = under_point x.key p ∙ ap value_of_entry (key_stands x i p)

  found_entry : (k : PlainKey) (v : PlainValue) → points_in items (AtKey k) ≡ Some (ValueEntry v) → IsIn items (record { key = k; value = v })
  found_entry k v e =
      let f = stands_by (AtKey k) (ValueEntry v) e in
      let key : f.item.key ≡ k = covers_key f.item.key k f.covers_it in
      let value : f.item.value ≡ v = same_value f.item.value v (sym (key_entry f.item.key f.item.value k (alive_in f.item f.listed)) ∙ f.is) in
      subst (IsIn items) (λ i. record { key = key i; value = value i }) f.listed

  -- what stands under a key is an item
  pub value_listed : (k : PlainKey) (v : PlainValue) → value_under (points_in items) k ≡ Some v → IsIn items (record { key = k; value = v })
  value_listed (ObjectKey t j) v e = found_entry (ObjectKey t j) v (entry_value (points_in items (AtKey (ObjectKey t j))) v e)
  value_listed (AttributeKey t j name) v e = found_entry (AttributeKey t j name) v (entry_value (points_in items (AtKey (AttributeKey t j name))) v e)
  value_listed (ChildKey t j name) v e = found_entry (ChildKey t j name) v (entry_value (points_in items (AtKey (ChildKey t j name))) v e)
  value_listed (GraveKey t j) v e = found_entry (GraveKey t j) v (entry_value (points_in items (AtKey (GraveKey t j))) v e)
  value_listed (ExtentKey t j a b) v e = absurd (cc e)
  value_listed (AllocationKey a b) v e = absurd (cc e)

-- ---- ranges

-- block n of a node is one of an extent's
pub record InExtent (items : List PlainItem) (t j n : ℕ) (e : Entry) : Type 0 where
  pub start : ℕ
  pub stop : ℕ
  pub block : ℕ
  pub sums : List ℕ
  pub listed : IsIn items (record { key = ExtentKey t j start stop; value = ExtentValue block sums })
  pub low : start ≤ n
  pub high : n < stop
  pub is : e ≡ BlockEntry (block + (n - start)) (get_or sums (n - start) 0)

-- a block of the device is one of an allocation's
pub record InAllocation (items : List PlainItem) (b : ℕ) : Type 0 where
  pub start : ℕ
  pub stop : ℕ
  pub listed : IsIn items (record { key = AllocationKey start stop; value = TakenValue })
  pub low : start ≤ b
  pub high : b < stop

pub range_parts : (s i t j a b n : ℕ) → ((s == t) && (i == j) && nat_le a n && nat_lt n b) ≡ true → (s ≡ t) × (i ≡ j) × (a ≤ n) × (n < b)
range_parts s i t j a b n e =
    let p = and_parts ((s == t) && (i == j) && nat_le a n) (nat_lt n b) e in
    let q = and_parts ((s == t) && (i == j)) (nat_le a n) p.0 in
    let r = and_parts (s == t) (i == j) q.0 in
    (eqb-true s t r.0, eqb-true i j r.1, leb-true a n q.1, ltb-true n b p.1)

both_true : (b c : Bool) → b ≡ true → c ≡ true → (b && c) ≡ true
both_true b c e f = ap (λ x. x && c) e ∙ f

pub covers_file : (t j a b n : ℕ) → a ≤ n → n < b → covers (ExtentKey t j a b) (AtFileBlock t j n) ≡ true
covers_file t j a b n l h = both_true ((t == t) && (j == j) && nat_le a n) (nat_lt n b)
    (both_true ((t == t) && (j == j)) (nat_le a n) (both_true (t == t) (j == j) (eq-eqb t t refl) (eq-eqb j j refl)) (le-leb a n l)) (lt-ltb n b h)

pub covers_device : (a b n : ℕ) → a ≤ n → n < b → covers (AllocationKey a b) (AtDeviceBlock n) ≡ true
covers_device a b n l h = both_true (nat_le a n) (nat_lt n b) (le-leb a n l) (lt-ltb n b h)

module _ (items : List PlainItem) (s : AreStanding items) where
  in_extent : (t j n : ℕ) (e : Entry) (k : PlainKey) (v : PlainValue) → IsIn items (record { key = k; value = v }) → Suits k v → is_gone v ≡ false
      → covers k (AtFileBlock t j n) ≡ true → entry_in k v (AtFileBlock t j n) ≡ Some e → InExtent items t j n e
  in_extent t j n e (ExtentKey q r a b) (ExtentValue block sums) i suits alive c is =
      let p = range_parts q r t j a b n c in
      record {
        start = a;
        stop = b;
        block = block;
        sums = sums;
        listed = subst (λ x. IsIn items (record { key = ExtentKey t x a b; value = ExtentValue block sums })) p.1 (subst (λ x. IsIn items (record { key = ExtentKey x r a b; value = ExtentValue block sums })) p.0 i);
        low = p.2;
        high = p.3;
        is = cc;
      }
  in_extent t j n e (ExtentKey q r a b) GoneValue i suits alive c is = absurd (cc)
  in_extent t j n e (ExtentKey q r a b) v i suits alive c is = absurd suits
  in_extent t j n e k v i suits alive c is = absurd (cc)

  pub file_block : (t j n : ℕ) (e : Entry) → points_in items (AtFileBlock t j n) ≡ Some e → InExtent items t j n e
  file_block t j n e h =
      let f = stands_by items s (AtFileBlock t j n) e h in
      in_extent t j n e f.item.key f.item.value f.listed (good_in items s f.item f.listed).value (alive_in items s f.item f.listed) f.covers_it f.is

  pub extent_block : (t j a b n block : ℕ) (sums : List ℕ) → IsIn items (record { key = ExtentKey t j a b; value = ExtentValue block sums }) → a ≤ n → n < b
      → points_in items (AtFileBlock t j n) ≡ Some (BlockEntry (block + (n - a)) (get_or sums (n - a) 0))
  extent_block t j a b n block sums i l h = stands_at items s (record { key = ExtentKey t j a b; value = ExtentValue block sums }) (AtFileBlock t j n) i (covers_file t j a b n l h)

  in_allocation : (b : ℕ) (e : Entry) (k : PlainKey) (v : PlainValue) → IsIn items (record { key = k; value = v }) → Suits k v → is_gone v ≡ false
      → covers k (AtDeviceBlock b) ≡ true → InAllocation items b
  in_allocation b e (AllocationKey x y) TakenValue i suits alive c =
      let p = and_parts (nat_le x b) (nat_lt b y) c in
      record { start = x; stop = y; listed = i; low = leb-true x b p.0; high = ltb-true b y p.1 }
  in_allocation b e (AllocationKey x y) GoneValue i suits alive c = absurd (cc)
  in_allocation b e (AllocationKey x y) v i suits alive c = absurd suits
  in_allocation b e k v i suits alive c = absurd (cc)

  pub taken_block : (b : ℕ) (e : Entry) → points_in items (AtDeviceBlock b) ≡ Some e → InAllocation items b
  taken_block b e h =
      let f = stands_by items s (AtDeviceBlock b) e h in
      in_allocation b e f.item.key f.item.value f.listed (good_in items s f.item f.listed).value (alive_in items s f.item f.listed) f.covers_it

  pub allocation_block : (a b n : ℕ) → IsIn items (record { key = AllocationKey a b; value = TakenValue }) → a ≤ n → n < b → points_in items (AtDeviceBlock n) ≡ Some (ValueEntry TakenValue)
  allocation_block a b n i l h = stands_at items s (record { key = AllocationKey a b; value = TakenValue }) (AtDeviceBlock n) i (covers_device a b n l h)
