-- The items of a line that writes or cuts one file are in order.
use Rattle.std.proofs.Common.{◌≡◌, ◌≢◌, inl, inr, ℕ, zero, suc, ◌+◌, ◌-◌, ◌<◌, ◌≤◌, ◌^◌, ◌==◌, ◌&&◌, Bool, true, false, cond, List, [], ◌∷◌, ◌++◌, Option, Some, None, refl, sym, ap, subst, ◌∙◌, arith, eqb-true, eq-eqb}
use Rattle.std.specs.Prelude.{All, nat_lt, nat_le, option_map, option_to_list, slice_get}
use Rattle.std.specs.List.{find}
use Rattle.std.specs.Ordering.{is_le, nat_cmp, ordering_then}
use Rattle.std.specs.declared.cmp.Ordering.TheVariants.{Less, Equal}
use Rattle.std.proofs.lemmas.Bool.{and_from, and_parts, cases_Bool, le-leb, lt-ltb, ltb-true}
use Rattle.std.proofs.lemmas.Cmp.{nat_cmp_total, tied_itself}
use Rattle.std.proofs.lemmas.List.Elements.{All-cons, All-nil}
use Rattle.fx_item.specs.Item.{PlainKey, ObjectKey, AttributeKey, ExtentKey, ChildKey, GraveKey, AllocationKey, FileValue, GoneValue, PlainItem, IsItem, IsKey}
use Rattle.fx_item.specs.Order.{is_ascending, may_follow}
use Rattle.fx_item.specs.Overlay.{Point, AtKey, AtFileBlock, AtDeviceBlock, Entry, at, covers, entry_in, says}
use Rattle.fx_item.specs.Place.{Place, Upto, Below, begins, device_place, ends, file_place, key_place, place_cmp}
use Rattle.fx_item.specs.declared.item.TheConstants.{MAX_FILE_BLOCKS}
use Rattle.fx_item.proofs.Between.{not_empty}
use Rattle.fx_item.proofs.Covered.{device_upto, file_upto, lies_covers}
use Rattle.fx_item.proofs.Follow.{follow_holds}
use Rattle.fx_item.proofs.PlaceOrder.{below_upto, upto_itself, upto_le, upto_upto}
use Rattle.fx_namespace.specs.Nodes.{NodeId}
use Rattle.fx_extent.specs.Allocations.{AreAllocationsOf, said_by}
use Rattle.fx_extent.specs.Listed.{file_items, gone_item}
use Rattle.fx_extent.specs.Staged.{AreExtentsOf, AreInPlaces, new_entry, said_of}
use Rattle.fx_extent.specs.declared.storing.NewBlock.{NewBlock}
use Rattle.fx_live.specs.Live.{AreOrdered}
use Rattle.fx_live.proofs.Ordered.{AreBehind, ordered_rest, says_first, says_later}
use Rattle.fx_live.proofs.Swapped.{found_in}

-- ---- lists put one behind the other

-- each item ends at the place or before it
abbrev pub EndBy : Place → List PlainItem → Type 0
EndBy r [] = Unit {0}
EndBy r (x ∷ xs) = Upto (ends x.key) r × EndBy r xs

end_later : (q r : Place) (xs : List PlainItem) → Upto q r → EndBy q xs → EndBy r xs
end_later q r [] l e = tt
end_later q r (x ∷ xs) l e = (upto_upto e.0 l, end_later q r xs l e.1)

end_append : (r : Place) (xs ys : List PlainItem) → EndBy r xs → EndBy r ys → EndBy r (xs ++ ys)
end_append r [] ys e f = f
end_append r (x ∷ xs) ys e f = (e.0, end_append r xs ys e.1 f)

behind_lower : (q r : Place) (xs : List PlainItem) → Upto q r → AreBehind r xs → AreBehind q xs
behind_lower q r [] l b = tt
behind_lower q r (x ∷ xs) l b = (b.0, upto_upto l b.1, b.2)

behind_append : (q r : Place) (xs ys : List PlainItem) → AreBehind q xs → EndBy r xs → Upto q r → AreBehind r ys → AreBehind q (xs ++ ys)
behind_append q r [] ys a e l b = behind_lower q r ys l b
behind_append q r (x ∷ xs) ys a e l b = (a.0, a.1, behind_append (ends x.key) r xs ys a.2 e.1 e.0 b)

behind_each : (q : Place) (xs : List PlainItem) → AreBehind q xs → All IsItem xs
behind_each q [] b = All-nil IsItem
behind_each q (x ∷ xs) b = All-cons IsItem x xs b.0 (behind_each (ends x.key) xs b.2)

behind_ascending : (q : Place) (xs : List PlainItem) → AreBehind q xs → is_ascending xs ≡ true
behind_ascending q [] b = refl
behind_ascending q (x ∷ []) b = refl
behind_ascending q (x ∷ y ∷ rest) b =
    and_from (may_follow x.key y.key) (is_ascending (y ∷ rest)) (follow_holds x.key y.key b.0.key b.2.0.key ∙ upto_le b.2.1) (behind_ascending (ends x.key) (y ∷ rest) b.2)

pub behind_ordered : (q : Place) (xs : List PlainItem) → AreBehind q xs → AreOrdered xs
behind_ordered q xs b = record { each = behind_each q xs b; ascending = behind_ascending q xs b }

-- items in order, the first of which begins at the place or behind it
ordered_behind : (q : Place) (xs : List PlainItem) → AreOrdered xs → ((x : PlainItem) (rest : List PlainItem) → xs ≡ x ∷ rest → Upto q (begins x.key)) → AreBehind q xs
ordered_behind q [] o h = tt
ordered_behind q (x ∷ xs) o h = let r = ordered_rest x xs o in (r.0, h x xs refl, r.2)

-- ---- what a list speaks of

-- where a key begins it covers a point
says_begin : (x : PlainItem) (xs : List PlainItem) (p : Point) → IsItem x → begins x.key ≡ at p → says (x ∷ xs) p ≡ Some (entry_in x.key x.value p)
says_begin x xs p good e =
    says_first x xs p (lies_covers x.key p (subst (λ q. Upto (begins x.key) q) e (upto_itself (begins x.key))) (subst (λ q. Below q (ends x.key)) e (not_empty x.key good.key)))

module _ (s i bound : ℕ) where
  -- it speaks of places of one file alone, before a bound
  abbrev pub SpeaksOfFile : List PlainItem → Type 0
  SpeaksOfFile xs = (p : Point) (o : Option Entry) → says xs p ≡ Some o → (n : ℕ) × (p ≡ AtFileBlock s i n) × (n < bound)

  key_away : (key : PlainKey) (n : ℕ) → AtKey key ≡ AtFileBlock s i n → ⊥
  key_away key n e = absurd (cc)

  device_away : (b n : ℕ) → AtDeviceBlock b ≡ AtFileBlock s i n → ⊥
  device_away b n e = absurd (cc)

  in_file : (x : PlainItem) (xs : List PlainItem) → IsItem x → SpeaksOfFile (x ∷ xs) → (key : PlainKey) → x.key ≡ key → Upto (file_place s i 0) (begins key) × Upto (ends key) (file_place s i bound)
  in_file x xs good h (ObjectKey t j) e = let r = h (AtKey (ObjectKey t j)) _ (says_begin x xs (AtKey (ObjectKey t j)) good (ap begins e)) in absurd (key_away (ObjectKey t j) r.0 r.1)
  in_file x xs good h (AttributeKey t j name) e = let r = h (AtKey (AttributeKey t j name)) _ (says_begin x xs (AtKey (AttributeKey t j name)) good (ap begins e)) in absurd (key_away (AttributeKey t j name) r.0 r.1)
  in_file x xs good h (ChildKey t j name) e = let r = h (AtKey (ChildKey t j name)) _ (says_begin x xs (AtKey (ChildKey t j name)) good (ap begins e)) in absurd (key_away (ChildKey t j name) r.0 r.1)
  in_file x xs good h (GraveKey t j) e = let r = h (AtKey (GraveKey t j)) _ (says_begin x xs (AtKey (GraveKey t j)) good (ap begins e)) in absurd (key_away (GraveKey t j) r.0 r.1)
  in_file x xs good h (AllocationKey start stop) e = let r = h (AtDeviceBlock start) _ (says_begin x xs (AtDeviceBlock start) good (ap begins e)) in absurd (device_away start r.0 r.1)
  in_file x xs good h (ExtentKey t j start stop) e =
      let key : IsKey (ExtentKey t j start stop) = subst IsKey e good.key in
      let last : covers x.key (AtFileBlock t j (stop - 1)) ≡ true = ap (λ k. covers k (AtFileBlock t j (stop - 1))) e
      ∙ and_from (((t == t) && (j == j)) && nat_le start (stop - 1)) (nat_lt (stop - 1) stop)
      (and_from ((t == t) && (j == j)) (nat_le start (stop - 1)) (and_from (t == t) (j == j) (eq-eqb t t refl) (eq-eqb j j refl)) (le-leb start (stop - 1) (omega (arith, key.2))))
      (lt-ltb (stop - 1) stop (omega (arith, key.2))) in
      let r = h (AtFileBlock t j (stop - 1)) _ (says_first x xs (AtFileBlock t j (stop - 1)) last) in
      let store : t ≡ s = (let q : AtFileBlock t j (stop - 1) ≡ AtFileBlock s i r.0 = r.1 in cc q) in
      let id : j ≡ i = (let q : AtFileBlock t j (stop - 1) ≡ AtFileBlock s i r.0 = r.1 in cc q) in
      let place : stop - 1 ≡ r.0 = (let q : AtFileBlock t j (stop - 1) ≡ AtFileBlock s i r.0 = r.1 in cc q) in (
        subst (λ z. Upto (file_place s i 0) (file_place z j start)) (sym store) (subst (λ z. Upto (file_place s i 0) (file_place s z start)) (sym id) (file_upto s i 0 start (omega arith))),
        subst (λ z. Upto (file_place z j stop) (file_place s i bound)) (sym store) (subst (λ z. Upto (file_place s z stop) (file_place s i bound)) (sym id) (file_upto s i stop bound (omega (arith, place, r.2, key.2)))),
      )

  pub file_begins : (xs : List PlainItem) → AreOrdered xs → SpeaksOfFile xs → (x : PlainItem) (rest : List PlainItem) → xs ≡ x ∷ rest → Upto (file_place s i 0) (begins x.key)
  file_begins [] o h x rest e = absurd (cc)
  file_begins (y ∷ ys) o h x rest e =
      let same : y ≡ x = cc e in
      subst (λ z. Upto (file_place s i 0) (begins z.key)) same (in_file y ys (ordered_rest y ys o).0 h y.key refl).0

  pub file_ends : (xs : List PlainItem) → AreOrdered xs → SpeaksOfFile xs → EndBy (file_place s i bound) xs
  file_ends [] o h = tt
  file_ends (y ∷ ys) o h =
      let r = ordered_rest y ys o in
      ((in_file y ys r.0 h y.key refl).1, file_ends ys r.1 (λ p e f. h p e (says_later y ys p e o f)))

-- ---- the allocations

abbrev SpeaksOfDevice : List PlainItem → Type 0
SpeaksOfDevice xs = (p : Point) (o : Option Entry) → says xs p ≡ Some o → (b : ℕ) × (p ≡ AtDeviceBlock b)

key_device : (key : PlainKey) (b : ℕ) → AtKey key ≡ AtDeviceBlock b → ⊥
key_device key b e = absurd (cc)

file_device : (s i n b : ℕ) → AtFileBlock s i n ≡ AtDeviceBlock b → ⊥
file_device s i n b e = absurd (cc)

on_device : (x : PlainItem) (xs : List PlainItem) → IsItem x → SpeaksOfDevice (x ∷ xs) → (key : PlainKey) → x.key ≡ key → Upto (device_place 0) (begins key)
on_device x xs good h (ObjectKey t j) e = let r = h (AtKey (ObjectKey t j)) _ (says_begin x xs (AtKey (ObjectKey t j)) good (ap begins e)) in absurd (key_device (ObjectKey t j) r.0 r.1)
on_device x xs good h (AttributeKey t j name) e = let r = h (AtKey (AttributeKey t j name)) _ (says_begin x xs (AtKey (AttributeKey t j name)) good (ap begins e)) in absurd (key_device (AttributeKey t j name) r.0 r.1)
on_device x xs good h (ChildKey t j name) e = let r = h (AtKey (ChildKey t j name)) _ (says_begin x xs (AtKey (ChildKey t j name)) good (ap begins e)) in absurd (key_device (ChildKey t j name) r.0 r.1)
on_device x xs good h (GraveKey t j) e = let r = h (AtKey (GraveKey t j)) _ (says_begin x xs (AtKey (GraveKey t j)) good (ap begins e)) in absurd (key_device (GraveKey t j) r.0 r.1)
on_device x xs good h (ExtentKey t j start stop) e = let r = h (AtFileBlock t j start) _ (says_begin x xs (AtFileBlock t j start) good (ap begins e)) in absurd (file_device t j start r.0 r.1)
on_device x xs good h (AllocationKey start stop) e = device_upto 0 start (omega arith)

device_begins : (xs : List PlainItem) → AreOrdered xs → SpeaksOfDevice xs → (x : PlainItem) (rest : List PlainItem) → xs ≡ x ∷ rest → Upto (device_place 0) (begins x.key)
device_begins [] o h x rest e = absurd (cc)
device_begins (y ∷ ys) o h x rest e =
    let same : y ≡ x = cc e in
    subst (λ z. Upto (device_place 0) (begins z.key)) same (on_device y ys (ordered_rest y ys o).0 h y.key refl)

-- ---- the parts of a line

-- the places of one file lie behind its Object, and before the device
object_first : (s i : ℕ) → Upto (key_place s i 1 [] 1) (file_place s i 0)
object_first s i = below_upto (record {
  holds =
      ap (λ r. ordering_then r (ordering_then (nat_cmp i i) Less)) (tied_itself nat_cmp_total s) ∙ ap (λ r. ordering_then r Less) (tied_itself nat_cmp_total i);
})

file_first : (s i n : ℕ) → Upto (file_place s i n) (device_place 0)
file_first s i n = below_upto (record { holds = refl })

in_places : (least : ℕ) (xs : List NewBlock) (i : ℕ) (x : NewBlock) → AreInPlaces least xs → slice_get xs i ≡ Some x → x.index < MAX_FILE_BLOCKS
in_places least [] i x r g = absurd (let q : None ≡ Some x = g in cc)
in_places least (y ∷ ys) zero x r g = let is : y ≡ x = (let q : Some y ≡ Some x = g in cc q) in subst (λ (z : NewBlock). z.index < MAX_FILE_BLOCKS) is r.1
in_places least (y ∷ ys) (suc i) x r g = in_places (y.index + 1) ys i x r.3 g

module _ (node : NodeId) (blocks : List NewBlock) (extents : List PlainItem) (e : AreExtentsOf node blocks extents) (bound : ℕ)
    (low : (i : ℕ) (x : NewBlock) → slice_get blocks i ≡ Some x → x.index < bound) where
  extents_speak : SpeaksOfFile node.store node.id bound extents
  extents_speak p o h = by p (sym (e.said p) ∙ h)
    where
      found : (n : ℕ) (f : Option NewBlock) → find (λ x. x.index == n) blocks ≡ f → option_map new_entry f ≡ Some o → n < bound
      found n None f g = absurd (let q : None ≡ Some o = g in cc)
      found n (Some x) f g =
          let r = found_in (λ x. x.index == n) blocks x f in
          omega (arith, low r.0 x r.1, eqb-true x.index n r.2)

      by : (p : Point) → said_of node blocks p ≡ Some o → (n : ℕ) × (p ≡ AtFileBlock node.store node.id n) × (n < bound)
      by (AtKey key) h = absurd (let q : None ≡ Some o = h in cc)
      by (AtDeviceBlock b) h = absurd (let q : None ≡ Some o = h in cc)
      by (AtFileBlock s i n) h = elim (cases_Bool ((node.store == s) && (node.id == i))) [
        | inl same ↦
            let r = and_parts (node.store == s) (node.id == i) same in (
              n,
              λ j. AtFileBlock (sym (eqb-true node.store s r.0) j) (sym (eqb-true node.id i r.1) j) n,
              found n (find (λ x. x.index == n) blocks) refl (sym (ap (λ t. cond t (option_map new_entry (find (λ x. x.index == n) blocks)) None) same) ∙ h),
            )
        | inr differs ↦ absurd (let q : None ≡ Some o = sym (ap (λ t. cond t (option_map new_entry (find (λ x. x.index == n) blocks)) None) differs) ∙ h in cc)
      ]

  extents_ordered : AreOrdered extents
  extents_ordered = record { each = e.each; ascending = e.ascending }

  extents_behind : AreBehind (key_place node.store node.id 1 [] 1) extents
  extents_behind = behind_lower (key_place node.store node.id 1 [] 1) (file_place node.store node.id 0) extents (object_first node.store node.id)
      (ordered_behind (file_place node.store node.id 0) extents extents_ordered (file_begins node.store node.id bound extents extents_ordered extents_speak))

  extents_end : EndBy (file_place node.store node.id bound) extents
  extents_end = file_ends node.store node.id bound extents extents_ordered extents_speak

  -- with the places that are taken away behind them
  with_gone : (gone : List PlainItem) (to : ℕ) → AreBehind (file_place node.store node.id bound) gone → EndBy (file_place node.store node.id to) gone
      → AreBehind (key_place node.store node.id 1 [] 1) (extents ++ gone) × EndBy (device_place 0) (extents ++ gone)
  with_gone gone to b f = (
    behind_append (key_place node.store node.id 1 [] 1) (file_place node.store node.id bound) extents gone extents_behind extents_end
        (upto_upto (object_first node.store node.id) (file_upto node.store node.id 0 bound (omega arith))) b,
    end_append (device_place 0) extents gone (end_later (file_place node.store node.id bound) (device_place 0) extents (file_first node.store node.id bound) extents_end)
        (end_later (file_place node.store node.id to) (device_place 0) gone (file_first node.store node.id to) f),
  )

allocations_speak : (taken freed : List ℕ) (allocations : List PlainItem) → AreAllocationsOf taken freed allocations → SpeaksOfDevice allocations
allocations_speak taken freed allocations a p o h = by p (sym (a.said p) ∙ h)
  where
    by : (p : Point) → said_by taken freed p ≡ Some o → (b : ℕ) × (p ≡ AtDeviceBlock b)
    by (AtDeviceBlock b) h = (b, refl)
    by (AtKey key) h = absurd (let q : None ≡ Some o = h in cc)
    by (AtFileBlock s i n) h = absurd (let q : None ≡ Some o = h in cc)

pub line_ordered : (node : NodeId) (len from to : ℕ) (blocks : List NewBlock) (taken freed : List ℕ) (extents allocations : List PlainItem)
    → node.store < 2 ^ 32 → node.id < 2 ^ 64 → len < 2 ^ 32 → to ≤ MAX_FILE_BLOCKS → AreInPlaces 0 blocks → ((i : ℕ) (x : NewBlock) → slice_get blocks i ≡ Some x → from < to → x.index < from)
    → AreExtentsOf node blocks extents → AreAllocationsOf taken freed allocations → AreOrdered (file_items node len extents (gone_item node from to) allocations)
line_ordered node len from to blocks taken freed extents allocations store id short most rising before e a = by (nat_lt from to) refl
  where
    allocations_ordered : AreOrdered allocations
    allocations_ordered = record { each = a.each; ascending = a.ascending }

    behind : AreBehind (device_place 0) allocations
    behind = ordered_behind (device_place 0) allocations allocations_ordered (device_begins allocations allocations_ordered (allocations_speak taken freed allocations a))

    object : PlainItem
    object = record { key = ObjectKey node.store node.id; value = FileValue len }

    all : (gone : List PlainItem) → AreBehind (key_place node.store node.id 1 [] 1) (extents ++ gone) × EndBy (device_place 0) (extents ++ gone) → AreOrdered (object ∷ (extents ++ gone ++ allocations))
    all gone w = behind_ordered (key_place node.store node.id 1 [] 0) (object ∷ (extents ++ gone ++ allocations)) (
      record { key = (store, id); value = short },
      upto_itself (key_place node.store node.id 1 [] 0),
      behind_append (key_place node.store node.id 1 [] 1) (device_place 0) (extents ++ gone) allocations w.0 w.1 (upto_upto (object_first node.store node.id) (file_first node.store node.id 0)) behind,
    )

    by : (t : Bool) → nat_lt from to ≡ t → AreOrdered (object ∷ (extents ++ option_to_list (cond t (Some (record { key = ExtentKey node.store node.id from to; value = GoneValue })) None) ++ allocations))
    by false t = all [] (with_gone node blocks extents e MAX_FILE_BLOCKS (λ i x g. in_places 0 blocks i x rising g) [] 0 tt tt)
    by true t =
        let less : from < to = ltb-true from to t in
        all (record { key = ExtentKey node.store node.id from to; value = GoneValue } ∷ []) (with_gone node blocks extents e from (λ i x g. before i x g less) (record { key = ExtentKey node.store node.id from to; value = GoneValue } ∷ []) to
        (record { key = (store, id, (less, most)); value = tt }, upto_itself (file_place node.store node.id from), tt) (upto_itself (file_place node.store node.id to), tt))
