-- What items in order say of blocks, by the points and by the lists that are read off them.
use Rattle.std.proofs.Common.{◌≡◌, inl, inr, ℕ, zero, suc, ◌+◌, ◌-◌, ◌<◌, ◌≤◌, ◌==◌, ◌&&◌, ◌||◌, Bool, true, false, cond, List, [], ◌∷◌, ◌++◌, map, length, get_or, Option, Some, None, refl, sym, ap, subst, ◌∙◌, arith, eqb-true, eq-eqb}
use Rattle.std.specs.Prelude.{nat_le, nat_lt, All, ◌⊎◌}
use Rattle.std.specs.List.{filter, flat_map, list_any}
use Rattle.std.proofs.lemmas.Bool.{and_from, and_parts, cases_Bool, le-leb, leb-true, lt-ltb, ltb-true}
use Rattle.std.proofs.lemmas.List.Elements.{All-head, All-tail}
use Rattle.std.proofs.lemmas.List.Folds.{list_any-append}
use Rattle.fx_item.specs.Item.{PlainKey, ObjectKey, AttributeKey, ExtentKey, ChildKey, GraveKey, AllocationKey, PlainValue, GoneValue, DirectoryValue, FileValue, AttributeValue, ChildValue, WaitingValue, ExtentValue, TakenValue, PlainItem, IsItem, Suits}
use Rattle.fx_item.specs.Overlay.{Point, AtKey, AtFileBlock, AtDeviceBlock, Entry, ValueEntry, BlockEntry, covers, entry_in, says}
use Rattle.fx_namespace.specs.Nodes.{NodeId}
use Rattle.fx_verify.specs.Kept.{block_sums_of, is_freed_by, is_freed_under, is_taken_by, is_taken_under, is_within, sums_under, with_sums, writes_block, written_by}
use Rattle.fx_live.specs.Live.{AreOrdered, SaysBlock, SaysTaken, states}
use Rattle.fx_live.proofs.Ordered.{ordered_rest, says_first, says_later, says_rest}

pub or_cases : (a b : Bool) → (a || b) ≡ true → (a ≡ true) ⊎ (b ≡ true)
or_cases true b e = inl refl
or_cases false b e = inr e

pub or_left : (a b : Bool) → a ≡ true → (a || b) ≡ true
or_left a b e = ap (λ t. t || b) e

pub or_right : (a b : Bool) → b ≡ true → (a || b) ≡ true
or_right true b e = refl
or_right false b e = e

-- ---- the sums of one extent

pub sums_at : (first : ℕ) (sums : List ℕ) (b x : ℕ) → states (with_sums first sums) b x ≡ true
    → (j : ℕ) × (j < length sums) × (b ≡ first + j) × (get_or sums j 0 ≡ x)
sums_at first [] b x e = absurd (let q : false ≡ true = e in cc)
sums_at first (s ∷ sums) b x e = elim (or_cases ((first == b) && (s == x)) (states (with_sums (first + 1) sums) b x) e) [
  | inl here ↦
      let p = and_parts (first == b) (s == x) here in
      (0, omega arith, sym (eqb-true first b p.0) ∙ omega arith, eqb-true s x p.1)
  | inr rest ↦
      let r = sums_at (first + 1) sums b x rest in
      (suc r.0, omega (arith, r.1), r.2 ∙ omega arith, r.3)
]

pub at_sums : (first : ℕ) (sums : List ℕ) (j : ℕ) → j < length sums → states (with_sums first sums) (first + j) (get_or sums j 0) ≡ true
at_sums first [] j h = absurd (omega (arith, h))
at_sums first (s ∷ sums) zero h =
    or_left ((first == first + 0) && (s == s)) (states (with_sums (first + 1) sums) (first + 0) s)
    (and_from (first == first + 0) (s == s) (eq-eqb first (first + 0) (omega arith)) (eq-eqb s s refl))
at_sums first (s ∷ sums) (suc j) h =
    let e : first + 1 + j ≡ first + suc j = omega arith in
    or_right ((first == first + suc j) && (s == get_or sums j 0)) (states (with_sums (first + 1) sums) (first + suc j) (get_or sums j 0))
    (subst (λ b. states (with_sums (first + 1) sums) b (get_or sums j 0) ≡ true) e (at_sums (first + 1) sums j (omega (arith, h))))

-- the item says that a block of a file lies there
abbrev ItemSays : PlainKey → PlainValue → (b x : ℕ) → Type 0
ItemSays key value b x = (node : NodeId) × (n : ℕ) × (covers key (AtFileBlock node.store node.id n) ≡ true)
    × (entry_in key value (AtFileBlock node.store node.id n) ≡ Some (BlockEntry b x))

item_states : (key : PlainKey) (value : PlainValue) (b x : ℕ) → Suits key value → states (sums_under key value) b x ≡ true → ItemSays key value b x
item_states (ExtentKey s i start stop) (ExtentValue block sums) b x good e =
    let r = sums_at block sums b x e in
    let count : length sums + start ≡ stop = good.count in
    let low : nat_le start (start + r.0) ≡ true = le-leb start (start + r.0) (omega arith) in
    let high : nat_lt (start + r.0) stop ≡ true = lt-ltb (start + r.0) stop (omega (arith, count, r.1)) in
    let node : ((s == s) && (i == i)) ≡ true = and_from (s == s) (i == i) (eq-eqb s s refl) (eq-eqb i i refl) in
    let place : start + r.0 - start ≡ r.0 = omega arith in (
      record { store = s; id = i },
      start + r.0,
      and_from (((s == s) && (i == i)) && nat_le start (start + r.0)) (nat_lt (start + r.0) stop) (and_from ((s == s) && (i == i)) (nat_le start (start + r.0)) node low) high,
      (λ j. Some (BlockEntry (block + place j) (get_or sums (place j) 0))) ∙ (λ j. Some (BlockEntry (sym r.2 j) (r.3 j))),
    )
item_states (ExtentKey s i start stop) GoneValue b x good e = absurd (let q : false ≡ true = e in cc)
item_states (ExtentKey s i start stop) DirectoryValue b x good e = absurd (let q : false ≡ true = e in cc)
item_states (ExtentKey s i start stop) (FileValue len) b x good e = absurd (let q : false ≡ true = e in cc)
item_states (ExtentKey s i start stop) (AttributeValue text) b x good e = absurd (let q : false ≡ true = e in cc)
item_states (ExtentKey s i start stop) (ChildValue store id) b x good e = absurd (let q : false ≡ true = e in cc)
item_states (ExtentKey s i start stop) WaitingValue b x good e = absurd (let q : false ≡ true = e in cc)
item_states (ExtentKey s i start stop) TakenValue b x good e = absurd (let q : false ≡ true = e in cc)
item_states (ObjectKey s i) value b x good e = absurd (let q : false ≡ true = e in cc)
item_states (AttributeKey s i name) value b x good e = absurd (let q : false ≡ true = e in cc)
item_states (ChildKey s i name) value b x good e = absurd (let q : false ≡ true = e in cc)
item_states (GraveKey s i) value b x good e = absurd (let q : false ≡ true = e in cc)
item_states (AllocationKey start stop) value b x good e = absurd (let q : false ≡ true = e in cc)

block_not_value : (value : PlainValue) (b x : ℕ) → Some (ValueEntry value) ≡ Some (BlockEntry b x) → ⊥
block_not_value value b x e = absurd (cc)

block_not_none : (b x : ℕ) → None ≡ Some (BlockEntry b x) → ⊥
block_not_none b x e = absurd (cc)

says_states : (key : PlainKey) (value : PlainValue) (b x : ℕ) (node : NodeId) (n : ℕ) → Suits key value → covers key (AtFileBlock node.store node.id n) ≡ true
    → entry_in key value (AtFileBlock node.store node.id n) ≡ Some (BlockEntry b x) → states (sums_under key value) b x ≡ true
says_states (ExtentKey s i start stop) (ExtentValue block sums) b x node n good c e =
    let p = and_parts (((s == node.store) && (i == node.id)) && nat_le start n) (nat_lt n stop) c in
    let low : start ≤ n = leb-true start n (and_parts ((s == node.store) && (i == node.id)) (nat_le start n) p.0).1 in
    let high : n < stop = ltb-true n stop p.1 in
    let count : length sums + start ≡ stop = good.count in
    let is_block : block + (n - start) ≡ b = cc e in
    let is_sum : get_or sums (n - start) 0 ≡ x = cc e in
    subst (λ y. states (with_sums block sums) b y ≡ true) is_sum
    (subst (λ y. states (with_sums block sums) y (get_or sums (n - start) 0) ≡ true) is_block (at_sums block sums (n - start) (omega (arith, low, high, count))))
says_states (ExtentKey s i start stop) GoneValue b x node n good c e = absurd (block_not_none b x e)
says_states (ExtentKey s i start stop) DirectoryValue b x node n good c e = absurd (block_not_value DirectoryValue b x e)
says_states (ExtentKey s i start stop) (FileValue len) b x node n good c e = absurd (block_not_value (FileValue len) b x e)
says_states (ExtentKey s i start stop) (AttributeValue text) b x node n good c e = absurd (block_not_value (AttributeValue text) b x e)
says_states (ExtentKey s i start stop) (ChildValue store id) b x node n good c e = absurd (block_not_value (ChildValue store id) b x e)
says_states (ExtentKey s i start stop) WaitingValue b x node n good c e = absurd (block_not_value WaitingValue b x e)
says_states (ExtentKey s i start stop) TakenValue b x node n good c e = absurd (block_not_value TakenValue b x e)
says_states (ObjectKey s i) value b x node n good c e = absurd (let q : false ≡ true = c in cc)
says_states (AttributeKey s i name) value b x node n good c e = absurd (let q : false ≡ true = c in cc)
says_states (ChildKey s i name) value b x node n good c e = absurd (let q : false ≡ true = c in cc)
says_states (GraveKey s i) value b x node n good c e = absurd (let q : false ≡ true = c in cc)
says_states (AllocationKey start stop) value b x node n good c e = absurd (let q : false ≡ true = c in cc)

-- ---- the sums of a list

states_append : (ps qs : List (ℕ × ℕ)) (b x : ℕ) → states (ps ++ qs) b x ≡ (states ps b x || states qs b x)
states_append ps qs b x = list_any-append (λ (p : ℕ × ℕ). p.0 == b && p.1 == x) ps qs

pub stated_says : (items : List PlainItem) (b x : ℕ) → AreOrdered items → states (flat_map block_sums_of items) b x ≡ true → SaysBlock (says items) b x
stated_says [] b x o e = absurd (let q : false ≡ true = e in cc)
stated_says (y ∷ ys) b x o e =
    let r = ordered_rest y ys o in
    elim (or_cases (states (block_sums_of y) b x) (states (flat_map block_sums_of ys) b x) (sym (states_append (block_sums_of y) (flat_map block_sums_of ys) b x) ∙ e)) [
      | inl here ↦
          let s = item_states y.key y.value b x r.0.value here in
          (s.0, s.1, says_first y ys (AtFileBlock s.0.store s.0.id s.1) s.2 ∙ ap (λ t. Some t) s.3)
      | inr rest ↦
          let s = stated_says ys b x r.1 rest in
          (s.0, s.1, says_later y ys (AtFileBlock s.0.store s.0.id s.1) (Some (BlockEntry b x)) o s.2)
    ]

pub says_stated : (items : List PlainItem) (b x : ℕ) → AreOrdered items → SaysBlock (says items) b x → states (flat_map block_sums_of items) b x ≡ true
says_stated [] b x o s = absurd (let q : None ≡ Some (Some (BlockEntry b x)) = s.2 in cc)
says_stated (y ∷ ys) b x o s =
    let r = ordered_rest y ys o in
    let p : Point = AtFileBlock s.0.store s.0.id s.1 in
    states_append (block_sums_of y) (flat_map block_sums_of ys) b x ∙ elim (cases_Bool (covers y.key p)) [
      | inl here_is ↦
          let q : Some (entry_in y.key y.value p) ≡ Some (Some (BlockEntry b x)) = sym (says_first y ys p here_is) ∙ s.2 in
          or_left (states (block_sums_of y) b x) (states (flat_map block_sums_of ys) b x) (says_states y.key y.value b x s.0 s.1 r.0.value here_is (cc q))
      | inr away ↦ or_right (states (block_sums_of y) b x) (states (flat_map block_sums_of ys) b x) (says_stated ys b x r.1 (s.0, s.1, sym (says_rest y ys p away) ∙ s.2))
    ]

-- ---- what the allocations of a list say

taken_under : (b : ℕ) (key : PlainKey) (value : PlainValue) → is_taken_under b key value ≡ true
    → (covers key (AtDeviceBlock b) ≡ true) × (entry_in key value (AtDeviceBlock b) ≡ Some (ValueEntry TakenValue))
taken_under b (AllocationKey start stop) TakenValue e = (e, refl)
taken_under b (AllocationKey start stop) GoneValue e = absurd (let q : false ≡ true = e in cc)
taken_under b (AllocationKey start stop) DirectoryValue e = absurd (let q : false ≡ true = e in cc)
taken_under b (AllocationKey start stop) (FileValue len) e = absurd (let q : false ≡ true = e in cc)
taken_under b (AllocationKey start stop) (AttributeValue text) e = absurd (let q : false ≡ true = e in cc)
taken_under b (AllocationKey start stop) (ChildValue store id) e = absurd (let q : false ≡ true = e in cc)
taken_under b (AllocationKey start stop) WaitingValue e = absurd (let q : false ≡ true = e in cc)
taken_under b (AllocationKey start stop) (ExtentValue block sums) e = absurd (let q : false ≡ true = e in cc)
taken_under b (ObjectKey s i) value e = absurd (let q : false ≡ true = e in cc)
taken_under b (AttributeKey s i name) value e = absurd (let q : false ≡ true = e in cc)
taken_under b (ExtentKey s i start stop) value e = absurd (let q : false ≡ true = e in cc)
taken_under b (ChildKey s i name) value e = absurd (let q : false ≡ true = e in cc)
taken_under b (GraveKey s i) value e = absurd (let q : false ≡ true = e in cc)

freed_under : (b : ℕ) (key : PlainKey) (value : PlainValue) → is_freed_under b key value ≡ true
    → (covers key (AtDeviceBlock b) ≡ true) × (entry_in key value (AtDeviceBlock b) ≡ None)
freed_under b (AllocationKey start stop) GoneValue e = (e, refl)
freed_under b (AllocationKey start stop) TakenValue e = absurd (let q : false ≡ true = e in cc)
freed_under b (AllocationKey start stop) DirectoryValue e = absurd (let q : false ≡ true = e in cc)
freed_under b (AllocationKey start stop) (FileValue len) e = absurd (let q : false ≡ true = e in cc)
freed_under b (AllocationKey start stop) (AttributeValue text) e = absurd (let q : false ≡ true = e in cc)
freed_under b (AllocationKey start stop) (ChildValue store id) e = absurd (let q : false ≡ true = e in cc)
freed_under b (AllocationKey start stop) WaitingValue e = absurd (let q : false ≡ true = e in cc)
freed_under b (AllocationKey start stop) (ExtentValue block sums) e = absurd (let q : false ≡ true = e in cc)
freed_under b (ObjectKey s i) value e = absurd (let q : false ≡ true = e in cc)
freed_under b (AttributeKey s i name) value e = absurd (let q : false ≡ true = e in cc)
freed_under b (ExtentKey s i start stop) value e = absurd (let q : false ≡ true = e in cc)
freed_under b (ChildKey s i name) value e = absurd (let q : false ≡ true = e in cc)
freed_under b (GraveKey s i) value e = absurd (let q : false ≡ true = e in cc)

-- an allocation takes its blocks, or frees them
allocation_is : (b : ℕ) (key : PlainKey) (value : PlainValue) → Suits key value → covers key (AtDeviceBlock b) ≡ true
    → ((entry_in key value (AtDeviceBlock b) ≡ Some (ValueEntry TakenValue)) × (is_taken_under b key value ≡ true))
    ⊎ ((entry_in key value (AtDeviceBlock b) ≡ None) × (is_freed_under b key value ≡ true))
allocation_is b (AllocationKey start stop) TakenValue good c = inl (refl, c)
allocation_is b (AllocationKey start stop) GoneValue good c = inr (refl, c)
allocation_is b (ObjectKey s i) value good c = absurd (let q : false ≡ true = c in cc)
allocation_is b (AttributeKey s i name) value good c = absurd (let q : false ≡ true = c in cc)
allocation_is b (ExtentKey s i start stop) value good c = absurd (let q : false ≡ true = c in cc)
allocation_is b (ChildKey s i name) value good c = absurd (let q : false ≡ true = c in cc)
allocation_is b (GraveKey s i) value good c = absurd (let q : false ≡ true = c in cc)
allocation_is b (AllocationKey start stop) DirectoryValue good c = absurd good
allocation_is b (AllocationKey start stop) (FileValue len) good c = absurd good
allocation_is b (AllocationKey start stop) (AttributeValue text) good c = absurd good
allocation_is b (AllocationKey start stop) (ChildValue store id) good c = absurd good
allocation_is b (AllocationKey start stop) WaitingValue good c = absurd good
allocation_is b (AllocationKey start stop) (ExtentValue block sums) good c = absurd good

pub taken_says : (items : List PlainItem) (b : ℕ) → AreOrdered items → is_taken_by items b ≡ true → SaysTaken (says items) b
taken_says [] b o e = absurd (let q : false ≡ true = e in cc)
taken_says (y ∷ ys) b o e = elim (or_cases (is_taken_under b y.key y.value) (is_taken_by ys b) e) [
  | inl here ↦ let t = taken_under b y.key y.value here in says_first y ys (AtDeviceBlock b) t.0 ∙ ap (λ r. Some r) t.1
  | inr rest ↦ says_later y ys (AtDeviceBlock b) (Some (ValueEntry TakenValue)) o (taken_says ys b (ordered_rest y ys o).1 rest)
]

pub freed_says : (items : List PlainItem) (b : ℕ) → AreOrdered items → is_freed_by items b ≡ true → says items (AtDeviceBlock b) ≡ Some None
freed_says [] b o e = absurd (let q : false ≡ true = e in cc)
freed_says (y ∷ ys) b o e = elim (or_cases (is_freed_under b y.key y.value) (is_freed_by ys b) e) [
  | inl here ↦ let t = freed_under b y.key y.value here in says_first y ys (AtDeviceBlock b) t.0 ∙ ap (λ r. Some r) t.1
  | inr rest ↦ says_later y ys (AtDeviceBlock b) None o (freed_says ys b (ordered_rest y ys o).1 rest)
]

-- what is said of a block of the device is that it is taken, or that it is free again
pub device_said : (items : List PlainItem) (b : ℕ) (o : Option Entry) → AreOrdered items → says items (AtDeviceBlock b) ≡ Some o
    → ((o ≡ Some (ValueEntry TakenValue)) × (is_taken_by items b ≡ true)) ⊎ ((o ≡ None) × (is_freed_by items b ≡ true))
device_said [] b o a e = absurd (let q : None ≡ Some o = e in cc)
device_said (y ∷ ys) b o a e = elim (cases_Bool (covers y.key (AtDeviceBlock b))) [
  | inl here_is ↦
      let q : Some (entry_in y.key y.value (AtDeviceBlock b)) ≡ Some o = sym (says_first y ys (AtDeviceBlock b) here_is) ∙ e in
      let is : entry_in y.key y.value (AtDeviceBlock b) ≡ o = cc q in
      elim (allocation_is b y.key y.value (ordered_rest y ys a).0.value here_is) [
        | inl t ↦ inl (sym is ∙ t.0, or_left (is_taken_under b y.key y.value) (is_taken_by ys b) t.1)
        | inr t ↦ inr (sym is ∙ t.0, or_left (is_freed_under b y.key y.value) (is_freed_by ys b) t.1)
      ]
  | inr away ↦ elim (device_said ys b o (ordered_rest y ys a).1 (sym (says_rest y ys (AtDeviceBlock b) away) ∙ e)) [
    | inl t ↦ inl (t.0, or_right (is_taken_under b y.key y.value) (is_taken_by ys b) t.1)
    | inr t ↦ inr (t.0, or_right (is_freed_under b y.key y.value) (is_freed_by ys b) t.1)
  ]
]

pub says_taken : (items : List PlainItem) (b : ℕ) → AreOrdered items → SaysTaken (says items) b → is_taken_by items b ≡ true
says_taken items b o e = elim (device_said items b (Some (ValueEntry TakenValue)) o e) [
  | inl t ↦ t.1
  | inr t ↦ absurd (let q : Some (ValueEntry TakenValue) ≡ None = t.0 in cc)
]

pub says_freed : (items : List PlainItem) (b : ℕ) → AreOrdered items → says items (AtDeviceBlock b) ≡ Some None → is_freed_by items b ≡ true
says_freed items b o e = elim (device_said items b None o e) [
  | inl t ↦ absurd (let q : None ≡ Some (ValueEntry TakenValue) = t.0 in cc)
  | inr t ↦ t.1
]

-- ---- the blocks that a list writes

states_filter : (f : ℕ → Bool) (ps : List (ℕ × ℕ)) (b x : ℕ) → states (filter (λ p. f p.0) ps) b x ≡ (f b && states ps b x)
states_filter f [] b x = sym (none (f b))
  where
    none : (t : Bool) → (t && false) ≡ false
    none true = refl
    none false = refl
states_filter f (p ∷ ps) b x = by ((p.0 == b) && (p.1 == x)) (f p.0) refl refl (states_filter f ps b x)
  where
    by : (here kept : Bool) → ((p.0 == b) && (p.1 == x)) ≡ here → f p.0 ≡ kept → states (filter (λ p. f p.0) ps) b x ≡ (f b && states ps b x)
        → states (cond kept (p ∷ filter (λ p. f p.0) ps) (filter (λ p. f p.0) ps)) b x ≡ (f b && (((p.0 == b) && (p.1 == x)) || states ps b x))
    by true true h k rest =
        let same : f b ≡ true = ap f (sym (eqb-true p.0 b (and_parts (p.0 == b) (p.1 == x) h).0)) ∙ k in
        ap (λ t. t || states (filter (λ p. f p.0) ps) b x) h ∙ sym (λ j. same j && (h j || states ps b x))
    by true false h k rest =
        let same : f b ≡ false = ap f (sym (eqb-true p.0 b (and_parts (p.0 == b) (p.1 == x) h).0)) ∙ k in
        rest ∙ ap (λ t. t && states ps b x) same ∙ sym (ap (λ t. t && (((p.0 == b) && (p.1 == x)) || states ps b x)) same)
    by false true h k rest = ap (λ t. t || states (filter (λ p. f p.0) ps) b x) h ∙ rest ∙ sym (ap (λ t. f b && (t || states ps b x)) h)
    by false false h k rest = rest ∙ sym (ap (λ t. f b && (t || states ps b x)) h)

pub written_states : (items : List PlainItem) (b x : ℕ) → states (written_by items) b x ≡ (is_taken_by items b && states (flat_map block_sums_of items) b x)
written_states items b x = states_filter (is_taken_by items) (flat_map block_sums_of items) b x

-- a list has the block, with some sum, or with none
pub has_or_not : (ps : List (ℕ × ℕ)) (b : ℕ) → ((x : ℕ) × (states ps b x ≡ true)) ⊎ (list_any (λ p. p.0 == b) ps ≡ false)
has_or_not [] b = inr refl
has_or_not (p ∷ ps) b = elim (cases_Bool (p.0 == b)) [
  | inl here ↦ inl (p.1, or_left ((p.0 == b) && (p.1 == p.1)) (states ps b p.1) (and_from (p.0 == b) (p.1 == p.1) here (eq-eqb p.1 p.1 refl)))
  | inr away ↦ elim (has_or_not ps b) [
    | inl x ↦ inl (x.0, or_right ((p.0 == b) && (p.1 == x.0)) (states ps b x.0) x.1)
    | inr none ↦ inr (ap (λ t. t || list_any (λ q. q.0 == b) ps) away ∙ none)
  ]
]

pub states_has : (ps : List (ℕ × ℕ)) (b x : ℕ) → states ps b x ≡ true → list_any (λ p. p.0 == b) ps ≡ true
states_has [] b x e = e
states_has (p ∷ ps) b x e = elim (or_cases ((p.0 == b) && (p.1 == x)) (states ps b x) e) [
  | inl here ↦ or_left (p.0 == b) (list_any (λ q. q.0 == b) ps) (and_parts (p.0 == b) (p.1 == x) here).0
  | inr rest ↦ or_right (p.0 == b) (list_any (λ q. q.0 == b) ps) (states_has ps b x rest)
]
