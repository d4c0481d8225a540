-- A key may follow an earlier one exactly where it begins at its end or behind it.
use Rattle.std.proofs.Common.{◌≡◌, ℕ, ◌<◌, ◌≤◌, Bool, true, false, refl, sym, ◌∙◌, ap, subst, arith, inl, inr, ◌&&◌}
use Rattle.std.specs.Prelude.{nat_le, ◌==◌, not, ◌||◌}
use Rattle.std.specs.Ordering.{is_le, is_lt, nat_cmp, ordering_then}
use Rattle.std.specs.declared.cmp.Ordering.{Ordering}
use Rattle.std.specs.declared.cmp.Ordering.TheVariants.{Less, Equal, Greater}
use Rattle.std.proofs.lemmas.Bool.{eq-eqb, eqb-true, eqb-false, and_parts, le-leb, leb-true}
use Rattle.std.proofs.lemmas.Cmp.{nat_cmp_total, ranked, tied_itself}
use Rattle.fx_item.specs.Item.{PlainKey, ObjectKey, AttributeKey, ExtentKey, ChildKey, GraveKey, AllocationKey, IsKey}
use Rattle.fx_item.specs.Order.{key_cmp, may_follow}
use Rattle.fx_item.specs.Place.{Place, place_cmp, Upto, begins, ends, file_place, device_place}
use Rattle.fx_item.specs.Meeting.{FollowLaw}
use Rattle.fx_item.proofs.PlaceOrder.{below_then, either, le_upto, lt_below, upto_le}
use Rattle.fx_item.proofs.Between.{Inside, inside, nat_less, not_empty, numbers_upto}
use Rattle.fx_item.proofs.Covered.{device_upto, file_upto}
use Rattle.fx_item.proofs.Keys.{order_holds}

same_bool : (x y : Bool) → (x ≡ true → y ≡ true) → (y ≡ true → x ≡ true) → x ≡ y
same_bool true true h k = refl
same_bool false false h k = refl
same_bool true false h k = absurd (cc (h refl))
same_bool false true h k = absurd (cc (k refl))

-- ---- where no range lies over the other, the order of keys is that of where they begin

-- nothing of b begins inside a
module _ (a b : PlainKey) (g : IsKey a) (order : is_lt (key_cmp a b) ≡ is_lt (place_cmp (begins a) (begins b))) (out : Inside a (begins b) → ⊥) where
  by_begins : is_lt (key_cmp a b) ≡ is_le (place_cmp (ends a) (begins b))
  by_begins = order ∙ same_bool (is_lt (place_cmp (begins a) (begins b))) (is_le (place_cmp (ends a) (begins b)))
      (λ e. elim (either (ends a) (begins b)) [ inl le ↦ upto_le le | inr l ↦ absurd (out (inside a false b (lt_below e) l)) ])
      (λ e. ap is_lt (below_then (not_empty a g) (le_upto e)).holds)

-- ---- two ranges of one kind

by_less : (r : Ordering) → is_lt r ≡ true → r ≡ Less
by_less Less e = refl
by_less Equal e = cc
by_less Greater e = cc

and_true : (x : Bool) → (x && true) ≡ x
and_true true = refl
and_true false = refl

-- nodes that differ decide
first_decides : (s t : ℕ) (x y : Ordering) → (s ≡ t → ⊥) → ordering_then (nat_cmp s t) x ≡ ordering_then (nat_cmp s t) y
first_decides s t x y ne = by_case (nat_cmp s t) refl where
  by_case : (r : Ordering) → r ≡ nat_cmp s t → ordering_then (nat_cmp s t) x ≡ ordering_then (nat_cmp s t) y
  by_case Less e = ap (λ r. ordering_then r x) (sym e) ∙ ap (λ r. ordering_then r y) e
  by_case Equal e = absurd (ne (ranked s t Equal e))
  by_case Greater e = ap (λ r. ordering_then r x) (sym e) ∙ ap (λ r. ordering_then r y) e

node_decides : (s i t j : ℕ) (x y : Ordering) → ((s ≡ t) × (i ≡ j) → ⊥) → ordering_then (nat_cmp s t) (ordering_then (nat_cmp i j) x) ≡ ordering_then (nat_cmp s t) (ordering_then (nat_cmp i j) y)
node_decides s i t j x y ne = by_test (s == t) refl where
  by_test : (b : Bool) → (s == t) ≡ b → ordering_then (nat_cmp s t) (ordering_then (nat_cmp i j) x) ≡ ordering_then (nat_cmp s t) (ordering_then (nat_cmp i j) y)
  by_test true e = ap (ordering_then (nat_cmp s t)) (first_decides i j x y (λ f. ne (eqb-true s t e, f)))
  by_test false e = first_decides s t (ordering_then (nat_cmp i j) x) (ordering_then (nat_cmp i j) y) (λ f. eqb-false s t e f)

first_not_equal : (s t : ℕ) (x : Ordering) → (s ≡ t → ⊥) → is_le (ordering_then (nat_cmp s t) x) ≡ is_lt (ordering_then (nat_cmp s t) x)
first_not_equal s t x ne = by_case (nat_cmp s t) refl where
  by_case : (r : Ordering) → r ≡ nat_cmp s t → is_le (ordering_then (nat_cmp s t) x) ≡ is_lt (ordering_then (nat_cmp s t) x)
  by_case Less e = ap (λ r. is_le (ordering_then r x)) (sym e) ∙ ap (λ r. is_lt (ordering_then r x)) e
  by_case Equal e = absurd (ne (ranked s t Equal e))
  by_case Greater e = ap (λ r. is_le (ordering_then r x)) (sym e) ∙ ap (λ r. is_lt (ordering_then r x)) e

node_not_equal : (s i t j : ℕ) (x : Ordering) → ((s ≡ t) × (i ≡ j) → ⊥)
    → is_le (ordering_then (nat_cmp s t) (ordering_then (nat_cmp i j) x)) ≡ is_lt (ordering_then (nat_cmp s t) (ordering_then (nat_cmp i j) x))
node_not_equal s i t j x ne = by_test (s == t) refl where
  inner : s ≡ t → is_le (ordering_then (nat_cmp s t) (ordering_then (nat_cmp i j) x)) ≡ is_lt (ordering_then (nat_cmp s t) (ordering_then (nat_cmp i j) x))
  inner e =
      let o : nat_cmp s t ≡ Equal = ap (nat_cmp s) (sym e) ∙ tied_itself nat_cmp_total s in
      ap (λ r. is_le (ordering_then r (ordering_then (nat_cmp i j) x))) o ∙ first_not_equal i j x (λ f. ne (e, f)) ∙ sym (ap (λ r. is_lt (ordering_then r (ordering_then (nat_cmp i j) x))) o)

  by_test : (b : Bool) → (s == t) ≡ b → is_le (ordering_then (nat_cmp s t) (ordering_then (nat_cmp i j) x)) ≡ is_lt (ordering_then (nat_cmp s t) (ordering_then (nat_cmp i j) x))
  by_test true e = inner (eqb-true s t e)
  by_test false e = first_not_equal s t (ordering_then (nat_cmp i j) x) (λ f. eqb-false s t e f)

device_follows : (a b c d : ℕ) → a < b → may_follow (AllocationKey a b) (AllocationKey c d) ≡ is_le (place_cmp (device_place b) (device_place c))
device_follows a b c d g = same_bool (may_follow (AllocationKey a b) (AllocationKey c d)) (is_le (place_cmp (device_place b) (device_place c)))
    (λ e. upto_le (device_upto b c (leb-true b c (and_parts (is_lt (key_cmp (AllocationKey a b) (AllocationKey c d))) (nat_le b c) e).1)))
    (λ e.
    let le : b ≤ c = numbers_upto (device_place b) (device_place c) (record { tree = refl; store = refl; id = refl; kind = refl }) (le_upto e) in
    ap (λ x. is_lt (ordering_then x (ordering_then (nat_cmp b d) Equal)) && nat_le b c) (nat_less a c (omega arith)) ∙ le-leb b c le)

file_follows : (s i a b t j c d : ℕ) → a < b → may_follow (ExtentKey s i a b) (ExtentKey t j c d) ≡ is_le (place_cmp (file_place s i b) (file_place t j c))
file_follows s i a b t j c d g = by_test ((s == t) && (i == j)) refl where
  less : Bool
  less = is_lt (key_cmp (ExtentKey s i a b) (ExtentKey t j c d))

  apart : (x : Bool) → ((s == t) && (i == j)) ≡ x → may_follow (ExtentKey s i a b) (ExtentKey t j c d) ≡ (is_lt (key_cmp (ExtentKey s i a b) (ExtentKey t j c d)) && (not x || nat_le b c))
  apart x e = ap (λ z. is_lt (key_cmp (ExtentKey s i a b) (ExtentKey t j c d)) && (not z || nat_le b c)) e

  node : ((s == t) && (i == j)) ≡ true → (s ≡ t) × (i ≡ j)
  node e = let p = and_parts (s == t) (i == j) e in (eqb-true s t p.0, eqb-true i j p.1)

  unlike : ((s == t) && (i == j)) ≡ false → (s ≡ t) × (i ≡ j) → ⊥
  unlike e n = let f : ((s == t) && (i == j)) ≡ true = subst (λ z. ((s == z) && (i == j)) ≡ true) n.0 (subst (λ z. ((s == s) && (i == z)) ≡ true) n.1 (itself s i)) in cc (sym e ∙ f)
    where
      itself : (s i : ℕ) → ((s == s) && (i == i)) ≡ true
      itself s i = ap (λ b. b && (i == i)) (eq-eqb s s refl) ∙ eq-eqb i i refl

  key_is : (x : Ordering) → s ≡ t → i ≡ j → ordering_then (nat_cmp s t) (ordering_then (nat_cmp i j) x) ≡ x
  key_is x e f =
      ap (λ r. ordering_then r (ordering_then (nat_cmp i j) x)) (ap (nat_cmp s) (sym e) ∙ tied_itself nat_cmp_total s)
      ∙ ap (λ r. ordering_then r x) (ap (nat_cmp i) (sym f) ∙ tied_itself nat_cmp_total i)

  by_test : (x : Bool) → ((s == t) && (i == j)) ≡ x → may_follow (ExtentKey s i a b) (ExtentKey t j c d) ≡ is_le (place_cmp (file_place s i b) (file_place t j c))
  by_test true e =
      let n = node e in
      apart true e ∙ same_bool (is_lt (key_cmp (ExtentKey s i a b) (ExtentKey t j c d)) && nat_le b c) (is_le (place_cmp (file_place s i b) (file_place t j c)))
      (λ h. let p = and_parts (is_lt (key_cmp (ExtentKey s i a b) (ExtentKey t j c d))) (nat_le b c) h in
      upto_le (subst (λ x. Upto (file_place s i b) (file_place x j c)) n.0 (subst (λ x. Upto (file_place s i b) (file_place s x c)) n.1 (file_upto s i b c (leb-true b c p.1)))))
      (λ h.
      let le : b ≤ c = numbers_upto (file_place s i b) (file_place t j c) (record { tree = refl; store = n.0; id = n.1; kind = refl }) (le_upto h) in
      ap (λ x. is_lt x && nat_le b c) (key_is (ordering_then (nat_cmp a c) (ordering_then (nat_cmp b d) Equal)) n.0 n.1)
      ∙ ap (λ x. is_lt (ordering_then x (ordering_then (nat_cmp b d) Equal)) && nat_le b c) (nat_less a c (omega arith)) ∙ le-leb b c le)
  by_test false e =
      apart false e ∙ and_true (is_lt (key_cmp (ExtentKey s i a b) (ExtentKey t j c d)))
      ∙ ap is_lt (node_decides s i t j (ordering_then (nat_cmp a c) (ordering_then (nat_cmp b d) Equal)) (ordering_then (nat_cmp b c) Equal) (unlike e))
      ∙ sym (node_not_equal s i t j (ordering_then (nat_cmp b c) Equal) (unlike e))

-- ---- by the kinds

no_device : (start stop : ℕ) (q : Place) → Inside (AllocationKey start stop) q → q.tree ≡ 1
no_device start stop q h = ap (λ z. z.tree) h.0

no_file : (s i start stop : ℕ) (q : Place) → Inside (ExtentKey s i start stop) q → q.kind ≡ 3
no_file s i start stop q h = ap (λ z. z.kind) h.0

pub follow_holds : FollowLaw
follow_holds (ObjectKey s i) (ObjectKey t j) g h = and_true (is_lt (key_cmp (ObjectKey s i) (ObjectKey t j))) ∙ by_begins (ObjectKey s i) (ObjectKey t j) g (ap is_lt (order_holds (ObjectKey s i) (ObjectKey t j) refl refl)) (λ q. q)
follow_holds (ObjectKey s i) (AttributeKey t j other) g h = and_true (is_lt (key_cmp (ObjectKey s i) (AttributeKey t j other))) ∙ by_begins (ObjectKey s i) (AttributeKey t j other) g (ap is_lt (order_holds (ObjectKey s i) (AttributeKey t j other) refl refl)) (λ q. q)
follow_holds (ObjectKey s i) (ExtentKey t j c d) g h = and_true (is_lt (key_cmp (ObjectKey s i) (ExtentKey t j c d))) ∙ by_begins (ObjectKey s i) (ExtentKey t j c d) g refl (λ q. q)
follow_holds (ObjectKey s i) (ChildKey t j other) g h = and_true (is_lt (key_cmp (ObjectKey s i) (ChildKey t j other))) ∙ by_begins (ObjectKey s i) (ChildKey t j other) g (ap is_lt (order_holds (ObjectKey s i) (ChildKey t j other) refl refl)) (λ q. q)
follow_holds (ObjectKey s i) (GraveKey t j) g h = and_true (is_lt (key_cmp (ObjectKey s i) (GraveKey t j))) ∙ by_begins (ObjectKey s i) (GraveKey t j) g (ap is_lt (order_holds (ObjectKey s i) (GraveKey t j) refl refl)) (λ q. q)
follow_holds (ObjectKey s i) (AllocationKey c d) g h = and_true (is_lt (key_cmp (ObjectKey s i) (AllocationKey c d))) ∙ by_begins (ObjectKey s i) (AllocationKey c d) g refl (λ q. q)
follow_holds (AttributeKey s i name) (ObjectKey t j) g h = and_true (is_lt (key_cmp (AttributeKey s i name) (ObjectKey t j))) ∙ by_begins (AttributeKey s i name) (ObjectKey t j) g (ap is_lt (order_holds (AttributeKey s i name) (ObjectKey t j) refl refl)) (λ q. q)
follow_holds (AttributeKey s i name) (AttributeKey t j other) g h = and_true (is_lt (key_cmp (AttributeKey s i name) (AttributeKey t j other))) ∙ by_begins (AttributeKey s i name) (AttributeKey t j other) g (ap is_lt (order_holds (AttributeKey s i name) (AttributeKey t j other) refl refl)) (λ q. q)
follow_holds (AttributeKey s i name) (ExtentKey t j c d) g h = and_true (is_lt (key_cmp (AttributeKey s i name) (ExtentKey t j c d))) ∙ by_begins (AttributeKey s i name) (ExtentKey t j c d) g refl (λ q. q)
follow_holds (AttributeKey s i name) (ChildKey t j other) g h = and_true (is_lt (key_cmp (AttributeKey s i name) (ChildKey t j other))) ∙ by_begins (AttributeKey s i name) (ChildKey t j other) g (ap is_lt (order_holds (AttributeKey s i name) (ChildKey t j other) refl refl)) (λ q. q)
follow_holds (AttributeKey s i name) (GraveKey t j) g h = and_true (is_lt (key_cmp (AttributeKey s i name) (GraveKey t j))) ∙ by_begins (AttributeKey s i name) (GraveKey t j) g (ap is_lt (order_holds (AttributeKey s i name) (GraveKey t j) refl refl)) (λ q. q)
follow_holds (AttributeKey s i name) (AllocationKey c d) g h = and_true (is_lt (key_cmp (AttributeKey s i name) (AllocationKey c d))) ∙ by_begins (AttributeKey s i name) (AllocationKey c d) g refl (λ q. q)
follow_holds (ExtentKey s i a b) (ObjectKey t j) g h = and_true (is_lt (key_cmp (ExtentKey s i a b) (ObjectKey t j))) ∙ by_begins (ExtentKey s i a b) (ObjectKey t j) g refl (λ q. let e : 1 ≡ 3 = no_file s i a b (begins (ObjectKey t j)) q in omega arith)
follow_holds (ExtentKey s i a b) (AttributeKey t j other) g h = and_true (is_lt (key_cmp (ExtentKey s i a b) (AttributeKey t j other))) ∙ by_begins (ExtentKey s i a b) (AttributeKey t j other) g refl (λ q. let e : 2 ≡ 3 = no_file s i a b (begins (AttributeKey t j other)) q in omega arith)
follow_holds (ExtentKey s i a b) (ExtentKey t j c d) g h = file_follows s i a b t j c d g.2.0
follow_holds (ExtentKey s i a b) (ChildKey t j other) g h = and_true (is_lt (key_cmp (ExtentKey s i a b) (ChildKey t j other))) ∙ by_begins (ExtentKey s i a b) (ChildKey t j other) g refl (λ q. let e : 4 ≡ 3 = no_file s i a b (begins (ChildKey t j other)) q in omega arith)
follow_holds (ExtentKey s i a b) (GraveKey t j) g h = and_true (is_lt (key_cmp (ExtentKey s i a b) (GraveKey t j))) ∙ by_begins (ExtentKey s i a b) (GraveKey t j) g refl (λ q. let e : 5 ≡ 3 = no_file s i a b (begins (GraveKey t j)) q in omega arith)
follow_holds (ExtentKey s i a b) (AllocationKey c d) g h = and_true (is_lt (key_cmp (ExtentKey s i a b) (AllocationKey c d))) ∙ by_begins (ExtentKey s i a b) (AllocationKey c d) g refl (λ q. let e : 6 ≡ 3 = no_file s i a b (begins (AllocationKey c d)) q in omega arith)
follow_holds (ChildKey s i name) (ObjectKey t j) g h = and_true (is_lt (key_cmp (ChildKey s i name) (ObjectKey t j))) ∙ by_begins (ChildKey s i name) (ObjectKey t j) g (ap is_lt (order_holds (ChildKey s i name) (ObjectKey t j) refl refl)) (λ q. q)
follow_holds (ChildKey s i name) (AttributeKey t j other) g h = and_true (is_lt (key_cmp (ChildKey s i name) (AttributeKey t j other))) ∙ by_begins (ChildKey s i name) (AttributeKey t j other) g (ap is_lt (order_holds (ChildKey s i name) (AttributeKey t j other) refl refl)) (λ q. q)
follow_holds (ChildKey s i name) (ExtentKey t j c d) g h = and_true (is_lt (key_cmp (ChildKey s i name) (ExtentKey t j c d))) ∙ by_begins (ChildKey s i name) (ExtentKey t j c d) g refl (λ q. q)
follow_holds (ChildKey s i name) (ChildKey t j other) g h = and_true (is_lt (key_cmp (ChildKey s i name) (ChildKey t j other))) ∙ by_begins (ChildKey s i name) (ChildKey t j other) g (ap is_lt (order_holds (ChildKey s i name) (ChildKey t j other) refl refl)) (λ q. q)
follow_holds (ChildKey s i name) (GraveKey t j) g h = and_true (is_lt (key_cmp (ChildKey s i name) (GraveKey t j))) ∙ by_begins (ChildKey s i name) (GraveKey t j) g (ap is_lt (order_holds (ChildKey s i name) (GraveKey t j) refl refl)) (λ q. q)
follow_holds (ChildKey s i name) (AllocationKey c d) g h = and_true (is_lt (key_cmp (ChildKey s i name) (AllocationKey c d))) ∙ by_begins (ChildKey s i name) (AllocationKey c d) g refl (λ q. q)
follow_holds (GraveKey s i) (ObjectKey t j) g h = and_true (is_lt (key_cmp (GraveKey s i) (ObjectKey t j))) ∙ by_begins (GraveKey s i) (ObjectKey t j) g (ap is_lt (order_holds (GraveKey s i) (ObjectKey t j) refl refl)) (λ q. q)
follow_holds (GraveKey s i) (AttributeKey t j other) g h = and_true (is_lt (key_cmp (GraveKey s i) (AttributeKey t j other))) ∙ by_begins (GraveKey s i) (AttributeKey t j other) g (ap is_lt (order_holds (GraveKey s i) (AttributeKey t j other) refl refl)) (λ q. q)
follow_holds (GraveKey s i) (ExtentKey t j c d) g h = and_true (is_lt (key_cmp (GraveKey s i) (ExtentKey t j c d))) ∙ by_begins (GraveKey s i) (ExtentKey t j c d) g refl (λ q. q)
follow_holds (GraveKey s i) (ChildKey t j other) g h = and_true (is_lt (key_cmp (GraveKey s i) (ChildKey t j other))) ∙ by_begins (GraveKey s i) (ChildKey t j other) g (ap is_lt (order_holds (GraveKey s i) (ChildKey t j other) refl refl)) (λ q. q)
follow_holds (GraveKey s i) (GraveKey t j) g h = and_true (is_lt (key_cmp (GraveKey s i) (GraveKey t j))) ∙ by_begins (GraveKey s i) (GraveKey t j) g (ap is_lt (order_holds (GraveKey s i) (GraveKey t j) refl refl)) (λ q. q)
follow_holds (GraveKey s i) (AllocationKey c d) g h = and_true (is_lt (key_cmp (GraveKey s i) (AllocationKey c d))) ∙ by_begins (GraveKey s i) (AllocationKey c d) g refl (λ q. q)
follow_holds (AllocationKey a b) (ObjectKey t j) g h = and_true (is_lt (key_cmp (AllocationKey a b) (ObjectKey t j))) ∙ by_begins (AllocationKey a b) (ObjectKey t j) g refl (λ q. let e : 0 ≡ 1 = no_device a b (begins (ObjectKey t j)) q in omega arith)
follow_holds (AllocationKey a b) (AttributeKey t j other) g h = and_true (is_lt (key_cmp (AllocationKey a b) (AttributeKey t j other))) ∙ by_begins (AllocationKey a b) (AttributeKey t j other) g refl (λ q. let e : 0 ≡ 1 = no_device a b (begins (AttributeKey t j other)) q in omega arith)
follow_holds (AllocationKey a b) (ExtentKey t j c d) g h = and_true (is_lt (key_cmp (AllocationKey a b) (ExtentKey t j c d))) ∙ by_begins (AllocationKey a b) (ExtentKey t j c d) g refl (λ q. let e : 0 ≡ 1 = no_device a b (begins (ExtentKey t j c d)) q in omega arith)
follow_holds (AllocationKey a b) (ChildKey t j other) g h = and_true (is_lt (key_cmp (AllocationKey a b) (ChildKey t j other))) ∙ by_begins (AllocationKey a b) (ChildKey t j other) g refl (λ q. let e : 0 ≡ 1 = no_device a b (begins (ChildKey t j other)) q in omega arith)
follow_holds (AllocationKey a b) (GraveKey t j) g h = and_true (is_lt (key_cmp (AllocationKey a b) (GraveKey t j))) ∙ by_begins (AllocationKey a b) (GraveKey t j) g refl (λ q. let e : 0 ≡ 1 = no_device a b (begins (GraveKey t j)) q in omega arith)
follow_holds (AllocationKey a b) (AllocationKey c d) g h = device_follows a b c d g.0
