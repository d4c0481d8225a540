-- Where paths lead in items, and that one path at most leads to a node where the items stand.
use Rattle.std.proofs.Common.{◌≡◌, ◌≢◌, ◌⊎◌, inl, inr, ℕ, ◌++◌, List, [], ◌∷◌, refl, sym, ap, subst, ◌∙◌, true, false, append_assoc, arith}
use Rattle.std.specs.Prelude.{Option, Some, None, option_and_then, ◌==◌}
use Rattle.std.proofs.lemmas.Bool.{eqb-true, false_from_ne_true, and_parts}
use Rattle.std.proofs.lemmas.List.{append-nil}
use Rattle.std.proofs.lemmas.Option.{option_and_then_some}
use Rattle.fx_base.proofs.Numbers.{same_or_not}
use Rattle.fx_item.specs.Item.{ObjectKey, ChildKey, PlainValue, GoneValue, DirectoryValue, FileValue, AttributeValue, ChildValue, WaitingValue, ExtentValue, TakenValue}
use Rattle.fx_plain.specs.declared.kind.Kind.{Kind}
use Rattle.fx_item.specs.Look.{ItemMap}
use Rattle.fx_namespace.specs.Nodes.{NodeId, root_node, is_root, led_to, child, node_from, node_at, told_kind, object_kind, kind_of, Stands}

-- ---- equality of numbers, nodes and names is decided

pub same_number : (a b : ℕ) → (a ≡ b) ⊎ (a ≢ b)
same_number = same_or_not

pub node_path : (x y : NodeId) → x.store ≡ y.store → x.id ≡ y.id → x ≡ y
node_path x y e f = λ i. record { store = e i; id = f i }

pub same_node : (x y : NodeId) → (x ≡ y) ⊎ (x ≢ y)
same_node x y = by_parts (same_number x.store y.store) (same_number x.id y.id)
  where
    by_parts : (x.store ≡ y.store) ⊎ (x.store ≢ y.store) → (x.id ≡ y.id) ⊎ (x.id ≢ y.id) → (x ≡ y) ⊎ (x ≢ y)
    by_parts (inl e) (inl f) = inl (node_path x y e f)
    by_parts (inl e) (inr f) = inr (λ q. f (ap (λ z. z.id) q))
    by_parts (inr e) _ = inr (λ q. e (ap (λ z. z.store) q))

cons_same : (x y : ℕ) (xs ys : List ℕ) → (x ≡ y) ⊎ (x ≢ y) → (xs ≡ ys) ⊎ (xs ≢ ys) → (x ∷ xs ≡ y ∷ ys) ⊎ (x ∷ xs ≢ y ∷ ys)
cons_same x y xs ys (inl e) (inl f) = inl (cc)
cons_same x y xs ys (inl e) (inr f) = inr (λ q. f (cc))
cons_same x y xs ys (inr e) _ = inr (λ q. e (cc))

pub same_name : (x y : List ℕ) → (x ≡ y) ⊎ (x ≢ y)
same_name [] [] = inl refl
same_name [] (y ∷ ys) = inr (λ q. cc)
same_name (x ∷ xs) [] = inr (λ q. cc)
same_name (x ∷ xs) (y ∷ ys) = cons_same x y xs ys (same_number x y) (same_name xs ys)

-- ---- lists from their end

snoc_from : {A : Type 0} (P : List A → Type 0) → ((xs : List A) (x : A) → P xs → P (xs ++ x ∷ [])) → (xs ys : List A) → P xs → P (xs ++ ys)
snoc_from P step xs [] h = subst P (sym (append-nil xs)) h
snoc_from P step xs (y ∷ ys) h = subst P (append_assoc xs (y ∷ []) ys) (snoc_from P step (xs ++ y ∷ []) ys (step xs y h))

-- by one more element at the end
pub snoc_ind : {A : Type 0} (P : List A → Type 0) → P [] → ((xs : List A) (x : A) → P xs → P (xs ++ x ∷ [])) → (xs : List A) → P xs
snoc_ind P base step xs = snoc_from P step [] xs base

-- a list is empty or ends with an element
abbrev pub EndsWith : {A : Type 0} → List A → Type 0
EndsWith {A} xs = (xs ≡ []) ⊎ ((ys : List A) × (y : A) × (xs ≡ ys ++ y ∷ []))

pub ends_with : {A : Type 0} (xs : List A) → EndsWith xs
ends_with xs = snoc_ind EndsWith (inl refl) (λ ys y h. inr (ys, y, refl)) xs

-- ---- values and kinds

pub led_value : (o : Option PlainValue) (x : NodeId) → led_to o ≡ Some x → o ≡ Some (ChildValue x.store x.id)
led_value None x e = absurd (cc)
led_value (Some (ChildValue store id)) x e = ap (λ p. elim p [ Some z ↦ Some (ChildValue z.store z.id) | None ↦ None ]) e
led_value (Some GoneValue) x e = absurd (cc)
led_value (Some DirectoryValue) x e = absurd (cc)
led_value (Some (FileValue len)) x e = absurd (cc)
led_value (Some (AttributeValue text)) x e = absurd (cc)
led_value (Some WaitingValue) x e = absurd (cc)
led_value (Some (ExtentValue block sums)) x e = absurd (cc)
led_value (Some TakenValue) x e = absurd (cc)

pub kind_value : (o : Option PlainValue) (kind : Kind) → told_kind o ≡ Some kind → (value : PlainValue) × (o ≡ Some value)
kind_value None kind e = absurd (cc)
kind_value (Some value) kind e = (value, refl)

pub root_is : (y : NodeId) → y ≡ root_node → is_root y ≡ true
root_is y e = ap is_root e

root_parts : (y : NodeId) → is_root y ≡ true → y ≡ root_node
root_parts y t = let p = and_parts (y.store == 0) (y.id == 0) t in node_path y root_node (eqb-true y.store 0 p.0) (eqb-true y.id 0 p.1)

pub root_not : (y : NodeId) → y ≢ root_node → is_root y ≡ false
root_not y ne = false_from_ne_true (is_root y) (λ t. ne (root_parts y t))

-- a child stands under its key
pub child_value : (m : ItemMap) (y : NodeId) (name : List ℕ) (x : NodeId) → child m y name ≡ Some x → m (ChildKey y.store y.id name) ≡ Some (ChildValue x.store x.id)
child_value m y name x e = led_value (m (ChildKey y.store y.id name)) x e

-- a kind is told by an Object
pub object_value : (m : ItemMap) (y : NodeId) (kind : Kind) → object_kind m y ≡ Some kind → (value : PlainValue) × (m (ObjectKey y.store y.id) ≡ Some value)
object_value m y kind e = kind_value (m (ObjectKey y.store y.id)) kind e

-- what a kind says of a node that is not the root
pub kind_of_inner : (m : ItemMap) (y : NodeId) (kind : Kind) → y ≢ root_node → kind_of m y ≡ Some kind → object_kind m y ≡ Some kind
kind_of_inner m y kind ne e = rw (root_not y ne) at e

-- ---- walks

and_then_twice : {A B C : Type 0} (f : A → Option C) (h : A → Option B) (g : B → Option C) → ((x : A) → f x ≡ option_and_then g (h x)) → (o : Option A) → option_and_then f o ≡ option_and_then g (option_and_then h o)
and_then_twice f h g k None = refl
and_then_twice f h g k (Some x) = k x

-- a walk over names and then over others
pub node_from-append : (m : ItemMap) (y : NodeId) (a b : List (List ℕ)) → node_from m y (a ++ b) ≡ option_and_then (λ z. node_from m z b) (node_from m y a)
node_from-append m y [] b = refl
node_from-append m y (x ∷ a) b = and_then_twice (λ z. node_from m z (a ++ b)) (λ z. node_from m z a) (λ z. node_from m z b) (λ z. node_from-append m z a b) (child m y x)

pub more_step : (m : ItemMap) (a : List (List ℕ)) (y : NodeId) (name : List ℕ) (x : NodeId) → node_at m a ≡ Some y → child m y name ≡ Some x → node_at m (a ++ name ∷ []) ≡ Some x
more_step m a y name x e f =
    node_from-append m root_node a (name ∷ []) ∙ ap (option_and_then (λ z. node_from m z (name ∷ []))) e ∙ ap (option_and_then (λ z. node_from m z [])) f

-- the last step of a walk
abbrev pub LastStep : ItemMap → List (List ℕ) → List ℕ → NodeId → Type 0
LastStep m a name x = (y : NodeId) × (node_at m a ≡ Some y) × (child m y name ≡ Some x)

pub last_step : (m : ItemMap) (a : List (List ℕ)) (name : List ℕ) (x : NodeId) → node_at m (a ++ name ∷ []) ≡ Some x → LastStep m a name x
last_step m a name x e =
    option_and_then_some (λ z. node_from m z (name ∷ [])) (node_at m a) x (sym (node_from-append m root_node a (name ∷ [])) ∙ e) (λ y way step.
    option_and_then_some (λ z. node_from m z []) (child m y name) x step (λ z found same. (y, way, found ∙ same)))

-- ---- where the items stand

zero_value : (store id : ℕ) (x : NodeId) → ChildValue x.store x.id ≡ ChildValue store id → (x.store ≡ store) × (x.id ≡ id)
zero_value store id x e = (cc, cc)

-- no child leads to the root
pub root_not_led : (m : ItemMap) → Stands m → (y : NodeId) (name : List ℕ) → child m y name ≢ Some root_node
root_not_led m s y name e = by_node (same_node y root_node)
  where
    by_node : (y ≡ root_node) ⊎ (y ≢ root_node) → ⊥
    by_node (inl is) =
        let at : m (ChildKey 0 0 name) ≡ Some (ChildValue 0 0) = subst (λ z. m (ChildKey z.store z.id name) ≡ Some (ChildValue 0 0)) is (child_value m y name root_node e) in
        let v = s.volumes name (ChildValue 0 0) at in
        let z : 0 ≡ v.0 = (zero_value v.0 0 root_node v.1).0 in
        omega arith
    by_node (inr ne) =
        let v = s.inner y name (ChildValue 0 0) ne (child_value m y name root_node e) in
        let z : 0 ≡ v.0 = (zero_value y.store v.0 root_node v.1).1 in
        omega arith

-- one path at most leads to a node
pub one_path : (m : ItemMap) → Stands m → (a b : List (List ℕ)) (x : NodeId) → node_at m a ≡ Some x → node_at m b ≡ Some x → a ≡ b
one_path m s = snoc_ind Alone none more
  where
    Alone : List (List ℕ) → Type 0
    Alone a = (b : List (List ℕ)) (x : NodeId) → node_at m a ≡ Some x → node_at m b ≡ Some x → a ≡ b

    rootless : (a : List (List ℕ)) (name : List ℕ) (x : NodeId) → Some root_node ≡ Some x → node_at m (a ++ name ∷ []) ≡ Some x → ⊥
    rootless a name x e f = let l = last_step m a name x f in root_not_led m s l.0 name (l.2 ∙ sym e)

    none_by : (b : List (List ℕ)) (x : NodeId) → Some root_node ≡ Some x → node_at m b ≡ Some x → EndsWith b → [] ≡ b
    none_by b x e f (inl is) = sym is
    none_by b x e f (inr k) = absurd (rootless k.0 k.1 x e (subst (λ c. node_at m c ≡ Some x) k.2 f))

    none : Alone []
    none b x e f = none_by b x e f (ends_with b)

    more_by : (a : List (List ℕ)) (name : List ℕ) → Alone a → (b : List (List ℕ)) (x : NodeId) → node_at m (a ++ name ∷ []) ≡ Some x → node_at m b ≡ Some x → EndsWith b → a ++ name ∷ [] ≡ b
    more_by a name ih b x e f (inl is) = absurd (rootless a name x (subst (λ c. node_at m c ≡ Some x) is f) e)
    more_by a name ih b x e f (inr k) =
        let l = last_step m a name x e in
        let r = last_step m k.0 k.1 x (subst (λ c. node_at m c ≡ Some x) k.2 f) in
        let o = s.once l.0 r.0 name k.1 x l.2 r.2 in
        let same : a ≡ k.0 = ih k.0 l.0 l.1 (r.1 ∙ ap Some (sym o.0)) in
        ap (λ c. c ++ name ∷ []) same ∙ ap (λ n. k.0 ++ n ∷ []) o.1 ∙ sym k.2

    more : (a : List (List ℕ)) (name : List ℕ) → Alone a → Alone (a ++ name ∷ [])
    more a name ih b x e f = more_by a name ih b x e f (ends_with b)
