-- The key that is read at the front is one, and these are its bytes; a key's bytes are read as that key.
use Rattle.std.proofs.Common.{◌≡◌, ℕ, ◌<◌, ◌^◌, cond, eqb, List, [], ◌∷◌, ◌++◌, Option, Some, None, refl, ap, subst, ◌∙◌, append_assoc, arith, inl, inr}
use Rattle.std.specs.Prelude.{IsTrue}
use Rattle.std.proofs.lemmas.Bool.{eqb-true}
use Rattle.fx_item.specs.Name.{is_name}
use Rattle.fx_item.specs.Item.{PlainKey, ObjectKey, AttributeKey, ExtentKey, ChildKey, GraveKey, AllocationKey, IsKey, name_bytes, range_bytes, key_bytes}
use Rattle.fx_item.specs.Reading.{◌>>=◌, pair_at, name_at, range_at, key_at}
use Rattle.fx_item.specs.declared.item.TheConstants.{MAX_DEVICE_BLOCKS, MAX_FILE_BLOCKS}
use Rattle.fx_item.proofs.Fields.{IsBytes, IsBytes-rest, bind_some, then_is, chosen, some_is, none_is, Takes, Takes-then, Takes-kind, pair_bytes, pair_takes, pair_again, name_takes, name_again, range_takes, range_again}

abbrev KeyRead : Type 0
KeyRead = Option (PlainKey × List ℕ)

abbrev pub TakesKey : List ℕ → PlainKey × List ℕ → Type 0
TakesKey bytes y = Takes bytes (key_bytes y.0) y.1 × IsKey y.0

-- ---- keys by what stands in them

-- a store and an id
module _ (n : ℕ) (make : ℕ → ℕ → PlainKey) where
  abbrev node_read : List ℕ → KeyRead
  node_read bytes = pair_at bytes >>= λ node. Some (make node.0.0 node.0.1, node.1)

  node_takes : ((s i : ℕ) → n ∷ pair_bytes s i ≡ key_bytes (make s i)) → ((s i : ℕ) → s < 2 ^ 32 → i < 2 ^ 64 → IsKey (make s i))
      → (kind : ℕ) (bytes : List ℕ) (y : PlainKey × List ℕ) → IsBytes bytes → kind ≡ n → node_read bytes ≡ Some y → TakesKey (kind ∷ bytes) y
  node_takes spelled rules kind bytes y fits is e =
      let a = bind_some (pair_at bytes) (λ node. Some (make node.0.0 node.0.1, node.1)) y e in
      let t = pair_takes bytes a.0.0 a.0.1 fits a.1 in
      let made : PlainKey × List ℕ = (make a.0.0.0 a.0.0.1, a.0.1) in
      let front = Takes-kind kind n bytes (pair_bytes a.0.0.0 a.0.0.1) a.0.1 is t.0 in
      subst (TakesKey (kind ∷ bytes)) (some_is made y a.2)
      (subst (λ (w : List ℕ). Takes (kind ∷ bytes) w a.0.1) (spelled a.0.0.0 a.0.0.1) front, rules a.0.0.0 a.0.0.1 t.1 t.2)

  node_again : (s i : ℕ) (rest : List ℕ) → s < 2 ^ 32 → i < 2 ^ 64 → node_read (pair_bytes s i ++ rest) ≡ Some (make s i, rest)
  node_again s i rest hs hi =
      then_is (pair_at (pair_bytes s i ++ rest)) (λ node. Some (make node.0.0 node.0.1, node.1)) ((s, i), rest) (pair_again s i rest hs hi)

-- a store, an id and a name
module _ (n : ℕ) (make : ℕ → ℕ → List ℕ → PlainKey) where
  abbrev named_read : List ℕ → KeyRead
  named_read bytes = pair_at bytes >>= λ node. name_at node.1 >>= λ name. Some (make node.0.0 node.0.1 name.0, name.1)

  named_takes : ((s i : ℕ) (x : List ℕ) → n ∷ (pair_bytes s i ++ name_bytes x) ≡ key_bytes (make s i x)) → ((s i : ℕ) (x : List ℕ) → s < 2 ^ 32 → i < 2 ^ 64 → IsTrue (is_name x) → IsKey (make s i x))
      → (kind : ℕ) (bytes : List ℕ) (y : PlainKey × List ℕ) → IsBytes bytes → kind ≡ n → named_read bytes ≡ Some y → TakesKey (kind ∷ bytes) y
  named_takes spelled rules kind bytes y fits is e =
      let a = bind_some (pair_at bytes) (λ node. name_at node.1 >>= λ name. Some (make node.0.0 node.0.1 name.0, name.1)) y e in
      let b = bind_some (name_at a.0.1) (λ name. Some (make a.0.0.0 a.0.0.1 name.0, name.1)) y a.2 in
      let t = pair_takes bytes a.0.0 a.0.1 fits a.1 in
      let u = name_takes a.0.1 b.0.0 b.0.1 t.0.rest_fits b.1 in
      let both = Takes-then bytes (pair_bytes a.0.0.0 a.0.0.1) a.0.1 (name_bytes b.0.0) b.0.1 t.0 u.0 in
      let front = Takes-kind kind n bytes (pair_bytes a.0.0.0 a.0.0.1 ++ name_bytes b.0.0) b.0.1 is both in
      let made : PlainKey × List ℕ = (make a.0.0.0 a.0.0.1 b.0.0, b.0.1) in
      subst (TakesKey (kind ∷ bytes)) (some_is made y b.2)
      (subst (λ (w : List ℕ). Takes (kind ∷ bytes) w b.0.1) (spelled a.0.0.0 a.0.0.1 b.0.0) front, rules a.0.0.0 a.0.0.1 b.0.0 t.1 t.2 u.1)

  named_again : (s i : ℕ) (x rest : List ℕ) → s < 2 ^ 32 → i < 2 ^ 64 → IsTrue (is_name x) → named_read (pair_bytes s i ++ name_bytes x ++ rest) ≡ Some (make s i x, rest)
  named_again s i x rest hs hi hx =
      let grouped : pair_bytes s i ++ name_bytes x ++ rest ≡ pair_bytes s i ++ (name_bytes x ++ rest) = append_assoc (pair_bytes s i) (name_bytes x) rest in
      ap named_read grouped
      ∙ then_is (pair_at (pair_bytes s i ++ (name_bytes x ++ rest))) (λ node. name_at node.1 >>= λ name. Some (make node.0.0 node.0.1 name.0, name.1)) ((s, i), name_bytes x ++ rest) (pair_again s i (name_bytes x ++ rest) hs hi)
      ∙ then_is (name_at (name_bytes x ++ rest)) (λ name. Some (make s i name.0, name.1)) (x, rest) (name_again x rest hx)

-- a store, an id and a range
abbrev extent_read : List ℕ → KeyRead
extent_read bytes = pair_at bytes >>= λ node. range_at MAX_FILE_BLOCKS node.1 >>= λ range. Some (ExtentKey node.0.0 node.0.1 range.0.0 range.0.1, range.1)

extent_takes : (kind : ℕ) (bytes : List ℕ) (y : PlainKey × List ℕ) → IsBytes bytes → kind ≡ 3 → extent_read bytes ≡ Some y → TakesKey (kind ∷ bytes) y
extent_takes kind bytes y fits is e =
    let a = bind_some (pair_at bytes) (λ node. range_at MAX_FILE_BLOCKS node.1 >>= λ range. Some (ExtentKey node.0.0 node.0.1 range.0.0 range.0.1, range.1)) y e in
    let b = bind_some (range_at MAX_FILE_BLOCKS a.0.1) (λ range. Some (ExtentKey a.0.0.0 a.0.0.1 range.0.0 range.0.1, range.1)) y a.2 in
    let t = pair_takes bytes a.0.0 a.0.1 fits a.1 in
    let u = range_takes MAX_FILE_BLOCKS a.0.1 b.0.0 b.0.1 t.0.rest_fits b.1 in
    let both = Takes-then bytes (pair_bytes a.0.0.0 a.0.0.1) a.0.1 (range_bytes b.0.0.0 b.0.0.1) b.0.1 t.0 u.0 in
    let made : PlainKey × List ℕ = (ExtentKey a.0.0.0 a.0.0.1 b.0.0.0 b.0.0.1, b.0.1) in
    subst (TakesKey (kind ∷ bytes)) (some_is made y b.2)
    (Takes-kind kind 3 bytes (pair_bytes a.0.0.0 a.0.0.1 ++ range_bytes b.0.0.0 b.0.0.1) b.0.1 is both, (t.1, t.2, (u.1, u.2)))

extent_again : (s i start stop : ℕ) (rest : List ℕ) → IsKey (ExtentKey s i start stop) → extent_read (pair_bytes s i ++ range_bytes start stop ++ rest) ≡ Some (ExtentKey s i start stop, rest)
extent_again s i start stop rest h =
    let grouped : pair_bytes s i ++ range_bytes start stop ++ rest ≡ pair_bytes s i ++ (range_bytes start stop ++ rest) = append_assoc (pair_bytes s i) (range_bytes start stop) rest in
    ap extent_read grouped
    ∙ then_is (pair_at (pair_bytes s i ++ (range_bytes start stop ++ rest))) (λ node. range_at MAX_FILE_BLOCKS node.1 >>= λ range. Some (ExtentKey node.0.0 node.0.1 range.0.0 range.0.1, range.1)) ((s, i), range_bytes start stop ++ rest) (pair_again s i (range_bytes start stop ++ rest) h.0 h.1)
    ∙ then_is (range_at MAX_FILE_BLOCKS (range_bytes start stop ++ rest)) (λ range. Some (ExtentKey s i range.0.0 range.0.1, range.1)) ((start, stop), rest) (range_again MAX_FILE_BLOCKS start stop rest (omega arith) h.2.0 h.2.1)

-- a range
abbrev device_read : List ℕ → KeyRead
device_read bytes = range_at MAX_DEVICE_BLOCKS bytes >>= λ range. Some (AllocationKey range.0.0 range.0.1, range.1)

device_takes : (kind : ℕ) (bytes : List ℕ) (y : PlainKey × List ℕ) → IsBytes bytes → kind ≡ 6 → device_read bytes ≡ Some y → TakesKey (kind ∷ bytes) y
device_takes kind bytes y fits is e =
    let a = bind_some (range_at MAX_DEVICE_BLOCKS bytes) (λ range. Some (AllocationKey range.0.0 range.0.1, range.1)) y e in
    let t = range_takes MAX_DEVICE_BLOCKS bytes a.0.0 a.0.1 fits a.1 in
    let made : PlainKey × List ℕ = (AllocationKey a.0.0.0 a.0.0.1, a.0.1) in
    subst (TakesKey (kind ∷ bytes)) (some_is made y a.2) (Takes-kind kind 6 bytes (range_bytes a.0.0.0 a.0.0.1) a.0.1 is t.0, (t.1, t.2))

-- ---- all kinds

abbrev from_6 : ℕ → List ℕ → KeyRead
from_6 kind bytes = cond (eqb kind 6) (device_read bytes) None

abbrev from_5 : ℕ → List ℕ → KeyRead
from_5 kind bytes = cond (eqb kind 5) (node_read 5 GraveKey bytes) (from_6 kind bytes)

abbrev from_4 : ℕ → List ℕ → KeyRead
from_4 kind bytes = cond (eqb kind 4) (named_read 4 ChildKey bytes) (from_5 kind bytes)

abbrev from_3 : ℕ → List ℕ → KeyRead
from_3 kind bytes = cond (eqb kind 3) (extent_read bytes) (from_4 kind bytes)

abbrev from_2 : ℕ → List ℕ → KeyRead
from_2 kind bytes = cond (eqb kind 2) (named_read 2 AttributeKey bytes) (from_3 kind bytes)

late_takes : (kind : ℕ) (bytes : List ℕ) (y : PlainKey × List ℕ) → IsBytes bytes → from_4 kind bytes ≡ Some y → TakesKey (kind ∷ bytes) y
late_takes kind bytes y fits e =
    elim (chosen (eqb kind 4) (named_read 4 ChildKey bytes) (from_5 kind bytes) (Some y) e) [
      | inl h ↦ named_takes 4 ChildKey (λ s i x. refl) (λ s i x hs hi hx. (hs, hi, hx)) kind bytes y fits (eqb-true _ _ h.0) h.1
      | inr h ↦ elim (chosen (eqb kind 5) (node_read 5 GraveKey bytes) (from_6 kind bytes) (Some y) h.1) [
        | inl k ↦ node_takes 5 GraveKey (λ s i. refl) (λ s i hs hi. (hs, hi)) kind bytes y fits (eqb-true _ _ k.0) k.1
        | inr k ↦ elim (chosen (eqb kind 6) (device_read bytes) None (Some y) k.1) [
          | inl l ↦ device_takes kind bytes y fits (eqb-true _ _ l.0) l.1
          | inr l ↦ none_is y l.1
        ]
      ]
    ]

pub key_takes : (bytes : List ℕ) (y : PlainKey × List ℕ) → IsBytes bytes → key_at bytes ≡ Some y → TakesKey bytes y
unfolding key_at
key_takes [] y fits e = none_is y e
key_takes (kind ∷ bytes) y fits e =
    let rest_fits = IsBytes-rest kind bytes fits in
    elim (chosen (eqb kind 1) (node_read 1 ObjectKey bytes) (from_2 kind bytes) (Some y) e) [
      | inl h ↦ node_takes 1 ObjectKey (λ s i. refl) (λ s i hs hi. (hs, hi)) kind bytes y rest_fits (eqb-true _ _ h.0) h.1
      | inr h ↦ elim (chosen (eqb kind 2) (named_read 2 AttributeKey bytes) (from_3 kind bytes) (Some y) h.1) [
        | inl k ↦ named_takes 2 AttributeKey (λ s i x. refl) (λ s i x hs hi hx. (hs, hi, hx)) kind bytes y rest_fits (eqb-true _ _ k.0) k.1
        | inr k ↦ elim (chosen (eqb kind 3) (extent_read bytes) (from_4 kind bytes) (Some y) k.1) [
          | inl l ↦ extent_takes kind bytes y rest_fits (eqb-true _ _ l.0) l.1
          | inr l ↦ late_takes kind bytes y rest_fits l.1
        ]
      ]
    ]

pub key_again : (k : PlainKey) (rest : List ℕ) → IsKey k → key_at (key_bytes k ++ rest) ≡ Some (k, rest)
unfolding key_at
key_again (ObjectKey s i) rest h = node_again 1 ObjectKey s i rest h.0 h.1
key_again (AttributeKey s i x) rest h = named_again 2 AttributeKey s i x rest h.0 h.1 h.2
key_again (ExtentKey s i start stop) rest h = extent_again s i start stop rest h
key_again (ChildKey s i x) rest h = named_again 4 ChildKey s i x rest h.0 h.1 h.2
key_again (GraveKey s i) rest h = node_again 5 GraveKey s i rest h.0 h.1
key_again (AllocationKey start stop) rest h =
    then_is (range_at MAX_DEVICE_BLOCKS (range_bytes start stop ++ rest)) (λ range. Some (AllocationKey range.0.0 range.0.1, range.1)) ((start, stop), rest) (range_again MAX_DEVICE_BLOCKS start stop rest (omega arith) h.0 h.1)
