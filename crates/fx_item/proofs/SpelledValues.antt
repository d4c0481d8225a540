-- The value that is read at the front is one, and these are its bytes; a value's bytes are read as that
-- value.
use Rattle.std.proofs.Common.{◌≡◌, ℕ, ◌-◌, ◌<◌, cond, eqb, List, [], ◌∷◌, ◌++◌, length, Option, Some, None, refl, ap, subst, ◌∙◌, arith, inl, inr}
use Rattle.std.proofs.lemmas.Bool.{eqb-true}
use Rattle.byteorder.specs.Endian.{little_bytes}
use Rattle.fx_item.specs.Item.{PlainKey, ObjectKey, AttributeKey, ExtentKey, ChildKey, GraveKey, AllocationKey, IsKey}
use Rattle.fx_item.specs.Item.{PlainValue, GoneValue, DirectoryValue, FileValue, AttributeValue, ChildValue, WaitingValue, ExtentValue, TakenValue}
use Rattle.fx_item.specs.Item.{IsObjectValue, IsAttributeValue, IsExtent, IsExtentValue, IsChildValue, IsGraveValue, IsAllocationValue, Suits, text_bytes, value_bytes}
use Rattle.fx_item.specs.Reading.{◌>>=◌, number_at, pair_at, text_at, extent_at, object_value_at, attribute_value_at, extent_value_at, child_value_at, plain_value_at, value_at}
use Rattle.fx_item.proofs.Fields.{IsBytes, IsBytes-rest, bind_some, then_is, chosen, some_is, none_is, Takes, Takes-kind, wide4, number_takes, number_again, pair_bytes, pair_takes, pair_again, text_takes, text_again, blocks_bytes, AreBlocks, extent_takes, extent_again}

abbrev ValueRead : Type 0
ValueRead = Option (PlainValue × List ℕ)

abbrev TakesValue : (PlainValue → Type 0) → List ℕ → PlainValue × List ℕ → Type 0
TakesValue rules bytes y = Takes bytes (value_bytes y.0) y.1 × rules y.0

-- one byte
Takes-tag : (tag n : ℕ) (bytes : List ℕ) → tag ≡ n → IsBytes bytes → Takes (tag ∷ bytes) (n ∷ []) bytes
Takes-tag tag n bytes e fits = Takes-kind tag n bytes [] bytes e (record { parts = refl; rest_fits = fits })

-- a value that is no more than its tag
tag_takes : (rules : PlainValue → Type 0) (value : PlainValue) (n : ℕ) → n ∷ [] ≡ value_bytes value → rules value
    → (tag : ℕ) (bytes : List ℕ) (y : PlainValue × List ℕ) → IsBytes bytes → tag ≡ n → (let read : ValueRead = Some (value, bytes) in read) ≡ Some y → TakesValue rules (tag ∷ bytes) y
tag_takes rules value n spelled good tag bytes y fits is e =
    let made : PlainValue × List ℕ = (value, bytes) in
    subst (TakesValue rules (tag ∷ bytes)) (some_is made y e) (subst (λ (w : List ℕ). Takes (tag ∷ bytes) w bytes) spelled (Takes-tag tag n bytes is fits), good)

-- a tombstone, or what this tag tells
gone_or : (rules : PlainValue → Type 0) → rules GoneValue → (n tag : ℕ) (bytes : List ℕ) (read : ValueRead) (y : PlainValue × List ℕ) → IsBytes bytes
    → (tag ≡ n → read ≡ Some y → TakesValue rules (tag ∷ bytes) y)
    → cond (eqb tag 0) (Some (GoneValue, bytes)) (cond (eqb tag n) read None) ≡ Some y → TakesValue rules (tag ∷ bytes) y
gone_or rules gone n tag bytes read y fits other e =
    elim (chosen (eqb tag 0) (Some (GoneValue, bytes)) (cond (eqb tag n) read None) (Some y) e) [
      | inl h ↦ tag_takes rules GoneValue 0 refl gone tag bytes y fits (eqb-true _ _ h.0) h.1
      | inr h ↦ elim (chosen (eqb tag n) read None (Some y) h.1) [
        | inl k ↦ other (eqb-true _ _ k.0) k.1
        | inr k ↦ none_is y k.1
      ]
    ]

-- ---- of an object

object_value_takes : (bytes : List ℕ) (y : PlainValue × List ℕ) → IsBytes bytes → object_value_at bytes ≡ Some y → TakesValue IsObjectValue bytes y
unfolding object_value_at
object_value_takes [] y fits e = none_is y e
object_value_takes (tag ∷ bytes) y fits e =
    let rest_fits = IsBytes-rest tag bytes fits in
    let file : (ℕ × List ℕ) → ValueRead = λ len. Some (FileValue len.0, len.1) in
    elim (chosen (eqb tag 0) (Some (GoneValue, bytes)) (cond (eqb tag 1) (Some (DirectoryValue, bytes)) (cond (eqb tag 2) (number_at 4 bytes >>= file) None)) (Some y) e) [
      | inl h ↦ tag_takes IsObjectValue GoneValue 0 refl tt tag bytes y rest_fits (eqb-true _ _ h.0) h.1
      | inr h ↦ elim (chosen (eqb tag 1) (Some (DirectoryValue, bytes)) (cond (eqb tag 2) (number_at 4 bytes >>= file) None) (Some y) h.1) [
        | inl k ↦ tag_takes IsObjectValue DirectoryValue 1 refl tt tag bytes y rest_fits (eqb-true _ _ k.0) k.1
        | inr k ↦ elim (chosen (eqb tag 2) (number_at 4 bytes >>= file) None (Some y) k.1) [
          | inr l ↦ none_is y l.1
          | inl l ↦ (
              let a = bind_some (number_at 4 bytes) file y l.1 in
              let t = number_takes 4 wide4 bytes a.0.0 a.0.1 rest_fits a.1 in
              let made : PlainValue × List ℕ = (FileValue a.0.0, a.0.1) in
              subst (TakesValue IsObjectValue (tag ∷ bytes)) (some_is made y a.2) (Takes-kind tag 2 bytes (little_bytes 4 a.0.0) a.0.1 (eqb-true _ _ l.0) t.0, t.1))
        ]
      ]
    ]

object_value_again : (v : PlainValue) (rest : List ℕ) → IsObjectValue v → object_value_at (value_bytes v ++ rest) ≡ Some (v, rest)
unfolding object_value_at
object_value_again GoneValue rest h = refl
object_value_again DirectoryValue rest h = refl
object_value_again (FileValue len) rest h =
    then_is (number_at 4 (little_bytes 4 len ++ rest)) (λ n. Some (FileValue n.0, n.1)) (len, rest) (number_again 4 len rest h)
object_value_again (AttributeValue text) rest h = absurd h
object_value_again (ChildValue store id) rest h = absurd h
object_value_again WaitingValue rest h = absurd h
object_value_again (ExtentValue block sums) rest h = absurd h
object_value_again TakenValue rest h = absurd h

-- ---- of an attribute

attribute_value_takes : (bytes : List ℕ) (y : PlainValue × List ℕ) → IsBytes bytes → attribute_value_at bytes ≡ Some y → TakesValue IsAttributeValue bytes y
unfolding attribute_value_at
attribute_value_takes [] y fits e = none_is y e
attribute_value_takes (tag ∷ bytes) y fits e =
    let rest_fits = IsBytes-rest tag bytes fits in
    let text : (List ℕ × List ℕ) → ValueRead = λ text. Some (AttributeValue text.0, text.1) in
    gone_or IsAttributeValue tt 3 tag bytes (text_at bytes >>= text) y rest_fits
    (λ is read.
    let a = bind_some (text_at bytes) text y read in
    let t = text_takes bytes a.0.0 a.0.1 rest_fits a.1 in
    let made : PlainValue × List ℕ = (AttributeValue a.0.0, a.0.1) in
    subst (TakesValue IsAttributeValue (tag ∷ bytes)) (some_is made y a.2) (Takes-kind tag 3 bytes (text_bytes a.0.0) a.0.1 is t.0, t.1)) e

attribute_value_again : (v : PlainValue) (rest : List ℕ) → IsAttributeValue v → attribute_value_at (value_bytes v ++ rest) ≡ Some (v, rest)
unfolding attribute_value_at
attribute_value_again GoneValue rest h = refl
attribute_value_again (AttributeValue text) rest h =
    then_is (text_at (text_bytes text ++ rest)) (λ t. Some (AttributeValue t.0, t.1)) (text, rest) (text_again text rest h)
attribute_value_again DirectoryValue rest h = absurd h
attribute_value_again (FileValue len) rest h = absurd h
attribute_value_again (ChildValue store id) rest h = absurd h
attribute_value_again WaitingValue rest h = absurd h
attribute_value_again (ExtentValue block sums) rest h = absurd h
attribute_value_again TakenValue rest h = absurd h

-- ---- of an extent

extent_value_takes : (start stop : ℕ) → start < stop → (bytes : List ℕ) (y : PlainValue × List ℕ) → IsBytes bytes → extent_value_at (stop - start) bytes ≡ Some y → TakesValue (IsExtentValue start stop) bytes y
unfolding extent_value_at
extent_value_takes start stop less [] y fits e = none_is y e
extent_value_takes start stop less (tag ∷ bytes) y fits e =
    let rest_fits = IsBytes-rest tag bytes fits in
    let blocks : ((ℕ × List ℕ) × List ℕ) → ValueRead = λ blocks. Some (ExtentValue blocks.0.0 blocks.0.1, blocks.1) in
    gone_or (IsExtentValue start stop) tt 6 tag bytes (extent_at (stop - start) bytes >>= blocks) y rest_fits
    (λ is read.
    let a = bind_some (extent_at (stop - start) bytes) blocks y read in
    let t = extent_takes (stop - start) bytes a.0.0 a.0.1 rest_fits a.1 in
    let made : PlainValue × List ℕ = (ExtentValue a.0.0.0 a.0.0.1, a.0.1) in
    let good : IsExtent start stop a.0.0.0 a.0.0.1 = record {
      count = omega (arith, less, t.1.count);
      most = omega (arith, t.1.count, t.1.most);
      inside = omega (arith, t.1.count, t.1.inside);
      wide = t.1.wide;
    } in
    subst (TakesValue (IsExtentValue start stop) (tag ∷ bytes)) (some_is made y a.2) (Takes-kind tag 6 bytes (blocks_bytes a.0.0.0 a.0.0.1) a.0.1 is t.0, good)) e

blocks_again : (block : ℕ) (sums rest : List ℕ) → AreBlocks (length sums) block sums → extent_value_at (length sums) (6 ∷ (blocks_bytes block sums ++ rest)) ≡ Some (ExtentValue block sums, rest)
unfolding extent_value_at
blocks_again block sums rest h =
    then_is (extent_at (length sums) (blocks_bytes block sums ++ rest)) (λ b. Some (ExtentValue b.0.0 b.0.1, b.1)) ((block, sums), rest) (extent_again block sums rest h)

extent_value_again : (start stop : ℕ) (v : PlainValue) (rest : List ℕ) → IsExtentValue start stop v → extent_value_at (stop - start) (value_bytes v ++ rest) ≡ Some (v, rest)
unfolding extent_value_at
extent_value_again start stop GoneValue rest h = refl
extent_value_again start stop (ExtentValue block sums) rest h =
    let count : stop - start ≡ length sums = omega (arith, h.count) in
    ap (λ (n : ℕ). extent_value_at n (6 ∷ (blocks_bytes block sums ++ rest))) count
    ∙ blocks_again block sums rest (record { count = refl; most = h.most; inside = h.inside; wide = h.wide })
extent_value_again start stop DirectoryValue rest h = absurd h
extent_value_again start stop (FileValue len) rest h = absurd h
extent_value_again start stop (AttributeValue text) rest h = absurd h
extent_value_again start stop (ChildValue store id) rest h = absurd h
extent_value_again start stop WaitingValue rest h = absurd h
extent_value_again start stop TakenValue rest h = absurd h

-- ---- of a child

child_value_takes : (bytes : List ℕ) (y : PlainValue × List ℕ) → IsBytes bytes → child_value_at bytes ≡ Some y → TakesValue IsChildValue bytes y
unfolding child_value_at
child_value_takes [] y fits e = none_is y e
child_value_takes (tag ∷ bytes) y fits e =
    let rest_fits = IsBytes-rest tag bytes fits in
    let child : ((ℕ × ℕ) × List ℕ) → ValueRead = λ node. Some (ChildValue node.0.0 node.0.1, node.1) in
    gone_or IsChildValue tt 4 tag bytes (pair_at bytes >>= child) y rest_fits
    (λ is read.
    let a = bind_some (pair_at bytes) child y read in
    let t = pair_takes bytes a.0.0 a.0.1 rest_fits a.1 in
    let made : PlainValue × List ℕ = (ChildValue a.0.0.0 a.0.0.1, a.0.1) in
    subst (TakesValue IsChildValue (tag ∷ bytes)) (some_is made y a.2) (Takes-kind tag 4 bytes (pair_bytes a.0.0.0 a.0.0.1) a.0.1 is t.0, (t.1, t.2))) e

child_value_again : (v : PlainValue) (rest : List ℕ) → IsChildValue v → child_value_at (value_bytes v ++ rest) ≡ Some (v, rest)
unfolding child_value_at
child_value_again GoneValue rest h = refl
child_value_again (ChildValue store id) rest h =
    then_is (pair_at (pair_bytes store id ++ rest)) (λ node. Some (ChildValue node.0.0 node.0.1, node.1)) ((store, id), rest) (pair_again store id rest h.0 h.1)
child_value_again DirectoryValue rest h = absurd h
child_value_again (FileValue len) rest h = absurd h
child_value_again (AttributeValue text) rest h = absurd h
child_value_again WaitingValue rest h = absurd h
child_value_again (ExtentValue block sums) rest h = absurd h
child_value_again TakenValue rest h = absurd h

-- ---- of a node in the graveyard, and of blocks of the device

plain_value_takes : (rules : PlainValue → Type 0) (n : ℕ) (value : PlainValue) → rules GoneValue → rules value → n ∷ [] ≡ value_bytes value
    → (bytes : List ℕ) (y : PlainValue × List ℕ) → IsBytes bytes → plain_value_at n value bytes ≡ Some y → TakesValue rules bytes y
unfolding plain_value_at
plain_value_takes rules n value gone good spelled [] y fits e = none_is y e
plain_value_takes rules n value gone good spelled (tag ∷ bytes) y fits e =
    gone_or rules gone n tag bytes (Some (value, bytes)) y (IsBytes-rest tag bytes fits)
    (λ is read. tag_takes rules value n spelled good tag bytes y (IsBytes-rest tag bytes fits) is read) e

grave_value_again : (v : PlainValue) (rest : List ℕ) → IsGraveValue v → plain_value_at 5 WaitingValue (value_bytes v ++ rest) ≡ Some (v, rest)
unfolding plain_value_at
grave_value_again GoneValue rest h = refl
grave_value_again WaitingValue rest h = refl
grave_value_again DirectoryValue rest h = absurd h
grave_value_again (FileValue len) rest h = absurd h
grave_value_again (AttributeValue text) rest h = absurd h
grave_value_again (ChildValue store id) rest h = absurd h
grave_value_again (ExtentValue block sums) rest h = absurd h
grave_value_again TakenValue rest h = absurd h

allocation_value_again : (v : PlainValue) (rest : List ℕ) → IsAllocationValue v → plain_value_at 7 TakenValue (value_bytes v ++ rest) ≡ Some (v, rest)
unfolding plain_value_at
allocation_value_again GoneValue rest h = refl
allocation_value_again TakenValue rest h = refl
allocation_value_again DirectoryValue rest h = absurd h
allocation_value_again (FileValue len) rest h = absurd h
allocation_value_again (AttributeValue text) rest h = absurd h
allocation_value_again (ChildValue store id) rest h = absurd h
allocation_value_again WaitingValue rest h = absurd h
allocation_value_again (ExtentValue block sums) rest h = absurd h

-- ---- of any key

pub value_takes : (k : PlainKey) (bytes : List ℕ) (y : PlainValue × List ℕ) → IsKey k → IsBytes bytes → value_at k bytes ≡ Some y → TakesValue (Suits k) bytes y
value_takes (ObjectKey s i) bytes y h fits e = object_value_takes bytes y fits e
value_takes (AttributeKey s i x) bytes y h fits e = attribute_value_takes bytes y fits e
value_takes (ExtentKey s i start stop) bytes y h fits e = extent_value_takes start stop h.2.0 bytes y fits e
value_takes (ChildKey s i x) bytes y h fits e = child_value_takes bytes y fits e
value_takes (GraveKey s i) bytes y h fits e = plain_value_takes IsGraveValue 5 WaitingValue tt tt refl bytes y fits e
value_takes (AllocationKey start stop) bytes y h fits e = plain_value_takes IsAllocationValue 7 TakenValue tt tt refl bytes y fits e

pub value_again : (k : PlainKey) (v : PlainValue) (rest : List ℕ) → Suits k v → value_at k (value_bytes v ++ rest) ≡ Some (v, rest)
value_again (ObjectKey s i) v rest h = object_value_again v rest h
value_again (AttributeKey s i x) v rest h = attribute_value_again v rest h
value_again (ExtentKey s i start stop) v rest h = extent_value_again start stop v rest h
value_again (ChildKey s i x) v rest h = child_value_again v rest h
value_again (GraveKey s i) v rest h = grave_value_again v rest h
value_again (AllocationKey start stop) v rest h = allocation_value_again v rest h
