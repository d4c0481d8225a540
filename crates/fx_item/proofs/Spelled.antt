-- What is read at the front is an item and its bytes, and an item's bytes are read as that item.
use Rattle.std.proofs.Common.{◌≡◌, ℕ, ◌+◌, ◌-◌, ◌≤◌, List, ◌++◌, length, take, drop, Some, None, Result, Ok, Err, sym, ap, subst, ◌∙◌, append_assoc, arith, length-append, length-drop}
use Rattle.std.specs.Prelude.{IfOk, if◌then◌else◌}
use Rattle.std.proofs.lemmas.List.{take_at, drop_at}
use Rattle.fx_item.specs.declared.item.Item.{Item}
use Rattle.fx_item.specs.declared.item.ItemFault.{ItemFault}
use Rattle.fx_item.specs.declared.item.ItemFault.TheVariants as faults
use Rattle.fx_item.specs.Item.{PlainItem, IsItem, IsNameItem, is_name_key, key_bytes, value_bytes, item_bytes, item_of}
use Rattle.fx_item.specs.Reading.{◌>>=◌, Finds, IsReadAs, key_at, value_at, item_at, name_item_at}
use Rattle.fx_item.proofs.Fields.{IsBytes, bind_some, then_is, some_is, none_is, tested_some, tested_is, Takes, Takes-then}
use Rattle.fx_item.proofs.SpelledKeys.{key_takes, key_again}
use Rattle.fx_item.proofs.SpelledValues.{value_takes, value_again}

abbrev TakesItem : List ℕ → PlainItem × List ℕ → Type 0
TakesItem bytes y = Takes bytes (item_bytes y.0) y.1 × IsItem y.0

pub item_takes : (bytes : List ℕ) (y : PlainItem × List ℕ) → IsBytes bytes → item_at bytes ≡ Some y → TakesItem bytes y
unfolding item_at
item_takes bytes y fits e =
    let a = bind_some (key_at bytes) (λ key. value_at key.0 key.1 >>= λ value. Some (record { key = key.0; value = value.0 }, value.1)) y e in
    let b = bind_some (value_at a.0.0 a.0.1) (λ value. Some (record { key = a.0.0; value = value.0 }, value.1)) y a.2 in
    let t = key_takes bytes a.0 fits a.1 in
    let u = value_takes a.0.0 a.0.1 b.0 t.1 t.0.rest_fits b.1 in
    let both = Takes-then bytes (key_bytes a.0.0) a.0.1 (value_bytes b.0.0) b.0.1 t.0 u.0 in
    let made : PlainItem × List ℕ = (record { key = a.0.0; value = b.0.0 }, b.0.1) in
    subst (TakesItem bytes) (some_is made y b.2) (both, record { key = t.1; value = u.1 })

pub item_again : (x : PlainItem) (rest : List ℕ) → IsItem x → item_at (item_bytes x ++ rest) ≡ Some (x, rest)
unfolding item_at
item_again x rest h =
    let grouped : key_bytes x.key ++ value_bytes x.value ++ rest ≡ key_bytes x.key ++ (value_bytes x.value ++ rest) = append_assoc (key_bytes x.key) (value_bytes x.value) rest in
    ap item_at grouped
    ∙ then_is (key_at (key_bytes x.key ++ (value_bytes x.value ++ rest))) (λ key. value_at key.0 key.1 >>= λ value. Some (record { key = key.0; value = value.0 }, value.1)) (x.key, value_bytes x.value ++ rest) (key_again x.key (value_bytes x.value ++ rest) h.key)
    ∙ then_is (value_at x.key (value_bytes x.value ++ rest)) (λ value. Some (record { key = x.key; value = value.0 }, value.1)) (x.value, rest) (value_again x.key x.value rest h.value)

-- ---- items of names

pub name_item_takes : (bytes : List ℕ) (y : PlainItem × List ℕ) → IsBytes bytes → name_item_at bytes ≡ Some y → Takes bytes (item_bytes y.0) y.1 × IsNameItem y.0
unfolding name_item_at
name_item_takes bytes y fits e =
    let a = bind_some (item_at bytes) (λ item. if is_name_key item.0.key then Some item else None) y e in
    let test = tested_some (is_name_key a.0.0.key) (Some a.0) y a.2 in
    let t = item_takes bytes a.0 fits a.1 in
    subst (λ (w : PlainItem × List ℕ). Takes bytes (item_bytes w.0) w.1 × IsNameItem w.0) (some_is a.0 y test.1) (t.0, record { item = t.1; kind = test.0 })

pub name_item_again : (x : PlainItem) (rest : List ℕ) → IsNameItem x → name_item_at (item_bytes x ++ rest) ≡ Some (x, rest)
unfolding name_item_at
name_item_again x rest h =
    then_is (item_at (item_bytes x ++ rest)) (λ item. if is_name_key item.0.key then Some item else None) (x, rest) (item_again x rest h.item)
    ∙ tested_is (is_name_key x.key) (Some (x, rest)) h.kind

-- ---- what the public call says

abbrev Answer : Type 0
Answer = Result (Item × ℕ) ItemFault

abbrev pub exact : Answer → List ℕ → Type 0
exact r bytes = Finds (λ (y : Item × ℕ). (item_of y.0, drop y.1 bytes)) r (item_at bytes)

cut_here : (bytes text : List ℕ) (n : ℕ) → n ≤ length bytes → bytes ≡ text ++ drop n bytes → (n ≡ length text) × (take n bytes ≡ text)
cut_here bytes text n le e =
    let len : n ≡ length text = omega (arith, ap length e, length-append text (drop n bytes), length-drop n bytes) in
    (len, ap (take n) e ∙ take_at text (drop n bytes) n (sym len))

pub found : (r : Answer) (bytes : List ℕ) → IsBytes bytes → IfOk r (λ y. y.1 ≤ length bytes) → exact r bytes → IfOk r (λ y. IsItem (item_of y.0) × (y.1 ≤ length bytes) × (take y.1 bytes ≡ item_bytes (item_of y.0)))
found (Ok y) bytes fits le e =
    let t = item_takes bytes (item_of y.0, drop y.1 bytes) fits e in
    (t.1, le, (cut_here bytes (item_bytes (item_of y.0)) y.1 le t.0.parts).1)
found (Err f) bytes fits le e = tt

pub only : (r : Answer) (bytes : List ℕ) (x : PlainItem) (rest : List ℕ) → IfOk r (λ y. y.1 ≤ length bytes) → exact r bytes → IsItem x → bytes ≡ item_bytes x ++ rest → IsReadAs r x
only (Ok y) bytes x rest le e h parts =
    let again : item_at bytes ≡ Some (x, rest) = ap item_at parts ∙ item_again x rest h in
    let same = some_is (item_of y.0, drop y.1 bytes) (x, rest) (sym e ∙ again) in
    let rest_is : drop y.1 bytes ≡ rest = ap (λ (p : PlainItem × List ℕ). p.1) same in
    (ap (λ (p : PlainItem × List ℕ). p.0) same, (cut_here bytes (item_bytes x) y.1 le (parts ∙ ap (λ (w : List ℕ). item_bytes x ++ w) (sym rest_is))).0)
only (Err faults.OutOfMemory) bytes x rest le e h parts = tt
only (Err faults.Bad) bytes x rest le e h parts =
    let again : item_at bytes ≡ Some (x, rest) = ap item_at parts ∙ item_again x rest h in
    none_is (x, rest) (sym e ∙ again)

pub rest_is : (bytes : List ℕ) (x : PlainItem) (rest : List ℕ) → IsBytes bytes → item_at bytes ≡ Some (x, rest) → (length rest ≤ length bytes) × (drop (length bytes - length rest) bytes ≡ rest)
rest_is bytes x rest fits e =
    let t = item_takes bytes (x, rest) fits e in
    let len : length bytes ≡ length (item_bytes x) + length rest = ap length t.0.parts ∙ length-append (item_bytes x) rest in
    (omega arith, ap (drop (length bytes - length rest)) t.0.parts ∙ drop_at (item_bytes x) rest (length bytes - length rest) (omega arith))
