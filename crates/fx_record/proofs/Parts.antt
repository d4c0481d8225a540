-- The parts of a record's bytes.
use Rattle.std.proofs.Common.{◌≡◌, ℕ, ◌+◌, ◌^◌, ◌<◌, ◌≤◌, List, [], ◌∷◌, ◌++◌, length, take, drop, refl, sym, ap, ◌∙◌, append_assoc, append-nil, arith, length-append}
use Rattle.std.proofs.lemmas.List.{take_at, drop_at}
use Rattle.byteorder.specs.Endian.{little_bytes, little_number}
use Rattle.byteorder.specs.Numbers.{little_number-reads_back, length-bytes_low_first}
use Rattle.fx_item.specs.Item.{PlainItem}
use Rattle.fx_record.specs.Record.{PlainRecord, TransactionRecord, DiscardRecord, IsRecord, items_bytes, body_bytes, record_bytes}
use Rattle.fx_record.specs.Writing.{head_bytes}
use Rattle.fx_record.specs.Reading.{stated, body_at, count_at, items_at, HoldsWhole, IsTransactionBody, IsDiscardBody}
use Rattle.fx_record.proofs.Lists.{count-le-bytes}

len4 : (x : ℕ) → length (little_bytes 4 x) ≡ 4
len4 x = length-bytes_low_first 0 4 x

len8 : (x : ℕ) → length (little_bytes 8 x) ≡ 8
len8 x = length-bytes_low_first 0 8 x

-- ---- lengths

pub transaction_len : (number : ℕ) (items : List PlainItem) → length (body_bytes (TransactionRecord number items)) ≡ 13 + length (items_bytes items)
unfolding body_bytes
transaction_len number items = omega arith

pub discard_len : (number : ℕ) → length (body_bytes (DiscardRecord number)) ≡ 9
unfolding body_bytes
discard_len number = refl

pub record_len : (x : PlainRecord) → length (record_bytes x) ≡ 4 + length (body_bytes x)
unfolding record_bytes
record_len x = omega (arith, length-append (little_bytes 4 (length (body_bytes x))) (body_bytes x), len4 (length (body_bytes x)))

pub head_len : (len number count : ℕ) → length (head_bytes len number count) ≡ 17
unfolding head_bytes
head_len len number count = refl

-- ---- what is written

pub head_then_items : (number : ℕ) (items : List PlainItem) → head_bytes (13 + length (items_bytes items)) number (length items) ++ items_bytes items ≡ record_bytes (TransactionRecord number items)
unfolding head_bytes record_bytes body_bytes
head_then_items number items =
    ap (λ (n : ℕ). little_bytes 4 n ++ (1 ∷ (little_bytes 8 number ++ (little_bytes 4 (length items) ++ items_bytes items)))) (sym (transaction_len number items))

-- ---- the number's place

place_of : (front old new back rest : List ℕ) → length front ≡ 5 → length old ≡ 8 →
    (take 5 (front ++ (old ++ back) ++ rest) ≡ front) × (drop 8 (drop 5 (front ++ (old ++ back) ++ rest)) ≡ back ++ rest)
place_of front old new back rest five eight =
    let grouped : front ++ (old ++ back) ++ rest ≡ front ++ (old ++ (back ++ rest)) =
    append_assoc front (old ++ back) rest ∙ ap (λ (w : List ℕ). front ++ w) (append_assoc old back rest) in (
      ap (take 5) grouped ∙ take_at front (old ++ (back ++ rest)) 5 five,
      ap (λ (w : List ℕ). drop 8 (drop 5 w)) grouped ∙ ap (drop 8) (drop_at front (old ++ (back ++ rest)) 5 five) ∙ drop_at old (back ++ rest) 8 eight,
    )

-- before and after the number
front_of : List PlainItem → List ℕ
front_of items = little_bytes 4 (13 + length (items_bytes items)) ++ (1 ∷ [])

back_of : List PlainItem → List ℕ
back_of items = little_bytes 4 (length items) ++ items_bytes items

around_number : (number : ℕ) (items : List PlainItem) → record_bytes (TransactionRecord number items) ≡ front_of items ++ (little_bytes 8 number ++ back_of items)
unfolding record_bytes body_bytes front_of back_of
around_number number items =
    ap (λ (n : ℕ). little_bytes 4 n ++ (1 ∷ (little_bytes 8 number ++ (little_bytes 4 (length items) ++ items_bytes items)))) (transaction_len number items)

front_len : (items : List PlainItem) → length (front_of items) ≡ 5
unfolding front_of
front_len items = refl

pub renumbered : (old number : ℕ) (items : List PlainItem) (bytes rest : List ℕ) → bytes ≡ record_bytes (TransactionRecord old items) ++ rest →
    take 5 bytes ++ (little_bytes 8 number ++ drop 8 (drop 5 bytes)) ≡ record_bytes (TransactionRecord number items) ++ rest
renumbered old number items bytes rest e =
    let parts : bytes ≡ front_of items ++ (little_bytes 8 old ++ back_of items) ++ rest = e ∙ ap (λ (w : List ℕ). w ++ rest) (around_number old items) in
    let p = place_of (front_of items) (little_bytes 8 old) (little_bytes 8 number) (back_of items) rest (front_len items) (len8 old) in
    ap (λ (w : List ℕ). take 5 w ++ (little_bytes 8 number ++ drop 8 (drop 5 w))) parts
    ∙ ap (λ (w : List ℕ). w ++ (little_bytes 8 number ++ drop 8 (drop 5 (front_of items ++ (little_bytes 8 old ++ back_of items) ++ rest)))) p.0
    ∙ ap (λ (w : List ℕ). front_of items ++ (little_bytes 8 number ++ w)) p.1
    ∙ ap (λ (w : List ℕ). front_of items ++ w) (sym (append_assoc (little_bytes 8 number) (back_of items) rest))
    ∙ sym (append_assoc (front_of items) (little_bytes 8 number ++ back_of items) rest)
    ∙ ap (λ (w : List ℕ). w ++ rest) (sym (around_number number items))

pub transaction_long : (number : ℕ) (items : List PlainItem) (bytes rest : List ℕ) → bytes ≡ record_bytes (TransactionRecord number items) ++ rest → 17 ≤ length bytes
transaction_long number items bytes rest e =
    omega (arith, ap length e, length-append (record_bytes (TransactionRecord number items)) rest, record_len (TransactionRecord number items), transaction_len number items)

-- ---- what is read of them

pub record IsReadWhole (bytes : List ℕ) (x : PlainRecord) : Type 0 where
  pub stated_is : stated bytes ≡ length (body_bytes x)
  pub body_is : body_at bytes ≡ body_bytes x
  pub whole : HoldsWhole bytes

pub read_whole : (x : PlainRecord) (rest : List ℕ) → length (body_bytes x) < 2 ^ 32 → IsReadWhole (record_bytes x ++ rest) x
unfolding record_bytes
read_whole x rest short =
    let len = length (body_bytes x) in
    let grouped : little_bytes 4 len ++ body_bytes x ++ rest ≡ little_bytes 4 len ++ (body_bytes x ++ rest) = append_assoc (little_bytes 4 len) (body_bytes x) rest in
    let number : stated (little_bytes 4 len ++ body_bytes x ++ rest) ≡ len = ap (little_number 4) grouped ∙ little_number-reads_back 4 len (body_bytes x ++ rest) short in
    let after : drop 4 (little_bytes 4 len ++ body_bytes x ++ rest) ≡ body_bytes x ++ rest = ap (drop 4) grouped ∙ drop_at (little_bytes 4 len) (body_bytes x ++ rest) 4 (len4 len) in
    let all : length (little_bytes 4 len ++ body_bytes x ++ rest) ≡ 4 + len + length rest = omega (arith, ap length grouped, length-append (little_bytes 4 len) (body_bytes x ++ rest), length-append (body_bytes x) rest, len4 len) in
    record {
      stated_is = number;
      body_is = ap (λ (n : ℕ). take n (drop 4 (little_bytes 4 len ++ body_bytes x ++ rest))) number ∙ ap (take len) after ∙ take_at (body_bytes x) rest len refl;
      whole = omega (arith, number, all);
    }

pub record IsReadTransaction (body : List ℕ) (number : ℕ) (items : List PlainItem) : Type 0 where
  pub form : IsTransactionBody body
  pub number_is : little_number 8 (drop 1 body) ≡ number
  pub count_is : count_at body ≡ length items
  pub items_are : items_at body ≡ items_bytes items

pub read_transaction : (number : ℕ) (items : List PlainItem) → number < 2 ^ 64 → length items < 2 ^ 32 → IsReadTransaction (body_bytes (TransactionRecord number items)) number items
unfolding body_bytes
read_transaction number items fits few =
    let text = items_bytes items in
    let count = little_bytes 4 (length items) in
    record {
      form = (refl, omega arith);
      number_is = little_number-reads_back 8 number (count ++ text) fits;
      count_is = ap (little_number 4) (drop_at (1 ∷ little_bytes 8 number) (count ++ text) 9 refl) ∙ little_number-reads_back 4 (length items) text few;
      items_are = drop_at (1 ∷ (little_bytes 8 number ++ count)) text 13 refl;
    }

pub read_discard : (number : ℕ) → number < 2 ^ 64 → IsDiscardBody (body_bytes (DiscardRecord number)) × (little_number 8 (drop 1 (body_bytes (DiscardRecord number))) ≡ number)
unfolding body_bytes
read_discard number fits = ((refl, refl), ap (little_number 8) (sym (append-nil (little_bytes 8 number))) ∙ little_number-reads_back 8 number [] fits)

pub few_items : (number : ℕ) (items : List PlainItem) → length (body_bytes (TransactionRecord number items)) < 2 ^ 32 → length items < 2 ^ 32
few_items number items short = omega (arith, transaction_len number items, count-le-bytes items)

pub short_body : (x : PlainRecord) → IsRecord x → length (body_bytes x) < 2 ^ 32
short_body (TransactionRecord number items) h = h.2
short_body (DiscardRecord number) h = omega (arith, discard_len number)
