-- What stands in blocks of a layer: names, and items one after another.
use Rattle.std.proofs.Common.{◌≡◌, ℕ, ◌+◌, ◌-◌, ◌*◌, ◌^◌, ◌<◌, ◌≤◌, List, [], ◌∷◌, ◌++◌, length, take, drop, replicate, refl, sym, ap, subst, ◌∙◌, append_assoc, append-nil, arith, length-append, length-take, length-drop}
use Rattle.std.specs.Prelude.{All, Result, Ok, Err, slice_index}
use Rattle.std.proofs.lemmas.List.{take-append-drop, take_at, drop_at, length-replicate, nil_from_length}
use Rattle.std.proofs.lemmas.List.Elements.{All-head, All-tail, All-nil, All-push, All-drop}
use Rattle.fx_item.specs.Item.{PlainItem, IsItem, item_bytes}
use Rattle.fx_item.specs.Reading.{item_at}
use Rattle.fx_item.specs.declared.item.ItemFault.{ItemFault}
use Rattle.fx_item.specs.declared.item.ItemFault.TheVariants as faults
use Rattle.fx_item.proofs.Fields.{some_is}
use Rattle.fx_item.proofs.Spelled.{item_again}
use Rattle.fx_record.specs.Record.{items_bytes}
use Rattle.fx_record.proofs.Lists.{count-le-bytes, items_bytes-push}
use Rattle.fx_super.proofs.Lists.{length-numbers, same_numbers}
use Rattle.fx_layfile.specs.Block.{padded_text, layer_block, names_bytes, IsOfTree, IsFramed, IsIndexBlock, IsDataBlock}
use Rattle.fx_layfile.specs.Decoding.{DataDecoded, AppendsItems, ItemsDecoded, AppendsItem, ItemDecoded}
use Rattle.fx_layfile.specs.declared.block.TheConstants.{INDEX_MAGIC, DATA_MAGIC}
use Rattle.fx_layfile.proofs.Framed.{same_frame}

-- ---- a text and zeros behind it

pub padded_len : (text : List ℕ) → length text ≤ 4072 → length (padded_text text) ≡ 4072
unfolding padded_text
padded_len text le = omega (arith, length-append text (replicate (4072 - length text) 0), length-replicate {A = ℕ} (4072 - length text) 0)

pub padded_front : (text : List ℕ) (n : ℕ) → length text ≡ n → take n (padded_text text) ≡ text
unfolding padded_text
padded_front text n e = take_at text (replicate (4072 - length text) 0) n e

padded_back : (text : List ℕ) (n : ℕ) → length text ≡ n → drop n (padded_text text) ≡ replicate (4072 - n) 0
unfolding padded_text
padded_back text n e = drop_at text (replicate (4072 - length text) 0) n e ∙ ap (λ (k : ℕ). replicate (4072 - k) 0) e

pub padded_made : (raw text zeros : List ℕ) (n : ℕ) → length raw ≡ 4072 → n ≤ 4072 → text ≡ take n raw → zeros ≡ drop n raw → zeros ≡ replicate (length zeros) 0 → (length text ≡ n) × (raw ≡ padded_text text)
unfolding padded_text
padded_made raw text zeros n len le front back blank =
    let text_len : length text ≡ n = ap length front ∙ omega (arith, length-take n raw) in
    let zeros_len : length zeros ≡ 4072 - length text = ap length back ∙ omega (arith, length-drop n raw, text_len) in
    (text_len, sym (take-append-drop n raw) ∙ ap (λ (x : List ℕ). x ++ drop n raw) (sym front) ∙ ap (λ (x : List ℕ). text ++ x) (sym back ∙ blank ∙ ap (λ (k : ℕ). replicate k 0) zeros_len))

pub padded_zero : (raw text zeros : List ℕ) (n : ℕ) → raw ≡ padded_text text → length text ≡ n → zeros ≡ drop n raw → zeros ≡ replicate (length zeros) 0
padded_zero raw text zeros n whole len back =
    let e : zeros ≡ replicate (4072 - n) 0 = back ∙ ap (drop n) whole ∙ padded_back text n len in
    e ∙ ap (λ (k : ℕ). replicate k 0) (sym (ap length e ∙ length-replicate {A = ℕ} (4072 - n) 0))

same_padded : (a b : List ℕ) → length a ≡ length b → padded_text a ≡ padded_text b → a ≡ b
same_padded a b len e = sym (padded_front a (length a) refl) ∙ ap (take (length a)) e ∙ padded_front b (length a) (sym len)

-- ---- index blocks

pub index_framed : (block : List ℕ) (tree next : ℕ) (names : List ℕ) → IsIndexBlock block tree next names → IsFramed block INDEX_MAGIC next (length names) tree (padded_text (names_bytes names))
index_framed block tree next names h = record {
  a_fits = h.next_fits;
  b_fits = omega (arith, h.most);
  c_fits = h.tree_fits;
  whole = padded_len (names_bytes names) (omega (arith, length-numbers names, h.most));
  bytes_are = h.bytes_are;
}

pub index_made : (block : List ℕ) (tree next count owner : ℕ) (raw text zeros names : List ℕ) → IsFramed block INDEX_MAGIC next count owner raw → owner ≡ tree → 1 ≤ count → count ≤ 1018
    → text ≡ take (4 * count) raw → zeros ≡ drop (4 * count) raw → zeros ≡ replicate (length zeros) 0 → names_bytes names ≡ text → ((i : ℕ) → slice_index names i < 2 ^ 32) → IsIndexBlock block tree next names
index_made block tree next count owner raw text zeros names h same one most front back blank bytes fits =
    let whole = padded_made raw text zeros (4 * count) h.whole (omega arith) front back blank in
    let len : length names ≡ count = let e = sym (length-numbers names) ∙ ap length bytes ∙ whole.0 in omega (arith, e) in
    record {
      some = omega (arith, len);
      most = omega (arith, len);
      tree_fits = subst (λ (n : ℕ). n < 2 ^ 32) same h.c_fits;
      next_fits = h.a_fits;
      each_fits = fits;
      bytes_are = h.bytes_are ∙ ap (λ (n : ℕ). layer_block INDEX_MAGIC next n owner raw) (sym len) ∙ ap (λ (n : ℕ). layer_block INDEX_MAGIC next (length names) n raw) same
          ∙ ap (layer_block INDEX_MAGIC next (length names) tree) (whole.1 ∙ ap padded_text (sym bytes));
    }

-- a block of the form passes each test
pub index_tests : (block : List ℕ) (tree next count owner next' : ℕ) (raw names : List ℕ) → IsFramed block INDEX_MAGIC next count owner raw → IsIndexBlock block tree next' names
    → (owner ≡ tree) × (1 ≤ count) × (count ≤ 1018) × ((zeros : List ℕ) → zeros ≡ drop (4 * count) raw → zeros ≡ replicate (length zeros) 0)
index_tests block tree next count owner next' raw names h k =
    let s = same_frame block INDEX_MAGIC next count owner next' (length names) tree raw (padded_text (names_bytes names)) (omega arith) h (index_framed block tree next' names k) in (
      s.c_same,
      omega (arith, s.b_same, k.some),
      omega (arith, s.b_same, k.most),
      λ zeros back. padded_zero raw (names_bytes names) zeros (4 * count) s.raw_same (omega (arith, length-numbers names, s.b_same)) back,
    )

pub same_index : (block : List ℕ) (tree next next' : ℕ) (names names' : List ℕ) → IsIndexBlock block tree next names → IsIndexBlock block tree next' names' → (next ≡ next') × (names ≡ names')
same_index block tree next next' names names' h k =
    let s = same_frame block INDEX_MAGIC next (length names) tree next' (length names') tree (padded_text (names_bytes names)) (padded_text (names_bytes names')) (omega arith) (index_framed block tree next names h) (index_framed block tree next' names' k) in
    let bytes = same_padded (names_bytes names) (names_bytes names') (length-numbers names ∙ ap (λ (n : ℕ). 4 * n) s.b_same ∙ sym (length-numbers names')) s.raw_same in
    (s.a_same, same_numbers names names' s.b_same h.each_fits k.each_fits bytes)

-- ---- items one after another

pub one_item : (x y : PlainItem) (a b : List ℕ) → IsItem x → IsItem y → item_bytes x ++ a ≡ item_bytes y ++ b → (x ≡ y) × (a ≡ b)
one_item x y a b hx hy e =
    let same = some_is (x, a) (y, b) (sym (item_again x a hx) ∙ ap item_at e ∙ item_again y b hy) in
    (ap (λ (p : PlainItem × List ℕ). p.0) same, ap (λ (p : PlainItem × List ℕ). p.1) same)

-- The shorter list that begins the bytes begins the longer one.
pub begins_items : (tree : ℕ) (xs ys : List PlainItem) (l m : List ℕ) → All (IsOfTree tree) xs → All (IsOfTree tree) ys → length xs ≤ length ys → items_bytes xs ++ l ≡ items_bytes ys ++ m → (zs : List PlainItem) × (ys ≡ xs ++ zs) × (l ≡ items_bytes zs ++ m)
begins_items tree [] ys l m hx hy le e = (ys, refl, e)
begins_items tree (x ∷ xs) [] l m hx hy le e = absurd (omega arith)
begins_items tree (x ∷ xs) (y ∷ ys) l m hx hy le e =
    let grouped = sym (append_assoc (item_bytes x) (items_bytes xs) l) ∙ e ∙ append_assoc (item_bytes y) (items_bytes ys) m in
    let one = one_item x y (items_bytes xs ++ l) (items_bytes ys ++ m) (All-head (IsOfTree tree) x xs hx).item (All-head (IsOfTree tree) y ys hy).item grouped in
    let rest = begins_items tree xs ys l m (All-tail (IsOfTree tree) x xs hx) (All-tail (IsOfTree tree) y ys hy) (omega arith) one.1 in
    (rest.0, ap (λ (w : PlainItem). w ∷ ys) (sym one.0) ∙ ap (λ (w : List PlainItem). x ∷ w) rest.1, rest.2)

pub same_items : (tree : ℕ) (xs ys : List PlainItem) → All (IsOfTree tree) xs → All (IsOfTree tree) ys → length xs ≡ length ys → items_bytes xs ≡ items_bytes ys → xs ≡ ys
same_items tree xs ys hx hy len e =
    let b = begins_items tree xs ys [] [] hx hy (omega arith) (ap (λ (w : List ℕ). w ++ []) e) in
    let none : b.0 ≡ [] = nil_from_length b.0 (let n = ap length b.1 in omega (arith, length-append xs b.0)) in
    sym (append-nil xs) ∙ ap (λ (w : List PlainItem). xs ++ w) (sym none) ∙ sym b.1

-- ---- taking items

pub items_begun : (tree : ℕ) (bytes : List ℕ) (old : List PlainItem) → AppendsItems tree 0 bytes old old bytes
items_begun tree bytes old = record { more = []; new_is = sym (append-nil old); count_is = refl; parts = refl; good = All-nil (IsOfTree tree) }

pub items_taken : (tree n : ℕ) (bytes rest left : List ℕ) (old mid new : List PlainItem) → AppendsItems tree n bytes old mid rest → AppendsItem tree rest mid new left → AppendsItems tree (n + 1) bytes old new left
items_taken tree n bytes rest left old mid new h k = record {
  more = h.more ++ k.item ∷ [];
  new_is = k.new_is ∙ ap (λ (w : List PlainItem). w ++ k.item ∷ []) h.new_is ∙ append_assoc old h.more (k.item ∷ []);
  count_is = length-append h.more (k.item ∷ []) ∙ ap (λ (m : ℕ). m + 1) h.count_is;
  parts = h.parts ∙ ap (λ (w : List ℕ). items_bytes h.more ++ w) k.parts ∙ sym (append_assoc (items_bytes h.more) (item_bytes k.item) left) ∙ ap (λ (w : List ℕ). w ++ left) (sym (items_bytes-push h.more k.item));
  good = All-push (IsOfTree tree) h.more k.item h.good k.good;
}

-- more items than were taken stand there: one of them stands next
next_item : (tree n : ℕ) (bytes rest : List ℕ) (old mid : List PlainItem) → AppendsItems tree n bytes old mid rest → (items : List PlainItem) → n < length items → bytes ≡ items_bytes items → All (IsOfTree tree) items
    → (x : PlainItem) × (more : List ℕ) × (IsOfTree tree x) × (rest ≡ item_bytes x ++ more)
next_item tree n bytes rest old mid h items lt e good =
    let b = begins_items tree h.more items rest [] h.good good (omega (arith, h.count_is)) (sym h.parts ∙ e ∙ sym (append-nil (items_bytes items))) in
    by_rest b.0 b.1 b.2
  where
    by_rest : (zs : List PlainItem) → items ≡ h.more ++ zs → rest ≡ items_bytes zs ++ [] → (x : PlainItem) × (more : List ℕ) × (IsOfTree tree x) × (rest ≡ item_bytes x ++ more)
    by_rest [] p q = absurd (let n = ap length p in omega (arith, length-append h.more [], h.count_is))
    by_rest (x ∷ zs) p q =
        let all : All (IsOfTree tree) (h.more ++ x ∷ zs) = subst (All (IsOfTree tree)) p good in
        (x, items_bytes zs ++ [], All-head (IsOfTree tree) x zs (subst (All (IsOfTree tree)) (drop_at h.more (x ∷ zs) (length h.more) refl) (All-drop (IsOfTree tree) (length h.more) (h.more ++ x ∷ zs) all)), q ∙ append_assoc (item_bytes x) (items_bytes zs) [])

pub items_stop : (e : ItemFault) (tree count n : ℕ) (bytes rest : List ℕ) (old mid new : List PlainItem) → AppendsItems tree n bytes old mid rest → n < count → ItemDecoded tree rest mid new (Err e) → ItemsDecoded tree count bytes old new (Err e)
items_stop faults.OutOfMemory tree count n bytes rest old mid new h lt k = tt
items_stop faults.Bad tree count n bytes rest old mid new h lt k = λ items len e good.
    let x = next_item tree n bytes rest old mid h items (omega arith) e good in
    k x.0 x.1 x.2 x.3

pub items_left : (tree count : ℕ) (bytes rest : List ℕ) (old new : List PlainItem) → AppendsItems tree count bytes old new rest → (rest ≡ [] → ⊥) → ItemsDecoded tree count bytes old new (Err faults.Bad)
items_left tree count bytes rest old new h some = λ items len e good.
    let b = begins_items tree h.more items rest [] h.good good (omega (arith, h.count_is)) (sym h.parts ∙ e ∙ sym (append-nil (items_bytes items))) in
    let none : b.0 ≡ [] = nil_from_length b.0 (let n = ap length b.1 in omega (arith, length-append h.more b.0, h.count_is)) in
    some (b.2 ∙ ap (λ (w : List PlainItem). items_bytes w ++ []) none)

pub items_done : (tree count : ℕ) (bytes rest : List ℕ) (old new : List PlainItem) → AppendsItems tree count bytes old new rest → rest ≡ [] → AppendsItems tree count bytes old new []
items_done tree count bytes rest old new h none = subst (AppendsItems tree count bytes old new) none h

-- ---- data blocks

pub data_framed : (block : List ℕ) (tree : ℕ) (items : List PlainItem) → IsDataBlock block tree items → IsFramed block DATA_MAGIC (length items) (length (items_bytes items)) 0 (padded_text (items_bytes items))
data_framed block tree items h = record {
  a_fits = omega (arith, count-le-bytes items, h.room);
  b_fits = omega (arith, h.room);
  c_fits = omega arith;
  whole = padded_len (items_bytes items) h.room;
  bytes_are = h.bytes_are;
}

pub data_tests : (block : List ℕ) (tree count used word : ℕ) (raw : List ℕ) (items : List PlainItem) → IsFramed block DATA_MAGIC count used word raw → IsDataBlock block tree items
    → (word ≡ 0) × (1 ≤ count) × (used ≤ 4072) × ((zeros : List ℕ) → zeros ≡ drop used raw → zeros ≡ replicate (length zeros) 0) × (length items ≡ count) × (take used raw ≡ items_bytes items)
data_tests block tree count used word raw items h k =
    let s = same_frame block DATA_MAGIC count used word (length items) (length (items_bytes items)) 0 raw (padded_text (items_bytes items)) (omega arith) h (data_framed block tree items k) in (
      s.c_same,
      omega (arith, s.a_same, k.some),
      omega (arith, s.b_same, k.room),
      λ zeros back. padded_zero raw (items_bytes items) zeros used s.raw_same (sym s.b_same) back,
      sym s.a_same,
      ap (take used) s.raw_same ∙ padded_front (items_bytes items) used (sym s.b_same),
    )

pub data_decoded : (r : Result (Unit {0}) ItemFault) (block : List ℕ) (tree count used word : ℕ) (raw text zeros : List ℕ) (old new : List PlainItem) → IsFramed block DATA_MAGIC count used word raw
    → word ≡ 0 → 1 ≤ count → used ≤ 4072 → text ≡ take used raw → zeros ≡ drop used raw → zeros ≡ replicate (length zeros) 0 → ItemsDecoded tree count text old new r → DataDecoded block tree old new r
data_decoded (Err faults.OutOfMemory) block tree count used word raw text zeros old new h z one le front back pad k = tt
data_decoded (Err faults.Bad) block tree count used word raw text zeros old new h z one le front back pad k = λ items is.
    let t = data_tests block tree count used word raw items h is in
    k items t.4 (front ∙ t.5) is.good
data_decoded (Ok u) block tree count used word raw text zeros old new h z one le front back pad k =
    let whole = padded_made raw text zeros used h.whole le front back pad in
    let bytes : text ≡ items_bytes k.more = k.parts ∙ append-nil (items_bytes k.more) in
    let len : length (items_bytes k.more) ≡ used = ap length (sym bytes) ∙ whole.0 in
    record {
      more = k.more;
      new_is = k.new_is;
      is_data = record {
        some = omega (arith, k.count_is);
        room = omega arith;
        good = k.good;
        bytes_are = h.bytes_are ∙ ap (λ (n : ℕ). layer_block DATA_MAGIC n used word raw) (sym k.count_is) ∙ ap (λ (n : ℕ). layer_block DATA_MAGIC (length k.more) n word raw) (sym len)
            ∙ ap (λ (n : ℕ). layer_block DATA_MAGIC (length k.more) (length (items_bytes k.more)) n raw) z ∙ ap (layer_block DATA_MAGIC (length k.more) (length (items_bytes k.more)) 0) (whole.1 ∙ ap padded_text bytes);
      };
    }

pub same_data : (block : List ℕ) (tree : ℕ) (xs ys : List PlainItem) → IsDataBlock block tree xs → IsDataBlock block tree ys → xs ≡ ys
same_data block tree xs ys h k =
    let t = data_tests block tree (length xs) (length (items_bytes xs)) 0 (padded_text (items_bytes xs)) ys (data_framed block tree xs h) k in
    same_items tree xs ys h.good k.good (sym t.4) (sym (padded_front (items_bytes xs) (length (items_bytes xs)) refl) ∙ t.5)
