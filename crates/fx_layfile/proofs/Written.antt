-- The blocks of a writer, one more at a time.
use Rattle.std.proofs.Common.{◌≡◌, ℕ, ◌+◌, ◌-◌, ◌<◌, ◌≤◌, ◌^◌, Bool, true, false, List, [], ◌∷◌, ◌++◌, length, take, drop, refl, sym, ap, subst, ◌∙◌, cond, arith, append_assoc, append-nil, length-append, length-take, length-drop, take-append-drop}
use Rattle.std.specs.Prelude.{All, slice_index}
use Rattle.std.specs.List.{fold}
use Rattle.std.proofs.lemmas.Bool.{lt-ltb}
use Rattle.std.proofs.lemmas.List.{map-append, length-map, drop_at}
use Rattle.std.proofs.lemmas.List.Sums.{fold-append}
use Rattle.std.proofs.lemmas.Grind.{flat_map-append}
use Rattle.std.proofs.lemmas.List.Elements.{All-nil, All-cons, All-push, All-head, All-tail, All-drop}
use Rattle.fx_base.proofs.Lists.{not_nil}
use Rattle.fx_item.specs.Item.{PlainItem, item_bytes}
use Rattle.fx_record.specs.Record.{items_bytes}
use Rattle.fx_record.proofs.Lists.{count-le-bytes, items_bytes-push}
use Rattle.fx_layfile.specs.Block.{IsOfTree, IsDataBlock, layer_block, padded_text, index_bytes}
use Rattle.fx_layfile.specs.Layer.{BlockBytes, IndexPart, DataPart, first_part, names_of_parts, data_places, items_of_parts, AreData}
use Rattle.fx_layfile.specs.Writing.{WriterState, new_writer, has_place, waiting_block, first_named, IsOpen, Filling, fill_one, nothing_filled, one_if_some, data_count, index_count, layer_blocks, blocks_left, HoldsBlocks, places_given, last_index_first, HasWrittenLayer}
use Rattle.fx_layfile.specs.declared.block.Block.{Block}
use Rattle.fx_layfile.specs.declared.block.TheConstants.{DATA_MAGIC}

-- ---- counts

pub one_is : (n : ℕ) → 0 < n → one_if_some n ≡ 1
one_is n h = ap (λ (b : Bool). cond b 1 0) (lt-ltb 0 n h)

same_one : (m n : ℕ) → 0 < m → 0 < n → one_if_some m ≡ one_if_some n
same_one m n h k = one_is m h ∙ sym (one_is n k)

pub one_pending : (pending : List PlainItem) → one_if_some (length pending) ≡ one_if_some (length (items_bytes pending))
one_pending [] = refl
one_pending (x ∷ pending) =
    let few = count-le-bytes (x ∷ pending) in
    same_one (length (x ∷ pending)) (length (items_bytes (x ∷ pending))) (omega arith) (omega (arith, few))

-- an open writer: each data block given waits for its name
open_counted : (s : WriterState) (items : List PlainItem) (given full : ℕ) → fold fill_one nothing_filled items ≡ record { full = full; used = length s.text }
    → given ≡ full → length s.waiting ≡ full → one_if_some s.count ≡ one_if_some (length s.text) → given + blocks_left s ≡ layer_blocks items
open_counted s items given full fill g w one =
    let p = one_if_some (length s.text) in
    let filled : data_count items ≡ full + p = ap (λ (f : Filling). f.full + one_if_some f.used) fill in
    let left : blocks_left s ≡ p + index_count (full + p) = ap (λ (n : ℕ). n + index_count (length s.waiting + n)) one ∙ ap (λ (n : ℕ). p + index_count (n + p)) w in
    let all : layer_blocks items ≡ full + p + index_count (full + p) = ap (λ (n : ℕ). n + index_count n) filled in
    omega (arith, left, all, g)

no_parts : (parts : List IndexPart) → All (λ part. 0 < part.at) parts → first_part parts 0 ≡ 0 → parts ≡ []
no_parts [] h e = refl
no_parts (p ∷ parts) h e = absurd (let at = All-head (λ (q : IndexPart). 0 < q.at) p parts h in omega (arith, at))

holds_before : (bytes : BlockBytes) (given : List Block) (b : Block) → HoldsBlocks bytes (given ++ b ∷ []) → HoldsBlocks bytes given × (bytes b.at ≡ b.bytes)
holds_before bytes [] b h = (All-nil (λ (c : Block). bytes c.at ≡ c.bytes), All-head (λ (c : Block). bytes c.at ≡ c.bytes) b [] h)
holds_before bytes (g ∷ given) b h =
    let P : Block → Type 0 = λ c. bytes c.at ≡ c.bytes in
    let rest = holds_before bytes given b (All-tail P g (given ++ b ∷ []) h) in
    (All-cons P g given (All-head P g (given ++ b ∷ []) h) rest.0, rest.1)

places_more : (given : List Block) (b : Block) → places_given (given ++ b ∷ []) ≡ places_given given ++ b.at ∷ []
places_more given b = map-append (λ (c : Block). c.at) given (b ∷ [])

pub begun : (tree : ℕ) → HasWrittenLayer (new_writer tree) [] []
begun tree = record {
  parts = [];
  leaves = [];
  pending = [];
  items_are = refl;
  good = All-nil (IsOfTree tree);
  text_is = refl;
  count_is = refl;
  next_is = refl;
  named = refl;
  placed = All-nil (λ (p : IndexPart). 0 < p.at);
  data_first = λ h. refl;
  order = refl;
  stands = λ bytes h. (tt, All-nil (λ (l : DataPart). IsDataBlock (bytes l.at) tree l.items));
  filled = λ o. refl;
  counted = refl;
}

-- the data block of the items that wait
module _ (s : WriterState) (items : List PlainItem) (given : List Block) (h : HasWrittenLayer s items given) (at : ℕ) (room : length s.text ≤ 4072) (some : 0 < s.count) where
  pending_good : All (IsOfTree s.tree) h.pending
  pending_good = subst (All (IsOfTree s.tree)) (drop_at (items_of_parts h.leaves) h.pending (length (items_of_parts h.leaves)) refl) (All-drop (IsOfTree s.tree) (length (items_of_parts h.leaves)) (items_of_parts h.leaves ++ h.pending) (subst (All (IsOfTree s.tree)) h.items_are h.good))

  pub waiting_is_data : IsDataBlock (waiting_block s at).bytes s.tree h.pending
  waiting_is_data = record {
    some = omega (arith, h.count_is);
    room = subst (λ w. length w ≤ 4072) h.text_is room;
    good = pending_good;
    bytes_are = ap (λ (n : ℕ). layer_block DATA_MAGIC n (length s.text) 0 (padded_text s.text)) h.count_is
        ∙ ap (λ (w : List ℕ). layer_block DATA_MAGIC (length h.pending) (length w) 0 (padded_text w)) h.text_is;
  }

  abbrev leaf : DataPart
  leaf = record { at = at; items = h.pending }

  none : h.parts ≡ []
  none = no_parts h.parts h.placed (h.next_is ∙ h.data_first some)

  leaves_are : items ≡ items_of_parts (h.leaves ++ leaf ∷ [])
  leaves_are = h.items_are ∙ ap (λ (w : List PlainItem). items_of_parts h.leaves ++ w) (sym (append-nil h.pending)) ∙ sym (flat_map-append (λ (l : DataPart). l.items) h.leaves (leaf ∷ []))

  waiting_named : data_places (h.leaves ++ leaf ∷ []) ≡ (s.waiting ++ at ∷ []) ++ []
  waiting_named =
      map-append (λ (l : DataPart). l.at) h.leaves (leaf ∷ []) ∙ ap (λ (w : List ℕ). w ++ at ∷ []) (h.named ∙ ap (λ (w : List IndexPart). s.waiting ++ names_of_parts w) none ∙ append-nil s.waiting) ∙ sym (append-nil (s.waiting ++ at ∷ []))

  waiting_order : places_given (given ++ waiting_block s at ∷ []) ≡ data_places (h.leaves ++ leaf ∷ []) ++ []
  waiting_order =
      places_more given (waiting_block s at) ∙ ap (λ (w : List ℕ). w ++ at ∷ []) (h.order ∙ ap (λ (w : List IndexPart). data_places h.leaves ++ last_index_first w) none ∙ append-nil (data_places h.leaves))
      ∙ sym (map-append (λ (l : DataPart). l.at) h.leaves (leaf ∷ [])) ∙ sym (append-nil (data_places (h.leaves ++ leaf ∷ [])))

  waiting_stands : (bytes : BlockBytes) → HoldsBlocks bytes (given ++ waiting_block s at ∷ []) → AreData bytes s.tree (h.leaves ++ leaf ∷ [])
  waiting_stands bytes k =
      let b = holds_before bytes given (waiting_block s at) k in
      All-push (λ (l : DataPart). IsDataBlock (bytes l.at) s.tree l.items) h.leaves leaf (h.stands bytes b.0).1 (subst (λ w. IsDataBlock w s.tree h.pending) (sym b.1) waiting_is_data)

  given_len : length given ≡ length h.leaves
  given_len =
      let e = ap length (h.order ∙ ap (λ (w : List IndexPart). data_places h.leaves ++ last_index_first w) none ∙ append-nil (data_places h.leaves)) in
      omega (arith, length-map given (λ (b : Block). b.at), length-map h.leaves (λ (l : DataPart). l.at))

  waiting_len : length s.waiting ≡ length h.leaves
  waiting_len =
      let e = ap length (h.named ∙ ap (λ (w : List IndexPart). s.waiting ++ names_of_parts w) none ∙ append-nil s.waiting) in
      omega (arith, length-map h.leaves (λ (l : DataPart). l.at))

  -- by `finish`
  pub waiting_given : HasWrittenLayer (record s { count = 0; text = []; waiting = s.waiting ++ at ∷ [] }) items (given ++ waiting_block s at ∷ [])
  waiting_given = record {
    parts = [];
    leaves = h.leaves ++ leaf ∷ [];
    pending = [];
    items_are = leaves_are ∙ sym (append-nil (items_of_parts (h.leaves ++ leaf ∷ [])));
    good = h.good;
    text_is = refl;
    count_is = refl;
    next_is = sym (h.data_first some);
    named = waiting_named;
    placed = All-nil (λ (p : IndexPart). 0 < p.at);
    data_first = λ z. absurd (omega arith);
    order = waiting_order;
    stands = λ bytes k. (tt, waiting_stands bytes k);
    filled = λ o. absurd (not_nil s.waiting at (o.filling refl));
    counted =
        let one : one_if_some s.count ≡ 1 = one_is s.count some in
        let before : length given + (1 + index_count (length s.waiting + 1)) ≡ layer_blocks items = ap (λ (n : ℕ). length given + (n + index_count (length s.waiting + n))) (sym one) ∙ h.counted in
        let len : length (s.waiting ++ at ∷ []) + 0 ≡ length s.waiting + 1 = omega (arith, length-append s.waiting (at ∷ [])) in
        let after : index_count (length (s.waiting ++ at ∷ []) + 0) ≡ index_count (length s.waiting + 1) = ap index_count len in
        omega (arith, before, after, length-append given (waiting_block s at ∷ []));
  }

  -- by `add`
  pub item_given : (x : PlainItem) → IsOfTree s.tree x → IsOpen s → has_place s x ≡ false → 0 < length (item_bytes x)
      → HasWrittenLayer (record s { count = 1; text = item_bytes x; waiting = s.waiting ++ at ∷ [] }) (items ++ x ∷ []) (given ++ waiting_block s at ∷ [])
  item_given x good opened full long =
      let fill : fold fill_one nothing_filled (items ++ x ∷ []) ≡ record { full = length (h.leaves ++ leaf ∷ []); used = length (item_bytes x) } =
      fold-append fill_one nothing_filled items (x ∷ []) ∙ ap (λ (f : Filling). fill_one f x) (h.filled opened)
      ∙ ap (λ (b : Bool). cond b (let f : Filling = record { full = length h.leaves; used = length s.text + length (item_bytes x) } in f) (let f : Filling = record { full = length h.leaves + 1; used = length (item_bytes x) } in f)) full
      ∙ ap (λ (n : ℕ). let f : Filling = record { full = n; used = length (item_bytes x) } in f) (sym (length-append h.leaves (leaf ∷ []))) in
      record {
        parts = [];
        leaves = h.leaves ++ leaf ∷ [];
        pending = x ∷ [];
        items_are = ap (λ (w : List PlainItem). w ++ x ∷ []) leaves_are;
        good = All-push (IsOfTree s.tree) items x h.good good;
        text_is = sym (append-nil (item_bytes x));
        count_is = refl;
        next_is = sym (h.data_first some);
        named = waiting_named;
        placed = All-nil (λ (p : IndexPart). 0 < p.at);
        data_first = λ z. h.data_first some;
        order = waiting_order;
        stands = λ bytes k. (tt, waiting_stands bytes k);
        filled = λ o. fill;
        counted = open_counted (record s { count = 1; text = item_bytes x; waiting = s.waiting ++ at ∷ [] }) (items ++ x ∷ []) (length (given ++ waiting_block s at ∷ [])) (length (h.leaves ++ leaf ∷ [])) fill
            (omega (arith, given_len, length-append given (waiting_block s at ∷ []), length-append h.leaves (leaf ∷ []))) (omega (arith, waiting_len, length-append s.waiting (at ∷ []), length-append h.leaves (leaf ∷ [])))
            (same_one 1 (length (item_bytes x)) (omega arith) long);
      }

-- an item that fits
pub item_added : (s : WriterState) (items : List PlainItem) (given : List Block) (x : PlainItem) → HasWrittenLayer s items given → IsOpen s → IsOfTree s.tree x → has_place s x ≡ true
    → HasWrittenLayer (record s { count = s.count + 1; text = s.text ++ item_bytes x }) (items ++ x ∷ []) (given ++ [])
item_added s items given x h opened good fits =
    let none : h.parts ≡ [] = no_parts h.parts h.placed (h.next_is ∙ opened.no_index) in
    let s' : WriterState = record s { count = s.count + 1; text = s.text ++ item_bytes x } in
    let text : s.text ++ item_bytes x ≡ items_bytes (h.pending ++ x ∷ []) = ap (λ (w : List ℕ). w ++ item_bytes x) h.text_is ∙ sym (items_bytes-push h.pending x) in
    let count : s.count + 1 ≡ length (h.pending ++ x ∷ []) = omega (arith, h.count_is, length-append h.pending (x ∷ [])) in
    let order : places_given given ≡ data_places h.leaves = h.order ∙ ap (λ (w : List IndexPart). data_places h.leaves ++ last_index_first w) none ∙ append-nil (data_places h.leaves) in
    let named : data_places h.leaves ≡ s.waiting = h.named ∙ ap (λ (w : List IndexPart). s.waiting ++ names_of_parts w) none ∙ append-nil s.waiting in
    let fill : fold fill_one nothing_filled (items ++ x ∷ []) ≡ record { full = length h.leaves; used = length (s.text ++ item_bytes x) } =
    fold-append fill_one nothing_filled items (x ∷ []) ∙ ap (λ (f : Filling). fill_one f x) (h.filled opened)
    ∙ ap (λ (b : Bool). cond b (let f : Filling = record { full = length h.leaves; used = length s.text + length (item_bytes x) } in f) (let f : Filling = record { full = length h.leaves + 1; used = length (item_bytes x) } in f)) fits
    ∙ ap (λ (n : ℕ). let f : Filling = record { full = length h.leaves; used = n } in f) (sym (length-append s.text (item_bytes x))) in
    let given_len : length given ≡ length h.leaves = let e = ap length order in omega (arith, length-map given (λ (b : Block). b.at), length-map h.leaves (λ (l : DataPart). l.at)) in
    let waiting_len : length s.waiting ≡ length h.leaves = let e = ap length named in omega (arith, length-map h.leaves (λ (l : DataPart). l.at)) in
    let one : one_if_some (s.count + 1) ≡ one_if_some (length (s.text ++ item_bytes x)) = ap one_if_some count ∙ one_pending (h.pending ++ x ∷ []) ∙ ap (λ (w : List ℕ). one_if_some (length w)) (sym text) in
    record {
      parts = [];
      leaves = h.leaves;
      pending = h.pending ++ x ∷ [];
      items_are = ap (λ (w : List PlainItem). w ++ x ∷ []) h.items_are ∙ append_assoc (items_of_parts h.leaves) h.pending (x ∷ []);
      good = All-push (IsOfTree s.tree) items x h.good good;
      text_is = text;
      count_is = count;
      next_is = sym opened.no_index;
      named = named ∙ sym (append-nil s.waiting);
      placed = All-nil (λ (p : IndexPart). 0 < p.at);
      data_first = λ z. opened.no_index;
      order = ap places_given (append-nil given) ∙ order ∙ sym (append-nil (data_places h.leaves));
      stands = λ bytes k. (tt, (h.stands bytes (subst (HoldsBlocks bytes) (append-nil given) k)).1);
      filled = λ o. fill;
      counted = open_counted s' (items ++ x ∷ []) (length (given ++ [])) (length h.leaves) fill (ap length (append-nil given) ∙ given_len) waiting_len one;
    }

-- an index block
pub index_given : (s : WriterState) (items : List PlainItem) (given : List Block) (at : ℕ) (b : Block) → HasWrittenLayer s items given → s.count ≡ 0 → 0 < length s.waiting → 0 < at → s.tree < 2 ^ 32 → s.next < 2 ^ 32
    → ((i : ℕ) → slice_index (drop (first_named s.waiting) s.waiting) i < 2 ^ 32) → b.at ≡ at → b.bytes ≡ index_bytes s.tree s.next (drop (first_named s.waiting) s.waiting)
    → HasWrittenLayer (record s { next = at; waiting = take (first_named s.waiting) s.waiting }) items (given ++ b ∷ [])
index_given s items given at b h idle some place tree next fits at_is bytes_is =
    let n = first_named s.waiting in
    let names = drop n s.waiting in
    let part : IndexPart = record { at = at; names = names } in
    let names_len : length names + n ≡ length s.waiting = omega (arith, length-drop n s.waiting) in
    let few : length names ≤ 1018 = omega (arith, length-drop n s.waiting) in
    let left_len : length (take n s.waiting) ≡ n = omega (arith, length-take n s.waiting) in
    record {
      parts = part ∷ h.parts;
      leaves = h.leaves;
      pending = h.pending;
      items_are = h.items_are;
      good = h.good;
      text_is = h.text_is;
      count_is = h.count_is;
      next_is = refl;
      named = h.named ∙ ap (λ (w : List ℕ). w ++ names_of_parts h.parts) (sym (take-append-drop n s.waiting)) ∙ append_assoc (take n s.waiting) names (names_of_parts h.parts);
      placed = All-cons (λ (p : IndexPart). 0 < p.at) part h.parts place h.placed;
      data_first = λ z. absurd (omega (arith, z, idle));
      order = places_more given b ∙ ap (λ (w : List ℕ). w ++ b.at ∷ []) h.order ∙ append_assoc (data_places h.leaves) (last_index_first h.parts) (b.at ∷ [])
          ∙ ap (λ (k : ℕ). data_places h.leaves ++ (last_index_first h.parts ++ k ∷ [])) at_is;
      stands = λ bytes k.
          let before = holds_before bytes given b k in
          let here : bytes at ≡ index_bytes s.tree (first_part h.parts 0) names = ap bytes (sym at_is) ∙ before.1 ∙ bytes_is ∙ ap (λ (m : ℕ). index_bytes s.tree m names) (sym h.next_is) in
          ((record { some = omega (arith, names_len, some); most = few; tree_fits = tree; next_fits = subst (λ (m : ℕ). m < 2 ^ 32) (sym h.next_is) next; each_fits = fits; bytes_are = here }, (h.stands bytes before.0).0), (h.stands bytes before.0).1);
      filled = λ o. absurd (let z = o.no_index in omega (arith, place, z));
      counted =
          let p : one_if_some s.count ≡ 0 = ap one_if_some idle in
          let all : blocks_left s ≡ 0 + index_count (length s.waiting + 0) = ap (λ (m : ℕ). m + index_count (length s.waiting + m)) p in
          let all_is : index_count (length s.waiting + 0) ≡ index_count (length s.waiting) = let z : length s.waiting + 0 ≡ length s.waiting = omega arith in ap index_count z in
          let more : one_if_some s.count + index_count (length (take n s.waiting) + one_if_some s.count) ≡ 0 + index_count (length (take n s.waiting) + 0) = ap (λ (m : ℕ). m + index_count (length (take n s.waiting) + m)) p in
          let more_is : index_count (length (take n s.waiting) + 0) ≡ index_count n = let z : length (take n s.waiting) + 0 ≡ n = omega (arith, left_len) in ap index_count z in
          let step : index_count (length s.waiting) ≡ index_count n + 1 = index_step (length s.waiting) some in
          omega (arith, all, all_is, more, more_is, step, h.counted, length-append given (b ∷ []));
    }
  where
    index_step : (m : ℕ) → 0 < m → index_count m ≡ index_count (m - 1018) + 1
    index_step m some = omega arith

pub none_given : (s : WriterState) (items : List PlainItem) (given : List Block) → HasWrittenLayer s items given → HasWrittenLayer s items (given ++ [])
none_given s items given h = subst (HasWrittenLayer s items) (sym (append-nil given)) h

-- where an item does not fit, items wait
pub some_wait : (s : WriterState) (items : List PlainItem) (given : List Block) (n : ℕ) → HasWrittenLayer s items given → 4072 < length s.text + n → n ≤ 528 → 0 < s.count
some_wait s items given n h full small = by_pending h.pending h.text_is h.count_is where
  by_pending : (pending : List PlainItem) → s.text ≡ items_bytes pending → s.count ≡ length pending → 0 < s.count
  by_pending [] e f = absurd (let z : length s.text ≡ 0 = ap length e in omega arith)
  by_pending (x ∷ pending) e f = omega arith

pub some_bytes : (x : PlainItem) → 0 < length (item_bytes x)
some_bytes x = let few = count-le-bytes (x ∷ []) in omega (arith, few, length-append (item_bytes x) [])
