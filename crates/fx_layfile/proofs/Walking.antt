-- The read of a layer, one more block at a time.
use Rattle.std.proofs.Common.{◌≡◌, ℕ, zero, suc, ◌+◌, ◌-◌, ◌<◌, ◌≤◌, Bool, true, false, ◌&&◌, List, [], ◌∷◌, ◌++◌, length, take, drop, get_or, refl, sym, ap, subst, ◌∙◌, inl, inr, arith, append-nil, length-append}
use Rattle.std.specs.Prelude.{All, Option, Some, None, Err, ◌==◌}
use Rattle.std.specs.List.{slice_get}
use Rattle.std.proofs.lemmas.Bool.{and_parts, and_from, eqb-true, eqb-false}
use Rattle.std.proofs.lemmas.List.{take_at, take_all, take_more, take-append-le, take-append-drop, length-take, map-append, take-map, length-map, get_or-map, get_or-take, get_or-set_same, get_or-set_other}
use Rattle.std.proofs.lemmas.List.Sums.{fold-append}
use Rattle.std.proofs.lemmas.Grind.{flat_map-append}
use Rattle.std.proofs.lemmas.List.Elements.{All-push, All-get_or}
use Rattle.std.proofs.lemmas.Option.{slice_get_within, get_or_from_slice_get}
use Rattle.fx_base.proofs.Faults.{answer_then}
use Rattle.fx_base.proofs.Lists.{got_kept, got_last}
use Rattle.fx_disk.specs.Seen.{DiskSeen, HasOnlyRead}
use Rattle.fx_disk.proofs.Frames.{only_read_then}
use Rattle.fx_item.specs.Item.{PlainItem, IsItem, item_of, items_of, key_of}
use Rattle.fx_item.specs.Look.{AllApart}
use Rattle.fx_item.proofs.PlaceOrder.{le_upto}
use Rattle.fx_item.proofs.Follow.{follow_holds}
use Rattle.fx_batch.proofs.Rising.{IsRising, rising_apart}
use Rattle.fx_item.specs.Order.{may_follow, is_ascending}
use Rattle.fx_item.specs.declared.item.Item.{Item}
use Rattle.fx_record.proofs.Lists.{ascending_more, items_of-push}
use Rattle.fx_layfile.specs.Block.{IsOfTree, IsIndexBlock, IsDataBlock}
use Rattle.fx_layfile.specs.Layer.{BlockBytes, IsUnmarked, AreUnmarked, mark_block, mark_blocks, IndexPart, DataPart, first_part, IsIndexChain, index_places, names_of_parts, data_places, items_of_parts, IsIndexOf, IsStored, IsBadData, IsDisordered, IsWholeLayer, EndsOrder, TellsImage, KeepsMarks, ReadsMarked}
use Rattle.fx_layfile.specs.Reading.{Claimed, IsClaimed, BadIndexLeaves, BadNameLeaves, BadDataLeaves, DisorderLeaves, LeavesMarks, Leads, LeadsOn, IndexFound, noted, EndsAt, Gathers, GathersOn, IsBadName, DataFound, IsSaid}
use Rattle.fx_layfile.specs.declared.layer.LayerFault.{LayerFault}
use Rattle.fx_layfile.specs.declared.layer.LayerFault.TheVariants as faults

-- ---- what a disk tells stays as long as it is only read

pub tells_on : (a b : DiskSeen) (image : List (List ℕ)) → HasOnlyRead a b → TellsImage a image → TellsImage b image
tells_on a b image read t = record { log = t.log; told = read.told ∙ t.told; reads = t.reads }

pub reads_then : (a b c : DiskSeen) (s t u : List Bool) (good : Bool) → ReadsMarked a b s t true → ReadsMarked b c t u good → ReadsMarked a c s u good
reads_then a b c s t u good x y = record {
  read = only_read_then a b c x.read y.read;
  faults = answer_then good a.faults b.faults c.faults x.faults y.faults;
  size = y.size ∙ x.size;
  kept = λ block e. y.kept block (x.kept block e);
  few = omega (arith, x.few, y.few);
}

-- ---- marks

pub claim_keeps : (ring at : ℕ) (old new : List Bool) (free : Bool) → Claimed ring old at new free → KeepsMarks old new
claim_keeps ring at old new false h block e = subst (λ (m : List Bool). get_or m block false ≡ true) (sym h.1) e
claim_keeps ring at old new true h block e = subst (λ (m : List Bool). get_or m block false ≡ true) (sym h.1) (by_place (block == at) refl) where
  by_place : (b : Bool) → (block == at) ≡ b → get_or (mark_block old at) block false ≡ true
  by_place true q = ap (λ (i : ℕ). get_or (mark_block old at) i false) (eqb-true block at q) ∙ get_or-set_same old at true false h.0.on_disk
  by_place false q = get_or-set_other old at block true false (eqb-false block at q) ∙ e

claimed_on : (ring at bad : ℕ) (marks now new : List Bool) (places : List ℕ) → bad ≡ at → now ≡ mark_blocks marks places → IsClaimed ring now at new → IsClaimed ring (mark_blocks marks places) bad new
claimed_on ring at bad marks now new places b m c = subst (λ (w : List Bool). IsClaimed ring w bad new) m (subst (λ (n : ℕ). IsClaimed ring now n new) (sym b) c)

pub unmarked_more : (ring : ℕ) (marks : List Bool) (places : List ℕ) (at : ℕ) → AreUnmarked ring marks places → IsUnmarked ring (mark_blocks marks places) at → AreUnmarked ring marks (places ++ at ∷ [])
unmarked_more ring marks [] at h k = (k, tt)
unmarked_more ring marks (p ∷ places) at h k = (h.0, unmarked_more ring (mark_block marks p) places at h.1 k)

pub marks_more : (marks now new : List Bool) (places : List ℕ) (at : ℕ) → now ≡ mark_blocks marks places → new ≡ mark_block now at → new ≡ mark_blocks marks (places ++ at ∷ [])
marks_more marks now new places at e f = f ∙ ap (λ (m : List Bool). mark_block m at) e ∙ sym (fold-append mark_block marks places (at ∷ []))

-- ---- index blocks

first_more : (parts : List IndexPart) (p : IndexPart) (stop : ℕ) → first_part (parts ++ p ∷ []) stop ≡ first_part parts p.at
first_more [] p stop = refl
first_more (q ∷ parts) p stop = refl

chain_more : (blocks : BlockBytes) (tree stop : ℕ) (parts : List IndexPart) (p : IndexPart) → IsIndexChain blocks tree parts p.at → IsIndexBlock (blocks p.at) tree stop p.names → IsIndexChain blocks tree (parts ++ p ∷ []) stop
chain_more blocks tree stop [] p h k = (k, tt)
chain_more blocks tree stop (q ∷ parts) p h k =
    (subst (λ n. IsIndexBlock (blocks q.at) tree n q.names) (sym (first_more parts p stop)) h.0, chain_more blocks tree stop parts p h.1 k)

pub leads_more : (blocks : BlockBytes) (tree first at next : ℕ) (places names more found : List ℕ) → Leads blocks tree first at places names → more ≡ names ++ found → IsIndexBlock (blocks at) tree next found → Leads blocks tree first next (places ++ at ∷ []) more
leads_more blocks tree first at next places names more found h e k =
    let p : IndexPart = record { at = at; names = found } in
    record {
      parts = h.parts ++ p ∷ [];
      begins = first_more h.parts p next ∙ h.begins;
      chain = chain_more blocks tree next h.parts p h.chain k;
      places_are = ap (λ (w : List ℕ). w ++ at ∷ []) h.places_are ∙ sym (map-append (λ (q : IndexPart). q.at) h.parts (p ∷ []));
      names_are = e ∙ ap (λ (w : List ℕ). w ++ found) h.names_are ∙ ap (λ (w : List ℕ). names_of_parts h.parts ++ w) (sym (append-nil found)) ∙ sym (flat_map-append (λ (q : IndexPart). q.names) h.parts (p ∷ []));
    }

pub index_stops : (e : LayerFault) (blocks : BlockBytes) (ring : ℕ) (marks now new : List Bool) (tree first at : ℕ) (places names more : List ℕ) → Leads blocks tree first at places names
    → AreUnmarked ring marks places → now ≡ mark_blocks marks places → (at ≡ 0 → places ≡ []) → LeadsOn blocks ring now tree at names more (Err e) → IsClaimed ring now at new → IndexFound blocks ring marks new tree first (Err e)
index_stops faults.Device blocks ring marks now new tree first at places names more h free m f k c = tt
index_stops faults.OutOfMemory blocks ring marks now new tree first at places names more h free m f k c = tt
index_stops (faults.Order bad) blocks ring marks now new tree first at places names more h free m f k c = k
index_stops (faults.BadBlock bad) blocks ring marks now new tree first at places names more h free m f k c =
    let now_is : now ≡ mark_blocks marks (index_places h.parts) = m ∙ ap (mark_blocks marks) h.places_are in
    let bad_is : at ≡ bad = sym k.0 in
    subst (BadIndexLeaves blocks ring marks new tree first) bad_is (
      record {
        parts = h.parts;
        begins = h.begins;
        chain = h.chain;
        unmarked = subst (AreUnmarked ring marks) h.places_are free;
        follows = λ z. no_parts h.parts (sym h.places_are ∙ f z);
        wrong = λ next found u is. k.1 next found (subst (λ w. IsUnmarked ring w at) (sym now_is) u) is;
      },
      claimed_on ring at at marks now new (index_places h.parts) refl now_is c,
    )
  where
    no_parts : (parts : List IndexPart) → index_places parts ≡ [] → parts ≡ []
    no_parts [] e = refl
    no_parts (p ∷ parts) e = absurd (cc)

-- ---- order

pub ascending_begin : (a b : List PlainItem) → is_ascending (a ++ b) ≡ true → is_ascending a ≡ true
ascending_begin [] b h = refl
ascending_begin (x ∷ []) b h = refl
ascending_begin (x ∷ y ∷ rest) b h =
    let p = and_parts (may_follow x.key y.key) (is_ascending ((y ∷ rest) ++ b)) h in
    and_from (may_follow x.key y.key) (is_ascending (y ∷ rest)) p.0 (ascending_begin (y ∷ rest) b p.1)

false_from : (x y : Bool) → (y ≡ true → x ≡ true) → x ≡ false → y ≡ false
false_from x true h e = absurd (let f = h refl in cc)
false_from x false h e = refl

pub disorder_stays : (a b : List PlainItem) → is_ascending a ≡ false → is_ascending (a ++ b) ≡ false
disorder_stays a b e = false_from (is_ascending a) (is_ascending (a ++ b)) (ascending_begin a b) e

pub ascending_step : (xs : List Item) (i : ℕ) (d e : Item) → 1 ≤ i → i < length xs
    → is_ascending (items_of (take (i + 1) xs)) ≡ (is_ascending (items_of (take i xs)) && may_follow (key_of (get_or xs (i - 1) d).key) (key_of (get_or xs i e).key))
ascending_step xs i d e one lt =
    let b : Item = get_or xs i e in
    let len : length (items_of (take i xs)) ≡ i = omega (arith, length-map (take i xs) item_of, length-take i xs) in
    let at : get_or (items_of (take i xs)) (i - 1) (item_of d) ≡ item_of (get_or xs (i - 1) d) =
    get_or-map item_of (take i xs) (i - 1) d (item_of d) (omega (arith, length-take i xs)) ∙ ap item_of (get_or-take i xs (i - 1) d (omega arith)) in
    ap (λ (w : List Item). is_ascending (items_of w)) (take_more xs i e lt) ∙ ap is_ascending (items_of-push (take i xs) b)
    ∙ ascending_more (items_of (take i xs)) (i - 1) (item_of b) (item_of d) (omega (arith, len))
    ∙ ap (λ (z : PlainItem). is_ascending (items_of (take i xs)) && may_follow z.key (key_of b.key)) at

pub disorder_whole : (xs : List Item) (n : ℕ) → is_ascending (items_of (take n xs)) ≡ false → is_ascending (items_of xs) ≡ false
disorder_whole xs n e =
    ap (λ (w : List Item). is_ascending (items_of w)) (sym (take-append-drop n xs)) ∙ ap is_ascending (map-append item_of (take n xs) (drop n xs)) ∙ disorder_stays (items_of (take n xs)) (items_of (drop n xs)) e

-- ---- data blocks

disordered_more : (leaves : List DataPart) (leaf : DataPart) (bad : ℕ) → IsDisordered leaves bad → IsDisordered (leaves ++ leaf ∷ []) bad
disordered_more leaves leaf bad h =
    let within : h.place < length leaves = let w = slice_get_within (data_places leaves) h.place bad h.here in omega (arith, w, length-map leaves (λ (l : DataPart). l.at)) in
    record {
      place = h.place;
      here = ap (λ (w : List ℕ). slice_get w h.place) (map-append (λ (l : DataPart). l.at) leaves (leaf ∷ [])) ∙ got_kept (data_places leaves) leaf.at h.place bad h.here;
      before = ap (λ (w : List DataPart). is_ascending (items_of_parts w)) (take-append-le h.place leaves (leaf ∷ []) (omega arith)) ∙ h.before;
      breaks = ap (λ (w : List DataPart). is_ascending (items_of_parts w)) (take-append-le (h.place + 1) leaves (leaf ∷ []) (omega arith)) ∙ h.breaks;
    }

disordered_now : (leaves : List DataPart) (leaf : DataPart) → is_ascending (items_of_parts leaves) ≡ true → is_ascending (items_of_parts (leaves ++ leaf ∷ [])) ≡ false → IsDisordered (leaves ++ leaf ∷ []) leaf.at
disordered_now leaves leaf up down = record {
  place = length leaves;
  here = ap (λ (w : List ℕ). slice_get w (length leaves)) (map-append (λ (l : DataPart). l.at) leaves (leaf ∷ []))
      ∙ ap (slice_get (data_places leaves ++ leaf.at ∷ [])) (sym (length-map leaves (λ (l : DataPart). l.at))) ∙ got_last (data_places leaves) leaf.at;
  before = ap (λ (w : List DataPart). is_ascending (items_of_parts w)) (take_at leaves (leaf ∷ []) (length leaves) refl) ∙ up;
  breaks = ap (λ (w : List DataPart). is_ascending (items_of_parts w)) (take_all (length leaves + 1) (leaves ++ leaf ∷ []) (omega (arith, length-append leaves (leaf ∷ [])))) ∙ down;
}

ends_more : (leaves : List DataPart) (leaf : DataPart) (disorder : Option ℕ) (ascends : Bool) → EndsAt leaves disorder → (disorder ≡ None → is_ascending (items_of_parts leaves) ≡ true)
    → is_ascending (items_of_parts (leaves ++ leaf ∷ [])) ≡ ascends → EndsAt (leaves ++ leaf ∷ []) (noted disorder ascends leaf.at)
ends_more leaves leaf (Some bad) ascends h up e = disordered_more leaves leaf bad h
ends_more leaves leaf None true h up e = tt
ends_more leaves leaf None false h up e = disordered_now leaves leaf (up refl) e

pub gathers_more : (blocks : BlockBytes) (tree at : ℕ) (places : List ℕ) (old new more : List PlainItem) (disorder : Option ℕ) → Gathers blocks tree places old disorder → (disorder ≡ None → is_ascending old ≡ true)
    → new ≡ old ++ more → IsDataBlock (blocks at) tree more → Gathers blocks tree (places ++ at ∷ []) new (noted disorder (is_ascending new) at)
gathers_more blocks tree at places old new more disorder h up e k =
    let leaf : DataPart = record { at = at; items = more } in
    let all : new ≡ items_of_parts (h.leaves ++ leaf ∷ []) = e ∙ ap (λ (w : List PlainItem). w ++ more) h.items_are ∙ ap (λ (w : List PlainItem). items_of_parts h.leaves ++ w) (sym (append-nil more)) ∙ sym (flat_map-append (λ (l : DataPart). l.items) h.leaves (leaf ∷ [])) in
    record {
      leaves = h.leaves ++ leaf ∷ [];
      named = ap (λ (w : List ℕ). w ++ at ∷ []) h.named ∙ sym (map-append (λ (l : DataPart). l.at) h.leaves (leaf ∷ []));
      leaves_are = All-push (λ (l : DataPart). IsDataBlock (blocks l.at) tree l.items) h.leaves leaf h.leaves_are k;
      items_are = all;
      ends = ends_more h.leaves leaf disorder (is_ascending new) h.ends (λ n. ap is_ascending (sym h.items_are) ∙ up n) (ap is_ascending (sym all));
    }

pub rises_more : (disorder : Option ℕ) (ascends : Bool) (at : ℕ) → noted disorder ascends at ≡ None → ascends ≡ true
rises_more (Some bad) ascends at e = absurd (cc)
rises_more None true at e = refl
rises_more None false at e = absurd (cc)

pub data_stops : (e : LayerFault) (blocks : BlockBytes) (ring : ℕ) (marks now after : List Bool) (tree at : ℕ) (names places rest : List ℕ) (old new : List PlainItem) (disorder : Option ℕ) → Gathers blocks tree places old disorder
    → names ≡ places ++ at ∷ rest → AreUnmarked ring marks places → now ≡ mark_blocks marks places → GathersOn blocks ring now tree at old new (Err e) → IsClaimed ring now at after → DataFound blocks ring marks after tree names (Err e)
data_stops faults.Device blocks ring marks now after tree at names places rest old new disorder h split free m k c = tt
data_stops faults.OutOfMemory blocks ring marks now after tree at names places rest old new disorder h split free m k c = tt
data_stops (faults.Order bad) blocks ring marks now after tree at names places rest old new disorder h split free m k c = k
data_stops (faults.BadBlock bad) blocks ring marks now after tree at names places rest old new disorder h split free m k c =
    let now_is : now ≡ mark_blocks marks (data_places h.leaves) = m ∙ ap (mark_blocks marks) h.named in
    subst (BadNameLeaves blocks ring marks after tree names) (sym k.0) (
      record {
        leaves = h.leaves;
        rest = rest;
        named = split ∙ ap (λ (w : List ℕ). w ++ at ∷ rest) h.named;
        leaves_are = h.leaves_are;
        unmarked = subst (AreUnmarked ring marks) h.named free;
        wrong = λ items u is. k.1 items (subst (λ w. IsUnmarked ring w at) (sym now_is) u) is;
      },
      claimed_on ring at at marks now after (data_places h.leaves) refl now_is c,
    )

-- ---- the whole

pub index_of : (blocks : BlockBytes) (ring : ℕ) (marks : List Bool) (tree first : ℕ) (places names : List ℕ) (h : Leads blocks tree first 0 places names) → AreUnmarked ring marks places → 1 ≤ length places → IsIndexOf blocks ring marks tree first h.parts
index_of blocks ring marks tree first places names h free some = record {
  begins = h.begins;
  some = let e = ap length h.places_are in omega (arith, length-map h.parts (λ (p : IndexPart). p.at));
  chain = h.chain;
  unmarked = subst (AreUnmarked ring marks) h.places_are free;
}

module _ (blocks : BlockBytes) (ring : ℕ) (marks now : List Bool) (tree first : ℕ) (places names : List ℕ) (h : Leads blocks tree first 0 places names) (free : AreUnmarked ring marks places) (some : 1 ≤ length places) (m : now ≡ mark_blocks marks places) where
  now_is : now ≡ mark_blocks marks (index_places h.parts)
  now_is = m ∙ ap (mark_blocks marks) h.places_are

  pub bad_name : (bad : ℕ) → IsBadName blocks ring now tree names bad → IsBadData blocks ring marks tree first bad
  bad_name bad k = record {
    parts = h.parts;
    index = index_of blocks ring marks tree first places names h free some;
    leaves = k.leaves;
    rest = k.rest;
    named = sym h.names_are ∙ k.named;
    leaves_are = k.leaves_are;
    unmarked = subst (λ w. AreUnmarked ring w (data_places k.leaves)) now_is k.unmarked;
    wrong = λ items u is. k.wrong items (subst (λ w. IsUnmarked ring (mark_blocks w (data_places k.leaves)) bad) (sym now_is) u) is;
  }

  stored : (items : List PlainItem) (disorder : Option ℕ) (k : Gathers blocks tree names items disorder) → AreUnmarked ring now names → IsStored blocks ring marks tree first h.parts k.leaves
  stored items disorder k all = record {
    index = index_of blocks ring marks tree first places names h free some;
    named = sym h.names_are ∙ k.named;
    leaves_are = k.leaves_are;
    unmarked = subst (λ w. AreUnmarked ring w (data_places k.leaves)) now_is (subst (AreUnmarked ring now) k.named all);
  }

  pub bad_name_left : (bad : ℕ) (new : List Bool) → BadNameLeaves blocks ring now new tree names bad → BadDataLeaves blocks ring marks new tree first bad
  unfolding bad_name
  bad_name_left bad new k = (bad_name bad k.0, subst (λ (w : List Bool). IsClaimed ring (mark_blocks w (data_places k.0.leaves)) bad new) now_is k.1)

  pub out_of_order : (items : List PlainItem) (at : ℕ) → Gathers blocks tree names items (Some at) → AreUnmarked ring now names → EndsOrder blocks ring marks tree first at
  out_of_order items at k all = record { parts = h.parts; leaves = k.leaves; stored = stored items (Some at) k all; disordered = k.ends }

  pub out_of_order_left : (items : List PlainItem) (at : ℕ) (new : List Bool) → Gathers blocks tree names items (Some at) → AreUnmarked ring now names → new ≡ mark_blocks now names → DisorderLeaves blocks ring marks new tree first at
  unfolding out_of_order
  out_of_order_left items at new k all e = (out_of_order items at k all, e ∙ ap (mark_blocks now) k.named ∙ ap (λ (w : List Bool). mark_blocks w (data_places k.leaves)) now_is)

  pub whole_layer : (items : List PlainItem) (joined : List ℕ) → Gathers blocks tree names items None → AreUnmarked ring now names → is_ascending items ≡ true → joined ≡ places ++ names → IsWholeLayer blocks ring marks tree first joined items
  whole_layer items joined k all up e = record {
    parts = h.parts;
    leaves = k.leaves;
    stored = stored items None k all;
    places_are = e ∙ ap (λ (w : List ℕ). w ++ names) h.places_are ∙ ap (λ (w : List ℕ). index_places h.parts ++ w) k.named;
    items_are = k.items_are;
    ordered = up;
  }

  pub said_data : (e : LayerFault) (new : List Bool) → DataFound blocks ring now new tree names (Err e) → IsSaid blocks ring marks tree first (Err e)
  said_data (faults.BadBlock bad) new k = inr (bad_name bad k.0)
  said_data (faults.Order bad) new k = absurd k
  said_data faults.Device new k = tt
  said_data faults.OutOfMemory new k = tt

  pub left_data : (e : LayerFault) (new : List Bool) → DataFound blocks ring now new tree names (Err e) → LeavesMarks blocks ring marks new tree first e
  left_data (faults.BadBlock bad) new k = inr (bad_name_left bad new k)
  left_data (faults.Order bad) new k = absurd k
  left_data faults.Device new k = tt
  left_data faults.OutOfMemory new k = tt

pub said_index : (e : LayerFault) (blocks : BlockBytes) (ring : ℕ) (marks new : List Bool) (tree first : ℕ) → IndexFound blocks ring marks new tree first (Err e) → IsSaid blocks ring marks tree first (Err e)
said_index (faults.BadBlock bad) blocks ring marks new tree first k = inl k.0
said_index (faults.Order bad) blocks ring marks new tree first k = absurd k
said_index faults.Device blocks ring marks new tree first k = tt
said_index faults.OutOfMemory blocks ring marks new tree first k = tt

pub left_index : (e : LayerFault) (blocks : BlockBytes) (ring : ℕ) (marks new : List Bool) (tree first : ℕ) → IndexFound blocks ring marks new tree first (Err e) → LeavesMarks blocks ring marks new tree first e
left_index (faults.BadBlock bad) blocks ring marks new tree first k = inl k
left_index (faults.Order bad) blocks ring marks new tree first k = absurd k
left_index faults.Device blocks ring marks new tree first k = tt
left_index faults.OutOfMemory blocks ring marks new tree first k = tt

pub unmarked_both : (ring : ℕ) (marks : List Bool) (a b : List ℕ) → AreUnmarked ring marks a → AreUnmarked ring (mark_blocks marks a) b → AreUnmarked ring marks (a ++ b)
unmarked_both ring marks [] b h k = k
unmarked_both ring marks (x ∷ a) b h k = (h.0, unmarked_both ring (mark_block marks x) a b h.1 k)

-- ---- items in order

ascending_at : (xs : List PlainItem) (j : ℕ) (x y : PlainItem) → is_ascending xs ≡ true → slice_get xs j ≡ Some x → slice_get xs (suc j) ≡ Some y → may_follow x.key y.key ≡ true
ascending_at [] j x y h e f = absurd (cc)
ascending_at (a ∷ []) zero x y h e f = absurd (cc)
ascending_at (a ∷ []) (suc j) x y h e f = absurd (cc)
ascending_at (a ∷ b ∷ rest) zero x y h e f =
    let p : a ≡ x = cc in
    let q : b ≡ y = cc in
    subst (λ (z : PlainItem). may_follow z.key y.key ≡ true) p (subst (λ (z : PlainItem). may_follow a.key z.key ≡ true) q (and_parts (may_follow a.key b.key) (is_ascending (b ∷ rest)) h).0)
ascending_at (a ∷ b ∷ rest) (suc j) x y h e f = ascending_at (b ∷ rest) j x y (and_parts (may_follow a.key b.key) (is_ascending (b ∷ rest)) h).1 e f

pub ascending_apart : (tree : ℕ) (xs : List PlainItem) → All (IsOfTree tree) xs → is_ascending xs ≡ true → AllApart xs
ascending_apart tree xs all up = rising_apart xs good chain where
  good : (i : ℕ) (x : PlainItem) → slice_get xs i ≡ Some x → IsItem x
  good i x e = (subst (IsOfTree tree) (get_or_from_slice_get xs i x x e) (All-get_or (IsOfTree tree) xs i x (slice_get_within xs i x e) all)).item

  chain : IsRising xs (length xs)
  chain j x y m e f =
      let follows = ascending_at xs j x y up e (ap (slice_get xs) (let n : suc j ≡ j + 1 = omega arith in n) ∙ f) in
      le_upto (sym (follow_holds x.key y.key (good j x e).key (good (j + 1) y f).key) ∙ follows)

-- ---- the items of one more block

pub old_part : (old new slice : List Item) (more : List PlainItem) (n : ℕ) → n ≡ length old → slice ≡ new → items_of new ≡ items_of old ++ more → items_of (take n slice) ≡ items_of old
old_part old new slice more n len e f =
    ap (λ (w : List Item). items_of (take n w)) e ∙ sym (take-map item_of n new) ∙ ap (take n) f ∙ take_at (items_of old) more n (length-map old item_of ∙ sym len)

pub and_is : (a b x y : Bool) → a ≡ x → b ≡ y → (a && b) ≡ (x && y)
and_is a b x y e f = ap (λ (z : Bool). z && b) e ∙ ap (λ (z : Bool). x && z) f
