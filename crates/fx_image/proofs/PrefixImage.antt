-- What an image stands for in which the journal has a cut stream.
use Rattle.std.proofs.Common.{◌≡◌, ℕ, zero, suc, ◌+◌, ◌^◌, ◌≤◌, ◌<◌, List, [], ◌∷◌, ◌++◌, length, take, drop, map, refl, sym, subst, ◌∙◌, ap, arith, append_assoc, inl, inr}
use Rattle.std.specs.Prelude.{None, Some, slice_get}
use Rattle.std.specs.List.{fold, concat}
use Rattle.std.proofs.lemmas.List.{length-append, map-append, take-append-drop, length-take}
use Rattle.std.proofs.Math.Seq.{drop-length}
use Rattle.std.proofs.lemmas.Bool.{cases_lt}
use Rattle.std.proofs.lemmas.List.Concat.{flat_map-append}
use Rattle.std.proofs.lemmas.List.Elements.{All-nil, All-cons}
use Rattle.std.proofs.lemmas.List.Sums.{fold-append}
use Rattle.fx_item.specs.Item.{PlainItem}
use Rattle.fx_item.specs.Look.{after_all, next_id, next_store, next_id_after, next_store_after}
use Rattle.fx_namespace.proofs.Items.{next_id_after-least, next_store_after-least}
use Rattle.fx_jblock.specs.declared.Start.{Start}
use Rattle.fx_journal.specs.declared.stream.StreamBlock.{StreamBlock}
use Rattle.fx_journal.specs.Stream.{IsSeries, place_after}
use Rattle.fx_journal.specs.Ring.{Queued, texts}
use Rattle.fx_record.specs.Commits.{blocks_of, AreBefore, CutsCommits, commits_bytes, numbered}
use Rattle.fx_record.specs.Txns.{IsTxns}
use Rattle.fx_record.proofs.Commits.{length-numbered, map-numbered}
use Rattle.fx_record.proofs.Sessions.{stopped_session}
use Rattle.fx_plain.specs.Bare.{bare}
use Rattle.fx_history.specs.declared.entry.Entry.{Entry}
use Rattle.fx_history.specs.History.{tree_at}
use Rattle.fx_super.specs.Super.{Fields}
use Rattle.fx_image.specs.Standing.{Transactions, StandsFor, IsImage, HasSessionRoom, HasAmpleRoom, kept, items_after, lists_of, stream_pieces}
use Rattle.fx_log.specs.Ring.{as_stream}
use Rattle.fx_log.specs.Chosen.{start_of}
use Rattle.fx_supers.specs.Shown.{ShowsCut, ShowsRun}
use Rattle.fx_image.specs.Prefix.{IsPrefix, HasWholeHistory}
use Rattle.fx_image.specs.Journal.{Journal, IsJournal, max_given}

-- ---- texts

abbrev pub text_of : Queued → List ℕ
text_of q = q.text

pub texts-are : (blocks : List Queued) → texts blocks ≡ concat (map text_of blocks)
texts-are [] = refl
texts-are (q ∷ qs) = ap (λ (w : List ℕ). q.text ++ w) (texts-are qs)

-- the closed blocks as pieces of one epoch
pub pieces-closed : (epoch : ℕ) (blocks : List Queued) → stream_pieces (as_stream epoch blocks) ≡ blocks_of epoch (map text_of blocks)
pieces-closed epoch [] = refl
pieces-closed epoch (q ∷ qs) = ap (λ (w : List (ℕ × List ℕ)). (epoch, q.text) ∷ w) (pieces-closed epoch qs)

pub pieces-joined : (xs ys : List StreamBlock) → stream_pieces (xs ++ ys) ≡ stream_pieces xs ++ stream_pieces ys
pieces-joined xs ys = map-append (λ (b : StreamBlock). (b.epoch, b.records)) xs ys

pub pieces-before : (generation : ℕ) (start next : Start) (blocks : List StreamBlock) → IsSeries generation start blocks next → AreBefore (generation + 1) (stream_pieces blocks)
pieces-before generation start next [] h = All-nil (λ (b : ℕ × List ℕ). b.0 < generation + 1)
pieces-before generation start next (b ∷ bs) h =
    let most : b.epoch ≤ generation = h.0.most in
    let here : b.epoch < generation + 1 = omega arith in
    All-cons (λ (p : ℕ × List ℕ). p.0 < generation + 1) (b.epoch, b.records) (stream_pieces bs) here (pieces-before generation (place_after start b) next bs h.1)

-- the texts of fewer blocks are no longer
pub texts-fewer : (blocks : List Queued) (m n : ℕ) → m ≤ n → length (texts (take m blocks)) ≤ length (texts (take n blocks))
texts-fewer [] zero zero le = omega arith
texts-fewer [] zero (suc n) le = omega arith
texts-fewer [] (suc m) zero le = absurd (omega arith)
texts-fewer [] (suc m) (suc n) le = omega arith
texts-fewer (q ∷ qs) zero n le = omega arith
texts-fewer (q ∷ qs) (suc m) zero le = absurd (omega arith)
texts-fewer (q ∷ qs) (suc m) (suc n) le =
    omega (arith, texts-fewer qs m n (omega arith), length-append q.text (texts (take m qs)), length-append q.text (texts (take n qs)))

pub texts-split : (n : ℕ) (blocks : List Queued) → texts blocks ≡ texts (take n blocks) ++ texts (drop n blocks)
texts-split n blocks = ap texts (sym (take-append-drop n blocks)) ∙ flat_map-append text_of (take n blocks) (drop n blocks)

-- ---- room

ids-fewer : (next k : ℕ) (old lists : List (List PlainItem)) → next_id_after next (old ++ take k lists) ≤ next_id_after next (old ++ lists)
ids-fewer next k old lists =
    let n : ℕ = next_id_after next (old ++ take k lists) in
    let split : next_id_after next (old ++ lists) ≡ next_id_after n (drop k lists) =
    fold-append next_id next old lists
    ∙ ap (fold next_id (fold next_id next old)) (sym (take-append-drop k lists))
    ∙ fold-append next_id (fold next_id next old) (take k lists) (drop k lists)
    ∙ ap (λ (m : ℕ). fold next_id m (drop k lists)) (sym (fold-append next_id next old (take k lists))) in
    omega (arith, split, next_id_after-least n (drop k lists))

stores-fewer : (next k : ℕ) (old lists : List (List PlainItem)) → next_store_after next (old ++ take k lists) ≤ next_store_after next (old ++ lists)
stores-fewer next k old lists =
    let n : ℕ = next_store_after next (old ++ take k lists) in
    let split : next_store_after next (old ++ lists) ≡ next_store_after n (drop k lists) =
    fold-append next_store next old lists
    ∙ ap (fold next_store (fold next_store next old)) (sym (take-append-drop k lists))
    ∙ fold-append next_store (fold next_store next old) (take k lists) (drop k lists)
    ∙ ap (λ (m : ℕ). fold next_store m (drop k lists)) (sym (fold-append next_store next old (take k lists))) in
    omega (arith, split, next_store_after-least n (drop k lists))

-- ---- the image

-- the superblock under another generation
abbrev pub under : Fields → ℕ → Fields
under f n = record f { generation = n }

pub room-left : (f : Fields) (n : ℕ) (txns now : Transactions) (more k : ℕ) (records : List (List PlainItem)) → n ≤ f.generation + 1 → lists_of now ≡ lists_of txns ++ take k records → kept f now ≤ kept f txns + more → more ≤ 2 ^ 20
    → next_id_after f.next_id (lists_of txns ++ records) ≤ next_id_after f.next_id (lists_of txns) + max_given
    → next_store_after f.next_store (lists_of txns ++ records) ≤ next_store_after f.next_store (lists_of txns) + max_given
    → HasAmpleRoom f txns → HasSessionRoom (under f n) now
room-left f n txns now more k records next lists few short ids stores h =
    let mine : next_id_after f.next_id (lists_of now) ≤ next_id_after f.next_id (lists_of txns) + max_given =
    omega (arith, ap (next_id_after f.next_id) lists, ids-fewer f.next_id k (lists_of txns) records) in
    let own : next_store_after f.next_store (lists_of now) ≤ next_store_after f.next_store (lists_of txns) + max_given =
    omega (arith, ap (next_store_after f.next_store) lists, stores-fewer f.next_store k (lists_of txns) records) in
    record {
      generations = omega (arith, next, h.generations);
      sequences = omega (arith, h.sequences);
      commits = omega (arith, few, short, h.commits);
      ids_left = omega (arith, h.ids_left);
      stores_left = omega (arith, h.stores_left);
    }

-- An image with the superblock that was read, under this generation, and the first of the closed blocks.
module _ (j : Journal) (calls : ℕ) (h : IsJournal j calls) (image : List (List ℕ)) (n : ℕ) (next : n ≤ j.log.head.super.generation + 1) (shows : ShowsCut j.log image (record { super = under j.log.head.super n; origin = None })) where
  abbrev s : ShowsRun image j.log.head.super.ring (j.log.head.super.generation + 1) n (start_of j.log.head.super) j.log.head.read j.log.tail.blocks 0 j.log.tail.settled
  s = shows.run

  abbrev last : ℕ
  last = kept j.log.head.super j.opening.txns

  abbrev stood : List Queued
  stood = take s.count j.log.tail.blocks

  abbrev rest : List ℕ
  rest = texts (drop s.count j.log.tail.blocks) ++ j.log.tail.text

  joined : concat (map text_of stood) ++ rest ≡ commits_bytes last j.commits.records
  joined =
      ap (λ (w : List ℕ). w ++ rest) (sym (texts-are stood))
      ∙ sym (append_assoc (texts stood) (texts (drop s.count j.log.tail.blocks)) j.log.tail.text)
      ∙ ap (λ (w : List ℕ). w ++ j.log.tail.text) (sym (texts-split s.count j.log.tail.blocks))
      ∙ h.records.joined
      ∙ ap (λ (n : ℕ). commits_bytes n j.commits.records) (sym h.reading.base_is)

  -- the commits whose records stand there
  stopped : (count : ℕ) × CutsCommits last j.commits.records (concat (map text_of stood)) count
      × IsTxns j.log.head.super.base (stream_pieces j.log.head.read ++ blocks_of (j.log.head.super.generation + 1) (map text_of stood)) (j.opening.txns ++ numbered last (take count j.commits.records))
      × (rest ≡ [] → count ≡ length j.commits.records)
  stopped =
      let fits : last + length j.commits.records < 2 ^ 64 = omega (arith, h.reading.room.commits, h.replays.one_each, h.few.few) in
      stopped_session j.log.head.super.base (j.log.head.super.generation + 1) (stream_pieces j.log.head.read) j.opening.txns j.commits.records (map text_of stood) rest h.reading.txns_are
      (pieces-before j.log.head.super.generation (start_of j.log.head.super) j.log.head.place j.log.head.read h.reading.head.series) fits h.records.each joined

  abbrev now : Transactions
  now = j.opening.txns ++ numbered last (take stopped.0 j.commits.records)

  lists-now : lists_of now ≡ lists_of j.opening.txns ++ take stopped.0 j.commits.records
  lists-now = map-append (λ (t : ℕ × List PlainItem). t.1) j.opening.txns (numbered last (take stopped.0 j.commits.records)) ∙ ap (λ (w : List (List PlainItem)). lists_of j.opening.txns ++ w) (map-numbered last (take stopped.0 j.commits.records))

  kept-now : kept (under j.log.head.super n) now ≡ j.opening.base + stopped.0
  kept-now = omega (arith, length-append j.opening.txns (numbered last (take stopped.0 j.commits.records)), length-numbered last (take stopped.0 j.commits.records), length-take stopped.0 j.commits.records, stopped.1.most, h.reading.base_is)

  stands-now : StandsFor (items_after now) (bare (tree_at j.opening.tree j.commits.history (kept (under j.log.head.super n) now)))
  stands-now =
      subst (λ (n : ℕ). StandsFor (items_after now) (bare (tree_at j.opening.tree j.commits.history n))) (sym kept-now)
      (subst (λ (lists : List (List PlainItem)). StandsFor (after_all lists) (bare (tree_at j.opening.tree j.commits.history (j.opening.base + stopped.0)))) (sym lists-now)
      (h.replays.stands stopped.0 stopped.1.most))

  image-now : IsImage j.log.size image (under j.log.head.super n) now (bare (tree_at j.opening.tree j.commits.history (kept (under j.log.head.super n) now)))
  image-now = record {
    chosen = shows.chosen;
    blocks = h.reading.head.blocks;
    layers = h.reading.layers;
    stream = j.log.head.read ++ as_stream (j.log.head.super.generation + 1) stood;
    next = s.next;
    stream_is = s.stream;
    txns_are = subst (λ (w : List (ℕ × List ℕ)). IsTxns j.log.head.super.base w now)
        (sym (pieces-joined j.log.head.read (as_stream (j.log.head.super.generation + 1) stood) ∙ ap (λ (w : List (ℕ × List ℕ)). stream_pieces j.log.head.read ++ w) (pieces-closed (j.log.head.super.generation + 1) stood)))
        stopped.2;
    stands = stands-now;
  }

  -- the settled commits stand there
  marks-stand : j.commits.marks ≤ stopped.0
  marks-stand =
      let few : length (texts (take j.log.tail.settled j.log.tail.blocks)) ≤ length (texts stood) = texts-fewer j.log.tail.blocks j.log.tail.settled s.count (omega (arith, s.least)) in
      let short : length (commits_bytes last (take j.commits.marks j.commits.records)) ≤ length (concat (map text_of stood)) =
      omega (arith, few, h.marked.whole, ap length (texts-are stood), ap (λ (n : ℕ). length (commits_bytes n (take j.commits.marks j.commits.records))) h.reading.base_is) in
      stopped.1.whole j.commits.marks (omega (arith, h.marked.few, h.replays.one_each)) short

  settled-stand : (i : ℕ) (entry : Entry) → slice_get j.commits.history i ≡ Some entry → 1 ≤ entry.settled → entry.number ≤ kept (under j.log.head.super n) now
  settled-stand i entry got some =
      let number : entry.number ≡ j.opening.base + i + 1 = h.legal.numbered i entry got in
      let early : i < j.commits.marks = elim (cases_lt i j.commits.marks) [ inl lt ↦ lt | inr late ↦ absurd (omega (arith, some, h.marked.first.after i entry got late)) ] in
      omega (arith, number, kept-now, marks-stand)

  pub prefix-at : (m : ℕ) → IsPrefix j.log.size (HasAmpleRoom j.log.head.super j.opening.txns) j.opening.tree j.opening.base j.commits.history m image
  prefix-at m = record {
    super = under j.log.head.super n;
    txns = now;
    least = omega (arith, kept-now);
    most = omega (arith, kept-now, stopped.1.most, h.replays.one_each);
    settled = λ i entry got some by. settled-stand i entry got some;
    image_is = image-now;
    room = λ ample. room-left j.log.head.super n j.opening.txns now (length j.commits.history) stopped.0 j.commits.records next lists-now
        (omega (arith, kept-now, h.reading.base_is, stopped.1.most, h.replays.one_each)) h.few.few h.few.ids h.few.stores ample;
  }

  -- where all is settled, the image has all of the history
  pub whole-at : j.log.tail.settled ≡ length j.log.tail.blocks → j.log.tail.text ≡ [] → HasWholeHistory j.log.size j.opening.tree j.opening.base j.commits.history image
  whole-at all none =
      let count : s.count ≡ length j.log.tail.blocks = omega (arith, s.least, s.within, all) in
      let past : drop s.count j.log.tail.blocks ≡ [] = ap (λ (n : ℕ). drop n j.log.tail.blocks) count ∙ drop-length j.log.tail.blocks in
      let ends : rest ≡ [] = ap (λ (qs : List Queued). texts qs ++ j.log.tail.text) past ∙ none in
      let every : kept (under j.log.head.super n) now ≡ j.opening.base + length j.commits.history = omega (arith, kept-now, stopped.3 ends, h.replays.one_each) in
      record {
        super = under j.log.head.super n;
        txns = now;
        kept_is = every;
        image_is = subst (λ (k : ℕ). IsImage j.log.size image (under j.log.head.super n) now (bare (tree_at j.opening.tree j.commits.history k))) every image-now;
      }
