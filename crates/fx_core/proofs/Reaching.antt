-- Which commits lie in how many blocks, over what happens to the ring.
use Rattle.std.proofs.Common.{◌≡◌, inl, inr, ℕ, ◌+◌, ◌≤◌, List, [], ◌∷◌, ◌++◌, length, length-append, take, drop, sym, ap, ◌∙◌, append_assoc, arith}
use Rattle.std.specs.Prelude.{All, get_or, max, Some}
use Rattle.std.proofs.Common.{take_all}
use Rattle.std.proofs.lemmas.List.{length-drop, take-append-le}
use Rattle.std.proofs.lemmas.Bool.{cases_lt}
use Rattle.fx_item.specs.Item.{PlainItem}
use Rattle.fx_disk.specs.Seen.{DiskSeen}
use Rattle.fx_journal.specs.Ring.{Queued, begun, texts}
use Rattle.fx_record.specs.Commits.{commits_bytes}
use Rattle.fx_record.proofs.Commits.{commits_bytes-append}
use Rattle.std.proofs.lemmas.List.{take-append-drop}
use Rattle.fx_supers.specs.Supers.{Origin, SuperCut}
use Rattle.fx_supers.specs.SessionLog.{first_in, read_in}
use Rattle.fx_image.specs.Journal.{AreWritten, Journal}
use Rattle.fx_image.specs.Mounted.{IsMounted}
use Rattle.fx_core.specs.Tail.{TailState, reach}
use Rattle.fx_core.specs.Inside.{HoldsReached, since_mount}

-- ---- lengths

pub commits_fewer : (base n : ℕ) (records : List (List PlainItem)) → length (commits_bytes base (take n records)) ≤ length (commits_bytes base records)
commits_fewer base n records = omega (
  arith,
  ap (λ (rs : List (List PlainItem)). length (commits_bytes base rs)) (sym (take-append-drop n records)),
  ap length (commits_bytes-append base (take n records) (drop n records)),
  length-append (commits_bytes base (take n records)) (commits_bytes (base + length (take n records)) (drop n records)),
)

texts_push : (blocks : List Queued) (q : Queued) → length (texts (blocks ++ q ∷ [])) ≡ length (texts blocks) + length q.text
texts_push [] q = omega (arith, length-append q.text [])
texts_push (b ∷ blocks) q = omega (arith, texts_push blocks q, length-append b.text (texts (blocks ++ q ∷ [])), length-append b.text (texts blocks))

-- the first block that is closed takes what the unfinished one held
abbrev pub TakesText : List ℕ → List Queued → Type 0
TakesText text [] = Unit {0}
TakesText text (q ∷ qs) = length text ≤ length q.text

pub texts_first : (blocks closed : List Queued) (text : List ℕ) → 1 ≤ length closed → TakesText text closed → length (texts blocks) + length text ≤ length (texts (take (length blocks + 1) (blocks ++ closed)))
texts_first blocks [] text some takes = absurd (omega (arith, some))
texts_first blocks (q ∷ qs) text some takes =
    let long : length (blocks ++ q ∷ []) ≡ length blocks + 1 = length-append blocks (q ∷ []) in
    let one : take (length blocks + 1) (blocks ++ q ∷ qs) ≡ blocks ++ q ∷ [] =
    ap (take (length blocks + 1)) (sym (append_assoc blocks (q ∷ []) qs))
    ∙ take-append-le (length blocks + 1) (blocks ++ q ∷ []) qs (omega (arith, long))
    ∙ take_all (length blocks + 1) (blocks ++ q ∷ []) (omega (arith, long)) in
    omega (arith, ap (λ (xs : List Queued). length (texts xs)) one, texts_push blocks q, takes)

-- ---- the ring and the journal count alike

module _ (j : Journal) (seen : DiskSeen) (t : TailState) (m : IsMounted j seen t.ring t.pool) where
  no_origin : j.log.supers.current.origin ≡ Rattle.std.specs.Prelude.None
  no_origin = ap (λ (c : SuperCut). c.origin) m.journal.uncut.current.same

  pub closed_is : t.ring.closed ≡ length j.log.head.read + length j.log.tail.blocks
  closed_is = omega (arith, m.ring_is.closed, ap first_in no_origin, ap (λ (o : Origin). length (read_in j.log.head o)) no_origin)

  pub waits : t.ring.queued + j.log.tail.written ≡ length j.log.tail.blocks
  waits = omega (arith, m.ring_is.queue.count, length-drop j.log.tail.written j.log.tail.blocks, m.journal.log.most)

  pub written_so : t.written + t.ring.queued ≡ t.ring.closed → t.written ≡ length j.log.head.read + j.log.tail.written
  written_so e = omega (arith, e, closed_is, waits)

-- ---- nothing moves

pub reached_same : (j : Journal) (t u : TailState) → HoldsReached j t → u.done ≡ t.done → u.reached ≡ t.reached → u.written ≡ t.written → u.ring.closed ≡ t.ring.closed → u.ring.text ≡ t.ring.text → HoldsReached j u
reached_same j t u h done reached written closed text = record {
  count = h.count;
  done_is = done ∙ h.done_is;
  whole = h.whole;
  known = λ k i e. h.known k i (ap (λ (xs : List ℕ). get_or xs k 0) (sym reached) ∙ e);
  lies = λ k i e le. h.lies k i (ap (λ (xs : List ℕ). get_or xs k 0) (sym reached) ∙ e) (omega (arith, le, closed));
  ahead = λ k l. ap (λ (xs : List ℕ). get_or xs k 0) reached ∙ h.ahead k (omega (arith, l, closed, ap begun text));
  last = elim h.last [
    | inl all ↦ inl (done ∙ all)
    | inr p ↦ inr (p.0, omega (arith, p.1, written), omega (arith, p.2, closed, ap begun text), ap (λ (xs : List ℕ). get_or xs p.0 0) reached ∙ p.3)
  ];
}

-- ---- blocks are closed

module _ (j : Journal) (seen : DiskSeen) (t : TailState) (m : IsMounted j seen t.ring t.pool) (h : HoldsReached j t) (closed : List Queued) (takes : TakesText j.log.tail.text closed) where
  abbrev long : List Queued
  long = j.log.tail.blocks ++ closed

  all_there : length (commits_bytes j.opening.base j.commits.records) ≡ length (texts j.log.tail.blocks) + length j.log.tail.text
  all_there = omega (arith, ap length m.journal.records.joined, length-append (texts j.log.tail.blocks) j.log.tail.text)

  -- what was noted lies in the blocks
  pub lies_long : (k i : ℕ) → get_or t.reached k 0 ≡ j.opening.base + i + 1 → k ≤ t.ring.closed + length closed → length (commits_bytes j.opening.base (take (i + 1) j.commits.records)) ≤ length (texts (take (since_mount j k) long))
  lies_long k i e le = elim (cases_lt t.ring.closed k) [
    | inr low ↦ (let l = h.lies k i e (omega (arith, low)) in
        omega (arith, l.whole, ap (λ (xs : List Queued). length (texts xs)) (take-append-le (since_mount j k) j.log.tail.blocks closed (omega (arith, low, closed_is j seen t m)))))
    | inl high ↦ elim (cases_lt (reach t.ring) k) [
      | inl past ↦ absurd (omega (arith, h.ahead k past, e))
      | inr near ↦ (
          let place : since_mount j k ≡ length j.log.tail.blocks + 1 = omega (arith, high, near, closed_is j seen t m, begun_most t.ring.text) in
          let first = texts_first j.log.tail.blocks closed j.log.tail.text (omega (arith, high, le)) takes in
          omega (arith, commits_fewer j.opening.base (i + 1) j.commits.records, all_there, first, ap (λ n. length (texts (take n long))) place))
    ]
  ]
    where
      begun_most : (text : List ℕ) → begun text ≤ 1
      begun_most [] = omega arith
      begun_most (x ∷ xs) = omega arith

-- the commits that lie in what is written still do
pub written_longer : (j : Journal) (count : ℕ) (closed : List Queued) → j.log.tail.written ≤ length j.log.tail.blocks → AreWritten j count → length (commits_bytes j.opening.base (take count j.commits.records)) ≤ length (texts (take j.log.tail.written (j.log.tail.blocks ++ closed)))
written_longer j count closed le w = omega (arith, w.whole, ap (λ (xs : List Queued). length (texts xs)) (take-append-le j.log.tail.written j.log.tail.blocks closed le))
