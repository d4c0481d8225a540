-- Record bytes that are appended piece by piece.
use Rattle.std.proofs.Common.{◌≡◌, ℕ, ◌+◌, ◌-◌, ◌*◌, ◌<◌, ◌≤◌, List, [], ◌∷◌, ◌++◌, length, Option, refl, sym, ◌∙◌, subst, ap, arith}
use Rattle.std.specs.Prelude.{All, sum_by}
use Rattle.std.proofs.lemmas.List.{append_assoc, append-nil, length-append}
use Rattle.std.proofs.lemmas.List.Elements.{All-push}
use Rattle.std.proofs.lemmas.List.{flat_map_more}
use Rattle.fx_pool.specs.Region.{Region, Run}
use Rattle.fx_journal.specs.Ring.{RingState, Queued, IsRing, KeepsBuffers, KeepsRest, HoldsQueue, Appended, IsFilled, first_chain, texts, begun, closes, unfinished, want, blocks_out, run_blocks}
use Rattle.fx_journal.proofs.Buffers.{others-none, others-same}
use Rattle.fx_journal.proofs.Queues.{first_chain-push}

-- `begun` is 1 exactly where there are bytes.
pub begun_most : (xs : List ℕ) → begun xs ≤ 1
begun_most [] = omega arith
begun_most (x ∷ xs) = omega arith

pub begun_len : (xs : List ℕ) → begun xs ≤ length xs
begun_len [] = omega arith
begun_len (x ∷ xs) = omega arith

pub len_begun : (xs : List ℕ) → length xs ≤ 4064 → length xs ≤ 4064 * begun xs
len_begun [] h = omega arith
len_begun (x ∷ xs) h = h

-- So far the full blocks and what is left in the unfinished one, before the bytes that are still to come.
pub record Pieces (first now : RingState) (region : Region) (queue : List Queued) (rest whole : List ℕ) : Type 0 where
  pub blocks : List Queued
  pub filled : All IsFilled blocks
  pub goes_on : first_chain blocks now.chain ≡ first.chain
  pub holds : HoldsQueue now region (queue ++ blocks)
  pub joined : texts blocks ++ (now.text ++ rest) ≡ first.text ++ whole

pub record Going (first now : RingState) (a b : Region) (rest whole : List ℕ) : Type 0 where
  pub ring : IsRing now
  pub buffers : KeepsBuffers now.buffers b
  pub buffers_same : now.buffers ≡ first.buffers
  pub out : b.out ≡ a.out
  pub others : KeepsRest first.buffers a b
  pub start : now.start ≡ first.start
  pub size : now.size ≡ first.size
  pub epoch : now.epoch ≡ first.epoch
  pub counted : 4064 * now.closed + length now.text + length rest ≡ 4064 * first.closed + length first.text + length whole
  pub queued : now.queued + first.closed ≡ first.queued + now.closed
  pub promised : now.promised + begun now.text + now.closed ≡ first.promised + begun first.text + first.closed
  pub queue : (queue : List Queued) → HoldsQueue first a queue → Pieces first now b queue rest whole

pub going-none : (first : RingState) (a : Region) (whole : List ℕ) → IsRing first → KeepsBuffers first.buffers a → Going first first a a whole whole
going-none first a whole ok kept = record {
  ring = ok;
  buffers = kept;
  buffers_same = refl;
  out = refl;
  others = others-none first.buffers a;
  start = refl;
  size = refl;
  epoch = refl;
  counted = refl;
  queued = refl;
  promised = refl;
  queue = λ queue h. record {
    blocks = [];
    filled = λ k d lt. absurd (omega arith);
    goes_on = refl;
    holds = subst (λ (l : List Queued). HoldsQueue first a l) (sym (append-nil queue)) h;
    joined = refl;
  };
}

joined-more : (blocks : List Queued) (q : Queued) (text piece later rest : List ℕ) → q.text ≡ text ++ piece → rest ≡ piece ++ later → texts (blocks ++ q ∷ []) ++ later ≡ texts blocks ++ (text ++ rest)
joined-more blocks q text piece later rest e split =
    ap (λ (l : List ℕ). l ++ later) (sym (flat_map_more (λ (b : Queued). b.text) [] blocks q))
    ∙ append_assoc (texts blocks) q.text later
    ∙ ap (λ (l : List ℕ). texts blocks ++ (l ++ later)) e
    ∙ ap (λ (l : List ℕ). texts blocks ++ l) (append_assoc text piece later)
    ∙ ap (λ (l : List ℕ). texts blocks ++ (text ++ l)) (sym split)

pieces-more : (first now : RingState) (b c : Region) (queue : List Queued) (piece later rest whole : List ℕ) → rest ≡ piece ++ later → length now.text + length piece ≡ 4064 → ((l : List Queued) → HoldsQueue now b l → HoldsQueue (closes now piece) c (l ++ unfinished now piece ∷ [])) → Pieces first now b queue rest whole → Pieces first (closes now piece) c queue later whole
pieces-more first now b c queue piece later rest whole split full step h = record {
  blocks = h.blocks ++ unfinished now piece ∷ [];
  filled = All-push IsFilled h.blocks (unfinished now piece) h.filled (length-append now.text piece ∙ full);
  goes_on = first_chain-push h.blocks (unfinished now piece) (closes now piece).chain ∙ h.goes_on;
  holds = subst (λ (l : List Queued). HoldsQueue (closes now piece) c l) (append_assoc queue h.blocks (unfinished now piece ∷ [])) (step (queue ++ h.blocks) h.holds);
  joined = joined-more h.blocks (unfinished now piece) now.text piece later rest refl split ∙ h.joined;
}

going-closes : (first now : RingState) (a b c : Region) (piece later rest whole : List ℕ) → Going first now a b rest whole → rest ≡ piece ++ later → length now.text + length piece ≡ 4064 → 1 ≤ begun now.text + now.promised → c.out ≡ b.out → KeepsRest now.buffers b c → IsRing (closes now piece) → KeepsBuffers (closes now piece).buffers c → ((l : List Queued) → HoldsQueue now b l → HoldsQueue (closes now piece) c (l ++ unfinished now piece ∷ [])) → Going first (closes now piece) a c later whole
going-closes first now a b c piece later rest whole h split full has out others ok kept step = record {
  ring = ok;
  buffers = kept;
  buffers_same = h.buffers_same;
  out = out ∙ h.out;
  others = others-same first.buffers a b c h.others (subst (λ (l : List Run). KeepsRest l b c) h.buffers_same others);
  start = h.start;
  size = h.size;
  epoch = h.epoch;
  counted = omega (arith, h.counted, full, ap length split, length-append piece later);
  queued = omega (arith, h.queued);
  promised = omega (arith, h.promised, has);
  queue = λ queue held. pieces-more first now b c queue piece later rest whole split full step (h.queue queue held);
}

-- One more full block.
pub going-more : (first now next : RingState) (a b c : Region) (piece later rest whole : List ℕ) → Going first now a b rest whole → rest ≡ piece ++ later → length now.text + length piece ≡ 4064 → 1 ≤ begun now.text + now.promised → c.out ≡ b.out → KeepsRest now.buffers b c → next ≡ closes now piece → IsRing next → KeepsBuffers next.buffers c → ((l : List Queued) → HoldsQueue now b l → HoldsQueue next c (l ++ unfinished now piece ∷ [])) → Going first next a c later whole
going-more first now next a b c piece later rest whole h split full has out others e =
    subst (λ (n : RingState). IsRing n → KeepsBuffers n.buffers c → ((l : List Queued) → HoldsQueue now b l → HoldsQueue n c (l ++ unfinished now piece ∷ [])) → Going first n a c later whole) (sym e)
    (going-closes first now a b c piece later rest whole h split full has out others)

-- A promised block is there where bytes are still to come.
pub promise_left : (first now : RingState) (a b : Region) (rest whole : List ℕ) → Going first now a b rest whole → IsRing first → want (length whole) ≤ first.promised → 1 ≤ length rest → 1 ≤ begun now.text + now.promised
promise_left first now a b rest whole h ok enough some =
    omega (arith, h.counted, h.promised, enough, some, ok.unfinished_room, begun_most first.text, begun_len first.text, begun_most now.text, begun_len now.text, len_begun first.text (omega (arith, ok.unfinished_room)), len_begun now.text (omega (arith, h.ring.unfinished_room)))

pub promise_rest : (first now : RingState) (a b : Region) (rest whole : List ℕ) → Going first now a b rest whole → IsRing first → want (length whole) ≤ first.promised → length now.text + length rest < 4064 → begun rest ≤ begun now.text + now.promised
promise_rest first now a b rest whole h ok enough room =
    omega (arith, h.counted, h.promised, enough, room, ok.unfinished_room, begun_most rest, begun_len rest, begun_most first.text, begun_len first.text, begun_most now.text, begun_len now.text, len_begun first.text (omega (arith, ok.unfinished_room)), len_begun now.text (omega (arith, h.ring.unfinished_room)))

-- What is left of the promise is still there at the end.
pub promise_stays : (first now : RingState) (a b : Region) (rest whole : List ℕ) → Going first now a b rest whole → IsRing first → want (length whole) ≤ first.promised → length now.text + length rest < 4064 → first.promised - want (length whole) ≤ now.promised + begun now.text - begun (now.text ++ rest)
promise_stays first now a b rest whole h ok enough room =
    let len : length (now.text ++ rest) ≡ length now.text + length rest = length-append now.text rest in
    omega (arith, len, h.counted, h.promised, enough, room, ok.unfinished_room, begun_most (now.text ++ rest), begun_len (now.text ++ rest), len_begun (now.text ++ rest) (omega (arith, len, room)), begun_most first.text, begun_len first.text, len_begun first.text (omega (arith, ok.unfinished_room)))

-- The last bytes begin a block, and what is left of the promise goes back.
abbrev begins : RingState → List ℕ → RingState
begins now rest = record now { text = now.text ++ rest; promised = now.promised + begun now.text - begun (now.text ++ rest) }

abbrev gives : RingState → ℕ → List Run → RingState
gives ring unused buffers = record ring { promised = ring.promised - unused; buffers = buffers }

pub ends-queue : (first now begun_ring last : RingState) (a b c : Region) (rest whole : List ℕ) (unused : ℕ) → Going first now a b rest whole → begun_ring ≡ begins now rest → last ≡ gives begun_ring unused last.buffers → ((queue : List Queued) → HoldsQueue begun_ring b queue → HoldsQueue last c queue) → (queue : List Queued) → HoldsQueue first a queue → Appended first last c queue whole
ends-queue first now begun_ring last a b c rest whole unused h e f step queue held =
    let p : Pieces first now b queue rest whole = h.queue queue held in
    let same : HoldsQueue (begins now rest) b (queue ++ p.blocks) = record { count = p.holds.count; linked = p.holds.linked; held = p.holds.held } in
    record {
      blocks = p.blocks;
      filled = p.filled;
      goes_on = ap (λ (r : RingState). first_chain p.blocks r.chain) f ∙ ap (λ (r : RingState). first_chain p.blocks r.chain) e ∙ p.goes_on;
      holds = step (queue ++ p.blocks) (subst (λ (r : RingState). HoldsQueue r b (queue ++ p.blocks)) (sym e) same);
      joined = ap (λ (t : List ℕ). texts p.blocks ++ t) (ap (λ (r : RingState). r.text) f ∙ ap (λ (r : RingState). r.text) e) ∙ p.joined;
    }

pub ends-given : (first now begun_ring last : RingState) (a b c : Region) (rest whole : List ℕ) (unused : ℕ) → Going first now a b rest whole → IsRing first → IsRing begun_ring → IsRing last → begun_ring ≡ begins now rest → last ≡ gives begun_ring unused last.buffers → unused ≤ begun_ring.promised → blocks_out c + unused ≡ blocks_out b → blocks_out c + length first.buffers ≡ blocks_out a + length last.buffers
ends-given first now begun_ring last a b c rest whole unused h ok_first ok_begun ok_last e f few given =
    let same : length begun_ring.buffers ≡ length first.buffers = ap (λ (r : RingState). length r.buffers) e ∙ ap length h.buffers_same in
    let out : blocks_out b ≡ blocks_out a = ap (λ (t : List (Option ℕ)). sum_by run_blocks t) h.out in
    omega (arith, same, out, given, few, ok_begun.buffers_len, ok_last.buffers_len, ap (λ (r : RingState). r.promised) f, ap (λ (r : RingState). r.queued) f, ap (λ (r : RingState). begun r.text) f)

pub ends-others : (first now begun_ring : RingState) (a b c : Region) (rest whole : List ℕ) → Going first now a b rest whole → begun_ring ≡ begins now rest → KeepsRest begun_ring.buffers b c → KeepsRest first.buffers a c
ends-others first now begun_ring a b c rest whole h e others =
    others-same first.buffers a b c h.others (subst (λ (l : List Run). KeepsRest l b c) (ap (λ (r : RingState). r.buffers) e ∙ h.buffers_same) others)
