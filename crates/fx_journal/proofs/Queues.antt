-- The queue over the steps of the ring.
use Rattle.std.proofs.Common.{◌≡◌, ◌≢◌, ℕ, suc, zero, ◌+◌, ◌-◌, ◌*◌, ◌^◌, ◌<◌, ◌≤◌, List, [], ◌∷◌, ◌++◌, length, take, drop, get_or, refl, sym, ◌∙◌, subst, ap, arith}
use Rattle.std.proofs.lemmas.List.{length-append, length_push, length-drop, length-take, get_or-take}
use Rattle.fx_jblock.specs.Block.{Holds}
use Rattle.fx_jblock.specs.declared.Start.{Start}
use Rattle.fx_pool.specs.Region.{Region, Run, IsOut, bytes_of}
use Rattle.fx_journal.specs.Ring.{RingState, Queued, run_at, AreHeld, IsLinked, HoldsQueue, first_chain, chain_after, number, next_place, first_place, unfinished, freed_queued, IsRing, KeepsBuffers}

-- blocks that are held by other buffers, or in another region, with the same bytes
pub held-same : (a b : Region) (epoch : ℕ) (runs more : List Run) (queue : List Queued) → length queue ≤ length more → ((i : ℕ) → i < length queue → bytes_of b (run_at more i) ≡ bytes_of a (run_at runs i)) → AreHeld a epoch runs queue → AreHeld b epoch more queue
held-same a b epoch runs more [] le same h = tt
held-same a b epoch [] more (q ∷ qs) le same h = absurd h
held-same a b epoch (run ∷ runs) [] (q ∷ qs) le same h = absurd (omega arith)
held-same a b epoch (run ∷ runs) (other ∷ more) (q ∷ qs) le same h = (
  subst (λ (bytes : List ℕ). Holds bytes q.sequence epoch q.chain q.text) (sym (same 0 (omega arith))) h.0,
  held-same a b epoch runs more qs (omega arith) (λ i lt. same (suc i) (omega arith)) h.1,
)

pub held-push : (p : Region) (epoch : ℕ) (runs : List Run) (queue : List Queued) (q : Queued) → length queue < length runs → AreHeld p epoch runs queue → Holds (bytes_of p (run_at runs (length queue))) q.sequence epoch q.chain q.text → AreHeld p epoch runs (queue ++ q ∷ [])
held-push p epoch [] [] q lt h last = absurd (omega arith)
held-push p epoch (run ∷ runs) [] q lt h last = (last, tt)
held-push p epoch [] (x ∷ xs) q lt h last = absurd h
held-push p epoch (run ∷ runs) (x ∷ xs) q lt h last = (h.0, held-push p epoch runs xs q (omega arith) h.1 last)

pub held-drop : (p : Region) (epoch : ℕ) (k : ℕ) (runs : List Run) (queue : List Queued) → AreHeld p epoch runs queue → AreHeld p epoch (drop k runs) (drop k queue)
held-drop p epoch zero runs queue h = h
held-drop p epoch (suc k) [] [] h = tt
held-drop p epoch (suc k) (run ∷ runs) [] h = tt
held-drop p epoch (suc k) [] (q ∷ qs) h = absurd h
held-drop p epoch (suc k) (run ∷ runs) (q ∷ qs) h = held-drop p epoch k runs qs h.1

pub first_chain-push : (queue : List Queued) (q : Queued) (chain : ℕ) → first_chain (queue ++ q ∷ []) chain ≡ first_chain queue q.chain
first_chain-push [] q chain = refl
first_chain-push (x ∷ xs) q chain = refl

pub linked-push : (epoch place : ℕ) (queue : List Queued) (q : Queued) → IsLinked epoch place queue q.chain → q.sequence ≡ number (place + length queue) → IsLinked epoch place (queue ++ q ∷ []) (chain_after epoch q)
linked-push epoch place [] q h e = (e ∙ ap number (omega arith), refl, tt)
linked-push epoch place (x ∷ xs) q h e = (
  h.0,
  first_chain-push xs q (chain_after epoch q) ∙ h.1,
  linked-push epoch (place + 1) xs q h.2 (e ∙ ap number (omega arith)),
)

pub linked-drop : (epoch : ℕ) (k place : ℕ) (queue : List Queued) (chain : ℕ) → IsLinked epoch place queue chain → k ≤ length queue → IsLinked epoch (place + k) (drop k queue) chain
linked-drop epoch zero place queue chain h le = subst (λ (n : ℕ). IsLinked epoch n queue chain) (omega arith) h
linked-drop epoch (suc k) place [] chain h le = tt
linked-drop epoch (suc k) place (x ∷ xs) chain h le =
    let e : place + 1 + k ≡ place + suc k = omega arith in
    subst (λ (n : ℕ). IsLinked epoch n (drop k xs) chain) e (linked-drop epoch k (place + 1) xs chain h.2 (omega arith))

-- The unfinished block is closed, and packed into the first buffer past the queue.
pub holds-closes : (ring : RingState) (piece text : List ℕ) (chain promised : ℕ) (a b : Region) (buffer : Run) → IsRing ring → KeepsBuffers ring.buffers a → chain ≡ chain_after ring.epoch (unfinished ring piece) → ring.queued < length ring.buffers → buffer ≡ run_at ring.buffers ring.queued → Holds (bytes_of b buffer) (number (next_place ring)) ring.epoch ring.chain (ring.text ++ piece) → ((run : Run) → IsOut a run → run.start ≢ buffer.start → bytes_of b run ≡ bytes_of a run) → (queue : List Queued) → HoldsQueue ring a queue → HoldsQueue (record { start = ring.start; size = ring.size; epoch = ring.epoch; closed = ring.closed + 1; chain = chain; text = text; promised = promised; queued = ring.queued + 1; buffers = ring.buffers }) b (queue ++ unfinished ring piece ∷ [])
holds-closes ring piece text chain promised a b buffer ok kept after room e packed others queue h =
    let few : length queue < length ring.buffers = omega (arith, h.count, room) in
    let at : run_at ring.buffers (length queue) ≡ buffer = ap (run_at ring.buffers) h.count ∙ sym e in
    let place : first_place ring + length queue ≡ next_place ring = omega (arith, h.count, ok.waiting) in
    let from : first_place ring ≡ ring.start.sequence + (ring.closed + 1) - (ring.queued + 1) = omega arith in
    let others_stay : AreHeld b ring.epoch ring.buffers queue = held-same a b ring.epoch ring.buffers ring.buffers queue (omega arith)
    (λ i lt. others (run_at ring.buffers i) (kept.out i (omega arith)) (λ same. kept.apart i (length queue) lt few (same ∙ sym (ap (λ (r : Run). r.start) at)))) h.held in
    let last : Holds (bytes_of b (run_at ring.buffers (length queue))) (number (next_place ring)) ring.epoch ring.chain (ring.text ++ piece) =
    subst (λ (r : Run). Holds (bytes_of b r) (number (next_place ring)) ring.epoch ring.chain (ring.text ++ piece)) (sym at) packed in
    let linked : IsLinked ring.epoch (first_place ring) (queue ++ unfinished ring piece ∷ []) chain =
    subst (λ (n : ℕ). IsLinked ring.epoch (first_place ring) (queue ++ unfinished ring piece ∷ []) n) (sym after)
    (linked-push ring.epoch (first_place ring) queue (unfinished ring piece) h.linked (ap number (sym place))) in
    record {
      count = length_push queue (unfinished ring piece) ∙ ap (λ n. n + 1) h.count;
      linked = subst (λ (n : ℕ). IsLinked ring.epoch n (queue ++ unfinished ring piece ∷ []) chain) from linked;
      held = held-push b ring.epoch ring.buffers queue (unfinished ring piece) few others_stay last;
    }

-- The same of the value that a ring is seen as.
pub seen-closes : (v old new : RingState) (piece : List ℕ) (a b : Region) → v ≡ old → ((queue : List Queued) → HoldsQueue v a queue → HoldsQueue new b (queue ++ unfinished v piece ∷ [])) → (queue : List Queued) → HoldsQueue old a queue → HoldsQueue new b (queue ++ unfinished old piece ∷ [])
seen-closes v old new piece a b e h = subst (λ (r : RingState). (queue : List Queued) → HoldsQueue r a queue → HoldsQueue new b (queue ++ unfinished r piece ∷ [])) e h

-- The buffers past the queue change.
pub holds-kept : (ring : RingState) (promised : ℕ) (more : List Run) (a b : Region) → ring.queued ≤ length more → ((i : ℕ) → i < ring.queued → bytes_of b (run_at more i) ≡ bytes_of a (run_at ring.buffers i)) → (queue : List Queued) → HoldsQueue ring a queue → HoldsQueue (record { start = ring.start; size = ring.size; epoch = ring.epoch; closed = ring.closed; chain = ring.chain; text = ring.text; promised = promised; queued = ring.queued; buffers = more }) b queue
holds-kept ring promised more a b few same queue h = record {
  count = h.count;
  linked = h.linked;
  held = held-same a b ring.epoch ring.buffers more queue (omega (arith, h.count)) (λ i lt. same i (omega (arith, h.count))) h.held;
}

pub seen : (v old new : RingState) (a b : Region) → v ≡ old → ((queue : List Queued) → HoldsQueue v a queue → HoldsQueue new b queue) → (queue : List Queued) → HoldsQueue old a queue → HoldsQueue new b queue
seen v old new a b e h = subst (λ (r : RingState). (queue : List Queued) → HoldsQueue r a queue → HoldsQueue new b queue) e h

-- more buffers, and fewer at the end
pub bytes-more : (runs more : List Run) (a b : Region) (i : ℕ) → b.bytes ≡ a.bytes → take (length runs) more ≡ runs → i < length runs → bytes_of b (run_at more i) ≡ bytes_of a (run_at runs i)
bytes-more runs more a b i bytes front lt =
    let at : run_at more i ≡ run_at runs i = sym (get_or-take (length runs) more i (record { start = 0; order = 0 }) lt) ∙ ap (λ (l : List Run). run_at l i) front in
    ap (λ (bs : List ℕ). take (4096 * ((run_at more i).start + 2 ^ (run_at more i).order) - 4096 * (run_at more i).start) (drop (4096 * (run_at more i).start) bs)) bytes
    ∙ ap (λ (r : Run). bytes_of a r) at

pub bytes-fewer : (runs fewer : List Run) (a b : Region) (k i : ℕ) → b.bytes ≡ a.bytes → fewer ≡ take k runs → i < k → bytes_of b (run_at fewer i) ≡ bytes_of a (run_at runs i)
bytes-fewer runs fewer a b k i bytes e lt =
    let at : run_at fewer i ≡ run_at runs i = ap (λ (l : List Run). run_at l i) e ∙ get_or-take k runs i (record { start = 0; order = 0 }) lt in
    ap (λ (bs : List ℕ). take (4096 * ((run_at fewer i).start + 2 ^ (run_at fewer i).order) - 4096 * (run_at fewer i).start) (drop (4096 * (run_at fewer i).start) bs)) bytes
    ∙ ap (λ (r : Run). bytes_of a r) at

-- The first blocks leave the queue, with their buffers.
pub holds-first : (ring : RingState) (start : Start) (closed gone : ℕ) (less : List Run) (a b : Region) → IsRing ring → start.sequence + closed ≡ next_place ring → gone ≤ ring.queued → less ≡ drop gone ring.buffers → b.bytes ≡ a.bytes → (queue : List Queued) → HoldsQueue ring a queue → HoldsQueue (record { start = start; size = ring.size; epoch = ring.epoch; closed = closed; chain = ring.chain; text = ring.text; promised = ring.promised; queued = ring.queued - gone; buffers = less }) b (drop gone queue)
holds-first ring start closed gone less a b ok next few e bytes queue h =
    let place : first_place ring + gone ≡ start.sequence + closed - (ring.queued - gone) = omega (arith, next, few, ok.waiting) in
    let len : length (drop gone queue) ≡ ring.queued - gone = omega (arith, length-drop gone queue, h.count) in
    let room : length (drop gone queue) ≤ length (drop gone ring.buffers) = omega (arith, len, length-drop gone ring.buffers, ok.buffers_len) in
    let held : AreHeld b ring.epoch (drop gone ring.buffers) (drop gone queue) = held-same a b ring.epoch (drop gone ring.buffers) (drop gone ring.buffers) (drop gone queue) room
    (λ i lt. ap (λ (bs : List ℕ). take (4096 * ((run_at (drop gone ring.buffers) i).start + 2 ^ (run_at (drop gone ring.buffers) i).order) - 4096 * (run_at (drop gone ring.buffers) i).start) (drop (4096 * (run_at (drop gone ring.buffers) i).start) bs)) bytes)
    (held-drop a ring.epoch gone ring.buffers queue h.held) in
    record {
      count = len;
      linked = subst (λ (n : ℕ). IsLinked ring.epoch n (drop gone queue) ring.chain) place (linked-drop ring.epoch gone (first_place ring) queue ring.chain h.linked (omega (arith, h.count, few)));
      held = subst (λ (l : List Run). AreHeld b ring.epoch l (drop gone queue)) (sym e) held;
    }

pub seen-freed : (v old new : RingState) (a b : Region) (sequence gone : ℕ) → v ≡ old → gone ≡ freed_queued v sequence → ((queue : List Queued) → HoldsQueue v a queue → HoldsQueue new b (drop gone queue)) → (queue : List Queued) → HoldsQueue old a queue → HoldsQueue new b (drop (freed_queued old sequence) queue)
seen-freed v old new a b sequence gone e same h =
    subst (λ (r : RingState). (queue : List Queued) → HoldsQueue r a queue → HoldsQueue new b (drop (freed_queued r sequence) queue)) e
    (subst (λ (k : ℕ). (queue : List Queued) → HoldsQueue v a queue → HoldsQueue new b (drop k queue)) same h)

pub seen-first : (v old new : RingState) (a b : Region) → v ≡ old → ((queue : List Queued) → HoldsQueue v a queue → HoldsQueue new b (drop 1 queue)) → (queue : List Queued) → HoldsQueue old a queue → HoldsQueue new b (drop 1 queue)
seen-first v old new a b e h = subst (λ (r : RingState). (queue : List Queued) → HoldsQueue r a queue → HoldsQueue new b (drop 1 queue)) e h
