-- The closed blocks that stand in an image, one after another from a place on.
use Rattle.std.proofs.Common.{◌≡◌, ℕ, suc, ◌+◌, ◌^◌, ◌≤◌, ◌<◌, ◌⊎◌, inl, inr, ⊎_elim, List, [], ◌∷◌, length, take, refl, sym, subst, ◌∙◌, ap, arith}
use Rattle.std.specs.Prelude.{Some, slice_get, All}
use Rattle.std.proofs.lemmas.Option.{same_Some}
use Rattle.fx_sum.specs.Checksum.{fletch}
use Rattle.fx_jblock.specs.Block.{body, journal_block}
use Rattle.fx_jblock.specs.declared.Start.{Start}
use Rattle.fx_journal.specs.declared.stream.StreamBlock.{StreamBlock}
use Rattle.fx_journal.specs.Stream.{IsRun, StandsAs, StandsAt, bytes_for, place_after}
use Rattle.fx_journal.specs.Ring.{Queued, IsLinked, first_chain}
use Rattle.fx_log.specs.Ring.{HasRecords, bytes_in, in_stream, as_stream}
use Rattle.fx_log.proofs.SuperChoice.{same-list}

-- a run is one also where greater epochs may stand
pub run-raised : (image : List (List ℕ)) (ring generation higher : ℕ) (start next : Start) (blocks : List StreamBlock) → generation ≤ higher → IsRun image ring generation start blocks next → IsRun image ring higher start blocks next
run-raised image ring generation higher start next [] le run = run
run-raised image ring generation higher start next (b ∷ bs) le run = (
  record {
    sequence = run.0.sequence;
    continues = record { holds = run.0.continues.holds; least = run.0.continues.least; most = omega (arith, run.0.continues.most) };
  },
  run-raised image ring generation higher (place_after start b) next bs le run.1,
)

-- and a block stands also where only smaller ones may, if its own is one
pub stands-lower : (bytes : List ℕ) (generation higher : ℕ) (place : Start) (block : StreamBlock) → block.epoch ≤ generation → StandsAs bytes higher place block → StandsAs bytes generation place block
stands-lower bytes generation higher place block le h = record {
  sequence = h.sequence;
  continues = record { holds = h.continues.holds; least = h.continues.least; most = le };
}

-- So many of the closed blocks stand in the image one after another, and the next one does not.
pub record Leads (image : List (List ℕ)) (ring epoch : ℕ) (start : Start) (blocks : List Queued) : Type 0 where
  pub count : ℕ
  pub next : Start
  pub most : count ≤ length blocks
  pub run : IsRun image ring epoch start (as_stream epoch (take count blocks)) next
  pub floor : ((count ≡ 0) × (next ≡ start)) ⊎ (next.floor ≡ epoch)
  pub ends : (q : Queued) → slice_get blocks count ≡ Some q → bytes_for image ring q.sequence ≡ bytes_in epoch q → ⊥

-- a closed block whose bytes stand in its place continues the stream there
stands-closed : (image : List (List ℕ)) (ring epoch : ℕ) (start : Start) (q : Queued) → 1 ≤ epoch → start.floor ≤ epoch → HasRecords q → q.sequence ≡ start.sequence → q.chain ≡ start.chain
    → bytes_for image ring q.sequence ≡ bytes_in epoch q → StandsAt image ring epoch start (in_stream epoch q)
stands-closed image ring epoch start q begun low records sequence chain same = record {
  sequence = sequence;
  continues = record {
    holds = record {
      filled = records.filled;
      room = records.room;
      begun = begun;
      bytes = ap (bytes_for image ring) (sym sequence) ∙ same ∙ ap (λ (n : ℕ). journal_block n epoch q.chain q.text) sequence ∙ ap (λ (n : ℕ). journal_block start.sequence epoch n q.text) chain;
    };
    least = low;
    most = omega arith;
  };
}

records-rest : (q : Queued) (qs : List Queued) → All HasRecords (q ∷ qs) → All HasRecords qs
records-rest q qs records k d lt = records (suc k) d (omega arith)

-- one more block before those that lead
leads-more : (image : List (List ℕ)) (ring epoch : ℕ) (start : Start) (q : Queued) (qs : List Queued) → StandsAt image ring epoch start (in_stream epoch q) → Leads image ring epoch (place_after start (in_stream epoch q)) qs
    → Leads image ring epoch start (q ∷ qs)
leads-more image ring epoch start q qs stands h = record {
  count = suc h.count;
  next = h.next;
  most = omega (arith, h.most);
  run = (stands, h.run);
  floor = inr (⊎_elim (λ first. ap (λ (p : Start). p.floor) first.1) (λ later. later) h.floor);
  ends = h.ends;
}

pub leads : (image : List (List ℕ)) (ring epoch : ℕ) (start : Start) (blocks : List Queued) (chain : ℕ) → 1 ≤ epoch → start.floor ≤ epoch → start.sequence + length blocks < 2 ^ 64
    → All HasRecords blocks → first_chain blocks chain ≡ start.chain → IsLinked epoch start.sequence blocks chain → Leads image ring epoch start blocks
leads image ring epoch start [] chain begun low few records first linked =
    record { count = 0; next = start; most = omega arith; run = refl; floor = inl (refl, refl); ends = λ q e same. absurd (cc) }
leads image ring epoch start (q ∷ qs) chain begun low few records first linked =
    let sequence : q.sequence ≡ start.sequence = linked.0 ∙ omega (arith, few) in
    ⊎_elim
    (λ same.
    (let stands : StandsAt image ring epoch start (in_stream epoch q) = stands-closed image ring epoch start q begun low (records 0 q (omega arith)) sequence first same in
    let chains : first_chain qs chain ≡ fletch start.chain (body start.sequence epoch q.text) =
    linked.1 ∙ ap (λ (n : ℕ). fletch n (body q.sequence epoch q.text)) first ∙ ap (λ (n : ℕ). fletch start.chain (body n epoch q.text)) sequence in
    leads-more image ring epoch start q qs stands
    (leads image ring epoch (place_after start (in_stream epoch q)) qs chain begun (omega arith) (omega arith) (records-rest q qs records) chains linked.2)))
    (λ other. record {
      count = 0;
      next = start;
      most = omega arith;
      run = refl;
      floor = inl (refl, refl);
      ends = λ p e same. other (subst (λ (x : Queued). bytes_for image ring x.sequence ≡ bytes_in epoch x) (sym (same_Some q p e)) same);
    })
    (same-list (bytes_for image ring q.sequence) (bytes_in epoch q))
