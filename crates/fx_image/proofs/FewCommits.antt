-- Few commits fit the ring.
use Rattle.std.proofs.Common.{ℕ, ◌+◌, ◌*◌, ◌^◌, ◌≤◌, ◌<◌, List, [], ◌∷◌, length, length-append, subst, ap, arith}
use Rattle.std.specs.Prelude.{All}
use Rattle.std.proofs.lemmas.List.Elements.{All-head, All-tail}
use Rattle.fx_record.proofs.Commits.{least_length}
use Rattle.fx_jblock.specs.declared.TheConstants.{RECORD_BYTES}
use Rattle.fx_journal.specs.Ring.{Queued, texts}
use Rattle.fx_log.specs.Ring.{HasRecords}
use Rattle.fx_supers.specs.Supers.{Origin, SuperCut}
use Rattle.fx_supers.specs.SessionLog.{HasPlacesFrom}
use Rattle.fx_image.specs.Journal.{Journal, IsJournal}

texts-most : (blocks : List Queued) → All HasRecords blocks → length (texts blocks) ≤ RECORD_BYTES * length blocks
texts-most [] h = omega arith
texts-most (q ∷ qs) h =
    omega (arith, length-append q.text (texts qs), (All-head HasRecords q qs h).room, texts-most qs (All-tail HasRecords q qs h))

-- no checkpoint was made, so all blocks have their places from the start that the mount found
room-uncut : (j : Journal) (calls : ℕ) → IsJournal j calls → length j.log.head.read + length j.log.tail.blocks ≤ j.log.head.super.ring
room-uncut j calls h = subst (λ (from : Origin). HasPlacesFrom j.log.head j.log.tail.blocks from) (ap (λ (c : SuperCut). c.origin) h.uncut.current.same) h.log.places

pub commits-few : (j : Journal) (calls : ℕ) → IsJournal j calls → length j.log.tail.text < RECORD_BYTES → length j.commits.history < 2 ^ 20
commits-few j calls h short =
    omega (arith, ap length h.records.joined, length-append (texts j.log.tail.blocks) j.log.tail.text, texts-most j.log.tail.blocks h.log.closed.records, room-uncut j calls h, h.reading.head.rules.ring_most, least_length j.opening.base j.commits.records, h.replays.one_each, short)
