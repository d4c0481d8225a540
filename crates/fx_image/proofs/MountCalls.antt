-- A disk that is being mounted: nothing was committed yet.
use Rattle.std.proofs.Common.{◌≡◌, ℕ, ◌≤◌, Bool, true, List, [], length, set, refl, sym, subst, arith}
use Rattle.fx_disk.specs.Record.{DiskRecord}
use Rattle.fx_disk.specs.Steps.{IsRecordOf, with_write, with_flush}
use Rattle.fx_plain.specs.Tree.{Tree}
use Rattle.fx_jblock.specs.declared.Start.{Start}
use Rattle.fx_journal.specs.declared.stream.StreamBlock.{StreamBlock}
use Rattle.fx_journal.specs.Stream.{IsStream}
use Rattle.fx_super.specs.Super.{Fields, IsSuper, KeepsRules, super_block}
use Rattle.fx_super.specs.Chosen.{IsChosen, block_number, other}
use Rattle.fx_super.specs.declared.choice.Which.{Which}
use Rattle.fx_log.specs.Chosen.{next_generation, start_of}
use Rattle.fx_log.specs.Log.{LogHead}
use Rattle.fx_log.proofs.SuperCalls.{since-begun, since-flush, since-raise}
use Rattle.fx_supers.specs.Supers.{Supers, only_supers, put_supers, raised_cut}
use Rattle.fx_supers.specs.SessionLog.{IsSessionLog, KeepsLog, MayPut, SessionLog, bare_session, new_session, put_session}
use Rattle.fx_supers.proofs.LogHeld.{keeps-finished, keeps-put}
use Rattle.fx_supers.proofs.LogKept.{may-raise, session-finished, session-new, session-put}
use Rattle.fx_supers.proofs.LogSeen.{keeps-new}
use Rattle.fx_image.specs.Standing.{StandsFor, Transactions, items_after}
use Rattle.fx_image.specs.Journal.{HasJournal, IsJournal, IsMountCut, IsReading, IsUncut, Journal, new_journal}
use Rattle.fx_image.proofs.JournalStart.{journal-new}
use Rattle.fx_image.proofs.PrefixCalls as prefixes
use Rattle.fx_image.proofs.PrefixNow.{keeps-now}

-- ---- the superblocks of a mount

pub uncut-read : (f : Fields) (slot : Which) → IsUncut f (only_supers f slot)
uncut-read f slot = record { current = record { same = refl; most = omega arith }; coming = λ cut e. absurd (cc) }

pub uncut-put : (f : Fields) (slot : Which) (good : Bool) → IsUncut f (put_supers (only_supers f slot) (raised_cut f) good)
uncut-put f slot good = record {
  current = record { same = refl; most = omega arith };
  coming = λ cut e. (let same : raised_cut f ≡ cut = cc in subst (IsMountCut f) same (record { same = refl; most = omega arith }));
}

pub uncut-raised : (f : Fields) (slot : Which) → IsUncut f (only_supers (next_generation f) slot)
uncut-raised f slot = record { current = record { same = refl; most = omega arith }; coming = λ cut e. absurd (cc) }

module _ (size from : ℕ) (tree : Tree) (base : ℕ) (super : Fields) (read : List StreamBlock) (place : Start) (txns : Transactions)
    (reading : IsReading size base super read place txns) (fits : length read ≤ super.ring) (which : Which) where
  abbrev head : LogHead
  head = record { super = super; read = read; place = place }

  pub log-read : IsSessionLog (new_session size from head which)
  log-read = session-new size from head which reading.head fits

  module _ (rules : KeepsRules (next_generation super)) where
    pub may-put : MayPut (new_session size from head which) (raised_cut super)
    may-put = may-raise size from head which reading.head rules

    pub log-put : (good : Bool) → IsSessionLog (bare_session size from head (put_supers (only_supers super which) (raised_cut super) good))
    log-put good = session-put (new_session size from head which) log-read (raised_cut super) good may-put

    pub log-raised : IsSessionLog (bare_session size from head (only_supers (next_generation super) (other which)))
    log-raised = session-finished (put_session (new_session size from head which) (raised_cut super) true) (log-put true) (raised_cut super) (record { coming = refl; made = refl })

-- ---- what a disk has of it

module _ (size : ℕ) (r : DiskRecord) (is : IsRecordOf size (length r.calls) r) (tree : Tree) (base : ℕ) (super : Fields) (read : List StreamBlock) (place : Start) (txns : Transactions)
    (reading : IsReading size base super read place txns) (fits : length read ≤ super.ring) (stands : StandsFor (items_after txns) tree)
    (which : Which) (chosen : IsChosen r.contents which super) (stream : IsStream r.contents super.ring super.generation (start_of super) read place) where
  abbrev from : ℕ
  from = length r.calls

  abbrev journal : Supers → Journal
  journal supers = new_journal size from tree base super read place txns supers

  is-read : IsJournal (journal (only_supers super which)) from
  is-read = journal-new size from tree base super read place txns reading (only_supers super which) (log-read size from tree base super read place txns reading fits which) (uncut-read super which) from stands

  -- as it was read
  pub begun-read : HasJournal (new_journal size (length r.calls) tree base super read place txns (only_supers super which)) r
  begun-read =
      let log : KeepsLog (new_session size from (record { super = super; read = read; place = place }) which) r = keeps-new size r is (record { super = super; read = read; place = place }) which (record { chosen = chosen; stream = stream }) reading.head.blocks in
      record { log = log; chooses = since-begun size r is; keeps = prefixes.keeps-start size tree base [] r (keeps-now (journal (only_supers super which)) from is-read r log) }

  -- and with the superblock of the next generation, which was written or tried
  pub begun-raise : (bytes : List ℕ) → IsSuper bytes (next_generation super) → (good : Bool) (held : List ℕ)
      → HasJournal (new_journal size (length r.calls) tree base super read place txns (put_supers (only_supers super which) (raised_cut super) good)) (with_write r (block_number (other which)) bytes good held)
  begun-raise bytes next good held =
      let into : ℕ = block_number (other which) in
      let before : SessionLog = new_session size from (record { super = super; read = read; place = place }) which in
      let supers : Supers = put_supers (only_supers super which) (raised_cut super) good in
      let log-is : IsSessionLog before = log-read size from tree base super read place txns reading fits which in
      let is-put : IsJournal (journal supers) from = journal-new size from tree base super read place txns reading supers (log-put size from tree base super read place txns reading fits which next.rules good) (uncut-put super which good) from stands in
      let put : KeepsLog (journal supers).log (with_write r into (super_block (next_generation super)) good held) =
      keeps-put before log-is r begun-read.log (raised_cut super) (may-put size from tree base super read place txns reading fits which next.rules) good held in
      let log : KeepsLog (journal supers).log (with_write r into bytes good held) = subst (λ (x : List ℕ). KeepsLog (journal supers).log (with_write r into x good held)) (sym next.bytes_are) put in
      record {
        log = log;
        chooses = since-raise size r is which super chosen bytes next good held;
        keeps = prefixes.keeps-write size from tree base [] [] r (λ ample m image le is. is) begun-read.keeps (set r.contents into held) into bytes good
            (keeps-now (journal supers) from is-put (with_write r into bytes good held) log);
      }

-- a good flush after a good write of it: it is the superblock
pub begun-finish : (size from : ℕ) (tree : Tree) (base : ℕ) (super : Fields) (read : List StreamBlock) (place : Start) (txns : Transactions)
    → IsReading size base super read place txns → length read ≤ super.ring → StandsFor (items_after txns) tree → (which : Which) → KeepsRules (next_generation super) → (r : DiskRecord)
    → HasJournal (new_journal size from tree base super read place txns (put_supers (only_supers super which) (raised_cut super) true)) r
    → HasJournal (new_journal size from tree base super read place txns (only_supers (next_generation super) (other which))) (with_flush r true)
begun-finish size from tree base super read place txns reading fits stands which rules r d =
    let supers : Supers = only_supers (next_generation super) (other which) in
    let put : SessionLog = bare_session size from (record { super = super; read = read; place = place }) (put_supers (only_supers super which) (raised_cut super) true) in
    let is : IsJournal (new_journal size from tree base super read place txns supers) from =
    journal-new size from tree base super read place txns reading supers (log-raised size from tree base super read place txns reading fits which rules) (uncut-raised super (other which)) from stands in
    let log : KeepsLog (new_journal size from tree base super read place txns supers).log (with_flush r true) =
    keeps-finished put (log-put size from tree base super read place txns reading fits which rules true) r d.log (raised_cut super) (record { coming = refl; made = refl }) in
    record {
      log = log;
      chooses = since-flush from r true d.chooses;
      keeps = prefixes.keeps-flush size from tree base [] [] r (λ ample m image le is. is) d.keeps r.contents true (keeps-now (new_journal size from tree base super read place txns supers) from is (with_flush r true) log);
    }
