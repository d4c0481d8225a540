-- The write and the flush of a mount, by what the disk tells.
use Rattle.std.proofs.Common.{◌≡◌, ℕ, ◌+◌, List, [], Bool, true, append-nil, length, refl, sym, ap, subst, ◌∙◌, arith}
use Rattle.std.specs.Prelude.{IfSome, None, Option, Some}
use Rattle.fx_disk.specs.Record.{DiskRecord}
use Rattle.fx_disk.specs.Seen.{DiskSeen, GoesOn, HasCalled, HasFlushed, HasWritten}
use Rattle.fx_disk.specs.Steps.{IsRecordOf, Writes, Flushes}
use Rattle.fx_super.specs.Super.{Fields, IsSuper, KeepsRules, fields_of}
use Rattle.fx_super.specs.Chosen.{IsChosen, block_number, other}
use Rattle.fx_super.specs.declared.choice.Which.{Which}
use Rattle.fx_super.specs.declared.choice.Which.TheVariants.{A}
use Rattle.fx_item.specs.Item.{PlainItem}
use Rattle.fx_item.specs.Look.{after_all, next_id_after, next_store_after}
use Rattle.fx_plain.specs.Tree.{Tree, node_count}
use Rattle.fx_jblock.specs.declared.Start.{Start}
use Rattle.fx_journal.specs.Ring.{IsRing, KeepsBuffers, RingState, begun, live}
use Rattle.fx_pool.specs.Region.{Region, Run}
use Rattle.fx_record.specs.Txns.{txns_of}
use Rattle.fx_log.specs.Chosen.{next_generation, start_of}
use Rattle.fx_image.specs.Standing.{Transactions, items_after, lists_of}
use Rattle.fx_image.specs.Journal.{HasJournal, HasOpened, IsJournal}
use Rattle.fx_supers.specs.Supers.{Supers, only_supers}
use Rattle.fx_image.proofs.MountCalls.{log-raised, uncut-raised}
use Rattle.fx_image.proofs.JournalStart.{journal-new}
use Rattle.fx_log.proofs.LogHeads.{series-next}
use Rattle.fx_disk.proofs.Made.{good-made}
use Rattle.fx_log.proofs.SuperTold as supers
use Rattle.fx_image.proofs.JournalTold.{ReadsAs, told-raise, told-raised, told-begun-flush, told-mounted}
use Rattle.fx_image.proofs.Mounted.{mounted-new}
use Rattle.fx_image.proofs.MountUnfinished.{told-unfinished, told-untouched}
use Rattle.fx_image.specs.Prefix.{KeepsPrefix}
use Rattle.fx_log.specs.Raising.{ChoosesNext, ChoosesSince}
use Rattle.fx_store.specs.Mounted.{KeepsImages, LeavesOpening}
use Rattle.fx_store.specs.Inside.{IsStore}
use Rattle.fx_store.specs.Opening.{CanBegin, FitsTogether, HasBegun, IsOn, IsPoolFor, IsPrepared, HasRaised, IsRead, Raises, Read, TellsChosen, journal_of, read_from}
use Rattle.fx_store.specs.Session.{BeginsWith, IsSessionOf, KnowsNodes}
use Rattle.fx_store.specs.declared.session.Session.{Session}
use Rattle.fx_store.specs.declared.opening.Contents.{Contents}
use Rattle.fx_store.specs.declared.opening.Found.{Found}
use Rattle.fx_store.specs.declared.commit.Numbers.{Numbers}
use Rattle.fx_store.proofs.Keeps.{if-both, rules-next}

-- ---- the write and the flush of the superblock

module _ (before mid : DiskSeen) (f : Fields) where
  module _ (which : Which) (bytes : List ℕ) (is : IfSome before.told (IsRecordOf before.size before.calls)) (next : IsSuper bytes (next_generation f)) (chosen : TellsChosen before which f) where
    reads-as : (read : Read) → IfSome before.told (IsOn f read) → IfSome before.told (ReadsAs which f read.blocks read.place)
    reads-as read on = if-both before.told (λ r. IsChosen r.contents which f) (IsOn f read) (ReadsAs which f read.blocks read.place) (λ r a b. record { chosen = a; stream = b }) chosen on

    journal-written : (read : Read) (good : Bool) → FitsTogether before.size f read → IfSome before.told (IsOn f read) → HasWritten before mid (block_number (other which)) bytes good
        → IfSome mid.told (HasOpened before.size before.calls read.tree read.base f read.blocks read.place read.txns)
    journal-written read good fits on w =
        told-raise before.size before.calls read.tree read.base f read.blocks read.place read.txns fits.reading fits.few fits.stands before.told is which (reads-as read on)
        bytes next mid.told mid.calls mid.last_made good w.made

    pub raises-written : (good : Bool) → HasWritten before mid (block_number (other which)) bytes good → Raises before mid f
    raises-written good w = record {
      since = supers.told-raise before.size before.calls before.told which f bytes next mid.told mid.calls mid.last_made good is chosen w.made;
      journal = λ read fits on. journal-written read good fits on w;
    }

    module _ (after : DiskSeen) (w : HasWritten before mid (block_number (other which)) bytes true) (v : HasFlushed mid after true) where
      written : Writes before.told mid.told (block_number (other which)) bytes true
      written = good-made before.calls mid.calls mid.last_made (Writes before.told mid.told (block_number (other which)) bytes true) (mid.told ≡ before.told) w.made

      flushed : Flushes mid.told after.told true
      flushed = good-made mid.calls after.calls after.last_made (Flushes mid.told after.told true) (after.told ≡ mid.told) v.made

      pub is-raised : HasRaised before after f (other which)
      is-raised = record {
        next = supers.told-raised before.size before.calls before.told which f bytes next mid.told after.told is chosen written flushed;
        journal = λ read fits on.
            told-raised before.size before.calls read.tree read.base f read.blocks read.place read.txns fits.reading fits.few fits.stands before.told is which (reads-as read on)
            bytes next mid.told after.told written flushed;
      }

  pub raises-flushed : (after : DiskSeen) (good : Bool) → Raises before mid f → HasFlushed mid after good → Raises before after f
  raises-flushed after good r w = record {
    since = supers.told-flush mid.told after.told before.calls mid.calls after.calls after.last_made good w.made r.since;
    journal = λ read fits on.
        told-begun-flush before.size before.calls read.tree read.base f read.blocks read.place read.txns fits.reading fits.few fits.stands
        mid.told after.told mid.calls after.calls after.last_made good w.made (r.journal read fits on);
  }

-- ---- before the write

module _ (seen : DiskSeen) (f : Fields) (c : Contents) (is : IsRead seen f c) where
  -- the place after the blocks of the stream
  pub next_place : c.next.sequence ≡ f.sequence + c.closed
  next_place = omega (arith, series-next f.generation (start_of f) c.next is.blocks is.reading.head.series, is.closed_is)

  pub fits_together : FitsTogether seen.size f (read_from c is.blocks)
  fits_together = record { few = is.few; reading = is.reading; stands = is.stands; small = is.small }

  abbrev lists : List (List PlainItem)
  lists = lists_of (txns_of c.txns)

  module _ (s : Session) (b : BeginsWith c s) where
    session_of : (from : ℕ) (only : Supers) → IsSessionOf (journal_of seen.size from f (read_from c is.blocks) only) s
    session_of from only = record {
      base = b.base;
      txns = ap txns_of b.txns;
      history = b.history;
      settled = b.settled;
      tree = b.tree;
      knows = subst (λ (xs : List (List PlainItem)). KnowsNodes (after_all xs) s.nodes) (sym (append-nil lists))
          (subst (KnowsNodes (items_after (txns_of c.txns))) (sym b.nodes) is.knows);
      id = ap (λ (n : Numbers). n.id) b.next ∙ is.next_id ∙ ap (next_id_after f.next_id) (sym (append-nil lists));
      store = ap (λ (n : Numbers). n.store) b.next ∙ is.next_store ∙ ap (next_store_after f.next_store) (sym (append-nil lists));
    }

    pub is_prepared : (ring : RingState) (pool : Region) (start : Start) → start ≡ start_of f
        → ring ≡ record { start = start; size = f.ring; epoch = f.generation + 1; closed = c.closed; chain = c.next.chain; text = []; promised = 0; queued = 0; buffers = [] }
        → IsRing ring → IsPoolFor f.ring pool → IsPrepared seen.size f (read_from c is.blocks) s ring pool
    is_prepared ring pool start begins e ring_is new = record {
      session = session_of;
      ring_is = e
          ∙ ap (λ (from : Start). record { start = from; size = f.ring; epoch = f.generation + 1; closed = c.closed; chain = c.next.chain; text = []; promised = 0; queued = 0; buffers = [] }) begins
          ∙ ap (λ (n : ℕ). record { start = start_of f; size = f.ring; epoch = f.generation + 1; closed = n; chain = c.next.chain; text = []; promised = 0; queued = 0; buffers = [] }) (sym is.closed_is);
      buffers = record {
        ring_is = ring_is;
        buffers = subst (λ (runs : List Run). KeepsBuffers runs pool) (sym none_out) (record {
          sound = new.sound;
          out = λ i lt. absurd (omega arith);
          single = λ i lt. absurd (omega arith);
          apart = λ i j lt within. absurd (omega arith);
        });
        out = omega (arith, new.free, ap length none_out);
        enough = omega (arith, new.enough, ap (λ (r : RingState). r.size) e);
        promised = ap (λ (r : RingState). r.promised) e;
      };
    }
      where
        none_out : ring.buffers ≡ []
        none_out = ap (λ (r : RingState). r.buffers) e

-- ---- a store that begins

module _ (size : ℕ) (f : Fields) (read : Read) (fits : FitsTogether size f read) (s : Session) (ring : RingState)
    (pool : Region) (p : IsPrepared size f read s ring pool) where
  abbrev session-at : (from : ℕ) → IsSessionOf (journal_of size from f read (only_supers f A)) s
  session-at from = p.session from (only_supers f A)

  pub fresh_session : s.history.items ≡ []
  fresh_session = (session-at 0).history

  pub nothing_waits : ring.queued + begun ring.text ≡ 0
  nothing_waits = ap (λ (r : RingState). r.queued + begun r.text) p.ring_is ∙ omega arith

  pub live_begun : live ring ≡ length read.blocks + 1
  live_begun = ap live p.ring_is ∙ omega arith

  module _ (from : ℕ) (after : DiskSeen) (same : after.size ≡ size) where
    pub keeps_prefix : IfSome after.told (HasOpened size from read.tree read.base f read.blocks read.place read.txns) → (opening : Tree) (base : ℕ) → IfSome after.told (KeepsPrefix after.size from opening base [])
    keeps_prefix has opening base = subst (λ (n : ℕ). IfSome after.told (KeepsPrefix n from opening base [])) (sym same)
        (told-unfinished size from read.tree read.base f read.blocks read.place read.txns after.told opening base fits.reading fits.stands has)

    module _ (which : Which) (rules : KeepsRules (next_generation f)) where
      abbrev raised : Supers
      raised = only_supers (next_generation f) (other which)

      is_journal : IsJournal (journal_of size from f read (only_supers (next_generation f) (other which))) after.calls
      is_journal = journal-new size from read.tree read.base f read.blocks read.place read.txns fits.reading raised
          (log-raised size from read.tree read.base f read.blocks read.place read.txns fits.reading fits.few which rules) (uncut-raised f (other which)) after.calls fits.stands

      pub is_store : IfSome after.told (HasJournal (journal_of size from f read (only_supers (next_generation f) (other which)))) → IfSome after.told (ChoosesNext from) → IsStore after from s ring pool
      is_store has next = record {
        journal = journal_of size from f read raised;
        size_is = sym same;
        from_is = refl;
        opens = fits.stands;
        mounted = mounted-new size from read.tree read.base f read.blocks read.place read.txns (other which) after ring pool is_journal
            (told-mounted (journal_of size from f read raised) after.told has next) p.ring_is;
        session = p.session from raised;
        given = record {
          ids = omega (arith, (p.session from raised).id, ap (next_id_after f.next_id) (append-nil (lists_of read.txns)));
          stores = omega (arith, (p.session from raised).store, ap (next_store_after f.next_store) (append-nil (lists_of read.txns)));
        };
        small = omega (arith, fits.small, ap node_count (session-at from).tree);
        buffers = p.buffers;
      }

-- what a stop leaves before the first commit
images_in : (told : Option DiskRecord) (size from : ℕ) (txns : Transactions) (base : ℕ) → IfSome told (ChoosesSince from) → IfSome told (ChoosesNext from) → ((opening : Tree) (number : ℕ) → IfSome told (KeepsPrefix size from opening number []))
    → IfSome told (KeepsImages size from txns base [])
images_in None size from txns base since next prefix = tt
images_in (Some r) size from txns base since next prefix = record { super = since; next = next; prefix = λ opening opens. prefix opening base }

pub images_begun : (after : DiskSeen) (from : ℕ) (txns : Transactions) (base : ℕ) → LeavesOpening from after → IfSome after.told (ChoosesNext from) → IfSome after.told (KeepsImages after.size from txns base [])
images_begun after from txns base left next = images_in after.told after.size from txns base left.super next left.prefix

-- ---- what a beginning leaves

-- nothing was asked of the disk
pub opening_untouched : (seen : DiskSeen) → IfSome seen.told (IsRecordOf seen.size seen.calls) → LeavesOpening seen.calls seen
opening_untouched seen is = record {
  super = supers.told-begun seen.size seen.calls seen.told is;
  prefix = λ opening base. told-untouched seen.size seen.calls opening base seen.told is;
}

module _ (before : DiskSeen) (found : Found) (c : Contents) (can : CanBegin before found c) where
  abbrev sup : Fields
  sup = fields_of found.sup

  abbrev read : Read
  read = read_from c can.read.blocks

  module _ (s : Session) (ring : RingState) (pool : Region) (p : IsPrepared before.size sup read s ring pool) where
    -- the superblock was raised, or that was tried
    module _ (after : DiskSeen) (goes : GoesOn before after) (raises : Raises before after sup) where
      pub opening_raised : LeavesOpening before.calls after
      opening_raised = record {
        super = raises.since;
        prefix = keeps_prefix before.size sup read (fits_together before sup c can.read) s ring pool p before.calls after goes.size
            (raises.journal read (fits_together before sup c can.read) can.read.stream);
      }

      rules-raised : KeepsRules (next_generation sup)
      rules-raised = rules-next sup can.read.reading.head.rules (omega (arith, can.read.reading.room.generations))

      pub store_begun : (from : ℕ) → from ≡ before.calls → HasRaised before after sup (other found.chosen) → IsStore after from s ring pool
      store_begun from same done = subst (λ (n : ℕ). IsStore after n s ring pool) (sym same)
          (is_store before.size sup read (fits_together before sup c can.read) s ring pool p before.calls after goes.size found.chosen rules-raised
          (done.journal read (fits_together before sup c can.read) can.read.stream) done.next)

      pub images_raised : (from : ℕ) → from ≡ before.calls → HasRaised before after sup (other found.chosen) → IfSome after.told (KeepsImages after.size from (txns_of s.txns) s.base [])
      images_raised from same done = subst (λ (n : ℕ). IfSome after.told (KeepsImages after.size n (txns_of s.txns) s.base [])) (sym same)
          (images_begun after before.calls (txns_of s.txns) s.base opening_raised done.next)

    pub begun_with : {Device : Type 0} (disk : Device) (after : DiskSeen) (from : ℕ) → from ≡ before.calls → (after.calls ≡ before.calls + 2) × HasCalled before after true
        → HasBegun before after found c (record { disk = disk; from = from; base = s.base; txns = txns_of s.txns; history = s.history.items; ring = ring.size; live = live ring; waiting = ring.queued + begun ring.text })
    begun_with disk after from same two = record {
      from = same;
      base = (p.session 0 (only_supers sup A)).base;
      txns = (p.session 0 (only_supers sup A)).txns;
      history = (p.session 0 (only_supers sup A)).history;
      ring = ap (λ (r : RingState). r.size) p.ring_is;
      live = live_begun before.size sup read (fits_together before sup c can.read) s ring pool p ∙ omega (arith, can.read.closed_is);
      waiting = nothing_waits before.size sup read (fits_together before sup c can.read) s ring pool p;
      calls = two.0;
      called = two.1;
    }
