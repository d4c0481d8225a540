-- What a log keeps over what happens to it, whatever the disk tells.
use Rattle.std.proofs.Common.{◌≡◌, ℕ, ◌≤◌, ◌<◌, inl, inr, List, Bool, length, refl, subst, arith}
use Rattle.std.specs.Prelude.{None}
use Rattle.std.proofs.lemmas.List.{length-append}
use Rattle.std.proofs.lemmas.List.Elements.{All-nil}
use Rattle.fx_super.specs.Super.{KeepsRules}
use Rattle.fx_super.specs.declared.choice.Which.{Which}
use Rattle.fx_journal.specs.Ring.{Queued}
use Rattle.fx_log.specs.Chosen.{next_generation, start_of}
use Rattle.fx_log.specs.Log.{LogHead, IsHead}
use Rattle.fx_log.specs.Ring.{HasRecords}
use Rattle.fx_log.proofs.LogHeads.{series-next}
use Rattle.fx_supers.specs.Supers.{SuperCut}
use Rattle.fx_supers.specs.SessionLog.{SessionLog, IsCutOf, IsMade, IsSessionLog, MayClose, MayCome, MayPut, closed_session, finished_session, flushed_session, new_session, put_session, written_session}
use Rattle.fx_supers.proofs.LogStarts.{cut-closes, places-later}

-- ---- the mount

module _ (size from : ℕ) (head : LogHead) (slot : Which) (is : IsHead size head.super head.read head.place) where
  pub session-new : length head.read ≤ head.super.ring → IsSessionLog (new_session size from head slot)
  session-new fits = record {
    head = is;
    closed = record {
      records = All-nil HasRecords;
      first = refl;
      linked = tt;
      low = omega (arith, fits, is.rules.ring_most, is.rules.sequence_below, series-next head.super.generation (start_of head.super) head.place head.read is.series);
    };
    fewer = omega arith;
    most = omega arith;
    reached = omega arith;
    places = omega (arith, fits);
    current = record { rules = is.rules; ring = refl; blocks_are = refl; admits = inr (refl, refl); begins = refl; within = omega arith };
    coming = λ cut e. absurd (cc);
  }

  -- the superblock of the mount may be written
  pub may-raise : KeepsRules (next_generation head.super) → MayPut (new_session size from head slot) (record { super = next_generation head.super; origin = None })
  may-raise rules = record {
    is = record { rules = rules; ring = refl; blocks_are = refl; admits = inl (omega arith); begins = refl; within = omega arith };
    comes = record { newer = omega arith; later = tt };
    one = inl refl;
  }

module _ (l : SessionLog) (h : IsSessionLog l) where
  -- further blocks are closed
  pub session-closed : (more : List Queued) (chain : ℕ) (text : List ℕ) → MayClose l more chain → IsSessionLog (closed_session l more chain text)
  session-closed more chain text c = record {
    head = h.head;
    closed = c.closed;
    fewer = h.fewer;
    most = omega (arith, h.most, length-append l.tail.blocks more);
    reached = h.reached;
    places = c.places;
    current = cut-closes l.head l.tail.blocks more l.tail.chain chain l.supers.current c.first c.raised h.current;
    coming = λ cut e. (
      cut-closes l.head l.tail.blocks more l.tail.chain chain cut c.first (let newer = (h.coming cut e).1.newer in omega (arith, newer, c.raised)) (h.coming cut e).0,
      (h.coming cut e).1,
    );
  }

  -- the next block is written
  pub session-written : l.tail.written < length l.tail.blocks → IsSessionLog (written_session l)
  session-written lt = record {
    head = h.head;
    closed = h.closed;
    fewer = omega (arith, h.fewer);
    most = omega (arith, lt);
    reached = omega (arith, h.reached);
    places = h.places;
    current = h.current;
    coming = h.coming;
  }

  -- a flush
  pub session-flushed : IsSessionLog (flushed_session l)
  session-flushed = record {
    head = h.head;
    closed = h.closed;
    fewer = omega arith;
    most = h.most;
    reached = h.reached;
    places = h.places;
    current = h.current;
    coming = h.coming;
  }

  -- a superblock is written
  pub session-put : (cut : SuperCut) (good : Bool) → MayPut l cut → IsSessionLog (put_session l cut good)
  session-put cut good m = record {
    head = h.head;
    closed = h.closed;
    fewer = h.fewer;
    most = h.most;
    reached = h.reached;
    places = h.places;
    current = h.current;
    coming = λ other e.
        let same : cut ≡ other = cc in
        subst (λ (c : SuperCut). IsCutOf l.head l.tail.blocks l.tail.chain c × MayCome l.supers.current c) same (m.is, m.comes);
  }

  -- and it is flushed
  pub session-finished : (cut : SuperCut) → IsMade l cut → IsSessionLog (finished_session l cut)
  session-finished cut m = record {
    head = h.head;
    closed = h.closed;
    fewer = omega arith;
    most = let within = (h.coming cut m.coming).0.within in omega (arith, h.most, within);
    reached = omega arith;
    places = places-later l.head l.tail.blocks l.supers.current.origin cut.origin (h.coming cut m.coming).1.later h.places;
    current = (h.coming cut m.coming).0;
    coming = λ other e. absurd (cc);
  }
