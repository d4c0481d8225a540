-- The calls of a format.
use Rattle.std.proofs.Common.{◌≡◌, ℕ, ◌+◌, Bool, true, false, List, arith}
use Rattle.fx_disk.specs.Seen.{DiskSeen, HasCalled, HasFlushed, HasWritten}
use Rattle.fx_disk.specs.Steps.{Flushes, Writes}
use Rattle.fx_disk.proofs.Frames.{called_then, flush_called, flush_failed_last, one_call_more, write_called}
use Rattle.fx_disk.proofs.Made.{good-counted}
use Rattle.fx_store.specs.Opening.{MakesCalls}

-- a flush, a write and a flush, of which the last was good or not
pub laid-out : (count total : ℕ) (a b c d e : DiskSeen) (at : ℕ) (bytes : List ℕ) (good : Bool) → total ≡ count + 3 → MakesCalls count a b true → HasFlushed b c true → HasWritten c d at bytes true → HasFlushed d e good → MakesCalls total a e good
laid-out count total a b c d e at bytes good is m f w g = by good g (called_then a d e good before (flush_called d e good g))
  where
    before : HasCalled a d true
    before = called_then a c d true (called_then a b c true m.1 (flush_called b c true f)) (write_called c d at bytes true w)

    counted : d.calls ≡ a.calls + count + 2
    counted =
        omega (
          arith,
          m.0,
          good-counted b.calls c.calls c.last_made (Flushes b.told c.told true) (c.told ≡ b.told) f.made,
          good-counted c.calls d.calls d.last_made (Writes c.told d.told at bytes true) (d.told ≡ c.told) w.made,
        )

    by : (last : Bool) → HasFlushed d e last → HasCalled a e last → MakesCalls total a e last
    by true h all = (omega (arith, is, counted, good-counted d.calls e.calls e.last_made (Flushes d.told e.told true) (e.told ≡ d.told) h.made), all)
    by false h all = (omega (arith, is, counted, one_call_more d.calls e.calls e.last_made false _ _ h.made), all, flush_failed_last d e h)
