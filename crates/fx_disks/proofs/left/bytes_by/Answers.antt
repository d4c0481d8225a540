use Rattle.std.proofs.Common.{◌≡◌, ◌<◌, ◌-◌, sym, ◌∙◌, ap, arith, get_or, [], length, map, List, ℕ}
use Rattle.fx_disk.specs.Record.{Call}
use Rattle.fx_disks.specs.Calls.{call_of, bytes_or, bytes_by}
use Rattle.fx_disks.proofs.Following.{bytes_by-number, call_at-map, bytes_by-none}
use Rattle.fx_disks.proofs.left.bytes_by.Goals as goal

pub returns : goal.returns
returns c =
    c.bytes_or.ensures
    ∙ sym (bytes_by-number c.args.entry.now (map call_of c.args.calls.now) c.args.block c.args.number (omega arith)
    ∙ ap (λ (x : Call). bytes_or x (get_or c.args.entry.now c.args.block [])) (call_at-map c.args.calls.now (c.args.number - 1) c.index-calls-number.result (omega arith) c.index-calls-number.is))
