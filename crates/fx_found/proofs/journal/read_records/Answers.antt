use Rattle.std.proofs.Common.{◌≡◌, ◌∙◌, ℕ, List, length, ap, arith}
use Rattle.fx_logcuts.specs.Cuts.{pieces_in}
use Rattle.fx_log.specs.Chosen.{start_of}
use Rattle.fx_super.specs.Super.{fields_of}
use Rattle.fx_record.specs.Txns as records
use Rattle.fx_record.specs.Txns.{all_bytes}
use Rattle.fx_found.proofs.Records.{few_bytes}
use Rattle.fx_found.proofs.journal.read_records.Goals as goal

pub read_txns-requires : goal.read_txns-requires
read_txns-requires c =
    let same : records.pieces_of c.deref.result.now ≡ pieces_in c.args.stream.blocks = ap records.pieces_of c.deref.ensures.value ∙ c.in-Ok.ensures in
    let e : length (all_bytes (records.pieces_of c.deref.result.now)) ≡ length (all_bytes (pieces_in c.args.stream.blocks)) = ap (λ (w : List (ℕ × List ℕ)). length (all_bytes w)) same in
    omega (arith, e, few_bytes c.args.sup.now.generation (start_of (fields_of c.args.sup.now)) c.args.stream.next c.args.stream.blocks c.requires.may.series, c.requires.may.few, c.requires.ring)
