-- The start of a stream, and the superblock to come, while blocks are closed.
use Rattle.std.proofs.Common.{◌≡◌, ℕ, List, ◌++◌, drop, sym, ◌∙◌, ap, arith}
use Rattle.std.specs.Prelude.{Some, None}
use Rattle.std.proofs.lemmas.List.{drop-append-le, length-append}
use Rattle.fx_jblock.specs.declared.Start.{Start}
use Rattle.fx_journal.specs.Ring.{Queued, first_chain}
use Rattle.fx_log.specs.Log.{LogHead}
use Rattle.fx_log.proofs.RingClosed.{first_chain-joined}
use Rattle.fx_supers.specs.Supers.{Origin, SuperCut}
use Rattle.fx_supers.specs.SessionLog.{IsStartOf, MayClose, MayPut, SessionLog, closed_session}
use Rattle.fx_supers.proofs.LogStarts.{cut-closes}

pub start_lasts : (head : LogHead) (blocks more : List Queued) (chain later : ℕ) (from : Origin) (start : Start) → first_chain more later ≡ chain → IsStartOf head blocks chain from start → IsStartOf head (blocks ++ more) later from start
start_lasts head blocks more chain later None start first is = is
start_lasts head blocks more chain later (Some n) start first is = record {
  within = omega (arith, is.within, length-append blocks more);
  sequence = is.sequence;
  chain_is = is.chain_is ∙ ap (first_chain (drop n blocks)) (sym first) ∙ sym (ap (λ (qs : List Queued). first_chain qs later) (drop-append-le n blocks more is.within) ∙ first_chain-joined (drop n blocks) more later);
  floor = is.floor;
}

pub put_lasts : (log : SessionLog) (closed : List Queued) (chain : ℕ) (text : List ℕ) (cut : SuperCut) → MayClose log closed chain → MayPut log cut → MayPut (closed_session log closed chain text) cut
put_lasts log closed chain text cut may put = record {
  is = cut-closes log.head log.tail.blocks closed log.tail.chain chain cut may.first (let newer = put.comes.newer in omega (arith, may.raised, newer)) put.is;
  comes = put.comes;
  one = put.one;
}
