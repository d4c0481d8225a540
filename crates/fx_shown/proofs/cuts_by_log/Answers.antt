use Rattle.fx_shown.proofs.LogCuts.{log-shows_cuts}
use Rattle.fx_shown.proofs.cuts_by_log.Goals as goal

pub returns : goal.returns
returns g c = record {
  cuts = λ before s log t marks seen h b used. log-shows_cuts g.L.LayerReader.says before s log t marks seen h b.has b.state b.bases b.above used;
}
