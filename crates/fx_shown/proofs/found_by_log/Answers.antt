use Rattle.fx_shown.proofs.FoundShown.{log-shows_found}
use Rattle.fx_shown.proofs.found_by_log.Goals as goal

pub returns : goal.returns
returns g c = record {
  found = λ before s log t beyond seen h has drops bases used txns_are. log-shows_found g.L.LayerReader.says before s log t beyond h.log_is has drops used txns_are seen h bases;
}
