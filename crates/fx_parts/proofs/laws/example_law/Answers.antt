use Rattle.fx_parts.proofs.Making.{made}
use Rattle.fx_parts.proofs.laws.example_law.Goals as goal

pub returns : goal.returns
returns c = λ mounted lists ids stores faults name sound free. made mounted lists ids stores faults name sound free
