use Rattle.std.proofs.Common.{◌+◌, ◌≤◌, length, arith}
use Rattle.fx_kept.proofs.KeptContents.{kept_settled, kept_contents, stretch_within}
use Rattle.fx_kept.proofs.AnyFirst.{true_alike}
use Rattle.fx_uses.specs.Uses.{last}
use Rattle.fx_kept.proofs.laws.kept_in_images.Goals as goal

pub returns-clause-settled : goal.returns-clause-settled
returns-clause-settled c sum s r base first stream image h held cut left k kept = kept_settled sum s r base first stream image h held cut left k kept

pub returns-clause-most : goal.returns-clause-most
returns-clause-most c s base first stream found k h cut kept = let within : base + length stream ≤ last s = stretch_within s base first stream h cut in omega (arith, within, kept.most)

pub returns-clause-contents : goal.returns-clause-contents
returns-clause-contents c sum s r base first stream image h held cut left k kept = kept_contents sum s r base first stream image h held cut left k kept

pub returns-clause-premise : goal.returns-clause-premise
returns-clause-premise c cells first stream k image all b x live tested loose = all b x live loose

pub returns-clause-alike : goal.returns-clause-alike
returns-clause-alike c = true_alike
