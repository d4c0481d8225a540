use Rattle.std.proofs.Common.{arith}
use Rattle.fx_kept.proofs.LiveBlocks.{live_good, live_firm, live_stated}
use Rattle.fx_kept.proofs.laws.live_blocks.Goals as goal

pub returns-clause-good : goal.returns-clause-good
returns-clause-good c = live_good

pub returns-clause-firm : goal.returns-clause-firm
returns-clause-firm c sum s r h held k b x ge le live = live_firm sum s r h held k b x ge (omega (arith, le, h.most)) live le

pub returns-clause-stated : goal.returns-clause-stated
returns-clause-stated c = live_stated
