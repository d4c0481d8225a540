use Rattle.fx_contents.proofs.BlockBytes.{byte_in_block, length-patched, get_or-patched, patched_whole, length-cut_block, get_or-cut_block}
use Rattle.fx_contents.proofs.BlockReads.{read_piece}
use Rattle.fx_contents.proofs.block_laws.Goals as goal

pub returns-clause-bytes : goal.returns-clause-bytes
returns-clause-bytes c = byte_in_block

pub returns-clause-read : goal.returns-clause-read
returns-clause-read c = read_piece

pub returns-clause-full : goal.returns-clause-full
returns-clause-full c = length-patched

pub returns-clause-written : goal.returns-clause-written
returns-clause-written c = λ at text n block old full covered is. get_or-patched at text n block full covered old is

pub returns-clause-whole : goal.returns-clause-whole
returns-clause-whole c = patched_whole

pub returns-clause-cut_full : goal.returns-clause-cut_full
returns-clause-cut_full c = length-cut_block

pub returns-clause-cut : goal.returns-clause-cut
returns-clause-cut c = λ size n block old full h l is. get_or-cut_block size n block full h l old is
