use Rattle.std.proofs.Common.{rules, arith}
use Rattle.fx_base.proofs.Bytes.{IsBytes}
use Rattle.fx_super.proofs.Lists.{read_spells}
use Rattle.fx_layfile.proofs.decoding.read_names.Goals as goal

pub returns-clause-bytes : goal.returns-clause-bytes
returns-clause-bytes c =
    let fits : IsBytes c.args.text.now = λ i. omega (arith, c.type_inv.text i) in
    read_spells c.args.text.now c.read_u32_into.new.dst (search rules) fits c.read_u32_into.ensures
