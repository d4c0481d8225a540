use Rattle.fx_named.proofs.NamesImage.{names-keep}
use Rattle.fx_named.proofs.prefix_of_names.Goals as goal

pub returns : goal.returns
returns c = record {
  keeps = λ sum first_data size from tree base history marks bases r since have all. names-keep sum first_data size from tree base history marks bases r since have all;
}
