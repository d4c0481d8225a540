use Rattle.fx_image.specs.Standing.{HasAmpleRoom}
use Rattle.fx_named.proofs.NamesImage.{names-chance, names-image, names-prefix}
use Rattle.fx_named.proofs.names_as_image.Goals as goal

pub returns-clause-image : goal.returns-clause-image
returns-clause-image c = λ sum first_data size super found before generation image base points txns k tree h. names-image sum first_data size (HasAmpleRoom super found) before generation image base points txns k tree h

pub returns-clause-prefix : goal.returns-clause-prefix
returns-clause-prefix c = λ sum first_data size super found before generation tree base from m k history marks bases image have ge h. names-prefix sum first_data size (HasAmpleRoom super found) before generation tree base from m k history marks bases image have ge h

pub returns-clause-chance : goal.returns-clause-chance
returns-clause-chance c = λ sum first_data size super found before cells generation image chance none. names-chance sum first_data size (HasAmpleRoom super found) before generation cells image chance none
