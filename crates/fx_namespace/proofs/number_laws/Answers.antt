use Rattle.fx_namespace.proofs.Commits.{new_numbers, node_below, written_numbers}
use Rattle.fx_namespace.proofs.Items.{below_after, below_all, below_more, next_id-least, next_id_after-front, next_id_after-more, next_store-least, next_store_after-front, next_store_after-more}
use Rattle.fx_namespace.proofs.number_laws.Goals as goal

pub returns-clause-node : goal.returns-clause-node
returns-clause-node c = λ m id store path node b. node_below m id store b path node

pub returns-clause-more : goal.returns-clause-more
returns-clause-more c = below_more

pub returns-clause-after : goal.returns-clause-after
returns-clause-after c = below_after

pub returns-clause-all : goal.returns-clause-all
returns-clause-all c = below_all

pub returns-clause-least_id : goal.returns-clause-least_id
returns-clause-least_id c = next_id-least

pub returns-clause-least_store : goal.returns-clause-least_store
returns-clause-least_store c = next_store-least

pub returns-clause-new_node : goal.returns-clause-new_node
returns-clause-new_node c = new_numbers

pub returns-clause-written : goal.returns-clause-written
returns-clause-written c = written_numbers

pub returns-clause-more_id : goal.returns-clause-more_id
returns-clause-more_id c = next_id_after-more

pub returns-clause-more_store : goal.returns-clause-more_store
returns-clause-more_store c = next_store_after-more

pub returns-clause-front_id : goal.returns-clause-front_id
returns-clause-front_id c = next_id_after-front

pub returns-clause-front_store : goal.returns-clause-front_store
returns-clause-front_store c = next_store_after-front
