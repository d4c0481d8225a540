use Rattle.fx_nodes.proofs.Links.{are_items}
use Rattle.fx_nodes.proofs.Put.{moves_over, put_more}
use Rattle.fx_item.specs.Look.{next_id, next_store}
use Rattle.fx_nodes.proofs.laws.table_laws.Goals as goal

pub returns-clause-items : goal.returns-clause-items
returns-clause-items c = are_items

pub returns-clause-put : goal.returns-clause-put
returns-clause-put c = λ old now items lists h step key. put_more old now items lists h step key

pub returns-clause-next_id : goal.returns-clause-next_id
returns-clause-next_id c = λ end start old now items lists h step. moves_over next_id end start old now items lists h step

pub returns-clause-next_store : goal.returns-clause-next_store
returns-clause-next_store c = λ end start old now items lists h step. moves_over next_store end start old now items lists h step
