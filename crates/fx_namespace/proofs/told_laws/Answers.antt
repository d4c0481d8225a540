use Rattle.fx_namespace.proofs.Commits.{dir_kind, file_object, free_entry, node_there, nothing_there, root_way}
use Rattle.fx_namespace.proofs.told_laws.Goals as goal

pub returns-clause-there : goal.returns-clause-there
returns-clause-there c = λ m h t path x is. node_there m h t is path x

pub returns-clause-nothing : goal.returns-clause-nothing
returns-clause-nothing c = λ m h t path is. nothing_there m h t is path

pub returns-clause-directory : goal.returns-clause-directory
returns-clause-directory c = λ m h t path node attributes is. dir_kind m h t is path node attributes

pub returns-clause-file : goal.returns-clause-file
returns-clause-file c = λ m h t path node is f. file_object m h t is path node f.contents f.attributes f.file f.way

pub returns-clause-free : goal.returns-clause-free
returns-clause-free c = λ m h t above name parent s is. free_entry m h t is s above name parent

pub returns-clause-root : goal.returns-clause-root
returns-clause-root c = λ m path node s. root_way m s path node
