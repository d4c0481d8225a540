use Rattle.std.proofs.Common.{rules}
use Rattle.std.proofs.lemmas.List.Sorted.{IsPartitionPoint-from_clause}
use Rattle.fx_item.specs.Place.{bound_of}
use Rattle.fx_audit.proofs.Halves.{partitioned, passed_before, passed_behind, passes}
use Rattle.fx_audit.proofs.search.passed.Goals as goal

pub returns-clause-before : goal.returns-clause-before
returns-clause-before c = passed_before (bound_of c.args.place.now) c.args.items.now c.requires.apart c.partition_point.result
    (IsPartitionPoint-from_clause (passes (bound_of c.args.place.now)) c.args.items.now c.partition_point.result c.partition_point.ensures.partitioned (partitioned (bound_of c.args.place.now) c.args.items.now c.requires.apart) (λ a r q k. search rules))

pub returns-clause-behind : goal.returns-clause-behind
returns-clause-behind c = passed_behind (bound_of c.args.place.now) c.args.items.now c.requires.apart c.partition_point.result
    (IsPartitionPoint-from_clause (passes (bound_of c.args.place.now)) c.args.items.now c.partition_point.result c.partition_point.ensures.partitioned (partitioned (bound_of c.args.place.now) c.args.items.now c.requires.apart) (λ a r q k. search rules))
