-- The order of lock keys.
use Rattle.std.specs.Ordering.{nat_cmp, ordering_then}
use Rattle.std.specs.declared.cmp.Ordering.{Ordering}
use Rattle.fx_item.specs.declared.lock.LockKey.{LockKey}

-- by store, then by id
abbrev pub key_cmp : LockKey → LockKey → Ordering
key_cmp j k = ordering_then (nat_cmp j.store k.store) (nat_cmp j.id k.id)
