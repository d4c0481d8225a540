use Rattle.std.specs.Prelude.{is_ok}
use Rattle.fx_store.proofs.Keeps.{made-goes}
use Rattle.fx_store.proofs.NewStores.{begun_with, images_raised, opening_raised, opening_untouched, store_begun}
use Rattle.fx_store.proofs.store.Store.begin.Goals as goal

pub returns-in_default-clause-opening : goal.returns-in_default-clause-opening
returns-in_default-clause-opening g c = opening_untouched (g.D.Disk.seen c.args.disk) (g.met.D.Disk.told_ok c.args.disk)

pub close-requires : goal.close-requires
close-requires g c = record { buffers = (c.in-Ok.ensures (g.D.Disk.seen c.args.disk) c.requires.read).buffers.buffers }

pub returns-in_default-raise-clause-opening : goal.returns-in_default-raise-clause-opening
returns-in_default-raise-clause-opening g c =
    opening_raised (g.D.Disk.seen c.args.disk) c.args.found.now c.args.contents c.requires
    c.in-Ok.prepared.session c.in-Ok.prepared.ring c.in-Ok.prepared.pool (c.in-Ok.ensures (g.D.Disk.seen c.args.disk) c.requires.read)
    (g.D.Disk.seen c.raise.new.disk) (made-goes 2 (g.D.Disk.seen c.args.disk) (g.D.Disk.seen c.raise.new.disk) (is_ok c.raise.result) c.raise.ensures.two) c.raise.ensures.raises

pub invariant_of-result : goal.invariant_of-result
invariant_of-result g c =
    store_begun (g.D.Disk.seen c.args.disk) c.args.found.now c.args.contents c.requires
    c.in-Ok.prepared.session c.in-Ok.prepared.ring c.in-Ok.prepared.pool (c.in-Ok.ensures (g.D.Disk.seen c.args.disk) c.requires.read)
    (g.D.Disk.seen c.raise.new.disk) (made-goes 2 (g.D.Disk.seen c.args.disk) (g.D.Disk.seen c.raise.new.disk) (is_ok c.raise.result) c.raise.ensures.two) c.raise.ensures.raises
    c.calls-from.result c.calls-from.ensures c.in-Ok-raise.ensures.next

pub returns-clause-begun : goal.returns-clause-begun
returns-clause-begun g c =
    begun_with (g.D.Disk.seen c.args.disk) c.args.found.now c.args.contents c.requires
    c.in-Ok.prepared.session c.in-Ok.prepared.ring c.in-Ok.prepared.pool (c.in-Ok.ensures (g.D.Disk.seen c.args.disk) c.requires.read)
    c.raise.new.disk (g.D.Disk.seen c.raise.new.disk) c.calls-from.result c.calls-from.ensures c.in-Ok-raise.ensures.two

pub returns-clause-images : goal.returns-clause-images
returns-clause-images g c =
    images_raised (g.D.Disk.seen c.args.disk) c.args.found.now c.args.contents c.requires
    c.in-Ok.prepared.session c.in-Ok.prepared.ring c.in-Ok.prepared.pool (c.in-Ok.ensures (g.D.Disk.seen c.args.disk) c.requires.read)
    (g.D.Disk.seen c.raise.new.disk) (made-goes 2 (g.D.Disk.seen c.args.disk) (g.D.Disk.seen c.raise.new.disk) (is_ok c.raise.result) c.raise.ensures.two) c.raise.ensures.raises
    c.calls-from.result c.calls-from.ensures c.in-Ok-raise.ensures.next
