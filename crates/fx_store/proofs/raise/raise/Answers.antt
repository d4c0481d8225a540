use Rattle.std.proofs.lemmas.Result.{on_ok_weaker}
use Rattle.fx_super.specs.Super.{Fields, IsSuper, fields_of}
use Rattle.fx_log.specs.Chosen.{next_generation}
use Rattle.fx_super.specs.Chosen.{other}
use Rattle.fx_store.specs.Opening.{HasRaised, TellsChosen}
use Rattle.fx_store.proofs.Keeps.{rules-next}
use Rattle.fx_store.proofs.raise.raise.Goals as goal

pub returns-clause-raises : goal.returns-clause-raises
returns-clause-raises g c =
    let f : Fields = fields_of c.args.found.now.sup in
    c.put_super.ensures.raises f (c.encode_super.ensures.form (rules-next f c.requires.rules c.requires.room)) c.requires.chosen

pub returns-clause-next : goal.returns-clause-next
returns-clause-next g c =
    let f : Fields = fields_of c.args.found.now.sup in
    on_ok_weaker c.put_super.result
    (λ (next : (f : Fields) → IsSuper c.encode_super.new.into (next_generation f) → TellsChosen (g.D.Disk.seen c.args.disk.now) c.args.found.now.chosen f
    → HasRaised (g.D.Disk.seen c.args.disk.now) (g.D.Disk.seen c.put_super.new.disk) f (other c.args.found.now.chosen)).
    next f (c.encode_super.ensures.form (rules-next f c.requires.rules c.requires.room)) c.requires.chosen)
    c.put_super.ensures.next
