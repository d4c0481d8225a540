use Rattle.std.proofs.Common.{sym, ◌∙◌}
use Rattle.fx_alloc.specs.declared.uses.Use.TheVariants.{Drawn}
use Rattle.fx_alloc.specs.Uses.{blocks_from}
use Rattle.fx_alloc.proofs.UseLists.{All-within, length-blocks_from}
use Rattle.fx_alloc.proofs.SpaceKept.{put_all-turned}
use Rattle.fx_alloc.proofs.chain.release.Goals as goal

pub turn-requires-clause-uses : goal.turn-requires-clause-uses
turn-requires-clause-uses c = All-within (Drawn c.args.seat) c.args.uses.now (blocks_from c.args.links.now c.args.chain.head c.args.chain.len) (λ x. cc) c.requires.drawn.chain

pub returns : goal.returns
returns c =
    c.turn.ensures ∙ put_all-turned c.args.seat c.args.to (blocks_from c.args.links.now c.args.chain.head c.args.chain.len) c.args.uses.now c.requires.other c.requires.drawn.chain
    (c.requires.drawn.counted ∙ sym (length-blocks_from c.args.links.now c.args.chain.head c.args.chain.len))
