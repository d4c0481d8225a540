use Rattle.std.specs.Prelude.{[]}
use Rattle.fx_plain.specs.Table.{do_step}
use Rattle.fx_plain.specs.declared.step.Step.TheVariants.{Write}
use Rattle.fx_plain.proofs.Bare.{write_made}
use Rattle.fx_contents.proofs.OneTree.{tree_of}
use Rattle.fx_contents.proofs.WrittenText.{nothing_written, write_clear, write_done}
use Rattle.fx_contents.proofs.StagedItems.{items_say}
use Rattle.fx_contents.proofs.StagedWrite.{two_steps, commit_writes}
use Rattle.fx_contents.proofs.PlannedWrite.{can_write}
use Rattle.fx_contents.proofs.write_laws.Goals as goal

pub returns-clause-stands : goal.returns-clause-stands
returns-clause-stands c = λ m n f g t path node at text len answer s clear way w some done.
    write_done m n f g node at text len w some t s clear path way (do_step t (Write path at text)).1 (write_made t path at text answer (tree_of m f t s) done)

pub returns-clause-clear : goal.returns-clause-clear
returns-clause-clear c = λ m n f g node at text len within clear w some. write_clear m n f g node at text len w some within clear

pub returns-clause-commit : goal.returns-clause-commit
returns-clause-commit c = commit_writes

pub returns-clause-two : goal.returns-clause-two
returns-clause-two c = two_steps

pub returns-clause-items : goal.returns-clause-items
returns-clause-items c = λ sum node len at text staged places some. items_say sum node len staged at text places some

pub returns-clause-possible : goal.returns-clause-possible
returns-clause-possible c = can_write

pub returns-clause-nothing : goal.returns-clause-nothing
returns-clause-nothing c = λ m f t path at answer s done.
    nothing_written m f t path at (do_step t (Write path at [])).1 (write_made t path at [] answer (tree_of m f t s) done) s
