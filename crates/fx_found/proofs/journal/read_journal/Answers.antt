use Rattle.std.proofs.Common.{◌∙◌, ℕ, List, sym, subst}
use Rattle.fx_jblock.specs.declared.Start.{Start}
use Rattle.fx_journal.specs.Stream.{IsStream, MayBeStream}
use Rattle.fx_log.specs.Chosen.{start_of}
use Rattle.fx_super.specs.Super.{Fields, fields_of}
use Rattle.fx_found.specs.declared.journal.Journal.{Journal}
use Rattle.fx_found.proofs.ReadSteps.{reads_unfailed}
use Rattle.fx_found.proofs.Told.{told_fact}
use Rattle.fx_found.proofs.journal.read_journal.Goals as goal

pub returns-in-Ok-read_records-clause-told : goal.returns-in-Ok-read_records-clause-told
returns-in-Ok-read_records-clause-told g c image t =
    let f : Fields = fields_of c.args.sup.now in
    let holds = c.in-Ok-read_records.ensures.holds in
    let may : MayBeStream f.ring f.generation c.start_of-start.result c.in-Ok.stream.blocks c.in-Ok.stream.next = c.in-Ok.ensures.read in
    let is : IsStream image f.ring f.generation c.start_of-start.result c.in-Ok.stream.blocks c.in-Ok.stream.next =
    told_fact (λ (contents : List (List ℕ)). IsStream contents f.ring f.generation c.start_of-start.result c.in-Ok.stream.blocks c.in-Ok.stream.next) (g.D.Disk.seen c.args.disk.now) image t c.in-Ok.ensures.stream in (
      record {
        stream = c.in-Ok.stream.blocks;
        may = subst (λ (n : Start). MayBeStream f.ring f.generation (start_of f) c.in-Ok.stream.blocks n) (sym holds.1) (subst (λ (s : Start). MayBeStream f.ring f.generation s c.in-Ok.stream.blocks c.in-Ok.stream.next) c.start_of-start.ensures may);
        closed_is = holds.0;
        txns_are = holds.2;
      },
      subst (λ (n : Start). IsStream image f.ring f.generation (start_of f) c.in-Ok.stream.blocks n) (sym holds.1) (subst (λ (s : Start). IsStream image f.ring f.generation s c.in-Ok.stream.blocks c.in-Ok.stream.next) c.start_of-start.ensures is),
    )

pub returns-in-Err-clause-read : goal.returns-in-Err-clause-read
returns-in-Err-clause-read g c =
    reads_unfailed Journal _ _ c.args.sup.now.ring c.in-Err.fault c.in-Err.ensures.unfailed
    (record { read = c.walk.ensures.disk; faults = c.walk.ensures.unfailed (λ e. cc (sym c.in-Ok.is ∙ e)); few = c.walk.ensures.most_reads })
