use Rattle.std.proofs.Common.{◌≡◌, ◌*◌, ℕ, List, min, sym, subst, arith}
use Rattle.std.specs.Prelude.{Ok, Err}
use Rattle.std.proofs.lemmas.List.{length-map}
use Rattle.fx_item.specs.Item.{PlainItem, items_of}
use Rattle.fx_item.specs.declared.item.Item.{Item}
use Rattle.fx_record.specs.Txns.{txns_of}
use Rattle.fx_record.proofs.Sessions.{count_fits, txns_hold}
use Rattle.fx_kept.proofs.FoldedTxns.{txns_follow_on}
use Rattle.fx_logcuts.specs.Cuts.{pieces_in}
use Rattle.fx_layfile.specs.Layer.{blocks_in}
use Rattle.fx_layfile.specs.Reading.{PlainLayer}
use Rattle.fx_layfile.proofs.Walking.{tells_on}
use Rattle.fx_super.specs.Super.{Fields, fields_of}
use Rattle.fx_found.specs.Image.{ImageParts, HasImageParts, NamesDisk}
use Rattle.fx_found.specs.Layers.{HasLayers}
use Rattle.fx_found.specs.Faults.{IsFindFault}
use Rattle.fx_found.specs.Found.{Judges, parts_read}
use Rattle.fx_found.proofs.Judged.{judged_fault}
use Rattle.fx_found.proofs.Records.{lost_record}
use Rattle.fx_found.proofs.ReadSteps.{reads_within}
use Rattle.fx_found.proofs.finding.find.Goals as goal

pub returns-in-Err-clause-read : goal.returns-in-Err-clause-read
returns-in-Err-clause-read g c = reads_within _ _ (min 2 (g.D.Disk.seen c.args.disk.now).size) (2 * (g.D.Disk.seen c.args.disk.now).size) _ c.in-Err.ensures.read (omega arith)

pub returns-in-Err-read_layers-clause-found : goal.returns-in-Err-read_layers-clause-found
returns-in-Err-read_layers-clause-found g c image t =
    let f : Fields = fields_of c.in-Ok.slot.sup in
    let same : (g.D.Disk.seen c.find_super.new.disk).size ≡ (g.D.Disk.seen c.args.disk.now).size = c.in-Ok.ensures.read.read.size in
    subst (λ (n : ℕ). IsFindFault n image c.in-Err-read_layers.fault) same
    (c.in-Err-read_layers.ensures.fault image c.in-Ok.slot.which (tells_on _ _ image c.in-Ok.ensures.read.read t)
    (subst (λ (n : ℕ). NamesDisk n image c.in-Ok.slot.which f) (sym same) (c.in-Ok.ensures.chosen image t)))

pub returns-in-Err-read_journal-clause-found : goal.returns-in-Err-read_journal-clause-found
returns-in-Err-read_journal-clause-found g c image t =
    let f : Fields = fields_of c.in-Ok.slot.sup in
    let same : (g.D.Disk.seen c.find_super.new.disk).size ≡ (g.D.Disk.seen c.args.disk.now).size = c.in-Ok.ensures.read.read.size in
    let t1 = tells_on _ _ image c.in-Ok.ensures.read.read t in
    let t2 = tells_on _ _ image c.in-Ok-read_layers.ensures.read.read t1 in
    lost_record (g.D.Disk.seen c.args.disk.now).size image c.in-Ok.slot.which f c.in-Ok-read_layers.layers.0.items c.in-Ok-read_layers.layers.1.items (c.in-Ok.ensures.chosen image t)
    (subst (λ (n : ℕ). HasLayers (blocks_in image) n f c.in-Ok-read_layers.layers.0.items c.in-Ok-read_layers.layers.1.items) same (c.in-Ok-read_layers.ensures.layers image t1))
    c.in-Err-read_journal.fault (c.in-Err-read_journal.ensures.fault image t2)

pub find_kept-requires-clause-numbered : goal.find_kept-requires-clause-numbered
find_kept-requires-clause-numbered g c =
    let h = c.in-Ok-read_journal.ensures.holds in
    txns_follow_on c.in-Ok.slot.sup.base (pieces_in h.stream) (txns_of c.in-Ok-read_journal.journal.txns) h.txns_are

pub find_kept-requires-clause-few : goal.find_kept-requires-clause-few
find_kept-requires-clause-few g c =
    let h = c.in-Ok-read_journal.ensures.holds in
    let few = count_fits c.in-Ok.slot.sup.base (pieces_in h.stream) (txns_of c.in-Ok-read_journal.journal.txns) (omega (arith, c.in-Ok.ensures.disk.rules.base_below)) h.txns_are in
    omega (arith, few, length-map {B = ℕ × List PlainItem} c.in-Ok-read_journal.journal.txns (λ (t : ℕ × List Item). (t.0, items_of t.1)))

pub judge-requires-clause-commits : goal.judge-requires-clause-commits
judge-requires-clause-commits g c =
    let h = c.in-Ok-read_journal.ensures.holds in
    txns_hold c.in-Ok.slot.sup.base (pieces_in h.stream) (txns_of c.in-Ok-read_journal.journal.txns) h.txns_are

pub returns-in-Ok-judge-clause-found : goal.returns-in-Ok-judge-clause-found
returns-in-Ok-judge-clause-found g c image t =
    let f : Fields = fields_of c.in-Ok.slot.sup in
    let size : ℕ = (g.D.Disk.seen c.args.disk.now).size in
    let same : (g.D.Disk.seen c.find_super.new.disk).size ≡ size = c.in-Ok.ensures.read.read.size in
    let t1 = tells_on _ _ image c.in-Ok.ensures.read.read t in
    let t2 = tells_on _ _ image c.in-Ok-read_layers.ensures.read.read t1 in
    let t3 = tells_on _ _ image c.in-Ok-read_journal.ensures.read.read t2 in
    let told = c.in-Ok-read_journal.ensures.told image t2 in
    let objects : List PlainLayer = c.in-Ok-read_layers.layers.0.items in
    let allocs : List PlainLayer = c.in-Ok-read_layers.layers.1.items in
    let p : ImageParts = parts_read c.in-Ok.slot objects allocs told.0.stream c.in-Ok-read_journal.journal c.in-Ok-find_kept.kept in
    record {
      parts = p;
      image_is = record {
        super = c.in-Ok.ensures.chosen image t;
        layers = subst (λ (n : ℕ). HasLayers (blocks_in image) n f objects allocs) same (c.in-Ok-read_layers.ensures.layers image t1);
        stream = told.1;
        txns = told.0.txns_are;
        kept = c.in-Ok-find_kept.ensures.kept image t3;
      };
      has = subst (λ (n : ℕ). Judges n p (Ok c.in-Ok-judge.found)) c.blocks-blocks.ensures (c.in-Ok-judge.ensures told.0.stream told.0.closed_is);
    }

pub returns-in-Err-judge-clause-found : goal.returns-in-Err-judge-clause-found
returns-in-Err-judge-clause-found g c image t =
    let f : Fields = fields_of c.in-Ok.slot.sup in
    let size : ℕ = (g.D.Disk.seen c.args.disk.now).size in
    let same : (g.D.Disk.seen c.find_super.new.disk).size ≡ size = c.in-Ok.ensures.read.read.size in
    let t1 = tells_on _ _ image c.in-Ok.ensures.read.read t in
    let t2 = tells_on _ _ image c.in-Ok-read_layers.ensures.read.read t1 in
    let t3 = tells_on _ _ image c.in-Ok-read_journal.ensures.read.read t2 in
    let told = c.in-Ok-read_journal.ensures.told image t2 in
    let objects : List PlainLayer = c.in-Ok-read_layers.layers.0.items in
    let allocs : List PlainLayer = c.in-Ok-read_layers.layers.1.items in
    let p : ImageParts = parts_read c.in-Ok.slot objects allocs told.0.stream c.in-Ok-read_journal.journal c.in-Ok-find_kept.kept in
    let is : HasImageParts size image p = record {
      super = c.in-Ok.ensures.chosen image t;
      layers = subst (λ (n : ℕ). HasLayers (blocks_in image) n f objects allocs) same (c.in-Ok-read_layers.ensures.layers image t1);
      stream = told.1;
      txns = told.0.txns_are;
      kept = c.in-Ok-find_kept.ensures.kept image t3;
    } in
    judged_fault size p image is c.in-Err-judge.fault
    (subst (λ (n : ℕ). Judges n p (Err c.in-Err-judge.fault)) c.blocks-blocks.ensures (c.in-Err-judge.ensures told.0.stream told.0.closed_is))
