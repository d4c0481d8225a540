-- A disk whose mount was not finished, whatever tree it stood for.
use Rattle.std.proofs.Common.{◌≡◌, ℕ, List, [], length, sym, subst, ◌∙◌, ap, arith}
use Rattle.std.specs.Prelude.{Option, IfSome}
use Rattle.fx_disk.specs.Record.{DiskRecord, cell_after}
use Rattle.fx_disk.specs.Steps.{IsRecordOf}
use Rattle.fx_disk.specs.Always.{Always}
use Rattle.fx_disk.proofs.Told.{told-map}
use Rattle.fx_plain.specs.Tree.{Tree}
use Rattle.fx_namespace.specs.Trees as trees
use Rattle.fx_namespace.proofs.Trees.{one_tree}
use Rattle.fx_jblock.specs.declared.Start.{Start}
use Rattle.fx_journal.specs.declared.stream.StreamBlock.{StreamBlock}
use Rattle.fx_super.specs.Super.{Fields}
use Rattle.fx_image.specs.Standing.{Transactions, IsImage, StandsFor, HasAmpleRoom, items_after, kept}
use Rattle.fx_log.specs.Ring.{BeganWith}
use Rattle.fx_image.specs.Prefix.{IsPrefix, Began, KeepsPrefix}
use Rattle.fx_image.specs.Journal.{HasOpened, IsReading}
use Rattle.fx_image.proofs.JournalStart.{stands-bare}
use Rattle.fx_image.proofs.PrefixNow.{began-super, began-txns}
use Rattle.fx_disk.proofs.Began.{left-first}
use Rattle.fx_image.proofs.PrefixCalls.{StandsByChance, keeps-start}

-- ---- nothing was written

-- an image of the tree stands for it, after no commit
stands-first : (size : ℕ) (image : List (List ℕ)) (tree : Tree) (base m : ℕ) (f : Fields) (txns : Transactions) → IsImage size image f txns tree → kept f txns ≡ base → IsPrefix size (HasAmpleRoom f txns) tree base [] m image
stands-first size image tree base m f txns is same = record {
  super = f;
  txns = txns;
  least = omega (arith, same);
  most = omega (arith, same);
  settled = λ i entry got some by. absurd (cc got);
  image_is = subst (λ (t : Tree). IsImage size image f txns t) (stands-bare (items_after txns) tree is.stands) is;
  room = λ ample. record {
    generations = omega (arith, ample.generations);
    sequences = omega (arith, ample.sequences);
    commits = omega (arith, ample.commits);
    ids_left = omega (arith, ample.ids_left);
    stores_left = omega (arith, ample.stores_left);
  };
}

pub keeps-untouched : (size : ℕ) (tree : Tree) (base : ℕ) (r : DiskRecord) → KeepsPrefix size (length r.calls) tree base [] r
keeps-untouched size tree base r = keeps-start size tree base [] r
    (λ image f txns began left is chance.
    stands-first size left tree base (length r.calls) f txns (subst (λ (x : List (List ℕ)). IsImage size x f txns tree) (left-first r image left began.begins is) began.image_is) began.base_is)

pub told-untouched : (size count : ℕ) (tree : Tree) (base : ℕ) (told : Option DiskRecord) → IfSome told (IsRecordOf size count) → IfSome told (KeepsPrefix size count tree base [])
told-untouched size count tree base told is = told-map (IsRecordOf size count) (KeepsPrefix size count tree base []) told (λ r k. subst (λ (n : ℕ). KeepsPrefix size n tree base [] r) k.counted (keeps-untouched size tree base r)) is

-- ---- the mount wrote

-- What the disk began with has one tree and one number, and these were read.
module _ (size from : ℕ) (tree : Tree) (base : ℕ) (super : Fields) (read : List StreamBlock) (place : Start) (txns : Transactions) (reading : IsReading size base super read place txns) (stands : StandsFor (items_after txns) tree)
    (r : DiskRecord) (d : HasOpened size from tree base super read place txns r) (other : Tree) (number : ℕ) where
  module _ (image : List (List ℕ)) (f : Fields) (whole : Transactions) (began : Began size from number other r image f whole) where
    with-read : BeganWith r from super image read place
    with-read = (d.journal.log.has image began.begins).began

    same-super : f ≡ super
    same-super = began-super size from number other r image f super whole read place began with-read

    began-same : Began size from number other r image super whole
    began-same = subst (λ (x : Fields). Began size from number other r image x whole) same-super began

    same-txns : whole ≡ txns
    same-txns = began-txns size from number other r image super whole txns read place began-same with-read reading.txns_are

    same-tree : other ≡ tree
    same-tree = one_tree (items_after txns) trees.bare other tree (subst (λ (x : Transactions). trees.IsTreeOf (items_after x) trees.bare other) same-txns began.image_is.stands.tree_is) stands.tree_is

    same-number : base ≡ number
    same-number = sym reading.base_is ∙ ap (kept super) (sym same-txns) ∙ began-same.base_is

    began-read : Began size from base tree r image f whole
    began-read = record { begins = began.begins; image_is = subst (λ (t : Tree). IsImage size image f whole t) same-tree began.image_is; base_is = began.base_is ∙ sym same-number }

    always-same : Always (StandsByChance (cell_after r from) f size (HasAmpleRoom f whole) other number []) from r
    always-same =
        subst (λ (t : Tree). Always (StandsByChance (cell_after r from) f size (HasAmpleRoom f whole) t number []) from r) (sym same-tree)
        (subst (λ (n : ℕ). Always (StandsByChance (cell_after r from) f size (HasAmpleRoom f whole) tree n []) from r) same-number (d.journal.keeps.always image f whole began-read))

  pub keeps-unfinished : KeepsPrefix size from other number [] r
  keeps-unfinished = record { since = d.journal.log.since; always = λ image f whole began. always-same image f whole began }

pub told-unfinished : (size from : ℕ) (tree : Tree) (base : ℕ) (super : Fields) (read : List StreamBlock) (place : Start) (txns : Transactions) (told : Option DiskRecord) (other : Tree) (number : ℕ)
    → IsReading size base super read place txns → StandsFor (items_after txns) tree → IfSome told (HasOpened size from tree base super read place txns) → IfSome told (KeepsPrefix size from other number [])
told-unfinished size from tree base super read place txns told other number reading stands d =
    told-map (HasOpened size from tree base super read place txns) (KeepsPrefix size from other number []) told (λ r h. keeps-unfinished size from tree base super read place txns reading stands r h other number) d
