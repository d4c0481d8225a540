-- What a disk tells of its blocks, as facts on its image.
use Rattle.std.proofs.Common.{◌≡◌, ◌∙◌, ℕ, List, [], length, ap, sym, subst, get_or}
use Rattle.std.specs.Prelude.{IfSome, Option}
use Rattle.fx_disk.specs.Record.{DiskRecord}
use Rattle.fx_disk.specs.Seen.{DiskSeen}
use Rattle.fx_disk.specs.Steps.{IsRecordOf}
use Rattle.fx_layfile.specs.Layer.{TellsImage, blocks_in}

-- a fact on the record is one on the image
pub told_fact : (P : List (List ℕ) → Type 0) (seen : DiskSeen) (image : List (List ℕ)) → TellsImage seen image → IfSome seen.told (λ r. P r.contents) → P image
told_fact P seen image t h = subst P t.reads (subst (λ (o : Option DiskRecord). IfSome o (λ r. P r.contents)) t.told h)

pub told_block : (seen : DiskSeen) (image : List (List ℕ)) (at : ℕ) (bytes : List ℕ) → TellsImage seen image → IfSome seen.told (λ r. bytes ≡ get_or r.contents at []) → bytes ≡ blocks_in image at
told_block seen image at bytes t h = told_fact (λ (contents : List (List ℕ)). bytes ≡ get_or contents at []) seen image t h

pub told_size : (seen : DiskSeen) (image : List (List ℕ)) → TellsImage seen image → IfSome seen.told (IsRecordOf seen.size seen.calls) → length image ≡ seen.size
told_size seen image t h =
    let r : IsRecordOf seen.size seen.calls t.log = subst (λ (o : Option DiskRecord). IfSome o (IsRecordOf seen.size seen.calls)) t.told h in
    ap length (sym t.reads) ∙ r.contents_size
