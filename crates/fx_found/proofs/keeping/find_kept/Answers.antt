use Rattle.std.proofs.Common.{◌≡◌, ◌∙◌, ℕ, true, List, sym, subst}
use Rattle.std.specs.List.{Contains}
use Rattle.fx_item.specs.declared.item.Item.{Item}
use Rattle.fx_record.specs.Txns.{txns_of}
use Rattle.fx_sum.specs.Checksum.{fletch}
use Rattle.fx_super.specs.Super.{fields_of}
use Rattle.fx_verify.specs.Kept.{IsKeptNumber, is_written}
use Rattle.fx_found.specs.Image.{data_begin}
use Rattle.fx_found.specs.Reading.{sums_in}
use Rattle.fx_found.proofs.Sums.{kept_in_image}
use Rattle.fx_found.proofs.keeping.find_kept.Goals as goal

pub returns-clause-kept : goal.returns-clause-kept
returns-clause-kept g c image t =
    let f = fields_of c.args.sup.now in
    let blocks : List ℕ = c.as_slice-2.result.now in
    let same : c.as_slice.result.now ≡ c.args.txns.now = c.as_slice.ensures in
    let listed : c.deref.result.now ≡ sums_in (fletch 0) (data_begin f) image blocks = c.deref.ensures.value ∙ c.in-Ok-read_sums.ensures.sums image t in
    let kept : IsKeptNumber c.args.sup.now.base (txns_of c.args.txns.now) (sums_in (fletch 0) (data_begin f) image blocks) c.in-Ok-kept.kept =
    subst (λ (w : List (ℕ × List Item)). IsKeptNumber c.args.sup.now.base (txns_of w) (sums_in (fletch 0) (data_begin f) image blocks) c.in-Ok-kept.kept) c.as_slice-3.ensures
    (subst (λ (l : List (ℕ × ℕ)). IsKeptNumber c.args.sup.now.base (txns_of c.as_slice-3.result.now) l c.in-Ok-kept.kept) listed c.in-Ok-kept.ensures) in
    kept_in_image (fletch 0) (data_begin f) image (txns_of c.args.txns.now) blocks
    (λ b. subst (λ (w : List (ℕ × List Item)). (Contains blocks b → is_written (txns_of w) b ≡ true) × (is_written (txns_of w) b ≡ true → Contains blocks b)) same
    (subst (λ (bs : List ℕ). (Contains bs b → is_written (txns_of c.as_slice.result.now) b ≡ true) × (is_written (txns_of c.as_slice.result.now) b ≡ true → Contains bs b)) (sym c.as_slice-2.ensures) (c.in-Ok.ensures.each b)))
    c.args.sup.now.base c.in-Ok-kept.kept c.requires.numbered kept
