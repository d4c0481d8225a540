-- What a disk held after its first calls, once further calls are made.
use Rattle.std.proofs.Common.{◌≡◌, ℕ, ◌<◌, ◌≤◌, false, List, [], length, sym, ◌∙◌, ap, arith}
use Rattle.std.proofs.Math.Path.{fun_ext}
use Rattle.std.proofs.Math.Seq.{ext_get_or, take-length}
use Rattle.fx_disk.specs.Record.{Call, DiskRecord, Cell, LeftNow, after_calls, cell_after, cell_first, cell_now}
use Rattle.fx_disk.specs.Steps.{with_call}
use Rattle.fx_disk.specs.Began.{BeganAs}
use Rattle.fx_disk.proofs.Left.{cell_after-with_call}

-- after all calls
pub cell_after-now : (r : DiskRecord) (b : ℕ) → cell_after r (length r.calls) b ≡ cell_now r b
cell_after-now r b = ap (λ (cs : List Call). after_calls b cs (cell_first r b)) (take-length r.calls)

module _ (r : DiskRecord) (call : Call) (contents : List (List ℕ)) (from : ℕ) (le : from ≤ length r.calls) where
  pub cells-began : cell_after (with_call r call contents) from ≡ cell_after r from
  cells-began = fun_ext (λ b. cell_after-with_call r call contents from b le)

  pub began_as-before : (image : List (List ℕ)) → BeganAs (with_call r call contents) from image → BeganAs r from image
  began_as-before image h = record {
    size = h.size;
    bytes = λ b lt. h.bytes b lt ∙ ap (λ (c : Cell). c.bytes) (cell_after-with_call r call contents from b le);
    settled = λ b lt. ap (λ (c : Cell). c.loose) (sym (cell_after-with_call r call contents from b le)) ∙ h.settled b lt;
  }

  pub began_as-after : (image : List (List ℕ)) → BeganAs r from image → BeganAs (with_call r call contents) from image
  began_as-after image h = record {
    size = h.size;
    bytes = λ b lt. h.bytes b lt ∙ ap (λ (c : Cell). c.bytes) (sym (cell_after-with_call r call contents from b le));
    settled = λ b lt. ap (λ (c : Cell). c.loose) (cell_after-with_call r call contents from b le) ∙ h.settled b lt;
  }

-- where nothing is loose, what is left is what the disk began with
pub left-first : (r : DiskRecord) (image left : List (List ℕ)) → BeganAs r (length r.calls) image → LeftNow r left → image ≡ left
left-first r image left began is = ext_get_or [] image left (began.size ∙ sym is.size)
    (λ b lt.
    let below : b < length r.entry = omega (arith, began.size) in
    let fixed : (cell_now r b).loose ≡ false = sym (ap (λ (c : Cell). c.loose) (cell_after-now r b)) ∙ began.settled b below in
    began.bytes b below ∙ ap (λ (c : Cell). c.bytes) (cell_after-now r b) ∙ sym (is.kept b below fixed))
