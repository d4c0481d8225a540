-- What a cut writes and touches.
use Rattle.std.proofs.Common.{◌≡◌, ◌↔◌, ℕ, ◌+◌, ◌*◌, ◌≤◌, ◌<◌, Bool, true, false, cond, length, refl, ap, ◌∙◌, arith}
use Rattle.std.specs.Prelude.{◌-◌, ◌/◌, ◌%◌, ◌==◌, ◌&&◌, not, Some, nat_eq, if◌then◌else◌}
use Rattle.std.specs.FinSet.{contains}
use Rattle.std.proofs.lemmas.Bool.{lt-ltb, le-ltb, eqb-true}
use Rattle.fx_base.specs.declared.block.TheConstants.{BLOCK_BYTES}
use Rattle.fx_plain.specs.Node.{Attributes, Contents, File}
use Rattle.fx_steps.specs.Needs.{cut_touched, cut_written, cuts_file, is_inside}

module _ (size b : ℕ) (contents : Contents) (attributes : Attributes) (less : size < length contents.bytes) where
  touched_is : cut_touched size (Some (File contents attributes)) ≡ (length contents.bytes + 4095) / 4096 - size / 4096
  touched_is = ap (λ t. cond t ((length contents.bytes + 4095) / 4096 - size / 4096) 0) (lt-ltb size (length contents.bytes) less)

  pub touched_blocks : ((b * BLOCK_BYTES < length contents.bytes) × (size < (b + 1) * BLOCK_BYTES))
      ↔ ((size / BLOCK_BYTES ≤ b) × (b < size / BLOCK_BYTES + cut_touched size (Some (File contents attributes))))
  touched_blocks = (λ (h, k). (omega (arith, h, k, touched_is), omega (arith, h, k, touched_is, less)), λ (h, k). (omega (arith, h, k, touched_is, less), omega (arith, h, k, touched_is, less)))

  pub inside_written : b * BLOCK_BYTES < size → size < (b + 1) * BLOCK_BYTES → cut_written size (Some (File contents attributes)) ≡ (if contains contents.held b then 1 else 0)
  inside_written h k =
      ap (λ t. cond (t && is_inside size && contains contents.held (size / BLOCK_BYTES)) 1 0) (lt-ltb size (length contents.bytes) less)
      ∙ ap (λ t. cond (t && contains contents.held (size / BLOCK_BYTES)) 1 0) (inside (nat_eq (size % 4096) 0) refl)
      ∙ ap (λ n. cond (contains contents.held n) 1 0) place
    where
      place : size / BLOCK_BYTES ≡ b
      place = omega (arith, h, k)

      inside : (t : Bool) → nat_eq (size % 4096) 0 ≡ t → not t ≡ true
      inside true e = absurd (omega (arith, h, k, eqb-true _ _ e))
      inside false e = refl

no_both : (t u : Bool) → (t && false && u) ≡ false
no_both true u = refl
no_both false u = refl

pub edge_unwritten : (b : ℕ) (contents : Contents) (attributes : Attributes) → cut_written (b * BLOCK_BYTES) (Some (File contents attributes)) ≡ 0
edge_unwritten b contents attributes =
    ap (λ t. cond (cuts_file (b * BLOCK_BYTES) contents && not (t == 0) && contains contents.held (b * BLOCK_BYTES / BLOCK_BYTES)) 1 0) even
    ∙ ap (λ t. cond t 1 0) (no_both (cuts_file (b * BLOCK_BYTES) contents) (contains contents.held (b * BLOCK_BYTES / BLOCK_BYTES)))
  where
    even : b * BLOCK_BYTES % BLOCK_BYTES ≡ 0
    even = omega arith

pub uncut_file : (size : ℕ) (contents : Contents) (attributes : Attributes) → length contents.bytes ≤ size → (cut_written size (Some (File contents attributes)) ≡ 0) × (cut_touched size (Some (File contents attributes)) ≡ 0)
uncut_file size contents attributes h = (
  ap (λ t. cond (t && is_inside size && contains contents.held (size / BLOCK_BYTES)) 1 0) (le-ltb size (length contents.bytes) h),
  ap (λ t. cond t ((length contents.bytes + 4095) / 4096 - size / 4096) 0) (le-ltb size (length contents.bytes) h),
)
