-- The held blocks of a file that is cut.
use Rattle.std.proofs.Common.{◌≡◌, ◌⊎◌, inl, inr, ℕ, ◌+◌, ◌-◌, ◌*◌, ◌/◌, ◌%◌, ◌<◌, ◌≤◌, ◌&&◌, Bool, true, false, List, ◌++◌, length, take, replicate, get_or, refl, sym, ap, ◌∙◌, arith, length-take}
use Rattle.std.specs.Prelude.{nat_lt, min}
use Rattle.std.specs.Int.{div_ceil}
use Rattle.std.specs.Cmp.{nat_cmp_total}
use Rattle.std.specs.FinSet as set
use Rattle.std.proofs.lemmas.Bool.{cases_lt, lt-ltb, le-ltb}
use Rattle.std.proofs.lemmas.List.{get_or-take, get_or_past}
use Rattle.fx_base.specs.declared.block.TheConstants.{BLOCK_BYTES}
use Rattle.fx_plain.specs.Node.{Contents, grown}
use Rattle.fx_plain.specs.Memory.{marked}
use Rattle.fx_plain.proofs.Marks.{contains-marked}
use Rattle.fx_contents.specs.Cuts.{truncated}
use Rattle.fx_contents.proofs.CutFile.{contains-truncated}

and_true : (b : Bool) → b ≡ (b && true)
and_true true = refl
and_true false = refl

and_false : (b : Bool) → false ≡ (b && false)
and_false true = refl
and_false false = refl

marks_cut : (size k : ℕ) (bytes : List ℕ) (marks : List Bool) (q : ℕ) → k ≡ div_ceil size BLOCK_BYTES
    → get_or (take k marks) q false ≡ (get_or marks q false && nat_lt (q * BLOCK_BYTES) size)
marks_cut size k bytes marks q is = by (cases_lt q k)
  where
    ceil : k ≡ (size + 4095) / 4096
    ceil = is ∙ omega arith

    by : (q < k) ⊎ (k ≤ q) → get_or (take k marks) q false ≡ (get_or marks q false && nat_lt (q * BLOCK_BYTES) size)
    by (inl h) = get_or-take k marks q false h ∙ and_true (get_or marks q false) ∙ ap (λ t. get_or marks q false && t) (sym (lt-ltb (q * BLOCK_BYTES) size (omega (arith, ceil))))
    by (inr h) =
        get_or_past (take k marks) q false (omega (arith, length-take k marks))
        ∙ and_false (get_or marks q false)
        ∙ ap (λ t. get_or marks q false && t) (sym (le-ltb (q * BLOCK_BYTES) size (omega (arith, ceil))))

pub cut_seen : (size k : ℕ) (bytes : List ℕ) (marks : List Bool) (c : Contents) → record { bytes = bytes; held = marked marks } ≡ c → k ≡ div_ceil size BLOCK_BYTES
    → record { bytes = take size (grown size bytes); held = marked (take k marks) } ≡ truncated size c
cut_seen size k bytes marks c is count =
    let old : Contents = record { bytes = bytes; held = marked marks } in
    let held : marked (take k marks) ≡ (truncated size old).held = set.same_set nat_cmp_total set.nat_cmp-IsAntisymmetric _ _ (λ q.
    contains-marked (take k marks) q
    ∙ marks_cut size k bytes marks q count
    ∙ ap (λ b. b && nat_lt (q * BLOCK_BYTES) size) (sym (contains-marked marks q))
    ∙ sym (contains-truncated size old q)) in
    (λ i. record { bytes = take size (grown size bytes); held = held i }) ∙ ap (truncated size) is
