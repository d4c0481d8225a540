-- The contents of a file once a text is written.
use Rattle.std.proofs.Common.{◌≡◌, ◌≢◌, ℕ, suc, ◌+◌, ◌-◌, ◌/◌, Bool, true, false, List, [], ◌∷◌, ◌++◌, length, take, drop, replicate, refl, ap, subst, ◌∙◌, arith, length-append}
use Rattle.std.proofs.Math.ListN.{length-replicate}
use Rattle.std.specs.List.{range_with_len}
use Rattle.std.specs.FinSet as set
use Rattle.fx_plain.specs.Node.{grown, overwritten, written}
use Rattle.fx_base.specs.declared.block.TheConstants.{BLOCK_BYTES}
use Rattle.fx_plain.specs.Memory.{marked}
use Rattle.fx_plain.proofs.Marks.{marked-append, marked-set}

marks_added : (first n : ℕ) (marks : List Bool) → (let more = marks ++ replicate (first + n - length marks) false in
    marked (take first more ++ replicate (first + n - first) true ++ drop (first + n) more) ≡ set.union (marked marks) (set.from_list (range_with_len first n)))
marks_added first n marks =
    let k : first + n - first ≡ n = omega arith in
    let more = marks ++ replicate (first + n - length marks) false in
    ap (λ m. marked (take first more ++ replicate m true ++ drop (first + n) more)) k
    ∙ marked-set first n more (simp (length-append, length-replicate) (omega arith))
    ∙ ap (λ held. set.union held (set.from_list (range_with_len first n))) (marked-append marks (first + n - length marks))

-- what is seen of the bytes and the marks once a text is put at `at`, where `past` is the first block past it
pub write_seen : (at : ℕ) (text bytes : List ℕ) (marks : List Bool) (past : ℕ) → text ≢ [] → past ≡ (at + length text - 1) / BLOCK_BYTES + 1
    → (let more = marks ++ replicate (past - length marks) false in
    record { bytes = overwritten at text (grown (at + length text) bytes); held = marked (take (at / BLOCK_BYTES) more ++ replicate (past - at / BLOCK_BYTES) true ++ drop past more) })
    ≡ written at text (record { bytes = bytes; held = marked marks })
write_seen at [] bytes marks past some e = absurd (some refl)
write_seen at (b ∷ bs) bytes marks past some e =
    let n = (at + length bs) / BLOCK_BYTES + 1 - at / BLOCK_BYTES in
    let last : at + suc (length bs) - 1 ≡ at + length bs = omega arith in
    let ends : past ≡ (at + length bs) / BLOCK_BYTES + 1 = rw last at e in
    let spans : at / BLOCK_BYTES + n ≡ past = omega arith in
    subst (λ p. (let more = marks ++ replicate (p - length marks) false in
    record { bytes = overwritten at (b ∷ bs) (grown (at + suc (length bs)) bytes); held = marked (take (at / BLOCK_BYTES) more ++ replicate (p - at / BLOCK_BYTES) true ++ drop p more) }) ≡ written at (b ∷ bs) (record { bytes = bytes; held = marked marks }))
    spans (λ i. record { bytes = overwritten at (b ∷ bs) (grown (at + suc (length bs)) bytes); held = marks_added (at / BLOCK_BYTES) n marks i })
