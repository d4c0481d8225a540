-- Blocks of one more epoch after blocks of earlier ones: their bytes are one more text at the end.
use Rattle.std.proofs.Common.{◌≡◌, ◌≢◌, ℕ, ◌+◌, ◌<◌, ◌≤◌, Bool, true, false, cond, eqb, List, [], ◌∷◌, ◌++◌, map, refl, sym, ap, subst, ◌∙◌, append-nil, append_assoc, arith}
use Rattle.std.specs.Prelude.{All}
use Rattle.std.specs.List.{concat}
use Rattle.std.proofs.lemmas.Bool.{eq-eqb, ne_eqb}
use Rattle.std.proofs.lemmas.List.{map-append}
use Rattle.std.proofs.lemmas.List.Elements.{All-nil, All-cons, All-head, All-tail, All-weaker}
use Rattle.fx_record.specs.Record.{PlainRecord, IsRecord, record_bytes}
use Rattle.fx_record.specs.Reading.{IsCut}
use Rattle.fx_record.specs.Txns.{onto, runs, epoch_texts, all_bytes, Front, Nothing, First, Dropped}
use Rattle.fx_record.specs.Commits.{records_bytes, blocks_of, AreBefore, AreOf}

abbrev Blocks : Type 0
Blocks = List (ℕ × List ℕ)

-- ---- one more text

run_of : (epoch : ℕ) (block : ℕ × List ℕ) (more : Blocks) → AreOf epoch (block ∷ more) → runs (block ∷ more) ≡ (epoch, all_bytes (block ∷ more)) ∷ []
run_of epoch block [] h =
    let here = All-head (λ (b : ℕ × List ℕ). b.0 ≡ epoch) block [] h in
    ap (λ (n : ℕ). let alone : Blocks = (n, block.1) ∷ [] in alone) here ∙ ap (λ (w : List ℕ). let alone : Blocks = (epoch, w) ∷ [] in alone) (sym (append-nil block.1))
run_of epoch block (next ∷ more) h =
    let here = All-head (λ (b : ℕ × List ℕ). b.0 ≡ epoch) block (next ∷ more) h in
    let after = run_of epoch next more (All-tail (λ (b : ℕ × List ℕ). b.0 ≡ epoch) block (next ∷ more) h) in
    let test : eqb block.0 epoch ≡ true = eq-eqb block.0 epoch here in
    ap (onto block) after ∙ rw test (ap (λ (n : ℕ). let joined : Blocks = (n, block.1 ++ all_bytes (next ∷ more)) ∷ [] in joined) here)

onto_before : (block run : ℕ × List ℕ) (rest : Blocks) → block.0 ≢ run.0 → onto block (rest ++ run ∷ []) ≡ onto block rest ++ run ∷ []
onto_before block run [] other = rw (ne_eqb block.0 run.0 other) refl
onto_before block run (next ∷ rest) other =
    elim (eqb block.0 next.0) as (λ (t : Bool). cond t ((block.0, block.1 ++ next.1) ∷ (rest ++ run ∷ [])) (block ∷ next ∷ (rest ++ run ∷ [])) ≡ cond t ((block.0, block.1 ++ next.1) ∷ rest) (block ∷ next ∷ rest) ++ run ∷ []) [
      | true ↦ refl
      | false ↦ refl
    ]

runs_more : (epoch : ℕ) (read : Blocks) (block : ℕ × List ℕ) (more : Blocks) → AreBefore epoch read → AreOf epoch (block ∷ more) → runs (read ++ block ∷ more) ≡ runs read ++ (epoch, all_bytes (block ∷ more)) ∷ []
runs_more epoch [] block more before of = run_of epoch block more of
runs_more epoch (first ∷ read) block more before of =
    let here = All-head (λ (b : ℕ × List ℕ). b.0 < epoch) first read before in
    let after = runs_more epoch read block more (All-tail (λ (b : ℕ × List ℕ). b.0 < epoch) first read before) of in
    ap (onto first) after ∙ onto_before first (epoch, all_bytes (block ∷ more)) (runs read) (λ e. omega (arith, here, e))

pub texts_more : (epoch : ℕ) (read : Blocks) (block : ℕ × List ℕ) (more : Blocks) → AreBefore epoch read → AreOf epoch (block ∷ more) → epoch_texts (read ++ block ∷ more) ≡ epoch_texts read ++ all_bytes (block ∷ more) ∷ []
texts_more epoch read block more before of =
    ap (map (λ (run : ℕ × List ℕ). run.1)) (runs_more epoch read block more before of) ∙ map-append (λ (run : ℕ × List ℕ). run.1) (runs read) ((epoch, all_bytes (block ∷ more)) ∷ [])

pub are_of : (epoch : ℕ) (ts : List (List ℕ)) → AreOf epoch (blocks_of epoch ts)
are_of epoch [] = All-nil (λ (b : ℕ × List ℕ). b.0 ≡ epoch)
are_of epoch (t ∷ ts) = All-cons (λ (b : ℕ × List ℕ). b.0 ≡ epoch) (epoch, t) (blocks_of epoch ts) refl (are_of epoch ts)

pub bytes_are : (epoch : ℕ) (ts : List (List ℕ)) → all_bytes (blocks_of epoch ts) ≡ concat ts
bytes_are epoch [] = refl
bytes_are epoch (t ∷ ts) = ap (λ (w : List ℕ). t ++ w) (bytes_are epoch ts)

pub as_texts : (epoch : ℕ) (blocks : Blocks) → AreOf epoch blocks → blocks ≡ blocks_of epoch (map (λ (b : ℕ × List ℕ). b.1) blocks)
as_texts epoch [] h = refl
as_texts epoch (block ∷ blocks) h =
    ap (λ (w : Blocks). block ∷ w) (as_texts epoch blocks (All-tail (λ (b : ℕ × List ℕ). b.0 ≡ epoch) block blocks h))
    ∙ ap (λ (n : ℕ). (n, block.1) ∷ blocks_of epoch (map (λ (b : ℕ × List ℕ). b.1) blocks)) (All-head (λ (b : ℕ × List ℕ). b.0 ≡ epoch) block blocks h)

-- epochs up to one are before the next
pub before_next : (epoch : ℕ) (blocks : Blocks) → All (λ b. b.0 ≤ epoch) blocks → AreBefore (epoch + 1) blocks
before_next epoch blocks all = All-weaker (λ (b : ℕ × List ℕ). b.0 ≤ epoch) (λ (b : ℕ × List ℕ). b.0 < epoch + 1) (λ b le. omega arith) blocks all

-- ---- the records in it

pub front_before : {a end : List (List ℕ)} {xs : List PlainRecord} (b : List (List ℕ)) → Front a xs end → Front (a ++ b) xs (end ++ b)
front_before b Nothing = Nothing
front_before b (First h e p) = First h e (front_before b p)
front_before b (Dropped cut p) = Dropped cut (front_before b p)

pub records_front : (records : List PlainRecord) (text tail : List ℕ) → All IsRecord records → text ≡ records_bytes records ++ tail → IsCut tail → Front (text ∷ []) records []
records_front [] text tail h e cut = Dropped (subst IsCut (sym e) cut) Nothing
records_front (x ∷ records) text tail h e cut =
    First (All-head IsRecord x records h) (e ∙ append_assoc (record_bytes x) (records_bytes records) tail) (records_front records (records_bytes records ++ tail) tail (All-tail IsRecord x records h) refl cut)
