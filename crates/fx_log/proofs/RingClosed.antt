-- The blocks that a session closes.
use Rattle.std.proofs.Common.{◌≡◌, ℕ, zero, suc, ◌+◌, ◌-◌, ⊎_elim, List, [], ◌∷◌, ◌++◌, length, get_or, refl, sym, subst, ◌∙◌, arith}
use Rattle.std.specs.Prelude.{All}
use Rattle.std.proofs.lemmas.Bool.{cases_lt}
use Rattle.std.proofs.lemmas.List.{length-append, get_or_append_left, get_or-append_right, get_or-append-add}
use Rattle.fx_disk.specs.Record.{DiskRecord}
use Rattle.fx_super.specs.Super.{Fields, KeepsRules}
use Rattle.fx_jblock.specs.declared.Start.{Start}
use Rattle.fx_pool.specs.Region.{Region, Run}
use Rattle.fx_journal.specs.declared.stream.StreamBlock.{StreamBlock}
use Rattle.fx_journal.specs.Ring.{Queued, IsLinked, AreHeld, first_chain}
use Rattle.fx_journal.proofs.Runs.{run_next}
use Rattle.fx_log.specs.Chosen.{start_of}
use Rattle.fx_log.specs.Ring.{BeganWith, HasRecords}

-- lists of blocks that follow each other, joined and cut
pub first_chain-joined : (xs ys : List Queued) (chain : ℕ) → first_chain (xs ++ ys) chain ≡ first_chain xs (first_chain ys chain)
first_chain-joined [] ys chain = refl
first_chain-joined (x ∷ xs) ys chain = refl

pub linked-joined : (epoch n : ℕ) (xs ys : List Queued) (chain : ℕ) → IsLinked epoch n xs (first_chain ys chain) → IsLinked epoch (n + length xs) ys chain → IsLinked epoch n (xs ++ ys) chain
linked-joined epoch n [] ys chain front back = subst (λ (k : ℕ). IsLinked epoch k ys chain) (omega arith) back
linked-joined epoch n (x ∷ xs) ys chain front back = (
  front.0,
  first_chain-joined xs ys chain ∙ front.1,
  linked-joined epoch (n + 1) xs ys chain front.2 (subst (λ (k : ℕ). IsLinked epoch k ys chain) (omega arith) back),
)

pub linked-front : (epoch n : ℕ) (xs ys : List Queued) (chain : ℕ) → IsLinked epoch n (xs ++ ys) chain → IsLinked epoch n xs (first_chain ys chain)
linked-front epoch n [] ys chain linked = tt
linked-front epoch n (x ∷ xs) ys chain linked = (linked.0, sym (first_chain-joined xs ys chain) ∙ linked.1, linked-front epoch (n + 1) xs ys chain linked.2)

pub linked-back : (epoch n : ℕ) (xs ys : List Queued) (chain : ℕ) → IsLinked epoch n (xs ++ ys) chain → IsLinked epoch (n + length xs) ys chain
linked-back epoch n [] ys chain linked = subst (λ (k : ℕ). IsLinked epoch k ys chain) (omega arith) linked
linked-back epoch n (x ∷ xs) ys chain linked = subst (λ (k : ℕ). IsLinked epoch k ys chain) (omega arith) (linked-back epoch (n + 1) xs ys chain linked.2)

-- blocks that wait in a queue have as many record bytes as they may have
pub records-held : (region : Region) (epoch : ℕ) (runs : List Run) (queue : List Queued) → AreHeld region epoch runs queue → All HasRecords queue
records-held region epoch runs [] h k d lt = absurd (omega arith)
records-held region epoch [] (q ∷ qs) h k d lt = absurd h
records-held region epoch (run ∷ runs) (q ∷ qs) h zero d lt = record { filled = h.0.filled; room = h.0.room }
records-held region epoch (run ∷ runs) (q ∷ qs) h (suc k) d lt = records-held region epoch runs qs h.1 k d (omega arith)

pub records-joined : (xs ys : List Queued) → All HasRecords xs → All HasRecords ys → All HasRecords (xs ++ ys)
records-joined xs ys front back k d lt = ⊎_elim
    (λ less. subst HasRecords (sym (get_or_append_left xs ys d k less)) (front k d less))
    (λ more. subst HasRecords (sym (get_or-append_right xs ys (length xs) k d refl more)) (back (k - length xs) d (omega (arith, length-append xs ys, lt))))
    (cases_lt k (length xs))

pub records-back : (xs ys : List Queued) → All HasRecords (xs ++ ys) → All HasRecords ys
records-back xs ys records k d lt =
    let at : get_or (xs ++ ys) (length xs + k) d ≡ get_or ys k d = get_or-append-add xs ys k d in
    subst HasRecords at (records (length xs + k) d (omega (arith, length-append xs ys, lt)))

-- what the disk began with
pub rules-begun : (r : DiskRecord) (from : ℕ) (f : Fields) (image : List (List ℕ)) (read : List StreamBlock) (place : Start) → BeganWith r from f image read place → KeepsRules f
rules-begun r from f image read place began = began.chosen.1.is_super.rules

pub place-begun : (r : DiskRecord) (from : ℕ) (f : Fields) (image : List (List ℕ)) (read : List StreamBlock) (place : Start) → BeganWith r from f image read place → place.sequence ≡ f.sequence + length read
place-begun r from f image read place began = run_next image f.ring f.generation (start_of f) place read began.stream.run

-- the chain after blocks that follow each other is known from the last of them
pub one_chain : (epoch m n : ℕ) (q : Queued) (qs : List Queued) (c d : ℕ) → IsLinked epoch m (q ∷ qs) c → IsLinked epoch n (q ∷ qs) d → c ≡ d
one_chain epoch m n q [] c d one other = one.1 ∙ sym other.1
one_chain epoch m n q (p ∷ ps) c d one other = one_chain epoch (m + 1) (n + 1) p ps c d one.2 other.2
