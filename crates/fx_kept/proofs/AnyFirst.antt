-- What was live before the transactions does not matter to the number that is kept.
use Rattle.std.proofs.Common.{◌≡◌, ℕ, suc, ◌<◌, ◌≤◌, ◌&&◌, Bool, true, false, if◌then◌else◌, List, length, refl, ap, ◌∙◌, arith, ◌⊎◌, inl, inr, Option, Some, None}
use Rattle.std.specs.Prelude.{nat_le, nat_lt}
use Rattle.std.proofs.lemmas.Bool.{lt-leb}
use Rattle.fx_disk.specs.Record.{Cell}
use Rattle.fx_uses.specs.Live.{Txn, live_after}
use Rattle.fx_kept.specs.Kept.{IsTested, PassesAt, IsKeptUpTo, HasTrueBlocks, sum_found}
use Rattle.fx_uses.specs.Uses.{image_block}
use Rattle.fx_kept.proofs.VerifyKept.{written_hides}

pub tested_alike : (first other : ℕ → Option ℕ) (stream : List Txn) (k b : ℕ) → IsTested stream k b → live_after first stream k b ≡ live_after other stream k b
tested_alike first other stream k b tested = written_hides b k stream (first b) (other b) tested.put.at tested.put.txn tested.put.got (omega (arith, tested.put.number, tested.most)) tested.put.written

pub passes_alike : (found first other : ℕ → Option ℕ) (stream : List Txn) (k : ℕ) → PassesAt found first stream k → PassesAt found other stream k
passes_alike found first other stream k passes b x live tested = passes b x (tested_alike first other stream k b tested ∙ live) tested

pub kept_alike : (found : ℕ → Option ℕ) (base : ℕ) (first other : ℕ → Option ℕ) (stream : List Txn) (k : ℕ) → IsKeptUpTo found base first stream k → IsKeptUpTo found base other stream k
kept_alike found base first other stream k kept = record {
  least = kept.least;
  most = kept.most;
  passes = passes_alike found first other stream k kept.passes;
  greatest = λ j lt le passes. kept.greatest j lt le (passes_alike found other first stream j passes);
}

pub true_alike : (cells : ℕ → Cell) (first other : ℕ → Option ℕ) (stream : List Txn) (k : ℕ) (image : List (List ℕ)) → HasTrueBlocks cells first stream k image → HasTrueBlocks cells other stream k image
true_alike cells first other stream k image h b x live tested = h b x (tested_alike first other stream k b tested ∙ live) tested

-- a block outside those where data can lie has no sum
pub outside_without : (sum : List ℕ → ℕ) (first_data : ℕ) (image : List (List ℕ)) (b : ℕ) → (b < first_data) ⊎ (length image ≤ b) → sum_found sum first_data image b ≡ None
outside_without sum first_data image b (inl lt) = ap (λ (t : Bool). if t && nat_lt b (length image) then Some (sum (image_block image b)) else None) (lt-leb first_data b lt)
outside_without sum first_data image b (inr le) = by (nat_le first_data b) (nat_lt b (length image)) (lt-leb (suc b) (length image) (omega (arith, le)))
  where
    by : (s t : Bool) → t ≡ false → (if s && t then Some (sum (image_block image b)) else None) ≡ None
    by true t e = ap (λ (c : Bool). if c then Some (sum (image_block image b)) else None) e
    by false t e = refl
