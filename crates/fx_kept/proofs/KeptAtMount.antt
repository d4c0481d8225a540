-- Within a mount that drops transactions: images that differ from the one at entry in superblocks and ring alone.
use Rattle.std.proofs.Common.{◌≡◌, ℕ, ◌+◌, List, ◌++◌, length, sym, ◌∙◌, arith, Option}
use Rattle.fx_uses.specs.Live.{Txn, AreNumbered, IsPut, live_after, live_from}
use Rattle.fx_kept.specs.Kept.{IsKeptUpTo}
use Rattle.fx_uses.proofs.LiveOverLists.{live_append, live_beyond, numbered_rest, numbered_least, put_more}

-- the number that is kept depends on the sums of the blocks that the stream wrote
pub kept_same : (found other : ℕ → Option ℕ) (base : ℕ) (first : ℕ → Option ℕ) (stream : List Txn) (k : ℕ) → ((n b : ℕ) → IsPut stream n b → found b ≡ other b)
    → IsKeptUpTo found base first stream k → IsKeptUpTo other base first stream k
kept_same found other base first stream k same kept = record {
  least = kept.least;
  most = kept.most;
  passes = λ b x here tested. sym (same tested.number b tested.put) ∙ kept.passes b x here tested;
  greatest = λ j lt le passes. kept.greatest j lt le (λ b x here tested. same tested.number b tested.put ∙ passes b x here tested);
}

-- and stays where those beyond it are cut off
pub kept_cut : (found : ℕ → Option ℕ) (base : ℕ) (first : ℕ → Option ℕ) (front beyond : List Txn) → AreNumbered base (front ++ beyond)
    → IsKeptUpTo found base first (front ++ beyond) (base + length front) → IsKeptUpTo found base first front (base + length front)
kept_cut found base first front beyond numbered kept = record {
  least = omega arith;
  most = omega arith;
  passes = λ b x here tested. kept.passes b x (same b ∙ here) (record { number = tested.number; most = tested.most; put = put_more front beyond tested.number b tested.put });
  greatest = λ j lt le passes. omega (arith, lt, le);
}
  where
    same : (b : ℕ) → live_after first (front ++ beyond) (base + length front) b ≡ live_after first front (base + length front) b
    same b = live_append b (base + length front) front beyond (first b)
        ∙ live_beyond b (base + length front) beyond (live_from b (base + length front) front (first b)) (numbered_least (base + length front) beyond (numbered_rest base front beyond numbered))
