-- A run with one more block.
use Rattle.std.proofs.Common.{◌≡◌, ℕ, ◌+◌, List, [], ◌∷◌, ◌++◌, Some, length, sym, subst, ap, ◌∙◌}
use Rattle.std.proofs.lemmas.List.{length-append}
use Rattle.fx_jblock.specs.declared.Start.{Start}
use Rattle.fx_journal.specs.declared.stream.StreamBlock.{StreamBlock}
use Rattle.fx_journal.specs.Stream.{IsNext, IsRun, StandsAs, bytes_for, place_after}
use Rattle.fx_journal.proofs.Runs.{run_more}

pub run_stepped : (contents : List (List ℕ)) (ring generation : ℕ) (start place after : Start) (blocks longer : List StreamBlock) (found : StreamBlock) (bytes : List ℕ)
    → bytes ≡ bytes_for contents ring place.sequence → IsNext bytes generation place (Some (found, after)) → longer ≡ blocks ++ found ∷ [] → IsRun contents ring generation start blocks place
    → IsRun contents ring generation start longer after × (length longer ≡ length blocks + 1) × (after.sequence ≡ place.sequence + 1)
run_stepped contents ring generation start place after blocks longer found bytes here next more run = (
  subst (λ (p : Start). IsRun contents ring generation start longer p) (sym next.1)
      (subst (λ (l : List StreamBlock). IsRun contents ring generation start l (place_after place found)) (sym more) (run_more contents ring generation start place blocks found run (subst (λ b. StandsAs b generation place found) here next.0))),
  ap length more ∙ length-append blocks (found ∷ []),
  ap (λ (p : Start). p.sequence) next.1,
)
