-- An image shows one base count, one value at each point, and one list of transactions.
use Rattle.std.proofs.Common.{◌≡◌, ℕ, List, sym, subst, ◌∙◌, ap, arith}
use Rattle.fx_contents.specs.Points.{Points}
use Rattle.fx_super.specs.Super.{Fields}
use Rattle.fx_super.proofs.Chosen.{one_chosen}
use Rattle.fx_jblock.specs.declared.Start.{Start}
use Rattle.fx_journal.specs.declared.stream.StreamBlock.{StreamBlock}
use Rattle.fx_journal.specs.Stream.{IsStream}
use Rattle.fx_journal.proofs.Runs.{one_stream}
use Rattle.fx_record.specs.Txns.{IsTxns}
use Rattle.fx_record.proofs.Fronts.{one_answer}
use Rattle.fx_log.specs.Chosen.{ChoosesSuper, start_of}
use Rattle.fx_logcuts.specs.Cuts.{pieces_in}
use Rattle.fx_cuts.specs.Joined.{NumberedItems}
use Rattle.fx_shown.specs.Meanings.{LayerReading, ShowsTxns, LayersSayOne}

module _ (l : LayerReading) (image : List (List ℕ)) where
  one-with : (f : Fields) → ChoosesSuper f image → (xs ys : List StreamBlock) (m n : Start) → IsStream image f.ring f.generation (start_of f) xs m → IsStream image f.ring f.generation (start_of f) ys n
      → (ts us : NumberedItems) → IsTxns f.base (pieces_in xs) ts → IsTxns f.base (pieces_in ys) us → ts ≡ us
  one-with f chosen xs ys m n a b ts us p q =
      let rules = chosen.1.is_super.rules in
      let same : xs ≡ ys = (one_stream image f.ring f.generation (start_of f) m n xs ys (omega (arith, rules.generation_most)) (omega (arith, rules.sequence_below, rules.ring_most)) a b).0 in
      one_answer f.base (pieces_in ys) ts us (subst (λ (zs : List StreamBlock). IsTxns f.base (pieces_in zs) ts) same p) q

  pub one-shown : LayersSayOne l → (b c : ℕ) (p q : Points) (ts us : NumberedItems) → ShowsTxns l image b p ts → ShowsTxns l image c q us → (b ≡ c) × (p ≡ q) × (ts ≡ us)
  one-shown one b c p q ts us x y =
      let same : y.super ≡ x.super = (one_chosen image y.chosen.0 x.chosen.0 y.super x.super y.chosen.1 x.chosen.1).1 in
      let bases : c ≡ x.super.base = sym y.base_is ∙ ap (λ (f : Fields). f.base) same in (
        sym x.base_is ∙ sym bases,
        one image x.super p q x.layers (subst (λ (f : Fields). l.LayersSay image f q) same y.layers),
        one-with x.super x.chosen x.stream y.stream x.next y.next x.stream_is
            (subst (λ (f : Fields). IsStream image f.ring f.generation (start_of f) y.stream y.next) same y.stream_is) ts us
            (subst (λ (n : ℕ). IsTxns n (pieces_in x.stream) ts) (sym x.base_is) x.txns_are)
            (subst (λ (n : ℕ). IsTxns n (pieces_in y.stream) us) bases y.txns_are),
      )
