-- No block by chance, said of forms and of superblocks and streams.
use Rattle.std.proofs.Common.{ℕ, List, refl, subst}
use Rattle.fx_disk.specs.Record.{Cell}
use Rattle.fx_journal.specs.Stream.{place_of}
use Rattle.fx_uses.specs.Uses.{image_block}
use Rattle.fx_log.specs.Chance.{NotByChance, IsTrueBlock}
use Rattle.fx_kept.specs.Chance.{HasMeantForms}
use Rattle.fx_shown.specs.Forms.{StandsInStream, log_forms}

module _ (before now : ℕ → Cell) (generation : ℕ) (image : List (List ℕ)) where
  pub chance-from_forms : HasMeantForms log_forms before now generation image → NotByChance before now generation image
  chance-from_forms h = record {
    supers = record { supers = λ b lt loose passes. h.supers b lt loose passes };
    stream = λ f blocks place block chosen run few stands.
        let here : StandsInStream image (place_of f.ring place.sequence) block.epoch =
        record { super = f; chosen = chosen; blocks = blocks; place = place; run = run; few = few; block = block; stands = stands; here = refl; epoch_is = refl } in
        record {
          torn = λ loose. h.stream (place_of f.ring place.sequence) block.epoch here loose;
          old = λ old. h.epochs (place_of f.ring place.sequence) block.epoch here old;
        };
  }

  true-block : (h : NotByChance before now generation image) (b epoch : ℕ) (s : StandsInStream image b epoch) → IsTrueBlock (before b) (now b) generation (image_block image b) epoch
  true-block h b epoch s =
      subst (λ (e : ℕ). IsTrueBlock (before b) (now b) generation (image_block image b) e) s.epoch_is
      (subst (λ (c : ℕ). IsTrueBlock (before c) (now c) generation (image_block image c) s.block.epoch) s.here
      (h.stream s.super s.blocks s.place s.block s.chosen s.run s.few s.stands))

  pub forms-from_chance : NotByChance before now generation image → HasMeantForms log_forms before now generation image
  forms-from_chance h = record {
    supers = λ b lt loose passes. h.supers.supers b lt loose passes;
    stream = λ b epoch s loose. (true-block h b epoch s).torn loose;
    epochs = λ b epoch s old. (true-block h b epoch s).old old;
  }
