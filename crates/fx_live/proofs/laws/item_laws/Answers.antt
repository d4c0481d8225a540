use Rattle.std.proofs.Common.{◌≡◌, ◌∙◌, ◌&&◌, Bool, true, false, refl, sym}
use Rattle.std.specs.List.{flat_map}
use Rattle.fx_verify.specs.Kept.{block_sums_of, is_taken_by}
use Rattle.fx_live.specs.Live.{states}
use Rattle.fx_live.proofs.Stated.{freed_says, says_freed, says_stated, says_taken, stated_says, taken_says, written_states}
use Rattle.fx_live.proofs.laws.item_laws.Goals as goal

pub returns-clause-taken : goal.returns-clause-taken
returns-clause-taken c = λ items block o. (taken_says items block o, says_taken items block o)

pub returns-clause-freed : goal.returns-clause-freed
returns-clause-freed c = λ items block o. (freed_says items block o, says_freed items block o)

both : (a c : Bool) → (a && c) ≡ true → (a ≡ true) × (c ≡ true)
both true c e = (refl, e)
both false c e = absurd (let q : false ≡ true = e in cc)

pub returns-clause-written : goal.returns-clause-written
returns-clause-written c = λ items block sum o. (
  λ e. let r = both (is_taken_by items block) (states (flat_map block_sums_of items) block sum) (sym (written_states items block sum) ∙ e) in
      (taken_says items block o r.0, stated_says items block sum o r.1),
  λ r. written_states items block sum ∙ (λ j. says_taken items block o r.0 j && says_stated items block sum o r.1 j),
)
