-- The word that tells a refusal: its name in small letters.
use Rattle.std.specs.Prelude.{ℕ, List, codes}
use Rattle.fx_plain.specs.Words.{refusal_word}
use Rattle.fx_steps.specs.declared.refusal.StepRefusal.{StepRefusal}
use Rattle.fx_steps.specs.declared.refusal.StepRefusal.TheVariants.{Basic, NotEmpty, NoAttr, IntoItself, CrossVolume, TooBig}

abbrev pub step_refusal_word : StepRefusal → List ℕ
step_refusal_word (Basic refusal) = refusal_word refusal
step_refusal_word NotEmpty = codes "notempty"
step_refusal_word NoAttr = codes "noattr"
step_refusal_word IntoItself = codes "intoitself"
step_refusal_word CrossVolume = codes "crossvolume"
step_refusal_word TooBig = codes "toobig"
