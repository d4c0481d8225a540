-- The word that tells a refusal: its name in small letters.
use Rattle.std.specs.Prelude.{ℕ, List, codes}
use Rattle.fx_plain.specs.declared.step.Refusal.{Refusal}
use Rattle.fx_plain.specs.declared.step.Refusal.TheVariants as refusals

abbrev pub refusal_word : Refusal → List ℕ
refusal_word refusals.NotFound = codes "notfound"
refusal_word refusals.NotDir = codes "notdir"
refusal_word refusals.IsDir = codes "isdir"
refusal_word refusals.Exists = codes "exists"
refusal_word refusals.NotVolume = codes "notvolume"
refusal_word refusals.TooLong = codes "toolong"
