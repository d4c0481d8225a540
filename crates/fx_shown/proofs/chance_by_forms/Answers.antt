use Rattle.fx_shown.proofs.ChanceForms.{chance-from_forms, forms-from_chance}
use Rattle.fx_shown.proofs.chance_by_forms.Goals as goal

pub returns : goal.returns
returns c = record {
  runs = λ before now generation image h. chance-from_forms before now generation image h;
  forms = λ before now generation image h. forms-from_chance before now generation image h;
}
