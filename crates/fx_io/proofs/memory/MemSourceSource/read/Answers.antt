use Rattle.std.proofs.Common.{rules, ◌≡◌, ◌∙◌, ℕ, List, sym, ap, arith, length, take, drop, length-take, ◌+◌}
use Rattle.std.proofs.lemmas.List.{drop_all, length-drop}
use Rattle.fx_io.specs.Memory.{MemorySource}
use Rattle.fx_io.proofs.Pieces.{memory_gives}
use Rattle.fx_io.proofs.memory.MemSourceSource.read.Goals as goal

pub returns-clause-gives : goal.returns-clause-gives
returns-clause-gives c =
    let text : List ℕ = c.self.inside.text.items in
    let given : ℕ = c.self.inside.given in
    let count : ℕ = c.min-count.result in
    let into : List ℕ = c.args.into.now in
    let copied : List ℕ = c.copy_from_slice.new.self in
    let left : drop given text ≡ c.args.self.now.left = ap (λ (v : MemorySource). v.left) c.self.view_is in
    let rest : c.split_at.result.1.now ≡ drop given text = c.split_at.ensures.back ∙ ap (drop given) c.as_slice.ensures.value in
    let long : length copied ≡ count = omega (arith, length-take count into) in
    record {
      count = search rules;
      within = search rules;
      gives = sym left ∙ memory_gives text into copied given count (c.copy_from_slice.ensures.after ∙ ap (take count) rest) long;
      ended = λ e. drop_all (given + count) text (omega (arith, e, long, length-drop given text, ap length rest));
    }
