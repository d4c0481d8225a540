use Rattle.std.proofs.Common.{rules, ◌≡◌, ◌<◌, ◌^◌, ℕ, List, [], ◌∷◌, ◌++◌, length, take, drop, sym, ap, subst, ◌∙◌, arith}
use Rattle.std.specs.Prelude.{slice_index}
use Rattle.fx_layfile.specs.Block.{index_bytes}
use Rattle.fx_layfile.specs.Writing.{WriterState, first_named, waiting_block, HasWrittenLayer}
use Rattle.fx_layfile.specs.declared.block.Block.{Block}
use Rattle.fx_layfile.proofs.Written.{waiting_given, index_given}
use Rattle.fx_layfile.proofs.writer.LayerWriter.finish.Goals as goal

pub returns-then-self-gt0-clause-written : goal.returns-then-self-gt0-clause-written
returns-then-self-gt0-clause-written c = λ items before h.
    let s : WriterState = c.args.self.now in
    let given : c.data_block-given.result ≡ waiting_block s c.args.at = search rules in
    let text : length c.self.inside.text.items ≡ length s.text = ap (λ (v : WriterState). length v.text) c.self.view_is in
    let count : c.self.inside.count ≡ s.count = ap (λ (v : WriterState). v.count) c.self.view_is in
    let made = waiting_given s items before h c.args.at (omega (arith, text, c.self.invariant.1)) (omega (arith, count, c.if-self-gt0.true)) in
    let empty : c.clear.new.self.items ≡ [] = search rules in
    let pushed : c.push.new.self.items ≡ c.self.inside.waiting.items ++ c.args.at ∷ [] = search rules in
    let state = ap (λ (v : WriterState). let w : WriterState = record v { count = 0; text = []; waiting = v.waiting ++ c.args.at ∷ [] } in w) (sym c.self.view_is)
    ∙ ap (λ (t : List ℕ). let w : WriterState = record { tree = c.self.inside.tree; next = c.self.inside.next; count = 0; text = t; waiting = c.self.inside.waiting.items ++ c.args.at ∷ [] } in w) (sym empty)
    ∙ ap (λ (t : List ℕ). let w : WriterState = record { tree = c.self.inside.tree; next = c.self.inside.next; count = 0; text = c.clear.new.self.items; waiting = t } in w) (sym pushed) in
    subst (λ (w : WriterState). HasWrittenLayer w items (before ++ c.data_block-given.result ∷ [])) state
    (subst (λ (b : Block). HasWrittenLayer (record s { count = 0; text = []; waiting = s.waiting ++ c.args.at ∷ [] }) items (before ++ b ∷ [])) (sym given) made)

pub returns-then-len-gt0-clause-written : goal.returns-then-len-gt0-clause-written
returns-then-len-gt0-clause-written c = λ items before h.
    let v : WriterState = record { tree = c.self.inside.tree; next = c.self.inside.next; count = c.self.inside.count; text = c.self.inside.text.items; waiting = c.self.inside.waiting.items } in
    let from : ℕ = first_named c.self.inside.waiting.items in
    let h' : HasWrittenLayer v items before = subst (λ (w : WriterState). HasWrittenLayer w items before) (sym c.self.view_is) h in
    let given = c.index_block-given.ensures.block in
    let waiting_is = c.deref-then-len-gt0.ensures.value in
    let bytes = ap (λ (b : Block). b.bytes) given ∙ ap (λ (w : List ℕ). index_bytes c.self.inside.tree c.self.inside.next (drop (first_named w) w)) waiting_is in
    let fits = subst (λ (w : List ℕ). (i : ℕ) → slice_index (drop (first_named w) w) i < 2 ^ 32) waiting_is c.index_block-given.ensures.fits in
    let made = index_given v items before c.args.at c.index_block-given.result h' (search rules) (search rules) c.requires.named (search rules) (search rules) fits (ap (λ (b : Block). b.at) given) bytes in
    let left : c.truncate.new.self.items ≡ take from c.self.inside.waiting.items = search rules in
    subst (λ (t : List ℕ). HasWrittenLayer (record { tree = c.self.inside.tree; next = c.args.at; count = c.self.inside.count; text = c.self.inside.text.items; waiting = t }) items (before ++ c.index_block-given.result ∷ [])) (sym left) made
