use Rattle.std.proofs.Common.{rules, ◌≡◌, ◌+◌, ◌<◌, ◌≤◌, ℕ, List, [], ◌∷◌, ◌++◌, length, true, false, sym, ap, subst, ◌∙◌, arith}
use Rattle.std.proofs.lemmas.Bool.{le-leb, lt-leb}
use Rattle.fx_item.specs.Item.{PlainItem, item_of, item_bytes}
use Rattle.fx_layfile.specs.Writing.{WriterState, has_place, waiting_block, HasWrittenLayer}
use Rattle.fx_layfile.specs.declared.block.Block.{Block}
use Rattle.fx_layfile.proofs.Written.{item_added, item_given, some_wait, some_bytes}
use Rattle.fx_layfile.proofs.writer.LayerWriter.add.Goals as goal

pub returns-then-len-encoded_len-le-ROOM_BYTES-clause-written : goal.returns-then-len-encoded_len-le-ROOM_BYTES-clause-written
returns-then-len-encoded_len-le-ROOM_BYTES-clause-written c = λ items before h.
    let s : WriterState = c.args.self.now in
    let x : PlainItem = item_of c.args.item.now in
    let text : length c.self.inside.text.items ≡ length s.text = ap (λ (v : WriterState). length v.text) c.self.view_is in
    let fits : has_place s x ≡ true = le-leb (length s.text + length (item_bytes x)) 4072 (omega (arith, text, c.encoded_len.ensures.len)) in
    let made = item_added s items before x h c.requires.open c.requires.good fits in
    let bytes : c.encode.new.into.items ≡ c.self.inside.text.items ++ item_bytes x = search rules in
    let state = ap (λ (v : WriterState). let w : WriterState = record v { count = v.count + 1; text = v.text ++ item_bytes x } in w) (sym c.self.view_is)
    ∙ ap (λ (t : List ℕ). let w : WriterState = record { tree = c.self.inside.tree; next = c.self.inside.next; count = c.self.inside.count + 1; text = t; waiting = c.self.inside.waiting.items } in w) (sym bytes) in
    subst (λ (w : WriterState). HasWrittenLayer w (items ++ x ∷ []) (before ++ [])) state made

pub returns-clause-written : goal.returns-clause-written
returns-clause-written c = λ items before h.
    let s : WriterState = c.args.self.now in
    let x : PlainItem = item_of c.args.item.now in
    let given : c.data_block-given.result ≡ waiting_block s c.args.at = search rules in
    let text : length c.self.inside.text.items ≡ length s.text = ap (λ (v : WriterState). length v.text) c.self.view_is in
    let over : 4072 < length s.text + length (item_bytes x) = omega (arith, text, c.encoded_len.ensures.len) in
    let full : has_place s x ≡ false = lt-leb (length s.text + length (item_bytes x)) 4072 over in
    let some : 0 < s.count = some_wait s items before (length (item_bytes x)) h over (omega (arith, c.encoded_len.ensures.len, c.encoded_len.ensures.most)) in
    let room : length s.text ≤ 4072 = omega (arith, text, c.self.invariant.1) in
    let made = item_given s items before h c.args.at room some x c.requires.good c.requires.open full (some_bytes x) in
    let bytes : c.encode-2.new.into.items ≡ item_bytes x = search rules in
    let pushed : c.push.new.self.items ≡ c.self.inside.waiting.items ++ c.args.at ∷ [] = search rules in
    let state = ap (λ (v : WriterState). let w : WriterState = record v { count = 1; text = item_bytes x; waiting = v.waiting ++ c.args.at ∷ [] } in w) (sym c.self.view_is)
    ∙ ap (λ (t : List ℕ). let w : WriterState = record { tree = c.self.inside.tree; next = c.self.inside.next; count = 1; text = t; waiting = c.self.inside.waiting.items ++ c.args.at ∷ [] } in w) (sym bytes)
    ∙ ap (λ (t : List ℕ). let w : WriterState = record { tree = c.self.inside.tree; next = c.self.inside.next; count = 1; text = c.encode-2.new.into.items; waiting = t } in w) (sym pushed) in
    subst (λ (w : WriterState). HasWrittenLayer w (items ++ x ∷ []) (before ++ c.data_block-given.result ∷ [])) state
    (subst (λ (b : Block). HasWrittenLayer (record s { count = 1; text = item_bytes x; waiting = s.waiting ++ c.args.at ∷ [] }) (items ++ x ∷ []) (before ++ b ∷ [])) (sym given) made)
