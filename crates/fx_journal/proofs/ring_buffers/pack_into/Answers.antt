use Rattle.std.proofs.Common.{rules, ◌≡◌, ℕ, ◌*◌, ◌^◌, List, length, sym, ◌∙◌, subst, ap}
use Rattle.fx_jblock.specs.Block.{Holds}
use Rattle.fx_journal.proofs.Packing.{length-held}
use Rattle.fx_journal.proofs.ring_buffers.pack_into.Goals as goal

pub returns-clause-holds : goal.returns-clause-holds
returns-clause-holds c =
    let len : length c.pack.new.into ≡ 4096 * 2 ^ c.args.buffer.now.order = length-held c.pack.new.into c.args.sequence c.args.epoch c.args.chain c.args.text.now c.pack.ensures.holds ∙ ap (λ k. 4096 * 2 ^ k) (sym c.requires.single) in
    subst (λ (b : List ℕ). Holds b c.args.sequence c.args.epoch c.args.chain c.args.text.now)
    (sym (c.written_buffers.ensures.held c.args.pool.now c.args.buffer.now c.pack.new.into c.requires.sound c.requires.out len)) c.pack.ensures.holds

pub returns-clause-wrote : goal.returns-clause-wrote
returns-clause-wrote c =
    let len : length c.pack.new.into ≡ 4096 * 2 ^ c.args.buffer.now.order = length-held c.pack.new.into c.args.sequence c.args.epoch c.args.chain c.args.text.now c.pack.ensures.holds ∙ ap (λ k. 4096 * 2 ^ k) (sym c.requires.single) in
    record {
      others = λ run out other. c.written_buffers.ensures.others c.args.pool.now c.args.buffer.now run c.pack.new.into c.requires.sound c.requires.out out other len;
      out = search rules;
      order = search rules;
      sound = c.written_buffers.ensures.sound c.args.pool.now c.args.buffer.now c.pack.new.into c.requires.sound;
    }
