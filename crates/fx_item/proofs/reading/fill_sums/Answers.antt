use Rattle.std.proofs.Common.{rules, ◌≡◌, ℕ, length, ap, ◌∙◌}
use Rattle.fx_item.specs.Reading.{numbers_in}
use Rattle.fx_item.proofs.Sums.{numbers_read}
use Rattle.fx_item.proofs.reading.fill_sums.Goals as goal

pub returns : goal.returns
returns c =
    let same : length c.read_u64_into.new.dst ≡ length c.args.sums.now = search rules in
    numbers_read c.read_u64_into.new.dst c.args.bytes.now c.read_u64_into.ensures
    ∙ ap (λ (n : ℕ). numbers_in n c.args.bytes.now) same
