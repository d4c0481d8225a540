use Rattle.std.proofs.Common.{◌≡◌, true, sym}
use Rattle.std.specs.Str.Parse.{ParsesUnsigned}
use Rattle.fx_script.proofs.Numbers.{IsUtf8-digits}
use Rattle.fxfs.specs.Command.{is_count}
use Rattle.fxfs.proofs.CommandRing.{IsCount-from_test, too_large}
use Rattle.fxfs.proofs.command.mkfs_with.Goals as goal

-- digits are UTF-8
pub returns-in_default : goal.returns-in_default
returns-in_default c =
    let count : is_count c.args.number.now ≡ true = sym c.if-not-is_count.ensures in
    absurd (c.in_default.ensures.cases.0 (IsUtf8-digits c.args.number.now (IsCount-from_test c.args.number.now count).digits))

pub returns-in_default-parse-3 : goal.returns-in_default-parse-3
returns-in_default-parse-3 c =
    let count : is_count c.args.number.now ≡ true = sym c.if-not-is_count.ensures in
    let parsed : ParsesUnsigned 32 10 c.args.number.now c.parse.result = rw c.in-Ok.ensures.cases.0 at c.parse.ensures.value.0 in
    too_large c.args.number.now c.parse.result c.in_default-parse.field-0 count parsed c.in_default-parse.is
