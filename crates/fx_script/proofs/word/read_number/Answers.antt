use Rattle.std.proofs.Common.{◌≡◌, true, sym}
use Rattle.std.specs.Str.Parse.{ParsesUnsigned}
use Rattle.fx_script.specs.Word.{is_decimal}
use Rattle.fx_script.proofs.Numbers.{IsDecimal-from_test, IsUtf8-digits, too_large}
use Rattle.fx_script.proofs.word.read_number.Goals as goal

-- digits are UTF-8
pub returns-in_default : goal.returns-in_default
returns-in_default c =
    let decimal : is_decimal c.args.word.now ≡ true = sym c.if-not-is_decimal.ensures in
    absurd (c.in_default.ensures.cases.0 (IsUtf8-digits c.args.word.now (IsDecimal-from_test c.args.word.now decimal).digits))

pub returns-in-Err : goal.returns-in-Err
returns-in-Err c =
    let decimal : is_decimal c.args.word.now ≡ true = sym c.if-not-is_decimal.ensures in
    let parsed : ParsesUnsigned 32 10 c.args.word.now c.parse.result = rw c.in-Ok.ensures.cases.0 at c.parse.ensures.value.0 in
    too_large c.args.word.now c.parse.result c.in-Err.field-0 decimal parsed c.in-Err.is
