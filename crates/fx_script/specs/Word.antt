-- What one word of a line stands for.
use Rattle.std.specs.Prelude.{ℕ, Bool, ◌&&◌, ◌||◌, not, ◌==◌, List, [], ◌∷◌, Result, Ok, Err, if◌then◌else◌, length, nat_lt, nat_le, slice_index}
use Rattle.std.specs.List.{list_all}
use Rattle.std.specs.Char.{is_ascii_digit}
use Rattle.std.specs.Str.Parse.{digits_value}
use Rattle.percent_encoding.specs.Percent.{percent_decode}
use Rattle.fx_item.specs.Name.{is_name}
use Rattle.fx_plain.specs.declared.path.TheConstants.{MAX_NAMES}
use Rattle.fx_script.specs.declared.fault.LineFault.{LineFault}
use Rattle.fx_script.specs.declared.fault.LineFault.TheVariants.{BadPath, BadNumber, BadText}
use Rattle.fx_script.specs.Cut.{cut}

-- the greatest number of a line
abbrev pub max_number : ℕ
max_number = 4294967295

-- `0`, or digits without a leading zero
abbrev pub is_decimal : List ℕ → Bool
is_decimal word =
    nat_lt 0 (length word) && list_all is_ascii_digit word
    && (length word == 1 || not (slice_index word 0 == 48))

-- a number
abbrev pub number_in : List ℕ → Result ℕ LineFault
number_in word =
    if is_decimal word && nat_le (digits_value 10 word) max_number then Ok (digits_value 10 word)
    else Err BadNumber

-- a text of one byte or more, with each `%XX` decoded
abbrev pub text_of : List ℕ → Result (List ℕ) LineFault
text_of [] = Err BadText
text_of (b ∷ bs) = Ok (percent_decode (b ∷ bs))

-- the text, if it may name a node
abbrev pub if_name : List ℕ → Result (List ℕ) LineFault
if_name text = if is_name text then Ok text else Err BadPath

abbrev pub name_of : List ℕ → Result (List ℕ) LineFault
name_of piece = if_name (percent_decode piece)

abbrev pub in_front : Result (List ℕ) LineFault → Result (List (List ℕ)) LineFault
    → Result (List (List ℕ)) LineFault
in_front (Err fault) names = Err fault
in_front (Ok name) (Err fault) = Err fault
in_front (Ok name) (Ok names) = Ok (name ∷ names)

-- the names that the pieces stand for, if each stands for one
abbrev pub names_of : List (List ℕ) → Result (List (List ℕ)) LineFault
names_of [] = Ok []
names_of (piece ∷ pieces) = in_front (name_of piece) (names_of pieces)

-- the pieces between the slashes, of which there are not too many
abbrev pub few_names_of : List (List ℕ) → Result (List (List ℕ)) LineFault
few_names_of pieces = if nat_le (length pieces) MAX_NAMES then names_of pieces else Err BadPath

abbrev pub below_root : List ℕ → Result (List (List ℕ)) LineFault
below_root [] = Ok []
below_root (b ∷ bs) = few_names_of (cut 47 (b ∷ bs))

-- a path: `/`, the root, or 1 to 64 times `/` and a name, which is decoded once the path is cut
abbrev pub path_of : List ℕ → Result (List (List ℕ)) LineFault
path_of [] = Err BadPath
path_of (b ∷ bs) = if b == 47 then below_root bs else Err BadPath
