-- Names after those that were checked.
use Rattle.std.proofs.Common.{◌≡◌, ℕ, ◌<◌, ◌≤◌, Bool, true, false, cond, List, [], ◌∷◌, refl, sym, ap, ◌∙◌, length}
use Rattle.std.specs.Prelude.{Result, Ok, Err, nat_le}
use Rattle.std.proofs.lemmas.Bool.{le-leb, lt-leb, cond-true, cond-false}
use Rattle.percent_encoding.specs.Percent.{percent_decode}
use Rattle.fx_item.specs.Name.{is_name}
use Rattle.fx_plain.specs.declared.path.TheConstants.{MAX_NAMES}
use Rattle.fx_script.specs.declared.fault.LineFault.{LineFault}
use Rattle.fx_script.specs.declared.fault.LineFault.TheVariants.{BadPath}
use Rattle.fx_script.specs.Word.{in_front, names_of, few_names_of}
use Rattle.fx_script.specs.Checked.{checked, names_in}

abbrev Found : Type 0
Found = Result (List (List ℕ)) LineFault

-- the name of a piece, by whether it is one
abbrev named : Bool → List ℕ → Result (List ℕ) LineFault
named t piece = cond t (Ok (percent_decode piece)) (Err BadPath)

-- where each piece stands for a name, the names are those in the pieces
pub names_checked : (pieces : List (List ℕ)) → checked (names_of pieces) (names_in pieces) ≡ names_of pieces
names_checked [] = refl
names_checked (piece ∷ pieces) = by (is_name (percent_decode piece)) (names_of pieces) (names_checked pieces)
  where
    by : (t : Bool) (rest : Found) → checked rest (names_in pieces) ≡ rest → checked (in_front (named t piece) rest) (percent_decode piece ∷ names_in pieces) ≡ in_front (named t piece) rest
    by false rest e = refl
    by true (Ok names) e = ap (in_front (Ok (percent_decode piece))) e
    by true (Err fault) e = refl

-- one more piece stands for a name
pub one_more : (whole : List (List ℕ)) (piece : List ℕ) (pieces : List (List ℕ)) → is_name (percent_decode piece) ≡ true → checked (names_of pieces) whole ≡ checked (names_of (piece ∷ pieces)) whole
one_more whole piece pieces e = onto (names_of pieces) ∙ sym (ap (λ t. checked (in_front (named t piece) (names_of pieces)) whole) e)
  where
    onto : (rest : Found) → checked rest whole ≡ checked (in_front (Ok (percent_decode piece)) rest) whole
    onto (Ok names) = refl
    onto (Err fault) = refl

-- the next one does not
pub no_name : (whole : List (List ℕ)) (piece : List ℕ) (pieces : List (List ℕ)) → is_name (percent_decode piece) ≡ false → checked (names_of (piece ∷ pieces)) whole ≡ Err BadPath
no_name whole piece pieces e = ap (λ t. checked (in_front (named t piece) (names_of pieces)) whole) e

pub few_named : (pieces : List (List ℕ)) (found : Found) → length pieces ≤ MAX_NAMES → found ≡ names_of pieces → found ≡ few_names_of pieces
few_named pieces found few e = e ∙ sym (cond-true _ _ _ (le-leb (length pieces) MAX_NAMES few))

pub not_named : (pieces : List (List ℕ)) → Err BadPath ≡ names_of pieces → Err BadPath ≡ few_names_of pieces
not_named pieces e = by (nat_le (length pieces) MAX_NAMES)
  where
    by : (t : Bool) → Err BadPath ≡ cond t (names_of pieces) (Err BadPath)
    by true = e
    by false = refl

pub too_many : (pieces : List (List ℕ)) → MAX_NAMES < length pieces → Err BadPath ≡ few_names_of pieces
too_many pieces many = sym (cond-false _ _ _ (lt-leb (length pieces) MAX_NAMES many))
