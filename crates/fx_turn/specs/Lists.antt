-- Of two lists, the longer and the shorter.
use Rattle.std.specs.Prelude.{cond, List, length}
use lib.Dec.{ltb}

-- the first where they are as long
abbrev pub longer : {A : Type 0} → List A → List A → List A
longer xs ys = cond (ltb (length xs) (length ys)) ys xs

abbrev pub shorter : {A : Type 0} → List A → List A → List A
shorter xs ys = cond (ltb (length xs) (length ys)) xs ys
