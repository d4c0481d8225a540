-- Which words are a command.
use Rattle.std.specs.Prelude.{◌≡◌, ℕ, ◌&&◌, Bool, List, [], ◌∷◌, Option, None, Some, Result, Ok, Err, if◌then◌else◌, length, take, drop, nat_eq, nat_le, nat_lt, codes}
use Rattle.std.specs.Cmp.Lexicographic.{pointwise}
use Rattle.std.specs.List.{list_all}
use Rattle.std.specs.Char.{is_ascii_digit}
use Rattle.std.specs.Str.{bytes_eq}
use Rattle.std.specs.Str.Parse.{digits_value}
use Rattle.fxfs.specs.declared.command.Command.{Command}
use Rattle.fxfs.specs.declared.command.Command.TheVariants.{Shell, Mkfs}
use Rattle.fxfs.specs.declared.command.WordsFault.{WordsFault}
use Rattle.fxfs.specs.declared.command.WordsFault.TheVariants.{BadWords}
use Rattle.fx_super.specs.declared.superblock.TheConstants.{MIN_RING, MAX_RING}
use Rattle.fxfs.specs.declared.command.TheConstants.{MOST_DIGITS}

-- 1 to 20 digits, and nothing else
abbrev pub is_count : List ℕ → Bool
is_count word =
    nat_lt 0 (length word) && nat_le (length word) MOST_DIGITS && list_all is_ascii_digit word

-- a ring of this many blocks is one that a disk may have
abbrev pub is_ring : ℕ → Bool
is_ring ring = nat_le MIN_RING ring && nat_le ring MAX_RING

-- the value of the option, a number of blocks for the ring
abbrev pub mkfs_with : List ℕ → Option Command
mkfs_with word =
    if is_count word && is_ring (digits_value 10 word) then Some (Mkfs (digits_value 10 word))
    else None

-- what follows the word `mkfs`: nothing, `--journal=N`, or `--journal N`
abbrev pub mkfs_of : List (List ℕ) → Option Command
mkfs_of [] = Some (Mkfs MIN_RING)
mkfs_of (option ∷ []) =
    if pointwise nat_eq (take 10 option) (codes "--journal=") then mkfs_with (drop 10 option)
    else None
mkfs_of (option ∷ number ∷ []) =
    if bytes_eq option (codes "--journal") then mkfs_with number else None
mkfs_of (option ∷ number ∷ word ∷ words) = None

-- what follows the word `shell`: nothing
abbrev pub shell_of : List (List ℕ) → Option Command
shell_of [] = Some Shell
shell_of (word ∷ words) = None

-- the command that the words are
abbrev pub command_of : List (List ℕ) → Option Command
command_of [] = None
command_of (word ∷ options) =
    if bytes_eq word (codes "shell") then shell_of options
    else if bytes_eq word (codes "mkfs") then mkfs_of options else None

-- the words were read so
abbrev pub IsCommandOf : Result Command WordsFault → List (List ℕ) → Type 0
IsCommandOf (Ok command) words = command_of words ≡ Some command
IsCommandOf (Err BadWords) words = command_of words ≡ None
