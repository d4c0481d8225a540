-- The word that tells a fault of a line: its name in small letters.
use Rattle.std.specs.Prelude.{ℕ, List, codes}
use Rattle.fx_script.specs.declared.fault.LineFault.{LineFault}
use Rattle.fx_script.specs.declared.fault.LineFault.TheVariants.{TooManyLines, NotAscii, Empty, BadClient, UnknownWord, WordCount, BadPath, BadNumber, BadText, OutOfMemory}

abbrev pub fault_word : LineFault → List ℕ
fault_word TooManyLines = codes "toomanylines"
fault_word NotAscii = codes "notascii"
fault_word Empty = codes "empty"
fault_word BadClient = codes "badclient"
fault_word UnknownWord = codes "unknownword"
fault_word WordCount = codes "wordcount"
fault_word BadPath = codes "badpath"
fault_word BadNumber = codes "badnumber"
fault_word BadText = codes "badtext"
fault_word OutOfMemory = codes "outofmemory"
