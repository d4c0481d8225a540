-- The status and the stop line of each cause.
use Rattle.std.specs.Prelude.{ℕ, List, [], ◌++◌, codes}
use Rattle.std.specs.Fmt.{decimal}
use Rattle.fx_script.specs.Fault.{fault_word}
use Rattle.fx_script.specs.declared.fault.LineFault.{LineFault}
use Rattle.fx_mount.specs.declared.fault.MountFault.{MountFault}
use Rattle.fx_mount.specs.declared.fault.MountFault.TheVariants as mounts
use Rattle.fxfs.specs.declared.status.TheConstants as statuses
use Rattle.fxfs.specs.declared.ended.Stop.{Stop}
use Rattle.fxfs.specs.declared.ended.Stop.TheVariants.{Done, BadWords, NotMounted, Device, Read, Write, OutOfMemory, BadLine, TooMuchInput, DiskTooSmall}

abbrev pub status_of : Stop → ℕ
status_of Done = statuses.DONE
status_of BadWords = statuses.BAD_WORDS
status_of (NotMounted fault) = statuses.NOT_MOUNTED
status_of Device = statuses.DEVICE
status_of Read = statuses.READ
status_of Write = statuses.WRITE
status_of OutOfMemory = statuses.OUT_OF_MEMORY
status_of (BadLine number fault) = statuses.BAD_LINE
status_of TooMuchInput = statuses.TOO_MUCH_INPUT
status_of (DiskTooSmall blocks) = statuses.DISK_TOO_SMALL

-- why a command stopped, by why its disk was not mounted
abbrev pub stop_of : MountFault → Stop
stop_of mounts.Device = Device
stop_of mounts.OutOfMemory = OutOfMemory
stop_of fault = NotMounted fault

-- a line of words that end in a number
abbrev pub numbered_line : List ℕ → ℕ → List ℕ
numbered_line words number = words ++ decimal number ++ codes "\n"

-- a line of words that end in two numbers
abbrev pub twice_numbered_line : List ℕ → ℕ → ℕ → List ℕ
twice_numbered_line words first second =
    words ++ decimal first ++ codes " " ++ decimal second ++ codes "\n"

-- the line that tells why a disk was not mounted; none for what is told as another cause
abbrev pub mount_line : MountFault → List ℕ
mount_line mounts.NoSuper = codes "stop 3 nosuper\n"
mount_line (mounts.Version version) = numbered_line (codes "stop 3 version ") version
mount_line (mounts.DiskSize blocks) = numbered_line (codes "stop 3 disksize ") blocks
mount_line (mounts.BadLayer block) = numbered_line (codes "stop 3 badlayer ") block
mount_line (mounts.BadRecord place) = numbered_line (codes "stop 3 badrecord ") place
mount_line (mounts.BadTree store id) = twice_numbered_line (codes "stop 3 badtree ") store id
mount_line (mounts.Cramped free) = numbered_line (codes "stop 3 cramped ") free
mount_line mounts.Device = []
mount_line mounts.OutOfMemory = []

-- the line that tells the first wrong line of a script
abbrev pub bad_line : ℕ → LineFault → List ℕ
bad_line number fault =
    codes "stop 8 badline " ++ decimal number ++ codes " " ++ fault_word fault ++ codes "\n"

-- the line that tells a cause; none where all is done or nothing can be written
abbrev pub stop_line : Stop → List ℕ
stop_line Done = []
stop_line BadWords = codes "stop 2 badwords\n"
stop_line (NotMounted fault) = mount_line fault
stop_line Device = codes "stop 4 device\n"
stop_line Read = codes "stop 5 read\n"
stop_line Write = []
stop_line OutOfMemory = codes "stop 7 memory\n"
stop_line (BadLine number fault) = bad_line number fault
stop_line TooMuchInput = codes "stop 10 input\n"
stop_line (DiskTooSmall blocks) = numbered_line (codes "stop 11 size ") blocks

-- the line of a disk that was formatted: its blocks and those of its ring
abbrev pub mkfs_line : ℕ → ℕ → List ℕ
mkfs_line blocks ring = twice_numbered_line (codes "mkfs ") blocks ring
