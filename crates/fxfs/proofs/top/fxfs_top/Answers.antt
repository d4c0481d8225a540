use Rattle.std.proofs.Common.{◌≡◌, ◌∙◌, ap, ℕ, List, Global}
use Rattle.std.specs.Prelude.{map, Some}
use Rattle.std.specs.String.{string_bytes}
use Rattle.fxfs.specs.Command.{command_of}
use Rattle.fxfs.specs.declared.command.Command.TheVariants.{Mkfs}
use Rattle.fxfs.proofs.CommandRing.{ring_of_command}
use Rattle.fxfs.proofs.top.fxfs_top.Goals as goal

pub mkfs_call-requires-clause-least : goal.mkfs_call-requires-clause-least
mkfs_call-requires-clause-least g c =
    let words : List (List ℕ) = map (string_bytes {Z = Global}) c.args.words.now in
    let told : command_of words ≡ Some (Mkfs c.in-Ok-Mkfs.ring) = c.in-Ok-Mkfs.ensures ∙ ap Some c.in-Ok-Mkfs.field-0-is in
    (ring_of_command words c.in-Ok-Mkfs.ring told).least

pub mkfs_call-requires-clause-most : goal.mkfs_call-requires-clause-most
mkfs_call-requires-clause-most g c =
    let words : List (List ℕ) = map (string_bytes {Z = Global}) c.args.words.now in
    let told : command_of words ≡ Some (Mkfs c.in-Ok-Mkfs.ring) = c.in-Ok-Mkfs.ensures ∙ ap Some c.in-Ok-Mkfs.field-0-is in
    (ring_of_command words c.in-Ok-Mkfs.ring told).most
