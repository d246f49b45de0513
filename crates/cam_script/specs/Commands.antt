-- The command of an edit: a layer's name, and what the edit says besides.
use Rattle.std.specs.Prelude.{ℕ, List}
use Rattle.cam_edits.specs.declared.edit.Change.{Change}
use Rattle.cam_edits.specs.declared.edit.Change.TheVariants as changes
use Rattle.cam_edits.specs.declared.edit.Edit.{Edit}
use Rattle.cam_script.specs.declared.command.Command.{Command}
use Rattle.cam_script.specs.declared.command.Command.TheVariants as commands

abbrev pub changing : List ℕ → Change → Command
changing name (changes.Insert k item) = commands.Insert name k item
changing name (changes.Delete k) = commands.Delete name k
changing name (changes.Move k dx dy) = commands.Move name k dx dy
changing name (changes.Reorder k m) = commands.Reorder name k m
changing name (changes.Aperture k n) = commands.Aperture name k n
changing name (changes.Polarity k dark) = commands.Polarity name k dark
changing name (changes.Tool k t) = commands.Tool name k t
changing name (changes.Diameter t d) = commands.Diameter name t d
changing name (changes.SetAttribute key fields) = commands.SetAttribute name key fields
changing name (changes.DropAttribute key) = commands.DropAttribute name key

abbrev pub edit_command : Edit → Command
edit_command edit = changing edit.name edit.change
