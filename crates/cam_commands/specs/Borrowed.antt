-- The commands that borrow their texts from a file, as plain data: of a text without the bytes that do not count, but of
-- an attribute or a name with all of them.
use Rattle.cam_words.specs.Cutting.{FoundWord}
use Rattle.cam_words.specs.Heads.{packed}
use Rattle.cam_words.specs.declared.word.Word.{Word}
use Rattle.cam_commands.specs.declared.command.Command.{Command as BorrowedCommand}
use Rattle.cam_commands.specs.declared.command.Command.TheVariants as borrowed
use Rattle.cam_commands.specs.Commands.{Command, SetFormat, RefusedFormat, SetUnit, DefineAperture, DefineMacro}
use Rattle.cam_commands.specs.Commands.{SetPolarity, SetMirror, SetRotation, SetScale, OpenBlock, CloseBlock, SetRepeat}
use Rattle.cam_commands.specs.Commands.{CloseRepeat, KeepText, NeutralOld, RefusedOld, SetMode, SingleQuadrant}
use Rattle.cam_commands.specs.Commands.{MultiQuadrant, BeginRegion, EndRegion, Nothing, Select, Operate, End, Unknown}

-- the word that is found in a text
abbrev pub found : Word → FoundWord
found word = record { kind = word.kind; text = word.text.now; at = word.at }

-- the command that a borrowed one stands for
abbrev pub shown : BorrowedCommand → Command
shown (borrowed.SetFormat format) = SetFormat format
shown borrowed.RefusedFormat = RefusedFormat
shown (borrowed.SetUnit unit style) = SetUnit unit style
shown (borrowed.DefineAperture text) = DefineAperture (packed text.now)
shown (borrowed.DefineMacro text) = DefineMacro (packed text.now)
shown (borrowed.SetPolarity polarity) = SetPolarity polarity
shown (borrowed.SetMirror mirror) = SetMirror mirror
shown (borrowed.SetRotation angle) = SetRotation angle
shown (borrowed.SetScale scale) = SetScale scale
shown (borrowed.OpenBlock number) = OpenBlock number
shown borrowed.CloseBlock = CloseBlock
shown (borrowed.SetRepeat repeat) = SetRepeat repeat
shown borrowed.CloseRepeat = CloseRepeat
shown (borrowed.KeepText name text) = KeepText name text.now
shown borrowed.NeutralOld = NeutralOld
shown (borrowed.RefusedOld style) = RefusedOld style
shown (borrowed.SetMode mode) = SetMode mode
shown borrowed.SingleQuadrant = SingleQuadrant
shown borrowed.MultiQuadrant = MultiQuadrant
shown borrowed.BeginRegion = BeginRegion
shown borrowed.EndRegion = EndRegion
shown borrowed.Nothing = Nothing
shown (borrowed.Select number) = Select number
shown (borrowed.Operate operation) = Operate operation
shown borrowed.End = End
shown borrowed.Unknown = Unknown
