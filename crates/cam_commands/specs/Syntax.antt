-- What a word of a file says, and where it stands.
use Rattle.std.specs.Prelude.{ℕ, ◌-◌, List}
use Rattle.cam_words.specs.Cutting.{FoundWord}
use Rattle.cam_words.specs.Heads.{packed}
use Rattle.cam_words.specs.declared.word.Kind.{Kind}
use Rattle.cam_words.specs.declared.word.Kind.TheVariants.{Plain, Comment, Extended}
use Rattle.cam_commands.specs.Commands.{Command, Nothing}
use Rattle.cam_commands.specs.WordCommands.{word_command}
use Rattle.cam_commands.specs.ExtendedCommands.{extended_command}

-- what a text says. "Comment (G04)": a comment says nothing
abbrev pub command_by : Kind → List ℕ → Command
command_by Plain text = word_command (packed text)
command_by Comment text = Nothing
command_by Extended text = extended_command text

unfoldable pub command_of : FoundWord → Command
command_of word = command_by word.kind word.text

-- the place of the first byte of a command: of an extended one its `%`
abbrev pub place_by : Kind → ℕ → ℕ
place_by Extended at = at - 1
place_by Plain at = at
place_by Comment at = at

abbrev pub start_of : FoundWord → ℕ
start_of word = place_by word.kind word.at
