-- The parts of an operation as the code has them.
use Rattle.std.specs.Prelude.{◌≡◌, ℕ, List, [], ◌∷◌, option_map}
use Rattle.std.specs.Option.{option_copied}
use Rattle.cam_words.specs.Heads.{packed}
use Rattle.cam_numbers.specs.Numbers.{integer}
use Rattle.cam_commands.specs.declared.parts.OperationCode.{OperationCode}
use Rattle.cam_commands.specs.declared.parts.OperationCode.TheVariants.{Plot, Move, Flash}
use Rattle.cam_commands.specs.declared.words.Parts.{Parts as ReadParts}
use Rattle.cam_commands.specs.WordCommands.{OperationParts, slot}

-- the coordinates are read, and the run behind D is not yet
pub record AreOf (read : ReadParts) (parts : OperationParts) : Type 0 where
  pub mode : read.mode ≡ parts.mode
  pub x : read.x ≡ slot integer parts.x
  pub y : read.y ≡ slot integer parts.y
  pub i : read.i ≡ slot integer parts.i
  pub j : read.j ≡ slot integer parts.j
  pub d : option_map packed (option_copied read.d) ≡ parts.d

-- D01, D02 and D03, as nearly all files write them
abbrev pub plain_text : OperationCode → List ℕ
plain_text Plot = 68 ∷ 48 ∷ 49 ∷ []
plain_text Move = 68 ∷ 48 ∷ 50 ∷ []
plain_text Flash = 68 ∷ 48 ∷ 51 ∷ []
