-- Blocks are opened and closed.
use Rattle.std.proofs.Common.{◌≡◌, ℕ, List, [], ◌∷◌, length, false, Option, Some, None, refl, Global, arith}
use Rattle.std.specs.Prelude.{map, nat_le, is_some}
use Rattle.std.specs.Option.{option_map}
use Rattle.std.specs.declared.collections.VecDeque.{VecDeque}
use Rattle.cam_refusals.specs.Checks.{first_holding}
use Rattle.cam_commands.specs.Commands.{OpenBlock}
use Rattle.cam_gerber.specs.declared.frames.OpenBlock.{OpenBlock as Frame}
use Rattle.cam_gerber.specs.declared.running.Running.{Running}
use Rattle.cam_gerber.specs.Statements.{Says}
use Rattle.cam_gerber.specs.State.{Past}
use Rattle.cam_gerber.specs.Faults.{command_faults, is_taken}
use Rattle.cam_gerber.specs.Machinery.Tracking.{Tracks, block_of}
use Rattle.cam_gerber.proofs.Pasts.{unused}

is_some_map : {A B : Type 0} (f : A → B) (o : Option A) → is_some (option_map f o) ≡ is_some o
is_some_map f o = grind arith

length_map : (past : Past) (numbers : List ℕ) → length (map (block_of past) numbers) ≡ length numbers
length_map past [] = refl
length_map past (n ∷ outer) = omega (arith, length_map past outer)

-- a block is opened
pub opened_tracks : (past : Past) (old : Running) (n : ℕ) (blocks : VecDeque Frame Global) → Tracks past old
    → is_taken past n ≡ false → old.region.inside ≡ false → is_some old.frames.repeat ≡ false
    → nat_le 8 (length old.frames.blocks.items) ≡ false
    → blocks.items ≡ record { number = n; objects = []; leaves = 0 } ∷ old.frames.blocks.items
    → (first_holding (command_faults past (OpenBlock (Some n))) ≡ None)
    × Tracks (Says (OpenBlock (Some n)) ∷ past) (record old { frames = record old.frames { blocks = blocks } })
opened_tracks past old n blocks t free outside closed few written = grind (arith, unused, is_some_map, length_map)
