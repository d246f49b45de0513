-- Lists of commands: the states that they lead to and what they are answered, and what a refused one leaves.
use Rattle.std.specs.Prelude.{◌≡◌, ℕ, ◌+◌, ◌≤◌, List, [], ◌∷◌, length, Option, None, Some, IsErr}
use Rattle.cam_edits.specs.Boards.{place_named}
use Rattle.cam_tiles.specs.declared.window.Window.{Window}
use Rattle.cam_script.specs.declared.command.Command.{Command}
use Rattle.cam_script.specs.declared.command.Command.TheVariants as commands
use Rattle.cam_station.specs.Machine.{State, Outcome, MemoryGrant, fresh, memory_of, step, with_drawn}

-- a command, and whether it is refused memory
abbrev pub Call : Type 0
Call = Command × MemoryGrant

abbrev pub state_after : State → Call → State
state_after s c = (step s c.0 c.1).0

abbrev pub answer_to : State → Call → Outcome
answer_to s c = (step s c.0 c.1).1

-- the state after the calls, the first one first
abbrev pub states_after : State → List Call → State
states_after s [] = s
states_after s (c ∷ calls) = states_after (state_after s c) calls

abbrev pub answers_to : State → List Call → List Outcome
answers_to s [] = []
answers_to s (c ∷ calls) = answer_to s c ∷ answers_to (state_after s c) calls

-- the commands, each with what its answer tells of memory
abbrev pub calls_of : List Command → List Outcome → List Call
calls_of [] answers = []
calls_of (c ∷ commands) [] = []
calls_of (c ∷ commands) (answer ∷ answers) = (c, memory_of answer) ∷ calls_of commands answers

-- these are the answers to these commands, one after another, and the state that they lead to
pub record IsRun (s : State) (commands : List Command) (answers : List Outcome) (last : State) : Type 0 where
  pub each : length answers ≡ length commands
  pub answers_are : answers_to s (calls_of commands answers) ≡ answers
  pub last_is : states_after s (calls_of commands answers) ≡ last

-- the tiles of the layer of this name are drawn, where a window is in force and there is such a layer
abbrev pub drawn_where : State → Option Window → Option ℕ → State
drawn_where s None place = s
drawn_where s (Some w) None = s
drawn_where s (Some w) (Some place) = with_drawn s place

abbrev pub drawn_named : List ℕ → State → State
drawn_named name s = drawn_where s s.window (place_named name s.timeline.document)

-- a refused command changes nothing, but that a plot keeps the tiles that it drew
abbrev pub after_refusal : State → Command → State
after_refusal s (commands.Plot name) = drawn_named name s
after_refusal s _ = s

abbrev pub RefusalLaw : Type 0
RefusalLaw = (s : State) (c : Call) → IsErr (answer_to s c) → state_after s c ≡ after_refusal s c.0

-- no more documents are kept than the depth, earlier ones and those that were taken back together
abbrev pub DepthLaw : Type 0
DepthLaw = (depth : ℕ) (before : List Call) →
    let s = states_after (fresh depth) before in length s.timeline.past + length s.timeline.future ≤ depth
