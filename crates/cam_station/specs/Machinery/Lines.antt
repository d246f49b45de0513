-- Parts of a run, and of a line.
use Rattle.std.specs.Prelude.{◌≡◌, ℕ, Bool, true, false, [], ◌∷◌, Option, IsSome, Result, Ok, Err}
use Rattle.cam_station.specs.declared.reply.Reply.TheVariants.{Bytes}
use Rattle.cam_station.specs.declared.running.RunFault.{RunFault}
use Rattle.cam_station.specs.declared.running.RunFault.TheVariants.{Depth, Output, Memory as RunMemory}
use Rattle.cam_station.specs.Files.{HasRisenBy}
use Rattle.cam_station.specs.Machine.{State, Outcome, fresh, is_depth}
use Rattle.cam_station.specs.Run.{Answers, FilesSeen, Moment, Tells, Turn, TurnsLead, byte_count}

-- a new station, or why there is none
abbrev pub IsBegun : ℕ → Result State RunFault → Type 0
IsBegun depth (Ok state) = (is_depth depth ≡ true) × (state ≡ fresh depth)
IsBegun depth (Err Depth) = is_depth depth ≡ false
IsBegun depth (Err RunMemory) = is_depth depth ≡ true
IsBegun depth (Err Output) = ⊥

-- the answer has no bytes for a file
abbrev pub HasNoBytes : Outcome → Type 0
HasNoBytes (Ok (Bytes bytes drawn)) = ⊥
HasNoBytes answer = Unit {0}

-- The turn has this state and this reply, and the files answered it so.
pub record TurnGives (t : Turn) (state : State) (reply : Option Outcome) (old new : FilesSeen) : Type 0 where
  pub state_is : t.state ≡ state
  pub reply_is : t.reply ≡ reply
  pub answers : Answers t.ask old new

-- The turn leads to this state and from one moment to the other.
pub record TurnLeadsTo (t : Turn) (state : State) (before after : Moment) : Type 0 where
  pub state_is : t.state ≡ state
  pub lead : TurnsLead (t ∷ []) before after

-- The turn has a reply, which could not be said.
pub record ReplyIsUnsaid (t : Turn) (before after : Moment) : Type 0 where
  pub replied : IsSome t.reply
  pub files : Answers t.ask before.files after.files
  pub out_failures : HasRisenBy 1 before.out_failures after.out_failures

-- what is told of the bytes that are put: how many they are, or what a plot tells
abbrev pub tells : Bool → Tells
tells true = byte_count
tells false = Bytes
