-- What the calls of a session come to: turns of a run, steps of the station's machine, and copies.
use Rattle.std.specs.Prelude.{◌≡◌, ℕ, ◌++◌, Bool, true, false, nat_le, if◌then◌else◌, List, [], length, drop, map, unwrap_or}
use Rattle.std.specs.Prelude.{Option, None, Some, Ok, Err}
use Rattle.std.specs.Result.{result_ok}
use Rattle.core.specs.Mem.Slots.{SamePlaces, slots_filled, slots_items}
use Rattle.core.specs.declared.slots.Slots.{Slots}
use Rattle.cam_refusals.specs.declared.refusal.Refusal.TheVariants.{NotClean}
use Rattle.cam_refusals.specs.Refusals.{number_of}
use Rattle.cam_script.specs.declared.command.Command.TheVariants.{Redraw}
use Rattle.cam_station.specs.declared.fault.Fault.{Fault}
use Rattle.cam_station.specs.declared.reply.Reply.TheVariants.{Done}
use Rattle.cam_station.specs.TileTables.{tile_at}
use Rattle.cam_station.specs.Machine.{MemoryGrant, Outcome, fresh, is_depth, station_of, step}
use Rattle.cam_station.specs.Run.{World, spoken, turn}
use Rattle.cam_station.specs.Serving.{IsServed}
use Rattle.cam_tiles.specs.Tables.{Tile}
use Rattle.cam_ask.specs.Answers.{Answer, IsAsked}
use Rattle.cam_c.specs.declared.session.Session.{Session}

-- what a call answers for a reply: 0 where nothing is refused, else the number of the refusal
abbrev pub code_of : Option Outcome → ℕ
code_of None = 0
code_of (Some (Ok reply)) = 0
code_of (Some (Err fault)) = number_of fault.code

-- the line of the last reply
abbrev pub reply_of : Session → List ℕ
reply_of s = spoken s.reply

-- the bytes that the last line had for a file
abbrev pub file_of : Session → List ℕ
file_of s = unwrap_or s.file []

-- one of the two
abbrev pub text_told : Bool → Session → List ℕ
text_told true s = file_of s
text_told false s = reply_of s

-- a new session
pub record IsFresh (depth : ℕ) (s : Session) : Type 0 where
  pub allowed : is_depth depth ≡ true
  pub station : s.station ≡ fresh depth
  pub reply : s.reply ≡ None
  pub file : s.file ≡ None

-- why there is none
pub record IsUnopened (depth code : ℕ) : Type 0 where
  pub memory : MemoryGrant
  pub why : Fault
  pub refused : station_of depth memory ≡ Err why
  pub code_is : code ≡ number_of why.code

-- The line, with these bytes of a file handed in, is a turn of a run; the session after it has what it leaves.
pub record IsApplied (s : Session) (line : List ℕ) (file : Option (List ℕ)) (after : Session) (code : ℕ) : Type 0 where
  pub world : World
  pub served : IsServed file (turn s.station line world) after.station after.reply after.file
  pub code_is : code ≡ code_of after.reply

-- a text was made, or the question was refused
abbrev pub reply_to : Answer → Outcome
reply_to (Ok text) = Ok Done
reply_to (Err why) = Err why

-- The question is answered: the text is kept as the bytes of a file are, and the station stays.
pub record IsQuestioned (s : Session) (question : List ℕ) (after : Session) (code : ℕ) : Type 0 where
  pub answer : Answer
  pub asked : IsAsked s.station question answer
  pub station : after.station ≡ s.station
  pub reply : after.reply ≡ Some (reply_to answer)
  pub file : after.file ≡ result_ok answer
  pub code_is : code ≡ code_of after.reply

-- a redraw is a step of the machine
pub record IsRedrawn (s : Session) (at_most : ℕ) (after : Session) (code : ℕ) : Type 0 where
  pub memory : MemoryGrant
  pub answer : Outcome
  pub steps : step s.station (Redraw at_most) memory ≡ (after.station, answer)
  pub reply : after.reply ≡ Some answer
  pub file : after.file ≡ None
  pub code_is : code ≡ code_of after.reply

-- values go in front of a room that holds them; a smaller room stays as it is
abbrev pub copied : {X : Type 0} → List X → List X → List X
copied text room = if nat_le (length text) (length room) then text ++ drop (length text) room else room

-- The places of a copy have values after it, and the others what they had.
pub record IsCopied {X : Type 0} (text : List X) (old new : Slots X) : Type 0 where
  pub places : SamePlaces old new
  pub values : slots_items new ≡ copied text (slots_items old)
  pub there : slots_filled new ≡ copied (map (λ x. true) text) (slots_filled old)

-- as many values as there are places
pub record IsFilled {X : Type 0} (text : List X) (old new : Slots X) : Type 0 where
  pub places : SamePlaces old new
  pub values : slots_items new ≡ text
  pub there : slots_filled new ≡ map (λ x. true) text

-- the tile is dirty, or not there
abbrev pub not_clean : ℕ
not_clean = number_of NotClean

-- the rows of a clean tile fill the room; else it stays as it is
abbrev pub IsCopyOf : Tile → Slots ℕ → Slots ℕ → ℕ → Type 0
IsCopyOf (Some rows) old new code = (code ≡ 0) × IsFilled rows old new
IsCopyOf None old new code = (code ≡ not_clean) × (new ≡ old)

abbrev pub IsTileCopied : Session → ℕ → ℕ → Slots ℕ → Slots ℕ → ℕ → Type 0
IsTileCopied s layer tile old new code = IsCopyOf (tile_at s.station.tables layer tile) old new code
