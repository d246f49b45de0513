-- What the exports come to, by the pointers that C passes: where one cannot be used nothing is done.
use Rattle.std.specs.Prelude.{◌≡◌, ℕ, ◌^◌, nat_lt, Bool, true, false, ◌&&◌, if◌then◌else◌, List, length, map, Option, None, Some}
use Rattle.cam_refusals.specs.declared.refusal.Refusal.TheVariants.{NoPointer}
use Rattle.cam_refusals.specs.Refusals.{number_of}
use Rattle.cam_station.specs.TileTables.{tile_at}
use Rattle.cam_tiles.specs.Tables.{Tile}
use Rattle.cam_c.specs.declared.session.Session.{Session}
use Rattle.cam_c.specs.Calls.{IsApplied, IsFresh, IsQuestioned, IsRedrawn, IsUnopened, copied, not_clean}
use denote.RawPtr.{Ptr, block_ptr, null_ptr}

-- a pointer is null, or a length is past 2^63 - 1
abbrev pub no_pointer : ℕ
no_pointer = number_of NoPointer

abbrev pub is_pointed_to : Ptr → Bool
is_pointed_to null_ptr = false
is_pointed_to (block_ptr b o) = true

-- the bytes can be read
abbrev pub is_usable : Ptr → List ℕ → Bool
is_usable null_ptr xs = false
is_usable (block_ptr b o) xs = nat_lt (length xs) (2 ^ 63)

-- a file is handed in where its pointer is not null
abbrev pub handed : Ptr → List ℕ → Option (List ℕ)
handed null_ptr xs = None
handed (block_ptr b o) xs = Some xs

abbrev pub can_hand : Ptr → List ℕ → Bool
can_hand null_ptr xs = true
can_hand (block_ptr b o) xs = nat_lt (length xs) (2 ^ 63)

-- the same session, and the number that says so
pub record Refused (s after : Session) (code : ℕ) : Type 0 where
  pub code_is : code ≡ no_pointer
  pub same : after ≡ s

abbrev pub AppliedWhere : Bool → Ptr → List ℕ → Ptr → List ℕ → Session → Session → ℕ → Type 0
AppliedWhere true line xs file ys s after code = IsApplied s xs (handed file ys) after code
AppliedWhere false line xs file ys s after code = Refused s after code

-- the line is applied with its file, where there is a session and both can be read
abbrev pub AppliedBy : Ptr → Ptr → List ℕ → Ptr → List ℕ → Session → Session → ℕ → Type 0
AppliedBy station line xs file ys s after code =
    AppliedWhere (is_pointed_to station && (is_usable line xs && can_hand file ys)) line xs file ys s after code

-- the question is answered, where there is a session and it can be read
abbrev pub AskedWhere : Bool → List ℕ → Session → Session → ℕ → Type 0
AskedWhere true xs s after code = IsQuestioned s xs after code
AskedWhere false xs s after code = Refused s after code

abbrev pub AskedBy : Ptr → Ptr → List ℕ → Session → Session → ℕ → Type 0
AskedBy station question xs s after code = AskedWhere (is_pointed_to station && is_usable question xs) xs s after code

abbrev pub RedrawnBy : Ptr → ℕ → Session → Session → ℕ → Type 0
RedrawnBy null_ptr at_most s after code = Refused s after code
RedrawnBy (block_ptr b o) at_most s after code = IsRedrawn s at_most after code

-- without a session nothing is told
abbrev pub told_length : Ptr → List ℕ → ℕ
told_length null_ptr text = 0
told_length (block_ptr b o) text = length text

abbrev pub room_after : {X : Type 0} → Ptr → Ptr → List X → List X → List X
room_after null_ptr p text room = room
room_after (block_ptr b o) null_ptr text room = room
room_after (block_ptr b o) (block_ptr b' o') text room = if nat_lt (length room) (2 ^ 63) then copied text room else room

-- places that all have values
abbrev pub all_there : List ℕ → List (Option ℕ)
all_there xs = map (λ x. Some x) xs

-- the text goes into a room that holds it, and its length is told
pub record ToldBy (station room : Ptr) (text : List ℕ) (old new : List (Option ℕ)) (count : ℕ) : Type 0 where
  pub count_is : count ≡ told_length station text
  pub room_is : new ≡ room_after station room (all_there text) old

-- the same room, and the number that says so
pub record Unwritten (old new : List (Option ℕ)) (code : ℕ) : Type 0 where
  pub code_is : code ≡ no_pointer
  pub same : new ≡ old

-- the rows of a clean tile fill the room; else it stays as it is
abbrev pub IsTilePut : Tile → List (Option ℕ) → List (Option ℕ) → ℕ → Type 0
IsTilePut (Some rows) old new code = (code ≡ 0) × (new ≡ all_there rows)
IsTilePut None old new code = (code ≡ not_clean) × (new ≡ old)

abbrev pub TileCopiedBy : Ptr → Ptr → Session → ℕ → ℕ → List (Option ℕ) → List (Option ℕ) → ℕ → Type 0
TileCopiedBy null_ptr rows s layer tile old new code = Unwritten old new code
TileCopiedBy (block_ptr b o) null_ptr s layer tile old new code = Unwritten old new code
TileCopiedBy (block_ptr b o) (block_ptr b' o') s layer tile old new code = IsTilePut (tile_at s.station.tables layer tile) old new code

-- the handle of a new session, and where none is opened null and the number that says why
abbrev pub OpenedBy : Ptr → ℕ → Ptr → Session → ℕ → Type 0
OpenedBy null_ptr depth p s code = code ≡ no_pointer
OpenedBy (block_ptr b o) depth null_ptr s code = IsUnopened depth code
OpenedBy (block_ptr b o) depth (block_ptr b' o') s code = (code ≡ 0) × IsFresh depth s
