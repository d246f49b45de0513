-- One line of a script for a caller who hands the bytes of its file in and takes those that it puts: a turn of a run whose
-- files answer so.
use Rattle.std.specs.Prelude.{◌≡◌, ℕ, ◌<◌, ◌≤◌, List, length, Option, None, Some, Result, Ok, Err, ⊤}
use Rattle.cam_refusals.specs.Limits.{file_limit}
use Rattle.cam_station.specs.declared.files.FileFault.{FileFault}
use Rattle.cam_station.specs.declared.files.FileFault.TheVariants.{Failed, Memory}
use Rattle.cam_station.specs.declared.reply.Numbers.TheVariants.{One}
use Rattle.cam_station.specs.declared.reply.Reply.TheVariants.{Done, Numbers, Bytes}
use Rattle.cam_station.specs.Machine.{Outcome, State}
use Rattle.cam_station.specs.Run.{Ask, Get, Nothing, Put, Turn}

-- what a file gives whose bytes were handed in: them, unless they are too many or memory was refused; without them it fails
abbrev pub IsHanded : Option (List ℕ) → Result (List ℕ) FileFault → Type 0
IsHanded None got = got ≡ Err Failed
IsHanded (Some bytes) (Ok given) = (given ≡ bytes) × (length bytes ≤ file_limit)
IsHanded (Some bytes) (Err Failed) = file_limit < length bytes
IsHanded (Some bytes) (Err Memory) = length bytes ≤ file_limit

-- the files answer so: a get has what was handed in, and no put fails
abbrev pub Gives : Option (List ℕ) → Ask → Type 0
Gives handed Nothing = ⊤
Gives handed (Get path got) = IsHanded handed got
Gives handed (Put path bytes put) = put ≡ Ok tt

-- a reply, in place of the bytes for a file how many tiles were drawn for them
abbrev pub without_bytes : Option Outcome → Option Outcome
without_bytes None = None
without_bytes (Some (Err fault)) = Some (Err fault)
without_bytes (Some (Ok Done)) = Some (Ok Done)
without_bytes (Some (Ok (Numbers numbers))) = Some (Ok (Numbers numbers))
without_bytes (Some (Ok (Bytes bytes drawn))) = Some (Ok (Numbers (One drawn)))

-- the bytes that are put
abbrev pub bytes_put : Ask → Option (List ℕ)
bytes_put Nothing = None
bytes_put (Get path got) = None
bytes_put (Put path bytes put) = Some bytes

-- The turn, with these bytes handed in, comes to this state, this reply and these bytes for a file.
pub record IsServed (handed : Option (List ℕ)) (t : Turn) (state : State) (reply : Option Outcome) (file : Option (List ℕ)) : Type 0 where
  pub gives : Gives handed t.ask
  pub state_is : t.state ≡ state
  pub reply_is : without_bytes t.reply ≡ reply
  pub file_is : bytes_put t.ask ≡ file
