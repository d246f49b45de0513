-- The version of the library as a text, and what the export that answers it comes to.
use Rattle.std.specs.Prelude.{◌≡◌, ℕ, ◌^◌, nat_lt, if◌then◌else◌, List, length, Option, codes}
use Rattle.cam_c.specs.Calls.{copied}
use Rattle.cam_c.specs.Pointers.{all_there}
use denote.RawPtr.{Ptr, block_ptr, null_ptr}

abbrev pub version : List ℕ
version = codes "1.1.0"

-- the version goes into a room that holds it
abbrev pub version_put : Ptr → List (Option ℕ) → List (Option ℕ)
version_put null_ptr room = room
version_put (block_ptr b o) room = if nat_lt (length room) (2 ^ 63) then copied (all_there version) room else room

-- and its length is told
pub record VersionToldTo (room : Ptr) (old new : List (Option ℕ)) (count : ℕ) : Type 0 where
  pub count_is : count ≡ length version
  pub room_is : new ≡ version_put room old
