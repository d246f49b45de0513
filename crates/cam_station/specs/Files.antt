-- What paths hold, as far as it is told, and the counts of failures.
use Rattle.std.specs.Prelude.{◌≡◌, ◌≢◌, ℕ, ◌+◌, ◌-◌, ◌^◌, ◌≤◌, min, List, Option, None, Some, IfSome, ⊤, Bool, true}
use Rattle.std.specs.Prelude.{false, Result, Ok, Err}
use Rattle.cam_station.specs.declared.files.FileFault.{FileFault}
use Rattle.cam_station.specs.declared.files.FileFault.TheVariants.{Failed, Memory}

-- what a path holds: no file, or a file of these bytes
pub data AtPath : Type 0 where
  NoFile : AtPath
  FileOf : List ℕ → AtPath

-- what is told of each path, of some of them nothing; nothing at all where the type tells of none
abbrev pub ToldFiles : Type 0
ToldFiles = Option (List ℕ → Option AtPath)

-- these bytes are the file's at this path, as far as it is told what the path holds
abbrev pub Holds : ToldFiles → List ℕ → List ℕ → Type 0
Holds None path bytes = ⊤
Holds (Some told) path bytes = IfSome (told path) (λ held. held ≡ FileOf bytes)

-- where it is told that no file is at this path, the fault is that the file failed
abbrev pub FailsIfAbsent : ToldFiles → List ℕ → FileFault → Type 0
FailsIfAbsent None path fault = ⊤
FailsIfAbsent (Some told) path fault = told path ≡ Some NoFile → fault ≡ Failed

-- every path but this one holds what it held
abbrev pub KeepsOthers : (List ℕ → Option AtPath) → (List ℕ → Option AtPath) → List ℕ → Type 0
KeepsOthers old new path = (other : List ℕ) → other ≢ path → new other ≡ old other

-- this path holds these bytes now, and every other what it held
abbrev pub Stored : ToldFiles → ToldFiles → List ℕ → List ℕ → Type 0
Stored None new path bytes = ⊤
Stored (Some old) None path bytes = ⊥
Stored (Some old) (Some new) path bytes = (new path ≡ Some (FileOf bytes)) × KeepsOthers old new path

-- nothing is told of what this path holds now, and every other holds what it held
abbrev pub MayHaveStored : ToldFiles → ToldFiles → List ℕ → Type 0
MayHaveStored None new path = ⊤
MayHaveStored (Some old) None path = ⊥
MayHaveStored (Some old) (Some new) path = KeepsOthers old new path

-- the last number that a count of failures reaches
abbrev pub last_count : ℕ
last_count = 2 ^ 64 - 1

-- at least this many failures were counted, unless the count reached its last number
abbrev pub HasRisenBy : ℕ → ℕ → ℕ → Type 0
HasRisenBy n old new = min (old + n) last_count ≤ new

-- the files' failures that an answer stands for
abbrev pub fault_failures : FileFault → ℕ
fault_failures Failed = 1
fault_failures Memory = 0

abbrev pub failures_of : {T : Type 0} → Result T FileFault → ℕ
failures_of (Ok given) = 0
failures_of (Err fault) = fault_failures fault

-- one failure where the bytes were not said
abbrev pub unsaid : Bool → ℕ
unsaid true = 0
unsaid false = 1
