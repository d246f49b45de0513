-- What is read from a file and written to one, as far as a clause can speak of it.
use Rattle.std.specs.Prelude.{◌≡◌, ◌≢◌, ◌⊎◌, ℕ, ◌≤◌, ◌<◌, ◌++◌, Bool, true, false, List, length, Option, None, Some, IfSome}
use Rattle.std.specs.Prelude.{Result, Ok, Err, ⊤, codes}
use Rattle.std.specs.Io.KnownBytes.{Consumes}
use Rattle.std.specs.IoError.{error_kind}
use Rattle.std.specs.declared.io.Error.{Error}
use Rattle.std.specs.declared.io.ErrorKind.{ErrorKind}
use Rattle.std.specs.declared.io.ErrorKind.TheVariants.{CrossesDevices, InvalidFilename, OutOfMemory, PermissionDenied}
use Rattle.std.specs.declared.io.ErrorKind.TheVariants.{ReadOnlyFilesystem, ResourceBusy}
use Rattle.cam_station.specs.Files.{AtPath, FileOf, HasRisenBy, ToldFiles}
use Rattle.cam_station.specs.declared.files.FileFault.{FileFault}
use Rattle.cam_station.specs.declared.files.FileFault.TheVariants as files
use Rattle.camplot.specs.declared.calls.Found.{Found}
use Rattle.camplot.specs.declared.calls.Found.TheVariants.{Nothing, Other, Plain}
use Rattle.camplot.specs.declared.reading.IoFault.{IoFault}
use Rattle.camplot.specs.declared.reading.IoFault.TheVariants.{Failed, TooLong, Memory}

-- a file that failed did so by an error of this kind
abbrev pub IsOfKind : ErrorKind → IoFault → Type 0
IsOfKind is (Failed kind) = is ≡ kind
IsOfKind is TooLong = ⊤
IsOfKind is Memory = ⊤

-- the fault tells whether an error was want of memory, or of which kind the file's own was
pub record IsFaultOf (error : Error) (fault : IoFault) : Type 0 where
  pub memory : error_kind error ≡ OutOfMemory → fault ≡ Memory
  pub failed : error_kind error ≢ OutOfMemory → fault ≡ Failed (error_kind error)
  pub kind : IsOfKind (error_kind error) fault

-- what a line of a script is told of a fault
abbrev pub fault_heard : IoFault → FileFault
fault_heard (Failed kind) = files.Failed
fault_heard TooLong = files.Failed
fault_heard Memory = files.Memory

-- these are the bytes of a reader, all of them where it tells them, and no more than the limit
pub record AreAllOf (told : Option (List ℕ)) (limit : ℕ) (bytes : List ℕ) : Type 0 where
  pub bound : length bytes ≤ limit
  pub whole : IfSome told (λ all. bytes ≡ all)

-- what a reader has given, as far as it tells, is no longer than the limit
abbrev pub HasGivenWithin : Option (List ℕ) → Option (List ℕ) → ℕ → Type 0
HasGivenWithin old new limit = (given : List ℕ) × Consumes old new given × (length given ≤ limit)

-- and here it is longer
abbrev pub HasGivenMore : Option (List ℕ) → Option (List ℕ) → ℕ → Type 0
HasGivenMore old new limit = (given : List ℕ) × Consumes old new given × (limit < length given)

-- what is seen of a reader: the bytes that it has left, as far as it tells, and how many of its reads failed
pub record ReaderSeen : Type 0 where
  pub left : Option (List ℕ)
  pub failures : ℕ

abbrev pub reader_seen : Option (List ℕ) → ℕ → ReaderSeen
reader_seen left failures = record { left = left; failures = failures }

-- Why the bytes of a reader were not all read: a read of it failed, it has given more than the limit, or memory was refused
-- where it had given no more.
abbrev pub IsWhyNotAll : IoFault → ℕ → ReaderSeen → ReaderSeen → Type 0
IsWhyNotAll (Failed kind) limit old new = HasRisenBy 1 old.failures new.failures
IsWhyNotAll TooLong limit old new = HasGivenMore old.left new.left limit
IsWhyNotAll Memory limit old new = HasGivenWithin old.left new.left limit

-- the kind of the error that a call answers; none where it succeeds
abbrev pub error_of : {T : Type 0} → Result T Error → Option ErrorKind
error_of (Ok given) = None
error_of (Err error) = Some (error_kind error)

-- The fault tells of the error that came last: of want of memory alone that memory was refused, and of any other that a file
-- failed by it.
pub record TellsOf (last : Option ErrorKind) (fault : IoFault) : Type 0 where
  pub memory : last ≡ Some OutOfMemory → fault ≡ Memory
  pub failed : (kind : ErrorKind) → last ≡ Some kind → kind ≢ OutOfMemory → fault ≡ Failed kind
  pub none : last ≡ None → (kind : ErrorKind) → fault ≢ Failed kind

-- and so does what a line of a script is told
pub record IsHeardOf (last : Option ErrorKind) (told : FileFault) : Type 0 where
  pub memory : last ≡ Some OutOfMemory → told ≡ files.Memory
  pub failed : (kind : ErrorKind) → last ≡ Some kind → kind ≢ OutOfMemory → told ≡ files.Failed

-- where a type tells what its files hold, each path is the file's own
abbrev pub IsNamed : ToldFiles → List ℕ → List ℕ → Type 0
IsNamed None path real = ⊤
IsNamed (Some told) path real = real ≡ path

-- the path of the program's own file, while the file at this path is written
abbrev pub own_path : List ℕ → List ℕ
own_path path = path ++ codes " (camplot, unfinished)"

-- what other paths than these two hold is what they held
abbrev pub KeepsAllBut : (List ℕ → Option AtPath) → (List ℕ → Option AtPath) → List ℕ → List ℕ → Type 0
KeepsAllBut old new one two = (other : List ℕ) → other ≢ one → other ≢ two → new other ≡ old other

-- this path holds what that one held, and every third path what it held
abbrev pub HasMoved : ToldFiles → ToldFiles → List ℕ → List ℕ → Type 0
HasMoved None new from to = ⊤
HasMoved (Some old) None from to = ⊥
HasMoved (Some old) (Some new) from to = (new to ≡ old from) × KeepsAllBut old new from to

-- this path holds these bytes, and every other but the program's own what it held
abbrev pub IsReplaced : ToldFiles → ToldFiles → List ℕ → List ℕ → List ℕ → Type 0
IsReplaced None new own path bytes = ⊤
IsReplaced (Some old) None own path bytes = ⊥
IsReplaced (Some old) (Some new) own path bytes = (new path ≡ Some (FileOf bytes)) × KeepsAllBut old new own path

-- what is known of a path that is to be written: what stands at it, and by an error of which kind no file took it
pub record Known : Type 0 where
  pub found : Option Found
  pub unmade : Option ErrorKind

abbrev pub found_of : Known → Option Found
found_of known = known.found

-- what was looked for was found, or an error came
abbrev pub found_by : Result Found Error → Known
found_by (Ok found) = record { found = Some found; unmade = None }
found_by (Err error) = record { found = None; unmade = None }

-- a file was made there or took the path, or an error came
abbrev pub made_by : {T : Type 0} → Known → Result T Error → Known
made_by known result = record { found = known.found; unmade = error_of result }

-- the fault is of the kind of the error by which no file took the path
abbrev pub IsUnmadeBy : Known → IoFault → Type 0
IsUnmadeBy known (Failed kind) = known.unmade ≡ Some kind
IsUnmadeBy known TooLong = ⊤
IsUnmadeBy known Memory = ⊤

-- a plain file stands there
abbrev pub IsPlain : Option Found → Type 0
IsPlain (Some (Plain about)) = ⊤
IsPlain (Some Nothing) = ⊥
IsPlain (Some Other) = ⊥
IsPlain None = ⊥

-- errors of these kinds say that no file can be made next to one that may well be written
abbrev pub makes_none : ErrorKind → Bool
makes_none PermissionDenied = true
makes_none ReadOnlyFilesystem = true
makes_none ResourceBusy = true
makes_none CrossesDevices = true
makes_none InvalidFilename = true
makes_none kind = false

-- and such an error came
abbrev pub MakesNone : Option ErrorKind → Type 0
MakesNone (Some kind) = makes_none kind ≡ true
MakesNone None = ⊥

-- The bytes may go straight to the path: what stands there is no plain file, or it is one and no file can be made next to it.
abbrev pub MayBeStraight : Known → Type 0
MayBeStraight known = (known.found ≡ Some Other) ⊎ (IsPlain known.found × MakesNone known.unmade)
