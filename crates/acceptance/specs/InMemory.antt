-- Files and an output in memory, of which the calls that a test asks for fail.
use Rattle.std.specs.Prelude.{◌≡◌, ◌-◌, ◌==◌, ℕ, if◌then◌else◌, List, [], Option, None, Some, Result, Ok, Err, IsOk}
use Rattle.std.specs.BTreeMap.{get_by_text}
use Rattle.cam_station.specs.Files.{ToldFiles, AtPath, NoFile, FileOf}
use Rattle.cam_station.specs.declared.files.FileFault.{FileFault}
use Rattle.cam_station.specs.declared.files.FileFault.TheVariants.{Failed, Memory}
use Rattle.acceptance.specs.declared.files.MemoryFiles.{MemoryFiles}
use Rattle.acceptance.specs.declared.out.MemoryOut.{MemoryOut}

abbrev pub file_or_none : Option (List ℕ) → AtPath
file_or_none None = NoFile
file_or_none (Some bytes) = FileOf bytes

-- what a path holds
abbrev pub file_at : MemoryFiles → List ℕ → AtPath
file_at f path = file_or_none (get_by_text f.held path)

-- what is told of the files: what each path holds
abbrev pub told_files : MemoryFiles → ToldFiles
told_files f = Some (λ path. Some (file_at f path))

-- how many calls failed
abbrev pub failed_calls : MemoryFiles → ℕ
failed_calls f = f.failures

-- no file; the get and the put of these numbers are to fail
pub record IsEmpty (f : MemoryFiles) (get put : ℕ) : Type 0 where
  pub files : (path : List ℕ) → file_at f path ≡ NoFile
  pub gets : f.gets ≡ get
  pub puts : f.puts ≡ put
  pub failures : f.failures ≡ 0

abbrev pub got_of : AtPath → Result (List ℕ) FileFault
got_of NoFile = Err Failed
got_of (FileOf bytes) = Ok bytes

-- what a get gives where memory is ample: the file's bytes, unless it is the one that is to fail or there is no file
abbrev pub get_of : MemoryFiles → List ℕ → Result (List ℕ) FileFault
get_of f path = if f.gets == 1 then Err Failed else got_of (file_at f path)

-- what a put gives where memory is ample: it is done, unless it is the one that is to fail
abbrev pub put_of : MemoryFiles → Result (Unit {0}) FileFault
put_of f = if f.puts == 1 then Err Failed else Ok tt

-- a call that would give this gives that fault: its own, or want of memory where it has none
abbrev pub FailsBy : {T : Type 0} → Result T FileFault → FileFault → Type 0
FailsBy wanted Failed = wanted ≡ Err Failed
FailsBy wanted Memory = IsOk wanted

-- a get counts, and changes no file
pub record IsAfterGet (old new : MemoryFiles) : Type 0 where
  pub files : (path : List ℕ) → file_at new path ≡ file_at old path
  pub gets : new.gets ≡ old.gets - 1
  pub puts : new.puts ≡ old.puts

-- a put counts
pub record IsAfterPut (old new : MemoryFiles) : Type 0 where
  pub gets : new.gets ≡ old.gets
  pub puts : new.puts ≡ old.puts - 1

-- and changes no file where it fails
abbrev pub KeepsFiles : MemoryFiles → MemoryFiles → Type 0
KeepsFiles old new = (path : List ℕ) → file_at new path ≡ file_at old path

-- all that was said
abbrev pub said_by : MemoryOut → Option (List ℕ)
said_by o = Some o.said.items

-- how many calls were not said
abbrev pub unsaid_calls : MemoryOut → ℕ
unsaid_calls o = o.failures

-- nothing was said; the call of this number is to fail
pub record IsSilent (o : MemoryOut) (say : ℕ) : Type 0 where
  pub said : said_by o ≡ Some []
  pub says : o.says ≡ say
  pub failures : o.failures ≡ 0

-- the next call is the one that is to fail
abbrev pub IsToFail : MemoryOut → Type 0
IsToFail o = o.says ≡ 1

-- a call counts
abbrev pub IsAfterSay : MemoryOut → MemoryOut → Type 0
IsAfterSay old new = new.says ≡ old.says - 1
