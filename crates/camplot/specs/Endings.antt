-- How a run of a script ends: what was done by then, and the exit status that tells of it.
use Rattle.std.specs.Prelude.{◌≡◌, ◌⊎◌, ℕ, zero, suc, Bool, true, false, List, Result, Ok, Err, IfErr, IfOk, codes}
use Rattle.std.specs.Str.{bytes_eq}
use Rattle.std.specs.Str.Lines.{lines}
use Rattle.cam_station.specs.Machine.{fresh, is_depth}
use Rattle.cam_station.specs.declared.files.FileFault.{FileFault}
use Rattle.cam_station.specs.declared.files.FileFault.TheVariants.{Failed, Memory}
use Rattle.cam_station.specs.Files.{HasRisenBy}
use Rattle.cam_station.specs.Run.{Answers, EndsBy, FilesSeen, Get, Moment, RunsAllLines, World}
use Rattle.cam_refusals.specs.Limits.{file_limit}
use Rattle.camplot.specs.Disk.{AreAllOf, HasGivenMore, HasGivenWithin, ReaderSeen}
use Rattle.camplot.specs.declared.ending.Ending.{Ending}
use Rattle.camplot.specs.declared.ending.Ending.TheVariants.{Ran, Unread, Stopped}
use Rattle.camplot.specs.declared.ending.Outcome.{Outcome}
use Rattle.camplot.specs.declared.ending.Outcome.TheVariants.{NoWords, Answered, Ended}

-- 0 where no line was refused, 1 where some line was, 2 where the script was not run to its end
abbrev pub status_of : Ending → ℕ
status_of (Ran zero) = 0
status_of (Ran (suc refused)) = 1
status_of (Unread fault) = 2
status_of (Stopped fault) = 2

-- and of a call of the program
abbrev pub outcome_status : Outcome → ℕ
outcome_status NoWords = 2
outcome_status (Answered status) = status
outcome_status (Ended ending) = status_of ending

-- how many lines were refused, where all were run
abbrev pub refused_in : Ending → ℕ
refused_in (Ran refused) = refused
refused_in (Unread fault) = 0
refused_in (Stopped fault) = 0

-- `-` stands for the standard input
abbrev pub is_input : List ℕ → Bool
is_input path = bytes_eq path (codes "-")

-- Why the standard input gave no script: a read of it failed, or it has given more than a file may have; or memory was
-- refused, where it had given no more.
abbrev pub IsWhyNoScript : FileFault → ReaderSeen → ReaderSeen → Type 0
IsWhyNoScript Failed old new = HasRisenBy 1 old.failures new.failures ⊎ HasGivenMore old.left new.left file_limit
IsWhyNoScript Memory old new = HasGivenWithin old.left new.left file_limit

-- The file at the path, or for `-` the standard input, gave this, and no other file was asked. The input gave all that it
-- holds, as far as that is told, or none of it: then a read of it failed, it is too long, or memory was refused.
pub record GivesFile (path : List ℕ) (given : Result (List ℕ) FileFault) (reader reader_after : ReaderSeen)
    (before begun : FilesSeen) : Type 0 where
  pub file : is_input path ≡ false → Answers (Get path given) before begun
  pub input : is_input path ≡ true → IfOk given (λ script. AreAllOf reader.left file_limit script) × (begun ≡ before)
  pub unread : is_input path ≡ true → IfErr given (λ fault. IsWhyNoScript fault reader reader_after)

-- The path gave these bytes, and nothing else was done.
pub record GaveScript (path : List ℕ) (script : List ℕ) (reader reader_after : ReaderSeen) (before begun : Moment)
    : Type 0 where
  pub got : GivesFile path (Ok script) reader reader_after before.files begun.files
  pub said : begun.said ≡ before.said
  pub out_failures : begun.out_failures ≡ before.out_failures
  pub refused : begun.refused ≡ before.refused

-- The path gave no bytes, for this fault, and nothing was said.
pub record IsUnread (path : List ℕ) (fault : FileFault) (reader reader_after : ReaderSeen) (before after : Moment)
    : Type 0 where
  pub got : GivesFile path (Err fault) reader reader_after before.files after.files
  pub said : after.said ≡ before.said

-- what was done before the run of these bytes, on a new station of this depth, ended so: all their lines, or fewer
abbrev pub RunEnds : Ending → List ℕ → ℕ → Moment → Moment → Type 0
RunEnds (Ran refused) script depth begun after =
    (is_depth depth ≡ true) × (ws : List World) × RunsAllLines (fresh depth) (lines script) ws begun after
RunEnds (Unread fault) script depth begun after = ⊥
RunEnds (Stopped fault) script depth begun after = EndsBy fault depth (lines script) begun after

-- the path gave a script, and what was done before its run ended so
abbrev pub RunsUntil : Ending → List ℕ → ℕ → ReaderSeen → ReaderSeen → Moment → Moment → Type 0
RunsUntil ending path depth reader reader_after before after =
    (script : List ℕ) × (begun : Moment) × GaveScript path script reader reader_after before begun
    × RunEnds ending script depth begun after

-- what was done before the run of the script at the path ended so
abbrev pub EndsAs : Ending → List ℕ → ℕ → ReaderSeen → ReaderSeen → Moment → Moment → Type 0
EndsAs (Ran refused) path depth reader reader_after before after =
    RunsUntil (Ran refused) path depth reader reader_after before after
EndsAs (Unread fault) path depth reader reader_after before after = IsUnread path fault reader reader_after before after
EndsAs (Stopped fault) path depth reader reader_after before after =
    RunsUntil (Stopped fault) path depth reader reader_after before after
