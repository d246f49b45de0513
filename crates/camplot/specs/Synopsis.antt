-- The synopsis of the program, `camplot SCRIPT [--depth N] [--explain] [--progress]`, and what a call by it means.
use Rattle.std.specs.Prelude.{◌≡◌, ◌≢◌, ◌≤◌, ℕ, Bool, List, [], ◌∷◌, ◌++◌, Option, Some, None, true, false, pos}
use Rattle.std.specs.Prelude.{codes, decimal, option_map}
use Rattle.std.specs.Str.Parse.{digits_value, without_leading_plus}
use Rattle.cam_undo.specs.Machine.{greatest_depth}
use Rattle.clap.specs.Words.{App, HasKind, Rule, Text, first_of, kind_of, matches_of, new_app}
use Rattle.clap.specs.Words.{new_rule, one_of, with_rule}
use Rattle.clap.specs.Simple.{on_top}
use Rattle.clap.specs.Faults.{fault_of}
use Rattle.clap.specs.declared.builder.action.ArgAction.TheVariants.{Set, SetTrue}
use Rattle.clap.specs.declared.builder.value_parser.ValueParser.TheVariants.{Signed}
use Rattle.clap.specs.declared.error.kind.ErrorKind.TheVariants.{OutOfMemory}
use Rattle.camplot.specs.declared.options.OptionsFault.{OptionsFault}
use Rattle.camplot.specs.declared.options.OptionsFault.TheVariants.{Refused, Memory}

-- SCRIPT: the path of the script, which no call may leave out
abbrev pub script_argument : Rule
script_argument = record (new_rule (codes "script")) {
  required = true;
  action = Some Set;
  value_names = 1;
}

-- --depth N: the undo depth, from 1 to the greatest one; a call without it means 100
abbrev pub depth_option : Rule
depth_option = record (new_rule (codes "depth")) {
  long = Some (codes "depth");
  action = Some Set;
  value_names = 1;
  defaults = codes "100" ∷ [];
  parser = Some (Signed (pos 1) (pos greatest_depth));
}

-- --explain: a flag
abbrev pub explain_option : Rule
explain_option = record (new_rule (codes "explain")) {
  long = Some (codes "explain");
  action = Some SetTrue;
}

-- --progress: a flag
abbrev pub progress_option : Rule
progress_option = record (new_rule (codes "progress")) {
  long = Some (codes "progress");
  action = Some SetTrue;
}

-- the command that has a version to tell, by --version
abbrev pub with_version : App → App
with_version a = on_top (λ s. record s { has_version = true }) a

-- the program's command line, as clap reads it
abbrev pub camplot : App
camplot =
    with_rule (with_rule (with_rule (with_rule (with_version (new_app (codes "camplot"))) script_argument)
    depth_option) explain_option) progress_option

-- the number that decimal digits write; a `+` may stand before them
abbrev pub count_written : Text → ℕ
count_written text = digits_value 10 (without_leading_plus text)

-- the words call for a run of the script at this path, with this undo depth
pub record IsCallFor (words : List Text) (path : Text) (depth : ℕ) : Type 0 where
  pub accepted : fault_of camplot words ≡ []
  pub script : first_of (codes "script") (matches_of camplot words) ≡ Some path
  pub number : option_map count_written (one_of (codes "depth") (matches_of camplot words))
      ≡ Some depth
  pub in_range : (1 ≤ depth) × (depth ≤ greatest_depth)

-- the value of `--explain`, `true` or `false`, as clap writes it
abbrev pub explain_text : List Text → Option Text
explain_text words = one_of (codes "explain") (matches_of camplot words)

-- the words ask for explanations, or they do not
pub record Asks (words : List Text) (explain : Bool) : Type 0 where
  pub asked : explain_text words ≡ Some (codes "true") → explain ≡ true
  pub unasked : explain_text words ≡ Some (codes "false") → explain ≡ false

-- the value of `--progress`, likewise
abbrev pub progress_text : List Text → Option Text
progress_text words = one_of (codes "progress") (matches_of camplot words)

-- the words ask for each line to be named, or they do not
pub record WantsProgress (words : List Text) (progress : Bool) : Type 0 where
  pub asked : progress_text words ≡ Some (codes "true") → progress ≡ true
  pub unasked : progress_text words ≡ Some (codes "false") → progress ≡ false

-- a path that can stand for itself: it is not empty, and does not begin with `-` (45)
abbrev pub IsPlainPath : Text → Type 0
IsPlainPath [] = ⊥
IsPlainPath (first ∷ rest) = first ≢ 45

-- the words of the shortest call: the program's name, the script, and the depth where one is given
abbrev pub plain_call : Text → Text → Option ℕ → List Text
plain_call name script None = name ∷ script ∷ []
plain_call name script (Some depth) = name ∷ script ∷ codes "--depth" ∷ decimal depth ∷ []

-- the same with `--explain` behind it
abbrev pub explained_call : Text → Text → Option ℕ → List Text
explained_call name script depth = plain_call name script depth ++ codes "--explain" ∷ []

-- memory ran out
abbrev pub IsOfMemory : OptionsFault → Type 0
IsOfMemory (Refused error) = kind_of error ≡ OutOfMemory
IsOfMemory Memory = Unit {0}

-- memory ran out, or clap finds a fault of this kind in the words
abbrev pub IsFaultIn : List Text → OptionsFault → Type 0
IsFaultIn words (Refused error) = HasKind (fault_of camplot words) error
IsFaultIn words Memory = Unit {0}
