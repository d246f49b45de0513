-- Parts of the reading of an expression, as the code takes them.
use Rattle.std.specs.Prelude.{◌≡◌, ◌≤◌, ◌+◌, Result, Ok, Err, ⊤, ℕ, Bool, true, false, List, [], ◌∷◌, length, take, drop}
use Rattle.std.specs.Prelude.{Option, Some, None, option_map}
use Rattle.std.specs.List.{prefix_len}
use Rattle.std.specs.Char.{is_ascii_digit}
use Rattle.cam_macros.specs.declared.expression.Step.{Step}
use Rattle.cam_macros.specs.declared.expression.Step.TheVariants.{Push, Read}
use Rattle.cam_macros.specs.declared.parsing.mark.Mark.{Mark}
use Rattle.cam_macros.specs.declared.parsing.mark.Mark.TheVariants.{Numeral, Dollar, Open, Close, Plus, Minus, Times, Over}
use Rattle.cam_macros.specs.declared.parsing.mark.Mark.TheVariants.{Other}
use Rattle.cam_macros.specs.declared.parsing.scanner.Level.{Level}
use Rattle.cam_macros.specs.declared.fault.MacroFault.{MacroFault}
use Rattle.cam_macros.specs.Answers.{IsMalformed}
use Rattle.cam_macros.specs.Scanning.{Scan, Status, Wanted, Behind, charged, is_run_byte, number_of_run, group_opened, scan}
use Rattle.cam_macros.specs.Scanning.{variable_of, with_minus, step_scanned}

-- a sign or an opening parenthesis
abbrev pub prefixed : Mark → Scan → Option Scan
prefixed Open s = group_opened s
prefixed Plus s = charged s
prefixed Minus s = option_map with_minus (charged s)
prefixed Numeral s = None
prefixed Dollar s = None
prefixed Close s = None
prefixed Times s = None
prefixed Over s = None
prefixed Other s = None

-- the steps of what is to come behind an operand, and before one
abbrev pub scan_behind : Option Scan → List ℕ → Option (List Step)
scan_behind None rest = None
scan_behind (Some s) rest = scan Behind s rest

abbrev pub scan_wanted : Option Scan → List ℕ → Option (List Step)
scan_wanted None rest = None
scan_wanted (Some s) rest = scan Wanted s rest

-- a number or a variable with which the text begins, and what is to come
abbrev pub number_then : Scan → List ℕ → Option (List Step)
number_then s text =
    scan_behind (option_map (λ n. step_scanned (Push n) s) (number_of_run (take (prefix_len is_run_byte text) text)))
    (drop (prefix_len is_run_byte text) text)

abbrev pub variable_then : Scan → List ℕ → Option (List Step)
variable_then s text =
    scan_behind (option_map (λ n. step_scanned (Read n) s) (variable_of (take (prefix_len is_ascii_digit text) text)))
    (drop (prefix_len is_ascii_digit text) text)

-- the status before an operand, and behind one
abbrev pub status_of : Bool → Status
status_of true = Wanted
status_of false = Behind

-- no answer, or no memory
abbrev pub IsFaultOf : {A : Type 0} → MacroFault → Option A → Type 0
IsFaultOf fault meant = IsMalformed fault (meant ≡ None)

-- the step goes from one scan to another, or fails
abbrev pub IsStep : {A : Type 0} → Result A MacroFault → Option Scan → Scan → Type 0
IsStep (Ok _) meant new = meant ≡ Some new
IsStep (Err fault) meant new = IsFaultOf fault meant

abbrev pub HaveFew : ℕ → List Level → Type 0
HaveFew budget [] = ⊤
HaveFew budget (level ∷ outer) = (level.minuses + budget ≤ 1000) × HaveFew budget outer

-- the counts of a scanner
pub record IsScanner (level : Level) (outer : List Level) (room budget : ℕ) : Type 0 where
  pub deep : length outer + room ≡ 64
  pub few : level.minuses + budget ≤ 1000
  pub each : HaveFew budget outer
