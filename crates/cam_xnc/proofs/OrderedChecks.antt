-- The checks of a line, and of the end, have ascending numbers, so that the first that holds is told. None is that memory
-- was refused, or that a file could not be read.
use Rattle.std.proofs.Common.{arith, ◌≡◌, ℕ, List, [], ◌∷◌, Bool, true, false, cond, not, refl, inl, inr}
use Rattle.std.specs.Prelude.{◌&&◌}
use Rattle.std.specs.List.{list_all}
use Rattle.std.proofs.lemmas.Bool.{and_parts}
use Rattle.cam_refusals.specs.declared.read_fault.ReadFault.{ReadFault}
use Rattle.cam_refusals.specs.declared.refusal.Refusal.{Refusal}
use Rattle.cam_refusals.specs.declared.refusal.Refusal.TheVariants.{FileFault, NoMemory}
use Rattle.cam_refusals.specs.Checks.{Checks, Holds, first_holding, least}
use Rattle.cam_refusals.specs.FileFaults.{IsFileFault}
use Rattle.cam_refusals.specs.Refusals.{is_same, number_of}
use Rattle.cam_refusals.proofs.Checks.{each_has, is_ascending, least_is_first}
use Rattle.cam_xnc.specs.declared.modes.Part.{Part}
use Rattle.cam_xnc.specs.declared.statement.Statement.{Statement}
use Rattle.cam_xnc.specs.DrillState.{DrillPast, part_in}
use Rattle.cam_xnc.specs.Faults.{checks_by, end_checks}
use Rattle.cam_xnc.specs.Lines.{FoundLine}
use Rattle.cam_xnc.specs.Reading.{is_last_line, line_checks, drill_places_from, line_said}

abbrev pub is_own : Refusal → Bool
is_own refusal = not (is_same refusal NoMemory) && not (is_same refusal FileFault)

-- the numbers ascend from one on, and each is a drill file's own
abbrev is_ordered : Checks Refusal → Bool
is_ordered list = is_ascending number_of 1 list && list_all (λ c. is_own c.0) list

ordered_by : (part : Part) (past : DrillPast) (says : Statement) → is_ordered (checks_by part past says) ≡ true
ordered_by part past says = grind arith

line_ordered : (past : DrillPast) (line : FoundLine) → is_ordered (line_checks past line) ≡ true
line_ordered past line = ordered_by (part_in past) past (line_said line)

pub first_of_line : (past : DrillPast) (line : FoundLine) → least number_of (line_checks past line) ≡ first_holding (line_checks past line)
first_of_line past line =
    let ordered = and_parts (is_ascending number_of 1 (line_checks past line)) _ (line_ordered past line) in
    least_is_first number_of 1 (line_checks past line) ordered.0

own_by : (list : Checks Refusal) (refusal : Refusal) → is_ordered list ≡ true → Holds list refusal → is_own refusal ≡ true
own_by list refusal ordered h = each_has is_own list refusal (and_parts (is_ascending number_of 1 list) _ ordered).1 h

-- the same of the faults of lines and of the end
pub own_at : (len : ℕ) (past : DrillPast) (lines : List FoundLine) (fault : ReadFault) → IsFileFault (drill_places_from len past lines) fault
    → is_own fault.code ≡ true
own_at len past [] fault (inl at) = own_by (end_checks past) fault.code refl at.1
own_at len past [] fault (inr none) = absurd none
own_at len past (line ∷ lines) fault (inl at) = own_by (line_checks past line) fault.code (line_ordered past line) at.1
own_at len past (line ∷ lines) fault (inr there) =
    (elim (is_last_line line) as (λ b. IsFileFault (cond b [] (drill_places_from len (line_said line ∷ past) lines)) fault → is_own fault.code ≡ true) [
      | true ↦ λ none. absurd none
      | false ↦ λ more. own_at len (line_said line ∷ past) lines fault more
    ]) there
