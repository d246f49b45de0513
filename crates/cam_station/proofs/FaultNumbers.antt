-- The readers' faults: none is that memory was refused, or that a file could not be read.
use Rattle.std.proofs.Common.{◌≡◌, ℕ, ◌≤◌, Bool, true, false, List, Result, Ok, Err, refl, arith}
use Rattle.std.specs.Prelude.{not}
use Rattle.std.proofs.lemmas.Bool.{and_parts, ne_eqb}
use Rattle.cam_refusals.specs.declared.read_fault.ReadFault.{ReadFault}
use Rattle.cam_refusals.specs.declared.refusal.Refusal.{Refusal}
use Rattle.cam_refusals.specs.declared.refusal.Refusal.TheVariants.{FileFault, NoMemory}
use Rattle.cam_refusals.specs.Refusals.{is_same, number_of}
use Rattle.cam_objects.specs.Contents.{Content as GerberContent, DrillContent}
use Rattle.cam_gerber.specs.Computing.{reading_of as gerber_reading}
use Rattle.cam_gerber.proofs.Computed.{fault_number}
use Rattle.cam_xnc.specs.Reading.{drill_reading_of as drill_reading}
use Rattle.cam_xnc.proofs.LeastFaults.{own_fault}
use Rattle.cam_script.specs.declared.command.FileKind.{FileKind}
use Rattle.cam_script.specs.declared.command.FileKind.TheVariants as kinds
use Rattle.cam_edits.specs.Sheets.{Content}
use Rattle.cam_station.specs.declared.fault.Fault.{Fault}
use Rattle.cam_station.specs.Meanings.{drill_meaning, gerber_meaning, meaning_of}

-- it is a reader's own
pub record IsOwn (refusal : Refusal) : Type 0 where
  pub memory : is_same refusal NoMemory ≡ false
  pub file : is_same refusal FileFault ≡ false

low_own : (refusal : Refusal) → number_of refusal ≤ 29 → IsOwn refusal
low_own refusal low = record {
  memory = ne_eqb (number_of refusal) 30 (λ same. omega (arith, low, same));
  file = ne_eqb (number_of refusal) 82 (λ same. omega (arith, low, same));
}

pub gerber_own : (bytes : List ℕ) (f : ReadFault) → gerber_reading bytes ≡ Err f → IsOwn f.code
gerber_own bytes f e = low_own f.code (fault_number bytes f e)

never : (b : Bool) → not b ≡ true → b ≡ false
never true e = absurd cc
never false e = refl

pub drill_own : (bytes : List ℕ) (f : ReadFault) → drill_reading bytes ≡ Err f → IsOwn f.code
drill_own bytes f e =
    let own = and_parts (not (is_same f.code NoMemory)) (not (is_same f.code FileFault)) (own_fault bytes f e) in
    record { memory = never (is_same f.code NoMemory) own.0; file = never (is_same f.code FileFault) own.1 }

-- the answer is no refusal of a file that failed
abbrev pub IsOwnMeaning : Result Content Fault → Type 0
IsOwnMeaning (Ok content) = Unit {0}
IsOwnMeaning (Err f) = is_same f.code FileFault ≡ false

gerber_means : (r : Result GerberContent ReadFault) → ((f : ReadFault) → r ≡ Err f → IsOwn f.code) → IsOwnMeaning (gerber_meaning r)
gerber_means (Ok c) own = tt
gerber_means (Err f) own = (own f refl).file

drill_means : (r : Result DrillContent ReadFault) → ((f : ReadFault) → r ≡ Err f → IsOwn f.code) → IsOwnMeaning (drill_meaning r)
drill_means (Ok c) own = tt
drill_means (Err f) own = (own f refl).file

pub meaning_own : (kind : FileKind) (bytes : List ℕ) → IsOwnMeaning (meaning_of kind bytes)
meaning_own kinds.Gerber bytes = gerber_means (gerber_reading bytes) (gerber_own bytes)
meaning_own kinds.Drill bytes = drill_means (drill_reading bytes) (drill_own bytes)
