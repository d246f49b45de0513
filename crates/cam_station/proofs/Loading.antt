-- What the readers answer is what the file means, but where memory was refused.
use Rattle.std.proofs.Common.{◌≡◌, ◌⊎◌, ℕ, false, List, inl, inr, sym, refl, Result, Ok, Err}
use Rattle.cam_refusals.specs.declared.read_fault.ReadFault.{ReadFault}
use Rattle.cam_refusals.specs.declared.refusal.Refusal.{Refusal}
use Rattle.cam_refusals.specs.Refusals.{is_same}
use Rattle.cam_objects.specs.declared.drill_layer.DrillLayer.{DrillLayer}
use Rattle.cam_objects.specs.declared.layer.Layer.{Layer}
use Rattle.cam_objects.specs.Contents.{content_of as gerber_content, drill_content_of as drill_content}
use Rattle.cam_gerber.specs.Reading.{IsReading as IsGerberReading, layer_answer as gerber_answer}
use Rattle.cam_refusals.specs.FileFaults.{no_memory as no_gerber_memory, no_memory as no_drill_memory}
use Rattle.cam_gerber.specs.Computing.{reading_of as gerber_reading}
use Rattle.cam_gerber.proofs.Computed.{reading_answers as gerber_reads}
use Rattle.cam_xnc.specs.Reading.{IsDrillReading, drill_reading_of as drill_reading}
use Rattle.cam_edits.specs.Sheets.{Gerber, Drill}
use Rattle.cam_edits.specs.declared.board.SheetContent.{SheetContent}
use Rattle.cam_station.specs.declared.fault.Fault.{Fault}
use Rattle.cam_station.specs.Machine.{memory_of, reader_answer}
use Rattle.cam_station.specs.Meanings.{drill_meaning, fault_at, gerber_meaning}
use Rattle.cam_refusals.specs.declared.refusal.Refusal.TheVariants.{NoMemory}
use Rattle.cam_station.proofs.FaultNumbers.{drill_own, gerber_own}

-- the answer to a file that is refused
abbrev failed : Refusal → ℕ → Result SheetContent Fault
failed code at = Err (fault_at code at)

pub drill_refused : (bytes : List ℕ) (f : ReadFault) → IsDrillReading bytes (Err f)
    → reader_answer (memory_of (failed f.code f.at)) (drill_meaning (drill_reading bytes)) ≡ Err (fault_at f.code f.at)
drill_refused bytes f (inl e) =
    let never : is_same f.code NoMemory ≡ false = (drill_own bytes f (sym e)).memory in
    rw (never, ← e) refl
drill_refused bytes f (inr e) = let same : f ≡ no_drill_memory = cc in rw same refl

pub drill_read : (bytes : List ℕ) (layer : DrillLayer) → IsDrillReading bytes (Ok layer)
    → drill_meaning (drill_reading bytes) ≡ Ok (Drill (drill_content layer))
drill_read bytes layer (inl e) = rw (← e) refl
drill_read bytes layer (inr e) = absurd cc

-- what the reader answers, told by the function
abbrev IsGerberAnswer : List ℕ → Result Layer ReadFault → Type 0
IsGerberAnswer bytes result = (gerber_answer result ≡ gerber_reading bytes) ⊎ (result ≡ Err no_gerber_memory)

refused_by : (bytes : List ℕ) (f : ReadFault) → IsGerberAnswer bytes (Err f)
    → reader_answer (memory_of (failed f.code f.at)) (gerber_meaning (gerber_reading bytes)) ≡ Err (fault_at f.code f.at)
refused_by bytes f (inl e) =
    let never : is_same f.code NoMemory ≡ false = (gerber_own bytes f (sym e)).memory in
    rw (never, ← e) refl
refused_by bytes f (inr e) = let same : f ≡ no_gerber_memory = cc in rw same refl

read_by : (bytes : List ℕ) (layer : Layer) → IsGerberAnswer bytes (Ok layer)
    → gerber_meaning (gerber_reading bytes) ≡ Ok (Gerber (gerber_content layer))
read_by bytes layer (inl e) = rw (← e) refl
read_by bytes layer (inr e) = absurd cc

pub gerber_refused : (bytes : List ℕ) (f : ReadFault) → IsGerberReading bytes (Err f)
    → reader_answer (memory_of (failed f.code f.at)) (gerber_meaning (gerber_reading bytes)) ≡ Err (fault_at f.code f.at)
gerber_refused bytes f h = refused_by bytes f (gerber_reads bytes (Err f) h)

pub gerber_read : (bytes : List ℕ) (layer : Layer) → IsGerberReading bytes (Ok layer)
    → gerber_meaning (gerber_reading bytes) ≡ Ok (Gerber (gerber_content layer))
gerber_read bytes layer h = read_by bytes layer (gerber_reads bytes (Ok layer) h)

pub ruleset answers = (gerber_refused, gerber_read, drill_refused, drill_read)
