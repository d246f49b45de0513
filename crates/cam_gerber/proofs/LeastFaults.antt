-- The fault that is told is the least, and no fault is one of memory.
use Rattle.std.proofs.Common.{◌≡◌, ℕ, ◌≤◌, List, [], ◌∷◌, length, map, true, false, cond, Option, Ok, Err, refl, ap}
use Rattle.std.proofs.Common.{arith, inl, inr}
use Rattle.std.specs.Prelude.{MatchOption, nat_le}
use Rattle.std.specs.List.{AllByRecursion}
use Rattle.std.proofs.lemmas.Bool.{leb-true}
use Rattle.cam_refusals.specs.declared.read_fault.ReadFault.{ReadFault}
use Rattle.cam_refusals.specs.declared.refusal.Refusal.TheVariants.{NoEnd}
use Rattle.cam_refusals.specs.FileFaults.{IsFileFault, IsLeastFault, Place, first_told}
use Rattle.cam_refusals.specs.Refusals.{number_of}
use Rattle.cam_refusals.proofs.FileFaults.{tells_least_fault}
use Rattle.cam_words.specs.Laws.{TellsFault}
use Rattle.cam_words.specs.Reading.{WordAnswer, reading}
use Rattle.cam_words.specs.declared.word.TextFault.{TextFault}
use Rattle.cam_objects.specs.Contents.{Content}
use Rattle.cam_gerber.specs.State.{Past}
use Rattle.cam_gerber.specs.Faults.{faults}
use Rattle.cam_gerber.specs.Reading.{Means, is_end, layer_unless, places_from}
use Rattle.cam_gerber.specs.Computing.{reading_of, told_of}
use Rattle.cam_gerber.specs.Laws.{GivesFaultlessFiles, IsFault, IsNoMemoryFault, TellsLeastGerberFault}
use Rattle.cam_gerber.proofs.LowNumbers.{are_low, low_faults, low_number}
use Rattle.cam_gerber.proofs.Places.{all_answers, places_ascend}
use Rattle.cam_gerber.proofs.Reading.{all_told, are_told, reading_is}

abbrev places_of : List ℕ → List Place
places_of bytes = places_from (length bytes) [] (map told_of (reading 0 bytes))

in_places : (bytes : List ℕ) (fault : ReadFault) → IsFault bytes fault → IsFileFault (places_of bytes) fault
in_places bytes fault f = grind (arith, all_told, are_told)

abbrev Tells : List ℕ → Option ReadFault → Type 0
Tells bytes o = MatchOption o ((fault : ReadFault) → ¬ IsFileFault (places_of bytes) fault) (IsLeastFault (places_of bytes))

tells : (bytes : List ℕ) → Tells bytes (first_told (places_of bytes))
tells bytes = tells_least_fault (places_of bytes) (places_ascend bytes)

-- ---- what is told

told_is : (bytes : List ℕ) (fault : ReadFault) (o : Option ReadFault) (layer : Content) → Tells bytes o
    → Err fault ≡ layer_unless o layer → IsLeastFault (places_of bytes) fault
told_is bytes fault o layer is e = grind arith

least_fault : (bytes : List ℕ) (fault : ReadFault) → Means bytes (Err fault) → IsLeastFault (places_of bytes) fault
unfolding reading_of
least_fault bytes fault h = told_is bytes fault (first_told (places_of bytes)) _ (tells bytes) (reading_is bytes (Err fault) h)

pub tells_least : TellsLeastGerberFault
tells_least bytes f h =
    let is = least_fault bytes f h in
    let commands = map told_of (reading 0 bytes) in
    (record { commands = commands; are_told = are_told (reading 0 bytes); is = is.is }, λ g at. is.least g (in_places bytes g at))

none_is : (bytes : List ℕ) (o : Option ReadFault) (layer content : Content) → Tells bytes o → Ok content ≡ layer_unless o layer
    → (fault : ReadFault) → ¬ IsFileFault (places_of bytes) fault
none_is bytes o layer content is e = grind arith

pub faultless_files : GivesFaultlessFiles
unfolding reading_of
faultless_files bytes layer f h at =
    none_is bytes (first_told (places_of bytes)) _ layer (tells bytes) (reading_is bytes (Ok layer) h) f (in_places bytes f at)

-- ---- every number is under that of memory

-- the fault of the cutting
abbrev IsLow : WordAnswer → Type 0
IsLow (Ok word) = Unit {0}
IsLow (Err fault) = nat_le (number_of fault.code) 29 ≡ true

low_cut : (fault : TextFault) (text : List ℕ) → TellsFault fault.code text → IsLow (Err fault)
low_cut fault text it = grind arith

low_answer : (past : Past) (answer : WordAnswer) → IsLow answer → are_low (faults past (told_of answer).says) ≡ true
low_answer past answer low = grind (arith, low_faults)

low_places : (len : ℕ) (past : Past) (answers : List WordAnswer) (fault : ReadFault) → AllByRecursion IsLow answers
    → IsFileFault (places_from len past (map told_of answers)) fault → nat_le (number_of fault.code) 29 ≡ true
low_places len past [] fault low (inl here) = low_number ((NoEnd, true) ∷ []) fault.code refl here.1
low_places len past [] fault low (inr later) = absurd later
low_places len past (answer ∷ answers) fault low (inl here) = grind (arith, low_number, low_answer)
low_places len past (answer ∷ answers) fault low (inr later) =
    (elim (is_end (told_of answer).says)
    as (λ b. IsFileFault (cond b [] (places_from len ((told_of answer).says ∷ past) (map told_of answers))) fault
    → nat_le (number_of fault.code) 29 ≡ true) [
      | true ↦ λ none. absurd none
      | false ↦ low_places len ((told_of answer).says ∷ past) answers fault low.1
    ]) later

pub faults_are_numbered : (bytes : List ℕ) (f : ReadFault) → Means bytes (Err f) → number_of f.code ≤ 29
faults_are_numbered bytes f h = leb-true (number_of f.code) 29
    (low_places (length bytes) [] (reading 0 bytes) f (all_answers IsLow (λ at command is. tt) low_cut bytes) (least_fault bytes f h).is)

pub no_fault_is_memory : IsNoMemoryFault
no_fault_is_memory bytes f h e = omega (arith, ap number_of e, faults_are_numbered bytes f h)
