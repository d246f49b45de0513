-- A file means what is computed of it, and nothing else; a reading goes on behind its front.
use Rattle.std.proofs.Common.{arith, ◌≡◌, ℕ, List, [], ◌∷◌, ◌++◌, map, Bool, true, false, Option, None, Result, Ok, refl, sym, ap}
use Rattle.std.proofs.Common.{ap₂, ◌∙◌, subst, length}
use Rattle.std.specs.Prelude.{◌&&◌, not}
use Rattle.std.specs.Option.{option_map}
use Rattle.std.specs.List.{list_all}
use Rattle.std.proofs.lemmas.List.{map-append}
use Rattle.cam_refusals.specs.declared.read_fault.ReadFault.{ReadFault}
use Rattle.cam_refusals.specs.declared.refusal.Refusal.{Refusal}
use Rattle.cam_refusals.specs.Checks.{least}
use Rattle.cam_refusals.specs.Refusals.{number_of}
use Rattle.cam_words.specs.Reading.{WordAnswer, reading}
use Rattle.cam_macros.specs.declared.part.Part.{Part}
use Rattle.cam_macros.specs.Parsing.{parts_of}
use Rattle.cam_macros.specs.Parsing as parsing
use Rattle.cam_macros.specs.Reading.{pieces, first}
use Rattle.cam_macros.proofs.OneReading.{one_reading}
use Rattle.cam_macros.proofs.Parsed.{parsed_by_the_grammar}
use Rattle.cam_commands.specs.Commands.{Command, DefineMacro}
use Rattle.cam_objects.specs.Contents.{Content}
use Rattle.cam_gerber.specs.Statements.{Statement, Says, NamesMacro, Uncut, IsMacroRead, IsMacroOf, IsSaidBy, Told, IsCommandTold}
use Rattle.cam_gerber.specs.State.{Past}
use Rattle.cam_gerber.specs.Layers.{layer_in}
use Rattle.cam_gerber.specs.Faults.{faults}
use Rattle.cam_gerber.specs.Reading.{AreTold, Leads, Means, given, is_end}
use Rattle.cam_gerber.specs.Computing.{MeansItsReading, lead_of, reading_of, statement_said, told_of}
use Rattle.cam_gerber.specs.Laws.{AreEndless, AreFaultless, behind, MeansOneThing}

-- ---- what is told is computed

read_as : (text : List ℕ) (parts : Option (List Part)) → parsing.IsReadAs text parts → IsMacroRead text (first (pieces text)) parts
read_as text parts h = grind arith

pub said : (command : Command) → IsSaidBy command (statement_said command)
said command = grind (arith, read_as, parsed_by_the_grammar)

told : (answer : WordAnswer) → IsCommandTold answer (told_of answer)
told answer = grind (arith, said)

pub are_told : (answers : List WordAnswer) → AreTold answers (map told_of answers)
are_told [] = tt
are_told (answer ∷ answers) = (told answer, are_told answers)

-- ---- nothing else is told

same_parts : (text name : List ℕ) (a b : Option (List Part)) → IsMacroRead text name a → IsMacroRead text name b → a ≡ b
same_parts text name a b h k = grind (arith, one_reading)

same_macro : (text : List ℕ) (says : Statement) → IsMacroOf text says → says ≡ statement_said (DefineMacro text)
same_macro text (Says command) h = absurd h
same_macro text (Uncut refusal) h = absurd h
same_macro text (NamesMacro name parts) h =
    let read = subst (λ name. IsMacroRead text name parts) h.0 h.1 in
    ap₂ (λ name parts. NamesMacro name parts) h.0
    (same_parts text (first (pieces text)) parts (parts_of text) read (read_as text (parts_of text) (parsed_by_the_grammar text)))

pub same_said : (command : Command) (says : Statement) → IsSaidBy command says → says ≡ statement_said command
same_said command says h = grind (arith, same_macro)

same_told : (answer : WordAnswer) (t : Told) → IsCommandTold answer t → t ≡ told_of answer
same_told answer t h = grind (arith, same_said)

pub all_told : (answers : List WordAnswer) (commands : List Told) → AreTold answers commands → commands ≡ map told_of answers
all_told [] [] h = refl
all_told [] (command ∷ commands) h = absurd h
all_told (answer ∷ answers) [] h = absurd h
all_told (answer ∷ answers) (command ∷ commands) h = grind (arith, same_told, all_told answers commands h.1)

-- ---- what a file means is computed

leads_is : (len : ℕ) (past : Past) (answers : List WordAnswer) (result : Result Content ReadFault) → Leads len past answers result
    → result ≡ lead_of len past answers
leads_is len past answers result h = h.2 ∙ ap (given len past) (all_told answers h.0 h.1)

leads : (len : ℕ) (past : Past) (answers : List WordAnswer) (result : Result Content ReadFault) → result ≡ lead_of len past answers
    → Leads len past answers result
leads len past answers result e = (map told_of answers, are_told answers, e)

pub means_its_reading : MeansItsReading
unfolding Means reading_of
means_its_reading bytes = leads (length bytes) [] (reading 0 bytes) (lead_of (length bytes) [] (reading 0 bytes)) refl

pub reading_is : (bytes : List ℕ) (result : Result Content ReadFault) → Means bytes result → result ≡ reading_of bytes
unfolding Means reading_of
reading_is bytes result h = leads_is (length bytes) [] (reading 0 bytes) result h

pub means_one_thing : MeansOneThing
means_one_thing bytes a b h k = reading_is bytes a h ∙ sym (reading_is bytes b k)

-- ---- what the first of some commands does

module _ (len : ℕ) (past : Past) (command : Told) (later : List Told) where
  pub ends : least number_of (faults past command.says) ≡ None → is_end command.says ≡ true
      → given len past (command ∷ later) ≡ Ok (layer_in (command.says ∷ past))
  ends none e = rw (none, e) refl

  pub goes_on : least number_of (faults past command.says) ≡ None → is_end command.says ≡ false
      → given len past (command ∷ later) ≡ given len (command.says ∷ past) later
  goes_on none e = rw (none, e) refl

-- ---- behind a front

none_told : (at : ℕ) (o : Option Refusal) → option_map {U = ReadFault} (λ refusal. record { code = refusal; at = at }) o ≡ None → o ≡ None
none_told at o e = grind arith

goes : (ends rest : Bool) → (not ends && rest) ≡ true → (ends ≡ false) × (rest ≡ true)
goes ends rest e = grind arith

behind_front : (len : ℕ) (past : Past) (front later : List Told) → AreEndless front → AreFaultless past front
    → given len past (front ++ later) ≡ given len (behind past front) later
behind_front len past [] later endless none = refl
behind_front len past (command ∷ front) later endless none =
    let parts = goes (is_end command.says) (list_all (λ c. not (is_end c.says)) front) endless in
    goes_on len past command (front ++ later) (none_told command.at (least number_of (faults past command.says)) none.0) parts.0
    ∙ behind_front len (command.says ∷ past) front later parts.1 none.1

module _ (len : ℕ) (past : Past) (front rest : List WordAnswer) (commands : List Told) (are : AreTold front commands)
    (endless : AreEndless commands) (none : AreFaultless past commands) where
  same_lead : lead_of len past (front ++ rest) ≡ lead_of len (behind past commands) rest
  same_lead = grind (arith, map-append, all_told, behind_front)

  pub to_behind : (result : Result Content ReadFault) → Leads len past (front ++ rest) result → Leads len (behind past commands) rest result
  to_behind result h = leads len (behind past commands) rest result (leads_is len past (front ++ rest) result h ∙ same_lead)

  pub from_behind : (result : Result Content ReadFault) → Leads len (behind past commands) rest result → Leads len past (front ++ rest) result
  from_behind result h = leads len past (front ++ rest) result (leads_is len (behind past commands) rest result h ∙ sym same_lead)
