-- What the words still to come lead to, behind the commands before them.
use Rattle.std.proofs.Common.{arith, ◌≡◌, ℕ, List, [], ◌∷◌, length, true, false, None, Result, Ok, Err, refl, inl}
use Rattle.cam_refusals.specs.declared.read_fault.ReadFault.{ReadFault}
use Rattle.cam_refusals.specs.declared.refusal.Refusal.{Refusal}
use Rattle.cam_refusals.specs.declared.refusal.Refusal.TheVariants.{NoEnd}
use Rattle.cam_refusals.specs.declared.stop.Stop.TheVariants.{Fault}
use Rattle.cam_refusals.specs.Checks.{least}
use Rattle.cam_refusals.specs.Refusals.{number_of}
use Rattle.cam_words.specs.Cutting.{FoundWord}
use Rattle.cam_words.specs.Reading.{WordAnswer, reading}
use Rattle.cam_words.specs.declared.word.TextFault.{TextFault}
use Rattle.cam_commands.specs.Commands.{Command}
use Rattle.cam_commands.specs.Syntax.{command_of, start_of}
use Rattle.cam_objects.specs.Contents.{Content}
use Rattle.cam_gerber.specs.declared.running.Running.{Running}
use Rattle.cam_gerber.specs.Statements.{Statement}
use Rattle.cam_gerber.specs.State.{Past}
use Rattle.cam_gerber.specs.Layers.{layer_in}
use Rattle.cam_gerber.specs.Faults.{faults}
use Rattle.cam_gerber.specs.Reading.{IsReading, Means, is_end, is_end_command}
use Rattle.cam_gerber.specs.Computing.{lead_of, reading_of, statement_said}
use Rattle.cam_gerber.specs.Laws.{IsFaultless}
use Rattle.cam_gerber.specs.Machinery.OpenNumbers.{AreWithin}
use Rattle.cam_gerber.specs.Machinery.Tracking.{Obeys, Tracks, content_in}
use Rattle.cam_gerber.proofs.OpenNumbers.{opens_within}
use Rattle.cam_gerber.proofs.Reading.{means_its_reading, same_said}
use Rattle.cam_gerber.proofs.SoundReadings.{stated_within}

end_same : (command : Command) → is_end (statement_said command) ≡ is_end_command command
end_same command = grind arith

content_is : (past : Past) (running : Running) → Tracks past running → content_in running ≡ layer_in past
content_is past running t = grind arith

-- the record is that of a past, from which the rest gives what the file gives
pub record LeadsOn (bytes : List ℕ) (running : Running) (rest : List WordAnswer) : Type 0 where
  pub past : Past
  pub none : IsFaultless past
  pub tracks : Tracks past running
  pub opens : AreWithin past
  pub leads : lead_of (length bytes) past rest ≡ lead_of (length bytes) [] (reading 0 bytes)

pub starts : (bytes : List ℕ) (running : Running) (rest : List WordAnswer) → Tracks [] running → rest ≡ reading 0 bytes
    → LeadsOn bytes running rest
starts bytes running rest t e = grind arith

module _ (bytes : List ℕ) (running : Running) (rest : List WordAnswer) (l : LeadsOn bytes running rest) where
  -- what the rest gives is what the file means
  means : (answers : List WordAnswer) (result : Result Content ReadFault) → rest ≡ answers → lead_of (length bytes) l.past answers ≡ result
      → Means bytes result
  unfolding reading_of
  means answers result e gives = grind (arith, means_its_reading)

  -- no end stands in the file
  pub unended : rest ≡ [] → IsReading bytes (Err (record { code = NoEnd; at = length bytes }))
  unended e = inl (means [] _ e refl)

  -- the text cannot be cut
  pub uncut : (after : List WordAnswer) (fault : TextFault) → rest ≡ Err fault ∷ after
      → IsReading bytes (Err (record { code = fault.code; at = fault.at }))
  uncut after fault e = inl (means (Err fault ∷ after) _ e refl)

  module _ (new : Running) (after : List WordAnswer) (word : FoundWord) (e : rest ≡ Ok word ∷ after) where
    pub refused : (refusal : Refusal) → Obeys (command_of word) running (Err (Fault refusal)) new
        → IsReading bytes (Err (record { code = refusal; at = start_of word }))
    refused refusal obeys = grind (arith, same_said, means)

    module _ (obeys : Obeys (command_of word) running (Ok tt) new) where
      abbrev says : Statement
      says = statement_said (command_of word)

      obeyed : (least number_of (faults l.past says) ≡ None) × Tracks (says ∷ l.past) new
      obeyed = grind (arith, same_said)

      pub ended : is_end_command (command_of word) ≡ true → Means bytes (Ok (content_in new))
      ended ends = grind (arith, means, obeyed, end_same, content_is)

      pub goes_on : is_end_command (command_of word) ≡ false → LeadsOn bytes new after
      goes_on goes = grind (arith, obeyed, stated_within, opens_within, end_same)
