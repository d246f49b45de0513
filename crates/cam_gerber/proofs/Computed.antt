-- What is computed of a file is what its reader answers; its layers are sound, and the numbers of its faults under that of
-- memory.
use Rattle.std.proofs.Common.{arith, ◌≡◌, ◌≤◌, ℕ, List, Result, Ok, Err, subst}
use Rattle.std.specs.Prelude.{◌⊎◌}
use Rattle.cam_refusals.specs.declared.read_fault.ReadFault.{ReadFault}
use Rattle.cam_refusals.specs.Refusals.{number_of}
use Rattle.cam_objects.specs.declared.layer.Layer.{Layer}
use Rattle.cam_objects.specs.Attributes.{AreAttributes}
use Rattle.cam_objects.specs.Contents.{Content}
use Rattle.cam_objects.specs.Soundness.{IsSoundContent}
use Rattle.cam_gerber.specs.Reading.{Means, layer_answer, IsReading}
use Rattle.cam_refusals.specs.FileFaults.{no_memory}
use Rattle.cam_gerber.specs.Computing.{reading_of}
use Rattle.cam_gerber.proofs.Reading.{means_its_reading, reading_is}
use Rattle.cam_gerber.proofs.LeastFaults.{faults_are_numbered}
use Rattle.cam_gerber.proofs.SoundReadings.{content_is_sound}
use Rattle.cam_gerber.proofs.SoundReadings as sound

pub reading_answers : (bytes : List ℕ) (result : Result Layer ReadFault) → IsReading bytes result
    → (layer_answer result ≡ reading_of bytes) ⊎ (result ≡ Err no_memory)
reading_answers bytes result it = grind (arith, reading_is)

-- ---- what a file gives

means : (bytes : List ℕ) (result : Result Content ReadFault) → reading_of bytes ≡ result → Means bytes result
means bytes result e = subst (Means bytes) e (means_its_reading bytes)

pub reading_is_sound : (bytes : List ℕ) (layer : Content) → reading_of bytes ≡ Ok layer
    → IsSoundContent layer.entries layer.items
reading_is_sound bytes layer e = content_is_sound bytes layer (means bytes (Ok layer) e)

pub attributes_are_sound : (bytes : List ℕ) (layer : Content) → reading_of bytes ≡ Ok layer → AreAttributes layer.attributes
attributes_are_sound bytes layer e = sound.attributes_are_sound bytes layer (means bytes (Ok layer) e)

pub fault_number : (bytes : List ℕ) (f : ReadFault) → reading_of bytes ≡ Err f → number_of f.code ≤ 29
fault_number bytes f e = faults_are_numbered bytes f (means bytes (Err f) e)
