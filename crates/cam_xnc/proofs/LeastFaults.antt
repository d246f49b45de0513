-- The fault that is told is the least.
use Rattle.std.proofs.Common.{◌≡◌, ℕ, List, [], true, Option, Some, None, Ok, Err, length}
use Rattle.std.specs.Prelude.{MatchOption}
use Rattle.std.proofs.lemmas.Bool.{false≢true}
use Rattle.cam_refusals.specs.declared.read_fault.ReadFault.{ReadFault}
use Rattle.cam_refusals.specs.FileFaults.{IsLeastFault, IsNotBehind, first_told}
use Rattle.cam_refusals.proofs.FileFaults.{tells_least_fault}
use Rattle.cam_objects.specs.Contents.{DrillContent, drill_content_of}
use Rattle.cam_xnc.specs.Laws.{GivesFaultlessDrillFiles, IsDrillFault, IsNoDrillMemoryFault, TellsLeastDrillFault}
use Rattle.cam_xnc.specs.Reading.{drill_layer_unless, places_of, drill_reading_of, told_lines}
use Rattle.cam_xnc.proofs.OrderedChecks.{is_own, own_at}
use Rattle.cam_xnc.proofs.Places.{places_ascend}

abbrev Tells : List ℕ → Option ReadFault → Type 0
Tells bytes o = MatchOption o ((fault : ReadFault) → ¬ IsDrillFault bytes fault) (IsLeastFault (places_of bytes))

told_of : (bytes : List ℕ) → Tells bytes (first_told (places_of bytes))
told_of bytes = tells_least_fault (places_of bytes) (places_ascend bytes)

pub tells_least : TellsLeastDrillFault
unfolding drill_reading_of
tells_least bytes f e = by (first_told (places_of bytes)) _ (told_of bytes) e
  where
    by : (o : Option ReadFault) (layer : DrillContent) → Tells bytes o → drill_layer_unless o layer ≡ Err f
        → IsDrillFault bytes f × ((g : ReadFault) → IsDrillFault bytes g → IsNotBehind f g)
    by None layer none h = absurd cc
    by (Some g) layer is h = let same : g ≡ f = cc in (rw same at is.is, λ h at. rw same at (is.least h at))

pub faultless_files : GivesFaultlessDrillFiles
unfolding drill_reading_of
faultless_files bytes layer f e = by (first_told (places_of bytes)) _ (told_of bytes) e
  where
    by : (o : Option ReadFault) (other : DrillContent) → Tells bytes o → drill_layer_unless o other ≡ Ok (drill_content_of layer)
        → ¬ IsDrillFault bytes f
    by None other none h = none f
    by (Some g) other is h = absurd cc

pub own_fault : (bytes : List ℕ) (f : ReadFault) → drill_reading_of bytes ≡ Err f → is_own f.code ≡ true
own_fault bytes f e = own_at (length bytes) [] (told_lines bytes) f (tells_least bytes f e).0

pub no_fault_is_memory : IsNoDrillMemoryFault
no_fault_is_memory bytes f e same = false≢true (rw same at (own_fault bytes f e))
