use Rattle.cam_objects.proofs.EditedLayers.{drill_edits}
use Rattle.cam_objects.proofs.SoundDrilling.{drill_growth}
use Rattle.cam_objects.proofs.laws.drill_layers_stay_sound.Goals as goal

pub returns : goal.returns
returns c = record { growth = drill_growth; edits = drill_edits }
