use Rattle.cam_objects.proofs.EditedLayers.{layer_edits}
use Rattle.cam_objects.proofs.laws.layers_stay_sound.Goals as goal

pub returns : goal.returns
returns c = layer_edits
