use Rattle.cam_objects.proofs.EditedAttributes.{attribute_edits, setting_law}
use Rattle.cam_objects.proofs.laws.attributes_stay_sound.Goals as goal

pub returns-clause-edits : goal.returns-clause-edits
returns-clause-edits c = attribute_edits

pub returns-clause-setting : goal.returns-clause-setting
returns-clause-setting c = setting_law
