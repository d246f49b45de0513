use Rattle.cam_gerber.proofs.FileAttributes.{sets_its_attribute}
use Rattle.cam_gerber.proofs.laws.attributes_follow_the_rule.Goals as goal

pub returns : goal.returns
returns c = sets_its_attribute
