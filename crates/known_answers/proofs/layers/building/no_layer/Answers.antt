use Rattle.std.proofs.Common.{rules, sym, subst}
use Rattle.cam_objects.specs.Attributes.{AreAttributes}
use Rattle.cam_objects.proofs.EditedAttributes.{none_set}
use Rattle.known_answers.proofs.layers.building.no_layer.Goals as goal

pub returns : goal.returns
returns c = record { attributes = subst AreAttributes (sym c.new.ensures.attributes) none_set; content = search rules }
