use Rattle.std.proofs.Common.{ap, ◌∙◌}
use Rattle.cam_objects.specs.Attributes.{attribute_place}
use Rattle.cam_gerber.proofs.KeptAttributes.{same_place}
use Rattle.cam_gerber.proofs.attributes.Attributes.place.Goals as goal

pub returns : goal.returns
returns c =
    c.get_index_of.ensures.index
    ∙ same_place c.args.name.now c.self.inside.names.keys c.self.inside.list.items c.self.invariant
    ∙ ap (attribute_place c.args.name.now) c.self.view_is
