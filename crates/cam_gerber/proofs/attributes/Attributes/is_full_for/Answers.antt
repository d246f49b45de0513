use Rattle.std.proofs.Common.{arith, ap, sym, ◌∙◌}
use Rattle.std.specs.Prelude.{nat_lt}
use Rattle.cam_objects.specs.Attributes.{attribute_of}
use Rattle.cam_objects.proofs.EditedAttributes.{room_added, room_kept}
use Rattle.cam_gerber.proofs.KeptAttributes.{full_next}
use Rattle.cam_gerber.proofs.attributes.Attributes.is_full_for.Goals as goal

pub returns-in-Some : goal.returns-in-Some
returns-in-Some c = λ fields.
    ap (nat_lt 1000)
    (c.len.ensures
    ∙ sym (room_kept (attribute_of c.args.name.now fields) c.args.self.now c.in-Some.field-0 (sym c.place.ensures ∙ c.in-Some.is)))

pub returns-in-None : goal.returns-in-None
returns-in-None c = λ fields. grind (arith, full_next, room_added)
