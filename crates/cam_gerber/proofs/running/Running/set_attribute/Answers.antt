use Rattle.std.proofs.Common.{◌≡◌, ℕ, List, ◌∷◌, length, refl, ap, ap₂, sym, ◌∙◌}
use Rattle.std.specs.Prelude.{nat_lt}
use Rattle.cam_objects.specs.Attributes.{attribute_of, with_attribute}
use Rattle.cam_commands.specs.declared.names.FreeText.TheVariants.{FileAttribute}
use Rattle.cam_commands.specs.Commands.{KeepText}
use Rattle.cam_gerber.specs.Statements.{Says}
use Rattle.cam_gerber.specs.Attributes.{attribute_fields, names_in}
use Rattle.cam_gerber.proofs.FileAttributes.{names_counted, set_tracks}
use Rattle.cam_gerber.proofs.running.Running.set_attribute.Goals as goal

pub returns-then-is_full_for : goal.returns-then-is_full_for
returns-then-is_full_for c = λ past none t.
    let text = c.args.text.now in
    let old = c.args.self.now.attributes in
    let counted : nat_lt 1000 (length (names_in (Says (KeepText FileAttribute text) ∷ past))) ≡ c.is_full_for.result =
    sym (names_counted past text old t.attributes)
    ∙ ap (λ (n : List ℕ). nat_lt 1000 (length (with_attribute (attribute_of n (attribute_fields text)) old))) (sym c.split.ensures.name)
    ∙ sym (c.is_full_for.ensures (attribute_fields text)) in
    rw (counted ∙ c.if-is_full_for.true) refl

pub returns : goal.returns
returns c = λ past none t.
    let text = c.args.text.now in
    let old = c.args.self.now.attributes in
    let counted : nat_lt 1000 (length (names_in (Says (KeepText FileAttribute text) ∷ past))) ≡ c.is_full_for.result =
    sym (names_counted past text old t.attributes)
    ∙ ap (λ (n : List ℕ). nat_lt 1000 (length (with_attribute (attribute_of n (attribute_fields text)) old))) (sym c.split.ensures.name)
    ∙ sym (c.is_full_for.ensures (attribute_fields text)) in (
      rw (counted ∙ c.if-is_full_for.false) refl,
      set_tracks past text c.args.self.now c.set.new.self t
          (c.in_ok-set.ensures
          ∙ ap₂ (λ (n f : List ℕ). with_attribute (attribute_of n f) old) c.split.ensures.name c.split.ensures.fields),
    )
