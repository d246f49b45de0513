use Rattle.std.proofs.Common.{◌≡◌, ◌∷◌, sym, ap, refl, subst, ◌∙◌, None, Some}
use Rattle.cam_refusals.specs.Checks.{IsLeast}
use Rattle.cam_refusals.specs.Refusals.{number_of}
use Rattle.cam_words.specs.Heads.{packed}
use Rattle.cam_apertures.specs.Definition.{template_form, faults_of}
use Rattle.cam_commands.specs.Commands.{DefineAperture}
use Rattle.cam_gerber.specs.Statements.{Says}
use Rattle.cam_gerber.specs.Layers.{macros_in}
use Rattle.cam_gerber.specs.State.{unit_in}
use Rattle.cam_units.specs.Nearest.{unit_or_mm}
use Rattle.cam_gerber.proofs.Defining.{meant, definition_faults, some_fault, new_number, defined_tracks, same_macros}
use Rattle.cam_gerber.proofs.Defining.{defined_number_is, faultless_definition}
use Rattle.cam_gerber.proofs.Least.{least_of}
use Rattle.cam_gerber.proofs.SoundEntries.{definition_may_add}
use Rattle.cam_gerber.proofs.running.Running.define.Goals as goal

pub returns-in-Some : goal.returns-in-Some
returns-in-Some c = λ past none t.
    let macros : c.args.self.now.built.macros ≡ macros_in past = t.built.macros in
    let same = same_macros past c.args.self.now c.parse_ad.new.macros c.parse_ad.ensures.macros t in
    let unit : c.unwrap_or-unit.result ≡ unit_or_mm (unit_in past) = c.unwrap_or-unit.ensures ∙ ap unit_or_mm t.modal.unit in (
      Says (DefineAperture (packed c.args.text.now)),
      refl,
      sym (definition_faults past c.args.text.now c.args.self.now.built.macros c.unwrap_or-unit.result
          (Some c.in-Ok.number) None c.lowest-in-Ok.result macros unit (sym (defined_number_is _ _ _ _ _ c.in-Ok.ensures.ok))
          (λ checks e. c.lowest-in-Ok.ensures past checks same e) (sym (faultless_definition _ _ _ _ _ c.in-Ok.ensures.ok))) ∙ c.in-Some.is,
    )

pub push-requires : goal.push-requires
push-requires c =
    let past = c.requires.0 in
    let t = c.requires.2 in
    let same = same_macros past c.args.self.now c.parse_ad.new.macros c.parse_ad.ensures.macros t in
    definition_may_add c.args.self.now.built.layer.apertures c.args.text.now c.args.self.now.built.macros c.unwrap_or-unit.result
    c.in-Ok.number c.in-Ok.aperture c.in-Ok.ensures.ok
    (new_number past c.in-Ok.number (faults_of (template_form c.args.text.now) c.args.self.now.built.macros c.unwrap_or-unit.result)
    c.args.self.now.built.layer.apertures t.built.entries
    (sym (c.lowest-in-Ok.ensures past
    (faults_of (template_form c.args.text.now) c.args.self.now.built.macros c.unwrap_or-unit.result) same
    (sym (faultless_definition _ _ _ _ _ c.in-Ok.ensures.ok))) ∙ c.in_default-lowest.is))

pub returns-in_ok-push-in-Ok : goal.returns-in_ok-push-in-Ok
returns-in_ok-push-in-Ok c = λ past none t.
    let macros : c.args.self.now.built.macros ≡ macros_in past = t.built.macros in
    let same = same_macros past c.args.self.now c.parse_ad.new.macros c.parse_ad.ensures.macros t in
    let unit : c.unwrap_or-unit.result ≡ unit_or_mm (unit_in past) = c.unwrap_or-unit.ensures ∙ ap unit_or_mm t.modal.unit in
    let d = c.in-Ok.ensures.ok in (
      Says (DefineAperture (packed c.args.text.now)),
      refl,
      sym (definition_faults past c.args.text.now c.args.self.now.built.macros c.unwrap_or-unit.result
          (Some c.in-Ok.number) None c.lowest-in-Ok.result macros unit (sym (defined_number_is _ _ _ _ _ c.in-Ok.ensures.ok))
          (λ checks e. c.lowest-in-Ok.ensures past checks same e) (sym (faultless_definition _ _ _ _ _ c.in-Ok.ensures.ok)))
          ∙ c.in_default-lowest.is,
      same_macros (Says (DefineAperture (packed c.args.text.now)) ∷ past) _ c.parse_ad.new.macros
          c.parse_ad.ensures.macros
          (defined_tracks past c.args.text.now c.args.self.now c.unwrap_or-unit.result c.in-Ok.number c.in-Ok.aperture
          (record c.args.self.now.built.layer { apertures = c.push.new.self }) t unit d c.in_ok-push-in-Ok.ensures.ok
          refl),
    )

pub returns-in_ok-number-in_default : goal.returns-in_ok-number-in_default
returns-in_ok-number-in_default c = λ past none t.
    let macros : c.args.self.now.built.macros ≡ macros_in past = t.built.macros in
    let same = same_macros past c.args.self.now c.parse_ad.new.macros c.parse_ad.ensures.macros t in
    let unit : c.unwrap_or-unit.result ≡ unit_or_mm (unit_in past) = c.unwrap_or-unit.ensures ∙ ap unit_or_mm t.modal.unit in
    let checks = faults_of (template_form c.args.text.now) c.args.self.now.built.macros c.unwrap_or-unit.result in
    let is : IsLeast number_of checks c.refusal-code.result =
    subst (IsLeast number_of checks) (sym c.refusal-code.ensures)
    (meant c.in-Err.fault _ (λ e. c.in_default.not-OutOfMemory e) c.in-Err.ensures.fault) in
    let own = least_of checks c.refusal-code.result is in
    let told = definition_faults past c.args.text.now c.args.self.now.built.macros c.unwrap_or-unit.result
    c.in_ok-number-in_default.number (Some c.refusal-code.result) c.lowest.result macros unit c.in_ok-number-in_default.ensures
    (λ checks e. c.lowest.ensures past checks same e) (sym own) in
    let some = some_fault past c.in_ok-number-in_default.number checks c.lowest.result c.refusal-code.result is
    (c.lowest.ensures past checks same (sym own)) in
    (Says (DefineAperture (packed c.args.text.now)), refl, sym told ∙ some ∙ ap Some (sym c.unwrap_or.ensures))
