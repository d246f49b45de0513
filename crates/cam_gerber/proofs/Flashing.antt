-- A flash joins its home.
use Rattle.std.proofs.Common.{◌≡◌, ℕ, [], ◌∷◌, true, false, Some, None, refl, sym, ap, ◌∙◌, subst}
use Rattle.std.specs.Prelude.{is_none}
use Rattle.cam_refusals.specs.Checks.{first_holding}
use Rattle.cam_units.specs.declared.point.Point.{Point}
use Rattle.cam_objects.specs.declared.object.Object.{Object}
use Rattle.cam_objects.specs.declared.object.Object.TheVariants as object
use Rattle.cam_objects.specs.Turning.{after}
use Rattle.cam_objects.specs.Weights.{object_count, weight_in}
use Rattle.cam_commands.specs.declared.parts.Operation.{Operation}
use Rattle.cam_commands.specs.declared.parts.OperationCode.TheVariants.{Flash}
use Rattle.cam_commands.specs.Commands.{Operate}
use Rattle.cam_gerber.specs.declared.modal.Modal.{Modal}
use Rattle.cam_gerber.specs.declared.running.Running.{Running}
use Rattle.cam_gerber.specs.Statements.{Says}
use Rattle.cam_gerber.specs.State.{Past, aperture_in, point_in, code_of, in_region}
use Rattle.cam_gerber.specs.Homes.{home}
use Rattle.cam_gerber.specs.Making.{flash_of, made}
use Rattle.cam_gerber.specs.Faults.{operated_faults, is_full, is_outside_at}
use Rattle.cam_objects.specs.Soundness.{is_on_board}
use Rattle.cam_gerber.specs.Laws.{IsFaultless}
use Rattle.cam_gerber.specs.Machinery.Tracking.{Tracks, TracksModal, TracksRegion, Keeps, IsOperated, moved_point}
use Rattle.cam_gerber.proofs.Operated.{point_same, operated_tracks, contour_stays}

pub flash_same : (past : Past) (m : Modal) (n : ℕ) (operation : Operation) (at : Point) → TracksModal past m → m.aperture ≡ Some n
    → at ≡ moved_point m operation
    → object.Flash n at (after m.mirror m.rotation) m.dark ≡ flash_of past operation
flash_same past m n operation at t a e = rw (e, point_same past m operation t, sym t.aperture ∙ a, t.mirror, t.rotation, t.dark) refl

pub flash_tracks : (past : Past) (operation : Operation) (old kept : Running) (m : Modal) (n leaves : ℕ) (at : Point)
    (made_is : Object) → IsFaultless past → Tracks past old → in_region past ≡ false → code_of operation ≡ Flash
    → old.modal.aperture ≡ Some n → at ≡ moved_point old.modal operation → is_on_board (moved_point old.modal operation) ≡ true
    → made_is ≡ object.Flash n at (after old.modal.mirror old.modal.rotation) old.modal.dark
    → false ≡ is_outside_at (home past) past made_is → false ≡ is_full (home past) past made_is
    → leaves ≡ object_count (weight_in old.built.layer.apertures) made_is
    → Keeps made_is leaves old kept → IsOperated kept.modal operation at m
    → (first_holding (operated_faults Flash false past operation) ≡ None) × Tracks (Says (Operate operation) ∷ past) (record kept { modal = m })
flash_tracks past operation old kept m n leaves at made_is none t out flashes a at_is on is inside room count keeps done =
    let same : made_is ≡ flash_of past operation = is ∙ flash_same past old.modal n operation at t.modal a at_is in
    let some : aperture_in past ≡ Some n = sym t.modal.aperture ∙ a in
    let board : is_on_board (point_in (Says (Operate operation) ∷ past)) ≡ true =
    ap is_on_board (sym (point_same past old.modal operation t.modal)) ∙ on in
    let outside : is_outside_at (home past) past (flash_of past operation) ≡ false = ap (is_outside_at (home past) past) (sym same)
    ∙ sym inside in
    let full : is_full (home past) past (flash_of past operation) ≡ false = ap (is_full (home past) past) (sym same) ∙ sym room in
    let joins : made past (Says (Operate operation)) ≡ made_is ∷ [] = rw flashes (ap (λ o. o ∷ []) (sym same)) in
    let places = keeps.places past (Says (Operate operation)) none (record { frames = t.frames; built = t.built }) tt joins
    (count ∙ ap (λ es. object_count (weight_in es) made_is) t.built.entries) (sym room) in (
      rw (ap is_none some, board, outside, full) refl,
      record {
        modal = operated_tracks past old.modal m operation at t.modal
            (subst (λ (k : Modal). IsOperated k operation at m) keeps.modal done) at_is;
        region = contour_stays past kept.region operation (subst (TracksRegion past) (sym keeps.region) t.region) out;
        frames = places.frames;
        built = places.built;
        attributes = keeps.attributes ∙ t.attributes;
      },
    )
