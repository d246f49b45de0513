-- The dictionary by its numbers.
use Rattle.std.proofs.Common.{◌≡◌, ℕ, List, length, Bool, true, false, Some, None, refl, ap, ◌∙◌, sym, slice_get, arith}
use Rattle.std.specs.Prelude.{nat_eq, is_some}
use Rattle.std.specs.List.{IsDistinct}
use Rattle.std.specs.Map.{lookup, keys_of}
use Rattle.std.proofs.lemmas.Cmp.{nat_eq_equiv}
use Rattle.std.proofs.lemmas.Map.Entries.{lookup_from_place}
use Rattle.std.proofs.lemmas.Option.{slice_get_within}
use Rattle.cam_apertures.specs.declared.aperture.Aperture.{Aperture as Template}
use Rattle.cam_objects.specs.declared.entry.Entry.{Entry}
use Rattle.cam_objects.specs.declared.object.Object.{Object}
use Rattle.cam_objects.specs.declared.entry.Entry.TheVariants.{Aperture, Block}
use Rattle.cam_objects.specs.Leaves.{Meaning, meaning_in, solid_tip}
use Rattle.cam_objects.proofs.Painting.{meaning-at, meaning-absent, meaning_whole}
use Rattle.cam_gerber.specs.Faults.{can_draw}

pub found_number : (es : List (ℕ × Entry)) (n k : ℕ) (e : Entry) → IsDistinct nat_eq (keys_of es) → slice_get es k ≡ Some (n, e)
    → is_some (lookup (nat_eq n) es) ≡ true
found_number es n k e distinct found = ap is_some (lookup_from_place nat_eq_equiv es k n e distinct found)

-- the tip that a number stands for
pub absent_tip : (es : List (ℕ × Entry)) (n : ℕ) → lookup (nat_eq n) es ≡ None → (meaning_in es n).tip ≡ None
absent_tip es n absent =
    ap (λ (means : ℕ → Meaning). (means n).tip) (sym (meaning_whole es (length es) refl))
    ∙ ap (λ (m : Meaning). m.tip) (meaning-absent es (length es) n absent (omega arith))

pub aperture_tip : (es : List (ℕ × Entry)) (n k : ℕ) (a : Template) → IsDistinct nat_eq (keys_of es)
    → slice_get es k ≡ Some (n, Aperture a) → (meaning_in es n).tip ≡ solid_tip a
aperture_tip es n k a distinct found =
    ap (λ (means : ℕ → Meaning). (means n).tip) (sym (meaning_whole es (length es) refl))
    ∙ ap (λ (m : Meaning). m.tip)
    (meaning-at es k (length es) n (Aperture a) distinct found (slice_get_within es k (n, Aperture a) found) (omega arith))

pub block_tip : (es : List (ℕ × Entry)) (n k : ℕ) (e : Entry) (objects : List Object) → IsDistinct nat_eq (keys_of es)
    → slice_get es k ≡ Some (n, e) → e ≡ Block objects → (meaning_in es n).tip ≡ None
block_tip es n k e objects distinct found is =
    ap (λ (means : ℕ → Meaning). (means n).tip) (sym (meaning_whole es (length es) refl))
    ∙ ap (λ (m : Meaning). m.tip)
    (meaning-at es k (length es) n (Block objects) distinct (found ∙ ap (λ (e : Entry). Some (n, e)) is)
    (slice_get_within es k (n, e) found) (omega arith))

pub nothing_draws : (arc : Bool) → false ≡ can_draw arc None
nothing_draws arc = grind arith
