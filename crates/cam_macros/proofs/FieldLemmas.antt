-- Primitives of too few fields.
use Rattle.std.proofs.Common.{◌≡◌, ◌<◌, ◌≤◌, List, [], ◌∷◌, length, Err, refl, arith}
use Rattle.cam_units.specs.declared.length.Unit.{Unit as FileUnit}
use Rattle.cam_macros.specs.declared.expansion.arithmetic.Fixed.{Fixed}
use Rattle.cam_macros.specs.declared.fault.MacroFault.TheVariants.{Malformed}
use Rattle.cam_macros.specs.Machinery.Values.{numbers}
use Rattle.cam_macros.specs.Expansion.{rotation_field, disc_of, bar_of, rect_of, outline_made}

pub turn_short : (fields : List Fixed) → 2 ≤ length fields → rotation_field (numbers fields) ≡ Err Malformed
turn_short [] h = absurd (omega (arith, h))
turn_short (_ ∷ []) h = absurd (omega (arith, h))
turn_short (_ ∷ _ ∷ _) h = refl

pub disc_short : (unit : FileUnit) (fields : List Fixed) → length fields < 4
    → disc_of unit (numbers fields) ≡ Err Malformed
disc_short unit [] h = refl
disc_short unit (_ ∷ []) h = refl
disc_short unit (_ ∷ _ ∷ []) h = refl
disc_short unit (_ ∷ _ ∷ _ ∷ []) h = refl
disc_short unit (_ ∷ _ ∷ _ ∷ _ ∷ _) h = absurd (omega (arith, h))

pub bar_short : (unit : FileUnit) (fields : List Fixed) → length fields < 6
    → bar_of unit (numbers fields) ≡ Err Malformed
bar_short unit [] h = refl
bar_short unit (_ ∷ []) h = refl
bar_short unit (_ ∷ _ ∷ []) h = refl
bar_short unit (_ ∷ _ ∷ _ ∷ []) h = refl
bar_short unit (_ ∷ _ ∷ _ ∷ _ ∷ []) h = refl
bar_short unit (_ ∷ _ ∷ _ ∷ _ ∷ _ ∷ []) h = refl
bar_short unit (_ ∷ _ ∷ _ ∷ _ ∷ _ ∷ _ ∷ _) h = absurd (omega (arith, h))

pub rect_short : (unit : FileUnit) (fields : List Fixed) → length fields < 5
    → rect_of unit (numbers fields) ≡ Err Malformed
rect_short unit [] h = refl
rect_short unit (_ ∷ []) h = refl
rect_short unit (_ ∷ _ ∷ []) h = refl
rect_short unit (_ ∷ _ ∷ _ ∷ []) h = refl
rect_short unit (_ ∷ _ ∷ _ ∷ _ ∷ []) h = refl
rect_short unit (_ ∷ _ ∷ _ ∷ _ ∷ _ ∷ _) h = absurd (omega (arith, h))

pub outline_short : (unit : FileUnit) (fields : List Fixed) → length fields < 2
    → outline_made unit (numbers fields) ≡ Err Malformed
outline_short unit [] h = refl
outline_short unit (_ ∷ []) h = refl
outline_short unit (_ ∷ _ ∷ _) h = absurd (omega (arith, h))
