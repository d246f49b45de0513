-- Points and outlines, field by field.
use Rattle.std.proofs.Common.{◌≡◌, ℕ, zero, suc, ◌+◌, ◌-◌, ◌*◌, ◌<◌, ◌≤◌, Bool, List, [], ◌∷◌, ◌++◌, length}
use Rattle.std.proofs.Common.{take, drop, Result, Ok, Err, refl, ap, sym, ◌∙◌, arith, length-drop, append-nil}
use Rattle.std.proofs.lemmas.List.{take_all}
use Rattle.std.proofs.lemmas.Bool.{lt-ltb, le-ltb}
use Rattle.cam_units.specs.declared.length.Unit.{Unit as FileUnit}
use Rattle.cam_units.specs.declared.point.Point.{Point}
use Rattle.cam_units.specs.declared.turn.Turn.{Turn}
use Rattle.cam_macros.specs.declared.expansion.arithmetic.Fixed.{Fixed}
use Rattle.cam_macros.specs.declared.primitive.PrimShape.TheVariants.{Outline}
use Rattle.cam_macros.specs.declared.fault.MacroFault.{MacroFault}
use Rattle.cam_macros.specs.declared.fault.MacroFault.TheVariants.{Malformed}
use Rattle.cam_macros.specs.Machinery.Values.{numbers}
use Rattle.cam_macros.specs.Expansion.{rotation_field, outline_points, outline_through, ◌>>=◌}

pub points_end : (unit : FileUnit) (turn : Turn) (rest : List Fixed) (made : List Point)
    (all : Result (List Point) MacroFault) → length rest < 2
    → (outline_points unit turn (numbers rest) >>= λ more. Ok (made ++ more)) ≡ all → all ≡ Ok made
points_end unit turn [] made all h e = sym e ∙ ap Ok (append-nil made)
points_end unit turn (_ ∷ []) made all h e = sym e ∙ ap Ok (append-nil made)
points_end unit turn (_ ∷ _ ∷ _) made all h e = absurd (omega (arith, h))

length-numbers : (fields : List Fixed) → length (numbers fields) ≡ length fields
length-numbers [] = refl
length-numbers (_ ∷ fields) = ap suc (length-numbers fields)

take-numbers : (n : ℕ) (fields : List Fixed) → take n (numbers fields) ≡ numbers (take n fields)
take-numbers zero fields = refl
take-numbers (suc n) [] = refl
take-numbers (suc n) (v ∷ fields) = ap (λ l. v.billionths ∷ l) (take-numbers n fields)

drop-numbers : (n : ℕ) (fields : List Fixed) → drop n (numbers fields) ≡ numbers (drop n fields)
drop-numbers zero fields = refl
drop-numbers (suc n) [] = refl
drop-numbers (suc n) (v ∷ fields) = drop-numbers n fields

pub outline_few : (unit : FileUnit) (paint : Bool) (count : ℕ) (fields : List Fixed) → length fields < 2 * count + 2
    → outline_through unit paint count (numbers fields) ≡ Err Malformed
outline_few unit paint count fields h = grind (arith, lt-ltb, length-numbers)

pub outline_long : (unit : FileUnit) (paint : Bool) (count : ℕ) (fields : List Fixed) → 2 * count + 2 ≤ length fields
    → outline_through unit paint count (numbers fields)
    ≡ (rotation_field (numbers (take (length fields - (2 * count + 2)) (drop (2 * count + 2) fields)))
    >>= λ turn. outline_points unit turn (numbers (take (2 * count) fields))
    >>= λ points. Ok (record { paint = paint; shape = Outline points }))
outline_long unit paint count fields h = grind (arith, le-ltb, length-numbers, drop-numbers, take_all, length-drop, take-numbers)
