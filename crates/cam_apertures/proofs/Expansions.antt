-- The primitives of an expansion are within the limits.
use Rattle.std.proofs.Common.{◌≡◌, ℕ, ◌+◌, ◌*◌, ◌<◌, ◌≤◌, Bool, true, false, cond, leb, ltb, ℤ, List, [], ◌∷◌, length, take, drop, Option, Some, None, Result, Ok, Err, arith}
use Rattle.std.specs.Prelude.{All, ⊤}
use Rattle.std.specs.Int.RustNames.{unsigned_abs}
use Rattle.std.proofs.lemmas.Int.{ints}
use Rattle.std.proofs.lemmas.Bool.{leb-true, ltb-true, ltb-false, eqb-true, and_parts}
use Rattle.std.proofs.lemmas.List.{length-take-le}
use Rattle.std.proofs.lemmas.List.Elements.{All-nil, All-cons, All-append}
use Rattle.cam_refusals.specs.Limits.{size_limit}
use Rattle.cam_units.specs.declared.length.Nm.{Nm}
use Rattle.cam_units.specs.declared.length.Unit.{Unit as FileUnit}
use Rattle.cam_units.specs.declared.point.Point.{Point}
use Rattle.cam_units.specs.declared.turn.Turn.{Turn}
use Rattle.cam_units.specs.Board.{IsSize}
use Rattle.cam_units.specs.Nearest.{fix9_of}
use Rattle.cam_macros.specs.declared.fault.MacroFault.{MacroFault}
use Rattle.cam_macros.specs.declared.part.Part.{Part}
use Rattle.cam_macros.specs.declared.part.Part.TheVariants.{Assignment, Primitive}
use Rattle.cam_macros.specs.declared.primitive.MacroPrimitive.{MacroPrimitive}
use Rattle.cam_macros.specs.Tree.{Tree}
use Rattle.cam_macros.specs.Arithmetic.{Values, parameter}
use Rattle.cam_macros.specs.Expansion.{◌>>=◌, bar_of, rounded_coordinate, coordinate_of, count_of, disc_of, expansion, expansion_of, outcome, outline_made, outline_through, paint_of, point_of, outline_points, primitive_of, rect_of, rect_turned, primitive_made, size, size_of, rotation_field, values_after, worth}
use Rattle.cam_apertures.specs.Primitives.{IsMacroPoint, IsSoundPrim, IsSoundShape}
use Rattle.cam_apertures.proofs.Outlines.{near_turned}

-- what holds of an answer, if there is one
abbrev IfAnswer : {A : Type 0} → (A → Type 0) → Result A MacroFault → Type 0
IfAnswer P (Ok a) = P a
IfAnswer P (Err fault) = ⊤

any : {A : Type 0} (x : Result A MacroFault) → IfAnswer (λ _. ⊤) x
any x = grind arith

next : {A B : Type 0} (P : B → Type 0) (Q : A → Type 0) (x : Result A MacroFault) (f : A → Result B MacroFault) → IfAnswer Q x
    → ((a : A) → Q a → IfAnswer P (f a)) → IfAnswer P (x >>= f)
next P Q x f h k = grind arith

tested : {A : Type 0} (P : A → Type 0) (b : Bool) (a : A) (fault : MacroFault) → (b ≡ true → P a) → IfAnswer P (cond b (Ok a) (Err fault))
tested P b a fault h = grind arith

refused : {A : Type 0} (P : A → Type 0) (b : Bool) (fault : MacroFault) (x : Result A MacroFault) → (b ≡ false → IfAnswer P x) → IfAnswer P (cond b (Err fault) x)
refused P b fault x h = grind arith

abbrev IsSized : Nm → Type 0
IsSized n = IsSize n.0

abbrev IsCoordinate : Nm → Type 0
IsCoordinate n = unsigned_abs n.0 ≤ size_limit

sized : (z : ℤ) → IfAnswer IsSized (size z)
sized z = grind (arith, tested, ints, leb-true)

coordinated : (z : ℤ) → IfAnswer IsCoordinate (rounded_coordinate z)
coordinated z = tested IsCoordinate (leb (unsigned_abs z) size_limit) (record { 0 = z }) _ (λ t. leb-true (unsigned_abs z) size_limit t)

pointed : (unit : FileUnit) (t : Turn) (x y : ℤ) → IfAnswer IsMacroPoint (point_of unit t x y)
pointed unit t x y =
    next IsMacroPoint IsCoordinate (coordinate_of unit x) _ (coordinated (fix9_of x unit))
    (λ a h. next IsMacroPoint IsCoordinate (coordinate_of unit y) _ (coordinated (fix9_of y unit))
    (λ b k. near_turned t (record { x = a.0; y = b.0 }) (record { x = h; y = k })))

-- points, half as many as the values
record ArePoints (values : ℕ) (points : List Point) : Type 0 where
  pub near : All IsMacroPoint points
  pub least : 2 * length points ≤ values
  pub most : values ≤ 2 * length points + 1

pointed_all : (unit : FileUnit) (t : Turn) (values : List ℤ) → IfAnswer (ArePoints (length values)) (outline_points unit t values)
pointed_all unit t [] = record { near = All-nil IsMacroPoint; least = omega arith; most = omega arith }
pointed_all unit t (x ∷ []) = record { near = All-nil IsMacroPoint; least = omega arith; most = omega arith }
pointed_all unit t (x ∷ y ∷ more) = grind (arith, next, pointed, All-cons, pointed_all unit t more)

disc_sound : (unit : FileUnit) (values : List ℤ) → IfAnswer IsSoundPrim (disc_of unit values)
disc_sound unit values = grind (arith, next, any, sized, pointed)

bar_sound : (unit : FileUnit) (values : List ℤ) → IfAnswer IsSoundPrim (bar_of unit values)
bar_sound unit [] = tt
bar_sound unit (a ∷ []) = tt
bar_sound unit (a ∷ b ∷ []) = tt
bar_sound unit (a ∷ b ∷ c ∷ []) = tt
bar_sound unit (a ∷ b ∷ c ∷ d ∷ []) = tt
bar_sound unit (a ∷ b ∷ c ∷ d ∷ e ∷ []) = tt
bar_sound unit (exposure ∷ w ∷ x1 ∷ y1 ∷ x2 ∷ y2 ∷ more) =
    next IsSoundPrim (λ _. ⊤) (paint_of exposure) _ (any (paint_of exposure))
    (λ paint _. next IsSoundPrim (λ _. ⊤) (rotation_field more) _ (any (rotation_field more))
    (λ turn _. next IsSoundPrim IsSized (size_of unit w) _ (sized (fix9_of w unit))
    (λ width s. next IsSoundPrim IsMacroPoint (point_of unit turn x1 y1) _ (pointed unit turn x1 y1)
    (λ from n. next IsSoundPrim IsMacroPoint (point_of unit turn x2 y2) _ (pointed unit turn x2 y2)
    (λ to m. (n, m, s))))))

turned_sound : (turn : Turn) (centre : Point) (w h : Nm) → IsMacroPoint centre → IsSized w → IsSized h → IsSoundShape (rect_turned turn centre w h)
turned_sound turn centre w h n s k = grind arith

rect_sound : (unit : FileUnit) (values : List ℤ) → IfAnswer IsSoundPrim (rect_of unit values)
rect_sound unit [] = tt
rect_sound unit (a ∷ []) = tt
rect_sound unit (a ∷ b ∷ []) = tt
rect_sound unit (a ∷ b ∷ c ∷ []) = tt
rect_sound unit (a ∷ b ∷ c ∷ d ∷ []) = tt
rect_sound unit (exposure ∷ w ∷ h ∷ x ∷ y ∷ more) =
    next IsSoundPrim (λ _. ⊤) (paint_of exposure) _ (any (paint_of exposure))
    (λ paint _. next IsSoundPrim (λ _. ⊤) (rotation_field more) _ (any (rotation_field more))
    (λ turn _. next IsSoundPrim IsSized (size_of unit w) _ (sized (fix9_of w unit))
    (λ width s. next IsSoundPrim IsSized (size_of unit h) _ (sized (fix9_of h unit))
    (λ height k. next IsSoundPrim IsMacroPoint (point_of unit turn x y) _ (pointed unit turn x y)
    (λ centre n. turned_sound turn centre width height n s k)))))

abbrev IsCount : ℕ → Type 0
IsCount n = (0 < n) × (n ≤ 5000)

counted : (z : ℤ) → IfAnswer IsCount (count_of z)
counted z = grind (arith, tested, and_parts, eqb-true, ltb-true, leb-true)

outlined : (unit : FileUnit) (paint : Bool) (count : ℕ) (values : List ℤ) → IsCount count → IfAnswer IsSoundPrim (outline_through unit paint count values)
outlined unit paint count values h =
    refused IsSoundPrim (ltb (length values) (2 * count + 2)) _ _
    (λ long. next IsSoundPrim (λ _. ⊤) (rotation_field (drop (2 * count + 2) values)) _ (any (rotation_field (drop (2 * count + 2) values)))
    (λ turn _. next IsSoundPrim (ArePoints (length (take (2 * count) values))) (outline_points unit turn (take (2 * count) values)) _ (pointed_all unit turn (take (2 * count) values))
    (λ points k.
    let all : length (take (2 * count) values) ≡ 2 * count = length-take-le (2 * count) values (omega (arith, ltb-false (length values) (2 * count + 2) long)) in
    record {
      some = omega (arith, h.0, k.most, k.least, all);
      most = omega (arith, h.1, k.least, all);
      near = k.near;
    })))

outline_sound : (unit : FileUnit) (values : List ℤ) → IfAnswer IsSoundPrim (outline_made unit values)
outline_sound unit values = grind (arith, next, any, counted, outlined)

abbrev Maker : Type 0
Maker = FileUnit → List ℤ → Result MacroPrimitive MacroFault

abbrev IsSoundMaker : Option Maker → Type 0
IsSoundMaker None = ⊤
IsSoundMaker (Some make) = (unit : FileUnit) (values : List ℤ) → IfAnswer IsSoundPrim (make unit values)

either : (b : Bool) (x y : Option Maker) → IsSoundMaker x → IsSoundMaker y → IsSoundMaker (cond b x y)
either b x y h k = grind arith

maker_sound : (code : ℕ) → IsSoundMaker (primitive_made code)
maker_sound code = grind (arith, either, disc_sound, bar_sound, rect_sound, outline_sound)

made_sound : (make : Option Maker) (unit : FileUnit) (values : Values) (fields : List Tree) → IsSoundMaker make → IfAnswer IsSoundPrim (primitive_of make unit values fields)
made_sound make unit values fields h = grind (arith, next, any)

abbrev AreSound : List MacroPrimitive → Type 0
AreSound prims = All IsSoundPrim prims

part_sound : (unit : FileUnit) (values : Values) (part : Part) → IfAnswer AreSound (outcome unit values part)
part_sound unit values (Assignment variable value) =
    next AreSound (λ _. ⊤) (worth values value) _ (any (worth values value)) (λ _ _. All-nil IsSoundPrim)
part_sound unit values (Primitive code fields) =
    next AreSound IsSoundPrim (primitive_of (primitive_made code) unit values fields) _ (made_sound (primitive_made code) unit values fields (maker_sound code))
    (λ p h. All-cons IsSoundPrim p [] h (All-nil IsSoundPrim))

expansion_sound : (unit : FileUnit) (values : Values) (parts : List Part) → IfAnswer AreSound (expansion unit values parts)
expansion_sound unit values [] = All-nil IsSoundPrim
expansion_sound unit values (part ∷ parts) =
    next AreSound AreSound (outcome unit values part) _ (part_sound unit values part)
    (λ made h. next AreSound AreSound (expansion unit (values_after values part) parts) _ (expansion_sound unit (values_after values part) parts)
    (λ more k. All-append IsSoundPrim made more h k))

answer_sound : {A : Type 0} (P : A → Type 0) (x : Result A MacroFault) (a : A) → IfAnswer P x → x ≡ Ok a → P a
answer_sound P x a h e = grind arith

pub expanded_sound : (unit : FileUnit) (params : List ℤ) (parts : List Part) (prims : List MacroPrimitive) → expansion_of unit params parts ≡ Ok prims → All IsSoundPrim prims
expanded_sound unit params parts prims e = answer_sound AreSound (expansion_of unit params parts) prims (expansion_sound unit (parameter params) parts) e
