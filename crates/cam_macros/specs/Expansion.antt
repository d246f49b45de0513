-- The primitives of a macro (Gerber Layer Format Specification, "Aperture macro (AM)", "Primitives").
use Rattle.std.specs.Prelude.{ℕ, zero, suc, ◌+◌, ◌*◌, ◌/◌, ◌%◌, ◌==◌, ◌||◌, ◌&&◌, nat_lt, nat_le, Bool, true, false}
use Rattle.std.specs.Prelude.{if◌then◌else◌, ℤ, pos, negsuc, unsigned_abs, List, [], ◌∷◌, ◌++◌, length, take, drop}
use Rattle.std.specs.Prelude.{Option, Some, None, unwrap_or, ok_or, Result, Ok, Err}
use Rattle.cam_refusals.specs.Limits.{size_limit}
use Rattle.cam_units.specs.declared.length.Unit.{Unit as FileUnit}
use Rattle.cam_units.specs.declared.length.Nm.{Nm}
use Rattle.cam_units.specs.declared.point.Point.{Point}
use Rattle.cam_units.specs.declared.turn.Turn.{Turn}
use Rattle.cam_units.specs.declared.turn.Turn.TheVariants.{R0, R90, R180, R270, M0, M90, M180, M270}
use Rattle.cam_units.specs.Nearest.{fix9_of}
use Rattle.cam_units.specs.Turns.{applied as turned, matrix_of}
use Rattle.cam_macros.specs.declared.part.Part.{Part}
use Rattle.cam_macros.specs.declared.part.Part.TheVariants.{Assignment, Primitive}
use Rattle.cam_macros.specs.declared.primitive.MacroPrimitive.{MacroPrimitive}
use Rattle.cam_macros.specs.declared.primitive.PrimShape.{PrimShape}
use Rattle.cam_macros.specs.declared.primitive.PrimShape.TheVariants.{Disc, Bar, Rect, Outline}
use Rattle.cam_macros.specs.declared.fault.MacroFault.{MacroFault}
use Rattle.cam_macros.specs.declared.fault.MacroFault.TheVariants.{Malformed, PrimitiveRefused, RotationRefused}
use Rattle.cam_macros.specs.declared.fault.MacroFault.TheVariants.{SizeRefused}
use Rattle.cam_macros.specs.Numbers.{billion}
use Rattle.cam_macros.specs.Tree.{Tree}
use Rattle.cam_macros.specs.Arithmetic.{Values, parameter, setting, tree_value}

-- the second where the first has an answer, else the first's fault
infixl 10 ◌>>=◌
abbrev pub ◌>>=◌ : {A B : Type 0} → Result A MacroFault → (A → Result B MacroFault) → Result B MacroFault
Ok a >>= f = f a
Err fault >>= f = Err fault

-- the value of an expression, and of each of a list
abbrev pub worth : Values → Tree → Result ℤ MacroFault
worth values tree = ok_or (tree_value values tree) Malformed

abbrev pub all_worth : Values → List Tree → Result (List ℤ) MacroFault
all_worth values [] = Ok []
all_worth values (tree ∷ trees) = do
  v ← worth values tree
  vs ← all_worth values trees
  Ok (v ∷ vs)

-- an exposure is 0 or 1 unit
abbrev pub paint_of : ℤ → Result Bool MacroFault
paint_of (pos n) = if n == 0 then Ok false else (if n == billion then Ok true else Err Malformed)
paint_of (negsuc n) = Err Malformed

-- so many quarter turns counterclockwise, and so many the other way
abbrev pub quarters : ℕ → Turn
quarters zero = R0
quarters (suc zero) = R90
quarters (suc (suc zero)) = R180
quarters (suc (suc (suc _))) = R270

abbrev pub quarters_back : ℕ → Turn
quarters_back zero = R0
quarters_back (suc zero) = R270
quarters_back (suc (suc zero)) = R180
quarters_back (suc (suc (suc _))) = R90

-- a rotation is a multiple of 90 degrees
abbrev pub rotation : ℤ → Result Turn MacroFault
rotation (pos n) = if n % 90000000000 == 0 then Ok (quarters (n / 90000000000 % 4)) else Err RotationRefused
rotation (negsuc n) = if suc n % 90000000000 == 0 then Ok (quarters_back (suc n / 90000000000 % 4))
    else Err RotationRefused

-- the rotation may be left out
abbrev pub rotation_field : List ℤ → Result Turn MacroFault
rotation_field [] = Ok R0
rotation_field (v ∷ []) = rotation v
rotation_field (_ ∷ _ ∷ _) = Err Malformed

-- a diameter, side or width is from 0 to 200 mm, once rounded
abbrev pub size : ℤ → Result Nm MacroFault
size (pos n) = if nat_le n size_limit then Ok (record { 0 = pos n }) else Err SizeRefused
size (negsuc n) = Err SizeRefused

abbrev pub size_of : FileUnit → ℤ → Result Nm MacroFault
size_of unit v = size (fix9_of v unit)

-- a coordinate is at most 200 mm in absolute value, once rounded
abbrev pub rounded_coordinate : ℤ → Result Nm MacroFault
rounded_coordinate n = if nat_le (unsigned_abs n) size_limit then Ok (record { 0 = n }) else Err SizeRefused

abbrev pub coordinate_of : FileUnit → ℤ → Result Nm MacroFault
coordinate_of unit v = rounded_coordinate (fix9_of v unit)

-- a point, turned about the macro's origin
abbrev pub point_of : FileUnit → Turn → ℤ → ℤ → Result Point MacroFault
point_of unit turn x y = do
  a ← coordinate_of unit x
  b ← coordinate_of unit y
  Ok (turned (matrix_of turn) (record { x = a.0; y = b.0 }))

abbrev pub outline_points : FileUnit → Turn → List ℤ → Result (List Point) MacroFault
outline_points unit turn [] = Ok []
outline_points unit turn (x ∷ []) = Ok []
outline_points unit turn (x ∷ y ∷ more) = do
  point ← point_of unit turn x y
  points ← outline_points unit turn more
  Ok (point ∷ points)

-- exposure, diameter, x, y [, rotation]
abbrev pub disc_of : FileUnit → List ℤ → Result MacroPrimitive MacroFault
disc_of unit (exposure ∷ d ∷ x ∷ y ∷ more) = do
  paint ← paint_of exposure
  turn ← rotation_field more
  diameter ← size_of unit d
  centre ← point_of unit turn x y
  Ok (record { paint = paint; shape = Disc centre diameter })
disc_of unit _ = Err Malformed

-- exposure, width, x1, y1, x2, y2 [, rotation]
abbrev pub bar_of : FileUnit → List ℤ → Result MacroPrimitive MacroFault
bar_of unit (exposure ∷ w ∷ x1 ∷ y1 ∷ x2 ∷ y2 ∷ more) = do
  paint ← paint_of exposure
  turn ← rotation_field more
  width ← size_of unit w
  from ← point_of unit turn x1 y1
  to ← point_of unit turn x2 y2
  Ok (record { paint = paint; shape = Bar from to width })
bar_of unit _ = Err Malformed

-- a quarter turn exchanges the sides
abbrev pub rect_turned : Turn → Point → Nm → Nm → PrimShape
rect_turned R90 centre width height = Rect centre height width
rect_turned R270 centre width height = Rect centre height width
rect_turned M90 centre width height = Rect centre height width
rect_turned M270 centre width height = Rect centre height width
rect_turned R0 centre width height = Rect centre width height
rect_turned R180 centre width height = Rect centre width height
rect_turned M0 centre width height = Rect centre width height
rect_turned M180 centre width height = Rect centre width height

-- exposure, width, height, x, y [, rotation], the centre at (x, y)
abbrev pub rect_of : FileUnit → List ℤ → Result MacroPrimitive MacroFault
rect_of unit (exposure ∷ w ∷ h ∷ x ∷ y ∷ more) = do
  paint ← paint_of exposure
  turn ← rotation_field more
  width ← size_of unit w
  height ← size_of unit h
  centre ← point_of unit turn x y
  Ok (record { paint = paint; shape = rect_turned turn centre width height })
rect_of unit _ = Err Malformed

-- a count is a whole number of units, from 1 to 5,000
abbrev pub count_of : ℤ → Result ℕ MacroFault
count_of (pos n) =
    if (n % billion == 0) && (nat_lt 0 n && nat_le n (5000 * billion)) then Ok (n / billion) else Err Malformed
count_of (negsuc n) = Err Malformed

-- so many points and one more, which is taken for the first, and perhaps a rotation
abbrev pub outline_through : FileUnit → Bool → ℕ → List ℤ → Result MacroPrimitive MacroFault
outline_through unit paint count values =
    if nat_lt (length values) (2 * count + 2) then Err Malformed
    else (rotation_field (drop (2 * count + 2) values) >>= λ turn.
    outline_points unit turn (take (2 * count) values) >>= λ points.
    Ok (record { paint = paint; shape = Outline points }))

-- exposure, n, n + 1 points [, rotation]
abbrev pub outline_made : FileUnit → List ℤ → Result MacroPrimitive MacroFault
outline_made unit (exposure ∷ n ∷ more) = do
  paint ← paint_of exposure
  count ← count_of n
  outline_through unit paint count more
outline_made unit _ = Err Malformed

-- what the fields of a primitive make, if its code is known
abbrev pub primitive_made : ℕ → Option (FileUnit → List ℤ → Result MacroPrimitive MacroFault)
primitive_made code =
    if code == 1 then Some disc_of
    else (if (code == 2) || (code == 20) then Some bar_of
    else (if code == 21 then Some rect_of
    else (if code == 4 then Some outline_made else None)))

abbrev pub primitive_of : Option (FileUnit → List ℤ → Result MacroPrimitive MacroFault) → FileUnit → Values
    → List Tree → Result MacroPrimitive MacroFault
primitive_of None unit values fields = Err PrimitiveRefused
primitive_of (Some shape) unit values fields = all_worth values fields >>= shape unit

-- what a part adds to the primitives, or its fault
abbrev pub outcome : FileUnit → Values → Part → Result (List MacroPrimitive) MacroFault
outcome unit values (Assignment variable value) = worth values value >>= λ _. Ok []
outcome unit values (Primitive code fields) = primitive_of (primitive_made code) unit values fields >>= λ made. Ok (made ∷ [])

-- what the variables are worth behind a part
abbrev pub values_after : Values → Part → Values
values_after values (Assignment variable value) = setting values variable (unwrap_or (tree_value values value) (pos 0))
values_after values (Primitive code fields) = values

-- the primitives of the parts in order, or the fault of the first faulty part
abbrev pub expansion : FileUnit → Values → List Part → Result (List MacroPrimitive) MacroFault
expansion unit values [] = Ok []
expansion unit values (part ∷ parts) = do
  made ← outcome unit values part
  more ← expansion unit (values_after values part) parts
  Ok (made ++ more)

-- the primitives behind those so far
abbrev pub with_prims : List MacroPrimitive → Result (List MacroPrimitive) MacroFault
    → Result (List MacroPrimitive) MacroFault
with_prims made more = more >>= λ prims. Ok (made ++ prims)

-- the primitives of a macro under AD's parameters
abbrev pub expansion_of : FileUnit → List ℤ → List Part → Result (List MacroPrimitive) MacroFault
expansion_of unit params parts = expansion unit (parameter params) parts
