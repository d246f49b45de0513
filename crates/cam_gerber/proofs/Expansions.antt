-- No expansion of a macro is refused for want of memory.
use Rattle.std.proofs.Common.{arith, ℕ, ◌+◌, ◌*◌, List, [], ◌∷◌, length, take, drop, Bool, cond, Option, Some, Result, Ok, Err}
use Rattle.std.specs.Prelude.{ℤ, nat_lt}
use Rattle.cam_units.specs.declared.length.Unit.{Unit as FileUnit}
use Rattle.cam_units.specs.declared.turn.Turn.{Turn}
use Rattle.cam_units.specs.Nearest.{fix9_of}
use Rattle.cam_macros.specs.declared.part.Part.{Part}
use Rattle.cam_macros.specs.declared.part.Part.TheVariants.{Assignment, Primitive}
use Rattle.cam_macros.specs.declared.primitive.MacroPrimitive.{MacroPrimitive}
use Rattle.cam_macros.specs.declared.fault.MacroFault.{MacroFault}
use Rattle.cam_macros.specs.declared.fault.MacroFault.TheVariants.{Malformed, OutOfMemory}
use Rattle.cam_macros.specs.Tree.{Tree}
use Rattle.cam_macros.specs.Arithmetic.{Values, parameter}
use Rattle.cam_macros.specs.Expansion.{◌>>=◌, worth, all_worth, paint_of, rotation, rotation_field, size, size_of, point_of}
use Rattle.cam_macros.specs.Expansion.{outline_points, disc_of, bar_of, rect_of, count_of, outline_made, primitive_made}
use Rattle.cam_macros.specs.Expansion.{primitive_of, outcome, values_after, expansion, expansion_of}

-- not for want of memory
abbrev pub IsTrueFault : MacroFault → Type 0
IsTrueFault OutOfMemory = ⊥
IsTrueFault _ = Unit {0}

abbrev pub MayBe : {A : Type 0} → Result A MacroFault → Type 0
MayBe (Ok a) = Unit {0}
MayBe (Err fault) = IsTrueFault fault

bound : {A B : Type 0} (r : Result A MacroFault) (f : A → Result B MacroFault) → MayBe r → ((a : A) → MayBe (f a)) → MayBe (r >>= f)
bound r f h k = grind arith

either : {A : Type 0} (b : Bool) (x y : Result A MacroFault) → MayBe x → MayBe y → MayBe (cond b x y)
either b x y h k = grind arith

worths : (values : Values) (tree : Tree) → MayBe (worth values tree)
worths values tree = grind arith

all_worths : (values : Values) (trees : List Tree) → MayBe (all_worth values trees)
all_worths values [] = tt
all_worths values (tree ∷ trees) = grind (arith, bound, worths, all_worths values trees)

paints : (z : ℤ) → MayBe (paint_of z)
paints z = grind (arith, either)

rotations : (z : ℤ) → MayBe (rotation z)
rotations z = grind (arith, either)

turns : (values : List ℤ) → MayBe (rotation_field values)
turns values = grind (arith, rotations)

sizes : (z : ℤ) → MayBe (size z)
sizes z = grind (arith, either)

points : (unit : FileUnit) (turn : Turn) (x y : ℤ) → MayBe (point_of unit turn x y)
points unit turn x y = grind (arith, bound, either)

all_points : (unit : FileUnit) (turn : Turn) (values : List ℤ) → MayBe (outline_points unit turn values)
all_points unit turn [] = tt
all_points unit turn (x ∷ []) = tt
all_points unit turn (x ∷ y ∷ more) = grind (arith, bound, points, all_points unit turn more)

discs : (unit : FileUnit) (values : List ℤ) → MayBe (disc_of unit values)
discs unit (e ∷ d ∷ x ∷ y ∷ more) =
    bound (paint_of e) _ (paints e) λ paint. bound (rotation_field more) _ (turns more) λ turn.
    bound (size_of unit d) _ (sizes (fix9_of d unit)) λ diameter. bound (point_of unit turn x y) _ (points unit turn x y) λ centre. tt
discs unit _ = tt

bars : (unit : FileUnit) (values : List ℤ) → MayBe (bar_of unit values)
bars unit (e ∷ w ∷ x1 ∷ y1 ∷ x2 ∷ y2 ∷ more) =
    bound (paint_of e) _ (paints e) λ paint. bound (rotation_field more) _ (turns more) λ turn.
    bound (size_of unit w) _ (sizes (fix9_of w unit)) λ width. bound (point_of unit turn x1 y1) _ (points unit turn x1 y1) λ from.
    bound (point_of unit turn x2 y2) _ (points unit turn x2 y2) λ to. tt
bars unit _ = tt

rects : (unit : FileUnit) (values : List ℤ) → MayBe (rect_of unit values)
rects unit (e ∷ w ∷ h ∷ x ∷ y ∷ more) =
    bound (paint_of e) _ (paints e) λ paint. bound (rotation_field more) _ (turns more) λ turn.
    bound (size_of unit w) _ (sizes (fix9_of w unit)) λ width. bound (size_of unit h) _ (sizes (fix9_of h unit)) λ height.
    bound (point_of unit turn x y) _ (points unit turn x y) λ centre. tt
rects unit _ = tt

counts : (z : ℤ) → MayBe (count_of z)
counts z = grind (arith, either)

outlines : (unit : FileUnit) (values : List ℤ) → MayBe (outline_made unit values)
outlines unit (e ∷ n ∷ more) =
    bound (paint_of e) _ (paints e) λ paint. bound (count_of n) _ (counts n) λ count.
    either (nat_lt (length more) (2 * count + 2)) (Err Malformed) _ tt
    (bound (rotation_field (drop (2 * count + 2) more)) _ (turns (drop (2 * count + 2) more)) λ turn.
    bound (outline_points unit turn (take (2 * count) more)) _ (all_points unit turn (take (2 * count) more)) λ ps. tt)
outlines unit _ = tt

abbrev Maker : Type 0
Maker = FileUnit → List ℤ → Result MacroPrimitive MacroFault

-- a maker of shapes, if there is one
record IsMaker (o : Option Maker) : Type 0 where
  makes : (unit : FileUnit) (values : Values) (fields : List Tree) → MayBe (primitive_of o unit values fields)

maker : (shape : Maker) → ((unit : FileUnit) (values : List ℤ) → MayBe (shape unit values)) → IsMaker (Some shape)
maker shape h = record { makes = λ unit values fields. bound (all_worth values fields) (shape unit) (all_worths values fields) (h unit) }

chosen : (b : Bool) (x y : Option Maker) → IsMaker x → IsMaker y → IsMaker (cond b x y)
chosen b x y h k = grind arith

shapes : (code : ℕ) → IsMaker (primitive_made code)
shapes code = grind (arith, chosen, maker, discs, bars, rects, outlines)

outcomes : (unit : FileUnit) (values : Values) (part : Part) → MayBe (outcome unit values part)
outcomes unit values (Assignment variable value) = bound (worth values value) _ (worths values value) λ v. tt
outcomes unit values (Primitive code fields) =
    bound (primitive_of (primitive_made code) unit values fields) _ ((shapes code).makes unit values fields) λ made. tt

expands : (unit : FileUnit) (values : Values) (parts : List Part) → MayBe (expansion unit values parts)
expands unit values [] = tt
expands unit values (part ∷ parts) = grind (arith, bound, outcomes, expands unit (values_after values part) parts)

pub expansion_may_be : (unit : FileUnit) (params : List ℤ) (parts : List Part) → MayBe (expansion_of unit params parts)
expansion_may_be unit params parts = expands unit (parameter params) parts
