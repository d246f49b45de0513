-- Values as plain numbers.
use Rattle.std.specs.Prelude.{ℤ, List, [], ◌∷◌}
use Rattle.cam_macros.specs.declared.expansion.arithmetic.Fixed.{Fixed}

abbrev pub numbers : List Fixed → List ℤ
numbers [] = []
numbers (v ∷ vs) = v.billionths ∷ numbers vs
