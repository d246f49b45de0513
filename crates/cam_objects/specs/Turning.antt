-- One turn after another (Gerber Layer Format Specification, "Aperture transformations (LP, LM, LR, LS)").
use Rattle.std.specs.Prelude.{◌≡◌, Bool, ◌&&◌, List, [], ◌∷◌, find, unwrap_or}
use Rattle.std.specs.Ordering.{int_eq}
use Rattle.cam_units.specs.declared.turn.Turn.{Turn}
use Rattle.cam_units.specs.declared.turn.Turn.TheVariants.{R0, R90, R180, R270, M0, M90, M180, M270}
use Rattle.cam_units.specs.Turns.{Matrix, matrix_of, product}

abbrev pub turns : List Turn
turns = R0 ∷ R90 ∷ R180 ∷ R270 ∷ M0 ∷ M90 ∷ M180 ∷ M270 ∷ []

abbrev pub has_rows : Matrix → Matrix → Bool
has_rows m n = int_eq m.xx n.xx && int_eq m.xy n.xy && int_eq m.yx n.yx && int_eq m.yy n.yy

-- the turn of a matrix
abbrev pub turn_of : Matrix → Turn
turn_of m = unwrap_or (find (λ t. has_rows (matrix_of t) m) turns) R0

-- first the one, then the other: the turn whose matrix is the product of theirs
unfoldable pub after : Turn → Turn → Turn
after first next = turn_of (product (matrix_of next) (matrix_of first))

-- that turn has that matrix
abbrev pub AfterLaw : Type 0
AfterLaw = (first next : Turn) → matrix_of (after first next) ≡ product (matrix_of next) (matrix_of first)
