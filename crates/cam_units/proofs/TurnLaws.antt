-- Products of matrices.
use Rattle.std.proofs.Common.{◌≡◌, zero, suc, ℤ, pos, negsuc, ◌+ℤ◌, ◌*ℤ◌, refl, ap, sym, ◌∙◌, arith}
use Rattle.std.proofs.lemmas.Int.{ints}
use Rattle.cam_units.specs.declared.point.Point.{Point}
use Rattle.cam_units.specs.Turns.{Matrix, applied, matrix_of, next_quarter, product, matrix_rows}
use Rattle.cam_units.specs.Turns.{AssociativeLaw, InverseLaw, QuartersLaw, ThenLaw}
use Rattle.cam_units.specs.declared.turn.Turn.{Turn}
use Rattle.cam_units.specs.declared.turn.Turn.TheVariants.{R0, R90, R180, R270, M0, M90, M180, M270}
use Rattle.cam_units.proofs.Ring.{Polynomial, Atom, Sum, Product, equal}

-- an entry of a product of three
entry : (a b c d e f g h : ℤ)
    → (a *ℤ c +ℤ b *ℤ e) *ℤ g +ℤ (a *ℤ d +ℤ b *ℤ f) *ℤ h ≡ a *ℤ (c *ℤ g +ℤ d *ℤ h) +ℤ b *ℤ (e *ℤ g +ℤ f *ℤ h)
entry a b c d e f g h =
    let two : ℤ → ℤ → ℤ → ℤ → Polynomial = λ p q r s. Sum (Product (Atom p) (Atom q)) (Product (Atom r) (Atom s)) in
    equal
    (Sum (Product (two a c b e) (Atom g)) (Product (two a d b f) (Atom h)))
    (Sum (Product (Atom a) (two c g d h)) (Product (Atom b) (two e g f h)))
    (omega arith)

same_rows : (xx xy yx yy xx' xy' yx' yy' : ℤ) → xx ≡ xx' → xy ≡ xy' → yx ≡ yx' → yy ≡ yy'
    → matrix_rows xx xy yx yy ≡ matrix_rows xx' xy' yx' yy'
same_rows xx xy yx yy xx' xy' yx' yy' a b c d = λ i. record { xx = a i; xy = b i; yx = c i; yy = d i }

pub product_assoc : AssociativeLaw
product_assoc l m n = grind (arith, same_rows, entry)

pub same_point : (p q : Point) → p.x ≡ q.x → p.y ≡ q.y → p ≡ q
same_point p q e f = λ i. record { x = e i; y = f i }

pub applied_product : ThenLaw
applied_product m n p = grind (arith, same_point, entry)

pub taken_back : InverseLaw
taken_back R0 = (R0, refl, refl)
taken_back R90 = (R270, refl, refl)
taken_back R180 = (R180, refl, refl)
taken_back R270 = (R90, refl, refl)
taken_back M0 = (M0, refl, refl)
taken_back M90 = (M90, refl, refl)
taken_back M180 = (M180, refl, refl)
taken_back M270 = (M270, refl, refl)

-- a turn is read off its matrix
abbrev turn_at : ℤ → ℤ → ℤ → ℤ → Turn
turn_at (pos (suc _)) xy yx (pos _) = R0
turn_at (pos (suc _)) xy yx (negsuc _) = M180
turn_at (negsuc _) xy yx (pos _) = M0
turn_at (negsuc _) xy yx (negsuc _) = R180
turn_at (pos zero) (pos _) (pos _) yy = M270
turn_at (pos zero) (pos _) (negsuc _) yy = R270
turn_at (pos zero) (negsuc _) (pos _) yy = R90
turn_at (pos zero) (negsuc _) (negsuc _) yy = M90

abbrev turn_of : Matrix → Turn
turn_of m = turn_at m.xx m.xy m.yx m.yy

turn_again : (t : Turn) → turn_of (matrix_of t) ≡ t
turn_again t = grind arith

next_is : (t : Turn) → matrix_of (next_quarter t) ≡ product (matrix_of R90) (matrix_of t)
next_is t = grind arith

pub quarters : QuartersLaw
quarters = record {
  differ = λ t u e. sym (turn_again t) ∙ ap turn_of e ∙ turn_again u;
  quarter = λ p. same_point (applied (matrix_of R90) p) _ (omega (arith, ints)) (omega (arith, ints));
  more = next_is;
  mirror = λ p. same_point (applied (matrix_of M0) p) _ (omega (arith, ints)) (omega (arith, ints));
}
