-- A turn of an aperture is a turn of its cover.
use Rattle.std.proofs.Common.{◌≡◌, ◌↔◌, Bool, false, cond, IsTrue, ℤ, pos, ◌+ℤ◌, ◌-ℤ◌, ◌*ℤ◌, List, [], ◌∷◌, map, All, refl, ap, sym, ◌∙◌, subst, arith}
use Rattle.std.proofs.lemmas.Int.{ints}
use Rattle.std.proofs.lemmas.List.Elements.{All-head, All-tail}
use Rattle.std.proofs.lemmas.Bool.Decides.{same_from_decides}
use Rattle.cam_units.specs.declared.length.Nm.{Nm}
use Rattle.cam_units.specs.declared.point.Point.{Point}
use Rattle.cam_units.specs.declared.point.Spot.{Spot}
use Rattle.cam_units.specs.declared.turn.Turn.{Turn}
use Rattle.cam_units.specs.declared.turn.Turn.TheVariants.{R0, R90, R180, R270, M0, M90, M180, M270}
use Rattle.cam_units.specs.Turns.{Matrix, applied, matrix_of, product}
use Rattle.cam_units.proofs.Ring.{Polynomial, Atom, Sum, Difference, Product, equal}
use Rattle.cam_units.proofs.TurnLaws.{applied_product}
use Rattle.cam_shapes.specs.declared.vector.Vector.{Vector}
use Rattle.cam_shapes.specs.Bar.{IsBeside, IsInBar}
use Rattle.cam_shapes.specs.Box.{IsInObround, IsInRectangle}
use Rattle.cam_shapes.specs.Disc.{IsInDisc, IsInHole}
use Rattle.cam_shapes.specs.Plane.{cross, dot, place_of, seen_from, square, way}
use Rattle.cam_shapes.proofs.Vectors.{same_vector}
use Rattle.cam_macros.specs.declared.primitive.MacroPrimitive.{MacroPrimitive}
use Rattle.cam_macros.specs.declared.primitive.PrimShape.{PrimShape}
use Rattle.cam_apertures.specs.declared.aperture.Aperture.{Aperture}
use Rattle.cam_apertures.specs.declared.aperture.Aperture.TheVariants.{Circle, Rect, Obround, Prims}
use Rattle.cam_apertures.specs.Cover.{obround, flash_point, rectangle, IsCovered, IsInShape}
use Rattle.cam_apertures.specs.Laws.{turned_spot, HasNoOutline, IsNoOutline, TurnLaw}
use Rattle.cam_apertures.specs.Tests.{is_in_shape, ink_exposed}
use Rattle.cam_apertures.specs.Turned.{turned_height, turned_point, turned_prim, turned_shape, turned_width}
use Rattle.cam_apertures.proofs.CoverLaws.{in_shape, painted_law}
use Rattle.cam_apertures.proofs.ObroundTurns.{obround_turned}
use Rattle.cam_apertures.proofs.Outlines.{origin_turned}
use Rattle.cam_apertures.proofs.Painting.{round, through}

abbrev two : ℤ → ℤ → Polynomial
two a b = Product (Atom a) (Atom b)

abbrev doubled : ℤ → Polynomial
doubled a = two (pos 2) a

abbrev times : Matrix → Vector → Vector
times m v = record { x = m.xx *ℤ v.x +ℤ m.xy *ℤ v.y; y = m.yx *ℤ v.x +ℤ m.yy *ℤ v.y }

-- a place as it is seen from a point, both turned
seen_entry : (a b sx sy px py : ℤ) → (a *ℤ sx +ℤ b *ℤ sy) -ℤ pos 2 *ℤ (a *ℤ px +ℤ b *ℤ py) ≡ a *ℤ (sx -ℤ pos 2 *ℤ px) +ℤ b *ℤ (sy -ℤ pos 2 *ℤ py)
seen_entry a b sx sy px py =
    equal
    (Difference (Sum (two a sx) (two b sy)) (Product (Atom (pos 2)) (Sum (two a px) (two b py))))
    (Sum (Product (Atom a) (Difference (Atom sx) (doubled px))) (Product (Atom b) (Difference (Atom sy) (doubled py))))
    (omega arith)

seen_turned : (m : Matrix) (p : Point) (s : Spot) → seen_from (applied m p) (turned_spot m s) ≡ times m (seen_from p s)
seen_turned m p s = grind (arith, same_vector, seen_entry)

place_entry : (a b px py : ℤ) → pos 2 *ℤ (a *ℤ px +ℤ b *ℤ py) ≡ a *ℤ (pos 2 *ℤ px) +ℤ b *ℤ (pos 2 *ℤ py)
place_entry a b px py =
    equal (Product (Atom (pos 2)) (Sum (two a px) (two b py))) (Sum (Product (Atom a) (doubled px)) (Product (Atom b) (doubled py))) (omega arith)

same_spot : (s u : Spot) → s.x ≡ u.x → s.y ≡ u.y → s ≡ u
same_spot s u e f = λ i. record { x = e i; y = f i }

place_turned : (m : Matrix) (p : Point) → place_of (applied m p) ≡ turned_spot m (place_of p)
place_turned m p = same_spot _ _ (place_entry m.xx m.xy p.x p.y) (place_entry m.yx m.yy p.x p.y)

way_turned : (m : Matrix) (p q : Point) → way (applied m p) (applied m q) ≡ times m (way p q)
way_turned m p q = ap (λ s. seen_from (applied m p) s) (place_turned m q) ∙ seen_turned m p (place_of q)

-- products of turned ways
dot_expanded : (a b c d vx vy wx wy : ℤ)
    → (a *ℤ vx +ℤ b *ℤ vy) *ℤ (a *ℤ wx +ℤ b *ℤ wy) +ℤ (c *ℤ vx +ℤ d *ℤ vy) *ℤ (c *ℤ wx +ℤ d *ℤ wy)
    ≡ (a *ℤ a +ℤ c *ℤ c) *ℤ (vx *ℤ wx) +ℤ (a *ℤ b +ℤ c *ℤ d) *ℤ (vx *ℤ wy +ℤ vy *ℤ wx) +ℤ (b *ℤ b +ℤ d *ℤ d) *ℤ (vy *ℤ wy)
dot_expanded a b c d vx vy wx wy =
    equal
    (Sum (Product (Sum (two a vx) (two b vy)) (Sum (two a wx) (two b wy))) (Product (Sum (two c vx) (two d vy)) (Sum (two c wx) (two d wy))))
    (Sum (Sum (Product (Sum (two a a) (two c c)) (two vx wx)) (Product (Sum (two a b) (two c d)) (Sum (two vx wy) (two vy wx)))) (Product (Sum (two b b) (two d d)) (two vy wy)))
    (omega arith)

cross_expanded : (a b c d vx vy wx wy : ℤ)
    → (a *ℤ vx +ℤ b *ℤ vy) *ℤ (c *ℤ wx +ℤ d *ℤ wy) -ℤ (c *ℤ vx +ℤ d *ℤ vy) *ℤ (a *ℤ wx +ℤ b *ℤ wy)
    ≡ (a *ℤ d -ℤ b *ℤ c) *ℤ (vx *ℤ wy -ℤ vy *ℤ wx)
cross_expanded a b c d vx vy wx wy =
    equal
    (Difference (Product (Sum (two a vx) (two b vy)) (Sum (two c wx) (two d wy))) (Product (Sum (two c vx) (two d vy)) (Sum (two a wx) (two b wy))))
    (Product (Difference (two a d) (two b c)) (Difference (two vx wy) (two vy wx)))
    (omega arith)

-- the columns of a turn are at right angles, and one long
record IsOrthogonal (m : Matrix) : Type 0 where
  pub first : m.xx *ℤ m.xx +ℤ m.yx *ℤ m.yx ≡ pos 1
  pub mixed : m.xx *ℤ m.xy +ℤ m.yx *ℤ m.yy ≡ pos 0
  pub second : m.xy *ℤ m.xy +ℤ m.yy *ℤ m.yy ≡ pos 1
  pub turning : (m.xx *ℤ m.yy -ℤ m.xy *ℤ m.yx) *ℤ (m.xx *ℤ m.yy -ℤ m.xy *ℤ m.yx) ≡ pos 1

orthogonal : (t : Turn) → IsOrthogonal (matrix_of t)
orthogonal t = grind arith

weighed : (k l m p q r : ℤ) → k ≡ pos 1 → l ≡ pos 0 → m ≡ pos 1 → k *ℤ p +ℤ l *ℤ q +ℤ m *ℤ r ≡ p +ℤ r
weighed k l m p q r e f g = rw (e, f, g) (omega (arith, ints))

dot_turned : (t : Turn) (v w : Vector) → dot (times (matrix_of t) v) (times (matrix_of t) w) ≡ dot v w
dot_turned t v w = grind (arith, orthogonal, dot_expanded, weighed)

square_entry : (d c : ℤ) → (d *ℤ c) *ℤ (d *ℤ c) ≡ (d *ℤ d) *ℤ (c *ℤ c)
square_entry d c = equal (Product (two d c) (two d c)) (Product (two d d) (two c c)) (omega arith)

once : (z : ℤ) → pos 1 *ℤ z ≡ z
once z = omega (arith, ints)

cross_turned : (t : Turn) (v w : Vector) → square (cross (times (matrix_of t) v) (times (matrix_of t) w)) ≡ square (cross v w)
cross_turned t v w = grind (arith, cross_expanded, square_entry, orthogonal, once)

seen_dot : (t : Turn) (p : Point) (s : Spot) → dot (seen_from (turned_point t p) (turned_spot (matrix_of t) s)) (seen_from (turned_point t p) (turned_spot (matrix_of t) s)) ≡ dot (seen_from p s) (seen_from p s)
seen_dot t p s = ap (λ v. dot v v) (seen_turned (matrix_of t) p s) ∙ dot_turned t (seen_from p s) (seen_from p s)

origin_dot : (t : Turn) (s : Spot) → dot (seen_from flash_point (turned_spot (matrix_of t) s)) (seen_from flash_point (turned_spot (matrix_of t) s)) ≡ dot (seen_from flash_point s) (seen_from flash_point s)
origin_dot t s = sym (ap (λ o. dot (seen_from o (turned_spot (matrix_of t) s)) (seen_from o (turned_spot (matrix_of t) s))) (origin_turned t)) ∙ seen_dot t flash_point s

-- discs, of which only the distance from the centre counts
disc_by : (p q : Point) (s u : Spot) (d : Nm) → dot (seen_from p s) (seen_from p s) ≡ dot (seen_from q u) (seen_from q u)
    → IsInDisc s (record { centre = p; diameter = d }) ↔ IsInDisc u (record { centre = q; diameter = d })
disc_by p q s u d e = grind arith

hole_by : (p q : Point) (s u : Spot) (d : Nm) → dot (seen_from p s) (seen_from p s) ≡ dot (seen_from q u) (seen_from q u)
    → IsInHole s (record { centre = p; diameter = d }) ↔ IsInHole u (record { centre = q; diameter = d })
hole_by p q s u d e = grind arith

-- bars, of which only products of ways count
beside_by : (a v b w : Vector) (r : ℤ) → dot a a ≡ dot b b → dot a v ≡ dot b w → square (cross a v) ≡ square (cross b w) → IsBeside a v r → IsBeside b w r
beside_by a v b w r e f g h = grind arith

bar_turned : (t : Turn) (from to : Point) (w : Nm) (s : Spot)
    → IsInBar (turned_spot (matrix_of t) s) (record { from = turned_point t from; to = turned_point t to; width = w }) ↔ IsInBar s (record { from = from; to = to; width = w })
bar_turned t from to w s =
    let m = matrix_of t in
    let a = way (turned_point t from) (turned_point t to) in
    let v = seen_from (turned_point t from) (turned_spot m s) in
    let b = way from to in
    let u = seen_from from s in
    let long : dot a a ≡ dot b b = ap (λ z. dot z z) (way_turned m from to) ∙ dot_turned t b b in
    let along : dot a v ≡ dot b u = ap (λ z. dot z v) (way_turned m from to) ∙ ap (λ z. dot (times m b) z) (seen_turned m from s) ∙ dot_turned t b u in
    let across : square (cross a v) ≡ square (cross b u) = ap (λ z. square (cross z v)) (way_turned m from to) ∙ ap (λ z. square (cross (times m b) z)) (seen_turned m from s) ∙ cross_turned t b u in (
      (λ h. record { wide = h.wide; beside = beside_by a v b u w.0 long along across h.beside }),
      (λ h. record { wide = h.wide; beside = beside_by b u a v w.0 (sym long) (sym along) (sym across) h.beside }),
    )

-- rectangles
rectangle_turned : (t : Turn) (p : Point) (w h : Nm) (s : Spot)
    → IsInRectangle (turned_spot (matrix_of t) s) (record { centre = turned_point t p; width = turned_width t w h; height = turned_height t w h }) ↔ IsInRectangle s (record { centre = p; width = w; height = h })
rectangle_turned R0 p w h s = (
  (λ k. record { wide = k.wide; high = k.high; between = record { across = omega (arith, ints, k.between.across); along = omega (arith, ints, k.between.along) } }),
  (λ k. record { wide = k.wide; high = k.high; between = record { across = omega (arith, ints, k.between.across); along = omega (arith, ints, k.between.along) } }),
)
rectangle_turned R90 p w h s = (
  (λ k. record { wide = k.high; high = k.wide; between = record { across = omega (arith, ints, k.between.along); along = omega (arith, ints, k.between.across) } }),
  (λ k. record { wide = k.high; high = k.wide; between = record { across = omega (arith, ints, k.between.along); along = omega (arith, ints, k.between.across) } }),
)
rectangle_turned R180 p w h s = (
  (λ k. record { wide = k.wide; high = k.high; between = record { across = omega (arith, ints, k.between.across); along = omega (arith, ints, k.between.along) } }),
  (λ k. record { wide = k.wide; high = k.high; between = record { across = omega (arith, ints, k.between.across); along = omega (arith, ints, k.between.along) } }),
)
rectangle_turned R270 p w h s = (
  (λ k. record { wide = k.high; high = k.wide; between = record { across = omega (arith, ints, k.between.along); along = omega (arith, ints, k.between.across) } }),
  (λ k. record { wide = k.high; high = k.wide; between = record { across = omega (arith, ints, k.between.along); along = omega (arith, ints, k.between.across) } }),
)
rectangle_turned M0 p w h s = (
  (λ k. record { wide = k.wide; high = k.high; between = record { across = omega (arith, ints, k.between.across); along = omega (arith, ints, k.between.along) } }),
  (λ k. record { wide = k.wide; high = k.high; between = record { across = omega (arith, ints, k.between.across); along = omega (arith, ints, k.between.along) } }),
)
rectangle_turned M90 p w h s = (
  (λ k. record { wide = k.high; high = k.wide; between = record { across = omega (arith, ints, k.between.along); along = omega (arith, ints, k.between.across) } }),
  (λ k. record { wide = k.high; high = k.wide; between = record { across = omega (arith, ints, k.between.along); along = omega (arith, ints, k.between.across) } }),
)
rectangle_turned M180 p w h s = (
  (λ k. record { wide = k.wide; high = k.high; between = record { across = omega (arith, ints, k.between.across); along = omega (arith, ints, k.between.along) } }),
  (λ k. record { wide = k.wide; high = k.high; between = record { across = omega (arith, ints, k.between.across); along = omega (arith, ints, k.between.along) } }),
)
rectangle_turned M270 p w h s = (
  (λ k. record { wide = k.high; high = k.wide; between = record { across = omega (arith, ints, k.between.along); along = omega (arith, ints, k.between.across) } }),
  (λ k. record { wide = k.high; high = k.wide; between = record { across = omega (arith, ints, k.between.along); along = omega (arith, ints, k.between.across) } }),
)

-- shapes of primitives
shape_turned : (t : Turn) (shape : PrimShape) (s : Spot) → IsNoOutline shape → IsInShape (turned_shape t shape) (turned_spot (matrix_of t) s) ↔ IsInShape shape s
shape_turned t shape s none = grind (arith, disc_by, seen_dot, bar_turned, rectangle_turned)

kept : (x y : ℤ) → (pos 1 *ℤ x +ℤ pos 0 *ℤ y ≡ x) × (pos 0 *ℤ x +ℤ pos 1 *ℤ y ≡ y)
kept x y = (omega (arith, ints), omega (arith, ints))

none_turned : (s : Spot) → turned_spot (matrix_of R0) s ≡ s
none_turned s = same_spot _ _ (kept s.x s.y).0 (kept s.x s.y).1

shape_like : (t : Turn) (shape : PrimShape) (s : Spot) → IsNoOutline shape
    → IsInShape (turned_shape t shape) (turned_spot (matrix_of t) s) ↔ IsInShape (turned_shape R0 shape) s
shape_like t shape s none =
    through (shape_turned t shape s none)
    (round (subst (λ u. IsInShape (turned_shape R0 shape) u ↔ IsInShape shape s) (none_turned s) (shape_turned R0 shape s none)))

painted_like : (t : Turn) (ink : Bool) (ps : List MacroPrimitive) (s : Spot) → All (λ p. IsNoOutline p.shape) ps
    → ink_exposed ink (map (turned_prim t) ps) (turned_spot (matrix_of t) s) ≡ ink_exposed ink (map (turned_prim R0) ps) s
painted_like t ink [] s none = refl
painted_like t ink (p ∷ ps) s none =
    let u = turned_spot (matrix_of t) s in
    let here : is_in_shape (turned_shape t p.shape) u ≡ is_in_shape (turned_shape R0 p.shape) s
    = same_from_decides (is_in_shape (turned_shape t p.shape) u) (is_in_shape (turned_shape R0 p.shape) s)
    (in_shape (turned_shape t p.shape) u)
    (through (in_shape (turned_shape R0 p.shape) s) (round (shape_like t p.shape s (All-head (λ q. IsNoOutline q.shape) p ps none)))) in
    ap (λ b. ink_exposed (cond b p.paint ink) (map (turned_prim t) ps) u) here
    ∙ painted_like t (cond (is_in_shape (turned_shape R0 p.shape) s) p.paint ink) ps s (All-tail (λ q. IsNoOutline q.shape) p ps none)

both_ways : {P Q R S : Type 0} → (P ↔ R) → (Q ↔ S) → (P × ¬ Q) ↔ (R × ¬ S)
both_ways f g = ((λ h. (f.0 h.0, λ s. h.1 (g.1 s))), (λ h. (f.1 h.0, λ q. h.1 (g.0 q))))

same_truth : (b c : Bool) → b ≡ c → IsTrue b ↔ IsTrue c
same_truth b c e = ((λ h. sym e ∙ h), (λ h. e ∙ h))

-- the turned place is covered by the turned aperture
covered_turned : (a : Aperture) (t : Turn) (s : Spot) → HasNoOutline a → IsCovered a t (turned_spot (matrix_of t) s) ↔ IsCovered a R0 s
covered_turned (Circle diameter hole) t s none = grind (arith, both_ways, disc_by, origin_dot, hole_by)
covered_turned (Rect width height hole) t s none =
    both_ways
    (subst (λ o. IsInRectangle (turned_spot (matrix_of t) s) (record { centre = o; width = turned_width t width height; height = turned_height t width height }) ↔ IsInRectangle s (rectangle R0 width height))
    (origin_turned t) (rectangle_turned t flash_point width height s))
    (hole_by flash_point flash_point (turned_spot (matrix_of t) s) s hole (origin_dot t s))
covered_turned (Obround width height hole) t s none =
    both_ways
    (subst (λ o. IsInObround (turned_spot (matrix_of t) s) (record { centre = o; width = turned_width t width height; height = turned_height t width height }) ↔ IsInObround s (obround R0 width height))
    (origin_turned t) (obround_turned t flash_point width height s))
    (hole_by flash_point flash_point (turned_spot (matrix_of t) s) s hole (origin_dot t s))
covered_turned (Prims prims) t s none =
    through (round (painted_law (map (turned_prim t) prims) (turned_spot (matrix_of t) s)))
    (through (same_truth (ink_exposed false (map (turned_prim t) prims) (turned_spot (matrix_of t) s)) (ink_exposed false (map (turned_prim R0) prims) s) (painted_like t false prims s none))
    (painted_law (map (turned_prim R0) prims) s))

turned_twice : (m n : Matrix) (s : Spot) → turned_spot (product m n) s ≡ turned_spot m (turned_spot n s)
turned_twice m n s =
    let p : Point = record { x = s.x; y = s.y } in
    same_spot _ _ (ap (λ (q : Point). q.x) (applied_product m n p)) (ap (λ (q : Point). q.y) (applied_product m n p))

pub turn_law : TurnLaw
turn_law a t back s none e =
    let u = turned_spot (matrix_of back) s in
    let here : turned_spot (matrix_of t) u ≡ s = sym (turned_twice (matrix_of t) (matrix_of back) s) ∙ ap (λ m. turned_spot m s) e ∙ none_turned s in
    subst (λ v. IsCovered a t v ↔ IsCovered a R0 u) here (covered_turned a t u none)
