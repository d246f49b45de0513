use Rattle.std.proofs.Common.{arith, ◌≡◌, sym, ◌∙◌}
use Rattle.std.specs.Prelude.{◌↔◌, Bool, IsTrue, false, true, not}
use Rattle.cam_apertures.proofs.aperture.Aperture.covers.Goals as goal

-- inside and not in the hole, by two tests
by_hole : {A B : Type 0} (hole : Bool) → A → (IsTrue hole ↔ B) → IsTrue (not hole) ↔ (A × ¬ B)
by_hole hole inside h = grind arith

outside : {A B : Type 0} (inside : Bool) → inside ≡ false → (IsTrue inside ↔ A) → IsTrue inside ↔ (A × ¬ B)
outside inside out h = (λ e. let wrong : false ≡ true = sym out ∙ e in cc, λ both. h.1 both.0)

pub in_disc-requires-clause-spot : goal.in_disc-requires-clause-spot
in_disc-requires-clause-spot c = c.requires.spot

pub in_hole-requires-clause-spot : goal.in_hole-requires-clause-spot
in_hole-requires-clause-spot c = c.requires.spot

pub in_rect-requires-clause-spot : goal.in_rect-requires-clause-spot
in_rect-requires-clause-spot c = c.requires.spot

pub in_hole-requires-then-in_rect-clause-spot : goal.in_hole-requires-then-in_rect-clause-spot
in_hole-requires-then-in_rect-clause-spot c = c.requires.spot

pub in_obround-requires-clause-spot : goal.in_obround-requires-clause-spot
in_obround-requires-clause-spot c = c.requires.spot

pub in_hole-requires-then-in_obround-clause-spot : goal.in_hole-requires-then-in_obround-clause-spot
in_hole-requires-then-in_obround-clause-spot c = c.requires.spot

pub covers-requires : goal.covers-requires
covers-requires c = c.requires.spot

pub returns-then-in_disc : goal.returns-then-in_disc
returns-then-in_disc c =
    let inside = rw c.disc.ensures at c.in_disc.ensures in
    let hole = rw c.disc-then-in_disc.ensures at c.in_hole.ensures in
    rw c.in-Circle.is (by_hole c.in_hole.result (inside.0 c.if-in_disc.true) hole)

pub returns-else-in_disc : goal.returns-else-in_disc
returns-else-in_disc c =
    let inside = rw c.disc.ensures at c.in_disc.ensures in rw c.in-Circle.is (outside c.in_disc.result c.if-in_disc.false inside)

pub returns-then-in_rect : goal.returns-then-in_rect
returns-then-in_rect c =
    let inside = rw (c.turned_width.ensures, c.turned_height.ensures) at c.in_rect.ensures in
    let hole = rw c.disc-then-in_rect.ensures at c.in_hole-then-in_rect.ensures in
    rw c.in-Rect.is (by_hole c.in_hole-then-in_rect.result (inside.0 c.if-in_rect.true) hole)

pub returns-else-in_rect : goal.returns-else-in_rect
returns-else-in_rect c =
    let inside = rw (c.turned_width.ensures, c.turned_height.ensures) at c.in_rect.ensures in rw c.in-Rect.is (outside c.in_rect.result c.if-in_rect.false inside)

pub returns-then-in_obround : goal.returns-then-in_obround
returns-then-in_obround c =
    let inside = rw (c.turned_width-in-Obround.ensures, c.turned_height-in-Obround.ensures) at c.in_obround.ensures in
    let hole = rw c.disc-then-in_obround.ensures at c.in_hole-then-in_obround.ensures in
    rw c.in-Obround.is (by_hole c.in_hole-then-in_obround.result (inside.0 c.if-in_obround.true) hole)

pub returns-else-in_obround : goal.returns-else-in_obround
returns-else-in_obround c =
    let inside = rw (c.turned_width-in-Obround.ensures, c.turned_height-in-Obround.ensures) at c.in_obround.ensures in rw c.in-Obround.is (outside c.in_obround.result c.if-in_obround.false inside)

pub returns-in-Prims : goal.returns-in-Prims
returns-in-Prims c = grind (arith)

pub in_rect-requires-clause-rectangle : goal.in_rect-requires-clause-rectangle
in_rect-requires-clause-rectangle c = grind (arith)

pub in_obround-requires-clause-obround : goal.in_obround-requires-clause-obround
in_obround-requires-clause-obround c = grind (arith)

pub in_hole-requires-then-in_rect-clause-disc : goal.in_hole-requires-then-in_rect-clause-disc
in_hole-requires-then-in_rect-clause-disc c = grind (arith)

pub in_hole-requires-then-in_obround-clause-disc : goal.in_hole-requires-then-in_obround-clause-disc
in_hole-requires-then-in_obround-clause-disc c = grind (arith)

pub in_hole-requires-clause-disc : goal.in_hole-requires-clause-disc
in_hole-requires-clause-disc c = grind (arith)
