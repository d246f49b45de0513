-- Shapes by their rows.
use Rattle.std.specs.Prelude.{◌≡◌, ℕ, IsTrue}
use Rattle.cam_units.specs.Board.{IsOnBoard}
use Rattle.cam_units.specs.declared.point.Spot.{Spot}
use Rattle.cam_shapes.specs.Arc.{IsInArc, IsSoundArc}
use Rattle.cam_shapes.specs.Bar.{IsInBar, IsInCapsule, IsSoundBar, IsSoundCapsule}
use Rattle.cam_shapes.specs.Box.{IsInObround, IsInRectangle, IsSoundObround, IsSoundRectangle}
use Rattle.cam_shapes.specs.Cap.{IsSoundCap, is_in_cap}
use Rattle.cam_shapes.specs.Disc.{IsInDisc, IsInHole, IsSoundDisc}
use Rattle.cam_shapes.specs.Edge.{crosses_ray, edge}
use Rattle.cam_shapes.specs.Swept.{IsInSwept, IsSoundSwept}
use Rattle.cam_tiles.specs.declared.plain.PlainTile.TheInside.{Inside as TileInside}
use Rattle.cam_tiles.specs.declared.plain.shapes.RowShape.{RowShape}
use Rattle.cam_tiles.specs.declared.plain.shapes.RowShape.TheVariants.{Arc, Bar, Cap, Capsule, Disc, Edge, Hole, Obround}
use Rattle.cam_tiles.specs.declared.plain.shapes.RowShape.TheVariants.{Rectangle, Swept}
use Rattle.cam_tiles.specs.Machinery.Masks.{IsIn, IsMarked}

-- the places that it holds; those of an edge or a cap are the ones that it counts for
abbrev pub IsInShape : RowShape → Spot → Type 0
IsInShape (Disc d) = λ s. IsInDisc s d
IsInShape (Hole d) = λ s. IsInHole s d
IsInShape (Rectangle r) = λ s. IsInRectangle s r
IsInShape (Obround o) = λ s. IsInObround s o
IsInShape (Bar b) = λ s. IsInBar s b
IsInShape (Capsule c) = λ s. IsInCapsule s c
IsInShape (Arc a) = λ s. IsInArc s a
IsInShape (Swept w) = λ s. IsInSwept s w
IsInShape (Edge from to) = λ s. IsTrue (crosses_ray s (edge from to))
IsInShape (Cap c) = λ s. IsTrue (is_in_cap s c)

abbrev pub IsSoundShape : RowShape → Type 0
IsSoundShape (Disc d) = IsSoundDisc d
IsSoundShape (Hole d) = IsSoundDisc d
IsSoundShape (Rectangle r) = IsSoundRectangle r
IsSoundShape (Obround o) = IsSoundObround o
IsSoundShape (Bar b) = IsSoundBar b
IsSoundShape (Capsule c) = IsSoundCapsule c
IsSoundShape (Arc a) = IsSoundArc a
IsSoundShape (Swept w) = IsSoundSwept w
IsSoundShape (Edge from to) = IsOnBoard from × IsOnBoard to
IsSoundShape (Cap c) = IsSoundCap c

-- a tile that is painted: the masks of what is decided and of what is dark have one grid, and what is dark is decided
pub record ArePainted (p : TileInside) : Type 0 where
  pub same : p.dark.grid ≡ p.decided.grid
  pub dark : (column row : ℕ) → IsIn p.decided.grid column row → IsMarked p.dark column row → IsMarked p.decided column row
