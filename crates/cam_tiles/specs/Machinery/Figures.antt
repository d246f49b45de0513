-- Figures whose runs are known, and these runs in the rows of tiles side by side.
use Rattle.std.specs.Prelude.{◌↔◌, ◌⊎◌, ℕ, ◌<◌}
use Rattle.cam_units.specs.Board.{IsOnBoard}
use Rattle.cam_units.specs.declared.point.Spot.{Spot}
use Rattle.cam_units.specs.declared.turn.Turn.{Turn}
use Rattle.cam_shapes.specs.Arc.{IsInArc, IsSoundArc}
use Rattle.cam_shapes.specs.Bar.{IsInCapsule, IsSoundCapsule}
use Rattle.cam_shapes.specs.Box.{IsInObround, IsInRectangle, IsSoundObround, IsSoundRectangle}
use Rattle.cam_shapes.specs.Disc.{IsInDisc, IsInHole, IsSoundDisc}
use Rattle.cam_shapes.specs.Swept.{IsInSwept, IsSoundSwept}
use Rattle.cam_apertures.specs.Cover.{IsCovered}
use Rattle.cam_apertures.specs.declared.aperture.Aperture.{Aperture}
use Rattle.cam_apertures.specs.declared.aperture.Aperture.TheVariants.{Prims}
use Rattle.cam_objects.specs.declared.canvas.Figure.{Figure}
use Rattle.cam_objects.specs.declared.canvas.Figure.TheVariants.{Stamp, Filled}
use Rattle.cam_objects.specs.Canvases.{shape_of}
use Rattle.cam_objects.specs.Image.{Covers, relative}
use Rattle.cam_tiles.specs.declared.grid.Grid.{Grid}
use Rattle.cam_tiles.specs.declared.masks.figure_runs.FigureRuns.{FigureRuns}
use Rattle.cam_tiles.specs.declared.masks.heights.Heights.{Heights}
use Rattle.cam_tiles.specs.declared.masks.figures.Placed.{Placed}
use Rattle.cam_tiles.specs.declared.masks.figures.RunFigure.{RunFigure}
use Rattle.cam_tiles.specs.declared.masks.figures.RunFigure.TheVariants.{Straight, Round, Swept, Disc, Rectangle, Obround}
use Rattle.cam_tiles.specs.Machinery.Masks.{IsWithin}
use Rattle.cam_tiles.specs.Machinery.Runs.{Fits, HasColumn}
use Rattle.cam_tiles.specs.Tiles.{centre_in}

-- the places of a figure whose runs are known
abbrev pub IsInFigure : RunFigure → Spot → Type 0
IsInFigure (Straight c) = λ s. IsInCapsule s c
IsInFigure (Round a heights) = λ s. IsInArc s a
IsInFigure (Swept r) = λ s. IsInSwept s r
IsInFigure (Disc d hole) = λ s. IsInDisc s d × ¬ IsInHole s hole.0
IsInFigure (Rectangle r hole) = λ s. IsInRectangle s r × ¬ IsInHole s hole.0
IsInFigure (Obround o hole) = λ s. IsInObround s o × ¬ IsInHole s hole.0

-- heights between which all of some places lie
abbrev pub LiesWithin : Heights → (Spot → Type 0) → Type 0
LiesWithin heights IsHeld = (s : Spot) → IsHeld s → IsWithin heights s

abbrev pub IsSoundRunFigure : RunFigure → Type 0
IsSoundRunFigure (Straight c) = IsSoundCapsule c
IsSoundRunFigure (Round a heights) = IsSoundArc a × LiesWithin heights (λ s. IsInArc s a)
IsSoundRunFigure (Swept r) = IsSoundSwept r
IsSoundRunFigure (Disc d hole) = IsSoundDisc d × IsSoundDisc hole.0
IsSoundRunFigure (Rectangle r hole) = IsSoundRectangle r × IsSoundDisc hole.0
IsSoundRunFigure (Obround o hole) = IsSoundObround o × IsSoundDisc hole.0

pub record IsSoundPlaced (p : Placed) : Type 0 where
  pub figure : IsSoundRunFigure p.figure
  pub at : IsOnBoard p.at

-- the primitives of a macro are composed one after another
abbrev pub IsMacro : Aperture → Type 0
IsMacro (Prims prims) = Unit {0}
IsMacro _ = ⊥

-- and so are the segments of a contour
abbrev pub IsComposed : Figure → Type 0
IsComposed (Stamp aperture turn at) = IsMacro aperture.now
IsComposed (Filled contour turn offset) = Unit {0}
IsComposed _ = ⊥

-- a column is in the run of the body, and in none that is taken out of it
abbrev pub HasBody : FigureRuns → ℕ → ℕ → Type 0
HasBody s row column =
    HasColumn s.body row column × (HasColumn s.hollow row column → ⊥) × (HasColumn s.beyond row column → ⊥)

-- a column is in the figure by its runs
abbrev pub HasPart : FigureRuns → ℕ → ℕ → Type 0
HasPart s row column = (HasBody s row column ⊎ HasColumn s.start row column) ⊎ HasColumn s.end row column

pub record AllFit (rows : ℕ) (s : FigureRuns) : Type 0 where
  pub body : Fits rows s.body
  pub hollow : Fits rows s.hollow
  pub beyond : Fits rows s.beyond
  pub start : Fits rows s.start
  pub end : Fits rows s.end

-- the columns of a shape in the rows of a grid that go on to the right
pub record TellsFigure (g : Grid) (columns : ℕ) (IsHeld : Spot → Type 0) (s : FigureRuns) : Type 0 where
  pub fit : AllFit g.rows s
  pub each : (column row : ℕ) → column < columns → row < g.rows
      → HasPart s row column ↔ IsHeld (centre_in g column row)

-- a figure is one whose runs are known
pub record IsPlacedFor (f : Figure) (p : Placed) : Type 0 where
  pub sound : IsSoundPlaced p
  pub same : (s : Spot) → Covers (shape_of f) s ↔ IsInFigure p.figure (relative p.at s)

-- and so is an aperture, mirrored and turned
pub record IsFlashOf (a : Aperture) (t : Turn) (f : RunFigure) : Type 0 where
  pub sound : IsSoundRunFigure f
  pub same : (s : Spot) → IsCovered a t s ↔ IsInFigure f s
