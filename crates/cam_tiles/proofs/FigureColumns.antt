-- Figures by their runs.
use Rattle.std.proofs.Common.{◌≡◌, ◌↔◌, ◌⊎◌, ℕ, ℤ, pos, ◌-ℤ◌, ◌*ℤ◌, arith}
use Rattle.std.proofs.lemmas.Int.{ints}
use Rattle.cam_units.specs.declared.length.Nm.{Nm}
use Rattle.cam_units.specs.declared.point.Point.{Point}
use Rattle.cam_units.specs.declared.point.Spot.{Spot}
use Rattle.cam_shapes.specs.Arc.{IsInArc}
use Rattle.cam_shapes.specs.Bar.{IsInBar, IsInCapsule}
use Rattle.cam_shapes.specs.Disc.{IsInDisc}
use Rattle.cam_shapes.specs.declared.arc.Arc.{Arc}
use Rattle.cam_shapes.specs.declared.capsule.Capsule.{Capsule}
use Rattle.cam_rows.specs.ArcRuns.{IsBeyond, IsHollow, IsOuter, start_disc as first_of, end_disc as last_of}
use Rattle.cam_rows.proofs.ArcRuns.{arc_is_its_runs}
use Rattle.cam_rows.proofs.CapsuleParts.{bar_of, end_of, in_capsule, start_of}
use Rattle.cam_tiles.specs.declared.grid.Grid.{Grid}
use Rattle.cam_tiles.specs.declared.masks.heights.Heights.{Heights}
use Rattle.cam_tiles.specs.declared.masks.runs.Runs.{Runs}
use Rattle.cam_tiles.specs.declared.masks.figure_runs.FigureRuns.{FigureRuns}
use Rattle.cam_tiles.specs.Machinery.Masks.{IsWithin}
use Rattle.cam_tiles.specs.Machinery.Runs.{Finds, Fits, HasColumn, IsClear, Tells}
use Rattle.cam_tiles.specs.Machinery.Figures.{TellsFigure}
use Rattle.cam_tiles.specs.Tiles.{centre_in}
use Rattle.cam_tiles.proofs.RunColumns.{tells_nothing}

-- ---- discs as strokes of no length

no_way : (z : ℤ) → pos 2 *ℤ z -ℤ pos 2 *ℤ z ≡ pos 0
no_way z = omega (arith, ints)

pub disc_stroke : (s : Spot) (p : Point) (w : Nm)
    → IsInDisc s (record { centre = p; diameter = w }) ↔ IsInCapsule s (record { from = p; to = p; width = w })
disc_stroke s p w = grind (arith, no_way, ints)

-- ---- figures

parts_like : (T B H Y S E Body Hollow Beyond Start End : Type 0) → T ↔ (((B × (H → ⊥) × (Y → ⊥)) ⊎ S) ⊎ E) → Body ↔ B
    → Hollow ↔ H → Beyond ↔ Y → Start ↔ S → End ↔ E → (((Body × (Hollow → ⊥) × (Beyond → ⊥)) ⊎ Start) ⊎ End) ↔ T
parts_like T B H Y S E Body Hollow Beyond Start End law b h y s e = grind arith

-- a figure by its parts
pub tells_figure : (g : Grid) (columns : ℕ) (IsHeld B H Y S E : Spot → Type 0) (body hollow beyond start end : Runs)
    → Tells g columns B body → Tells g columns H hollow → Tells g columns Y beyond → Tells g columns S start
    → Tells g columns E end
    → ((t : Spot) → IsHeld t ↔ (((B t × (H t → ⊥) × (Y t → ⊥)) ⊎ S t) ⊎ E t))
    → TellsFigure g columns IsHeld
    (record { body = body; hollow = hollow; beyond = beyond; start = start; end = end })
tells_figure g columns IsHeld B H Y S E body hollow beyond start end b h y s e law = grind (arith, parts_like)

-- a disc is a stroke of no length
pub disc_law : (p q : Point) (w : Nm) → p ≡ q → (t : Spot)
    → IsInCapsule t (record { from = p; to = q; width = w }) ↔ IsInDisc t (record { centre = p; diameter = w })
disc_law p q w is t = grind (arith, disc_stroke)

pub straight_law : (c : Capsule) (t : Spot)
    → IsInCapsule t c
    ↔ (((IsInBar t (bar_of c) × (⊥ → ⊥) × (⊥ → ⊥)) ⊎ IsInDisc t (start_of c)) ⊎ IsInDisc t (end_of c))
straight_law c t = let whole = in_capsule t c in grind (arith, whole)

-- what is outside of a hole
pub pierced_law : (P H : Type 0) → (P × (H → ⊥)) ↔ (((P × (H → ⊥) × (⊥ → ⊥)) ⊎ ⊥) ⊎ ⊥)
pierced_law P H = grind arith

pub without_none : (P H : Type 0) → (H → ⊥) → (P × (H → ⊥)) ↔ P
without_none P H none = ((λ held. held.0), (λ on. (on, none)))

body_law : (P : Type 0) → P ↔ (((P × (⊥ → ⊥) × (⊥ → ⊥)) ⊎ ⊥) ⊎ ⊥)
body_law P = grind arith

-- what is all body
pub tells_body : (g : Grid) (columns : ℕ) (IsHeld : Spot → Type 0) (body : Runs) (none : FigureRuns)
    → Tells g columns IsHeld body → IsClear none.hollow → IsClear none.beyond → IsClear none.start → IsClear none.end
    → TellsFigure g columns IsHeld (record none { body = body })
tells_body g columns IsHeld body none told hollow beyond start end = grind (arith, tells_figure, tells_nothing, body_law)

parts_united : (P B L N S T E F H Y : Type 0) → (H → ⊥) → (Y → ⊥) → (L ⊎ T) ↔ (B ⊎ S) → (N ⊎ F) ↔ (L ⊎ E)
    → (((B × (H → ⊥) × (Y → ⊥)) ⊎ S) ⊎ E) ↔ P → (((N × (H → ⊥) × (Y → ⊥)) ⊎ T) ⊎ F) ↔ P
parts_united P B L N S T E F H Y no_hollow no_beyond first second told = grind arith

-- a body that takes in what it may of the discs about its ends
pub tells_united : (g : Grid) (columns : ℕ) (IsHeld : Spot → Type 0) (r : FigureRuns) (longer body start end : Runs)
    → IsClear r.hollow → IsClear r.beyond → TellsFigure g columns IsHeld r → Fits g.rows body → Fits g.rows start
    → Fits g.rows end
    → ((row column : ℕ) → (HasColumn longer row column ⊎ HasColumn start row column)
    ↔ (HasColumn r.body row column ⊎ HasColumn r.start row column))
    → ((row column : ℕ) → (HasColumn body row column ⊎ HasColumn end row column)
    ↔ (HasColumn longer row column ⊎ HasColumn r.end row column))
    → TellsFigure g columns IsHeld (record r { body = body; start = start; end = end })
tells_united g columns IsHeld r longer body start end no_hollow no_beyond told fit fit_start fit_end first second = record {
  fit = record { body = fit; hollow = told.fit.hollow; beyond = told.fit.beyond; start = fit_start; end = fit_end };
  each = λ column row near within.
      parts_united _ _ _ _ _ _ _ _ _ _ (no_hollow.none row column) (no_beyond.none row column) (first row column)
      (second row column) (told.each column row near within);
}

round_parts : (A O H Y S E W Body Hollow Beyond Start End : Type 0) → A ↔ ((O × (H → ⊥) × (Y → ⊥)) ⊎ S ⊎ E) → (A → W)
    → Body ↔ (O × W) → (Hollow → H) → (Body → H → Hollow) → (Beyond → Y) → (Body → Y → Beyond) → Start ↔ S → End ↔ E
    → (((Body × (Hollow → ⊥) × (Beyond → ⊥)) ⊎ Start) ⊎ End) ↔ A
round_parts A O H Y S E W Body Hollow Beyond Start End law high body in_hollow hollow in_beyond beyond start end = grind arith

-- an arc that lies between two heights: what is taken out of its body is found where that is
pub tells_round : (g : Grid) (columns : ℕ) (a : Arc) (h : Heights) (seen : Spot → Spot) (body hollow beyond start end : Runs)
    → ((t : Spot) → IsInArc t a → IsWithin h t)
    → Tells g columns (λ s. IsOuter a (seen s) × IsWithin h (seen s)) body
    → Finds g columns (λ s. IsHollow a (seen s)) body hollow → Finds g columns (λ s. IsBeyond a (seen s)) body beyond
    → Tells g columns (λ s. IsInDisc (seen s) (first_of a)) start → Tells g columns (λ s. IsInDisc (seen s) (last_of a)) end
    → TellsFigure g columns (λ s. IsInArc (seen s) a)
    (record { body = body; hollow = hollow; beyond = beyond; start = start; end = end })
tells_round g columns a h seen body hollow beyond start end high b y x s e = record {
  fit = record { body = b.fits; hollow = y.fits; beyond = x.fits; start = s.fits; end = e.fits };
  each = λ column row near within.
      let t = seen (centre_in g column row) in
      round_parts _ _ _ _ _ _ _ _ _ _ _ _ (arc_is_its_runs t a) (high t) (b.each column row near within)
      (y.held column row near within) (y.all column row near within) (x.held column row near within)
      (x.all column row near within) (s.each column row near within) (e.each column row near within);
}

left_parts : (Body Hollow Beyond Start End Left Rest T : Type 0) → (Left × (Rest → ⊥)) ↔ (Body × (Hollow → ⊥))
    → (((Body × (Hollow → ⊥) × (Beyond → ⊥)) ⊎ Start) ⊎ End) ↔ T
    → (((Left × (Rest → ⊥) × (Beyond → ⊥)) ⊎ Start) ⊎ End) ↔ T
left_parts Body Hollow Beyond Start End Left Rest T same told = grind arith

-- what is hollow is taken out of the body
pub tells_left : (g : Grid) (columns : ℕ) (IsHeld : Spot → Type 0) (r : FigureRuns) (body hollow : Runs)
    → Fits g.rows body → Fits g.rows hollow
    → ((row column : ℕ) → (HasColumn body row column × (HasColumn hollow row column → ⊥))
    ↔ (HasColumn r.body row column × (HasColumn r.hollow row column → ⊥)))
    → TellsFigure g columns IsHeld r → TellsFigure g columns IsHeld (record r { body = body; hollow = hollow })
tells_left g columns IsHeld r body hollow fit fit_hollow same told = record {
  fit = record { body = fit; hollow = fit_hollow; beyond = told.fit.beyond; start = told.fit.start; end = told.fit.end };
  each = λ column row near within.
      left_parts _ _ _ _ _ _ _ _ (same row column) (told.each column row near within);
}

pub tells_like : (g : Grid) (columns : ℕ) (P Q : Spot → Type 0) (s : FigureRuns) → ((t : Spot) → Q t ↔ P t)
    → TellsFigure g columns P s → TellsFigure g columns Q s
tells_like g columns P Q s same told = grind arith
