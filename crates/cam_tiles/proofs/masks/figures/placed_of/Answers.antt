use Rattle.std.proofs.Common.{◌≡◌, ◌↔◌, pos, arith}
use Rattle.std.proofs.lemmas.Int.{ints}
use Rattle.cam_units.specs.declared.point.Spot.{Spot}
use Rattle.cam_shapes.specs.Disc.{IsInDisc, IsInHole}
use Rattle.cam_shapes.specs.declared.disc.Disc.{Disc}
use Rattle.cam_apertures.specs.Cover.{disc}
use Rattle.cam_tiles.proofs.Flashes.{as_drawn, sound_hole}
use Rattle.cam_tiles.proofs.masks.figures.placed_of.Goals as goal

-- a hole of no diameter takes nothing out
whole : (s : Spot) (d hole : Disc) → hole ≡ disc (record { 0 = pos 0 })
    → IsInDisc s d ↔ (IsInDisc s d × (IsInHole s hole → ⊥))
whole s d hole is = grind (arith, ints)

pub returns-in-Stroke : goal.returns-in-Stroke
returns-in-Stroke c =
    as_drawn c.args.figure.now _ c.at.result c.at.ensures (rw c.in-Stroke.is at c.requires.sound)
    (λ s. rw c.in-Stroke.is ((λ a. a), (λ a. a)))

pub returns-in-Sweep : goal.returns-in-Sweep
returns-in-Sweep c =
    as_drawn c.args.figure.now _ c.at-in-Sweep.result c.at-in-Sweep.ensures
    (rw c.in-Sweep.is at c.requires.sound, rw c.in-Sweep.is at c.requires.heights)
    (λ s. rw c.in-Sweep.is ((λ a. a), (λ a. a)))

pub returns-in-Swept : goal.returns-in-Swept
returns-in-Swept c =
    as_drawn c.args.figure.now _ c.at-in-Swept.result c.at-in-Swept.ensures (rw c.in-Swept.is at c.requires.sound)
    (λ s. rw c.in-Swept.is ((λ a. a), (λ a. a)))

pub returns-in-Drilled : goal.returns-in-Drilled
returns-in-Drilled c =
    let hole = c.hole.result.0 in
    as_drawn c.args.figure.now _ c.at-in-Drilled.result c.at-in-Drilled.ensures
    (rw c.in-Drilled.is at c.requires.sound, sound_hole hole _ c.hole.ensures (omega (arith, ints), omega (arith, ints)))
    (λ s. rw c.in-Drilled.is (whole s c.in-Drilled.disc hole c.hole.ensures))

pub returns-in-Some : goal.returns-in-Some
returns-in-Some c = grind (arith)
