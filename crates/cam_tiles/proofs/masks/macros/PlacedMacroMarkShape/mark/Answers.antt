use Rattle.std.proofs.Common.{◌≡◌, ◌*◌, length, drop, map, refl, sym, rules, arith}
use Rattle.std.proofs.lemmas.List.{places, take_all}
use Rattle.std.proofs.lemmas.Option.{get_or_from_slice_get}
use Rattle.cam_units.specs.declared.point.Spot.{Spot}
use Rattle.cam_apertures.specs.Cover.{IsExposed}
use Rattle.cam_apertures.specs.Turned.{turned_prim}
use Rattle.cam_apertures.proofs.Painting.{none_painted, through}
use Rattle.cam_objects.specs.Image.{relative}
use Rattle.cam_tiles.specs.Machinery.Masks.{inked}
use Rattle.cam_tiles.specs.Tiles.{centre_in}
use Rattle.cam_tiles.proofs.Joined.{joined_like, same}
use Rattle.cam_tiles.proofs.JoinedCentres.{marks_kept}
use Rattle.cam_tiles.proofs.JoinedWords.{none_marked}
use Rattle.cam_tiles.proofs.Stamps.{painted_more}
use Rattle.cam_tiles.proofs.TurnedMarks.{still_wide}
use Rattle.cam_tiles.proofs.masks.macros.PlacedMacroMarkShape.mark.Goals as goal

pub loop-place-init : goal.loop-place-init
loop-place-init c =
    let blank = c.fill.new.self in
    let size : length blank ≡ 64 * c.div_ceil.result = search (rules, places) in
    record {
      wide = record { room = omega (arith, size, c.div_ceil.ensures); tiles = omega (arith, size) };
      marked = λ column row near below. (
        (λ on. absurd
            (none_marked blank (λ k within. c.fill.ensures.clones k 0 (rw c.fill.ensures.len at within) refl) row column on)),
        (λ painted. absurd (none_painted (relative c.args.self.now.at (centre_in c.args.grid.now column row)) painted)),
      );
    }

pub loop-place-preserved : goal.loop-place-preserved
loop-place-preserved c =
    let here = c.loop-place in
    let prims = c.args.self.now.prims.now in
    let p = c.at-primitive.result.now in
    record {
      wide = still_wide c.args.columns here.marks c.join_primitive.new.marks c.join_primitive.auto.marks here.invariant.wide;
      marked = λ column row near below.
          through
          (joined_like (inked p.paint) _ _ _ _ _ (here.invariant.marked column row near below) same
          (c.join_primitive.ensures.each column row near below))
          (painted_more c.args.self.now.turn prims here.place p (relative c.args.self.now.at (centre_in c.args.grid.now column row))
          (omega (arith, c.loop-place-test.true, c.len-place-end.ensures))
          (sym (get_or_from_slice_get prims here.place p p c.at-primitive.ensures)));
    }

pub returns : goal.returns
returns c =
    let here = c.loop-place in
    let prims = c.args.self.now.prims.now in
    let all = take_all here.place prims (omega (arith, c.loop-place-test.false, c.len-place-end.ensures)) in
    let IsHeld : Spot → Type 0 =
    λ s. IsExposed (map (turned_prim c.args.self.now.turn) prims) (relative c.args.self.now.at s) in
    marks_kept c.args.grid.now c.args.columns IsHeld here.marks (drop (64 * c.div_ceil.result) c.args.marks.now)
    c.requires.grid.grid.rows.1 here.invariant.wide (rw all at here.invariant.marked)
