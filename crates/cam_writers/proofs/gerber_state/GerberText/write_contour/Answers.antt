use Rattle.std.proofs.Common.{◌∷◌, List, subst, sym}
use Rattle.std.specs.List.{All, flat_map}
use Rattle.std.proofs.lemmas.List.Elements.{All-from_recursion, All-head, All-tail}
use Rattle.cam_units.specs.declared.point.Point.{Point}
use Rattle.cam_units.specs.Board.{IsOnBoard}
use Rattle.cam_objects.specs.Soundness.{points_of_seg}
use Rattle.cam_shapes.specs.declared.segments.Seg.{Seg}
use Rattle.cam_writers.specs.Phrases.{EnterRegion, LeaveRegion, MoveTo, spelled}
use Rattle.cam_writers.specs.GerberTexts.{Phrases, with_segments}
use Rattle.cam_writers.specs.Machinery.Tracking.{TracksPhrases}
use Rattle.cam_writers.proofs.GerberTracks.{segments_on_board, written}
use Rattle.cam_writers.proofs.Walks.{on_ok}
use Rattle.cam_writers.proofs.gerber_state.GerberText.write_contour.Goals as goal

pub write_segments-requires : goal.write_segments-requires
write_segments-requires c =
    let contour = c.args.contour.now in
    let rest : List Point = flat_map points_of_seg contour.segs in
    record {
      start = All-head IsOnBoard contour.start rest c.requires;
      segs =
          subst (λ (segs : List Seg). All (λ seg. All IsOnBoard (points_of_seg seg)) segs) (sym c.as_slice.ensures)
          (All-from_recursion (λ seg. All IsOnBoard (points_of_seg seg)) contour.segs
          (segments_on_board contour.segs (All-tail IsOnBoard contour.start rest c.requires)));
    }

pub returns : goal.returns
unfolding spelled
returns c =
    λ phrases h.
    let contour = c.args.contour.now in
    let begun = written EnterRegion phrases c.args.self.now c.push_word.new.text h c.in_ok-push_word.ensures in
    let at_start : Phrases = MoveTo contour.start ∷ EnterRegion ∷ phrases in
    let along = c.in_ok-write_segments.ensures at_start (c.in_ok-go_to.ensures (EnterRegion ∷ phrases) begun) in
    let whole : TracksPhrases (with_segments contour.start contour.segs at_start) c.write_segments.new.self =
    subst (λ (segs : List Seg). TracksPhrases (with_segments contour.start segs at_start) c.write_segments.new.self)
    c.as_slice.ensures along in
    on_ok c.push_word-2.result
    (written LeaveRegion (with_segments contour.start contour.segs at_start) c.write_segments.new.self
    c.push_word-2.new.text whole) c.push_word-2.ensures
