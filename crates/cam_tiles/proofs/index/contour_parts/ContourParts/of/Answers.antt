use Rattle.std.proofs.Common.{rules, ◌≡◌, List, sym, ap, subst, ◌∙◌, arith}
use Rattle.std.specs.List.{All}
use Rattle.std.proofs.lemmas.Bool.Decides.{nat_tests}
use Rattle.cam_units.specs.Board.{IsOnBoard}
use Rattle.cam_units.specs.declared.point.Point.{Point}
use Rattle.cam_shapes.specs.declared.segments.Seg.{Seg}
use Rattle.cam_shapes.specs.Contour.{IsSoundSeg}
use Rattle.cam_tiles.specs.Machinery.Parts.{ChangeWithin, behind_part, end_from, first_part}
use Rattle.cam_tiles.proofs.ContourParts.{AreFoundBut, all_found, ends_on_board, fewer_behind, one_found, sound_behind, sound_first}
use Rattle.cam_tiles.proofs.index.contour_parts.ContourParts.of.Goals as goal

pub part_heights-requires-clause-part : goal.part_heights-requires-clause-part
part_heights-requires-clause-part c = grind (arith, sound_first)

pub loop-rest-smaller : goal.loop-rest-smaller
loop-rest-smaller c = grind (arith, nat_tests, fewer_behind)

pub loop-rest-preserved : goal.loop-rest-preserved
loop-rest-preserved c =
    let contour = c.args.contour.now in
    let here = c.loop-rest.here in
    let rest = c.loop-rest.rest.now in
    let so_far = c.loop-rest.invariant in
    let first = c.split_part.ensures.first in
    let behind = sym c.split_part.ensures.behind in
    let there = c.end_from-here.result in
    let end : there ≡ end_from here (first_part rest) = c.end_from-here.ensures ∙ ap (end_from here) first in
    let within = subst (ChangeWithin c.part_heights.result here) first c.part_heights.ensures in
    record {
      on_board = subst IsOnBoard (sym end)
          (ends_on_board here (first_part rest) so_far.on_board (sound_first rest so_far.sound));
      sound = subst (All IsSoundSeg) behind (sound_behind rest so_far.sound);
      found = subst (λ (segs : List Seg). AreFoundBut contour.start there segs contour.segs c.push.new.self.items) behind
          (subst (λ (p : Point). AreFoundBut contour.start p (behind_part rest) contour.segs c.push.new.self.items) (sym end)
          (subst (AreFoundBut contour.start (end_from here (first_part rest)) (behind_part rest) contour.segs)
          (sym c.in_ok-push.ensures.items)
          (one_found contour.start here rest contour.segs c.loop-rest.heights.items c.part_heights.result within so_far.found)));
    }

pub returns-clause-heights : goal.returns-clause-heights
returns-clause-heights c = search (rules, all_found)

pub loop-rest-init : goal.loop-rest-init
loop-rest-init c = grind (arith)
