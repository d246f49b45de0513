use Rattle.std.proofs.Common.{arith, rules, sym, ◌∙◌}
use Rattle.cam_apertures.proofs.Corners.{same_box}
use Rattle.cam_objects.proofs.Computed.{max_near, min_near, twice_fits, twice_max, twice_min}
use Rattle.cam_objects.proofs.SizedLeaves.{ends_spanned}
use Rattle.cam_objects.proofs.boxes.shapes.ends.Goals as goal

pub overflow_mul-result : goal.overflow_mul-result
overflow_mul-result c = grind (arith, twice_fits, min_near)

pub overflow_mul-result-2 : goal.overflow_mul-result-2
overflow_mul-result-2 c = search (rules, twice_fits, min_near)

pub overflow_mul-result-3 : goal.overflow_mul-result-3
overflow_mul-result-3 c =
    twice_fits c.max.result (max_near c.args.from.now.x c.args.to.now.x c.max.result c.requires.from.x c.requires.to.x c.max.ensures.value)

pub overflow_mul-result-4 : goal.overflow_mul-result-4
overflow_mul-result-4 c =
    twice_fits c.max-2.result
    (max_near c.args.from.now.y c.args.to.now.y c.max-2.result c.requires.from.y c.requires.to.y c.max-2.ensures.value)

pub returns : goal.returns
returns c =
    let from = c.args.from.now in
    let to = c.args.to.now in
    let f = c.requires.from in
    let t = c.requires.to in
    same_box _ _ _ _ _ _ _ _
    (twice_min from.x to.x c.min.result f.x t.x c.min.ensures.value)
    (twice_min from.y to.y c.min-2.result f.y t.y c.min-2.ensures.value)
    (twice_max from.x to.x c.max.result f.x t.x c.max.ensures.value)
    (twice_max from.y to.y c.max-2.result f.y t.y c.max-2.ensures.value)
    ∙ sym (ends_spanned from to f t)
