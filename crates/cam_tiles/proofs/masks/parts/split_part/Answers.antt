use Rattle.std.proofs.Common.{ap, take, drop, ◌∙◌}
use Rattle.cam_tiles.specs.Machinery.Parts.{behind_part, first_part}
use Rattle.cam_tiles.proofs.masks.parts.split_part.Goals as goal

pub returns-clause-first : goal.returns-clause-first
unfolding first_part
returns-clause-first c = c.split_at.ensures.front ∙ ap (λ n. take n c.args.segs.now) c.min.ensures

pub returns-clause-behind : goal.returns-clause-behind
unfolding behind_part
returns-clause-behind c = c.split_at.ensures.back ∙ ap (λ n. drop n c.args.segs.now) c.min.ensures
