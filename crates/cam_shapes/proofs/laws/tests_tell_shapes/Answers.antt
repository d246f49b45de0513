use Rattle.std.proofs.Common.{refl}
use Rattle.cam_shapes.specs.Sides.{change_side}
use Rattle.cam_shapes.proofs.Parity.{sides_are_parity}
use Rattle.cam_shapes.proofs.TestLaws.{is_in_arc-meaning, is_in_bar-meaning, is_in_capsule-meaning, is_in_contour-meaning}
use Rattle.cam_shapes.proofs.TestLaws.{is_in_disc-meaning, is_in_hole-meaning, is_in_obround-meaning, is_in_rectangle-meaning}
use Rattle.cam_shapes.proofs.TestLaws.{is_in_swept-meaning}
use Rattle.cam_shapes.proofs.laws.tests_tell_shapes.Goals as goal

pub returns : goal.returns
returns c = record {
  disc = is_in_disc-meaning;
  hole = is_in_hole-meaning;
  rectangle = is_in_rectangle-meaning;
  obround = is_in_obround-meaning;
  bar = is_in_bar-meaning;
  capsule = is_in_capsule-meaning;
  swept = is_in_swept-meaning;
  arc = is_in_arc-meaning;
  contour = is_in_contour-meaning;
  sides = λ s c. sides_are_parity s c (change_side s c.start c.start c.segs) refl;
}
