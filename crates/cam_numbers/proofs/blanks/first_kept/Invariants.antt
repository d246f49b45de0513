use Rattle.std.proofs.Common.{◌≡◌, drop}
use Rattle.cam_numbers.specs.Blanks.{without_blanks}
use Rattle.cam_numbers.proofs.blanks.first_kept.Given as goal

-- nothing so far counts
abbrev pub invariant-loop-place : goal.invariant-loop-place
invariant-loop-place l = without_blanks l.blanks (drop l.place l.run) ≡ without_blanks l.blanks l.run
