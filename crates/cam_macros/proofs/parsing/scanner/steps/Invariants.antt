use Rattle.std.proofs.Common.{◌≡◌, length}
use Rattle.cam_macros.specs.Scanning.{scan, scanned}
use Rattle.cam_macros.specs.Machinery.Scanning.{status_of}
use Rattle.cam_macros.proofs.parsing.scanner.steps.Given as goal

abbrev pub decreases-loop-first : goal.decreases-loop-first
decreases-loop-first l = length l.rest.text.now

abbrev pub invariant-loop-first : goal.invariant-loop-first
invariant-loop-first l = scan (status_of l.rest.wanted) l.scanner l.rest.text.now ≡ scanned l.text
