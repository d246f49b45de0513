use Rattle.std.proofs.Common.{◌≡◌, ◌*◌, take, true}
use Rattle.std.specs.List.{list_all}
use Rattle.cam_words.specs.Machinery.Ordinary.{is_ordinary}
use Rattle.cam_words.proofs.bytes.ordinary_steps.Given as goal

-- all bytes so far are ordinary
abbrev pub invariant-loop-step : goal.invariant-loop-step
invariant-loop-step l = list_all is_ordinary (take (16 * l.step) l.text) ≡ true
