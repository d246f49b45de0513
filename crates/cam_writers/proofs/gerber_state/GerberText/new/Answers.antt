use Rattle.std.proofs.Common.{ap, ◌∙◌, List, ℕ, ◌++◌}
use Rattle.cam_writers.specs.Phrases.{UseFormat, line_of, spelled}
use Rattle.cam_writers.proofs.GerberTracks.{opened}
use Rattle.cam_writers.proofs.gerber_state.GerberText.new.Goals as goal

pub returns : goal.returns
unfolding spelled
returns c =
    opened c.args.attributes.now c.push_extended.new.text c.push_extended-2.new.text c.push_attributes.new.text
    c.push_word.new.text c.push_word-2.new.text c.requires
    (c.in_ok-push_extended.ensures ∙ ap (λ (front : List ℕ). front ++ line_of (spelled UseFormat)) c.new-text.ensures.items)
    c.in_ok-push_extended-2.ensures c.in_ok-push_attributes.ensures c.in_ok-push_word.ensures c.in_ok-push_word-2.ensures
