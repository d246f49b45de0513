use Rattle.cam_words.proofs.Longest.{stops_at_the_longest_front}
use Rattle.cam_words.proofs.laws.stops_at_the_longest_front.Goals as goal

pub returns : goal.returns
returns c = stops_at_the_longest_front
