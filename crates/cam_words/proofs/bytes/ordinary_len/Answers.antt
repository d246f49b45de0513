use Rattle.cam_words.proofs.Ordinary.{steps_and_rest}
use Rattle.cam_words.proofs.bytes.ordinary_len.Goals as goal

pub returns-clause-value : goal.returns-clause-value
returns-clause-value c =
    steps_and_rest c.args.text.now c.ordinary_steps-front.result c.ordinary_front.result
    c.ordinary_steps-front.ensures.within c.ordinary_steps-front.ensures.each c.ordinary_front.ensures.value
