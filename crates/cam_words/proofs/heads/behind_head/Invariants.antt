use Rattle.std.proofs.Common.{◌≡◌, drop}
use Rattle.std.specs.Prelude.{nat_eq}
use Rattle.std.specs.List.{starts_with}
use Rattle.cam_words.specs.Heads.{packed}
use Rattle.cam_words.proofs.heads.behind_head.Given as goal

-- the bytes of the head so far are those of the text
abbrev pub invariant-loop-wanted : goal.invariant-loop-wanted
invariant-loop-wanted l = record {
  begins : starts_with nat_eq (packed l.text) l.head ≡ starts_with nat_eq (packed l.rest) (drop l.wanted-index l.head);
  rest : packed l.rest ≡ drop l.wanted-index (packed l.text);
}
