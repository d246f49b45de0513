use Rattle.std.proofs.Common.{◌≡◌, ◌-◌, ap, subst, ◌∙◌, inl, inr, arith}
use Rattle.std.proofs.lemmas.Bool.{cases_lt}
use Rattle.cam_tiles.specs.Machinery.Inks.{Inked, IsDoneTile}
use Rattle.cam_tiles.proofs.masks.swath.open_among.Goals as goal

pub past_done-requires : goal.past_done-requires
past_done-requires c = omega (arith, c.requires, c.loop-end.invariant.high, ap (λ (k : Inked). k.tiles) c.loop-end.invariant.kept)

pub loop-end-preserved : goal.loop-end-preserved
loop-end-preserved c = record {
  kept = c.past_done.ensures.kept ∙ c.loop-end.invariant.kept;
  high = omega (arith, c.loop-end.invariant.high);
  done = λ tile after until. elim (cases_lt tile c.loop-end.end) [
    | inl last ↦
        (let same : c.loop-end.end - 1 ≡ tile = omega arith in
        subst (λ t. IsDoneTile c.args.inks.now t) same
        (subst (λ (k : Inked). IsDoneTile k (c.loop-end.end - 1)) c.loop-end.invariant.kept
        (c.past_done.ensures.done (c.loop-end.end - 1) (omega arith) (omega arith))))
    | inr behind ↦ c.loop-end.invariant.done tile behind until
  ];
}

pub returns-else-past_done-end-clause-done : goal.returns-else-past_done-end-clause-done
returns-else-past_done-end-clause-done c = grind (arith)
