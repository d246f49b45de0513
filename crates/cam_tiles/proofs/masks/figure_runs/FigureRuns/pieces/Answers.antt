use Rattle.std.proofs.Common.{◌↔◌, ◌⊎◌, arith}
use Rattle.cam_tiles.proofs.masks.figure_runs.FigureRuns.pieces.Goals as goal

-- two parts of what is left of a body, each without what is beyond
left_over : (P Q R S X Y B H E Body Hollow Beyond : Type 0) → (P ⊎ Q) ↔ (X × (E → ⊥)) → (R ⊎ S) ↔ (Y × (E → ⊥))
    → (X ⊎ Y) ↔ (B × (H → ⊥)) → B ↔ Body → H ↔ Hollow → E ↔ Beyond
    → ((P ⊎ Q) ⊎ (R ⊎ S)) ↔ (Body × (Hollow → ⊥) × (Beyond → ⊥))
left_over P Q R S X Y B H E Body Hollow Beyond front back left body hollow beyond = grind arith

pub returns : goal.returns
returns c = λ k.
    left_over _ _ _ _ _ _ _ _ _ _ _ _ (c.without-2.ensures k) (c.without-3.ensures k) (c.without.ensures k) (c.run.ensures k)
    (c.run-2.ensures k) (c.run-beyond.ensures k)
