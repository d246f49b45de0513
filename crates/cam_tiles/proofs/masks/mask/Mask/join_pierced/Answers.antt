use Rattle.std.proofs.Common.{◌↔◌, ◌∙◌, ◌⊎◌, arith}
use Rattle.cam_units.specs.declared.point.Spot.{Spot}
use Rattle.cam_shapes.specs.Disc.{IsInHole}
use Rattle.cam_objects.specs.Image.{relative}
use Rattle.cam_tiles.specs.declared.masks.join.Join.TheVariants.{Add, Clear}
use Rattle.cam_tiles.specs.Machinery.Plain.{IsInShape}
use Rattle.cam_tiles.proofs.Joined.{merges_shown, shows_joined, shows_like, shows_nothing}
use Rattle.cam_tiles.proofs.masks.mask.Mask.join_pierced.Goals as goal

-- what is added to nothing, and without what is cleared
rest : (P Q : Type 0) → ((⊥ ⊎ P) × (Q → ⊥)) ↔ (P × (Q → ⊥))
rest P Q = grind arith

pub merge-requires : goal.merge-requires
merge-requires c = grind arith

pub returns : goal.returns
returns c =
    let P : Spot → Type 0 = λ s. IsInShape c.args.shape.now (relative c.args.at s) in
    let Q : Spot → Type 0 = λ s. IsInHole (relative c.args.at s) c.args.hole.0 in
    let none = shows_nothing c.blank-own.result c.blank-own.ensures.marks in
    let shape = shows_joined Add (λ s. ⊥) P c.blank-own.result c.join.new.self none c.join.ensures in
    let both = shows_joined Clear (λ s. ⊥ ⊎ P s) Q c.join.new.self c.join-2.new.self shape c.join-2.ensures in
    merges_shown c.args.how (λ s. P s × (Q s → ⊥)) c.join-2.new.self c.args.self.now c.merge.new.self
    (c.join-2.ensures.grid ∙ c.join.ensures.grid ∙ c.blank-own.ensures.grid ∙ c.grid.ensures.value)
    (shows_like (λ s. (⊥ ⊎ P s) × (Q s → ⊥)) (λ s. P s × (Q s → ⊥)) c.join-2.new.self (λ s. rest (P s) (Q s)) both)
    c.merge.ensures
