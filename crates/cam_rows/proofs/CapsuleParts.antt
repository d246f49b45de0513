-- A capsule by its parts: a bar, and a disc about each end.
use Rattle.std.proofs.Common.{◌↔◌, ◌⊎◌, inl, inr}
use Rattle.cam_units.specs.declared.point.Spot.{Spot}
use Rattle.cam_shapes.specs.declared.bar.Bar.{Bar}
use Rattle.cam_shapes.specs.declared.capsule.Capsule.{Capsule}
use Rattle.cam_shapes.specs.declared.disc.Disc.{Disc}
use Rattle.cam_shapes.specs.Bar.{IsInBar, IsInCapsule}
use Rattle.cam_shapes.specs.Disc.{IsInDisc}

abbrev pub start_of : Capsule → Disc
start_of c = record { centre = c.from; diameter = c.width }

abbrev pub end_of : Capsule → Disc
end_of c = record { centre = c.to; diameter = c.width }

abbrev pub bar_of : Capsule → Bar
bar_of c = record { from = c.from; to = c.to; width = c.width }

-- without the second end
abbrev IsBeforeEnd : Capsule → Spot → Type 0
IsBeforeEnd c s = IsInBar s (bar_of c) ⊎ IsInDisc s (start_of c)

pub in_capsule : (s : Spot) (c : Capsule) → IsInCapsule s c ↔ (IsBeforeEnd c s ⊎ IsInDisc s (end_of c))
in_capsule s c = (
  (λ inside. elim inside.near [
    | inl first ↦ inl (inr (record { some = inside.wide; near = first }))
    | inr other ↦ elim other [
      | inl last ↦ inr (record { some = inside.wide; near = last })
      | inr beside ↦ inl (inl (record { wide = inside.wide; beside = beside }))
    ]
  ]),
  (λ part. elim part [
    | inl before ↦ elim before [
      | inl bar ↦ record { wide = bar.wide; near = inr (inr bar.beside) }
      | inr first ↦ record { wide = first.some; near = inl first.near }
    ]
    | inr last ↦ record { wide = last.some; near = inr (inl last.near) }
  ]),
)
