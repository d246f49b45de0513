-- Wide and high obrounds.
use Rattle.std.proofs.Common.{◌≡◌, ◌↔◌, IsTrue, Bool, ℤ, ◌-ℤ◌, ◌≤ℤ◌, ◌<ℤ◌, arith}
use Rattle.std.proofs.lemmas.Int.{ints}
use Rattle.cam_shapes.specs.declared.vector.Vector.{Vector}
use Rattle.cam_shapes.specs.Box.{IsAlong, IsRounded, swapped}

apart : {w h : ℤ} → h ≤ℤ w → w <ℤ h → ⊥
apart p q = omega (arith, ints)

pub wide_is_rounded : (b : Bool) (v : Vector) (w h n : ℤ) → h ≤ℤ w → n ≡ w -ℤ h
    → (IsTrue b ↔ IsAlong v n h) → (IsTrue b ↔ IsRounded v w h)
wide_is_rounded b v w h n wide e same = grind (arith, apart)

pub high_is_rounded : (b : Bool) (v u : Vector) (w h n : ℤ) → w <ℤ h → n ≡ h -ℤ w → u ≡ swapped v
    → (IsTrue b ↔ IsAlong u n w) → (IsTrue b ↔ IsRounded v w h)
high_is_rounded b v u w h n high e f same = grind (arith, apart)
