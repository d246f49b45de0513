-- Ways as pairs of coordinates.
use Rattle.std.proofs.Common.{◌≡◌}
use Rattle.cam_shapes.specs.declared.vector.Vector.{Vector}

pub same_vector : (v w : Vector) → v.x ≡ w.x → v.y ≡ w.y → v ≡ w
same_vector v w e f = λ i. record { x = e i; y = f i }
