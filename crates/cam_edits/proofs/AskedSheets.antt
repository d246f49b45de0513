-- the boxes of what a sheet lists
use Rattle.std.proofs.Common.{◌≡◌, ℕ, zero, suc, ◌<◌, List, [], ◌∷◌, length, map, Some, refl, ap, arith}
use Rattle.std.specs.Prelude.{slice_get}
use Rattle.cam_units.specs.declared.bounds.Bounds.{Bounds}

-- a box that is that of whatever stands at a place is the one at that place
pub box_there : {X : Type 0} (f : X → Bounds) (xs : List X) (k : ℕ) (b : Bounds) → k < length xs
    → ((x : X) → slice_get xs k ≡ Some x → b ≡ f x) → Some b ≡ slice_get (map f xs) k
box_there f [] k b within told = absurd (omega arith)
box_there f (x ∷ xs) zero b within told = ap Some (told x refl)
box_there f (x ∷ xs) (suc k) b within told = box_there f xs k b (omega arith) told
