-- Parities that change, at one centre.
use Rattle.std.proofs.Common.{◌↔◌, ◌⊎◌, Bool, IsTrue, arith}
use Rattle.cam_shapes.specs.Sides.{differ}
use Rattle.cam_tiles.specs.Machinery.Masks.{turned_over}

-- something is so, or it is not
abbrev pub Either : Type 0 → Type 0
Either P = P ⊎ (P → ⊥)

pub true_or_not : (b : Bool) → Either (IsTrue b)
true_or_not b = grind arith

pub turned_like : (New Was P Q : Type 0) → P ↔ Q → New ↔ turned_over Was P → New ↔ turned_over Was Q
turned_like New Was P Q e h = grind arith

pub turned_twice : (f g : Bool) (Was Between New : Type 0) → Either Was → Between ↔ turned_over Was (IsTrue f)
    → New ↔ turned_over Between (IsTrue g) → New ↔ turned_over Was (IsTrue (differ f g))
turned_twice f g Was Between New either h k = grind arith

pub not_turned : (Was Held : Type 0) → (Held → ⊥) → Was ↔ turned_over Was Held
not_turned Was Held none = grind arith

pub from_even : (Marked Odd Was Held : Type 0) → Marked ↔ Odd → (Was → ⊥) → Odd ↔ turned_over Was Held → Marked ↔ Held
from_even Marked Odd Was Held e none h = grind arith
