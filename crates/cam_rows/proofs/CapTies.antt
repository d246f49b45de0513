-- Caps by rows: how ties are decided, which centres of a row are in the circle, and where a chord leads.
use Rattle.std.proofs.Common.{◌≡◌, ◌↔◌, ◌⊎◌, ℕ, ◌+◌, ◌-◌, ◌<◌, ◌≤◌, ℤ, pos, ◌+ℤ◌, ◌-ℤ◌, ◌*ℤ◌, ◌≤ℤ◌, ◌<ℤ◌}
use Rattle.std.proofs.Common.{Bool, true, false, IsTrue, arith}
use Rattle.std.specs.Int.RustNames.{int_lt}
use Rattle.std.proofs.lemmas.Int.{ints, by_lt_z}
use Rattle.std.proofs.lemmas.Bool.{cases_Bool, false≢true}
use Rattle.std.proofs.lemmas.Bool.Decides.{Decides-int_eq}
use Rattle.cam_shapes.specs.declared.vector.Vector.{Vector}
use Rattle.cam_shapes.specs.Cap.{is_in_circle, is_less}
use Rattle.cam_shapes.specs.Plane.{dot, square}
use Rattle.cam_shapes.proofs.Crossings.{less_is, not_under, under}
use Rattle.cam_shapes.proofs.Widths.{square_is}
use Rattle.cam_rows.specs.Machinery.Chords.{IsInChord}
use Rattle.cam_rows.specs.Machinery.Ties.{is_inside_chord, leads_down_or_right}

tied : (m n : ℤ) (tie : Bool) → m ≡ n → IsTrue tie ↔ ((m <ℤ n) ⊎ ((m ≤ℤ n) × IsTrue tie))
tied m n tie same = grind (arith, ints)

less_where_other : (m n : ℤ) → (m ≡ n → ⊥) → m ≤ℤ n → m <ℤ n
less_where_other m n other most = by_lt_z m n (λ less. less) (λ least. absurd (other (omega (arith, ints))))

untied : (m n : ℤ) (tie : Bool) → (m ≡ n → ⊥) → IsTrue (int_lt m n) ↔ ((m <ℤ n) ⊎ ((m ≤ℤ n) × IsTrue tie))
untied m n tie other = grind (arith, less_is, less_where_other)

-- a comparison with its tie
less_or_tied : (m n : ℤ) (tie : Bool) → IsTrue (is_less m n tie) ↔ ((m <ℤ n) ⊎ ((m ≤ℤ n) × IsTrue tie))
less_or_tied m n tie = grind (arith, cases_Bool, tied, Decides-int_eq, untied, false≢true)

-- the tie holds, or not
pub at_most_by_tie : (m n : ℤ) (tie : Bool) → tie ≡ true → IsTrue (is_less m n tie) ↔ (m ≤ℤ n)
at_most_by_tie m n tie holds = grind (arith, less_or_tied, ints)

pub less_by_tie : (m n : ℤ) (tie : Bool) → tie ≡ false → IsTrue (is_less m n tie) ↔ (m <ℤ n)
less_by_tie m n tie fails = grind (arith, less_or_tied, false≢true)

-- the same on both sides
lowered : (m n a b h : ℤ) (tie : Bool) → m ≡ a +ℤ h → n ≡ b +ℤ h → IsTrue (is_less m n tie) ↔ IsTrue (is_less a b tie)
lowered m n a b h tie e f = grind (arith, less_or_tied, ints)

-- inside of the circle through u, by the row's chord
pub in_circle_is : (u v : Vector) (radius height : ℕ) (is_below : Bool) → pos radius ≡ dot u u
    → pos height ≡ square v.y → height ≤ radius → int_lt v.y (pos 0) ≡ is_below
    → IsTrue (is_in_circle u v) ↔ IsTrue (is_inside_chord v.x (radius - height) is_below)
in_circle_is u v radius height is_below e f low g = grind (arith, ints, lowered)

-- a chord's places to the left of its middle, with its end
inside_left : (x : ℤ) (room : ℕ) (is_below : Bool) → x <ℤ pos 0
    → IsTrue (is_inside_chord x room is_below) ↔ (square x <ℤ pos (room + 1))
inside_left x room is_below left = grind (arith, less_or_tied, ints)

-- a chord's places by the squares of its halves
pub circle_chord : (u v : Vector) (room to_right : ℕ) (is_below : Bool)
    → IsTrue (is_in_circle u v) ↔ IsTrue (is_inside_chord v.x room is_below)
    → (pos 0 ≤ℤ v.x → IsTrue (is_inside_chord v.x room is_below) ↔ (square v.x <ℤ pos to_right))
    → IsTrue (is_in_circle u v) ↔ IsInChord v.x (room + 1) to_right
circle_chord u v room to_right is_below circle right = grind (arith, inside_left, by_lt_z)

-- a row above or below the circle
pub over_circle : (u v : Vector) (radius height : ℕ) → pos radius ≡ dot u u → pos height ≡ square v.y
    → radius < height → IsTrue (is_in_circle u v) → ⊥
over_circle u v radius height e f over inside = grind (arith, less_or_tied, ints, square_is)

-- where a row is below, by the coordinates
same_order : (a b m n : ℤ) → (a <ℤ b → m <ℤ n) → (b ≤ℤ a → n ≤ℤ m) → int_lt a b ≡ int_lt m n
same_order a b m n less least = grind (arith, by_lt_z, under, not_under)

pub is_below : (y a b : ℤ) → y ≡ a -ℤ b → int_lt y (pos 0) ≡ int_lt a b
is_below y a b e = same_order y (pos 0) a b (λ h. omega (arith, ints)) (λ h. omega (arith, ints))

-- where a chord leads, by the coordinates of its ends
pub leads_right : (d : Vector) (a b : ℤ) → d.y ≡ pos 0 → d.x ≡ pos 2 *ℤ b -ℤ pos 2 *ℤ a
    → int_lt a b ≡ leads_down_or_right d
leads_right d a b level e = grind (arith, Decides-int_eq, same_order, ints)

pub leads_down : (d : Vector) (a b : ℤ) → (d.y ≡ pos 0 → ⊥) → d.y ≡ pos 2 *ℤ a -ℤ pos 2 *ℤ b
    → int_lt a b ≡ leads_down_or_right d
leads_down d a b slant e = grind (arith, cases_Bool, Decides-int_eq, same_order, ints)
