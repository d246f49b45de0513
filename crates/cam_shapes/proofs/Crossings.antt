-- Where edges cross a height.
use Rattle.std.proofs.Common.{rules, ◌≡◌, ◌↔◌, ℕ, ◌<◌, ℤ, pos, ◌-ℤ◌, ◌*ℤ◌, ◌≤ℤ◌, ◌<ℤ◌, ◌⊎◌, inl, inr, true, false, IsTrue, sym}
use Rattle.std.proofs.Common.{arith}
use Rattle.std.proofs.lemmas.Int.{ints, by_lt_z}
use Rattle.std.proofs.Math.IntN.{*ℤ_comm}
use Rattle.std.proofs.lemmas.Bool.{false≢true}
use Rattle.std.proofs.lemmas.Nat.{mul-lt}
use lib.Signed.{lt_z}
use Rattle.cam_units.specs.declared.point.Spot.{Spot}
use Rattle.cam_units.proofs.Ring.{Polynomial, Atom, Sum, Difference, Product, equal}
use Rattle.cam_shapes.specs.Edge.{Edge, IsCrossing, IsFalling, IsRising, crosses_ray, crossing, rise, side}

pub less_is : (a b : ℤ) → IsTrue (lt_z a b) ↔ a <ℤ b
less_is a b = ((λ h. grind (arith, ints)), (λ h. grind (arith, ints)))

pub under : (a b : ℤ) → a <ℤ b → lt_z a b ≡ true
under a b h = grind (arith, ints)

pub not_under : (a b : ℤ) → b ≤ℤ a → lt_z a b ≡ false
not_under a b h = grind (arith, ints)

through : {A B C : Type 0} → (A ↔ B) → (B ↔ C) → A ↔ C
through f g = ((λ a. g.0 (f.0 a)), (λ c. f.1 (g.1 c)))

-- the height is from a up to below b
rising_is : (s : Spot) (e : Edge) → IsRising s e → IsTrue (crosses_ray s e) ↔ pos 0 <ℤ side s e
rising_is s e h = grind (arith, not_under, under, less_is)

falling_is : (s : Spot) (e : Edge) → IsFalling s e → IsTrue (crosses_ray s e) ↔ side s e <ℤ pos 0
falling_is s e h = grind (arith, under, not_under, less_is)

-- the side is how far the crossing lies right of the place, times the rise
side_is : (s : Spot) (e : Edge) → side s e ≡ crossing s e -ℤ s.x *ℤ rise e
side_is s e =
    let two : ℤ → Polynomial = λ z. Product (Atom (pos 2)) (Atom z) in
    let up = Difference (two e.to.y) (two e.from.y) in
    let right = Difference (two e.to.x) (two e.from.x) in
    equal
    (Difference
    (Product right (Difference (Atom s.y) (two e.from.y)))
    (Product up (Difference (Atom s.x) (two e.from.x))))
    (Difference
    (Sum (Product (two e.from.x) up) (Product (Difference (Atom s.y) (two e.from.y)) right))
    (Product (Atom s.x) up))
    (omega arith)

above_difference : (d a b : ℤ) → d ≡ a -ℤ b → (pos 0 <ℤ d) ↔ (b <ℤ a)
above_difference d a b e = ((λ h. omega (arith, ints)), (λ h. omega (arith, ints)))

below_difference : (d a b : ℤ) → d ≡ a -ℤ b → (d <ℤ pos 0) ↔ (a <ℤ b)
below_difference d a b e = ((λ h. omega (arith, ints)), (λ h. omega (arith, ints)))

pub rising : (s : Spot) (e : Edge) → IsRising s e → IsTrue (crosses_ray s e) ↔ (s.x *ℤ rise e) <ℤ crossing s e
rising s e h = search (rules, through, rising_is, above_difference, side_is)

pub falling : (s : Spot) (e : Edge) → IsFalling s e → IsTrue (crosses_ray s e) ↔ crossing s e <ℤ (s.x *ℤ rise e)
falling s e h = search (rules, through, falling_is, below_difference, side_is)

pub level : (s : Spot) (e : Edge) → ¬ IsRising s e → ¬ IsFalling s e → ¬ IsTrue (crosses_ray s e)
level s e not_rising not_falling told = search (rules, by_lt_z, false≢true, under, not_under)

-- products of positive numbers
pub product_above : (w r : ℤ) → pos 0 <ℤ w → pos 0 <ℤ r → pos 0 <ℤ (w *ℤ r)
product_above w r p q = grind (arith, ints, mul-lt)

pub product_least : (w r : ℤ) → pos 0 ≤ℤ w → pos 0 <ℤ r → pos 0 ≤ℤ (w *ℤ r)
product_least w r p q = grind (arith, ints)

product_difference : (u v r : ℤ) → (v -ℤ u) *ℤ r ≡ v *ℤ r -ℤ u *ℤ r
product_difference u v r =
    equal
    (Product (Difference (Atom v) (Atom u)) (Atom r))
    (Difference (Product (Atom v) (Atom r)) (Product (Atom u) (Atom r)))
    (omega arith)

more : (u v : ℤ) → u <ℤ v → pos 0 <ℤ (v -ℤ u)
more u v h = omega (arith, ints)

least : (u v : ℤ) → u ≤ℤ v → pos 0 ≤ℤ (v -ℤ u)
least u v h = omega (arith, ints)

back_more : (a b d : ℤ) → d ≡ b -ℤ a → pos 0 <ℤ d → a <ℤ b
back_more a b d e h = omega (arith, ints)

apart : (a b d : ℤ) → d ≡ b -ℤ a → pos 0 ≤ℤ d → b <ℤ a → ⊥
apart a b d e h k = omega (arith, ints)

scaled : (u v r : ℤ) → pos 0 <ℤ r → (u <ℤ v) ↔ ((u *ℤ r) <ℤ (v *ℤ r))
scaled u v r some = (
  (λ h. back_more (u *ℤ r) (v *ℤ r) ((v -ℤ u) *ℤ r) (product_difference u v r)
      (product_above (v -ℤ u) r (more u v h) some)),
  (λ h. by_lt_z u v (λ less. less)
      (λ most. absurd
      (apart (v *ℤ r) (u *ℤ r) ((u -ℤ v) *ℤ r) (product_difference v u r)
      (product_least (u -ℤ v) r (least v u most) some) h))),
)

opposite : (r : ℤ) → r <ℤ pos 0 → pos 0 <ℤ (pos 0 -ℤ r)
opposite r h = omega (arith, ints)

product_opposite : (u r : ℤ) → u *ℤ (pos 0 -ℤ r) ≡ pos 0 -ℤ u *ℤ r
product_opposite u r = grind (arith, equal, Product, Atom, Difference)

turned : (a b c d : ℤ) → c ≡ pos 0 -ℤ a → d ≡ pos 0 -ℤ b → (c <ℤ d) ↔ (b <ℤ a)
turned a b c d e f = ((λ h. omega (arith, ints)), (λ h. omega (arith, ints)))

scaled_back : (u v r : ℤ) → r <ℤ pos 0 → (u <ℤ v) ↔ ((v *ℤ r) <ℤ (u *ℤ r))
scaled_back u v r under_0 =
    through
    (scaled u v (pos 0 -ℤ r) (opposite r under_0))
    (turned (u *ℤ r) (v *ℤ r) (u *ℤ (pos 0 -ℤ r)) (v *ℤ (pos 0 -ℤ r)) (product_opposite u r) (product_opposite v r))

-- both sides of an order times m
times_m : (u v m : ℤ) → pos 0 <ℤ m → (u <ℤ v) ↔ ((m *ℤ u) <ℤ (m *ℤ v))
times_m u v m some = rw (*ℤ_comm m u, *ℤ_comm m v) (scaled u v m some)

grouped : (m x k : ℤ) → m *ℤ (x *ℤ k) ≡ m *ℤ x *ℤ k
grouped m x k =
    equal (Product (Atom m) (Product (Atom x) (Atom k))) (Product (Product (Atom m) (Atom x)) (Atom k)) (omega arith)

turn_round : {A B : Type 0} → (A ↔ B) → B ↔ A
turn_round f = (f.1, f.0)

rising_at : (x k c n m : ℤ) → pos 0 <ℤ m → pos 0 <ℤ k → n *ℤ k ≡ m *ℤ c → ((x *ℤ k) <ℤ c) ↔ ((m *ℤ x) <ℤ n)
rising_at x k c n m some up lies =
    let times : ((x *ℤ k) <ℤ c) ↔ ((m *ℤ (x *ℤ k)) <ℤ (m *ℤ c)) = times_m (x *ℤ k) c m some in
    let same = rw (grouped m x k, sym lies) at times in
    through same (turn_round (scaled (m *ℤ x) n k up))

falling_at : (x k c n m : ℤ) → pos 0 <ℤ m → k <ℤ pos 0 → n *ℤ k ≡ m *ℤ c → (c <ℤ (x *ℤ k)) ↔ ((m *ℤ x) <ℤ n)
falling_at x k c n m some down lies =
    let times : (c <ℤ (x *ℤ k)) ↔ ((m *ℤ c) <ℤ (m *ℤ (x *ℤ k))) = times_m c (x *ℤ k) m some in
    let same = rw (grouped m x k, sym lies) at times in
    through same (turn_round (scaled_back (m *ℤ x) n k down))

natural_above : (m : ℕ) → 0 < m → pos 0 <ℤ pos m
natural_above m h = omega (arith, ints)

leads_up : (s : Spot) (e : Edge) → IsRising s e → pos 0 <ℤ rise e
leads_up s e h = omega (arith, ints)

leads_down : (s : Spot) (e : Edge) → IsFalling s e → rise e <ℤ pos 0
leads_down s e h = omega (arith, ints)

pub right : (s : Spot) (e : Edge) (n : ℤ) (m : ℕ) → IsCrossing s e n m → IsRising s e ⊎ IsFalling s e
    → IsTrue (crosses_ray s e) ↔ (pos m *ℤ s.x) <ℤ n
right s e n m at (inl up) = search (rules, through, rising, rising_at, natural_above, leads_up)
right s e n m at (inr down) = search (rules, through, falling, falling_at, natural_above, leads_down)
