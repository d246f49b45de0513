-- How many columns there are up to the last number that is not negative, where they fall.
use Rattle.std.proofs.lemmas.Grind.{common_steps}
use Rattle.std.proofs.Common.{◌≡◌, ℕ, suc, ◌+◌, ◌≤◌, ◌<◌, ◌↔◌, ℤ, pos, negsuc, ◌+ℤ◌, ◌-ℤ◌, ◌*ℤ◌, ◌≤ℤ◌, ◌<ℤ◌, ap, subst, sym, ◌∙◌, ◌⊎◌, inl, inr, max, min, arith}
use Rattle.std.proofs.lemmas.Bool.{cases_lt}
use Rattle.std.proofs.lemmas.Int.{by_lt_z, ints}
use Rattle.std.proofs.lemmas.Nat.{mul-le}
use Rattle.cam_units.proofs.Ring.{Atom, Difference, Product, Sum, equal}
use Rattle.cam_rows.specs.declared.half_plane.HalfPlane.{HalfPlane}
use Rattle.cam_rows.specs.declared.slope.Crossing.{Crossing}
use Rattle.cam_rows.specs.declared.slope.Steps.{Steps}
use Rattle.cam_rows.specs.Machinery.Narrowing.{IsUp}
use Rattle.cam_rows.specs.Machinery.Slopes.{AreSteps, IsCrossing, IsRest, IsRestAfter}
use Rattle.cam_rows.specs.Machinery.Slopes.{falling, lacking, lowered, number_on, whole}
use Rattle.cam_rows.proofs.SlopeParts.{next_whole}
use Rattle.cam_rows.proofs.Slopes.{lowered_more}

-- a number is negative where its quotient, rounded up, is not positive
some_whole : (a b : ℕ) (r : ℤ) → (pos 0 -ℤ pos b) ≤ℤ r → pos 0 ≤ℤ whole (pos (suc a)) (pos b) r
some_whole a b r h = omega (arith, ints, mul-le 1 b (suc a) b (omega arith) (omega arith))

none_whole : (a b : ℕ) (r : ℤ) → r <ℤ pos 0 → whole (negsuc a) (pos b) r <ℤ pos 0
none_whole a b r h = omega (arith, ints)

positive_quotient : (q d r : ℤ) → pos 1 ≤ℤ d → (pos 0 -ℤ d) ≤ℤ r → r <ℤ pos 0
    → (pos 0 <ℤ q) ↔ (pos 0 ≤ℤ whole q d r)
positive_quotient q d r h low high = grind (arith, common_steps, ints, some_whole, none_whole)

left_whole : (e d r : ℤ) (i : ℕ) → whole e d r +ℤ pos i *ℤ (pos 0 -ℤ d) ≡ whole (e -ℤ pos i) d r
left_whole e d r i =
    equal
    (Sum
    (Sum (Product (Atom e) (Atom d)) (Atom r))
    (Product (Atom (pos i)) (Difference (Atom (pos 0)) (Atom d))))
    (Sum (Product (Difference (Atom e) (Atom (pos i))) (Atom d)) (Atom r))
    (omega arith)

up_to_last : (e d r : ℤ) (i : ℕ) → pos 1 ≤ℤ d → (pos 0 -ℤ d) ≤ℤ r → r <ℤ pos 0
    → (pos i <ℤ e) ↔ (pos 0 ≤ℤ (whole e d r +ℤ pos i *ℤ (pos 0 -ℤ d)))
up_to_last e d r i h low high =
    let same = positive_quotient (e -ℤ pos i) d r h low high in
    rw (left_whole e d r i) (
      (λ near. same.0 (omega (arith, ints, near))),
      (λ up. let some = same.1 up in omega (arith, ints, some)),
    )

-- by a crossing
pub crossing_tells : (c : Crossing) (t : Steps) (bound i : ℕ) → AreSteps t → IsCrossing t bound c
    → (pos i <ℤ c.columns) ↔ (pos 0 ≤ℤ number_on (falling c t) i)
crossing_tells c t bound i steps here = grind (arith, up_to_last)

-- ---- a crossing that lies in one column in some rows

-- so many steps lead no further than more of them do
steps_within : (step : ℤ) (k last : ℕ) → k ≤ last
    → ((pos 0 ≤ℤ (pos k *ℤ step)) × ((pos k *ℤ step) ≤ℤ (pos last *ℤ step)))
    ⊎ (((pos last *ℤ step) ≤ℤ (pos k *ℤ step)) × ((pos k *ℤ step) ≤ℤ pos 0))
steps_within (pos n) k last within =
    inl (omega (arith, ints), omega (arith, ints, mul-le k n last n within (omega arith)))
steps_within (negsuc n) k last within =
    inr (omega (arith, ints, mul-le k (suc n) last (suc n) within (omega arith)), omega (arith, ints))

lower_whole : (e d r change : ℤ) (k : ℕ) → whole e d (r +ℤ pos k *ℤ change) ≡ whole e d r +ℤ pos k *ℤ change
lower_whole e d r change k =
    equal
    (Sum (Product (Atom e) (Atom d)) (Sum (Atom r) (Product (Atom (pos k)) (Atom change))))
    (Sum (Sum (Product (Atom e) (Atom d)) (Atom r)) (Product (Atom (pos k)) (Atom change)))
    (omega arith)

rest_between : (r d change : ℤ) (k last : ℕ) → k ≤ last → (pos 0 -ℤ d) ≤ℤ r → r <ℤ pos 0
    → (pos 0 -ℤ d) ≤ℤ (r +ℤ pos last *ℤ change) → (r +ℤ pos last *ℤ change) <ℤ pos 0
    → ((pos 0 -ℤ d) ≤ℤ (r +ℤ pos k *ℤ change)) × ((r +ℤ pos k *ℤ change) <ℤ pos 0)
rest_between r d change k last within low high last_low last_high = grind (arith, steps_within, ints)

pub stays_tells : (c : Crossing) (t : Steps) (bound k last i : ℕ) → AreSteps t → IsCrossing t bound c → k ≤ last
    → IsRestAfter last c t → (pos i <ℤ c.columns) ↔ IsUp (falling c t) k i
stays_tells c t bound k last i steps here within stays =
    let change = whole t.columns t.divisor t.rest in
    let rest = rest_between c.rest t.divisor change k last within here.low here.high stays.0 stays.1 in
    subst (λ (z : ℤ). (pos i <ℤ c.columns) ↔ (pos 0 ≤ℤ (z +ℤ pos i *ℤ (pos 0 -ℤ t.divisor))))
    (lower_whole c.columns t.divisor c.rest change k)
    (up_to_last c.columns t.divisor (c.rest +ℤ pos k *ℤ change) i steps.divisor.0 rest.0 rest.1)

-- so many of the columns in each of these rows
pub stays_counted : (c : Crossing) (t : Steps) (bound k last columns count i : ℕ) → AreSteps t → IsCrossing t bound c → k ≤ last
    → IsRestAfter last c t → (i < count) ↔ ((i < columns) × (pos i <ℤ c.columns))
    → (i < count) ↔ ((i < columns) × IsUp (falling c t) k i)
stays_counted c t bound k last columns count i steps here within stays told =
    let same = stays_tells c t bound k last i steps here within stays in (
      (λ on. let both = told.0 on in (both.0, same.0 both.1)),
      (λ both. told.1 (both.0, same.1 both.1)),
    )

-- ends that are cut to one number of columns
pub end_cut_to : (end new columns most i : ℕ) (Early IsHeld : Type 0) → new ≡ min end columns → end ≤ most
    → (i < columns) ↔ ((i < most) × Early) → Early ↔ IsHeld → (i < new) ↔ ((i < end) × IsHeld)
end_cut_to end new columns most i Early IsHeld is all before same = grind arith

-- by a quotient that is rounded down
pub quotient_tells : (q d r n : ℤ) (i : ℕ) → pos 1 ≤ℤ d → IsRest r d → whole q d r ≡ n
    → (pos i ≤ℤ q) ↔ (pos 0 ≤ℤ (n +ℤ pos i *ℤ (pos 0 -ℤ d)))
quotient_tells q d r n i h rest e =
    let same = up_to_last (q +ℤ pos 1) d (r -ℤ d) i h (omega (arith, ints, rest.0)) (omega (arith, ints, rest.1)) in
    let told = rw (next_whole q r d, e) at same in (
      (λ near. told.0 (omega (arith, ints, near))),
      (λ up. let some = told.1 up in omega (arith, ints, some)),
    )

-- what numbers lack is not negative where they are
lacking_number : (f t : ℤ) (i : ℕ) → (negsuc 0 -ℤ f) +ℤ pos i *ℤ (pos 0 -ℤ t) ≡ negsuc 0 -ℤ (f +ℤ pos i *ℤ t)
lacking_number f t i =
    equal
    (Sum
    (Difference (Atom (negsuc 0)) (Atom f))
    (Product (Atom (pos i)) (Difference (Atom (pos 0)) (Atom t))))
    (Difference (Atom (negsuc 0)) (Sum (Atom f) (Product (Atom (pos i)) (Atom t))))
    (omega arith)

negative_lacks : (z : ℤ) → (pos 0 ≤ℤ z) ↔ (pos 0 ≤ℤ (negsuc 0 -ℤ z) → ⊥)
negative_lacks z = grind (arith, ints, by_lt_z)

pub lacking_in_row : (f t : ℤ) (i : ℕ)
    → (pos 0 ≤ℤ (f +ℤ pos i *ℤ t)) ↔ (pos 0 ≤ℤ ((negsuc 0 -ℤ f) +ℤ pos i *ℤ (pos 0 -ℤ t)) → ⊥)
lacking_in_row f t i = rw (lacking_number f t i) (negative_lacks (f +ℤ pos i *ℤ t))

pub lacking_sloped : (s : HalfPlane) (k i : ℕ)
    → number_on (lowered k (lacking s)) i ≡ negsuc 0 -ℤ number_on (lowered k s) i
lacking_sloped s k i = rw (lacking_number s.first s.down k) (lacking_number (lowered k s).first s.step i)

pub lacking_tells : (s : HalfPlane) (k i : ℕ) → IsUp s k i ↔ (IsUp (lacking s) k i → ⊥)
lacking_tells s k i = rw (lacking_sloped s k i) (negative_lacks (number_on (lowered k s) i))

-- one row lower
left_step : (n m : ℤ) → n +ℤ m ≡ n +ℤ pos 1 *ℤ m
left_step n m = equal (Sum (Atom n) (Atom m)) (Sum (Atom n) (Product (Atom (pos 1)) (Atom m))) (omega arith)

pub falling_below : (top c next : Crossing) (t : Steps) (k : ℕ) → falling c t ≡ lowered k (falling top t)
    → whole next.columns t.divisor next.rest ≡ whole c.columns t.divisor c.rest +ℤ whole t.columns t.divisor t.rest
    → falling next t ≡ lowered (k + 1) (falling top t)
falling_below top c next t k e more =
    let down = whole t.columns t.divisor t.rest in
    ap (λ (z : ℤ). record { first = z; step = pos 0 -ℤ t.divisor; down = down })
    (more ∙ left_step (whole c.columns t.divisor c.rest) down)
    ∙ ap (lowered 1) e ∙ lowered_more k (falling top t)

pub nearer : (t : Steps) (c : Crossing) (bound more : ℕ) → bound ≤ more → IsCrossing t bound c → IsCrossing t more c
nearer t c bound more most here = record { low = here.low; high = here.high; near = omega (arith, here.near, most) }

-- columns of a row that are cut
module _ (top c : Crossing) (t : Steps) (k bound : ℕ) (steps : AreSteps t) (here : IsCrossing t bound c)
    (e : falling c t ≡ lowered k (falling top t)) where
  told : (i : ℕ) → (pos i <ℤ c.columns) ↔ IsUp (falling top t) k i
  told i =
      subst (λ (z : HalfPlane). (pos i <ℤ c.columns) ↔ (pos 0 ≤ℤ number_on z i)) e
      (crossing_tells c t bound i steps here)

  pub end_cut : (end new : ℕ) → ((i : ℕ) → (i < new) ↔ ((i < end) × (pos i <ℤ c.columns)))
      → (i : ℕ) → (i < new) ↔ ((i < end) × IsUp (falling top t) k i)
  end_cut end new before i =
      let here = before i in (
        (λ on. let both = here.0 on in (both.0, (told i).0 both.1)),
        (λ both. here.1 (both.0, (told i).1 both.1)),
      )

  pub first_cut : (columns first before new : ℕ)
      → ((i : ℕ) → (i < before) ↔ ((i < columns) × (pos i <ℤ c.columns))) → new ≡ max first before
      → (i : ℕ) → i < columns → (new ≤ i) ↔ ((first ≤ i) × (IsUp (falling top t) k i → ⊥))
  first_cut columns first before new cut is i small =
      let here = cut i in (
        (λ on. (omega (arith, is, on), λ up. absurd (omega (arith, is, on, here.1 (small, (told i).1 up))))),
        (λ both. elim (cases_lt i before) [
          | inl early ↦ absurd (both.1 ((told i).0 (here.0 early).1))
          | inr late ↦ omega (arith, is, both.0, late)
        ]),
      )

-- by equal numbers, and by those that lack
pub up_alike : (s z : HalfPlane) (k i : ℕ) → s ≡ z → IsUp z k i ↔ IsUp s k i
up_alike s z k i e = subst (λ (y : HalfPlane). IsUp y k i ↔ IsUp s k i) e ((λ up. up), (λ up. up))

pub lacking_alike : (s z : HalfPlane) (k i : ℕ) → z ≡ lacking s → IsUp s k i ↔ (IsUp z k i → ⊥)
lacking_alike s z k i e = subst (λ (y : HalfPlane). IsUp s k i ↔ (IsUp y k i → ⊥)) (sym e) (lacking_tells s k i)
