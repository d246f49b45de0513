use Rattle.std.proofs.Common.{rules, ◌≡◌, ℕ, ◌*◌, ◌-◌, ◌<◌, ◌≤◌, ℤ, pos, ◌+ℤ◌, ◌*ℤ◌, FitsSigned, to_z, of_z, w64, arith}
use Rattle.std.specs.Int.RustNames.{unsigned_abs}
use Rattle.std.proofs.lemmas.Int.{ints}
use Rattle.std.proofs.lemmas.Nat.{mul-le}
use Rattle.known_answers.proofs.rows.row.Goals as goal

-- a number as 64 bits hold it
abbrev narrow : ℤ → ℤ
narrow z = to_z w64 (of_z w64 z)

-- the way from the first centre of a row to the last one, as 64 bits compute it
length_is : (step from : ℤ) (n k : ℕ) → step ≡ pos k → from ≡ pos n → n ≤ 63 → k ≤ 8000000000
    → narrow (narrow from *ℤ narrow step) ≡ pos (n * k)
length_is step from n k is_step is_from few short =
    let product : n * k ≤ 63 * 8000000000 = mul-le n k 63 8000000000 few short in
    let one : narrow (pos n) ≡ pos n = omega (arith, ints) in
    let other : narrow (pos k) ≡ pos k = omega (arith, ints) in
    rw (is_step, is_from, one, other) (omega (arith, ints, product))

-- the last one
last_fits : (x step from : ℤ) (n k : ℕ) → step ≡ pos k → from ≡ pos n → n ≤ 63 → k ≤ 8000000000
    → unsigned_abs x < 4000000000 → FitsSigned w64 (narrow x +ℤ narrow (narrow from *ℤ narrow step))
last_fits x step from n k is_step is_from few short near =
    let product : n * k ≤ 63 * 8000000000 = mul-le n k 63 8000000000 few short in
    rw (length_is step from n k is_step is_from few short) (omega (arith, ints))

pub overflow_add-x : goal.overflow_add-x
overflow_add-x c =
    let row = c.args.centres in
    let near : unsigned_abs row.x < 4000000000 = search rules in
    last_fits row.x row.step c.from.result (row.n - 1) (unsigned_abs row.step)
    (omega (arith, ints, c.if-step-lt1.false)) c.from.ensures (omega (arith, c.if-n-gt64.false))
    (omega (arith, ints, c.if-step-gt8000000000.false)) near

last_near : (x step from last : ℤ) (n k : ℕ) → step ≡ pos k → from ≡ pos n → n ≤ 63 → k ≤ 8000000000
    → unsigned_abs x < 4000000000 → last ≡ narrow (narrow x +ℤ narrow (narrow from *ℤ narrow step))
    → unsigned_abs last < 4000000000 → unsigned_abs (x +ℤ pos (n * k)) < 4000000000
last_near x step from last n k is_step is_from few short near is_last far =
    let product : n * k ≤ 63 * 8000000000 = mul-le n k 63 8000000000 few short in
    let length = length_is step from n k is_step is_from few short in
    let sum : last ≡ narrow (narrow x +ℤ pos (n * k)) = rw length at is_last in
    omega (arith, ints, product, sum)

-- a centre lies between the first one and the last one
between : (x step : ℤ) (i n k : ℕ) → step ≡ pos k → i ≤ n → unsigned_abs x < 4000000000
    → unsigned_abs (x +ℤ pos (n * k)) < 4000000000 → unsigned_abs (x +ℤ pos i *ℤ step) < 4000000000
between x step i n k is_step early first last =
    let before : i * k ≤ n * k = mul-le i k n k early (omega arith) in
    rw is_step (omega (arith, ints, before))

pub returns : goal.returns
returns c =
    let row = c.args.centres in
    let near : unsigned_abs row.x < 4000000000 = search rules in
    let level : unsigned_abs row.y < 4000000000 = search rules in
    let is_step : row.step ≡ pos (unsigned_abs row.step) = omega (arith, ints, c.if-step-lt1.false) in
    let last = last_near row.x row.step c.from.result c.in_ok-reach-2.field-0.x (row.n - 1)
    (unsigned_abs row.step) is_step c.from.ensures (omega (arith, c.if-n-gt64.false))
    (omega (arith, ints, c.if-step-gt8000000000.false)) near c.in_ok-reach-2.ensures.same.0
    c.in_ok-reach-2.ensures.reach.x in
    record {
      count = omega (arith, c.if-n-lt1.false, c.if-n-gt64.false);
      step = omega (arith, ints, c.if-step-lt1.false);
      centres = λ i early. record {
        x = between row.x row.step i (row.n - 1) (unsigned_abs row.step) is_step (omega (arith, early)) near last;
        y = level;
      };
    }
