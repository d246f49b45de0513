-- The bytes of a row whose bits are turned over in each byte: runs of four bits are exchanged, of two, and single ones.
use Rattle.std.proofs.Common.{rules, ◌≡◌, ℕ, zero, suc, ◌+◌, ◌*◌, ◌-◌, ◌/◌, ◌%◌, ◌^◌, ◌<◌, ◌≤◌, ◌↔◌, ◌⊎◌, Bool, true, ◌&&◌, List}
use Rattle.std.proofs.Common.{slice_index, nat_eq, refl, ap, sym, inl, inr, ◌∙◌, arith, bit_and, bit_or, subst}
use Rattle.std.specs.Int.{IsBitSet, bit_at, byte_at, bytes_low_first, to_le_bytes, w64}
use Rattle.std.proofs.lemmas.Bool.{and_parts, cases_lt, eqb-true}
use Rattle.std.proofs.lemmas.Nat.{pow-add, shr-shr}
use Rattle.std.proofs.Math.Nat.{add-div_right, div-eq_of_lt, pow-suc}
use Rattle.cam_rows.proofs.SetBits.{low_bits, set_in_and, set_in_or, set_in_shl, set_in_shr, set_is_one}

-- ---- bits that are exchanged with those so many places above them

-- bit i of a row is then that of its place in the other one of two runs
abbrev pub IsExchanged : (row lower places result i : ℕ) → Type 0
IsExchanged row lower places result i =
    IsBitSet result i
    ↔ ((IsBitSet lower i × IsBitSet row (i + places))
    ⊎ ((places ≤ i) × IsBitSet lower (i - places) × IsBitSet row (i - places)))

pub exchanged_bit : (row lower places i : ℕ) → i < 64
    → IsExchanged row lower places
    (bit_or (bit_and (row / 2 ^ places) lower) (bit_and row lower * 2 ^ places % 2 ^ 64)) i
exchanged_bit row lower places i within = search (rules, set_in_and, set_in_shr, set_in_shl, set_in_or)

-- ---- runs of bits that are exchanged, in a byte after all

-- a test that holds of each number below another
abbrev holds_below : (ℕ → Bool) → ℕ → Bool
holds_below test zero = true
holds_below test (suc n) = test n && holds_below test n

holds_at : (test : ℕ → Bool) (n i : ℕ) → holds_below test n ≡ true → i < n → test i ≡ true
holds_at test zero i all within = absurd (omega arith)
holds_at test (suc n) i all within =
    let parts = and_parts (test n) (holds_below test n) all in
    elim (cases_lt i n) [
      | inl below ↦ holds_at test n i parts.1 below
      | inr last ↦ ap test (omega arith) ∙ parts.0
    ]

-- the place in the other one of two runs of so many bits
abbrev other : ℕ → ℕ → ℕ
other run i = i + run - 2 * run * (i / run % 2)

-- the lower runs of a row, tested at each bit
abbrev has_lower_runs : ℕ → ℕ → ℕ → Bool
has_lower_runs lower run i = nat_eq (bit_at lower i) (1 - i / run % 2)

in_lower_run : (lower run i : ℕ) → holds_below (has_lower_runs lower run) 64 ≡ true → i < 64
    → IsBitSet lower i ↔ (i / run % 2 ≡ 0)
in_lower_run lower run i tested within =
    let same : bit_at lower i ≡ 1 - i / run % 2 =
    eqb-true (bit_at lower i) (1 - i / run % 2) (holds_at (has_lower_runs lower run) 64 i tested within) in
    let set = set_is_one lower i in
    ((λ h. omega (arith, set.0 h)), (λ h. set.1 (omega arith)))

parity : (n : ℕ) → (n % 2 ≡ 0) ⊎ (n % 2 ≡ 1)
parity n = elim (cases_lt (n % 2) 1) [ inl low ↦ inl (omega arith) | inr high ↦ inr (omega arith) ]

-- a run further down
run_before : (i run : ℕ) → 0 < run → run ≤ i → i / run ≡ (i - run) / run + 1
run_before i run some past = grind (arith, add-div_right)

from_other : (row lower run result i : ℕ) → 0 < run → holds_below (has_lower_runs lower run) 64 ≡ true → i < 64
    → IsExchanged row lower run result i → IsBitSet result i ↔ IsBitSet row (other run i)
from_other row lower run result i some tested within exchanged =
    let here = in_lower_run lower run i tested within in
    let before = in_lower_run lower run (i - run) tested (omega arith) in
    elim (parity (i / run)) [
      | inl in_lower ↦
          (let place : i + run ≡ other run i = omega (arith, ap (λ n. i + run - 2 * run * n) in_lower) in
          rw (← place) (
            (λ h. elim (exchanged.0 h) [
              | inl above ↦ above.1
              | inr below ↦ absurd (omega (arith, in_lower, before.0 below.1, run_before i run some below.0))
            ]),
            (λ h. exchanged.1 (inl (here.1 in_lower, h))),
          ))
      | inr in_upper ↦
          (let past : run ≤ i = elim (cases_lt i run) [
            | inl short ↦ absurd (omega (arith, in_upper, div-eq_of_lt short))
            | inr past ↦ past
          ] in
          let place : i - run ≡ other run i = omega (arith, ap (λ n. i + run - 2 * run * n) in_upper) in
          let lower_before : (i - run) / run % 2 ≡ 0 = omega (arith, in_upper, run_before i run some past) in
          rw (← place) (
            (λ h. elim (exchanged.0 h) [
              | inl above ↦ absurd (omega (arith, here.0 above.0))
              | inr below ↦ below.2
            ]),
            (λ h. exchanged.1 (inr (past, before.1 lower_before, h))),
          ))
    ]

-- ---- the bytes of a number

bytes_as_bits : (place : ℕ) → 2 ^ (8 * place) ≡ 256 ^ place
bytes_as_bits zero = refl
bytes_as_bits (suc place) =
    ap (λ bits. 2 ^ bits) (omega arith) ∙ pow-add 2 (8 * place) 8 ∙ ap (λ m. m * 256) (bytes_as_bits place)
    ∙ sym (pow-suc 256 place)

-- a byte by its place above the lowest one
byte_of_place : (n place : ℕ) → byte_at place n ≡ n / 2 ^ (8 * place) % 2 ^ 8
byte_of_place n place = grind (arith, bytes_as_bits)

byte_from_lowest : (first count n j : ℕ) → j < count
    → slice_index (bytes_low_first first count n) j ≡ byte_at (first + j) n
byte_from_lowest first zero n j within = absurd (omega arith)
byte_from_lowest first (suc count) n zero within = ap (λ place. byte_at place n) (omega arith)
byte_from_lowest first (suc count) n (suc j) within =
    byte_from_lowest (suc first) count n j (omega arith) ∙ ap (λ place. byte_at place n) (omega arith)

bit_of_byte : (n place bit : ℕ) → place < 8 → bit < 8
    → bit_at (slice_index (to_le_bytes w64 n) place) bit ≡ bit_at n (8 * place + bit)
bit_of_byte n place bit within low =
    ap (λ m. bit_at m bit)
    (byte_from_lowest 0 8 n place within ∙ ap (λ at. byte_at at n) (omega arith) ∙ byte_of_place n place)
    ∙ low_bits (n / 2 ^ (8 * place)) 8 bit low
    ∙ ap (λ m. m % 2) (shr-shr n (8 * place) bit)

-- ---- the bytes of a row

-- where a bit goes as runs of four are exchanged, of two, and single bits
turned_back : (i : ℕ) → i < 64 → other 4 (other 2 (other 1 (8 * (i / 8) + (7 - i % 8)))) ≡ i
turned_back i within = grind (arith, eqb-true, holds_at)

pub bits_of_bytes : (row fours twos ones i : ℕ) (bytes : List ℕ)
    → ((k : ℕ) → k < 64 → IsExchanged row 0x0f0f_0f0f_0f0f_0f0f 4 fours k)
    → ((k : ℕ) → k < 64 → IsExchanged fours 0x3333_3333_3333_3333 2 twos k)
    → ((k : ℕ) → k < 64 → IsExchanged twos 0x5555_5555_5555_5555 1 ones k)
    → bytes ≡ to_le_bytes w64 ones → i < 64 → IsBitSet (slice_index bytes (i / 8)) (7 - i % 8) ↔ IsBitSet row i
bits_of_bytes row fours twos ones i bytes by_four by_two by_one are within =
    let at : ℕ = 8 * (i / 8) + (7 - i % 8) in
    let of_bytes : bit_at (slice_index bytes (i / 8)) (7 - i % 8) ≡ bit_at ones at =
    rw are (bit_of_byte ones (i / 8) (7 - i % 8) (omega arith) (omega arith)) in
    let in_ones : at < 64 = omega arith in
    let in_twos : other 1 at < 64 = omega arith in
    let in_fours : other 2 (other 1 at) < 64 = omega arith in
    let one = from_other twos 0x5555_5555_5555_5555 1 ones at (omega arith) refl in_ones (by_one at in_ones) in
    let two = from_other fours 0x3333_3333_3333_3333 2 twos (other 1 at) (omega arith) refl in_twos
    (by_two (other 1 at) in_twos) in
    let four = from_other row 0x0f0f_0f0f_0f0f_0f0f 4 fours (other 2 (other 1 at)) (omega arith) refl in_fours
    (by_four (other 2 (other 1 at)) in_fours) in
    let byte = set_is_one (slice_index bytes (i / 8)) (7 - i % 8) in
    let last = set_is_one ones at in
    let end = turned_back i within in (
      (λ h. subst (λ k. IsBitSet row k) end (four.0 (two.0 (one.0 (last.1 (sym of_bytes ∙ byte.0 h)))))),
      (λ h. byte.1 (of_bytes ∙ last.0 (one.1 (two.1 (four.1 (subst (λ k. IsBitSet row k) (sym end) h)))))),
    )
