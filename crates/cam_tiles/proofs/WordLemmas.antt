-- Words: numbers whose bits a test says.
use Rattle.std.proofs.Common.{◌≡◌, ℕ, zero, suc, ◌+◌, ◌-◌, ◌*◌, ◌^◌, ◌<◌, Bool, cond, if◌then◌else◌}
use Rattle.std.proofs.Common.{refl, ap, ◌∙◌, inl, inr, nat_eq, arith}
use Rattle.std.specs.Int.{bit_at}
use Rattle.std.proofs.Math.Nat.{pow-suc}
use Rattle.std.proofs.lemmas.Bool.{cases_lt}
use Rattle.std.proofs.lemmas.Nat.{pow_pos}
use Rattle.std.proofs.lemmas.Nat.Bits.{bit_at_cat_low, bit_at_cat_high}
use Rattle.cam_tiles.specs.Pbm.{bit_of}
use Rattle.cam_tiles.specs.Tiles.{word}

last_bit : (b : Bool) (low power next : ℕ) → low < power → next ≡ 2 * power
    → low + (if b then power else 0) < next
last_bit b low power next h e = grind arith

pub word-lt : (bit : ℕ → Bool) (n : ℕ) → word bit n < 2 ^ n
unfolding word
word-lt bit zero = pow_pos 0
word-lt bit (suc n) = last_bit (bit n) (word bit n) (2 ^ n) (2 ^ suc n) (word-lt bit n) (omega (arith, pow-suc 2 n))

-- ---- bit by bit

-- the bit that a word gains stands above the others
on_top : (b : Bool) (low power : ℕ) → low + cond b power 0 ≡ bit_of b * power + low
on_top b low power = grind arith

lone_bit : (b : Bool) → bit_at (bit_of b) 0 ≡ bit_of b
lone_bit b = grind arith

pub bit_at-word : (bit : ℕ → Bool) (n i : ℕ) → i < n → bit_at (word bit n) i ≡ bit_of (bit i)
unfolding word
bit_at-word bit zero i h = absurd (omega arith)
bit_at-word bit (suc n) i h =
    ap (λ m. bit_at m i) (on_top (bit n) (word bit n) (2 ^ n)) ∙ elim (cases_lt i n) [
      | inl low ↦ bit_at_cat_low (bit_of (bit n)) n (word bit n) i low ∙ bit_at-word bit n i low
      | inr high ↦
          (let last : n ≡ i = omega arith in
          let lowest : i - n ≡ 0 = omega arith in
          bit_at_cat_high (bit_of (bit n)) n (word bit n) i (word-lt bit n) high
          ∙ ap (bit_at (bit_of (bit n))) lowest ∙ lone_bit (bit n) ∙ ap (λ k. bit_of (bit k)) last)
    ]

is_one : (b : Bool) → nat_eq (bit_of b) 1 ≡ b
is_one b = grind arith

-- the test of a word's bit
pub word_bit : (bit : ℕ → Bool) (n i : ℕ) → i < n → nat_eq (bit_at (word bit n) i) 1 ≡ bit i
word_bit bit n i h = ap (λ m. nat_eq m 1) (bit_at-word bit n i h) ∙ is_one (bit i)

pub same_word : (bit other : ℕ → Bool) (n : ℕ) → ((i : ℕ) → i < n → bit i ≡ other i) → word bit n ≡ word other n
unfolding word
same_word bit other zero same = refl
same_word bit other (suc n) same = grind (arith, same_word bit other n (λ i low. same i (omega arith)))
