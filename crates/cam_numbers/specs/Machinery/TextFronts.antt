-- What the loops at the front of a text have found.
use Rattle.std.specs.Prelude.{◌≡◌, ℕ, ◌||◌, ◌<◌, ◌≤◌, List, length, take, true}
use Rattle.std.specs.List.{prefix_len}
use Rattle.cam_numbers.specs.declared.blanks.Blanks.TheVariants.{Skipped}
use Rattle.cam_numbers.specs.declared.leading.Leading.{Leading}
use Rattle.cam_numbers.specs.declared.whole.Digits.{Digits}
use Rattle.cam_numbers.specs.Blanks.{is_blank_byte, without_blanks}
use Rattle.cam_numbers.specs.Numbers.{are_digits, integer, is_numeric, value_of}

-- 1 to 15 digits, behind which no number goes on
pub record IsDigitsFront (text : List ℕ) (digits : Digits) : Type 0 where
  pub some : 0 < digits.count
  pub few : digits.count ≤ 15
  pub within : digits.count < length text
  pub each : are_digits (take digits.count text) ≡ true
  pub value : digits.value ≡ value_of (take digits.count text)
  pub len : digits.count ≡ prefix_len (λ byte. is_numeric byte || is_blank_byte byte) text

-- a coordinate, and how many bytes its run has
pub record IsIntegerFront (text : List ℕ) (found : Leading) : Type 0 where
  pub len : found.len ≡ prefix_len (λ byte. is_numeric byte || is_blank_byte byte) text
  pub within : found.len ≤ length text
  pub value : found.value ≡ integer (without_blanks Skipped (take found.len text))
