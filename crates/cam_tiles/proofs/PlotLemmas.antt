-- Two files that show one image are one file.
use Rattle.std.proofs.Common.{◌≡◌, ℕ, ◌+◌, ◌*◌, ◌-◌, ◌/◌, ◌%◌, ◌<◌, Bool, List, length, get_or, sym, ap, ◌∙◌, inl, inr, arith}
use Rattle.std.specs.Int.{bit_at}
use Rattle.std.proofs.Math.Nat.{mod-lt, div-lt_iff_lt-mul}
use Rattle.std.proofs.lemmas.Bool.{cases_lt}
use Rattle.std.proofs.lemmas.Grind.{same_number_lists}
use Rattle.std.proofs.lemmas.List.{get_or-take}
use Rattle.std.proofs.lemmas.Nat.{div-add-mod'}
use Rattle.std.proofs.lemmas.Nat.Bits.{bit_at-lt, same_from_bits_below}
use Rattle.cam_tiles.specs.declared.window.Window.{Window}
use Rattle.cam_units.specs.declared.point.Spot.{Spot}
use Rattle.cam_tiles.specs.Pbm.{header, bytes_across, byte_at}
use Rattle.cam_tiles.specs.Picture.{Shows, OnePlotLaw, plot_of}
use Rattle.cam_tiles.proofs.PictureLemmas.{plot_law}
use Rattle.cam_tiles.proofs.WindowLemmas.{accepted}

same_bit : (a b : ℕ) → a < 2 → b < 2 → (a ≡ 1 → b ≡ 1) → (b ≡ 1 → a ≡ 1) → a ≡ b
same_bit a b p q to from = grind arith

module _ (w : Window) (image : Spot → Bool) (f g : List ℕ)
    (of_f : Shows f w image) (of_g : Shows g w image) (wide : 0 < w.width) where
  -- the first byte behind the header
  abbrev start : ℕ
  start = length (header w.width w.height)

  abbrev across : ℕ
  across = bytes_across w.width

  abbrev bit : List ℕ → ℕ → ℕ → ℕ
  bit file column row = bit_at (byte_at file w.width w.height column row) (7 - column % 8)

  same_pixel : (column row : ℕ) → column < 8 * across → row < w.height → bit f column row ≡ bit g column row
  same_pixel column row inside below = grind (arith, cases_lt, same_bit, bit_at-lt)

  -- the bytes of the rows
  same_byte : (row k : ℕ) → k < across → row < w.height → start + row * across + k < length f
      → get_or f (start + row * across + k) 0 ≡ get_or g (start + row * across + k) 0
  same_byte row k inside below within =
      same_from_bits_below 8 (get_or f (start + row * across + k) 0) (get_or g (start + row * across + k) 0)
      (of_f.values (start + row * across + k) 0 within)
      (of_g.values (start + row * across + k) 0 (omega (arith, of_f.size, of_g.size)))
      (λ i low.
      let place : (8 * k + (7 - i)) / 8 ≡ k = omega arith in
      let bit_place : 7 - (8 * k + (7 - i)) % 8 ≡ i = omega arith in
      sym (ap (λ n. bit_at (get_or f (start + row * across + k) 0) n) bit_place)
      ∙ sym (ap (λ n. bit_at (get_or f (start + row * across + n) 0) (7 - (8 * k + (7 - i)) % 8)) place)
      ∙ same_pixel (8 * k + (7 - i)) row (omega arith) below
      ∙ ap (λ n. bit_at (get_or g (start + row * across + n) 0) (7 - (8 * k + (7 - i)) % 8)) place
      ∙ ap (λ n. bit_at (get_or g (start + row * across + k) 0) n) bit_place)

  same_at : (k : ℕ) → k < length f → get_or f k 0 ≡ get_or g k 0
  same_at k within = elim (cases_lt k start) [
    | inl head ↦
        sym (get_or-take start f k 0 head) ∙ ap (λ b. get_or b k 0) (of_f.head ∙ sym of_g.head)
        ∙ get_or-take start g k 0 head
    | inr behind ↦
        (let some : 0 < across = omega arith in
        let row : ℕ = (k - start) / across in
        let column : ℕ = (k - start) % across in
        let parts : row * across + column ≡ k - start = div-add-mod' (k - start) across in
        let at : start + row * across + column ≡ k = omega arith in
        let inside : column < across = mod-lt (k - start) some in
        let below : row < w.height = (div-lt_iff_lt-mul some).1 (omega (arith, of_f.size)) in
        sym (ap (λ n. get_or f n 0) at) ∙ same_byte row column inside below (omega (arith, at))
        ∙ ap (λ n. get_or g n 0) at)
  ]

  same_file : f ≡ g
  same_file = same_number_lists f g (of_f.size ∙ sym of_g.size) same_at

pub one_plot_law : OnePlotLaw
one_plot_law w image file h shows =
    same_file w image file (plot_of w image) shows (plot_law w image h) (accepted w h).width.0
