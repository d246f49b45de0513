-- PBM files: the bits of a byte, the bytes of a row, the rows of a file.
use Rattle.std.proofs.Common.{rules, ◌≡◌, ℕ, zero, suc, ◌+◌, ◌*◌, ◌-◌, ◌/◌, ◌%◌, ◌^◌, ◌<◌, ◌≤◌, Bool, true, List, [], ◌∷◌, ◌++◌}
use Rattle.std.proofs.Common.{length, get_or, set, take, map, All, refl, sym, ap, ◌∙◌, length-append, length-take-le, add-one}
use Rattle.std.proofs.Common.{inl, inr, arith}
use Rattle.std.specs.Fmt.{decimal}
use Rattle.std.specs.Int.{bit_at}
use Rattle.std.specs.List.{range_with_len, flat_map}
use Rattle.std.proofs.Math.Seq.{take-append_seam}
use Rattle.std.proofs.lemmas.Bool.{cases_lt, lt-ltb, le-ltb}
use Rattle.std.proofs.lemmas.Fmt.{IsAscii-decimal}
use Rattle.std.proofs.lemmas.List.{get_or-take, get_or_append_left, get_or-append-add, get_or-set_other, flat_map_more}
use Rattle.std.proofs.lemmas.Grind.{get_or-set_at}
use Rattle.std.proofs.lemmas.List.Elements.{All-append, All-cons, All-nil, All-from_get_or}
use Rattle.std.proofs.lemmas.List.FromFn.{length-map-range_with_len, get_or-map-range_with_len}
use Rattle.cam_tiles.specs.Pbm.{header, bit_of, byte_of, bytes_across, padded, row_of, pbm, byte_at, IsPixelSet}

pub bit_of-lt : (b : Bool) → bit_of b < 2
bit_of-lt b = grind arith

abbrev weighed : (ℕ → ℕ) → ℕ
weighed b = 128 * b 0 + 64 * b 1 + 32 * b 2 + 16 * b 3 + 8 * b 4 + 4 * b 5 + 2 * b 6 + b 7

abbrev AreBits : (ℕ → ℕ) → Type 0
AreBits b = (b 0 < 2) × (b 1 < 2) × (b 2 < 2) × (b 3 < 2) × (b 4 < 2) × (b 5 < 2) × (b 6 < 2) × (b 7 < 2)

all_bits : (b : ℕ → ℕ) → ((i : ℕ) → b i < 2) → AreBits b
all_bits b h = (h 0, h 1, h 2, h 3, h 4, h 5, h 6, h 7)

-- each is the bit of the sum at its place
bit_of_weighed : (b : ℕ → ℕ) → ((i : ℕ) → b i < 2) → (i : ℕ) → i < 8 → weighed b / 2 ^ (7 - i) % 2 ≡ b i
bit_of_weighed b h zero within = let p = all_bits b h in omega arith
bit_of_weighed b h (suc zero) within = let p = all_bits b h in omega arith
bit_of_weighed b h (suc (suc zero)) within = let p = all_bits b h in omega arith
bit_of_weighed b h (suc (suc (suc zero))) within = let p = all_bits b h in omega arith
bit_of_weighed b h (suc (suc (suc (suc zero)))) within = let p = all_bits b h in omega arith
bit_of_weighed b h (suc (suc (suc (suc (suc zero))))) within = let p = all_bits b h in omega arith
bit_of_weighed b h (suc (suc (suc (suc (suc (suc zero)))))) within = let p = all_bits b h in omega arith
bit_of_weighed b h (suc (suc (suc (suc (suc (suc (suc zero))))))) within = let p = all_bits b h in omega arith
bit_of_weighed b h (suc (suc (suc (suc (suc (suc (suc (suc i)))))))) within = absurd (omega arith)

-- the bits of a byte, from the highest down, are its pixels from the left
pub bit_at-byte_of : (black : ℕ → Bool) (i : ℕ) → i < 8 → bit_at (byte_of black) (7 - i) ≡ bit_of (black i)
unfolding byte_of
bit_at-byte_of black = bit_of_weighed (λ i. bit_of (black i)) (λ i. bit_of-lt (black i))

pub byte_of-lt : (black : ℕ → Bool) → byte_of black < 256
unfolding byte_of
byte_of-lt black = let p = all_bits (λ i. bit_of (black i)) (λ i. bit_of-lt (black i)) in omega arith

-- a byte of a row
abbrev pub byte_in : (ℕ → Bool) → ℕ → ℕ → ℕ
byte_in black width k = byte_of (λ i. padded black width (8 * k + i))

length-row_of : (black : ℕ → Bool) (width : ℕ) → length (row_of black width) ≡ bytes_across width
unfolding row_of
length-row_of black width = length-map-range_with_len (byte_in black width) 0 (bytes_across width)

get_or-row_of : (black : ℕ → Bool) (width k : ℕ) → k < bytes_across width
    → get_or (row_of black width) k 0 ≡ byte_in black width k
unfolding row_of
get_or-row_of black width k h = grind (arith, get_or-map-range_with_len)

-- pieces of one length, one after another
length-pieces : (f : ℕ → List ℕ) (m : ℕ) → ((k : ℕ) → length (f k) ≡ m) → (a n : ℕ)
    → length (flat_map f (range_with_len a n)) ≡ n * m
length-pieces f m h a zero = omega arith
length-pieces f m h a (suc n) =
    omega (arith, length-append (f a) (flat_map f (range_with_len (a + 1) n)), h a, length-pieces f m h (a + 1) n)

get_or-pieces : (f : ℕ → List ℕ) (m : ℕ) → ((k : ℕ) → length (f k) ≡ m) → (a n r j : ℕ) → r < n → j < m
    → get_or (flat_map f (range_with_len a n)) (r * m + j) 0 ≡ get_or (f (a + r)) j 0
get_or-pieces f m h a zero r j inside within = absurd (omega arith)
get_or-pieces f m h a (suc n) zero j inside within = grind (arith, get_or_append_left)
get_or-pieces f m h a (suc n) (suc r) j inside within =
    let at : suc r * m + j ≡ length (f a) + (r * m + j) = omega (arith, h a) in
    let piece : a + 1 + r ≡ a + suc r = omega arith in
    ap (λ i. get_or (f a ++ flat_map f (range_with_len (a + 1) n)) i 0) at
    ∙ get_or-append-add (f a) (flat_map f (range_with_len (a + 1) n)) (r * m + j) 0
    ∙ get_or-pieces f m h (a + 1) n r j (omega arith) within
    ∙ ap (λ i. get_or (f i) j 0) piece

-- the rows of a picture
abbrev pub row_in : (ℕ → ℕ → Bool) → ℕ → ℕ → List ℕ
row_in black width row = row_of (λ column. black column row) width

abbrev pub rows_of : (ℕ → ℕ → Bool) → ℕ → ℕ → List ℕ
rows_of black width height = flat_map (row_in black width) (range_with_len 0 height)

length-row_in : (black : ℕ → ℕ → Bool) (width row : ℕ) → length (row_in black width row) ≡ bytes_across width
length-row_in black width row = length-row_of (λ column. black column row) width

length-rows_of : (black : ℕ → ℕ → Bool) (width height : ℕ)
    → length (rows_of black width height) ≡ height * bytes_across width
length-rows_of black width height = grind (arith, length-pieces, length-row_in)

pub length-pbm : (black : ℕ → ℕ → Bool) (width height : ℕ)
    → length (pbm black width height) ≡ length (header width height) + height * bytes_across width
unfolding pbm
length-pbm black width height = grind (arith, length-append, length-rows_of)

pub take-pbm : (black : ℕ → ℕ → Bool) (width height : ℕ)
    → take (length (header width height)) (pbm black width height) ≡ header width height
unfolding pbm
take-pbm black width height = take-append_seam (header width height) (rows_of black width height)

-- the byte of a pixel
byte_at-pbm : (black : ℕ → ℕ → Bool) (width height column row : ℕ) → column / 8 < bytes_across width → row < height
    → byte_at (pbm black width height) width height column row
    ≡ byte_in (λ column. black column row) width (column / 8)
unfolding pbm
byte_at-pbm black width height column row inside below =
    let start = length (header width height) in
    let file = header width height ++ rows_of black width height in
    let grouped : start + row * bytes_across width + column / 8 ≡ start + (row * bytes_across width + column / 8)
    = omega arith in
    let this : 0 + row ≡ row = omega arith in
    ap (λ i. get_or file i 0) grouped
    ∙ get_or-append-add (header width height) (rows_of black width height) (row * bytes_across width + column / 8) 0
    ∙ get_or-pieces (row_in black width) (bytes_across width) (length-row_in black width) 0 height
    row (column / 8) below inside
    ∙ ap (λ r. get_or (row_in black width r) (column / 8) 0) this
    ∙ get_or-row_of (λ column. black column row) width (column / 8) inside

-- the bit of a pixel, padding too
pub bit_at-pbm : (black : ℕ → ℕ → Bool) (width height column row : ℕ) → column < 8 * bytes_across width → row < height
    → bit_at (byte_at (pbm black width height) width height column row) (7 - column % 8)
    ≡ bit_of (padded (λ column. black column row) width column)
bit_at-pbm black width height column row inside below = grind (arith, byte_at-pbm, bit_at-byte_of)

is_set : (b : Bool) → bit_of b ≡ 1 → b ≡ true
is_set b h = grind arith

-- a pixel's bit is set where the picture is black
pub pixel_set : (black : ℕ → ℕ → Bool) (width height column row : ℕ) → column < width → row < height
    → (IsPixelSet (pbm black width height) width height column row → black column row ≡ true)
    × (black column row ≡ true → IsPixelSet (pbm black width height) width height column row)
pixel_set black width height column row inside below = grind (arith, bit_at-pbm, lt-ltb, is_set)

-- no bit behind the end of a row is set
pub padding_clear : (black : ℕ → ℕ → Bool) (width height column row : ℕ)
    → width ≤ column → column < 8 * bytes_across width → row < height
    → IsPixelSet (pbm black width height) width height column row → ⊥
padding_clear black width height column row outside inside below h = grind (arith, bit_at-pbm, le-ltb)

abbrev pub AreBytes : List ℕ → Type 0
AreBytes file = All (λ byte. byte < 256) file

all_bytes_row : (black : ℕ → Bool) (width : ℕ) → AreBytes (row_of black width)
all_bytes_row black width =
    All-from_get_or (λ byte. byte < 256) (row_of black width) 0 (λ k h.
    let at = get_or-row_of black width k (omega (arith, length-row_of black width)) in
    omega (arith, at, byte_of-lt (λ i. padded black width (8 * k + i))))

joined : (a b : List ℕ) → AreBytes a → AreBytes b → AreBytes (a ++ b)
joined a b = All-append (λ byte. byte < 256) a b

all_bytes_pieces : (f : ℕ → List ℕ) → ((k : ℕ) → AreBytes (f k)) → (a n : ℕ)
    → AreBytes (flat_map f (range_with_len a n))
all_bytes_pieces f h a zero = All-nil (λ byte. byte < 256)
all_bytes_pieces f h a (suc n) = grind (arith, joined, all_bytes_pieces f h (a + 1) n)

all_bytes_decimal : (n : ℕ) → n < 2 ^ 64 → AreBytes (decimal n)
all_bytes_decimal n h =
    All-from_get_or (λ byte. byte < 256) (decimal n) 0 (λ i below. omega (arith, IsAscii-decimal n h i))

one_byte : (b : ℕ) → b < 256 → AreBytes (b ∷ [])
one_byte b h = All-cons (λ byte. byte < 256) b [] h (All-nil (λ byte. byte < 256))

all_bytes_header : (width height : ℕ) → width < 2 ^ 64 → height < 2 ^ 64 → AreBytes (header width height)
all_bytes_header width height w h =
    let magic = joined (80 ∷ []) (52 ∷ []) (one_byte 80 (omega arith)) (one_byte 52 (omega arith)) in
    let line_end = one_byte 10 (omega arith) in
    let wide = (80 ∷ 52 ∷ 10 ∷ []) ++ decimal width in
    let first = joined (80 ∷ 52 ∷ []) (10 ∷ []) magic line_end in
    let second = joined (80 ∷ 52 ∷ 10 ∷ []) (decimal width) first (all_bytes_decimal width w) in
    let third = joined wide (32 ∷ []) second (one_byte 32 (omega arith)) in
    let fourth = joined (wide ++ 32 ∷ []) (decimal height) third (all_bytes_decimal height h) in
    joined ((wide ++ 32 ∷ []) ++ decimal height) (10 ∷ []) fourth line_end

pub all_bytes_pbm : (black : ℕ → ℕ → Bool) (width height : ℕ) → width < 2 ^ 64 → height < 2 ^ 64
    → AreBytes (pbm black width height)
unfolding pbm
all_bytes_pbm black width height w h = search (rules, joined, all_bytes_header, all_bytes_pieces, all_bytes_row)

-- one more row, and one more byte of a row
range_more : (a n : ℕ) → range_with_len a (suc n) ≡ range_with_len a n ++ (a + n) ∷ []
range_more a zero = let e : a ≡ a + 0 = omega arith in ap (λ i. i ∷ []) e
range_more a (suc n) =
    let e : a + 1 + n ≡ a + suc n = omega arith in
    ap (λ r. a ∷ r) (range_more (a + 1) n ∙ ap (λ i. range_with_len (a + 1) n ++ i ∷ []) e)

pub more_rows : (f : ℕ → List ℕ) (n : ℕ) (start before after : List ℕ)
    → after ≡ before ++ f n → before ≡ start ++ flat_map f (range_with_len 0 n)
    → after ≡ start ++ flat_map f (range_with_len 0 (n + 1))
more_rows f n start before after e so_far =
    let this : 0 + n ≡ n = omega arith in
    let rows : range_with_len 0 n ++ n ∷ [] ≡ range_with_len 0 (n + 1) =
    ap (λ i. range_with_len 0 n ++ i ∷ []) (sym this)
    ∙ sym (range_more 0 n) ∙ ap (range_with_len 0) (sym (add-one n)) in
    e ∙ ap (λ b. b ++ f n) so_far ∙ flat_map_more f start (range_with_len 0 n) n ∙ ap (λ r. start ++ flat_map f r) rows

-- ---- a row, put together from the bytes of its tiles

bytes_on : (f : ℕ → ℕ) (from : ℕ) (bytes : List ℕ)
    → ((j : ℕ) → j < length bytes → get_or bytes j 0 ≡ f (from + j))
    → bytes ≡ map f (range_with_len from (length bytes))
bytes_on f from [] same = refl
bytes_on f from (byte ∷ bytes) same =
    let first : byte ≡ f from = same 0 (omega arith) ∙ ap f (omega arith) in
    ap (λ b. b ∷ bytes) first
    ∙ ap (λ r. f from ∷ r) (bytes_on f (from + 1) bytes (λ j below.
    same (suc j) (omega (arith, below)) ∙ ap f (omega arith)))

-- lists of eight bytes, so many of them, which are those of a function from a place on
abbrev pub AreEights : (ℕ → ℕ) → ℕ → ℕ → List (List ℕ) → Type 0
AreEights f from count eights =
    (k : ℕ) → k < count
    → (length (get_or eights k []) ≡ 8) × ((i : ℕ) → i < 8 → get_or (get_or eights k []) i 0 ≡ f (from + (8 * k + i)))

-- one more of them is written
pub more_eights : (f : ℕ → ℕ) (n : ℕ) (eights : List (List ℕ)) (bytes : List ℕ) → n < length eights → length bytes ≡ 8
    → ((i : ℕ) → i < 8 → get_or bytes i 0 ≡ f (8 * n + i)) → AreEights f 0 n eights
    → AreEights f 0 (n + 1) (set eights n bytes)
more_eights f n eights bytes inside eight told so_far k below = grind (arith, cases_lt, get_or-set_other, get_or-set_at)

eights_at : (f : ℕ → ℕ) (from count j : ℕ) (eights : List (List ℕ)) → count ≤ length eights → j < 8 * count
    → AreEights f from count eights → get_or (flat_map (λ bytes. bytes) eights) j 0 ≡ f (from + j)
eights_at f from count j [] enough within told = absurd (omega arith)
eights_at f from zero j (bytes ∷ eights) enough within told = absurd (omega arith)
eights_at f from (suc count) j (bytes ∷ eights) enough within told =
    let first = told 0 (omega arith) in
    let rest = flat_map (λ bytes. bytes) eights in
    elim (cases_lt j 8) [
      | inl here ↦ get_or_append_left bytes rest 0 j (omega (arith, first.0)) ∙ first.1 j here ∙ ap f (omega arith)
      | inr behind ↦
          (let at : j ≡ length bytes + (j - 8) = omega (arith, first.0) in
          ap (λ i. get_or (bytes ++ rest) i 0) at ∙ get_or-append-add bytes rest (j - 8) 0
          ∙ eights_at f (from + 8) count (j - 8) eights (omega arith) (omega arith) (λ k below.
          let next = told (suc k) (omega arith) in
          (next.0, λ i low. next.1 i low ∙ ap f (omega arith)))
          ∙ ap f (omega arith))
    ]

-- the row that they begin with
pub row_of_eights : (f : ℕ → ℕ) (count n : ℕ) (eights : List (List ℕ)) (all : List ℕ)
    → all ≡ flat_map (λ bytes. bytes) eights → count ≤ length eights → n ≤ 8 * count → n ≤ length all
    → AreEights f 0 count eights → take n all ≡ map f (range_with_len 0 n)
row_of_eights f count n eights all is enough short within told =
    let whole : length (take n all) ≡ n = length-take-le n all within in
    bytes_on f 0 (take n all) (λ j below.
    get_or-take n all j 0 (omega (arith, whole)) ∙ ap (λ bytes. get_or bytes j 0) is
    ∙ eights_at f 0 count j eights enough (omega (arith, whole)) told)
    ∙ ap (λ m. map f (range_with_len 0 m)) whole
