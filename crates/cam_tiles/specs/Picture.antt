-- The picture of an image in a window. An image is a test of places, true where they are black.
use Rattle.std.specs.Prelude.{◌≡◌, ℕ, ◌+◌, ◌*◌, ◌-◌, ◌<◌, ◌≤◌, ℤ, pos, ◌+ℤ◌, ◌*ℤ◌, ◌≤ℤ◌, ◌↔◌}
use Rattle.std.specs.Prelude.{Bool, true, ◌&&◌, nat_lt, nat_le, List, length, take, All}
use Rattle.std.specs.Int.RustNames.{int_le, unsigned_abs}
use Rattle.cam_units.specs.declared.point.Spot.{Spot}
use Rattle.cam_units.specs.Board.{IsPlace, place_limit}
use Rattle.cam_tiles.specs.declared.window.Window.{Window}
use Rattle.cam_tiles.specs.Pbm.{header, bytes_across, pbm, IsPixelSet}

-- the middle of the pixel that stands so far from an edge, in half nanometres
abbrev pub middle : ℤ → ℤ → ℕ → ℤ
middle edge pitch pixel = pos 2 *ℤ edge +ℤ pos (2 * pixel + 1) *ℤ pitch

-- the centre of a pixel; columns are counted from the left, rows from the top
abbrev pub centre_of : Window → ℕ → ℕ → Spot
centre_of w column row = record { x = middle w.x w.pitch column; y = middle w.y w.pitch (w.height - 1 - row) }

-- the most pixels of a side
abbrev pub longest_side : ℕ
longest_side = 32768

-- the greatest pitch, in nanometres
abbrev pub coarsest_pitch : ℕ
coarsest_pitch = 100000000

-- a window within its limits: its centres are places of the board
pub record IsAcceptedWindow (w : Window) : Type 0 where
  pub width : (1 ≤ w.width) × (w.width ≤ longest_side)
  pub height : (1 ≤ w.height) × (w.height ≤ longest_side)
  pub pitch : (pos 1 ≤ℤ w.pitch) × (w.pitch ≤ℤ pos coarsest_pitch)
  pub centres : (column row : ℕ) → column < w.width → row < w.height → IsPlace (centre_of w column row)

abbrev pub is_side : ℕ → Bool
is_side n = nat_le 1 n && nat_le n longest_side

abbrev pub is_pitch : ℤ → Bool
is_pitch n = int_le (pos 1) n && int_le n (pos coarsest_pitch)

abbrev pub is_near : ℤ → Bool
is_near n = nat_lt (unsigned_abs n) place_limit

-- the first and the last middle are near, and so all between them
abbrev pub are_near : ℤ → ℤ → ℕ → Bool
are_near edge pitch count = is_near (middle edge pitch 0) && is_near (middle edge pitch (count - 1))

-- whether a window is within its limits
unfoldable pub accepts : Window → Bool
accepts w =
    is_side w.width
    && (is_side w.height && (is_pitch w.pitch && (are_near w.x w.pitch w.width && are_near w.y w.pitch w.height)))

-- whether a pixel is black: the image at its centre
abbrev pub pixels_of : Window → (Spot → Bool) → ℕ → ℕ → Bool
pixels_of w image column row = image (centre_of w column row)

-- the PBM file of an image's picture
unfoldable pub plot_of : Window → (Spot → Bool) → List ℕ
plot_of w image = pbm (pixels_of w image) w.width w.height

-- the pixel's bit is set in the file of a window
abbrev pub IsPixelBlack : List ℕ → Window → ℕ → ℕ → Type 0
IsPixelBlack file w column row = IsPixelSet file w.width w.height column row

-- the file shows the image: each pixel is black where the image is black at its centre
pub record Shows (file : List ℕ) (w : Window) (image : Spot → Bool) : Type 0 where
  pub head : take (length (header w.width w.height)) file ≡ header w.width w.height
  pub size : length file ≡ length (header w.width w.height) + w.height * bytes_across w.width
  pub values : All (λ byte. byte < 256) file
  pub pixels : (column row : ℕ) → column < w.width → row < w.height
      → IsPixelBlack file w column row ↔ (image (centre_of w column row) ≡ true)
  pub padding : (column row : ℕ) → w.width ≤ column → column < 8 * bytes_across w.width → row < w.height
      → IsPixelBlack file w column row → ⊥

-- the test is true of the windows within their limits
abbrev pub AcceptLaw : Type 0
AcceptLaw = (w : Window) → (accepts w ≡ true) ↔ IsAcceptedWindow w

-- the plot of an accepted window shows the image
abbrev pub PlotLaw : Type 0
PlotLaw = (w : Window) (image : Spot → Bool) → accepts w ≡ true → Shows (plot_of w image) w image

-- and it is the only file that does
abbrev pub OnePlotLaw : Type 0
OnePlotLaw =
    (w : Window) (image : Spot → Bool) (file : List ℕ) → accepts w ≡ true → Shows file w image → file ≡ plot_of w image
