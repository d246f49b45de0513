-- Documents: what is seen of a layer by its name.
use Rattle.std.specs.Prelude.{◌≡◌, ◌↔◌, ℕ, List, Option, Some}
use Rattle.std.specs.Option.{option_map}
use Rattle.cam_units.specs.declared.point.Spot.{Spot}
use Rattle.cam_objects.specs.Image.{IsBlack}
use Rattle.cam_tiles.specs.declared.window.Window.{Window}
use Rattle.cam_tiles.specs.Picture.{plot_of}
use Rattle.cam_edits.specs.Boards.{content_at, place_named}
use Rattle.cam_edits.specs.Sheets.{Content, Sheet}
use Rattle.cam_edits.specs.Images.{image_of, sheet_leaves}
use Rattle.cam_station.specs.Writing.{text_of}

-- what the sheet of this name holds, where there is one
abbrev pub content_named : List ℕ → List Sheet → Option Content
content_named name sheets = option_map (content_at sheets) (place_named name sheets)

-- its picture in a window, as a PBM file
abbrev pub picture_named : Window → List ℕ → List Sheet → Option (List ℕ)
picture_named w name sheets = option_map (λ c. plot_of w (image_of c)) (content_named name sheets)

-- whether it is black at a place, of whatever window a pixel's centre: painting its objects in order makes it so
pub record IsBlackIn (name : List ℕ) (sheets : List Sheet) (s : Spot) : Type 0 where
  pub content : Content
  pub named : content_named name sheets ≡ Some content
  pub black : IsBlack (sheet_leaves content) s

-- its canonical text
abbrev pub text_named : List ℕ → List Sheet → Option (List ℕ)
text_named name sheets = option_map text_of (content_named name sheets)

-- in every window each layer has the same picture in both documents
abbrev pub SamePictures : List Sheet → List Sheet → Type 0
SamePictures sheets sheets' = (w : Window) (name : List ℕ) → picture_named w name sheets ≡ picture_named w name sheets'

-- at every place each layer is black in both documents or in none
abbrev pub SamePixels : List Sheet → List Sheet → Type 0
SamePixels sheets sheets' = (name : List ℕ) (s : Spot) → IsBlackIn name sheets s ↔ IsBlackIn name sheets' s

-- each layer has the same canonical text in both documents
abbrev pub SameTexts : List Sheet → List Sheet → Type 0
SameTexts sheets sheets' = (name : List ℕ) → text_named name sheets ≡ text_named name sheets'
