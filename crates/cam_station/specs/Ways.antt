-- The documents and the boxes of the ways between them keep step: the way from each document that is kept to the next
-- one touches all that they paint otherwise, whichever way it is gone.
use Rattle.std.specs.Prelude.{◌≡◌, ℕ, ◌<◌, List, [], ◌∷◌, length, Option, None, Some}
use Rattle.cam_tiles.specs.TileLaws.{AgreeOutside}
use Rattle.cam_edits.specs.Boards.{content_at}
use Rattle.cam_edits.specs.Images.{image_of}
use Rattle.cam_edits.specs.Sheets.{Sheet}
use Rattle.cam_edits.specs.Touches.{Touch}
use Rattle.cam_undo.specs.Machine.{Timeline}
use Rattle.cam_station.specs.Calls.{Call, states_after}
use Rattle.cam_station.specs.Locality.{boxes_on}
use Rattle.cam_station.specs.Machine.{fresh}
use Rattle.cam_station.specs.Touches.{Touches}

-- Each sheet paints the same in both documents outside the boxes on it.
pub record Way (touches : List Touch) (from to : List Sheet) : Type 0 where
  pub count : length to ≡ length from
  pub outside : (place : ℕ)
      → AgreeOutside (boxes_on place touches) (image_of (content_at from place)) (image_of (content_at to place))

-- the first document, or the last one where there is no other
abbrev pub first_of : List (List Sheet) → List Sheet → List Sheet
first_of [] last = last
first_of (document ∷ documents) last = document

-- from each document there is a way to the next one, and from the last of them to `last`
abbrev pub IsPath : List (List Touch) → List (List Sheet) → List Sheet → Type 0
IsPath [] [] last = Unit {0}
IsPath [] (document ∷ documents) last = ⊥
IsPath (touches ∷ ways) [] last = ⊥
IsPath (touches ∷ ways) (document ∷ documents) last =
    Way touches document (first_of documents last) × IsPath ways documents last

-- the ways from the past and from the future to this document
pub record AreWaysHere (t : Timeline (List Sheet)) (m : Touches) : Type 0 where
  pub past : IsPath m.past t.past t.document
  pub future : IsPath m.future t.future t.document

-- With a group open they lead to the document at its beginning, and its edits from there to this one. Where it has
-- edits, nothing is left that was taken back.
pub record AreWaysToGroup (t : Timeline (List Sheet)) (m : Touches) (start : List Sheet) (count : ℕ)
    (group : List Touch) : Type 0 where
  pub past : IsPath m.past t.past start
  pub future : IsPath m.future t.future start
  pub way : Way group start t.document
  pub counted : length group ≡ count
  pub edited : 0 < count → t.future ≡ []

-- a group is open in both or in none
abbrev pub AreWaysBy : Timeline (List Sheet) → Touches → Option (List Sheet × ℕ) → Option (List Touch) → Type 0
AreWaysBy t m None None = AreWaysHere t m
AreWaysBy t m None (Some group) = ⊥
AreWaysBy t m (Some g) None = ⊥
AreWaysBy t m (Some g) (Some group) = AreWaysToGroup t m g.0 g.1 group

abbrev pub AreWays : Timeline (List Sheet) → Touches → Type 0
AreWays t m = AreWaysBy t m t.group m.group

-- after any list of commands
abbrev pub KeptWays : Type 0
KeptWays = (depth : ℕ) (before : List Call) →
    let s = states_after (fresh depth) before in AreWays s.timeline s.touches
