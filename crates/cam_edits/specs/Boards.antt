-- Boards: sheets in the order in which they were added, found by their names.
use Rattle.std.specs.Prelude.{ℕ, List, [], Option, None, Some, position, slice_get}
use Rattle.std.specs.Str.{bytes_eq}
use Rattle.cam_edits.specs.Places.{changed}
use Rattle.cam_edits.specs.Sheets.{Content, Gerber, Sheet, sheet}

-- where the sheet of this name stands
unfoldable pub place_named : List ℕ → List Sheet → Option ℕ
place_named name sheets = position (λ s. bytes_eq s.name name) sheets

-- a layer without attributes, entries and items
abbrev pub empty_content : Content
empty_content = Gerber (record { attributes = []; entries = []; items = [] })

abbrev pub content_or_empty : Option Sheet → Content
content_or_empty None = empty_content
content_or_empty (Some s) = s.content

-- what the sheet at a place holds
abbrev pub content_at : List Sheet → ℕ → Content
content_at sheets place = content_or_empty (slice_get sheets place)

-- a sheet with what comes of its content
abbrev pub with_content : (Content → Content) → Sheet → Sheet
with_content change s = sheet s.name (change s.content)

-- the sheets, what the one at a place holds changed
abbrev pub changed_at : (Content → Content) → ℕ → List Sheet → List Sheet
changed_at change place sheets = changed (with_content change) sheets place
