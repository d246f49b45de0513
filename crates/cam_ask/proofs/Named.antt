-- The layer of a name.
use Rattle.std.proofs.Common.{◌≡◌, sym, ℕ, ◌<◌, List, [], length, get_or}
use Rattle.std.specs.Prelude.{Option, None, Some, slice_get}
use Rattle.std.specs.Str.{bytes_eq}
use Rattle.std.proofs.lemmas.List.Quantifiers.{position-Some}
use Rattle.std.proofs.lemmas.Option.{slice_get-get_or}
use Rattle.cam_edits.specs.Boards.{empty_content, place_named}
use Rattle.cam_edits.specs.Sheets.{Sheet, sheet}

never : (a : Option Sheet) (s : Sheet) → a ≡ None → a ≡ Some s → ⊥
never a s e f = cc

-- it is there
pub named_there : (sheets : List Sheet) (name : List ℕ) (place : ℕ) → Some place ≡ place_named name sheets → None ≡ slice_get sheets place → ⊥
unfolding place_named
named_there sheets name place found gone =
    let d : Sheet = sheet [] empty_content in
    let within : place < length sheets = (position-Some (λ (s : Sheet). bytes_eq s.name name) sheets place d (sym found)).0 in
    never (slice_get sheets place) (get_or sheets place d) (sym gone) (slice_get-get_or sheets place d within)
