-- Edits of file attributes show in no tile and in no picture.
use Rattle.std.proofs.Common.{◌≡◌, ℕ, zero, suc, Bool, List, [], ◌∷◌, map, Option, None, Some, Result, Ok, Err, refl, ap, sym, ◌∙◌}
use Rattle.std.proofs.Common.{option_map, subst}
use Rattle.std.specs.Prelude.{position}
use Rattle.std.specs.Str.{bytes_eq}
use Rattle.cam_tiles.specs.declared.window.Window.{Window}
use Rattle.cam_tiles.specs.Picture.{plot_of}
use Rattle.cam_tiles.specs.Tables.{Table}
use Rattle.cam_tiles.specs.Touched.{touched_by}
use Rattle.cam_objects.specs.Tests.{is_black}
use Rattle.cam_edits.specs.declared.edit.Edit.{Edit}
use Rattle.cam_edits.specs.declared.fault.EditFault.{EditFault}
use Rattle.cam_edits.specs.AttributeLaws.{IsOfAttributes}
use Rattle.cam_edits.specs.Boards.{content_at, place_named}
use Rattle.cam_edits.specs.Editing.{edited}
use Rattle.cam_edits.specs.Images.{image_of, sheet_leaves}
use Rattle.cam_edits.specs.Places.{changed}
use Rattle.cam_edits.specs.Sheets.{Sheet}
use Rattle.cam_edits.specs.Touches.{Touch, touch_of_edit}
use Rattle.cam_edits.proofs.AttributeChanges.{attributes_change_no_picture}
use Rattle.cam_edits.proofs.Names.{position_map}
use Rattle.cam_undo.specs.Machine.{Timeline, accepted_in}
use Rattle.cam_station.specs.Attributes.{AttributesShowNowhere, ShowsNowhere}
use Rattle.cam_station.specs.Documents.{SamePictures, picture_named}
use Rattle.cam_station.specs.Machine.{State, MemoryGrant, Granted, Outcome, RefusedToReader, RefusedToStation}
use Rattle.cam_station.specs.Machine.{edit_to, with_edit}
use Rattle.cam_station.proofs.EditCommands.{step_of_edit}
use Rattle.cam_station.proofs.TablesAt.{changed-suc}

-- no box touches no tile
untouched : (tables : List Table) (place : ℕ) → changed (touched_by []) tables place ≡ tables
untouched [] place = refl
untouched (t ∷ tables) zero = refl
untouched (t ∷ tables) (suc place) =
    changed-suc (touched_by []) t tables place ∙ ap (λ (ts : List Table). t ∷ ts) (untouched tables place)

abbrev name_of : Sheet → List ℕ
name_of s = s.name

-- the sheets of the same names stand at the same places
same_place : (name : List ℕ) (sheets after : List Sheet) → map name_of after ≡ map name_of sheets
    → place_named name after ≡ place_named name sheets
unfolding place_named
same_place name sheets after names =
    let is_it : List ℕ → Bool = λ n. bytes_eq n name in
    sym (position_map name_of is_it after) ∙ ap (position is_it) names ∙ position_map name_of is_it sheets

module _ (sheets after : List Sheet)
    (leaves : (place : ℕ) → sheet_leaves (content_at after place) ≡ sheet_leaves (content_at sheets place)) (w : Window) where
  same_picture : (place : ℕ) → plot_of w (image_of (content_at sheets place)) ≡ plot_of w (image_of (content_at after place))
  same_picture place = ap (λ leaves. plot_of w (λ s. is_black leaves s)) (sym (leaves place))

  at_place : (place : Option ℕ)
      → option_map (λ c. plot_of w (image_of c)) (option_map (content_at sheets) place)
      ≡ option_map (λ c. plot_of w (image_of c)) (option_map (content_at after) place)
  at_place None = refl
  at_place (Some place) = ap Some (same_picture place)

same_pictures : (sheets after : List Sheet)
    → ((place : ℕ) → sheet_leaves (content_at after place) ≡ sheet_leaves (content_at sheets place))
    → map name_of after ≡ map name_of sheets → SamePictures sheets after
same_pictures sheets after leaves names w name =
    at_place sheets after leaves w (place_named name sheets)
    ∙ sym
    (ap (λ place. option_map (λ c. plot_of w (image_of c)) (option_map (content_at after) place))
    (same_place name sheets after names))

document_is : (depth : ℕ) (sheets : List Sheet) (t : Timeline (List Sheet)) (group : Option (List Sheet × ℕ))
    → (accepted_in depth sheets t group).document ≡ sheets
document_is depth sheets t None = refl
document_is depth sheets t (Some group) = refl

module _ (s : State) (edit : Edit) (is : IsOfAttributes edit.change) where
  abbrev touch : Touch
  touch = touch_of_edit edit s.timeline.document

  changes : (sheets : List Sheet) → edited edit s.timeline.document ≡ Ok sheets → ShowsNowhere s (with_edit s sheets touch)
  changes sheets e =
      let law = attributes_change_no_picture edit s.timeline.document sheets is e in
      let document = document_is s.depth sheets s.timeline s.timeline.group in
      record {
        tiles = ap (λ boxes. changed (touched_by boxes) s.tables touch.sheet) law.boxes ∙ untouched s.tables touch.sheet;
        pictures = λ w name.
            same_pictures s.timeline.document sheets law.pictures law.names w name
            ∙ ap (picture_named w name) (sym document);
      }

  stays : ShowsNowhere s s
  stays = record { tiles = refl; pictures = λ w name. refl }

  by_answer : (memory : MemoryGrant) (made : Result (List Sheet) EditFault) → edited edit s.timeline.document ≡ made
      → ShowsNowhere s (edit_to s memory touch made).0
  by_answer memory (Err fault) e = stays
  by_answer Granted (Ok sheets) e = changes sheets e
  by_answer RefusedToReader (Ok sheets) e = changes sheets e
  by_answer RefusedToStation (Ok sheets) e = stays

pub attributes_show_nowhere : AttributesShowNowhere
attributes_show_nowhere s edit memory is =
    let Shows : State × Outcome → Type 0 = λ after. ShowsNowhere s after.0 in
    subst Shows (sym (step_of_edit s edit memory)) (by_answer s edit is memory (edited edit s.timeline.document) refl)
