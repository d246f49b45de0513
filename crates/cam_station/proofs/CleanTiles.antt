-- After any list of commands the clean tiles of each layer show it as it then is.
use Rattle.std.proofs.Common.{◌≡◌, ℕ, ◌↔◌, Bool, true, List, Option, None, Some, ap, ◌∙◌, sym}
use Rattle.std.specs.Prelude.{slice_get}
use Rattle.cam_tiles.specs.declared.window.Window.{Window}
use Rattle.cam_tiles.specs.Picture.{centre_of}
use Rattle.cam_tiles.specs.Tables.{IsTable, Table}
use Rattle.cam_objects.specs.Image.{IsBlack}
use Rattle.cam_objects.proofs.TestLaws.{black_law}
use Rattle.cam_edits.proofs.EditedLists.{all_here}
use Rattle.cam_edits.specs.Boards.{content_at}
use Rattle.cam_edits.specs.Images.{image_of, sheet_leaves}
use Rattle.cam_edits.specs.Sheets.{Content}
use Rattle.cam_station.specs.TileTables.{AreTables}
use Rattle.cam_station.specs.Locality.{CleanTiles, IsClean}
use Rattle.cam_station.specs.Machine.{State, fresh}
use Rattle.cam_station.specs.Calls.{states_after}
use Rattle.cam_tiles.proofs.Pictures.{picture_law}
use Rattle.cam_station.proofs.KeptTables.{IsTableOf}
use Rattle.cam_station.proofs.ShownTables.{IsShown, shown}

-- a table of the window in force
pub record IsInForce (o : Option Window) (t : Table) : Type 0 where
  pub window : o ≡ Some t.window
  pub table : IsTable t

pub in_force : (o : Option Window) (count : ℕ) (tables : List Table) (place : ℕ) (t : Table) → AreTables o count tables
    → slice_get tables place ≡ Some t → IsInForce o t
in_force None count tables place t h here =
    let none : slice_get tables place ≡ None = ap (λ l. slice_get l place) h in
    let never : None ≡ Some t = sym none ∙ here in absurd cc
in_force (Some w) count tables place t h here =
    let one : IsTableOf w t = all_here (IsTableOf w) tables place t h.1 here in
    record { window = ap Some (sym one.1); table = one.0 }

-- the test of a place tells whether it is black
black_where : (c : Content) (t : Table) (column row : ℕ) (black : Bool)
    → black ≡ image_of c (centre_of t.window column row)
    → (black ≡ true) ↔ IsBlack (sheet_leaves c) (centre_of t.window column row)
black_where c t column row black same = (
  λ is. (black_law (sheet_leaves c) (centre_of t.window column row)).0 (sym same ∙ is),
  λ is. same ∙ (black_law (sheet_leaves c) (centre_of t.window column row)).1 is,
)

clean : (s : State) → IsShown s → (place : ℕ) (t : Table) → slice_get s.tables place ≡ Some t → IsClean s place t
clean s h place t here =
    let c : Content = content_at s.timeline.document place in
    let forced = in_force s.window _ s.tables place t h.tables here in
    record {
      window = forced.window;
      shows = record {
        tiles = h.pictured place t here;
        pixels = λ column row black known.
            black_where c t column row black
            (picture_law.pixels (image_of c) t column row black forced.table (h.pictured place t here) known);
      };
    }

pub clean_tiles : CleanTiles
clean_tiles depth before place t here = clean (states_after (fresh depth) before) (shown depth before) place t here
