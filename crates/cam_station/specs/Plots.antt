-- Plots: each answers the picture of a layer as it then is.
use Rattle.std.specs.Prelude.{◌≡◌, ℕ, ◌↔◌, ◌<◌, List, Some, Ok}
use Rattle.cam_objects.specs.Image.{IsBlack}
use Rattle.cam_script.specs.declared.command.Command.TheVariants.{Plot}
use Rattle.cam_station.specs.declared.reply.Reply.{Reply}
use Rattle.cam_station.specs.declared.reply.Reply.TheVariants.{Bytes}
use Rattle.cam_tiles.specs.declared.window.Window.{Window}
use Rattle.cam_station.specs.Documents.{content_named}
use Rattle.cam_edits.specs.Sheets.{Content}
use Rattle.cam_edits.specs.Images.{image_of, sheet_leaves}
use Rattle.cam_station.specs.Machine.{State, MemoryGrant, fresh}
use Rattle.cam_tiles.specs.Picture.{IsPixelBlack, Shows, centre_of, plot_of}
use Rattle.cam_station.specs.Calls.{Call, answer_to, states_after}

-- The reply is the picture, in the window in force, of the layer of this name in the document: painting its leaves in
-- order makes black the centres of exactly those pixels whose bit is set. It tells how many tiles were drawn for it.
pub record IsPlotOf (s : State) (name : List ℕ) (reply : Reply) : Type 0 where
  pub window : Window
  pub content : Content
  pub bytes : List ℕ
  pub in_force : s.window ≡ Some window
  pub named : content_named name s.timeline.document ≡ Some content
  pub drawn : ℕ
  pub answered : reply ≡ Bytes bytes drawn
  pub picture : bytes ≡ plot_of window (image_of content)
  pub shows : Shows bytes window (image_of content)
  pub pixels : (column row : ℕ) → column < window.width → row < window.height
      → IsPixelBlack bytes window column row ↔ IsBlack (sheet_leaves content) (centre_of window column row)

-- exact plot: after any list of commands, each accepted plot answers the picture as it then is
abbrev pub ExactPlot : Type 0
ExactPlot = (depth : ℕ) (before : List Call) (name : List ℕ) (memory : MemoryGrant) (reply : Reply) →
    let s = states_after (fresh depth) before in answer_to s (Plot name, memory) ≡ Ok reply → IsPlotOf s name reply
