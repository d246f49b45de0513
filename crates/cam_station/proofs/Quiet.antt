-- Quiet commands keep the documents.
use Rattle.std.proofs.Common.{◌≡◌, ℕ, Bool, true, false, if◌then◌else◌, List, [], ◌∷◌, Option, None, Some, Ok, inl, inr, refl, ap, ◌∙◌}
use Rattle.cam_tiles.specs.declared.window.Window.{Window}
use Rattle.cam_tiles.specs.Picture.{accepts}
use Rattle.cam_edits.specs.Boards.{place_named}
use Rattle.cam_edits.specs.Sheets.{Sheet}
use Rattle.cam_undo.specs.Machine.{Timeline}
use Rattle.cam_script.specs.declared.command.Command.{Command}
use Rattle.cam_script.specs.declared.command.Command.TheVariants as commands
use Rattle.cam_station.specs.Machine.{
  State,
  MemoryGrant,
  Granted,
  RefusedToReader,
  RefusedToStation,
  step,
  list_layer_at,
  redraw_in,
  refused,
  with_room,
  with_window,
  write_at,
  window_of,
}
use Rattle.cam_refusals.specs.declared.refusal.Refusal.TheVariants.{OutOfLimits}
use Rattle.cam_station.specs.declared.reply.Reply.TheVariants.{Done}
use Rattle.cam_station.specs.Calls.{Call, after_refusal, drawn_named, drawn_where, state_after, states_after}
use Rattle.cam_station.specs.Undoing.{IsLook, IsQuiet, AreQuiet}
use Rattle.cam_station.proofs.Refusing.{plot_draws, refusal_stays}

-- the documents, and how many of them may be kept
abbrev pub Documents : Type 0
Documents = ℕ × Timeline (List Sheet)

abbrev pub documents_of : State → Documents
documents_of s = (s.depth, s.timeline)

abbrev Keeps : State → State → Type 0
Keeps s after = documents_of after ≡ documents_of s

drawn_keeps : (s : State) (w : Option Window) (place : Option ℕ) → Keeps s (drawn_where s w place)
drawn_keeps s None place = refl
drawn_keeps s (Some w) None = refl
drawn_keeps s (Some w) (Some place) = refl

named_keeps : (s : State) (name : List ℕ) → Keeps s (drawn_named name s)
named_keeps s name = drawn_keeps s s.window (place_named name s.timeline.document)

refusal_keeps : (s : State) (c : Command) → Keeps s (after_refusal s c)
refusal_keeps s (commands.Plot name) = named_keeps s name
refusal_keeps s _ = refl

redraw_keeps : (s : State) (n : ℕ) (w : Option Window) → Keeps s (redraw_in s n w).0
redraw_keeps s n None = refl
redraw_keeps s n (Some w) = refl

write_keeps : (s : State) (m : MemoryGrant) (place : Option ℕ) → Keeps s (write_at s m place).0
write_keeps s m None = refl
write_keeps s Granted (Some place) = refl
write_keeps s RefusedToReader (Some place) = refl
write_keeps s RefusedToStation (Some place) = refl

list_layer_keeps : (s : State) (place : Option ℕ) → Keeps s (list_layer_at s place).0
list_layer_keeps s None = refl
list_layer_keeps s (Some place) = refl

window_keeps : (s : State) (w : Window) (m : MemoryGrant) (b : Bool)
    → Keeps s (if b then with_room m s (with_window s w, Ok Done) else (s, refused OutOfLimits)).0
window_keeps s w m false = refl
window_keeps s w Granted true = refl
window_keeps s w RefusedToReader true = refl
window_keeps s w RefusedToStation true = refl

look_keeps : (s : State) (c : Command) (m : MemoryGrant) → IsLook c → Keeps s (step s c m).0
look_keeps s (commands.SetWindow x y pitch width height) m h =
    let w : Window = window_of x y pitch width height in
    window_keeps s w m (accepts w)
look_keeps s (commands.Redraw n) m h = redraw_keeps s n s.window
look_keeps s (commands.Plot name) m h = ap documents_of (plot_draws s name m) ∙ named_keeps s name
look_keeps s (commands.Write name) m h = write_keeps s m (place_named name s.timeline.document)
look_keeps s commands.ListAll m h = refl
look_keeps s (commands.ListLayer name) m h = list_layer_keeps s (place_named name s.timeline.document)
look_keeps s _ m h = absurd h

pub quiet_keeps : (s : State) (c : Call) → IsQuiet s c → documents_of (state_after s c) ≡ documents_of s
quiet_keeps s c (inl looks) = look_keeps s c.0 c.1 looks
quiet_keeps s c (inr refused) = ap documents_of (refusal_stays s c refused) ∙ refusal_keeps s c.0

pub all_quiet_keep : (s : State) (calls : List Call) → AreQuiet s calls
    → documents_of (states_after s calls) ≡ documents_of s
all_quiet_keep s [] h = refl
all_quiet_keep s (c ∷ calls) h = all_quiet_keep (state_after s c) calls h.1 ∙ quiet_keeps s c h.0
