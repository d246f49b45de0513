-- What holds in each state that a station can come to.
use Rattle.std.proofs.Common.{◌≡◌, ℕ, List, [], ◌∷◌, Some, true}
use Rattle.cam_tiles.specs.declared.window.Window.{Window}
use Rattle.cam_tiles.specs.Picture.{accepts}
use Rattle.cam_station.specs.Machine.{State, fresh}
use Rattle.cam_station.specs.Sound.{IsSoundTimeline, SoundLaw}
use Rattle.cam_station.specs.Calls.{Call, state_after, states_after}
use Rattle.cam_station.proofs.SoundSteps.{AfterEach, after_each, sound_start}

-- the window in force was accepted, and all layers are sound
pub record IsReached (s : State) : Type 0 where
  pub in_force : (w : Window) → s.window ≡ Some w → accepts w ≡ true
  pub sound : IsSoundTimeline s.timeline

reached_each : (s : State) → IsReached s → AfterEach s IsReached
reached_each s h =
    record {
      stays = h;
      drawn = λ tables. record { in_force = h.in_force; sound = h.sound };
      moved = λ t touches tables sound. record { in_force = h.in_force; sound = sound h.sound };
      framed = λ w accepted. record {
        in_force = λ w' e. let same : w ≡ w' = cc in rw (← same) accepted;
        sound = h.sound;
      };
    }

fresh_reached : (depth : ℕ) → IsReached (fresh depth)
fresh_reached depth = record { in_force = λ w e. absurd cc; sound = sound_start depth }

reached_after : (s : State) (calls : List Call) → IsReached s → IsReached (states_after s calls)
reached_after s [] h = h
reached_after s (c ∷ calls) h =
    reached_after (state_after s c) calls (after_each s IsReached (reached_each s h) c.0 c.1)

pub reached : (depth : ℕ) (calls : List Call) → IsReached (states_after (fresh depth) calls)
reached depth calls = reached_after (fresh depth) calls (fresh_reached depth)

pub sound_law : SoundLaw
sound_law depth before = (reached depth before).sound
