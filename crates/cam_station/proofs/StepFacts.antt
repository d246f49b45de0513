-- The station itself refuses nothing for a file that failed.
use Rattle.std.proofs.Common.{◌≡◌, Some, false, refl, subst}
use Rattle.cam_script.specs.declared.command.Command.{Command}
use Rattle.cam_station.specs.Machine.{State, Outcome, MemoryGrant, step}
use Rattle.cam_station.specs.RunLaws.{is_file_refusal}
use Rattle.cam_station.proofs.FaultNumbers.{IsOwnMeaning, meaning_own}
use Rattle.cam_station.proofs.Refusing.{AfterEach, AfterOthers, after_each}

-- the answer is no refusal of a file that failed
abbrev IsOwn : State × Outcome → Type 0
IsOwn p = is_file_refusal (Some p.1) ≡ false

own_others : (s : State) → AfterOthers s IsOwn
own_others s =
    record {
      looked = λ reply. refl;
      refused = λ f own. own;
      unread = λ kind file f is. subst IsOwnMeaning is (meaning_own kind file);
      loaded = λ name kind file c reply is. refl;
      framed = λ w is. refl;
      drawn = λ w n reply is. refl;
      changed = λ edit sheets is. refl;
      opened = λ may. refl;
      closed = λ may. refl;
      left = λ may. refl;
      taken_back = λ may. refl;
      made_again = λ may. refl;
    }

own_each : (s : State) → AfterEach s IsOwn
own_each s =
    record { others = own_others s; plotted = λ w place reply is. refl; plot_refused = λ w place is. refl }

pub step_gets_no_file : (s : State) (command : Command) (memory : MemoryGrant)
    → is_file_refusal (Some (step s command memory).1) ≡ false
step_gets_no_file s = after_each s IsOwn (own_each s)
