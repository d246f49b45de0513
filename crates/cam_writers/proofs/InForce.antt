-- The running state of the writer of drill texts, after one line more.
use Rattle.std.proofs.Common.{◌≡◌, ℕ, ◌<◌, ◌≤◌, ◌-◌, List, [], ◌∷◌, ◌++◌, length, take, drop, get_or, slice_get, true}
use Rattle.std.proofs.Common.{false, Option, Some, None, refl, sym, ◌∙◌, arith, codes, ◌+◌}
use Rattle.std.specs.Prelude.{pos}
use Rattle.std.specs.List.{fold}
use Rattle.std.specs.Option.{option_or, unwrap_or}
use Rattle.std.specs.Global.{Vec}
use Rattle.std.proofs.lemmas.List.{take_all}
use Rattle.cam_units.specs.declared.length.Nm.{Nm}
use Rattle.cam_units.specs.declared.point.Point.{Point}
use Rattle.cam_objects.specs.declared.drill_item.DrillItem.{DrillItem}
use Rattle.cam_xnc.specs.declared.statement.Statement.{Statement}
use Rattle.cam_xnc.specs.DrillState.{tool_in_force, tool_told, drill_mode_told}
use Rattle.cam_xnc.specs.Faults.{is_drilling}
use Rattle.cam_writers.specs.declared.drill_text.DrillText.{DrillText}
use Rattle.cam_writers.specs.DrillTexts.{Line, Lines, text_of, said_by, with_tool, opening, with_cut}
use Rattle.cam_writers.specs.DrillTexts.{with_rout, point_line, declaration, lines_before_end, drill_text}
use Rattle.cam_writers.specs.Machinery.Tracking.{Tracks}
use Rattle.cam_writers.proofs.Walks.{one_more}

-- a value that a statement tells, or else the value before it
abbrev told_or : {A B : Type 0} → (A → B) → Option A → B → B
told_or f None before = before
told_or f (Some told) before = f told

newest_is : {A B : Type 0} (f : A → B) (told older : Option A) (a : A) (before : B) → before ≡ f (unwrap_or older a)
    → told_or f told before ≡ f (unwrap_or (option_or told older) a)
newest_is f told older a before e = grind arith

-- the state behind a statement, with its text
abbrev pub after : Statement → DrillText → Vec ℕ → DrillText
after says w text = record {
  text = text;
  tool = told_or (λ tool. tool) (tool_told says) w.tool;
  is_drilling = told_or is_drilling (drill_mode_told says) w.is_drilling;
}

-- a text with one line more
abbrev pub IsLonger : List ℕ → Vec ℕ → Vec ℕ → Type 0
IsLonger line old text = text.items ≡ old.items ++ (line ++ codes "\n")

pub written : (line : Line) (lines : Lines) (w : DrillText) (text : Vec ℕ) → Tracks lines w → IsLonger line.0 w.text text
    → Tracks (line ∷ lines) (after line.1 w text)
written line lines w text h longer = grind (arith, newest_is)

-- lines that select no tool keep it
tool_kept : {A : Type 0} (add : Lines → A → Lines) → ((lines : Lines) (a : A) → tool_in_force (said_by (add lines a)) ≡ tool_in_force (said_by lines))
    → (all : List A) (lines : Lines) → tool_in_force (said_by (fold add lines all)) ≡ tool_in_force (said_by lines)
tool_kept add keeps [] lines = refl
tool_kept add keeps (a ∷ all) lines = tool_kept add keeps all (add lines a) ∙ keeps lines a

pub opened : (tools : List (ℕ × Nm)) (text : Vec ℕ) → text.items ≡ text_of (opening tools)
    → Tracks (opening tools) (record { text = text; tool = None; is_drilling = true })
opened tools text e = record { text = e; tool = sym (tool_kept with_tool (λ lines t. refl) tools _); is_drilling = refl }

pub rout_written : (points : List Point) (lines : Lines) (w : DrillText) (started lowered cut raised : Vec ℕ) → Tracks lines w
    → 1 ≤ length points
    → IsLonger (point_line (codes "G00") (get_or points 0 (record { x = pos 0; y = pos 0 }))) w.text started
    → IsLonger (codes "M15") started lowered
    → ((older : Lines) → lowered.items ≡ text_of older → cut.items ≡ text_of (fold with_cut older (take (length points - 1) (drop 1 points))))
    → IsLonger (codes "M16") cut raised → Tracks (with_rout points lines) (record w { text = raised; is_drilling = false })
rout_written points lines w started lowered cut raised h some e1 e2 e3 e4 = grind (arith, written, take_all, tool_kept)

pub tool_added : (tools : List (ℕ × Nm)) (place : ℕ) (t : ℕ × Nm) (lines : Lines) (old new : Vec ℕ) → place < length tools
    → slice_get tools place ≡ Some t → old.items ≡ text_of (fold with_tool lines (take place tools)) → IsLonger (declaration t) old new
    → new.items ≡ text_of (fold with_tool lines (take (place + 1) tools))
tool_added tools place t lines old new below is e more = grind (arith, one_more)

-- the end of the text
pub ended : (tools : List (ℕ × Nm)) (items all : List DrillItem) (n : ℕ) (w : DrillText) (text : Vec ℕ)
    → Tracks (lines_before_end tools (take n items)) w → length items ≤ n → items ≡ all → IsLonger (codes "M30") w.text text
    → text.items ≡ drill_text tools all
unfolding drill_text
ended tools items all n w text h le same longer = grind (arith, take_all)
