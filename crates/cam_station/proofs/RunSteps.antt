-- One line more in front of a run.
use Rattle.std.proofs.Common.{◌≡◌, ℕ, ◌+◌, List, [], ◌∷◌, ◌++◌, Option, refl, sym, ap, subst, ◌∙◌, arith, append-nil}
use Rattle.std.specs.Io.KnownBytes.{Appends}
use Rattle.std.proofs.KnownBytes.{Appends-nil, Appends-trans}
use Rattle.std.specs.Prelude.{cond}
use Rattle.std.proofs.lemmas.List.Sums.{sum_by-cons}
use Rattle.cam_station.specs.Machine.{State}
use Rattle.cam_station.specs.Run.{World, Turn, turn, turns, spoken, output, is_refusal, refused_lines}
use Rattle.cam_station.specs.Run.{FilesSeen, AllAnswer, Moment, TurnsLead, RunsAllLines, StopsAtUnsaidReply}
use Rattle.cam_station.specs.Machinery.Lines.{TurnLeadsTo, ReplyIsUnsaid}
use Rattle.cam_station.proofs.Saying.{risen_twice}

pub lead_none : (m : Moment) → TurnsLead [] m m
lead_none m = record { files = refl; said = Appends-nil m.said; out_failures = omega arith; refused = omega arith }

answer_more : (t : Turn) (ts : List Turn) (old between new : FilesSeen) → AllAnswer (t ∷ []) old between
    → AllAnswer ts between new → AllAnswer (t ∷ ts) old new
answer_more t ts old between new h k =
    let P : FilesSeen → Type 0 = λ f. AllAnswer ts f new in (h.0, h.1, subst P h.2 k)

say_more : (t : Turn) (ts : List Turn) (a b c : Option (List ℕ)) → Appends a b (output (t ∷ []))
    → Appends b c (output ts) → Appends a c (output (t ∷ ts))
say_more t ts a b c h k =
    let P : List ℕ → Type 0 = λ w. Appends a c (w ++ output ts) in
    subst P (append-nil (spoken t.reply)) (Appends-trans a b c (output (t ∷ [])) (output ts) h k)

count_more : (t : Turn) (ts : List Turn) (a b c : ℕ) → b ≡ a + refused_lines (t ∷ []) → c ≡ b + refused_lines ts
    → c ≡ a + refused_lines (t ∷ ts)
count_more t ts a b c h k =
    let one : refused_lines (t ∷ []) ≡ cond (is_refusal t.reply) 1 0 + refused_lines [] =
    sum_by-cons (λ t. cond (is_refusal t.reply) 1 0) t [] in
    let all : refused_lines (t ∷ ts) ≡ cond (is_refusal t.reply) 1 0 + refused_lines ts =
    sum_by-cons (λ t. cond (is_refusal t.reply) 1 0) t ts in
    omega (arith, h, k, one, all)

pub lead_more : (t : Turn) (ts : List Turn) (before between after : Moment) → TurnsLead (t ∷ []) before between
    → TurnsLead ts between after → TurnsLead (t ∷ ts) before after
lead_more t ts before between after h k =
    record {
      files = answer_more t ts before.files between.files after.files h.files k.files;
      said = say_more t ts before.said between.said after.said h.said k.said;
      out_failures = risen_twice 0 0 before.out_failures between.out_failures after.out_failures h.out_failures k.out_failures;
      refused = count_more t ts before.refused between.refused after.refused h.refused k.refused;
    }

abbrev pub at_count : Moment → ℕ → Moment
at_count m n = record { files = m.files; said = m.said; out_failures = m.out_failures; refused = n }

-- a turn that leads on from no refused line leads on from any number of them
pub counted_on : (t : Turn) (state : State) (before after : Moment) (n : ℕ) → before.refused ≡ 0 → TurnLeadsTo t state before after
    → TurnLeadsTo t state (at_count before n) (at_count after (n + after.refused))
counted_on t state before after n none h =
    record {
      state_is = h.state_is;
      lead = record {
        files = h.lead.files;
        said = h.lead.said;
        out_failures = h.lead.out_failures;
        refused = omega (arith, h.lead.refused, none);
      };
    }

pub finishes_none : (s : State) (m : Moment) → RunsAllLines s [] [] m m
finishes_none s m = record { each = refl; lead = lead_none m }

module _ (s : State) (line : List ℕ) (lines : List (List ℕ)) (w : World) where
  -- the turns that follow, from the state that the first one led to
  turns_from : (state : State) (ws : List World) → (turn s line w).state ≡ state
      → turns s (line ∷ lines) (w ∷ ws) ≡ turn s line w ∷ turns state lines ws
  turns_from state ws e = ap (λ (q : State). turn s line w ∷ turns q lines ws) e

  pub finishes_more : (state : State) (ws : List World) (before between after : Moment)
      → TurnLeadsTo (turn s line w) state before between → RunsAllLines state lines ws between after
      → RunsAllLines s (line ∷ lines) (w ∷ ws) before after
  finishes_more state ws before between after passes rest =
      let P : List Turn → Type 0 = λ ts. TurnsLead ts before after in
      record {
        each = omega (arith, rest.each);
        lead = subst P (sym (turns_from state ws passes.state_is))
            (lead_more (turn s line w) (turns state lines ws) before between after passes.lead rest.lead);
      }

  no_turns : (state : State) (ls : List (List ℕ)) → turns state ls [] ≡ []
  no_turns state [] = refl
  no_turns state (l ∷ ls) = refl

  pub stops_here : (before after : Moment) → ReplyIsUnsaid (turn s line w) before after
      → StopsAtUnsaidReply s (line ∷ lines) (w ∷ []) before after
  stops_here before after unsaid =
      record {
        earlier = [];
        last = turn s line w;
        between = before;
        turns_are = ap (λ (ts : List Turn). turn s line w ∷ ts) (no_turns (turn s line w).state lines);
        lead = lead_none before;
        replied = unsaid.replied;
        files = unsaid.files;
        out_failures = unsaid.out_failures;
      }

  pub stops_more : (state : State) (ws : List World) (before between after : Moment)
      → TurnLeadsTo (turn s line w) state before between → StopsAtUnsaidReply state lines ws between after
      → StopsAtUnsaidReply s (line ∷ lines) (w ∷ ws) before after
  stops_more state ws before between after passes rest =
      record {
        earlier = turn s line w ∷ rest.earlier;
        last = rest.last;
        between = rest.between;
        turns_are = turns_from state ws passes.state_is ∙ ap (λ (ts : List Turn). turn s line w ∷ ts) rest.turns_are;
        lead = lead_more (turn s line w) rest.earlier before between rest.between passes.lead rest.lead;
        replied = rest.replied;
        files = rest.files;
        out_failures = risen_twice 0 1 before.out_failures between.out_failures after.out_failures
            passes.lead.out_failures rest.out_failures;
      }
