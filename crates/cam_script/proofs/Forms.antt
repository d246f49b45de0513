-- What a line says, by its words: one with another count of words has not a form.
use Rattle.std.proofs.Common.{◌≡◌, ◌≢◌, ◌≤◌, ◌∙◌, ap, ℕ, Bool, true, false, List, [], ◌∷◌, length, None, Some, Ok, Err, refl, arith}
use Rattle.std.specs.Prelude.{slice_index, if◌then◌else◌}
use Rattle.std.proofs.lemmas.Bool.{le-ltb, ne_eqb}
use Rattle.cam_refusals.specs.Limits.{line_limit}
use Rattle.cam_script.specs.declared.line.Line.{Line}
use Rattle.cam_script.specs.declared.line.Line.TheVariants as lines
use Rattle.cam_script.specs.declared.line.LineFault.{LineFault}
use Rattle.cam_script.specs.Words.{words}
use Rattle.cam_script.specs.Parsing.{parsed, some_line, line_or_refusal, line_in, is_no_memory}
use Rattle.cam_script.specs.Parsing.{load_line, window_line, redraw_line, put_line, names_a_layer}
use Rattle.cam_script.specs.Parsing.{delete_change, move_change, item_change, diameter_change, drop_change}
use Rattle.cam_script.specs.Items.{flash_in, draw_in, arc_in, hit_in}

pub no_load : (ws : List (List ℕ)) → length ws ≢ 3 → load_line ws ≡ None
no_load [] h = refl
no_load (a ∷ []) h = refl
no_load (a ∷ b ∷ []) h = refl
no_load (a ∷ b ∷ c ∷ []) h = absurd (h (omega arith))
no_load (a ∷ b ∷ c ∷ d ∷ more) h = refl

pub no_window : (ws : List (List ℕ)) → length ws ≢ 5 → window_line ws ≡ None
no_window [] h = refl
no_window (a ∷ []) h = refl
no_window (a ∷ b ∷ []) h = refl
no_window (a ∷ b ∷ c ∷ []) h = refl
no_window (a ∷ b ∷ c ∷ d ∷ []) h = refl
no_window (a ∷ b ∷ c ∷ d ∷ e ∷ []) h = absurd (h (omega arith))
no_window (a ∷ b ∷ c ∷ d ∷ e ∷ f ∷ more) h = refl

pub no_put : (plots : Bool) (ws : List (List ℕ)) → length ws ≢ 2 → put_line plots ws ≡ None
no_put plots [] h = refl
no_put plots (a ∷ []) h = refl
no_put plots (a ∷ b ∷ []) h = absurd (h (omega arith))
no_put plots (a ∷ b ∷ c ∷ more) h = refl

pub put_named : (plots : Bool) (name path : List ℕ) → names_a_layer (if plots then lines.Plot name path else lines.Write name path) ≡ true
put_named true name path = refl
put_named false name path = refl

pub ruleset putting = (no_put, put_named)

pub no_redraw : (ws : List (List ℕ)) → length ws ≢ 1 → redraw_line ws ≡ None
no_redraw [] h = refl
no_redraw (a ∷ []) h = absurd (h (omega arith))
no_redraw (a ∷ b ∷ more) h = refl

pub no_delete : (ws : List (List ℕ)) → length ws ≢ 1 → delete_change ws ≡ None
no_delete [] h = refl
no_delete (a ∷ []) h = absurd (h (omega arith))
no_delete (a ∷ b ∷ more) h = refl

pub no_move : (ws : List (List ℕ)) → length ws ≢ 3 → move_change ws ≡ None
no_move [] h = refl
no_move (a ∷ []) h = refl
no_move (a ∷ b ∷ []) h = refl
no_move (a ∷ b ∷ c ∷ []) h = absurd (h (omega arith))
no_move (a ∷ b ∷ c ∷ d ∷ more) h = refl

pub no_item : (verb : List ℕ) (ws : List (List ℕ)) → length ws ≢ 2 → item_change verb ws ≡ None
no_item verb [] h = refl
no_item verb (a ∷ []) h = refl
no_item verb (a ∷ b ∷ []) h = absurd (h (omega arith))
no_item verb (a ∷ b ∷ c ∷ more) h = refl

pub no_diameter : (ws : List (List ℕ)) → length ws ≢ 2 → diameter_change ws ≡ None
no_diameter [] h = refl
no_diameter (a ∷ []) h = refl
no_diameter (a ∷ b ∷ []) h = absurd (h (omega arith))
no_diameter (a ∷ b ∷ c ∷ more) h = refl

pub no_drop : (ws : List (List ℕ)) → length ws ≢ 1 → drop_change ws ≡ None
no_drop [] h = refl
no_drop (a ∷ []) h = absurd (h (omega arith))
no_drop (a ∷ b ∷ more) h = refl

pub no_flash : (ws : List (List ℕ)) → length ws ≢ 5 → flash_in ws ≡ None
no_flash [] h = refl
no_flash (a ∷ []) h = refl
no_flash (a ∷ b ∷ []) h = refl
no_flash (a ∷ b ∷ c ∷ []) h = refl
no_flash (a ∷ b ∷ c ∷ d ∷ []) h = refl
no_flash (a ∷ b ∷ c ∷ d ∷ e ∷ []) h = absurd (h (omega arith))
no_flash (a ∷ b ∷ c ∷ d ∷ e ∷ f ∷ more) h = refl

pub no_draw : (ws : List (List ℕ)) → length ws ≢ 7 → draw_in ws ≡ None
no_draw [] h = refl
no_draw (a ∷ []) h = refl
no_draw (a ∷ b ∷ []) h = refl
no_draw (a ∷ b ∷ c ∷ []) h = refl
no_draw (a ∷ b ∷ c ∷ d ∷ []) h = refl
no_draw (a ∷ b ∷ c ∷ d ∷ e ∷ []) h = refl
no_draw (a ∷ b ∷ c ∷ d ∷ e ∷ f ∷ []) h = refl
no_draw (a ∷ b ∷ c ∷ d ∷ e ∷ f ∷ g ∷ []) h = absurd (h (omega arith))
no_draw (a ∷ b ∷ c ∷ d ∷ e ∷ f ∷ g ∷ p ∷ more) h = refl

pub no_arc : (ws : List (List ℕ)) → length ws ≢ 9 → arc_in ws ≡ None
no_arc [] h = refl
no_arc (a ∷ []) h = refl
no_arc (a ∷ b ∷ []) h = refl
no_arc (a ∷ b ∷ c ∷ []) h = refl
no_arc (a ∷ b ∷ c ∷ d ∷ []) h = refl
no_arc (a ∷ b ∷ c ∷ d ∷ e ∷ []) h = refl
no_arc (a ∷ b ∷ c ∷ d ∷ e ∷ f ∷ []) h = refl
no_arc (a ∷ b ∷ c ∷ d ∷ e ∷ f ∷ g ∷ []) h = refl
no_arc (a ∷ b ∷ c ∷ d ∷ e ∷ f ∷ g ∷ p ∷ []) h = refl
no_arc (a ∷ b ∷ c ∷ d ∷ e ∷ f ∷ g ∷ p ∷ q ∷ []) h = absurd (h (omega arith))
no_arc (a ∷ b ∷ c ∷ d ∷ e ∷ f ∷ g ∷ p ∷ q ∷ r ∷ more) h = refl

pub no_hit : (ws : List (List ℕ)) → length ws ≢ 3 → hit_in ws ≡ None
no_hit [] h = refl
no_hit (a ∷ []) h = refl
no_hit (a ∷ b ∷ []) h = refl
no_hit (a ∷ b ∷ c ∷ []) h = absurd (h (omega arith))
no_hit (a ∷ b ∷ c ∷ d ∷ more) h = refl

-- a line that is not too long, of a first word that begins no comment and the words behind it
module _ (line verb : List ℕ) (rest : List (List ℕ)) (short : length line ≤ line_limit)
    (words_are : words line ≡ verb ∷ rest) (no_comment : slice_index verb 0 ≢ 35) where
  by_words : (no_memory : Bool) → parsed line no_memory ≡ some_line (line_or_refusal (line_in verb rest) no_memory)
  by_words no_memory = rw (le-ltb line_limit (length line) short, words_are, ne_eqb (slice_index verb 0) 35 no_comment) refl

  pub line_read : (said : Line) → line_or_refusal (line_in verb rest) false ≡ Ok said → parsed line false ≡ Ok (Some said)
  line_read said e = by_words false ∙ ap some_line e

  pub line_refused : (f : LineFault) → line_or_refusal (line_in verb rest) (is_no_memory {T = Line} (Err f)) ≡ Err f
      → parsed line (is_no_memory {T = Line} (Err f)) ≡ Err f
  line_refused f e = by_words (is_no_memory {T = Line} (Err f)) ∙ ap some_line e

pub line_without_words : (line : List ℕ) → length line ≤ line_limit → words line ≡ [] → parsed line false ≡ Ok None
line_without_words line short e = rw (le-ltb line_limit (length line) short, e) refl
