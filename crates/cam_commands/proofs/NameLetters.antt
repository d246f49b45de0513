-- The names of extended commands by their letters.
use Rattle.std.proofs.Common.{arith}
use Rattle.std.proofs.Common.{◌≡◌, ℕ, List, [], ◌∷◌, take, Bool, true, false, None, Some, Option, refl, sym, ap, ◌∙◌, eqb, ne_eqb}
use Rattle.std.specs.Prelude.{◌&&◌, not}
use Rattle.std.specs.List.{list_any}
use Rattle.cam_words.specs.Bytes.{is_star}
use Rattle.cam_words.specs.Heads.{packed, behind_kept}
use Rattle.cam_commands.specs.declared.names.Name.{Name}
use Rattle.cam_commands.specs.Commands.{Unknown}
use Rattle.cam_commands.specs.ExtendedCommands.{letters_of, name_of, by_name, named_command, may_hold_star, extended_command}
use Rattle.cam_commands.proofs.Kept.{behind_more}

other : (k code : ℕ) → (code ≡ k → ⊥) → eqb k code ≡ false
other k code apart = ne_eqb k code (λ e. apart (sym e))

-- each name is told by its letters
pub named : (name : Name) → name_of (letters_of name) ≡ Some name
unfolding name_of
named name = grind arith

pub none_behind_70 : (first second : ℕ) → first ≡ 70 → (second ≡ 83 → ⊥) → None ≡ name_of (first ∷ second ∷ [])
unfolding name_of
none_behind_70 first second is n83 = rw (is, other 83 second n83) refl

pub none_behind_77 : (first second : ℕ) → first ≡ 77 → (second ≡ 79 → ⊥) → (second ≡ 73 → ⊥) → None ≡ name_of (first ∷ second ∷ [])
unfolding name_of
none_behind_77 first second is n79 n73 = rw (is, other 79 second n79, other 73 second n73) refl

pub none_behind_65 : (first second : ℕ) → first ≡ 65 → (second ≡ 68 → ⊥) → (second ≡ 77 → ⊥) → (second ≡ 66 → ⊥) → (second ≡ 83 → ⊥)
    → None ≡ name_of (first ∷ second ∷ [])
unfolding name_of
none_behind_65 first second is n68 n77 n66 n83 = grind (arith, other)

pub none_behind_83 : (first second : ℕ) → first ≡ 83 → (second ≡ 82 → ⊥) → (second ≡ 70 → ⊥) → None ≡ name_of (first ∷ second ∷ [])
unfolding name_of
none_behind_83 first second is n82 n70 = rw (is, other 82 second n82, other 70 second n70) refl

pub none_behind_76 : (first second : ℕ) → first ≡ 76 → (second ≡ 80 → ⊥) → (second ≡ 77 → ⊥) → (second ≡ 82 → ⊥) → (second ≡ 83 → ⊥)
    → (second ≡ 78 → ⊥) → None ≡ name_of (first ∷ second ∷ [])
unfolding name_of
none_behind_76 first second is n80 n77 n82 n83 n78 = grind (arith, other)

pub none_behind_84 : (first second : ℕ) → first ≡ 84 → (second ≡ 70 → ⊥) → (second ≡ 65 → ⊥) → (second ≡ 79 → ⊥) → (second ≡ 68 → ⊥)
    → None ≡ name_of (first ∷ second ∷ [])
unfolding name_of
none_behind_84 first second is n70 n65 n79 n68 = grind (arith, other)

pub none_behind_73 : (first second : ℕ) → first ≡ 73 → (second ≡ 78 → ⊥) → (second ≡ 80 → ⊥) → (second ≡ 82 → ⊥)
    → None ≡ name_of (first ∷ second ∷ [])
unfolding name_of
none_behind_73 first second is n78 n80 n82 = rw (is, other 78 second n78, other 80 second n80, other 82 second n82) refl

pub none_behind_79 : (first second : ℕ) → first ≡ 79 → (second ≡ 70 → ⊥) → None ≡ name_of (first ∷ second ∷ [])
unfolding name_of
none_behind_79 first second is n70 = rw (is, other 70 second n70) refl

pub none_of_letters : (first second : ℕ) → (first ≡ 70 → ⊥) → (first ≡ 77 → ⊥) → (first ≡ 65 → ⊥) → (first ≡ 83 → ⊥) → (first ≡ 76 → ⊥)
    → (first ≡ 84 → ⊥) → (first ≡ 73 → ⊥) → (first ≡ 79 → ⊥) → None ≡ name_of (first ∷ second ∷ [])
unfolding name_of
none_of_letters first second n70 n77 n65 n83 n76 n84 n73 n79 = grind (arith, other)

and_false : (b : Bool) → (b && false) ≡ false
and_false b = grind arith

none_of_one : (first : ℕ) → name_of (first ∷ []) ≡ None
unfolding name_of
none_of_one first = simp and_false

none_of_nothing : name_of [] ≡ None
unfolding name_of
none_of_nothing = refl

pub nothing_said : (text : List ℕ) → packed text ≡ [] → Unknown ≡ extended_command text
unfolding extended_command
nothing_said text e = rw (e, none_of_nothing) refl

pub one_letter_said : (text behind : List ℕ) (first : ℕ) → packed text ≡ first ∷ packed behind → packed behind ≡ []
    → Unknown ≡ extended_command text
unfolding extended_command
one_letter_said text behind first e f = rw (e, f, none_of_one first) refl

-- the first two letters, and what stands behind them
pub record Begins (text behind rest : List ℕ) (first second : ℕ) : Type 0 where
  pub one : packed text ≡ first ∷ packed behind
  pub two : packed behind ≡ second ∷ packed rest
  pub once : behind_kept 1 text ≡ behind
  pub twice : behind_kept 1 behind ≡ rest

said_by_name : (text behind rest : List ℕ) (first second : ℕ) → Begins text behind rest first second
    → by_name (name_of (first ∷ second ∷ [])) rest ≡ extended_command text
unfolding extended_command
said_by_name text behind rest first second b =
    let letters : take 2 (packed text) ≡ first ∷ second ∷ [] = rw (b.one, b.two) refl in
    let behind_two : behind_kept 2 text ≡ rest = sym (behind_more 1 text) ∙ ap (behind_kept 1) b.once ∙ b.twice in
    ap (by_name (name_of (first ∷ second ∷ []))) (sym behind_two)
    ∙ ap (λ (l : List ℕ). by_name (name_of l) (behind_kept 2 text)) (sym letters)

pub no_name_said : (text behind rest : List ℕ) (first second : ℕ) → Begins text behind rest first second
    → None ≡ name_of (first ∷ second ∷ []) → Unknown ≡ extended_command text
no_name_said text behind rest first second b e = ap (λ (n : Option Name). by_name n rest) e ∙ said_by_name text behind rest first second b

pub star_said : (text behind rest : List ℕ) (first second : ℕ) (name : Name) → Begins text behind rest first second
    → Some name ≡ name_of (first ∷ second ∷ []) → (list_any is_star rest && not (may_hold_star name)) ≡ true
    → Unknown ≡ extended_command text
star_said text behind rest first second name b e star =
    let held : Unknown ≡ by_name (Some name) rest = rw star refl in
    held ∙ ap (λ (n : Option Name). by_name n rest) e ∙ said_by_name text behind rest first second b

pub name_said : (text behind rest : List ℕ) (first second : ℕ) (name : Name) → Begins text behind rest first second
    → Some name ≡ name_of (first ∷ second ∷ []) → (list_any is_star rest && not (may_hold_star name)) ≡ false
    → named_command name rest ≡ extended_command text
name_said text behind rest first second name b e none =
    let held : named_command name rest ≡ by_name (Some name) rest = rw none refl in
    held ∙ ap (λ (n : Option Name). by_name n rest) e ∙ said_by_name text behind rest first second b
