-- The letters of an extended command decide what it says.
use Rattle.std.proofs.Common.{arith, ◌≡◌, ◌≢◌, ℕ, List, [], ◌∷◌, ◌++◌, take, Bool, true, false, None, Option, refl, sym, ap}
use Rattle.std.specs.Prelude.{◌&&◌, find}
use Rattle.std.specs.List.{list_any}
use Rattle.std.specs.Str.{bytes_eq}
use Rattle.std.proofs.lemmas.Bool.{false_from_ne_true}
use Rattle.std.proofs.lemmas.Slice.Eq.{bytes_eq-Decides}
use Rattle.cam_words.specs.Bytes.{is_star}
use Rattle.cam_words.specs.Heads.{packed, behind_kept}
use Rattle.cam_commands.specs.declared.names.Name.{Name}
use Rattle.cam_commands.specs.declared.names.Name.TheVariants.{ApertureMacro}
use Rattle.cam_commands.specs.Commands.{Unknown}
use Rattle.cam_commands.specs.ExtendedCommands.{letters_of, names, name_of, by_name, named_command, extended_command}
use Rattle.cam_commands.specs.Laws.{NamesDecide}

known_said : (name : Name) (text : List ℕ) → list_any is_star text ≡ false
    → extended_command (letters_of name ++ text) ≡ named_command name text
unfolding extended_command name_of
known_said name text e = grind arith

and_false : (b : Bool) → (b && false) ≡ false
and_false b = grind arith

macro_said : (text : List ℕ) → extended_command (letters_of ApertureMacro ++ text) ≡ named_command ApertureMacro text
unfolding extended_command name_of
macro_said text = rw (and_false (list_any is_star text)) refl

several_said : (name : Name) (text : List ℕ) → name ≢ ApertureMacro → list_any is_star text ≡ true
    → extended_command (letters_of name ++ text) ≡ Unknown
unfolding extended_command name_of
several_said name text h e = grind arith

found_nowhere : (p : Name → Bool) (xs : List Name) → ((x : Name) → p x ≡ false) → find p xs ≡ None
found_nowhere p [] h = refl
found_nowhere p (x ∷ xs) h = rw (h x) (found_nowhere p xs h)

unnamed : (letters : List ℕ) → ((name : Name) → letters ≢ letters_of name) → name_of letters ≡ None
unfolding name_of
unnamed letters h =
    found_nowhere (λ name. bytes_eq (letters_of name) letters) names
    (λ name. false_from_ne_true (bytes_eq (letters_of name) letters) (λ t. h name (sym ((bytes_eq-Decides (letters_of name) letters).0 t))))

unknown_said : (text : List ℕ) → ((name : Name) → take 2 (packed text) ≢ letters_of name) → extended_command text ≡ Unknown
unfolding extended_command
unknown_said text h = ap (λ (n : Option Name). by_name n (behind_kept 2 text)) (unnamed (take 2 (packed text)) h)

pub names_decide : NamesDecide
names_decide = record { known = known_said; macro = macro_said; several = several_said; unknown = unknown_said }
