-- What was read in part, and what it makes of the whole.
use Rattle.std.proofs.Common.{◌≡◌, refl, ℕ, true, false, List, ◌∷◌, Option, None, Some, Ok, Err}
use Rattle.std.specs.Option.{option_map}
use Rattle.cam_edits.specs.declared.edit.Change.{Change}
use Rattle.cam_edits.specs.declared.edit.Change.TheVariants as changes
use Rattle.cam_edits.specs.declared.edit.NewItem.{NewItem}
use Rattle.cam_script.specs.declared.line.Line.{Line}
use Rattle.cam_script.specs.declared.line.Line.TheVariants as lines
use Rattle.cam_script.specs.declared.line.LineFault.{LineFault}
use Rattle.cam_script.specs.declared.line.LineFault.TheVariants.{LineTooLong, BadLine, Memory}
use Rattle.cam_script.specs.Commands.{changing}
use Rattle.cam_script.specs.Words.{count_in, is_name}
use Rattle.cam_script.specs.Items.{item_in}
use Rattle.cam_script.specs.Parsing.{is_no_memory, insert_change, change_in, edit_line, line_or_refusal, names_a_layer}
use Rattle.cam_script.specs.Machinery.Reading.{unless_refused}

-- a part was refused, and so is the whole
pub held_refused : {T U : Type 0} (part : Option T) (whole : T → U) (fault : LineFault)
    → unless_refused part (is_no_memory {T = T} (Err fault)) ≡ Err fault
    → unless_refused (option_map whole part) (is_no_memory {T = U} (Err fault)) ≡ Err fault
held_refused None whole LineTooLong e = cc
held_refused None whole BadLine e = refl
held_refused None whole Memory e = cc
held_refused (Some part) whole LineTooLong e = cc
held_refused (Some part) whole BadLine e = cc
held_refused (Some part) whole Memory e = refl

pub insert_refused : (words : List (List ℕ)) (k form : List ℕ) (rest : List (List ℕ)) (place : ℕ)
    (fault : LineFault) → words ≡ k ∷ form ∷ rest → Some place ≡ count_in k
    → unless_refused (item_in form rest) (is_no_memory {T = NewItem} (Err fault)) ≡ Err fault
    → unless_refused (insert_change words) (is_no_memory {T = Change} (Err fault)) ≡ Err fault
insert_refused words k form rest place fault cut count e =
    rw (cut, ← count) (held_refused (item_in form rest) (λ item. changes.Insert place item) fault e)

-- the command of an edit names its layer
names_edited : (name : List ℕ) (change : Change) → names_a_layer (lines.Command (changing name change)) ≡ true
names_edited name (changes.Insert k item) = refl
names_edited name (changes.Delete k) = refl
names_edited name (changes.Move k dx dy) = refl
names_edited name (changes.Reorder k m) = refl
names_edited name (changes.Aperture k n) = refl
names_edited name (changes.Polarity k dark) = refl
names_edited name (changes.Tool k t) = refl
names_edited name (changes.Diameter t d) = refl
names_edited name (changes.SetAttribute key fields) = refl
names_edited name (changes.DropAttribute key) = refl

-- an edit of a name and of the words behind it
module _ (verb : List ℕ) (words : List (List ℕ)) (name : List ℕ) (rest : List (List ℕ))
    (cut : words ≡ name ∷ rest) (named : is_name name ≡ true) where
  edit_of : Option Change → Option Line
  edit_of read = option_map (λ change. lines.Command (changing name change)) read

  edit_read : edit_line verb words ≡ edit_of (change_in verb rest)
  unfolding edit_of
  edit_read = rw (cut, named) refl

  pub edit_refused : (fault : LineFault) → unless_refused (change_in verb rest) (is_no_memory {T = Change} (Err fault)) ≡ Err fault
      → line_or_refusal (edit_line verb words) (is_no_memory {T = Line} (Err fault)) ≡ Err fault
  unfolding edit_of
  edit_refused fault e = rw edit_read (by_change (change_in verb rest) fault e)
    where
      by_change : (read : Option Change) (fault : LineFault)
          → unless_refused read (is_no_memory {T = Change} (Err fault)) ≡ Err fault
          → line_or_refusal (edit_of read) (is_no_memory {T = Line} (Err fault)) ≡ Err fault
      by_change None LineTooLong e = cc
      by_change None BadLine e = refl
      by_change None Memory e = cc
      by_change (Some read) LineTooLong e = cc
      by_change (Some read) BadLine e = cc
      by_change (Some read) Memory e = rw (names_edited name read) refl

  pub edit_starved : (made : Change) → unless_refused (change_in verb rest) false ≡ Ok made
      → line_or_refusal (edit_line verb words) true ≡ Err Memory
  unfolding edit_of
  edit_starved made e = rw edit_read (by_change (change_in verb rest) e)
    where
      by_change : (read : Option Change) → unless_refused read false ≡ Ok made → line_or_refusal (edit_of read) true ≡ Err Memory
      by_change None e = cc
      by_change (Some read) e = rw (names_edited name read) refl

  pub edit_made : (made : Change) → unless_refused (change_in verb rest) false ≡ Ok made
      → line_or_refusal (edit_line verb words) false ≡ Ok (lines.Command (changing name made))
  unfolding edit_of
  edit_made made e = rw edit_read (by_change (change_in verb rest) e)
    where
      by_change : (read : Option Change) → unless_refused read false ≡ Ok made
          → line_or_refusal (edit_of read) false ≡ Ok (lines.Command (changing name made))
      by_change None e = cc
      by_change (Some read) e = cc
