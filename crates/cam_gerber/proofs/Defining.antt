-- Definitions of apertures and macros.
use Rattle.std.proofs.Common.{◌≡◌, ℕ, suc, ◌+◌, take, arith, List, [], ◌∷◌, ◌++◌, Bool, true, false, cond, Option, Some}
use Rattle.std.proofs.Common.{None, refl, sym, ap, ap₂, ◌∙◌, subst, inr}
use Rattle.std.specs.Prelude.{unwrap_or, is_none, is_some, nat_eq, ◌==◌, ◌||◌, MatchOption}
use Rattle.cam_refusals.specs.declared.refusal.Refusal.{Refusal}
use Rattle.cam_refusals.specs.declared.refusal.Refusal.TheVariants.{NoUnit, Redefined, StrayBlock, UnknownCommand}
use Rattle.cam_refusals.specs.declared.refusal.Refusal.TheVariants as refusal
use Rattle.cam_refusals.specs.Checks.{Checks, IsLeast, NoneHolds, least}
use Rattle.cam_refusals.specs.Checks as of_checks
use Rattle.cam_refusals.specs.Refusals.{UnlessMemory, number_of}
use Rattle.cam_refusals.proofs.Checks.{tells_least, least_is_first}
use Rattle.cam_units.specs.declared.length.Unit.{Unit as FileUnit}
use Rattle.cam_words.specs.Heads.{packed}
use Rattle.cam_macros.specs.declared.aperture_macro.Macro.{Macro}
use Rattle.cam_apertures.specs.declared.aperture.Aperture.{Aperture}
use Rattle.cam_apertures.specs.Definition.{definition, template_form, named, numbered, faults_of, IsDefined}
use Rattle.cam_apertures.specs.declared.fault.AdFault.{AdFault}
use Rattle.cam_apertures.specs.declared.fault.AdFault.TheVariants.{OutOfMemory}
use Rattle.cam_apertures.specs.Faults.{aperture_refusal}
use Rattle.cam_objects.specs.declared.entry.Entry.{Entry}
use Rattle.cam_objects.specs.declared.entry.Entry.TheVariants as entry
use Rattle.cam_gerber.specs.State.{Past, unit_in, in_region}
use Rattle.cam_units.specs.Nearest.{unit_or_mm}
use Rattle.cam_gerber.specs.Layers.{macros_in, entries_in, defined, defined_by}
use Rattle.cam_gerber.specs.Faults.{faults, command_faults, is_reserved, is_taken_again}
use Rattle.cam_gerber.specs.Statements.{Says, NamesMacro, IsMacroOf}
use Rattle.std.specs.List.{slice_split, onto_first, before_first}
use Rattle.cam_macros.specs.declared.part.Part.{Part}
use Rattle.cam_macros.specs.Reading.{pieces, first, is_macro_name, IsMacroReading, IsMacroRefused}
use Rattle.cam_macros.specs.declared.fault.MacroFault.{MacroFault}
use Rattle.cam_macros.specs.declared.fault.MacroFault.TheVariants as macro
use Rattle.cam_commands.specs.Commands.{DefineAperture}
use Rattle.cam_objects.specs.declared.layer.Layer.{Layer}
use Rattle.cam_gerber.specs.declared.running.Running.{Running}
use Rattle.cam_gerber.specs.Machinery.Tracking.{Tracks}
use Rattle.cam_gerber.proofs.Pasts.{none_of}
use Rattle.std.proofs.lemmas.Bool.{or_parts}
use Rattle.std.specs.Map.{lookup}
use Rattle.cam_gerber.proofs.Least.{least_none, pass_least}

-- bytes that do not count are dropped once
pub packed_again : (text : List ℕ) → packed (packed text) ≡ packed text
packed_again [] = refl
packed_again (byte ∷ text) = grind (arith, packed_again text)

pub same_definition : (text : List ℕ) → template_form (packed text) ≡ template_form text
same_definition text = ap definition (packed_again text)

pub defined_number_is : (text : List ℕ) (macros : List Macro) (unit : FileUnit) (n : ℕ) (a : Aperture)
    → IsDefined text macros unit n a → numbered (template_form text) ≡ Some n
defined_number_is text macros unit n a d = ap numbered d.form ∙ d.number_is

pub defined_entry : (text : List ℕ) (macros : List Macro) (unit : FileUnit) (n : ℕ) (a : Aperture) → IsDefined text macros unit n a
    → defined_by (template_form text) macros unit ≡ (n, entry.Aperture a) ∷ []
defined_entry text macros unit n a d = rw (d.form, d.number_is, d.values_are, d.aperture_is) refl

pub faultless_definition : (text : List ℕ) (macros : List Macro) (unit : FileUnit) (n : ℕ) (a : Aperture) → IsDefined text macros unit n a
    → least number_of (faults_of (template_form text) macros unit) ≡ None
faultless_definition text macros unit n a d = least_none _ d.faultless

-- what a definition is refused for, beside its own faults
abbrev with_state : Past → Option ℕ → Checks Refusal → Checks Refusal
with_state past number checks = (NoUnit, is_none (unit_in past)) ∷ (Redefined, is_taken_again past number) ∷ (StrayBlock, in_region past) ∷ checks

pub definition_faults : (past : Past) (text : List ℕ) (macros : List Macro) (unit : FileUnit) (number : Option ℕ) (told result : Option Refusal)
    → macros ≡ macros_in past → unit ≡ unit_or_mm (unit_in past)
    → number ≡ numbered (template_form text)
    → ((checks : Checks Refusal) → told ≡ least number_of checks → result ≡ least number_of (with_state past number checks))
    → told ≡ least number_of (faults_of (template_form text) macros unit)
    → result ≡ least number_of (command_faults past (DefineAperture (packed text)))
definition_faults past text macros unit number told result m u n lowest e = grind (arith, same_definition)

-- a definition's own fault makes one of the command
pub some_fault : (past : Past) (number : Option ℕ) (checks : Checks Refusal) (result : Option Refusal) (refusal : Refusal)
    → IsLeast number_of checks refusal → result ≡ least number_of (with_state past number checks) → result ≡ Some (unwrap_or result refusal)
some_fault past number checks result refusal h e = go result (subst (λ o. MatchOption o (NoneHolds all) (IsLeast number_of all)) (sym e) (tells_least number_of all))
  where
    all : Checks Refusal
    all = with_state past number checks

    go : (o : Option Refusal) → MatchOption o (NoneHolds all) (IsLeast number_of all) → o ≡ Some (unwrap_or o refusal)
    go None none = absurd (none refusal (inr (inr (inr h.holds))))
    go (Some least) is = refl

-- a number that is not refused is new
pub new_number : (past : Past) (number : ℕ) (checks : Checks Refusal) (entries : List (ℕ × Entry)) → entries ≡ entries_in past
    → least number_of (with_state past (Some number) checks) ≡ None → lookup (nat_eq number) entries ≡ None
new_number past number checks entries e h = grind (arith, pass_least, or_parts, none_of)

pub defined_tracks : (past : Past) (text : List ℕ) (old : Running) (unit : FileUnit) (n : ℕ) (a : Aperture) (layer : Layer)
    → Tracks past old → unit ≡ unit_or_mm (unit_in past)
    → IsDefined text old.built.macros unit n a → layer.apertures ≡ old.built.layer.apertures ++ (n, entry.Aperture a) ∷ []
    → layer.items ≡ old.built.layer.items
    → Tracks (Says (DefineAperture (packed text)) ∷ past) (record old { built = record old.built { layer = layer } })
defined_tracks past text old unit n a layer t u d entries items = record {
  modal = search t.modal;
  region = record { inside = t.region.inside; start = t.region.start; segs = t.region.segs };
  frames = record { blocks = t.frames.blocks; repeat = t.frames.repeat };
  built = record {
    entries = entries ∙ ap₂ (λ xs ys. xs ++ ys) t.built.entries (sym made);
    items = ap (λ v. v.items) items ∙ t.built.items;
    macros = t.built.macros;
    leaves = t.built.leaves;
  };
  attributes = t.attributes;
}
  where
    made : defined past (packed text) ≡ (n, entry.Aperture a) ∷ []
    made = ap (λ d. defined_by d (macros_in past) (unit_or_mm (unit_in past))) (same_definition text)
        ∙ ap₂ (λ ms v. defined_by (template_form text) ms v) (sym t.built.macros) (sym u) ∙ defined_entry text old.built.macros unit n a d

-- a refusal that is not of memory
pub meant : (fault : AdFault) (P : Type 0) → (fault ≡ OutOfMemory → ⊥) → UnlessMemory (aperture_refusal fault) P → P
meant fault P other h = grind arith

-- ---- macros

same_pieces : (text : List ℕ) → pieces (packed text) ≡ pieces text
same_pieces text = ap (slice_split (λ b. b == 42)) (packed_again text)

-- a text and the same without the bytes that do not count stand for the same macros
to_packed : (text name : List ℕ) (parts : List Part) → IsMacroReading text name parts → IsMacroReading (packed text) name parts
to_packed text name parts r = grind (arith, same_pieces)

from_packed : (text name : List ℕ) (parts : List Part) → IsMacroReading (packed text) name parts → IsMacroReading text name parts
from_packed text name parts r = grind (arith, same_pieces)

-- what a macro's text says
pub said_macro : (text name : List ℕ) (parts : List Part) → IsMacroReading text name parts
    → IsMacroOf (packed text) (NamesMacro name (Some parts))
said_macro text name parts r = (r.name_is ∙ ap first (sym (same_pieces text)), to_packed text name parts r)

pub said_none : (text : List ℕ) → ((parts : List Part) → ¬ IsMacroReading text (first (pieces text)) parts)
    → IsMacroOf (packed text) (NamesMacro (first (pieces text)) None)
said_none text none = (ap first (sym (same_pieces text)), λ parts r. none parts (from_packed text (first (pieces text)) parts r))

module _ (past : Past) (name : List ℕ) (parts : Option (List Part)) (macros : List Macro) (m : macros ≡ macros_in past) where
  told : least number_of (faults past (NamesMacro name parts)) ≡ of_checks.first_holding (faults past (NamesMacro name parts))
  told = least_is_first number_of 1 (faults past (NamesMacro name parts)) refl

  same_taken : (is_some (named (macros_in past) name) || is_reserved name) ≡ (is_some (named macros name) || is_reserved name)
  same_taken = ap (λ ms. is_some (named ms name) || is_reserved name) (sym m)

  pub refused_name : is_macro_name name ≡ false → least number_of (faults past (NamesMacro name parts)) ≡ Some UnknownCommand
  refused_name h = told ∙ rw h refl

  module _ (h : is_macro_name name ≡ true) where
    pub refused_again : (is_some (named macros name) || is_reserved name) ≡ true
        → least number_of (faults past (NamesMacro name parts)) ≡ Some Redefined
    refused_again k = told ∙ rw (h, same_taken ∙ k) refl

    module _ (k : (is_some (named macros name) || is_reserved name) ≡ false) where
      pub refused_inside : in_region past ≡ true → least number_of (faults past (NamesMacro name parts)) ≡ Some StrayBlock
      refused_inside l = told ∙ rw (h, same_taken ∙ k, l) refl

      pub by_parts : in_region past ≡ false
          → least number_of (faults past (NamesMacro name parts)) ≡ cond (is_none parts) (Some refusal.MacroFault) None
      by_parts l = told ∙ rw (h, same_taken ∙ k, l) refl

pub macro_tracks : (past : Past) (old : Running) (made : Macro) (macros : List Macro) → Tracks past old
    → macros ≡ old.built.macros ++ made ∷ []
    → Tracks (NamesMacro made.name (Some made.parts) ∷ past) (record old { built = record old.built { macros = macros } })
macro_tracks past old made macros t e = grind arith

pub bad_parts : (text : List ℕ) (fault : MacroFault) → fault ≡ macro.Malformed → IsMacroRefused text fault
    → (is_macro_name (first (pieces text)) ≡ true) × ((parts : List Part) → ¬ IsMacroReading text (first (pieces text)) parts)
bad_parts text fault e h = let r = subst (IsMacroRefused text) e h in (r.0, λ parts. r.1 (first (pieces text)) parts)

pub bad_name : (text : List ℕ) (fault : MacroFault) → fault ≡ macro.BadName → IsMacroRefused text fault → is_macro_name (first (pieces text)) ≡ false
bad_name text fault e h = subst (IsMacroRefused text) e h

pub no_name : (text : List ℕ) → is_macro_name (first (pieces text)) ≡ false → (parts : List Part) → ¬ IsMacroReading text (first (pieces text)) parts
no_name text h parts r = let wrong : true ≡ false = sym r.named ∙ h in cc

first_onto : (x : ℕ) (ps : List (List ℕ)) → first (onto_first x ps) ≡ x ∷ first ps
first_onto x ps = grind arith

one_more : (x n : ℕ) (xs : List ℕ) → x ∷ take n xs ≡ take (1 + n) (x ∷ xs)
one_more x n xs = let e : suc n ≡ 1 + n = omega arith in ap (λ k. take k (x ∷ xs)) e

first_piece : (p : ℕ → Bool) (xs : List ℕ) → first (slice_split p xs) ≡ before_first p xs
first_piece p [] = refl
first_piece p (x ∷ xs) = grind (arith, first_onto, one_more, first_piece p xs)

pub name_before_star : (text : List ℕ) → before_first (λ b. b == 42) (packed text) ≡ first (pieces text)
name_before_star text = sym (first_piece (λ b. b == 42) (packed text))

-- macros that are the same are tracked
pub same_macros : (past : Past) (r : Running) (macros : List Macro) → macros ≡ r.built.macros → Tracks past r
    → Tracks past (record r { built = record r.built { macros = macros } })
same_macros past r macros e t = grind arith
