-- The opening of a canonical text: its file attributes are spelled, without a fault, and kept in their order.
use Rattle.std.proofs.Common.{◌≡◌, ◌≢◌, ℕ, ◌+◌, ◌<◌, ◌≤◌, List, [], ◌∷◌, ◌++◌, ◌||◌, Bool, true, false, cond, not, length}
use Rattle.std.proofs.Common.{codes, None, Some, IsTrue, pos, refl, sym, ap, ap₂, subst, ◌∙◌, arith}
use Rattle.std.specs.Prelude.{nat_lt, fold}
use Rattle.std.specs.List.{AllByRecursion, IsDistinct, list_any, position_or_len}
use Rattle.std.specs.Str.{bytes_eq}
use Rattle.std.proofs.lemmas.Bool.{eq-eqb, false≢true, le-ltb, ne_eqb}
use Rattle.std.proofs.lemmas.Bool.Decides.{nat_tests}
use Rattle.std.proofs.lemmas.List.{length-append}
use Rattle.std.proofs.lemmas.List.Elements.{All-cons, All-head, All-nil, All-tail, recursion_from_All}
use Rattle.std.proofs.lemmas.Map.Keys.{IsDistinct-head, IsDistinct-tail}
use Rattle.std.proofs.Math.Seq.{drop-append_seam, take-append_seam}
use Rattle.cam_refusals.specs.declared.refusal.Refusal.TheVariants.{TooMuch}
use Rattle.cam_units.specs.declared.length.Unit.TheVariants.{Mm}
use Rattle.cam_units.specs.declared.turn.Turn.TheVariants.{R0}
use Rattle.cam_words.specs.Bytes.{is_control, is_forbidden_in_code, is_star, percent}
use Rattle.cam_words.specs.Heads.{is_free_text}
use Rattle.cam_objects.specs.declared.attribute.Attribute.{Attribute}
use Rattle.cam_objects.specs.Attributes.{AreAttributes, AreFields, IsAttribute, attribute_of, has_name, is_attribute_byte}
use Rattle.cam_objects.specs.Attributes.{names_of, with_attribute}
use Rattle.cam_objects.proofs.EditedAttributes.{Lacks}
use Rattle.cam_commands.specs.declared.names.FreeText.TheVariants.{FileAttribute}
use Rattle.cam_commands.specs.declared.names.Name.TheVariants.{Free}
use Rattle.cam_commands.specs.ExtendedCommands.{named_command}
use Rattle.cam_commands.specs.Syntax.{command_of}
use Rattle.cam_commands.proofs.NameLaws.{names_decide}
use Rattle.cam_gerber.specs.State.{Past, aperture_in, dark_in, format_in, in_region, mirror_in, point_in, rotation_in, unit_in}
use Rattle.cam_gerber.specs.Homes.{open_blocks, open_repeat}
use Rattle.cam_gerber.specs.Layers.{entries_in, items_in, leaves_in, macros_in}
use Rattle.cam_gerber.specs.Computing.{statement_said}
use Rattle.cam_gerber.specs.Attributes.{attributes_in, attribute_fields, is_comma, attribute_name, names_in}
use Rattle.cam_gerber.specs.Laws.{IsFaultless}
use Rattle.cam_gerber.proofs.FileAttributes.{names_counted, sets_its_attribute}
use Rattle.cam_writers.specs.Phrases.{Attach, said, spelled}
use Rattle.cam_writers.specs.GerberTexts.{said_by, units, with_attribute_of}
use Rattle.cam_writers.proofs.GerberSayings.{Spells}
use Rattle.cam_writers.proofs.Walks.{fewer, sound_at, walk}

abbrev text_in : Attribute → List ℕ
text_in a = a.name ++ a.fields

-- ---- the bytes

allowed : (byte : ℕ) → IsTrue (is_attribute_byte byte) → (byte ≢ percent) × (is_control byte ≡ false) × (is_star byte ≡ false)
allowed byte h = grind (arith, false≢true, nat_tests, ne_eqb)

-- each byte may stand in an attribute
abbrev IsText : List ℕ → Type 0
IsText text = AllByRecursion (λ byte. IsTrue (is_attribute_byte byte)) text

text_more : (xs ys : List ℕ) → IsText xs → IsText ys → IsText (xs ++ ys)
text_more [] ys h k = k
text_more (x ∷ xs) ys h k = (h.0, text_more xs ys h.1 k)

text_is : (a : Attribute) → IsAttribute a → IsText (text_in a)
text_is a h = grind (arith, text_more, recursion_from_All)

starless : (text : List ℕ) → IsText text → list_any is_star text ≡ false
starless [] h = refl
starless (byte ∷ text) h = ap₂ (λ a b. a || b) (allowed byte h.0).2 (starless text h.1)

-- ---- what an attribute says

is_free : (text : List ℕ) → is_free_text (codes "TF" ++ text) ≡ true
unfolding is_free_text
is_free text = refl

may_hold : (free : Bool) (text : List ℕ) → free ≡ true → IsText text
    → AllByRecursion (λ byte. (byte ≢ percent) × (cond free is_control is_forbidden_in_code byte ≡ false)) text
may_hold free [] is h = tt
may_hold free (byte ∷ text) is h =
    let a = allowed byte h.0 in
    ((a.0, subst (λ b. cond b is_control is_forbidden_in_code byte ≡ false) (sym is) a.1), may_hold free text is h.1)

pub attribute_spells : (a : Attribute) → IsAttribute a → Spells (Attach a)
unfolding spelled command_of named_command
attribute_spells a h = record {
  means = ap statement_said (names_decide.known (Free FileAttribute) (text_in a) (starless (text_in a) (text_is a h)));
  found = (
    may_hold (is_free_text (codes "TF" ++ text_in a)) (codes "TF" ++ text_in a) (is_free (text_in a))
        (refl, (refl, text_is a h)),
    tt,
  );
}

-- ---- its name and its fields

comma_at : (name fields : List ℕ) → AllByRecursion (λ byte. byte ≢ 44) name → AreFields fields
    → position_or_len is_comma (name ++ fields) ≡ length name
comma_at [] [] plain apart = refl
comma_at [] (byte ∷ fields) plain apart = grind (arith, eq-eqb)
comma_at (byte ∷ name) fields plain apart =
    ap (λ b. cond (not b) (1 + position_or_len is_comma (name ++ fields)) 0) (ne_eqb byte 44 plain.0)
    ∙ (let rest = comma_at name fields plain.1 apart in omega arith)

itself : (a : Attribute) → IsAttribute a → attribute_of (attribute_name (text_in a)) (attribute_fields (text_in a)) ≡ a
itself a h = grind (arith, comma_at, recursion_from_All, take-append_seam, drop-append_seam)

-- ---- one after another

set_last : (a : Attribute) (front : List Attribute) → Lacks a.name front → with_attribute a front ≡ front ++ a ∷ []
set_last a [] h = refl
set_last a (b ∷ front) h =
    grind (arith, All-head, All-tail, set_last a front (All-tail (λ c. has_name a.name c ≡ false) b front h))

apart_at : (front rest : List Attribute) (a : Attribute) (name : List ℕ)
    → AllByRecursion (λ n. bytes_eq name n ≡ false) (names_of (front ++ a ∷ rest)) → bytes_eq name a.name ≡ false
apart_at [] rest a name h = h.0
apart_at (b ∷ front) rest a name h = apart_at front rest a name h.1

lacking : (front rest : List Attribute) (a : Attribute) → IsDistinct bytes_eq (names_of (front ++ a ∷ rest)) → Lacks a.name front
lacking [] rest a h = All-nil (λ c. has_name a.name c ≡ false)
lacking (b ∷ front) rest a h =
    All-cons (λ c. has_name a.name c ≡ false) b front
    (apart_at front rest a b.name (IsDistinct-head bytes_eq b.name (names_of (front ++ a ∷ rest)) h))
    (lacking front rest a (IsDistinct-tail bytes_eq b.name (names_of (front ++ a ∷ rest)) h))

-- nothing but the format, the unit and these attributes is set
pub record Opens (past : Past) (front : List Attribute) : Type 0 where
  pub format : format_in past ≡ Some (record { integers = 4; decimals = 6 })
  pub unit : unit_in past ≡ Some Mm
  pub dark : dark_in past ≡ true
  pub mirror : mirror_in past ≡ R0
  pub rotation : rotation_in past ≡ R0
  pub aperture : aperture_in past ≡ None
  pub point : point_in past ≡ record { x = pos 0; y = pos 0 }
  pub region : in_region past ≡ false
  pub blocks : open_blocks past ≡ []
  pub repeat : open_repeat past ≡ None
  pub entries : entries_in past ≡ []
  pub listed : items_in past ≡ []
  pub leaves : leaves_in past ≡ 0
  pub macros : macros_in past ≡ []
  pub attributes : attributes_in past ≡ front
  pub none : IsFaultless past

attribute_added : (past : Past) (front : List Attribute) (a : Attribute) → Opens past front → IsAttribute a → Lacks a.name front
    → length front < 1000 → Opens (said (Attach a) ∷ past) (front ++ a ∷ [])
attribute_added past front a o set lacks few =
    let added : with_attribute (attribute_of (attribute_name (text_in a)) (attribute_fields (text_in a))) front ≡ front ++ a ∷ [] =
    ap (λ (b : Attribute). with_attribute b front) (itself a set) ∙ set_last a front lacks in
    let size : length (front ++ a ∷ []) ≤ 1000 = omega (arith, length-append front (a ∷ [])) in
    let counted : nat_lt 1000 (length (names_in (said (Attach a) ∷ past))) ≡ false =
    sym (names_counted past (text_in a) front (sym o.attributes))
    ∙ ap (λ (l : List Attribute). nat_lt 1000 (length l)) added ∙ le-ltb 1000 (length (front ++ a ∷ [])) size in
    let attributes : attributes_in (said (Attach a) ∷ past) ≡ front ++ a ∷ [] =
    sets_its_attribute past (text_in a)
    ∙ ap (with_attribute (attribute_of (attribute_name (text_in a)) (attribute_fields (text_in a)))) o.attributes ∙ added in
    search (attributes, ap (λ b. cond b (Some TooMuch) None) counted, o)

pub opens : (attributes : List Attribute) → AreAttributes attributes → Opens (said_by (fold with_attribute_of units attributes)) attributes
opens attributes set =
    walk with_attribute_of (λ phrases front. Opens (said_by phrases) front) attributes
    (λ phrases front a rest e o.
    attribute_added (said_by phrases) front a o (sound_at IsAttribute attributes front a rest e set.each)
    (lacking front rest a (subst (λ (all : List Attribute). IsDistinct bytes_eq (names_of all)) (sym e) set.distinct))
    (omega (arith, set.few, fewer attributes front a rest e)))
    units [] attributes refl search
