-- The file attributes behind a past, with one more.
use Rattle.std.proofs.Common.{◌≡◌, ℕ, ◌∷◌, [], ◌++◌, ◌||◌, Bool, true, false, cond, List, length, map, Option, None, Some, refl, sym}
use Rattle.std.proofs.Common.{ap, ap₂, subst, ◌∙◌, arith}
use Rattle.std.specs.Prelude.{nat_lt, unwrap_or}
use Rattle.std.specs.Option.{option_or}
use Rattle.std.specs.List.{AllByRecursion, IsDistinct, list_any}
use Rattle.std.specs.Str.{bytes_eq}
use Rattle.std.proofs.lemmas.Cmp.{nat_list_eq_equiv}
use Rattle.std.proofs.lemmas.List.{length-map}
use Rattle.std.proofs.lemmas.Map.Keys.{IsDistinct-from_apart, IsDistinct-head, IsDistinct-push, IsDistinct-tail}
use Rattle.std.proofs.lemmas.Slice.Eq.{bytes_eq-Decides}
use Rattle.cam_objects.specs.declared.attribute.Attribute.{Attribute}
use Rattle.cam_objects.specs.Attributes.{attribute_of, with_attribute}
use Rattle.cam_commands.specs.declared.names.FreeText.TheVariants.{FileAttribute}
use Rattle.cam_commands.specs.Commands.{KeepText}
use Rattle.cam_gerber.specs.declared.running.Running.{Running}
use Rattle.cam_gerber.specs.Statements.{Says}
use Rattle.cam_gerber.specs.State.{Past, newest}
use Rattle.cam_gerber.specs.Attributes.{SetsItsAttribute, attributes_in, attribute_fields, fields_told, attribute_name, names_in, with_name}
use Rattle.cam_gerber.specs.Machinery.Tracking.{Tracks}

-- ---- no name stands twice

with_name_distinct : (name : List ℕ) (names : List (List ℕ)) → IsDistinct bytes_eq names → IsDistinct bytes_eq (with_name name names)
with_name_distinct name names h = grind (arith, IsDistinct-push, nat_list_eq_equiv)

distinct_names : (past : Past) → IsDistinct bytes_eq (names_in past)
distinct_names [] = IsDistinct-from_apart bytes_eq [] (λ i j d low high. absurd (omega arith))
distinct_names (Says (KeepText FileAttribute text) ∷ older) = with_name_distinct (attribute_name text) (names_in older) (distinct_names older)
distinct_names (_ ∷ older) = distinct_names older

-- ---- one more command

-- a name that takes the fields f0 in place of what was written of it, or goes last with them
module _ (n0 f0 : List ℕ) (o : List ℕ → Option (List ℕ)) where
  abbrev old : List ℕ → Attribute
  old n = attribute_of n (unwrap_or (o n) [])

  abbrev new_by : Bool → List ℕ → Attribute
  new_by b n = attribute_of n (unwrap_or (option_or (cond b (Some f0) None) (o n)) [])

  abbrev new : List ℕ → Attribute
  new n = new_by (bytes_eq n0 n) n

  written : (n : List ℕ) → bytes_eq n0 n ≡ true → new n ≡ attribute_of n0 f0
  written n e = ap (λ b. new_by b n) e ∙ ap (λ m. attribute_of m f0) (sym ((bytes_eq-Decides n0 n).0 e))

  kept : (n : List ℕ) → bytes_eq n0 n ≡ false → new n ≡ old n
  kept n e = ap (λ b. new_by b n) e

  others : (ns : List (List ℕ)) → AllByRecursion (λ n. bytes_eq n0 n ≡ false) ns → map new ns ≡ map old ns
  others [] h = refl
  others (n ∷ ns) h = ap₂ (λ (a : Attribute) (rest : List Attribute). a ∷ rest) (kept n h.0) (others ns h.1)

  pulled : (n : List ℕ) (ns : List (List ℕ)) (b : Bool)
      → map new (cond b (n ∷ ns) (n ∷ (ns ++ n0 ∷ []))) ≡ new n ∷ map new (cond b ns (ns ++ n0 ∷ []))
  pulled n ns b = grind arith

  setting : (ns : List (List ℕ)) → IsDistinct bytes_eq ns
      → map new (with_name n0 ns) ≡ with_attribute (attribute_of n0 f0) (map old ns)
  setting [] h = ap (λ (a : Attribute). a ∷ []) (written n0 ((bytes_eq-Decides n0 n0).1 refl))
  setting (n ∷ ns) h = by (bytes_eq n0 n) refl (setting ns (IsDistinct-tail bytes_eq n ns h)) where
    by : (b : Bool) → bytes_eq n0 n ≡ b → map new (with_name n0 ns) ≡ with_attribute (attribute_of n0 f0) (map old ns)
        → map new (cond (b || list_any (bytes_eq n0) ns) (n ∷ ns) (n ∷ (ns ++ n0 ∷ [])))
        ≡ cond (bytes_eq n n0) (attribute_of n0 f0 ∷ map old ns) (old n ∷ with_attribute (attribute_of n0 f0) (map old ns))
    by true e rest =
        let apart = subst (λ (m : List ℕ). AllByRecursion (λ k. bytes_eq m k ≡ false) ns) (sym ((bytes_eq-Decides n0 n).0 e))
        (IsDistinct-head bytes_eq n ns h) in
        ap₂ (λ (a : Attribute) (all : List Attribute). a ∷ all) (written n e) (others ns apart)
        ∙ ap (λ b. cond b (attribute_of n0 f0 ∷ map old ns) (old n ∷ with_attribute (attribute_of n0 f0) (map old ns)))
        (sym (nat_list_eq_equiv.symm n n0 ∙ e))
    by false e rest =
        pulled n ns (list_any (bytes_eq n0) ns)
        ∙ ap₂ (λ (a : Attribute) (all : List Attribute). a ∷ all) (kept n e) rest
        ∙ ap (λ b. cond b (attribute_of n0 f0 ∷ map old ns) (old n ∷ with_attribute (attribute_of n0 f0) (map old ns)))
        (sym (nat_list_eq_equiv.symm n n0 ∙ e))

pub sets_its_attribute : SetsItsAttribute
sets_its_attribute past text =
    setting (attribute_name text) (attribute_fields text) (λ n. newest (fields_told n) past) (names_in past) (distinct_names past)

-- ---- the record follows

pub set_tracks : (past : Past) (text : List ℕ) (old : Running) (attributes : List Attribute) → Tracks past old
    → attributes ≡ with_attribute (attribute_of (attribute_name text) (attribute_fields text)) old.attributes
    → Tracks (Says (KeepText FileAttribute text) ∷ past) (record old { attributes = attributes })
set_tracks past text old attributes t e = record {
  modal = search t.modal;
  region = record { inside = t.region.inside; start = t.region.start; segs = t.region.segs };
  frames = record { blocks = t.frames.blocks; repeat = t.frames.repeat };
  built = record { entries = t.built.entries; items = t.built.items; macros = t.built.macros; leaves = t.built.leaves };
  attributes =
      e ∙ ap (with_attribute (attribute_of (attribute_name text) (attribute_fields text))) t.attributes ∙ sym (sets_its_attribute past text);
}

-- how many names there are
pub names_counted : (past : Past) (text : List ℕ) (attributes : List Attribute) → attributes ≡ attributes_in past
    → nat_lt 1000 (length (with_attribute (attribute_of (attribute_name text) (attribute_fields text)) attributes))
    ≡ nat_lt 1000 (length (names_in (Says (KeepText FileAttribute text) ∷ past)))
names_counted past text attributes e =
    ap (λ (xs : List Attribute). nat_lt 1000 (length xs))
    (ap (with_attribute (attribute_of (attribute_name text) (attribute_fields text))) e ∙ sym (sets_its_attribute past text))
    ∙ ap (nat_lt 1000) (length-map (names_in (Says (KeepText FileAttribute text) ∷ past)) _)
