-- Places that are told, one after the other.
use Rattle.std.proofs.Common.{◌≡◌, ◌∙◌, ap, sym, subst, ℕ, ◌+◌, List, [], ◌∷◌, ◌++◌, append_assoc, append-nil}
use Rattle.std.specs.List.{flat_map}
use Rattle.std.proofs.lemmas.List.Concat.{flat_map-append}
use Rattle.cam_units.specs.declared.bounds.Bounds.{Bounds}
use Rattle.cam_objects.specs.Enclosed.{AreNoneEnclosed, IsFirstEnclosed}
use Rattle.cam_edits.specs.Sheets.{Content}
use Rattle.cam_ask.specs.Painted.{painted_boxes}
use Rattle.cam_ask.specs.Telling.{AreEnclosed, IsEnclosedTold}
use Rattle.cam_ask.specs.Texts.{place_line}

-- ---- the items in a box

-- the places so far, with which those from one on are all of them
pub record IsGathered (boxes : List Bounds) (outer : Bounds) (from : ℕ) (text : List ℕ) : Type 0 where
  pub places : List ℕ
  pub text_is : text ≡ flat_map place_line places
  pub onward : (more : List ℕ) → AreEnclosed boxes outer from more → AreEnclosed boxes outer 0 (places ++ more)

pub gathered_more : (boxes : List Bounds) (outer : Bounds) (from k next : ℕ) (old text : List ℕ) → IsGathered boxes outer from old
    → IsFirstEnclosed boxes outer from k → next ≡ k + 1 → text ≡ old ++ place_line k → IsGathered boxes outer next text
gathered_more boxes outer from k next old text so_far first step e = record {
  places = so_far.places ++ k ∷ [];
  text_is = e ∙ ap (λ (o : List ℕ). o ++ place_line k) so_far.text_is
      ∙ ap (λ (l : List ℕ). flat_map place_line so_far.places ++ l) (sym (append-nil (place_line k)))
      ∙ sym (flat_map-append place_line so_far.places (k ∷ []));
  onward = λ more h. subst (AreEnclosed boxes outer 0) (sym (append_assoc so_far.places (k ∷ []) more))
      (so_far.onward (k ∷ more) (first, subst (λ (j : ℕ). AreEnclosed boxes outer j more) step h));
}

pub gathered_all : (c : Content) (outer : Bounds) (from : ℕ) (text : List ℕ) → IsGathered (painted_boxes c) outer from text
    → AreNoneEnclosed (painted_boxes c) outer from → IsEnclosedTold c outer text
gathered_all c outer from text so_far none = record {
  places = so_far.places;
  enclosed = subst (AreEnclosed (painted_boxes c) outer 0) (append-nil so_far.places) (so_far.onward [] none);
  text_is = so_far.text_is;
}
