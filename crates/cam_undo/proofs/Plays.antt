-- What a step more at the end of a group, or a group more at the end of a list, changes.
use Rattle.cam_edits.specs.declared.reversible.Reversible.{Ghosts}
use Rattle.cam_undo.specs.Timelines.{GroupFits, GroupsFit, after_group, after_groups, answers, contents}
use Rattle.cam_undo.specs.Machinery.Shifting.{Shifted}
use Rattle.std.proofs.Common.{◌∙◌, ◌≡◌, ℕ, List, [], ap, drop, length, refl, subst, suc, sym, zero, ◌++◌, ◌∷◌}

module _ {S D : Type 0} (r : Ghosts S D) where
  pub after_group-snoc : (g : List S) (s : S) (c : r.Content)
      → after_group r (g ++ s ∷ []) c ≡ after_group r g (r.after s c)
  after_group-snoc [] s c = refl
  after_group-snoc (t ∷ g) s c = ap (r.after t) (after_group-snoc g s c)

  pub last_fits : (g : List S) (s : S) (c : r.Content) → GroupFits r (g ++ s ∷ []) c → r.is_fit s c
  last_fits [] s c fits = fits.1
  last_fits (t ∷ g) s c fits = last_fits g s c fits.0

  pub front_fits : (g : List S) (s : S) (c : r.Content)
      → GroupFits r (g ++ s ∷ []) c → GroupFits r g (r.after s c)
  front_fits [] s c fits = tt
  front_fits (t ∷ g) s c fits =
      (front_fits g s c fits.0, subst (λ d. r.is_fit t d) (after_group-snoc g s c) fits.1)

  pub both_fit : (g : List S) (s : S) (c : r.Content)
      → r.is_fit s c → GroupFits r g (r.after s c) → GroupFits r (g ++ s ∷ []) c
  both_fit [] s c last front = (tt, last)
  both_fit (t ∷ g) s c last front =
      (both_fit g s c last front.0, subst (λ d. r.is_fit t d) (sym (after_group-snoc g s c)) front.1)

  pub answers-snoc : (g : List S) (s : S) (c : r.Content)
      → answers r (g ++ s ∷ []) c ≡ r.inverse s c ∷ answers r g (r.after s c)
  answers-snoc [] s c = refl
  answers-snoc (t ∷ g) s c = rw (answers-snoc g s c, after_group-snoc g s c) refl

  pub after_groups-snoc : (gs : List (List S)) (g : List S) (c : r.Content)
      → after_groups r (gs ++ g ∷ []) c ≡ after_groups r gs (after_group r g c)
  after_groups-snoc [] g c = refl
  after_groups-snoc (f ∷ gs) g c = ap (after_group r f) (after_groups-snoc gs g c)

  pub contents-snoc : (gs : List (List S)) (g : List S) (c : r.Content)
      → contents r (gs ++ g ∷ []) c ≡ contents r gs (after_group r g c) ++ after_group r g c ∷ []
  contents-snoc [] g c = refl
  contents-snoc (f ∷ gs) g c = rw (after_groups-snoc gs g c, contents-snoc gs g c) refl

  pub last_group_fits : (gs : List (List S)) (g : List S) (c : r.Content)
      → GroupsFit r (gs ++ g ∷ []) c → GroupFits r g c
  last_group_fits [] g c fits = fits.1
  last_group_fits (f ∷ gs) g c fits = last_group_fits gs g c fits.0

  pub front_groups_fit : (gs : List (List S)) (g : List S) (c : r.Content)
      → GroupsFit r (gs ++ g ∷ []) c → GroupsFit r gs (after_group r g c)
  front_groups_fit [] g c fits = tt
  front_groups_fit (f ∷ gs) g c fits =
      (front_groups_fit gs g c fits.0, subst (λ d. GroupFits r f d) (after_groups-snoc gs g c) fits.1)

  pub groups_fit : (gs : List (List S)) (g : List S) (c : r.Content)
      → GroupFits r g c → GroupsFit r gs (after_group r g c) → GroupsFit r (gs ++ g ∷ []) c
  groups_fit [] g c last front = (tt, last)
  groups_fit (f ∷ gs) g c last front =
      (groups_fit gs g c last front.0, subst (λ d. GroupFits r f d) (sym (after_groups-snoc gs g c)) front.1)

  pub length-contents : (gs : List (List S)) (c : r.Content) → length (contents r gs c) ≡ length gs
  length-contents [] c = refl
  length-contents (g ∷ gs) c = ap suc (length-contents gs c)

  pub contents-drop : (n : ℕ) (gs : List (List S)) (c : r.Content)
      → contents r (drop n gs) c ≡ drop n (contents r gs c)
  contents-drop zero gs c = refl
  contents-drop (suc n) [] c = refl
  contents-drop (suc n) (g ∷ gs) c = contents-drop n gs c

  pub fits-drop : (n : ℕ) (gs : List (List S)) (c : r.Content) → GroupsFit r gs c → GroupsFit r (drop n gs) c
  fits-drop zero gs c fits = fits
  fits-drop (suc n) [] c fits = tt
  fits-drop (suc n) (g ∷ gs) c fits = fits-drop n gs c fits.0

  module _ (answer_fits : (s : S) (c : r.Content) → r.is_fit s c → r.is_fit (r.inverse s c) (r.after s c))
      (gives_back : (s : S) (c : r.Content) → r.is_fit s c → r.after (r.inverse s c) (r.after s c) ≡ c) where
    pub answers_lead_back : (g : List S) (c : r.Content) → GroupFits r g c
        → after_group r (answers r g c) (after_group r g c) ≡ c
    answers_lead_back [] c fits = refl
    answers_lead_back (s ∷ g) c fits =
        after_group-snoc (answers r g c) (r.inverse s (after_group r g c)) (r.after s (after_group r g c))
        ∙ (ap (after_group r (answers r g c)) (gives_back s (after_group r g c) fits.1)
        ∙ answers_lead_back g c fits.0)

    pub answers_fit : (g : List S) (c : r.Content) → GroupFits r g c
        → GroupFits r (answers r g c) (after_group r g c)
    answers_fit [] c fits = tt
    answers_fit (s ∷ g) c fits =
        both_fit (answers r g c) (r.inverse s (after_group r g c)) (r.after s (after_group r g c))
        (answer_fits s (after_group r g c) fits.1)
        (subst (λ d. GroupFits r (answers r g c) d) (sym (gives_back s (after_group r g c) fits.1))
        (answers_fit g c fits.0))

    -- What a shift of a group keeps, and what it does to the documents.
    pub left_fits : (from to left grown : List (List S)) (c reached : r.Content)
        → Shifted r from to c left grown reached → GroupsFit r from c → GroupsFit r left reached
    left_fits from to left grown c reached s fits =
        rw s.played (front_groups_fit left s.group c (rw s.taken at fits))

    pub grown_fits : (from to left grown : List (List S)) (c reached : r.Content)
        → Shifted r from to c left grown reached → GroupsFit r from c → GroupsFit r to c → GroupsFit r grown reached
    grown_fits from to left grown c reached s fits to_fits =
        let one : GroupFits r s.group c = last_group_fits left s.group c (rw s.taken at fits) in
        rw (s.put, s.played) (groups_fit to (answers r s.group c) (after_group r s.group c)
        (answers_fit s.group c one)
        (subst (λ d. GroupsFit r to d) (sym (answers_lead_back s.group c one)) to_fits))

    pub left_contents : (from to left grown : List (List S)) (c reached : r.Content)
        → Shifted r from to c left grown reached → contents r from c ≡ contents r left reached ++ reached ∷ []
    left_contents from to left grown c reached s = rw (s.played, s.taken) (contents-snoc left s.group c)

    pub grown_contents : (from to left grown : List (List S)) (c reached : r.Content)
        → Shifted r from to c left grown reached → GroupsFit r from c → contents r grown reached ≡ contents r to c ++ c ∷ []
    grown_contents from to left grown c reached s fits =
        let one : GroupFits r s.group c = last_group_fits left s.group c (rw s.taken at fits) in
        rw (s.put, s.played) (contents-snoc to (answers r s.group c) (after_group r s.group c)
        ∙ ap (λ d. contents r to d ++ d ∷ []) (answers_lead_back s.group c one))
