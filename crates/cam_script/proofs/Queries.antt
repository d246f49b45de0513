-- Questions with another count of words have not a form.
use Rattle.std.proofs.Common.{◌≡◌, ◌≢◌, ◌<◌, ℕ, List, [], ◌∷◌, length, None, refl, arith}
use Rattle.cam_script.specs.Questions.{at_query, in_query, item_query, items_query, entry_query}

pub no_at : (ws : List (List ℕ)) → length ws < 2 → at_query ws ≡ None
no_at [] h = refl
no_at (a ∷ []) h = refl
no_at (a ∷ b ∷ more) h = absurd (omega (arith, h))

pub no_in : (ws : List (List ℕ)) → length ws ≢ 4 → in_query ws ≡ None
no_in [] h = refl
no_in (a ∷ []) h = refl
no_in (a ∷ b ∷ []) h = refl
no_in (a ∷ b ∷ c ∷ []) h = refl
no_in (a ∷ b ∷ c ∷ d ∷ []) h = absurd (h (omega arith))
no_in (a ∷ b ∷ c ∷ d ∷ e ∷ more) h = refl

pub no_item : (ws : List (List ℕ)) → length ws ≢ 1 → item_query ws ≡ None
no_item [] h = refl
no_item (a ∷ []) h = absurd (h (omega arith))
no_item (a ∷ b ∷ more) h = refl

pub no_items : (ws : List (List ℕ)) → length ws ≢ 2 → items_query ws ≡ None
no_items [] h = refl
no_items (a ∷ []) h = refl
no_items (a ∷ b ∷ []) h = absurd (h (omega arith))
no_items (a ∷ b ∷ c ∷ more) h = refl

pub no_entry : (ws : List (List ℕ)) → length ws ≢ 1 → entry_query ws ≡ None
no_entry [] h = refl
no_entry (a ∷ []) h = absurd (h (omega arith))
no_entry (a ∷ b ∷ more) h = refl

pub ruleset by_places = (no_item, no_items, no_entry)
