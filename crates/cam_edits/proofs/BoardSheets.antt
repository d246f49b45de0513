-- The sheets that a board keeps, one of them with other content.
use Rattle.std.specs.Prelude.{◌<◌}
use Rattle.std.proofs.Common.{◌≡◌, ℕ, zero, suc, ◌≢◌, List, [], ◌∷◌, length, map, get_or, Option, Some, refl, ap, sym, subst, ◌∙◌, arith}
use Rattle.std.proofs.Math.Seq.{map-set_same}
use Rattle.std.proofs.lemmas.List.{length-map, map-set}
use Rattle.std.proofs.lemmas.Option.{slice_get-map, slice_get_read}
use Rattle.std.specs.List.{slice_get, slice_set}
use Rattle.std.specs.Option.{MatchOption, option_map}
use Rattle.cam_edits.specs.declared.board.Sheet.{Sheet as KeptSheet}
use Rattle.cam_edits.specs.declared.board.SheetContent.{SheetContent}
use Rattle.cam_edits.specs.Boards.{changed_at, content_at, content_or_empty}
use Rattle.cam_edits.specs.Machinery.PlaceLaws.{found, within}
use Rattle.cam_edits.specs.Places.{HasAt}
use Rattle.cam_edits.specs.Sheets.{Content, Sheet, content_of, sheet_of}

abbrev pub holding : KeptSheet → SheetContent → KeptSheet
holding s content = record { name = s.name; content = content }

pub sheet_place_within : (P : Sheet → Type 0) (xs : List KeptSheet) (k : ℕ) → HasAt P (map sheet_of xs) k → k < length xs
sheet_place_within P xs k h =
    let f = found P (map sheet_of xs) k h in
    let lt = within (map sheet_of xs) k f.0 f.1 in
    let same = length-map xs sheet_of in omega arith

-- what stands at a place of the sheets, where they are as told there
pub sheet_at : (P : Sheet → Type 0) (xs : List KeptSheet) (k : ℕ) (s : KeptSheet) → HasAt P (map sheet_of xs) k
    → s ≡ get_or xs k s → slice_get xs k ≡ Some s
sheet_at P xs k s h read = slice_get_read xs (length xs) k s refl (sheet_place_within P xs k h) read

pub same_length : (xs ys : List KeptSheet) → map sheet_of xs ≡ map sheet_of ys → length xs ≡ length ys
same_length xs ys e = sym (length-map xs sheet_of) ∙ ap length e ∙ length-map ys sheet_of

module _ (xs : List KeptSheet) (k : ℕ) (s : KeptSheet) where
  -- the same content with other room
  pub sheets_kept : (new : SheetContent) → s ≡ get_or xs k s → content_of new ≡ content_of s.content
      → map sheet_of (slice_set xs k (holding s new)) ≡ map sheet_of xs
  sheets_kept new read same = grind (arith, map-set_same)

  module _ (e : slice_get xs k ≡ Some s) where
    seen : slice_get (map sheet_of xs) k ≡ Some (sheet_of s)
    seen = slice_get-map sheet_of xs k ∙ ap (option_map sheet_of) e

    pub told_there : (P : Sheet → Type 0) → HasAt P (map sheet_of xs) k → P (sheet_of s)
    told_there P h = subst (λ (o : Option Sheet). MatchOption o ⊥ P) seen h

    pub content_is : content_at (map sheet_of xs) k ≡ content_of s.content
    content_is = ap content_or_empty seen

    pub sheets_changed : (change : Content → Content) (new : SheetContent)
        → content_of new ≡ change (content_of s.content)
        → map sheet_of (slice_set xs k (holding s new)) ≡ changed_at change k (map sheet_of xs)
    sheets_changed change new is = grind (arith, map-set, seen)

-- what holds of each element by its place, after one of them changes
pub each_changed : {X : Type 0} (P Q : ℕ → X → Type 0) (xs : List X) (k : ℕ) (x y : X) → slice_get xs k ≡ Some x
    → (P k x → Q k y) → ((at : ℕ) (z : X) → at ≢ k → P at z → Q at z)
    → ((at : ℕ) → MatchOption (slice_get xs at) (Unit {0}) (P at))
    → (at : ℕ) → MatchOption (slice_get (slice_set xs k y) at) (Unit {0}) (Q at)
each_changed P Q [] k x y e here others h at = absurd cc
each_changed P Q (z ∷ xs) zero x y e here others h zero = let same : z ≡ x = cc in here (rw same at (h zero))
each_changed P Q (z ∷ xs) zero x y e here others h (suc at) = grind arith
each_changed P Q (z ∷ xs) (suc k) x y e here others h zero = others zero z (omega arith) (h zero)
each_changed P Q (z ∷ xs) (suc k) x y e here others h (suc at) =
    each_changed (λ i. P (suc i)) (λ i. Q (suc i)) xs k x y e here
    (λ i w ne. others (suc i) w (omega arith)) (λ i. h (suc i)) at
