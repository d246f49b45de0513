-- What becomes of the table of one layer.
use Rattle.std.proofs.Common.{◌≡◌, ◌≢◌, ℕ, ◌-◌, ◌<◌, ◌==◌, zero, suc, Bool, true, false, List, [], ◌∷◌, ◌++◌, length, Option}
use Rattle.std.proofs.Common.{None, Some, refl, ap, ◌∙◌, sym, arith, subst, if◌then◌else◌, ⊎_elim, option_map}
use Rattle.std.specs.Prelude.{slice_get, replicate}
use Rattle.std.proofs.lemmas.Bool.{eqb-true}
use Rattle.std.proofs.lemmas.Bool.Decides.{eqb_tells}
use Rattle.std.proofs.lemmas.List.Sums.{fold-append}
use Rattle.cam_units.specs.declared.bounds.Bounds.{Bounds}
use Rattle.cam_tiles.specs.declared.window.Window.{Window}
use Rattle.cam_tiles.specs.Tables.{Table, blank, dirty_count, redrawn}
use Rattle.cam_tiles.specs.Touched.{box_touched, touched_by}
use Rattle.cam_edits.specs.Boards.{content_at}
use Rattle.cam_edits.specs.Images.{image_of}
use Rattle.cam_edits.specs.Places.{changed, changed_to}
use Rattle.cam_edits.specs.Sheets.{Sheet}
use Rattle.cam_edits.specs.Touches.{Touch}
use Rattle.cam_station.specs.TileTables.{redrawn_in, touched_in}
use Rattle.cam_station.specs.Locality.{boxes_on}

-- a place of a list has an element
pub element_at : {X : Type 0} (xs : List X) (k : ℕ) → k < length xs → (x : X) × (slice_get xs k ≡ Some x)
element_at [] k within = absurd (omega (arith, within))
element_at (x ∷ xs) zero within = (x, refl)
element_at (x ∷ xs) (suc k) within = element_at xs k (omega (arith, within))

module _ {X : Type 0} (f : X → X) where
  changed_to-suc : (x : X) (xs : List X) (k : ℕ) (o : Option X)
      → changed_to f (x ∷ xs) (suc k) o ≡ x ∷ changed_to f xs k o
  changed_to-suc x xs k None = refl
  changed_to-suc x xs k (Some y) = refl

  pub changed-suc : (x : X) (xs : List X) (k : ℕ) → changed f (x ∷ xs) (suc k) ≡ x ∷ changed f xs k
  changed-suc x xs k = changed_to-suc x xs k (slice_get xs k)

  pub changed_here : (xs : List X) (k : ℕ) → slice_get (changed f xs k) k ≡ option_map f (slice_get xs k)
  changed_here [] k = refl
  changed_here (x ∷ xs) zero = refl
  changed_here (x ∷ xs) (suc k) = ap (λ l. slice_get l (suc k)) (changed-suc x xs k) ∙ changed_here xs k

  pub changed_elsewhere : (xs : List X) (k j : ℕ) → k ≢ j → slice_get (changed f xs k) j ≡ slice_get xs j
  changed_elsewhere [] k j ne = refl
  changed_elsewhere (x ∷ xs) zero zero ne = absurd (ne refl)
  changed_elsewhere (x ∷ xs) zero (suc j) ne = refl
  changed_elsewhere (x ∷ xs) (suc k) zero ne = ap (λ l. slice_get l 0) (changed-suc x xs k)
  changed_elsewhere (x ∷ xs) (suc k) (suc j) ne =
      ap (λ l. slice_get l (suc j)) (changed-suc x xs k) ∙ changed_elsewhere xs k j (λ e. ne (ap suc e))

-- ---- touched

-- boxes after boxes
touched_on : (first more : List Bounds) (o : Option Table)
    → option_map (touched_by more) (option_map (touched_by first) o) ≡ option_map (touched_by (first ++ more)) o
touched_on first more None = refl
touched_on first more (Some t) = ap Some (sym (fold-append (λ before box. box_touched box before) t first more))

none_touched : (o : Option Table) → o ≡ option_map (touched_by []) o
none_touched None = refl
none_touched (Some t) = refl

touched_once : (touch : Touch) (tables : List Table) (place : ℕ) (b : Bool)
    → (b ≡ true → touch.sheet ≡ place) → (b ≡ false → touch.sheet ≢ place)
    → slice_get (changed (touched_by touch.boxes) tables touch.sheet) place
    ≡ option_map (touched_by (if b then touch.boxes else [])) (slice_get tables place)
touched_once touch tables place true here there =
    subst (λ p. slice_get (changed (touched_by touch.boxes) tables touch.sheet) p
    ≡ option_map (touched_by touch.boxes) (slice_get tables p)) (here refl)
    (changed_here (touched_by touch.boxes) tables touch.sheet)
touched_once touch tables place false here there =
    changed_elsewhere (touched_by touch.boxes) tables touch.sheet place (there refl)
    ∙ none_touched (slice_get tables place)

-- ---- the test of places

pub equal_places : (k j : ℕ) → (k == j) ≡ true → k ≡ j
equal_places = eqb-true

pub other_places : (k j : ℕ) → (k == j) ≡ false → k ≢ j
other_places k j h e = ⊎_elim (λ p. let never : true ≡ false = sym p.0 ∙ h in cc) (λ p. p.1 e) (eqb_tells k j)

-- the table of a layer is touched by the boxes on it
pub touched_at : (touches : List Touch) (tables : List Table) (place : ℕ)
    → slice_get (touched_in touches tables) place
    ≡ option_map (touched_by (boxes_on place touches)) (slice_get tables place)
touched_at [] tables place = none_touched (slice_get tables place)
touched_at (t ∷ touches) tables place =
    touched_at touches (changed (touched_by t.boxes) tables t.sheet) place
    ∙ ap (option_map (touched_by (boxes_on place touches)))
    (touched_once t tables place (t.sheet == place) (equal_places t.sheet place) (other_places t.sheet place))
    ∙ touched_on (if t.sheet == place then t.boxes else []) (boxes_on place touches) (slice_get tables place)

-- ---- redrawn, and added

-- the table of a layer that was redrawn
pub record IsRedrawn (sheets : List Sheet) (tables : List Table) (place : ℕ) (later : Table) : Type 0 where
  pub earlier : Table
  pub there : slice_get tables place ≡ Some earlier
  pub n : ℕ
  pub is : later ≡ redrawn (image_of (content_at sheets place)) n earlier

redrawn_more : (s : Sheet) (sheets : List Sheet) (t : Table) (tables : List Table) (place : ℕ) (later : Table)
    → IsRedrawn sheets tables place later → IsRedrawn (s ∷ sheets) (t ∷ tables) (suc place) later
redrawn_more s sheets t tables place later h =
    record { earlier = h.earlier; there = h.there; n = h.n; is = h.is }

pub redrawn_at : (n : ℕ) (sheets : List Sheet) (tables : List Table) (place : ℕ) (later : Table)
    → length tables ≡ length sheets → slice_get (redrawn_in n sheets tables) place ≡ Some later
    → IsRedrawn sheets tables place later
redrawn_at n [] [] place later each here = absurd cc
redrawn_at n [] (t ∷ tables) place later each here = absurd (omega (arith, each))
redrawn_at n (s ∷ sheets) [] place later each here = absurd cc
redrawn_at n (s ∷ sheets) (t ∷ tables) zero later each here =
    let same : redrawn (image_of s.content) n t ≡ later = cc in
    record { earlier = t; there = refl; n = n; is = sym same }
redrawn_at n (s ∷ sheets) (t ∷ tables) (suc place) later each here =
    redrawn_more s sheets t tables place later
    (redrawn_at (n - dirty_count t) sheets tables place later (omega (arith, each)) here)

pub blank_at : (w : Window) (n place : ℕ) (t : Table) → slice_get (replicate n (blank w)) place ≡ Some t → t ≡ blank w
blank_at w zero place t here = absurd cc
blank_at w (suc n) zero t here = let same : blank w ≡ t = cc in sym same
blank_at w (suc n) (suc place) t here = blank_at w n place t here
