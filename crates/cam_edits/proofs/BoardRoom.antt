-- Room on the sheets of a board, for what a group of steps inserts there.
use Rattle.std.proofs.lemmas.Grind.{common_steps}
use Rattle.std.proofs.Common.{◌≡◌, ℕ, ◌<◌, ◌+◌, ◌≤◌, Bool, ◌&&◌, cond, eqb, List, [], ◌∷◌}
use Rattle.std.proofs.Common.{◌++◌, length, count_by, Option, None, Some, refl, ap, ◌∙◌, arith}
use Rattle.std.proofs.lemmas.Bool.{eq-eqb}
use Rattle.std.proofs.lemmas.List.Sums.{sum_by-cons}
use Rattle.std.proofs.lemmas.Option.{slice_get_within}
use Rattle.std.specs.Global.{Vec}
use Rattle.std.specs.List.{slice_get, slice_set}
use Rattle.std.specs.Option.{MatchOption}
use Rattle.cam_edits.proofs.BoardSheets.{each_changed, holding}
use Rattle.cam_edits.specs.declared.board.Sheet.{Sheet as KeptSheet}
use Rattle.cam_edits.specs.declared.board.SheetContent.{SheetContent}
use Rattle.cam_edits.specs.declared.board.SheetContent.TheVariants as kept
use Rattle.cam_edits.specs.declared.board_step.BoardStep.{BoardStep}
use Rattle.cam_edits.specs.declared.board_step.BoardStep.TheVariants as steps
use Rattle.cam_edits.specs.declared.drill_step.DrillStep.{DrillStep}
use Rattle.cam_edits.specs.declared.step.Step.{Step}
use Rattle.cam_edits.specs.BoardSteps.{HasRoomOn, IsDrillFitOn, IsFitOn, after_drill_on, after_on, drill_steps_on, joined_if, steps_on}
use Rattle.cam_edits.specs.Machinery.Room.{HasPlaces, inserts_at, puts_at}
use Rattle.cam_edits.specs.DrillSteps.{is_drill_insertion}
use Rattle.cam_edits.specs.Machinery.BoardStepLaws.{HasDrillPlacesFor, HasPlacesFor, drill_steps_joined, rest_has_room_on, steps_joined}
use Rattle.cam_edits.specs.Sheets.{content_of}
use Rattle.cam_edits.specs.Steps.{is_insertion, puts_attribute}
use Rattle.cam_units.specs.declared.bounds.Bounds.{Bounds}

-- ---- room for what is counted is room for the steps
joined_count : {X : Type 0} (p : X → Bool) (b : Bool) (x : X) (xs : List X)
    → count_by p (joined_if b x xs) ≡ cond (b && p x) 1 0 + count_by p xs
joined_count p b x xs = grind (arith, common_steps, sum_by-cons)

-- there are places for what the group inserts and puts on the sheet at a place
abbrev HasCountedPlaces : ℕ → List BoardStep → SheetContent → Type 0
HasCountedPlaces place group c = HasPlaces (count_by (inserts_at place) group) (count_by (puts_at place) group) c

module _ (place : ℕ) where
  abbrev total : List BoardStep → ℕ
  total group = count_by (inserts_at place) group

  total_is : (step : BoardStep) (group : List BoardStep)
      → total (step ∷ group) ≡ cond (inserts_at place step) 1 0 + total group
  total_is step group = sum_by-cons (λ (s : BoardStep). cond (inserts_at place s) 1 0) step group

  counted : (group : List BoardStep) → count_by is_insertion (steps_on place group) ≤ total group
  counted [] = omega arith
  counted (steps.Gerber at step boxes ∷ group) =
      let here = joined_count is_insertion (eqb at place) step (steps_on place group) in
      omega (arith, here, total_is (steps.Gerber at step boxes) group, counted group)
  counted (steps.Drill at step boxes ∷ group) = omega (arith, total_is (steps.Drill at step boxes) group, counted group)

  drill_counted : (group : List BoardStep) → count_by is_drill_insertion (drill_steps_on place group) ≤ total group
  drill_counted [] = omega arith
  drill_counted (steps.Gerber at step boxes ∷ group) =
      omega (arith, total_is (steps.Gerber at step boxes) group, drill_counted group)
  drill_counted (steps.Drill at step boxes ∷ group) =
      let here = joined_count is_drill_insertion (eqb at place) step (drill_steps_on place group) in
      omega (arith, here, total_is (steps.Drill at step boxes) group, drill_counted group)

  abbrev put_total : List BoardStep → ℕ
  put_total group = count_by (puts_at place) group

  put_total_is : (step : BoardStep) (group : List BoardStep)
      → put_total (step ∷ group) ≡ cond (puts_at place step) 1 0 + put_total group
  put_total_is step group = sum_by-cons (λ (s : BoardStep). cond (puts_at place s) 1 0) step group

  puts_counted : (group : List BoardStep) → count_by puts_attribute (steps_on place group) ≤ put_total group
  puts_counted [] = omega arith
  puts_counted (steps.Gerber at step boxes ∷ group) =
      let here = joined_count puts_attribute (eqb at place) step (steps_on place group) in
      omega (arith, here, put_total_is (steps.Gerber at step boxes) group, puts_counted group)
  puts_counted (steps.Drill at step boxes ∷ group) =
      omega (arith, put_total_is (steps.Drill at step boxes) group, puts_counted group)

  room_counted : (group : List BoardStep) (c : SheetContent) → HasCountedPlaces place group c → HasRoomOn place group c
  room_counted group c h = grind (arith, counted, puts_counted, drill_counted)

-- the sheets before a place have room for what a group inserts on each
abbrev pub HasPlacesBefore : ℕ → List BoardStep → List KeptSheet → Type 0
HasPlacesBefore n group xs =
    (at : ℕ) → MatchOption (slice_get xs at) (Unit {0})
    (λ s. at < n → HasCountedPlaces at group s.content)

pub one_more : (n : ℕ) (group : List BoardStep) (xs : List KeptSheet) (s : KeptSheet) (new : SheetContent)
    → slice_get xs n ≡ Some s → HasCountedPlaces n group new → HasPlacesBefore n group xs
    → HasPlacesBefore (n + 1) group (slice_set xs n (holding s new))
one_more n group xs s new e room h =
    each_changed (λ at (t : KeptSheet). at < n → HasCountedPlaces at group t.content)
    (λ at (t : KeptSheet). at < n + 1 → HasCountedPlaces at group t.content) xs n s (holding s new) e
    (λ _ _. room) (λ at t ne places lt. places (omega arith)) h

pub room_on_each : (n : ℕ) (group : List BoardStep) (xs : List KeptSheet) → length xs ≤ n → HasPlacesBefore n group xs
    → (place : ℕ) → MatchOption (slice_get xs place) (Unit {0}) (λ s. HasRoomOn place group s.content)
room_on_each n group xs all h place = go (slice_get xs place) refl (h place) where
  go : (o : Option KeptSheet) → slice_get xs place ≡ o
      → MatchOption o (Unit {0}) (λ s. place < n → HasCountedPlaces place group s.content)
      → MatchOption o (Unit {0}) (λ s. HasRoomOn place group s.content)
  go None e places = tt
  go (Some s) e places =
      let lt = slice_get_within xs place s e in room_counted place group s.content (places (omega arith))

-- ---- room for the rest of a group, after its last step is played
module _ (place : ℕ) (rest : List BoardStep) (boxes : Vec Bounds) where
  steps_then : (step : Step)
      → steps_on place (rest ++ steps.Gerber place step boxes ∷ []) ≡ steps_on place rest ++ step ∷ []
  steps_then step =
      steps_joined place rest (steps.Gerber place step boxes ∷ [])
      ∙ ap (λ (b : Bool). steps_on place rest ++ joined_if b step []) (eq-eqb place place refl)

  drill_steps_then : (step : DrillStep)
      → drill_steps_on place (rest ++ steps.Drill place step boxes ∷ []) ≡ drill_steps_on place rest ++ step ∷ []
  drill_steps_then step =
      drill_steps_joined place rest (steps.Drill place step boxes ∷ [])
      ∙ ap (λ (b : Bool). drill_steps_on place rest ++ joined_if b step []) (eq-eqb place place refl)

  pub room_here : (step : Step) (old new : SheetContent) → IsFitOn step (content_of old)
      → content_of new ≡ after_on step (content_of old)
      → ((group : List Step) → HasPlacesFor (group ++ step ∷ []) old → HasPlacesFor group new)
      → HasRoomOn place (rest ++ steps.Gerber place step boxes ∷ []) old → HasRoomOn place rest new
  room_here step (kept.Gerber old) (kept.Gerber new) fit is room h = grind (arith, steps_then)
  room_here step (kept.Gerber old) (kept.Drill new) fit is room h = absurd cc
  room_here step (kept.Drill old) new fit is room h = absurd fit

  pub drill_room_here : (step : DrillStep) (old new : SheetContent) → IsDrillFitOn step (content_of old)
      → content_of new ≡ after_drill_on step (content_of old)
      → ((group : List DrillStep) → HasDrillPlacesFor (group ++ step ∷ []) old → HasDrillPlacesFor group new)
      → HasRoomOn place (rest ++ steps.Drill place step boxes ∷ []) old → HasRoomOn place rest new
  drill_room_here step (kept.Gerber old) new fit is room h = absurd fit
  drill_room_here step (kept.Drill old) (kept.Gerber new) fit is room h = absurd cc
  drill_room_here step (kept.Drill old) (kept.Drill new) fit is room h = grind (arith, drill_steps_then)

pub room_for_rest : (rest : List BoardStep) (step : BoardStep) (xs : List KeptSheet) (k : ℕ) (s : KeptSheet)
    (new : SheetContent) → slice_get xs k ≡ Some s
    → (HasRoomOn k (rest ++ step ∷ []) s.content → HasRoomOn k rest new)
    → ((place : ℕ) → MatchOption (slice_get xs place) (Unit {0}) (λ t. HasRoomOn place (rest ++ step ∷ []) t.content))
    → (place : ℕ)
    → MatchOption (slice_get (slice_set xs k (holding s new)) place) (Unit {0}) (λ t. HasRoomOn place rest t.content)
room_for_rest rest step xs k s new e here h =
    each_changed (λ place (t : KeptSheet). HasRoomOn place (rest ++ step ∷ []) t.content)
    (λ place (t : KeptSheet). HasRoomOn place rest t.content) xs k s (holding s new) e here
    (λ place t ne r. rest_has_room_on place rest (step ∷ []) t.content r) h
