-- The ways between documents: what each touches, and how one is taken back and made again.
use Rattle.std.proofs.Common.{◌≡◌, ◌≢◌, ℕ, ◌-◌, ◌==◌, zero, suc, Bool, true, false, List, [], ◌∷◌, ◌++◌, length, drop}
use Rattle.std.proofs.Common.{reverse, refl, ap, ◌∙◌, sym, subst, if◌then◌else◌, append-nil, All}
use Rattle.std.proofs.lemmas.Grind.{flat_map-append}
use Rattle.std.proofs.lemmas.List.{reverse-append}
use Rattle.std.proofs.lemmas.List.Elements.{All-append, All-cons, All-head, All-nil, All-tail}
use Rattle.circular_buffer.specs.Buffer.{keep_last}
use Rattle.cam_units.specs.Boxes.{Holds}
use Rattle.cam_units.specs.declared.bounds.Bounds.{Bounds}
use Rattle.cam_tiles.specs.TileLaws.{AgreeOutside}
use Rattle.cam_edits.specs.BoxLaws.{ChangesInside}
use Rattle.cam_edits.specs.Boards.{content_at}
use Rattle.cam_edits.specs.Images.{image_of}
use Rattle.cam_edits.specs.Sheets.{Sheet}
use Rattle.cam_edits.specs.Touches.{Touch}
use Rattle.cam_station.specs.Locality.{boxes_on}
use Rattle.cam_station.specs.Ways.{IsPath, Way, first_of}
use Rattle.cam_station.proofs.TablesAt.{equal_places, other_places}

-- ---- boxes

module _ {X : Type 0} (P : X → Type 0) where
  All-first : (xs ys : List X) → All P (xs ++ ys) → All P xs
  All-first [] ys h = All-nil P
  All-first (x ∷ xs) ys h =
      All-cons P x xs (All-head P x (xs ++ ys) h) (All-first xs ys (All-tail P x (xs ++ ys) h))

  All-later : (xs ys : List X) → All P (xs ++ ys) → All P ys
  All-later [] ys h = h
  All-later (x ∷ xs) ys h = All-later xs ys (All-tail P x (xs ++ ys) h)

module _ (place : ℕ) where
  abbrev here : Touch → List Bounds
  here t = if t.sheet == place then t.boxes else []

  boxes-append : (touches more : List Touch)
      → boxes_on place (touches ++ more) ≡ boxes_on place touches ++ boxes_on place more
  boxes-append touches more = flat_map-append here touches more

  reverse-more : (t : Touch) (touches : List Touch) → reverse (t ∷ touches) ≡ reverse touches ++ t ∷ []
  reverse-more t touches = reverse-append (t ∷ []) touches

  boxes_back : (P : Bounds → Type 0) (touches : List Touch) → All P (boxes_on place (reverse touches))
      → All P (boxes_on place touches)
  boxes_back P [] h = All-nil P
  boxes_back P (t ∷ touches) h =
      let later : List Bounds = boxes_on place (reverse touches) in
      let split : boxes_on place (reverse (t ∷ touches)) ≡ later ++ (here t ++ []) =
      ap (boxes_on place) (reverse-more t touches) ∙ boxes-append (reverse touches) (t ∷ []) in
      let all : All P (later ++ (here t ++ [])) = subst (All P) split h in
      All-append P (here t) (boxes_on place touches)
      (subst (All P) (append-nil (here t)) (All-later P later (here t ++ []) all))
      (boxes_back P touches (All-first P later (here t ++ []) all))

-- ---- one way

pub stay : (document : List Sheet) → Way [] document document
stay document = record { count = refl; outside = λ place s off. refl }

pub back : (touches : List Touch) (from to : List Sheet) → Way touches from to → Way (reverse touches) to from
back touches from to h =
    record {
      count = sym h.count;
      outside = λ place s off.
          sym (h.outside place s (boxes_back place (λ box. ¬ Holds box s) touches off));
    }

pub further : (touches more : List Touch) (from between to : List Sheet) → Way touches from between
    → Way more between to → Way (touches ++ more) from to
further touches more from between to h k =
    record {
      count = k.count ∙ h.count;
      outside = λ place s off.
          let IsOff : Bounds → Type 0 = λ box. ¬ Holds box s in
          let both : All IsOff (boxes_on place touches ++ boxes_on place more) =
          subst (All IsOff) (boxes-append place touches more) off in
          h.outside place s (All-first IsOff (boxes_on place touches) (boxes_on place more) both)
          ∙ k.outside place s (All-later IsOff (boxes_on place touches) (boxes_on place more) both);
    }

-- an edit changes one sheet in its boxes
edited_place : (touch : Touch) (from to : List Sheet) (place : ℕ) (b : Bool) → ChangesInside touch from to
    → (b ≡ true → touch.sheet ≡ place) → (b ≡ false → touch.sheet ≢ place)
    → AgreeOutside ((if b then touch.boxes else []) ++ []) (image_of (content_at from place))
    (image_of (content_at to place))
edited_place touch from to place true h same other s off =
    subst (λ p. image_of (content_at from p) s ≡ image_of (content_at to p) s) (same refl)
    (h.outside s (subst (All (λ box. ¬ Holds box s)) (append-nil touch.boxes) off))
edited_place touch from to place false h same other s off =
    ap (λ c. image_of c s) (sym (h.others place (λ e. other refl (sym e))))

pub edited_way : (touch : Touch) (from to : List Sheet) → ChangesInside touch from to → Way (touch ∷ []) from to
edited_way touch from to h =
    record {
      count = h.count;
      outside = λ place.
          edited_place touch from to place (touch.sheet == place) h (equal_places touch.sheet place)
          (other_places touch.sheet place);
    }

-- ---- a way over several documents

pub length-path : (ways : List (List Touch)) (documents : List (List Sheet)) (last : List Sheet)
    → IsPath ways documents last → length ways ≡ length documents
length-path [] [] last h = refl
length-path [] (document ∷ documents) last h = absurd h
length-path (touches ∷ ways) [] last h = absurd h
length-path (touches ∷ ways) (document ∷ documents) last h = ap suc (length-path ways documents last h.1)

first_before : (documents : List (List Sheet)) (document last : List Sheet)
    → first_of documents document ≡ first_of (documents ++ document ∷ []) last
first_before [] document last = refl
first_before (d ∷ documents) document last = refl

-- one document more at the end
pub path_on : (ways : List (List Touch)) (documents : List (List Sheet)) (touches : List Touch)
    (document last : List Sheet) → IsPath ways documents document → Way touches document last
    → IsPath (ways ++ touches ∷ []) (documents ++ document ∷ []) last
path_on [] [] touches document last h way = (way, tt)
path_on [] (d ∷ documents) touches document last h way = absurd h
path_on (ts ∷ ways) [] touches document last h way = absurd h
path_on (ts ∷ ways) (d ∷ documents) touches document last h way = (
  subst (Way ts d) (first_before documents document last) h.0,
  path_on ways documents touches document last h.1 way,
)

-- and one less
pub path_back : (ways : List (List Touch)) (documents : List (List Sheet)) (touches : List Touch)
    (document last : List Sheet) → IsPath (ways ++ touches ∷ []) (documents ++ document ∷ []) last
    → IsPath ways documents document × Way touches document last
path_back [] [] touches document last h = (tt, h.0)
path_back [] (d ∷ []) touches document last h = absurd h.1
path_back [] (d ∷ e ∷ documents) touches document last h = absurd h.1
path_back (ts ∷ []) [] touches document last h = absurd h.1
path_back (ts ∷ us ∷ ways) [] touches document last h = absurd h.1
path_back (ts ∷ ways) (d ∷ documents) touches document last h =
    let rest : IsPath ways documents document × Way touches document last =
    path_back ways documents touches document last h.1 in
    ((subst (Way ts d) (sym (first_before documents document last)) h.0, rest.0), rest.1)

path_dropped : (n : ℕ) (ways : List (List Touch)) (documents : List (List Sheet)) (last : List Sheet)
    → IsPath ways documents last → IsPath (drop n ways) (drop n documents) last
path_dropped zero ways documents last h = h
path_dropped (suc n) [] [] last h = h
path_dropped (suc n) [] (document ∷ documents) last h = absurd h
path_dropped (suc n) (touches ∷ ways) [] last h = absurd h
path_dropped (suc n) (touches ∷ ways) (document ∷ documents) last h = path_dropped n ways documents last h.1

-- the last n of them
pub path_kept : (n : ℕ) (ways : List (List Touch)) (documents : List (List Sheet)) (last : List Sheet)
    → IsPath ways documents last → IsPath (keep_last n ways) (keep_last n documents) last
path_kept n ways documents last h =
    subst (λ k. IsPath (drop (k - n) ways) (keep_last n documents) last) (sym (length-path ways documents last h))
    (path_dropped (length documents - n) ways documents last h)

-- to another last document that paints the same
pub path_to : (ways : List (List Touch)) (documents : List (List Sheet)) (last other : List Sheet)
    → IsPath ways documents last → Way [] last other → IsPath ways documents other
path_to [] [] last other h same = tt
path_to [] (document ∷ documents) last other h same = absurd h
path_to (touches ∷ ways) [] last other h same = absurd h
path_to (touches ∷ ways) (document ∷ []) last other h same = (
  subst (λ ts. Way ts document other) (append-nil touches) (further touches [] document last other h.0 same),
  path_to ways [] last other h.1 same,
)
path_to (touches ∷ ways) (document ∷ next ∷ documents) last other h same =
    (h.0, path_to ways (next ∷ documents) last other h.1 same)

-- without a document before it the last one may be any
pub path_alone : (ways : List (List Touch)) (documents : List (List Sheet)) (last other : List Sheet)
    → documents ≡ [] → IsPath ways documents last → IsPath ways documents other
path_alone [] [] last other none h = tt
path_alone (touches ∷ ways) [] last other none h = absurd h
path_alone ways (document ∷ documents) last other none h = absurd cc
