-- Each command keeps the ways back and on.
use Rattle.std.proofs.Common.{◌≡◌, ℕ, zero, suc, List, [], ◌∷◌, ◌++◌, reverse, Option, None, Some}
use Rattle.std.proofs.Common.{refl, subst, subst₂, arith, length-append}
use Rattle.circular_buffer.specs.Buffer.{last_item}
use Rattle.cam_edits.specs.BoxLaws.{ChangesInside}
use Rattle.cam_edits.specs.Sheets.{Sheet}
use Rattle.cam_edits.specs.Touches.{Touch}
use Rattle.cam_undo.specs.Machine.{
  Timeline,
  aborted_in,
  accepted_in,
  all_but_last,
  begun,
  ended_after,
  redone,
  undone,
  ended_in,
  redone_to,
  undone_to,
}
use Rattle.cam_undo.proofs.Lasts.{with_last, without_last}
use Rattle.cam_station.specs.Touches.{
  Touches,
  aborted_touches,
  accepted_touches_in,
  begun_touches,
  ended_touches_in,
  redone_touches,
  undone_touches,
  touched_by_redo,
  touched_by_undo,
  played,
  redone_touches_by,
  undone_touches_by,
}
use Rattle.cam_station.specs.Ways.{AreWays, AreWaysBy, AreWaysHere, AreWaysToGroup, IsPath, Way}
use Rattle.cam_station.proofs.Ways.{back, edited_way, further, path_alone, path_back, path_kept, path_on, path_to, stay}

-- ---- edits and groups

module _ (t : Timeline (List Sheet)) (m : Touches) where
  -- the ways are kept, and this is one to the new document
  abbrev Leads : List Touch → Timeline (List Sheet) → Touches → Type 0
  Leads touches after m' = AreWays after m' × Way touches t.document after.document

  pub accepted_ways : (depth : ℕ) (edited : List Sheet) (touch : Touch) (g : Option (List Sheet × ℕ))
      (group : Option (List Touch)) → ChangesInside touch t.document edited → AreWaysBy t m g group
      → Leads (touch ∷ []) (accepted_in depth edited t g) (accepted_touches_in depth touch m group)
  accepted_ways depth edited touch None None change h =
      let way : Way (touch ∷ []) t.document edited = edited_way touch t.document edited change in (
        record {
          past = path_kept depth (m.past ++ (touch ∷ []) ∷ []) (t.past ++ t.document ∷ []) edited
              (path_on m.past t.past (touch ∷ []) t.document edited h.past way);
          future = tt;
        },
        way,
      )
  accepted_ways depth edited touch None (Some group) change h = absurd h
  accepted_ways depth edited touch (Some g) None change h = absurd h
  accepted_ways depth edited touch (Some g) (Some group) change h =
      let way : Way (touch ∷ []) t.document edited = edited_way touch t.document edited change in (
        record {
          past = h.past;
          future = tt;
          way = further group (touch ∷ []) g.0 t.document edited h.way way;
          counted = omega (arith, length-append group (touch ∷ []), h.counted);
          edited = λ some. refl;
        },
        way,
      )

  pub begun_ways : (g : Option (List Sheet × ℕ)) (group : Option (List Touch)) → g ≡ None → AreWaysBy t m g group
      → AreWays (begun t) (begun_touches m)
  begun_ways None None closed h =
      record {
        past = h.past;
        future = h.future;
        way = stay t.document;
        counted = refl;
        edited = λ some. absurd (omega (arith, some));
      }
  begun_ways None (Some group) closed h = absurd h
  begun_ways (Some g) group closed h = absurd cc

  ended_after_ways : (depth : ℕ) (start : List Sheet) (count : ℕ) (group : List Touch)
      → AreWaysToGroup t m start count group
      → Leads [] (ended_after depth t start count) (ended_touches_in depth m (Some group))
  ended_after_ways depth start zero [] h = (
    record {
      past = path_to m.past t.past start t.document h.past h.way;
      future = path_to m.future t.future start t.document h.future h.way;
    },
    stay t.document,
  )
  ended_after_ways depth start zero (touch ∷ group) h = absurd (omega (arith, h.counted))
  ended_after_ways depth start (suc count) [] h = absurd (omega (arith, h.counted))
  ended_after_ways depth start (suc count) (touch ∷ group) h = (
    record {
      past = path_kept depth (m.past ++ (touch ∷ group) ∷ []) (t.past ++ start ∷ []) t.document
          (path_on m.past t.past (touch ∷ group) start t.document h.past h.way);
      future = path_alone m.future t.future start t.document (h.edited (omega arith)) h.future;
    },
    stay t.document,
  )

  pub ended_ways : (depth : ℕ) (g : Option (List Sheet × ℕ)) (group : Option (List Touch)) → t.group ≡ g
      → m.group ≡ group → AreWaysBy t m g group → Leads [] (ended_in depth t g) (ended_touches_in depth m group)
  ended_ways depth None None is are h =
      (rw (is, are) (record { past = h.past; future = h.future }), stay t.document)
  ended_ways depth None (Some group) is are h = absurd h
  ended_ways depth (Some g) None is are h = absurd h
  ended_ways depth (Some g) (Some group) is are h = ended_after_ways depth g.0 g.1 group h

  -- an abort plays the edits of the group
  pub aborted_ways : (g : Option (List Sheet × ℕ)) (group : Option (List Touch)) → t.group ≡ g → AreWaysBy t m g group
      → Leads (played group) (aborted_in t g) (aborted_touches m)
  aborted_ways None None is h = (rw is (record { past = h.past; future = h.future }), stay t.document)
  aborted_ways None (Some group) is h = absurd h
  aborted_ways (Some g) None is h = absurd h
  aborted_ways (Some g) (Some group) is h =
      (record { past = h.past; future = h.future }, back group g.0 t.document h.way)

-- ---- undo and redo

-- with no group open
pub ways_here : (t : Timeline (List Sheet)) (m : Touches) (g : Option (List Sheet × ℕ)) (group : Option (List Touch))
    → g ≡ None → AreWaysBy t m g group → AreWaysHere t m × (group ≡ None)
ways_here t m None None closed h = (h, refl)
ways_here t m None (Some group) closed h = absurd h
ways_here t m (Some g) group closed h = absurd cc

ways_by : (t : Timeline (List Sheet)) (m : Touches) → t.group ≡ None → m.group ≡ None → AreWaysHere t m → AreWays t m
ways_by t m closed alike h = rw (closed, alike) (record { past = h.past; future = h.future })

-- What an undo finds at the end of the past, and a redo at that of the future: the way to the last document, or
-- nothing.
abbrev AtEnd : List (List Touch) → List (List Sheet) → List Sheet → Option (List Sheet) → Option (List Touch) → Type 0
AtEnd ways documents document None None = Unit {0}
AtEnd ways documents document None (Some group) = ⊥
AtEnd ways documents document (Some last) None = ⊥
AtEnd ways documents document (Some last) (Some group) =
    IsPath (all_but_last ways) (all_but_last documents) last × Way (reverse group) document last

at_end : (ways : List (List Touch)) (documents : List (List Sheet)) (document : List Sheet) (last : Option (List Sheet))
    (group : Option (List Touch)) → last_item documents ≡ last → last_item ways ≡ group
    → IsPath ways documents document → AtEnd ways documents document last group
at_end ways documents document None None is are h = tt
at_end [] documents document None (Some group) is are h = cc
at_end (touches ∷ ways) documents document None (Some group) is are h =
    subst (λ l. IsPath (touches ∷ ways) l document) (without_last documents is) h
at_end ways [] document (Some last) None is are h = cc
at_end ways (d ∷ documents) document (Some last) None is are h =
    subst (λ l. IsPath l (d ∷ documents) document) (without_last ways are) h
at_end ways documents document (Some last) (Some group) is are h =
    let split : IsPath (all_but_last ways ++ group ∷ []) (all_but_last documents ++ last ∷ []) document =
    subst₂ (λ ws ds. IsPath ws ds document) (with_last ways group are) (with_last documents last is) h in
    let parts = path_back (all_but_last ways) (all_but_last documents) group last document split in
    (parts.0, back group last document parts.1)

module _ (t : Timeline (List Sheet)) (m : Touches) (closed : t.group ≡ None) (alike : m.group ≡ None)
    (h : AreWaysHere t m) where
  undone_by : (earlier : Option (List Sheet)) (group : Option (List Touch))
      → AtEnd m.past t.past t.document earlier group
      → Leads t m (played group) (undone_to t earlier) (undone_touches_by m group)
  undone_by None None end = (ways_by t m closed alike h, stay t.document)
  undone_by None (Some group) end = absurd end
  undone_by (Some earlier) None end = absurd end
  undone_by (Some earlier) (Some group) end =
      let future = path_on m.future t.future (reverse group) t.document earlier h.future end.1 in (
        ways_by (undone_to t (Some earlier)) (undone_touches_by m (Some group)) closed alike
            (record { past = end.0; future = future }),
        end.1,
      )

  pub undone_ways : Leads t m (touched_by_undo m) (undone t) (undone_touches m)
  undone_ways =
      undone_by (last_item t.past) (last_item m.past)
      (at_end m.past t.past t.document (last_item t.past) (last_item m.past) refl refl h.past)

  redone_by : (later : Option (List Sheet)) (group : Option (List Touch))
      → AtEnd m.future t.future t.document later group
      → Leads t m (played group) (redone_to t later) (redone_touches_by m group)
  redone_by None None end = (ways_by t m closed alike h, stay t.document)
  redone_by None (Some group) end = absurd end
  redone_by (Some later) None end = absurd end
  redone_by (Some later) (Some group) end =
      let past = path_on m.past t.past (reverse group) t.document later h.past end.1 in (
        ways_by (redone_to t (Some later)) (redone_touches_by m (Some group)) closed alike
            (record { past = past; future = end.0 }),
        end.1,
      )

  pub redone_ways : Leads t m (touched_by_redo m) (redone t) (redone_touches m)
  redone_ways =
      redone_by (last_item t.future) (last_item m.future)
      (at_end m.future t.future t.document (last_item t.future) (last_item m.future) refl refl h.future)
