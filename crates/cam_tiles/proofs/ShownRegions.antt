-- items that are one region: their leaves, and their contours
use Rattle.std.proofs.Common.{◌≡◌, ℕ, ◌<◌, Bool, List, [], ◌∷◌, length, map, get_or, refl, ap, subst, ◌∙◌}
use Rattle.std.specs.List.{All, flat_map}
use Rattle.std.proofs.lemmas.List.{get_or-map}
use Rattle.std.proofs.lemmas.List.Elements.{All-cons, All-get_or, All-head, All-nil, All-tail}
use Rattle.cam_units.specs.Board.{IsOnBoard}
use Rattle.cam_shapes.specs.declared.contour.Contour.{Contour}
use Rattle.cam_shapes.specs.declared.segments.Seg.{Seg}
use Rattle.cam_shapes.specs.declared.segments.Seg.TheVariants.{Curve, Line}
use Rattle.cam_shapes.specs.Contour.{IsSoundSeg}
use Rattle.cam_objects.specs.declared.entry.Entry.{Entry}
use Rattle.cam_objects.specs.declared.item.Item.{Item}
use Rattle.cam_objects.specs.declared.item.Item.TheVariants.{One}
use Rattle.cam_objects.specs.declared.object.Object.{Object}
use Rattle.cam_objects.specs.declared.object.Object.TheVariants.{Region}
use Rattle.cam_objects.specs.Leaves.{Filled, item_leaves, leaf, meaning_in, origin}
use Rattle.cam_objects.specs.Soundness.{IsSoundItem, points_of, points_of_contour, points_of_seg}
use Rattle.cam_objects.proofs.SoundItems.{meets}
use Rattle.cam_tiles.specs.Machinery.Parts.{IsSoundContour}
use Rattle.cam_tiles.proofs.TurnedContours.{kept_contour}

sound_segs : (segs : List Seg) → All IsOnBoard (flat_map points_of_seg segs) → All IsSoundSeg segs
sound_segs [] on = All-nil IsSoundSeg
sound_segs (Line to ∷ segs) on =
    let rest = flat_map points_of_seg segs in
    All-cons IsSoundSeg (Line to) segs (All-head IsOnBoard to rest on) (sound_segs segs (All-tail IsOnBoard to rest on))
sound_segs (Curve to centre ccw ∷ segs) on =
    let rest = flat_map points_of_seg segs in
    let later = All-tail IsOnBoard to (centre ∷ rest) on in
    All-cons IsSoundSeg (Curve to centre ccw) segs
    (All-head IsOnBoard to (centre ∷ rest) on, All-head IsOnBoard centre rest later)
    (sound_segs segs (All-tail IsOnBoard centre rest later))

sound_contour : (c : Contour) → All IsOnBoard (points_of_contour c) → IsSoundContour c
sound_contour c on =
    let points = flat_map points_of_seg c.segs in
    record {
      start = All-head IsOnBoard c.start points on;
      segs = sound_segs c.segs (All-tail IsOnBoard c.start points on);
    }

module _ (items : List Item) (k : ℕ) (d : Item) (contour : Contour) (dark : Bool) (within : k < length items)
    (is : get_or items k d ≡ One (Region contour dark)) where
  pub region_sound : (entries : List (ℕ × Entry)) → All (IsSoundItem entries) items → IsSoundContour contour
  region_sound entries sound =
      let item = subst (IsSoundItem entries) is (All-get_or (IsSoundItem entries) items k d within sound) in
      sound_contour contour
      (All-head (λ (o : Object). All IsOnBoard (points_of o)) (Region contour dark) [] (meets entries (One (Region contour dark)) item).inside.points)

  pub region_leaves : (entries : List (ℕ × Entry))
      → get_or (map (item_leaves (meaning_in entries)) items) k [] ≡ leaf (Filled contour) dark ∷ []
  region_leaves entries =
      let leaves = item_leaves (meaning_in entries) in
      get_or-map leaves items k d [] within ∙ ap leaves is
      ∙ ap (λ (c : Contour). leaf (Filled c) dark ∷ []) (kept_contour origin.offset refl refl contour)
