use Rattle.std.proofs.Common.{[], map, sym, take, ◌∙◌, arith}
use Rattle.std.proofs.lemmas.List.{take_all}
use Rattle.std.proofs.lemmas.Option.{get_or_from_slice_get}
use Rattle.cam_units.specs.declared.point.Spot.{Spot}
use Rattle.cam_apertures.specs.Cover.{IsInShape, IsExposed}
use Rattle.cam_apertures.specs.Turned.{turned_prim, turned_shape}
use Rattle.cam_apertures.proofs.Painting.{none_painted}
use Rattle.cam_objects.specs.Image.{relative}
use Rattle.cam_tiles.specs.Machinery.Masks.{inked}
use Rattle.cam_tiles.proofs.Joined.{merges_shown, shows_joined, shows_like, shows_nothing}
use Rattle.cam_tiles.proofs.Stamps.{painted_more}
use Rattle.cam_tiles.proofs.masks.mask.Mask.primitives.Goals as goal

pub loop-place-init : goal.loop-place-init
loop-place-init c = record {
  grid = c.blank-own.ensures.grid ∙ c.grid.ensures.value;
  shown = shows_like (λ s. ⊥) (λ s. IsExposed [] (relative c.args.at s)) c.blank-own.result
      (λ s. (λ none. absurd none, none_painted (relative c.args.at s)))
      (shows_nothing c.blank-own.result c.blank-own.ensures.marks);
}

pub loop-place-preserved : goal.loop-place-preserved
loop-place-preserved c =
    let t = c.args.turn in
    let prims = c.args.prims.now in
    let n = c.loop-place.place in
    let p = c.at-primitive.result.now in
    let before : Spot → Type 0 = λ s. IsExposed (map (turned_prim t) (take n prims)) (relative c.args.at s) in
    let held : Spot → Type 0 = λ s. IsInShape (turned_shape t p.shape) (relative c.args.at s) in
    record {
      grid = c.primitive.ensures.grid ∙ c.loop-place.invariant.grid;
      shown = shows_like _ _ c.primitive.new.self
          (λ s. painted_more t prims n p (relative c.args.at s) (omega (arith, c.loop-place-test.true, c.len-place-end.ensures)) (sym (get_or_from_slice_get prims n p p c.at-primitive.ensures)))
          (shows_joined (inked p.paint) before held c.loop-place.own c.primitive.new.self
          c.loop-place.invariant.shown c.primitive.ensures);
    }

pub returns : goal.returns
returns c = grind (arith, take_all, merges_shown)

pub primitive-requires-clause-primitive : goal.primitive-requires-clause-primitive
primitive-requires-clause-primitive c = grind (arith, get_or_from_slice_get)
