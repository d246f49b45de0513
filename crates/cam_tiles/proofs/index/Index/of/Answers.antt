use Rattle.std.proofs.Common.{◌≡◌, ◌≤◌, map, sym, ap, subst, ◌∙◌, arith}
use Rattle.std.proofs.lemmas.Grind.{common_steps}
use Rattle.std.specs.List.{All}
use Rattle.std.proofs.lemmas.List.{with_items_is}
use Rattle.cam_tiles.specs.Machinery.Indexes.{AreSeenFrom, IsBoxed}
use Rattle.cam_tiles.specs.Machinery.Parts.{bare}
use Rattle.cam_tiles.specs.Machinery.RowLists.{AreListed}
use Rattle.cam_tiles.specs.Machinery.Shown.{leaves_by_item}
use Rattle.cam_tiles.specs.Tiles.{tiles_down}
use Rattle.cam_tiles.proofs.BareBoxes.{kept_seen}
use Rattle.cam_tiles.proofs.TileCounts.{few_down}
use Rattle.cam_tiles.proofs.index.Index.of.Goals.{After-deref}
use Rattle.cam_tiles.proofs.index.Index.of.Goals as goal

pub new-requires-2-clause-rows : goal.new-requires-2-clause-rows
new-requires-2-clause-rows c =
    omega (arith, c.div_ceil.ensures, few_down c.args.window.now c.requires.accepted)

pub contours_of-requires-clause-boxed : goal.contours_of-requires-clause-boxed
contours_of-requires-clause-boxed c =
    subst (All (IsBoxed (leaves_by_item c.args.shown.now))) (sym c.deref_mut.ensures.value) c.in_ok-look.ensures.seen.each

-- once each box has the number of its contour
boxes_are : (c : After-deref) → c.contours_of.new.boxed ≡ c.deref.result.now
boxes_are c =
    sym (with_items_is c.look.new.self.boxed c.contours_of.new.boxed (c.contours_of.auto.boxed ∙ c.deref_mut.ensures.len))
    ∙ sym c.deref.ensures.value

seen_still : (c : After-deref) → AreSeenFrom (leaves_by_item c.args.shown.now) c.args.window.now c.look.new.self.within
    c.look.new.self.left c.contours_of.new.boxed
seen_still c =
    kept_seen c.contours_of.new.boxed c.look.new.self.boxed.items
    (c.contours_of.ensures.kept ∙ ap (map bare) c.deref_mut.ensures.value) (leaves_by_item c.args.shown.now)
    c.args.window.now c.look.new.self.within c.look.new.self.left c.in_ok-look.ensures.seen

pub new-requires-2-clause-within : goal.new-requires-2-clause-within
new-requires-2-clause-within c =
    let here = (goal.at.new-requires-2-clause-within c).After-deref in
    let rows : tiles_down c.args.window.now ≡ c.div_ceil.result = omega (arith, c.div_ceil.ensures) in
    subst (All (λ b. b.rows.end ≤ c.div_ceil.result)) (boxes_are here)
    (subst (λ n. All (λ b. b.rows.end ≤ n) c.contours_of.new.boxed) rows (seen_still here).ends)

pub returns : goal.returns
returns c =
    let here = (goal.at.returns c).After-deref in
    record {
      seen = subst (AreSeenFrom (leaves_by_item c.args.shown.now) c.args.window.now c.look.new.self.within c.look.new.self.left)
          (boxes_are here ∙ c.deref.ensures.value) (seen_still here);
      listed = record {
        all = omega (arith, c.in_ok-look.ensures.enough, c.in_ok-look.ensures.seen.few, c.len-count.ensures.count);
        rows = omega (arith, c.in_ok-rows.ensures.rows, c.div_ceil.ensures);
        listed = subst (λ those. AreListed those c.in_ok-rows.rows) c.deref.ensures.value c.in_ok-rows.ensures.listed;
        contours = c.in_ok-contours.ensures.parts;
      };
    }

pub look-requires-clause-seen : goal.look-requires-clause-seen
look-requires-clause-seen c = grind (arith, common_steps)

pub returns-then-is_few : goal.returns-then-is_few
returns-then-is_few c = grind (arith, common_steps)
