-- a repeat and its copies
use Rattle.std.proofs.Common.{arith, ◌≡◌, ℕ, ℤ, List}
use Rattle.cam_objects.specs.declared.item.Item.{Item}
use Rattle.cam_objects.specs.declared.item.Item.TheVariants.{Repeat}
use Rattle.cam_objects.specs.declared.entry.Entry.{Entry}
use Rattle.cam_objects.specs.declared.object.Object.{Object}
use Rattle.cam_objects.specs.declared.placing.copies.Copies.{Copies}
use Rattle.cam_objects.specs.Machinery.Boxes.{IsBoxedRepeat, copies_of}
use Rattle.cam_objects.specs.Soundness.{IsSoundItem}
use Rattle.cam_objects.proofs.SoundItems.{meets}

abbrev pub repeat_of : Copies → List Object → Item
repeat_of copies objects = Repeat copies.columns copies.rows copies.i copies.j objects

-- a repeat is that of its copies and its objects
pub repeat_again : (item : Item) (copies : Copies) (columns rows : ℕ) (i j : ℤ) (objects again : List Object)
    → item ≡ Repeat columns rows i j objects → copies ≡ copies_of item → again ≡ objects → item ≡ repeat_of copies again
repeat_again item copies columns rows i j objects again is same e = grind arith

-- a sound one lies on the board with all its copies
pub boxed_repeat : (es : List (ℕ × Entry)) (copies : Copies) (objects : List Object)
    → IsSoundItem es (repeat_of copies objects) → IsBoxedRepeat es copies objects
boxed_repeat es copies objects sound =
    let m = meets es (repeat_of copies objects) sound in
    record {
      many = m.repeated.0;
      across = m.inside.steps.0;
      up = m.inside.steps.1;
      stands = m.inside.points;
      board = m.inside.leaves;
    }
