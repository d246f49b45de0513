-- An object joins the innermost open block.
use Rattle.std.proofs.Common.{◌≡◌, ℕ, ◌+◌, ◌<◌, ◌≤◌, List, [], ◌∷◌, ◌++◌, length, get_or, set, min, Global, false}
use Rattle.std.proofs.Common.{eq-eqb, Option, refl, sym, ap, ap₂, subst, ◌∙◌, arith}
use Rattle.std.specs.Prelude.{map, nat_le, nat_lt}
use Rattle.std.specs.Option.{option_map}
use Rattle.std.proofs.lemmas.Bool.{or_parts}
use Rattle.std.proofs.lemmas.Bool.Decides.{nat_tests}
use Rattle.std.proofs.lemmas.List.{append-nil}
use Rattle.std.specs.declared.collections.VecDeque.{VecDeque}
use Rattle.cam_objects.specs.declared.object.Object.{Object}
use Rattle.cam_objects.specs.declared.item.Item.TheVariants.{One}
use Rattle.cam_objects.specs.Weights.{block_count, object_count, object_depth, weight_in}
use Rattle.cam_gerber.specs.declared.frames.OpenBlock.{OpenBlock}
use Rattle.cam_gerber.specs.declared.running.Running.{Running}
use Rattle.cam_gerber.specs.Statements.{Statement}
use Rattle.cam_gerber.specs.State.{Past}
use Rattle.cam_gerber.specs.Homes.{Opened, open_blocks, open_repeat, InBlock, InLayer, home}
use Rattle.cam_gerber.specs.Making.{made, made_at, home_objects, IsMaker}
use Rattle.cam_gerber.specs.Layers.{entries_in, items_in, home_leaves}
use Rattle.cam_gerber.specs.Faults.{is_full, is_block_full}
use Rattle.cam_gerber.specs.Laws.{IsFaultless}
use Rattle.cam_gerber.specs.Machinery.Tracking.{TracksPlaces, block_of, repeat_of}
use Rattle.cam_gerber.proofs.Pasts.{Joins, joins, elsewhere, here, home_is, AreApart, stay_apart, others_stay}

-- a weight of one object
abbrev one_count : Past → Object → ℕ
one_count past object = block_count (weight_in (entries_in past)) (object ∷ [])

room_for : (n m : ℕ) → nat_lt 4000000 (n + m) ≡ false → n + m ≤ 4000000
room_for n m h = grind (arith, nat_tests)

-- an object in a block leaves the repeat as it is
repeat_stays : (past : Past) (says : Statement) (n : ℕ) (repeat : Option Opened) → Joins past says → home past ≡ InBlock n
    → option_map (repeat_of past) repeat ≡ option_map (repeat_of (says ∷ past)) repeat
repeat_stays past says n repeat j h = grind (arith, elsewhere, append-nil)

pub made_in_block : (past : Past) (says : Statement) (old : Running) (object : Object) (leaves sum : ℕ) (block : OpenBlock)
    (objects : List Object) (blocks : VecDeque OpenBlock Global)
    → IsFaultless past → TracksPlaces past old → IsMaker says → made past says ≡ object ∷ []
    → leaves ≡ object_count (weight_in (entries_in past)) object
    → is_full (home past) past object ≡ false → 0 < length old.frames.blocks.items → block ≡ get_or old.frames.blocks.items 0 block
    → objects ≡ block.objects ++ object ∷ [] → sum ≡ min (block.leaves + leaves) 18446744073709551615
    → blocks.items ≡ set old.frames.blocks.items 0 (record { number = block.number; objects = objects; leaves = sum })
    → TracksPlaces (says ∷ past) (record old { frames = record old.frames { blocks = blocks } })
made_in_block past says old object leaves sum block objects blocks none t maker is count room some read made_is sum_is written =
    go (open_blocks past) refl
  where
    j : Joins past says
    j = joins past says maker

    go : (numbers : List ℕ) → open_blocks past ≡ numbers
        → TracksPlaces (says ∷ past) (record old { frames = record old.frames { blocks = blocks } })
    go [] h = absurd (omega (arith, some, ap length t.frames.blocks, ap (λ numbers. length (map (block_of past) numbers)) h))
    go (n ∷ outer) h =
        let at_home : home past ≡ InBlock n = home_is past (n ∷ outer) (open_repeat past) h refl in
        let items : old.frames.blocks.items ≡ block_of past n ∷ map (block_of past) outer = t.frames.blocks ∙ ap (map (block_of past)) h in
        let top : block ≡ block_of past n = read ∙ ap (λ all. get_or all 0 block) items in
        let joined : made_at (InBlock n) past says ≡ object ∷ [] = here (InBlock n) past says (rw at_home (eq-eqb n n refl)) ∙ is in
        let all_objects : home_objects (InBlock n) (says ∷ past) ≡ home_objects (InBlock n) past ++ object ∷ [] = j.objects (InBlock n)
        ∙ ap (λ more. home_objects (InBlock n) past ++ more) joined in
        let all_leaves : home_leaves (InBlock n) (says ∷ past) ≡ home_leaves (InBlock n) past + one_count past object =
        j.leaves (InBlock n) ∙ ap (λ more. home_leaves (InBlock n) past + block_count (weight_in (entries_in past)) more) joined in
        let full : is_block_full past n object ≡ false = ap (λ h. is_full h past object) (sym at_home) ∙ room in
        let parts = or_parts _ (nat_le 8 (object_depth (weight_in (entries_in past)) object)) full in
        let few = room_for (home_leaves (InBlock n) past) (object_count (weight_in (entries_in past)) object)
        (or_parts (nat_le 1000000 (length (home_objects (InBlock n) past))) _ parts.0).1 in
        let sum_leaves : sum ≡ home_leaves (InBlock n) (says ∷ past) =
        omega (arith, sum_is, count, few, ap (λ (b : OpenBlock). b.leaves) top, all_leaves) in
        let whole : record { number = block.number; objects = objects; leaves = sum } ≡ block_of (says ∷ past) n =
        ap₂ (λ (all : List Object) (m : ℕ). record { number = block.number; objects = all; leaves = m })
        (made_is ∙ ap (λ (b : OpenBlock). b.objects ++ object ∷ []) top ∙ sym all_objects) sum_leaves
        ∙ ap (λ (b : OpenBlock).
        record {
          number = b.number;
          objects = home_objects (InBlock n) (says ∷ past);
          leaves =
              home_leaves (InBlock n) (says ∷ past);
        }) top in
        let away : made_at InLayer past says ≡ [] = elsewhere InLayer past says (rw at_home refl) in
        record {
          frames = record {
            blocks = written ∙ ap (λ all. set all 0 (record { number = block.number; objects = objects; leaves = sum })) items
                ∙ ap (λ (b : OpenBlock). b ∷ map (block_of past) outer) whole
                ∙ ap (λ (rest : List OpenBlock). block_of (says ∷ past) n ∷ rest)
                (sym (others_stay past says n outer j at_home (subst AreApart h (stay_apart past none).numbers).0))
                ∙ ap (map (block_of (says ∷ past))) (sym (j.blocks ∙ h));
            repeat = t.frames.repeat ∙ repeat_stays past says n (open_repeat past) j at_home
                ∙ ap (option_map (repeat_of (says ∷ past))) (sym j.repeat);
          };
          built = record {
            entries = t.built.entries ∙ sym j.entries;
            items = t.built.items
                ∙ sym (j.items ∙ ap (λ (more : List Object). items_in past ++ map One more) away ∙ append-nil (items_in past));
            macros = t.built.macros ∙ sym j.macros;
            leaves = omega (arith, t.built.leaves, j.all_leaves, ap (block_count (weight_in (entries_in past))) away);
          };
        }
