-- A segment and the words behind it.
use Rattle.std.proofs.Common.{◌≡◌, ◌∙◌, ap, refl, ℕ, true, List, [], ◌∷◌, Option, None, Some}
use Rattle.std.specs.Prelude.{IfSome}
use Rattle.cam_shapes.specs.declared.segments.Seg.{Seg}
use Rattle.cam_script.specs.Items.{is_line, line_seg, joined, segs_in}

joined_nowhere : (first : Option Seg) → None ≡ joined first None
joined_nowhere None = refl
joined_nowhere (Some seg) = refl

pub straight : (form x y : List ℕ) (more : List (List ℕ)) → is_line form ≡ true
    → segs_in (form ∷ x ∷ y ∷ more) ≡ joined (line_seg x y) (segs_in more)
straight form x y [] e = rw e refl
straight form x y (u ∷ []) e = joined_nowhere (line_seg x y)
straight form x y (u ∷ v ∷ more) e = rw e refl

told : (all : Option (List Seg)) (seg first : Option Seg) (more : Option (List Seg)) → seg ≡ first
    → all ≡ joined first more → IfSome seg (λ seg. all ≡ joined (Some seg) more)
told all None first more e whole = tt
told all (Some seg) first more e whole = rw (← e) at whole

pub straight_first : (form x y : List ℕ) (words more : List (List ℕ)) (seg : Option Seg) → is_line form ≡ true
    → words ≡ x ∷ y ∷ more → seg ≡ line_seg x y
    → IfSome seg (λ seg. segs_in (form ∷ words) ≡ joined (Some seg) (segs_in more))
straight_first form x y words more seg line cut is_seg =
    told (segs_in (form ∷ words)) seg (line_seg x y) (segs_in more) is_seg
    (ap (λ ws. segs_in (form ∷ ws)) cut ∙ straight form x y more line)
