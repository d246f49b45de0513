-- Texts without their skipped bytes.
use Rattle.std.proofs.Common.{◌≡◌, ℕ, List, [], ◌∷◌, false, refl, ap}
use Rattle.std.specs.List.{list_any}
use Rattle.std.proofs.lemmas.Bool.{or_parts}
use Rattle.cam_xnc.specs.Bytes.{is_line_blank, line_packed}

-- where none is skipped, all are left
pub packed_whole : (text : List ℕ) → list_any is_line_blank text ≡ false → line_packed text ≡ text
packed_whole [] none = refl
packed_whole (byte ∷ text) none =
    let both = or_parts (is_line_blank byte) (list_any is_line_blank text) none in
    rw both.0 (ap (λ (rest : List ℕ). byte ∷ rest) (packed_whole text both.1))
