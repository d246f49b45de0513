-- A head, byte for byte.
use Rattle.std.proofs.Common.{arith, ◌≡◌, ◌≢◌, ℕ, ◌+◌, ◌<◌, ◌≤◌, List, [], ◌∷◌, length, take, drop, get_or, Bool, true, Some}
use Rattle.std.proofs.Common.{None, false, refl, sym, ap, ◌∙◌, eq-eqb}
use Rattle.std.specs.Prelude.{nat_eq, not, codes}
use Rattle.std.proofs.lemmas.List.{drop_more, drop_all, drop-drop}
use Rattle.std.specs.List.{starts_with, list_any}
use Rattle.cam_words.specs.Bytes.{is_digit}
use Rattle.cam_words.specs.Heads.{packed, behind_head, is_comment, is_free_text}

pub starts_with-same : (text rest head : List ℕ) (i byte : ℕ) → text ≡ byte ∷ rest → i < length head
    → byte ≡ get_or head i 0 → starts_with nat_eq text (drop i head) ≡ starts_with nat_eq rest (drop (i + 1) head)
starts_with-same text rest head i byte e below same = grind (arith, drop_more, eq-eqb)

pub starts_with-other : (text rest head : List ℕ) (i byte : ℕ) → text ≡ byte ∷ rest → i < length head
    → byte ≢ get_or head i 0 → starts_with nat_eq text (drop i head) ≡ false
starts_with-other text rest head i byte e below other = grind (arith, drop_more)

pub starts_with-short : (text head : List ℕ) (i : ℕ) → text ≡ [] → i < length head
    → starts_with nat_eq text (drop i head) ≡ false
starts_with-short text head i e below = let d = drop_more head i 0 below in rw (d, e) refl

pub starts_with-end : (text head : List ℕ) (i : ℕ) → length head ≤ i → starts_with nat_eq text (drop i head) ≡ true
starts_with-end text head i past = rw (drop_all i head past) refl

-- the rest behind one more byte
pub drop_one : (text rest whole : List ℕ) (i byte : ℕ) → text ≡ drop i whole → text ≡ byte ∷ rest
    → rest ≡ drop (i + 1) whole
drop_one text rest whole i byte e f = ap (drop 1) (sym f ∙ e) ∙ drop-drop 1 i whole

-- what stands behind a head
pub behind_head-there : (head text rest : List ℕ) → starts_with nat_eq text head ≡ true → rest ≡ drop (length head) text
    → Some rest ≡ behind_head head text
unfolding behind_head
behind_head-there head text rest e is = rw (e, is) refl

pub behind_head-absent : (head text : List ℕ) → starts_with nat_eq text head ≡ false → None ≡ behind_head head text
unfolding behind_head
behind_head-absent head text e = rw e refl

-- a comment, by what the text begins with
pub comment_at_G04 : (text : List ℕ) → true ≡ starts_with nat_eq (packed text) (codes "G04") → true ≡ is_comment text
unfolding is_comment
comment_at_G04 text e = rw (← e) refl

pub comment_at_G4 : (text rest : List ℕ) (digit : Bool) → false ≡ starts_with nat_eq (packed text) (codes "G04")
    → true ≡ starts_with nat_eq (packed text) (codes "G4")
    → packed rest ≡ drop 2 (packed text) → digit ≡ list_any is_digit (take 1 (packed rest))
    → not digit ≡ is_comment text
unfolding is_comment
comment_at_G4 text rest digit long short e d = rw (← long, ← short, ← e, ← d) refl

pub no_comment : (text : List ℕ) → false ≡ starts_with nat_eq (packed text) (codes "G04")
    → false ≡ starts_with nat_eq (packed text) (codes "G4") → false ≡ is_comment text
unfolding is_comment
no_comment text long short = rw (← long, ← short) refl

starts_without : (text head : List ℕ) → starts_with nat_eq text (codes "G") ≡ false
    → starts_with nat_eq text (71 ∷ head) ≡ false
starts_without text head e = grind arith

pub no_comment_without_G : (text : List ℕ) → false ≡ starts_with nat_eq (packed text) (codes "G") → false ≡ is_comment text
no_comment_without_G text e = grind (arith, no_comment, starts_without)

-- free text, by its first letters
pub free_at_T : (text : List ℕ) → true ≡ starts_with nat_eq (packed text) (codes "T") → true ≡ is_free_text text
unfolding is_free_text
free_at_T text e = rw (← e) refl

pub free_at_IN : (text : List ℕ) → true ≡ starts_with nat_eq (packed text) (codes "IN") → true ≡ is_free_text text
unfolding is_free_text
free_at_IN text e = grind arith

pub free_by_LN : (text : List ℕ) (named : Bool) → false ≡ starts_with nat_eq (packed text) (codes "T")
    → false ≡ starts_with nat_eq (packed text) (codes "IN") → named ≡ starts_with nat_eq (packed text) (codes "LN")
    → named ≡ is_free_text text
unfolding is_free_text
free_by_LN text named t in_name e = rw (← t, ← in_name) e
