-- A text stands for one macro at most.
use Rattle.std.proofs.Common.{◌≡◌, ℕ, min, List, [], ◌∷◌, refl, ap, sym, subst, ◌∙◌}
use Rattle.cam_macros.specs.declared.part.Part.{Part}
use Rattle.cam_macros.specs.declared.part.Part.TheVariants.{Assignment, Primitive}
use Rattle.cam_macros.specs.Tree.{Tree}
use Rattle.cam_macros.specs.Postfix.{postfix, tree_of, tree_of-postfix}
use Rattle.cam_numbers.specs.Numbers.{value_of}
use Rattle.cam_macros.specs.Grammar.{IsExpression, OneTreeLaw}
use Rattle.cam_macros.specs.Reading.{AreExpressions, AreParts, IsPrimitive, IsPart, OneReadingLaw}
use Rattle.cam_macros.proofs.Machine.{expression_read}
use Rattle.cam_macros.proofs.PartLemmas.{same_assignment, dollar_or_not}

pub one_tree : OneTreeLaw
one_tree text a b p q =
    let same : postfix a ≡ postfix b = cc (expression_read text a p, expression_read text b q) in
    sym (tree_of-postfix a) ∙ ap tree_of same ∙ tree_of-postfix b

same_trees : (texts : List (List ℕ)) (a b : List Tree) → AreExpressions texts a → AreExpressions texts b → a ≡ b
same_trees [] [] [] p q = refl
same_trees [] [] (_ ∷ _) p q = absurd q
same_trees [] (_ ∷ _) b p q = absurd p
same_trees (text ∷ texts) [] b p q = absurd p
same_trees (text ∷ texts) (x ∷ a) [] p q = absurd q
same_trees (text ∷ texts) (x ∷ a) (y ∷ b) p q = cc (one_tree text x y p.0 q.0, same_trees texts a b p.1 q.1)

same_primitive : (piece : List ℕ) (c d : ℕ) (a b : List Tree) → IsPrimitive piece c a → IsPrimitive piece d b
    → Primitive c a ≡ Primitive d b
same_primitive piece c d a b p q =
    let digits : p.digits ≡ q.digits = cc (p.written, q.written) in
    let texts : p.texts ≡ q.texts = cc (p.written, q.written) in
    let code : c ≡ d = p.same ∙ ap (λ l. min (value_of l) 10000) digits ∙ sym q.same in
    let fields : a ≡ b = same_trees q.texts a b (subst (λ l. AreExpressions l a) texts p.reads) q.reads in
    cc

same_part : (piece : List ℕ) (p q : Part) → IsPart piece p → IsPart piece q → p ≡ q
same_part piece (Assignment m a) (Assignment n b) p q =
    let found = same_assignment piece m n a b p q in
    let number : m ≡ n = p.same ∙ ap value_of found.0 ∙ sym q.same in
    let value : a ≡ b = one_tree q.text a b (subst (λ l. IsExpression l a) found.1 p.reads) q.reads in
    cc
same_part piece (Primitive c a) (Primitive d b) p q = same_primitive piece c d a b p q
same_part piece (Assignment m a) (Primitive d b) p q = absurd (dollar_or_not piece m a d b p q)
same_part piece (Primitive c a) (Assignment n b) p q = absurd (dollar_or_not piece n b c a q p)

same_parts : (pieces : List (List ℕ)) (a b : List Part) → AreParts pieces a → AreParts pieces b → a ≡ b
same_parts [] [] [] p q = refl
same_parts [] [] (_ ∷ _) p q = absurd q
same_parts [] (_ ∷ _) b p q = absurd p
same_parts (piece ∷ pieces) [] b p q = absurd p
same_parts (piece ∷ pieces) (x ∷ a) [] p q = absurd q
same_parts (piece ∷ pieces) (x ∷ a) (y ∷ b) p q = cc (same_part piece x y p.0 q.0, same_parts pieces a b p.1 q.1)

pub one_reading : OneReadingLaw
one_reading text m n a b p q = (p.name_is ∙ sym q.name_is, same_parts _ a b p.parts_are q.parts_are)
