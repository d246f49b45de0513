-- Fields and parts, one at a time.
use Rattle.std.proofs.Common.{arith, ◌≡◌, ℕ, suc, true, false, List, [], ◌∷◌, ◌++◌, length, Option, Some, None, ap, subst, ◌∙◌}
use Rattle.std.proofs.Common.{append-nil}
use Rattle.std.specs.Borrow.{Bor}
use Rattle.cam_macros.specs.declared.part.Part.{Part}
use Rattle.cam_macros.specs.declared.fault.MacroFault.{MacroFault}
use Rattle.cam_macros.specs.declared.fault.MacroFault.TheVariants.{BadName, Malformed, PrimitiveRefused}
use Rattle.cam_macros.specs.declared.fault.MacroFault.TheVariants.{RotationRefused, SizeRefused, OutOfMemory}
use Rattle.cam_macros.specs.Tree.{Tree}
use Rattle.cam_macros.specs.Grammar.{IsExpression}
use Rattle.cam_macros.specs.Answers.{IsMalformed, Nothing}
use Rattle.cam_macros.proofs.FaultLemmas.{malformed_also}
use Rattle.cam_macros.specs.Reading.{AreExpressions, AreParts, IsPart, IsMacroRefused, first, others, pieces, is_macro_name}
use Rattle.cam_macros.specs.Reading.{is_silent, parts_spoken}

-- how much text is left
abbrev pub text_left : Option (Bor (List ℕ)) → ℕ
text_left None = 0
text_left (Some text) = suc (length text.now)

-- the items stand for the texts before those that are left
pub record AreReadBefore (left all : List (List ℕ)) (items : List Tree) : Type 0 where
  pub forth : (more : List Tree) → AreExpressions left more → AreExpressions all (items ++ more)
  pub back : (trees : List Tree) → AreExpressions all trees → (more : List Tree) × AreExpressions left more

pub tail_read : (text : List ℕ) (left : List (List ℕ)) (more : List Tree) → AreExpressions (text ∷ left) more
    → (rest : List Tree) × AreExpressions left rest
tail_read text left more h = grind arith

pub head_read : (text : List ℕ) (left : List (List ℕ)) (more : List Tree) → AreExpressions (text ∷ left) more
    → (tree : Tree) × IsExpression text tree
head_read text left more h = grind arith

pub fields_end : (all : List (List ℕ)) (items : List Tree) → AreReadBefore [] all items → AreExpressions all items
fields_end all items k = subst (AreExpressions all) (append-nil items) (k.forth [] tt)

pub fields_fault : (fault : MacroFault) (text : List ℕ) (left all : List (List ℕ)) (items : List Tree)
    → AreReadBefore (text ∷ left) all items → IsMalformed fault (Nothing (IsExpression text))
    → IsMalformed fault (Nothing (AreExpressions all))
fields_fault fault text left all items k f =
    malformed_also fault
    (λ none trees h.
    let found = k.back trees h in
    let first = head_read text left found.0 found.1 in
    none first.0 first.1)
    f

-- the same of parts
pub record ArePartsBefore (left all : List (List ℕ)) (items : List Part) : Type 0 where
  pub forth : (more : List Part) → AreParts left more → AreParts all (items ++ more)
  pub back : (parts : List Part) → AreParts all parts → (more : List Part) × AreParts left more

pub head_part : (piece : List ℕ) (left : List (List ℕ)) (more : List Part) → AreParts (piece ∷ left) more
    → (part : Part) × IsPart piece part
head_part piece left more h = grind arith

pub parts_end : (all : List (List ℕ)) (items : List Part) → ArePartsBefore [] all items → AreParts all items
parts_end all items k = subst (AreParts all) (append-nil items) (k.forth [] tt)

pub parts_fault : (fault : MacroFault) (piece : List ℕ) (left all : List (List ℕ)) (items : List Part)
    → is_silent piece ≡ false → ArePartsBefore (parts_spoken (piece ∷ left)) (parts_spoken all) items
    → IsMalformed fault (Nothing (IsPart piece)) → IsMalformed fault (Nothing (AreParts (parts_spoken all)))
parts_fault fault piece left all items e k f = grind (arith, malformed_also, head_part)

-- a fault of the parts is one of the macro
pub refused : (fault : MacroFault) (text name : List ℕ) (rest : List (List ℕ)) → pieces text ≡ name ∷ rest
    → is_macro_name name ≡ true → IsMalformed fault (Nothing (AreParts (parts_spoken rest))) → IsMacroRefused text fault
refused OutOfMemory text name rest e named f = tt
refused Malformed text name rest e named f = (
  ap (λ l. is_macro_name (first l)) e
      ∙ named,
  λ n parts h. f parts (subst (λ l. AreParts (parts_spoken (others l)) parts) e h.parts_are),
)
refused BadName text name rest e named f = absurd f
refused PrimitiveRefused text name rest e named f = f
refused RotationRefused text name rest e named f = f
refused SizeRefused text name rest e named f = f
