-- Clones are the same values.
use Rattle.std.proofs.Common.{◌≡◌, ℕ, List, sym, ◌∙◌, rules}
use Rattle.std.specs.List.{AllZip}
use Rattle.std.proofs.lemmas.List.Elements.{same_from_all_zip}
use Rattle.cam_objects.specs.Cells.{Reaches}
use Rattle.cam_objects.specs.declared.item.Item.{Item}
use Rattle.cam_objects.specs.declared.entry.Entry.{Entry}
use Rattle.cam_objects.specs.contracts.cells.numbers.ItemNumbersClone.TheImpl as of_numbers
use Rattle.cam_objects.specs.contracts.cells.kept.ItemCellsClone.TheImpl as of_cells
use Rattle.cam_objects.specs.contracts.item.ItemClone.TheImpl.{by_variants as IsItemClone}
use Rattle.cam_objects.specs.contracts.entry.EntryClone.TheImpl.{by_variants as IsEntryClone}

item_same : (x y : Item) → IsItemClone x y → y ≡ x
item_same x y h = search rules

entry_same : (p q : ℕ × Entry) → (q.0 ≡ p.0) × IsEntryClone p.1 q.1 → q ≡ p
entry_same p q h = let same : q.1 ≡ p.1 = search rules in λ i. (h.0 i, same i)

pub items_same : (items copies : List Item) → AllZip IsItemClone items copies → copies ≡ items
items_same items copies h = same_from_all_zip IsItemClone items copies h item_same

pub entries_same : (entries copies : List (ℕ × Entry)) → AllZip (λ p q. (q.0 ≡ p.0) × IsEntryClone p.1 q.1) entries copies
    → copies ≡ entries
entries_same entries copies h = same_from_all_zip _ entries copies h entry_same

numbers_same : (x y : List ℕ) → (of_numbers.is_clone-value).it x y → y ≡ x
numbers_same x y h = sym h.3 ∙ same_from_all_zip _ _ _ h.4.0 (λ _ _ same. same) ∙ h.2

pub cells_same : (x y : Reaches) → (of_cells.is_clone-value).it x y → y ≡ x
cells_same x y h =
    let left = numbers_same h.0.left h.1.left h.4.0 in
    let bottom = numbers_same h.0.bottom h.1.bottom h.4.1.0 in
    let right = numbers_same h.0.right h.1.right h.4.1.1.0 in
    let top = numbers_same h.0.top h.1.top h.4.1.1.1 in
    sym h.3 ∙ (λ i. record { left = left i; bottom = bottom i; right = right i; top = top i }) ∙ h.2
