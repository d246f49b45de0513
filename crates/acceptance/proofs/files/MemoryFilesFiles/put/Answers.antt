use Rattle.std.proofs.Common.{◌≡◌, Some, ap, arith}
use Rattle.std.specs.BTreeMap.{get_by_text}
use Rattle.std.proofs.lemmas.Map.Text.{text_keys}
use Rattle.acceptance.specs.InMemory.{file_or_none}
use Rattle.acceptance.proofs.files.MemoryFilesFiles.put.Goals as goal

-- the key that was inserted holds the copy, and every other key what it held
pub returns-in-Ok-insert-clause-stored : goal.returns-in-Ok-insert-clause-stored
returns-in-Ok-insert-clause-stored c =
    let here : get_by_text c.insert.new.self c.args.path.now ≡ Some c.args.bytes.now = grind (arith, text_keys) in (
      ap (λ o. Some (file_or_none o)) here,
      λ other differs.
          let there : get_by_text c.insert.new.self other ≡ get_by_text c.args.self.now.held other = grind (arith, text_keys) in
          ap (λ o. Some (file_or_none o)) there,
    )
