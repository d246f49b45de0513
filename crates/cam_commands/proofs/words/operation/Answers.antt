use Rattle.std.proofs.Common.{◌≡◌, ◌∙◌, ap, sym}
use Rattle.cam_words.specs.Heads.{packed}
use Rattle.cam_commands.specs.Fields.{field}
use Rattle.cam_commands.specs.Machinery.WordParts.{plain_text}
use Rattle.cam_numbers.specs.Numbers.{integer}
use Rattle.cam_commands.specs.WordCommands.{slot}
use Rattle.cam_commands.proofs.PlainOperations.{operation_plain, packed_plain}
use Rattle.cam_commands.proofs.words.operation.Goals as goal

pub returns-in-Some : goal.returns-in-Some
returns-in-Some c =
    let text = packed c.args.text.now in
    let x = c.read_coordinate-x in
    let y = c.read_coordinate-y in
    let y_is : y.result.slot ≡ slot integer (field 89 (field 88 text).1).0 =
    y.ensures.slot ∙ ap (λ t. slot integer (field 89 t).0) x.ensures.behind in
    let behind : (field 89 (field 88 text).1).1 ≡ plain_text c.in-Some.code =
    ap (λ t. (field 89 t).1) (sym x.ensures.behind) ∙ sym y.ensures.behind ∙ ap packed c.in-Some.ensures
    ∙ packed_plain c.in-Some.code in
    operation_plain c.args.mode text _ _ c.in-Some.code x.ensures.slot y_is behind
