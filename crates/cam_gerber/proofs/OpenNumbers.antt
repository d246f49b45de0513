-- What every command keeps to: the number that an opening of a block names is one of an entry's, a format has few decimals,
-- and a text that is kept is that of one extended command.
use Rattle.std.proofs.Common.{◌≡◌, ℕ, ◌-◌, ◌≤◌, List, length, take, Bool, true, false, cond, Option, Some, None, arith}
use Rattle.std.proofs.lemmas.Bool.Decides.{nat_tests}
use Rattle.std.specs.Prelude.{IfSome, nat_lt, ◌==◌}
use Rattle.std.specs.List.{list_any}
use Rattle.std.specs.Option.{option_and_then}
use Rattle.cam_words.specs.Cutting.{FoundWord}
use Rattle.cam_words.specs.Bytes.{is_star}
use Rattle.cam_words.specs.Heads.{packed, behind_kept}
use Rattle.cam_words.specs.declared.word.Kind.{Kind}
use Rattle.cam_words.specs.declared.word.Kind.TheVariants.{Extended}
use Rattle.cam_units.specs.declared.length.Unit.{Unit as FileUnit}
use Rattle.cam_commands.specs.declared.parts.Format.{Format}
use Rattle.cam_commands.specs.declared.parts.Style.{Style}
use Rattle.cam_commands.specs.declared.parts.Mode.{Mode}
use Rattle.cam_commands.specs.declared.parts.Mirror.{Mirror}
use Rattle.cam_commands.specs.declared.parts.Polarity.{Polarity}
use Rattle.cam_commands.specs.declared.parts.OperationCode.{OperationCode}
use Rattle.cam_commands.specs.declared.names.FreeText.{FreeText}
use Rattle.cam_commands.specs.declared.names.Name.{Name}
use Rattle.cam_commands.specs.declared.names.Name.TheVariants.{Free}
use Rattle.cam_commands.specs.Commands.{Command, SetFormat, RefusedFormat, SetUnit, SetPolarity, SetMirror, SetRotation}
use Rattle.cam_commands.specs.Commands.{KeepText, SetScale, RefusedOld}
use Rattle.cam_commands.specs.Commands.{SingleQuadrant, MultiQuadrant, BeginRegion, EndRegion, Nothing, End, Unknown}
use Rattle.cam_numbers.specs.Numbers.{natural}
use Rattle.cam_commands.specs.Fields.{field}
use Rattle.cam_commands.specs.WordCommands.{OperationParts, by_run, by_code, by_mode, by_operation_code, parts_said_by}
use Rattle.cam_commands.specs.WordCommands.{selection, operation_of, operation, prefixed_selection, lone_function}
use Rattle.cam_commands.specs.WordCommands.{function, program_code, by_function, word_command}
use Rattle.cam_commands.specs.ExtendedCommands.{name_of, format_by, format_of, format_by_head, format_of_axes, is_format_digit}
use Rattle.cam_commands.specs.ExtendedCommands.{format_command, unit_command, polarity_command, mirror_command, rotation_command}
use Rattle.cam_commands.specs.ExtendedCommands.{scale_command, open_block, block_command, repeat_command, named_command, by_name}
use Rattle.cam_commands.specs.ExtendedCommands.{extended_command}
use Rattle.cam_commands.specs.Syntax.{command_by, command_of}
use Rattle.cam_gerber.specs.Machinery.OpenNumbers.{OpensWithin}
use Rattle.cam_gerber.specs.Machinery.Tracking.{HasFewDecimals}
use Rattle.cam_gerber.proofs.SoundDefinitions.{numbers_within}

-- of a text that is kept this holds
abbrev pub Keeps : (FreeText → List ℕ → Type 0) → Command → Type 0
Keeps Q (KeepText name text) = Q name text
Keeps Q _ = Unit {0}

-- an attribute or a name, of one command alone
pub record IsNamed (free : FreeText) (text : List ℕ) : Type 0 where
  pub named : name_of (take 2 (packed text)) ≡ Some (Free free)
  pub starless : list_any is_star (behind_kept 2 text) ≡ false

module _ (Q : FreeText → List ℕ → Type 0) where
  -- no block is opened, or one of such a number; no format is set, or one of few decimals; no text is kept, or one of which
  -- this holds
  record IsWithin (command : Command) : Type 0 where
    opens : OpensWithin command
    short : HasFewDecimals command
    keeps : Keeps Q command

  either : (b : Bool) (x y : Command) → IsWithin x → IsWithin y → IsWithin (cond b x y)
  either b x y h k = grind arith

  coded : (o : Option ℕ) (meaning : ℕ → Command) → ((n : ℕ) → IsWithin (meaning n)) → IsWithin (by_code o meaning)
  coded o meaning h = grind arith

  running : (o : Option (List ℕ)) (meaning : List ℕ → Command) (otherwise : Command) → ((run : List ℕ) → IsWithin (meaning run))
      → IsWithin otherwise → IsWithin (by_run o meaning otherwise)
  running o meaning otherwise h k = grind arith

  unknown : IsWithin Unknown
  unknown = record { opens = tt; short = tt; keeps = tt }

  selects : (code : ℕ) → IsWithin (selection code)
  unfolding selection
  selects code = either (nat_lt code 10) Unknown _ unknown (record { opens = tt; short = tt; keeps = tt })

  by_operation : (p : OperationParts) (code : ℕ) (named : Option OperationCode) → IsWithin (by_operation_code p code named)
  by_operation p code named = grind (arith, either, unknown, selects)

  said : (p : OperationParts) (d : Option (List ℕ)) → IsWithin (parts_said_by p d)
  said p d = grind (arith, either, unknown, coded, by_operation)

  operates : (p : OperationParts) → IsWithin (operation_of p)
  unfolding operation_of
  operates p = said p p.d

  operation_within : (mode : Option Mode) (text : List ℕ) → IsWithin (operation mode text)
  unfolding operation
  operation_within mode text = either _ (operation_of _) Unknown (operates _) unknown

  prefixed : (text : List ℕ) → IsWithin (prefixed_selection text)
  unfolding prefixed_selection
  prefixed text = either _ (by_code _ selection) Unknown (coded _ selection selects) unknown

  begins : IsWithin BeginRegion
  begins = record { opens = tt; short = tt; keeps = tt }

  ends : IsWithin EndRegion
  ends = record { opens = tt; short = tt; keeps = tt }

  sets_unit : (unit : FileUnit) (style : Style) → IsWithin (SetUnit unit style)
  sets_unit unit style = record { opens = tt; short = tt; keeps = tt }

  single : IsWithin SingleQuadrant
  single = record { opens = tt; short = tt; keeps = tt }

  multi : IsWithin MultiQuadrant
  multi = record { opens = tt; short = tt; keeps = tt }

  nothing : IsWithin Nothing
  nothing = record { opens = tt; short = tt; keeps = tt }

  refused_old : (style : Style) → IsWithin (RefusedOld style)
  refused_old style = record { opens = tt; short = tt; keeps = tt }

  at_end : IsWithin End
  at_end = record { opens = tt; short = tt; keeps = tt }

  lone : (code : ℕ) → IsWithin (lone_function code)
  unfolding lone_function
  lone code = search (either, begins, ends, sets_unit, single, multi, nothing, refused_old, unknown) depth 12

  moded : (mode : Option Mode) (rest : List ℕ) (otherwise : Command) → IsWithin otherwise → IsWithin (by_mode mode rest otherwise)
  moded mode rest otherwise h = grind (arith, either, operation_within)

  functions : (rest : List ℕ) (code : ℕ) → IsWithin (function rest code)
  unfolding function
  functions rest code = grind (arith, moded, either, prefixed, lone, unknown)

  programs : (code : ℕ) → IsWithin (program_code code)
  unfolding program_code
  programs code = search (either, at_end, refused_old, unknown)

  by_g : (g : Option (List ℕ) × List ℕ) (text : List ℕ) → IsWithin (by_function g text)
  unfolding by_function
  by_g g text = running g.0 _ (operation None text) (λ run. coded (natural run) (function g.1) (functions g.1)) (operation_within None text)

  words : (text : List ℕ) → IsWithin (word_command text)
  unfolding word_command
  words text =
      let m = field 77 text in
      either (length text == 0) Nothing
      (by_run m.0 (λ run. cond (length m.1 == 0) (by_code (natural run) program_code) Unknown) (by_function (field 71 text) text)) nothing
      (running m.0 (λ run. cond (length m.1 == 0) (by_code (natural run) program_code) Unknown) (by_function (field 71 text) text)
      (λ run. either (length m.1 == 0) (by_code (natural run) program_code) Unknown
      (coded (natural run) program_code programs) unknown) (by_g (field 71 text) text))

  -- ---- extended commands

  opened : (o : Option (List ℕ)) → IsWithin (open_block o)
  opened o = grind (arith, unknown, numbers_within)

  blocks : (text : List ℕ) → IsWithin (block_command text)
  unfolding block_command
  blocks text = grind (arith, either, opened, unknown)

  sets_format : (format : Format) → format.decimals ≤ 6 → IsWithin (SetFormat format)
  sets_format format few = record { opens = tt; short = few; keeps = tt }

  refused_format : IsWithin RefusedFormat
  refused_format = record { opens = tt; short = tt; keeps = tt }

  units : (text : List ℕ) → IsWithin (unit_command text)
  unfolding unit_command
  units text = search (either, sets_unit, refused_format)

  sets_polarity : (p : Polarity) → IsWithin (SetPolarity p)
  sets_polarity p = record { opens = tt; short = tt; keeps = tt }

  polarities : (text : List ℕ) → IsWithin (polarity_command text)
  unfolding polarity_command
  polarities text = search (either, sets_polarity, unknown)

  sets_mirror : (m : Mirror) → IsWithin (SetMirror m)
  sets_mirror m = record { opens = tt; short = tt; keeps = tt }

  mirrors : (text : List ℕ) → IsWithin (mirror_command text)
  unfolding mirror_command
  mirrors text = search (either, sets_mirror, unknown) depth 7

  rotations : (text : List ℕ) → IsWithin (rotation_command text)
  unfolding rotation_command
  rotations text = either _ (SetRotation _) Unknown (record { opens = tt; short = tt; keeps = tt }) unknown

  scales : (text : List ℕ) → IsWithin (scale_command text)
  unfolding scale_command
  scales text = either _ (SetScale _) Unknown (record { opens = tt; short = tt; keeps = tt }) unknown

  repeats : (text : List ℕ) → IsWithin (repeat_command text)
  unfolding repeat_command
  repeats text = grind (arith, either, unknown)

  digit_small : (d : ℕ) → is_format_digit d ≡ true → d - 48 ≤ 6
  digit_small d h = grind (arith, nat_tests)

  few_decimals : (axes : List ℕ) → IfSome {T = Format} (format_of axes) (λ (f : Format). f.decimals ≤ 6)
  unfolding format_of
  few_decimals axes = grind (arith, digit_small)

  few_of : (o : Option (List ℕ)) → IfSome (option_and_then format_of o) (λ (f : Format). f.decimals ≤ 6)
  few_of o = grind (arith, few_decimals)

  formats_by : (x y : Option Format) → IfSome x (λ (f : Format). f.decimals ≤ 6) → IsWithin (format_by x y)
  formats_by x y few = grind (arith, refused_format, either, sets_format)

  formats_of : (axes : List ℕ) → IsWithin (format_of_axes axes)
  unfolding format_of_axes
  formats_of axes = grind (arith, either, formats_by, few_of, refused_format)

  formats_head : (o : Option (List ℕ)) → IsWithin (format_by_head o)
  formats_head o = grind (arith, refused_format, formats_of)

  formats : (text : List ℕ) → IsWithin (format_command text)
  unfolding format_command
  formats text = formats_head _

  named : (name : Name) (text : List ℕ) → ((free : FreeText) → name ≡ Free free → Q free text) → IsWithin (named_command name text)
  unfolding named_command
  named name text h = grind (arith, formats, units, blocks, repeats, polarities, mirrors, rotations, scales)

  by_names : (o : Option Name) (text : List ℕ)
      → ((free : FreeText) → o ≡ Some (Free free) → list_any is_star text ≡ false → Q free text) → IsWithin (by_name o text)
  by_names o text h = grind (arith, unknown, named)

  extends : (text : List ℕ) → ((free : FreeText) → IsNamed free text → Q free (behind_kept 2 text)) → IsWithin (extended_command text)
  unfolding extended_command
  extends text h = grind (arith, by_names, named)

  by_kind : (kind : Kind) (text : List ℕ) → (kind ≡ Extended → (free : FreeText) → IsNamed free text → Q free (behind_kept 2 text))
      → IsWithin (command_by kind text)
  by_kind kind text h = grind (arith, words, nothing, extends)

pub opens_within : (word : FoundWord) → OpensWithin (command_of word)
unfolding command_of
opens_within word = (by_kind (λ free text. Unit {0}) word.kind word.text (λ is free named. tt)).opens

pub short_format : (word : FoundWord) → HasFewDecimals (command_of word)
unfolding command_of
short_format word = (by_kind (λ free text. Unit {0}) word.kind word.text (λ is free named. tt)).short

pub kept_text : (Q : FreeText → List ℕ → Type 0) (word : FoundWord)
    → (word.kind ≡ Extended → (free : FreeText) → IsNamed free word.text → Q free (behind_kept 2 word.text)) → Keeps Q (command_of word)
unfolding command_of
kept_text Q word h = (by_kind Q word.kind word.text h).keeps
