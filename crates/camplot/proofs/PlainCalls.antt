-- What clap makes of plain calls.
use Rattle.std.proofs.Common.{◌≡◌, ◌∙◌, ◌≤◌, ◌==◌, ap, ℕ, true, false, List, [], ◌∷◌, Option, Some, None, refl, sym, arith, codes, decimal}
use Rattle.std.specs.Prelude.{IfSome, is_some, unwrap_or, pos}
use Rattle.std.specs.Str.{bytes_eq}
use Rattle.std.specs.Str.Parse.{IsNumeral, digits_value, signed_digits_value, without_leading_plus, without_leading_sign}
use Rattle.std.proofs.lemmas.Bool.{ne_eqb}
use Rattle.std.proofs.lemmas.Fmt.{decimal_is_IsNumeral}
use Rattle.std.proofs.lemmas.Int.{ints}
use Rattle.std.proofs.lemmas.Str.Parse.{digit_from_value}
use Rattle.clap.specs.Faults.{check_fault, defaults_fault, entered_fault, is_simple_and_free, settle_fault, walk_fault}
use Rattle.clap.specs.Kinds.{Kinds, or_else}
use Rattle.clap.specs.Simple.{App, built, entered, names_of}
use Rattle.clap.specs.Walk.{Walk, finished, nothing_held, settled, walk, walk_from}
use Rattle.clap.specs.Lexer.{strip_byte}
use Rattle.clap.specs.Values.{IsSignedIn}
use Rattle.clap.specs.ValueTests.{is_signed_in}
use Rattle.clap.specs.Words.{Text, is_simple}
use Rattle.clap.specs.declared.builder.value_parser.ValueParser.TheVariants.{Signed}
use Rattle.clap.proofs.OnLiterals.{clap_on_literals}
use Rattle.clap.proofs.ValueTestLemmas.{Accepts-accepts}
use Rattle.camplot.specs.Synopsis.{IsCallFor, IsPlainPath, camplot, explain_text, explained_call, count_written, plain_call}

-- the command line is of the kind for which clap gives the matches and the faults exactly
pub camplot_simple : is_simple camplot ≡ true
unfolding clap_on_literals
camplot_simple = refl

pub camplot_free : is_simple_and_free camplot ≡ true
unfolding clap_on_literals
camplot_free = refl

-- words are a call for one script and one depth at most
pub same_call : (words : List Text) (p q : Text) (m n : ℕ) → IsCallFor words p m → IsCallFor words q n → (p ≡ q) × (m ≡ n)
same_call words p q m n a b =
    let path : Some p ≡ Some q = sym a.script ∙ b.script in
    let depth : Some m ≡ Some n = sym a.number ∙ b.number in
    (cc, cc)

-- digits with this value, as clap meets them after `--depth`
record IsDepthWord (text : Text) (depth : ℕ) : Type 0 where
  no_option : strip_byte 45 text ≡ None
  no_escape : bytes_eq text (45 ∷ 45 ∷ []) ≡ false
  taken : is_signed_in (pos 1) (pos 1000) text ≡ true
  value : count_written text ≡ depth

depth_word : (text : Text) (depth : ℕ) → IsNumeral 10 text → digits_value 10 text ≡ depth → (1 ≤ depth) × (depth ≤ 1000)
    → IsDepthWord text depth
depth_word [] depth numeral value range = absurd (omega (arith, numeral.0))
depth_word (d ∷ ds) depth numeral value range =
    let digit = digit_from_value d numeral.1.0 in
    let minus : (d == 45) ≡ false = ne_eqb _ _ (λ e. omega (arith, digit)) in
    let plus : (d == 43) ≡ false = ne_eqb _ _ (λ e. omega (arith, digit)) in
    let unsigned : without_leading_plus (d ∷ ds) ≡ d ∷ ds = rw plus refl in
    let bare : without_leading_sign (d ∷ ds) ≡ d ∷ ds = rw (minus, plus) refl in
    let signed : signed_digits_value 10 (d ∷ ds) ≡ pos depth = rw (minus, plus) (ap pos value) in
    let taken : IsSignedIn (pos 1) (pos 1000) (d ∷ ds) = (
      rw bare numeral,
      rw signed (omega (arith, ints)),
      rw signed (omega (arith, ints)),
      rw signed (omega (arith, ints)),
    ) in
    record {
      no_option = rw minus refl;
      no_escape = rw minus refl;
      taken = Accepts-accepts false (Signed (pos 1) (pos 1000)) (d ∷ ds) taken;
      value = ap (digits_value 10) unsigned ∙ value;
    }

-- a level of a parse finds no fault where none of its steps does
no_fault : {a b c d e : Kinds} → a ≡ [] → b ≡ [] → c ≡ [] → d ≡ [] → e ≡ []
    → or_else a (or_else b (or_else c (or_else d e))) ≡ []
no_fault p q r s t = rw (p, q, r, s, t) refl

-- what clap makes of the two forms of a plain call, whose script begins with x
module _ (name : Text) (x : ℕ) (rest : Text) (path : (x == 45) ≡ false) where
  script_alone : IsCallFor (name ∷ (x ∷ rest) ∷ []) (x ∷ rest) 100
  unfolding clap_on_literals
  script_alone = record {
    accepted = simp path refl;
    script = simp path refl;
    number = simp path refl;
    in_range = (omega arith, omega arith);
  }

  alone_unasked : explain_text (name ∷ (x ∷ rest) ∷ []) ≡ Some (codes "false")
  unfolding clap_on_literals
  alone_unasked = simp path refl

  alone_asked : explain_text (name ∷ (x ∷ rest) ∷ codes "--explain" ∷ []) ≡ Some (codes "true")
  unfolding clap_on_literals
  alone_asked = simp path refl

  module _ (text : Text) (no_option : strip_byte 45 text ≡ None) (no_escape : bytes_eq text (45 ∷ 45 ∷ []) ≡ false)
      (taken : is_signed_in (pos 1) (pos 1000) text ≡ true) where
    -- the steps of clap over these words, each of which finds no fault
    abbrev given : List Text
    given = (x ∷ rest) ∷ codes "--depth" ∷ text ∷ []

    abbrev app : App
    app = built camplot

    abbrev end : Walk
    end = walk app.top.rules (names_of app) nothing_held given

    words_pass : walk_fault app.top (names_of app) (walk_from nothing_held) given ≡ []
    unfolding clap_on_literals
    words_pass = simp path (simp no_option (rw no_escape refl))

    none_entered : entered_fault app end.stopped ≡ []
    unfolding clap_on_literals
    none_entered = simp path (simp no_option (rw no_escape refl))

    value_passes : settle_fault app.top.rules app.top.args_override_self end.held ≡ []
    unfolding clap_on_literals
    value_passes = simp path (simp no_option (simp no_escape (rw taken refl)))

    defaults_pass : defaults_fault (settled app.top.rules end.held).rows app.top.rules ≡ []
    unfolding clap_on_literals
    defaults_pass = simp path (simp no_option (rw no_escape refl))

    all_given : check_fault app.top (finished app.top.rules end.held) (is_some (entered app end.stopped)) ≡ []
    unfolding clap_on_literals
    all_given = simp path (simp no_option (rw no_escape refl))

    script_and_depth : (depth : ℕ) → count_written text ≡ depth → (1 ≤ depth) × (depth ≤ 1000)
        → IsCallFor (name ∷ (x ∷ rest) ∷ codes "--depth" ∷ text ∷ []) (x ∷ rest) depth
    unfolding clap_on_literals
    script_and_depth depth value range = record {
      accepted = no_fault words_pass none_entered value_passes defaults_pass all_given;
      script = simp path (simp no_option (rw no_escape refl));
      number = simp (path, no_option, no_escape) (ap (λ n. Some n) value);
      in_range = range;
    }

    depth_unasked : explain_text (name ∷ (x ∷ rest) ∷ codes "--depth" ∷ text ∷ []) ≡ Some (codes "false")
    unfolding clap_on_literals
    depth_unasked = simp path (simp no_option (rw no_escape refl))

    depth_asked : explain_text (name ∷ (x ∷ rest) ∷ codes "--depth" ∷ text ∷ codes "--explain" ∷ []) ≡ Some (codes "true")
    unfolding clap_on_literals
    depth_asked = simp path (simp no_option (rw no_escape refl))

-- a plain call is a call for the script and the depth that stand in it
pub plain_is_call : (name script : Text) (depth : Option ℕ) → IsPlainPath script → IfSome depth (λ n. (1 ≤ n) × (n ≤ 1000))
    → IsCallFor (plain_call name script depth) script (unwrap_or depth 100)
plain_is_call name [] depth path range = absurd path
plain_is_call name (x ∷ rest) None path range = script_alone name x rest (ne_eqb _ _ path)
plain_is_call name (x ∷ rest) (Some n) path range =
    let digits = decimal_is_IsNumeral n (omega (arith, range)) in
    let word = depth_word (decimal n) n digits.0 digits.1 range in
    script_and_depth name x rest (ne_eqb _ _ path) (decimal n) word.no_option word.no_escape word.taken n word.value range

-- such a call asks for no explanations
pub plain_is_unasked : (name script : Text) (depth : Option ℕ) → IsPlainPath script → IfSome depth (λ n. (1 ≤ n) × (n ≤ 1000))
    → explain_text (plain_call name script depth) ≡ Some (codes "false")
plain_is_unasked name [] depth path range = absurd path
plain_is_unasked name (x ∷ rest) None path range = alone_unasked name x rest (ne_eqb _ _ path)
plain_is_unasked name (x ∷ rest) (Some n) path range =
    let digits = decimal_is_IsNumeral n (omega (arith, range)) in
    let word = depth_word (decimal n) n digits.0 digits.1 range in
    depth_unasked name x rest (ne_eqb _ _ path) (decimal n) word.no_option word.no_escape word.taken

-- and with `--explain` behind it, it does
pub explained_is_asked : (name script : Text) (depth : Option ℕ) → IsPlainPath script → IfSome depth (λ n. (1 ≤ n) × (n ≤ 1000))
    → explain_text (explained_call name script depth) ≡ Some (codes "true")
explained_is_asked name [] depth path range = absurd path
explained_is_asked name (x ∷ rest) None path range = alone_asked name x rest (ne_eqb _ _ path)
explained_is_asked name (x ∷ rest) (Some n) path range =
    let digits = decimal_is_IsNumeral n (omega (arith, range)) in
    let word = depth_word (decimal n) n digits.0 digits.1 range in
    depth_asked name x rest (ne_eqb _ _ path) (decimal n) word.no_option word.no_escape word.taken
