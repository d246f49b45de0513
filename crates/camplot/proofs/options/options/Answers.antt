use Rattle.std.proofs.Common.{◌≡◌, ◌∙◌, ap, codes, refl, ℕ, List, [], map, string_bytes}
use Rattle.std.proofs.Common.{sym, subst, rules, Result, Ok, Err, IfErr, IsErrAnd, MatchResult}
use Rattle.std.specs.Prelude.{Some, option_map, unwrap_or}
use Rattle.std.specs.Result.{IsErr}
use Rattle.std.specs.Str.Parse.{ExplainsUnsignedError, HasUnsignedDigitsIfOk, ParsesUnsigned}
use Rattle.std.specs.declared.num.ParseIntError.{ParseIntError}
use Rattle.clap.specs.Words.{App, Text, app_of, first_of, found_of, is_simple, matches_of, one_of, one_text, rows_of}
use Rattle.clap.specs.Faults.{fault_of, is_simple_and_free}
use Rattle.clap.specs.Kinds.{HasKind, Kinds}
use Rattle.clap.specs.declared.error.Error.{Error}
use Rattle.clap.proofs.CallerLemmas.{some_of_text}
use Rattle.clap.proofs.WalkLemmas.{first_value-rows, one_text-rows}
use Rattle.camplot.specs.declared.options.OptionsFault.{OptionsFault}
use Rattle.camplot.specs.declared.options.OptionsFault.TheVariants.{Refused}
use Rattle.camplot.specs.Synopsis.{IsCallFor, IsFaultIn, IsOfMemory, camplot, explain_text, count_written, progress_text}
use Rattle.camplot.proofs.PlainCalls.{camplot_free, camplot_simple, explained_is_asked, plain_is_call, plain_is_unasked, same_call}
use Rattle.camplot.proofs.Values.{IsNumberOf, depth_has_value, depth_number, script_has_value}
use Rattle.camplot.proofs.options.options.Goals as goal
use Rattle.camplot.proofs.options.options.Goals.{After-from_residual-in_err-matches}

of_err : {X E : Type 0} (r : Result X E) (P : X → Type 0) (Q : E → Type 0) → IsErr r → IfErr r Q → MatchResult r P Q
of_err (Ok x) P Q is h = cc
of_err (Err e) P Q is h = h

-- an error of clap that is handed on
handed_on : {X : Type 0} (r : Result X OptionsFault) (error : Error) (P : OptionsFault → Type 0) → IsErrAnd r (λ fault. fault ≡ Refused error)
    → P (Refused error) → IfErr r P
handed_on (Ok x) error P is h = tt
handed_on (Err fault) error P is h = subst P (sym is) h

-- where clap finds no fault, memory ran out
memory_ran_out : (error : Error) → HasKind [] error → IsOfMemory (Refused error)
memory_ran_out error h = search rules

fault : (c : After-from_residual-in_err-matches) → HasKind (fault_of camplot (map string_bytes c.args.words.now)) c.in_err-matches.field-0.0
fault c =
    let app : app_of c.in_ok-command.field-0 ≡ camplot = c.in_ok-command.ensures in
    subst (λ (a : App). HasKind (fault_of a (map string_bytes c.args.words.now)) c.in_err-matches.field-0.0) app
    (c.in_err-matches.ensures.kinds (ap is_simple_and_free app ∙ camplot_free))

pub returns-in_err-matches-clause-refused : goal.returns-in_err-matches-clause-refused
returns-in_err-matches-clause-refused c =
    handed_on c.from_residual-in_err-matches.result c.in_err-matches.field-0.0 (IsFaultIn (map string_bytes c.args.words.now))
    c.from_residual-in_err-matches.ensures.1 (fault c)

pub returns-in_err-matches-clause-accepted : goal.returns-in_err-matches-clause-accepted
returns-in_err-matches-clause-accepted c none =
    handed_on c.from_residual-in_err-matches.result c.in_err-matches.field-0.0 IsOfMemory c.from_residual-in_err-matches.ensures.1
    (memory_ran_out c.in_err-matches.field-0.0 (subst (λ (ks : Kinds). HasKind ks c.in_err-matches.field-0.0) none (fault c)))

pub returns-in_err-matches-clause-plain : goal.returns-in_err-matches-clause-plain
returns-in_err-matches-clause-plain c name script depth path range is =
    let none : fault_of camplot (map string_bytes c.args.words.now) ≡ [] =
    ap (fault_of camplot) is ∙ (plain_is_call name script depth path range).accepted in
    of_err c.from_residual-in_err-matches.result _ _ c.from_residual-in_err-matches.ensures.0
    (returns-in_err-matches-clause-accepted c none)

pub unwrap-script-requires : goal.unwrap-script-requires
unwrap-script-requires c =
    some_of_text _ c.get_str.result _ c.get_str.ensures (script_has_value _ _ c.in_ok-command.ensures c.in_ok-matches.ensures.parsed)

-- how `u32` reads a text
abbrev Reads : List ℕ → Result ℕ ParseIntError → Type 0
Reads text r = ParsesUnsigned 32 10 text r × ExplainsUnsignedError 10 text r × HasUnsignedDigitsIfOk text r

pub unwrap-depth-requires : goal.unwrap-depth-requires
unwrap-depth-requires c =
    let has = depth_has_value _ _ c.in_ok-command.ensures c.in_ok-matches.ensures.parsed in
    let number = depth_number Reads _ c.get_one.result has (λ t r read. read.0) c.get_one.ensures.value in
    rw number.1 refl

pub returns-clause-given : goal.returns-clause-given
returns-clause-given c =
    let words : List Text = map string_bytes c.args.words.now in
    let app : app_of c.in_ok-command.field-0 ≡ camplot = c.in_ok-command.ensures in
    let f = found_of c.in_ok-matches.matches in
    let rows : rows_of f ≡ matches_of camplot words =
    (c.in_ok-matches.ensures.matches (ap is_simple app ∙ camplot_simple)).0 ∙ ap (λ (a : App). matches_of a words) app in
    let has = depth_has_value _ _ app c.in_ok-matches.ensures.parsed in
    let number = depth_number Reads f c.get_one.result has (λ t r read. read.0) c.get_one.ensures.value in
    let some : Some number.0 ≡ Some c.unwrap-depth.result = sym number.1 ∙ c.unwrap-depth.ensures in
    let same : number.0 ≡ c.unwrap-depth.result = cc in
    let is = subst (IsNumberOf f) same number.2 in
    record {
      accepted = sym (ap (λ (a : App). fault_of a words) app) ∙ c.in_ok-matches.ensures.kinds (ap is_simple_and_free app ∙ camplot_free);
      script = sym (ap (first_of (codes "script")) rows) ∙ sym (first_value-rows f (codes "script")) ∙ sym c.get_str.ensures ∙ search rules;
      number = ap (option_map count_written) (sym (ap (one_of (codes "depth")) rows) ∙ sym (one_text-rows f (codes "depth"))) ∙ is.number;
      in_range = (is.least, is.most);
    }

pub returns-clause-plain : goal.returns-clause-plain
returns-clause-plain c name script depth path range is =
    let words : List Text = map string_bytes c.args.words.now in
    let call = subst (λ (ws : List Text). IsCallFor ws script (unwrap_or depth 100)) (sym is)
    (plain_is_call name script depth path range) in
    same_call words _ _ _ _ (returns-clause-given c) call

pub returns-clause-explain : goal.returns-clause-explain
returns-clause-explain c =
    let words : List Text = map string_bytes c.args.words.now in
    let app : app_of c.in_ok-command.field-0 ≡ camplot = c.in_ok-command.ensures in
    let f = found_of c.in_ok-matches.matches in
    let rows : rows_of f ≡ matches_of camplot words =
    (c.in_ok-matches.ensures.matches (ap is_simple app ∙ camplot_simple)).0 ∙ ap (λ (a : App). matches_of a words) app in
    let is : one_text f (codes "explain") ≡ explain_text words =
    one_text-rows f (codes "explain") ∙ ap (one_of (codes "explain")) rows in
    record {
      asked = λ text. c.get_flag-explain.ensures.value (is ∙ text);
      unasked = λ text. c.get_flag-explain.ensures.other (is ∙ text);
    }

pub returns-clause-progress : goal.returns-clause-progress
returns-clause-progress c =
    let words : List Text = map string_bytes c.args.words.now in
    let app : app_of c.in_ok-command.field-0 ≡ camplot = c.in_ok-command.ensures in
    let f = found_of c.in_ok-matches.matches in
    let rows : rows_of f ≡ matches_of camplot words =
    (c.in_ok-matches.ensures.matches (ap is_simple app ∙ camplot_simple)).0 ∙ ap (λ (a : App). matches_of a words) app in
    let is : one_text f (codes "progress") ≡ progress_text words =
    one_text-rows f (codes "progress") ∙ ap (one_of (codes "progress")) rows in
    record {
      asked = λ text. c.get_flag-progress.ensures.value (is ∙ text);
      unasked = λ text. c.get_flag-progress.ensures.other (is ∙ text);
    }

pub returns-clause-unasked : goal.returns-clause-unasked
returns-clause-unasked c name script depth path range is =
    (returns-clause-explain c).unasked (ap explain_text is ∙ plain_is_unasked name script depth path range)

pub returns-clause-asked : goal.returns-clause-asked
returns-clause-asked c name script depth path range is =
    (returns-clause-explain c).asked (ap explain_text is ∙ explained_is_asked name script depth path range)
