-- The values that a parse of the program's command leaves, where it succeeds.
use Rattle.std.proofs.Common.{◌≡◌, ◌∙◌, ◌<◌, ◌≤◌, ap, ap₂, ℕ, Bool, zero, suc, true, false, List, [], ◌∷◌, length, map}
use Rattle.std.proofs.Common.{is_some, Option, Some, None, Result, Ok, refl, sym, subst, inl, inr, arith, codes}
use Rattle.std.specs.Prelude.{find, option_map, pos, slice_get}
use Rattle.std.specs.Borrow.{Bor}
use Rattle.std.specs.List.{All, list_all, slice_index_or}
use Rattle.std.specs.Str.{bytes_eq}
use Rattle.std.specs.Str.Parse.{ParsesUnsigned}
use Rattle.std.proofs.lemmas.List.{get_or-map, length-map}
use Rattle.std.proofs.lemmas.Slice.Eq.{bytes_eq-Decides}
use Rattle.clap.specs.Built.{IsAuto, IsParsedFrom, IsPlain, SameRules}
use Rattle.clap.specs.Facts.{Entry, EntryPasses, WantsDefault, args_of, least_values, parser_of, parser_of_value}
use Rattle.clap.specs.Lexer.{without_minus}
use Rattle.clap.specs.Matches.{ReadsOne, first_value, found_of, one_text}
use Rattle.clap.specs.Simple.{IsSimple, app_of, is_ready, is_ready_leaf}
use Rattle.clap.specs.Values.{Accepts, IsSignedIn, reading_of}
use Rattle.clap.specs.Walk.{Rule, is_free_arg, rule_of, texts}
use Rattle.clap.specs.Words.{Text}
use Rattle.clap.specs.declared.builder.action.ArgAction.TheVariants.{Count, Set}
use Rattle.clap.specs.declared.builder.arg.Arg.{Arg}
use Rattle.clap.specs.declared.builder.command.Command.{Command}
use Rattle.clap.specs.declared.builder.value_parser.Reading.TheVariants.{WithoutMinus}
use Rattle.clap.specs.declared.builder.value_parser.ValueParser.{ValueParser}
use Rattle.clap.specs.declared.builder.value_parser.ValueParser.TheVariants.{Signed}
use Rattle.clap.specs.declared.parser.matches.ArgMatches.{ArgMatches}
use Rattle.clap.specs.declared.parser.matches.Found.{Found}
use Rattle.clap.proofs.CallerLemmas.{default_present, required_has_value, same_rules_by_id}
use Rattle.clap.proofs.CallerReads.{signed_reads}
use Rattle.clap.proofs.SimpleLemmas.{is_false, is_nil, ready_simple, simple_groups}
use Rattle.clap.proofs.WalkLemmas.{both}
use Rattle.camplot.specs.Synopsis.{camplot, depth_option, explain_option, count_written, progress_option, script_argument}

-- the first element that passes a test, where one does, with what holds of each
first_of_all : {X : Type 0} (p : X → Bool) (P : X → Type 0) (xs : List X) (i : ℕ) → All P xs → i < length xs
    → ((d : X) → p (slice_index_or xs i d) ≡ true) → (x : X) × (find p xs ≡ Some x) × (p x ≡ true) × P x
first_of_all p P [] i all lt here = absurd (omega arith)
first_of_all {X} p P (x ∷ xs) i all lt here =
    go (p x) refl i lt here (λ k below there. first_of_all p P xs k (λ j d inside. all (suc j) d (omega arith)) below there)
  where
    go : (b : Bool) → p x ≡ b → (k : ℕ) → k < length (x ∷ xs) → ((d : X) → p (slice_index_or (x ∷ xs) k d) ≡ true)
        → ((j : ℕ) → j < length xs → ((d : X) → p (slice_index_or xs j d) ≡ true) → (y : X) × (find p xs ≡ Some y) × (p y ≡ true) × P y)
        → (y : X) × (find p (x ∷ xs) ≡ Some y) × (p y ≡ true) × P y
    go true is k lt here rest = (x, rw is refl, is, all 0 x (omega arith))
    go false is zero lt here rest =
        let passes : p x ≡ true = here x in
        cc
    go false is (suc k) lt here rest = rw is (rest k (omega arith) here)

-- texts that the test tells apart are not equal
other_text : (s t : Text) → bytes_eq s t ≡ false → s ≡ t → ⊥
other_text s t differ same =
    let equal = (bytes_eq-Decides s t).1 same in
    cc

-- an argument with another id is not one that clap adds itself
not_auto : (a : Arg) (id : Text) → a.id.now ≡ id → bytes_eq id (codes "help") ≡ false → bytes_eq id (codes "version") ≡ false → IsAuto a → ⊥
not_auto a id is help version (inl same) = other_text id _ help (sym is ∙ same)
not_auto a id is help version (inr same) = other_text id _ version (sym is ∙ same)

-- clap's lemmas take an argument for places past the end of a list
some_arg : (xs : List Arg) → length xs ≡ 4 → Arg
some_arg [] four = absurd (omega arith)
some_arg (x ∷ xs) four = x

-- what clap reads of the four arguments, in their places
abbrev the_rules : List Rule
the_rules = script_argument ∷ depth_option ∷ explain_option ∷ progress_option ∷ []

free_rules : (k : ℕ) → (slice_index_or the_rules k script_argument).is_free ≡ true
free_rules zero = refl
free_rules (suc zero) = refl
free_rules (suc (suc zero)) = refl
free_rules (suc (suc (suc zero))) = refl
free_rules (suc (suc (suc (suc k)))) = refl

abbrev id_at : ℕ → Text
id_at k = (slice_index_or the_rules k script_argument).id

-- each id stands in one place
only_script : (j : ℕ) → j < 4 → bytes_eq (id_at j) (codes "script") ≡ true → j ≡ 0
only_script zero lt same = refl
only_script (suc zero) lt same = cc
only_script (suc (suc zero)) lt same = cc
only_script (suc (suc (suc zero))) lt same = cc
only_script (suc (suc (suc (suc j)))) lt same = absurd (omega arith)

only_depth : (j : ℕ) → j < 4 → bytes_eq (id_at j) (codes "depth") ≡ true → j ≡ 1
only_depth zero lt same = cc
only_depth (suc zero) lt same = refl
only_depth (suc (suc zero)) lt same = cc
only_depth (suc (suc (suc zero))) lt same = cc
only_depth (suc (suc (suc (suc j)))) lt same = absurd (omega arith)

-- the list of default values is not empty
some_texts : (xs : List (Bor Text)) → texts xs ≡ codes "100" ∷ [] → 0 < length xs
some_texts [] is = cc
some_texts (x ∷ xs) is = omega arith

-- the first of some texts, with what holds of each
first_text : (xs : List (Bor Text)) (P : Bor Text → Type 0) → 0 < length xs → All P xs → (x : Bor Text) × (slice_get xs 0 ≡ Some x) × P x
first_text [] P lt all = absurd (omega arith)
first_text (x ∷ xs) P lt all = (x, refl, all 0 x lt)

-- the text that is read of an entry
text_of_entry : (f : Found) (id : Text) (e : Entry) (v : Bor Text) → find (λ x. bytes_eq x.0.now id) f.entries.items ≡ Some e
    → e.1.reading ≡ WithoutMinus → slice_get e.1.vals.items 0 ≡ Some v → one_text f id ≡ Some (without_minus v.now)
text_of_entry f id e v found reading first = rw (found, reading, first) refl

-- `--depth` has a value, a number in its range
pub record HasDepth (f : Found) : Type 0 where
  pub value : Text
  pub is : one_text f (codes "depth") ≡ Some (without_minus value)
  pub passes : IsSignedIn (pos 1) (pos 1000) value

module _ (cmd : Command) (m : ArgMatches) (app : app_of cmd ≡ camplot) (parse : IsParsedFrom cmd m) where
  rules : map rule_of (args_of cmd) ≡ the_rules
  rules = ap (λ a. a.top.rules) app

  simple : IsSimple cmd
  simple = ready_simple cmd (ap (λ a. is_ready a.top) app) (ap (λ a. list_all is_ready_leaf a.subs) app)

  count : length (args_of cmd) ≡ 4
  count = sym (length-map (args_of cmd) rule_of) ∙ ap length rules

  rule_at : (k : ℕ) (d : Arg) → k < 4 → rule_of (slice_index_or (args_of cmd) k d) ≡ slice_index_or the_rules k script_argument
  rule_at k d lt = sym (get_or-map rule_of (args_of cmd) k d script_argument (omega (arith, count)))
      ∙ ap (λ rs. slice_index_or rs k script_argument) rules

  -- no argument has a say over another
  plain : IsPlain cmd
  plain = (
    λ k d lt.
        let free : is_free_arg (slice_index_or (args_of cmd) k d) ≡ true =
        ap (λ r. r.is_free) (rule_at k d (omega (arith, count))) ∙ free_rules k in
        let exclusive = both _ _ free in (
          is_false _ exclusive.0,
          is_nil _ (both _ _ exclusive.1).0,
          (simple.args k d lt).overrides,
          simple_groups cmd (ap (λ rs. list_all (λ r. r.is_simple) rs) rules) k d lt,
        ),
    simple.groups,
  )

  -- an argument with the id of the kth is the kth
  alone : (k : ℕ) (d : Arg) → k < 4 → ((j : ℕ) → j < 4 → bytes_eq (id_at j) (id_at k) ≡ true → j ≡ k)
      → (j : ℕ) (e : Arg) → j < length (args_of cmd)
      → bytes_eq (slice_index_or (args_of cmd) j e).id.now (slice_index_or (args_of cmd) k d).id.now ≡ true → j ≡ k
  alone k d lt only j e low same =
      let under : j < 4 = omega (arith, count) in
      only j under (sym (ap₂ bytes_eq (ap (λ r. r.id) (rule_at j e under)) (ap (λ r. r.id) (rule_at k d lt))) ∙ same)

  -- an argument with no range of its own takes a value in each use
  one_value : (a : Arg) → a.num_vals ≡ None → 1 ≤ least_values a
  one_value a none = rw none (omega (arith, count))

  -- SCRIPT has to be given, so it has a value
  pub script_has_value : is_some (first_value (found_of m) (codes "script")) ≡ true
  script_has_value =
      let d = some_arg (args_of cmd) count in
      let a = slice_index_or (args_of cmd) 0 d in
      let is : rule_of a ≡ script_argument = rule_at 0 d (omega (arith, count)) in
      let id : a.id.now ≡ codes "script" = ap (λ r. r.id) is in
      let inside : 0 < length (args_of cmd) = omega (arith, count) in
      subst (λ (t : Text). is_some (first_value (found_of m) t) ≡ true) id
      (required_has_value cmd m parse plain simple.globals (ap (λ x. x.top.subcommand_negates_reqs) app) 0 d inside
      (ap (λ r. r.required) is) (ap (λ r. r.action) is) (simple.args 0 d inside).delimiter (one_value a (ap (λ r. r.range) is))
      (alone 0 d (omega (arith, count)) only_script) (λ empty. other_text (codes "script") [] refl (sym id ∙ empty))
      (not_auto a (codes "script") id refl refl))

  -- the argument of `--depth`
  abbrev depth : Arg
  depth = slice_index_or (args_of cmd) 1 (some_arg (args_of cmd) count)

  depth_is : rule_of depth ≡ depth_option
  depth_is = rule_at 1 _ (omega arith)

  depth_id : depth.id.now ≡ codes "depth"
  depth_id = ap (λ r. r.id) depth_is

  -- the built command has no other argument with that id
  kept : (id : Text) → id ≡ depth.id.now → (j : ℕ) (x : Arg) → j < length (args_of parse.built)
      → slice_index_or (args_of parse.built) j x ≡ x
      → bytes_eq x.id.now id ≡ true → SameRules depth x
  kept id is j x lt at same =
      same_rules_by_id cmd m parse 1 _ (omega (arith, count)) (alone 1 _ (omega arith) only_depth)
      (not_auto depth (codes "depth") depth_id refl refl)
      j x lt at (subst (λ (t : Text). bytes_eq x.id.now t ≡ true) is same)

  parser_is : (x : Arg) → SameRules depth x → parser_of x ≡ Signed (pos 1) (pos 1000)
  parser_is x same = ap parser_of_value (same.parser _ (ap (λ r. r.parser) depth_is))

  -- what the entry of `--depth` holds
  entry_value : (e : Entry) → e.0.now ≡ depth.id.now → EntryPasses parse.built e
      → (v : Bor Text) × (slice_get e.1.vals.items 0 ≡ Some v) × IsSignedIn (pos 1) (pos 1000) v.now × (e.1.reading ≡ WithoutMinus)
  entry_value e key pass =
      let no_group : e.1.is_group ≡ true → ⊥ = λ group. elim (pass.3 group) [
        | inl empty ↦ other_text (codes "depth") [] refl (sym depth_id ∙ (sym key ∙ empty))
        | inr groups ↦
            let none : 0 < 0 = subst (λ gs. 0 < length gs) (parse.from.plain plain).1 groups in
            absurd (omega arith)
      ] in
      let reading : e.1.reading ≡ WithoutMinus = elim pass.4 [
        | inl group ↦ absurd (no_group group)
        | inr h ↦ sym h.4.1 ∙ ap reading_of (parser_is h.1 (kept _ key h.0 h.1 h.2 h.3 h.4.0))
      ] in
      let values : All (λ (v : Bor Text). IsSignedIn (pos 1) (pos 1000) v.now) e.1.vals.items = elim pass.0 [
        | inl group ↦ absurd (no_group group)
        | inr all ↦ λ k d lt.
            let h = all k d lt in
            subst (λ (p : ValueParser). Accepts h.1.ignore_case p (slice_index_or e.1.vals.items k d).now)
            (parser_is h.1 (kept _ key h.0 h.1 h.2 h.3 h.4.0)) h.4.1
      ] in
      let filled : 0 < length e.1.vals.items = elim pass.1 [
        | inl group ↦ absurd (no_group group.0)
        | inr (inl some) ↦ some
        | inr (inr (inl counts)) ↦
            let h = counts.1 in
            let set : h.1.action ≡ Some Set = (kept _ key h.0 h.1 h.2 h.3 h.4.0).action Set (ap (λ r. r.action) depth_is) in
            let count : Set ≡ Count = rw set at h.4.1 in
            cc
        | inr (inr (inr h)) ↦
            let same = kept _ key h.0 h.1 h.2 h.3 h.4.0 in
            elim h.4.1 [
              | inl none ↦
                  let least = same.least (ap (λ r. r.action) depth_is) (one_value depth (ap (λ r. r.range) depth_is)) in
                  absurd (omega arith)
              | inr delimiter ↦
                  let none : false ≡ true = rw (same.val_delim, (simple.args 1 _ (omega (arith, count))).delimiter) at delimiter in
                  cc
            ]
      ] in
      let first = first_text e.1.vals.items (λ (v : Bor Text). IsSignedIn (pos 1) (pos 1000) v.now) filled values in
      (first.0, first.1, first.2, reading)

  pub depth_has_value : HasDepth (found_of m)
  depth_has_value =
      let wants : WantsDefault depth = (
        (simple.args 1 _ (omega (arith, count))).default_ifs,
        some_texts _ (ap (λ r. r.defaults) depth_is),
      ) in
      let has = default_present cmd m parse simple.globals 1 _ (omega (arith, count)) wants in
      let parsed = parse.parsed (parse.from.globals ∙ simple.globals) in
      let found = first_of_all (λ (e : Entry). bytes_eq e.0.now depth.id.now) (EntryPasses parse.built)
      (found_of m).entries.items has.0 parsed.values has.1 has.2 in
      let value = entry_value found.0 ((bytes_eq-Decides _ _).0 found.2) found.3 in
      record {
        value = value.0.now;
        is = subst (λ (t : Text). one_text (found_of m) t ≡ Some (without_minus value.0.now)) depth_id
            (text_of_entry (found_of m) _ found.0 value.0 found.1 value.3 value.1);
        passes = value.2;
      }

-- `u32` reads the value of `--depth` as the number that it writes
pub record IsNumberOf (f : Found) (n : ℕ) : Type 0 where
  pub number : option_map count_written (one_text f (codes "depth")) ≡ Some n
  pub least : 1 ≤ n
  pub most : n ≤ 1000

pub depth_number : {E : Type 0} (gives : Text → Result ℕ E → Type 0) (f : Found) (o : Option ℕ) → HasDepth f
    → ((t : Text) (r : Result ℕ E) → gives t r → ParsesUnsigned 32 10 t r)
    → ((t : Text) → one_text f (codes "depth") ≡ Some t → ReadsOne gives t o) → (n : ℕ) × (o ≡ Some n) × IsNumberOf f n
depth_number {E} gives f o has only reads =
    let read = reads (without_minus has.value) has.is in
    let n = signed_reads E gives 32 1 1000 has.value o read only (omega arith) has.passes in
    let given : gives (without_minus has.value) (Ok n.0) =
    subst (λ (x : Option ℕ). ReadsOne gives (without_minus has.value) x) n.1 read in (
      n.0,
      n.1,
      record {
        number = ap (option_map count_written) has.is ∙ ap (λ (v : ℕ). Some v) (sym (only _ _ given).1);
        least = n.2;
        most = n.3;
      },
    )
