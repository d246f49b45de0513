use Rattle.std.proofs.Common.{◌≡◌, sym, ap, ◌∙◌, Some, None}
use Rattle.std.specs.Prelude.{is_some, ◌||◌}
use Rattle.std.specs.List.{before_first}
use Rattle.cam_words.specs.Bytes.{is_star}
use Rattle.cam_macros.specs.Reading.{pieces, first}
use Rattle.cam_apertures.specs.Definition.{named}
use Rattle.cam_gerber.specs.Faults.{is_reserved}
use Rattle.cam_gerber.specs.Statements.{NamesMacro}
use Rattle.cam_gerber.proofs.Defining.{said_macro, said_none, refused_name, refused_again, refused_inside, by_parts}
use Rattle.cam_gerber.proofs.Defining.{macro_tracks, bad_parts, bad_name, no_name, name_before_star}
use Rattle.cam_gerber.proofs.running.Running.define_macro.Goals as goal

pub returns-in-BadName : goal.returns-in-BadName
returns-in-BadName c = λ past none t.
    let bad = bad_name c.args.text.now c.in-Err.fault c.in-BadName.is c.in-Err.ensures.fault in (
      NamesMacro (first (pieces c.args.text.now)) None,
      said_none c.args.text.now (no_name c.args.text.now bad),
      refused_name past (first (pieces c.args.text.now)) None c.args.self.now.built.macros t.built.macros bad,
    )

pub returns-then-is_named-2 : goal.returns-then-is_named-2
returns-then-is_named-2 c = λ past none t.
    let r = c.in-Ok.ensures.ok in
    let again = sym (ap (λ n. is_some (named c.args.self.now.built.macros n) || is_reserved n) c.as_slice.ensures)
    ∙ sym c.is_named-in-Ok.ensures ∙ c.if-is_named-2.true in (
      NamesMacro c.in-Ok.made.name (Some c.in-Ok.made.parts),
      said_macro c.args.text.now c.in-Ok.made.name c.in-Ok.made.parts r,
      refused_again past c.in-Ok.made.name (Some c.in-Ok.made.parts) c.args.self.now.built.macros t.built.macros r.named again,
    )

pub returns-then-self-2 : goal.returns-then-self-2
returns-then-self-2 c = λ past none t.
    let r = c.in-Ok.ensures.ok in
    let new = sym (ap (λ n. is_some (named c.args.self.now.built.macros n) || is_reserved n) c.as_slice.ensures)
    ∙ sym c.is_named-in-Ok.ensures ∙ c.if-is_named-2.false in (
      NamesMacro c.in-Ok.made.name (Some c.in-Ok.made.parts),
      said_macro c.args.text.now c.in-Ok.made.name c.in-Ok.made.parts r,
      refused_inside past c.in-Ok.made.name (Some c.in-Ok.made.parts) c.args.self.now.built.macros t.built.macros r.named new
          (sym t.region.inside ∙ c.if-self-2.true),
    )

pub returns-in_ok-add-in-Ok : goal.returns-in_ok-add-in-Ok
returns-in_ok-add-in-Ok c = λ past none t.
    let r = c.in-Ok.ensures.ok in
    let new = sym (ap (λ n. is_some (named c.args.self.now.built.macros n) || is_reserved n) c.as_slice.ensures)
    ∙ sym c.is_named-in-Ok.ensures ∙ c.if-is_named-2.false in (
      NamesMacro c.in-Ok.made.name (Some c.in-Ok.made.parts),
      said_macro c.args.text.now c.in-Ok.made.name c.in-Ok.made.parts r,
      by_parts past c.in-Ok.made.name (Some c.in-Ok.made.parts) c.args.self.now.built.macros t.built.macros r.named new
          (sym t.region.inside ∙ c.if-self-2.false),
      macro_tracks past c.args.self.now c.in-Ok.made c.add.new.self t c.in_ok-add-in-Ok.ensures.ok,
    )

pub returns-then-is_named : goal.returns-then-is_named
returns-then-is_named c = λ past none t.
    let bad = bad_parts c.args.text.now c.in-Err.fault c.in-Malformed.is c.in-Err.ensures.fault in
    let name : c.before_star.result.now ≡ first (pieces c.args.text.now) = c.before_star.ensures
    ∙ ap (before_first is_star) (c.deref.ensures.value ∙ c.in_ok-text-in-Malformed.ensures) ∙ name_before_star c.args.text.now in
    let again = sym (ap (λ n. is_some (named c.args.self.now.built.macros n) || is_reserved n) name) ∙ sym c.is_named.ensures
    ∙ c.if-is_named.true in (
      NamesMacro (first (pieces c.args.text.now)) None,
      said_none c.args.text.now bad.1,
      refused_again past (first (pieces c.args.text.now)) None c.args.self.now.built.macros t.built.macros bad.0 again,
    )

pub returns-then-self : goal.returns-then-self
returns-then-self c = λ past none t.
    let bad = bad_parts c.args.text.now c.in-Err.fault c.in-Malformed.is c.in-Err.ensures.fault in
    let name : c.before_star.result.now ≡ first (pieces c.args.text.now) = c.before_star.ensures
    ∙ ap (before_first is_star) (c.deref.ensures.value ∙ c.in_ok-text-in-Malformed.ensures) ∙ name_before_star c.args.text.now in
    let new = sym (ap (λ n. is_some (named c.args.self.now.built.macros n) || is_reserved n) name) ∙ sym c.is_named.ensures
    ∙ c.if-is_named.false in (
      NamesMacro (first (pieces c.args.text.now)) None,
      said_none c.args.text.now bad.1,
      refused_inside past (first (pieces c.args.text.now)) None c.args.self.now.built.macros t.built.macros bad.0 new
          (sym t.region.inside ∙ c.if-self.true),
    )

pub returns-else-self : goal.returns-else-self
returns-else-self c = λ past none t.
    let bad = bad_parts c.args.text.now c.in-Err.fault c.in-Malformed.is c.in-Err.ensures.fault in
    let name : c.before_star.result.now ≡ first (pieces c.args.text.now) = c.before_star.ensures
    ∙ ap (before_first is_star) (c.deref.ensures.value ∙ c.in_ok-text-in-Malformed.ensures) ∙ name_before_star c.args.text.now in
    let new = sym (ap (λ n. is_some (named c.args.self.now.built.macros n) || is_reserved n) name) ∙ sym c.is_named.ensures
    ∙ c.if-is_named.false in (
      NamesMacro (first (pieces c.args.text.now)) None,
      said_none c.args.text.now bad.1,
      by_parts past (first (pieces c.args.text.now)) None c.args.self.now.built.macros t.built.macros bad.0 new
          (sym t.region.inside ∙ c.if-self.false),
    )
