use Rattle.std.proofs.Common.{◌≡◌, ℕ, List, length, Option, Some, reverse, take, slice_get, nat_eq, ap, sym, subst, ◌∙◌, arith}
use Rattle.std.specs.List.{IsDistinct}
use Rattle.std.specs.Map.{keys_of}
use Rattle.std.specs.Option.{IfSome}
use Rattle.std.proofs.lemmas.Option.{slice_get_within}
use Rattle.cam_units.specs.Board.{IsSize}
use Rattle.cam_units.specs.declared.length.Nm.{Nm}
use Rattle.cam_objects.specs.declared.entry.Entry.{Entry}
use Rattle.cam_objects.specs.declared.entry.Entry.TheVariants.{Aperture, Block}
use Rattle.cam_objects.specs.Leaves.{Meaning, entry_meaning, meaning, meaning_in, round_width}
use Rattle.cam_objects.proofs.Dictionaries.{whole}
use Rattle.cam_objects.proofs.Painting.{meaning-absent, meaning-at}
use Rattle.cam_objects.proofs.SizedLeaves.{meaning_sized, round_sized}
use Rattle.cam_ask.proofs.painted.width.Goals as goal

abbrev width_of : Meaning → Option Nm
width_of m = round_width m.tip

-- what a number means among all entries
among_all : (es : List (ℕ × Entry)) (n : ℕ) → meaning (reverse (take (length es) es)) n ≡ meaning_in es n
among_all es n = ap (λ (ds : List (ℕ × Entry)). meaning (reverse ds) n) (whole es)

-- what the number of an entry means
meant : (es : List (ℕ × Entry)) (i n : ℕ) (e given : Entry) → IsDistinct nat_eq (keys_of es) → slice_get es i ≡ Some (n, e) → e ≡ given
    → width_of (entry_meaning (meaning (reverse (take i es))) given) ≡ width_of (meaning_in es n)
meant es i n e given distinct at same =
    ap (λ (x : Entry). width_of (entry_meaning (meaning (reverse (take i es))) x)) (sym same)
    ∙ ap width_of (sym (meaning-at es i (length es) n e distinct at (slice_get_within es i (n, e) at) (omega arith)) ∙ among_all es n)

pub returns-in-None-clause-value : goal.returns-in-None-clause-value
returns-in-None-clause-value c =
    let es = c.args.entries.now in
    ap width_of (sym (meaning-absent es (length es) c.args.number c.in-None.ensures.absent (omega arith)) ∙ among_all es c.args.number)

pub returns-in-Aperture-clause-value : goal.returns-in-Aperture-clause-value
returns-in-Aperture-clause-value c =
    c.stroke_width.ensures
    ∙ meant c.args.entries.now _ c.args.number _ (Aperture c.in-Aperture.aperture) c.find.ensures.distinct c.in-Some.ensures.found c.in-Aperture.is

pub returns-in-Aperture-clause-size : goal.returns-in-Aperture-clause-size
returns-in-Aperture-clause-size c =
    subst (λ (o : Option Nm). IfSome o (λ (w : Nm). IsSize w.0)) (sym (returns-in-Aperture-clause-value c))
    (round_sized (meaning_in c.args.entries.now c.args.number).tip (meaning_sized c.args.entries.now c.args.number c.requires).tip)

pub returns-in-Block-clause-value : goal.returns-in-Block-clause-value
returns-in-Block-clause-value c =
    meant c.args.entries.now _ c.args.number _ (Block c.in-Block.field-0) c.find.ensures.distinct c.in-Some.ensures.found c.in-Block.is
