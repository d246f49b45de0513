use Rattle.std.proofs.Common.{subst, arith, sym, take, ◌+◌, ◌<◌, ℕ, [], length}
use Rattle.std.proofs.lemmas.Grind.{common_steps}
use Rattle.cam_objects.specs.declared.entry.Entry.{Entry}
use Rattle.cam_objects.specs.declared.entry.Entry.TheVariants.{Block}
use Rattle.std.specs.List.{fold}
use Rattle.cam_writers.specs.GerberTexts.{Phrases, with_entry}
use Rattle.cam_writers.specs.declared.gerber_state.GerberText.{GerberText}
use Rattle.cam_writers.specs.Machinery.Tracking.{AreEntryPoints, TracksPhrases}
use Rattle.cam_writers.proofs.Walks.{is_at, never_past, one_more}
use Rattle.cam_writers.proofs.gerber_state.GerberText.write_entries.Goals as goal
use Rattle.cam_writers.proofs.gerber_state.GerberText.write_entries.Goals.{in-Some+in_ok-write_entry, in_default}

pub write_entry-requires : goal.write_entry-requires
write_entry-requires c =
    let e : ℕ × Entry = (c.in-Some.number, c.in-Some.entry.now) in
    let below : c.loop-place.place < length c.args.entries.now =
    omega (arith, c.loop-place-test.true, c.len-place-end.ensures.value) in
    subst (λ (e : ℕ × Entry). AreEntryPoints e.1) (is_at c.args.entries.now c.loop-place.place e below c.in-Some.ensures.found)
    (c.requires c.loop-place.place e below)

pub loop-place-preserved : goal.loop-place-preserved
loop-place-preserved c =
    elim c.match-at.branch [
      | in-Some+in_ok-write_entry w ↦ record {
        tracks = λ phrases begun. subst
            (λ (s : GerberText). TracksPhrases (fold with_entry phrases (take (c.loop-place.place + 1) c.args.entries.now)) s)
            (sym w.self-is)
            (subst (λ (ps : Phrases). TracksPhrases ps w.write_entry.new.self)
            (sym (one_more with_entry phrases c.args.entries.now c.loop-place.place (w.in-Some.number, w.in-Some.entry.now)
            (omega (arith, c.loop-place-test.true, c.len-place-end.ensures.value)) w.in-Some.ensures.found))
            (w.in_ok-write_entry.ensures (fold with_entry phrases (take c.loop-place.place c.args.entries.now))
            (c.loop-place.invariant.tracks phrases begun)));
        end = c.loop-place.invariant.end;
      }
      | in_default w ↦ absurd
          (never_past c.args.entries.now c.loop-place.place (0, Block [])
          (omega (arith, c.loop-place-test.true, c.len-place-end.ensures.value)) w.in_default.ensures.past)
    ]

pub returns : goal.returns
returns c = grind (arith, common_steps)
