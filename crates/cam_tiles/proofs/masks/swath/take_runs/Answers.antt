use Rattle.std.proofs.Common.{Bool, ℕ, ◌||◌, subst, inl, inr}
use Rattle.cam_tiles.specs.Machinery.Inks.{Takes, in_body, in_runs}
use Rattle.cam_tiles.proofs.RunInks.{body_told, in_part, or_told, part_told, runs_told, takes_both}
use Rattle.cam_tiles.proofs.SwathInks.{same_test, takes_like}
use Rattle.cam_tiles.proofs.masks.swath.take_runs.Goals.{then-is_whole, else-is_whole}
use Rattle.cam_tiles.proofs.masks.swath.take_runs.Goals as goal

pub returns : goal.returns
returns c = λ holds are.
    let s = c.args.runs.now in
    let dark = c.args.dark in
    let old = c.args.inks.now in
    let mid = c.if-is_whole.inks in
    let later = c.take_each-2.new.self in
    let last = c.take_each-3.new.self in
    let n = old.tiles in
    let body : Takes 0 n (in_body s) dark old mid = elim c.if-is_whole.branch [
      | then-is_whole w ↦
          rw w.inks-is
          (takes_like (in_runs s.body) dark 0 n old w.take_each.new.self w.take_each.ensures (in_body s)
          (λ row column low within after until.
          let run = runs_told s.body row column in
          let held = body_told s row column in
          inr (same_test (in_runs s.body row column) (in_body s row column) (
            (λ on. let out = c.is_whole.ensures w.if-is_whole.true row column in held.1 (run.0 on, out.0, out.1)),
            (λ on. run.1 (held.0 on).0),
          ))))
      | else-is_whole w ↦
          rw w.inks-is
          w.take_body.ensures
    ] in
    let two : ℕ → ℕ → Bool = λ row column. in_body s row column || in_runs s.start row column in
    let start : Takes 0 n two dark old later =
    takes_both dark n (in_body s) (in_runs s.start) two old mid later body
    (subst (λ t. Takes 0 t (in_runs s.start) dark mid later) body.tiles c.take_each-2.ensures)
    (λ row column low within. or_told (in_body s row column) (in_runs s.start row column)) in
    let all : Takes 0 n (in_part s) dark old last =
    takes_both dark n two (in_runs s.end) (in_part s) old later last start
    (subst (λ t. Takes 0 t (in_runs s.end) dark later last) start.tiles c.take_each-3.ensures)
    (λ row column low within. or_told (two row column) (in_runs s.end row column)) in
    let held : Takes 0 n holds dark old last =
    takes_like (in_part s) dark 0 n old last all holds (λ row column low within after until.
    elim (are row column low within) [
      | inl some ↦ inl some
      | inr held ↦
          let part = part_told s row column in
          inr (same_test (in_part s row column) (holds row column) (
            (λ on. held.1 (part.0 on)),
            (λ on. part.1 (held.0 on)),
          ))
    ]) in
    rw c.look.ensures held
