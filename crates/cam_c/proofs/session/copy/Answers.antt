use Rattle.std.proofs.Common.{◌+◌, length, subst, sym, arith, zero-add}
use Rattle.cam_c.specs.Calls.{IsCopied}
use Rattle.cam_c.proofs.Rooms.{copied_in, not_copied}
use Rattle.cam_c.proofs.session.copy.Goals as goal
use Rattle.cam_c.proofs.session.copy.Goals.{then-count-len, else-count-len}

pub returns-clause-room : goal.returns-clause-room
returns-clause-room g c =
    let text = c.args.text.now in let a = c.args.room in
    elim c.if-count-len.branch [
      | then-count-len w ↦ subst (IsCopied text a) (sym w.room-is)
          (copied_in text (0 + length text) a w.copy_in.new.self (zero-add (length text)) (omega (arith, w.if-count-len.true, c.len.ensures)) w.copy_in.ensures.places
          w.copy_in.ensures.items w.copy_in.ensures.filled)
      | else-count-len w ↦ subst (IsCopied text a) (sym w.room-is) (not_copied text a (omega (arith, w.if-count-len.false, c.len.ensures)))
    ]
