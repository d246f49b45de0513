use Rattle.std.proofs.Common.{◌++◌, take}
use Rattle.cam_station.specs.Files.{HasRisenBy}
use Rattle.std.specs.Prelude.{codes, decimal}
use Rattle.std.specs.List.{flat_map}
use Rattle.std.specs.Io.KnownBytes.{Appends}
use Rattle.cam_station.proofs.reply_line.say_line.Given as goal

abbrev pub invariant-loop-number : goal.invariant-loop-number
invariant-loop-number g l =
    record {
      said : Appends (g.O.Out.said l.fn.out) (g.O.Out.said l.out)
          (l.word ++ flat_map (λ n. codes " " ++ decimal n) (take l.number-index l.numbers));
      counted : HasRisenBy 0 (g.O.Out.failed l.fn.out) (g.O.Out.failed l.out);
    }
