use Rattle.std.proofs.Common.{◌≡◌, ◌≤◌, None, length}
use Rattle.std.specs.Io.KnownBytes.{Consumes}
use Rattle.camplot.proofs.reading.read_all.Given as goal

-- the bytes so far are those that the reader has given, and no read has failed
abbrev pub invariant-loop : goal.invariant-loop
invariant-loop g l =
    record {
      turns : l.counter ≤ length l.bytes.items;
      bound : length l.bytes.items ≤ l.limit;
      read : Consumes (g.R.Read.remaining l.initial.reader.reader) (g.R.Read.remaining l.reader.reader) l.bytes.items;
      failures : l.reader.failures ≡ l.initial.reader.failures;
      error : l.reader.error ≡ None;
    }
