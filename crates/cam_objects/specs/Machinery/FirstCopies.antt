-- Where the repeats stand whose first copies are known, once an item came to the list before them or left it.
use Rattle.std.specs.Prelude.{ℕ, ◌+◌, ◌-◌, ◌^◌, nat_le, nat_lt, if◌then◌else◌, min}
use Rattle.cam_objects.specs.Cells.{FirstCopied}

-- one place farther on, up to the last one that 64 bits count
abbrev pub once_come : ℕ → FirstCopied → FirstCopied
once_come place first = record {
  place = if nat_le place first.place then min (first.place + 1) (2 ^ 64 - 1) else first.place;
  bounds = first.bounds;
  reaches = first.reaches;
}

-- and one place back
abbrev pub once_gone : ℕ → FirstCopied → FirstCopied
once_gone place first = record {
  place = if nat_lt place first.place then first.place - 1 else first.place;
  bounds = first.bounds;
  reaches = first.reaches;
}
