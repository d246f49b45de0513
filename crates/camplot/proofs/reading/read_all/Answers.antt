use Rattle.std.proofs.Common.{◌≡◌, ◌∙◌, ℕ, ◌+◌, ◌++◌, ◌≤◌, ◌<◌, List, arith, length, take, length-append, rules}
use Rattle.std.proofs.KnownBytes.{Consumes-trans}
use Rattle.camplot.proofs.Faults.{all_read, read_failed, tells_none}
use Rattle.camplot.proofs.reading.read_all.Goals as goal

pub returns-in-Err-clause-err : goal.returns-in-Err-clause-err
returns-in-Err-clause-err g c =
    read_failed c.in-Err.fault _ _ _ c.loop.bytes.items c.args.limit _ _ _ c.in-Err.ensures.kind c.loop.invariant.failures
    c.in-Err.ensures.counted c.loop.invariant.bound c.loop.invariant.read c.in-Err.ensures.bytes

pub returns-then-count-eq0-clause-ok : goal.returns-then-count-eq0-clause-ok
returns-then-count-eq0-clause-ok g c =
    let none : c.in-Ok-read.count ≡ 0 = search rules in
    let room : 0 < length c.read.new.piece = search rules in
    all_read _ _ _ c.loop.bytes.items c.read.new.piece c.in-Ok-read.count c.args.limit none room
    c.loop.invariant.bound c.loop.invariant.read c.in-Ok-read.ensures.bytes

-- what was read before, and this piece, which is within what the limit leaves
pub returns-then-is_err-clause-err : goal.returns-then-is_err-clause-err
returns-then-is_err-clause-err g c =
    let piece : List ℕ = take c.in-Ok-read.count c.read.new.piece in
    let few : length piece ≤ c.in-Ok-read.count = search rules in
    let room : length c.loop.bytes.items + c.in-Ok-read.count ≤ c.args.limit = search rules in (
      c.loop.bytes.items ++ piece,
      Consumes-trans _ _ _ c.loop.bytes.items piece c.loop.invariant.read c.in-Ok-read.ensures.bytes.0,
      omega (arith, few, room, length-append c.loop.bytes.items piece),
    )

pub returns-then-is_err-clause-taken : goal.returns-then-is_err-clause-taken
returns-then-is_err-clause-taken g c =
    let piece : List ℕ = take c.in-Ok-read.count c.read.new.piece in
    let few : length piece ≤ c.in-Ok-read.count = search rules in
    let room : length c.loop.bytes.items + c.in-Ok-read.count ≤ c.args.limit = search rules in (
      c.loop.bytes.items ++ piece,
      Consumes-trans _ _ _ c.loop.bytes.items piece c.loop.invariant.read c.in-Ok-read.ensures.bytes.0,
      omega (arith, few, room, length-append c.loop.bytes.items piece),
    )

-- and here it is more
pub returns-then-count-limit-clause-err : goal.returns-then-count-limit-clause-err
returns-then-count-limit-clause-err g c =
    let piece : List ℕ = take c.in-Ok-read.count c.read.new.piece in
    let whole : length piece ≡ c.in-Ok-read.count = search rules in
    let more : c.args.limit < length c.loop.bytes.items + c.in-Ok-read.count = search rules in (
      c.loop.bytes.items ++ piece,
      Consumes-trans _ _ _ c.loop.bytes.items piece c.loop.invariant.read c.in-Ok-read.ensures.bytes.0,
      omega (arith, whole, more, length-append c.loop.bytes.items piece),
    )

-- by one byte at most
pub returns-then-count-limit-clause-taken : goal.returns-then-count-limit-clause-taken
returns-then-count-limit-clause-taken g c =
    let piece : List ℕ = take c.in-Ok-read.count c.read.new.piece in
    let few : length piece ≤ length c.read.new.piece = search rules in
    let given : length c.read.new.piece ≤ c.min-room.result = search rules in
    let room : length c.loop.bytes.items + c.min-room.result ≤ c.args.limit + 1 = search rules in (
      c.loop.bytes.items ++ piece,
      Consumes-trans _ _ _ c.loop.bytes.items piece c.loop.invariant.read c.in-Ok-read.ensures.bytes.0,
      omega (arith, few, given, room, length-append c.loop.bytes.items piece),
    )

pub loop-preserved : goal.loop-preserved
loop-preserved g c =
    let piece : List ℕ = take c.in-Ok-read.count c.read.new.piece in
    let added : c.extend_from_slice.new.self.items ≡ c.loop.bytes.items ++ piece = search rules in
    let whole : length piece ≡ c.in-Ok-read.count = search rules in
    let room : length c.loop.bytes.items + c.in-Ok-read.count ≤ c.args.limit = search rules in
    rw added
    (record {
      turns = omega (arith, c.loop.invariant.turns, whole, length-append c.loop.bytes.items piece);
      bound = omega (arith, whole, room, length-append c.loop.bytes.items piece);
      read = Consumes-trans _ _ _ c.loop.bytes.items piece c.loop.invariant.read c.in-Ok-read.ensures.bytes.0;
      failures = c.in-Ok-read.ensures.ok ∙ c.loop.invariant.failures;
      error = c.in-Ok-read.ensures.none ∙ c.loop.invariant.error;
    })

pub returns-in-Err-clause-ok : goal.returns-in-Err-clause-ok
returns-in-Err-clause-ok c = grind (arith)

pub returns-clause-err : goal.returns-clause-err
returns-clause-err c = grind (arith)

pub loop-init : goal.loop-init
loop-init c = grind (arith)

pub returns-then-count-eq0-clause-err : goal.returns-then-count-eq0-clause-err
returns-then-count-eq0-clause-err c = grind (arith)

pub returns-in_default-clause-taken : goal.returns-in_default-clause-taken
returns-in_default-clause-taken c = grind (arith)

pub returns-then-is_err-clause-ok : goal.returns-then-is_err-clause-ok
returns-then-is_err-clause-ok c = assumption arith

pub returns-in_default-clause-err : goal.returns-in_default-clause-err
returns-in_default-clause-err c = grind (arith)

pub returns-then-count-limit-clause-told : goal.returns-then-count-limit-clause-told
returns-then-count-limit-clause-told g c =
    tells_none _ _ (c.in-Ok-read.ensures.none ∙ c.loop.invariant.error) (λ kind same. cc)

pub returns-then-is_err-clause-told : goal.returns-then-is_err-clause-told
returns-then-is_err-clause-told g c =
    tells_none _ _ (c.in-Ok-read.ensures.none ∙ c.loop.invariant.error) (λ kind same. cc)
