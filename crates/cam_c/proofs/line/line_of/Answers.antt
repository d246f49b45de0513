use Rattle.std.proofs.Common.{arith}
use Rattle.cam_c.proofs.line.line_of.Goals as goal

pub put_numbers-requires-in-Bytes-clause-room : goal.put_numbers-requires-in-Bytes-clause-room
put_numbers-requires-in-Bytes-clause-room c = grind (arith)

pub put_numbers-requires-in-Numbers-Three-clause-room : goal.put_numbers-requires-in-Numbers-Three-clause-room
put_numbers-requires-in-Numbers-Three-clause-room c = grind (arith)

pub put_numbers-requires-clause-room : goal.put_numbers-requires-clause-room
put_numbers-requires-clause-room c = grind (arith)

pub put_numbers-requires-in-None-clause-room : goal.put_numbers-requires-in-None-clause-room
put_numbers-requires-in-None-clause-room c = grind (arith)

pub put_numbers-requires-in-Some-clause-room : goal.put_numbers-requires-in-Some-clause-room
put_numbers-requires-in-Some-clause-room c = grind (arith)

pub put_numbers-requires-in-Numbers-Two-clause-room : goal.put_numbers-requires-in-Numbers-Two-clause-room
put_numbers-requires-in-Numbers-Two-clause-room c = grind (arith)

pub put_numbers-requires-in-Numbers-One-clause-room : goal.put_numbers-requires-in-Numbers-One-clause-room
put_numbers-requires-in-Numbers-One-clause-room c = grind (arith)
