use Rattle.cam_rows.proofs.RowBytes.{bits_of_bytes}
use Rattle.cam_rows.proofs.lanes.pbm_bytes.Goals as goal

pub returns : goal.returns
returns c i within =
    bits_of_bytes c.args.row c.exchanged-by_fours.result c.exchanged-by_twos.result c.exchanged.result i
    c.to_le_bytes.result c.exchanged-by_fours.ensures c.exchanged-by_twos.ensures c.exchanged.ensures
    c.to_le_bytes.ensures within
