use Rattle.place_table.proofs.Splits.{splits}
use Rattle.place_table.proofs.steps.cut_seat.Goals as goal

pub split_seat-requires : goal.split_seat-requires
split_seat-requires g c = (c.requires.table, c.requires.words, rw c.requires.cpu.1 (splits _ _ _ _ c.requires.cpu.0 c.requires.idle))
