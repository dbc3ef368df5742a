use Rattle.place_table.proofs.table.PlaceTable.join.Given as goal

abbrev pub ghosts-merge_seat : goal.ghosts-merge_seat
ghosts-merge_seat a = record { shape = a.other.me.0.shape }
