use Rattle.place_table.proofs.table.PlaceTable.split.Given as goal

abbrev pub ghosts-cut_seat : goal.ghosts-cut_seat
ghosts-cut_seat a = record { cpu = a.cpu }
