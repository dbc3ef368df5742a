use Rattle.place_table.proofs.table.PlaceTable.home_of.Given as goal

abbrev pub ghosts-read_home : goal.ghosts-read_home
ghosts-read_home a = record { element = a.element }
