use Rattle.place_table.proofs.table.PlaceTable.clear.Given as goal

abbrev pub ghosts-clear_bit : goal.ghosts-clear_bit
ghosts-clear_bit a = record { element = a.element }
