use Rattle.place_table.proofs.table.PlaceTable.mark.Given as goal

abbrev pub ghosts-set_bit : goal.ghosts-set_bit
ghosts-set_bit a = record { element = a.element }
