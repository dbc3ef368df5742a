use Rattle.place_table.proofs.table.PlaceTable.bit_of.Given as goal

abbrev pub ghosts-read_bit : goal.ghosts-read_bit
ghosts-read_bit a = record { element = a.element }
