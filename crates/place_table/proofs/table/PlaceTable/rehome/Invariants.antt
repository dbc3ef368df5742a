use Rattle.place_table.proofs.table.PlaceTable.rehome.Given as goal

abbrev pub ghosts-rehome_word : goal.ghosts-rehome_word
ghosts-rehome_word a = record { element = a.element; to = a.to }
