use Rattle.place_table.proofs.table.PlaceTable.owner_of.Given as goal

abbrev pub ghosts-read_owner : goal.ghosts-read_owner
ghosts-read_owner a = record { element = a.element }
