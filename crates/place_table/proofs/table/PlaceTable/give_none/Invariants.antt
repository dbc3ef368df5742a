use Rattle.place_table.proofs.table.PlaceTable.give_none.Given as goal

abbrev pub ghosts-lose_lock : goal.ghosts-lose_lock
ghosts-lose_lock a = record { cpu = a.cpu; call = a.call }
