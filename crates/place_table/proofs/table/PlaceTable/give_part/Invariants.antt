use Rattle.place_words.specs.StrandSteps.{steps_made}
use Rattle.place_table.specs.Views.{numbered_entry}
use Rattle.place_table.specs.Recording.{entry_given}
use Rattle.place_table.proofs.table.PlaceTable.give_part.Given as goal

abbrev pub ghosts-give_lock : goal.ghosts-give_lock
ghosts-give_lock a = record { entry = numbered_entry a.seat.now.me.0 (entry_given a.lost.now a.log.now.items a.seat.now.me.1); kept = steps_made a.strand.now }
