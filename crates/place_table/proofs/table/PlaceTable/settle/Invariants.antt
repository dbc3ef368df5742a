use Rattle.place_words.specs.Locks.{lock_number}
use Rattle.place_words.specs.Steps.{with_free, without_row}
use Rattle.place_words.specs.declared.owner.Owner.TheVariants as owners
use Rattle.place_table.specs.Views.{with_changed, now_under, without_in_hand, kept_hashes}
use Rattle.place_table.specs.Words.{owner_word}
use Rattle.place_table.proofs.table.PlaceTable.settle.Given as goal

abbrev pub ghosts-settle_word : goal.ghosts-settle_word
ghosts-settle_word a = record {
  lock = lock_number a.seat.now.me.0.shape a.lock;
  now = with_free a.element (without_row a.element (now_under a.lock a.seat.now.me.0));
  hand = without_in_hand a.element a.cpu a.seat.now.me.0.hand;
  hashes = kept_hashes (without_in_hand a.element a.cpu a.seat.now.me.0.hand) a.seat.now.me.0.hashes;
  notes = with_changed a.element owners.Free a.seat.now.me.0.notes;
  word = owner_word a.seat.now.me.0.shape a.element;
  left = 0;
}
