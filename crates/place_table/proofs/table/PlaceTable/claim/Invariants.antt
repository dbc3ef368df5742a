use Rattle.std.specs.Prelude.{◌+◌}
use Rattle.place_words.specs.Locks.{lock_number}
use Rattle.place_words.specs.Steps.{with_row, without_free}
use Rattle.place_words.specs.declared.owner.Owner.TheVariants as owners
use Rattle.place_table.specs.Views.{with_changed, now_under, with_came, with_in_hand, kept_hashes}
use Rattle.place_table.specs.Words.{owner_word}
use Rattle.place_table.proofs.table.PlaceTable.claim.Given as goal

abbrev pub ghosts-claim_word : goal.ghosts-claim_word
ghosts-claim_word a = record {
  lock = lock_number a.seat.now.me.0.shape a.lock;
  now = with_row a.lock a.element (without_free a.element (now_under a.lock a.seat.now.me.0));
  hand = with_in_hand a.element a.cpu a.seat.now.me.0.hand;
  hashes = kept_hashes (with_in_hand a.element a.cpu a.seat.now.me.0.hand) a.seat.now.me.0.hashes;
  notes = with_changed a.element (owners.Hand a.cpu) (with_came (lock_number a.seat.now.me.0.shape a.lock) a.element a.seat.now.me.0.held a.seat.now.me.0.notes);
  word = owner_word a.seat.now.me.0.shape a.element;
  left = 1 + a.cpu;
}
