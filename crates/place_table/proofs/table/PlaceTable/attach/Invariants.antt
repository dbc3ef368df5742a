use Rattle.std.specs.Prelude.{◌+◌}
use Rattle.map_types.specs.declared.kind.DomainId.TheVariants as locks
use Rattle.place_words.specs.Locks.{lock_number}
use Rattle.place_words.specs.Steps.{with_row}
use Rattle.place_words.specs.declared.owner.Owner.TheVariants as owners
use Rattle.place_table.specs.Views.{with_changed, now_under, without_in_hand, kept_hashes}
use Rattle.place_table.specs.Words.{owner_word}
use Rattle.place_table.proofs.table.PlaceTable.attach.Given as goal

abbrev pub ghosts-attach_word : goal.ghosts-attach_word
ghosts-attach_word a = record {
  lock = lock_number a.seat.now.me.0.shape (locks.Bucket a.bucket);
  now = with_row (locks.Bucket a.bucket) a.element (now_under (locks.Bucket a.bucket) a.seat.now.me.0);
  hand = without_in_hand a.element a.cpu a.seat.now.me.0.hand;
  hashes = kept_hashes (without_in_hand a.element a.cpu a.seat.now.me.0.hand) a.seat.now.me.0.hashes;
  notes = with_changed a.element (owners.Bucket a.bucket) a.seat.now.me.0.notes;
  word = owner_word a.seat.now.me.0.shape a.element;
  left = 32 + a.bucket;
}
