use Rattle.std.specs.Prelude.{◌+◌, false, ◌∷◌, if◌then◌else◌}
use Rattle.map_types.specs.Kind.{is_lru}
use Rattle.map_types.specs.declared.kind.DomainId.TheVariants as locks
use Rattle.place_words.specs.Locks.{lock_number}
use Rattle.place_words.specs.Steps.{without_row}
use Rattle.place_words.specs.declared.owner.Owner.TheVariants as owners
use Rattle.place_table.specs.Views.{with_changed, now_under, with_in_hand, kept_hashes}
use Rattle.place_table.specs.Words.{owner_word}
use Rattle.place_table.proofs.table.PlaceTable.detach.Given as goal

abbrev pub ghosts-detach_word : goal.ghosts-detach_word
ghosts-detach_word a = record {
  lock = lock_number a.seat.now.me.0.shape (locks.Bucket a.bucket);
  now = without_row a.element (now_under (locks.Bucket a.bucket) a.seat.now.me.0);
  hand = with_in_hand a.element a.cpu a.seat.now.me.0.hand;
  hashes = if is_lru a.seat.now.me.0.shape.kind then record { element = a.element; cpu = a.cpu; bucket = a.bucket; given = false } ∷ kept_hashes (with_in_hand a.element a.cpu a.seat.now.me.0.hand) a.seat.now.me.0.hashes else kept_hashes (with_in_hand a.element a.cpu a.seat.now.me.0.hand) a.seat.now.me.0.hashes;
  notes = with_changed a.element (owners.Hand a.cpu) a.seat.now.me.0.notes;
  word = owner_word a.seat.now.me.0.shape a.element;
  left = 1 + a.cpu;
}
