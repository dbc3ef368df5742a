-- What a slot keeps of the turns of its lock: of a bucket how many there are, of any other lock the turns
-- themselves.
use Rattle.std.specs.Prelude.{◌≡◌, true, false, List, length}
use Rattle.map_types.specs.declared.kind.DomainId.{DomainId}
use Rattle.place_words.specs.declared.history.Entry.{Entry}
use Rattle.place_words.specs.State.{is_bucket}
use Rattle.place_table.specs.declared.content.SlotTurns.{SlotTurns}
use Rattle.place_table.specs.declared.content.SlotTurns.TheVariants.{Here, Logged}

abbrev pub HasTurns : DomainId → List Entry → SlotTurns → Type 0
HasTurns lock log (Here entries) = (is_bucket lock ≡ false) × (entries.value ≡ log)
HasTurns lock log (Logged count) = (is_bucket lock ≡ true) × (count ≡ length log)
