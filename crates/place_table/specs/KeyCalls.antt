-- What a call on a key leaves of its pass.
use Rattle.std.specs.Prelude.{ℕ, List}
use Rattle.map_types.specs.declared.call.Verb.{Verb}
use Rattle.map_types.specs.declared.kind.DomainId.TheVariants.{Bucket}
use Rattle.map_types.specs.declared.reply.Reply.{Reply}
use Rattle.place_words.specs.Locks.{lock_number}
use Rattle.place_words.specs.Turns.{bucket_of_key}
use Rattle.place_table.specs.BucketTurns.{LosesAtMost}
use Rattle.place_table.specs.Calls.{Called}
use Rattle.place_table.specs.Passes.{PassView, TableView}

-- A call on a key did what its turns tell, and answered so. No lock but the key's bucket was given back without a part, and that one
-- once at most.
abbrev pub CalledOn : TableView → PassView → PassView → Verb → List ℕ → Reply → Type 0
CalledOn t before after verb key reply =
    (called : Called t before after verb reply) × LosesAtMost (lock_number t.shape (Bucket (bucket_of_key t.shape key))) called.lost
