-- Turns worked by hand on a map of one bucket, for two CPUs: CPU 0 finds its freelist empty and takes element 3 of CPU 1's for an
-- update, then deletes the key.
use Rattle.std.specs.Prelude.{◌≡◌, false, List, [], ◌∷◌, None, Some}
use Rattle.map_types.specs.declared.attr.Shape.{Shape}
use Rattle.map_types.specs.declared.call.Verb.TheVariants as verbs
use Rattle.map_types.specs.declared.kind.MapKind.TheVariants.{Hash}
use Rattle.map_types.specs.declared.kind.Side.TheVariants.{Prog}
use Rattle.map_types.specs.declared.reply.Reply.TheVariants.{Done}
use Rattle.place_words.specs.declared.bucket_part.BucketPart.TheVariants.{Update, Delete}
use Rattle.place_words.specs.declared.bucket_part.Put.TheVariants as puts
use Rattle.place_words.specs.declared.free_part.FreePart.TheVariants.{Pushed, Popped, FoundEmpty}
use Rattle.place_words.specs.Turns.{Turn, on_bucket_of, on_freelist_of}
use Rattle.trace_check.specs.Laws.{read_count}

abbrev pub shape : Shape
shape = record { kind = Hash; cpus = 2; capacity = 4; elements = 6; buckets = 1; key_size = 1; value_size = 1; seed = 0; common = false }

abbrev pub deleting : List Turn
deleting = on_freelist_of 0 (Pushed 3) ∷ on_bucket_of shape (1 ∷ []) (Delete (1 ∷ []) (Some 3)) ∷ []

abbrev pub turns : List Turn
turns =
    on_freelist_of 0 FoundEmpty ∷ on_freelist_of 1 (Popped 3)
    ∷ on_bucket_of shape (1 ∷ []) (Update Prog 0 (1 ∷ []) (7 ∷ []) None (puts.Added 3)) ∷ deleting

-- The update has the first three, the delete the two behind them; and no beginning of the three is a delete of the key.
abbrev pub ReadInTurn : Type 0
ReadInTurn =
    (read_count shape 0 None (verbs.Update Prog 0 (1 ∷ []) (7 ∷ [])) turns ≡ Some (3, (Done, None)))
    × (read_count shape 0 None (verbs.Delete (1 ∷ [])) deleting ≡ Some (2, (Done, None)))
    × (read_count shape 0 None (verbs.Delete (1 ∷ [])) turns ≡ None)
    × (read_count shape 1 None (verbs.Delete (1 ∷ [])) deleting ≡ None)
