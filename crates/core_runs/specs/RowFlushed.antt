-- The race of `RowApart` where the CPUs share their lists: the element is flushed to the global lists while it is in the hand of
-- CPU 1, which then pushes it there.
use Rattle.std.specs.Prelude.{◌≡◌, false, List, [], ◌∷◌, None, Some}
use Rattle.map_types.specs.declared.kind.DomainId.TheVariants.{Local, Global, Bucket}
use Rattle.map_types.specs.declared.kind.Side.TheVariants.{Prog}
use Rattle.place_words.specs.declared.bucket_part.BucketPart.TheVariants.{Update, Delete}
use Rattle.place_words.specs.declared.bucket_part.Put.TheVariants as puts
use Rattle.place_words.specs.declared.bucket_part.Seen.TheVariants.{Held}
use Rattle.place_words.specs.declared.history.Part.{Part}
use Rattle.place_words.specs.declared.history.Part.TheVariants as parts
use Rattle.place_words.specs.declared.home.Home.TheVariants as homes
use Rattle.place_words.specs.declared.list_part.GlobalPart.TheVariants as global
use Rattle.place_words.specs.declared.list_part.LocalPart.TheVariants as local
use Rattle.place_words.specs.declared.list_part.Stolen.TheVariants.{Nothing}
use Rattle.place_words.specs.Histories.{opening_content}
use Rattle.place_words.specs.declared.step.Step.TheVariants as steps
use Rattle.place_words.specs.Interleaving.{Drawn, Event, does, sees, interleaved}
use Rattle.core_runs.specs.Rows.{drawn, no_lists, one_first, take, give, first_turn, first_refill}
use Rattle.core_runs.specs.Rows as row
use Rattle.core_runs.specs.RowApart.{visit, evict, one_second, one_free}

abbrev pub second_turn : Part
second_turn = parts.Global (global.Turn (record { element = 0; hash = 82610235; bit = false } ∷ []) [] (visit ∷ []) [] (Some record { target = 128; looks = record { element = 0; bit = false; probed = Some (Held 1) } ∷ []; forced = record { element = 0; probed = Held 1 } ∷ [] }))

abbrev pub turns : List Drawn
turns =
    drawn 0 0 1 Global first_turn
    ∷ drawn 1 0 1 (Local 0) first_refill
    ∷ drawn 2 0 1 (Bucket 0) (parts.Bucket (Update Prog 0 (1 ∷ []) (161 ∷ []) (Some 0) (puts.Added 0)))
    ∷ drawn 3 1 2 (Bucket 0) (parts.Bucket (Delete (1 ∷ []) (Some 0)))
    ∷ drawn 4 0 3 (Bucket 0) evict
    ∷ drawn 5 0 3 (Bucket 0) evict
    ∷ drawn 6 0 3 Global second_turn
    ∷ drawn 7 0 3 (Local 0) (parts.Local (local.Refill 3750703803 (visit ∷ []) [] None))
    ∷ drawn 8 0 3 (Local 0) (parts.Local (local.Steal Nothing [] []))
    ∷ drawn 9 0 3 (Local 1) (parts.Local (local.Steal Nothing [] []))
    ∷ drawn 10 1 2 Global (parts.Global (global.Push 0))
    ∷ []

abbrev pub events : List Event
events =
    -- CPU 0 takes the element and puts it into the bucket, and CPU 1 deletes it
    take 0 (Local 0) ∷ take 0 Global ∷ does (steps.Rehome 0 0 (homes.In (Local 0))) ∷ give 0 Global no_lists
    ∷ does (steps.Claim 0 0 (Local 0)) ∷ give 0 (Local 0) one_first
    ∷ take 0 (Bucket 0) ∷ does (steps.Attach 0 0 0) ∷ give 0 (Bucket 0) one_first
    ∷ take 1 (Bucket 0) ∷ does (steps.Detach 1 0 0) ∷ give 1 (Bucket 0) no_lists
    -- CPU 0 flushes it, looks for one, and finds it in the hand of CPU 1 twice
    ∷ take 0 (Local 0) ∷ take 0 Global ∷ take 0 (Bucket 0) ∷ sees 0 1 ∷ give 0 (Bucket 0) no_lists
    ∷ take 0 (Bucket 0) ∷ sees 0 1 ∷ give 0 (Bucket 0) no_lists
    ∷ does (steps.Rehome 0 0 (homes.In Global)) ∷ give 0 Global one_second
    ∷ give 0 (Local 0) no_lists
    -- and steals nothing
    ∷ take 0 (Local 0) ∷ give 0 (Local 0) no_lists
    ∷ take 0 (Local 1) ∷ give 0 (Local 1) no_lists
    -- CPU 1 pushes it
    ∷ take 1 Global ∷ does (steps.Settle 1 0 Global) ∷ give 1 Global one_free
    ∷ []

abbrev pub FlushedEvents : Type 0
FlushedEvents = interleaved row.shape (opening_content row.shape) [] turns ≡ events
