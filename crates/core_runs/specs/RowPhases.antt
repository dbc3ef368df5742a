-- A run in three phases worked by hand, on the map of `Rows`: in the first CPU 0 puts a key, in the second CPU 1 steals the element
-- for another key, and in the third CPU 0 looks for both. Tickets go over all phases.
use Rattle.std.specs.Prelude.{◌≡◌, false, List, [], ◌∷◌, None, Some}
use Rattle.map_types.specs.declared.kind.DomainId.TheVariants.{Local, Global, Bucket}
use Rattle.map_types.specs.declared.kind.Side.TheVariants.{Prog}
use Rattle.place_words.specs.declared.bucket_part.BucketPart.TheVariants.{Lookup, Update, Evict}
use Rattle.place_words.specs.declared.bucket_part.Put.TheVariants as puts
use Rattle.place_words.specs.declared.bucket_part.Seen.TheVariants.{Removed}
use Rattle.place_words.specs.declared.history.Part.TheVariants as parts
use Rattle.place_words.specs.declared.home.Home.TheVariants as homes
use Rattle.place_words.specs.declared.list_part.LocalPart.TheVariants as local
use Rattle.place_words.specs.declared.list_part.Stolen.TheVariants.{Nothing, Pending}
use Rattle.place_words.specs.declared.visits.Look.{Look}
use Rattle.place_words.specs.Histories.{opening_content}
use Rattle.place_words.specs.declared.step.Step.TheVariants as steps
use Rattle.place_words.specs.Interleaving.{Drawn, Event, does, interleaved}
use Rattle.core_runs.specs.Rows.{shape, drawn, first_turn, second_turn, first_refill, second_refill, no_lists, one_first, take, give}

abbrev pub look : Look
look = record { element = 0; bit = false; probed = Some Removed }

abbrev pub turns : List Drawn
turns =
    drawn 0 0 1 Global first_turn
    ∷ drawn 1 0 1 (Local 0) first_refill
    ∷ drawn 2 0 1 (Bucket 0) (parts.Bucket (Update Prog 0 (1 ∷ []) (161 ∷ []) (Some 0) (puts.Added 0)))
    ∷ drawn 3 1 2 Global second_turn
    ∷ drawn 4 1 2 (Local 1) second_refill
    ∷ drawn 5 1 2 (Local 1) (parts.Local (local.Steal Nothing [] []))
    ∷ drawn 6 1 2 (Bucket 0) (parts.Bucket (Evict 0 Removed))
    ∷ drawn 7 1 2 (Local 0) (parts.Local (local.Steal (Pending 0) (look ∷ []) []))
    ∷ drawn 8 1 2 (Local 1) (parts.Local (local.Add 3750703803 0 1))
    ∷ drawn 9 1 2 (Bucket 0) (parts.Bucket (Update Prog 0 (2 ∷ []) (178 ∷ []) (Some 0) (puts.Added 0)))
    ∷ drawn 10 0 3 (Bucket 0) (parts.Bucket (Lookup Prog (1 ∷ []) None))
    ∷ drawn 11 0 4 (Bucket 0) (parts.Bucket (Lookup Prog (2 ∷ []) (Some (0, 178 ∷ []))))
    ∷ []

abbrev pub events : List Event
events =
    -- CPU 0 takes the element and puts it into the bucket
    take 0 (Local 0) ∷ take 0 Global ∷ does (steps.Rehome 0 0 (homes.In (Local 0))) ∷ give 0 Global no_lists
    ∷ does (steps.Claim 0 0 (Local 0)) ∷ give 0 (Local 0) one_first
    ∷ take 0 (Bucket 0) ∷ does (steps.Attach 0 0 0) ∷ give 0 (Bucket 0) one_first
    -- CPU 1 finds the global lists empty, and its own
    ∷ take 1 (Local 1) ∷ take 1 Global ∷ give 1 Global no_lists
    ∷ give 1 (Local 1) no_lists
    ∷ take 1 (Local 1) ∷ give 1 (Local 1) no_lists
    -- takes the element out of the bucket and into its hand, and makes it pending with itself
    ∷ take 1 (Local 0) ∷ take 1 (Bucket 0) ∷ does (steps.Detach 1 0 0) ∷ give 1 (Bucket 0) no_lists
    ∷ does (steps.Rehome 1 0 (homes.Hand 1)) ∷ give 1 (Local 0) no_lists
    ∷ take 1 (Local 1) ∷ does (steps.Rehome 1 0 (homes.In (Local 1))) ∷ give 1 (Local 1) one_first
    ∷ take 1 (Bucket 0) ∷ does (steps.Attach 1 0 0) ∷ give 1 (Bucket 0) one_first
    -- CPU 0 looks
    ∷ take 0 (Bucket 0) ∷ give 0 (Bucket 0) one_first
    ∷ take 0 (Bucket 0) ∷ give 0 (Bucket 0) one_first
    ∷ []

abbrev pub PhasesEvents : Type 0
PhasesEvents = interleaved shape (opening_content shape) [] turns ≡ events
