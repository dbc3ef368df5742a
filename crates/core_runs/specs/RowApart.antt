-- A race worked by hand, on a map where each CPU has a set of its own: CPU 0 finds the element that CPU 1 deleted still in that
-- CPU's hand.
use Rattle.std.specs.Prelude.{◌≡◌, false, List, [], ◌∷◌, None, Some}
use Rattle.map_types.specs.declared.attr.Shape.{Shape}
use Rattle.map_types.specs.declared.kind.DomainId.TheVariants.{CpuLru, Bucket}
use Rattle.map_types.specs.declared.kind.MapKind.TheVariants.{LruHash}
use Rattle.map_types.specs.declared.kind.Side.TheVariants.{Prog}
use Rattle.place_words.specs.declared.bucket_part.BucketPart.TheVariants.{Update, Delete, Evict}
use Rattle.place_words.specs.declared.bucket_part.Put.TheVariants as puts
use Rattle.place_words.specs.declared.bucket_part.Seen.TheVariants.{Held}
use Rattle.place_words.specs.declared.history.Part.{Part}
use Rattle.place_words.specs.declared.history.Part.TheVariants as parts
use Rattle.place_words.specs.declared.list_part.OwnPart.TheVariants as own
use Rattle.place_words.specs.declared.visits.Visit.{Visit}
use Rattle.place_words.specs.Histories.{opening_content}
use Rattle.place_words.specs.declared.step.Lists.{Lists}
use Rattle.place_words.specs.declared.step.Step.TheVariants as steps
use Rattle.place_words.specs.Interleaving.{Drawn, Event, does, sees, interleaved}
use Rattle.core_runs.specs.Rows.{drawn, no_lists, one_first, take, give}

abbrev pub shape : Shape
shape = record { kind = LruHash; cpus = 2; capacity = 2; elements = 2; buckets = 2; key_size = 1; value_size = 1; seed = 0; common = false }

abbrev pub first_turn : Part
first_turn = parts.Own (own.Turn 82610235 [] [] None (Some 0))

abbrev pub visit : Visit
visit = record { element = 0; bit = false }

abbrev pub second_turn : Part
second_turn = parts.Own (own.Turn 3750703803 [] (visit ∷ []) (Some record { target = 4; looks = record { element = 0; bit = false; probed = Some (Held 1) } ∷ []; forced = record { element = 0; probed = Held 1 } ∷ [] }) None)

abbrev pub evict : Part
evict = parts.Bucket (Evict 0 (Held 1))

abbrev pub turns : List Drawn
turns =
    drawn 0 0 1 (CpuLru 0) first_turn
    ∷ drawn 1 0 1 (Bucket 1) (parts.Bucket (Update Prog 0 (1 ∷ []) (161 ∷ []) (Some 0) (puts.Added 0)))
    ∷ drawn 2 1 2 (Bucket 1) (parts.Bucket (Delete (1 ∷ []) (Some 0)))
    ∷ drawn 3 0 3 (Bucket 1) evict
    ∷ drawn 4 0 3 (Bucket 1) evict
    ∷ drawn 5 0 3 (CpuLru 0) second_turn
    ∷ drawn 6 1 2 (CpuLru 0) (parts.Own (own.Push 0))
    ∷ []

abbrev pub one_second : Lists
one_second = record { free = []; first = []; second = 0 ∷ []; cursor = None }

abbrev pub one_free : Lists
one_free = record { free = 0 ∷ []; first = []; second = []; cursor = None }

abbrev pub events : List Event
events =
    -- CPU 0 takes its element and puts it into the bucket, and CPU 1 deletes it
    take 0 (CpuLru 0) ∷ does (steps.Claim 0 0 (CpuLru 0)) ∷ give 0 (CpuLru 0) one_second
    ∷ take 0 (Bucket 1) ∷ does (steps.Attach 0 0 1) ∷ give 0 (Bucket 1) one_first
    ∷ take 1 (Bucket 1) ∷ does (steps.Detach 1 0 1) ∷ give 1 (Bucket 1) no_lists
    -- CPU 0 looks for one, and finds it in the hand of CPU 1 twice
    ∷ take 0 (CpuLru 0) ∷ take 0 (Bucket 1) ∷ sees 0 1 ∷ give 0 (Bucket 1) no_lists
    ∷ take 0 (Bucket 1) ∷ sees 0 1 ∷ give 0 (Bucket 1) no_lists
    ∷ give 0 (CpuLru 0) one_second
    -- CPU 1 pushes it
    ∷ take 1 (CpuLru 0) ∷ does (steps.Settle 1 0 (CpuLru 0)) ∷ give 1 (CpuLru 0) one_free
    ∷ []

abbrev pub ApartEvents : Type 0
ApartEvents = interleaved shape (opening_content shape) [] turns ≡ events
