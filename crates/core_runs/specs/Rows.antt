-- A race worked by hand: CPU 1 finds the only element in the hand of CPU 0.
use Rattle.std.specs.Prelude.{◌≡◌, ℕ, false, true, List, [], ◌∷◌, ◌++◌, Option, None, Some}
use Rattle.map_types.specs.declared.attr.Shape.{Shape}
use Rattle.map_types.specs.declared.kind.DomainId.{DomainId}
use Rattle.map_types.specs.declared.kind.DomainId.TheVariants.{Local, Global, Bucket}
use Rattle.map_types.specs.declared.kind.MapKind.TheVariants.{LruHash}
use Rattle.map_types.specs.declared.kind.Side.TheVariants.{Prog}
use Rattle.place_words.specs.declared.bucket_part.BucketPart.TheVariants.{Update, Evict}
use Rattle.place_words.specs.declared.bucket_part.Put.TheVariants as puts
use Rattle.place_words.specs.declared.bucket_part.Seen.TheVariants.{Held}
use Rattle.place_words.specs.declared.history.Part.{Part}
use Rattle.place_words.specs.declared.history.Part.TheVariants as parts
use Rattle.place_words.specs.declared.home.Home.TheVariants as homes
use Rattle.place_words.specs.declared.list_part.GlobalPart.TheVariants as global
use Rattle.place_words.specs.declared.list_part.LocalPart.TheVariants as local
use Rattle.place_words.specs.declared.list_part.Stolen.TheVariants.{Nothing}
use Rattle.place_words.specs.declared.visits.Look.{Look}
use Rattle.place_words.specs.declared.visits.ShrinkNote.{ShrinkNote}
use Rattle.place_words.specs.declared.visits.Try.{Try}
use Rattle.place_words.specs.Histories.{opening_content}
use Rattle.place_words.specs.declared.step.Lists.{Lists}
use Rattle.place_words.specs.declared.step.Step.TheVariants as steps
use Rattle.place_words.specs.OpeningState.{opening}
use Rattle.place_words.specs.Steps.{IsEnabled, after}
use Rattle.place_words.specs.Interleaving.{Drawn, Event, does, sees, interleaved}

abbrev pub shape : Shape
shape = record { kind = LruHash; cpus = 2; capacity = 1; elements = 1; buckets = 1; key_size = 1; value_size = 1; seed = 0; common = true }

abbrev pub drawn : ℕ → ℕ → ℕ → DomainId → Part → Drawn
drawn ticket cpu call lock part = record { lock = lock; entry = record { ticket = ticket; cpu = cpu; call = call; part = part } }

abbrev pub note : ℕ → Option ShrinkNote
note target = Some record { target = target; looks = []; forced = [] }

abbrev pub first_turn : Part
first_turn = parts.Global (global.Turn [] [] [] (0 ∷ []) (note 127))

abbrev pub second_turn : Part
second_turn = parts.Global (global.Turn [] [] [] [] (note 128))

abbrev pub first_refill : Part
first_refill = parts.Local (local.Refill 82610235 [] (0 ∷ []) (Some 0))

abbrev pub second_refill : Part
second_refill = parts.Local (local.Refill 3750703803 [] [] None)

abbrev pub look : Look
look = record { element = 0; bit = false; probed = Some (Held 0) }

abbrev pub attempt : Try
attempt = record { element = 0; probed = Held 0 }

abbrev pub evict : Part
evict = parts.Bucket (Evict 0 (Held 0))

abbrev pub rest : List Drawn
rest =
    drawn 3 1 2 (Local 1) second_refill
    ∷ drawn 4 1 2 (Local 1) (parts.Local (local.Steal Nothing [] []))
    ∷ drawn 5 1 2 (Bucket 0) evict
    ∷ drawn 6 1 2 (Bucket 0) evict
    ∷ drawn 7 1 2 (Local 0) (parts.Local (local.Steal Nothing (look ∷ []) (attempt ∷ [])))
    ∷ drawn 8 0 1 (Bucket 0) (parts.Bucket (Update Prog 0 (1 ∷ []) (161 ∷ []) (Some 0) (puts.Added 0)))
    ∷ []

abbrev pub turns : List Drawn
turns = drawn 0 0 1 Global first_turn ∷ drawn 1 0 1 (Local 0) first_refill ∷ drawn 2 1 2 Global second_turn ∷ rest

-- the same with the tickets of the two turns of the global lists exchanged
abbrev pub exchanged : List Drawn
exchanged = drawn 0 1 2 Global second_turn ∷ drawn 1 0 1 (Local 0) first_refill ∷ drawn 2 0 1 Global first_turn ∷ rest

abbrev pub no_lists : Lists
no_lists = record { free = []; first = []; second = []; cursor = None }

abbrev pub one_first : Lists
one_first = record { free = []; first = 0 ∷ []; second = []; cursor = None }

abbrev pub take : ℕ → DomainId → Event
take cpu lock = does (steps.Take cpu lock)

abbrev pub give : ℕ → DomainId → Lists → Event
give cpu lock lists = does (steps.Give cpu lock lists)

abbrev pub events : List Event
events =
    -- CPU 0 takes the element into its hand
    take 0 (Local 0) ∷ take 0 Global ∷ does (steps.Rehome 0 0 (homes.In (Local 0))) ∷ give 0 Global no_lists
    ∷ does (steps.Claim 0 0 (Local 0)) ∷ give 0 (Local 0) one_first
    -- CPU 1 finds the global lists empty
    ∷ take 1 (Local 1) ∷ take 1 Global ∷ give 1 Global no_lists
    ∷ give 1 (Local 1) no_lists
    -- and steals nothing from itself, and from CPU 0, whose hand has the element
    ∷ take 1 (Local 1) ∷ give 1 (Local 1) no_lists
    ∷ take 1 (Local 0) ∷ take 1 (Bucket 0) ∷ sees 0 0 ∷ give 1 (Bucket 0) no_lists
    ∷ take 1 (Bucket 0) ∷ sees 0 0 ∷ give 1 (Bucket 0) no_lists
    ∷ give 1 (Local 0) one_first
    -- CPU 0 puts it into the bucket
    ∷ take 0 (Bucket 0) ∷ does (steps.Attach 0 0 0) ∷ give 0 (Bucket 0) one_first
    ∷ []

abbrev pub RowEvents : Type 0
RowEvents = interleaved shape (opening_content shape) [] turns ≡ events

-- the first of the steps with exchanged tickets: CPU 1 gives back global lists without the element, which is still free there
abbrev pub exchanged_events : List Event
exchanged_events = take 1 (Local 1) ∷ take 1 Global ∷ give 1 Global no_lists ∷ []

abbrev pub ExchangedEvents : Type 0
ExchangedEvents = (later : List Event) × (interleaved shape (opening_content shape) [] exchanged ≡ exchanged_events ++ later)

-- The first two may be done, and then the third may not: the element is still free on the global lists.
abbrev pub FirstRefused : Type 0
FirstRefused =
    IsEnabled shape (opening shape) (steps.Take 1 (Local 1))
    × IsEnabled shape (after shape (opening shape) (steps.Take 1 (Local 1))) (steps.Take 1 Global)
    × (¬ IsEnabled shape (after shape (after shape (opening shape) (steps.Take 1 (Local 1))) (steps.Take 1 Global)) (steps.Give 1 Global no_lists))
