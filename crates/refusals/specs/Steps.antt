-- Which steps of the core may be done, and which not, on a map that doesn't evict, of one CPU, with two elements and two buckets. At the opening its freelist
-- has element 1 on top of element 0.
use Rattle.std.specs.Prelude.{◌≡◌, false, List, [], ◌∷◌, None}
use Rattle.map_types.specs.declared.attr.Shape.{Shape}
use Rattle.map_types.specs.declared.kind.DomainId.TheVariants.{Bucket, Freelist}
use Rattle.map_types.specs.declared.kind.MapKind.TheVariants.{PercpuHash}
use Rattle.place_words.specs.declared.owner.Owner.TheVariants.{Hand}
use Rattle.place_words.specs.declared.step.Lists.{Lists}
use Rattle.place_words.specs.declared.step.Step.{Step}
use Rattle.place_words.specs.declared.step.Step.TheVariants.{Take, Give, Claim, Settle, Attach, Clear}
use Rattle.place_words.specs.OpeningState.{opening}
use Rattle.place_words.specs.State.{State}
use Rattle.place_words.specs.Steps.{IsEnabled, CoreStep, Leads}

abbrev pub small : Shape
small = record { kind = PercpuHash; cpus = 1; capacity = 2; elements = 2; buckets = 2; key_size = 1; value_size = 1; seed = 0; common = false }

-- these steps may be done from the opening on, one after another, and lead to a state of which this holds
abbrev pub After : List Step → (State → Type 0) → Type 0
After steps Holds = (s : State) × Leads small (opening small) steps s × Holds s

-- a step that is not done in a state, whatever is told to come of it
abbrev pub IsRefusedAt : Shape → State → Step → Type 0
IsRefusedAt shape s step = (now : State) → ¬ CoreStep shape s step now

abbrev pub IsRefused : State → Step → Type 0
IsRefused s step = IsRefusedAt small s step

-- the CPU takes a bucket and its freelist, claims the element on top, and puts it into the bucket
abbrev pub with_bucket : List Step
with_bucket = Take 0 (Bucket 0) ∷ []

abbrev pub with_element : List Step
with_element = Take 0 (Bucket 0) ∷ Take 0 (Freelist 0) ∷ Claim 0 1 (Freelist 0) ∷ []

abbrev pub with_element_in_bucket : List Step
with_element_in_bucket = Take 0 (Bucket 0) ∷ Take 0 (Freelist 0) ∷ Claim 0 1 (Freelist 0) ∷ Attach 0 1 0 ∷ []

-- A second bucket isn't taken beside one that is held.
abbrev pub TakesNoSecondBucket : Type 0
TakesNoSecondBucket = After with_bucket (λ s. IsRefused s (Take 0 (Bucket 1)))

-- An empty bucket is given back empty.
abbrev pub row_of_0 : Lists
row_of_0 = record { free = []; first = 0 ∷ []; second = []; cursor = None }

abbrev pub GivesTheRowsBack : Type 0
GivesTheRowsBack = After with_bucket (λ s. IsRefused s (Give 0 (Bucket 0) row_of_0))

-- The head of a bucket, which has no free list, isn't claimed.
abbrev pub ClaimsOnlyFree : Type 0
ClaimsOnlyFree = After with_element_in_bucket (λ s. IsRefused s (Claim 0 1 (Bucket 0)))

-- An element that is settled doesn't stay in the hand.
abbrev pub SettlesToFree : Type 0
SettlesToFree =
    After with_element (λ s. IsEnabled small s (Settle 0 1 (Freelist 0)) × ((now : State) → now.owner 1 ≡ Hand 0 → ¬ CoreStep small s (Settle 0 1 (Freelist 0)) now))

-- The bit of an element in the hand may be cleared.
abbrev pub ClearsInHand : Type 0
ClearsInHand = After with_element (λ s. IsEnabled small s (Clear 0 1))
