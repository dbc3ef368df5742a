-- What holds of every run of a map of any kind in serial order. On a map that evicts no element is in the hand of a CPU between
-- calls: each lies on a list, and in a bucket unless it is free. So a walk finds each element that it probes in its bucket, as
-- the kernel's `htab_lru_map_delete_node` then does, and an update finds one that it can take.
use Rattle.std.specs.Prelude.{◌≡◌, ℕ, suc, ◌<◌, ◌≤◌, MatchBool, List, [], ◌∷◌, All, IsSome, IsTrue}
use Rattle.map_types.specs.declared.attr.Shape.{Shape}
use Rattle.map_types.specs.declared.call.Call.{Call}
use Rattle.map_types.specs.declared.kind.DomainId.{DomainId}
use Rattle.map_types.specs.declared.kind.MapKind.TheVariants.{Hash}
use Rattle.map_types.specs.Kind.{is_lru}
use Rattle.place_words.specs.declared.bucket_part.BucketPart.{BucketPart}
use Rattle.place_words.specs.declared.bucket_part.BucketPart.TheVariants.{Lookup, Update, Delete, Take, Next, First, Walk, Evict}
use Rattle.place_words.specs.declared.history.Entry.{Entry}
use Rattle.place_words.specs.declared.history.Part.{Part}
use Rattle.place_words.specs.declared.history.Part.TheVariants as parts
use Rattle.place_words.specs.declared.visits.Try.{Try}
use Rattle.place_words.specs.Histories.{IsLegal}
use Rattle.place_words.specs.Logs.{State, IsDone, new_state, after_one, run}
use Rattle.place_words.specs.Phases.{GetsFrom}
use Rattle.place_words.specs.Shrinking.{try_removed}
use Rattle.place_words.specs.Takings.{local_probes, global_probes, own_probes}

-- No reply is ENOMEM: each update finds an element to take.
abbrev pub AlwaysGets : Shape → List Call → Type 0
AlwaysGets shape calls = GetsFrom shape 1 calls (new_state shape)

-- the probes of a turn: that of a bucket's turn that evicts, and those of a list's walks
abbrev pub bucket_probes : BucketPart → List Try
bucket_probes (Lookup side key got) = []
bucket_probes (Update side flags key value offer put) = []
bucket_probes (Delete key removed) = []
bucket_probes (Take key removed) = []
bucket_probes (Next key found) = []
bucket_probes (First key) = []
bucket_probes (Walk remove room result) = []
bucket_probes (Evict e probed) = (record { element = e; probed = probed }) ∷ []

abbrev pub probes_in : Part → List Try
probes_in (parts.Bucket part) = bucket_probes part
probes_in (parts.Free part) = []
probes_in (parts.Local part) = local_probes part
probes_in (parts.Global part) = global_probes part
probes_in (parts.Own part) = own_probes part

-- each probe of a turn took its element out of its bucket
abbrev pub FindsNoneHeld : Part → Type 0
FindsNoneHeld part = All (λ (probe : Try). IsTrue (try_removed probe)) (probes_in part)

-- No probe finds its element in the hand of a CPU: not in a turn of any lock. A probe of a run in serial order takes its element
-- out by definition; that the element is in its bucket, so that this is what the rules say, is part of `AreDone` below.
abbrev pub AlwaysRemoves : Shape → List Call → Type 0
AlwaysRemoves shape calls =
    (lock : DomainId) → All (λ (entry : Entry). FindsNoneHeld entry.part) ((run shape 1 calls (new_state shape)).logs lock)

-- A map that evicts has an element, where its CPUs share lists, and one for each CPU where each has lists of its own.
abbrev pub HasEnough : Shape → Type 0
HasEnough shape = IsTrue (is_lru shape.kind) → MatchBool shape.common (1 ≤ shape.elements) (shape.cpus ≤ shape.elements)

-- What every call leaves as it found it: each log replays by the kernel's rules, and on HASH each CPU has a spare.
pub record IsOrderly (shape : Shape) (state : State) : Type 0 where
  pub legal : (lock : DomainId) → IsLegal shape lock (state.logs lock)
  pub spares : shape.kind ≡ Hash → (cpu : ℕ) → cpu < shape.cpus → IsSome (state.spares cpu)

-- each call of a run does what the rules say, at its place in the run
abbrev pub AreDone : Shape → ℕ → List Call → State → Type 0
AreDone shape number [] state = Unit {0}
AreDone shape number (call ∷ calls) state =
    IsDone shape call.cpu number call.verb state × AreDone shape (suc number) calls (after_one shape number call state)
