-- A map between calls, and what a run in serial order asks of the state where it starts.
use Rattle.std.specs.Prelude.{◌≡◌, ℕ, zero, suc, ◌+◌, ◌<◌, ◌≤◌, nat_lt, ◌==◌, Bool, true, List, [], ◌∷◌, MatchOption, None, unwrap_or, IsSome, if◌then◌else◌}
use Rattle.map_types.specs.declared.attr.Shape.{Shape}
use Rattle.map_types.specs.declared.kind.DomainId.{DomainId}
use Rattle.map_types.specs.declared.kind.DomainId.TheVariants.{Local, Global, CpuLru, Bucket, Freelist}
use Rattle.map_types.specs.declared.kind.MapKind.TheVariants.{Hash}
use Rattle.map_types.specs.ElementLists.{times, one}
use Rattle.map_types.specs.Kind.{is_lru}
use Rattle.map_types.specs.Stored.{Stored}
use Rattle.key_hash.specs.Bucket.{bucket_number}
use Rattle.place_words.specs.Bodies.{numbers}
use Rattle.place_words.specs.Histories.{Content, IsLegal, bucket_in, freelist_in, locals_in, global_in, own_in}
use Rattle.place_words.specs.Locals.{LocalLists}
use Rattle.place_words.specs.Logs.{State, lies_in}
use Rattle.place_words.specs.Moves.{elements_in, elements_of_set}
use Rattle.place_words.specs.RowMoves.{rows_of}
use Rattle.place_words.specs.Sets.{ListSet}
use Rattle.place_words.specs.Takings.{listed_rows, set_of}

-- the locks of the CPUs below a number, the last first
abbrev pub locks_below : (ℕ → DomainId) → ℕ → List DomainId
locks_below lock zero = []
locks_below lock (suc n) = lock n ∷ locks_below lock n

-- the locks of the lists of a map that evicts
abbrev pub list_locks : Shape → List DomainId
list_locks shape = if shape.common then Global ∷ locks_below Local shape.cpus else locks_below CpuLru shape.cpus

-- a count, added up over what lies under some locks
abbrev pub sum_over : (Content → ℕ) → (DomainId → Content) → List DomainId → ℕ
sum_over f contents [] = 0
sum_over f contents (lock ∷ locks) = f (contents lock) + sum_over f contents locks

-- what lies in a bucket
abbrev pub bodies_in : Content → List Stored
bodies_in content = unwrap_or (bucket_in content) []

abbrev pub bodies_at : (DomainId → Content) → ℕ → List Stored
bodies_at contents bucket = bodies_in (contents (Bucket bucket))

-- whether a hash is of a bucket
abbrev pub is_of : Shape → ℕ → ℕ → Bool
is_of shape bucket hash = bucket_number hash shape.buckets == bucket

-- how often an element lies on the lists, and how many rows of it are listed there whose hash passes a test
abbrev pub elements_on : ℕ → Content → ℕ
elements_on e content = times e (elements_in content)

abbrev pub rows_on : ℕ → (ℕ → Bool) → Content → ℕ
rows_on e of content = rows_of e of (listed_rows content)

abbrev pub on_lists : Shape → (DomainId → Content) → ℕ → ℕ
on_lists shape contents e = sum_over (elements_on e) contents (list_locks shape)

abbrev pub listed : Shape → (DomainId → Content) → ℕ → (ℕ → Bool) → ℕ
listed shape contents e of = sum_over (rows_on e of) contents (list_locks shape)

-- How often an element counts for a bucket though it is in hand: what a call has in hand counts for one bucket, from which it came or
-- to which it is to go.
abbrev pub held : ℕ → List ℕ → ℕ → ℕ → ℕ
held home hand e bucket = if home == bucket then times e hand else 0

-- Under each lock lies its sort of content. A CPU steals next from one of the map's CPUs, and a CPU's own set has no element of another CPU's.
abbrev pub IsFit : Shape → DomainId → Content → Type 0
IsFit shape (Local cpu) content = MatchOption (locals_in content) ⊥ (λ (lists : LocalLists). cpu < shape.cpus → lists.steal < shape.cpus)
IsFit shape Global content = MatchOption (global_in content) ⊥ (λ (set : ListSet). Unit {0})
IsFit shape (CpuLru cpu) content = MatchOption (own_in content) ⊥ (λ (set : ListSet). (e : ℕ) → 1 ≤ times e (elements_of_set set) → set_of shape e ≡ cpu)
IsFit shape (Bucket bucket) content = MatchOption (bucket_in content) ⊥ (λ (bodies : List Stored). Unit {0})
IsFit shape (Freelist cpu) content = MatchOption (freelist_in content) ⊥ (λ (stack : List ℕ). Unit {0})

-- Each element of a map that evicts is on one list, free or listed, and it is in a bucket exactly where it is listed with a hash of that
-- bucket, but for those that a call has in hand, from one bucket or for it.
pub record IsSettled (shape : Shape) (contents : DomainId → Content) (home : ℕ) (hand : List ℕ) : Type 0 where
  pub fit : (lock : DomainId) → IsFit shape lock (contents lock)
  pub once : (e : ℕ) → on_lists shape contents e ≡ one (nat_lt e shape.elements)
  pub placed : (e bucket : ℕ) → times e (numbers (bodies_at contents bucket)) + held home hand e bucket ≡ listed shape contents e (is_of shape bucket)

-- between calls nothing is in hand, so the bucket doesn't matter
abbrev pub IsAtRest : Shape → (DomainId → Content) → Type 0
IsAtRest shape contents = IsSettled shape contents 0 []

-- What a run in serial order asks of the state where it starts, which holds wherever no call is under way: every history replays; on a
-- map that evicts each element is in its place and no CPU has a spare; on HASH each CPU has one.
pub record IsStart (shape : Shape) (state : State) : Type 0 where
  pub legal : (lock : DomainId) → IsLegal shape lock (state.logs lock)
  pub rests : is_lru shape.kind ≡ true → IsAtRest shape (lies_in shape state)
  pub no_spares : is_lru shape.kind ≡ true → (cpu : ℕ) → state.spares cpu ≡ None
  pub spares : shape.kind ≡ Hash → (cpu : ℕ) → cpu < shape.cpus → IsSome (state.spares cpu)
