-- By its ticket, the innermost turn that encloses one.
use Rattle.std.specs.Prelude.{◌≡◌, ℕ, ◌+◌, ◌<◌, ◌≤◌, ◌==◌, nat_lt, Bool, ◌&&◌, All, List, [], ◌∷◌, length, drop, slice_index_or, Option, None, Some, if◌then◌else◌}
use Rattle.map_types.specs.declared.kind.DomainId.{DomainId}
use Rattle.map_types.specs.declared.kind.DomainId.TheVariants.{Local, Global, CpuLru, Bucket, Freelist}
use Rattle.place_words.specs.Interleaving.{Drawn, encloses}
use Rattle.place_words.specs.Locks.{rank_of}
use Rattle.step_check.specs.declared.outer.NextTurns.{NextTurns}
use Rattle.step_check.specs.Places.{no_turn}

-- turns of one call have one CPU
abbrev pub HaveOneCpu : List Drawn → Type 0
HaveOneCpu turns = All (λ (drawn : Drawn). All (λ (other : Drawn). other.entry.call ≡ drawn.entry.call → other.entry.cpu ≡ drawn.entry.cpu) turns) turns

-- the calls of turns are numbered up to this
abbrev pub AreNumbered : ℕ → List Drawn → Type 0
AreNumbered calls turns = All (λ (drawn : Drawn). drawn.entry.call ≤ calls) turns

-- Of turns, the first of which has this ticket, the ticket of the first that passes.
abbrev pub first_from : (Drawn → Bool) → ℕ → List Drawn → Option ℕ
first_from passes ticket [] = None
first_from passes ticket (drawn ∷ later) = if passes drawn then Some ticket else first_from passes (ticket + 1) later

-- of the turns in the order of their tickets, the first later one that encloses that of a ticket
abbrev pub outer_of : List Drawn → ℕ → Option ℕ
outer_of turns ticket = first_from (λ (outer : Drawn). encloses outer (slice_index_or turns ticket no_turn)) (ticket + 1) (drop (ticket + 1) turns)

pub record AreOuter (turns : List Drawn) (outer : List (Option ℕ)) : Type 0 where
  pub long : length outer ≡ length turns
  pub each : (ticket : ℕ) → ticket < length turns → slice_index_or outer ticket None ≡ outer_of turns ticket

-- a turn of a call, of a lock whose rank is below one
abbrev pub is_below : ℕ → ℕ → Drawn → Bool
is_below call rank drawn = nat_lt (rank_of drawn.lock) rank && drawn.entry.call == call

-- the next turns of a call among these, the first of which has this ticket
abbrev pub next_turns : ℕ → ℕ → List Drawn → NextTurns
next_turns call ticket later = record {
  below_lists = first_from (is_below call 2) ticket later;
  below_buckets = first_from (is_below call 3) ticket later;
  below_freelists = first_from (is_below call 4) ticket later;
}

abbrev pub no_next : NextTurns
no_next = record { below_lists = None; below_buckets = None; below_freelists = None }

-- the next turn whose lock is taken before another one
abbrev pub first_below : NextTurns → DomainId → Option ℕ
first_below next (Local cpu) = None
first_below next Global = next.below_lists
first_below next (CpuLru cpu) = next.below_lists
first_below next (Bucket bucket) = next.below_buckets
first_below next (Freelist cpu) = next.below_freelists

-- the next turns, once there is one before them of this lock and this ticket
abbrev pub with_turn : NextTurns → DomainId → ℕ → NextTurns
with_turn next (Local cpu) ticket = record { below_lists = Some ticket; below_buckets = Some ticket; below_freelists = Some ticket }
with_turn next Global ticket = record { below_lists = next.below_lists; below_buckets = Some ticket; below_freelists = Some ticket }
with_turn next (CpuLru cpu) ticket = record { below_lists = next.below_lists; below_buckets = Some ticket; below_freelists = Some ticket }
with_turn next (Bucket bucket) ticket = record { below_lists = next.below_lists; below_buckets = next.below_buckets; below_freelists = Some ticket }
with_turn next (Freelist cpu) ticket = next
