-- Sources and sinks in memory.
use Rattle.std.specs.Prelude.{◌≡◌, ℕ, ◌+◌, ◌-◌, ◌^◌, ◌<◌, ◌≤◌, ◌⊎◌, List, length, min, Contains}

-- a source: the bytes that are left, which calls fail, the most bytes that a call takes, the next call's number, and
-- how many calls failed
pub record SourceState : Type 0 where
  pub left : List ℕ
  pub failing : List ℕ
  pub piece_limit : ℕ
  pub next_call : ℕ
  pub faults : ℕ

-- a sink: the bytes that were written, how many of them are flushed, which calls fail, the most bytes that a call
-- takes, the most bytes that it holds, the next call's number, and how many calls failed
pub record SinkState : Type 0 where
  pub written : List ℕ
  pub flushed : ℕ
  pub failing : List ℕ
  pub piece_limit : ℕ
  pub room : ℕ
  pub next_call : ℕ
  pub faults : ℕ

-- one more, in a counter of 64 bits that stands still at its last value
abbrev pub counted : ℕ → ℕ
counted n = min (n + 1) (2 ^ 64 - 1)

-- the least of what is offered, what a call takes at most, and what is left
abbrev pub piece_len : ℕ → ℕ → ℕ → ℕ
piece_len offered limit left = min (min offered limit) left

-- a write fails where its call is listed, and where it is of some bytes and the room is used up
abbrev pub FailsToWrite : SinkState → List ℕ → Type 0
FailsToWrite sink piece =
    Contains sink.failing sink.next_call ⊎ ((0 < length piece) × (length sink.written ≡ sink.room))

-- what always holds of a sink: it takes some bytes, it holds no more than it has room for, there is memory for the
-- room, and what is flushed was written
pub record KeepsToRoom (piece_limit flushed written room capacity : ℕ) : Type 0 where
  pub takes_some : 1 ≤ piece_limit
  pub flushed_part : flushed ≤ written
  pub within_room : written ≤ room
  pub has_memory : room ≤ capacity
