-- What a sink tells of its writes.
use Rattle.std.specs.Prelude.{◌≡◌, ℕ, ◌≤◌, List, ◌++◌, length, take, Option, Some, None, IsSomeAnd, ⊤}

-- the bytes that a sink has taken, and how many of them are flushed
pub record Written : Type 0 where
  pub bytes : List ℕ
  pub flushed : ℕ

-- these bytes were written and nothing was flushed, where the sink tells what is written
abbrev pub Adds : Option Written → Option Written → List ℕ → Type 0
Adds None now bytes = ⊤
Adds (Some before) now bytes = now ≡ Some (record { bytes = before.bytes ++ bytes; flushed = before.flushed })

-- all that was written is flushed
abbrev pub Flushes : Option Written → Option Written → Type 0
Flushes None now = ⊤
Flushes (Some before) now = now ≡ Some (record { bytes = before.bytes; flushed = length before.bytes })

-- the bytes written are as they were
abbrev pub KeepsBytes : Option Written → Option Written → Type 0
KeepsBytes None now = ⊤
KeepsBytes (Some before) now = IsSomeAnd now (λ after. after.bytes ≡ before.bytes)

-- a text was written whole, and it is flushed
abbrev pub AddsWhole : Option Written → Option Written → List ℕ → Type 0
AddsWhole None now text = ⊤
AddsWhole (Some before) now text =
    now ≡ Some (record { bytes = before.bytes ++ text; flushed = length (before.bytes ++ text) })

-- a prefix of a text was written
abbrev pub AddsPrefix : Option Written → Option Written → List ℕ → Type 0
AddsPrefix None now text = ⊤
AddsPrefix (Some before) now text =
    IsSomeAnd now (λ after. (n : ℕ) × (n ≤ length text) × (after.bytes ≡ before.bytes ++ take n text))
