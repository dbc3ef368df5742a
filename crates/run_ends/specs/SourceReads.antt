-- What a source of bytes tells of its reads.
use Rattle.std.specs.Prelude.{◌≡◌, ℕ, ◌+◌, ◌-◌, ◌^◌, ◌<◌, ◌≤◌, ◌↔◌, List, [], ◌++◌, length, min, Option, Some, None, IfSome, IsSomeAnd, ⊤}

-- A count of faults rose, or it stands at the last value of its counter.
abbrev pub Rose : ℕ → ℕ → Type 0
Rose before now = min (before + 1) (2 ^ 64 - 1) ≤ now

-- these bytes were taken from the front of what was left, where the source tells what is left
abbrev pub TakesFront : Option (List ℕ) → Option (List ℕ) → List ℕ → Type 0
TakesFront None now bytes = ⊤
TakesFront (Some before) now bytes = IsSomeAnd now (λ rest. before ≡ bytes ++ rest)

-- a read of n bytes into room for some is the end exactly where none is left
abbrev pub EndsWhereNoneIsLeft : Option (List ℕ) → ℕ → ℕ → Type 0
EndsWhereNoneIsLeft left room n = 0 < room → IfSome left (λ bytes. (n ≡ 0) ↔ (bytes ≡ []))

-- all that was left was taken, where the source tells what is left
abbrev pub TakesAll : Option (List ℕ) → Option (List ℕ) → List ℕ → Type 0
TakesAll None now bytes = ⊤
TakesAll (Some before) now bytes = (before ≡ bytes) × (now ≡ Some [])

-- at most so many bytes were taken from the front of what was left, where the source tells what is left
abbrev pub TakesUpTo : ℕ → Option (List ℕ) → Option (List ℕ) → Type 0
TakesUpTo most before now = (bytes : List ℕ) × TakesFront before now bytes × (length bytes ≤ most)
