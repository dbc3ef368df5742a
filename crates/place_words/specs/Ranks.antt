-- The order in which CPUs take locks, by which they never wait in a circle.
use Rattle.std.specs.Prelude.{◌≡◌, ℕ, ◌<◌, Option, Some}
use Rattle.map_types.specs.declared.attr.Shape.{Shape}
use Rattle.place_words.specs.Locks.{rank_of, lock_named}
use Rattle.place_words.specs.State.{State}

-- The locks that one CPU holds have different ranks, and only CPUs of the map hold any. That a lock has at most one
-- holder, the state says itself.
pub record Ranked (shape : Shape) (s : State) : Type 0 where
  pub apart : (cpu j k : ℕ) → s.holder j ≡ Some cpu → s.holder k ≡ Some cpu → rank_of (lock_named shape j) ≡ rank_of (lock_named shape k) → j ≡ k
  pub within : (cpu k : ℕ) → s.holder k ≡ Some cpu → cpu < shape.cpus

-- A CPU may want no lock, or one whose rank is above the ranks of all that it holds.
abbrev pub AreWants : Shape → State → (ℕ → Option ℕ) → Type 0
AreWants shape s wants =
    (cpu j k : ℕ) → wants cpu ≡ Some k → s.holder j ≡ Some cpu → rank_of (lock_named shape j) < rank_of (lock_named shape k)

-- A CPU wants a lock that is held.
pub record Waits (s : State) (wants : ℕ → Option ℕ) (cpu : ℕ) : Type 0 where
  pub lock : ℕ
  pub wanted : wants cpu ≡ Some lock
  pub holder : ℕ
  pub held : s.holder lock ≡ Some holder

-- Some lock is held, and each CPU that holds one wants a lock that is held.
pub record IsStuck (s : State) (wants : ℕ → Option ℕ) : Type 0 where
  pub lock : ℕ
  pub holder : ℕ
  pub held : s.holder lock ≡ Some holder
  pub all_wait : (cpu k : ℕ) → s.holder k ≡ Some cpu → Waits s wants cpu
