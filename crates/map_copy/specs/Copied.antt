-- How a map, the source, is copied into another one, the target, while calls on the source go on. Pages are read from the source
-- by batch lookups, and the pairs of each page are put into the target by one batch update. (own)
use Rattle.std.specs.Prelude.{◌≡◌, ℕ, ◌*◌, min, Bool, true, false, List, [], ◌∷◌, Option, None, Some, if◌then◌else◌}
use Rattle.map_types.specs.declared.refusal.Errno.TheVariants.{Enoent, Enospc}
use Rattle.map_types.specs.declared.reply.Reply.{Reply}
use Rattle.map_types.specs.declared.reply.Reply.TheVariants.{Batch, Count}

-- what a read asks for: at most so many pairs, from this bucket on
pub record Read : Type 0 where
  pub count : ℕ
  pub start : ℕ

abbrev pub read_of : ℕ → ℕ → Read
read_of count start = record { count = count; start = start }

-- The first read has the given count and start 0.
abbrev pub first_read : ℕ → Read
first_read count = read_of count 0

-- A put stopped where an entry of it was refused.
abbrev pub has_stopped : Option Reply → Bool
has_stopped (Some (Count (Some errno) done)) = true
has_stopped put = false

-- What follows a page, in a source with so many elements. After a read with stop ENOSPC the next one starts at that reply's
-- `next`, with twice the count, at most the source's elements. After a read with no stop the next one starts at `next`, with the
-- same count. After a read with stop ENOENT there is none.
abbrev pub read_behind : ℕ → Read → Reply → Option Read
read_behind elements read (Batch (Some Enospc) taken next) = Some (read_of (min (2 * read.count) elements) next)
read_behind elements read (Batch None taken next) = Some (read_of read.count next)
read_behind elements read page = None

-- What follows a page and its put. After a put that stopped there is no next read.
abbrev pub read_after : ℕ → Read → Reply → Option Reply → Option Read
read_after elements read page put = if has_stopped put then None else read_behind elements read page

-- A page is a batch: of some pairs with no stop, of none with ENOSPC, or of any with ENOENT.
abbrev pub IsPage : Reply → Type 0
IsPage (Batch None (pair ∷ pairs) next) = Unit {0}
IsPage (Batch (Some Enospc) [] next) = Unit {0}
IsPage (Batch (Some Enoent) taken next) = Unit {0}
IsPage reply = ⊥

-- the pairs of a page, and the bucket at which the next read starts
abbrev pub pairs_in : Reply → List (List ℕ × List ℕ)
pairs_in (Batch stop taken next) = taken
pairs_in reply = []

abbrev pub next_in : Reply → ℕ
next_in (Batch stop taken next) = next
next_in reply = 0

-- A page is put exactly where it has pairs, and its put answers a count.
abbrev pub IsPutOfPairs : List (List ℕ × List ℕ) → Option Reply → Type 0
IsPutOfPairs [] None = Unit {0}
IsPutOfPairs (pair ∷ pairs) (Some (Count stop done)) = Unit {0}
IsPutOfPairs pairs put = ⊥

abbrev pub IsPutOf : Reply → Option Reply → Type 0
IsPutOf page put = IsPutOfPairs (pairs_in page) put

-- a step of a copy: a read, its reply, which is a page, and the reply of the page's put, where there is one
pub record Step : Type 0 where
  pub read : Read
  pub page : Reply
  pub put : Option Reply

pub record IsStep (step : Step) : Type 0 where
  pub page : IsPage step.page
  pub put : IsPutOf step.page step.put

abbrev pub read_behind_step : ℕ → Step → Option Read
read_behind_step elements step = read_after elements step.read step.page step.put

-- The steps of a copy from one read on, up to the one that is next. Where no read is next, the copy has ended.
abbrev pub Copies : ℕ → Option Read → List Step → Option Read → Type 0
Copies elements from [] next = from ≡ next
Copies elements from (step ∷ steps) next =
    (from ≡ Some step.read) × IsStep step × Copies elements (read_behind_step elements step) steps next
