-- What stands between a read of a copy and the next one.
use Rattle.std.specs.Prelude.{◌≡◌, ℕ, ◌*◌, min, Bool, true, false, List, ◌∷◌, ◌++◌, Option, Some, if◌then◌else◌}
use Rattle.map_types.specs.declared.refusal.Errno.TheVariants.{Enospc}
use Rattle.map_types.specs.declared.reply.Reply.{Reply}
use Rattle.map_types.specs.declared.reply.Reply.TheVariants.{Batch}
use Rattle.map_copy.specs.Copied.{Read, Step, Copies, first_read, next_in}
use Rattle.map_copy.specs.Ends.{EndsCopy}

-- a read with stop ENOSPC
abbrev pub has_no_room : Reply → Bool
has_no_room (Batch (Some Enospc) taken next) = true
has_no_room reply = false

-- The second of two reads starts where the first one's reply says. Its count is the same, or after ENOSPC twice that, and never
-- doubled past the source's elements. The first step didn't end the copy: its put didn't stop, and its page isn't one with ENOENT.
pub record IsFollowedBy (elements : ℕ) (first second : Step) : Type 0 where
  pub start : second.read.start ≡ next_in first.page
  pub count : second.read.count ≡ (if has_no_room first.page then min (2 * first.read.count) elements else first.read.count)
  pub goes_on : ¬ (EndsCopy first)

abbrev pub FollowsEach : Type 0
FollowsEach = (count elements : ℕ) (before after : List Step) (first second : Step) (next : Option Read)
    → Copies elements (Some (first_read count)) (before ++ first ∷ second ∷ after) next
    → IsFollowedBy elements first second

-- The first read asks for the given count, from bucket 0 on.
abbrev pub BeginsAtFirst : Type 0
BeginsAtFirst = (count elements : ℕ) (first : Step) (after : List Step) (next : Option Read)
    → Copies elements (Some (first_read count)) (first ∷ after) next
    → (first.read.count ≡ count) × (first.read.start ≡ 0)
