-- Two steps of a copy in a row.
use Rattle.std.proofs.Common.{◌≡◌, ℕ, ◌*◌, List, [], ◌∷◌, ◌++◌, sym, ap}
use Rattle.std.specs.Prelude.{◌⊎◌, min, Bool, true, false, IsTrue, if◌then◌else◌, Option, None, Some}
use Rattle.map_types.specs.declared.refusal.Errno.TheVariants.{Enoent, Enospc}
use Rattle.map_types.specs.declared.reply.Reply.{Reply}
use Rattle.map_types.specs.declared.reply.Reply.TheVariants.{Batch}
use Rattle.map_copy.specs.Copied.{Read, Step, IsPage, Copies, first_read, has_stopped, next_in, read_behind, read_behind_step}
use Rattle.map_copy.specs.Ends.{HasReadAll}
use Rattle.map_copy.specs.Neighbours.{has_no_room, IsFollowedBy, FollowsEach, BeginsAtFirst}
use Rattle.map_copy.proofs.EndLemmas.{not_stopped}
use Rattle.map_copy.proofs.StepLemmas.{none_is_some, same_some}

-- what follows a page whose put, if it has one, stopped or not
record Follows (elements : ℕ) (read : Read) (page : Reply) (stopped : Bool) (second : Read) : Type 0 where
  start : second.start ≡ next_in page
  count : second.count ≡ (if has_no_room page then min (2 * read.count) elements else read.count)
  goes_on : ¬ (IsTrue stopped ⊎ HasReadAll page)

follows_page : (elements : ℕ) (read : Read) (page : Reply) (second : Read) → IsPage page → read_behind elements read page ≡ Some second
    → Follows elements read page false second
follows_page elements read (Batch None taken next) second is behind =
    let same = same_some behind in
    record {
      start = ap (λ (r : Read). r.start) (sym same);
      count = ap (λ (r : Read). r.count) (sym same);
      goes_on = not_stopped (Batch None taken next) (λ all. all);
    }
follows_page elements read (Batch (Some Enospc) taken next) second is behind =
    let same = same_some behind in
    record {
      start = ap (λ (r : Read). r.start) (sym same);
      count = ap (λ (r : Read). r.count) (sym same);
      goes_on = not_stopped (Batch (Some Enospc) taken next) (λ all. all);
    }
follows_page elements read (Batch (Some Enoent) taken next) second is behind = absurd (none_is_some behind)
follows_page elements read page second is behind = absurd is

follows_put : (elements : ℕ) (read : Read) (page : Reply) (stopped : Bool) (second : Read) → IsPage page
    → (if stopped then None else read_behind elements read page) ≡ Some second → Follows elements read page stopped second
follows_put elements read page true second is behind = absurd (none_is_some behind)
follows_put elements read page false second is behind = follows_page elements read page second is behind

follows_from : (elements : ℕ) (before after : List Step) (first second : Step) (from next : Option Read)
    → Copies elements from (before ++ first ∷ second ∷ after) next → IsFollowedBy elements first second
follows_from elements [] after first second from next copies =
    let told = follows_put elements first.read first.page (has_stopped first.put) second.read copies.1.page copies.2.0 in
    record { start = told.start; count = told.count; goes_on = told.goes_on }
follows_from elements (step ∷ before) after first second from next copies =
    follows_from elements before after first second (read_behind_step elements step) next copies.2

pub follows_each : FollowsEach
follows_each count elements before after first second next copies =
    follows_from elements before after first second (Some (first_read count)) next copies

pub begins_at_first : BeginsAtFirst
begins_at_first count elements first after next copies =
    let same = same_some copies.0 in (ap (λ (r : Read). r.count) (sym same), ap (λ (r : Read). r.start) (sym same))
