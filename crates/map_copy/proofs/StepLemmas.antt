-- What one step of a copy leads to.
use Rattle.std.proofs.Common.{◌≡◌, ℕ, ◌*◌, ◌<◌, ◌≤◌, List, [], ◌∷◌, refl, sym}
use Rattle.std.specs.Prelude.{min, Bool, true, false, if◌then◌else◌, Option, None, Some}
use Rattle.map_types.specs.declared.attr.Shape.{Shape}
use Rattle.map_types.specs.declared.refusal.Errno.TheVariants.{Enoent, Enospc}
use Rattle.map_types.specs.declared.reply.Reply.{Reply}
use Rattle.map_types.specs.declared.reply.Reply.TheVariants.{Batch}
use Rattle.map_copy.specs.Answers.{IsAnswer, IsAnswered}
use Rattle.map_copy.specs.Copied.{Read, Step, Copies, read_of, has_stopped, next_in, read_behind, read_behind_step}

pub none_is_some : {A : Type 0} {x : A} → None ≡ Some x → ⊥
none_is_some e = cc

pub same_some : {A : Type 0} {x y : A} → Some x ≡ Some y → x ≡ y
same_some e = cc

-- where no read is next, no step follows
pub none_left : (elements : ℕ) (steps : List Step) (next : Option Read) → Copies elements None steps next → (steps ≡ []) × (next ≡ None)
none_left elements [] next copies = (refl, sym copies)
none_left elements (step ∷ steps) next copies = absurd (none_is_some copies.0)

-- What a step leads to, whose page a map answered. After a put that stopped, or where all buckets were read, no read is next. Else it
-- starts at a later bucket, with the same count; or with twice the count, or that of the elements, which was not reached.
pub data LeadsTo (shape : Shape) (read : Read) (next : ℕ) (stopped : Bool) : Option Read → Type 0 where
  ended : stopped ≡ true → LeadsTo shape read next stopped None
  all_read : next ≡ shape.buckets → LeadsTo shape read next stopped None
  further : read.start < next → next < shape.buckets → LeadsTo shape read next stopped (Some (read_of read.count next))
  again : read.start ≤ next → next < shape.buckets → read.count < shape.elements
      → LeadsTo shape read next stopped (Some (read_of (min (2 * read.count) shape.elements) next))

page_leads : (shape : Shape) (read : Read) (page : Reply) (stopped : Bool) → IsAnswer shape read page
    → LeadsTo shape read (next_in page) stopped (read_behind shape.elements read page)
page_leads shape read (Batch None taken next) stopped answer = further answer.0 answer.1
page_leads shape read (Batch (Some Enospc) taken next) stopped answer = again answer.0 answer.1 answer.2
page_leads shape read (Batch (Some Enoent) taken next) stopped answer = all_read answer
page_leads shape read page stopped answer = absurd answer

by_put : (shape : Shape) (read : Read) (next : ℕ) (stopped : Bool) (after : Option Read)
    → LeadsTo shape read next stopped after → LeadsTo shape read next stopped (if stopped then None else after)
by_put shape read next true after leads = ended refl
by_put shape read next false after leads = leads

pub step_leads : (shape : Shape) (step : Step) → IsAnswered shape step
    → LeadsTo shape step.read (next_in step.page) (has_stopped step.put) (read_behind_step shape.elements step)
step_leads shape step answer =
    by_put shape step.read (next_in step.page) (has_stopped step.put) (read_behind shape.elements step.read step.page)
    (page_leads shape step.read step.page (has_stopped step.put) answer)
