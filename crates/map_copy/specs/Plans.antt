-- Where a copy stands, as its plan keeps it.
use Rattle.std.specs.Prelude.{ℕ, ◌≤◌, List, Option, None, Some, unwrap_or}
use Rattle.map_types.specs.declared.reply.Reply.{Reply}
use Rattle.map_copy.specs.Copied.{Read, Step, Copies, read_of, first_read, read_after}

-- how many elements the source has, and what the next read asks for
pub record PlanView : Type 0 where
  pub elements : ℕ
  pub next : Read

abbrev pub plan_of : ℕ → Read → PlanView
plan_of elements next = record { elements = elements; next = next }

abbrev pub plan_view : ℕ → ℕ → ℕ → PlanView
plan_view elements count start = plan_of elements (read_of count start)

-- In every state of a plan the source has an element, and the next read asks for one pair at least.
pub record IsPlan (plan : PlanView) : Type 0 where
  pub some_element : 1 ≤ plan.elements
  pub some_count : 1 ≤ plan.next.count

-- the step that makes the read of a plan
abbrev pub step_of : PlanView → Reply → Option Reply → Step
step_of plan page put = record { read = plan.next; page = page; put = put }

-- the plan behind a page and its put, which is the same where there is no next read
abbrev pub plan_after : PlanView → Reply → Option Reply → PlanView
plan_after plan page put = plan_of plan.elements (unwrap_or (read_after plan.elements plan.next page put) plan.next)

-- These are the steps of a copy with this count that goes on, and the plan has its next read.
abbrev pub IsCopying : ℕ → List Step → PlanView → Type 0
IsCopying count steps plan = Copies plan.elements (Some (first_read count)) steps (Some plan.next)

-- These are all steps of a copy with this count, from a source with so many elements.
abbrev pub IsCopied : ℕ → ℕ → List Step → Type 0
IsCopied count elements steps = Copies elements (Some (first_read count)) steps None
