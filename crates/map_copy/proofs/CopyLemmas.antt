-- A copy, and one step more of it.
use Rattle.std.proofs.Common.{◌≡◌, ℕ, List, [], ◌∷◌, ◌++◌, refl}
use Rattle.std.specs.Prelude.{Bool, MatchBool, Option, None, Some, is_some, unwrap_or}
use Rattle.map_types.specs.declared.reply.Reply.{Reply}
use Rattle.map_copy.specs.Copied.{Read, Step, IsPage, IsPutOf, IsStep, Copies, first_read, read_after, read_behind_step}
use Rattle.map_copy.specs.Plans.{PlanView, step_of, plan_after, IsCopied, IsCopying}

-- one step more, of the read that was next
copies_on : (elements : ℕ) (from : Option Read) (steps : List Step) (step : Step) → Copies elements from steps (Some step.read) → IsStep step
    → Copies elements from (steps ++ step ∷ []) (read_behind_step elements step)
copies_on elements from [] step copies is = (copies, is, refl)
copies_on elements from (first ∷ steps) step copies is =
    (copies.0, copies.1, copies_on elements (read_behind_step elements first) steps step copies.2 is)

-- the copy goes on where another read is next, and else it has ended
by_next : (elements : ℕ) (from : Option Read) (steps : List Step) (read : Read) (next : Option Read) → Copies elements from steps next
    → MatchBool (is_some next) (Copies elements from steps (Some (unwrap_or next read))) (Copies elements from steps None)
by_next elements from steps read None copies = copies
by_next elements from steps read (Some next) copies = copies

-- what a plan that goes on is the plan of
pub copied_on : (plan after : PlanView) (page : Reply) (put : Option Reply) (goes_on : Bool) → IsPage page → IsPutOf page put
    → goes_on ≡ is_some (read_after plan.elements plan.next page put) → after ≡ plan_after plan page put
    → (count : ℕ) (steps : List Step) → IsCopying count steps plan
    → MatchBool goes_on (IsCopying count (steps ++ step_of plan page put ∷ []) after)
    (IsCopied count plan.elements (steps ++ step_of plan page put ∷ []))
copied_on plan after page put goes_on is_page is_put goes_on_is after_is count steps copying =
    let step = step_of plan page put in
    rw (goes_on_is, after_is)
    (by_next plan.elements (Some (first_read count)) (steps ++ step ∷ []) plan.next (read_after plan.elements plan.next page put)
    (copies_on plan.elements (Some (first_read count)) steps step copying record { page = is_page; put = is_put }))
