-- Where a copy ends.
use Rattle.std.proofs.Common.{ℕ, List, [], ◌∷◌, refl, sym, ap, inl, inr}
use Rattle.std.proofs.lemmas.List.Elements.{All-nil, All-cons}
use Rattle.std.specs.Prelude.{◌⊎◌, Bool, true, false, IsTrue, if◌then◌else◌, Option, None, Some}
use Rattle.map_types.specs.declared.refusal.Errno.TheVariants.{Enoent, Enospc}
use Rattle.map_types.specs.declared.reply.Reply.{Reply}
use Rattle.map_types.specs.declared.reply.Reply.TheVariants.{Batch}
use Rattle.map_copy.specs.Copied.{Read, Step, IsPage, Copies, first_read, has_stopped, read_behind, read_behind_step}
use Rattle.map_copy.specs.Ends.{HasReadAll, EndsCopy, HasEnd, EndsThere}
use Rattle.map_copy.proofs.StepLemmas.{none_is_some, none_left}

-- no read is next exactly where a put stopped, or all buckets were read
data Ends (stopped : Bool) (page : Reply) : Option Read → Type 0 where
  over : (IsTrue stopped ⊎ HasReadAll page) → Ends stopped page None
  goes_on : {read : Read} → ¬ (IsTrue stopped ⊎ HasReadAll page) → Ends stopped page (Some read)

pub not_stopped : (page : Reply) → ¬ (HasReadAll page) → ¬ (IsTrue false ⊎ HasReadAll page)
not_stopped page more (inl e) = cc
not_stopped page more (inr all) = more all

page_ends : (elements : ℕ) (read : Read) (page : Reply) → IsPage page → Ends false page (read_behind elements read page)
page_ends elements read (Batch None taken next) is = goes_on (not_stopped (Batch None taken next) (λ all. all))
page_ends elements read (Batch (Some Enospc) taken next) is = goes_on (not_stopped (Batch (Some Enospc) taken next) (λ all. all))
page_ends elements read (Batch (Some Enoent) taken next) is = over (inr tt)
page_ends elements read page is = absurd is

step_ends : (elements : ℕ) (read : Read) (page : Reply) (stopped : Bool) → IsPage page
    → Ends stopped page (if stopped then None else read_behind elements read page)
step_ends elements read page true is = over (inl refl)
step_ends elements read page false is = page_ends elements read page is

-- a step, and the steps that follow it
with_step : (elements : ℕ) (step : Step) (steps : List Step) (after : Option Read)
    → ((read : Read) → Copies elements (Some read) steps None → HasEnd steps)
    → Ends (has_stopped step.put) step.page after → Copies elements after steps None → HasEnd (step ∷ steps)
with_step elements step steps None later (over ends) copies =
    record {
      before = [];
      last = step;
      steps_are = ap (λ (rest : List Step). step ∷ rest) (none_left elements steps None copies).0;
      goes_on = All-nil (λ (step : Step). ¬ (EndsCopy step));
      ends = ends;
    }
with_step elements step steps (Some read) later (goes_on more) copies =
    let rest = later read copies in
    record {
      before = step ∷ rest.before;
      last = rest.last;
      steps_are = ap (λ (rest : List Step). step ∷ rest) rest.steps_are;
      goes_on = All-cons (λ (step : Step). ¬ (EndsCopy step)) step rest.before more rest.goes_on;
      ends = rest.ends;
    }

ends_from : (elements : ℕ) (steps : List Step) (read : Read) → Copies elements (Some read) steps None → HasEnd steps
ends_from elements [] read copies = absurd (none_is_some (sym copies))
ends_from elements (step ∷ steps) read copies =
    with_step elements step steps (read_behind_step elements step) (ends_from elements steps)
    (step_ends elements step.read step.page (has_stopped step.put) copies.1.page) copies.2

pub ends_there : EndsThere
ends_there count elements steps copied = ends_from elements steps (first_read count) copied
