use Rattle.std.proofs.Common.{ℕ, ◌≤◌, List, ◌∙◌, sym, subst}
use Rattle.map_types.specs.declared.kind.DomainId.TheVariants as locks
use Rattle.map_types.specs.ElementLists.{times, IsIn}
use Rattle.set_replay.proofs.Replaying.{free_once, free_real}
use Rattle.set_replay.proofs.replay.opening_global.Goals as goal

pub set_with-requires-clause-once : goal.set_with-requires-clause-once
set_with-requires-clause-once c = λ e. subst (λ (l : List ℕ). times e l ≤ 1) (sym (c.as_slice.ensures ∙ c.in_ok-free.ensures)) (free_once c.args.shape.now locks.Global c.requires e)

pub set_with-requires-clause-below : goal.set_with-requires-clause-below
set_with-requires-clause-below c = λ e some. free_real c.args.shape.now locks.Global c.requires e (subst (λ (l : List ℕ). IsIn e l) (c.as_slice.ensures ∙ c.in_ok-free.ensures) some)

pub marks_of-requires-clause-once : goal.marks_of-requires-clause-once
marks_of-requires-clause-once c = λ e. subst (λ (l : List ℕ). times e l ≤ 1) (sym (c.as_slice-2.ensures ∙ c.in_ok-free.ensures)) (free_once c.args.shape.now locks.Global c.requires e)

pub marks_of-requires-clause-below : goal.marks_of-requires-clause-below
marks_of-requires-clause-below c = λ e some. free_real c.args.shape.now locks.Global c.requires e (subst (λ (l : List ℕ). IsIn e l) (c.as_slice-2.ensures ∙ c.in_ok-free.ensures) some)
