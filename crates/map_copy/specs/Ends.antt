-- Where a copy ends.
use Rattle.std.specs.Prelude.{◌≡◌, ◌⊎◌, ℕ, IsTrue, All, List, [], ◌∷◌, ◌++◌, Some}
use Rattle.map_types.specs.declared.refusal.Errno.TheVariants.{Enoent}
use Rattle.map_types.specs.declared.reply.Reply.{Reply}
use Rattle.map_types.specs.declared.reply.Reply.TheVariants.{Batch}
use Rattle.map_copy.specs.Copied.{Step, has_stopped}
use Rattle.map_copy.specs.Plans.{IsCopied}

-- a read with stop ENOENT, behind which no bucket is left
abbrev pub HasReadAll : Reply → Type 0
HasReadAll (Batch (Some Enoent) taken next) = Unit {0}
HasReadAll reply = ⊥

-- The copy ends after a put that stopped, or after a read with stop ENOENT and its put.
abbrev pub EndsCopy : Step → Type 0
EndsCopy step = IsTrue (has_stopped step.put) ⊎ HasReadAll step.page

-- The last of these steps is such a one, and no other. So ENOSPC never ends a copy.
pub record HasEnd (steps : List Step) : Type 0 where
  pub before : List Step
  pub last : Step
  pub steps_are : steps ≡ before ++ last ∷ []
  pub goes_on : All (λ (step : Step). ¬ (EndsCopy step)) before
  pub ends : EndsCopy last

abbrev pub EndsThere : Type 0
EndsThere = (count elements : ℕ) (steps : List Step) → IsCopied count elements steps → HasEnd steps
