-- The state that events lead to, and what is reached where words allow them.
use Rattle.std.proofs.Common.{◌≡◌, ◌≢◌, ℕ, List, [], ◌∷◌, ◌++◌, map, refl, ap, ◌∙◌, sym, subst}
use Rattle.map_types.specs.declared.attr.Shape.{Shape}
use Rattle.map_types.specs.declared.kind.DomainId.TheVariants.{Bucket}
use Rattle.map_types.specs.Shape.{HasBounds}
use Rattle.place_words.specs.declared.home.Home.{Home}
use Rattle.place_words.specs.declared.home.Home.TheVariants as homes
use Rattle.place_words.specs.declared.owner.Owner.{Owner}
use Rattle.place_words.specs.declared.step.Lists.{Lists}
use Rattle.place_words.specs.declared.step.Step.{Step}
use Rattle.place_words.specs.declared.step.Step.TheVariants as steps
use Rattle.place_words.specs.Interleaving.{Drawn, Event, does, sees, takes, AreEnabled}
use Rattle.place_words.specs.Locks.{lock_number}
use Rattle.place_words.specs.Places.{Placed}
use Rattle.place_words.specs.State.{State}
use Rattle.place_words.specs.Steps.{IsEnabled, after, left_by, joined_by, after_leaving, after_joining}
use Rattle.place_words.proofs.ElementLemmas.{put_else}
use Rattle.place_words.proofs.StepLaws.{step_keeps_places}
use Rattle.core_runs.specs.Words.{Words, words_of, RunsByWords, ListsAllow}
use Rattle.core_runs.proofs.Words.{words_go, both_allow}
use Rattle.step_check.specs.Ran.{words_over}

unfoldable pub state_after : Shape → State → List Event → State
state_after shape s [] = s
state_after shape s (does step ∷ events) = state_after shape (after shape s step) events
state_after shape s (sees e holder ∷ events) = state_after shape s events

-- the words of that state
pub words_reached : (shape : Shape) (events : List Event) (s : State) → words_of (state_after shape s events) ≡ words_over shape (words_of s) events
unfolding state_after words_over
words_reached shape [] s = refl
words_reached shape (does step ∷ events) s = words_reached shape events (after shape s step) ∙ ap (λ (w : Words). words_over shape w events) (words_go shape s step)
words_reached shape (sees e holder ∷ events) s = words_reached shape events s

-- events behind others
pub state_behind : (shape : Shape) (some more : List Event) (s : State) → state_after shape s (some ++ more) ≡ state_after shape (state_after shape s some) more
unfolding state_after
state_behind shape [] more s = refl
state_behind shape (does step ∷ some) more s = state_behind shape some more (after shape s step)
state_behind shape (sees e holder ∷ some) more s = state_behind shape some more s

pub enabled_both : (shape : Shape) (some more : List Event) (s : State) → AreEnabled shape s some → AreEnabled shape (state_after shape s some) more → AreEnabled shape s (some ++ more)
unfolding AreEnabled state_after
enabled_both shape [] more s first second = second
enabled_both shape (does step ∷ some) more s first second = (first.0, enabled_both shape some more (after shape s step) first.1 second)
enabled_both shape (sees e holder ∷ some) more s first second = (first.0, enabled_both shape some more s first.1 second)

pub enabled_apart : (shape : Shape) (some more : List Event) (s : State) → AreEnabled shape s (some ++ more) → AreEnabled shape s some × AreEnabled shape (state_after shape s some) more
unfolding AreEnabled state_after
enabled_apart shape [] more s run = (tt, run)
enabled_apart shape (does step ∷ some) more s run = let rest = enabled_apart shape some more (after shape s step) run.1 in ((run.0, rest.0), rest.1)
enabled_apart shape (sees e holder ∷ some) more s run = let rest = enabled_apart shape some more s run.1 in ((run.0, rest.0), rest.1)

pub placed_after : {shape : Shape} → HasBounds shape → (events : List Event) (s : State) → Placed shape s → AreEnabled shape s events → Placed shape (state_after shape s events)
unfolding AreEnabled state_after
placed_after bounds [] s p run = p
placed_after {shape} bounds (does step ∷ events) s p run = placed_after bounds events (after shape s step) (step_keeps_places shape s step bounds run.0 p) run.1
placed_after bounds (sees e holder ∷ events) s p run = placed_after bounds events s p run.1

pub takes_owners : (shape : Shape) (turns : List Drawn) (s : State) → (state_after shape s (map takes turns)).owner ≡ s.owner
unfolding state_after
takes_owners shape [] s = refl
takes_owners shape (x ∷ turns) s = takes_owners shape turns (after shape s (steps.Take x.entry.cpu x.lock))

pub takes_homes : (shape : Shape) (turns : List Drawn) (s : State) → (state_after shape s (map takes turns)).home ≡ s.home
unfolding state_after
takes_homes shape [] s = refl
takes_homes shape (x ∷ turns) s = takes_homes shape turns (after shape s (steps.Take x.entry.cpu x.lock))

-- What words allow may be done, and leads to a state of which this holds.
abbrev pub Reaches : Shape → (State → Type 0) → State → List Event → Type 0
Reaches shape Then s events = RunsByWords shape (words_of s) events → AreEnabled shape s events × Then (state_after shape s events)

module _ {shape : Shape} (bounds : HasBounds shape) (Then : State → Type 0) where
  pub reaches_step : (s : State) (step : Step) (events : List Event) → Placed shape s → ListsAllow shape s step → (IsEnabled shape s step → Reaches shape Then (after shape s step) events) → Reaches shape Then s (does step ∷ events)
  unfolding RunsByWords AreEnabled state_after
  reaches_step s step events p lists next words =
      let can : IsEnabled shape s step = both_allow bounds s p step words.0 lists in
      let rest = next can (subst (λ (w : Words). RunsByWords shape w events) (sym (words_go shape s step)) words.1) in
      ((can, rest.0), rest.1)

  pub reaches_none : (s : State) → Then s → Reaches shape Then s []
  unfolding AreEnabled state_after
  reaches_none s then_is words = (tt, then_is)

-- Events that change the lists of one lock alone, by its number

abbrev pub IsHomeAt : Shape → ℕ → Home → Type 0
IsHomeAt shape k homes.Unlisted = Unit {0}
IsHomeAt shape k (homes.In lock) = lock_number shape lock ≡ k
IsHomeAt shape k (homes.Hand cpu) = Unit {0}

abbrev pub IsStepAt : Shape → ℕ → State → Step → Type 0
IsStepAt shape k s (steps.Take cpu lock) = Unit {0}
IsStepAt shape k s (steps.Give cpu lock lists) = lock_number shape lock ≡ k
IsStepAt shape k s (steps.Claim cpu e lock) = lock_number shape lock ≡ k
IsStepAt shape k s (steps.Settle cpu e lock) = lock_number shape lock ≡ k
IsStepAt shape k s (steps.Attach cpu e bucket) = lock_number shape (Bucket bucket) ≡ k
IsStepAt shape k s (steps.Detach cpu e bucket) = lock_number shape (Bucket bucket) ≡ k
IsStepAt shape k s (steps.Rehome cpu e to) = IsHomeAt shape k (s.home e) × IsHomeAt shape k to
IsStepAt shape k s (steps.Mark cpu e bucket) = Unit {0}
IsStepAt shape k s (steps.Clear cpu e) = Unit {0}
IsStepAt shape k s (steps.Glance cpu e) = Unit {0}

abbrev pub AreAt : Shape → ℕ → State → List Event → Type 0
AreAt shape k s [] = Unit {0}
AreAt shape k s (does step ∷ events) = IsStepAt shape k s step × AreAt shape k (after shape s step) events
AreAt shape k s (sees e holder ∷ events) = AreAt shape k s events

leaving_else : (shape : Shape) (home : Home) (o : Owner) (e : ℕ) (lists : ℕ → Lists) (k j : ℕ) → IsHomeAt shape k home → j ≢ k → after_leaving shape home o e lists j ≡ lists j
leaving_else shape homes.Unlisted o e lists k j at other = refl
leaving_else shape (homes.In lock) o e lists k j at other = put_else lists (lock_number shape lock) (left_by o e (lists (lock_number shape lock))) j (λ same. other (same ∙ at))
leaving_else shape (homes.Hand cpu) o e lists k j at other = refl

joining_else : (shape : Shape) (home : Home) (o : Owner) (e : ℕ) (lists : ℕ → Lists) (k j : ℕ) → IsHomeAt shape k home → j ≢ k → after_joining shape home o e lists j ≡ lists j
joining_else shape homes.Unlisted o e lists k j at other = refl
joining_else shape (homes.In lock) o e lists k j at other = put_else lists (lock_number shape lock) (joined_by lock o e (lists (lock_number shape lock))) j (λ same. other (same ∙ at))
joining_else shape (homes.Hand cpu) o e lists k j at other = refl

step_else : (shape : Shape) (s : State) (step : Step) (k j : ℕ) → IsStepAt shape k s step → j ≢ k → (after shape s step).lists j ≡ s.lists j
step_else shape s (steps.Take cpu lock) k j at other = refl
step_else shape s (steps.Give cpu lock lists) k j at other = put_else s.lists (lock_number shape lock) _ j (λ same. other (same ∙ at))
step_else shape s (steps.Claim cpu e lock) k j at other = put_else s.lists (lock_number shape lock) _ j (λ same. other (same ∙ at))
step_else shape s (steps.Settle cpu e lock) k j at other = put_else s.lists (lock_number shape lock) _ j (λ same. other (same ∙ at))
step_else shape s (steps.Attach cpu e bucket) k j at other = put_else s.lists (lock_number shape (Bucket bucket)) _ j (λ same. other (same ∙ at))
step_else shape s (steps.Detach cpu e bucket) k j at other = put_else s.lists (lock_number shape (Bucket bucket)) _ j (λ same. other (same ∙ at))
step_else shape s (steps.Rehome cpu e to) k j at other =
    joining_else shape to (s.owner e) e (after_leaving shape (s.home e) (s.owner e) e s.lists) k j at.1 other ∙ leaving_else shape (s.home e) (s.owner e) e s.lists k j at.0 other
step_else shape s (steps.Mark cpu e bucket) k j at other = refl
step_else shape s (steps.Clear cpu e) k j at other = refl
step_else shape s (steps.Glance cpu e) k j at other = refl

pub lists_kept : (shape : Shape) (k : ℕ) (events : List Event) (s : State) → AreAt shape k s events → (j : ℕ) → j ≢ k → (state_after shape s events).lists j ≡ s.lists j
unfolding state_after
lists_kept shape k [] s at j other = refl
lists_kept shape k (does step ∷ events) s at j other = lists_kept shape k events (after shape s step) at.1 j other ∙ step_else shape s step k j at.0 other
lists_kept shape k (sees e holder ∷ events) s at j other = lists_kept shape k events s at j other

pub at_both : (shape : Shape) (k : ℕ) (some more : List Event) (s : State) → AreAt shape k s some → AreAt shape k (state_after shape s some) more → AreAt shape k s (some ++ more)
unfolding state_after
at_both shape k [] more s first second = second
at_both shape k (does step ∷ some) more s first second = (first.0, at_both shape k some more (after shape s step) first.1 second)
at_both shape k (sees e holder ∷ some) more s first second = at_both shape k some more s first second

pub takes_at : (shape : Shape) (k : ℕ) (turns : List Drawn) (s : State) → AreAt shape k s (map takes turns)
takes_at shape k [] s = tt
takes_at shape k (x ∷ turns) s = (tt, takes_at shape k turns (after shape s (steps.Take x.entry.cpu x.lock)))
