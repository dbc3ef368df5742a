-- The steps of the worked run, and what is refused after them.
use Rattle.std.proofs.Common.{◌≡◌, ℕ, ◌<◌, inr, Option, None, Some, refl, ap, sym, ◌∙◌, subst, arith}
use Rattle.std.specs.Prelude.{Result, Ok, Err, OnOk}
use Rattle.map_types.specs.declared.attr.Shape.{Shape}
use Rattle.map_types.specs.declared.kind.DomainId.{DomainId}
use Rattle.map_types.specs.declared.kind.DomainId.TheVariants.{Bucket, Freelist}
use Rattle.map_types.specs.ElementLists.{put}
use Rattle.place_words.specs.declared.owner.Owner.TheVariants as owners
use Rattle.place_words.specs.Locks.{rank_of, lock_named}
use Rattle.place_words.specs.Openings.{opening_stack, opening_spares, opening_owner, opening_free}
use Rattle.place_core.specs.declared.refusal.CoreRefusal.{CoreRefusal}
use Rattle.place_words.specs.declared.step.Step.{Step}
use Rattle.place_words.specs.declared.step.Step.TheVariants.{Take, Claim, Settle, Attach}
use Rattle.place_words.specs.OpeningState.{opening, opening_lists}
use Rattle.place_words.specs.State.{State}
use Rattle.place_words.specs.Steps.{IsEnabled, CoreStep, after}
use Rattle.place_words.proofs.ElementLemmas.{at_put, put_here}
use Rattle.refusals.specs.Steps.{small, IsRefusedAt, TakesNoSecondBucket, GivesTheRowsBack, ClaimsOnlyFree, SettlesToFree, ClearsInHand}

abbrev no_holder : ℕ → Option ℕ
no_holder k = None

first : State
first = after small (opening small) (Take 0 (Bucket 0))

second : State
second = after small first (Take 0 (Freelist 0))

third : State
third = after small second (Claim 0 1 (Freelist 0))

fourth : State
fourth = after small third (Attach 0 1 0)

takes_bucket : IsEnabled small (opening small) (Take 0 (Bucket 0))
unfolding opening
takes_bucket = record { is_cpu = omega arith; is_lock = refl; nobody = refl; above = λ j held. absurd cc }

three_four : 3 < 4
three_four = omega arith

takes_freelist : IsEnabled small first (Take 0 (Freelist 0))
unfolding opening first put lock_named
takes_freelist = record {
  is_cpu = omega arith;
  is_lock = refl;
  nobody = refl;
  above = λ j held. at_put no_holder 3 (Some 0) (λ i h. h ≡ Some 0 → rank_of (lock_named small i) < 4) j (λ _. three_four) (λ _ none. absurd cc) held;
}

claims : IsEnabled small second (Claim 0 1 (Freelist 0))
unfolding opening opening_lists opening_owner opening_free opening_stack opening_spares first second put lock_named
claims = record { holds = record { is_cpu = omega arith; is_lock = refl; held = refl }; real = omega arith; head = refl }

attaches : IsEnabled small third (Attach 0 1 0)
unfolding opening opening_lists opening_owner opening_free opening_stack opening_spares first second third put lock_named
attaches = record { holds = record { is_cpu = omega arith; is_lock = refl; held = refl }; real = omega arith; in_hand = refl; not_carried = λ lru. absurd cc }

pub takes_no_second : TakesNoSecondBucket
unfolding first put lock_named
takes_no_second = (first, (takes_bucket, refl), λ now step. (let low : 3 < 3 = step.enabled.above 3 refl in omega arith))

pub gives_the_rows : GivesTheRowsBack
unfolding opening opening_lists opening_free first put lock_named
gives_the_rows = (first, (takes_bucket, refl), λ now step. (let same : 1 ≡ 0 = step.enabled.same_rows 0 in omega arith))

pub claims_only_free : ClaimsOnlyFree
unfolding opening opening_lists opening_free first second third fourth put lock_named
claims_only_free = (fourth, (takes_bucket, (takes_freelist, (claims, (attaches, refl)))), λ now step. step.enabled.head)

pub settles_to_free : SettlesToFree
unfolding opening opening_lists opening_owner opening_free opening_stack opening_spares first second third put lock_named
settles_to_free = (third, (takes_bucket, (takes_freelist, (claims, refl))), (record { holds = record { is_cpu = omega arith; is_lock = refl; held = refl }; has_free_list = refl; real = omega arith; in_hand = refl; listed = λ lru. absurd cc }, λ now stays step. free_or_hand (sym stays ∙ ap (λ (s : State). s.owner 1) step.changed)))
  where
    free_or_hand : owners.Hand 0 ≡ owners.Free → ⊥
    free_or_hand same = absurd cc

pub clears_in_hand : ClearsInHand
unfolding opening first second third put lock_named
clears_in_hand = (third, (takes_bucket, (takes_freelist, (claims, refl))), record { is_cpu = omega arith; real = omega arith; allowed = inr refl })

-- What the contract of a step says of one that is refused, of one that may be done, and of a settled element
pub not_done : (shape : Shape) (before now : State) (step : Step) (result : Result (Unit {0}) CoreRefusal) → IsRefusedAt shape before step → OnOk result (CoreStep shape before step now) → OnOk result ⊥
not_done shape before now step (Ok done) refused does = refused now does
not_done shape before now step (Err refusal) refused does = tt

pub settled_is_free : (shape : Shape) (before now : State) (step : Step) (result : Result (Unit {0}) CoreRefusal) → OnOk result (CoreStep shape before step now)
    → (cpu e : ℕ) (lock : DomainId) → step ≡ Settle cpu e lock → OnOk result (now.owner e ≡ owners.Hand cpu → ⊥)
settled_is_free shape before now step (Ok done) does cpu e lock is = λ stays. free_or_hand (sym stays ∙ owner_free (subst (λ (x : Step). CoreStep shape before x now) is does))
  where
    free_or_hand : owners.Hand cpu ≡ owners.Free → ⊥
    free_or_hand same = absurd cc

    owner_free : CoreStep shape before (Settle cpu e lock) now → now.owner e ≡ owners.Free
    owner_free step_is = ap (λ (s : State). s.owner e) step_is.changed ∙ put_here before.owner e owners.Free
settled_is_free shape before now step (Err refusal) does cpu e lock is = tt
