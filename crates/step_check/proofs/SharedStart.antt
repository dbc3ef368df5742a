-- The calls of a record of a map whose CPUs share lists, and what holds before its first turn.
use Rattle.std.proofs.Common.{◌≡◌, ◌≢◌, ◌⊎◌, ℕ, Bool, true, false, cond, eqb, List, [], ◌∷◌, ◌++◌, refl, ap, ◌∙◌, sym, subst, inl, inr}
use Rattle.std.specs.Prelude.{IsTrue}
use Rattle.map_types.specs.declared.attr.Shape.{Shape}
use Rattle.map_types.specs.declared.kind.DomainId.TheVariants.{Global}
use Rattle.map_types.specs.Kind.{is_lru}
use Rattle.map_types.specs.Shape.{HasBounds}
use Rattle.map_types.proofs.RowLemmas.{by_test}
use Rattle.place_words.specs.Histories.{opening_content}
use Rattle.place_words.specs.Openings.{opening_free}
use Rattle.place_words.specs.Sets.{new_set}
use Rattle.place_words.specs.Interleaving.{Drawn}
use Rattle.turn_order.specs.InCalls.{CallInOrder, AreInOrder}
use Rattle.core_runs.specs.SharedRaces.{at_rest}
use Rattle.core_runs.proofs.GlobalReduced.{once_global}
use Rattle.core_runs.proofs.RaceRuns.{opening_fits}
use Rattle.step_check.proofs.Begun.{Stands}
use Rattle.step_check.proofs.SharedAround.{rest_of, rest_other}
use Rattle.step_check.proofs.SharedGoing.{AreByCpu, AreOwn, Going, AllNested, own_all}
use Rattle.step_check.proofs.SharedNests.{idle, AreNested, trace_nested}
use Rattle.step_check.proofs.LockSorts.{sorts_first}
use Rattle.step_check.proofs.PlainNested.{all_stand}

-- the CPU of a call: that of its first turn
pub cpu_of_call : List Drawn → ℕ → ℕ
cpu_of_call [] number = 0
cpu_of_call (x ∷ turns) number = cond (eqb x.entry.call number) x.entry.cpu (cpu_of_call turns number)

cpu_found : (turns : List Drawn) (number cpu : ℕ) → ((z : Drawn) → Stands z turns → z.entry.call ≡ number → z.entry.cpu ≡ cpu) → (z : Drawn) → Stands z turns → z.entry.call ≡ number → cpu_of_call turns number ≡ cpu
unfolding cpu_of_call
cpu_found [] number cpu are z at same = absurd at
cpu_found (x ∷ turns) number cpu are z at same =
    by_test x.entry.call number (λ b. cond b x.entry.cpu (cpu_of_call turns number) ≡ cpu) (λ its. are x (inl refl) its) (λ other. by other at (λ there. cpu_found turns number cpu (λ y y_at. are y (inr y_at)) z there same))
  where
    by : x.entry.call ≢ number → Stands z (x ∷ turns) → (Stands z turns → cpu_of_call turns number ≡ cpu) → cpu_of_call turns number ≡ cpu
    by other (inl is) on = absurd (other (ap (λ (d : Drawn). d.entry.call) is ∙ same))
    by other (inr there) on = on there

-- a call has a turn among these, or none
HasCall : List Drawn → ℕ → Type 0
HasCall turns number = (z : Drawn) × Stands z turns × (z.entry.call ≡ number)

HasNone : List Drawn → ℕ → Type 0
HasNone turns number = (z : Drawn) → Stands z turns → z.entry.call ≢ number

has_call : (turns : List Drawn) (number : ℕ) → HasCall turns number ⊎ HasNone turns number
unfolding HasCall HasNone
has_call [] number = inr (λ z at. absurd at)
has_call (x ∷ turns) number = by_test x.entry.call number (λ _. HasCall (x ∷ turns) number ⊎ HasNone (x ∷ turns) number) (λ same. inl (x, inl refl, same)) (λ other. by other (has_call turns number))
  where
    none_of : x.entry.call ≢ number → HasNone turns number → (z : Drawn) → Stands z (x ∷ turns) → z.entry.call ≢ number
    none_of other none z (inl is) = λ same. other (ap (λ (d : Drawn). d.entry.call) is ∙ same)
    none_of other none z (inr at) = none z at

    by : x.entry.call ≢ number → HasCall turns number ⊎ HasNone turns number → HasCall (x ∷ turns) number ⊎ HasNone (x ∷ turns) number
    by other (inl (z, at, same)) = inl (z, inr at, same)
    by other (inr none) = inr (none_of other none)

none_left : (number : ℕ) (before turns : List Drawn) → HasNone turns number → rest_of number before turns ≡ []
unfolding HasNone
none_left number before [] none = refl
none_left number before (x ∷ turns) none = rest_other number before x turns (none x (inl refl)) ∙ none_left number (before ++ x ∷ []) turns (λ z at. none z (inr at))

call_of : (shape : Shape) (turns : List Drawn) → AreInOrder shape turns → (z : Drawn) → Stands z turns → CallInOrder shape turns z.entry.call
call_of shape turns order z at = all_stand (λ (d : Drawn). CallInOrder shape turns d.entry.call) turns order z at

its_cpu : (shape : Shape) (turns : List Drawn) → AreInOrder shape turns → (z : Drawn) (at : Stands z turns) → (order : CallInOrder shape turns z.entry.call) → cpu_of_call turns z.entry.call ≡ order.cpu
its_cpu shape turns in_order z at order =
    cpu_found turns z.entry.call order.cpu (λ y there same. all_stand (λ (d : Drawn). d.entry.call ≡ z.entry.call → d.entry.cpu ≡ order.cpu) turns order.all_its y there same) z at refl

pub by_cpu : (shape : Shape) (turns : List Drawn) → AreInOrder shape turns → AreByCpu (cpu_of_call turns) turns
by_cpu shape turns in_order z at =
    let order = call_of shape turns in_order z at in
    all_stand (λ (d : Drawn). d.entry.call ≡ z.entry.call → d.entry.cpu ≡ order.cpu) turns order.all_its z at refl ∙ sym (its_cpu shape turns in_order z at order)

pub all_nested : (shape : Shape) → is_lru shape.kind ≡ true → IsTrue shape.common → (turns : List Drawn) → AreInOrder shape turns → AllNested shape (cpu_of_call turns) (λ number. idle) [] turns
unfolding HasCall
all_nested shape lru common turns in_order number = by (has_call turns number)
  where
    by : HasCall turns number ⊎ HasNone turns number → AreNested shape (cpu_of_call turns number) idle (rest_of number [] turns)
    by (inr none) = subst (AreNested shape (cpu_of_call turns number) idle) (sym (none_left number [] turns none)) tt
    by (inl (z, at, same)) =
        let order = call_of shape turns in_order z at in
        subst (λ (n : ℕ). AreNested shape (cpu_of_call turns n) idle (rest_of n [] turns)) same
        (subst (λ (c : ℕ). AreNested shape c idle (rest_of z.entry.call [] turns)) (sym (its_cpu shape turns in_order z at order))
        (trace_nested shape lru common order.cpu order.spare order.verb (rest_of z.entry.call [] turns) order.reply order.trace))

pub owns_all : (shape : Shape) → is_lru shape.kind ≡ true → IsTrue shape.common → (turns : List Drawn) → AreInOrder shape turns → AreOwn turns
owns_all shape lru common turns in_order = own_all shape (cpu_of_call turns) (λ number. idle) [] turns (all_nested shape lru common turns in_order) (by_cpu shape turns in_order)

-- at the opening of a map
pub at_first : (shape : Shape) → HasBounds shape → is_lru shape.kind ≡ true → IsTrue shape.common → (cpu_of : ℕ → ℕ) (turns : List Drawn) → AllNested shape cpu_of (λ number. idle) [] turns
    → Going shape cpu_of (opening_content shape) at_rest [] [] turns (λ number. idle)
at_first shape bounds lru common cpu_of turns nests = record {
  nests = nests;
  fillings = λ number. tt;
  whose = λ cpu busy. absurd (none busy);
  no_addition = λ z at has. absurd (none has);
  sorted = sorts_first shape;
  once = once_global bounds lru common (opening_fits bounds) (new_set (opening_free shape Global)) refl;
}
  where
    none : (◌≡◌ {A = Bool} false true) → ⊥
    none e = cc
