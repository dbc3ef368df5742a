-- Turns that stand in the histories of their locks, each right after the turns before it.
use Rattle.std.proofs.Common.{◌≡◌, ℕ, List, [], ◌∷◌, ◌++◌, length, Some, sym, refl, ap, ◌∙◌, append_assoc}
use Rattle.std.specs.Prelude.{take, slice_get}
use Rattle.std.proofs.Math.Seq.{take-append_seam}
use Rattle.place_words.specs.declared.history.Entry.{Entry}
use Rattle.place_table.specs.declared.view.Turned.{Turned}
use Rattle.place_table.specs.Views.{place_of}
use Rattle.place_table.specs.Rules.{StandsIn, StandIn}

-- a history that has more at its end
abbrev pub Grows : List Entry → List Entry → Type 0
Grows log more = (last : List Entry) × (more ≡ log ++ last)

stands_more : (log more : List Entry) (step : Turned) → Grows log more → StandsIn log step → StandsIn more step
stands_more log more step grown stands = record {
  later = stands.later ++ grown.0;
  log_is = grown.1 ∙ (ap (λ (l : List Entry). l ++ grown.0) stands.log_is ∙ append_assoc step.earlier (step.entry ∷ stands.later) grown.0);
}

-- a turn stands where it stood when its lock has more turns
pub stand_more : (log more : ℕ → List Entry) (steps : List Turned) → ((k : ℕ) → Grows (log k) (more k)) → StandIn log steps → StandIn more steps
stand_more log more [] grown stand = tt
stand_more log more (step ∷ steps) grown stand = (stands_more (log step.lock) (more step.lock) step (grown step.lock) stand.0, stand_more log more steps grown stand.1)

-- with one turn more
pub stand_behind : (log : ℕ → List Entry) (steps : List Turned) (step : Turned) → StandIn log steps → StandsIn (log step.lock) step → StandIn log (steps ++ step ∷ [])
stand_behind log [] step stand last = (last, tt)
stand_behind log (first ∷ steps) step stand last = (stand.0, stand_behind log steps step stand.1 last)

entry_between : (earlier later : List Entry) (entry : Entry) → slice_get (earlier ++ entry ∷ later) (length earlier) ≡ Some entry
entry_between [] later entry = refl
entry_between (x ∷ xs) later entry = entry_between xs later entry

-- a turn's entry, and the turns before it, by its place
pub earlier_is : (log : List Entry) (step : Turned) → StandsIn log step → step.earlier ≡ take (place_of step) log
earlier_is log step stands = sym (ap (take (place_of step)) stands.log_is ∙ take-append_seam step.earlier (step.entry ∷ stands.later))

pub entry_is : (log : List Entry) (step : Turned) → StandsIn log step → slice_get log (place_of step) ≡ Some step.entry
entry_is log step stands = ap (λ (l : List Entry). slice_get l (place_of step)) stands.log_is ∙ entry_between step.earlier stands.later step.entry
