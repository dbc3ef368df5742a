-- One turn: the locks that are taken for it, and then what it does.
use Rattle.std.proofs.Common.{◌≡◌, ℕ, ◌<◌, All, Bool, true, false, Option, None, List, [], ◌∷◌, ◌++◌, map, refl, ap, ◌∙◌, sym, subst}
use Rattle.std.proofs.lemmas.List.{append_assoc}
use Rattle.map_types.specs.declared.attr.Shape.{Shape}
use Rattle.place_words.specs.declared.step.Lists.{Lists}
use Rattle.place_words.specs.declared.step.Step.TheVariants as steps
use Rattle.place_words.specs.Interleaving.{Drawn, Event, bucket_around, bucket_of_lock, does, not_begun, part_steps, seen_by, takes, tickets_of, turn_events}
use Rattle.step_check.specs.Begun.{AreBegun, HasRun, HasTaken, around_in, turn_in}
use Rattle.step_check.specs.Ran.{Ran}
use Rattle.step_check.specs.WordsView.{WordsView}
use Rattle.step_check.proofs.Enclosing.{HasOuter}
use Rattle.step_check.proofs.LocksTaken.{took_both, took_not}
use Rattle.step_check.proofs.RunLemmas.{ran_not, ran_then}

last_around : (turns : List Drawn) (turn : Drawn) → bucket_around (turns ++ turn ∷ []) ≡ bucket_of_lock turn.lock
last_around [] turn = refl
last_around (first ∷ []) turn = refl
last_around (first ∷ second ∷ turns) turn = last_around (second ∷ turns) turn

pub bucket_told : (turns : List Drawn) (ticket outer : ℕ) → HasOuter turns ticket outer → bucket_around (around_in turns ticket) ≡ bucket_of_lock (turn_in turns outer).lock
bucket_told turns ticket outer has = ap bucket_around has.around ∙ last_around (around_in turns outer) (turn_in turns outer)

-- what comes once the locks are taken
abbrev pub part_events : Shape → Option ℕ → Lists → Drawn → List Event
part_events shape bucket lists turn =
    map does (part_steps shape turn.entry.cpu turn.lock bucket turn.entry.part) ++ seen_by turn.entry.part ++ does (steps.Give turn.entry.cpu turn.lock lists) ∷ []

events_are : (shape : Shape) (around : List Drawn) (begun : List ℕ) (lists : Lists) (turn : Drawn) → turn_events shape around begun lists turn ≡ map takes (not_begun begun (around ++ turn ∷ [])) ++ part_events shape (bucket_around around) lists turn
unfolding turn_events
events_are shape around begun lists turn =
    let first : List Event = map takes (not_begun begun (around ++ turn ∷ [])) in
    let mine : List Event = map does (part_steps shape turn.entry.cpu turn.lock (bucket_around around) turn.entry.part) in
    let seen : List Event = seen_by turn.entry.part in
    let gives : List Event = does (steps.Give turn.entry.cpu turn.lock lists) ∷ [] in
    ap (λ (l : List Event). l ++ gives) (append_assoc first mine seen) ∙ append_assoc first (mine ++ seen) gives

taken_not : (turns : List Drawn) (ticket : ℕ) (begun then : List ℕ) (lists : Lists) (before now : WordsView) (bits : List Bool) → HasTaken begun then (around_in turns ticket ++ turn_in turns ticket ∷ []) before now bits false → HasRun turns ticket begun lists before now bits false
taken_not turns ticket begun then lists before now bits took = record {
  ran = subst (λ (es : List Event). Ran before es now false) (sym (events_are before.shape (around_in turns ticket) begun lists (turn_in turns ticket)))
      (ran_not before now (map takes (not_begun begun (around_in turns ticket ++ turn_in turns ticket ∷ []))) (part_events before.shape (bucket_around (around_in turns ticket)) lists (turn_in turns ticket)) took.ran);
  marked = λ yes. absurd (cc);
}

-- what encloses it can't begin
pub run_not_around : (turns : List Drawn) (ticket : ℕ) (begun : List ℕ) (lists : Lists) (before now : WordsView) (bits : List Bool) (answer : Bool)
    → HasTaken begun (tickets_of (around_in turns ticket) ++ begun) (around_in turns ticket) before now bits answer → answer ≡ false → HasRun turns ticket begun lists before now bits false
run_not_around turns ticket begun lists before now bits answer took fails =
    taken_not turns ticket begun begun lists before now bits (took_not begun (tickets_of (around_in turns ticket) ++ begun) begun (around_in turns ticket) (turn_in turns ticket) before now bits answer took fails)

-- its own lock can't be taken
pub run_not_taken : (turns : List Drawn) (ticket : ℕ) (begun : List ℕ) (lists : Lists) (before middle now : WordsView) (bits after : List Bool) (answer last : Bool) → (turn_in turns ticket).entry.ticket ≡ ticket
    → All (λ (drawn : Drawn). ticket < drawn.entry.ticket) (around_in turns ticket) → HasTaken begun (tickets_of (around_in turns ticket) ++ begun) (around_in turns ticket) before middle bits answer → answer ≡ true
    → (AreBegun (tickets_of (around_in turns ticket) ++ begun) bits → HasTaken (tickets_of (around_in turns ticket) ++ begun) (ticket ∷ (tickets_of (around_in turns ticket) ++ begun)) (turn_in turns ticket ∷ []) middle now after last)
    → last ≡ false → HasRun turns ticket begun lists before now after false
run_not_taken turns ticket begun lists before middle now bits after answer last own later took holds then fails =
    taken_not turns ticket begun (ticket ∷ (tickets_of (around_in turns ticket) ++ begun)) lists before now after
    (subst (λ b. HasTaken begun (ticket ∷ (tickets_of (around_in turns ticket) ++ begun)) (around_in turns ticket ++ turn_in turns ticket ∷ []) before now after b) fails
    (took_both begun (around_in turns ticket) (turn_in turns ticket) ticket before middle now bits after answer last own later took holds then))

-- all is taken
pub run_all : (turns : List Drawn) (ticket : ℕ) (begun : List ℕ) (lists : Lists) (before middle taken now : WordsView) (bits after : List Bool) (answer last given : Bool) (bucket : Option ℕ) (turn : Drawn) → (turn_in turns ticket).entry.ticket ≡ ticket
    → All (λ (drawn : Drawn). ticket < drawn.entry.ticket) (around_in turns ticket) → HasTaken begun (tickets_of (around_in turns ticket) ++ begun) (around_in turns ticket) before middle bits answer → answer ≡ true
    → (AreBegun (tickets_of (around_in turns ticket) ++ begun) bits → HasTaken (tickets_of (around_in turns ticket) ++ begun) (ticket ∷ (tickets_of (around_in turns ticket) ++ begun)) (turn_in turns ticket ∷ []) middle taken after last)
    → last ≡ true → taken.shape ≡ before.shape → bucket ≡ bucket_around (around_in turns ticket) → turn ≡ turn_in turns ticket → Ran taken (part_events taken.shape bucket lists turn) now given → HasRun turns ticket begun lists before now after given
run_all turns ticket begun lists before middle taken now bits after answer last given bucket turn own later took holds then done shape_is bucket_is turn_is ran =
    let both : HasTaken begun (ticket ∷ (tickets_of (around_in turns ticket) ++ begun)) (around_in turns ticket ++ turn_in turns ticket ∷ []) before taken after last =
    took_both begun (around_in turns ticket) (turn_in turns ticket) ticket before middle taken bits after answer last own later took holds then in
    let rest : List Event = part_events before.shape (bucket_around (around_in turns ticket)) lists (turn_in turns ticket) in
    let ran_rest : Ran taken rest now given = subst (λ (es : List Event). Ran taken es now given) (λ j. part_events (shape_is j) (bucket_is j) lists (turn_is j)) ran in
    record {
      ran = subst (λ (es : List Event). Ran before es now given) (sym (events_are before.shape (around_in turns ticket) begun lists (turn_in turns ticket)))
          (ran_then before taken now (map takes (not_begun begun (around_in turns ticket ++ turn_in turns ticket ∷ []))) rest given (subst (λ b. Ran before (map takes (not_begun begun (around_in turns ticket ++ turn_in turns ticket ∷ []))) taken b) done both.ran) ran_rest);
      marked = λ yes. both.marked done;
    }

-- some lists: words look at none
pub no_lists : Lists
no_lists = record { free = []; first = []; second = []; cursor = None }
