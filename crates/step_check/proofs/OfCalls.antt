-- What is known of the calls of entries, of the turns that places name.
use Rattle.std.proofs.Common.{◌≡◌, ℕ, zero, suc, ◌<◌, ◌≤◌, All, List, [], ◌∷◌, ◌++◌, length, get_or, arith}
use Rattle.std.proofs.lemmas.List.Elements.{All-cons, All-head, All-map, All-nil, All-tail, All-weaker}
use Rattle.place_words.specs.declared.history.Entry.{Entry}
use Rattle.place_words.specs.declared.history.LockHistory.{LockHistory}
use Rattle.place_words.specs.Interleaving.{Drawn}
use Rattle.place_words.specs.Tickets.{all_entries}
use Rattle.step_check.specs.declared.places.TurnPlace.{TurnPlace}
use Rattle.step_check.specs.Outer.{AreNumbered, HaveOneCpu}
use Rattle.step_check.specs.Places.{IsPlace, entry_at, no_entry, no_history, turn_at, turns_at}
use Rattle.step_check.specs.Refused.{AreOfCalls, CallsHaveOneCpu}

both_parts : (P : Entry → Type 0) (xs ys : List Entry) → All P (xs ++ ys) → All P xs × All P ys
both_parts P [] ys all = (All-nil P, all)
both_parts P (x ∷ xs) ys all =
    let rest : All P xs × All P ys = both_parts P xs ys (All-tail P x (xs ++ ys) all) in
    (All-cons P x xs (All-head P x (xs ++ ys) all) rest.0, rest.1)

in_history : (P : Entry → Type 0) (histories : List LockHistory) (number : ℕ) → number < length histories → All P (all_entries histories) → All P (get_or histories number no_history).entries
in_history P [] number less all = absurd (omega (arith, less))
in_history P (history ∷ histories) zero less all = (both_parts P history.entries (all_entries histories) all).0
in_history P (history ∷ histories) (suc number) less all = in_history P histories number (omega (arith, less)) (both_parts P history.entries (all_entries histories) all).1

at_places : (P : Entry → Type 0) (histories : List LockHistory) (places : List TurnPlace) → All (IsPlace histories) places → All P (all_entries histories) → All (λ place. P (entry_at histories place)) places
at_places P histories places real all =
    All-weaker (IsPlace histories) (λ place. P (entry_at histories place)) (λ place is. in_history P histories place.history is.history all place.index no_entry is.index) places real

of_turns : (P : Entry → Type 0) (histories : List LockHistory) (places : List TurnPlace) → All (IsPlace histories) places → All P (all_entries histories) → All (λ (drawn : Drawn). P drawn.entry) (turns_at histories places)
of_turns P histories places real all = All-map (λ (drawn : Drawn). P drawn.entry) (turn_at histories) places (at_places P histories places real all)

pub turns_numbered : (calls : ℕ) (histories : List LockHistory) (places : List TurnPlace) → All (IsPlace histories) places → AreOfCalls calls (all_entries histories) → AreNumbered calls (turns_at histories places)
turns_numbered calls histories places real all = of_turns (λ (entry : Entry). entry.call ≤ calls) histories places real all

pub turns_one_cpu : (histories : List LockHistory) (places : List TurnPlace) → All (IsPlace histories) places → CallsHaveOneCpu (all_entries histories) → HaveOneCpu (turns_at histories places)
turns_one_cpu histories places real all =
    of_turns (λ (entry : Entry). All (λ (other : Drawn). other.entry.call ≡ entry.call → other.entry.cpu ≡ entry.cpu) (turns_at histories places)) histories places real
    (All-weaker (λ (entry : Entry). All (λ (other : Entry). other.call ≡ entry.call → other.cpu ≡ entry.cpu) (all_entries histories))
    (λ (entry : Entry). All (λ (other : Drawn). other.entry.call ≡ entry.call → other.entry.cpu ≡ entry.cpu) (turns_at histories places))
    (λ entry of_its. of_turns (λ (other : Entry). other.call ≡ entry.call → other.cpu ≡ entry.cpu) histories places real of_its) (all_entries histories) all)
