-- What the recording of a turn leaves in the slot, in the strand and in the log.
use Rattle.std.proofs.Common.{◌≡◌, ℕ, zero, suc, ◌+◌, Bool, true, false, cond, List, [], ◌∷◌, ◌++◌, length, map, filter, Option, Some, None, MatchOption, sym, refl, ap, ◌∙◌, subst, ⊎_elim}
use Rattle.std.specs.Prelude.{slice_get}
use Rattle.std.proofs.lemmas.List.{length-append, map-append}
use Rattle.std.proofs.lemmas.List.Elements.{All-append, All-cons, All-nil, All-weaker, filter-append}
use Rattle.map_types.specs.declared.attr.Shape.{Shape}
use Rattle.map_types.specs.declared.kind.DomainId.{DomainId}
use Rattle.place_words.specs.declared.history.Entry.{Entry}
use Rattle.place_words.specs.declared.history.StrandStep.{StrandStep}
use Rattle.place_words.specs.declared.turn_logs.LoggedTurn.{LoggedTurn}
use Rattle.place_words.specs.Locks.{lock_named}
use Rattle.place_words.specs.State.{is_bucket}
use Rattle.place_words.specs.TurnLogs.{no_turn, turn_logged}
use Rattle.place_table.specs.declared.content.Behind.{Behind}
use Rattle.place_table.specs.declared.content.Content.{Content}
use Rattle.place_table.specs.declared.content.SlotTurns.{SlotTurns}
use Rattle.place_table.specs.declared.content.SlotTurns.TheVariants.{Here, Logged}
use Rattle.place_table.specs.declared.view.Hold.{Hold}
use Rattle.place_table.specs.declared.view.Ticket.{Ticket}
use Rattle.place_table.specs.declared.view.Ticket.TheVariants.{Drawn}
use Rattle.place_table.specs.declared.view.Turned.{Turned}
use Rattle.place_table.specs.declared.view.View.{View}
use Rattle.place_table.specs.Logged.{IsLogOf, IsTurnOf, step_logged}
use Rattle.place_table.specs.Recording.{Recorded, IsLost, RecordsIn, Records, recorded_step, last_from, last_in, entry_given, history_with}
use Rattle.place_table.specs.Rules.{KeptAs}
use Rattle.place_table.specs.SlotTurns.{HasTurns}
use Rattle.place_table.specs.Views.{next, number_by, numbered_entry}
use Rattle.place_table.proofs.Worlds.{none_some}

-- Logs of more turns

got_there : {A : Type 0} (xs ys : List A) (place : ℕ) (x : A) → slice_get xs place ≡ Some x → slice_get (xs ++ ys) place ≡ Some x
got_there [] ys place x at = absurd (none_some at)
got_there (y ∷ xs) ys zero x at = at
got_there (y ∷ xs) ys (suc place) x at = got_there xs ys place x at

got_last : {A : Type 0} (xs : List A) (x : A) → slice_get (xs ++ x ∷ []) (length xs) ≡ Some x
got_last [] x = refl
got_last (y ∷ xs) x = got_last xs x

turn_of_more : (shape : Shape) (steps more : List Turned) (turn : LoggedTurn) → IsTurnOf shape steps turn → IsTurnOf shape (steps ++ more) turn
turn_of_more shape steps more turn is = record {
  number = is.number;
  step = is.step;
  there = got_there steps more is.number is.step is.there;
  lock_is = is.lock_is;
  place_is = is.place_is;
  entry_is = is.entry_is;
}

-- turns that aren't recorded leave the log as it is
pub log_more : (shape : Shape) (steps more : List Turned) (kept : List StrandStep) (log : List LoggedTurn) → IsLogOf shape steps kept log → IsLogOf shape (steps ++ more) kept log
log_more shape steps more kept log is = record {
  steps_are = is.steps_are;
  turns = All-weaker (IsTurnOf shape steps) (IsTurnOf shape (steps ++ more)) (turn_of_more shape steps more) log is.turns;
}

pub no_log : (shape : Shape) (log : List LoggedTurn) → log ≡ [] → IsLogOf shape [] [] log
no_log shape log none = subst (IsLogOf shape [] []) (sym none) record { steps_are = refl; turns = All-nil (IsTurnOf shape []) }

abbrev on_buckets : List StrandStep → List StrandStep
on_buckets steps = filter (λ (step : StrandStep). is_bucket step.lock) steps

-- a step on a bucket, or on another lock, behind the others
bucket_behind : (before : List StrandStep) (step : StrandStep) (b : Bool) → is_bucket step.lock ≡ b → on_buckets (before ++ step ∷ []) ≡ on_buckets before ++ cond b (step ∷ []) []
bucket_behind before step b is =
    filter-append (λ (s : StrandStep). is_bucket s.lock) before (step ∷ []) ∙ ap (λ (c : Bool). on_buckets before ++ cond c (step ∷ []) []) is

append_nil : {A : Type 0} (xs : List A) → xs ++ [] ≡ xs
append_nil [] = refl
append_nil (x ∷ xs) = ap (λ l. x ∷ l) (append_nil xs)

-- The entry that comes out of what was recorded

last_added : (first entry : Entry) (entries : List Entry) → last_from first (entries ++ entry ∷ []) ≡ entry
last_added first entry [] = refl
last_added first entry (next ∷ entries) = last_added next entry entries

last_of_history : (history now : Option SlotTurns) (log : List LoggedTurn) (lock : DomainId) (entry : Entry) (before after : List StrandStep) (recorded : Recorded) → RecordsIn history log now lock entry before after recorded → last_in recorded.log now ≡ entry
last_of_history None now log lock entry before after recorded records = absurd records
last_of_history (Some (Here entries)) None log lock entry before after recorded records = absurd records
last_of_history (Some (Logged count)) None log lock entry before after recorded records = absurd records
last_of_history (Some (Here entries)) (Some (Logged m)) log lock entry before after recorded records = absurd records
last_of_history (Some (Logged count)) (Some (Here now)) log lock entry before after recorded records = absurd records
last_of_history (Some (Here entries)) (Some (Here now)) log lock entry before after recorded records = ap (last_from no_turn) records.0 ∙ last_added no_turn entry entries.value
last_of_history (Some (Logged count)) (Some (Logged m)) log lock entry before after recorded records =
    let is = records.1 in
    ap (λ (l : List LoggedTurn). last_from no_turn (map turn_logged l)) is.log_is ∙ (ap (last_from no_turn) (map-append turn_logged log (is.turn ∷ []))
    ∙ (last_added no_turn (turn_logged is.turn) (map turn_logged log) ∙ is.entry_is))

lost_of_recorded : (history now : Option SlotTurns) (log : List LoggedTurn) (lock : DomainId) (entry : Entry) (before after : List StrandStep) (recorded : Recorded) → RecordsIn history log now lock entry before after recorded → recorded.lost ≡ None
lost_of_recorded None now log lock entry before after recorded records = absurd records
lost_of_recorded (Some (Here entries)) None log lock entry before after recorded records = absurd records
lost_of_recorded (Some (Logged count)) None log lock entry before after recorded records = absurd records
lost_of_recorded (Some (Here entries)) (Some (Logged m)) log lock entry before after recorded records = absurd records
lost_of_recorded (Some (Logged count)) (Some (Here now)) log lock entry before after recorded records = absurd records
lost_of_recorded (Some (Here entries)) (Some (Here now)) log lock entry before after recorded records = records.1
lost_of_recorded (Some (Logged count)) (Some (Logged m)) log lock entry before after recorded records = records.0

-- the entry that a lock is given back with is the one that was recorded or handed back
pub entry_given_is : (history : Option SlotTurns) (log : List LoggedTurn) (lock : DomainId) (entry : Entry) (before after : List StrandStep) (recorded : Recorded) (k : ℕ) (here : Option Content) (slots below : List (ℕ × Behind))
    → Records history log lock entry before after recorded → slots ≡ (k, record { content = here; history = recorded.history }) ∷ below → entry_given recorded.lost recorded.log slots ≡ entry
entry_given_is history log lock entry before after recorded k here slots below records slot =
    ⊎_elim
    (λ (lost : IsLost log entry before after recorded). ap (λ o. entry_given o recorded.log slots) lost.1)
    (λ (kept : RecordsIn history log recorded.history lock entry before after recorded).
    (λ i. entry_given (lost_of_recorded history recorded.history log lock entry before after recorded kept i) recorded.log (slot i)) ∙ last_of_history history recorded.history log lock entry before after recorded kept)
    records

-- What is in the slot

-- a history that isn't lost has the turns of the hold
abbrev pub IsHeldHistory : DomainId → Hold → Option SlotTurns → Type 0
IsHeldHistory lock hold history = MatchOption history (Unit {0}) (λ turns. (hold.lost ≡ false) × HasTurns lock hold.log turns)

-- and then the entry more, and the strand the step, or nothing is recorded
abbrev HasOneMore : DomainId → Hold → Entry → List StrandStep → List StrandStep → Option SlotTurns → Type 0
HasOneMore lock hold entry before after history =
    MatchOption history (after ≡ before) (λ turns. (hold.lost ≡ false) × HasTurns lock (hold.log ++ entry ∷ []) turns × (after ≡ before ++ recorded_step lock (length hold.log) ∷ []))

kept_in : (history now : Option SlotTurns) (log : List LoggedTurn) (lock : DomainId) (entry : Entry) (before after : List StrandStep) (recorded : Recorded) (hold : Hold) → IsHeldHistory lock hold history → RecordsIn history log now lock entry before after recorded → HasOneMore lock hold entry before after now
kept_in None now log lock entry before after recorded hold was records = absurd records
kept_in (Some (Here entries)) None log lock entry before after recorded hold was records = absurd records
kept_in (Some (Logged count)) None log lock entry before after recorded hold was records = absurd records
kept_in (Some (Here entries)) (Some (Logged m)) log lock entry before after recorded hold was records = absurd records
kept_in (Some (Logged count)) (Some (Here now)) log lock entry before after recorded hold was records = absurd records
kept_in (Some (Here entries)) (Some (Here now)) log lock entry before after recorded hold was records =
    (was.0, (was.1.0, records.0 ∙ ap (λ (l : List Entry). l ++ entry ∷ []) was.1.1), records.2 ∙ ap (λ (l : List Entry). before ++ recorded_step lock (length l) ∷ []) was.1.1)
kept_in (Some (Logged count)) (Some (Logged m)) log lock entry before after recorded hold was records =
    let is = records.1 in
    (was.0, (was.1.0, is.now_is ∙ (ap (λ (n : ℕ). n + 1) was.1.1 ∙ sym (length-append hold.log (entry ∷ [])))), is.after_is ∙ ap (λ (n : ℕ). before ++ recorded_step lock n ∷ []) was.1.1)

pub one_more : (history : Option SlotTurns) (log : List LoggedTurn) (lock : DomainId) (entry : Entry) (before after : List StrandStep) (recorded : Recorded) (hold : Hold) → IsHeldHistory lock hold history → Records history log lock entry before after recorded → HasOneMore lock hold entry before after recorded.history
one_more history log lock entry before after recorded hold was records =
    ⊎_elim
    (λ (gone : IsLost log entry before after recorded). subst (HasOneMore lock hold entry before after) (sym gone.0) gone.2)
    (λ (kept : RecordsIn history log recorded.history lock entry before after recorded). kept_in history recorded.history log lock entry before after recorded hold was kept)
    records

-- what is in a history that is kept
pub kept_if : (drawn : Option ℕ) (lock : DomainId) (hold : Hold) (found : Behind) → KeptAs lock hold.lost hold.log found → IsHeldHistory lock hold (history_with drawn found.history)
kept_if None lock hold found kept = tt
kept_if (Some t) lock hold found kept = go found.history kept
  where
    go : (history : Option SlotTurns) → MatchOption history (hold.lost ≡ true) (λ turns. (hold.lost ≡ false) × HasTurns lock hold.log turns) → IsHeldHistory lock hold history
    go None kept = tt
    go (Some u) kept = kept

-- where there is an entry, it has the ticket that was drawn
ticket_in : (history now : Option SlotTurns) (log : List LoggedTurn) (lock : DomainId) (entry : Entry) (before after : List StrandStep) (recorded : Recorded) (A : Type 0) → MatchOption history (Unit {0}) (λ _. A) → RecordsIn history log now lock entry before after recorded → MatchOption now (Unit {0}) (λ _. A)
ticket_in None now log lock entry before after recorded A is records = absurd records
ticket_in (Some turns) None log lock entry before after recorded A is records = tt
ticket_in (Some turns) (Some now) log lock entry before after recorded A is records = is

pub its_ticket : (history : Option SlotTurns) (log : List LoggedTurn) (lock : DomainId) (entry : Entry) (before after : List StrandStep) (recorded : Recorded) (A : Type 0) → MatchOption history (Unit {0}) (λ _. A) → Records history log lock entry before after recorded → MatchOption recorded.history (Unit {0}) (λ _. A)
its_ticket history log lock entry before after recorded A is records =
    ⊎_elim
    (λ (gone : IsLost log entry before after recorded). subst (λ (o : Option SlotTurns). MatchOption o (Unit {0}) (λ _. A)) (sym gone.0) tt)
    (λ (kept : RecordsIn history log recorded.history lock entry before after recorded). ticket_in history recorded.history log lock entry before after recorded A is kept)
    records

pub only_if : (history : Option SlotTurns) (A B : Type 0) → (A → B) → MatchOption history (Unit {0}) (λ _. A) → MatchOption history (Unit {0}) (λ _. B)
only_if None A B f is = tt
only_if (Some u) A B f is = f is

-- an entry that has its ticket has its number
number_is : (v : View) (entry : Entry) → v.ticket ≡ Drawn entry.ticket → numbered_entry v entry ≡ entry
number_is v entry drawn = ap (λ (n : ℕ). record { ticket = n; cpu = entry.cpu; call = entry.call; part = entry.part }) (ap (λ (x : Ticket). number_by x (next v)) drawn)

pub renumbered : (history : Option SlotTurns) (v : View) (entry : Entry) (A : Type 0) (F : SlotTurns → Entry → Type 0) → MatchOption history (Unit {0}) (λ _. v.ticket ≡ Drawn entry.ticket) → MatchOption history A (λ u. F u entry) → MatchOption history A (λ u. F u (numbered_entry v entry))
renumbered None v entry A F drawn is = is
renumbered (Some u) v entry A F drawn is = subst (F u) (sym (number_is v entry drawn)) is

-- What is in the log

log_kept : (history now : Option SlotTurns) (shape : Shape) (steps : List Turned) (step : Turned) (log : List LoggedTurn) (lock : DomainId) (entry : Entry) (before after : List StrandStep) (recorded : Recorded) (hold : Hold) → lock_named shape step.lock ≡ lock → step.earlier ≡ hold.log → (recorded.lost ≡ None → step.entry ≡ entry)
    → IsLogOf shape steps before log → IsHeldHistory lock hold history → RecordsIn history log now lock entry before after recorded → IsLogOf shape (steps ++ step ∷ []) after recorded.log
log_kept None now shape steps step log lock entry before after recorded hold lock_is earlier_is entry_is is was records = absurd records
log_kept (Some (Here entries)) None shape steps step log lock entry before after recorded hold lock_is earlier_is entry_is is was records = absurd records
log_kept (Some (Logged count)) None shape steps step log lock entry before after recorded hold lock_is earlier_is entry_is is was records = absurd records
log_kept (Some (Here entries)) (Some (Logged m)) shape steps step log lock entry before after recorded hold lock_is earlier_is entry_is is was records = absurd records
log_kept (Some (Logged count)) (Some (Here now)) shape steps step log lock entry before after recorded hold lock_is earlier_is entry_is is was records = absurd records
log_kept (Some (Here entries)) (Some (Here now)) shape steps step log lock entry before after recorded hold lock_is earlier_is entry_is is was records =
    let same : on_buckets after ≡ on_buckets before = ap on_buckets records.2 ∙ (bucket_behind before (recorded_step lock (length entries.value)) false was.1.0 ∙ append_nil (on_buckets before)) in
    let more = log_more shape steps (step ∷ []) before log is in
    subst (IsLogOf shape (steps ++ step ∷ []) after) (sym records.3) record { steps_are = is.steps_are ∙ sym same; turns = more.turns }
log_kept (Some (Logged count)) (Some (Logged m)) shape steps step log lock entry before after recorded hold lock_is earlier_is entry_is is was records =
    let by = records.1 in
    let turn = by.turn in
    let more = log_more shape steps (step ∷ []) before log is in
    let count_is : length hold.log ≡ count = sym was.1.1 in
    let steps_are : map step_logged (log ++ turn ∷ []) ≡ on_buckets after =
    map-append step_logged log (turn ∷ [])
    ∙ ((λ i. is.steps_are i ++ record { lock = sym by.lock_is i; index = by.index_is i } ∷ [])
    ∙ sym (ap on_buckets by.after_is ∙ bucket_behind before (recorded_step lock count) true was.1.0)) in
    let its : IsTurnOf shape (steps ++ step ∷ []) turn = record {
      number = length steps;
      step = step;
      there = got_last steps step;
      lock_is = lock_is ∙ by.lock_is;
      place_is = ap length earlier_is ∙ (count_is ∙ sym by.index_is);
      entry_is = entry_is records.0 ∙ sym by.entry_is;
    } in
    subst (IsLogOf shape (steps ++ step ∷ []) after) (sym by.log_is) record {
      steps_are = steps_are;
      turns = All-append (IsTurnOf shape (steps ++ step ∷ [])) log (turn ∷ []) more.turns (All-cons (IsTurnOf shape (steps ++ step ∷ [])) turn [] its (All-nil (IsTurnOf shape (steps ++ step ∷ []))));
    }

-- the log of a strand that has one turn more
pub log_given : (history : Option SlotTurns) (shape : Shape) (steps : List Turned) (step : Turned) (log : List LoggedTurn) (lock : DomainId) (entry : Entry) (before after : List StrandStep) (recorded : Recorded) (hold : Hold) → lock_named shape step.lock ≡ lock → step.earlier ≡ hold.log → (recorded.lost ≡ None → step.entry ≡ entry)
    → IsLogOf shape steps before log → IsHeldHistory lock hold history → Records history log lock entry before after recorded → IsLogOf shape (steps ++ step ∷ []) after recorded.log
log_given history shape steps step log lock entry before after recorded hold lock_is earlier_is entry_is is was records =
    ⊎_elim
    (λ (gone : IsLost log entry before after recorded).
    subst (λ (z : List StrandStep × List LoggedTurn). IsLogOf shape (steps ++ step ∷ []) z.0 z.1) (λ i. (sym gone.2 i, sym gone.3 i)) (log_more shape steps (step ∷ []) before log is))
    (λ (kept : RecordsIn history log recorded.history lock entry before after recorded). log_kept history recorded.history shape steps step log lock entry before after recorded hold lock_is earlier_is entry_is is was kept)
    records

-- where it is recorded, the entry has its number
pub number_recorded : (history : Option SlotTurns) (log : List LoggedTurn) (lock : DomainId) (v : View) (entry : Entry) (before after : List StrandStep) (recorded : Recorded) → MatchOption history (Unit {0}) (λ _. v.ticket ≡ Drawn entry.ticket) → Records history log lock entry before after recorded → recorded.lost ≡ None → numbered_entry v entry ≡ entry
number_recorded history log lock v entry before after recorded drawn records none =
    ⊎_elim
    (λ (gone : IsLost log entry before after recorded). absurd (none_some (sym none ∙ gone.1)))
    (λ (kept : RecordsIn history log recorded.history lock entry before after recorded). go history drawn kept)
    records
  where
    go : (history : Option SlotTurns) → MatchOption history (Unit {0}) (λ _. v.ticket ≡ Drawn entry.ticket) → RecordsIn history log recorded.history lock entry before after recorded → numbered_entry v entry ≡ entry
    go None drawn kept = absurd kept
    go (Some turns) drawn kept = number_is v entry drawn
