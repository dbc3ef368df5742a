-- The phases of a run: the calls of a script are cut into phases, and no call of a phase starts before each call of the phases
-- before it has ended. Where no call is under way, what a map holds is told by the entries whose tickets were drawn by then.
use Rattle.std.specs.Prelude.{◌≢◌, ℕ, zero, suc, ◌-◌, nat_lt, ◌==◌, ◌&&◌, not, List, [], ◌∷◌, ◌++◌, All, Option, Some, length, filter, take, drop, slice_index_or, if◌then◌else◌}
use Rattle.std.specs.List.{list_any}
use Rattle.map_types.specs.declared.attr.Shape.{Shape}
use Rattle.map_types.specs.declared.call.Call.{Call}
use Rattle.map_types.specs.declared.kind.DomainId.{DomainId}
use Rattle.map_types.specs.declared.refusal.Errno.TheVariants.{Enomem}
use Rattle.map_types.specs.declared.reply.Reply.{Reply}
use Rattle.map_types.specs.Replies.{error_of}
use Rattle.place_words.specs.declared.history.Entry.{Entry}
use Rattle.place_words.specs.declared.history.LockHistory.{LockHistory}
use Rattle.place_words.specs.Locks.{is_same_lock}
use Rattle.place_words.specs.Logs.{State, does, after_one, answers}
use Rattle.place_words.specs.Named.{entries_of}
use Rattle.place_words.specs.Turns.{Turn}

-- Which calls are in a phase

-- Calls are numbered from 1. A cut is the number of calls before the line that starts the next phase, so that as many cuts are
-- below a call's number as there are phases before its own. Cuts never fall.
abbrev pub phase_of : List ℕ → ℕ → ℕ
phase_of cuts number = length (filter (λ (cut : ℕ). nat_lt cut number) cuts)

-- one phase more than there are cuts
abbrev pub phase_count : List ℕ → ℕ
phase_count cuts = suc (length cuts)

-- how many calls stand before a phase, of so many calls in all
abbrev pub calls_before : List ℕ → ℕ → ℕ → ℕ
calls_before cuts all zero = 0
calls_before cuts all (suc p) = slice_index_or cuts p all

-- what belongs to the calls of a phase, of what belongs to each call in order: the calls themselves, or their replies
abbrev pub of_phase : {A : Type 0} → List ℕ → ℕ → List A → List A
of_phase cuts p each =
    let first : ℕ = calls_before cuts (length each) p in
    take (calls_before cuts (length each) (suc p) - first) (drop first each)

-- The entries of a moment

-- of a history the entries whose tickets are below a number, and those from one number on that are below another
abbrev pub drawn_before : ℕ → List Entry → List Entry
drawn_before to entries = filter (λ (entry : Entry). nat_lt entry.ticket to) entries

abbrev pub drawn_between : ℕ → ℕ → List Entry → List Entry
drawn_between from to entries = filter (λ (entry : Entry). not (nat_lt entry.ticket from) && nat_lt entry.ticket to) entries

-- The map at a moment when no call is under way: so many tickets were drawn, these elements have their bits set, and the CPUs have
-- these spares.
abbrev pub state_at : List LockHistory → ℕ → List ℕ → (ℕ → Option ℕ) → State
state_at histories ticket marked spares = record {
  next_ticket = ticket;
  logs = λ lock. drawn_before ticket (entries_of histories lock);
  bits = λ e. list_any (λ x. x == e) marked;
  spares = spares;
}

-- What calls add from a state on

-- the entries that turns of a CPU, in the call of some number, add to a lock's log, where the first turn has this ticket
abbrev pub added_by : ℕ → ℕ → List Turn → ℕ → DomainId → List Entry
added_by cpu number [] ticket lock = []
added_by cpu number (turn ∷ turns) ticket lock =
    if is_same_lock turn.lock lock then (record { ticket = ticket; cpu = cpu; call = number; part = turn.part }) ∷ added_by cpu number turns (suc ticket) lock
    else added_by cpu number turns (suc ticket) lock

-- the entries that calls add to a lock's log from a state on, where the first call has this number
abbrev pub added : Shape → ℕ → List Call → State → DomainId → List Entry
added shape number [] state lock = []
added shape number (call ∷ calls) state lock =
    added_by call.cpu number (does shape call.cpu number state call.verb).turns state.next_ticket lock ++ added shape (suc number) calls (after_one shape number call state) lock

-- none of these calls, run from this state, answers ENOMEM
abbrev pub GetsFrom : Shape → ℕ → List Call → State → Type 0
GetsFrom shape number calls state = All (λ (reply : Reply). error_of reply ≢ Some Enomem) (answers shape number calls state)
