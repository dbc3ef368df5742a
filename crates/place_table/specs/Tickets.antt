-- Tickets: each turn draws one from one word, unless it finds the word at 2^63 or more. So all turns that are recorded stand in one
-- order. What the rule says of them.
use Rattle.std.specs.Prelude.{◌≡◌, ◌⊎◌, ℕ, zero, suc, ◌+◌, ◌<◌, ◌≤◌, Bool, true, false, List, [], ◌∷◌, Option, None, Some, IsTrue, slice_get}
use mathlib.Core.Option.{some}
use lib.ListN.{get_elem?}
use Rattle.map_types.specs.declared.attr.Shape.{Shape}
use Rattle.map_types.specs.ElementLists.{one}
use Rattle.place_words.specs.declared.history.Entry.{Entry}
use Rattle.place_words.specs.Locks.{is_lock, lock_named, lock_count}
use Rattle.place_words.specs.Tickets.{AscendIn, tickets_of}
use Rattle.place_table.specs.declared.view.View.{View}
use Rattle.place_table.specs.declared.view.Hold.{Hold}
use Rattle.place_table.specs.declared.view.Turned.{Turned}
use Rattle.place_table.specs.declared.view.Ended.{Ended}
use Rattle.place_table.specs.declared.view.Ticket.{Ticket}
use Rattle.place_table.specs.declared.view.Ticket.TheVariants.{Unread, Drawing, Drawn, Refused}
use Rattle.place_table.specs.Words.{ticket_bound}
use Rattle.place_table.specs.Views.{reached_by, next}
use Rattle.place_table.specs.Nested.{log_held, AreNested, EachNested}

-- where a ticket stands: with the turn at a place of a lock's history, or with a CPU whose turn is under way
pub data Stand : Type 0 where
  in_log : ℕ → ℕ → Stand
  with_cpu : ℕ → Stand

-- the tickets of some turns of a strand
abbrev pub turn_tickets : List Turned → List ℕ
turn_tickets [] = []
turn_tickets (step ∷ steps) = step.entry.ticket ∷ turn_tickets steps

-- those of each strand ascend, and are below `to`
abbrev pub EachAscends : List Ended → ℕ → Type 0
EachAscends [] to = Unit {0}
EachAscends (strand ∷ strands) to = AscendIn 0 (turn_tickets strand.steps) to × EachAscends strands to

-- how many of the first n CPUs are about to draw
abbrev pub count_drawing : (ℕ → Bool) → ℕ → ℕ
count_drawing drawing zero = 0
count_drawing drawing (suc n) = one (drawing n) + count_drawing drawing n

-- no lock's record is lost
abbrev pub NoneLost : Shape → (ℕ → Bool) → Type 0
NoneLost shape lost = (k : ℕ) → k < lock_count shape → IsTrue (is_lock shape (lock_named shape k)) → lost k ≡ false

-- of the lock taken last: the CPU that holds it
pub record Inner : Type 0 where
  pub cpu : ℕ

abbrev pub innermost : List Hold → Option Inner
innermost [] = None
innermost (hold ∷ holds) = Some record { cpu = hold.cpu }

-- the turn of the lock taken last is under way
pub record IsUnderWay (v : View) : Type 0 where
  pub inner : Inner
  pub inner_is : innermost v.held ≡ Some inner

-- A view that is about to draw holds a lock, and so does one that has drawn: no other turn has its ticket. One that gets none knows
-- that the word is 2^63 or more.
abbrev pub TicketFits : ℕ → (ℕ → Bool) → (ℕ → Stand) → View → Ticket → Type 0
TicketFits word drawing stand v Unread = Unit {0}
TicketFits word drawing stand v Drawing = (turn : IsUnderWay v) × (v.reached < ticket_bound) × (drawing turn.inner.cpu ≡ true)
TicketFits word drawing stand v (Drawn t) = (turn : IsUnderWay v) × (v.reached < ticket_bound) × (v.reached ≤ t) × (t < word) × (stand t ≡ with_cpu turn.inner.cpu)
TicketFits word drawing stand v Refused = ticket_bound ≤ v.reached

-- the ticket word was read: a ticket was drawn, or there was none to be had
abbrev pub IsTaken : Ticket → Type 0
IsTaken (Drawn t) = Unit {0}
IsTaken Refused = Unit {0}
IsTaken ticket = ⊥

-- it was read for the turn of the lock taken last
abbrev pub IsRead : Ticket → Type 0
IsRead Unread = ⊥
IsRead Drawing = Unit {0}
IsRead (Drawn t) = Unit {0}
IsRead Refused = Unit {0}

-- Each view knows a number that the ticket word has reached. Once the word was read for a turn, the turns before of each lock that is
-- held, the record of which isn't lost, have tickets below that. The numbers of the turns of each strand ascend, and are below the next
-- one; and turns are nested as their locks were held.
pub record KnowsTickets (shape : Shape) (word : ℕ) (lost drawing : ℕ → Bool) (stand : ℕ → Stand) (v : View) : Type 0 where
  pub reached : v.reached ≤ word
  pub refused : (v.refused ≡ 0) ⊎ (ticket_bound ≤ v.reached)
  pub all_drawn : NoneLost shape lost → v.refused ≡ 0
  pub strand : AscendIn 0 (turn_tickets v.steps) (next v)
  pub ended : EachAscends v.ended (next v)
  pub ticket : TicketFits word drawing stand v v.ticket
  pub below : IsRead v.ticket → (k : ℕ) (log : List Entry) → log_held k v.held ≡ Some log → lost k ≡ false → AscendIn 0 (tickets_of log) v.reached
  pub nested : AreNested shape lost v.steps v.held
  pub ended_nested : EachNested shape lost v.ended

-- the turn of a CPU that has this ticket is under way
pub record IsOut (pass_of_cpu : ℕ → ℕ) (views : List View) (t cpu : ℕ) : Type 0 where
  pub view : View
  pub inner : Inner
  pub seat : get_elem? views (pass_of_cpu cpu) ≡ some view
  pub inner_is : innermost view.held ≡ Some inner
  pub cpu_is : inner.cpu ≡ cpu
  pub drawn : view.ticket ≡ Drawn t

-- Some pass that has a CPU knows what the ticket word is; so a pass with all CPUs does.
pub record IsNewest (cpus word : ℕ) (pass_of_cpu : ℕ → ℕ) (views : List View) : Type 0 where
  pub cpu : ℕ
  pub within : cpu < cpus
  pub view : View
  pub seat : get_elem? views (pass_of_cpu cpu) ≡ some view
  pub reached : reached_by view.ticket view.reached ≡ word

-- the turn at a place of a lock of the map has this ticket
pub record IsInLog (shape : Shape) (log : ℕ → List Entry) (t k place : ℕ) : Type 0 where
  pub below : k < lock_count shape
  pub there : IsTrue (is_lock shape (lock_named shape k))
  pub entry : Entry
  pub at : slice_get (log k) place ≡ Some entry
  pub ticket_is : entry.ticket ≡ t

abbrev pub IsAt : Shape → (ℕ → List Entry) → (ℕ → ℕ) → List View → ℕ → Stand → Type 0
IsAt shape log pass_of_cpu views t (in_log k place) = IsInLog shape log t k place
IsAt shape log pass_of_cpu views t (with_cpu cpu) = IsOut pass_of_cpu views t cpu

-- The ticket word counts the tickets drawn. It never falls: each step leaves it, or adds 1 to it (`TicketIsNoStep`). No ticket stands
-- twice among the turns that are recorded and those under way, and each is below the word. Where no record is lost, each number below
-- the word stands there. The word and the number of CPUs for whose turns passes are about to draw add up to at most 2^63 + 15.
pub record Tickets (shape : Shape) (word : ℕ) (log : ℕ → List Entry) (lost : ℕ → Bool) (pass_of_cpu : ℕ → ℕ) (views : List View) : Type 0 where
  -- of a CPU, true where its pass is about to draw for its turn; of a ticket, where it stands
  pub drawing : ℕ → Bool
  pub stand : ℕ → Stand
  pub bounded : word + count_drawing drawing shape.cpus ≤ ticket_bound + 15
  pub stands : (k place : ℕ) (entry : Entry) → lost k ≡ false → slice_get (log k) place ≡ Some entry → stand entry.ticket ≡ in_log k place
  pub ascend : (k : ℕ) → lost k ≡ false → AscendIn 0 (tickets_of (log k)) word
  pub filled : NoneLost shape lost → (t : ℕ) → t < word → IsAt shape log pass_of_cpu views t (stand t)
  pub known : (pass : ℕ) (v : View) → get_elem? views pass ≡ some v → KnowsTickets shape word lost drawing stand v
  pub newest : IsNewest shape.cpus word pass_of_cpu views
