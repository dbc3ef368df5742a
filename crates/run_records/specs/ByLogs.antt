-- What a pass knows while a run in serial order goes on, told by the logs of the locks.
use Rattle.std.specs.Prelude.{◌≡◌, ℕ, ◌<◌, true, IsTrue, All, List, [], ◌++◌, map, Some}
use Rattle.map_types.specs.declared.attr.Shape.{Shape}
use Rattle.map_types.specs.declared.call.Call.{Call}
use Rattle.map_types.specs.declared.reply.Reply.{Reply}
use Rattle.place_words.specs.declared.history.StrandStep.{StrandStep}
use Rattle.place_words.specs.Locks.{is_lock, lock_count, lock_named}
use Rattle.place_words.specs.Logs.{State, new_state, run, answers}
use Rattle.place_table.specs.declared.view.Ended.{Ended}
use Rattle.place_table.specs.declared.view.Turned.{Turned}
use Rattle.place_table.specs.declared.view.View.{View}
use Rattle.place_table.specs.Calls.{element_of}
use Rattle.place_table.specs.Known.{KnowsAll}
use Rattle.place_table.specs.Passes.{PassView, TableView, spare_of, IsInNoCall, IsKeptOf, IsPassOf}
use Rattle.place_table.specs.Views.{is_among, bit_seen, place_of, kept_step, next}
use Rattle.map_report.specs.Runs.{steps_of_calls}

-- a turn of a lock of the map
abbrev pub IsOfMap : Shape → Turned → Type 0
IsOfMap shape step = (step.lock < lock_count shape) × IsTrue (is_lock shape (lock_named shape step.lock))

-- What a pass with all CPUs knows where a run has come to a state: the turns of each lock of the map are those of its log, and the
-- bit of each element is what it is there. Its strand has these steps, each of a lock of the map.
pub record KnowsState (shape : Shape) (state : State) (steps : List StrandStep) (v : View) : Type 0 where
  pub knows : KnowsAll shape (λ k. state.logs (lock_named shape k)) v
  pub bits : (e : ℕ) → e < shape.elements → bit_seen e v.bits ≡ Some (state.bits e)
  -- the number of its next turn is how many turns were made
  pub counted : next v ≡ state.next_ticket
  pub steps_are : map (λ (step : Turned). kept_step shape step.lock (place_of step)) v.steps ≡ steps
  pub real : All (IsOfMap shape) v.steps

-- Where a run goes on from: the number of its first call, what is known of the map, the steps of the pass's strand so far, and the
-- strands that had ended before.
pub record RunStart : Type 0 where
  pub number : ℕ
  pub state : State
  pub steps : List StrandStep
  pub ended : List Ended

-- a table's opening
abbrev pub at_opening : Shape → RunStart
at_opening shape = record { number = 1; state = new_state shape; steps = []; ended = [] }

-- These calls were run from there on, and answered so, on a pass that has all CPUs and is in no call. It has one strand beside those
-- that had ended, and of its turns, in order, some or all are recorded. Nothing is said of what the calls did and answered, nor of the
-- spares that it keeps, where the pass knows that the record of a lock is lost.
pub record HaveRunFrom (t : TableView) (from : RunStart) (calls : List Call) (p : PassView) (replies : List Reply) : Type 0 where
  pub of_table : IsPassOf t p
  pub all_cpus : (cpu : ℕ) → cpu < t.shape.cpus → is_among cpu p.view.cpus ≡ true
  pub in_no_call : IsInNoCall p
  pub ended : p.view.ended ≡ from.ended
  pub kept : IsKeptOf t.shape p.view.steps [] p.view.kept
  pub knows : p.view.lost ≡ [] → KnowsState t.shape (run t.shape from.number calls from.state) (from.steps ++ steps_of_calls t.shape from.number calls from.state) p.view
  pub spares : p.view.lost ≡ [] → (cpu : ℕ) → element_of (spare_of cpu p.spares) ≡ (run t.shape from.number calls from.state).spares cpu
  pub answered : p.view.lost ≡ [] → replies ≡ answers t.shape from.number calls from.state

-- from the table's opening on
abbrev pub HaveRun : TableView → List Call → PassView → List Reply → Type 0
HaveRun t calls p replies = HaveRunFrom t (at_opening t.shape) calls p replies
