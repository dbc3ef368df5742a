-- What the workers of a race did: each the calls of its CPU, one after another, each call with its turns and its reply.
use Rattle.std.specs.Prelude.{◌≡◌, ℕ, suc, ◌+◌, ◌<◌, ◌≤◌, ◌==◌, Bool, not, MatchBool, All, List, [], ◌∷◌, ◌++◌, length, map, filter, Option}
use Rattle.std.specs.List.{range_with_len}
use Rattle.map_types.specs.declared.attr.Shape.{Shape}
use Rattle.map_types.specs.declared.call.Call.{Call}
use Rattle.map_types.specs.declared.reply.Reply.{Reply}
use Rattle.place_words.specs.declared.history.StrandStep.{StrandStep}
use Rattle.place_words.specs.Tickets.{AscendIn}
use Rattle.place_words.specs.Traces.{IsTrace}
use Rattle.place_words.specs.Walks.{spare_left}
use Rattle.place_table.specs.declared.view.Turned.{Turned}
use Rattle.place_table.specs.declared.view.WordStep.{WordStep}
use Rattle.place_table.specs.declared.view.Ended.{Ended}
use Rattle.place_table.specs.Known.{turn_at, IsBy}
use Rattle.place_table.specs.Passes.{TableView, PassView, IsPassOf, IsInNoCall, IsKeptOf, SparesDiffer, spare_of}
use Rattle.place_table.specs.Tickets.{turn_tickets}
use Rattle.place_table.specs.Views.{all_strands, next}
use Rattle.place_table.specs.Calls.{element_of}
use Rattle.map_report.specs.Record.{MayAnswer}
use Rattle.file_order.specs.Replies.{count_of, replies_of}
use Rattle.run_records.specs.ByLogs.{IsOfMap}
use Rattle.run_records.specs.Phased.{IsWhole}

-- A call of this number: its turns were made by its CPU in it, under locks of the map, and each after the turns of its lock before
-- it they are a trace of it with the reply, by the spare that its CPU had.
pub record IsCallBy (shape : Shape) (number : ℕ) (call : Call) (spare : Option ℕ) (reply : Reply) (steps : List Turned) : Type 0 where
  pub by_call : All (IsBy call.cpu number) steps
  pub of_map : All (IsOfMap shape) steps
  pub trace : IsTrace shape call.cpu spare call.verb (map (turn_at shape) steps) reply
  pub answers : MayAnswer shape call.verb reply

-- The calls of one CPU among these, in their order. They have numbers from the first one's on.
abbrev pub AreCallsBy : Shape → ℕ → ℕ → List Call → Option ℕ → Option ℕ → List Reply → List Turned → Type 0
AreCallsBy shape cpu number [] spare last replies steps = (replies ≡ []) × (steps ≡ []) × (last ≡ spare)
AreCallsBy shape cpu number (call ∷ calls) spare last replies steps =
    MatchBool (call.cpu == cpu)
    ((mine : List Turned) × (rest : List Turned) × (reply : Reply) × (more : List Reply) × (steps ≡ mine ++ rest) × (replies ≡ reply ∷ more)
    × IsCallBy shape number call spare reply mine
    × AreCallsBy shape cpu (suc number) calls (spare_left shape spare (map (turn_at shape) mine)) last more rest)
    (AreCallsBy shape cpu (suc number) calls spare last replies steps)

-- whether a strand has a turn or a recorded step
abbrev pub has_turn : Ended → Bool
has_turn strand = not (length strand.steps + length strand.kept == 0)

-- What a pass did since some moment: it has made the calls of a CPU among these, which have numbers from the first one's on, and is
-- between two of them. Its strand has their turns more, of which all or some are recorded. Nothing is said of what it did where the
-- record of a lock is lost.
pub record HasWorked (t : TableView) (cpu number : ℕ) (calls : List Call) (start p : PassView) (replies : List Reply) : Type 0 where
  pub of_table : IsPassOf t p
  pub cpus : p.view.cpus ≡ start.view.cpus
  pub in_no_call : IsInNoCall p
  pub other_spares : SparesDiffer cpu start.spares p.spares
  pub ended : p.view.ended ≡ start.view.ended
  pub made : List Turned
  pub steps : p.view.steps ≡ start.view.steps ++ made
  pub kept : IsKeptOf t.shape made start.view.kept p.view.kept
  -- their numbers
  pub tickets : AscendIn (next start.view) (turn_tickets made) (next p.view)
  pub refused : start.view.refused ≤ p.view.refused
  pub lost : p.view.lost ≡ [] → start.view.lost ≡ []
  pub counted : length replies ≡ count_of cpu calls
  pub calls_are : p.view.lost ≡ [] → AreCallsBy t.shape cpu number calls (element_of (spare_of cpu start.spares)) (element_of (spare_of cpu p.spares)) replies made

-- What the workers of a phase did, one for each CPU, whose passes were split off the one that was there at its start and were joined
-- again: the strands with a turn are those that were there and those of the workers, at most one for each CPU, in the order of the
-- CPUs. Nothing is said of what they did where the record of a lock is lost.
pub record HaveRaced (t : TableView) (number : ℕ) (calls : List Call) (start p : PassView) (replies : List Reply) (counts : List ℕ) : Type 0 where
  pub whole : IsWhole t p
  -- of a CPU: the turns of its worker, the steps that are recorded of them, and its steps on words
  pub turns : ℕ → List Turned
  pub kept : ℕ → List StrandStep
  pub touched : ℕ → List WordStep
  pub strands : filter has_turn (all_strands p.view)
      ≡ filter has_turn (all_strands start.view) ++ filter has_turn (map (λ cpu. record { cpus = cpu ∷ []; steps = turns cpu; kept = kept cpu; touched = touched cpu }) (range_with_len 0 t.shape.cpus))
  pub no_steps : (p.view.steps ≡ []) × (p.view.kept ≡ [])
  pub are_kept : (cpu : ℕ) → cpu < t.shape.cpus → IsKeptOf t.shape (turns cpu) [] (kept cpu)
  pub counts_are : counts ≡ map (λ cpu. length (kept cpu)) (range_with_len 0 t.shape.cpus)
  pub next_is : next start.view ≤ next p.view
  pub tickets : (cpu : ℕ) → cpu < t.shape.cpus → AscendIn (next start.view) (turn_tickets (turns cpu)) (next p.view)
  pub refused : start.view.refused ≤ p.view.refused
  pub lost : p.view.lost ≡ [] → start.view.lost ≡ []
  -- what is kept for CPUs that the map doesn't have stays
  pub beyond : (cpu : ℕ) → t.shape.cpus ≤ cpu → spare_of cpu p.spares ≡ spare_of cpu start.spares
  pub counted : length replies ≡ length calls
  pub calls_are : p.view.lost ≡ [] → (cpu : ℕ) → cpu < t.shape.cpus
      → AreCallsBy t.shape cpu number calls (element_of (spare_of cpu start.spares)) (element_of (spare_of cpu p.spares)) (replies_of cpu calls replies) (turns cpu)
