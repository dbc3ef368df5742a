-- The pass into which those of workers are joined, one after another.
use Rattle.std.specs.Prelude.{◌≡◌, ℕ, ◌<◌, ◌≤◌, ◌==◌, true, false, List, [], ◌∷◌, ◌++◌, filter, length, map, None, if◌then◌else◌}
use Rattle.std.specs.List.{range_with_len}
use Rattle.map_types.specs.declared.call.Call.{Call}
use Rattle.map_types.specs.declared.reply.Reply.{Reply}
use Rattle.place_words.specs.declared.history.StrandStep.{StrandStep}
use Rattle.place_words.specs.Tickets.{AscendIn}
use Rattle.place_table.specs.declared.view.Ended.{Ended}
use Rattle.place_table.specs.declared.view.Turned.{Turned}
use Rattle.place_table.specs.declared.view.WordStep.{WordStep}
use Rattle.place_table.specs.Calls.{element_of}
use Rattle.place_table.specs.Passes.{PassView, TableView, IsInNoCall, IsKeptOf, IsPassOf, spare_of}
use Rattle.place_table.specs.Tickets.{turn_tickets}
use Rattle.place_table.specs.Views.{is_among, all_strands, next}
use Rattle.file_order.specs.Replies.{count_of, replies_by}
use Rattle.run_records.specs.Work.{AreCallsBy, has_turn}
use Rattle.map_run.specs.declared.worker.Worker.{Worker}

-- the replies of each of some workers
abbrev pub told_by : List Worker → List (List Reply)
told_by workers = map (λ (worker : Worker). worker.replies) workers

-- what a worker did: its turns, those of them that are recorded, and its steps on words
abbrev pub Did : Type 0
Did = List Turned × List StrandStep × List WordStep

-- What the pass that has a CPU tells of its worker: the turns and those recorded, and the replies.
abbrev pub WorkIs : TableView → ℕ → List Call → PassView → PassView → ℕ → Did → List Reply → Type 0
WorkIs t number calls start p cpu did own =
    IsKeptOf t.shape did.0 [] did.1 × (length own ≡ count_of cpu calls) × AscendIn (next start.view) (turn_tickets did.0) (next p.view)
    × (p.view.lost ≡ [] → AreCallsBy t.shape cpu number calls (element_of (spare_of cpu start.spares)) (element_of (spare_of cpu p.spares)) own did.0)

-- the strand of a CPU whose worker did this
abbrev pub strand_did : (ℕ → Did) → ℕ → Ended
strand_did did cpu = record { cpus = cpu ∷ []; steps = (did cpu).0; kept = (did cpu).1; touched = (did cpu).2 }

-- the strands with a turn that were there at the start come with the pass of CPU 0
abbrev pub strands_before : ℕ → PassView → List Ended
strands_before n start = if n == 0 then [] else filter has_turn (all_strands start.view)

-- The pass into which those of the workers of the CPUs below n were joined, in their order, with the replies of each.
pub record HaveJoined (t : TableView) (number : ℕ) (calls : List Call) (start : PassView) (n : ℕ) (p : PassView) (replies : List (List Reply)) (counts : List ℕ) : Type 0 where
  pub of_table : IsPassOf t p
  pub in_no_call : IsInNoCall p
  pub here : (cpu : ℕ) → cpu < n → is_among cpu p.view.cpus ≡ true
  pub gone : (cpu : ℕ) → n ≤ cpu → cpu < t.shape.cpus → is_among cpu p.view.cpus ≡ false
  pub spares_gone : (cpu : ℕ) → n ≤ cpu → cpu < t.shape.cpus → spare_of cpu p.spares ≡ None
  pub did : ℕ → Did
  pub strands : filter has_turn (all_strands p.view) ≡ strands_before n start ++ filter has_turn (map (strand_did did) (range_with_len 0 n))
  pub no_steps : 0 < n → (p.view.steps ≡ []) × (p.view.kept ≡ [])
  pub next_is : next start.view ≤ next p.view
  pub refused : start.view.refused ≤ p.view.refused
  pub lost : p.view.lost ≡ [] → start.view.lost ≡ []
  pub beyond : (cpu : ℕ) → t.shape.cpus ≤ cpu → spare_of cpu p.spares ≡ spare_of cpu start.spares
  pub workers : length replies ≡ n
  pub counts_are : counts ≡ map (λ cpu. length (did cpu).1) (range_with_len 0 n)
  pub each : (cpu : ℕ) → cpu < n → WorkIs t number calls start p cpu (did cpu) (replies_by cpu replies)
