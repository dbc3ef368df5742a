-- The workers of a phase: how their passes are split off the one that has all CPUs, and joined again.
use Rattle.std.specs.Prelude.{◌≡◌, ◌≢◌, ℕ, suc, ◌<◌, ◌≤◌, ◌==◌, true, false, List, [], ◌∷◌, filter, length, None, if◌then◌else◌}
use Rattle.map_types.specs.declared.call.Call.{Call}
use Rattle.place_table.specs.Passes.{TableView, PassView, IsPassOf, IsInNoCall, spare_of}
use Rattle.place_table.specs.Views.{is_among, all_strands}
use Rattle.map_run.specs.declared.worker.Worker.{Worker}
use Rattle.run_records.specs.Work.{HasWorked, has_turn}

-- The pass of a CPU as it was split off: it has the CPU's spare and a new strand. The first one has the strands that were there before.
pub record IsSplitOff (t : TableView) (start : PassView) (cpu : ℕ) (off : PassView) : Type 0 where
  pub of_table : IsPassOf t off
  pub one_cpu : off.view.cpus ≡ cpu ∷ []
  pub in_no_call : IsInNoCall off
  pub spare : spare_of cpu off.spares ≡ spare_of cpu start.spares
  pub no_others : (other : ℕ) → other ≢ cpu → spare_of other off.spares ≡ None
  pub ended : filter has_turn off.view.ended ≡ (if cpu == 0 then filter has_turn (all_strands start.view) else [])
  pub no_steps : (off.view.steps ≡ []) × (off.view.kept ≡ [])
  pub reached : off.view.reached ≡ start.view.reached
  pub refused : off.view.refused ≡ start.view.refused
  pub lost : off.view.lost ≡ start.view.lost

-- a worker that made no call yet, whose pass has its CPU
pub record IsReady (t : TableView) (worker : Worker) : Type 0 where
  pub of_table : IsPassOf t worker.pass
  pub has_cpu : is_among worker.cpu worker.pass.view.cpus ≡ true
  pub in_no_call : IsInNoCall worker.pass
  pub none : worker.replies ≡ []

-- workers of the CPUs from this one on, which made no call yet
abbrev pub AreSplitOff : TableView → PassView → ℕ → List Worker → Type 0
AreSplitOff t start cpu [] = Unit {0}
AreSplitOff t start cpu (worker ∷ workers) =
    (worker.cpu ≡ cpu) × IsSplitOff t start cpu worker.pass × (worker.replies ≡ []) × AreSplitOff t start (suc cpu) workers

-- a worker before and after its calls of these, unless it failed
abbrev pub HasDone : TableView → ℕ → List Call → Worker → Worker → Type 0
HasDone t number calls before after =
    (after.cpu ≡ before.cpu) × (after.failed ≡ false → HasWorked t before.cpu number calls before.pass after.pass after.replies)

-- workers before and after their calls of these
abbrev pub HaveDone : TableView → ℕ → List Call → List Worker → List Worker → Type 0
HaveDone t number calls [] [] = Unit {0}
HaveDone t number calls [] (after ∷ others) = ⊥
HaveDone t number calls (before ∷ workers) [] = ⊥
HaveDone t number calls (before ∷ workers) (after ∷ others) =
    (after.cpu ≡ before.cpu) × HasWorked t before.cpu number calls before.pass after.pass after.replies × HaveDone t number calls workers others

-- The pass that was there at the start of the phase, from which the CPUs below n were split off.
pub record HasSplit (t : TableView) (start : PassView) (n : ℕ) (p : PassView) : Type 0 where
  pub of_table : IsPassOf t p
  pub in_no_call : IsInNoCall p
  pub gone : (cpu : ℕ) → cpu < n → is_among cpu p.view.cpus ≡ false
  pub here : (cpu : ℕ) → n ≤ cpu → cpu < t.shape.cpus → is_among cpu p.view.cpus ≡ true
  pub spares_gone : (cpu : ℕ) → cpu < n → spare_of cpu p.spares ≡ None
  pub spares : (cpu : ℕ) → n ≤ cpu → spare_of cpu p.spares ≡ spare_of cpu start.spares
  pub strands : filter has_turn (all_strands p.view) ≡ (if n == 0 then filter has_turn (all_strands start.view) else [])
  pub reached : p.view.reached ≡ start.view.reached
  pub refused : p.view.refused ≡ start.view.refused
  pub lost : p.view.lost ≡ start.view.lost

-- The workers of a phase have made their calls: their passes were split off one for each CPU, and this is what was left of it.
pub record HaveEnded (t : TableView) (number : ℕ) (calls : List Call) (start p : PassView) (workers : List Worker) : Type 0 where
  pub split : HasSplit t start t.shape.cpus p
  pub before : List Worker
  pub off : AreSplitOff t start 0 before
  pub done : HaveDone t number calls before workers
  pub count : length workers ≡ t.shape.cpus
