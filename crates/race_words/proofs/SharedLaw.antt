-- The record of a race of a map whose CPUs share lists is one of a run of the core, where nests stand apart and what probes saw in hands was
-- there.
use Rattle.std.proofs.Common.{◌≡◌, ℕ, Bool, false, true, cond, ltb, ◌/◌, List, [], length, Option, None, Some, refl, subst}
use Rattle.std.specs.Prelude.{IsTrue}
use Rattle.map_types.specs.declared.attr.Shape.{Shape}
use Rattle.map_types.specs.declared.kind.DomainId.TheVariants.{Global, CpuLru}
use Rattle.map_types.specs.Kind.{is_lru}
use Rattle.map_types.specs.Shape.{HasBounds}
use Rattle.map_script.specs.declared.script.Script.{Script}
use Rattle.place_words.specs.declared.home.Home.{Home}
use Rattle.place_words.specs.declared.home.Home.TheVariants as homes
use Rattle.place_words.specs.Histories.{opening_content}
use Rattle.place_words.specs.Interleaving.{Drawn, AreEnabled, CoreRun}
use Rattle.place_words.specs.OpeningState.{opening, opening_home}
use Rattle.map_report.specs.declared.record.RunRecord.{RunRecord}
use Rattle.map_report.specs.Record.{IsRecord, StartsRise}
use Rattle.turn_order.specs.Ordered.{ordered}
use Rattle.turn_order.proofs.FirstEvents.{to_all}
use Rattle.turn_order.proofs.LockOrder.{in_history}
use Rattle.core_runs.specs.SharedRaces.{at_rest}
use Rattle.core_runs.specs.Words.{words_of}
use Rattle.step_check.proofs.Begun.{held_first}
use Rattle.step_check.proofs.HeldRanks.{one_first}
use Rattle.step_check.proofs.InRecords.{allow_along, are_in_order, cpu_within, on_locks, run_of_ordered}
use Rattle.step_check.proofs.LockSorts.{sorts_first}
use Rattle.step_check.proofs.RecordLocks.{record_once, record_apart}
use Rattle.step_check.proofs.SharedDecided.{stands_first}
use Rattle.step_check.proofs.SharedNests.{idle}
use Rattle.step_check.proofs.SharedStart.{cpu_of_call, by_cpu, all_nested, owns_all, at_first}
use Rattle.turn_order.specs.Nests.{NestsApart}
use Rattle.race_words.specs.Nests.{LooksRight, words_to}
use Rattle.race_words.specs.RaceLaws.{SharedRacesRun}
use Rattle.race_words.proofs.Inner.{AreOpen, are_open, ascend_own}
use Rattle.race_words.proofs.ListHands.{resting}
use Rattle.race_words.proofs.ListTogether.{CountsAlong, counts_along, lists_together}
use Rattle.race_words.proofs.OwnLaw.{looks_from, none_in, sees_of}
use Rattle.race_words.proofs.OwnRuns.{LooksAlong}
use Rattle.race_words.proofs.Phases.{calls_rise, stands_among}
use Rattle.race_words.proofs.PlainLaw.{by_cpus, turns_ascend}
use Rattle.race_words.proofs.SharedRuns.{loads_of, shared_goes}
use Rattle.race_words.proofs.SharedWords.{Carrying}
use Rattle.race_words.proofs.Taken.{holding_none}
use Rattle.race_words.proofs.Together.{nests_apart}

-- At the opening nothing is carried.
none_carried : (shape : Shape) → IsTrue shape.common → Carrying shape (loads_of (λ c. resting)) (words_of (opening shape))
unfolding opening opening_home
none_carried shape common = record {
  carried = λ c e is. absurd (let both : (◌≡◌ {A = Option ℕ} None (Some e)) = is in cc);
  only = λ c e real home. absurd (at_home shape.common common (ltb e shape.elements) (cond (is_lru shape.kind) (homes.In (CpuLru (e / (shape.elements / shape.cpus)))) homes.Unlisted) c home);
}
  where
    at_home : (b : Bool) → b ≡ true → (r : Bool) (h : Home) (c : ℕ) → cond r (cond b (homes.In Global) h) homes.Unlisted ≡ homes.Hand c → ⊥
    at_home true is true h c home = absurd cc
    at_home true is false h c home = absurd cc
    at_home false is r h c home = absurd cc

module _ (script : Script) (kept : RunRecord) (record_is : IsRecord script kept) (rise : StartsRise kept) (bounds : HasBounds script.shape) (lru : is_lru script.shape.kind ≡ true) (common : IsTrue script.shape.common) (nests : NestsApart kept.histories)
    (looks : LooksRight script.shape kept.histories) where
  abbrev turns : List Drawn
  turns = ordered kept.histories

  counts : CountsAlong (λ c e. 0) (λ c. resting) turns
  counts = counts_along script.shape lru turns (are_in_order script kept record_is) (calls_rise script kept record_is rise)

  all_open : AreOpen turns
  all_open =
      are_open turns
      (lists_together script.shape lru turns (opening_content script.shape) (sorts_first script.shape) (on_locks script kept record_is) (allow_along script kept record_is) (calls_rise script kept record_is rise) (λ c e. 0) (λ c. resting) counts)
      (turns_ascend script kept record_is) (calls_rise script kept record_is rise)
      (nests_apart kept.histories nests (turns_ascend script kept record_is) (λ z at. in_history kept.histories (record_once script kept record_is) (record_apart script kept record_is) z (stands_among z turns at)))

  looks_right : LooksAlong script.shape (opening_content script.shape) [] (words_of (opening script.shape)) turns
  looks_right = looks_from script.shape turns (opening_content script.shape) [] (words_of (opening script.shape)) (λ before x later is. sees_of (words_to script.shape kept.histories (length before)) x.entry.part (looks before x later is))

  pub shared_run : CoreRun script.shape kept.histories
  unfolding opening
  shared_run =
      let in_order = are_in_order script kept record_is in
      run_of_ordered script kept record_is
      (subst (AreEnabled script.shape (opening script.shape)) (to_all script.shape (opening_content script.shape) [] turns)
      (shared_goes bounds lru common (cpu_of_call turns) (length turns) turns [] (opening_content script.shape) at_rest [] (λ number. idle) (λ c e. 0) (λ c. resting) (opening script.shape)
      (stands_first bounds) (held_first script.shape (words_of (opening script.shape)) turns) (one_first script.shape) (on_locks script kept record_is) (allow_along script kept record_is) (ascend_own turns (turns_ascend script kept record_is))
      (by_cpu script.shape turns in_order) (owns_all script.shape lru common turns in_order)
      (at_first script.shape bounds lru common (cpu_of_call turns) turns (all_nested script.shape lru common turns in_order))
      all_open (by_cpus script.shape turns (cpu_within script kept record_is)) counts looks_right (holding_none script.shape (words_of (opening script.shape)) turns (λ k. refl))
      (none_in script.shape (words_of (opening script.shape))) (none_carried script.shape common)))

pub shared_races_run : SharedRacesRun
shared_races_run script kept bounds lru common record_is rise nests looks = shared_run script kept record_is rise bounds lru common nests looks
