-- How great the moments of entries are that fit a script.
use Rattle.std.proofs.Common.{◌*◌, ◌<◌, List, length, arith}
use Rattle.std.specs.Prelude.{All}
use Rattle.map_types.specs.declared.kind.DomainId.{DomainId}
use Rattle.map_script.specs.declared.script.Script.{Script}
use Rattle.map_script.specs.WellFormed.{IsWellFormed}
use Rattle.place_words.specs.declared.history.Entry.{Entry}
use Rattle.place_words.specs.declared.history.LockHistory.{LockHistory}
use Rattle.place_words.specs.Phases.{phase_of}
use Rattle.record_shape.specs.Fits.{AllFit}
use Rattle.record_shape.specs.ShapedParts.{EntryFits}
use Rattle.record_shape.specs.WellShaped.{HistoryFits}
use Rattle.turn_order.proofs.Members.{all_among}
use Rattle.call_check.specs.RightCalls.{moment_of, ticket_bound}
use Rattle.call_check.proofs.KnownTurns.{fit_member}
use Rattle.call_check.proofs.LastSpares.{few_calls}
use Rattle.call_check.proofs.PhaseCalls.{number_phase}
use Rattle.call_check.proofs.PhaseMoments.{below_by_first}

module _ (script : Script) (formed : IsWellFormed script) where
  ticket_low : (lock : DomainId) (entry : Entry) → EntryFits script.shape (length script.calls) lock entry → entry.ticket < ticket_bound
  unfolding ticket_bound
  ticket_low lock entry fit = fit.ticket

  moment_low : (lock : DomainId) (entry : Entry) → EntryFits script.shape (length script.calls) lock entry → moment_of script.cuts entry < ticket_bound * ticket_bound
  moment_low lock entry fit =
      let phases = number_phase script formed entry.call in
      let few : phase_of script.cuts entry.call < ticket_bound = few_calls (phase_of script.cuts entry.call) (let cuts = formed.phases.few in omega (arith, phases, cuts)) in
      let is = below_by_first ticket_bound (phase_of script.cuts entry.call) entry.ticket ticket_bound 0 (ticket_low lock entry fit) few in omega (arith, is)

  pub low_moments : (histories : List LockHistory) → AllFit (HistoryFits script.shape (length script.calls)) histories
      → All (λ (history : LockHistory). All (λ (entry : Entry). moment_of script.cuts entry < ticket_bound * ticket_bound) history.entries) histories
  low_moments histories fits =
      all_among (λ (history : LockHistory). All (λ (entry : Entry). moment_of script.cuts entry < ticket_bound * ticket_bound) history.entries) histories
      (λ history there.
      let fit : HistoryFits script.shape (length script.calls) history = fit_member (HistoryFits script.shape (length script.calls)) histories fits history there in
      all_among (λ (entry : Entry). moment_of script.cuts entry < ticket_bound * ticket_bound) history.entries
      (λ entry inside. moment_low history.lock entry (fit_member (EntryFits script.shape (length script.calls) history.lock) history.entries fit.entries entry inside)))
