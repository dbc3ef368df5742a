-- Which phases of a race are exact: what happens in one whose calls are all of one CPU is determined by the state at its start.
use Rattle.std.specs.Prelude.{◌≡◌, ◌≢◌, ℕ, suc, ◌<◌, IsTrue, Option, Some, All, length, slice_get, unwrap_or}
use Rattle.map_types.specs.declared.call.Call.{Call}
use Rattle.map_types.specs.declared.kind.DomainId.{DomainId}
use Rattle.map_types.specs.declared.refusal.Errno.TheVariants.{Enomem}
use Rattle.map_types.specs.declared.reply.Reply.{Reply}
use Rattle.map_types.specs.Replies.{error_of}
use Rattle.map_script.specs.declared.script.Script.{Script}
use Rattle.place_words.specs.Locks.{is_lock}
use Rattle.place_words.specs.Logs.{run, answers}
use Rattle.place_words.specs.Named.{entries_of}
use Rattle.place_words.specs.Phases.{phase_count, calls_before, of_phase, drawn_between, state_at, added}
use Rattle.place_words.specs.Tickets.{all_entries}
use Rattle.map_report.specs.declared.record.PhaseStart.{PhaseStart}
use Rattle.map_report.specs.declared.record.RunRecord.{RunRecord}
use Rattle.map_report.specs.Runs.{start_of}

-- where a phase ends: at the start of the next one, or at the end of the run
abbrev pub end_of : RunRecord → ℕ → PhaseStart
end_of kept p =
    unwrap_or (slice_get kept.phases (suc p)) (record { ticket = length (all_entries kept.histories); marked = kept.finals.marked })

-- From the state at its start, which the entries before it, the marked elements and the spares tell, the run of the phase's calls in
-- serial order gives the phase's entries with their tickets, its replies, and the ticket and the marked elements at its end.
pub record IsExact (script : Script) (kept : RunRecord) (spares : ℕ → ℕ → Option ℕ) (p : ℕ) : Type 0 where
  pub start : PhaseStart
  pub start_is : slice_get kept.phases p ≡ Some start
  pub entries : (lock : DomainId) → IsTrue (is_lock script.shape lock)
      → added script.shape (suc (calls_before script.cuts (length script.calls) p)) (of_phase script.cuts p script.calls) (state_at kept.histories start.ticket start.marked (spares p)) lock ≡ drawn_between start.ticket (end_of kept p).ticket (entries_of kept.histories lock)
  pub replies : answers script.shape (suc (calls_before script.cuts (length script.calls) p)) (of_phase script.cuts p script.calls) (state_at kept.histories start.ticket start.marked (spares p)) ≡ of_phase script.cuts p kept.replies
  pub ends : start_of script.shape (run script.shape (suc (calls_before script.cuts (length script.calls) p)) (of_phase script.cuts p script.calls) (state_at kept.histories start.ticket start.marked (spares p))) ≡ end_of kept p

-- each phase whose calls are all of one CPU is exact, and no reply in it is ENOMEM
abbrev pub HasExactPhases : Script → RunRecord → (ℕ → ℕ → Option ℕ) → Type 0
HasExactPhases script kept spares =
    (p cpu : ℕ) → p < phase_count script.cuts → All (λ (call : Call). call.cpu ≡ cpu) (of_phase script.cuts p script.calls)
    → IsExact script kept spares p × All (λ (reply : Reply). error_of reply ≢ Some Enomem) (of_phase script.cuts p kept.replies)
