-- Whether the steps of a call, and its reply, are its trace.
use Rattle.std.specs.Prelude.{◌≡◌, ◌≢◌, ℕ, suc, ◌+◌, ◌*◌, ◌<◌, ◌^◌, ◌==◌, Bool, false, not, All, IsTrue, List, [], ◌∷◌, ◌++◌, length, map, filter, take, option_map, option_to_list, slice_get, unwrap_or, Option, None, Some, if◌then◌else◌}
use Rattle.std.specs.List.{flat_map, list_all, range_with_len}
use Rattle.map_types.specs.Kind.{is_lru}
use Rattle.map_types.specs.declared.attr.Shape.{Shape}
use Rattle.map_types.specs.declared.call.Call.{Call}
use Rattle.map_types.specs.declared.reply.Reply.{Reply}
use Rattle.map_script.specs.declared.script.Script.{Script}
use Rattle.place_words.specs.declared.history.Entry.{Entry}
use Rattle.place_words.specs.declared.history.LockHistory.{LockHistory}
use Rattle.place_words.specs.declared.history.Part.{Part}
use Rattle.place_words.specs.declared.history.Part.TheVariants as parts
use Rattle.place_words.specs.declared.history.Strand.{Strand}
use Rattle.place_words.specs.declared.history.StrandStep.{StrandStep}
use Rattle.place_words.specs.declared.list_part.LocalPart.{LocalPart}
use Rattle.place_words.specs.declared.list_part.LocalPart.TheVariants as local
use Rattle.place_words.specs.Interleaving.{Drawn, turn_of}
use Rattle.place_words.specs.Named.{entries_of}
use Rattle.place_words.specs.Phases.{phase_of}
use Rattle.place_words.specs.PlainTraces.{spare_after}
use Rattle.place_words.specs.Turns.{TurnAt, on_lock}
use Rattle.map_report.specs.declared.record.RunRecord.{RunRecord}
use Rattle.map_report.specs.Record.{has_cpu}
use Rattle.map_report.specs.Serial.{opening}
use Rattle.map_report.specs.Turns.{spare_at}
use Rattle.turn_order.specs.Ordered.{all_drawn}
use Rattle.call_check.specs.By.{IsTraceBy}

-- What is earlier goes by tickets here, since calls are judged before tickets are.
abbrev pub entries_below : ℕ → List Entry → List Entry
entries_below ticket entries = flat_map (λ t. filter (λ (entry : Entry). entry.ticket == t) entries) (range_with_len 0 ticket)

-- Which of two turns of a CPU is earlier goes by the phases of their calls, and in one phase by their tickets, which are numbers of 64
-- bits: a record's phases may start in another order than their tickets have, where nothing was drawn in one of them. Turns at one
-- moment stand in the order of the locks, and on one lock as its history has them.
unfoldable pub ticket_bound : ℕ
ticket_bound = 2 ^ 64

abbrev pub moment_of : List ℕ → Entry → ℕ
moment_of cuts entry = phase_of cuts entry.call * ticket_bound + entry.ticket

abbrev pub turns_before : List ℕ → ℕ → List Drawn → List Drawn
turns_before cuts moment turns = flat_map (λ m. filter (λ (drawn : Drawn). moment_of cuts drawn.entry == m) turns) (range_with_len 0 moment)

-- The spare that a CPU has at a moment: what its last replacement before that left, else the one with which it began.
abbrev pub spare_before : List ℕ → Shape → List LockHistory → ℕ → ℕ → Option ℕ
spare_before cuts shape histories cpu moment =
    spare_after (spare_at (opening shape) cpu) (map turn_of (filter (λ (drawn : Drawn). drawn.entry.cpu == cpu) (turns_before cuts moment (all_drawn histories))))

-- The spare that a CPU has after all turns. An update of a map that evicts replaces too, and leaves no spare.
abbrev pub spare_last : List ℕ → Shape → List LockHistory → ℕ → Option ℕ
spare_last cuts shape histories cpu =
    if is_lru shape.kind then spare_at (opening shape) cpu else spare_before cuts shape histories cpu (ticket_bound * ticket_bound)

-- The spare of a CPU before the first of some turns. Where that is a push that found its element gone it may be another one: no trace
-- that begins with a push has a spare.
abbrev pub spare_of_entry : List ℕ → Shape → List LockHistory → ℕ → Option Entry → Option ℕ
spare_of_entry cuts shape histories cpu None = None
spare_of_entry cuts shape histories cpu (Some entry) = spare_before cuts shape histories cpu (moment_of cuts entry)

abbrev pub spare_first : List ℕ → Shape → List LockHistory → ℕ → List TurnAt → Option ℕ
spare_first cuts shape histories cpu [] = None
spare_first cuts shape histories cpu (at ∷ turns) = spare_of_entry cuts shape histories cpu (slice_get (entries_of histories at.turn.lock) (length at.earlier))

-- a push that found its element gone from pending
abbrev pub is_moved_part : LocalPart → Bool
is_moved_part (local.Pop hash e) = false
is_moved_part (local.Refill hash flushed gained got) = false
is_moved_part (local.Steal got first second) = false
is_moved_part (local.Add hash e cursor) = false
is_moved_part (local.Push e done) = not done

abbrev pub is_moved : Part → Bool
is_moved (parts.Bucket part) = false
is_moved (parts.Free part) = false
is_moved (parts.Local part) = is_moved_part part
is_moved (parts.Global part) = false
is_moved (parts.Own part) = false

-- The turn that a step names, with what came before it on its lock. What lay there is what the history before it leads to. Who
-- moved the element of such a push last goes by tickets.
abbrev pub earlier_of : List Entry → ℕ → Entry → List Entry
earlier_of entries index entry = if is_moved entry.part then entries_below entry.ticket entries else take index entries

abbrev pub named_by : List LockHistory → StrandStep → Option Entry
named_by histories step = slice_get (entries_of histories step.lock) step.index

abbrev pub turn_named : List LockHistory → StrandStep → Entry → TurnAt
turn_named histories step entry =
    record { turn = on_lock step.lock entry.part; earlier = earlier_of (entries_of histories step.lock) step.index entry }

abbrev pub turns_named : List LockHistory → List StrandStep → List TurnAt
turns_named histories steps = flat_map (λ (step : StrandStep). option_to_list (option_map (turn_named histories step) (named_by histories step))) steps

-- the number of the call of a step, 0 where it names no entry
abbrev pub call_named : List LockHistory → StrandStep → ℕ
call_named histories step = unwrap_or (option_map (λ (entry : Entry). entry.call) (named_by histories step)) 0

-- whether a step is of a call, and whether its turn is one of a CPU
abbrev pub is_of_call : List LockHistory → ℕ → StrandStep → Bool
is_of_call histories number step = call_named histories step == number

abbrev pub is_of_cpu : List LockHistory → ℕ → StrandStep → Bool
is_of_cpu histories cpu step = unwrap_or (option_map (λ (entry : Entry). entry.cpu == cpu) (named_by histories step)) false

-- the steps of a call among those of its strand
abbrev pub steps_of_call : List LockHistory → ℕ → List StrandStep → List StrandStep
steps_of_call histories number steps = filter (is_of_call histories number) steps

-- The steps of a call in its strand are of its CPU, and with its reply they are its trace. None of them stands after a step of a
-- later call.
pub record IsRightCall (script : Script) (kept : RunRecord) (number : ℕ) (call : Call) (reply : Reply) (strand : Strand) : Type 0 where
  pub its_cpu : IsTrue (list_all (is_of_cpu kept.histories call.cpu) (steps_of_call kept.histories number strand.steps))
  pub trace : IsTraceBy script.shape call.cpu (spare_first script.cuts script.shape kept.histories call.cpu) call.verb (turns_named kept.histories (steps_of_call kept.histories number strand.steps)) reply
  pub in_order : (before later : List StrandStep) (step : StrandStep) → strand.steps ≡ before ++ step ∷ later → number < call_named kept.histories step
      → All (λ (other : StrandStep). call_named kept.histories other ≢ number) later

-- The call at a place of the script, counted from 0, is right in the strand that its CPU has in its phase.
abbrev pub IsRightAt : Script → RunRecord → ℕ → Type 0
IsRightAt script kept place =
    (call : Call) (reply : Reply) (strand : Strand) (n : ℕ)
    → slice_get script.calls place ≡ Some call → slice_get kept.replies place ≡ Some reply → slice_get kept.strands n ≡ Some strand
    → strand.phase ≡ phase_of script.cuts (suc place) → IsTrue (has_cpu call.cpu strand.cpus)
    → IsRightCall script kept (suc place) call reply strand
