-- The last phase of a record, where it is exact and its calls only look: the map holds what it held at the phase's start.
use Rattle.std.proofs.Common.{◌≡◌, ℕ, suc, ◌<◌, ◌≤◌, cond, List, [], ◌∷◌, ◌++◌, length, Option, None, refl, ap, sym, ◌∙◌, subst, arith}
use Rattle.std.specs.Prelude.{slice_get, slice_index_or, unwrap_or}
use Rattle.std.proofs.lemmas.Bool.{lt-ltb}
use Rattle.std.proofs.lemmas.Option.{slice_get_past}
use Rattle.map_types.specs.declared.attr.Shape.{Shape}
use Rattle.map_types.specs.declared.call.Call.{Call}
use Rattle.map_types.specs.declared.kind.DomainId.{DomainId}
use Rattle.map_types.specs.declared.kind.DomainId.TheVariants.{Bucket, Global}
use Rattle.map_script.specs.declared.script.Script.{Script}
use Rattle.place_words.specs.declared.history.Entry.{Entry}
use Rattle.place_words.specs.declared.history.LockHistory.{LockHistory}
use Rattle.place_words.specs.Histories.{Content, bucket_in, content}
use Rattle.place_words.specs.Logs.{State, bucket_at, run}
use Rattle.place_words.specs.Named.{entries_of}
use Rattle.place_words.specs.Phases.{added, calls_before, drawn_before, of_phase, state_at}
use Rattle.place_words.specs.Tickets.{AscendIn, all_entries, tickets_of}
use Rattle.place_words.proofs.AnyStart.{added_ascends, logs_from}
use Rattle.place_words.proofs.Ascending.{ascend_within}
use Rattle.map_report.specs.declared.record.PhaseStart.{PhaseStart}
use Rattle.map_report.specs.declared.record.RunRecord.{RunRecord}
use Rattle.map_report.specs.Phases.{IsExact, end_of}
use Rattle.map_report.specs.Record.{IsRecord}
use Rattle.record_shape.proofs.ByPlaces.{all_at}
use Rattle.record_shape.proofs.HistoriesOf.{IsHeld, is_held}
use Rattle.serial_laws.proofs.LooksLeave.{AllLook, run_leaves}
use Rattle.run_records.proofs.PhaseExact.{before_parted}
use Rattle.run_records.proofs.RecordKeys.{left_in}

-- entries all of whose tickets are below a number
all_drawn : (n from : ℕ) (xs : List Entry) → AscendIn from (tickets_of xs) n → drawn_before n xs ≡ xs
all_drawn n from [] ascend = refl
all_drawn n from (entry ∷ xs) ascend =
    let below : suc entry.ticket ≤ n = ascend_within (suc entry.ticket) (tickets_of xs) n ascend.1 in
    ap (λ b. cond b (entry ∷ drawn_before n xs) (drawn_before n xs)) (lt-ltb entry.ticket n (omega (arith, below)))
    ∙ ap (λ (l : List Entry). entry ∷ l) (all_drawn n (suc entry.ticket) xs ascend.1)

module _ (script : Script) (kept : RunRecord) (is : IsRecord script kept) (p : ℕ) (last : p ≡ length script.cuts) (exact : IsExact script kept is.spares p) where
  abbrev shape : Shape
  shape = script.shape

  abbrev number : ℕ
  number = suc (calls_before script.cuts (length script.calls) p)

  abbrev mine : List Call
  mine = of_phase script.cuts p script.calls

  abbrev pub at_start : State
  at_start = state_at kept.histories exact.start.ticket exact.start.marked (is.spares p)

  abbrev total : ℕ
  total = length (all_entries kept.histories)

  ends_last : (end_of kept p).ticket ≡ total
  ends_last =
      let past : slice_get kept.phases (suc p) ≡ None = slice_get_past kept.phases (suc p) (let many = is.one_each in omega (arith, many, last)) in
      ap (λ (o : Option PhaseStart). (unwrap_or {T = PhaseStart} o (record { ticket = length (all_entries kept.histories); marked = kept.finals.marked })).ticket) past

  rises : exact.start.ticket ≤ (end_of kept p).ticket
  rises =
      let drawn = ascend_within exact.start.ticket (tickets_of (added shape number mine at_start Global)) (run shape number mine at_start).next_ticket (added_ascends shape number mine at_start Global) in
      subst (λ (t : ℕ). exact.start.ticket ≤ t) (ap (λ (s : PhaseStart). s.ticket) exact.ends) drawn

  in_order : (lock : DomainId) → AscendIn 0 (tickets_of (entries_of kept.histories lock)) total
  in_order lock = by (entries_of kept.histories lock) refl
    where
      by : (entries : List Entry) → entries_of kept.histories lock ≡ entries → AscendIn 0 (tickets_of (entries_of kept.histories lock)) total
      by [] are = subst (λ (es : List Entry). AscendIn 0 (tickets_of es) total) (sym are) (omega arith)
      by (first ∷ entries) are =
          let held : IsHeld kept.histories lock = is_held kept.histories lock 0 first (ap (λ (es : List Entry). slice_get es 0) are) in
          subst (λ (es : List Entry). AscendIn 0 (tickets_of es) total) (sym held.entries_are)
          (all_at (λ (h : LockHistory). AscendIn 0 (tickets_of h.entries) total) kept.histories is.tickets.in_histories held.place held.history held.there)

  logs_are : (bucket : ℕ) → bucket < shape.buckets → (run shape number mine at_start).logs (Bucket bucket) ≡ entries_of kept.histories (Bucket bucket)
  logs_are bucket below =
      let entries : List Entry = entries_of kept.histories (Bucket bucket) in
      logs_from shape number mine at_start (Bucket bucket)
      ∙ ap (λ (l : List Entry). drawn_before exact.start.ticket entries ++ l) (exact.entries (Bucket bucket) (lt-ltb bucket shape.buckets below))
      ∙ sym (before_parted exact.start.ticket (end_of kept p).ticket 0 total entries rises (in_order (Bucket bucket)))
      ∙ ap (λ (t : ℕ). drawn_before t entries) ends_last
      ∙ all_drawn total 0 entries (in_order (Bucket bucket))

  pub still_there : AllLook mine → (bucket : ℕ) → bucket < shape.buckets → bucket_at shape at_start bucket ≡ left_in shape kept.histories bucket
  still_there looks bucket below =
      sym (run_leaves shape mine number at_start looks bucket)
      ∙ ap (λ (l : List Entry). unwrap_or (bucket_in (content shape (Bucket bucket) l)) []) (logs_are bucket below)

-- what is told of a bucket at the end is what its history leads to
pub told_in : (script : Script) (kept : RunRecord) → IsRecord script kept → (bucket : ℕ) → bucket < script.shape.buckets → slice_index_or kept.finals.buckets bucket [] ≡ left_in script.shape kept.histories bucket
told_in script kept is bucket below = ap (λ (c : Content). unwrap_or (bucket_in c) []) (is.contents (Bucket bucket) (lt-ltb bucket script.shape.buckets below))
