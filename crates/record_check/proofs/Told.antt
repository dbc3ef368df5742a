-- What is noted of a lock's turns, and what spares are told.
use Rattle.std.proofs.Common.{◌≡◌, ◌⊎◌, inl, inr, ◌≤◌, ◌<◌, ℕ, Bool, true, false, cond, List, Option, None, Some, Result, Ok, Err, length, get_or, map, refl, ap, sym, ◌∙◌, arith}
use Rattle.std.specs.Prelude.{IfOk, MatchBool, option_map, slice_get}
use Rattle.std.specs.List.{range_with_len}
use Rattle.std.proofs.lemmas.Bool.{both_ways, cases_lt}
use Rattle.std.proofs.lemmas.List.{get_or_past}
use Rattle.std.proofs.lemmas.List.FromFn.{get_or-map-range_with_len, length-map-range_with_len}
use Rattle.std.proofs.lemmas.Option.{slice_get-map, slice_get_past}
use Rattle.map_types.specs.declared.attr.Shape.{Shape}
use Rattle.map_types.specs.declared.kind.DomainId.{DomainId}
use Rattle.map_types.specs.declared.kind.DomainId.TheVariants.{Local, Global, CpuLru, Bucket, Freelist}
use Rattle.map_types.specs.declared.refusal.NoMemory.{NoMemory}
use Rattle.map_script.specs.declared.script.Script.{Script}
use Rattle.place_words.specs.declared.history.Entry.{Entry}
use Rattle.place_words.specs.declared.history.LockHistory.{LockHistory}
use Rattle.map_report.specs.declared.record.RunRecord.{RunRecord}
use Rattle.map_report.specs.Serial.{has_spares, spare_count}
use Rattle.map_report.specs.Turns.{spare_at}
use Rattle.map_report.specs.Record.{HoldsElements}
use Rattle.record_shape.specs.WellShaped.{WellShaped}
use Rattle.replay_words.specs.declared.note.Note.{Note}
use Rattle.replay_words.specs.Notes.{notes_of}
use Rattle.record_check.specs.Replayed.{lock_notes}
use Rattle.finals_check.specs.Telling.{SparesTold}
use Rattle.call_check.specs.Judged.{AreNoted, is_list_lock}
use Rattle.call_check.specs.RightCalls.{spare_last}
use Rattle.record_check.specs.Flaws.{AreWhole}

list_notes : (shape : Shape) (lock : DomainId) (entries : List Entry) → is_list_lock lock ≡ true → lock_notes shape lock entries ≡ notes_of shape lock entries
list_notes shape (Local cpu) entries is = refl
list_notes shape Global entries is = refl
list_notes shape (CpuLru cpu) entries is = refl
list_notes shape (Bucket bucket) entries is = absurd (both_ways false refl is)
list_notes shape (Freelist cpu) entries is = absurd (both_ways false refl is)

pub are_noted : (shape : Shape) (histories : List LockHistory) (notes : List (List Note)) → notes ≡ map (λ (history : LockHistory). lock_notes shape history.lock history.entries) histories
    → AreNoted shape histories notes
are_noted shape histories notes same place history at is_list =
    ap (λ (l : List (List Note)). slice_get l place) same
    ∙ (slice_get-map (λ (h : LockHistory). lock_notes shape h.lock h.entries) histories place
    ∙ (ap (option_map (λ (h : LockHistory). lock_notes shape h.lock h.entries)) at ∙ ap Some (list_notes shape history.lock history.entries is_list)))

few_spares : (shape : Shape) → spare_count shape ≤ shape.cpus
few_spares shape = by (has_spares shape.kind)
  where
    by : (b : Bool) → cond b shape.cpus 0 ≤ shape.cpus
    by true = omega arith
    by false = omega arith

-- where histories are read
pub left_read : (script : Script) (kept : RunRecord) (histories : List LockHistory) (left : List (Option ℕ)) → histories ≡ kept.histories
    → left ≡ map (spare_last script.cuts script.shape histories) (range_with_len 0 script.shape.cpus) → left ≡ map (spare_last script.cuts script.shape kept.histories) (range_with_len 0 script.shape.cpus)
left_read script kept histories left same left_is =
    left_is ∙ ap (λ (hs : List LockHistory). map (spare_last script.cuts script.shape hs) (range_with_len 0 script.shape.cpus)) same

module _ (script : Script) (kept : RunRecord) (shaped : WellShaped script kept) (left : List (Option ℕ))
    (left_is : left ≡ map (spare_last script.cuts script.shape kept.histories) (range_with_len 0 script.shape.cpus)) where
  abbrev last : ℕ → Option ℕ
  last cpu = spare_last script.cuts script.shape kept.histories cpu

  its_last : (cpu : ℕ) → cpu < script.shape.cpus → get_or left cpu None ≡ last cpu
  its_last cpu real =
      ap (λ (l : List (Option ℕ)). get_or l cpu None) left_is ∙ get_or-map-range_with_len last 0 script.shape.cpus cpu cpu None real (omega arith)

  none_past : (cpu : ℕ) → script.shape.cpus ≤ cpu → get_or left cpu None ≡ spare_at kept.finals cpu
  none_past cpu past =
      let few = few_spares script.shape in
      let many = shaped.finals.spares.1 in
      let long : length left ≡ script.shape.cpus = ap length left_is ∙ length-map-range_with_len last 0 script.shape.cpus in
      get_or_past left cpu None (omega (arith, long, past)) ∙ sym (slice_get_past kept.finals.spares cpu (omega (arith, few, many, past)))

  pub whole : SparesTold kept.finals left → HoldsElements script.shape kept.finals → AreWhole script kept
  whole told holds = record { spares = λ cpu real. sym (its_last cpu real) ∙ told cpu; finals = holds }

  pub told_by : AreWhole script kept → SparesTold kept.finals left
  told_by are cpu = by (cases_lt cpu script.shape.cpus)
    where
      by : (cpu < script.shape.cpus) ⊎ (script.shape.cpus ≤ cpu) → get_or left cpu None ≡ spare_at kept.finals cpu
      by (inl real) = its_last cpu real ∙ are.spares cpu real
      by (inr past) = none_past cpu past

  pub whole_told : SparesTold kept.finals left → (answer : Result Bool NoMemory)
      → IfOk answer (λ holds. MatchBool holds (HoldsElements script.shape kept.finals) (HoldsElements script.shape kept.finals → ⊥))
      → IfOk answer (λ right. MatchBool right (AreWhole script kept) (AreWhole script kept → ⊥))
  whole_told told (Ok true) holds = whole told holds
  whole_told told (Ok false) fails = λ are. fails are.finals
  whole_told told (Err none) is = is
