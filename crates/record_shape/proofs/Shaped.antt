-- Each record of a run is well shaped.
use Rattle.std.proofs.Common.{◌≡◌, ℕ, suc, ◌+◌, ◌<◌, ◌≤◌, List, [], ◌∷◌, length, append-nil, Some, refl, ap, sym, ◌∙◌, subst, arith}
use Rattle.std.specs.Prelude.{All, slice_get, IsTrue}
use Rattle.std.proofs.lemmas.Option.{same_Some, slice_get_within}
use Rattle.map_types.specs.Shape.{HasBounds}
use Rattle.map_types.specs.declared.attr.Shape.{Shape}
use Rattle.map_types.specs.declared.call.Call.{Call}
use Rattle.map_types.specs.declared.kind.DomainId.{DomainId}
use Rattle.map_types.specs.declared.reply.Reply.{Reply}
use Rattle.map_types.proofs.CreationLemmas.{bounds_of_shape}
use Rattle.place_words.specs.declared.history.Entry.{Entry}
use Rattle.place_words.specs.declared.history.LockHistory.{LockHistory}
use Rattle.place_words.specs.Histories.{AllAllowed, IsLegal}
use Rattle.place_words.specs.Locks.{is_lock}
use Rattle.place_words.specs.Named.{entries_of}
use Rattle.place_words.specs.Tickets.{AscendIn, all_entries, tickets_of}
use Rattle.place_words.specs.Turns.{TurnAt}
use Rattle.place_words.proofs.Ascending.{ticket_below}
use Rattle.map_script.specs.declared.script.Script.{Script}
use Rattle.map_script.specs.WellFormed.{IsCallOn, IsWellFormed}
use Rattle.map_report.specs.declared.record.RunRecord.{RunRecord}
use Rattle.map_report.specs.Record.{IsRecord}
use Rattle.record_shape.specs.Fits.{AllFit}
use Rattle.record_shape.specs.OfTable.{HasFew, IsOfTable}
use Rattle.record_shape.specs.ShapeLaws.{RecordsAreShaped}
use Rattle.record_shape.specs.ShapedParts.{EntryFits, IsAnswerOf, PartFits, RepliesFit, ReplyFits, pair_side}
use Rattle.record_shape.specs.WellShaped.{HistoryFits, WellShaped}
use Rattle.record_shape.proofs.Premises.{Gives, Says, gives_of}
use Rattle.record_shape.proofs.ByPlaces.{all_at, fit_at, fit_each}
use Rattle.record_shape.proofs.CallsOf.{OfCall, OfEntry, call_of, entry_of_call, replies_long}
use Rattle.record_shape.proofs.ContentsFit.{contents_fit}
use Rattle.record_shape.proofs.FinalsFit.{finals_fit}
use Rattle.record_shape.proofs.HistoriesOf.{IsHeld, is_held, own_entries, histories_differ, lock_real}
use Rattle.record_shape.proofs.SaysLaws.{says}
use Rattle.record_shape.proofs.StrandsFit.{starts_fit, strands_fit}
use Rattle.record_shape.proofs.TracesFit.{trace_fits}
use Rattle.record_shape.proofs.TurnsStand.{AlwaysFits, turns_stand}

-- the turns of a call: what it says of them, and that they fit
abbrev PartsSay : Shape → List TurnAt → Type 0
PartsSay shape turns = AllFit (λ (at : TurnAt). Says shape at.turn.part) turns

abbrev PartsFit : Shape → List TurnAt → Type 0
PartsFit shape turns = AllFit (λ (at : TurnAt). PartFits shape at.turn.lock at.turn.part) turns

-- what is shown of each call and its reply
each_reply : (shape : Shape) (calls : List Call) (replies : List Reply) → length replies ≡ length calls
    → ((n : ℕ) (call : Call) → slice_get calls n ≡ Some call → (reply : Reply) × (slice_get replies n ≡ Some reply) × ReplyFits shape (pair_side call.verb) (IsAnswerOf shape call.verb) reply)
    → RepliesFit shape calls replies
each_reply shape [] [] long each = tt
each_reply shape [] (reply ∷ replies) long each = absurd (omega (arith, long))
each_reply shape (call ∷ calls) [] long each = absurd (omega (arith, long))
each_reply shape (call ∷ calls) (reply ∷ replies) long each =
    (first (each 0 call refl), each_reply shape calls replies (omega (arith, long)) (λ n. each (suc n)))
  where
    first : (answer : Reply) × (slice_get (reply ∷ replies) 0 ≡ Some answer) × ReplyFits shape (pair_side call.verb) (IsAnswerOf shape call.verb) answer → ReplyFits shape (pair_side call.verb) (IsAnswerOf shape call.verb) reply
    first here = subst (ReplyFits shape (pair_side call.verb) (IsAnswerOf shape call.verb)) (sym (same_Some reply here.0 here.1)) here.2

-- so many numbers ascend below a bound at most
few_ascend : (from : ℕ) (entries : List Entry) (to : ℕ) → AscendIn from (tickets_of entries) to → from + length entries ≤ to
few_ascend from [] to are = let low : from ≤ to = are in omega (arith, low)
few_ascend from (entry ∷ entries) to are = omega (arith, are.0, few_ascend (suc entry.ticket) entries to are.1)

module _ (script : Script) (kept : RunRecord) (like : IsWellFormed script) (is : IsRecord script kept) (table : IsOfTable script kept) where
  abbrev shape : Shape
  shape = script.shape

  bounds : HasBounds shape
  bounds = bounds_of_shape shape like.shape

  -- a call of the script
  on_map : (n : ℕ) (call : Call) → slice_get script.calls n ≡ Some call → IsCallOn shape call
  on_map n call at = all_at (IsCallOn shape) script.calls like.calls n call at

  gives : (n : ℕ) (call : Call) → slice_get script.calls n ≡ Some call → Gives call.verb
  gives n call at = gives_of call.verb (on_map n call at).bytes (all_at (λ (one : Call). HasFew one.verb) script.calls table.few n call at)

  says_each : (n : ℕ) (call : Call) → slice_get script.calls n ≡ Some call → (of : OfCall script kept n call) → PartsSay shape of.turns
  says_each n call at of = says shape bounds call.cpu of.spare call.verb (on_map n call at).sizes (gives n call at) of.turns of.reply of.trace

  -- what is said of each entry
  entry_says : (lock : DomainId) → IsTrue (is_lock shape lock) → (place : ℕ) (entry : Entry)
      → slice_get (entries_of kept.histories lock) place ≡ Some entry → Says shape entry.part
  entry_says lock real place entry at = by (entry_of_call script kept like is lock place entry at real)
    where
      by : OfEntry script kept lock place entry → Says shape entry.part
      by it =
          subst (Says shape) (sym it.part_is)
          (fit_at (λ (one : TurnAt). Says shape one.turn.part) it.of.turns (says_each it.n it.call it.called it.of) it.turn it.at it.there)

  -- a history of the map
  its_entries : (h : ℕ) (history : LockHistory) → slice_get kept.histories h ≡ Some history → entries_of kept.histories history.lock ≡ history.entries
  its_entries h history at = own_entries kept.histories (histories_differ shape kept.histories is.locks) h history at

  on_cpu : (h : ℕ) (history : LockHistory) → slice_get kept.histories h ≡ Some history → (place : ℕ) (entry : Entry)
      → slice_get history.entries place ≡ Some entry → entry.cpu < shape.cpus
  on_cpu h history at =
      all_at (λ (e : Entry). e.cpu < shape.cpus) history.entries
      (all_at (λ (one : LockHistory). All (λ (e : Entry). e.cpu < shape.cpus) one.entries) kept.histories is.on_cpus h history at)

  -- what lies under each lock fits
  legal_at : (lock : DomainId) → IsLegal shape lock (entries_of kept.histories lock)
  unfolding AllAllowed
  legal_at lock = by (entries_of kept.histories lock) refl
    where
      by : (entries : List Entry) → entries_of kept.histories lock ≡ entries → IsLegal shape lock (entries_of kept.histories lock)
      by [] are = subst (IsLegal shape lock) (sym are) tt
      by (first ∷ entries) are =
          let held : IsHeld kept.histories lock = is_held kept.histories lock 0 first (ap (λ (es : List Entry). slice_get es 0) are) in
          let legal : IsLegal shape held.history.lock held.history.entries =
          all_at (λ (h : LockHistory). IsLegal shape h.lock h.entries) kept.histories is.legal held.place held.history held.there in
          subst (IsLegal shape lock) (sym held.entries_are) (subst (λ (l : DomainId). IsLegal shape l held.history.entries) held.lock_is legal)

  contents : (lock : DomainId) → IsTrue (is_lock shape lock) → AlwaysFits shape lock (entries_of kept.histories lock)
  contents lock real =
      contents_fit shape bounds lock real (entries_of kept.histories lock) (legal_at lock)
      (fit_each (λ (entry : Entry). Says shape entry.part) (entries_of kept.histories lock) (entry_says lock real))

  -- the turns of each call fit, and so does its reply
  call_fits : (n : ℕ) (call : Call) → slice_get script.calls n ≡ Some call → (of : OfCall script kept n call)
      → PartsFit shape of.turns × ReplyFits shape (pair_side call.verb) (IsAnswerOf shape call.verb) of.reply
  call_fits n call at of =
      trace_fits shape bounds call.cpu (on_map n call at).cpu of.spare call.verb (on_map n call at).sizes (gives n call at) of.turns of.reply of.trace
      (turns_stand script kept is table contents n call of) (says_each n call at of)

  replies : RepliesFit shape script.calls kept.replies
  replies = each_reply shape script.calls kept.replies (replies_long script kept like is) by
    where
      by : (n : ℕ) (call : Call) → slice_get script.calls n ≡ Some call
          → (reply : Reply) × (slice_get kept.replies n ≡ Some reply) × ReplyFits shape (pair_side call.verb) (IsAnswerOf shape call.verb) reply
      by n call at = of_it (call_of script kept like is n call at)
        where
          of_it : OfCall script kept n call
              → (reply : Reply) × (slice_get kept.replies n ≡ Some reply) × ReplyFits shape (pair_side call.verb) (IsAnswerOf shape call.verb) reply
          of_it of = (of.reply, of.answered, (call_fits n call at of).1)

  -- each entry fits
  part_fits : (lock : DomainId) (place : ℕ) (entry : Entry) → OfEntry script kept lock place entry → PartFits shape lock entry.part
  part_fits lock place entry it =
      let fits : PartFits shape it.at.turn.lock it.at.turn.part =
      fit_at (λ (one : TurnAt). PartFits shape one.turn.lock one.turn.part) it.of.turns (call_fits it.n it.call it.called it.of).0 it.turn it.at it.there in
      subst (PartFits shape lock) (sym it.part_is) (subst (λ (l : DomainId). PartFits shape l it.at.turn.part) it.lock_is fits)

  ascend : (h : ℕ) (history : LockHistory) → slice_get kept.histories h ≡ Some history
      → AscendIn 0 (tickets_of history.entries) (length (all_entries kept.histories))
  ascend h history there =
      all_at (λ (one : LockHistory). AscendIn 0 (tickets_of one.entries) (length (all_entries kept.histories))) kept.histories is.tickets.in_histories h history there

  entry_fits : (h : ℕ) (history : LockHistory) → slice_get kept.histories h ≡ Some history → (place : ℕ) (entry : Entry)
      → slice_get history.entries place ≡ Some entry
      → EntryFits shape (length script.calls) history.lock entry
  entry_fits h history there place entry at =
      by (entry_of_call script kept like is history.lock place entry (ap (λ (es : List Entry). slice_get es place) (its_entries h history there) ∙ at) (lock_real shape kept.histories is.locks h history there))
    where
      by : OfEntry script kept history.lock place entry → EntryFits shape (length script.calls) history.lock entry
      by it =
          let number : entry.call ≡ suc it.n = it.number in
          let below : it.n < length script.calls = slice_get_within script.calls it.n it.call it.called in
          record {
            ticket =
                omega (arith, ticket_below 0 history.entries (length (all_entries kept.histories)) place entry (ascend h history there) at, table.counted);
            cpu = on_cpu h history there place entry at;
            some_call = omega (arith, number);
            of_script = omega (arith, number, below);
            part = part_fits history.lock place entry it;
          }

  histories : AllFit (HistoryFits shape (length script.calls)) kept.histories
  histories =
      fit_each (HistoryFits shape (length script.calls)) kept.histories
      (λ h history there. record {
        entries = fit_each (EntryFits shape (length script.calls) history.lock) history.entries (entry_fits h history there);
        counted = omega (arith, few_ascend 0 history.entries (length (all_entries kept.histories)) (ascend h history there), table.counted);
      })

  well_shaped : WellShaped script kept
  well_shaped = record {
    replies = replies;
    locks = is.locks;
    histories = histories;
    phases = starts_fit script kept like is table;
    strands = strands_fit script kept like is table;
    finals =
        finals_fit script kept like is table (λ lock real. contents lock real (entries_of kept.histories lock) [] (sym (append-nil (entries_of kept.histories lock))));
  }

pub shaped : RecordsAreShaped
shaped = well_shaped
