-- The calls of a record are answered by one plain map, in the order of the tickets of all turns. Of real time a record knows the phases
-- and each CPU's order, and these are kept.
use Rattle.std.specs.Prelude.{◌≡◌, ℕ, suc, ◌≤◌, List, ◌∷◌, ◌++◌, Some, slice_get}
use Rattle.std.specs.List.{Contains}
use Rattle.map_types.specs.declared.call.Call.{Call}
use Rattle.map_types.specs.declared.reply.Reply.{Reply}
use Rattle.map_script.specs.declared.script.Script.{Script}
use Rattle.map_report.specs.declared.record.RunRecord.{RunRecord}
use Rattle.map_report.specs.Record.{IsRecord}
use Rattle.place_words.specs.Interleaving.{Drawn}
use Rattle.place_words.specs.Phases.{phase_of}
use Rattle.serial_laws.specs.Served.{SuitsItsMap}
use Rattle.turn_order.specs.Ordered.{ordered}
use Rattle.one_map.specs.Answers.{CallIsAnswered}
use Rattle.one_map.specs.CallTurns.{IsOfCall}
use Rattle.one_map.specs.Laws.{IsOneMap}

-- The calls of a record are answered by one plain map.
pub record IsAnsweredByOneMap (script : Script) (kept : RunRecord) : Type 0 where
  -- before each turn the buckets hold what the one map holds, and what the turn tells is so on it
  pub one_map : IsOneMap script.shape (ordered kept.histories)
  -- each call is answered by that map, one on one key at its only turn on keys, a batch write at one for each entry (`CallIsAnswered`)
  pub calls : (n : ℕ) (call : Call) (reply : Reply) → slice_get script.calls n ≡ Some call → slice_get kept.replies n ≡ Some reply
      → CallIsAnswered script.shape (ordered kept.histories) (suc n) call.cpu call.verb reply
  -- and each turn is of a call, one on keys such as that call makes: so a key goes by a call that deletes, takes or removes,
  -- or by an eviction
  pub of_calls : (drawn : Drawn) → Contains (ordered kept.histories) drawn → IsOfCall script.calls drawn

-- They are so answered; and along the turns the phases of their calls never fall, nor do the numbers of one CPU's calls.
pub record IsLinearizable (script : Script) (kept : RunRecord) : Type 0 where
  pub answered : IsAnsweredByOneMap script kept
  pub in_phases : (before : List Drawn) (first : Drawn) (later : List Drawn) → ordered kept.histories ≡ before ++ first ∷ later
      → (then : Drawn) → Contains later then → phase_of script.cuts first.entry.call ≤ phase_of script.cuts then.entry.call
  pub in_order : (before : List Drawn) (first : Drawn) (later : List Drawn) → ordered kept.histories ≡ before ++ first ∷ later
      → (then : Drawn) → Contains later then → then.entry.cpu ≡ first.entry.cpu → first.entry.call ≤ then.entry.call

-- The calls of each record are answered by one plain map, whatever the starts of its phases are.
abbrev pub RecordsAreOneMap : Type 0
RecordsAreOneMap = (script : Script) (kept : RunRecord) → SuitsItsMap script → IsRecord script kept → IsAnsweredByOneMap script kept
