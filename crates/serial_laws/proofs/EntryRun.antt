-- A run in serial order answers what a plain map does.
use Rattle.std.proofs.Common.{false, ◌≡◌, ℕ, zero, suc, List, [], ◌∷◌, take, All, refl}
use Rattle.std.specs.List.{AllByRecursion}
use Rattle.std.proofs.lemmas.List.Elements.{recursion_from_All}
use Rattle.map_types.specs.Shape.{HasBounds}
use Rattle.map_types.specs.declared.attr.Shape.{Shape}
use Rattle.map_types.specs.declared.call.Call.{Call}
use Rattle.map_types.specs.declared.reply.Reply.{Reply}
use Rattle.map_types.specs.Kind.{is_lru}
use Rattle.serial_laws.specs.Served.{IsCallFor}
use Rattle.map_script.specs.declared.script.Script.{Script}
use Rattle.place_words.specs.declared.finals.Finals.{Finals}
use Rattle.serial_laws.specs.Entries.{Entry, answered, answers_from, entries_after}
use Rattle.serial_laws.specs.Laws.{lists_before}
use Rattle.map_report.specs.Serial.{opening, after_call, replies_from, lists_after}
use Rattle.map_report.specs.Soundness.{IsSound}
use Rattle.serial_laws.proofs.EntrySteps.{Agrees, agrees_opening}
use Rattle.serial_laws.proofs.EntryWalks.{agrees_step}
use Rattle.serial_laws.proofs.SoundRun.{sound_opening, sound_step}

module _ (shape : Shape) (bounds : HasBounds shape) (plain : is_lru shape.kind ≡ false) where
  -- from any lists and entries that agree
  plain_from : (calls : List Call) (lists : Finals) (entries : List Entry) → AllByRecursion (IsCallFor shape) calls → IsSound shape lists → Agrees shape lists entries
      → replies_from shape lists calls ≡ answers_from shape entries calls (replies_from shape lists calls)
  plain_from [] lists entries are sound agree = refl
  plain_from (call ∷ calls) lists entries are sound agree =
      let reply : Reply = (after_call shape call.cpu call.verb lists).1 in
      let next : Finals = (after_call shape call.cpu call.verb lists).0 in
      let step = agrees_step shape call lists entries bounds plain are.0 sound agree in
      let rest = plain_from calls next (answered shape call.cpu call.verb reply entries).0 are.1 (sound_step shape call lists bounds plain are.0 sound) step.1 in
      λ i. step.0 i ∷ rest i

  -- the lists and the entries agree after so many calls
  agrees_from : (calls : List Call) (lists : Finals) (entries : List Entry) → AllByRecursion (IsCallFor shape) calls → IsSound shape lists → Agrees shape lists entries
      → (n : ℕ) → Agrees shape (lists_after shape lists (take n calls)) (entries_after shape entries (take n calls) (replies_from shape lists calls))
  agrees_from [] lists entries are sound agree zero = agree
  agrees_from [] lists entries are sound agree (suc n) = agree
  agrees_from (call ∷ calls) lists entries are sound agree zero = agree
  agrees_from (call ∷ calls) lists entries are sound agree (suc n) =
      let reply : Reply = (after_call shape call.cpu call.verb lists).1 in
      let step = agrees_step shape call lists entries bounds plain are.0 sound agree in
      agrees_from calls (after_call shape call.cpu call.verb lists).0 (answered shape call.cpu call.verb reply entries).0 are.1 (sound_step shape call lists bounds plain are.0 sound) step.1 n

-- the replies to a script on lists
abbrev pub list_replies : Script → List Reply
list_replies script = replies_from script.shape (opening script.shape) script.calls

-- They are those of a plain map from keys to values.
pub plain_run : (script : Script) → HasBounds script.shape → All (IsCallFor script.shape) script.calls → is_lru script.shape.kind ≡ false → list_replies script ≡ answers_from script.shape [] script.calls (list_replies script)
plain_run script bounds are plain =
    plain_from script.shape bounds plain script.calls (opening script.shape) [] (recursion_from_All (IsCallFor script.shape) script.calls are) (sound_opening script.shape bounds plain) (agrees_opening script.shape)

-- Before each call of a script its lists and its entries agree.
pub agrees_run : (script : Script) → HasBounds script.shape → All (IsCallFor script.shape) script.calls → is_lru script.shape.kind ≡ false
    → (n : ℕ) → Agrees script.shape (lists_before script n) (entries_after script.shape [] (take n script.calls) (list_replies script))
agrees_run script bounds are plain =
    agrees_from script.shape bounds plain script.calls (opening script.shape) [] (recursion_from_All (IsCallFor script.shape) script.calls are) (sound_opening script.shape bounds plain) (agrees_opening script.shape)
