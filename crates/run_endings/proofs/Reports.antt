-- How a run begins, or ends, whose report is to be judged.
use Rattle.std.proofs.Common.{◌≡◌, ℕ, ◌≤◌, ◌-◌, ◌^◌, Bool, true, false, List, Option, Some, None, Result, Ok, Err, length, take, drop, count_by, sym, subst, arith}
use Rattle.std.specs.Prelude.{IfErr, IfOk, IsTrue, MatchBool}
use Rattle.std.proofs.lemmas.List.{length-drop, length-take}
use Rattle.std.proofs.lemmas.List.Sums.{count_by-le-length}
use Rattle.map_script.specs.Lines.{is_line_feed}
use Rattle.run_ends.specs.Writes.{Written}
use Rattle.run_words.specs.declared.words.Asked.{Asked}
use Rattle.run_words.specs.declared.words.Mode.TheVariants.{Check}
use Rattle.run_endings.specs.declared.judging.Claim.{Claim}
use Rattle.run_endings.specs.Divided.{is_divided, script_part}
use Rattle.run_endings.specs.Finish.{Ending, BadWords, ReadFault, TooLong, Faulty, Refused, Unfit, OutOfMemory, Ran, Undivided, Told, HasReport, HasScript, HasSource, IsInput, judges}
use Rattle.run_endings.specs.Runs.{NeverRan, NeverSaid, EndsEarly, IsClaimOf}
use Rattle.run_endings.proofs.Beginnings.{up_to_input}

-- what asks for a report to be judged
abbrev pub checking : Asked
checking = record { mode = Check; options = record { history = false; dump = false; json = false } }

-- so many line feeds as there are bytes
pub few_feeds : (bytes : List ℕ) → length bytes ≤ 16777216 → count_by is_line_feed bytes ≤ 2 ^ 32 - 3
few_feeds bytes short = omega (arith, short, count_by-le-length is_line_feed bytes)

pub few_before : (n : ℕ) (bytes : List ℕ) → length bytes ≤ 16777216 → count_by is_line_feed (take n bytes) ≤ 2 ^ 32 - 3
few_before n bytes short = few_feeds (take n bytes) (omega (arith, short, length-take n bytes))

pub few_behind : (n : ℕ) (bytes : List ℕ) → length bytes ≤ 16777216 → count_by is_line_feed (drop n bytes) ≤ 2 ^ 32 - 3
few_behind n bytes short = few_feeds (drop n bytes) (omega (arith, short, length-drop n bytes))

none≢some : {A : Type 0} (a : A) → None ≡ Some a → ⊥
none≢some a e = cc

-- how an input ends whose script part isn't run, by how that part ends as a script
module _ (input : List ℕ) (divided : IsTrue (is_divided input)) where
  of_script : (ending : Ending) → HasScript NeverRan checking (script_part input) ending → HasReport NeverSaid input ending
  of_script BadWords cause = absurd cause
  of_script ReadFault cause = absurd cause
  of_script TooLong cause = absurd cause
  of_script (Faulty line why) cause = (divided, cause)
  of_script (Refused why) cause = (divided, cause)
  of_script (Unfit why) cause = absurd (none≢some why (cause.2))
  of_script OutOfMemory cause = tt
  of_script (Ran asked script kept copy) cause = absurd (cause.3)
  of_script Undivided cause = absurd cause
  of_script (Told said) cause = absurd cause

  pub early_by_script : {before now : Option Written} {wrote : Type 0} {status : ℕ} → EndsEarly (HasScript NeverRan checking (script_part input)) before now wrote status → EndsEarly (HasReport NeverSaid input) before now wrote status
  early_by_script early = record { ending = early.ending; cause = of_script early.ending early.cause; none = early.none; delivered = early.delivered }

-- how words end whose input is to be judged, by how the input ends
module _ (asked : Asked) (is : judges asked.mode ≡ true) (before after : Option (List ℕ)) (rose : Type 0) (input : List ℕ) (input_is : IsInput before after input) where
  whole : (ending : Ending) → HasReport NeverSaid input ending → MatchBool (judges asked.mode) (HasReport NeverSaid input ending) (HasScript NeverRan asked input ending)
  whole ending cause = subst (λ (b : Bool). MatchBool b (HasReport NeverSaid input ending) (HasScript NeverRan asked input ending)) (sym is) cause

  of_report : (ending : Ending) → HasReport NeverSaid input ending → HasSource NeverRan NeverSaid asked before after rose ending
  of_report BadWords cause = absurd cause
  of_report ReadFault cause = absurd cause
  of_report TooLong cause = absurd cause
  of_report (Faulty line why) cause = (input, input_is, whole (Faulty line why) cause)
  of_report (Refused why) cause = (input, input_is, whole (Refused why) cause)
  of_report (Unfit why) cause = absurd cause
  of_report OutOfMemory cause = up_to_input before after input input_is
  of_report (Ran was_asked script kept copy) cause = absurd cause
  of_report Undivided cause = (input, input_is, whole Undivided cause)
  of_report (Told said) cause = (input, input_is, whole (Told said) cause)

  pub err_by_report : (result : Result Claim ℕ) (written now : Option Written) (wrote : Type 0) → IfErr result (EndsEarly (HasReport NeverSaid input) written now wrote)
      → IfErr result (EndsEarly (HasSource NeverRan NeverSaid asked before after rose) written now wrote)
  err_by_report (Ok claim) written now wrote early = tt
  err_by_report (Err status) written now wrote early = record {
    ending = early.ending;
    cause = of_report early.ending early.cause;
    none = early.none;
    delivered = early.delivered;
  }

pub ok_by_report : (before after : Option (List ℕ)) (input : List ℕ) → IsInput before after input → (result : Result Claim ℕ) → IfOk result (IsClaimOf input)
    → IfOk result (λ claim. (input : List ℕ) × IsInput before after input × IsClaimOf input claim)
ok_by_report before after input is (Ok claim) of = (input, is, of)
ok_by_report before after input is (Err status) of = tt
