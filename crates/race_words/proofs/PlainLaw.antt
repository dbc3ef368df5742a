-- The record of a race of a map that doesn't evict is one of a run of the core, where nests stand apart.
use Rattle.std.proofs.Common.{◌≡◌, inl, inr, ℕ, ◌<◌, false, List, [], ◌∷◌, length, refl, ◌∙◌, sym, subst}
use Rattle.std.specs.Prelude.{None}
use Rattle.map_types.specs.Kind.{is_lru}
use Rattle.map_types.specs.Shape.{HasBounds}
use Rattle.map_types.specs.declared.attr.Shape.{Shape}
use Rattle.map_script.specs.declared.script.Script.{Script}
use Rattle.place_words.specs.Histories.{opening_content}
use Rattle.place_words.specs.Interleaving.{Drawn, AreEnabled, CoreRun}
use Rattle.place_words.specs.OpeningState.{opening}
use Rattle.place_words.specs.Phases.{phase_count}
use Rattle.map_report.specs.declared.record.RunRecord.{RunRecord}
use Rattle.map_report.specs.Record.{IsRecord, StartsRise}
use Rattle.map_report.specs.Serial as report
use Rattle.map_report.specs.Turns.{spare_at}
use Rattle.turn_order.specs.Ordered.{ordered}
use Rattle.turn_order.specs.OrderLaws.{turn_count}
use Rattle.turn_order.proofs.FirstEvents.{to_all}
use Rattle.turn_order.proofs.LockOrder.{in_history}
use Rattle.turn_order.proofs.Members.{IsAmong}
use Rattle.step_check.proofs.InRecords.{allow_along, are_in_order, cpu_within, on_locks, run_of_ordered}
use Rattle.step_check.proofs.LockSorts.{sorts_first}
use Rattle.step_check.proofs.RecordLocks.{record_once, record_apart}
use Rattle.turn_order.specs.Nests.{NestsApart}
use Rattle.race_words.specs.RaceLaws.{PlainRacesRun}
use Rattle.race_words.proofs.FirstHands.{hands_at_first}
use Rattle.race_words.proofs.Hands.{Hand, hand}
use Rattle.race_words.proofs.Inner.{Ascend, AreOpen, are_open, ascend_own}
use Rattle.race_words.proofs.Phases.{ascend_of, calls_rise, hands_along, ordered_in, own_runs, stands_among}
use Rattle.race_words.proofs.PlainRuns.{AreByCpus, HandsAlong, plain_race}
use Rattle.race_words.proofs.PlainSteps.{HandsIn}
use Rattle.race_words.proofs.Together.{inners_together, nests_apart}

pub by_cpus : (shape : Shape) (turns : List Drawn) → ((x : Drawn) → IsAmong x turns → x.entry.cpu < shape.cpus) → AreByCpus shape turns
by_cpus shape [] within = tt
by_cpus shape (x ∷ later) within = (within x (inl refl), by_cpus shape later (λ y there. within y (inr there)))

module _ (script : Script) (kept : RunRecord) (record_is : IsRecord script kept) where
  abbrev turns : List Drawn
  turns = ordered kept.histories

  pub turns_ascend : Ascend turns
  turns_ascend = ascend_of 0 turns (turn_count kept.histories) (ordered_in script kept record_is)

  module _ (rise : StartsRise kept) (bounds : HasBounds script.shape) (plain : is_lru script.shape.kind ≡ false) (nests : NestsApart kept.histories) where
    all_open : AreOpen turns
    all_open =
        are_open turns
        (inners_together bounds plain turns (opening_content script.shape) (sorts_first script.shape) (on_locks script kept record_is) (allow_along script kept record_is))
        turns_ascend (calls_rise script kept record_is rise)
        (nests_apart kept.histories nests turns_ascend (λ z at. in_history kept.histories (record_once script kept record_is) (record_apart script kept record_is) z (stands_among z turns at)))

    abbrev first : ℕ → Hand
    first cpu = hand (record_is.spares 0 cpu) None

    hands : HandsAlong first turns
    hands =
        hands_along script.shape.cpus turns first (λ cpu. hand (record_is.spares (phase_count script.cuts) cpu) None) (cpu_within script kept record_is)
        (λ cpu within. own_runs script kept record_is rise plain cpu within)

    at_first : HandsIn script.shape first (opening script.shape)
    at_first =
        let known : HandsIn script.shape (λ c. hand (spare_at (report.opening script.shape) c) None) (opening script.shape) = hands_at_first script.shape bounds in
        record {
          spares = λ c e is. known.spares c e (sym (record_is.first_spares c) ∙ is);
          popped = λ c e is. known.popped c e is;
          apart = λ c e one two. known.apart c e (sym (record_is.first_spares c) ∙ one) two;
        }

    pub plain_run : CoreRun script.shape kept.histories
    plain_run =
        run_of_ordered script kept record_is
        (subst (AreEnabled script.shape (opening script.shape)) (to_all script.shape (opening_content script.shape) [] turns)
        (plain_race bounds plain turns first (on_locks script kept record_is) (ascend_own turns turns_ascend) all_open (by_cpus script.shape turns (cpu_within script kept record_is)) (are_in_order script kept record_is)
        (allow_along script kept record_is) hands at_first (length turns)))

pub plain_races_run : PlainRacesRun
plain_races_run script kept bounds plain record_is rise nests = plain_run script kept record_is rise bounds plain nests
