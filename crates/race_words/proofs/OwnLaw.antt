-- The record of a race of a map whose CPUs have lists of their own is one of a run of the core, where nests stand apart and what probes saw in
-- hands was there.
use Rattle.std.proofs.Common.{◌≡◌, ℕ, false, true, List, [], ◌∷◌, ◌++◌, length, refl, ap, ◌∙◌, subst, arith}
use Rattle.map_types.specs.declared.attr.Shape.{Shape}
use Rattle.map_types.specs.declared.kind.DomainId.{DomainId}
use Rattle.map_types.specs.Kind.{is_lru}
use Rattle.map_types.specs.Shape.{HasBounds}
use Rattle.map_script.specs.declared.script.Script.{Script}
use Rattle.place_words.specs.declared.bucket_part.BucketPart.TheVariants.{Lookup, Update, Delete, Take, Next, First, Walk, Evict}
use Rattle.place_words.specs.declared.bucket_part.Seen.TheVariants.{Removed, Held}
use Rattle.place_words.specs.declared.history.Part.{Part}
use Rattle.place_words.specs.declared.history.Part.TheVariants as parts
use Rattle.place_words.specs.declared.owner.Owner.TheVariants as owners
use Rattle.place_words.specs.Histories.{Content, opening_content}
use Rattle.place_words.specs.Interleaving.{Drawn, turn_of, Event, enclosing, lists_in, turn_events, AreEnabled, CoreRun}
use Rattle.place_words.specs.OpeningState.{opening, opening_lists}
use Rattle.place_words.specs.Openings.{opening_free}
use Rattle.place_words.specs.Turns.{after_turn}
use Rattle.place_words.proofs.LockLemmas.{named_by_number}
use Rattle.place_words.proofs.OpeningLaws.{opening_placed}
use Rattle.map_report.specs.declared.record.RunRecord.{RunRecord}
use Rattle.map_report.specs.Record.{IsRecord, StartsRise}
use Rattle.turn_order.specs.Ordered.{interleaved_to, ordered}
use Rattle.turn_order.proofs.FirstEvents.{to_all}
use Rattle.turn_order.proofs.LockOrder.{in_history}
use Rattle.core_runs.specs.Words.{Words, words_of}
use Rattle.core_runs.proofs.CallTurns.{opening_is}
use Rattle.step_check.specs.Ran.{words_over}
use Rattle.step_check.proofs.Begun.{begun_after, over_both}
use Rattle.step_check.proofs.InRecords.{allow_along, are_in_order, cpu_within, on_locks, run_of_ordered}
use Rattle.step_check.proofs.LockSorts.{sorts_first}
use Rattle.step_check.proofs.RecordLocks.{record_once, record_apart}
use Rattle.turn_order.specs.Nests.{NestsApart}
use Rattle.race_words.specs.Nests.{LooksRight, words_to}
use Rattle.race_words.specs.RaceLaws.{OwnRacesRun}
use Rattle.race_words.proofs.Inner.{AreOpen, are_open, ascend_own}
use Rattle.race_words.proofs.ListHands.{resting}
use Rattle.race_words.proofs.OwnRuns.{LooksAlong, own_goes}
use Rattle.race_words.proofs.OwnSteps.{Lying}
use Rattle.race_words.proofs.ListTogether.{CountsAlong, counts_along, lists_together}
use Rattle.race_words.proofs.OwnWords.{CountsIn, SeesHeld}
use Rattle.race_words.proofs.Phases.{calls_rise, stands_among}
use Rattle.race_words.proofs.PlainLaw.{by_cpus, turns_ascend}
use Rattle.race_words.proofs.Taken.{holding_none}
use Rattle.race_words.proofs.Together.{nests_apart}
use Rattle.std.specs.Prelude.{None}

-- What a probe sees, of any part
pub sees_of : (w : Words) (part : Part) → ((e holder : ℕ) → part ≡ parts.Bucket (Evict e (Held holder)) → w.owner e ≡ owners.Hand holder) → SeesHeld w part
sees_of w (parts.Bucket (Lookup side key got)) right = tt
sees_of w (parts.Bucket (Update side flags key value offer result)) right = tt
sees_of w (parts.Bucket (Delete key removed)) right = tt
sees_of w (parts.Bucket (Take key removed)) right = tt
sees_of w (parts.Bucket (Next key found)) right = tt
sees_of w (parts.Bucket (First key)) right = tt
sees_of w (parts.Bucket (Walk remove room result)) right = tt
sees_of w (parts.Bucket (Evict e Removed)) right = tt
sees_of w (parts.Bucket (Evict e (Held holder))) right = right e holder refl
sees_of w (parts.Free part) right = tt
sees_of w (parts.Local part) right = tt
sees_of w (parts.Global part) right = tt
sees_of w (parts.Own part) right = tt

-- turn by turn
pub looks_from : (shape : Shape) (turns : List Drawn) (contents : DomainId → Content) (begun : List ℕ) (w : Words)
    → ((before : List Drawn) (x : Drawn) (later : List Drawn) → turns ≡ before ++ x ∷ later → SeesHeld (words_over shape w (interleaved_to (length before) shape contents begun turns)) x.entry.part) → LooksAlong shape contents begun w turns
unfolding LooksAlong interleaved_to words_over
looks_from shape [] contents begun w at = tt
looks_from shape (x ∷ later) contents begun w at =
    let now : DomainId → Content = after_turn shape x.entry.cpu contents (turn_of x) in
    let block : List Event = turn_events shape (enclosing x later) begun (lists_in (now x.lock)) x in (
      at [] x later refl,
      looks_from shape later now (begun_after x later begun) (words_over shape w block) (λ before y rest is.
          subst (λ (v : Words). SeesHeld v y.entry.part) (over_both shape block (interleaved_to (length before) shape now (begun_after x later begun) later) w)
          (at (x ∷ before) y rest (ap (λ (l : List Drawn). x ∷ l) is))),
    )

opening_lies : (shape : Shape) → HasBounds shape → Lying shape (opening_content shape) (opening shape)
unfolding opening opening_lists
opening_lies shape bounds = record {
  placed = opening_placed shape bounds;
  lies = λ lock is. ap (λ (l : DomainId). record { free = opening_free shape l; first = []; second = []; cursor = None }) (named_by_number shape lock is) ∙ opening_is shape lock;
}

pub none_in : (shape : Shape) (w : Words) → CountsIn shape (λ c e. 0) w
none_in shape w = record { held = λ c e some. absurd (omega (arith, some)); once = λ c e. omega arith }

module _ (script : Script) (kept : RunRecord) (record_is : IsRecord script kept) (rise : StartsRise kept) (bounds : HasBounds script.shape) (lru : is_lru script.shape.kind ≡ true) (apart : script.shape.common ≡ false) (nests : NestsApart kept.histories)
    (looks : LooksRight script.shape kept.histories) where
  abbrev turns : List Drawn
  turns = ordered kept.histories

  counts : CountsAlong (λ c e. 0) (λ c. resting) turns
  counts = counts_along script.shape lru turns (are_in_order script kept record_is) (calls_rise script kept record_is rise)

  all_open : AreOpen turns
  all_open =
      are_open turns
      (lists_together script.shape lru turns (opening_content script.shape) (sorts_first script.shape) (on_locks script kept record_is) (allow_along script kept record_is) (calls_rise script kept record_is rise) (λ c e. 0) (λ c. resting) counts)
      (turns_ascend script kept record_is) (calls_rise script kept record_is rise)
      (nests_apart kept.histories nests (turns_ascend script kept record_is) (λ z at. in_history kept.histories (record_once script kept record_is) (record_apart script kept record_is) z (stands_among z turns at)))

  looks_right : LooksAlong script.shape (opening_content script.shape) [] (words_of (opening script.shape)) turns
  looks_right = looks_from script.shape turns (opening_content script.shape) [] (words_of (opening script.shape)) (λ before x later is. sees_of (words_to script.shape kept.histories (length before)) x.entry.part (looks before x later is))

  pub own_run : CoreRun script.shape kept.histories
  unfolding opening
  own_run =
      run_of_ordered script kept record_is
      (subst (AreEnabled script.shape (opening script.shape)) (to_all script.shape (opening_content script.shape) [] turns)
      (own_goes bounds lru apart (length turns) turns (opening_content script.shape) [] (λ c e. 0) (λ c. resting) (opening script.shape) (on_locks script kept record_is) (ascend_own turns (turns_ascend script kept record_is)) all_open
      (by_cpus script.shape turns (cpu_within script kept record_is)) (allow_along script kept record_is) counts looks_right (holding_none script.shape (words_of (opening script.shape)) turns (λ k. refl)) (opening_lies script.shape bounds)
      (none_in script.shape (words_of (opening script.shape))) (sorts_first script.shape)))

pub own_races_run : OwnRacesRun
own_races_run script kept bounds lru apart record_is rise nests looks = own_run script kept record_is rise bounds lru apart nests looks
