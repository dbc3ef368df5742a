use Rattle.std.proofs.Common.{◌≡◌, ◌≢◌, ℕ, Bool, false, List, get_or, sym, subst}
use Rattle.std.specs.Prelude.{All, MatchBool}
use Rattle.std.proofs.lemmas.List.{take_all}
use Rattle.std.proofs.lemmas.List.Elements.{All-more}
use Rattle.place_words.specs.declared.list_part.GlobalPart.{GlobalPart}
use Rattle.place_words.specs.declared.owner.Owner.TheVariants as owners
use Rattle.place_words.specs.declared.visits.Flush.{Flush}
use Rattle.place_words.specs.Globals.{flushed_elements}
use Rattle.step_check.specs.Answers.{view_of}
use Rattle.step_check.specs.Judged.{flushed_in}
use Rattle.step_check.specs.WordsView.{words_in}
use Rattle.step_check.proofs.FlushLoops.{all_flushed, one_flushed}
use Rattle.step_check.proofs.flushes.turn_flushes_listed.Goals as goal

-- what is read where there is none
abbrev none : Flush
none = record { element = 0; hash = 0; bit = false }

pub returns-then-is_free : goal.returns-then-is_free
returns-then-is_free c = λ all.
    let owner : ℕ → _ = (words_in (view_of c.args.kept.now)).owner in
    let items : List Flush = c.as_slice-flush-items.result.now in
    let free = subst (λ (b : Bool). MatchBool b (owner (get_or items c.loop-flush.flush-index none).element ≡ owners.Free) (owner (get_or items c.loop-flush.flush-index none).element ≢ owners.Free)) c.if-is_free.true c.is_free.ensures in
    one_flushed (λ e. owner e ≢ owners.Free) items c.loop-flush.flush-index none c.loop-flush-test.true
    (subst (λ (xs : List Flush). All (λ e. owner e ≢ owners.Free) (flushed_elements xs)) (sym c.as_slice-flush-items.ensures)
    (subst (λ (p : GlobalPart). All (λ e. owner e ≢ owners.Free) (flushed_in p)) c.in-Turn.is all)) free

pub loop-flush-preserved : goal.loop-flush-preserved
loop-flush-preserved c =
    let owner : ℕ → _ = (words_in (view_of c.args.kept.now)).owner in
    let items : List Flush = c.as_slice-flush-items.result.now in
    All-more (λ (flush : Flush). owner flush.element ≢ owners.Free) items c.loop-flush.flush-index none c.loop-flush-test.true c.loop-flush.invariant
    (subst (λ (b : Bool). MatchBool b (owner (get_or items c.loop-flush.flush-index none).element ≡ owners.Free) (owner (get_or items c.loop-flush.flush-index none).element ≢ owners.Free)) c.if-is_free.false c.is_free.ensures)

pub returns-after-loop-flush : goal.returns-after-loop-flush
returns-after-loop-flush c =
    let owner : ℕ → _ = (words_in (view_of c.args.kept.now)).owner in
    let items : List Flush = c.as_slice-flush-items.result.now in
    subst (λ (p : GlobalPart). All (λ e. owner e ≢ owners.Free) (flushed_in p)) (sym c.in-Turn.is)
    (subst (λ (xs : List Flush). All (λ e. owner e ≢ owners.Free) (flushed_elements xs)) c.as_slice-flush-items.ensures
    (all_flushed (λ e. owner e ≢ owners.Free) items
    (subst (All (λ (flush : Flush). owner flush.element ≢ owners.Free)) (take_all c.loop-flush.flush-index items c.loop-flush-test.false) c.loop-flush.invariant)))
