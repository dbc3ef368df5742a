use Rattle.std.proofs.Common.{◌≡◌, ℕ, List, None, Option, length, refl, ap, sym, ◌∙◌, subst}
use Rattle.place_words.specs.StrandSteps.{row_read}
use Rattle.place_words.specs.Turns.{TurnAt}
use Rattle.place_words.specs.Traces.{IsTrace}
use Rattle.replay_words.specs.declared.note.Note.TheVariants.{Nothing}
use Rattle.evicting_traces.specs.Reading.{all_seen}
use Rattle.call_check.specs.By.{IsTraceBy}
use Rattle.call_check.specs.RightCalls.{spare_first, turns_named}
use Rattle.call_check.specs.SeenRows.{AreKnown}
use Rattle.call_check.specs.Steps.{Histories}
use Rattle.call_check.proofs.ByForms.{by_none, decided, with_none}
use Rattle.call_check.proofs.RefillsOf.{refills_legal}
use Rattle.call_check.proofs.WellNamed.{part_fits}
use Rattle.call_check.proofs.evicting_trace.is_evicting_trace.Goals as goal

pub seen_row-requires-clause-known : goal.seen_row-requires-clause-known
seen_row-requires-clause-known c =
    let script = c.args.script.now in
    let kept = c.args.kept.now in
    let shaped = c.requires.record.shaped in
    subst (λ (h : Histories). AreKnown script.shape h.all c.args.notes.now c.args.gone.now Nothing) (sym c.requires.histories)
    (record {
      evicts = c.requires.evicts;
      locks = shaped.locks;
      fit = part_fits script.shape (length script.calls) kept.histories shaped.locks shaped.histories;
      noted = c.requires.record.noted;
      gone_are = c.requires.gone;
      nothing_is = refl;
    })

pub returns : goal.returns
returns c =
    let script = c.args.script.now in
    let kept = c.args.kept.now in
    let call = c.args.call.now in
    let reply = c.args.reply.now in
    let row = row_read c.args.row in
    let turns : List TurnAt = turns_named kept.histories row in
    let spares : List TurnAt → Option ℕ = spare_first script.cuts script.shape kept.histories call.cpu in
    let seen : c.of-turns.result ≡ all_seen script.shape turns =
    c.of-turns.ensures ∙ (c.as_slice.ensures.value ∙ (c.in_ok-seens.ensures ∙ ap (λ (h : Histories). all_seen script.shape (turns_named h.all row)) c.requires.histories)) in
    let legal = refills_legal script.shape kept.histories c.requires.record.shaped.locks c.requires.record.legal call.cpu row c.requires.named c.requires.its_cpu in
    decided {A = IsTrace script.shape call.cpu None call.verb turns reply} {B = IsTraceBy script.shape call.cpu spares call.verb turns reply} c.are_call.result
    (λ is. by_none script.shape call.cpu spares c.requires.evicts call.verb turns reply is) (λ is. with_none script.shape call.cpu spares c.requires.evicts call.verb turns reply is)
    (c.are_call.ensures turns legal seen)
