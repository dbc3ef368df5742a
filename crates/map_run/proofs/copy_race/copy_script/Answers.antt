use Rattle.std.proofs.Common.{◌≡◌, List, refl, sym, subst}
use Rattle.std.proofs.lemmas.Result.{IfOk-weaker}
use Rattle.map_types.specs.Creation.{IsShape}
use Rattle.map_types.specs.declared.attr.Shape.{Shape}
use Rattle.map_types.specs.declared.reply.Reply.{Reply}
use Rattle.map_batch.specs.Calls.{table_of}
use Rattle.map_copy.specs.CopyScripts.{extended}
use Rattle.place_words.specs.Phases.{phase_count}
use Rattle.run_records.specs.Copies.{IsCopyOf, record_left}
use Rattle.run_records.proofs.PhaseParts.{whole_to}
use Rattle.map_run.specs.Copying.{IsCopyRecord}
use Rattle.map_run.proofs.CopyRecords.{all_kept, copy_is_record, copies_are_kept}
use Rattle.map_run.proofs.copy_race.copy_script.Goals as goal

pub returns-clause-record : goal.returns-clause-record
returns-clause-record g c =
    IfOk-weaker c.keep_both.result _ (λ kept. IsCopyRecord c.args.script.now c.args.into.now kept.0 kept.2.reads kept.2.target)
    (λ kept is. subst (λ (reads : List Reply). IsCopyRecord c.args.script.now c.args.into.now kept.0 reads kept.2.target) (sym (is.1))
    (copy_is_record c.requires.script c.in_ok-source.ensures.0 (subst IsShape (sym c.in_ok-target.ensures.0) c.requires.target) c.requires.some c.in_ok-copied.ensures c.in_ok-closed.ensures (is.0.2) c.in_ok-put_closed.ensures (is.2.2) kept.0 kept.2.target (is.0.0)
    (subst (λ (s : Shape). kept.2.target ≡ record_left s.cpus c.in_ok-copied.copied.put.pieces.items c.in_ok-copied.copied.put.replies.items c.in_ok-copied.copied.put.starts.items c.in_ok-put_closed.put_closed) (sym c.in_ok-target.ensures.0) (is.2.0)) c.args.into.now c.in_ok-target.ensures.0 refl c.requires.fits))
    (all_kept _ _ _ c.keep_both.result c.keep_both.ensures.source c.keep_both.ensures.reads c.keep_both.ensures.target)

pub returns-clause-closed : goal.returns-clause-closed
returns-clause-closed g c =
    IfOk-weaker c.keep_both.result _ (λ kept. IsCopyOf kept.0 kept.1 × IsCopyOf kept.2.target kept.2.closed)
    (λ kept is. copies_are_kept c.requires.script c.in_ok-source.ensures.0 (subst IsShape (sym c.in_ok-target.ensures.0) c.requires.target) c.requires.some c.in_ok-copied.ensures c.in_ok-closed.ensures (is.0.2) c.in_ok-put_closed.ensures (is.2.2) kept.0 kept.2.target kept.1 kept.2.closed (is.0.0)
    (subst (λ (s : Shape). kept.2.target ≡ record_left s.cpus c.in_ok-copied.copied.put.pieces.items c.in_ok-copied.copied.put.replies.items c.in_ok-copied.copied.put.starts.items c.in_ok-put_closed.put_closed) (sym c.in_ok-target.ensures.0) (is.2.0)) (is.0.1) (is.2.1))
    (all_kept _ _ _ c.keep_both.result c.keep_both.ensures.source c.keep_both.ensures.reads c.keep_both.ensures.target)

pub close-requires-clause-table : goal.close-requires-clause-table
close-requires-clause-table g c = (whole_to (table_of c.in_ok-source.source) (extended c.args.script.now c.in_ok-copied.ensures.steps) (phase_count c.args.script.now.cuts) c.copy_last.new.pass _ _ _ c.in_ok-copied.ensures.come).of_table

pub close-requires-2-clause-table : goal.close-requires-2-clause-table
close-requires-2-clause-table g c = c.in_ok-copied.ensures.put_whole.of_table

pub close-requires-clause-all_cpus : goal.close-requires-clause-all_cpus
close-requires-clause-all_cpus g c = (whole_to (table_of c.in_ok-source.source) (extended c.args.script.now c.in_ok-copied.ensures.steps) (phase_count c.args.script.now.cuts) c.copy_last.new.pass _ _ _ c.in_ok-copied.ensures.come).all_cpus

pub close-requires-2-clause-all_cpus : goal.close-requires-2-clause-all_cpus
close-requires-2-clause-all_cpus g c = c.in_ok-copied.ensures.put_whole.all_cpus

pub close-requires-clause-in_no_call : goal.close-requires-clause-in_no_call
close-requires-clause-in_no_call g c = (whole_to (table_of c.in_ok-source.source) (extended c.args.script.now c.in_ok-copied.ensures.steps) (phase_count c.args.script.now.cuts) c.copy_last.new.pass _ _ _ c.in_ok-copied.ensures.come).in_no_call

pub close-requires-2-clause-in_no_call : goal.close-requires-2-clause-in_no_call
close-requires-2-clause-in_no_call g c = c.in_ok-copied.ensures.put_whole.in_no_call
