use Rattle.record_check.proofs.Laws.{flaw_refutes_legal, flaw_refutes_record, one_flaw, records_tell, replays_decide, told_is_contents}
use Rattle.record_check.proofs.claims.history_laws.Goals as goal

pub returns : goal.returns
returns c = record {
  legal = flaw_refutes_legal;
  refuted = flaw_refutes_record;
  one = one_flaw;
  contents = told_is_contents;
  told = records_tell;
  decided = replays_decide;
}
