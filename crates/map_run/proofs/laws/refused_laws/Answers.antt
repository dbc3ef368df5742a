use Rattle.map_run.proofs.Refused.{kept_from_a_table, lone_calls_by_one, lone_phase_is_whole}
use Rattle.map_run.proofs.laws.refused_laws.Goals as goal

pub returns : goal.returns
returns c = record {
  kept = λ words left rest read_faults read_then before after write_faults written_then finish some none. kept_from_a_table words left rest read_faults read_then before after write_faults written_then finish some none;
  calls = λ t p before calls cpu start now told pieces lone many. lone_calls_by_one t p before calls cpu start now told pieces lone many;
  phases = λ script kept i p cpu strand lone at of part. lone_phase_is_whole script kept i p cpu strand lone at of part;
}
