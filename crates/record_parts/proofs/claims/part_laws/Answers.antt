use Rattle.record_parts.proofs.PhaseLaws.{phases_are_judged, records_have_their_phases}
use Rattle.record_parts.proofs.StrandLaws.{strands_are_judged}
use Rattle.record_parts.proofs.OwnCalls.{records_have_their_strands}
use Rattle.record_parts.proofs.claims.part_laws.Goals as goal

pub returns-clause-phases : goal.returns-clause-phases
returns-clause-phases c = phases_are_judged

pub returns-clause-phases_of_records : goal.returns-clause-phases_of_records
returns-clause-phases_of_records c = records_have_their_phases

pub returns-clause-strands : goal.returns-clause-strands
returns-clause-strands c = strands_are_judged

pub returns-clause-strands_of_records : goal.returns-clause-strands_of_records
returns-clause-strands_of_records c = records_have_their_strands
