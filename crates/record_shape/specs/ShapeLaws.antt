-- The law of records of runs: each is well shaped.
use Rattle.map_script.specs.declared.script.Script.{Script}
use Rattle.map_script.specs.WellFormed.{IsWellFormed}
use Rattle.map_report.specs.declared.record.RunRecord.{RunRecord}
use Rattle.map_report.specs.Record.{IsRecord}
use Rattle.record_shape.specs.OfTable.{IsOfTable}
use Rattle.record_shape.specs.WellShaped.{WellShaped}

abbrev pub RecordsAreShaped : Type 0
RecordsAreShaped = (script : Script) (kept : RunRecord) → IsWellFormed script → IsRecord script kept → IsOfTable script kept → WellShaped script kept
