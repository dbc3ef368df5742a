-- What is kept of a run of the program over the shared table.
use Rattle.std.specs.Prelude.{◌≡◌, Option, None, Some}
use Rattle.map_script.specs.declared.script.Script.{Script}
use Rattle.map_script.specs.declared.script.Target.{Target}
use Rattle.map_report.specs.declared.record.RunRecord.{RunRecord}
use Rattle.map_report.specs.Runs.{serial}
use Rattle.place_words.specs.Interleaving.{CoreRun}
use Rattle.one_map.specs.Linear.{IsLinearizable}
use Rattle.record_shape.specs.WellShaped.{WellShaped}
use Rattle.run_words.specs.declared.words.Mode.{Mode}
use Rattle.run_words.specs.declared.words.Mode.TheVariants.{Serial, Race, Gen, Compare, Check, Copy}
use Rattle.serial_laws.specs.Laws.{SerialLaws}
use Rattle.run_records.specs.Races.{IsRaceRecord}
use Rattle.run_endings.specs.Finish.{CopyKept}
use Rattle.map_run.specs.Copying.{IsCopyRecord}

-- What is kept of a script into whose target its map was copied.
abbrev pub RanInto : Option Target → Script → RunRecord → Option CopyKept → Type 0
RanInto (Some target) script kept (Some copy) = IsCopyRecord script target kept copy.reads copy.target
RanInto (Some target) script kept None = ⊥
RanInto None script kept copy = ⊥

-- What is kept of a script that ran in a mode. In serial order, which is that of generated calls and of comparisons too, it is
-- that of the calls one after another, by the logs of the locks, and the laws of such runs hold. In a race it is a record of the script, in
-- whatever order the CPUs' steps fell within each phase, whose turns, in the order of their tickets, are a run of the core, and which is
-- linearizable; and each phase whose calls are all of one CPU, or that has none, is exact and answers no ENOMEM. In each of these four modes the record is well
-- shaped, and there is no copy. In mode `copy` it is, with the reads' replies at its end, the record of a race of the script with the
-- reads as calls of its last phase, and the copy is kept. In mode `check` no script is run.
abbrev pub RanAs : Mode → Script → RunRecord → Option CopyKept → Type 0
RanAs Serial script kept copy = (copy ≡ None) × (kept ≡ serial script) × SerialLaws script × WellShaped script kept
RanAs Race script kept copy = (copy ≡ None) × IsRaceRecord script kept × CoreRun script.shape kept.histories × IsLinearizable script kept × WellShaped script kept
RanAs Gen script kept copy = (copy ≡ None) × (kept ≡ serial script) × SerialLaws script × WellShaped script kept
RanAs Compare script kept copy = (copy ≡ None) × (kept ≡ serial script) × SerialLaws script × WellShaped script kept
RanAs Check script kept copy = ⊥
RanAs Copy script kept copy = RanInto script.target script kept copy
