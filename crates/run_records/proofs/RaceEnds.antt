-- What is kept of a race whose closed table lost no record is a record of its script, and a copy of what the table left.
use Rattle.std.proofs.Common.{◌≡◌, false, List, length, subst}
use Rattle.map_types.specs.Creation.{IsShape}
use Rattle.map_types.specs.declared.attr.Shape.{Shape}
use Rattle.map_types.specs.declared.reply.Reply.{Reply}
use Rattle.map_script.specs.declared.script.Script.{Script}
use Rattle.place_words.specs.Phases.{phase_count}
use Rattle.place_table.specs.Closing.{ClosedView, IsClosed}
use Rattle.place_table.specs.Passes.{PassView, TableView}
use Rattle.map_report.specs.declared.record.PhaseStart.{PhaseStart}
use Rattle.map_report.proofs.CutLemmas.{Rise}
use Rattle.serial_laws.specs.Served.{IsServed}
use Rattle.run_records.specs.declared.pieces.Piece.{Piece}
use Rattle.run_records.specs.Copies.{IsCopyOf, record_left}
use Rattle.run_records.specs.Races.{HaveComeTo, IsRaceRecord}
use Rattle.run_records.proofs.NestsOfRaces.{nests_of_races}
use Rattle.run_records.proofs.RaceRecord.{is_race_record, is_copy}

pub race_is_record : (script : Script) (t : TableView) (now : PassView) (replies : List Reply) (starts : List PhaseStart) (pieces : List Piece) (closed : ClosedView) → t.shape ≡ script.shape → IsShape script.shape → IsServed script → Rise 0 script.cuts (length script.calls)
    → HaveComeTo t script (phase_count script.cuts) now replies starts pieces → IsClosed t.shape now closed → closed.lost ≡ false
    → IsRaceRecord script (record_left script.shape.cpus pieces replies starts closed) × IsCopyOf (record_left script.shape.cpus pieces replies starts closed) closed
race_is_record script t now replies starts pieces closed same created served cuts come ends whole =
    let of_script : t ≡ record { id = t.id; shape = script.shape } = λ i. record { id = t.id; shape = same i } in
    let here = subst (λ (table : TableView). HaveComeTo table script (phase_count script.cuts) now replies starts pieces) of_script come in
    let left : IsClosed script.shape now closed = subst (λ (shape : Shape). IsClosed shape now closed) same ends in
    (is_race_record script t created served cuts now replies starts pieces here closed left whole (nests_of_races script t now replies starts pieces closed same created served cuts come ends whole), is_copy script t created served cuts now replies starts pieces here closed left whole)
