-- A run in serial order, phase by phase.
use Rattle.std.specs.Prelude.{◌≡◌, ℕ, List, [], None, length, map, take}
use Rattle.std.specs.List.{range_with_len}
use Rattle.map_types.specs.declared.reply.Reply.{Reply}
use Rattle.map_script.specs.declared.script.Script.{Script}
use Rattle.place_table.specs.Passes.{PassView, TableView}
use Rattle.place_words.specs.Phases.{calls_before}
use Rattle.map_report.specs.declared.record.PhaseStart.{PhaseStart}
use Rattle.map_report.specs.Runs.{start_of, state_before, strand_of_phase}
use Rattle.run_records.specs.declared.pieces.Piece.{Piece}
use Rattle.run_records.specs.ByLogs.{HaveRun}

-- the piece of a phase each of whose turns is recorded
abbrev pub piece_of : Script → ℕ → Piece
piece_of script p = record { phase = p; cpu = None; count = length (strand_of_phase script p).steps }

-- So many of a script's phases were run, on a pass that has all CPUs. Where no lock's record is lost, and each turn got its number,
-- the starts of these phases are those of the run by the logs of the locks; where each turn is recorded, so are the pieces.
pub record HaveRunPhases (t : TableView) (script : Script) (p : ℕ) (pass : PassView) (replies : List Reply) (starts : List PhaseStart) (pieces : List Piece) : Type 0 where
  pub run : HaveRun t (take (calls_before script.cuts (length script.calls) p) script.calls) pass replies
  pub starts_are : pass.view.lost ≡ [] → pass.view.refused ≡ 0 → starts ≡ map (λ q. start_of script.shape (state_before script q)) (range_with_len 0 p)
  pub pieces_are : pass.view.lost ≡ [] → length pass.view.kept ≡ length pass.view.steps → pieces ≡ map (piece_of script) (range_with_len 0 p)
