-- A chain may cross threads, as its cells may.
use denote.Param.Send.{IsSend, IsSync, plain_send, plain_sync, view_send, view_sync}
use denote.Param.SendFields.{declared_send, declared_sync, as_row_send, as_row_sync}
use denote.Builtin.{u32}
use denote.Struct.Field.{row_field}
use Rattle.percpu_values.proofs.Crossing.{cells_send, cells_sync}
use Rattle.bucket_chain.specs.contracts.cells.Cells as Cells
use Rattle.bucket_chain.specs.contracts.cells.Cells.TheInside as InCells
use Rattle.bucket_chain.specs.contracts.chain.Chain as Chain
use Rattle.bucket_chain.specs.contracts.chain.Chain.TheInside as InChain

list_send : IsSend Cells.the_row
list_send = view_send InCells.the_row _ _ _ _ (declared_send InCells.the_type (cells_send, tt))

list_sync : IsSync Cells.the_row
list_sync = view_sync InCells.the_row _ _ _ _ (declared_sync InCells.the_type (cells_sync, tt))

pub chain_send : IsSend Chain.the_row
chain_send = view_send InChain.the_row _ _ _ _ (declared_send InChain.the_type (as_row_send (row_field Cells.the_row) list_send, (as_row_send (row_field u32) (plain_send _ _ _ _ _), tt)))

pub chain_sync : IsSync Chain.the_row
chain_sync = view_sync InChain.the_row _ _ _ _ (declared_sync InChain.the_type (as_row_sync (row_field Cells.the_row) list_sync, (as_row_sync (row_field u32) (plain_sync _ _ _ _ _), tt)))
