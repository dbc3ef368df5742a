-- Cells and what owns them may cross threads: what a body owns and what the cells behind it own name no thread. Of a type that
-- reaches itself `search` finds no proof, so each type above a cell cites one from here.
use denote.RattleType.{RattleType}
use denote.Param.Send.{IsSend, IsSync, sendable, view_send, view_sync, struct_send, struct_sync, recorded_send, recorded_sync}
use denote.Param.SendFields.{declared_send, declared_sync, as_row_send, as_row_sync}
use denote.Hole.{as_row}
use denote.Struct.Field.{row_field}
use denote.Struct.Declared.{row, shape}
use denote.Hole.FixSend.{Sends, Syncs, fix_send, fix_sync}
use Rattle.std.proofs.Crossing.{Box-send, Box-sync, Vec-send, Vec-sync}
use Rattle.std.specs.contracts.option.Option as Option
use Rattle.std.specs.contracts.boxed.Box as Box
use Rattle.std.specs.contracts.alloc.Global as Global
use Rattle.std.below.std_heap.specs.contracts.GlobalAllocator.TheImpl.{ghosts}
use Rattle.percpu_values.specs.contracts.body.Body as Body
use Rattle.percpu_values.proofs.body.Body.TheSendSync as body
use Rattle.percpu_values.specs.contracts.cell.Cell as Cell
use Rattle.percpu_values.specs.contracts.boxed.BoxedBody as BoxedBody
use Rattle.percpu_values.specs.contracts.boxed.BoxedBody.TheInside as InBoxed
use Rattle.percpu_values.specs.contracts.stack.BodyStack as BodyStack
use Rattle.percpu_values.specs.contracts.stack.BodyStack.TheInside as InStack

-- the link to a next cell whose type is this one
abbrev pub link : RattleType → RattleType
link R = Option.the_row (Box.the_row R Global.the_row ghosts)

link_send : (R : RattleType) → IsSend R → IsSend (link R)
link_send R s = let b = Box-send R s in search sendable depth 20

link_sync : (R : RattleType) → IsSync R → IsSync (link R)
link_sync R s = let b = Box-sync R s in search sendable depth 20

layer_send : (R : RattleType) → IsSend R → IsSend (row (Cell.the_layer (λ _. R)))
layer_send R s = declared_send (Cell.the_layer (λ _. R)) (as_row_send (row_field (as_row Body.the_field)) (as_row_send Body.the_field body.the_send), (as_row_send (row_field (link R)) (link_send R s), tt))

layer_sync : (R : RattleType) → IsSync R → IsSync (row (Cell.the_layer (λ _. R)))
layer_sync R s = declared_sync (Cell.the_layer (λ _. R)) (as_row_sync (row_field (as_row Body.the_field)) (as_row_sync Body.the_field body.the_sync), (as_row_sync (row_field (link R)) (link_sync R s), tt))

hole_send : IsSend Cell.the_hole
hole_send = fix_send Cell.the_ring (Cell.by_members (Sends Cell.the_ring) (record { send = λ h s. layer_send (h Cell.the_member) (s Cell.the_member) })) Cell.the_member

hole_sync : IsSync Cell.the_hole
hole_sync = fix_sync Cell.the_ring (Cell.by_members (Syncs Cell.the_ring) (record { sync = λ h s. layer_sync (h Cell.the_member) (s Cell.the_member) })) Cell.the_member

pub cell_send : IsSend Cell.the_row
cell_send = declared_send Cell.the_type (as_row_send Body.the_field body.the_send, (as_row_send (row_field (link Cell.the_hole)) (link_send Cell.the_hole hole_send), tt))

pub cell_sync : IsSync Cell.the_row
cell_sync = declared_sync Cell.the_type (as_row_sync Body.the_field body.the_sync, (as_row_sync (row_field (link Cell.the_hole)) (link_sync Cell.the_hole hole_sync), tt))

-- a list of cells
pub cells_send : IsSend (link Cell.the_row)
cells_send = link_send Cell.the_row cell_send

pub cells_sync : IsSync (link Cell.the_row)
cells_sync = link_sync Cell.the_row cell_sync

-- a body in a cell, and a stack of such
pub boxed_send : IsSend BoxedBody.the_row
boxed_send = let b = Box-send Cell.the_row cell_send in view_send InBoxed.the_row _ _ _ _ (recorded_send (InBoxed.the_field).row _ _ (InBoxed.the_type).to_one (struct_send (shape InBoxed.the_type) (b, tt)))

pub boxed_sync : IsSync BoxedBody.the_row
boxed_sync = let b = Box-sync Cell.the_row cell_sync in view_sync InBoxed.the_row _ _ _ _ (recorded_sync (InBoxed.the_field).row _ _ (InBoxed.the_type).to_one (struct_sync (shape InBoxed.the_type) (b, tt)))

pub stack_send : IsSend BodyStack.the_row
stack_send = let b = Vec-send BoxedBody.the_row boxed_send in view_send InStack.the_row _ _ _ _ (recorded_send (InStack.the_field).row _ _ (InStack.the_type).to_one (struct_send (shape InStack.the_type) (b, tt)))

pub stack_sync : IsSync BodyStack.the_row
stack_sync = let b = Vec-sync BoxedBody.the_row boxed_sync in view_sync InStack.the_row _ _ _ _ (recorded_sync (InStack.the_field).row _ _ (InStack.the_type).to_one (struct_sync (shape InStack.the_type) (b, tt)))
