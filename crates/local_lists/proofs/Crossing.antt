-- A local set may cross threads, as its rows and its bodies may.
use denote.RattleType.{RattleType}
use denote.Builtin.{u32}
use denote.Param.Send.{IsSend, plain_send, view_send}
use denote.Param.SendFields.{declared_send, as_row_send}
use denote.Struct.Field.{row_field}
use Rattle.std.proofs.Crossing.{Box-send}
use Rattle.std.specs.contracts.boxed.Box as Box
use Rattle.std.specs.contracts.alloc.Global as Global
use Rattle.std.below.std_heap.specs.contracts.GlobalAllocator.TheImpl.{ghosts}
use Rattle.row_list.specs.declared.rows.Rows.{Ghosts}
use Rattle.percpu_values.specs.contracts.stack.BodyStack as BodyStack
use Rattle.percpu_values.proofs.Crossing.{stack_send}
use Rattle.local_lists.specs.contracts.set.LocalLists as LocalLists
use Rattle.local_lists.specs.contracts.set.LocalSet as LocalSet
use Rattle.local_lists.specs.contracts.set.LocalSet.TheInside as InLocal

lists_send : (R : RattleType) (g : Ghosts R.Denot) → IsSend R → IsSend (LocalLists.the_row R)
lists_send R g s = declared_send (LocalLists.the_type R) (as_row_send (row_field R) s, (as_row_send (row_field BodyStack.the_row) stack_send, (as_row_send (row_field u32) (plain_send _ _ _ _ _), tt)))

pub local_send : (R : RattleType) (g : Ghosts R.Denot) → IsSend R → IsSend (LocalSet.the_row R g)
local_send R g s = view_send (InLocal.the_row R g) _ _ _ _ (declared_send (InLocal.the_type R g) (as_row_send (row_field (Box.the_row (LocalLists.the_row R) Global.the_row ghosts)) (Box-send (LocalLists.the_row R) (lists_send R g s)), tt))
