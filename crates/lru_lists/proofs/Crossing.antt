-- A set of lists may cross threads, as its rows and its bodies may.
use denote.RattleType.{RattleType}
use denote.Builtin.{u32}
use denote.Param.Send.{IsSend, view_send, sendable}
use denote.Param.SendFields.{declared_send, as_row_send}
use denote.Struct.Field.{row_field}
use Rattle.std.proofs.Crossing.{Box-send}
use Rattle.std.specs.contracts.option.Option as Option
use Rattle.std.specs.contracts.boxed.Box as Box
use Rattle.std.specs.contracts.alloc.Global as Global
use Rattle.std.below.std_heap.specs.contracts.GlobalAllocator.TheImpl.{ghosts}
use Rattle.row_list.specs.declared.rows.Rows.{Ghosts}
use Rattle.percpu_values.specs.contracts.stack.BodyStack as BodyStack
use Rattle.percpu_values.proofs.Crossing.{stack_send}
use Rattle.lru_lists.specs.contracts.set.Lists as Lists
use Rattle.lru_lists.specs.contracts.set.ListSet as ListSet
use Rattle.lru_lists.specs.contracts.set.ListSet.TheInside as InSet

cursor_send : IsSend (Option.the_row u32)
cursor_send = search sendable depth 20

lists_send : (R : RattleType) (g : Ghosts R.Denot) → IsSend R → IsSend (Lists.the_row R)
lists_send R g s = declared_send (Lists.the_type R) (as_row_send (row_field R) s, (as_row_send (row_field R) s, (as_row_send (row_field BodyStack.the_row) stack_send, (cursor_send, tt))))

pub set_send : (R : RattleType) (g : Ghosts R.Denot) → IsSend R → IsSend (ListSet.the_row R g)
set_send R g s = view_send (InSet.the_row R g) _ _ _ _ (declared_send (InSet.the_type R g) (as_row_send (row_field (Box.the_row (Lists.the_row R) Global.the_row ghosts)) (Box-send (Lists.the_row R) (lists_send R g s)), tt))
