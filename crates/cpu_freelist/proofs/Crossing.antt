-- A freelist may cross threads, as its bodies may.
use denote.Param.Send.{IsSend, view_send}
use denote.Param.SendFields.{declared_send, as_row_send}
use denote.Struct.Field.{row_field}
use Rattle.percpu_values.specs.contracts.stack.BodyStack as BodyStack
use Rattle.percpu_values.proofs.Crossing.{stack_send}
use Rattle.cpu_freelist.specs.contracts.freelist.Freelist as Freelist
use Rattle.cpu_freelist.specs.contracts.freelist.Freelist.TheInside as InFreelist

pub freelist_send : IsSend Freelist.the_row
freelist_send = view_send InFreelist.the_row _ _ _ _ (declared_send InFreelist.the_type (as_row_send (row_field BodyStack.the_row) stack_send, tt))
