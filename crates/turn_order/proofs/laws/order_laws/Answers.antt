use Rattle.turn_order.proofs.TicketOrder.{ordered_tickets}
use Rattle.turn_order.proofs.LockOrder.{locks_of_ordered, entries_on, one_order}
use Rattle.turn_order.proofs.Picked.{picked_in_order}
use Rattle.turn_order.proofs.FirstEvents.{to_all, to_some}
use Rattle.turn_order.proofs.laws.order_laws.Goals as goal

pub returns-clause-tickets : goal.returns-clause-tickets
returns-clause-tickets c histories once = ordered_tickets histories once

pub returns-clause-on_locks : goal.returns-clause-on_locks
returns-clause-on_locks c histories once ascend apart = (locks_of_ordered histories once apart, λ lock. entries_on histories once apart ascend lock)

pub returns-clause-one : goal.returns-clause-one
returns-clause-one c histories once apart turns tickets are = one_order histories once apart turns tickets are

pub returns-clause-picked : goal.returns-clause-picked
returns-clause-picked c histories once picks turns ascend are all = picked_in_order histories once picks turns ascend are all

pub returns-clause-to : goal.returns-clause-to
returns-clause-to c shape contents begun turns = (to_all shape contents begun turns, λ n. to_some shape contents begun turns n)
