-- A worker may move to another thread.
use denote.Param.Send.{IsSend, plain_send, recorded_send, struct_send}
use denote.Struct.Declared.{shape}
use Rattle.place_table.proofs.Crossing.{pass_send}
use Rattle.map_run.specs.contracts.worker.Worker as Worker
use Rattle.file_order.proofs.queue.ReplyQueue.TheSendSync as queue

pub worker_send : IsSend Worker.the_row
worker_send = recorded_send (Worker.the_field).row _ _ (Worker.the_type).to_one (struct_send (shape Worker.the_type) (plain_send _ _ _ _ _, (pass_send, (queue.the_send, (plain_send _ _ _ _ _, tt)))))
