-- The calls of each record are answered by one plain map.
use Rattle.turn_order.specs.Ordered.{ordered}
use Rattle.turn_order.proofs.Members.{contains_among}
use Rattle.one_map.specs.Linear.{RecordsAreOneMap}
use Rattle.one_map.proofs.InRecord.{record_is_one_map}
use Rattle.one_map.proofs.RecordCalls.{each_answered, each_of_call}

pub records_are_one_map : RecordsAreOneMap
records_are_one_map script kept suits record_is = record {
  one_map = record_is_one_map script kept record_is;
  calls = λ n call reply at_call at_reply. each_answered script kept suits record_is n call reply at_call at_reply;
  of_calls = λ drawn there. each_of_call script kept suits record_is drawn (contains_among drawn (ordered kept.histories) there);
}
