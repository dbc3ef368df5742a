use Rattle.place_words.proofs.AnyStart.{new_start, done_from, gets_from, fine_from, logs_from, added_ascends}
use Rattle.place_words.proofs.laws.serial_laws.Goals as goal

pub returns-clause-start : goal.returns-clause-start
returns-clause-start c shape is = new_start shape is

pub returns-clause-done : goal.returns-clause-done
returns-clause-done c shape number calls state is below start = done_from shape number calls state below start

pub returns-clause-gets : goal.returns-clause-gets
returns-clause-gets c shape number calls state is below start = gets_from shape is number calls state below start

pub returns-clause-removes : goal.returns-clause-removes
returns-clause-removes c shape number calls state lock = fine_from shape number calls state lock

pub returns-clause-adds : goal.returns-clause-adds
returns-clause-adds c shape number calls state lock = (logs_from shape number calls state lock, added_ascends shape number calls state lock)
