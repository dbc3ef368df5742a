use Rattle.record_order.proofs.Law.{where_none_is_wrong}
use Rattle.record_order.proofs.Named.{names_entries, whole_records}
use Rattle.record_order.proofs.claims.ticket_laws.Goals as goal

pub returns-clause-exact : goal.returns-clause-exact
returns-clause-exact c = where_none_is_wrong

pub returns-clause-named : goal.returns-clause-named
returns-clause-named c = names_entries

pub returns-clause-whole : goal.returns-clause-whole
returns-clause-whole c = whole_records
