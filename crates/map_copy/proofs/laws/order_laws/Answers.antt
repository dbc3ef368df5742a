use Rattle.map_copy.proofs.EndLemmas.{ends_there}
use Rattle.map_copy.proofs.NeighbourLemmas.{follows_each, begins_at_first}
use Rattle.map_copy.proofs.RowsWorked.{copies_all, copies_none, stops_early, stops_full}
use Rattle.map_copy.proofs.laws.order_laws.Goals as goal

pub returns-clause-first : goal.returns-clause-first
returns-clause-first c = begins_at_first

pub returns-clause-follows : goal.returns-clause-follows
returns-clause-follows c = follows_each

pub returns-clause-ends : goal.returns-clause-ends
returns-clause-ends c = ends_there

pub returns-clause-copies_all : goal.returns-clause-copies_all
returns-clause-copies_all c = copies_all

pub returns-clause-copies_none : goal.returns-clause-copies_none
returns-clause-copies_none c = copies_none

pub returns-clause-stops_early : goal.returns-clause-stops_early
returns-clause-stops_early c = stops_early

pub returns-clause-stops_full : goal.returns-clause-stops_full
returns-clause-stops_full c = stops_full
