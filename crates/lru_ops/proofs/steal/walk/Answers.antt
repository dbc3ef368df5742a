use Rattle.lru_ops.proofs.ThiefWalk.{may_go_on, found_first, found_second}
use Rattle.lru_ops.proofs.steal.walk.Goals as goal

pub search_all-requires-clause-can : goal.search_all-requires-clause-can
search_all-requires-clause-can g c κs within = may_go_on c.requires.can c.requires.none_free c.search_sparing.ensures c.in-None.is

pub returns-in-Some : goal.returns-in-Some
returns-in-Some g c = found_first c.requires.can c.requires.none_free c.search_sparing.ensures c.args.second.now c.in-Some.is

pub returns-in-None : goal.returns-in-None
returns-in-None g c = found_second c.requires.can c.requires.none_free c.search_sparing.ensures c.in-None.is c.search_all.ensures
