use Rattle.race_words.proofs.AnyLaw.{races_run}
use Rattle.race_words.proofs.OwnLaw.{own_races_run}
use Rattle.race_words.proofs.OwnersLook.{owners_look_right, told_races_run}
use Rattle.race_words.proofs.PlainLaw.{plain_races_run}
use Rattle.race_words.proofs.SharedLaw.{shared_races_run}
use Rattle.race_words.proofs.RunNests.{runs_nest}
use Rattle.race_words.proofs.laws.race_laws.Goals as goal

pub returns-clause-plain : goal.returns-clause-plain
returns-clause-plain c = plain_races_run

pub returns-clause-own : goal.returns-clause-own
returns-clause-own c = own_races_run

pub returns-clause-shared : goal.returns-clause-shared
returns-clause-shared c = shared_races_run

pub returns-clause-any : goal.returns-clause-any
returns-clause-any c = races_run

pub returns-clause-needed : goal.returns-clause-needed
returns-clause-needed c = runs_nest

pub returns-clause-looks : goal.returns-clause-looks
returns-clause-looks c = owners_look_right

pub returns-clause-told : goal.returns-clause-told
returns-clause-told c = told_races_run
