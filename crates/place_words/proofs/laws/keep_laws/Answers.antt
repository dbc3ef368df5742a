use Rattle.place_words.proofs.Cursors.{cursor_stays}
use Rattle.place_words.proofs.KeepLaws.{keeps_elements, keeps_rows, once_stays}
use Rattle.place_words.proofs.laws.keep_laws.Goals as goal

pub returns-clause-elements : goal.returns-clause-elements
returns-clause-elements c shape cpu part content allowed once = keeps_elements shape cpu part content allowed once

pub returns-clause-rows : goal.returns-clause-rows
returns-clause-rows c shape cpu part content allowed once = keeps_rows shape cpu part content allowed once

pub returns-clause-once : goal.returns-clause-once
returns-clause-once c shape cpu part content allowed once few = once_stays shape cpu part content allowed once few

pub returns-clause-cursor : goal.returns-clause-cursor
returns-clause-cursor c shape cpu part content within = cursor_stays shape cpu part content within
