use Rattle.map_script.proofs.LineLaws.{read_comment, read_blank, read_blanks, read_at_end, read_at_begin, read_first}
use Rattle.map_script.proofs.laws.reading_laws.Goals as goal

pub returns-clause-comment : goal.returns-clause-comment
returns-clause-comment c form before comment rest one ends = read_comment form before comment rest one ends

pub returns-clause-blank : goal.returns-clause-blank
returns-clause-blank c form before rest b d b_is d_is = read_blank form before rest b d b_is d_is

pub returns-clause-blanks : goal.returns-clause-blanks
returns-clause-blanks c form before rest b d b_is d_is = read_blanks form before rest b d b_is d_is

pub returns-clause-at_end : goal.returns-clause-at_end
returns-clause-at_end c form before rest b b_is ends = read_at_end form before rest b b_is ends

pub returns-clause-at_begin : goal.returns-clause-at_begin
returns-clause-at_begin c form before rest b b_is = read_at_begin form before rest b b_is

pub returns-clause-first : goal.returns-clause-first
returns-clause-first c form rest b b_is = read_first form rest b b_is
