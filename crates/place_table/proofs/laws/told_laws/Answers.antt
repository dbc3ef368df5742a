use Rattle.place_table.proofs.Refused.{tells_true, mark_stores, clear_stores, looks_there, owner_looks, tells_turns, keeps_turns, draws_one, draws_there, gives_drawn}
use Rattle.place_table.proofs.laws.told_laws.Goals as goal

pub returns : goal.returns
returns c = record {
  told = λ shape s pass i n v u slots act x r seated after real more same. tells_true shape s pass i n v u slots act x r seated after real more same;
  mark = λ shape slots pass e me s r wide seated real is allows. mark_stores shape slots pass e me s r wide seated real is allows;
  clear = λ shape slots pass e me s r wide seated real is allows. clear_stores shape slots pass e me s r wide seated real is allows;
  bit = λ shape slots pass e d me s r wide seated real there is none allows. looks_there shape slots pass e d me s r wide seated real there is none allows;
  owner = λ shape slots pass e i f me s r wide seated real apart small taken allows. owner_looks shape slots pass e i f me s r wide seated real apart small taken allows;
  home = λ shape s pass i n v slots act at turns e cpu r seated after is_there. tells_turns shape s pass i n v slots act at turns e cpu r seated after is_there;
  homes = λ shape s pass v r seated. keeps_turns shape s pass v r seated;
  draw = λ shape slots pass f me s r wide seated small other allows. draws_one shape slots pass f me s r wide seated small other allows;
  draw_there = λ shape slots pass i f me s r wide seated apart small allows. draws_there shape slots pass i f me s r wide seated apart small allows;
  give = λ shape slots pass i f me entry kept s r wide seated small more other allows. gives_drawn shape slots pass i f me entry kept s r wide seated small more other allows;
}
