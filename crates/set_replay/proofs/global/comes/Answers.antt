use Rattle.std.proofs.Common.{sym, ◌∙◌}
use Rattle.std.proofs.lemmas.Bool.{true≢false}
use Rattle.set_replay.proofs.GlobalLemmas.{comes_in}
use Rattle.set_replay.proofs.global.comes.Goals as goal

pub returns : goal.returns
returns g c =
    comes_in c.args.flush c.args.set.now c.take_off.new.self c.move_in.new.self c.args.marks.now c.list_of.result c.take_off.ensures.was_whole c.requires.marks c.if-marks-flush.false
    (λ some. true≢false (sym (c.take_off.ensures.present.1 some) ∙ (sym c.is_some.ensures ∙ c.if-is_some.false)))
    c.take_off.ensures.exact c.list_of.ensures c.move_in.ensures.exact
