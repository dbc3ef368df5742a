use Rattle.workload_gen.proofs.DrawLemmas.{drawn_more, call_is}
use Rattle.workload_gen.proofs.mixes.drawn_call.Goals as goal

pub returns-in_err-drawn_verb-clause-drawn : goal.returns-in_err-drawn_verb-clause-drawn
returns-in_err-drawn_verb-clause-drawn c =
    drawn_more c.args.spec.now c.args.i c.requires.drawn c.draw-cpu.ensures.state c.draw-choice.ensures.state c.draw-key.ensures.state

pub returns-clause-call : goal.returns-clause-call
returns-clause-call c =
    call_is c.args.spec.now c.args.i c.requires.drawn c.draw-cpu.ensures.state c.draw-choice.ensures.state c.draw-key.ensures.state
    c.args.shape.now c.draw-cpu.ensures.answer c.draw-choice.ensures.answer c.draw-key.ensures.answer c.in_ok-drawn_verb.ensures

pub returns-clause-drawn : goal.returns-clause-drawn
returns-clause-drawn c =
    drawn_more c.args.spec.now c.args.i c.requires.drawn c.draw-cpu.ensures.state c.draw-choice.ensures.state c.draw-key.ensures.state
