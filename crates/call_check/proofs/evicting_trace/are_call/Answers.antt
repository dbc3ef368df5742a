use Rattle.std.proofs.Common.{ℕ, None, eqb, length, List, ap, sym, ◌∙◌, subst}
use Rattle.std.specs.Prelude.{MatchBool}
use Rattle.std.proofs.lemmas.List.{length-map}
use Rattle.place_words.specs.Traces.{IsTrace}
use Rattle.evicting_traces.specs.Laws.{read_count}
use Rattle.evicting_traces.specs.Reading.{Seen, seen_at}
use Rattle.call_check.proofs.EvictingRead.{none_read, some_read}
use Rattle.call_check.proofs.evicting_trace.are_call.Goals as goal

pub returns-in-Some : goal.returns-in-Some
returns-in-Some c turns legal seen =
    let shape = c.args.shape.now in
    let verb = c.args.verb.now in
    let reply = c.args.reply.now in
    subst (λ (n : ℕ). MatchBool (eqb c.in-Some.count n) (IsTrace shape c.args.cpu None verb turns reply) (IsTrace shape c.args.cpu None verb turns reply → ⊥))
    (sym (c.len.ensures ∙ (ap (λ (l : List Seen). length l) seen ∙ length-map turns (seen_at shape))))
    (some_read shape c.requires.evicts c.args.cpu verb reply turns legal c.in-Some.count (sym (ap (read_count shape c.args.cpu verb) seen) ∙ c.in-Some.ensures))

pub returns-in-None : goal.returns-in-None
returns-in-None c turns legal seen =
    let shape = c.args.shape.now in
    none_read shape c.requires.evicts c.args.cpu c.args.verb.now c.args.reply.now turns
    (λ n is. c.in-None.ensures n (ap (read_count shape c.args.cpu c.args.verb.now) seen ∙ is))
