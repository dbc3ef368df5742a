use Rattle.std.proofs.Common.{◌≡◌, ◌∷◌, ◌+◌, ◌-◌, ◌<◌, ◌≤◌, drop, sym, subst}
use Rattle.place_words.specs.Turns.{ring}
use Rattle.evicting_traces.proofs.Rings.{upwards, wrapped}
use Rattle.evicting_traces.proofs.takes.in_ring.Goals as goal

pub returns-then-place-upwards-clause-there : goal.returns-then-place-upwards-clause-there
returns-then-place-upwards-clause-there c = upwards c.args.start c.args.cpus c.args.place c.requires (subst (λ n. c.args.place < n) c.saturating_sub-upwards.ensures c.if-place-upwards.true)

pub returns-else-place-upwards-clause-there : goal.returns-else-place-upwards-clause-there
returns-else-place-upwards-clause-there c =
    subst (λ n. drop c.args.place (ring c.args.start c.args.cpus) ≡ (c.args.place - n) ∷ drop (c.args.place + 1) (ring c.args.start c.args.cpus)) (sym c.saturating_sub-upwards.ensures)
    (wrapped c.args.start c.args.cpus c.args.place c.requires (subst (λ n. n ≤ c.args.place) c.saturating_sub-upwards.ensures c.if-place-upwards.false))
