use Rattle.std.proofs.Common.{◌≡◌, ◌∷◌, ◌++◌, ◌<◌, ℕ, List, length, drop, reverse, ap, sym, subst, ◌∙◌, arith}
use Rattle.map_types.specs.Parts.{part_size, written_own}
use Rattle.map_types.specs.Stored.{Stored}
use Rattle.bucket_chain.specs.Places.{values_at, with_values_at}
use Rattle.bucket_chain.proofs.Fronts.{all_before}
use Rattle.bucket_chain.proofs.Heads.{values_there, written_back}
use Rattle.bucket_chain.proofs.cells.Cells.write_own.Goals as goal

pub unreachable-requires : goal.unreachable-requires
unreachable-requires c =
    let past = all_before c.args.place c.args.self.now (sym c.take_front-front.ensures.rest ∙ c.in_default.ensures.0) in
    absurd (omega (arith, past, c.requires.at_body))

pub write_own-requires-clause-in_range : goal.write_own-requires-clause-in_range
write_own-requires-clause-in_range c =
    let at : drop c.args.place c.args.self.now ≡ c.in-Some.body ∷ c.pop.new.self = sym c.take_front-front.ensures.rest ∙ c.in-Some.ensures in
    let old : c.values_mut.result.now ≡ values_at c.args.place c.args.self.now =
    c.values_mut.ensures.value ∙ ap (λ (one : Stored). one.values) c.body_mut.ensures.value ∙ sym (values_there c.args.place c.args.self.now c.in-Some.body c.pop.new.self at) in
    subst (λ (values : List (List ℕ)). c.args.part < length values) (sym old) c.requires.in_range

pub write_own-requires-clause-exact : goal.write_own-requires-clause-exact
write_own-requires-clause-exact c =
    let at : drop c.args.place c.args.self.now ≡ c.in-Some.body ∷ c.pop.new.self = sym c.take_front-front.ensures.rest ∙ c.in-Some.ensures in
    let old : c.values_mut.result.now ≡ values_at c.args.place c.args.self.now =
    c.values_mut.ensures.value ∙ ap (λ (one : Stored). one.values) c.body_mut.ensures.value ∙ sym (values_there c.args.place c.args.self.now c.in-Some.body c.pop.new.self at) in
    subst (λ (values : List (List ℕ)). length c.args.value.now ≡ part_size values) (sym old) c.requires.exact

pub returns : goal.returns
returns c =
    let at : drop c.args.place c.args.self.now ≡ c.in-Some.body ∷ c.pop.new.self = sym c.take_front-front.ensures.rest ∙ c.in-Some.ensures in
    let old : c.values_mut.result.now ≡ values_at c.args.place c.args.self.now =
    c.values_mut.ensures.value ∙ ap (λ (one : Stored). one.values) c.body_mut.ensures.value ∙ sym (values_there c.args.place c.args.self.now c.in-Some.body c.pop.new.self at) in
    let front = c.take_front-front.result in
    let new = c.write_own.new.self in
    c.put_front.ensures ∙ ap (λ rest. reverse front ++ rest) c.push.ensures
    ∙ ap (λ (body : Stored). reverse front ++ (record body { values = new } ∷ c.pop.new.self)) c.body_mut.ensures.value
    ∙ written_back c.args.place c.args.self.now front c.in-Some.body c.pop.new.self new at c.take_front-front.ensures.front
    ∙ ap (λ values. with_values_at c.args.place values c.args.self.now) (c.write_own.ensures ∙ ap (λ old. written_own c.args.part c.args.value.now old) old)
