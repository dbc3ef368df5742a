use Rattle.std.proofs.Common.{refl, ◌≡◌, ap, Some}
use Rattle.map_types.specs.declared.reply.Reply.TheVariants as replies
use Rattle.lru_compare.specs.Strict.{value_of}
use Rattle.lru_compare.proofs.Recency.{finds_none, finds_some}
use Rattle.lru_compare.proofs.cache.Strict.look_up.Goals as goal

pub returns-in-None-clause-held : goal.returns-in-None-clause-held
returns-in-None-clause-held c = rw (finds_none (λ k. k.now) (λ v. v.now) c.self.inside.pairs c.self.inside.evicted c.args.key.now c.self.view_is c.in-None.ensures) refl

pub returns-in-None-clause-reply : goal.returns-in-None-clause-reply
returns-in-None-clause-reply c = rw (finds_none (λ k. k.now) (λ v. v.now) c.self.inside.pairs c.self.inside.evicted c.args.key.now c.self.view_is c.in-None.ensures) refl

pub returns-clause-held : goal.returns-clause-held
returns-clause-held c =
    let found : value_of c.args.key.now c.args.self.now ≡ Some c.in-Some.value.now.now = finds_some (λ k. k.now) (λ v. v.now) c.self.inside.pairs c.self.inside.evicted c.args.key.now c.self.view_is c.in-Some.ensures in
    rw found (c.use_by.ensures c.in-Some.value.now.now found)

pub returns-clause-reply : goal.returns-clause-reply
returns-clause-reply c =
    let found : value_of c.args.key.now c.args.self.now ≡ Some c.in-Some.value.now.now = finds_some (λ k. k.now) (λ v. v.now) c.self.inside.pairs c.self.inside.evicted c.args.key.now c.self.view_is c.in-Some.ensures in
    rw found (ap replies.Value (c.in_ok-from_slice.ensures))
