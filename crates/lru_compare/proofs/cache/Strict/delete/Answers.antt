use Rattle.std.proofs.Common.{sym, ◌∙◌, refl}
use Rattle.lru_compare.proofs.Recency.{finds_none, finds_some, takes, misses}
use Rattle.lru_compare.proofs.cache.Strict.delete.Goals as goal

pub returns-in_default-clause-held : goal.returns-in_default-clause-held
returns-in_default-clause-held c =
    rw (finds_none (λ k. k.now) (λ v. v.now) c.self.inside.pairs c.self.inside.evicted c.args.key.now c.self.view_is (sym c.in_default.is ∙ c.pop.ensures.value))
    (misses (λ k. k.now) (λ v. v.now) c.self.inside.pairs c.self.inside.evicted c.args.key.now c.self.view_is c.pop.ensures.entries (sym c.in_default.is ∙ c.pop.ensures.value))

pub returns-in_default-clause-reply : goal.returns-in_default-clause-reply
returns-in_default-clause-reply c =
    rw (finds_none (λ k. k.now) (λ v. v.now) c.self.inside.pairs c.self.inside.evicted c.args.key.now c.self.view_is (sym c.in_default.is ∙ c.pop.ensures.value)) refl

pub returns-clause-held : goal.returns-clause-held
returns-clause-held c =
    rw (finds_some (λ k. k.now) (λ v. v.now) c.self.inside.pairs c.self.inside.evicted c.args.key.now c.self.view_is c.in-Some.ensures.value)
    (takes (λ k. k.now) (λ v. v.now) c.self.inside.pairs c.self.inside.evicted c.args.key.now c.self.view_is c.pop.ensures.entries)

pub returns-clause-reply : goal.returns-clause-reply
returns-clause-reply c =
    rw (finds_some (λ k. k.now) (λ v. v.now) c.self.inside.pairs c.self.inside.evicted c.args.key.now c.self.view_is c.in-Some.ensures.value) refl
