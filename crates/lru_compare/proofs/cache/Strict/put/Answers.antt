use Rattle.std.proofs.Common.{◌∙◌}
use Rattle.lru_compare.proofs.Recency.{puts}
use Rattle.lru_compare.proofs.cache.Strict.put.Goals as goal

pub returns-clause-held : goal.returns-clause-held
returns-clause-held c =
    puts (λ k. k.now) (λ v. v.now) c.self.inside.pairs c.self.inside.evicted c.args.key c.args.value c.self.view_is c.len.ensures.valid.2 c.len.ensures.valid.1
    c.in_ok-older.ensures.entries c.in_ok-older.ensures.old c.len.ensures.len (c.get.ensures.value ∙ c.cap.ensures) c.is_some.ensures c.counted-self-inside.ensures
