use Rattle.lru_compare.proofs.Recency.{promotes}
use Rattle.lru_compare.proofs.cache.Strict.use_by.Goals as goal

pub returns-in-Prog : goal.returns-in-Prog
returns-in-Prog c = λ value found. rw c.in-Prog.is (promotes (λ k. k.now) (λ v. v.now) c.self.inside.pairs c.self.inside.evicted c.args.key.now value c.self.view_is c.promote.ensures.entries found)
