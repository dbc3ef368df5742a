use Rattle.std.proofs.Common.{◌∙◌, ◌++◌, ◌∷◌, [], ap, subst}
use Rattle.map_types.specs.declared.kind.DomainId.{DomainId}
use Rattle.place_table.specs.Leaving.{IsHistory}
use Rattle.place_table.proofs.Leaves.{lost_one, kept_one}
use Rattle.place_table.proofs.close.Histories.keep.Goals as goal

pub returns-in_default-clause-kept : goal.returns-in_default-clause-kept
returns-in_default-clause-kept c = λ shape log lost n named there told is.
    lost_one shape log lost n c.args.self.now.kept.items c.args.self.now.lost there (subst (IsHistory (lost n) (log n)) c.in_default.is told) is

pub returns-clause-kept : goal.returns-clause-kept
returns-clause-kept c = λ shape log lost n named there told is.
    let turns = subst (IsHistory (lost n) (log n)) c.in-Some.is told in
    kept_one shape log lost n c.args.self.now.kept.items c.push_reserved.new.self.items c.args.self.now.lost c.in-Some.entries there turns.0 turns.1
    (c.push_reserved.ensures.items ∙ ap (λ (lock : DomainId). c.args.self.now.kept.items ++ record { lock = lock; entries = c.in-Some.entries } ∷ []) named) is
