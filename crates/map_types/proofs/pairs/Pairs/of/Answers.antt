use Rattle.std.proofs.Common.{rules}
use Rattle.map_types.proofs.PairLemmas.{HaveSizes-pairs_of, same_pairs}
use Rattle.map_types.proofs.pairs.Pairs.of.Goals as goal

pub returns-clause-sizes : goal.returns-clause-sizes
returns-clause-sizes c =
    HaveSizes-pairs_of c.args.count c.args.key_size c.args.value_size c.args.keys.items c.args.values.items (search rules) (search rules)

pub returns-clause-joined : goal.returns-clause-joined
returns-clause-joined c =
    same_pairs c.args.count c.args.key_size c.args.value_size c.args.keys.items c.args.values.items
