use Rattle.std.proofs.Common.{◌<◌, ◌*◌, length, ap, arith}
use Rattle.map_types.specs.declared.pairs.PairData.{PairData}
use Rattle.map_types.specs.Pairs.{pair_at}
use Rattle.map_types.proofs.PairLemmas.{length-pairs_of, value_at}
use Rattle.map_types.proofs.pairs.Pairs.value.Goals as goal

pub piece-requires-clause-fill : goal.piece-requires-clause-fill
piece-requires-clause-fill c =
    let lies = ap (λ (d : PairData). length d.values.items) c.deref-data.ensures in
    let fills = ap (λ (d : PairData). d.count * d.value_size) c.deref-data.ensures in
    let filled = c.self.invariant.1 in
    let seen = c.deref.ensures in
    cc

pub piece-requires-clause-within : goal.piece-requires-clause-within
piece-requires-clause-within c =
    let own = c.self.inside.data.value in
    omega (arith, c.requires, length-pairs_of own.count own.key_size own.value_size own.keys.items own.values.items, ap length c.self.view_is, ap (λ (d : PairData). d.count) c.deref-data.ensures)

pub returns : goal.returns
returns c =
    let own = c.self.inside.data.value in
    let within : c.args.i < own.count = omega (arith, c.requires, length-pairs_of own.count own.key_size own.value_size own.keys.items own.values.items, ap length c.self.view_is) in
    let at = value_at own.count own.key_size own.value_size c.args.i own.keys.items own.values.items within in
    let seen = ap (λ pairs. (pair_at pairs c.args.i).1) c.self.view_is in
    let same = c.deref-data.ensures in
    cc
