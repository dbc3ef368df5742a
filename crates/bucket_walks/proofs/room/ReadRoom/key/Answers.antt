use Rattle.std.proofs.Common.{length, ap, ◌∙◌}
use Rattle.map_types.specs.Pairs.{pair_at}
use Rattle.map_types.proofs.PairLemmas.{key_at}
use Rattle.bucket_walks.specs.BatchReads.{PairsSoFar}
use Rattle.bucket_walks.proofs.Gathered.{there, piece_sized}
use Rattle.bucket_walks.proofs.room.ReadRoom.key.Goals as goal

pub piece-requires-clause-within : goal.piece-requires-clause-within
piece-requires-clause-within c = there c.self.inside c.self.view_is c.args.i c.requires

pub returns-clause-bytes : goal.returns-clause-bytes
returns-clause-bytes c =
    let own = c.self.inside in
    let within = there own c.self.view_is c.args.i c.requires in
    let at = key_at own.count own.key_size own.value_size c.args.i own.keys.items own.values.items within in
    let seen = ap (λ (p : PairsSoFar). (pair_at p.pairs c.args.i).0) c.self.view_is in
    let same = c.as_slice.ensures in
    cc

pub returns-clause-sized : goal.returns-clause-sized
returns-clause-sized c =
    let own = c.self.inside in
    let within = there own c.self.view_is c.args.i c.requires in
    piece_sized c.args.i own.count own.key_size c.as_slice.result.now c.piece.result.now within (ap length c.as_slice.ensures.value ∙ c.self.invariant.1) c.piece.ensures ∙ ap (λ (p : PairsSoFar). p.key_size) c.self.view_is
