use Rattle.std.proofs.Common.{arith, ◌∙◌, ap, List, ℕ, ◌++◌}
use Rattle.map_types.proofs.CreationLemmas.{bounds_of_shape}
use Rattle.place_words.specs.Shares.{pushed_from}
use Rattle.place_words.proofs.StartLemmas.{stack_is}
use Rattle.place_words.proofs.opening.stack.Goals as goal

pub push_from-requires : goal.push_from-requires
push_from-requires c = omega (arith, c.share-first.ensures.within, (bounds_of_shape c.args.shape.now c.requires.shape).elements_bounded)

pub returns : goal.returns
returns c =
    c.in_ok-push_from.ensures ∙ (ap (λ (xs : List ℕ). xs ++ pushed_from c.share-first.result.0 c.share-first.result.1) c.new-list.ensures.items ∙ stack_is c.args.shape.now c.args.cpu c.share-first.result.0 c.share-first.result.1 c.share-first.ensures.first c.share-first.ensures.count)
