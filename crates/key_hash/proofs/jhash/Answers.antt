use Rattle.std.proofs.Common.{◌≤◌, length, arith, ap, ◌∙◌}
use Rattle.std.proofs.lemmas.Bool.Decides.{nat_tests}
use Rattle.key_hash.specs.Jhash.{Words, hash}
use Rattle.key_hash.proofs.Absorbing.{takes_block, takes_last}
use Rattle.key_hash.proofs.jhash.Goals as goal

pub loop-block-preserved : goal.loop-block-preserved
loop-block-preserved c =
    let some : 1 ≤ length c.in-Some.left.now = grind (arith, nat_tests) in (
      some,
      takes_block _ _ _ _ _ _ some c.in-Some.ensures.cases c.add_block.ensures c.mix.ensures ∙ c.loop-block.invariant.1,
    )

pub returns : goal.returns
unfolding hash
returns c =
    let few : length c.loop-block.rest.now ≤ 12 = grind (arith, nat_tests) in
    let ended = takes_last _ _ _ c.loop-block.invariant.0 few c.add_last.ensures in
    c.finish.ensures ∙ ap (λ (w : Words). w.c) (ended ∙ c.loop-block.invariant.1)
