use Rattle.std.proofs.Common.{ap, ◌∙◌, sym}
use Rattle.map_types.specs.Pairs.{joined_keys, joined_values}
use Rattle.map_types.specs.declared.pairs.PairData.{PairData}
use Rattle.map_types.proofs.PairLemmas.{joined_keys-pairs_of, joined_values-pairs_of}
use Rattle.map_types.proofs.pairs.Pairs.into_parts.Goals as goal

pub returns-clause-keys : goal.returns-clause-keys
returns-clause-keys c =
    ap (λ (d : PairData). d.keys.items) c.into_inner-keys.ensures ∙ (sym (joined_keys-pairs_of _ _ _ _ _ c.self.invariant.0) ∙ ap joined_keys c.self.view_is)

pub returns-clause-values : goal.returns-clause-values
returns-clause-values c =
    ap (λ (d : PairData). d.values.items) c.into_inner-keys.ensures ∙ (sym (joined_values-pairs_of _ _ _ _ _ c.self.invariant.1) ∙ ap joined_values c.self.view_is)
