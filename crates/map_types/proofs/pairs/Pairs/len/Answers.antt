use Rattle.std.proofs.Common.{length, ap, ◌∙◌, sym}
use Rattle.map_types.specs.declared.pairs.PairData.{PairData}
use Rattle.map_types.proofs.PairLemmas.{length-pairs_of}
use Rattle.map_types.proofs.pairs.Pairs.len.Goals as goal

pub returns : goal.returns
returns c =
    let own = c.self.inside.data.value in
    ap (λ (d : PairData). d.count) c.deref.ensures ∙ (sym (length-pairs_of own.count own.key_size own.value_size own.keys.items own.values.items) ∙ ap length c.self.view_is)
