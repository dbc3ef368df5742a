use Rattle.std.proofs.Common.{length, ap, ◌∙◌, rules}
use Rattle.record_reading.proofs.LeafLemmas.{bytes_sized}
use Rattle.record_reading.proofs.values.value.Goals as goal

pub is_padded-requires-clause-long : goal.is_padded-requires-clause-long
is_padded-requires-clause-long c = ap length c.as_slice.ensures ∙ bytes_sized c.value_len.result c.args.text.now _ c.in-Some.rest.now (search rules) ∙ c.value_len.ensures
