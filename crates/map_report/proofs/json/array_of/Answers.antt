use Rattle.std.proofs.Common.{◌∙◌, sym, ap, map}
use Rattle.std.proofs.lemmas.List.{map-id}
use Rattle.std.proofs.lemmas.Iterator.Adapters.{YieldsList-from_vec}
use Rattle.std.proofs.lemmas.Iterator.Consumers.{YieldsList-end}
use Rattle.serde_json.specs.declared.value.Value.{String}
use Rattle.map_report.proofs.JsonLemmas.{array_is}
use Rattle.map_report.proofs.json.array_of.Goals as goal

pub returns : goal.returns
returns c =
    let made = c.into_iter-line-iterator.ensures.into_iter_gives in
    let end = YieldsList-end (YieldsList-from_vec {s = c.into_iter-line-iterator.result} c.args.lines.items made.0 (made.1 ∙ c.args.lines.ok.0)) c.loop-line.yielded c.loop-line.line-iterator c.loop-line.yielded_by c.next.result c.next.new.self c.in-None.is c.next.ensures.steps in
    array_is c.loop-line.values c.args.lines.items (c.loop-line.invariant ∙ ap (map String) (sym (map-id c.loop-line.yielded) ∙ end.0))
