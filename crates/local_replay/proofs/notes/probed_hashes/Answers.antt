use Rattle.std.proofs.Common.{◌∙◌, ap, map, nat_cmp}
use Rattle.std.specs.BTreeMap as tree
use Rattle.std.proofs.lemmas.Result.{IfOk-weaker}
use Rattle.place_words.specs.Takings.{walk_probes}
use Rattle.local_replay.proofs.NoteLaws.{found_all}
use Rattle.local_replay.proofs.notes.probed_hashes.Goals as goal

pub returns : goal.returns
returns c =
    IfOk-weaker c.hashes_at.result _ _
    (λ found is. found_all c.args.rows.now (tree.get nat_cmp c.in_ok-hashes.hashes) (walk_probes c.args.first.now c.args.second.now) c.in_ok-probed.probed.items found c.in_ok-hashes.ensures c.in_ok-probed.ensures
    (is ∙ ap (map (tree.get nat_cmp c.in_ok-hashes.hashes)) c.as_slice.ensures.value))
    c.hashes_at.ensures
