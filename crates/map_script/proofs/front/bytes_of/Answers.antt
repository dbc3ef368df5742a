use Rattle.map_script.proofs.FrontLemmas.{whole_bytes}
use Rattle.map_script.proofs.front.bytes_of.Goals as goal

pub returns-then-is_empty : goal.returns-then-is_empty
returns-then-is_empty c =
    whole_bytes c.args.size c.args.text.now c.in_ok-bytes.bytes c.in_ok-bytes.rest.now c.is_empty.result c.in_ok-bytes.ensures c.is_empty.ensures c.if-is_empty.true
