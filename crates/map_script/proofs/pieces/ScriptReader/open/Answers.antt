use Rattle.std.proofs.Common.{◌≡◌, [], rules}
use Rattle.map_script.proofs.PieceLemmas.{opened}
use Rattle.map_script.proofs.pieces.ScriptReader.open.Goals as goal

pub returns-clause-empty : goal.returns-clause-empty
returns-clause-empty c =
    let none : c.new.result.items ≡ [] = search rules in
    opened c.args.form c.new.result.items none
