use Rattle.std.proofs.Common.{◌∙◌, sym}
use Rattle.map_script.proofs.BlankLemmas.{no_token}
use Rattle.map_script.proofs.tokens.has_no_token.Goals as goal

pub returns : goal.returns
returns c = c.is_all_blank.ensures ∙ sym (no_token c.args.line.now)
