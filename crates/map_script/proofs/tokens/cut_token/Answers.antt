use Rattle.std.proofs.Common.{◌≡◌, [], length, ◌∙◌, arith, take_all}
use Rattle.std.proofs.lemmas.List.{take_rest, drop_all}
use Rattle.map_script.specs.Lines.{is_blank}
use Rattle.map_script.proofs.Splitting.{none_passes, token_at, last_token}
use Rattle.map_script.proofs.tokens.cut_token.Goals as goal

pub returns-in-Some-clause-tokens : goal.returns-in-Some-clause-tokens
returns-in-Some-clause-tokens c =
    let line = c.args.line.now in
    let at = c.in-Some.at in
    let found = c.in-Some.ensures in
    rw take_rest (token_at line at found.0.high found.1 (none_passes is_blank line at found.0.before))

pub returns-in-None-clause-tokens : goal.returns-in-None-clause-tokens
returns-in-None-clause-tokens c =
    let line = c.args.line.now in
    let whole : c.split_at.result.0.now ≡ line = c.split_at.ensures.front ∙ take_all (length line) line (omega arith) in
    let nothing : c.split_at.result.1.now ≡ [] = c.split_at.ensures.back ∙ drop_all (length line) line (omega arith) in
    rw (whole, nothing) (last_token line (none_passes is_blank line (length line) c.in-None.ensures))
