use Rattle.std.proofs.Common.{◌≡◌, length, sym, rules, arith, take_all}
use Rattle.std.specs.List.{position_or_len}
use Rattle.std.proofs.lemmas.List.Sums.{position_or_len_is}
use Rattle.map_script.specs.Lines.{is_hash}
use Rattle.map_script.proofs.Splitting.{none_passes}
use Rattle.map_script.proofs.lines.before_comment.Goals as goal

pub returns-in-Some : goal.returns-in-Some
returns-in-Some c =
    let line = c.args.line.now in
    let at = c.in-Some.at in
    let found = c.in-Some.ensures in
    let within = found.0.high in
    let first : position_or_len is_hash line ≡ at = position_or_len_is is_hash line at 0 (omega arith) (none_passes is_hash line at found.0.before) (λ inside. found.1) in
    rw first (search rules)

pub returns-in-None : goal.returns-in-None
returns-in-None c =
    let line = c.args.line.now in
    let none : position_or_len is_hash line ≡ length line = position_or_len_is is_hash line (length line) 0 (omega arith) (none_passes is_hash line (length line) c.in-None.ensures) (λ within. absurd (omega arith)) in
    rw none (sym (take_all (length line) line (omega arith)))
