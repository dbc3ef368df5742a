use Rattle.std.proofs.Common.{◌++◌, subst}
use Rattle.map_script.specs.Pieces.{ReadsOn, read_behind}
use Rattle.map_script.specs.Unread.{Unread}
use Rattle.map_script.proofs.pieces.read_text.Goals as goal

pub returns-clause-reads : goal.returns-clause-reads
returns-clause-reads c =
    subst (λ (seen : Unread). ReadsOn (λ end more. read_behind c.args.before end (seen.lines ++ more)) c.read_more-read.result) c.of-lines.ensures c.read_more-read.ensures.reads
