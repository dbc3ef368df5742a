use Rattle.std.proofs.Common.{◌≡◌, ◌+◌, List, ℕ, ◌++◌, count_by, Result, Err, ◌∙◌, subst}
use Rattle.map_script.specs.declared.refusal.ScriptRefusal.{ScriptRefusal}
use Rattle.map_script.specs.declared.refusal.ScriptRefusal.TheVariants.{NoMemory}
use Rattle.map_script.specs.declared.stage.Stage.{Stage}
use Rattle.map_script.specs.Lines.{is_line_feed, lines_from}
use Rattle.map_script.specs.Pieces.{ReadsOn, read_behind, IsFed}
use Rattle.map_script.proofs.PieceLemmas.{reader, fed_read, on_ok}
use Rattle.map_script.proofs.pieces.ScriptReader.end_line.Goals as goal

pub returns-clause-fed : goal.returns-clause-fed
returns-clause-fed c =
    let inside = c.self.inside in
    let line = inside.line.items in
    let ending = c.args.ending.now in
    let text = c.as_slice.result.now in
    let after = c.read_text-read.result.0 in
    let more = c.read_text-read.result.1 in
    let left = c.clear.new.self.items in
    let grown : c.extend_from_slice.new.self.items ≡ line ++ ending = c.in_ok-extend_from_slice.ensures.items in
    let whole : text ≡ line ++ ending = c.as_slice.ensures.value ∙ grown in
    let reads : ReadsOn (λ end more. read_behind inside.read end (lines_from (inside.line_feeds + 1) text ++ more)) after =
    subst (λ (before : Result Stage ScriptRefusal). ReadsOn (λ end more. read_behind before end (lines_from (inside.line_feeds + 1) text ++ more)) after) c.replace-before.ensures.value c.read_text-read.ensures.reads in
    on_ok c.memory_of.result (IsFed c.args.self.now ending (reader after left more)) (after ≡ Err NoMemory → ⊥) c.memory_of.ensures.found
    (λ some. fed_read c.args.self.now inside.read after line ending left inside.line_feeds more c.self.view_is c.self.invariant.1 c.requires.ends
    (subst (λ (t : List ℕ). ReadsOn (λ end more. read_behind inside.read end (lines_from (inside.line_feeds + 1) t ++ more)) after) whole reads) some
    (subst (λ (t : List ℕ). more ≡ inside.line_feeds + count_by is_line_feed t) whole c.read_text-read.ensures.line_feeds) c.clear.ensures.items)
