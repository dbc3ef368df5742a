use Rattle.std.proofs.Common.{◌≡◌, ◌+◌, List, ℕ, [], ◌++◌, count_by, Result, Err, sym, ap, ◌∙◌, subst}
use Rattle.map_script.specs.declared.refusal.ScriptRefusal.{ScriptRefusal}
use Rattle.map_script.specs.declared.refusal.ScriptRefusal.TheVariants.{NoMemory}
use Rattle.map_script.specs.declared.stage.Stage.{Stage}
use Rattle.map_script.specs.Lines.{is_line_feed, lines_from}
use Rattle.map_script.specs.Pieces.{Reader, ReadsOn, read_behind, IsFed}
use Rattle.map_script.proofs.PieceLemmas.{reader, fed_read, on_ok}
use Rattle.map_script.proofs.pieces.ScriptReader.read_whole.Goals as goal

pub returns-clause-fed : goal.returns-clause-fed
returns-clause-fed c =
    let inside = c.self.inside in
    let line = inside.line.items in
    let text = c.args.text.now in
    let after = c.read_text-read.result.0 in
    let more = c.read_text-read.result.1 in
    let nothing : line ≡ [] = ap (λ (r : Reader). r.line) c.self.view_is ∙ c.requires.none in
    let reads : ReadsOn (λ end more. read_behind inside.read end (lines_from (inside.line_feeds + 1) text ++ more)) after =
    subst (λ (before : Result Stage ScriptRefusal). ReadsOn (λ end more. read_behind before end (lines_from (inside.line_feeds + 1) text ++ more)) after) c.replace-before.ensures.value c.read_text-read.ensures.reads in
    on_ok c.memory_of.result (IsFed c.args.self.now text (reader after line more)) (after ≡ Err NoMemory → ⊥) c.memory_of.ensures.found
    (λ some. fed_read c.args.self.now inside.read after line text line inside.line_feeds more c.self.view_is c.self.invariant.1 c.requires.ends
    (subst (λ (l : List ℕ). ReadsOn (λ end more. read_behind inside.read end (lines_from (inside.line_feeds + 1) (l ++ text) ++ more)) after) (sym nothing) reads) some
    (subst (λ (l : List ℕ). more ≡ inside.line_feeds + count_by is_line_feed (l ++ text)) (sym nothing) c.read_text-read.ensures.line_feeds) nothing)
