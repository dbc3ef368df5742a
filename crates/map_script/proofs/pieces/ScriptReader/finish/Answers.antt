use Rattle.std.proofs.Common.{◌≡◌, ◌+◌, List, ℕ, ◌++◌, count_by, Result, Ok, Err, sym, ap, ◌∙◌, subst, rules}
use Rattle.map_script.specs.declared.refusal.ScriptRefusal.{ScriptRefusal}
use Rattle.map_script.specs.declared.script.Script.{Script}
use Rattle.map_script.specs.declared.stage.Stage.{Stage}
use Rattle.map_script.specs.Lines.{is_line_feed, lines_from}
use Rattle.map_script.specs.Pieces.{Reader, ReadsOn, read_behind, StandsFor}
use Rattle.map_script.specs.Reading.{read_as, IsReading}
use Rattle.map_script.proofs.PieceLemmas.{finished, finished_refused, fails_on}
use Rattle.map_script.proofs.TargetTold.{target-reading}
use Rattle.map_script.proofs.WellFormedLemmas.{IsWellFormed-reading}
use Rattle.map_script.proofs.pieces.ScriptReader.finish.Goals as goal

pub returns-in_err-last-clause-exact : goal.returns-in_err-last-clause-exact
returns-in_err-last-clause-exact c = λ form bytes stands.
    let inside = c.self.inside in
    let line = inside.line.items in
    let after = c.read_text-last.result.0 in
    let more = c.read_text-last.result.1 in
    let refusal = c.in_err-last.field-0.0 in
    let gives : c.from_residual.result ≡ Err refusal = search rules in
    let was : after ≡ Err refusal = search rules in
    let reads : ReadsOn (λ end more. read_behind inside.read end (lines_from (inside.line_feeds + 1) line ++ more)) after =
    subst (λ (t : List ℕ). ReadsOn (λ end more. read_behind inside.read end (lines_from (inside.line_feeds + 1) t ++ more)) after) c.as_slice.ensures.value c.read_text-last.ensures.reads in
    subst (λ (r : Result Script ScriptRefusal). IsReading r (read_as form bytes)) (sym gives)
    (finished_refused inside.read refusal line inside.line_feeds more form bytes
    (subst (λ (r : Result Stage ScriptRefusal). ReadsOn (λ end more. read_behind inside.read end (lines_from (inside.line_feeds + 1) line ++ more)) r) was reads)
    (subst (λ (t : List ℕ). more ≡ inside.line_feeds + count_by is_line_feed t) c.as_slice.ensures.value c.read_text-last.ensures.line_feeds)
    (subst (λ (r : Reader). StandsFor form r bytes) (sym c.self.view_is) stands))

pub returns-in_err-last-clause-failed : goal.returns-in_err-last-clause-failed
returns-in_err-last-clause-failed c = λ failed.
    let inside = c.self.inside in
    let text = c.as_slice.result.now in
    let refusal = c.in_err-last.field-0.0 in
    let gives : c.from_residual.result ≡ Err refusal = search rules in
    let was : c.read_text-last.result.0 ≡ Err refusal = search rules in
    gives
    ∙ ap Err (fails_on inside.read (lines_from (inside.line_feeds + 1) text) refusal (ap (λ (r : Reader). r.read) c.self.view_is ∙ failed)
    (subst (λ (r : Result Stage ScriptRefusal). ReadsOn (λ end more. read_behind inside.read end (lines_from (inside.line_feeds + 1) text ++ more)) r) was c.read_text-last.ensures.reads))

pub returns-clause-exact : goal.returns-clause-exact
returns-clause-exact c = λ form bytes stands.
    let inside = c.self.inside in
    let line = inside.line.items in
    let after = c.read_text-last.result.0 in
    let more = c.read_text-last.result.1 in
    let stage = c.in_ok-last.field-0 in
    let was : after ≡ Ok stage = search rules in
    let reads : ReadsOn (λ end more. read_behind inside.read end (lines_from (inside.line_feeds + 1) line ++ more)) after =
    subst (λ (t : List ℕ). ReadsOn (λ end more. read_behind inside.read end (lines_from (inside.line_feeds + 1) t ++ more)) after) c.as_slice.ensures.value c.read_text-last.ensures.reads in
    finished inside.read stage line inside.line_feeds more form bytes c.ended.result
    (subst (λ (r : Result Stage ScriptRefusal). ReadsOn (λ end more. read_behind inside.read end (lines_from (inside.line_feeds + 1) line ++ more)) r) was reads)
    (subst (λ (t : List ℕ). more ≡ inside.line_feeds + count_by is_line_feed t) c.as_slice.ensures.value c.read_text-last.ensures.line_feeds)
    c.ended.ensures (subst (λ (r : Reader). StandsFor form r bytes) (sym c.self.view_is) stands)

pub returns-clause-well_formed : goal.returns-clause-well_formed
returns-clause-well_formed c = λ form bytes stands. IsWellFormed-reading form bytes c.ended.result (returns-clause-exact c form bytes stands)

pub returns-in_err-last-clause-well_formed : goal.returns-in_err-last-clause-well_formed
returns-in_err-last-clause-well_formed c = λ form bytes stands. IsWellFormed-reading form bytes c.from_residual.result (returns-in_err-last-clause-exact c form bytes stands)

pub returns-clause-target : goal.returns-clause-target
returns-clause-target c = λ form bytes stands. target-reading form bytes c.ended.result (returns-clause-exact c form bytes stands)

pub returns-in_err-last-clause-target : goal.returns-in_err-last-clause-target
returns-in_err-last-clause-target c = λ form bytes stands. target-reading form bytes c.from_residual.result (returns-in_err-last-clause-exact c form bytes stands)
