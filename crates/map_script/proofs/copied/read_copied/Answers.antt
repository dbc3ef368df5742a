use Rattle.std.proofs.Common.{◌≡◌, ℕ, ◌++◌, Option, Result, Err, subst, rules}
use Rattle.map_script.specs.declared.copied.Stop.{Stop}
use Rattle.map_script.specs.declared.copied.Stop.TheVariants as stops
use Rattle.map_script.specs.declared.script.Script.{Script}
use Rattle.map_script.specs.declared.stage.EitherFault.{EitherFault}
use Rattle.map_script.specs.declared.stage.Stage.TheVariants as stages
use Rattle.map_script.specs.CopyLines.{copied_behind, ReadsCopied}
use Rattle.map_script.specs.Pieces.{ReadsOn, read_on}
use Rattle.map_script.specs.Reading.{body_with}
use Rattle.map_script.proofs.Stages.{copying, copy_either}
use Rattle.map_script.proofs.copied.read_copied.Goals as goal

pub returns-clause-reads : goal.returns-clause-reads
returns-clause-reads c =
    let inside = c.read.inside in
    let head = inside.head in
    let before = body_with inside.calls.items inside.cuts.items in
    let found = body_with c.copy_each.new.calls.items c.copy_each.new.cuts.items in
    let target = c.args.copying.target in
    let held = c.args.copying.held in
    let lines = c.args.lines.now.lines in
    let rest = c.copy_each.new.lines.lines in
    let fault = c.in-Err-Either.fault in
    let made = c.read_either.result in
    let is : c.copy_each.result ≡ Err (stops.Either fault) = search rules in
    let reads = subst (λ (r : Result (ℕ × Option ℕ) Stop). ReadsCopied head.version head.shape (λ more. copied_behind head.version head.shape held before (lines ++ more)) found rest r) is c.copy_each.ensures.read in
    subst (λ (script : Script). ReadsOn (λ end more. read_on (stages.Copy (copying script target held)) end (lines ++ more)) made) c.read.view_is
    (copy_either head before found target held lines rest fault made reads
    (subst (λ (f : EitherFault). ReadsOn (λ end more. read_on (stages.Either f) end (rest ++ more)) made) c.in-Err-Either.fault-is c.read_either.ensures.reads))
