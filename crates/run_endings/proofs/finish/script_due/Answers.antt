use Rattle.std.proofs.Common.{sym, subst}
use Rattle.std.specs.Prelude.{All}
use Rattle.map_script.specs.declared.script.Script.{Script}
use Rattle.serial_laws.specs.Served.{HasFewEntries}
use Rattle.run_endings.proofs.FewEntries.{generated_few}
use Rattle.run_endings.proofs.finish.script_due.Goals as goal

pub returns-in_ok-generated-in-Gen-clause-script : goal.returns-in_ok-generated-in-Gen-clause-script
returns-in_ok-generated-in-Gen-clause-script c =
    let few : All HasFewEntries c.in_ok-generated-in-Gen.generated.calls = subst (λ (script : Script). All HasFewEntries script.calls) (sym c.in_ok-generated-in-Gen.ensures.exact) (generated_few c.args.script) in
    record { well_formed = c.in_ok-generated-in-Gen.ensures.well_formed; few_entries = few }
