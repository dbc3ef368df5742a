use Rattle.std.proofs.Common.{◌-◌, ◌∷◌, ◌++◌, [], None, ◌∙◌, arith}
use Rattle.std.proofs.lemmas.List.Elements.{All-nil}
use Rattle.map_batch.specs.Calls.{table_of}
use Rattle.serial_laws.specs.Served.{IsServedCall}
use Rattle.run_records.proofs.LoneCalls.{lone_is}
use Rattle.run_records.proofs.RunPhases.{kept_span}
use Rattle.map_run.proofs.race.run_alone.Goals as goal

pub overflow_sub-step_count : goal.overflow_sub-step_count
overflow_sub-step_count g c =
    let gone = c.in_ok-replies.ensures.gone in
    let grows = (kept_span (table_of c.args.map.now).shape gone.made c.args.pass.now.view.kept c.run_calls.new.pass.view.kept gone.kept).0 in
    let before = c.step_count-steps.ensures in
    let after = c.step_count.ensures in
    omega (arith, grows, before, after)

pub returns : goal.returns
returns g c cpu lone =
    let told = c.in_ok-replies.ensures in
    record {
      whole = told.whole;
      worked = told.alone cpu (lone_is c.args.calls.now cpu lone);
      exact = λ from number start begins. told.from from [] [] (omega (arith, number)) start (All-nil (IsServedCall (table_of c.args.map.now).shape)) begins;
      pieces_are = c.in_ok-push.ensures.items
          ∙ (λ i. c.in_ok-pieces.ensures.items i ++ (record { phase = c.args.phase; cpu = None; count = c.step_count.ensures i - c.step_count-steps.ensures i }) ∷ []);
    }
