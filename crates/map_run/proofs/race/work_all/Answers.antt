use Rattle.std.proofs.Common.{◌≡◌, ℕ, suc, All, List, ◌<◌, length, get_or, false, sym, ap, ◌∙◌, subst}
use Rattle.std.proofs.lemmas.List.{take_at}
use Rattle.map_batch.specs.Calls.{table_of}
use Rattle.map_run.specs.declared.worker.Worker.{Worker}
use Rattle.map_run.specs.Workers.{HasDone, HaveDone, IsReady}
use Rattle.map_run.proofs.Workers.{all_done}
use Rattle.map_run.proofs.race.work_all.Goals as goal

pub work_at_once-requires-clause-first : goal.work_at_once-requires-clause-first
work_at_once-requires-clause-first g c κs within =
    subst (All (IsReady (table_of c.args.map.now))) (sym c.as_mut_slice.ensures.value) c.requires.first

pub returns-clause-worked : goal.returns-clause-worked
returns-clause-worked g c =
    let t = table_of c.args.map.now in
    let number = suc c.args.before in
    let before = c.args.workers.now.items in
    let lent = c.as_mut_slice.ensures.value in
    let after = c.work_at_once.new.workers in
    let long : length after ≡ length before = c.work_at_once.auto.workers ∙ ap length lent in
    let whole = take_at after _ c.args.workers.now.len (long ∙ sym c.args.workers.now.ok.0) in
    let none : (k : ℕ) (d : Worker) → k < length after → (get_or after k d).failed ≡ false =
    subst (λ (l : List Worker). (k : ℕ) (d : Worker) → k < length l → (get_or l k d).failed ≡ false) (c.as_slice.ensures.value ∙ whole) (c.has_failed.ensures c.if-has_failed.false) in
    let done : (k : ℕ) (d : Worker) → k < length before → HasDone t number c.args.calls.now (get_or before k d) (get_or after k d) =
    subst (λ (l : List Worker). (k : ℕ) (d : Worker) → k < length l → HasDone t number c.args.calls.now (get_or l k d) (get_or after k d)) lent c.work_at_once.ensures.done in
    subst (HaveDone t number c.args.calls.now before) (sym whole)
    (all_done t number c.args.calls.now before after long done none)
