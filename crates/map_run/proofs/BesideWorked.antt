-- The workers of a phase: that of CPU 0, which copies the map, and the others.
use Rattle.std.proofs.Common.{◌≡◌, ℕ, suc, ◌+◌, ◌<◌, All, List, ◌∷◌, length, get_or, ap, ◌∙◌, subst, sym}
use Rattle.map_types.specs.Creation.{IsShape}
use Rattle.map_types.specs.declared.call.Call.{Call}
use Rattle.map_types.specs.declared.reply.Reply.{Reply}
use Rattle.place_table.specs.Passes.{PassView, TableView}
use Rattle.place_table.specs.Views.{is_among}
use Rattle.run_records.specs.Phased.{IsWhole}
use Rattle.map_run.specs.declared.worker.Worker.{Worker}
use Rattle.map_run.specs.Copying.{CanCopy, FitsSource, HasCopiedAll, HaveWorkedBeside}
use Rattle.map_run.specs.Workers.{AreSplitOff, HasDone, IsReady}
use Rattle.map_run.proofs.Workers.{all_done, among_one, each_ready}

module _ (source target : TableView) (start : PassView) (first : Worker) (others workers : List Worker) (are : first ∷ others ≡ workers) (off : AreSplitOff source start 0 workers) where
  split : AreSplitOff source start 0 (first ∷ others)
  split = subst (AreSplitOff source start 0) (sym are) off

  pub first_can : (q : PassView) → IsShape source.shape → IsShape target.shape → FitsSource source.shape target.shape → IsWhole target q → CanCopy source target first.pass q
  first_can q source_is target_is fits whole = record {
    source_shape = source_is;
    target_shape = target_is;
    fits = fits;
    of_table = split.1.of_table;
    has_cpu = ap (is_among 0) split.1.one_cpu ∙ among_one 0;
    in_no_call = split.1.in_no_call;
    whole = whole;
  }

  pub others_ready : All (IsReady source) others
  others_ready = each_ready source start 1 others split.3

pub worked_beside : (source target : TableView) (before count : ℕ) (calls : List Call) (first first_after : Worker) (others others_after workers after : List Worker) (put_start put_now : PassView) (puts : List Reply)
    → first ∷ others ≡ workers → first_after ∷ others_after ≡ after → length others_after ≡ length others → first_after.cpu ≡ first.cpu
    → HasCopiedAll source target (before + length calls) count first.pass first_after.pass put_start put_now first_after.replies puts
    → ((k : ℕ) (d : Worker) → k < length others → HasDone source (suc before) calls (get_or others k d) (get_or others_after k d))
    → HaveWorkedBeside source target before count calls workers after put_start put_now puts
worked_beside source target before count calls first first_after others others_after workers after put_start put_now puts are after_are long cpu copied done = record {
  first = first;
  others = others;
  workers_are = sym are;
  first_after = first_after;
  others_after = others_after;
  after_are = sym after_are;
  cpu = cpu;
  copied = copied;
  worked = λ none. all_done source (suc before) calls others others_after long done none;
}
