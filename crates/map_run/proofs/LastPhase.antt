-- The last phase of a script, beside which the map is copied.
use Rattle.std.proofs.Common.{◌≡◌, ℕ, suc, ◌+◌, ◌-◌, ◌≤◌, List, [], ◌∷◌, ◌++◌, length, map, take, drop, None, refl, ap, sym, ◌∙◌, subst, arith}
use Rattle.map_types.specs.Creation.{IsShape}
use Rattle.map_types.specs.declared.attr.Shape.{Shape}
use Rattle.map_types.specs.declared.call.Call.{Call}
use Rattle.map_types.specs.declared.reply.Reply.{Reply}
use Rattle.map_types.proofs.CreationLemmas.{bounds_of_shape}
use Rattle.map_script.specs.declared.script.Script.{Script}
use Rattle.map_script.specs.WellFormed.{AreCuts, AreOfOthers}
use Rattle.map_copy.specs.Copied.{Step}
use Rattle.map_copy.specs.CopyScripts.{read_call}
use Rattle.map_report.specs.declared.record.PhaseStart.{PhaseStart}
use Rattle.place_words.specs.Phases.{calls_before}
use Rattle.place_table.specs.Passes.{PassView, TableView, IsFirstPass}
use Rattle.run_records.specs.declared.pieces.Piece.{Piece}
use Rattle.run_records.specs.Phased.{IsWhole, Started}
use Rattle.run_records.specs.Races.{HaveComeTo, RanCalls, calls_of, first_of}
use Rattle.run_records.proofs.PhaseParts.{whole_to}
use Rattle.run_records.proofs.RunPhases.{kept_span}
use Rattle.map_run.specs.Copying.{CanCopy, FitsSource, HasCopiedBeside, HasCopiedLast, HavePut, LeavesOneFree}
use Rattle.map_run.proofs.ExtendedPhases.{come_to_end, target_run}

-- the first pass of a table
pub first_whole : (t : TableView) (script : Script) (p : PassView) → IsFirstPass t p → IsWhole t p
first_whole t script p first = whole_to t script 0 p [] [] [] (first, refl, refl, refl)

pub can_copy : (source target : TableView) (shape : Shape) (p q : PassView) → source.shape ≡ shape → IsShape shape → IsShape target.shape → FitsSource shape target.shape → IsWhole source p → IsWhole target q → CanCopy source target p q
can_copy source target shape p q same shape_is target_is fits whole put_whole =
    let is : IsShape source.shape = subst IsShape (sym same) shape_is in
    let some = (bounds_of_shape source.shape is).some_cpu in
    record {
      source_shape = is;
      target_shape = target_is;
      fits = subst (λ (s : Shape). FitsSource s target.shape) (sym same) fits;
      of_table = whole.of_table;
      has_cpu = whole.all_cpus 0 (omega (arith, some));
      in_no_call = whole.in_no_call;
      whole = put_whole;
    }

-- the puts' steps
pub put_grows : {u : TableView} {steps : List Step} {put_begun put_now : PassView} {puts : List Reply} → HavePut u steps put_begun put_now puts → length put_begun.view.kept ≤ length put_now.view.kept
put_grows {u} {steps} {put_begun} {put_now} {puts} put = let gone = put.gone in (kept_span u.shape gone.made put_begun.view.kept put_now.view.kept gone.kept).0

module _ (script : Script) (phase first next : ℕ) (calls : List Call) (phase_is : phase ≡ length script.cuts) (first_is : first ≡ calls_before script.cuts (length script.calls) phase) (next_is : next ≡ calls_before script.cuts (length script.calls) (suc phase))
    (calls_are : calls ≡ take (next - first) (drop first script.calls)) where
  own_first : first ≡ first_of script (length script.cuts)
  own_first = first_is ∙ ap (calls_before script.cuts (length script.calls)) phase_is

  own_calls : calls ≡ calls_of script (length script.cuts)
  own_calls =
      calls_are
      ∙ (λ i. take ((next_is ∙ ap (λ (p : ℕ). calls_before script.cuts (length script.calls) (suc p)) phase_is) i - own_first i) (drop (own_first i) script.calls))

  pub last_of_others : LeavesOneFree script → AreOfOthers calls
  last_of_others free = subst AreOfOthers (sym own_calls) free

  pub copied_last : {t u : TableView} {count : ℕ} {before begun now put_first put_begun put_now : PassView} (earlier : List Reply) {all told reads puts puts_told : List Reply} (others : List PhaseStart) {starts put_starts : List PhaseStart} {start put_start : PhaseStart} (done : List Piece) {pieces more put_pieces : List Piece} {put_count : ℕ}
      → AreCuts 0 (length script.calls) script.cuts → HaveComeTo t script (length script.cuts) before earlier others done → Started t before begun start
      → IsShape u.shape → IsFirstPass u put_first → Started u put_first put_begun put_start
      → HasCopiedBeside t u phase first count calls begun now put_begun put_now told reads puts more
      → all ≡ earlier ++ told → starts ≡ others ++ start ∷ [] → pieces ≡ done ++ more → put_count + length put_begun.view.kept ≡ length put_now.view.kept → puts_told ≡ puts → put_starts ≡ put_start ∷ []
      → put_pieces ≡ (record { phase = 0; cpu = None; count = put_count }) ∷ [] → HasCopiedLast t u script count now put_now all starts pieces reads puts_told put_starts put_pieces
  copied_last {t} {u} {count} {before} {begun} {now} {put_first} {put_begun} {put_now} earlier {all} {told} {reads} {puts} {puts_told} others {starts} {put_starts} {start} {put_start} done {pieces} {more} {put_pieces} {put_count}
      rise come begins target_shape is_first put_begins copied all_are starts_are pieces_are counted puts_are put_starts_are put_pieces_are =
      record {
        steps = copied.steps;
        copied = copied.copied;
        answered = copied.answered;
        reads_are = copied.reads_are;
        come = come_to_end script copied.steps rise t before begun now earlier all told reads others starts start done pieces more come begins
            (subst (λ (z : ℕ × ℕ × List Call). RanCalls t z.0 z.1 (z.2 ++ map read_call copied.steps) begun now (told ++ reads) more) (λ i. (phase_is i, own_first i, own_calls i)) copied.ran)
            all_are starts_are pieces_are;
        puts_are = puts_are ∙ copied.put.replies_are;
        put_served = copied.put.served;
        put_whole = copied.put.whole;
        put = λ attr. target_run u copied.steps attr put_first put_begun put_now put_start puts_told put_starts put_pieces put_count target_shape is_first put_begins
            (subst (λ (l : List Reply). HavePut u copied.steps put_begun put_now l) (sym puts_are) copied.put) counted put_starts_are put_pieces_are;
      }
