use Rattle.std.proofs.Common.{◌≡◌, ℕ, false, List, Option, eqb, ap, sym, ◌∙◌, subst}
use Rattle.std.specs.Prelude.{All, MatchBool}
use Rattle.map_types.proofs.CreationLemmas.{bounds_of_shape}
use Rattle.place_words.specs.declared.history.LockHistory.{LockHistory}
use Rattle.place_words.specs.StrandSteps.{row_read}
use Rattle.place_words.specs.Turns.{Turn}
use Rattle.call_check.proofs.FirstSpares.{not_common}
use Rattle.trace_check.specs.LawsBySpares.{read_count_by}
use Rattle.trace_check.specs.Strand.{IsEntry, turns_at}
use Rattle.trace_check.specs.Strand as strand
use Rattle.call_check.specs.Judged.{IsTraceOf}
use Rattle.call_check.specs.PlainRows.{spares_at}
use Rattle.call_check.proofs.PlainRows.{are_entries, none_read, plain_row, some_read}
use Rattle.call_check.proofs.trace.is_plain_trace.Goals as goal

pub of-turns-requires : goal.of-turns-requires
of-turns-requires c =
    let script = c.args.script.now in
    let kept = c.args.kept.now in
    let apart : script.shape.common ≡ false = not_common script.shape (bounds_of_shape script.shape c.requires.script.shape) c.requires.plain in
    let are = plain_row script kept c.requires.shaped c.requires.plain apart (row_read c.args.row) c.requires.named in
    subst (λ (hs : List LockHistory). All (IsEntry script.shape.buckets hs) (row_read c.args.row)) (sym c.as_slice.ensures)
    (are_entries script.cuts script.shape c.requires.plain apart kept.histories c.requires.shaped.locks (row_read c.args.row) are)

pub returns-in-Some : goal.returns-in-Some
returns-in-Some c =
    let script = c.args.script.now in
    let kept = c.args.kept.now in
    let call = c.args.call.now in
    let row = row_read c.args.row in
    let apart : script.shape.common ≡ false = not_common script.shape (bounds_of_shape script.shape c.requires.script.shape) c.requires.plain in
    let are = plain_row script kept c.requires.shaped c.requires.plain apart row c.requires.named in
    let same : read_count_by script.shape call.cpu (strand.spare_before c.as_slice-2.result.now) call.verb c.of-turns.result ≡ read_count_by script.shape call.cpu (strand.spare_before (spares_at script.cuts script.shape kept.histories call.cpu row)) call.verb (turns_at script.shape.buckets kept.histories row) =
    ap (λ (l : List (Option ℕ)). read_count_by script.shape call.cpu (strand.spare_before l) call.verb c.of-turns.result) (c.as_slice-2.ensures.value ∙ c.in_ok-spares.ensures)
    ∙ ap (λ (ts : List Turn). read_count_by script.shape call.cpu (strand.spare_before (spares_at script.cuts script.shape kept.histories call.cpu row)) call.verb ts)
    (c.of-turns.ensures ∙ ap (λ (hs : List LockHistory). turns_at script.shape.buckets hs row) c.as_slice.ensures) in
    subst (λ (n : ℕ). MatchBool (eqb c.in-Some.count n) (IsTraceOf script kept call c.args.reply.now row) (IsTraceOf script kept call c.args.reply.now row → ⊥)) (sym c.len.ensures)
    (some_read script.cuts script.shape c.requires.plain apart kept.histories c.requires.shaped.locks call.cpu call.verb c.args.reply.now row are c.in-Some.count (sym same ∙ c.in-Some.ensures))

pub returns : goal.returns
returns c =
    let script = c.args.script.now in
    let kept = c.args.kept.now in
    let call = c.args.call.now in
    let row = row_read c.args.row in
    let apart : script.shape.common ≡ false = not_common script.shape (bounds_of_shape script.shape c.requires.script.shape) c.requires.plain in
    let are = plain_row script kept c.requires.shaped c.requires.plain apart row c.requires.named in
    let same : read_count_by script.shape call.cpu (strand.spare_before c.as_slice-2.result.now) call.verb c.of-turns.result ≡ read_count_by script.shape call.cpu (strand.spare_before (spares_at script.cuts script.shape kept.histories call.cpu row)) call.verb (turns_at script.shape.buckets kept.histories row) =
    ap (λ (l : List (Option ℕ)). read_count_by script.shape call.cpu (strand.spare_before l) call.verb c.of-turns.result) (c.as_slice-2.ensures.value ∙ c.in_ok-spares.ensures)
    ∙ ap (λ (ts : List Turn). read_count_by script.shape call.cpu (strand.spare_before (spares_at script.cuts script.shape kept.histories call.cpu row)) call.verb ts)
    (c.of-turns.ensures ∙ ap (λ (hs : List LockHistory). turns_at script.shape.buckets hs row) c.as_slice.ensures) in
    none_read script.cuts script.shape c.requires.plain apart kept.histories c.requires.shaped.locks call.cpu call.verb c.args.reply.now row are (λ n is. c.in-None.ensures n (same ∙ is))
