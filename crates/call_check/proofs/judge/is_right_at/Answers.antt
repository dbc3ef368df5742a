use Rattle.std.proofs.Common.{◌≡◌, ◌<◌, ◌+◌, ◌-◌, ℕ, List, length, get_or, take, drop, ap, sym, ◌∙◌, subst, arith}
use Rattle.std.specs.Prelude.{MatchBool, Some, slice_get}
use Rattle.std.proofs.lemmas.Option.{slice_get-get_or}
use Rattle.map_types.specs.declared.call.Call.{Call}
use Rattle.map_types.specs.declared.reply.Reply.{Reply}
use Rattle.place_words.specs.Phases.{phase_of}
use Rattle.place_words.specs.StrandSteps.{row_read}
use Rattle.place_words.specs.declared.history.Strand.{Strand}
use Rattle.place_words.specs.declared.history.StrandStep.{StrandStep}
use Rattle.record_shape.specs.ShapedParts.{StepFits}
use Rattle.call_check.specs.StrandPlaces.{cell}
use Rattle.call_check.specs.Judged.{IsRightRow}
use Rattle.call_check.specs.PlainRows.{AreNamed, IsNamed}
use Rattle.call_check.specs.Steps.{Histories, StepsFit}
use Rattle.call_check.proofs.Homes.{call_fits, cpu_low, home_there, item_at, judged_behind, judged_right, no_strand, part_fits, replies_counted, steps_fit, steps_named}
use Rattle.call_check.proofs.Rows.{IsRow}
use Rattle.call_check.proofs.judge.is_right_at.Goals as goal

pub bounds-as_slice-place-2 : goal.bounds-as_slice-place-2
bounds-as_slice-place-2 c =
    let script = c.args.script.now in
    let kept = c.args.kept.now in
    omega (arith, ap length c.as_slice-2.ensures, replies_counted script.shape script.calls kept.replies c.requires.record.shaped.replies, c.requires.place)

pub home_of-home-requires-clause-cpu : goal.home_of-home-requires-clause-cpu
home_of-home-requires-clause-cpu c =
    let script = c.args.script.now in
    let kept = c.args.kept.now in
    let call : Call = c.index-as_slice-place.result in
    let at_call : slice_get script.calls c.args.place ≡ Some call = item_at c.as_slice.result.now script.calls c.args.place call c.as_slice.ensures c.requires.place c.index-as_slice-place.is in
    cpu_low script kept c.requires.record.formed c.requires.record.shaped c.args.place call at_call

pub steps_at-steps-requires : goal.steps_at-steps-requires
steps_at-steps-requires c =
    let script = c.args.script.now in
    let kept = c.args.kept.now in
    let call : Call = c.index-as_slice-place.result in
    let at_call : slice_get script.calls c.args.place ≡ Some call = item_at c.as_slice.result.now script.calls c.args.place call c.as_slice.ensures c.requires.place c.index-as_slice-place.is in
    let home : ℕ = c.home_of-home.result in
    let home_is : home ≡ get_or c.args.tables.now.strand_of.items (cell (phase_of script.cuts (c.args.place + 1)) call.cpu) 0 =
    c.home_of-home.ensures ∙ ap (λ (l : List ℕ). get_or l (cell (phase_of script.cuts (c.args.place + 1)) call.cpu) 0) c.as_slice-3.ensures.value in
    let there : home < length kept.strands =
    home_there script kept c.requires.record.formed c.requires.record.shaped c.requires.record.strands c.args.tables.now.strand_of.items c.requires.tables.lead c.args.place call at_call home home_is in
    omega (arith, there, ap length c.as_slice-4.ensures)

pub cursor_at-from-requires : goal.cursor_at-from-requires
cursor_at-from-requires c =
    let script = c.args.script.now in
    let kept = c.args.kept.now in
    let call : Call = c.index-as_slice-place.result in
    let at_call : slice_get script.calls c.args.place ≡ Some call = item_at c.as_slice.result.now script.calls c.args.place call c.as_slice.ensures c.requires.place c.index-as_slice-place.is in
    let home : ℕ = c.home_of-home.result in
    let home_is : home ≡ get_or c.args.tables.now.strand_of.items (cell (phase_of script.cuts (c.args.place + 1)) call.cpu) 0 =
    c.home_of-home.ensures ∙ ap (λ (l : List ℕ). get_or l (cell (phase_of script.cuts (c.args.place + 1)) call.cpu) 0) c.as_slice-3.ensures.value in
    let there : home < length kept.strands =
    home_there script kept c.requires.record.formed c.requires.record.shaped c.requires.record.strands c.args.tables.now.strand_of.items c.requires.tables.lead c.args.place call at_call home home_is in
    omega (arith, there, c.requires.behind.each, ap length c.as_slice-5.ensures.value)

pub run_end-to-requires-clause-steps : goal.run_end-to-requires-clause-steps
run_end-to-requires-clause-steps c =
    let script = c.args.script.now in
    let kept = c.args.kept.now in
    let call : Call = c.index-as_slice-place.result in
    let at_call : slice_get script.calls c.args.place ≡ Some call = item_at c.as_slice.result.now script.calls c.args.place call c.as_slice.ensures c.requires.place c.index-as_slice-place.is in
    let home : ℕ = c.home_of-home.result in
    let home_is : home ≡ get_or c.args.tables.now.strand_of.items (cell (phase_of script.cuts (c.args.place + 1)) call.cpu) 0 =
    c.home_of-home.ensures ∙ ap (λ (l : List ℕ). get_or l (cell (phase_of script.cuts (c.args.place + 1)) call.cpu) 0) c.as_slice-3.ensures.value in
    let there : home < length kept.strands =
    home_there script kept c.requires.record.formed c.requires.record.shaped c.requires.record.strands c.args.tables.now.strand_of.items c.requires.tables.lead c.args.place call at_call home home_is in
    let strand : Strand = get_or kept.strands home no_strand in
    let at : slice_get kept.strands home ≡ Some strand = slice_get-get_or kept.strands home no_strand there in
    let fit : StepsFit script.shape strand.steps = steps_fit script kept c.requires.record.formed c.requires.record.shaped home strand at in
    let slice : row_read c.steps_at-steps.result ≡ strand.steps = c.steps_at-steps.ensures strand (ap (λ (l : List Strand). slice_get l home) c.as_slice-4.ensures ∙ at) in
    subst (λ (h : Histories). StepsFit h.shape (row_read c.steps_at-steps.result)) (sym c.requires.tables.histories_are)
    (subst (StepsFit script.shape) (sym slice) fit)

pub run_end-to-requires-clause-from : goal.run_end-to-requires-clause-from
run_end-to-requires-clause-from c =
    let script = c.args.script.now in
    let kept = c.args.kept.now in
    let call : Call = c.index-as_slice-place.result in
    let at_call : slice_get script.calls c.args.place ≡ Some call = item_at c.as_slice.result.now script.calls c.args.place call c.as_slice.ensures c.requires.place c.index-as_slice-place.is in
    let home : ℕ = c.home_of-home.result in
    let home_is : home ≡ get_or c.args.tables.now.strand_of.items (cell (phase_of script.cuts (c.args.place + 1)) call.cpu) 0 =
    c.home_of-home.ensures ∙ ap (λ (l : List ℕ). get_or l (cell (phase_of script.cuts (c.args.place + 1)) call.cpu) 0) c.as_slice-3.ensures.value in
    let there : home < length kept.strands =
    home_there script kept c.requires.record.formed c.requires.record.shaped c.requires.record.strands c.args.tables.now.strand_of.items c.requires.tables.lead c.args.place call at_call home home_is in
    let strand : Strand = get_or kept.strands home no_strand in
    let at : slice_get kept.strands home ≡ Some strand = slice_get-get_or kept.strands home no_strand there in
    let fit : StepsFit script.shape strand.steps = steps_fit script kept c.requires.record.formed c.requires.record.shaped home strand at in
    let slice : row_read c.steps_at-steps.result ≡ strand.steps = c.steps_at-steps.ensures strand (ap (λ (l : List Strand). slice_get l home) c.as_slice-4.ensures ∙ at) in
    let from : ℕ = c.cursor_at-from.result in
    let from_is : from ≡ get_or c.args.cursors.now.items home 0 = c.cursor_at-from.ensures ∙ ap (λ (l : List ℕ). get_or l home 0) c.as_slice-5.ensures.value in
    omega (arith, from_is, (c.requires.behind.are home strand at).within, ap length slice)

pub set_cursor-requires : goal.set_cursor-requires
set_cursor-requires c =
    let script = c.args.script.now in
    let kept = c.args.kept.now in
    let call : Call = c.index-as_slice-place.result in
    let at_call : slice_get script.calls c.args.place ≡ Some call = item_at c.as_slice.result.now script.calls c.args.place call c.as_slice.ensures c.requires.place c.index-as_slice-place.is in
    let home : ℕ = c.home_of-home.result in
    let home_is : home ≡ get_or c.args.tables.now.strand_of.items (cell (phase_of script.cuts (c.args.place + 1)) call.cpu) 0 =
    c.home_of-home.ensures ∙ ap (λ (l : List ℕ). get_or l (cell (phase_of script.cuts (c.args.place + 1)) call.cpu) 0) c.as_slice-3.ensures.value in
    let there : home < length kept.strands =
    home_there script kept c.requires.record.formed c.requires.record.shaped c.requires.record.strands c.args.tables.now.strand_of.items c.requires.tables.lead c.args.place call at_call home home_is in
    omega (arith, there, c.requires.behind.each)

pub is_right_row-requires-clause-steps : goal.is_right_row-requires-clause-steps
is_right_row-requires-clause-steps c =
    let script = c.args.script.now in
    let kept = c.args.kept.now in
    let call : Call = c.index-as_slice-place.result in
    let at_call : slice_get script.calls c.args.place ≡ Some call = item_at c.as_slice.result.now script.calls c.args.place call c.as_slice.ensures c.requires.place c.index-as_slice-place.is in
    let home : ℕ = c.home_of-home.result in
    let home_is : home ≡ get_or c.args.tables.now.strand_of.items (cell (phase_of script.cuts (c.args.place + 1)) call.cpu) 0 =
    c.home_of-home.ensures ∙ ap (λ (l : List ℕ). get_or l (cell (phase_of script.cuts (c.args.place + 1)) call.cpu) 0) c.as_slice-3.ensures.value in
    let there : home < length kept.strands =
    home_there script kept c.requires.record.formed c.requires.record.shaped c.requires.record.strands c.args.tables.now.strand_of.items c.requires.tables.lead c.args.place call at_call home home_is in
    let strand : Strand = get_or kept.strands home no_strand in
    let at : slice_get kept.strands home ≡ Some strand = slice_get-get_or kept.strands home no_strand there in
    let fit : StepsFit script.shape strand.steps = steps_fit script kept c.requires.record.formed c.requires.record.shaped home strand at in
    let slice : row_read c.steps_at-steps.result ≡ strand.steps = c.steps_at-steps.ensures strand (ap (λ (l : List Strand). slice_get l home) c.as_slice-4.ensures ∙ at) in
    let cut : row_read c.first-row.result ≡ take (c.run_end-to.result - c.cursor_at-from.result) (drop c.cursor_at-from.result (row_read c.steps_at-steps.result)) =
    c.first-row.ensures ∙ ap (λ (l : List StrandStep). take (c.run_end-to.result - c.cursor_at-from.result) l) c.behind.ensures in
    subst (StepsFit script.shape) (sym cut)
    (part_fits (StepFits script.shape) (c.run_end-to.result - c.cursor_at-from.result) c.cursor_at-from.result (row_read c.steps_at-steps.result)
    (subst (StepsFit script.shape) (sym slice) fit))

pub is_right_row-requires-clause-named : goal.is_right_row-requires-clause-named
is_right_row-requires-clause-named c =
    let script = c.args.script.now in
    let kept = c.args.kept.now in
    let call : Call = c.index-as_slice-place.result in
    let at_call : slice_get script.calls c.args.place ≡ Some call = item_at c.as_slice.result.now script.calls c.args.place call c.as_slice.ensures c.requires.place c.index-as_slice-place.is in
    let home : ℕ = c.home_of-home.result in
    let home_is : home ≡ get_or c.args.tables.now.strand_of.items (cell (phase_of script.cuts (c.args.place + 1)) call.cpu) 0 =
    c.home_of-home.ensures ∙ ap (λ (l : List ℕ). get_or l (cell (phase_of script.cuts (c.args.place + 1)) call.cpu) 0) c.as_slice-3.ensures.value in
    let there : home < length kept.strands =
    home_there script kept c.requires.record.formed c.requires.record.shaped c.requires.record.strands c.args.tables.now.strand_of.items c.requires.tables.lead c.args.place call at_call home home_is in
    let strand : Strand = get_or kept.strands home no_strand in
    let at : slice_get kept.strands home ≡ Some strand = slice_get-get_or kept.strands home no_strand there in
    let fit : StepsFit script.shape strand.steps = steps_fit script kept c.requires.record.formed c.requires.record.shaped home strand at in
    let slice : row_read c.steps_at-steps.result ≡ strand.steps = c.steps_at-steps.ensures strand (ap (λ (l : List Strand). slice_get l home) c.as_slice-4.ensures ∙ at) in
    let cut : row_read c.first-row.result ≡ take (c.run_end-to.result - c.cursor_at-from.result) (drop c.cursor_at-from.result (row_read c.steps_at-steps.result)) =
    c.first-row.ensures ∙ ap (λ (l : List StrandStep). take (c.run_end-to.result - c.cursor_at-from.result) l) c.behind.ensures in
    subst (AreNamed script.shape kept.histories) (sym cut)
    (part_fits (IsNamed script.shape kept.histories) (c.run_end-to.result - c.cursor_at-from.result) c.cursor_at-from.result (row_read c.steps_at-steps.result)
    (subst (AreNamed script.shape kept.histories) (sym slice) (steps_named script kept c.requires.record.formed c.requires.record.shaped c.requires.record.strands home strand at)))

pub is_right_row-requires-clause-call : goal.is_right_row-requires-clause-call
is_right_row-requires-clause-call c =
    let script = c.args.script.now in
    let kept = c.args.kept.now in
    let call : Call = c.index-as_slice-place.result in
    call_fits script kept c.requires.record.formed c.requires.record.shaped c.args.place call
    (item_at c.as_slice.result.now script.calls c.args.place call c.as_slice.ensures c.requires.place c.index-as_slice-place.is)

pub returns-clause-right : goal.returns-clause-right
returns-clause-right c =
    let script = c.args.script.now in
    let kept = c.args.kept.now in
    let call : Call = c.index-as_slice-place.result in
    let at_call : slice_get script.calls c.args.place ≡ Some call = item_at c.as_slice.result.now script.calls c.args.place call c.as_slice.ensures c.requires.place c.index-as_slice-place.is in
    let counted : length kept.replies ≡ length script.calls = replies_counted script.shape script.calls kept.replies c.requires.record.shaped.replies in
    let reply : Reply = c.index-as_slice-place-2.result in
    let at_reply : slice_get kept.replies c.args.place ≡ Some reply = item_at c.as_slice-2.result.now kept.replies c.args.place reply c.as_slice-2.ensures (omega (arith, counted, c.requires.place)) c.index-as_slice-place-2.is in
    let home : ℕ = c.home_of-home.result in
    let home_is : home ≡ get_or c.args.tables.now.strand_of.items (cell (phase_of script.cuts (c.args.place + 1)) call.cpu) 0 =
    c.home_of-home.ensures ∙ ap (λ (l : List ℕ). get_or l (cell (phase_of script.cuts (c.args.place + 1)) call.cpu) 0) c.as_slice-3.ensures.value in
    let there : home < length kept.strands =
    home_there script kept c.requires.record.formed c.requires.record.shaped c.requires.record.strands c.args.tables.now.strand_of.items c.requires.tables.lead c.args.place call at_call home home_is in
    let strand : Strand = get_or kept.strands home no_strand in
    let at : slice_get kept.strands home ≡ Some strand = slice_get-get_or kept.strands home no_strand there in
    let fit : StepsFit script.shape strand.steps = steps_fit script kept c.requires.record.formed c.requires.record.shaped home strand at in
    let slice : row_read c.steps_at-steps.result ≡ strand.steps = c.steps_at-steps.ensures strand (ap (λ (l : List Strand). slice_get l home) c.as_slice-4.ensures ∙ at) in
    let from : ℕ = c.cursor_at-from.result in
    let from_is : from ≡ get_or c.args.cursors.now.items home 0 = c.cursor_at-from.ensures ∙ ap (λ (l : List ℕ). get_or l home 0) c.as_slice-5.ensures.value in
    let to : ℕ = c.run_end-to.result in
    let here : Histories = c.args.tables.now.histories in
    let given : IsRow here.all (c.args.place + 1) (row_read c.steps_at-steps.result) from to = record { up = c.run_end-to.ensures.from; within = c.run_end-to.ensures.to; row = c.run_end-to.ensures.row; end = c.run_end-to.ensures.end } in
    let row : IsRow kept.histories (c.args.place + 1) strand.steps from to =
    subst (λ (h : Histories). IsRow h.all (c.args.place + 1) strand.steps from to) c.requires.tables.histories_are
    (subst (λ (l : List StrandStep). IsRow here.all (c.args.place + 1) l from to) slice given) in
    let cut : row_read c.first-row.result ≡ take (to - from) (drop from strand.steps) =
    c.first-row.ensures ∙ (ap (λ (l : List StrandStep). take (to - from) l) c.behind.ensures ∙ ap (λ (l : List StrandStep). take (to - from) (drop from l)) slice) in
    let answered : MatchBool c.in_ok-right.right (IsRightRow script kept (c.args.place + 1) call reply (take (to - from) (drop from strand.steps))) (IsRightRow script kept (c.args.place + 1) call reply (take (to - from) (drop from strand.steps)) → ⊥) =
    subst (λ (l : List StrandStep). MatchBool c.in_ok-right.right (IsRightRow script kept (c.args.place + 1) call reply l) (IsRightRow script kept (c.args.place + 1) call reply l → ⊥)) cut c.in_ok-right.ensures in
    judged_right script kept c.requires.record.formed c.requires.record.shaped c.requires.record.strands c.args.tables.now.strand_of.items c.requires.tables.lead c.args.place call at_call home home_is
    reply at_reply strand at c.args.cursors.now.items c.requires.behind from to from_is row c.in_ok-right.right answered

pub returns-clause-behind : goal.returns-clause-behind
returns-clause-behind c =
    let script = c.args.script.now in
    let kept = c.args.kept.now in
    let call : Call = c.index-as_slice-place.result in
    let at_call : slice_get script.calls c.args.place ≡ Some call = item_at c.as_slice.result.now script.calls c.args.place call c.as_slice.ensures c.requires.place c.index-as_slice-place.is in
    let counted : length kept.replies ≡ length script.calls = replies_counted script.shape script.calls kept.replies c.requires.record.shaped.replies in
    let reply : Reply = c.index-as_slice-place-2.result in
    let at_reply : slice_get kept.replies c.args.place ≡ Some reply = item_at c.as_slice-2.result.now kept.replies c.args.place reply c.as_slice-2.ensures (omega (arith, counted, c.requires.place)) c.index-as_slice-place-2.is in
    let home : ℕ = c.home_of-home.result in
    let home_is : home ≡ get_or c.args.tables.now.strand_of.items (cell (phase_of script.cuts (c.args.place + 1)) call.cpu) 0 =
    c.home_of-home.ensures ∙ ap (λ (l : List ℕ). get_or l (cell (phase_of script.cuts (c.args.place + 1)) call.cpu) 0) c.as_slice-3.ensures.value in
    let there : home < length kept.strands =
    home_there script kept c.requires.record.formed c.requires.record.shaped c.requires.record.strands c.args.tables.now.strand_of.items c.requires.tables.lead c.args.place call at_call home home_is in
    let strand : Strand = get_or kept.strands home no_strand in
    let at : slice_get kept.strands home ≡ Some strand = slice_get-get_or kept.strands home no_strand there in
    let fit : StepsFit script.shape strand.steps = steps_fit script kept c.requires.record.formed c.requires.record.shaped home strand at in
    let slice : row_read c.steps_at-steps.result ≡ strand.steps = c.steps_at-steps.ensures strand (ap (λ (l : List Strand). slice_get l home) c.as_slice-4.ensures ∙ at) in
    let from : ℕ = c.cursor_at-from.result in
    let from_is : from ≡ get_or c.args.cursors.now.items home 0 = c.cursor_at-from.ensures ∙ ap (λ (l : List ℕ). get_or l home 0) c.as_slice-5.ensures.value in
    let to : ℕ = c.run_end-to.result in
    let here : Histories = c.args.tables.now.histories in
    let given : IsRow here.all (c.args.place + 1) (row_read c.steps_at-steps.result) from to = record { up = c.run_end-to.ensures.from; within = c.run_end-to.ensures.to; row = c.run_end-to.ensures.row; end = c.run_end-to.ensures.end } in
    let row : IsRow kept.histories (c.args.place + 1) strand.steps from to =
    subst (λ (h : Histories). IsRow h.all (c.args.place + 1) strand.steps from to) c.requires.tables.histories_are
    (subst (λ (l : List StrandStep). IsRow here.all (c.args.place + 1) l from to) slice given) in
    let cut : row_read c.first-row.result ≡ take (to - from) (drop from strand.steps) =
    c.first-row.ensures ∙ (ap (λ (l : List StrandStep). take (to - from) l) c.behind.ensures ∙ ap (λ (l : List StrandStep). take (to - from) (drop from l)) slice) in
    let answered : MatchBool c.in_ok-right.right (IsRightRow script kept (c.args.place + 1) call reply (take (to - from) (drop from strand.steps))) (IsRightRow script kept (c.args.place + 1) call reply (take (to - from) (drop from strand.steps)) → ⊥) =
    subst (λ (l : List StrandStep). MatchBool c.in_ok-right.right (IsRightRow script kept (c.args.place + 1) call reply l) (IsRightRow script kept (c.args.place + 1) call reply l → ⊥)) cut c.in_ok-right.ensures in
    judged_behind script kept c.requires.record.formed c.requires.record.shaped c.requires.record.strands c.args.tables.now.strand_of.items c.requires.tables.lead c.args.place call at_call home home_is
    reply at_reply strand at c.args.cursors.now.items c.requires.behind from to from_is row c.in_ok-right.right answered c.set_cursor.new.cursors.items c.set_cursor.ensures
