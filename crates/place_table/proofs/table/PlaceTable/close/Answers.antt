use Rattle.std.proofs.Common.{◌≡◌, ℕ, ◌∙◌, ◌++◌, ◌∷◌, [], ap, List, Option, get_or, length, map, refl, sym, subst, arith}
use Rattle.std.proofs.lemmas.Option.{IfSome_then}
use Rattle.map_types.specs.declared.attr.Shape.{Shape}
use Rattle.std.proofs.lemmas.List.{length-map}
use Rattle.std.specs.Slots.{slots_items}
use Rattle.place_words.specs.Locks.{lock_count}
use Rattle.map_types.specs.Stored.{Stored}
use Rattle.place_table.specs.declared.content.Behind.{Behind}
use Rattle.place_table.specs.declared.content.Content.{Content}
use Rattle.place_table.specs.Words.{word_count}
use Rattle.place_table.specs.Views.{current_strand}
use Rattle.place_table.specs.Passes.{PassView, TableView}
use Rattle.place_table.proofs.Closes.{at_its_end, if_closed}
use Rattle.place_table.specs.Leaving.{AreApart}
use Rattle.place_table.specs.Logged.{AreLogsOf}
use Rattle.place_table.proofs.LogsTell.{logs_tell}
use Rattle.place_table.proofs.Leaves.{buckets_sized, contents_apart, histories_apart}
use Rattle.place_table.proofs.table.PlaceTable.close.Goals as goal

pub empty_out-told-requires-clause-full : goal.empty_out-told-requires-clause-full
empty_out-told-requires-clause-full c =
    let table : c.self.inside.shape ≡ c.args.self.shape = ap (λ (t : TableView). t.shape) c.self.view_is in
    let view = ap (λ (p : PassView). p.view) c.pass.view_is in
    let e = at_its_end c.self.inside.shape c.self.inside.table.shared.key c.args.self.shape (slots_items c.close_with-closed.result.words) (slots_items c.close_with-closed.result.slots) c.pass.inside.seat.id c.pass.inside.seat.me.0 c.args.pass.view
    c.self.invariant.0 table view c.close_with-closed.ensures.values.2 c.requires.all_cpus c.requires.in_no_call.holds_nothing in
    (c.close_with-closed.ensures.values.1, c.close_with-closed.result.slots.ok.0 ∙ e.slots_are.counted)

pub empty_out-told-requires-clause-sized : goal.empty_out-told-requires-clause-sized
empty_out-told-requires-clause-sized c =
    let table : c.self.inside.shape ≡ c.args.self.shape = ap (λ (t : TableView). t.shape) c.self.view_is in
    let view = ap (λ (p : PassView). p.view) c.pass.view_is in
    let slots = slots_items c.close_with-closed.result.slots in
    let e = at_its_end c.self.inside.shape c.self.inside.table.shared.key c.args.self.shape (slots_items c.close_with-closed.result.words) slots c.pass.inside.seat.id c.pass.inside.seat.me.0 c.args.pass.view
    c.self.invariant.0 table view c.close_with-closed.ensures.values.2 c.requires.all_cpus c.requires.in_no_call.holds_nothing in
    buckets_sized c.self.inside.shape e.log (map (λ (b : Behind). b.content) slots) (contents_apart c.self.inside.shape e.log e.lost slots _ e.slots_are refl)

pub keep_others-requires-clause-emptied : goal.keep_others-requires-clause-emptied
keep_others-requires-clause-emptied c = (map (λ (b : Behind). b.history) (slots_items c.close_with-closed.result.slots), c.empty_out-told.ensures.emptied)

pub returns : goal.returns
returns c =
    let table : c.self.inside.shape ≡ c.args.self.shape = ap (λ (t : TableView). t.shape) c.self.view_is in
    let view = ap (λ (p : PassView). p.view) c.pass.view_is in
    let v = c.pass.inside.seat.me.0 in
    let words = slots_items c.close_with-closed.result.words in
    let slots = slots_items c.close_with-closed.result.slots in
    let e = at_its_end c.self.inside.shape c.self.inside.table.shared.key c.args.self.shape words slots c.pass.inside.seat.id v c.args.pass.view
    c.self.invariant.0 table view c.close_with-closed.ensures.values.2 c.requires.all_cpus c.requires.in_no_call.holds_nothing in
    let contents = contents_apart c.self.inside.shape e.log e.lost slots (map (λ (b : Behind). b.content) slots) e.slots_are refl in
    let counted : length (map (λ (b : Behind). b.content) slots) ≡ lock_count c.self.inside.shape = length-map slots (λ (b : Behind). b.content) ∙ e.slots_are.counted in
    let all_words : c.word_count.result ≡ word_count c.self.inside.shape = c.word_count.ensures ∙ c.self.invariant.1 in
    let marked = c.in_ok-marked.ensures e.core.bit (λ n less. ap (λ (i : ℕ). get_or words i 0) (omega (arith, all_words)) ∙ e.words_told.bits n less) in
    let strands = v.ended ++ current_strand v ∷ [] in
    let logs = c.ended_told-ended.ensures.logs v.shape strands (c.end_strand.ensures.logs v.shape v.ended (current_strand v) c.pass.invariant.logs_are c.pass.invariant.log_is) in
    let histories = IfSome_then _ logs (λ _ are. c.in_ok-keep_others.ensures.kept (map (λ (b : Behind). b.history) slots) e.log e.lost c.empty_out-told.ensures.emptied (histories_apart c.self.inside.shape e.log e.lost slots _ e.slots_are refl)
    (logs_tell c.self.inside.shape strands c.ended_told-ended.result.1.items e.log e.lost (subst (λ (s : Shape). AreLogsOf s strands c.ended_told-ended.result.1.items) e.shape_is are) e.stand e.turns e.recorded)) in
    let apart = subst (λ (z : List (Option Content) × List (List Stored)). AreApart c.self.inside.shape (map (λ (b : Behind). b.content) slots) c.in_ok-told.field-0 z.0 z.1)
    (λ i. (sym c.keep_others.ensures.freelists i, sym c.keep_others.ensures.buckets i)) c.in_ok-told.ensures.apart in
    let finished = c.ended_told-ended.ensures.ended strands (c.end_strand.ensures.ended v.ended (current_strand v) c.pass.invariant.ended_are c.pass.invariant.cpus_are c.pass.invariant.strand_is) in
    if_closed c.self.inside.shape c.args.self.shape _ c.args.pass words slots c.read_slots.result e c.requires.all_cpus c.requires.in_no_call c.pass.invariant.hands_real c.pass.invariant.ended_within c.pass.invariant.within table c.pass.view_is
    (c.read_slots.ensures e.log e.lost e.core.bit strands (map (λ (b : Behind). b.content) slots) contents counted apart histories marked finished)
