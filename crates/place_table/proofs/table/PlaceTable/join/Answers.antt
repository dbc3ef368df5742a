use Rattle.std.proofs.Common.{ap, sym, subst, ◌∙◌}
use Rattle.map_types.specs.declared.attr.Shape.{Shape}
use Rattle.place_words.specs.StrandSteps.{steps_made}
use Rattle.place_table.specs.declared.strands.TurnsMade.{TurnsMade}
use Rattle.place_table.specs.Logged.{IsLogOf, HaveLogs}
use Rattle.place_table.specs.Views.{current_strand, all_strands}
use Rattle.place_table.specs.Passes.{PassView, AreFinished}
use Rattle.place_table.proofs.Parted.{is_pass_joined, joined_of}
use Rattle.place_table.proofs.table.PlaceTable.join.Goals as goal

pub invariant_of-pass : goal.invariant_of-pass
invariant_of-pass c =
    let v = c.pass.inside.seat.me.0 in let u = c.other.inside.seat.me.0 in
    let no_lock = ap (λ (z : PassView). z.view.held) c.pass.view_is ∙ c.requires.in_no_call.holds_nothing in
    let shapes = ap (λ (z : PassView). z.view.shape) c.other.view_is ∙ (c.requires.other_of_table.1 ∙ sym (ap (λ (z : PassView). z.view.shape) c.pass.view_is ∙ c.requires.of_table.1)) in
    let was = sym c.replace-ours.ensures.value in
    let ended = subst (λ (z : TurnsMade). AreFinished v.ended z.ended) was c.pass.invariant.ended_are in
    let logs = subst (λ (z : TurnsMade). HaveLogs v.shape v.ended z.logs) was c.pass.invariant.logs_are in
    let log = subst (λ (z : TurnsMade). IsLogOf v.shape v.steps v.kept z.log.items) was c.pass.invariant.log_is in
    let ours = c.end_strand-ours.ensures.ended v.ended (current_strand v) ended c.pass.invariant.cpus_are (ap steps_made c.replace-steps.ensures.value ∙ c.pass.invariant.strand_is) in
    let our_logs = c.end_strand-ours.ensures.logs v.shape v.ended (current_strand v) logs log in
    let theirs = c.end_strand.ensures.ended u.ended (current_strand u) c.other.invariant.ended_are c.other.invariant.cpus_are c.other.invariant.strand_is in
    let their_logs = subst (λ (s : Shape). HaveLogs s (all_strands u) c.end_strand.result.logs) shapes (c.end_strand.ensures.logs u.shape u.ended (current_strand u) c.other.invariant.logs_are c.other.invariant.log_is) in
    is_pass_joined v u _ _ _ _ _ _ _ _ _ _ _ _ _ _ _ c.pass.invariant c.other.invariant no_lock shapes c.merge_seat.ensures.joined (ap steps_made c.replace-steps.ensures.after ∙ c.new.ensures)
    (c.add_cpus.ensures v.cpus u.cpus c.pass.invariant.cpus_are c.other.invariant.cpus_are)
    c.join_made.ensures.log (c.join_made.ensures.ended (all_strands v) (all_strands u) ours theirs)
    (c.join_made.ensures.logs v.shape (all_strands v) (all_strands u) our_logs their_logs) c.join_spares.ensures

pub returns : goal.returns
returns c =
    let before : PassView = record { table = c.pass.inside.seat.table_id; seat = c.pass.inside.seat.id; cpu = c.pass.inside.cpu; call = c.pass.inside.call; view = c.pass.inside.seat.me.0; spares = c.pass.inside.spares } in
    let other : PassView = record { table = c.other.inside.seat.table_id; seat = c.other.inside.seat.id; cpu = c.other.inside.cpu; call = c.other.inside.call; view = c.other.inside.seat.me.0; spares = c.other.inside.spares } in
    joined_of c.args.self.now c.args.pass.now c.args.other before other _ _ _ _ c.pass.view_is c.other.view_is c.requires (λ e cpu here. (c.pass.invariant.hands_real e cpu here).1) (λ e cpu here. (c.other.invariant.hands_real e cpu here).1)
    c.merge_seat.ensures.seat.0 c.merge_seat.ensures.seat.1 (ap (λ z. z.0) c.merge_seat.ensures.joined) c.join_spares.ensures
