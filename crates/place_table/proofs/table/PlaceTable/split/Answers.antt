use Rattle.std.proofs.Common.{◌≡◌, true, [], ap, sym, subst, ◌∙◌}
use Rattle.map_types.specs.Creation.{IsShape}
use Rattle.place_words.specs.StrandSteps.{steps_made}
use Rattle.place_table.specs.declared.strands.TurnsMade.{TurnsMade}
use Rattle.place_table.specs.Logged.{IsLogOf, HaveLogs}
use Rattle.place_table.specs.Views.{is_among, current_strand}
use Rattle.place_table.specs.Passes.{PassView, TableView, AreFinished}
use Rattle.place_table.proofs.Parted.{split_few, split_of, is_pass_left, is_pass_off}
use Rattle.place_table.proofs.table.PlaceTable.split.Goals as goal

pub drop_cpu-requires : goal.drop_cpu-requires
drop_cpu-requires c =
    let is : IsShape c.args.self.now.shape = subst IsShape (ap (λ (t : TableView). t.shape) c.self.view_is) c.self.invariant.2 in
    split_few c.args.self.now c.args.pass.now c.args.cpu c.pass.inside.seat.me.0 is c.requires.of_table c.requires.has_cpu (ap (λ (z : PassView). z.view) c.pass.view_is) c.pass.invariant.within

pub one_cpu-requires : goal.one_cpu-requires
one_cpu-requires c =
    let is : IsShape c.args.self.now.shape = subst IsShape (ap (λ (t : TableView). t.shape) c.self.view_is) c.self.invariant.2 in
    split_few c.args.self.now c.args.pass.now c.args.cpu c.pass.inside.seat.me.0 is c.requires.of_table c.requires.has_cpu (ap (λ (z : PassView). z.view) c.pass.view_is) c.pass.invariant.within

pub split_spares-requires : goal.split_spares-requires
split_spares-requires c =
    let is : IsShape c.args.self.now.shape = subst IsShape (ap (λ (t : TableView). t.shape) c.self.view_is) c.self.invariant.2 in
    split_few c.args.self.now c.args.pass.now c.args.cpu c.pass.inside.seat.me.0 is c.requires.of_table c.requires.has_cpu (ap (λ (z : PassView). z.view) c.pass.view_is) c.pass.invariant.within

pub invariant_of-pass : goal.invariant_of-pass
invariant_of-pass c =
    let no_lock = ap (λ (z : PassView). z.view.held) c.pass.view_is ∙ c.requires.in_no_call.holds_nothing in
    let new = sym c.replace-made.ensures.after in
    is_pass_left c.args.cpu c.pass.invariant _ _ _ _ _ no_lock c.cut_seat-seat.ensures.left (ap steps_made c.replace-steps.ensures.after ∙ c.new.ensures) (c.drop_cpu.ensures c.pass.inside.seat.me.0.cpus c.pass.invariant.cpus_are)
    (subst (λ (z : TurnsMade). z.log.items ≡ []) new c.none_made-new.ensures.log) (subst (λ (z : TurnsMade). AreFinished [] z.ended) new c.none_made-new.ensures.ended)
    (subst (λ (z : TurnsMade). HaveLogs c.pass.inside.seat.me.0.shape [] z.logs) new (c.none_made-new.ensures.logs c.pass.inside.seat.me.0.shape)) c.split_spares.ensures.gone c.split_spares.ensures.stay

pub invariant_of-result : goal.invariant_of-result
invariant_of-result c =
    let v = c.pass.inside.seat.me.0 in
    let has : is_among c.args.cpu v.cpus ≡ true = ap (λ (z : PassView). is_among c.args.cpu z.view.cpus) c.pass.view_is ∙ c.requires.has_cpu in
    let was = sym c.replace-made.ensures.value in
    let ended = subst (λ (z : TurnsMade). AreFinished v.ended z.ended) was c.pass.invariant.ended_are in
    let logs = subst (λ (z : TurnsMade). HaveLogs v.shape v.ended z.logs) was c.pass.invariant.logs_are in
    let log = subst (λ (z : TurnsMade). IsLogOf v.shape v.steps v.kept z.log.items) was c.pass.invariant.log_is in
    is_pass_off c.args.cpu c.pass.invariant _ _ _ _ _ has c.cut_seat-seat.ensures.right c.new-3.ensures c.one_cpu.ensures c.end_strand-made.ensures.log
    (c.end_strand-made.ensures.ended v.ended (current_strand v) ended c.pass.invariant.cpus_are (ap steps_made c.replace-steps.ensures.value ∙ c.pass.invariant.strand_is))
    (c.end_strand-made.ensures.logs v.shape v.ended (current_strand v) logs log)
    c.split_spares.ensures.taken c.split_spares.ensures.no_others

pub returns : goal.returns
returns c =
    let before : PassView = record { table = c.pass.inside.seat.table_id; seat = c.pass.inside.seat.id; cpu = c.pass.inside.cpu; call = c.pass.inside.call; view = c.pass.inside.seat.me.0; spares = c.pass.inside.spares } in
    let seat = c.cut_seat-seat.ensures.seat in
    split_of c.args.self.now c.args.cpu c.args.pass.now before _ _ _ _ _ c.pass.view_is c.requires seat.0 seat.1 (ap (λ z. z.0) c.cut_seat-seat.ensures.left) c.split_spares.ensures.gone c.split_spares.ensures.stay
    seat.2 (ap (λ z. z.0) c.cut_seat-seat.ensures.right) c.split_spares.ensures.taken c.split_spares.ensures.no_others
