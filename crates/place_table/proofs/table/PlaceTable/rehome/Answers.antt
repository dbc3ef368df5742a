use Rattle.std.proofs.Common.{rules, ap, subst, ℕ, ◌<◌}
use Rattle.map_types.specs.Creation.{IsShape}
use Rattle.place_table.specs.Passes.{PassView, TableView}
use Rattle.place_table.proofs.CodeLemmas.{goes_has_code}
use Rattle.place_table.proofs.Passes.{cpu_is_few}
use Rattle.place_table.proofs.Hands.{is_pass_moved}
use Rattle.place_table.proofs.HomeSteps.{carries_rehomed, rehomed_of}
use Rattle.place_table.proofs.table.PlaceTable.rehome.Goals as goal

pub rehome_word-requires-clause-code : goal.rehome_word-requires-clause-code
rehome_word-requires-clause-code c =
    let is : IsShape c.args.self.now.shape = subst IsShape (ap (λ (t : TableView). t.shape) c.self.view_is) c.self.invariant.2 in
    let few = cpu_is_few c.args.self.now c.args.pass.now _ _ is c.requires.of_table c.requires.begun (ap (λ (z : PassView). z.cpu) c.pass.view_is) (ap (λ (z : PassView). z.view) c.pass.view_is) c.pass.invariant.within in
    goes_has_code c.args.self.now.shape _ _ c.args.element c.args.to is (subst (λ (n : ℕ). n < 16) (ap (λ (z : PassView). z.cpu) c.pass.view_is) few) c.requires.goes

pub invariant_of-pass : goal.invariant_of-pass
invariant_of-pass c =
    let moved = c.rehome_word.ensures.rehomed in
    is_pass_moved _ _ _ _ _ _ _ _ _ _ _ _ c.pass.invariant (carries_rehomed c.pass.inside.seat.me.0.shape moved.from c.args.to moved.owner _ _ _ c.pass.invariant.carries) c.pass.invariant.hands_real moved.after_is

pub returns : goal.returns
returns c = rehomed_of c.args.self.now _ _ c.args.pass.now _ c.pass.inside.seat.me c.rehome_word.new.seat.me c.requires.of_table c.requires.begun (ap (λ z. z.view) c.pass.view_is) c.rehome_word.ensures.rehomed (search rules)
