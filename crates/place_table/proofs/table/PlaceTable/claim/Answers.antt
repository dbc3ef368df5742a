use Rattle.std.proofs.Common.{ap, sym, subst, ◌∙◌, ◌<◌, ◌≡◌, true}
use Rattle.map_types.specs.declared.attr.Shape.{Shape}
use Rattle.map_types.specs.Creation.{IsShape}
use Rattle.place_table.specs.Passes.{PassView, TableView}
use Rattle.place_table.specs.Views.{is_among}
use Rattle.place_table.proofs.Passes.{cpu_is_few}
use Rattle.place_table.proofs.Hands.{carries_now, is_pass_moved, real_with}
use Rattle.place_table.proofs.table.PlaceTable.claim.Goals as goal

pub claim_word-requires-clause-code : goal.claim_word-requires-clause-code
claim_word-requires-clause-code c =
    let is : IsShape c.args.self.now.shape = subst IsShape (ap (λ (t : TableView). t.shape) c.self.view_is) c.self.invariant.2 in
    cpu_is_few c.args.self.now c.args.pass.now _ _ is c.requires.of_table c.requires.begun (ap (λ (z : PassView). z.cpu) c.pass.view_is) (ap (λ (z : PassView). z.view) c.pass.view_is) c.pass.invariant.within

pub invariant_of-pass : goal.invariant_of-pass
invariant_of-pass c =
    let real = subst (λ (s : Shape). c.args.element < s.elements) (sym (ap (λ (p : PassView). p.view.shape) c.pass.view_is ∙ c.requires.of_table.1)) c.requires.real in
    let mine = subst (λ (p : PassView). is_among p.cpu p.view.cpus ≡ true) (sym c.pass.view_is) c.requires.begun in
    is_pass_moved _ _ _ _ _ _ _ _ _ _ _ _ c.pass.invariant (carries_now _ _ _ _ _ c.pass.invariant.carries) (real_with c.pass.inside.seat.me.0.shape _ _ _ _ c.pass.invariant.hands_real real mine) c.claim_word.ensures.claimed.1
