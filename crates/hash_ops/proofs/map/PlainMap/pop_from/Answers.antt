use Rattle.std.proofs.Common.{◌≡◌, ℕ, ◌<◌, sym, ap, ◌∙◌, subst, Some, [], ◌∷◌}
use Rattle.map_types.specs.Stored.{Stored}
use Rattle.map_types.specs.declared.kind.DomainId.TheVariants.{Freelist}
use Rattle.place_words.specs.declared.history.Part.TheVariants as parts
use Rattle.place_table.specs.Passes.{TableView, CanClaim}
use Rattle.hash_ops.specs.Free.{CanReach, PoppedAmong}
use Rattle.hash_ops.proofs.FreeTurns.{can_take}
use Rattle.hash_ops.proofs.Looks.{LookedUnder, under_some, under_none, LookedInto, can_claim_looked, can_give_looked, looked_once}
use Rattle.hash_ops.proofs.map.PlainMap.pop_from.Goals as goal
use Rattle.hash_ops.proofs.map.PlainMap.pop_from.Goals.{in-Some, in-None}

pub take-requires-after_bounds : goal.take-requires-after_bounds
take-requires-after_bounds g c κs within =
    let t = c.self.inside.table in
    can_take t c.args.pass.now c.args.cpu c.self.invariant.1 (subst (λ (x : TableView). c.args.cpu < x.shape.cpus) (sym c.self.view_is) c.requires.there) (subst (λ (x : TableView). CanReach x c.args.pass.now) (sym c.self.view_is) c.requires.can)

pub claim-requires : goal.claim-requires
claim-requires g c =
    let t = c.self.inside.table in
    let p = c.args.pass.now in
    let q = c.take.new.pass in
    let cpu = c.args.cpu in
    let old = c.in-Freelist.freelist in
    let new = c.pop-popped.new.self in
    let body = c.in-Some.body in
    let below : cpu < t.shape.cpus = subst (λ (x : TableView). cpu < x.shape.cpus) (sym c.self.view_is) c.requires.there in
    let can : CanReach t p = subst (λ (x : TableView). CanReach x p) (sym c.self.view_is) c.requires.can in
    let element : c.element-element.result ≡ body.element = c.element-element.ensures ∙ ap (λ (b : Stored). b.element) c.body.ensures in
    let into : LookedInto old new (Some body) = subst (LookedInto old new) c.in-Some.is c.pop-popped.ensures.top in
    subst (λ (e : ℕ). CanClaim t e (Freelist cpu) q) (sym element) (can_claim_looked t cpu p q old new body c.in-Freelist.ensures can c.self.invariant.1 below into)

pub give-requires-after_bounds : goal.give-requires-after_bounds
give-requires-after_bounds g c κs within =
    let t = c.self.inside.table in
    let p = c.args.pass.now in
    let q = c.take.new.pass in
    let cpu = c.args.cpu in
    let below : cpu < t.shape.cpus = subst (λ (x : TableView). cpu < x.shape.cpus) (sym c.self.view_is) c.requires.there in
    let can : CanReach t p = subst (λ (x : TableView). CanReach x p) (sym c.self.view_is) c.requires.can in
    let under : LookedUnder cpu q c.match-popped.pass c.pop-popped.result (parts.Free c.match-popped.done) = elim c.match-popped.branch [
      | in-Some w ↦ under_some cpu q w.claim.new.pass c.match-popped.pass c.pop-popped.result w.in-Some.body w.element-element.result (parts.Free c.match-popped.done) w.in-Some.is (w.element-element.ensures ∙ ap (λ (b : Stored). b.element) w.body.ensures) w.claim.ensures w.pass-is (ap parts.Free w.done-is)
      | in-None w ↦ under_none cpu q c.match-popped.pass c.pop-popped.result (parts.Free c.match-popped.done) w.in-None.is w.pass-is (ap parts.Free w.done-is)
    ] in
    can_give_looked t cpu p q c.match-popped.pass c.in-Freelist.freelist c.pop-popped.new.self c.pop-popped.result (parts.Free c.match-popped.done) c.in-Freelist.ensures can c.self.invariant.1 below c.pop-popped.ensures.top under

pub returns : goal.returns
returns g c =
    let t = c.self.inside.table in
    let p = c.args.pass.now in
    let q = c.take.new.pass in
    let cpu = c.args.cpu in
    let below : cpu < t.shape.cpus = subst (λ (x : TableView). cpu < x.shape.cpus) (sym c.self.view_is) c.requires.there in
    let can : CanReach t p = subst (λ (x : TableView). CanReach x p) (sym c.self.view_is) c.requires.can in
    let under : LookedUnder cpu q c.match-popped.pass c.pop-popped.result (parts.Free c.match-popped.done) = elim c.match-popped.branch [
      | in-Some w ↦ under_some cpu q w.claim.new.pass c.match-popped.pass c.pop-popped.result w.in-Some.body w.element-element.result (parts.Free c.match-popped.done) w.in-Some.is (w.element-element.ensures ∙ ap (λ (b : Stored). b.element) w.body.ensures) w.claim.ensures w.pass-is (ap parts.Free w.done-is)
      | in-None w ↦ under_none cpu q c.match-popped.pass c.pop-popped.result (parts.Free c.match-popped.done) w.in-None.is w.pass-is (ap parts.Free w.done-is)
    ] in
    subst (λ (x : TableView). PoppedAmong x (cpu ∷ []) p c.give.new.pass c.pop-popped.result) c.self.view_is
    (looked_once t cpu p q c.match-popped.pass c.give.new.pass c.in-Freelist.freelist c.pop-popped.new.self c.pop-popped.result (parts.Free c.match-popped.done) c.in-Freelist.ensures can c.self.invariant.1 below c.pop-popped.ensures.top under c.give.ensures)
