use Rattle.std.proofs.Common.{◌∙◌, ap, sym, subst}
use Rattle.std.specs.Prelude.{IsTrue}
use Rattle.map_types.specs.Stored.{Stored}
use Rattle.map_types.specs.declared.kind.DomainId.TheVariants.{Freelist}
use Rattle.place_words.specs.Locks.{is_lock}
use Rattle.place_table.specs.Passes.{TableView}
use Rattle.hash_ops.specs.Free.{CanPush, Pushed}
use Rattle.hash_ops.proofs.FreeTurns.{freelist_there}
use Rattle.hash_ops.proofs.Pushes.{push_room, can_give_pushed, pushed_once}
use Rattle.hash_ops.proofs.map.PlainMap.push.Goals as goal

pub push-requires : goal.push-requires
push-requires g c =
    push_room c.in-Freelist.ensures (subst (λ (x : TableView). CanPush x c.args.body c.args.pass.now) (sym c.self.view_is) c.requires)

pub give-requires-after_bounds : goal.give-requires-after_bounds
give-requires-after_bounds g c κs within =
    let t = c.self.inside.table in
    let can : CanPush t c.args.body c.args.pass.now = subst (λ (x : TableView). CanPush x c.args.body c.args.pass.now) (sym c.self.view_is) c.requires in
    let is_there : IsTrue (is_lock t.shape (Freelist c.cpu_of-own.result)) = freelist_there t.shape c.cpu_of-own.result c.self.invariant.1 c.cpu_of-own.ensures.within in
    can_give_pushed c.in-Freelist.ensures can is_there (c.element-element.ensures ∙ ap (λ (b : Stored). b.element) c.body.ensures) c.settle.ensures c.push.ensures.on_top c.self.invariant.1

pub returns : goal.returns
returns g c =
    let t = c.self.inside.table in
    let can : CanPush t c.args.body c.args.pass.now = subst (λ (x : TableView). CanPush x c.args.body c.args.pass.now) (sym c.self.view_is) c.requires in
    let is_there : IsTrue (is_lock t.shape (Freelist c.cpu_of-own.result)) = freelist_there t.shape c.cpu_of-own.result c.self.invariant.1 c.cpu_of-own.ensures.within in
    subst (λ (x : TableView). Pushed x c.args.body c.args.pass.now c.give.new.pass) c.self.view_is
    (pushed_once c.in-Freelist.ensures can is_there (c.element-element.ensures ∙ ap (λ (b : Stored). b.element) c.body.ensures) c.settle.ensures c.push.ensures.on_top c.give.new.pass c.self.invariant.1 c.cpu_of-own.ensures.value c.cpu_of-own.ensures.within c.give.ensures)
