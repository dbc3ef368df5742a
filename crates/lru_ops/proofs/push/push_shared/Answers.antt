use Rattle.std.proofs.Common.{ap, ◌∙◌}
use Rattle.map_types.specs.Stored.{Stored}
use Rattle.map_types.specs.declared.kind.DomainId.TheVariants as locks
use Rattle.lru_ops.proofs.SharedPushes.{reads_home, can_push_at, lies_under, can_push_global, freed_pending, freed_global, freed_moved}
use Rattle.lru_ops.proofs.push.push_shared.Goals as goal

pub push_global-requires-clause-can : goal.push_global-requires-clause-can
push_global-requires-clause-can g c κs within =
    let x = reads_home _ _ _ c.args.body c.home_of-home.result _ c.requires.evicts.1 c.requires.common c.requires.can (c.element-element.ensures ∙ ap (λ (b : Stored). b.element) c.body.ensures) c.home_of-home.ensures in
    can_push_global x c.in_default.ensures

pub returns-in_default : goal.returns-in_default
returns-in_default g c =
    let x = reads_home _ _ _ c.args.body c.home_of-home.result _ c.requires.evicts.1 c.requires.common c.requires.can (c.element-element.ensures ∙ ap (λ (b : Stored). b.element) c.body.ensures) c.home_of-home.ensures in
    freed_global x c.push_global.new.pass c.in_default.ensures c.push_global.ensures

pub push_local-requires-clause-can : goal.push_local-requires-clause-can
push_local-requires-clause-can g c κs within =
    let x = reads_home _ _ _ c.args.body c.home_of-home.result _ c.requires.evicts.1 c.requires.common c.requires.can (c.element-element.ensures ∙ ap (λ (b : Stored). b.element) c.body.ensures) c.home_of-home.ensures in
    can_push_at x (locks.Local c.in-Some.cpu) c.in-Some.ensures

pub push_local-requires-clause-lies : goal.push_local-requires-clause-lies
push_local-requires-clause-lies g c κs within =
    let x = reads_home _ _ _ c.args.body c.home_of-home.result _ c.requires.evicts.1 c.requires.common c.requires.can (c.element-element.ensures ∙ ap (λ (b : Stored). b.element) c.body.ensures) c.home_of-home.ensures in
    lies_under x (locks.Local c.in-Some.cpu) c.in-Some.ensures

pub returns-in-Some-push_local : goal.returns-in-Some-push_local
returns-in-Some-push_local g c =
    let x = reads_home _ _ _ c.args.body c.home_of-home.result _ c.requires.evicts.1 c.requires.common c.requires.can (c.element-element.ensures ∙ ap (λ (b : Stored). b.element) c.body.ensures) c.home_of-home.ensures in
    freed_moved x c.in-Some.cpu _ c.push_local.new.pass c.push_global-in-Some-push_local.new.pass c.in-Some.ensures c.in-Some-push_local.ensures c.push_global-in-Some-push_local.ensures

pub returns-in_default-push_local : goal.returns-in_default-push_local
returns-in_default-push_local g c =
    let x = reads_home _ _ _ c.args.body c.home_of-home.result _ c.requires.evicts.1 c.requires.common c.requires.can (c.element-element.ensures ∙ ap (λ (b : Stored). b.element) c.body.ensures) c.home_of-home.ensures in
    freed_pending x c.in-Some.cpu c.push_local.new.pass c.in-Some.ensures c.in_default-push_local.ensures
