use Rattle.std.proofs.Common.{subst, sym, arith, ◌<◌, ◌∙◌, length}
use Rattle.map_types.specs.declared.kind.DomainId.TheVariants.{Bucket}
use Rattle.place_words.specs.declared.owner.Owner.TheVariants as owners
use Rattle.place_words.specs.declared.home.Home.{Home}
use Rattle.place_words.specs.declared.home.Home.TheVariants as homes
use Rattle.place_core.specs.Answers.{view_of}
use Rattle.place_words.specs.Steps.{IsLockHome}
use Rattle.place_core.proofs.CoreLemmas.{reads, did_attach, at_any}
use Rattle.place_core.proofs.owners.attach.Goals as goal

pub returns : goal.returns
returns c =
    let core = view_of c.args.cells.now in
    let under = c.index-3.result.now in
    let at = c.lock_number-number.result in
    let r = reads core (Bucket c.args.bucket) c.args.cpu at under c.requires c.if-not-holds.ensures c.lock_number-number.ensures.exact c.index-3.ensures in
    let real = c.if-element-cells.false in
    let in_owners : c.args.element < length c.args.cells.now.owners.items = omega (arith, c.requires.owners) in
    let in_homes : c.args.element < length c.args.cells.now.homes.items = omega (arith, c.requires.homes) in
    let hand = at_any c.args.cells.now.owners.items c.args.element c.index.result.now owners.Free in_owners c.index.ensures ∙ c.if-not-is_hand.ensures in
    let home_is = at_any c.args.cells.now.homes.items c.args.element c.index-2.result.now homes.Unlisted in_homes c.index-2.ensures in
    did_attach core c.args.cpu c.args.element c.args.bucket at under c.in_ok-now.now c.requires c.if-not-holds.ensures r real hand
    (λ lru. subst (λ (home : Home). IsLockHome home) (sym home_is) (c.if-not-is_lock_home_if.ensures (c.is_lru.ensures ∙ lru)))
    c.in_ok-now.ensures
