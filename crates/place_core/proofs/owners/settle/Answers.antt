use Rattle.std.proofs.Common.{sym, arith, ◌<◌, ◌∙◌, length}
use Rattle.place_words.specs.declared.owner.Owner.TheVariants as owners
use Rattle.place_core.specs.Answers.{view_of}
use Rattle.place_core.proofs.CoreLemmas.{reads, did_settle, at_any}
use Rattle.place_core.proofs.owners.settle.Goals as goal

pub returns : goal.returns
returns c =
    let core = view_of c.args.cells.now in
    let under = c.index-under.result.now in
    let at = c.lock_number-number.result in
    let r = reads core c.args.lock c.args.cpu at under c.requires c.if-not-holds.ensures c.lock_number-number.ensures.exact c.index-under.ensures in
    let in_owners : c.args.element < length c.args.cells.now.owners.items = omega (arith, c.requires.owners, c.if-element-cells.false) in
    let hand = at_any c.args.cells.now.owners.items c.args.element c.index.result.now owners.Free in_owners c.index.ensures ∙ c.if-not-is_hand.ensures in
    did_settle core c.args.cpu c.args.element c.args.lock at under c.in_ok-left.left c.in_ok-now.now c.requires c.if-not-holds.ensures r (sym c.if-is_bucket.ensures) c.if-element-cells.false hand
    (λ lru. c.if-not-is_listed_if.ensures (c.is_lru.ensures ∙ lru))
    c.in_ok-left.ensures c.in_ok-now.ensures
