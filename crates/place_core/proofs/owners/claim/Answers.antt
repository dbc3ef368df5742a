use Rattle.std.proofs.Common.{List, ℕ, subst, arith}
use Rattle.place_core.specs.Answers.{view_of}
use Rattle.map_types.specs.ElementLists.{IsHead}
use Rattle.place_core.proofs.CoreLemmas.{reads, did_claim, read_free_real}
use Rattle.place_core.proofs.owners.claim.Goals as goal

pub index_mut-requires-2 : goal.index_mut-requires-2
index_mut-requires-2 c =
    let core = view_of c.args.cells.now in
    let under = c.index-under.result.now in
    let at = c.lock_number-number.result in
    let r = reads core c.args.lock c.args.cpu at under c.requires c.if-not-holds.ensures c.lock_number-number.ensures.exact c.index-under.ensures in
    let head = subst (λ (xs : List ℕ). IsHead c.args.element xs) c.as_slice.ensures c.if-not-is_head.ensures in
    let real = read_free_real core c.args.element c.args.lock at under c.requires r head in
    omega (arith, c.args.cells.now.owners.ok)

pub returns : goal.returns
returns c =
    let core = view_of c.args.cells.now in
    let under = c.index-under.result.now in
    let at = c.lock_number-number.result in
    let r = reads core c.args.lock c.args.cpu at under c.requires c.if-not-holds.ensures c.lock_number-number.ensures.exact c.index-under.ensures in
    let head = subst (λ (xs : List ℕ). IsHead c.args.element xs) c.as_slice.ensures c.if-not-is_head.ensures in
    did_claim core c.args.cpu c.args.element c.args.lock at under c.in_ok-left.left c.in_ok-now.now c.requires c.if-not-holds.ensures r head c.in_ok-left.ensures c.in_ok-now.ensures
