use Rattle.std.proofs.Common.{List, ℕ, subst, sym, arith}
use Rattle.std.proofs.lemmas.Bool.{ltb-true}
use Rattle.map_types.specs.declared.kind.DomainId.TheVariants.{Bucket}
use Rattle.place_core.specs.Answers.{view_of}
use Rattle.map_types.specs.ElementLists.{times, IsIn}
use Rattle.place_core.proofs.CoreLemmas.{reads, did_detach, read_row_real}
use Rattle.place_core.proofs.owners.detach.Goals as goal

pub index_mut-requires-2 : goal.index_mut-requires-2
index_mut-requires-2 c =
    let core = view_of c.args.cells.now in
    let under = c.index-under.result.now in
    let at = c.lock_number-number.result in
    let r = reads core (Bucket c.args.bucket) c.args.cpu at under c.requires c.if-not-holds.ensures c.lock_number-number.ensures.exact c.index-under.ensures in
    let inside = subst (λ (xs : List ℕ). IsIn c.args.element xs) c.as_slice.ensures (ltb-true 0 (times c.args.element c.as_slice.result.now) (sym c.if-not-is_in.ensures)) in
    let real = read_row_real core c.args.element (Bucket c.args.bucket) at under c.requires r inside in
    omega (arith, c.args.cells.now.owners.ok, c.requires.owners)

pub returns : goal.returns
returns c =
    let core = view_of c.args.cells.now in
    let under = c.index-under.result.now in
    let at = c.lock_number-number.result in
    let r = reads core (Bucket c.args.bucket) c.args.cpu at under c.requires c.if-not-holds.ensures c.lock_number-number.ensures.exact c.index-under.ensures in
    let inside = subst (λ (xs : List ℕ). IsIn c.args.element xs) c.as_slice.ensures (ltb-true 0 (times c.args.element c.as_slice.result.now) (sym c.if-not-is_in.ensures)) in
    did_detach core c.args.cpu c.args.element c.args.bucket at under c.in_ok-now.now c.requires c.if-not-holds.ensures r inside c.in_ok-now.ensures
