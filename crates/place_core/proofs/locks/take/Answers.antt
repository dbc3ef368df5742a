use Rattle.std.proofs.Common.{refl, sym, ◌∙◌, ◌≡◌, ap, None}
use Rattle.std.specs.List.{list_all}
use Rattle.place_words.specs.Locks.{rank_of}
use Rattle.place_core.specs.Answers.{view_of}
use Rattle.place_core.specs.CoreView.{holder_in}
use Rattle.place_core.proofs.HeldLemmas.{is_below, did_take, no_take, none_of}
use Rattle.place_core.proofs.locks.take.Goals as goal

pub returns-then-not-holds_below : goal.returns-then-not-holds_below
returns-then-not-holds_below c =
    let below : list_all (is_below c.args.cells.now.shape c.args.cpu (rank_of c.args.lock)) c.args.cells.now.held.items ≡ c.holds_below.result =
    sym (c.holds_below.ensures ∙ (λ i. list_all (is_below c.args.cells.now.shape c.args.cpu (c.rank.ensures i)) (c.as_slice-2.ensures.value i))) in
    (no_take (view_of c.args.cells.now) c.args.cpu c.args.lock c.requires (below ∙ c.if-not-holds_below.true), refl)

pub returns-in-Ok : goal.returns-in-Ok
returns-in-Ok c =
    let below : list_all (is_below c.args.cells.now.shape c.args.cpu (rank_of c.args.lock)) c.args.cells.now.held.items ≡ c.holds_below.result =
    sym (c.holds_below.ensures ∙ (λ i. list_all (is_below c.args.cells.now.shape c.args.cpu (c.rank.ensures i)) (c.as_slice-2.ensures.value i))) in
    let nobody : holder_in c.lock_number-number.result c.args.cells.now.held.items ≡ None =
    sym (c.holder_in.ensures ∙ ap (holder_in c.lock_number-number.result) c.as_slice.ensures.value) ∙ none_of c.holder_in.result c.is_some.result c.is_some.ensures c.if-is_some.false in
    did_take (view_of c.args.cells.now) c.args.cpu c.lock_number-number.result c.args.lock c.push.new.self.items c.requires c.if-cpu-cells.false (sym c.is_lock.ensures ∙ c.if-not-is_lock.false) c.lock_number-number.ensures.exact nobody (below ∙ c.if-not-holds_below.false) c.in-Ok.ensures.items
