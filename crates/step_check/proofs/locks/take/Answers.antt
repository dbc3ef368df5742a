use Rattle.std.proofs.Common.{refl, sym, ◌∙◌, ◌≡◌, ap, None}
use Rattle.std.specs.List.{list_all}
use Rattle.place_words.specs.Locks.{rank_of}
use Rattle.step_check.specs.Answers.{view_of}
use Rattle.step_check.specs.WordsView.{holder_in}
use Rattle.step_check.proofs.HeldLemmas.{is_below, did_take, no_take, none_of}
use Rattle.step_check.proofs.locks.take.Goals as goal

pub returns-then-not-holds_below : goal.returns-then-not-holds_below
returns-then-not-holds_below c =
    let below : list_all (is_below c.args.kept.now.shape c.args.cpu (rank_of c.args.lock)) c.args.kept.now.held.items ≡ c.holds_below.result =
    sym (c.holds_below.ensures ∙ (λ i. list_all (is_below c.args.kept.now.shape c.args.cpu (c.rank.ensures i)) (c.as_slice-2.ensures.value i))) in
    (no_take (view_of c.args.kept.now) c.args.cpu c.args.lock c.requires (below ∙ c.if-not-holds_below.true), refl)

pub returns : goal.returns
returns c =
    let below : list_all (is_below c.args.kept.now.shape c.args.cpu (rank_of c.args.lock)) c.args.kept.now.held.items ≡ c.holds_below.result =
    sym (c.holds_below.ensures ∙ (λ i. list_all (is_below c.args.kept.now.shape c.args.cpu (c.rank.ensures i)) (c.as_slice-2.ensures.value i))) in
    let nobody : holder_in c.lock_number-number.result c.args.kept.now.held.items ≡ None =
    sym (c.holder_in.ensures ∙ ap (holder_in c.lock_number-number.result) c.as_slice.ensures.value) ∙ none_of c.holder_in.result c.is_some.result c.is_some.ensures c.if-is_some.false in
    did_take (view_of c.args.kept.now) c.args.cpu c.lock_number-number.result c.args.lock c.push.new.self.items c.requires c.if-cpu-kept.false (sym c.is_lock.ensures ∙ c.if-not-is_lock.false) c.lock_number-number.ensures.exact nobody (below ∙ c.if-not-holds_below.false) c.in_ok-push.ensures.items
