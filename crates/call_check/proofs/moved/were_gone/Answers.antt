use Rattle.std.proofs.Common.{◌≡◌, ℕ, ◌+◌, Bool, List, length, ap, sym, ◌∙◌, subst, arith, length-set}
use Rattle.std.specs.Prelude.{All}
use Rattle.place_words.specs.declared.history.Entry.{Entry}
use Rattle.call_check.specs.Moved.{IsPlaced, MovedTo, gone_by, no_entry, told_by}
use Rattle.call_check.specs.declared.moved.Ticketed.{Ticketed}
use Rattle.call_check.proofs.GoneTurns.{all_placed, all_told, told_step}
use Rattle.call_check.proofs.moved.were_gone.Goals as goal

pub catch_up-moved-requires-clause-places : goal.catch_up-moved-requires-clause-places
catch_up-moved-requires-clause-places c = subst (All (IsPlaced c.args.entries.now)) (sym c.as_slice.ensures.value) (all_placed c.args.entries.now c.in_ok-order.order.items c.in_ok-order.ensures.all)

pub at-requires : goal.at-requires
at-requires c =
    let here : IsPlaced c.args.entries.now c.index.result.now = subst (IsPlaced c.args.entries.now) (sym c.index.ensures) (all_placed c.args.entries.now c.in_ok-order.order.items c.in_ok-order.ensures.all c.loop-at.at _ (omega arith)) in
    here.0

pub index_mut-requires : goal.index_mut-requires
index_mut-requires c =
    let here : IsPlaced c.args.entries.now c.index.result.now = subst (IsPlaced c.args.entries.now) (sym c.index.ensures) (all_placed c.args.entries.now c.in_ok-order.order.items c.in_ok-order.ensures.all c.loop-at.at _ (omega arith)) in
    omega (arith, here.0, c.loop-at.invariant.1)

pub loop-at-preserved : goal.loop-at-preserved
loop-at-preserved c =
    let entries : List Entry = c.args.entries.now in
    let order : List Ticketed = c.in_ok-order.order.items in
    let at : ℕ = c.loop-at.at in
    let table : List Bool = c.catch_up-moved.new.table.items in
    let so_far : MovedTo c.args.elements entries order (at + 1) c.catch_up-moved.result table =
    subst (λ (n : ℕ). MovedTo n entries order (at + 1) c.catch_up-moved.result table) c.loop-at.invariant.0.table_is.0
    (subst (λ (o : List Ticketed). MovedTo (length c.loop-at.table.items) entries o (at + 1) c.catch_up-moved.result table) c.as_slice.ensures.value c.catch_up-moved.ensures.now) in
    let answer : c.told_by.result ≡ told_by table c.gone_by.result = c.told_by.ensures ∙ ap (λ (t : List Bool). told_by t c.gone_by.result) c.as_slice-in-loop-at.ensures.value in (
      so_far,
      length-set c.loop-at.gone.items c.index.result.now.place c.told_by.result ∙ c.loop-at.invariant.1,
      told_step entries order c.in_ok-order.ensures.rise c.in_ok-order.ensures.same (all_placed entries order c.in_ok-order.ensures.all) c.args.elements at c.catch_up-moved.result table c.loop-at.gone.items
          c.index.result.now no_entry c.gone_by.result c.told_by.result _ c.index.ensures (omega arith) c.catch_up-moved.ensures.within so_far c.requires c.loop-at.invariant.1
          (c.gone_by.ensures ∙ ap (λ (en : Entry). gone_by en.part) (sym (c.at.ensures.whatever no_entry))) answer c.loop-at.invariant.2,
    )

pub returns : goal.returns
returns c =
    all_told c.args.entries.now c.in_ok-order.order.items c.loop-at.gone.items c.in_ok-order.ensures.all c.loop-at.invariant.1
    (λ k d less. c.loop-at.invariant.2 k d (omega (arith, less)))
