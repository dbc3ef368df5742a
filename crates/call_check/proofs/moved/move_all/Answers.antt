use Rattle.std.proofs.Common.{ℕ, false, get_or, ap, sym, ◌∙◌, arith}
use Rattle.place_words.specs.declared.history.Entry.{Entry}
use Rattle.place_words.specs.Takings.{flushed_by}
use Rattle.call_check.specs.Moved.{no_entry}
use Rattle.call_check.specs.declared.moved.Ticketed.{Ticketed}
use Rattle.call_check.proofs.GoneTurns.{moved_more}
use Rattle.call_check.proofs.moved.move_all.Goals as goal

pub loop-at-preserved : goal.loop-at-preserved
loop-at-preserved c =
    let none : Ticketed = record { ticket = 0; place = 0 } in
    let i : ℕ = c.loop-at.at-index in (
      c.move_by.ensures.size ∙ c.loop-at.invariant.0,
      λ e less.
          c.move_by.ensures.moved e (omega (arith, less, c.loop-at.invariant.0))
          ∙ (ap (λ (en : Entry). flushed_by e en.part (get_or c.loop-at.table.items e false)) (sym (c.at.ensures.whatever no_entry))
          ∙ (ap (flushed_by e (get_or c.args.entries.now (get_or c.args.order.now i none).place no_entry).part) (c.loop-at.invariant.1 e less)
          ∙ moved_more c.args.entries.now c.args.order.now i e (get_or c.args.table.now.items e false) none no_entry (omega arith) (c.requires i none (omega arith)).0)),
    )
