use Rattle.std.proofs.Common.{◌≡◌, ◌∙◌, ap, sym, true}
use Rattle.place_words.specs.Locks.{is_lock, lock_named}
use Rattle.place_table.specs.Closing.{has_lock}
use Rattle.place_table.proofs.Leaves.{no_lock}
use Rattle.place_table.proofs.close.Histories.keep_numbered.Goals as goal

pub returns-then-not-is_lock-clause-kept : goal.returns-then-not-is_lock-clause-kept
returns-then-not-is_lock-clause-kept c = λ log lost told is.
    no_lock c.args.shape.now log lost c.args.number c.args.self.now.kept.items c.args.self.now.lost
    (ap (is_lock c.args.shape.now) (sym c.lock_named-lock.ensures) ∙ sym c.is_lock.ensures ∙ c.if-not-is_lock.true) is

pub returns-clause-kept : goal.returns-clause-kept
returns-clause-kept c = λ log lost told is.
    let there : has_lock c.args.shape.now c.args.number ≡ true = ap (is_lock c.args.shape.now) (sym c.lock_named-lock.ensures) ∙ sym c.is_lock.ensures ∙ c.if-not-is_lock.false in
    let turns = told there in
    c.keep.ensures.kept c.args.shape.now log lost c.args.number c.lock_named-lock.ensures there
    (c.entries_here.ensures (lock_named c.args.shape.now c.args.number) (lost c.args.number) (log c.args.number) turns.0 turns.1) is
