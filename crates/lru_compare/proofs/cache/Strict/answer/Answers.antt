use Rattle.std.proofs.Common.{◌≡◌, refl}
use Rattle.map_types.specs.declared.bytes.Bytes.{Bytes}
use Rattle.map_types.specs.declared.call.Verb.{Verb}
use Rattle.map_types.specs.declared.call.Verb.TheVariants.{Lookup, Update, Delete, Take, Next, BatchRead, BatchUpdate, BatchDelete, Each}
use Rattle.map_types.specs.declared.kind.Side.{Side}
use Rattle.map_types.specs.declared.refusal.Errno.TheVariants.{Einval}
use Rattle.map_types.specs.declared.reply.Reply.TheVariants.{Refused}
use Rattle.lru_compare.specs.Strict.{Held, after_call}
use Rattle.lru_compare.proofs.cache.Strict.answer.Goals as goal
use Rattle.std.specs.Prelude.{ℕ}

pub returns-in-Lookup-clause-held : goal.returns-in-Lookup-clause-held
unfolding after_call
returns-in-Lookup-clause-held c = rw c.in-Lookup.is (rw c.as_slice.ensures at c.look_up.ensures.held)

pub returns-in-Lookup-clause-reply : goal.returns-in-Lookup-clause-reply
unfolding after_call
returns-in-Lookup-clause-reply c = rw c.in-Lookup.is (rw c.as_slice.ensures at c.look_up.ensures.reply)

pub returns-in-Update-clause-held : goal.returns-in-Update-clause-held
unfolding after_call
returns-in-Update-clause-held c = rw c.in-Update.is (rw (c.as_slice-in-Update.ensures, c.as_slice-in-Update-2.ensures) at c.update.ensures.held)

pub returns-in-Update-clause-reply : goal.returns-in-Update-clause-reply
unfolding after_call
returns-in-Update-clause-reply c = rw c.in-Update.is (rw (c.as_slice-in-Update.ensures, c.as_slice-in-Update-2.ensures) at c.update.ensures.reply)

pub returns-in-Delete-clause-held : goal.returns-in-Delete-clause-held
unfolding after_call
returns-in-Delete-clause-held c = rw c.in-Delete.is (rw c.as_slice-in-Delete.ensures at c.delete.ensures.held)

pub returns-in-Delete-clause-reply : goal.returns-in-Delete-clause-reply
unfolding after_call
returns-in-Delete-clause-reply c = rw c.in-Delete.is (rw c.as_slice-in-Delete.ensures at c.delete.ensures.reply)

pub returns-in-Take-clause-held : goal.returns-in-Take-clause-held
unfolding after_call
returns-in-Take-clause-held c = rw c.in-Take.is (rw c.as_slice-in-Take.ensures at c.take.ensures.held)

pub returns-in-Take-clause-reply : goal.returns-in-Take-clause-reply
unfolding after_call
returns-in-Take-clause-reply c = rw c.in-Take.is (rw c.as_slice-in-Take.ensures at c.take.ensures.reply)

-- a call of another kind
others : (verb : Verb) (held : Held) → ((side : Side) (key : Bytes) → verb ≡ Lookup side key → ⊥)
    → ((side : Side) (flags : ℕ) (key value : Bytes) → verb ≡ Update side flags key value → ⊥)
    → ((key : Bytes) → verb ≡ Delete key → ⊥) → ((key : Bytes) → verb ≡ Take key → ⊥)
    → after_call verb held ≡ (held, Refused Einval)
unfolding after_call
others (Lookup side key) held a b d e = absurd (a side key refl)
others (Update side flags key value) held a b d e = absurd (b side flags key value refl)
others (Delete key) held a b d e = absurd (d key refl)
others (Take key) held a b d e = absurd (e key refl)
others (Next key) held a b d e = refl
others (BatchRead remove count start flags) held a b d e = refl
others (BatchUpdate flags pairs) held a b d e = refl
others (BatchDelete flags keys) held a b d e = refl
others (Each flags stop) held a b d e = refl

pub returns-in_default : goal.returns-in_default
returns-in_default c =
    let is = others c.args.verb.now c.args.self.now c.in_default.not-Lookup c.in_default.not-Update c.in_default.not-Delete c.in_default.not-Take in
    rw is (record { held = refl; reply = refl })
