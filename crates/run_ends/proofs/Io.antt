-- Reads and writes one after another.
use Rattle.std.proofs.Common.{◌≡◌, ℕ, ◌+◌, ◌<◌, ◌≤◌, List, [], ◌∷◌, ◌++◌, length, take, drop, Option, Some, None, refl, sym, ap, ◌∙◌, arith, append_assoc, append-nil, length-append, subst}
use Rattle.std.proofs.Math.Seq.{take-add}
use Rattle.run_ends.specs.SourceReads.{TakesFront, TakesAll, TakesUpTo, EndsWhereNoneIsLeft}
use Rattle.run_ends.specs.Writes.{Written, Adds}

-- what is taken by two reads, one after the other
pub TakesFront-append : (first middle last : Option (List ℕ)) (a b : List ℕ) → TakesFront first middle a → TakesFront middle last b → TakesFront first last (a ++ b)
TakesFront-append None middle last a b p q = tt
TakesFront-append (Some x) None last a b p q = absurd p
TakesFront-append (Some x) (Some y) None a b p q = absurd q
TakesFront-append (Some x) (Some y) (Some z) a b p q = p ∙ ap (λ r. a ++ r) q ∙ sym (append_assoc a b z)

-- where nothing was read nothing was taken
pub TakesFront-none : (left : Option (List ℕ)) → TakesFront left left []
TakesFront-none None = tt
TakesFront-none (Some bytes) = refl

pub TakesUpTo-none : (left : Option (List ℕ)) (most : ℕ) → TakesUpTo most left left
TakesUpTo-none left most = ([], TakesFront-none left, omega arith)

-- what was all that was left was taken from its front
pub TakesFront-all : (before now : Option (List ℕ)) (bytes : List ℕ) → TakesAll before now bytes → TakesFront before now bytes
TakesFront-all None now bytes all = tt
TakesFront-all (Some left) now bytes all =
    subst (λ (rest : Option (List ℕ)). TakesFront (Some left) rest bytes) (sym all.1) (all.0 ∙ sym (append-nil bytes))

-- what is taken by a read more
pub TakesUpTo-more : (first middle last : Option (List ℕ)) (bytes : List ℕ) (room most : ℕ) → TakesFront first middle bytes → TakesUpTo room middle last → length bytes + room ≤ most → TakesUpTo most first last
TakesUpTo-more first middle last bytes room most front more fits =
    (bytes ++ more.0, TakesFront-append first middle last bytes more.0 front more.1, omega (arith, length-append bytes more.0, more.2, fits))

-- a read of nothing where there is room comes when all was taken
pub TakesAll-at_end : (first middle last : Option (List ℕ)) (a b : List ℕ) (room n : ℕ) → TakesFront first middle a → TakesFront middle last b → 0 < room → EndsWhereNoneIsLeft middle room n → length b ≡ n → n ≡ 0 → TakesAll first last (a ++ b)
TakesAll-at_end None middle last a b room n p q lt end len none = tt
TakesAll-at_end (Some x) None last a b room n p q lt end len none = absurd p
TakesAll-at_end (Some x) (Some y) None a b room n p q lt end len none = absurd q
TakesAll-at_end (Some x) (Some y) (Some z) a [] room n p q lt end len none =
    let empty : y ≡ [] = (end lt).0 none in
    (p ∙ ap (λ r. a ++ r) empty, ap (λ r. Some r) (sym q ∙ empty))
TakesAll-at_end (Some x) (Some y) (Some z) a (b ∷ bs) room n p q lt end len none = absurd (omega (arith, len, none))

-- what is written by two writes, one after the other
pub Adds-append : (first middle last : Option Written) (a b : List ℕ) → Adds first middle a → Adds middle last b → Adds first last (a ++ b)
Adds-append None middle last a b p q = tt
Adds-append (Some w) middle last a b p q =
    let joined = subst (λ (m : Option Written). Adds m last b) p q in
    joined ∙ ap (λ (bytes : List ℕ). Some (record { bytes = bytes; flushed = w.flushed })) (append_assoc w.bytes a b)

-- a write of a prefix of what is left of a text
pub Adds-take : (first middle last : Option Written) (text : List ℕ) (done n : ℕ) → Adds first middle (take done text) → Adds middle last (take n (drop done text)) → Adds first last (take (done + n) text)
Adds-take first middle last text done n p q = rw (take-add done n text) (Adds-append first middle last _ _ p q)
