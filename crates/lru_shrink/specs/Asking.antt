-- What an object that answers bits and probes was asked, and what its calls leave as it is.
use Rattle.std.specs.Prelude.{◌≡◌, ◌↔◌, ◌-◌, ℕ, List}
use Rattle.map_types.specs.Stored.{Stored}
use Rattle.map_types.specs.declared.row.Row.{Row}
use Rattle.lru_lists.specs.declared.bits.BitCall.{BitCall}
use Rattle.lru_lists.specs.declared.bits.ProbeCall.{ProbeCall}

-- What an object was asked so far, with its answers: calls for bits, and probes, each in their order.
pub record Questions : Type 0 where
  pub calls : List BitCall
  pub probes : List ProbeCall

-- The terms on which an object of a type is asked: how many calls more it can note, of which elements it may be asked, which
-- rows may be probed, what is known of the bodies that it gives, and to whom it is lent.
pub record Terms (Asked : Type 0) : Type 1 where
  pub can_note : Asked → ℕ → Type 0
  pub may_ask : Asked → ℕ → Type 0
  pub may_probe : Asked → Row → Type 0
  pub gives : Asked → Stored → Type 0
  pub lender : Asked → ℕ

-- the terms by the members that an object's trait has for them, in this order
abbrev pub terms_of : {Asked : Type 0} → (Asked → ℕ → Type 0) → (Asked → ℕ → Type 0) → (Asked → Row → Type 0) → (Asked → Stored → Type 0) → (Asked → ℕ) → Terms Asked
terms_of can_note may_ask may_probe gives lender =
    record { can_note = can_note; may_ask = may_ask; may_probe = may_probe; gives = gives; lender = lender }

-- Between two moments an object that answers bits and probes has room for so many calls less. Elements of which it might be
-- asked still may be, and so may rows of elements that stay be probed that might. What is known of the bodies that it gives,
-- and to whom it is lent, is as it was.
pub record LeavesBut {Asked : Type 0} (terms : Terms Asked) (stays : ℕ → Type 0) (used : ℕ) (old now : Asked) : Type 0 where
  pub noted : (n : ℕ) → terms.can_note old n → terms.can_note now (n - used)
  pub asked : (e : ℕ) → terms.may_ask old e → terms.may_ask now e
  pub probing : (row : Row) → stays row.element → terms.may_probe old row → terms.may_probe now row
  pub given : (body : Stored) → terms.gives old body ↔ terms.gives now body
  pub lent : terms.lender now ≡ terms.lender old
