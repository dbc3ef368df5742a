-- Turns as entries of their locks' histories, and what these lead to.
use Rattle.std.proofs.Common.{◌≡◌, ℕ, Bool, true, false, List, [], ◌∷◌, ◌++◌, refl, ap, suc}
use Rattle.std.specs.Prelude.{MatchBool, if◌then◌else◌}
use Rattle.map_types.specs.declared.attr.Shape.{Shape}
use Rattle.map_types.specs.declared.kind.DomainId.{DomainId}
use Rattle.place_words.specs.declared.history.Entry.{Entry}
use Rattle.place_words.specs.Histories.{Content, content_after, replayed}
use Rattle.place_words.specs.Locks.{is_same_lock}
use Rattle.place_words.specs.Traces.{Turn, after_turn, after_turns}
use Rattle.map_report.specs.Turns.{Happened, happened, all_happened, entries_on}

-- a test, by cases
pub by_bool : (b : Bool) (F : Bool → Type 0) → (b ≡ true → F true) → (b ≡ false → F false) → F b
by_bool true F hit miss = hit refl
by_bool false F hit miss = miss refl

-- what holds where it passes
pub matched : (b : Bool) (P Q : Type 0) → b ≡ true → P → MatchBool b P Q
matched true P Q is p = p
matched false P Q is p = cc

-- the entries of some turns and then others
pub entries_append : (lock : DomainId) (first second : List Happened) → entries_on lock (first ++ second) ≡ entries_on lock first ++ entries_on lock second
entries_append lock [] second = refl
entries_append lock (turn ∷ first) second =
    by_bool (is_same_lock turn.0 lock)
    (λ b. (if b then turn.1 ∷ entries_on lock (first ++ second) else entries_on lock (first ++ second)) ≡ (if b then turn.1 ∷ entries_on lock first else entries_on lock first) ++ entries_on lock second)
    (λ same. ap (λ entries. turn.1 ∷ entries) (entries_append lock first second))
    (λ other. entries_append lock first second)

pub replayed_append : (shape : Shape) (content : Content) (first second : List Entry) → replayed shape content (first ++ second) ≡ replayed shape (replayed shape content first) second
unfolding replayed
replayed_append shape content [] second = refl
replayed_append shape content (entry ∷ first) second = replayed_append shape (content_after shape entry.cpu entry.part content) first second

-- Turns of one call that may be made where something lies under each lock, on one lock.
module _ (shape : Shape) (cpu number : ℕ) (lock : DomainId) where
  pub call_replayed : (contents : DomainId → Content) (ticket : ℕ) (turns : List Turn)
      → replayed shape (contents lock) (entries_on lock (all_happened cpu number ticket turns)) ≡ after_turns shape cpu contents turns lock
  unfolding replayed
  call_replayed contents ticket [] = refl
  call_replayed contents ticket (turn ∷ turns) =
      let rest = call_replayed (after_turn shape cpu contents turn) (suc ticket) turns in
      let later : List Entry = entries_on lock (all_happened cpu number (suc ticket) turns) in
      by_bool (is_same_lock turn.lock lock)
      (λ b. replayed shape (if b then content_after shape cpu turn.part (contents lock) else contents lock) later ≡ after_turns shape cpu (after_turn shape cpu contents turn) turns lock
      → replayed shape (contents lock) (if b then (happened cpu number ticket turn).1 ∷ later else later) ≡ after_turns shape cpu (after_turn shape cpu contents turn) turns lock)
      (λ same is. is) (λ other is. is) rest
