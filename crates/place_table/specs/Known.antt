-- What a pass with all CPUs knows of each lock and of each bit, and how its own turns and steps go on from there.
use Rattle.std.specs.Prelude.{◌≡◌, ℕ, ◌<◌, ◌==◌, Bool, true, List, [], ◌∷◌, ◌++◌, Option, Some, MatchOption, IsTrue, if◌then◌else◌}
use Rattle.map_types.specs.declared.attr.Shape.{Shape}
use Rattle.place_words.specs.declared.history.Entry.{Entry}
use Rattle.map_types.specs.ElementLists.{put}
use Rattle.place_words.specs.Histories.{content, Allows, IsLegal}
use Rattle.place_words.specs.Locks.{is_lock, lock_count, lock_named}
use Rattle.place_words.specs.Turns.{Turn, TurnAt}
use Rattle.place_table.specs.declared.view.View.{View}
use Rattle.place_table.specs.declared.view.Turned.{Turned}
use Rattle.place_table.specs.Views.{has_all, known_log, bit_seen}

-- Locks

-- a turn of a lock of the map: the turns before it replay by the rules, and it is allowed on what they lead to
pub record IsAllowedAt (shape : Shape) (step : Turned) : Type 0 where
  pub below : step.lock < lock_count shape
  pub there : IsTrue (is_lock shape (lock_named shape step.lock))
  pub legal : IsLegal shape (lock_named shape step.lock) step.earlier
  pub allowed : Allows shape step.entry.cpu step.entry.part (content shape (lock_named shape step.lock) step.earlier)

abbrev pub AreAllowedAt : Shape → List Turned → Type 0
AreAllowedAt shape [] = Unit {0}
AreAllowedAt shape (step ∷ steps) = IsAllowedAt shape step × AreAllowedAt shape steps

-- The turns of the lock k, where they are known: after a turn of that lock those before it and the turn are, and any other turn
-- leaves them.
abbrev pub log_then : ℕ → Option (List Entry) → Turned → Option (List Entry)
log_then k known step = if step.lock == k then Some (step.earlier ++ step.entry ∷ []) else known

abbrev pub log_after_all : ℕ → Option (List Entry) → List Turned → Option (List Entry)
log_after_all k known [] = known
log_after_all k known (step ∷ steps) = log_after_all k (log_then k known step) steps

-- where they are known, each turn of that lock goes on from them
abbrev pub GoesOn : ℕ → Option (List Entry) → Turned → Type 0
GoesOn k known step = step.lock ≡ k → MatchOption known (Unit {0}) (λ log. step.earlier ≡ log)

abbrev pub GoOn : ℕ → Option (List Entry) → List Turned → Type 0
GoOn k known [] = Unit {0}
GoOn k known (step ∷ steps) = GoesOn k known step × GoOn k (log_then k known step) steps

-- from what was known of the lock before these turns they go on, and what they lead to is known after them
pub record LearnsLog (k : ℕ) (before after : View) (steps : List Turned) : Type 0 where
  pub go_on : GoOn k (known_log k before.known) steps
  pub known_is : known_log k after.known ≡ log_after_all k (known_log k before.known) steps

-- Bits

-- a mark, a clear or a read of the bit of an element: what it saw, where it tells, and what the bit is from then on
pub record BitTouch : Type 0 where
  pub element : ℕ
  pub seen : Option Bool
  pub left : Bool

-- the bit of e, where it is known: each step on it tells it
abbrev pub bit_then : ℕ → Option Bool → BitTouch → Option Bool
bit_then e known touch = if touch.element == e then Some touch.left else known

abbrev pub bit_after_all : ℕ → Option Bool → List BitTouch → Option Bool
bit_after_all e known [] = known
bit_after_all e known (touch ∷ touches) = bit_after_all e (bit_then e known touch) touches

-- where it is known, what a step on it saw is this
abbrev pub SeesBit : Option Bool → Bool → Type 0
SeesBit seen bit = MatchOption seen (Unit {0}) (λ found. found ≡ bit)

abbrev pub SeesOn : ℕ → Option Bool → BitTouch → Type 0
SeesOn e known touch = touch.element ≡ e → MatchOption known (Unit {0}) (SeesBit touch.seen)

abbrev pub SeeOn : ℕ → Option Bool → List BitTouch → Type 0
SeeOn e known [] = Unit {0}
SeeOn e known (touch ∷ touches) = SeesOn e known touch × SeeOn e (bit_then e known touch) touches

-- from what was known of the bit before these marks, clears and reads they go on, and what they lead to is known after them
pub record LearnsBit (e : ℕ) (before after : View) (touches : List BitTouch) : Type 0 where
  pub see_on : SeeOn e (bit_seen e before.bits) touches
  pub known_is : bit_seen e after.bits ≡ bit_after_all e (bit_seen e before.bits) touches

-- What a pass learned by these turns and these steps on bits: each turn is allowed where it stands; and where the pass has all
-- CPUs, the turns of each lock and the steps on each bit go on from what it knew, and it knows afterwards what they lead to. So it
-- does of each lock that it gave back, whatever it knew of that lock before.
pub record Learns (shape : Shape) (before after : View) (steps : List Turned) (touches : List BitTouch) : Type 0 where
  pub allowed : AreAllowedAt shape steps
  pub all : has_all after ≡ has_all before
  pub logs : has_all before ≡ true → (k : ℕ) → LearnsLog k before after steps
  pub bits : has_all before ≡ true → (e : ℕ) → LearnsBit e before after touches

-- All locks at once

-- the pass has all CPUs, and these are the turns of each lock of the map, as it knows
pub record KnowsAll (shape : Shape) (logs : ℕ → List Entry) (v : View) : Type 0 where
  pub all : has_all v ≡ true
  pub each : (k : ℕ) → k < lock_count shape → IsTrue (is_lock shape (lock_named shape k)) → known_log k v.known ≡ Some (logs k)

-- the turns of each lock after one turn more, and after some more in their order
abbrev pub log_after : (ℕ → List Entry) → Turned → ℕ → List Entry
log_after logs step = put logs step.lock (logs step.lock ++ step.entry ∷ [])

abbrev pub logs_after : (ℕ → List Entry) → List Turned → ℕ → List Entry
logs_after logs [] = logs
logs_after logs (step ∷ steps) = logs_after (log_after logs step) steps

-- Each turn stands at the end of its lock's turns, and is allowed on what these lead to.
pub record FollowsOn (shape : Shape) (logs : ℕ → List Entry) (step : Turned) : Type 0 where
  pub below : step.lock < lock_count shape
  pub there : IsTrue (is_lock shape (lock_named shape step.lock))
  pub earlier_is : step.earlier ≡ logs step.lock
  pub allowed : Allows shape step.entry.cpu step.entry.part (content shape (lock_named shape step.lock) (logs step.lock))

abbrev pub FollowOn : Shape → (ℕ → List Entry) → List Turned → Type 0
FollowOn shape logs [] = Unit {0}
FollowOn shape logs (step ∷ steps) = FollowsOn shape logs step × FollowOn shape (log_after logs step) steps

-- Turns as traces tell them

-- a turn of a pass, as traces tell it
abbrev pub turn_of : Shape → Turned → Turn
turn_of shape step = record { lock = lock_named shape step.lock; part = step.entry.part }

-- and with the turns of its lock before it
abbrev pub turn_at : Shape → Turned → TurnAt
turn_at shape step = record { turn = turn_of shape step; earlier = step.earlier }

-- it was made by this CPU in this call
abbrev pub IsBy : ℕ → ℕ → Turned → Type 0
IsBy cpu call step = (step.entry.cpu ≡ cpu) × (step.entry.call ≡ call)
