-- How an element is taken where the CPUs share lists: the parts of a taking, and what each leaves of a pass.
use Rattle.std.specs.Prelude.{◌≡◌, ℕ, ◌<◌, true, false, All, IsTrue, List, [], ◌∷◌, ◌++◌, drop, map, option_map, Option, None, Some, MatchOption}
use Rattle.map_types.specs.declared.kind.DomainId.{DomainId}
use Rattle.map_types.specs.declared.kind.DomainId.TheVariants.{Local, Global}
use Rattle.map_types.specs.ElementLists.{IsIn}
use Rattle.map_types.specs.Kind.{is_lru}
use Rattle.map_types.specs.Stored.{Stored, IsSized}
use Rattle.place_words.specs.declared.history.Entry.{Entry}
use Rattle.place_words.specs.declared.history.Part.{Part}
use Rattle.place_words.specs.declared.history.Part.TheVariants as parts
use Rattle.place_words.specs.declared.list_part.LocalPart.TheVariants as local
use Rattle.place_words.specs.declared.list_part.Stolen.{Stolen}
use Rattle.place_words.specs.declared.visits.Look.{Look}
use Rattle.place_words.specs.declared.visits.Try.{Try}
use Rattle.place_words.specs.declared.visits.Visit.{Visit}
use Rattle.place_words.specs.declared.home.Home.TheVariants as homes
use Rattle.place_words.specs.Histories.{content, in_locals}
use Rattle.place_words.specs.Locals.{LocalLists}
use Rattle.place_words.specs.Locks.{is_lock, lock_number}
use Rattle.place_words.specs.Takings.{Refills, Steals, IsChased, stolen_element, brings_home, ends_flushed}
use Rattle.place_words.specs.Turns.{Turn, found, on_lock}
use Rattle.place_words.specs.Wholeness.{all_of}
use Rattle.place_table.specs.declared.view.HomeIn.{HomeIn}
use Rattle.place_table.specs.declared.view.Turned.{Turned}
use Rattle.place_table.specs.declared.view.WordStep.{WordStep}
use Rattle.place_table.specs.Calls.{CanCall, FindNoneMoved, AreTold, bits_of_turns}
use Rattle.place_table.specs.Contents.{lists_of}
use Rattle.place_table.specs.Known.{Learns, KnowsAll, turn_at, turn_of, IsBy}
use Rattle.place_table.specs.Passes.{PassView, TableView, IsPassOf, HasBegun, Made}
use Rattle.place_table.specs.Views.{is_among, is_in_hand_of, home_known, with_in_hand, without_in_hand}
use Rattle.lru_ops.specs.declared.refill.Refilled.{Refilled}
use Rattle.lru_ops.specs.declared.shared.Taken.{Taken}
use Rattle.lru_ops.specs.declared.shared.Taken.TheVariants as taken
use Rattle.lru_ops.specs.Evictions.{SawHolders}
use Rattle.lru_ops.specs.Lists.{Changed, Acquired, IsTakenFor, CanFree, GaveNone, StoleNone, StoleNoneOf}

-- A call in which nothing was done yet, on a map whose CPUs share lists.
pub record CanTakeShared (t : TableView) (p : PassView) : Type 0 where
  pub can : CanCall t p
  pub common : IsTrue t.shape.common

-- The own local free list was empty, and a refill brought nothing: a turn of the global lists inside one of the local lists, which were
-- these.
pub record RefilledNone (t : TableView) (hash cursor : ℕ) (before after : PassView) : Type 0 where
  pub steps : List Turned
  pub told : List Turned
  pub lost : List ℕ
  pub changed : Changed t before after steps told lost
  pub evicts : IsTrue (is_lru t.shape.kind)
  pub inner : List Turned
  pub last : Turned
  pub told_is : told ≡ inner ++ last ∷ []
  pub lists : LocalLists
  pub none_free : lists.free ≡ []
  pub cursor_is : cursor ≡ lists.steal
  pub refills : Refills t.shape before.cpu hash lists None (map (turn_at t.shape) told)
  pub found_there : found t.shape (turn_at t.shape last) ≡ in_locals lists
  pub flushed : List Visit
  pub last_is : turn_of t.shape last ≡ on_lock (Local before.cpu) (parts.Local (local.Refill hash flushed [] None))
  pub gave_none : GaveNone t.shape before.cpu inner
  pub hand : after.view.hand ≡ before.view.hand
  pub saw : SawHolders t.shape before after (steps ++ told)

-- the part of a turn of the local lists that tells what a refill told of it, with what was given out
abbrev pub IsRefillPart : ℕ → Option Refilled → Option ℕ → Part → Type 0
IsRefillPart hash None got part = ⊥
IsRefillPart hash (Some refilled) got part = part ≡ parts.Local (local.Refill hash refilled.flushed refilled.gained got)

-- what a taking from the own local lists leaves
abbrev pub TookLocal : TableView → ℕ → PassView → PassView → Taken → Type 0
TookLocal t hash before after (taken.Got body) = Acquired t hash before after (Some body)
TookLocal t hash before after (taken.Nothing cursor) = (cursor < t.shape.cpus) × RefilledNone t hash cursor before after

-- A pass holds no lock, carries nothing, and has nothing in hand, on a map whose CPUs share lists.
pub record CanSteal (t : TableView) (p : PassView) : Type 0 where
  pub of_table : IsPassOf t p
  pub begun : HasBegun p
  pub common : IsTrue t.shape.common
  pub no_lock : p.view.held ≡ []
  pub carries_nothing : p.view.carried ≡ []
  pub hands_empty : (e cpu : ℕ) → is_among cpu p.view.cpus ≡ true → is_in_hand_of e cpu p.view.hand ≡ false

-- These turns were made, which are told so. What may have changed besides is what the pass has in hand and what it carries, what it knows
-- of that, of turns and of bits, and its steps on words and looks at homes.
pub record ChangedHands (t : TableView) (before after : PassView) (steps told : List Turned) (lost : List ℕ) : Type 0 where
  pub told_are : AreTold t.shape lost steps told
  pub made : Made before after steps lost
  pub by_call : All (IsBy before.cpu before.call) steps
  pub spares : after.spares ≡ before.spares
  pub learns : Learns t.shape before.view after.view steps (bits_of_turns t.shape told)
  pub none_moved : FindNoneMoved t before told

-- A turn of the local lists of a CPU, with its probes: an element was stolen, which the CPU has in hand and carries; or none was, and
-- the turn shows why.
pub record StoleFrom (t : TableView) (from : ℕ) (before after : PassView) (found : Option Stored) : Type 0 where
  pub steps : List Turned
  pub told : List Turned
  pub lost : List ℕ
  pub changed : ChangedHands t before after steps told lost
  pub stolen : Stolen
  pub first : List Look
  pub second : List Try
  pub trace : IsChased t.shape (Local from) (parts.Local (local.Steal stolen first second)) (map (turn_at t.shape) told)
  pub stolen_is : stolen_element stolen ≡ option_map (λ (body : Stored). body.element) found
  pub hand : MatchOption found (after.view.hand ≡ before.view.hand) (λ body. after.view.hand ≡ with_in_hand body.element before.cpu before.view.hand)
  pub carried : MatchOption found (after.view.carried ≡ before.view.carried) (λ body. after.view.carried ≡ with_in_hand body.element before.cpu before.view.carried)
  pub body : MatchOption found (Unit {0}) (λ body. (body.element < t.shape.elements) × IsSized t.shape body)
  pub none : MatchOption found (StoleNone t.shape before.cpu from told) (λ body. Unit {0})
  pub saw : SawHolders t.shape before after (steps ++ told)

-- A pass holds no lock, and its CPU has an element in hand that it carries, as it has one that it stole.
pub record CanBringHome (t : TableView) (e : ℕ) (p : PassView) : Type 0 where
  pub of_table : IsPassOf t p
  pub begun : HasBegun p
  pub common : IsTrue t.shape.common
  pub no_lock : p.view.held ≡ []
  pub real : e < t.shape.elements
  pub in_hand : is_in_hand_of e p.cpu p.view.hand ≡ true
  pub carried : is_in_hand_of e p.cpu p.view.carried ≡ true

-- It came to the own pending list, by one turn of the own local lists, which sets the steal cursor behind the CPU that it was stolen
-- from, and is carried no more.
pub record BroughtHome (t : TableView) (hash from e : ℕ) (before after : PassView) : Type 0 where
  pub step : Turned
  pub changed : ChangedHands t before after (step ∷ []) (step ∷ []) []
  pub turn_is : turn_of t.shape step ≡ brings_home t.shape before.cpu hash from e
  pub hand : after.view.hand ≡ before.view.hand
  pub carried : after.view.carried ≡ without_in_hand e before.cpu before.view.carried
  pub taken : (body : Stored) → body.element ≡ e → IsSized t.shape body → IsTakenFor t hash after body
  pub saw : SawHolders t.shape before after (step ∷ step ∷ [])

-- A round of thefts over these CPUs got an element, which is in hand; or got none, and shows why.
pub record StoleRound (t : TableView) (hash : ℕ) (cpus : List ℕ) (before after : PassView) (found : Option Stored) : Type 0 where
  pub steps : List Turned
  pub told : List Turned
  pub lost : List ℕ
  pub changed : Changed t before after steps told lost
  pub trace : Steals t.shape before.cpu hash cpus (option_map (λ (body : Stored). body.element) found) (map (turn_at t.shape) told)
  pub hand : MatchOption found (after.view.hand ≡ before.view.hand) (λ body. after.view.hand ≡ with_in_hand body.element before.cpu before.view.hand)
  pub taken : MatchOption found (Unit {0}) (IsTakenFor t hash after)
  pub none : MatchOption found (StoleNoneOf t.shape before.cpu cpus told) (λ body. Unit {0})
  pub saw : SawHolders t.shape before after (steps ++ told)

-- An element that is freed, whose home was read as this lock.
pub record CanPushAt (t : TableView) (lock : DomainId) (body : Stored) (p : PassView) : Type 0 where
  pub can : CanFree t body p
  pub common : IsTrue t.shape.common
  pub there : IsTrue (is_lock t.shape lock)
  pub reading : HomeIn
  pub read : home_known body.element p.cpu p.view.readings ≡ Some reading
  pub home_is : reading.home ≡ homes.In lock

-- Where the pass knows the turns of all locks, the element lies under this one.
abbrev pub LiesUnder : TableView → DomainId → ℕ → PassView → Type 0
LiesUnder t lock e p =
    (logs : ℕ → List Entry) → KnowsAll t.shape logs p.view → IsIn e (all_of (lists_of (content t.shape lock (logs (lock_number t.shape lock)))))

-- the steps on words that the pass made meanwhile, with no look at a home more
pub record HasTouched (before after : PassView) : Type 0 where
  pub steps : List WordStep
  pub steps_are : after.view.touched ≡ before.view.touched ++ steps
  pub no_home : after.view.homes_read ≡ before.view.homes_read

-- It was freed by one turn, which is this one, and is in the CPU's hand no more.
pub record FreedBy (t : TableView) (turn : Turn) (body : Stored) (before after : PassView) : Type 0 where
  pub step : Turned
  pub changed : Changed t before after (step ∷ []) (step ∷ []) []
  pub touched : HasTouched before after
  pub turn_is : turn_of t.shape step ≡ turn
  pub hand : after.view.hand ≡ without_in_hand body.element before.cpu before.view.hand

-- A push that found its element moved on: by one turn of the local lists of a CPU, from which it had been flushed, in a turn that they
-- had since its home was read. It is in the CPU's hand still, and its home is the global lists.
pub record FoundMoved (t : TableView) (cpu : ℕ) (body : Stored) (before after : PassView) : Type 0 where
  pub step : Turned
  pub changed : Changed t before after (step ∷ []) (step ∷ []) []
  pub touched : HasTouched before after
  pub turn_is : turn_of t.shape step ≡ on_lock (Local cpu) (parts.Local (local.Push body.element false))
  pub was_flushed : IsTrue (ends_flushed body.element false step.earlier)
  pub since : (read : HomeIn) → home_known body.element before.cpu before.view.readings ≡ Some read → IsTrue (ends_flushed body.element false (drop read.turns step.earlier))
  pub hand : after.view.hand ≡ before.view.hand
  pub can : CanPushAt t Global body after

-- what a push on the local lists of a CPU leaves: the element is freed, or was found to have moved on
abbrev pub PushesLocal : TableView → ℕ → Stored → PassView → PassView → Option Stored → Type 0
PushesLocal t cpu body before after None = FreedBy t (on_lock (Local cpu) (parts.Local (local.Push body.element true))) body before after
PushesLocal t cpu body before after (Some left) = (left ≡ body) × FoundMoved t cpu body before after
