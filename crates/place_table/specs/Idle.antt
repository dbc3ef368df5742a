-- What a pass that has all CPUs learns of a map where no CPU holds a lock and none has an element in hand.
use Rattle.std.specs.Prelude.{◌≡◌, ℕ, ◌<◌, false, IsTrue, Some, List, [], if◌then◌else◌}
use Rattle.map_types.specs.declared.attr.Shape.{Shape}
use Rattle.map_types.specs.declared.kind.DomainId.{DomainId}
use Rattle.map_types.specs.declared.kind.DomainId.TheVariants.{Bucket, Freelist}
use Rattle.map_types.specs.ElementLists.{IsIn}
use Rattle.map_types.specs.Kind.{is_lru}
use Rattle.key_hash.specs.Bucket.{bucket_number}
use Rattle.place_words.specs.declared.history.Entry.{Entry}
use Rattle.place_words.specs.declared.owner.Owner.TheVariants as owners
use Rattle.place_words.specs.Histories.{IsLegal, content}
use Rattle.place_words.specs.Locks.{is_lock, lock_named, lock_number, lock_count}
use Rattle.place_words.specs.Tickets.{AscendIn}
use Rattle.place_words.specs.Places.{Placed}
use Rattle.place_words.specs.State.{rows}
use Rattle.place_words.specs.State as cores
use Rattle.place_table.specs.declared.view.Known.{Known}
use Rattle.place_table.specs.declared.view.View.{View}
use Rattle.place_table.specs.Contents.{lists_of}
use Rattle.place_table.specs.Rules.{is_hand_of}
use Rattle.place_table.specs.StoredHashes.{stored_in}
use Rattle.place_table.specs.StrandTurns.{AreTurnsOf}
use Rattle.place_table.specs.Tickets.{turn_tickets, EachAscends}
use Rattle.place_table.specs.Views.{known_log, is_in_hand_of, all_strands, next}

-- the lock of a list set, of the global lists or of local lists
abbrev pub IsListLock : Shape → DomainId → Type 0
IsListLock shape (Bucket bucket) = ⊥
IsListLock shape (Freelist cpu) = ⊥
IsListLock shape lock = IsTrue (is_lock shape lock)

-- What the histories tell where no CPU holds a lock and none has an element in hand: some placed state has under each lock what its
-- history leads to, no element in a hand, and of each listed element a stored hash, which is of the bucket that owns it.
pub record IsIdle (shape : Shape) (logs : DomainId → List Entry) : Type 0 where
  pub legal : (lock : DomainId) → IsLegal shape lock (logs lock)
  pub others : (lock : DomainId) → is_lock shape lock ≡ false → logs lock ≡ []
  pub core : cores.State
  pub placed : Placed shape core
  pub lists_are : (lock : DomainId) → IsTrue (is_lock shape lock) → core.lists (lock_number shape lock) ≡ lists_of (content shape lock (logs lock))
  pub empty_handed : (e c : ℕ) → c < shape.cpus → is_hand_of c (core.owner e) ≡ false
  pub hash : ℕ → ℕ
  pub of_bucket : (e b : ℕ) → core.owner e ≡ owners.Bucket b → bucket_number (hash e) shape.buckets ≡ b
  pub stored : (lock : DomainId) → IsListLock shape lock → (e : ℕ) → IsIn e (rows (core.lists (lock_number shape lock))) → stored_in (content shape lock (logs lock)) e ≡ Some (hash e)

-- the turns of each lock that the map has
abbrev pub logs_of_locks : Shape → (ℕ → List Entry) → DomainId → List Entry
logs_of_locks shape log lock = if is_lock shape lock then log (lock_number shape lock) else []

-- The turns of every lock, as the pass knows them from now on; what it knew of them before is so. They replay by the rules. Where
-- the pass holds no lock they are those of its strands, whose numbers ascend and are below its next one. Where it also has nothing
-- in hand, on a map that evicts, they tell such a moment.
pub record LearnsAll (shape : Shape) (v : View) (learned : List Known) : Type 0 where
  pub log : ℕ → List Entry
  pub known : (k : ℕ) → k < lock_count shape → known_log k learned ≡ Some (log k)
  pub knew : (k : ℕ) (turns : List Entry) → known_log k v.known ≡ Some turns → log k ≡ turns
  pub legal : (k : ℕ) → IsLegal shape (lock_named shape k) (log k)
  pub idle : IsTrue (is_lru shape.kind) → v.held ≡ [] → ((e c : ℕ) → c < shape.cpus → is_in_hand_of e c v.hand ≡ false) → IsIdle shape (logs_of_locks shape log)
  pub turns : v.held ≡ [] → (k : ℕ) → AreTurnsOf k (all_strands v) (log k)
  pub strands : EachAscends v.ended (next v)
  pub strand : AscendIn 0 (turn_tickets v.steps) (next v)
