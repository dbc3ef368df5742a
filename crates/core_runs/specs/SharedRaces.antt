-- What is asked of the turns of a race on a map whose CPUs share lists, that their interleaving be decided by words.
use Rattle.std.specs.Prelude.{◌≡◌, ℕ, ◌+◌, ◌≤◌, Bool, true, false, IsTrue, List, [], ◌∷◌, ◌++◌}
use Rattle.map_types.specs.declared.attr.Shape.{Shape}
use Rattle.map_types.specs.declared.kind.DomainId.{DomainId}
use Rattle.map_types.specs.declared.kind.DomainId.TheVariants.{Local, Global, CpuLru, Bucket, Freelist}
use Rattle.map_types.specs.ElementLists.{put, times, IsIn}
use Rattle.place_words.specs.declared.history.Part.{Part}
use Rattle.place_words.specs.declared.history.Part.TheVariants as parts
use Rattle.place_words.specs.declared.list_part.GlobalPart.{GlobalPart}
use Rattle.place_words.specs.declared.list_part.GlobalPart.TheVariants as global
use Rattle.place_words.specs.declared.list_part.LocalPart.{LocalPart}
use Rattle.place_words.specs.declared.list_part.LocalPart.TheVariants as local
use Rattle.place_words.specs.declared.list_part.Stolen.{Stolen}
use Rattle.place_words.specs.declared.list_part.Stolen.TheVariants as stolen
use Rattle.place_words.specs.Choices.{among}
use Rattle.place_words.specs.Globals.{flushed_elements}
use Rattle.place_words.specs.Histories.{Content, Allows}
use Rattle.place_words.specs.Locks.{is_lock}
use Rattle.place_words.specs.Rotation.{visited_elements}
use Rattle.place_words.specs.Takings.{freed_by}
use Rattle.place_words.specs.Turns.{after_turn}
use Rattle.place_words.specs.State.{rows}
use Rattle.place_words.specs.Interleaving.{Drawn, turn_of, enclosing, lists_in, tickets_of}
use Rattle.core_runs.specs.Races.{PaysBucket}

-- Of a CPU's lists in a refill that is under way: whether the turn of the global lists was made, what it gained, and what it flushed.
pub record Midst : Type 0 where
  pub busy : ℕ → Bool
  pub got : ℕ → List ℕ
  pub sent : ℕ → List ℕ

abbrev pub at_rest : Midst
at_rest = record { busy = λ c. false; got = λ c. []; sent = λ c. [] }

abbrev pub IsStolenThere : Content → Stolen → Type 0
IsStolenThere content (stolen.Free e) = Unit {0}
IsStolenThere content (stolen.Pending e) = IsIn e (lists_in content).first
IsStolenThere content stolen.Nothing = Unit {0}

-- A refill gains what the turn inside it did, and has the same flushed. Other turns of a CPU's lists have no turn of the global lists
-- inside; what is stolen from pending was there; and nothing is made inside an addition, which is to the lists of the CPU itself.
abbrev pub LocalPays : Content → Midst → Bool → ℕ → ℕ → LocalPart → Type 0
LocalPays content m begun mine c (local.Pop hash e) = m.busy c ≡ false
LocalPays content m begun mine c (local.Refill hash flushed gained got) = (m.got c ≡ gained) × ((e : ℕ) → times e (m.sent c) ≡ times e (visited_elements flushed))
LocalPays content m begun mine c (local.Steal got first second) = (m.busy c ≡ false) × IsStolenThere content got
LocalPays content m begun mine c (local.Add hash e cursor) = (m.busy c ≡ false) × (begun ≡ false) × (mine ≡ c)
LocalPays content m begun mine c (local.Push e done) = m.busy c ≡ false

pub record PaysLocal (shape : Shape) (contents : DomainId → Content) (m : Midst) (begun : Bool) (mine : ℕ) (lock : DomainId) (part : LocalPart) : Type 0 where
  pub cpu : ℕ
  pub lock_is : lock ≡ Local cpu
  pub there : IsTrue (is_lock shape (Local cpu))
  pub pays : LocalPays (contents (Local cpu)) m begun mine cpu part

-- A turn of the global lists inside a refill: what is flushed is pending on the CPU's lists, each once, and what is freed is listed
-- globally by then, each once.
abbrev pub GlobalPays : Shape → (DomainId → Content) → Midst → ℕ → GlobalPart → Type 0
GlobalPays shape contents m cpu (global.Turn flushed active inactive free shrink) =
    IsTrue (is_lock shape (Local cpu)) × (m.busy cpu ≡ false)
    × ((e : ℕ) → times e (flushed_elements flushed) ≤ times e (rows (lists_in (contents (Local cpu)))))
    × ((e : ℕ) → times e (freed_by shrink) ≤ times e (rows (lists_in (contents Global))) + times e (flushed_elements flushed))
GlobalPays shape contents m cpu (global.Push e) = IsTrue (is_lock shape (Local cpu))

pub record PaysGlobal (shape : Shape) (contents : DomainId → Content) (m : Midst) (cpu : ℕ) (lock : DomainId) (part : GlobalPart) : Type 0 where
  pub lock_is : lock ≡ Global
  pub pays : GlobalPays shape contents m cpu part

abbrev pub no_debts : ℕ → List ℕ
no_debts b = []

abbrev pub SharedAt : Shape → (DomainId → Content) → Midst → Bool → ℕ → DomainId → Part → Type 0
SharedAt shape contents m begun cpu lock (parts.Bucket part) = PaysBucket shape no_debts lock part
SharedAt shape contents m begun cpu lock (parts.Free part) = ⊥
SharedAt shape contents m begun cpu lock (parts.Local part) = PaysLocal shape contents m begun cpu lock part
SharedAt shape contents m begun cpu lock (parts.Global part) = PaysGlobal shape contents m cpu lock part
SharedAt shape contents m begun cpu lock (parts.Own part) = ⊥

abbrev pub midst_of_lock : Midst → DomainId → Midst
midst_of_lock m (Local c) = record { busy = put m.busy c false; got = put m.got c []; sent = put m.sent c [] }
midst_of_lock m Global = m
midst_of_lock m (CpuLru c) = m
midst_of_lock m (Bucket b) = m
midst_of_lock m (Freelist c) = m

abbrev pub midst_global : Midst → ℕ → GlobalPart → Midst
midst_global m cpu (global.Turn flushed active inactive free shrink) =
    record { busy = put m.busy cpu true; got = put m.got cpu (free ++ freed_by shrink); sent = put m.sent cpu (flushed_elements flushed) }
midst_global m cpu (global.Push e) = m

abbrev pub midst_after : Midst → ℕ → DomainId → Part → Midst
midst_after m cpu lock (parts.Bucket part) = m
midst_after m cpu lock (parts.Free part) = m
midst_after m cpu lock (parts.Local part) = midst_of_lock m lock
midst_after m cpu lock (parts.Global part) = midst_global m cpu part
midst_after m cpu lock (parts.Own part) = m

unfoldable pub AreShared : Shape → (DomainId → Content) → Midst → List ℕ → List Drawn → Type 0
AreShared shape contents m begun [] = Unit {0}
AreShared shape contents m begun (x ∷ later) =
    SharedAt shape contents m (among begun x.entry.ticket) x.entry.cpu x.lock x.entry.part
    × Allows shape x.entry.cpu x.entry.part (contents x.lock)
    × AreShared shape (after_turn shape x.entry.cpu contents (turn_of x)) (midst_after m x.entry.cpu x.lock x.entry.part) (x.entry.ticket ∷ tickets_of (enclosing x later) ++ begun) later
