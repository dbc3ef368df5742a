-- What is known of the record of a run, beside that it is a record, by its script and by what its table left.
use Rattle.std.specs.Prelude.{◌≡◌, ℕ, ◌<◌, ◌≤◌, ◌^◌, false, All, IsTrue, List, [], ◌∷◌, length, ⊤}
use Rattle.map_types.specs.declared.call.Call.{Call}
use Rattle.map_types.specs.declared.call.Verb.{Verb}
use Rattle.map_types.specs.declared.kind.DomainId.{DomainId}
use Rattle.map_types.specs.Kind.{is_lru}
use Rattle.place_words.specs.declared.history.Strand.{Strand}
use Rattle.place_words.specs.Locks.{is_lock}
use Rattle.place_words.specs.Named.{entries_of}
use Rattle.place_words.specs.Real.{IsAlwaysReal}
use Rattle.place_words.specs.Tickets.{all_entries}
use Rattle.map_script.specs.declared.script.Script.{Script}
use Rattle.map_report.specs.declared.record.PhaseStart.{PhaseStart}
use Rattle.map_report.specs.declared.record.RunRecord.{RunRecord}
use Rattle.map_types.specs.declared.call.Verb.TheVariants as verbs

-- the phases of strands never fall
abbrev pub NeverFall : ℕ → List Strand → Type 0
NeverFall least [] = Unit {0}
NeverFall least (strand ∷ strands) = (least ≤ strand.phase) × NeverFall strand.phase strands

-- a batch write has fewer than 2^32 entries
abbrev pub HasFew : Verb → Type 0
HasFew (verbs.Lookup side key) = ⊤
HasFew (verbs.Update side flags key value) = ⊤
HasFew (verbs.Delete key) = ⊤
HasFew (verbs.Take key) = ⊤
HasFew (verbs.Next key) = ⊤
HasFew (verbs.BatchRead remove count start flags) = ⊤
HasFew (verbs.BatchUpdate flags pairs) = length pairs < 2 ^ 32
HasFew (verbs.BatchDelete flags keys) = length keys < 2 ^ 32
HasFew (verbs.Each flags stop) = ⊤

pub record IsOfTable (script : Script) (kept : RunRecord) : Type 0 where
  pub few : All (λ (call : Call). HasFew call.verb) script.calls
  -- under a lock of the map there lay, after any number of the lock's turns, only elements of the map, each once at most
  pub real : (lock : DomainId) → IsTrue (is_lock script.shape lock) → IsAlwaysReal script.shape lock (entries_of kept.histories lock)
  -- a map that doesn't evict marks nothing
  pub unmarked : is_lru script.shape.kind ≡ false → kept.finals.marked ≡ []
  -- there are fewer than 2^64 entries in all; so tickets, places and lengths are numbers of 64 bits
  pub counted : length (all_entries kept.histories) < 2 ^ 64
  -- nor was more drawn before a phase started
  pub starts : All (λ (start : PhaseStart). start.ticket < 2 ^ 64) kept.phases
  -- strands stand in the order of their phases
  pub in_order : NeverFall 0 kept.strands
