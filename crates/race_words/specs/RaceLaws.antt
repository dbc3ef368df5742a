-- Of which records the turns, in the order of their tickets, are a run of the core.
use Rattle.std.specs.Prelude.{IsFalse, IsTrue}
use Rattle.map_types.specs.Kind.{is_lru}
use Rattle.map_types.specs.Shape.{HasBounds}
use Rattle.map_script.specs.declared.script.Script.{Script}
use Rattle.map_report.specs.declared.record.RunRecord.{RunRecord}
use Rattle.map_report.specs.Record.{IsRecord, StartsRise}
use Rattle.place_words.specs.Interleaving.{CoreRun}
use Rattle.place_words.specs.Named.{entries_of}
use Rattle.turn_order.specs.Nests.{NestsApart}
use Rattle.owner_words.specs.Owners.{OwnersTold}
use Rattle.race_words.specs.Nests.{LooksRight}

-- The record of a map that doesn't evict is one of a run of the core where the tickets of the starts of its phases never fall, as they
-- don't in a run, and nests stand apart (`NestsApart`: turns inside turns).
abbrev pub PlainRacesRun : Type 0
PlainRacesRun =
    (script : Script) (kept : RunRecord) → HasBounds script.shape → IsFalse (is_lru script.shape.kind)
    → IsRecord script kept → StartsRise kept → NestsApart kept.histories → CoreRun script.shape kept.histories

-- And so is that of a map whose CPUs have lists of their own, where besides what probes saw in hands was there.
abbrev pub OwnRacesRun : Type 0
OwnRacesRun =
    (script : Script) (kept : RunRecord) → HasBounds script.shape → IsTrue (is_lru script.shape.kind) → IsFalse script.shape.common
    → IsRecord script kept → StartsRise kept → NestsApart kept.histories → LooksRight script.shape kept.histories → CoreRun script.shape kept.histories

-- The same holds where CPUs share lists.
abbrev pub SharedRacesRun : Type 0
SharedRacesRun =
    (script : Script) (kept : RunRecord) → HasBounds script.shape → IsTrue (is_lru script.shape.kind) → IsTrue script.shape.common
    → IsRecord script kept → StartsRise kept → NestsApart kept.histories → LooksRight script.shape kept.histories → CoreRun script.shape kept.histories

-- The record of any map is one of a run of the core where its starts never fall, nests stand apart, and what probes saw in hands was there.
abbrev pub RacesRun : Type 0
RacesRun =
    (script : Script) (kept : RunRecord) → HasBounds script.shape → IsRecord script kept → StartsRise kept → NestsApart kept.histories → LooksRight script.shape kept.histories
    → CoreRun script.shape kept.histories

-- And what is asked of nests and of probes is needed: it stands in the record of each run of the core.
abbrev pub RunsNest : Type 0
RunsNest =
    (script : Script) (kept : RunRecord) → HasBounds script.shape → IsRecord script kept → CoreRun script.shape kept.histories
    → NestsApart kept.histories × LooksRight script.shape kept.histories

-- What a probe saw in a hand was there, where the turns of the record tell the owner of each element as the probes saw it.
abbrev pub OwnersLookRight : Type 0
OwnersLookRight =
    (script : Script) (kept : RunRecord) → HasBounds script.shape → IsTrue (is_lru script.shape.kind) → IsRecord script kept
    → OwnersTold script.shape (entries_of kept.histories) → LooksRight script.shape kept.histories

-- So the record of any map is one of a run of the core where its starts never fall, nests stand apart and, on a map that evicts, its turns
-- tell owners in the order of tickets.
abbrev pub ToldRacesRun : Type 0
ToldRacesRun =
    (script : Script) (kept : RunRecord) → HasBounds script.shape → IsRecord script kept → StartsRise kept → NestsApart kept.histories
    → (IsTrue (is_lru script.shape.kind) → OwnersTold script.shape (entries_of kept.histories)) → CoreRun script.shape kept.histories
