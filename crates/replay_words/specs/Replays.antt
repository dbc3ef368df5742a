-- A history that is replayed from its lock's opening: to its end, or to the first turn that isn't allowed.
use Rattle.std.specs.Prelude.{◌≡◌, ℕ, Bool, MatchBool, List, take, slice_get, Some}
use Rattle.map_types.specs.declared.attr.Shape.{Shape}
use Rattle.map_types.specs.declared.kind.DomainId.{DomainId}
use Rattle.place_words.specs.declared.history.Entry.{Entry}
use Rattle.place_words.specs.declared.history.Part.{Part}
use Rattle.place_words.specs.Histories.{Content, Allows, content_after, content, IsLegal}
use Rattle.replay_words.specs.declared.stop.ReplayStop.{ReplayStop}
use Rattle.replay_words.specs.declared.stop.ReplayStop.TheVariants.{NotAllowed, NoMemory}

-- All turns are allowed, each where those before it lead, and this is what lies there after them.
pub record Leads (shape : Shape) (lock : DomainId) (entries : List Entry) (now : Content) : Type 0 where
  pub legal : IsLegal shape lock entries
  pub left : content shape lock entries ≡ now

-- The first turn that isn't allowed: all before it are, and it isn't where they lead.
pub record IsFirstFlaw (shape : Shape) (lock : DomainId) (entries : List Entry) (index : ℕ) : Type 0 where
  pub before : IsLegal shape lock (take index entries)
  pub entry : Entry
  pub there : slice_get entries index ≡ Some entry
  pub refused : Allows shape entry.cpu entry.part (content shape lock (take index entries)) → ⊥

-- why a history isn't replayed to its end: nothing is said of want of memory
abbrev pub StopsAt : Shape → DomainId → List Entry → ReplayStop → Type 0
StopsAt shape lock entries (NotAllowed index) = IsFirstFlaw shape lock entries index
StopsAt shape lock entries NoMemory = Unit {0}

-- Where a turn is allowed on what lay there, it leads to what lies there now; where it isn't, that is told.
abbrev pub IsStep : Shape → ℕ → Part → Content → Content → Bool → Type 0
IsStep shape cpu part before now allowed =
    MatchBool allowed (Allows shape cpu part before × (now ≡ content_after shape cpu part before)) (Allows shape cpu part before → ⊥)
