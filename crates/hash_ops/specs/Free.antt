-- What a CPU's pop and its push leave of a pass.
use Rattle.std.specs.Prelude.{◌≡◌, ◌<◌, ⊤, ℕ, true, false, List, [], ◌∷◌, ◌++◌, map, All, Option, MatchOption}
use Rattle.map_types.specs.declared.attr.Shape.{Shape}
use Rattle.map_types.specs.declared.kind.DomainId.TheVariants.{Freelist}
use Rattle.map_types.specs.Stored.{Stored, IsSized}
use Rattle.place_words.specs.declared.free_part.FreePart.{FreePart}
use Rattle.place_words.specs.declared.free_part.FreePart.TheVariants as turns
use Rattle.place_words.specs.declared.history.Part.TheVariants as parts
use Rattle.place_words.specs.Locks.{lock_number, rank_of}
use Rattle.place_words.specs.Traces.{Turn, ring, found_empty, on_freelist_of, Pops}
use Rattle.place_table.specs.declared.view.Turned.{Turned}
use Rattle.place_table.specs.Known.{Learns}
use Rattle.place_table.specs.Nested.{IsInside}
use Rattle.place_table.specs.Passes.{PassView, TableView, IsPassOf, HasBegun, Goes}
use Rattle.place_table.specs.Rules.{IsAboveAll}
use Rattle.place_table.specs.Views.{is_among, is_in_hand_of, with_in_hand, without_in_hand}
use Rattle.hash_ops.specs.Calls.{AreTold, turn_of, IsBy}

-- freelists may be taken: nothing that is held has their rank, and a bucket is held, inside whose turn those of freelists are made
pub record CanReach (t : TableView) (p : PassView) : Type 0 where
  pub of_table : IsPassOf t p
  pub begun : HasBegun p
  pub above : IsAboveAll t.shape (rank_of (Freelist 0)) p.view.held
  pub inside : (part : FreePart) → IsInside t.shape (parts.Free part) p.view.held

-- turns of freelists of the map
abbrev pub AreOnFreelists : Shape → List Turned → Type 0
AreOnFreelists shape steps = All (λ (step : Turned). (cpu : ℕ) × (cpu < shape.cpus) × (step.lock ≡ lock_number shape (Freelist cpu))) steps

-- these turns of freelists were made, and nothing else changed but what is in hand
pub record Reached (t : TableView) (before after : PassView) (steps : List Turned) : Type 0 where
  pub goes : Goes before after steps []
  pub held : after.view.held ≡ before.view.held
  pub notes : after.view.notes ≡ before.view.notes
  pub spares : after.spares ≡ before.spares
  pub bits : after.view.bits ≡ before.view.bits
  pub carried : after.view.carried ≡ before.view.carried
  pub by_call : All (IsBy before.cpu before.call) steps
  pub on_freelists : AreOnFreelists t.shape steps
  pub learns : Learns t.shape before.view after.view steps []
  -- as they are told
  pub told : AreTold t.shape [] steps steps

-- an element of the map that was in no hand of the pass
pub record IsFresh (t : TableView) (p : PassView) (body : Stored) : Type 0 where
  pub real : body.element < t.shape.elements
  pub sized : IsSized t.shape body
  pub in_no_hand : (cpu : ℕ) → is_among cpu p.view.cpus ≡ true → is_in_hand_of body.element cpu p.view.hand ≡ false

-- the freelists of these CPUs were found empty in their order, up to one that gives an element
pub record PopsAmong (cpus : List ℕ) (e : ℕ) (looks : List Turn) : Type 0 where
  pub passed : List ℕ
  pub giver : ℕ
  pub left : List ℕ
  pub cpus_are : cpus ≡ passed ++ giver ∷ left
  pub looks_are : looks ≡ found_empty passed ++ on_freelist_of giver (turns.Popped e) ∷ []

-- The freelists of these CPUs were looked at in their order. What one of them gives is in the CPU's hand.
pub record PoppedAmong (t : TableView) (cpus : List ℕ) (before after : PassView) (found : Option Stored) : Type 0 where
  pub steps : List Turned
  pub reached : Reached t before after steps
  pub trace : MatchOption found (map (turn_of t.shape) steps ≡ found_empty cpus) (λ body. PopsAmong cpus body.element (map (turn_of t.shape) steps))
  pub hand : MatchOption found (after.view.hand ≡ before.view.hand) (λ body. after.view.hand ≡ with_in_hand body.element before.cpu before.view.hand)
  pub fresh : MatchOption found ⊤ (IsFresh t before)

-- A pop looked at the freelists in ring order. What it gives is in the CPU's hand.
pub record Popped (t : TableView) (before after : PassView) (found : Option Stored) : Type 0 where
  pub steps : List Turned
  pub reached : Reached t before after steps
  pub trace : MatchOption found (map (turn_of t.shape) steps ≡ found_empty (ring before.cpu t.shape.cpus)) (λ body. Pops t.shape before.cpu body.element (map (turn_of t.shape) steps))
  pub hand : MatchOption found (after.view.hand ≡ before.view.hand) (λ body. after.view.hand ≡ with_in_hand body.element before.cpu before.view.hand)
  pub fresh : MatchOption found ⊤ (IsFresh t before)

-- a push asks for an element in the CPU's hand
pub record CanPush (t : TableView) (body : Stored) (p : PassView) : Type 0 where
  pub can : CanReach t p
  pub real : body.element < t.shape.elements
  pub sized : IsSized t.shape body
  pub in_hand : is_in_hand_of body.element p.cpu p.view.hand ≡ true

-- it goes on the CPU's own freelist
pub record Pushed (t : TableView) (body : Stored) (before after : PassView) : Type 0 where
  pub step : Turned
  pub reached : Reached t before after (step ∷ [])
  pub turn : turn_of t.shape step ≡ on_freelist_of before.cpu (turns.Pushed body.element)
  pub hand : after.view.hand ≡ without_in_hand body.element before.cpu before.view.hand
