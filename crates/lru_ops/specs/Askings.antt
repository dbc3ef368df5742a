-- What an object that answers bits and probes over a pass knows of it, from where the object was made.
use Rattle.std.specs.Prelude.{◌≡◌, ℕ, ◌<◌, true, false, List, [], ◌∷◌, ◌++◌, map, reverse, filter_map, unwrap_or, Option, None, Some, if◌then◌else◌}
use Rattle.map_types.specs.declared.attr.Shape.{Shape}
use Rattle.map_types.specs.declared.kind.DomainId.{DomainId}
use Rattle.map_types.specs.declared.kind.MapKind.TheVariants.{Hash}
use Rattle.map_types.specs.declared.row.Row.{Row}
use Rattle.key_hash.specs.Bucket.{bucket_number}
use Rattle.place_words.specs.declared.bucket_part.BucketPart.{BucketPart}
use Rattle.place_words.specs.declared.bucket_part.BucketPart.TheVariants.{Lookup, Update, Delete, Take, Next, First, Walk, Evict}
use Rattle.place_words.specs.declared.bucket_part.Seen.{Seen}
use Rattle.place_words.specs.declared.bucket_part.Seen.TheVariants.{Removed, Held}
use Rattle.place_words.specs.declared.history.Part.{Part}
use Rattle.place_words.specs.declared.history.Part.TheVariants as parts
use Rattle.place_words.specs.declared.owner.Owner.TheVariants.{Free, Hand}
use Rattle.place_words.specs.Takings.{stored_hash}
use Rattle.place_words.specs.declared.step.Lists.{Lists}
use Rattle.place_table.specs.declared.view.BitAsked.{BitAsked}
use Rattle.place_table.specs.declared.view.Hold.{Hold}
use Rattle.place_table.specs.declared.view.InHand.{InHand}
use Rattle.place_table.specs.declared.view.Notes.{Notes}
use Rattle.place_table.specs.declared.view.OwnerSeen.{OwnerSeen}
use Rattle.place_table.specs.declared.view.Turned.{Turned}
use Rattle.place_table.specs.Known.{BitTouch, Learns}
use Rattle.place_table.specs.Passes.{PassView, TableView, Goes}
use Rattle.place_table.specs.Plays.{MayClear}
use Rattle.place_table.specs.Views.{first_view}
use Rattle.lru_lists.specs.declared.bits.BitCall.{BitCall}
use Rattle.lru_lists.specs.declared.bits.BitCall.TheVariants.{Cleared, Read}
use Rattle.lru_lists.specs.declared.bits.ProbeCall.{ProbeCall}
use Rattle.lru_ops.specs.declared.probing.Destination.{Destination}
use Rattle.lru_ops.specs.declared.probing.Destination.TheVariants.{OwnFree, LocalFree, OwnHand}
use Rattle.lru_ops.specs.Evictions.{HoldsLists, HoldsFor, MayProbe, IsEvict, SawHolders, held_with, lists_with, taken_with, came_outside}

-- The calls for bits that are noted of the lock taken last, in their order

abbrev pub call_of : BitAsked → BitCall
call_of x =
    if x.cleared then Cleared (record { element = x.element; bit = x.bit }) else Read (record { element = x.element; bit = x.bit })

abbrev pub calls_noted : List Notes → List BitCall
calls_noted [] = []
calls_noted (n ∷ below) = map call_of (reverse n.asked)

-- The probes among the turns of a strand. A part doesn't tell the hash, which is that of the element.

abbrev pub probe_in_bucket : (ℕ → ℕ) → BucketPart → Option ProbeCall
probe_in_bucket hash (Lookup side key got) = None
probe_in_bucket hash (Update side flags key value offer put) = None
probe_in_bucket hash (Delete key removed) = None
probe_in_bucket hash (Take key taken) = None
probe_in_bucket hash (Next key found) = None
probe_in_bucket hash (First key) = None
probe_in_bucket hash (Walk remove room walked) = None
probe_in_bucket hash (Evict e seen) = Some (record { element = e; hash = hash e; probed = seen })

abbrev pub probe_of : (ℕ → ℕ) → Part → Option ProbeCall
probe_of hash (parts.Bucket part) = probe_in_bucket hash part
probe_of hash (parts.Free part) = None
probe_of hash (parts.Local part) = None
probe_of hash (parts.Global part) = None
probe_of hash (parts.Own part) = None

abbrev pub probes_made : (ℕ → ℕ) → List Turned → List ProbeCall
probes_made hash steps = filter_map (λ (step : Turned). probe_of hash step.entry.part) steps

-- What calls and probes leave

-- in the notes of the lock
abbrev pub asked_by : BitCall → BitAsked
asked_by (Cleared visit) = record { element = visit.element; bit = visit.bit; cleared = true }
asked_by (Read visit) = record { element = visit.element; bit = visit.bit; cleared = false }

abbrev pub asked_after : List BitCall → List BitAsked → List BitAsked
asked_after [] asked = asked
asked_after (call ∷ calls) asked = asked_after calls (asked_by call ∷ asked)

abbrev pub owners_with : ℕ → Seen → List OwnerSeen → List OwnerSeen
owners_with e Removed owners = owners
owners_with e (Held holder) owners = record { element = e; owner = Hand holder } ∷ owners

abbrev pub owners_after : List ProbeCall → List OwnerSeen → List OwnerSeen
owners_after [] owners = owners
owners_after (probe ∷ probes) owners = owners_after probes (owners_with probe.element probe.probed owners)

-- what is freed is noted as changed
abbrev pub changed_by : Destination → ℕ → List OwnerSeen → List OwnerSeen
changed_by OwnFree e changed = record { element = e; owner = Free } ∷ changed
changed_by LocalFree e changed = record { element = e; owner = Free } ∷ changed
changed_by OwnHand e changed = changed

abbrev pub changed_with : Destination → ℕ → Seen → List OwnerSeen → List OwnerSeen
changed_with to e Removed changed = changed_by to e changed
changed_with to e (Held holder) changed = changed

abbrev pub changed_after : Destination → List ProbeCall → List OwnerSeen → List OwnerSeen
changed_after to [] changed = changed
changed_after to (probe ∷ probes) changed = changed_after to probes (changed_with to probe.element probe.probed changed)

abbrev pub notes_after : Destination → List BitCall → List ProbeCall → Notes → Notes
notes_after to calls probes n = record n { asked = asked_after calls n.asked; owners = owners_after probes n.owners; changed = changed_after to probes n.changed }

-- in those of the lock around it
abbrev pub came_with : Destination → ℕ → Seen → List Notes → List Notes
came_with OwnFree e seen notes = notes
came_with LocalFree e Removed notes = came_outside e notes
came_with LocalFree e (Held holder) notes = notes
came_with OwnHand e seen notes = notes

abbrev pub came_after : Destination → List ProbeCall → List Notes → List Notes
came_after to [] notes = notes
came_after to (probe ∷ probes) notes = came_after to probes (came_with to probe.element probe.probed notes)

-- under the locks that are held
abbrev pub held_after : Destination → List ProbeCall → List Hold → List Hold
held_after to [] held = held
held_after to (probe ∷ probes) held = held_after to probes (held_with to probe.element probe.probed held)

abbrev pub lists_after : List ProbeCall → Lists → Lists
lists_after [] now = now
lists_after (probe ∷ probes) now = lists_after probes (lists_with probe.element probe.probed now)

-- in the hand of the CPU, and among what it carries
abbrev pub taken_after : Destination → ℕ → List ProbeCall → List InHand → List InHand
taken_after to cpu [] hand = hand
taken_after to cpu (probe ∷ probes) hand = taken_after to cpu probes (taken_with to cpu probe.element probe.probed hand)

-- on bits
abbrev pub touch_by : BitCall → BitTouch
touch_by (Cleared visit) = record { element = visit.element; seen = Some visit.bit; left = false }
touch_by (Read visit) = record { element = visit.element; seen = Some visit.bit; left = visit.bit }

-- Each turn is the probe at its place, of the bucket of the hash that the element has in these rows.
abbrev pub AreEvicts : Shape → ℕ → ℕ → List Row → List ProbeCall → List Turned → Type 0
AreEvicts shape cpu call rows [] [] = Unit {0}
AreEvicts shape cpu call rows [] (turn ∷ turns) = ⊥
AreEvicts shape cpu call rows (probe ∷ probes) [] = ⊥
AreEvicts shape cpu call rows (probe ∷ probes) (turn ∷ turns) =
    IsEvict shape cpu call (bucket_number probe.hash shape.buckets) probe.element probe.probed turn
    × (stored_hash probe.element rows ≡ Some probe.hash) × AreEvicts shape cpu call rows probes turns

-- What these calls and probes leave of a pass that holds the lock of a walk over these rows.
pub record Does (t : TableView) (to : Destination) (rows : List Row) (calls : List BitCall) (probes : List ProbeCall) (before after : PassView) : Type 0 where
  pub turns : List Turned
  pub goes : Goes before after turns []
  pub held : after.view.held ≡ held_after to probes before.view.held
  pub notes : Notes
  pub below : List Notes
  pub was_noted : before.view.notes ≡ notes ∷ below
  pub noted : after.view.notes ≡ notes_after to calls probes notes ∷ came_after to probes below
  pub carried : after.view.carried ≡ taken_after to before.cpu probes before.view.carried
  pub hand : after.view.hand ≡ taken_after to before.cpu probes before.view.hand
  pub spares : after.spares ≡ before.spares
  pub are_evicts : AreEvicts t.shape before.cpu before.call rows probes turns
  pub saw : SawHolders t.shape before after turns
  pub learns : Learns t.shape before.view after.view turns (map touch_by calls)

-- the hash of an element in some rows, and 0 where it has none
abbrev pub hash_in : List Row → ℕ → ℕ
hash_in rows e = unwrap_or (stored_hash e rows) 0

-- the pass holds the lock of the walk, and since the start these calls and probes were made
pub record Since (t : TableView) (to : Destination) (lock : DomainId) (rows : List Row) (start now : PassView) : Type 0 where
  pub holds : HoldsLists t lock now
  pub holds_for : HoldsFor t to lock now
  pub calls : List BitCall
  pub calls_are : calls_noted now.view.notes ≡ calls_noted start.view.notes ++ calls
  pub probes : List ProbeCall
  pub probes_are : probes_made (hash_in rows) now.view.steps ≡ probes_made (hash_in rows) start.view.steps ++ probes
  pub does : Does t to rows calls probes start now

-- an element of which the pass may be asked: it stands on the lists of a lock that is held, or is in the hand
abbrev pub MayAsk : TableView → PassView → ℕ → Type 0
MayAsk t p e = (e < t.shape.elements) × MayClear t.shape p.view p.cpu e

-- a row that may be probed, which is that of its element among these
abbrev pub MayChase : TableView → List Row → PassView → Row → Type 0
MayChase t rows p row = (stored_hash row.element rows ≡ Some row.hash) × MayProbe t p row

-- no pass
abbrev pub nowhere : PassView
nowhere = record {
  table = record { words = 0; slots = 0; views_name = 0; atom = 0; block = 0; offset = 0; slot_names = [] };
  seat = 0;
  cpu = 0;
  call = 0;
  view = first_view (record { kind = Hash; cpus = 0; capacity = 0; elements = 0; buckets = 0; key_size = 0; value_size = 0; seed = 0; common = false });
  spares = [];
}
