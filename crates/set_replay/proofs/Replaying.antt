-- A history of a list set that is replayed, turn by turn.
use Rattle.std.proofs.Common.{◌≡◌, ℕ, ◌+◌, ◌<◌, ◌≤◌, Bool, true, false, ◌&&◌, List, [], ◌∷◌, ◌++◌, length, take, get_or, refl, ap, sym, ◌∙◌, arith, append_assoc}
use Rattle.std.specs.Prelude.{nat_lt}
use Rattle.std.proofs.lemmas.List.{append-nil, take_all, take_more}
use Rattle.map_types.specs.Creation.{IsShape}
use Rattle.map_types.specs.ElementLists.{one, times, IsIn}
use Rattle.map_types.specs.declared.attr.Shape.{Shape}
use Rattle.map_types.specs.declared.kind.DomainId.{DomainId}
use Rattle.map_types.specs.Shape.{HasBounds}
use Rattle.map_types.proofs.CreationLemmas.{bounds_of_shape}
use Rattle.place_words.specs.declared.history.Entry.{Entry}
use Rattle.place_words.specs.Histories.{Content, Allows, content, opening_content}
use Rattle.place_words.specs.Locks.{is_lock, lock_number}
use Rattle.place_words.specs.Logs.{final_set}
use Rattle.place_words.specs.Openings.{opening_free}
use Rattle.place_words.specs.OpeningState.{opening, opening_lists}
use Rattle.place_words.specs.Sets.{ListSet, new_set}
use Rattle.place_words.proofs.LockLemmas.{named_by_number}
use Rattle.place_words.proofs.OpeningLaws.{opening_placed}
use Rattle.place_words.proofs.RowLemmas.{stands_where}
use Rattle.place_words.proofs.StartLemmas.{free_none}
use Rattle.lru_lists.specs.Sets.{SetView}
use Rattle.replay_words.specs.declared.note.Note.{Note}
use Rattle.replay_words.specs.Notes.{note_of, notes_after, notes_of}
use Rattle.replay_words.specs.Replays.{IsFirstFlaw}
use Rattle.replay_words.proofs.Steps.{LeadsFirst, none_lead, more_lead, flaw_at, all_lead}
use Rattle.set_replay.specs.declared.replay.ReplayedSet.{ReplayedSet}
use Rattle.set_replay.specs.Pushing.{set_of, HasFreeRoom}
use Rattle.set_replay.specs.Replayed.{IsReplayedSet, EntryMade, Opens}

-- Openings: what is free under a lock at first are elements of the map, each once

times_free : (shape : Shape) (lock : DomainId) (e : ℕ) → HasBounds shape → is_lock shape lock ≡ true → (t : Bool) × (times e (opening_free shape lock) ≡ one (nat_lt e shape.elements && t))
unfolding opening opening_lists
times_free shape lock e bounds is =
    let p = opening_placed shape bounds in
    let k : ℕ = lock_number shape lock in
    (_, ap (λ (d : DomainId). times e (opening_free shape d)) (sym (named_by_number shape lock is)) ∙ p.placed.free k e)

pub free_once : (shape : Shape) (lock : DomainId) → IsShape shape → (e : ℕ) → times e (opening_free shape lock) ≤ 1
free_once shape lock shaped e = by (is_lock shape lock) refl
  where
    at_most : {n : ℕ} (b : Bool) → n ≡ one b → n ≤ 1
    at_most true same = omega (arith, same)
    at_most false same = omega (arith, same)

    by : (b : Bool) → is_lock shape lock ≡ b → times e (opening_free shape lock) ≤ 1
    by true is = let counted = times_free shape lock e (bounds_of_shape shape shaped) is in at_most (nat_lt e shape.elements && counted.0) counted.1
    by false is = omega (arith, ap (times e) (free_none shape lock is))

pub free_real : (shape : Shape) (lock : DomainId) → IsShape shape → (e : ℕ) → IsIn e (opening_free shape lock) → e < shape.elements
free_real shape lock shaped e inside = by (is_lock shape lock) refl
  where
    by : (b : Bool) → is_lock shape lock ≡ b → e < shape.elements
    by true is = let counted = times_free shape lock e (bounds_of_shape shape shaped) is in (stands_where shape.elements e _ _ counted.1 inside).real
    by false is = absurd (omega (arith, inside, ap (times e) (free_none shape lock is)))

-- Notes, one turn more

notes_push : (shape : Shape) (lock : DomainId) (earlier entries : List Entry) (entry : Entry)
    → notes_after shape lock earlier (entries ++ entry ∷ []) ≡ notes_after shape lock earlier entries ++ note_of (content shape lock (earlier ++ entries)) entry.part ∷ []
notes_push shape lock earlier [] entry = ap (λ (es : List Entry). note_of (content shape lock es) entry.part ∷ []) (sym (append-nil earlier))
notes_push shape lock earlier (x ∷ entries) entry =
    ap (λ (notes : List Note). note_of (content shape lock earlier) x.part ∷ notes)
    (notes_push shape lock (earlier ++ x ∷ []) entries entry
    ∙ ap (λ (es : List Entry). notes_after shape lock (earlier ++ x ∷ []) entries ++ note_of (content shape lock es) entry.part ∷ []) (append_assoc earlier (x ∷ []) entries))

-- The first turns of a history, made on a set

pub record SoFar (shape : Shape) (lock : DomainId) (lies : ListSet → Content) (entries : List Entry) (index : ℕ) (set : SetView) (notes : List Note) : Type 0 where
  pub leads : LeadsFirst shape lock entries index (lies (set_of set))
  pub noted : notes ≡ notes_of shape lock (take index entries)
  pub room : HasFreeRoom set

module _ {shape : Shape} {lock : DomainId} {entries : List Entry} {index : ℕ} {set : SetView} {notes : List Note} (lies : ListSet → Content) (so_far : SoFar shape lock lies entries index set notes) (entry other : Entry)
    (within : index < length entries) (is : entry ≡ get_or entries index other) where
  pub goes_on : (after : SetView) (note : Note) (now : List Note) → now ≡ notes ++ note ∷ [] → EntryMade lies entry.part set after note → SoFar shape lock lies entries (index + 1) after now
  goes_on after note now now_is made = record {
    leads = more_lead shape lock entries index (lies (set_of set)) (lies (set_of after)) entry other so_far.leads within is (made.allowed shape entry.cpu, made.left shape entry.cpu);
    noted = now_is ∙ (ap (λ (l : List Note). l ++ note ∷ []) so_far.noted
        ∙ (ap (λ (n : Note). notes_of shape lock (take index entries) ++ n ∷ []) (made.noted ∙ ap (λ (c : Content). note_of c entry.part) (sym so_far.leads.left))
        ∙ (sym (notes_push shape lock [] (take index entries) entry) ∙ ap (notes_of shape lock) (sym one_more))));
    room = made.room;
  }
    where
      one_more : take (index + 1) entries ≡ take index entries ++ entry ∷ []
      one_more = take_more entries index other within ∙ ap (λ (e : Entry). take index entries ++ e ∷ []) (sym is)

  pub stops : ((shape : Shape) (cpu : ℕ) → Allows shape cpu entry.part (lies (set_of set)) → ⊥) → IsFirstFlaw shape lock entries index
  stops refused = flaw_at shape lock entries index (lies (set_of set)) entry other so_far.leads within is (refused shape entry.cpu)

pub all_made : {shape : Shape} {lock : DomainId} {entries : List Entry} {index : ℕ} {set : SetView} {notes : List Note} (lies : ListSet → Content) (replayed : ReplayedSet)
    → SoFar shape lock lies entries index set notes → length entries ≤ index → replayed.last ≡ final_set (set_of set) → replayed.notes ≡ notes → IsReplayedSet shape lock lies entries replayed
all_made {shape} {lock} {entries} {index} {set} {notes} lies replayed so_far past last_is notes_are = record {
  set = set_of set;
  leads = all_lead shape lock entries index (lies (set_of set)) so_far.leads past;
  last = last_is;
  notes = notes_are ∙ (so_far.noted ∙ ap (notes_of shape lock) (take_all index entries past));
}

pub begins : {shape : Shape} {lock : DomainId} {entries : List Entry} (lies : ListSet → Content) (set : SetView) (notes : List Note)
    → opening_content shape lock ≡ lies (new_set (opening_free shape lock)) → Opens shape.elements (opening_free shape lock) set → notes ≡ [] → SoFar shape lock lies entries 0 set notes
begins {shape} {lock} {entries} lies set notes opening_is opens none = record {
  leads = none_lead shape lock entries (lies (set_of set)) (opening_is ∙ ap lies (sym opens.is));
  noted = none;
  room = opens.room;
}
