-- What the tables tell of the turns that steps name is what those saw.
use Rattle.std.proofs.Common.{◌≡◌, ℕ, zero, suc, ◌+◌, ◌<◌, Bool, true, false, cond, ltb, List, [], ◌∷◌, ◌++◌, length, get_or, map, take, Option, Some, refl, ap, sym, ◌∙◌, arith}
use Rattle.std.specs.Prelude.{not, option_map, option_to_list, slice_get}
use Rattle.std.specs.List.{flat_map}
use Rattle.std.proofs.lemmas.Bool.{and_parts, both_ways, ltb-true}
use Rattle.std.proofs.lemmas.Grind.{flat_map-append}
use Rattle.std.proofs.lemmas.List.{append_assoc, map-append, take_more}
use Rattle.std.proofs.lemmas.List.FromFn.{get_or-map-range_with_len}
use Rattle.std.proofs.lemmas.Option.{get_or_from_slice_get, none-some, same_Some}
use Rattle.map_types.specs.declared.attr.Shape.{Shape}
use Rattle.map_types.specs.declared.kind.DomainId.{DomainId}
use Rattle.map_types.specs.declared.kind.DomainId.TheVariants.{Local, Global, CpuLru, Bucket, Freelist}
use Rattle.map_types.specs.Kind.{is_lru}
use Rattle.place_words.specs.declared.history.Entry.{Entry}
use Rattle.place_words.specs.declared.history.LockHistory.{LockHistory}
use Rattle.place_words.specs.declared.history.Part.{Part}
use Rattle.place_words.specs.declared.history.Part.TheVariants as parts
use Rattle.place_words.specs.declared.history.StrandStep.{StrandStep}
use Rattle.place_words.specs.declared.list_part.LocalPart.TheVariants as local
use Rattle.place_words.specs.Histories.{Content, content}
use Rattle.place_words.specs.Locks.{is_lock}
use Rattle.place_words.specs.Named.{entries_of}
use Rattle.place_words.specs.Turns.{TurnAt, on_lock}
use Rattle.record_shape.specs.ShapedParts.{PartFits}
use Rattle.replay_words.specs.declared.note.Note.{Note}
use Rattle.replay_words.specs.declared.note.Note.TheVariants.{Nothing}
use Rattle.replay_words.specs.Notes.{note_of, notes_after, notes_of}
use Rattle.evicting_traces.specs.Reading.{Seen, all_seen, seen_at, seen_of}
use Rattle.call_check.specs.GoneTables.{list_place, local_lists}
use Rattle.call_check.specs.Judged.{is_list_lock}
use Rattle.call_check.specs.Moved.{ended_flushed, gone_by, was_gone, were_gone}
use Rattle.call_check.specs.RightCalls.{entries_below, is_moved, named_by, turn_named, turns_named}
use Rattle.call_check.specs.SeenRows.{AreKnown, gone_at, gone_on, note_in, noted_at, noted_on}
use Rattle.call_check.proofs.ByTicket.{nothing_more}
use Rattle.call_check.proofs.ListPlaces.{list_history}

-- a note stands where its turn does
notes_read : (shape : Shape) (lock : DomainId) (earlier entries : List Entry) (index : ℕ) (entry : Entry) (other : Note) → slice_get entries index ≡ Some entry
    → get_or (notes_after shape lock earlier entries) index other ≡ note_of (content shape lock (earlier ++ take index entries)) entry.part
notes_read shape lock earlier [] index entry other at = absurd (none-some entry at)
notes_read shape lock earlier (e ∷ entries) zero entry other at =
    ap (λ (es : List Entry). note_of (content shape lock es) e.part) (sym (nothing_more earlier)) ∙ ap (λ (x : Entry). note_of (content shape lock (earlier ++ [])) x.part) (same_Some e entry at)
notes_read shape lock earlier (e ∷ entries) (suc index) entry other at =
    notes_read shape lock (earlier ++ e ∷ []) entries index entry other at ∙ ap (λ (es : List Entry). note_of (content shape lock es) entry.part) (append_assoc earlier (e ∷ []) (take index entries))

gone_read : (f : Entry → Bool) (entries : List Entry) (index : ℕ) (entry : Entry) → slice_get entries index ≡ Some entry → get_or (map f entries) index false ≡ f entry
gone_read f [] index entry at = absurd (none-some entry at)
gone_read f (e ∷ entries) zero entry at = ap f (same_Some e entry at)
gone_read f (e ∷ entries) (suc index) entry at = gone_read f entries index entry at

-- parts of buckets have no note, and parts of other locks than local ones are no such pushes
bucket_note : (shape : Shape) (bucket : ℕ) (content : Content) (part : Part) → PartFits shape (Bucket bucket) part → Nothing ≡ note_of content part
bucket_note shape bucket content (parts.Bucket part) fits = refl
bucket_note shape bucket content (parts.Free part) fits = refl
bucket_note shape bucket content (parts.Local part) fits = absurd fits
bucket_note shape bucket content (parts.Global part) fits = absurd fits
bucket_note shape bucket content (parts.Own part) fits = absurd fits

bucket_gone : (shape : Shape) (bucket : ℕ) (below : List Entry) (part : Part) → PartFits shape (Bucket bucket) part → false ≡ ended_flushed (gone_by part) below
bucket_gone shape bucket below (parts.Bucket part) fits = refl
bucket_gone shape bucket below (parts.Free part) fits = refl
bucket_gone shape bucket below (parts.Local part) fits = absurd fits
bucket_gone shape bucket below (parts.Global part) fits = refl
bucket_gone shape bucket below (parts.Own part) fits = refl

global_gone : (shape : Shape) (below : List Entry) (part : Part) → PartFits shape Global part → false ≡ ended_flushed (gone_by part) below
global_gone shape below (parts.Bucket part) fits = refl
global_gone shape below (parts.Free part) fits = refl
global_gone shape below (parts.Local part) fits = absurd fits
global_gone shape below (parts.Global part) fits = refl
global_gone shape below (parts.Own part) fits = refl

own_gone : (shape : Shape) (cpu : ℕ) (below : List Entry) (part : Part) → PartFits shape (CpuLru cpu) part → false ≡ ended_flushed (gone_by part) below
own_gone shape cpu below (parts.Bucket part) fits = refl
own_gone shape cpu below (parts.Free part) fits = refl
own_gone shape cpu below (parts.Local part) fits = absurd fits
own_gone shape cpu below (parts.Global part) fits = refl
own_gone shape cpu below (parts.Own part) fits = refl

-- what a turn saw by what its note and its push say
part_seen : (shape : Shape) (lock : DomainId) (part : Part) (below front : List Entry)
    → seen_of (on_lock lock part) (note_of (content shape lock front) part) (ended_flushed (gone_by part) below) ≡ seen_at shape (record { turn = on_lock lock part; earlier = cond (is_moved part) below front })
part_seen shape lock (parts.Bucket part) below front = refl
part_seen shape lock (parts.Free part) below front = refl
part_seen shape lock (parts.Local (local.Pop hash e)) below front = refl
part_seen shape lock (parts.Local (local.Refill hash flushed gained got)) below front = refl
part_seen shape lock (parts.Local (local.Steal got first second)) below front = refl
part_seen shape lock (parts.Local (local.Add hash e cursor)) below front = refl
part_seen shape lock (parts.Local (local.Push e true)) below front = refl
part_seen shape lock (parts.Local (local.Push e false)) below front = refl
part_seen shape lock (parts.Global part) below front = refl
part_seen shape lock (parts.Own part) below front = refl

module _ (shape : Shape) (histories : List LockHistory) (notes : List (List Note)) (gone : List (List Bool)) (nothing : Note) (known : AreKnown shape histories notes gone nothing) where
  list_note : (lock : DomainId) → is_list_lock lock ≡ true → is_lock shape lock ≡ true → (index : ℕ) (entry : Entry) → slice_get (entries_of histories lock) index ≡ Some entry
      → note_in notes nothing (list_place shape lock) index ≡ note_of (content shape lock (take index (entries_of histories lock))) entry.part
  list_note lock lists is index entry at =
      let there = list_history shape histories known.locks lock lists is in
      let noted = known.noted (list_place shape lock) there.history there.there (ap is_list_lock there.lock_is ∙ lists) in
      let of_lock : get_or notes (list_place shape lock) [] ≡ notes_of shape lock (entries_of histories lock) =
      get_or_from_slice_get notes (list_place shape lock) (notes_of shape there.history.lock there.history.entries) [] noted
      ∙ (ap (λ (l : DomainId). notes_of shape l there.history.entries) there.lock_is ∙ ap (notes_of shape lock) (sym there.entries_are)) in
      ap (λ (ns : List Note). get_or ns index nothing) of_lock ∙ notes_read shape lock [] (entries_of histories lock) index entry nothing at

  noted_is : (lock : DomainId) → is_lock shape lock ≡ true → (index : ℕ) (entry : Entry) → slice_get (entries_of histories lock) index ≡ Some entry
      → noted_on shape notes nothing lock index ≡ note_of (content shape lock (take index (entries_of histories lock))) entry.part
  noted_is (Local cpu) is index entry at = list_note (Local cpu) refl is index entry at
  noted_is Global is index entry at = list_note Global refl is index entry at
  noted_is (CpuLru cpu) is index entry at = list_note (CpuLru cpu) refl is index entry at
  noted_is (Bucket bucket) is index entry at = known.nothing_is ∙ bucket_note shape bucket (content shape (Bucket bucket) (take index (entries_of histories (Bucket bucket)))) entry.part (known.fit (Bucket bucket) index entry is at)
  noted_is (Freelist cpu) is index entry at = absurd (no_freelist cpu is)
    where
      no_freelist : (cpu : ℕ) → is_lock shape (Freelist cpu) ≡ true → ⊥
      no_freelist cpu is = both_ways (not (is_lru shape.kind)) (ap not known.evicts) (and_parts (not (is_lru shape.kind)) (ltb cpu shape.cpus) is).0

  local_gone : (cpu index : ℕ) → is_lock shape (Local cpu) ≡ true → get_or gone cpu [] ≡ were_gone (entries_of histories (Local cpu))
  local_gone cpu index is =
      let both = and_parts shape.common (ltb cpu shape.cpus) is in
      let count : local_lists shape ≡ shape.cpus = ap (λ (b : Bool). cond b shape.cpus 0) both.0 in
      let less : cpu < local_lists shape = omega (arith, ltb-true cpu shape.cpus both.1, count) in
      ap (λ (g : List (List Bool)). get_or g cpu []) known.gone_are
      ∙ get_or-map-range_with_len (λ (cpu : ℕ). were_gone (entries_of histories (Local cpu))) 0 (local_lists shape) cpu cpu [] less (omega arith)

  gone_is : (lock : DomainId) → is_lock shape lock ≡ true → (index : ℕ) (entry : Entry) → slice_get (entries_of histories lock) index ≡ Some entry
      → gone_on gone lock index ≡ ended_flushed (gone_by entry.part) (entries_below entry.ticket (entries_of histories lock))
  gone_is (Local cpu) is index entry at = ap (λ (g : List Bool). get_or g index false) (local_gone cpu index is) ∙ gone_read (was_gone (entries_of histories (Local cpu))) (entries_of histories (Local cpu)) index entry at
  gone_is Global is index entry at = global_gone shape (entries_below entry.ticket (entries_of histories Global)) entry.part (known.fit Global index entry is at)
  gone_is (CpuLru cpu) is index entry at = own_gone shape cpu (entries_below entry.ticket (entries_of histories (CpuLru cpu))) entry.part (known.fit (CpuLru cpu) index entry is at)
  gone_is (Bucket bucket) is index entry at = bucket_gone shape bucket (entries_below entry.ticket (entries_of histories (Bucket bucket))) entry.part (known.fit (Bucket bucket) index entry is at)
  gone_is (Freelist cpu) is index entry at = absurd (both_ways (not (is_lru shape.kind)) (ap not known.evicts) (and_parts (not (is_lru shape.kind)) (ltb cpu shape.cpus) is).0)

  -- of one step
  pub seen_named : (step : StrandStep) → is_lock shape step.lock ≡ true → (entry : Entry) → named_by histories step ≡ Some entry
      → all_seen shape (turns_named histories (step ∷ [])) ≡ seen_of (on_lock step.lock entry.part) (noted_at shape notes nothing step) (gone_at gone step) ∷ []
  seen_named step is entry at =
      let entries : List Entry = entries_of histories step.lock in
      let note = noted_is step.lock is step.index entry at in
      let flushed = gone_is step.lock is step.index entry at in
      ap (λ (o : Option Entry). all_seen shape (option_to_list (option_map (turn_named histories step) o) ++ [])) at
      ∙ ap (λ (s : Seen). s ∷ [])
      (sym (ap (λ (n : Note). seen_of (on_lock step.lock entry.part) n (gone_at gone step)) note
      ∙ (ap (λ (b : Bool). seen_of (on_lock step.lock entry.part) (note_of (content shape step.lock (take step.index entries)) entry.part) b) flushed
      ∙ part_seen shape step.lock entry.part (entries_below entry.ticket entries) (take step.index entries))))

-- of one step more
pub seen_more : (shape : Shape) (histories : List LockHistory) (row : List StrandStep) (i : ℕ) (d : StrandStep) (items : List Seen) (seen : Seen) → i < length row → items ≡ all_seen shape (turns_named histories (take i row))
    → all_seen shape (turns_named histories (get_or row i d ∷ [])) ≡ seen ∷ [] → items ++ seen ∷ [] ≡ all_seen shape (turns_named histories (take (i + 1) row))
seen_more shape histories row i d items seen less are is =
    let named : StrandStep → List TurnAt = λ step. option_to_list (option_map (turn_named histories step) (named_by histories step)) in
    ap (λ (l : List Seen). l ++ seen ∷ []) are
    ∙ (ap (λ (l : List Seen). all_seen shape (turns_named histories (take i row)) ++ l) (sym is)
    ∙ (sym (map-append (seen_at shape) (turns_named histories (take i row)) (turns_named histories (get_or row i d ∷ [])))
    ∙ ap (all_seen shape) (sym (ap (flat_map named) (take_more row i d less) ∙ flat_map-append named (take i row) (get_or row i d ∷ [])))))
