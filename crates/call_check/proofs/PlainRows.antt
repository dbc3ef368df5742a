-- A row of steps on a map that doesn't evict, against the reader of calls.
use Rattle.std.proofs.Common.{◌≡◌, ◌≢◌, ℕ, zero, suc, ◌+◌, ◌-◌, ◌<◌, ◌≤◌, Bool, true, false, cond, List, [], ◌∷◌, ◌++◌, length, get_or, map, take, Option, Some, None, eqb, ltb, refl, ap, sym, ◌∙◌, subst, inl, inr, arith}
use Rattle.std.specs.Prelude.{◌&&◌, not, All, MatchBool, option_map, option_to_list, slice_get}
use Rattle.std.proofs.lemmas.Option.{get_or_from_slice_get, same_Some, slice_get_within}
use Rattle.std.proofs.lemmas.Bool.{and_parts, both_ways, cases_eq, eq-eqb, ne_eqb}
use Rattle.map_types.specs.Kind.{is_lru}
use Rattle.map_types.specs.declared.attr.Shape.{Shape}
use Rattle.map_types.specs.declared.call.Verb.{Verb}
use Rattle.map_types.specs.declared.reply.Reply.{Reply}
use Rattle.place_words.specs.declared.history.Entry.{Entry}
use Rattle.place_words.specs.declared.history.LockHistory.{LockHistory}
use Rattle.place_words.specs.declared.history.StrandStep.{StrandStep}
use Rattle.place_words.specs.declared.history.Part.{Part}
use Rattle.place_words.specs.declared.history.Part.TheVariants as parts
use Rattle.place_words.specs.declared.history.Part.TheVariants.{Free}
use Rattle.map_types.specs.declared.kind.DomainId.{DomainId}
use Rattle.map_types.specs.declared.kind.DomainId.TheVariants.{Local, Global, CpuLru, Bucket, Freelist}
use Rattle.map_script.specs.declared.script.Script.{Script}
use Rattle.map_report.specs.declared.record.RunRecord.{RunRecord}
use Rattle.record_shape.specs.ShapedParts.{PartFits}
use Rattle.place_words.specs.declared.free_part.FreePart.TheVariants.{FoundEmpty}
use Rattle.place_words.specs.Locks.{is_lock}
use Rattle.place_words.specs.Turns.{Turn, TurnAt, on_lock, turns_of}
use Rattle.map_report.specs.Record.{entries_of, locks_of}
use Rattle.record_shape.specs.WellShaped.{WellShaped, lock_of}
use Rattle.trace_check.specs.BySpares as told
use Rattle.trace_check.specs.LawsBySpares.{AreCallBy, AreSpares, read_count_by}
use Rattle.trace_check.proofs.WholeBy.{counts_turns_by}
use Rattle.trace_check.specs.Strand.{IsEntry, entries_at, part_at, turn_at, turns_at}
use Rattle.trace_check.specs.Strand as strand
use Rattle.call_check.specs.PlainRows.{AreNamed, spare_at_step, spares_at}
use Rattle.call_check.specs.RightCalls.{earlier_of, entries_below, is_moved, named_by, spare_first, spare_of_entry, turn_named, turns_named}
use Rattle.call_check.specs.By.{IsTraceBy}
use Rattle.call_check.proofs.ToldTraces.{from_told, to_told}
use Rattle.call_check.proofs.OwnStrand.{entry_fits}
use Rattle.call_check.proofs.PlainPlaces.{entries_there, place_there}

-- a step that names an entry under a lock of the map, and none of whose element's moves count
pub record IsPlainStep (shape : Shape) (histories : List LockHistory) (step : StrandStep) : Type 0 where
  pub lock : is_lock shape step.lock ≡ true
  pub entry : Entry
  pub is : named_by histories step ≡ Some entry
  pub stays : is_moved entry.part ≡ false

pub ArePlain : Shape → List LockHistory → List StrandStep → Type 0
ArePlain shape histories [] = Unit {0}
ArePlain shape histories (step ∷ row) = IsPlainStep shape histories step × ArePlain shape histories row

-- under its locks no push finds its element gone
plain_part : (shape : Shape) → is_lru shape.kind ≡ false → shape.common ≡ false → (lock : DomainId) (part : Part) → is_lock shape lock ≡ true → PartFits shape lock part → is_moved part ≡ false
plain_part shape plain apart (Local cpu) part is fits = absurd (both_ways shape.common apart (and_parts shape.common (ltb cpu shape.cpus) is).0)
plain_part shape plain apart Global part is fits = absurd (both_ways shape.common apart is)
plain_part shape plain apart (CpuLru cpu) part is fits = absurd (both_ways (is_lru shape.kind) plain (and_parts (is_lru shape.kind) (not shape.common) (and_parts (is_lru shape.kind && not shape.common) (ltb cpu shape.cpus) is).0).0)
plain_part shape plain apart (Bucket b) (parts.Bucket part) is fits = refl
plain_part shape plain apart (Bucket b) (parts.Free part) is fits = refl
plain_part shape plain apart (Bucket b) (parts.Local part) is fits = absurd fits
plain_part shape plain apart (Bucket b) (parts.Global part) is fits = refl
plain_part shape plain apart (Bucket b) (parts.Own part) is fits = refl
plain_part shape plain apart (Freelist c) (parts.Bucket part) is fits = refl
plain_part shape plain apart (Freelist c) (parts.Free part) is fits = refl
plain_part shape plain apart (Freelist c) (parts.Local part) is fits = absurd fits
plain_part shape plain apart (Freelist c) (parts.Global part) is fits = refl
plain_part shape plain apart (Freelist c) (parts.Own part) is fits = refl

pub plain_row : (script : Script) (kept : RunRecord) → WellShaped script kept → is_lru script.shape.kind ≡ false → script.shape.common ≡ false
    → (row : List StrandStep) → AreNamed script.shape kept.histories row → ArePlain script.shape kept.histories row
unfolding ArePlain
plain_row script kept well plain apart [] named = tt
plain_row script kept well plain apart (step ∷ row) named = (
  record {
    lock = named.0.lock;
    entry = named.0.entry;
    is = named.0.is;
    stays = plain_part script.shape plain apart step.lock named.0.entry.part named.0.lock (entry_fits script.shape (length script.calls) kept.histories well.histories step.lock step.index named.0.entry named.0.is).part;
  },
  plain_row script kept well plain apart row named.1,
)

length_taken : {A : Type 0} (n : ℕ) (xs : List A) → n ≤ length xs → length (take n xs) ≡ n
length_taken zero [] within = refl
length_taken zero (x ∷ xs) within = refl
length_taken (suc n) [] within = absurd (omega (arith, within))
length_taken (suc n) (x ∷ xs) within = ap suc (length_taken n xs (omega (arith, within)))

module _ (cuts : List ℕ) (shape : Shape) (plain : is_lru shape.kind ≡ false) (apart : shape.common ≡ false) (histories : List LockHistory) (locks : map lock_of histories ≡ locks_of shape) where
  module _ (step : StrandStep) (p : IsPlainStep shape histories step) where
    there : entries_at shape.buckets histories step.lock ≡ entries_of histories step.lock
    there = entries_there shape plain apart histories locks step.lock p.lock

    index_in : step.index < length (entries_of histories step.lock)
    index_in = slice_get_within (entries_of histories step.lock) step.index p.entry p.is

    one_entry : IsEntry shape.buckets histories step
    one_entry = (place_there shape plain apart histories locks step.lock p.lock, omega (arith, index_in, ap length there))

    one_turn : turn_at shape.buckets histories step ≡ on_lock step.lock p.entry.part
    one_turn =
        let none : Entry = record { ticket = 0; cpu = 0; call = 0; part = Free FoundEmpty } in
        ap (λ (es : List Entry). on_lock step.lock (get_or es step.index none).part) there
        ∙ ap (λ (e : Entry). on_lock step.lock e.part) (get_or_from_slice_get (entries_of histories step.lock) step.index p.entry none p.is)

    named_here : (row : List StrandStep) → turns_named histories (step ∷ row) ≡ turn_named histories step p.entry ∷ turns_named histories row
    named_here row = ap (λ (o : Option Entry). option_to_list (option_map (turn_named histories step) o) ++ turns_named histories row) p.is

    spare_here : (cpu : ℕ) → spare_of_entry cuts shape histories cpu (slice_get (entries_of histories step.lock) (length (earlier_of (entries_of histories step.lock) step.index p.entry))) ≡ spare_at_step cuts shape histories cpu step
    spare_here cpu =
        let before : earlier_of (entries_of histories step.lock) step.index p.entry ≡ take step.index (entries_of histories step.lock) =
        ap (λ (b : Bool). cond b (entries_below p.entry.ticket (entries_of histories step.lock)) (take step.index (entries_of histories step.lock))) p.stays in
        let counted : length (take step.index (entries_of histories step.lock)) ≡ step.index = length_taken step.index (entries_of histories step.lock) (omega (arith, index_in)) in
        ap (λ (n : ℕ). spare_of_entry cuts shape histories cpu (slice_get (entries_of histories step.lock) n)) (ap length before ∙ counted)

  pub are_entries : (row : List StrandStep) → ArePlain shape histories row → All (IsEntry shape.buckets histories) row
  unfolding ArePlain
  are_entries [] are = Rattle.std.proofs.lemmas.List.Elements.All-nil (IsEntry shape.buckets histories)
  are_entries (step ∷ row) are = Rattle.std.proofs.lemmas.List.Elements.All-cons (IsEntry shape.buckets histories) step row (one_entry step are.0) (are_entries row are.1)

  pub turns_are : (row : List StrandStep) → ArePlain shape histories row → turns_of (turns_named histories row) ≡ turns_at shape.buckets histories row
  unfolding ArePlain
  turns_are [] are = refl
  turns_are (step ∷ row) are =
      ap turns_of (named_here step are.0 row)
      ∙ (ap (λ (t : Turn). t ∷ turns_of (turns_named histories row)) (sym (one_turn step are.0)) ∙ ap (λ (l : List Turn). turn_at shape.buckets histories step ∷ l) (turns_are row are.1))

  pub as_many : (row : List StrandStep) → ArePlain shape histories row → length (turns_named histories row) ≡ length row
  unfolding ArePlain
  as_many [] are = refl
  as_many (step ∷ row) are = ap length (named_here step are.0 row) ∙ ap suc (as_many row are.1)

  same_head : (x y : TurnAt) (xs ys : List TurnAt) → x ∷ xs ≡ y ∷ ys → (x ≡ y) × (xs ≡ ys)
  same_head x y xs ys same = (cc, cc)

  spare_at_place : (cpu : ℕ) (row : List StrandStep) → ArePlain shape histories row → (before later : List TurnAt) (at : TurnAt) → turns_named histories row ≡ before ++ at ∷ later
      → spare_of_entry cuts shape histories cpu (slice_get (entries_of histories at.turn.lock) (length at.earlier)) ≡ get_or (spares_at cuts shape histories cpu row) (length before) None
  unfolding ArePlain
  spare_at_place cpu [] are [] later at is = absurd cc
  spare_at_place cpu [] are (b ∷ before) later at is = absurd cc
  spare_at_place cpu (step ∷ row) are [] later at is =
      let same = same_head (turn_named histories step are.0.entry) at (turns_named histories row) later (sym (named_here step are.0 row) ∙ is) in
      subst (λ (t : TurnAt). spare_of_entry cuts shape histories cpu (slice_get (entries_of histories t.turn.lock) (length t.earlier)) ≡ spare_at_step cuts shape histories cpu step) same.0 (spare_here step are.0 cpu)
  spare_at_place cpu (step ∷ row) are (b ∷ before) later at is =
      let same = same_head (turn_named histories step are.0.entry) b (turns_named histories row) (before ++ at ∷ later) (sym (named_here step are.0 row) ∙ is) in
      spare_at_place cpu row are.1 before later at same.1

  length_map : {A B : Type 0} (f : A → B) (xs : List A) → length (map f xs) ≡ length xs
  length_map f [] = refl
  length_map f (x ∷ xs) = ap suc (length_map f xs)

  length_two : {A : Type 0} (xs ys : List A) → length (xs ++ ys) ≡ length xs + length ys
  length_two xs ys = Rattle.std.proofs.lemmas.List.length-append xs ys

  pub are_spares : (cpu : ℕ) (row : List StrandStep) → ArePlain shape histories row → AreSpares (spare_first cuts shape histories cpu) (strand.spare_before (spares_at cuts shape histories cpu row)) (turns_named histories row)
  are_spares cpu row are before one rest at is =
      let all : length (turns_named histories row) ≡ length before + length ((at ∷ one) ++ rest) = ap length is ∙ length_two before ((at ∷ one) ++ rest) in
      let many : length (spares_at cuts shape histories cpu row) ≡ length (turns_named histories row) = length_map (spare_at_step cuts shape histories cpu) row ∙ sym (as_many row are) in
      let place : length before ≡ length (spares_at cuts shape histories cpu row) - length ((at ∷ one) ++ rest) = omega (arith, all, many) in
      spare_at_place cpu row are before (one ++ rest) at is ∙ ap (λ (k : ℕ). get_or (spares_at cuts shape histories cpu row) k None) place

  -- Where the reader reads so many turns as there are, the row is the call's trace; where it doesn't, it isn't.
  module _ (cpu : ℕ) (verb : Verb) (reply : Reply) (row : List StrandStep) (are : ArePlain shape histories row) where
    abbrev Is : Type 0
    Is = IsTraceBy shape cpu (spare_first cuts shape histories cpu) verb (turns_named histories row) reply

    abbrev read : Option (ℕ × Reply)
    read = read_count_by shape cpu (strand.spare_before (spares_at cuts shape histories cpu row)) verb (turns_at shape.buckets histories row)

    laws : (n : ℕ) → (read ≡ Some (n, reply) → AreCallBy shape cpu (spare_first cuts shape histories cpu) verb (turns_named histories row) n reply)
        × (AreCallBy shape cpu (spare_first cuts shape histories cpu) verb (turns_named histories row) n reply → read ≡ Some (n, reply))
    laws n =
        let both = counts_turns_by shape cpu (spare_first cuts shape histories cpu) (strand.spare_before (spares_at cuts shape histories cpu row)) verb plain (turns_named histories row) (are_spares cpu row are) n reply in
        let same = ap (λ (ts : List Turn). read_count_by shape cpu (strand.spare_before (spares_at cuts shape histories cpu row)) verb ts) (turns_are row are) in
        (λ is. both.0 (same ∙ is), λ is. sym same ∙ both.1 is)

    whole : take (length row) (turns_named histories row) ≡ turns_named histories row
    whole = ap (λ (n : ℕ). take n (turns_named histories row)) (sym (as_many row are)) ∙ all_taken (turns_named histories row)
      where
        all_taken : (xs : List TurnAt) → take (length xs) xs ≡ xs
        all_taken [] = refl
        all_taken (x ∷ xs) = ap (λ (l : List TurnAt). x ∷ l) (all_taken xs)

    to_read : Is → read ≡ Some (length row, reply)
    to_read is =
        (laws (length row)).1 (omega (arith, as_many row are), subst (λ (ts : List TurnAt). told.IsTraceBy shape cpu (spare_first cuts shape histories cpu) verb ts reply) (sym whole) (to_told shape cpu (spare_first cuts shape histories cpu) verb (turns_named histories row) reply is))

    pub none_read : ((n : ℕ) → read ≢ Some (n, reply)) → Is → ⊥
    none_read none is = none (length row) (to_read is)

    pub some_read : (count : ℕ) → read ≡ Some (count, reply) → MatchBool (eqb count (length row)) Is (Is → ⊥)
    some_read count found = elim (cases_eq count (length row)) [
      | inl same ↦ subst (λ (b : Bool). MatchBool b Is (Is → ⊥)) (sym (eq-eqb count (length row) same))
          (from_told shape cpu (spare_first cuts shape histories cpu) verb (turns_named histories row) reply
          (subst (λ (ts : List TurnAt). told.IsTraceBy shape cpu (spare_first cuts shape histories cpu) verb ts reply) (ap (λ (n : ℕ). take n (turns_named histories row)) same ∙ whole) ((laws count).0 found).1))
      | inr other ↦ subst (λ (b : Bool). MatchBool b Is (Is → ⊥)) (sym (ne_eqb count (length row) other))
          (λ is. let one : Some (count, reply) ≡ Some (length row, reply) = sym found ∙ to_read is in other (ap (λ (p : ℕ × Reply). p.0) (same_Some (count, reply) (length row, reply) one)))
    ]
