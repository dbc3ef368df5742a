-- What calls on one key of a map that evicts did.
use Rattle.std.proofs.Common.{◌≡◌, ℕ, Bool, true, false, cond, ⊎_elim, List, [], ◌∷◌, ◌++◌, map, length, reverse, refl, ap, sym, ◌∙◌, subst, arith, append_assoc, Option, None, Some, MatchBool, MatchOption}
use Rattle.std.specs.Prelude.{◌⊎◌, ◌==◌, ◌&&◌, slice_get, option_map}
use Rattle.std.specs.List.{flat_map}
use Rattle.std.proofs.lemmas.Bool.{eq-eqb}
use Rattle.std.proofs.lemmas.Grind.{flat_map-append}
use Rattle.std.proofs.lemmas.List.{map-append, append-nil, length-map, length-append, length-reverse}
use Rattle.std.proofs.lemmas.Option.{none-some}
use Rattle.map_types.specs.declared.attr.Shape.{Shape}
use Rattle.map_types.specs.declared.call.Verb.TheVariants as verbs
use Rattle.map_types.specs.declared.kind.DomainId.{DomainId}
use Rattle.map_types.specs.declared.kind.DomainId.TheVariants.{Local, Global, CpuLru}
use Rattle.map_types.specs.declared.kind.Side.{Side}
use Rattle.map_types.specs.declared.kind.Side.TheVariants.{Prog, Sys}
use Rattle.map_types.specs.declared.refusal.Errno.TheVariants.{Enomem, Einval}
use Rattle.map_types.specs.declared.reply.Reply.TheVariants.{Done, Value, Refused}
use Rattle.map_types.specs.declared.row.Row.{Row}
use Rattle.map_types.specs.ElementLists.{IsHead}
use Rattle.map_types.specs.Kind.{is_lru, is_percpu}
use Rattle.map_types.specs.Sides.{value_read}
use Rattle.map_types.specs.Stored.{Stored}
use Rattle.key_hash.specs.Jhash.{hash}
use Rattle.place_words.specs.declared.bucket_part.BucketPart.{BucketPart}
use Rattle.place_words.specs.declared.bucket_part.BucketPart.TheVariants.{Lookup, Delete}
use Rattle.place_words.specs.declared.history.Entry.{Entry}
use Rattle.place_words.specs.declared.history.Part.{Part}
use Rattle.place_words.specs.declared.history.Part.TheVariants as parts
use Rattle.place_words.specs.declared.list_part.GlobalPart.TheVariants as global
use Rattle.place_words.specs.declared.list_part.LocalPart.TheVariants as local
use Rattle.place_words.specs.declared.list_part.OwnPart.TheVariants as own
use Rattle.place_words.specs.declared.list_part.Stolen.{Stolen}
use Rattle.place_words.specs.declared.list_part.Stolen.TheVariants.{Free, Pending, Nothing}
use Rattle.place_words.specs.declared.visits.Look.{Look}
use Rattle.place_words.specs.declared.visits.ShrinkNote.{ShrinkNote}
use Rattle.place_words.specs.declared.visits.Try.{Try}
use Rattle.place_words.specs.declared.visits.Visit.{Visit}
use Rattle.place_words.specs.Bodies.{present}
use Rattle.place_words.specs.Buckets.{IsPresentWith, AllowsInBucket}
use Rattle.place_words.specs.Evicting.{IsEvictingDelete, IsEvictingUpdate, OffersOne, FreesOne}
use Rattle.place_words.specs.Globals.{global_after, flush_visit}
use Rattle.place_words.specs.Histories.{Content, in_bucket, on_freelist, in_locals, in_global, in_own, content_after, Allows, marks}
use Rattle.place_words.specs.Locals.{LocalLists, last_of, local_after}
use Rattle.place_words.specs.Locks.{lock_named}
use Rattle.place_words.specs.PlainTraces.{IsLookupTrace, reply_of_got, reply_of_gone}
use Rattle.place_words.specs.Sets.{ListSet, AllowsOwnShrink, shrunk_into_free, rotated_set, own_after, own_scans}
use Rattle.place_words.specs.Shrinking.{freed}
use Rattle.place_words.specs.Takings.{Chase, IsChased, rows_brought, listed_rows, probes_of, stored_hash, evicts, TakesFree, TakesOwn, TakesByRefill, Refills, Steals, Acquires, stolen_element, brings_home, Frees, FreesPending, FreesFlushed, freed_globally, freed_by, set_of, ends_flushed}
use Rattle.place_words.specs.Turns.{Turn, TurnAt, turns_of, found, on_lock, on_bucket_of, ring}
use Rattle.place_words.proofs.PlainLaws.{second_chosen}
use Rattle.place_table.specs.declared.view.Turned.{Turned}
use Rattle.place_table.specs.Calls.{Called, AreTold, IsTold, spare_element, bits_of_part, bits_of_turns, sets_bit}
use Rattle.place_table.specs.Known.{turn_of, turn_at, BitTouch, bit_after_all}
use Rattle.place_table.specs.Passes.{PassView, TableView}
use Rattle.place_table.specs.Views.{bit_seen, has_all}
use Rattle.refusals.specs.Made.{lay, left, bodies_in, free_in, Did, AllDid}
use Rattle.refusals.specs.Evicting.{SystemLookupSetsNone, ProgramLookupSetsIt, DeletedIsFreed, MovedOnWasFlushed, cpus_tried_in, GainsNothing, NoneAfterARound, NoneAfterAShrink}
use Rattle.refusals.proofs.KeyTraces.{by_kind, lookup_trace}
use Rattle.refusals.proofs.MadeLemmas.{Split, split_mapped, split_first, called_may_be, called_did, did_single, did_none, DidAt, did_at, allowed_there}
use Rattle.refusals.proofs.KeyLemmas.{present_weaker, put_finds_element}

pub first_chosen : (b : Bool) (A B : Type 0) → b ≡ true → MatchBool b A B → A
first_chosen true A B is both = both
first_chosen false A B is both = absurd cc

-- Bits

-- the one turn of a call, as it was made and as it is told
pub record Single (shape : Shape) (lost : List ℕ) (steps told : List Turned) (turn : Turn) : Type 0 where
  pub step : Turned
  pub as_told : Turned
  pub steps_are : steps ≡ step ∷ []
  pub told_are : told ≡ as_told ∷ []
  pub is : IsTold shape lost step as_told
  pub turn_is : turn_of shape as_told ≡ turn

module _ (shape : Shape) (lost : List ℕ) (turn : Turn) where
  single : (steps told : List Turned) → AreTold shape lost steps told → turns_of (map (turn_at shape) told) ≡ turn ∷ [] → Single shape lost steps told turn
  single [] [] are turns = absurd cc
  single [] (x ∷ xs) are turns = absurd are
  single (s ∷ ss) [] are turns = absurd are
  single (s ∷ ss) (x ∷ y ∷ ys) are turns = absurd cc
  single (s ∷ z ∷ zs) (x ∷ []) are turns = absurd are.1
  single (s ∷ []) (x ∷ []) are turns = record { step = s; as_told = x; steps_are = refl; told_are = refl; is = are.0; turn_is = cc }

  same_marks : (step told : Turned) → IsTold shape lost step told → marks shape step.entry.part ≡ marks shape told.entry.part
  same_marks step told is = ⊎_elim (λ same. ap (λ (x : Turned). marks shape x.entry.part) (sym same)) (λ other. sym other.1.same_marks) is.0

the_first : {X : Type 0} (b : Bool) (xs ys : List X) → b ≡ true → cond b xs ys ≡ xs
the_first true xs ys is = refl
the_first false xs ys is = absurd cc

either_none : (b : Bool) → cond {A = List ℕ} b [] [] ≡ []
either_none true = refl
either_none false = refl

no_touch : (b : Bool) → cond {A = List BitTouch} b [] [] ≡ []
no_touch true = refl
no_touch false = refl

module _ (shape : Shape) where
  sys_marks : (key : List ℕ) (got : Option (ℕ × List ℕ)) → marks shape (parts.Bucket (Lookup Sys key got)) ≡ []
  sys_marks key got = either_none (is_lru shape.kind)

  bucket_bits : (part : BucketPart) (set : List ℕ) → marks shape (parts.Bucket part) ≡ set → bits_of_part shape (parts.Bucket part) ≡ (map sets_bit set ++ []) ++ []
  bucket_bits part set is = ap (λ (l : List ℕ). (map sets_bit l ++ []) ++ []) is

  part_bits : (x : Turned) (part : Part) → x.entry.part ≡ part → bits_of_turns shape (x ∷ []) ≡ cond (is_lru shape.kind) (bits_of_part shape part ++ []) []
  part_bits x part is = ap (λ (p : Part). cond (is_lru shape.kind) (bits_of_part shape p ++ []) []) is

  no_bits : (touches : List BitTouch) → touches ≡ [] → cond (is_lru shape.kind) (touches ++ []) [] ≡ []
  no_bits touches none = ap (λ (l : List BitTouch). cond (is_lru shape.kind) (l ++ []) []) none ∙ no_touch (is_lru shape.kind)

part_of : (shape : Shape) (x : Turned) (turn : Turn) → turn_of shape x ≡ turn → x.entry.part ≡ turn.part
part_of shape x turn is = ap (λ (y : Turn). y.part) is

pub system_sets_none : SystemLookupSetsNone
system_sets_none t before after key reply called =
    let trace : IsLookupTrace t.shape Sys key (turns_of (map (turn_at t.shape) called.told)) reply = lookup_trace t.shape before.cpu (spare_element before) Sys key (map (turn_at t.shape) called.told) reply called.trace in
    let turn : Turn = on_bucket_of t.shape key (Lookup Sys key trace.got) in
    let one = single t.shape called.lost turn called.steps called.told called.told_are trace.turns_are in
    let is_part : one.as_told.entry.part ≡ parts.Bucket (Lookup Sys key trace.got) = part_of t.shape one.as_told turn one.turn_is in
    let none : marks t.shape one.as_told.entry.part ≡ [] = ap (marks t.shape) is_part ∙ sys_marks t.shape key trace.got in
    let touches : bits_of_turns t.shape called.told ≡ [] =
    ap (bits_of_turns t.shape) one.told_are ∙ part_bits t.shape one.as_told (parts.Bucket (Lookup Sys key trace.got)) is_part
    ∙ no_bits t.shape (bits_of_part t.shape (parts.Bucket (Lookup Sys key trace.got))) (bucket_bits t.shape (Lookup Sys key trace.got) [] (sys_marks t.shape key trace.got)) in (
      one.step,
      one.steps_are,
      same_marks t.shape called.lost turn one.step one.as_told one.is ∙ none,
      (λ all e. (called.leaves.learns.bits all e).known_is ∙ ap (bit_after_all e (bit_seen e before.view.bits)) touches),
    )

-- a program's
module _ (shape : Shape) (evicting : is_lru shape.kind ≡ true) where
  prog_marks : (key : List ℕ) (got : ℕ × List ℕ) → marks shape (parts.Bucket (Lookup Prog key (Some got))) ≡ got.0 ∷ []
  prog_marks key got = the_first (is_lru shape.kind) (got.0 ∷ []) [] evicting

  prog_bits : (x : Turned) (key : List ℕ) (got : ℕ × List ℕ) → x.entry.part ≡ parts.Bucket (Lookup Prog key (Some got)) → bits_of_turns shape (x ∷ []) ≡ sets_bit got.0 ∷ []
  prog_bits x key got is =
      part_bits shape x (parts.Bucket (Lookup Prog key (Some got))) is
      ∙ ap (λ (l : List BitTouch). cond (is_lru shape.kind) (l ++ []) []) (bucket_bits shape (Lookup Prog key (Some got)) (got.0 ∷ []) (prog_marks key got))
      ∙ the_first (is_lru shape.kind) (sets_bit got.0 ∷ []) [] evicting

bit_is_set : (e : ℕ) (known : Option Bool) → bit_after_all e known (sets_bit e ∷ []) ≡ Some true
bit_is_set e known = ap (λ (b : Bool). cond b (Some true) known) (eq-eqb e e refl)

module _ (t : TableView) (before after : PassView) (key bytes : List ℕ) (evicting : is_lru t.shape.kind ≡ true) (called : Called t before after (verbs.Lookup Prog key) (Value bytes)) where
  abbrev SetsIt : Type 0
  SetsIt =
      (e : ℕ) × (step : Turned) × (called.steps ≡ step ∷ []) × (marks t.shape step.entry.part ≡ e ∷ [])
      × (has_all before.view ≡ true → bit_seen e after.view.bits ≡ Some true)
      × IsPresentWith key (bodies_in (lay t.shape step)) (λ body. body.element ≡ e)

  reads_there : (got : ℕ × List ℕ) (bodies : List Stored) → AllowsInBucket t.shape before.cpu (Lookup Prog key (Some got)) bodies → IsPresentWith key bodies (λ body. body.element ≡ got.0)
  unfolding AllowsInBucket
  reads_there got bodies allowed = present_weaker (λ body. (body.element ≡ got.0) × (got.1 ≡ value_read t.shape Prog before.cpu body.values)) (λ body. body.element ≡ got.0) (present key bodies) (λ body both. both.0) allowed

  sets_it : (got : Option (ℕ × List ℕ)) → turns_of (map (turn_at t.shape) called.told) ≡ on_bucket_of t.shape key (Lookup Prog key got) ∷ [] → Value bytes ≡ reply_of_got got → SetsIt
  sets_it None are is = absurd cc
  sets_it (Some got) are is =
      let turn : Turn = on_bucket_of t.shape key (Lookup Prog key (Some got)) in
      let one = single t.shape called.lost turn called.steps called.told called.told_are are in
      let did = did_single t.shape before.cpu called.steps turn (subst (λ (turns : List Turn). AllDid t.shape before.cpu called.steps turns) are (called_did t before after (verbs.Lookup Prog key) (Value bytes) called)) in
      let same : one.step ≡ did.0 = heads one.step did.0 (sym one.steps_are ∙ did.1) in
      let is_part : one.as_told.entry.part ≡ parts.Bucket (Lookup Prog key (Some got)) = part_of t.shape one.as_told turn one.turn_is in (
        got.0,
        one.step,
        one.steps_are,
        same_marks t.shape called.lost turn one.step one.as_told one.is ∙ ap (marks t.shape) is_part ∙ prog_marks t.shape evicting key got,
        (λ all. (called.leaves.learns.bits all got.0).known_is ∙ ap (bit_after_all got.0 (bit_seen got.0 before.view.bits)) (ap (bits_of_turns t.shape) one.told_are ∙ prog_bits t.shape evicting one.as_told key got is_part) ∙ bit_is_set got.0 (bit_seen got.0 before.view.bits)),
        reads_there got (bodies_in (lay t.shape one.step)) (allowed_there t.shape before.cpu (Lookup Prog key (Some got)) (lay t.shape one.step) (subst (λ (x : Turned). Did t.shape before.cpu x turn) (sym same) did.2).allowed),
      )
    where
      heads : (x y : Turned) → x ∷ [] ≡ y ∷ [] → x ≡ y
      heads x y is = cc

pub program_sets_it : ProgramLookupSetsIt
program_sets_it t before after key bytes evicting called =
    let trace : IsLookupTrace t.shape Prog key (turns_of (map (turn_at t.shape) called.told)) (Value bytes) = lookup_trace t.shape before.cpu (spare_element before) Prog key (map (turn_at t.shape) called.told) (Value bytes) called.trace in
    sets_it t before after key bytes evicting called trace.got trace.turns_are trace.reply_is

-- Deletes

-- the last turn that frees an element puts it at the head of a free list
pub record EndsFreeing (shape : Shape) (e : ℕ) (turns : List Turn) : Type 0 where
  pub others : List Turn
  pub last : Turn
  pub turns_are : turns ≡ others ++ last ∷ []
  pub heads : (cpu : ℕ) (lies : Content) → Allows shape cpu last.part lies → IsHead e (free_in (content_after shape cpu last.part lies))

module _ (shape : Shape) (e : ℕ) where
  head_local : (cpu : ℕ) (lies : Content) → Allows shape cpu (parts.Local (local.Push e true)) lies → IsHead e (free_in (content_after shape cpu (parts.Local (local.Push e true)) lies))
  unfolding local_after
  head_local cpu (in_bucket bodies) allowed = absurd allowed
  head_local cpu (on_freelist stack) allowed = absurd allowed
  head_local cpu (in_locals lists) allowed = refl
  head_local cpu (in_global set) allowed = absurd allowed
  head_local cpu (in_own set) allowed = absurd allowed

  head_global : (cpu : ℕ) (lies : Content) → Allows shape cpu (parts.Global (global.Push e)) lies → IsHead e (free_in (content_after shape cpu (parts.Global (global.Push e)) lies))
  unfolding global_after
  head_global cpu (in_bucket bodies) allowed = absurd allowed
  head_global cpu (on_freelist stack) allowed = absurd allowed
  head_global cpu (in_locals lists) allowed = absurd allowed
  head_global cpu (in_global set) allowed = refl
  head_global cpu (in_own set) allowed = absurd allowed

  head_own : (cpu : ℕ) (lies : Content) → Allows shape cpu (parts.Own (own.Push e)) lies → IsHead e (free_in (content_after shape cpu (parts.Own (own.Push e)) lies))
  unfolding own_after
  head_own cpu (in_bucket bodies) allowed = absurd allowed
  head_own cpu (on_freelist stack) allowed = absurd allowed
  head_own cpu (in_locals lists) allowed = absurd allowed
  head_own cpu (in_global set) allowed = absurd allowed
  head_own cpu (in_own set) allowed = refl

  global_end : (others turns : List Turn) → turns ≡ others ++ freed_globally e ∷ [] → EndsFreeing shape e turns
  global_end others turns are = record { others = others; last = freed_globally e; turns_are = are; heads = head_global }

  shared_end : (turns : List TurnAt) → FreesPending e turns ⊎ (FreesFlushed e turns ⊎ (turns_of turns ≡ freed_globally e ∷ [])) → EndsFreeing shape e (turns_of turns)
  shared_end turns frees =
      ⊎_elim
      (λ pending. record { others = []; last = on_lock (Local pending.on) (parts.Local (local.Push e true)); turns_are = pending.turns_are; heads = head_local })
      (λ other. ⊎_elim
      (λ flushed. global_end (flushed.first.turn ∷ []) (turns_of turns) (ap turns_of flushed.turns_are ∙ ap (λ (x : Turn). flushed.first.turn ∷ x ∷ []) flushed.second_is))
      (λ alone. global_end [] (turns_of turns) alone) other)
      frees

  own_end : (turns : List TurnAt) → turns_of turns ≡ on_lock (CpuLru (set_of shape e)) (parts.Own (own.Push e)) ∷ [] → EndsFreeing shape e (turns_of turns)
  own_end turns are = record { others = []; last = on_lock (CpuLru (set_of shape e)) (parts.Own (own.Push e)); turns_are = are; heads = head_own }

  ends_freeing : (turns : List TurnAt) → Frees shape e turns → EndsFreeing shape e (turns_of turns)
  ends_freeing turns frees = by_kind shape.common frees (λ _ shared. shared_end turns shared) (λ _ of_own. own_end turns of_own)

module _ (t : TableView) (before : PassView) (key : List ℕ) (steps : List Turned) where
  abbrev FreesIt : Type 0
  FreesIt =
      (e : ℕ) × (first : Turned) × (others : List Turned) × (last : Turned) × (steps ≡ first ∷ (others ++ last ∷ []))
      × Did t.shape before.cpu first (on_bucket_of t.shape key (Delete key (Some e))) × IsHead e (free_in (left t.shape last))

  frees_it : (e : ℕ) (turns : List Turn) (made : List Turned) → steps ≡ made → EndsFreeing t.shape e turns → AllDid t.shape before.cpu made (on_bucket_of t.shape key (Delete key (Some e)) ∷ turns) → FreesIt
  frees_it e turns [] are ends did = absurd did
  frees_it e turns (first ∷ rest) are ends did =
      let at = did_at t.shape before.cpu rest ends.others ends.last [] (subst (λ (l : List Turn). AllDid t.shape before.cpu rest l) ends.turns_are did.1) in
      let none : at.back ≡ [] = did_none t.shape before.cpu at.back [] refl at.back_did in (
        e,
        first,
        at.front,
        at.step,
        are ∙ ap (λ (l : List Turned). first ∷ l) (at.steps_are ∙ ap (λ (l : List Turned). at.front ++ at.step ∷ l) none),
        did.0,
        subst (λ (lies : Content). IsHead e (free_in lies)) (sym at.did.leaves) (ends.heads before.cpu (lay t.shape at.step) at.did.allowed),
      )

  freed_by_trace : (gone : Option ℕ) (bucket : TurnAt) (freeing : List TurnAt) → Done ≡ reply_of_gone gone → bucket.turn ≡ on_bucket_of t.shape key (Delete key gone) → FreesOne t.shape gone freeing
      → AllDid t.shape before.cpu steps (turns_of (bucket ∷ freeing)) → FreesIt
  freed_by_trace None bucket freeing is bucket_is frees did = absurd cc
  freed_by_trace (Some e) bucket freeing is bucket_is frees did =
      frees_it e (turns_of freeing) steps refl (ends_freeing t.shape e freeing frees) (subst (λ (x : Turn). AllDid t.shape before.cpu steps (x ∷ turns_of freeing)) bucket_is did)

pub deleted_is_freed : DeletedIsFreed
deleted_is_freed t before after key evicting called =
    let trace : IsEvictingDelete t.shape key (map (turn_at t.shape) called.told) Done = first_chosen (is_lru t.shape.kind) _ _ evicting called.trace in
    freed_by_trace t before key called.steps trace.gone trace.at_bucket trace.freeing trace.reply_is trace.bucket_is trace.frees
    (subst (λ (l : List TurnAt). AllDid t.shape before.cpu called.steps (turns_of l)) trace.turns_are (called_did t before after (verbs.Delete key) Done called))

-- what came before a turn is told as it was
abbrev befores : List Turned → List (List Entry)
befores steps = map (λ (x : Turned). x.earlier) steps

abbrev befores_at : List TurnAt → List (List Entry)
befores_at turns = map (λ (at : TurnAt). at.earlier) turns

told_befores : (shape : Shape) (lost : List ℕ) (steps told : List Turned) → AreTold shape lost steps told → befores_at (map (turn_at shape) told) ≡ befores steps
told_befores shape lost [] [] are = refl
told_befores shape lost [] (x ∷ xs) are = absurd are
told_befores shape lost (s ∷ ss) [] are = absurd are
told_befores shape lost (s ∷ ss) (x ∷ xs) are = both (one are.0) (told_befores shape lost ss xs are.1)
  where
    one : IsTold shape lost s x → x.earlier ≡ s.earlier
    one is = ⊎_elim (λ same. ap (λ (y : Turned). y.earlier) same) (λ other. other.1.earlier) is.0

    both : x.earlier ≡ s.earlier → befores_at (map (turn_at shape) xs) ≡ befores ss → x.earlier ∷ befores_at (map (turn_at shape) xs) ≡ s.earlier ∷ befores ss
    both here rest = cc

module _ (e : ℕ) (second third : List Entry) (turns : List TurnAt) where
  too_few : (turn : Turn) → turns_of turns ≡ turn ∷ [] → befores_at turns ≡ second ∷ third ∷ [] → ⊥
  too_few turn one two =
      let few : length turns ≡ 1 = sym (length-map turns (λ (at : TurnAt). at.turn)) ∙ ap length one in
      let more : length turns ≡ 2 = sym (length-map turns (λ (at : TurnAt). at.earlier)) ∙ ap length two in
      absurd (omega (arith, few, more))

  -- a freeing of two turns is one of an element that was flushed
  was_flushed : FreesPending e turns ⊎ (FreesFlushed e turns ⊎ (turns_of turns ≡ freed_globally e ∷ [])) → befores_at turns ≡ second ∷ third ∷ []
      → (on : ℕ) × (turns_of turns ≡ on_lock (Local on) (parts.Local (local.Push e false)) ∷ freed_globally e ∷ []) × (ends_flushed e false second ≡ true)
  was_flushed frees are =
      ⊎_elim
      (λ pending. absurd (too_few (on_lock (Local pending.on) (parts.Local (local.Push e true))) pending.turns_are are))
      (λ other. ⊎_elim
      (λ flushed. (
        flushed.on,
        ap turns_of flushed.turns_are ∙ ap (λ (x : Turn). x ∷ flushed.second.turn ∷ []) flushed.first_is ∙ ap (λ (x : Turn). on_lock (Local flushed.on) (parts.Local (local.Push e false)) ∷ x ∷ []) flushed.second_is,
        subst (λ (l : List Entry). ends_flushed e false l ≡ true) (same flushed.first flushed.second (sym (ap befores_at flushed.turns_are) ∙ are)) flushed.was_flushed,
      ))
      (λ alone. absurd (too_few (freed_globally e) alone are)) other)
      frees
    where
      same : (first last : TurnAt) → befores_at (first ∷ last ∷ []) ≡ second ∷ third ∷ [] → first.earlier ≡ second
      same first last is = cc

module _ (t : TableView) (before : PassView) (key : List ℕ) (shared : t.shape.common ≡ true) (first second third : Turned) where
  abbrev WasFlushed : Type 0
  WasFlushed =
      (e : ℕ) × (on : ℕ) × Did t.shape before.cpu first (on_bucket_of t.shape key (Delete key (Some e)))
      × Did t.shape before.cpu second (on_lock (Local on) (parts.Local (local.Push e false))) × (ends_flushed e false second.earlier ≡ true)

  moved_on : (gone : Option ℕ) (bucket : TurnAt) (freeing : List TurnAt) → Done ≡ reply_of_gone gone → bucket.turn ≡ on_bucket_of t.shape key (Delete key gone) → FreesOne t.shape gone freeing
      → AllDid t.shape before.cpu (first ∷ second ∷ third ∷ []) (turns_of (bucket ∷ freeing)) → befores_at (bucket ∷ freeing) ≡ first.earlier ∷ second.earlier ∷ third.earlier ∷ [] → WasFlushed
  moved_on None bucket freeing is bucket_is frees did are = absurd cc
  moved_on (Some e) bucket freeing is bucket_is frees did are =
      let flushed = was_flushed e second.earlier third.earlier freeing (first_chosen t.shape.common _ _ shared frees) (tails are) in
      let rest : AllDid t.shape before.cpu (second ∷ third ∷ []) (on_lock (Local flushed.0) (parts.Local (local.Push e false)) ∷ freed_globally e ∷ []) =
      subst (λ (l : List Turn). AllDid t.shape before.cpu (second ∷ third ∷ []) l) flushed.1 did.1 in (
        e,
        flushed.0,
        subst (λ (x : Turn). Did t.shape before.cpu first x) bucket_is did.0,
        rest.0,
        flushed.2,
      )
    where
      tails : befores_at (bucket ∷ freeing) ≡ first.earlier ∷ second.earlier ∷ third.earlier ∷ [] → befores_at freeing ≡ second.earlier ∷ third.earlier ∷ []
      tails is = cc

pub moved_on_was_flushed : MovedOnWasFlushed
moved_on_was_flushed t before after key evicting shared called first second third are =
    let trace : IsEvictingDelete t.shape key (map (turn_at t.shape) called.told) Done = first_chosen (is_lru t.shape.kind) _ _ evicting called.trace in
    moved_on t before key shared first second third trace.gone trace.at_bucket trace.freeing trace.reply_is trace.bucket_is trace.frees
    (subst (λ (l : List Turned). AllDid t.shape before.cpu l (turns_of (trace.at_bucket ∷ trace.freeing))) are
    (subst (λ (l : List TurnAt). AllDid t.shape before.cpu called.steps (turns_of l)) trace.turns_are (called_did t before after (verbs.Delete key) Done called)))
    (sym (ap befores_at trace.turns_are) ∙ told_befores t.shape called.lost called.steps called.told called.told_are ∙ ap befores are)

-- Updates that find no element

module _ (shape : Shape) (cpu : ℕ) (side : Side) (flags : ℕ) (key value : List ℕ) where
  abbrev Lacks : List TurnAt → Type 0
  Lacks turns = Acquires shape cpu (hash key shape.seed) None turns

  lacked_offer : (got : Option ℕ) (taking rest : List TurnAt) → Acquires shape cpu (hash key shape.seed) got taking
      → MatchOption got ((rest ≡ []) × (Refused Enomem ≡ Refused Enomem)) (λ e. OffersOne shape side flags key value e rest (Refused Enomem)) → Lacks (taking ++ rest)
  lacked_offer None taking rest takes offers = subst Lacks (sym (ap (λ (l : List TurnAt). taking ++ l) offers.0 ∙ append-nil taking)) takes
  lacked_offer (Some e) taking rest takes offers = absurd (put_finds_element shape cpu side flags key value offers.put offers.reply_is)

  lacked : (turns : List TurnAt) → IsEvictingUpdate shape cpu side flags key value turns (Refused Enomem) → Lacks turns
  lacked turns trace =
      ⊎_elim (λ unknown. let other : Refused Enomem ≡ Refused Einval = unknown.2 in absurd cc)
      (λ known. by_kind (is_percpu shape.kind && (flags == 2)) known.1
      (λ _ alone. absurd (put_finds_element shape cpu side flags key value alone.put alone.reply_is))
      (λ _ offer. subst Lacks (sym offer.turns_are) (lacked_offer offer.got offer.taking offer.rest offer.takes offer.offers)))
      trace

-- a round of thefts
abbrev vain : List Turn → List ℕ
vain turns = flat_map (λ (turn : Turn). cpus_tried_in turn.lock turn.part) turns

module _ (shape : Shape) where
  evict_vain : (probe : Try) (found_hash : Option ℕ) (turn : Turn) → option_map (evicts shape probe) found_hash ≡ Some turn → cpus_tried_in turn.lock turn.part ≡ []
  evict_vain probe None turn is = absurd cc
  evict_vain probe (Some h) turn is = subst (λ (x : Turn). cpus_tried_in x.lock x.part ≡ []) (same is) refl
    where
      same : option_map (evicts shape probe) (Some h) ≡ Some turn → evicts shape probe h ≡ turn
      same e = cc

  chase_vain : (rows : List Row) (probes : List Try) (turns : List Turn) → Chase shape rows probes turns → vain turns ≡ []
  chase_vain rows [] [] chase = refl
  chase_vain rows [] (turn ∷ turns) chase = absurd chase
  chase_vain rows (probe ∷ probes) [] chase = absurd chase
  chase_vain rows (probe ∷ probes) (turn ∷ turns) chase =
      ap (λ (l : List ℕ). l ++ vain turns) (evict_vain probe (stored_hash probe.element rows) turn chase.0) ∙ chase_vain rows probes turns chase.1

  vain_joined : (xs ys : List TurnAt) → vain (turns_of (xs ++ ys)) ≡ vain (turns_of xs) ++ vain (turns_of ys)
  vain_joined xs ys = ap vain (map-append (λ (at : TurnAt). at.turn) xs ys) ∙ flat_map-append (λ (turn : Turn). cpus_tried_in turn.lock turn.part) (turns_of xs) (turns_of ys)

  chased_vain : (lock : DomainId) (part : Part) (turns : List TurnAt) → IsChased shape lock part turns → vain (turns_of turns) ≡ cpus_tried_in lock part
  chased_vain lock part turns chased =
      ap (λ (l : List TurnAt). vain (turns_of l)) chased.turns_are ∙ vain_joined chased.probing (chased.last ∷ [])
      ∙ ap (λ (l : List ℕ). l ++ vain (turns_of (chased.last ∷ []))) (chase_vain (rows_brought part ++ listed_rows (found shape chased.last)) (probes_of part) (turns_of chased.probing) chased.chase)
      ∙ append-nil (cpus_tried_in chased.last.turn.lock chased.last.turn.part) ∙ ap (λ (x : Turn). cpus_tried_in x.lock x.part) chased.last_is

  one_vain : (from : ℕ) (stolen : Stolen) (first : List Look) (second : List Try) → stolen_element stolen ≡ None → cpus_tried_in (Local from) (parts.Local (local.Steal stolen first second)) ≡ from ∷ []
  one_vain from (Free e) first second none = absurd cc
  one_vain from (Pending e) first second none = absurd cc
  one_vain from Nothing first second none = refl

  steals_vain : (cpu hash_of : ℕ) (cpus : List ℕ) (turns : List TurnAt) → Steals shape cpu hash_of cpus None turns → vain (turns_of turns) ≡ cpus
  steals_vain cpu hash_of [] turns steals = ap (λ (l : List TurnAt). vain (turns_of l)) steals.0
  steals_vain cpu hash_of (from ∷ others) turns (tried, rest, stolen, first, second, are, chased, goes) =
      ap (λ (l : List TurnAt). vain (turns_of l)) are ∙ vain_joined tried rest
      ∙ on (λ more. steals_vain cpu hash_of others rest more) (stolen_element stolen) refl goes
    where
      on : (Steals shape cpu hash_of others None rest → vain (turns_of rest) ≡ others) → (taken : Option ℕ) → stolen_element stolen ≡ taken
          → MatchOption taken (Steals shape cpu hash_of others None rest) (λ e. (None ≡ Some e) × (turns_of rest ≡ brings_home shape cpu hash_of from e ∷ [])) → vain (turns_of tried) ++ vain (turns_of rest) ≡ from ∷ others
      on next None is more =
          ap (λ (l : List ℕ). l ++ vain (turns_of rest)) (chased_vain (Local from) (parts.Local (local.Steal stolen first second)) tried chased ∙ one_vain from stolen first second is)
          ∙ ap (λ (l : List ℕ). from ∷ l) (next more)
      on next (Some e) is home = absurd (none-some e home.0)

-- a list from whose head nothing can be taken is empty
none_at_head : (xs : List ℕ) → None ≡ slice_get xs 0 → xs ≡ []
none_at_head [] none = refl
none_at_head (x ∷ xs) none = absurd (none-some x none)

-- a list from whose tail nothing can be taken is empty
last_of_none : (xs : List ℕ) → None ≡ last_of xs → xs ≡ []
last_of_none [] none = refl
last_of_none (x ∷ xs) none =
    let empty : reverse (x ∷ xs) ≡ [] = none_at_head (reverse (x ∷ xs)) none in
    let zero : length (reverse (x ∷ xs)) ≡ 0 = ap length empty in
    absurd (omega (arith, zero, length-reverse (x ∷ xs)))

module _ (t : TableView) (before after : PassView) (side : Side) (flags : ℕ) (key value : List ℕ) (called : Called t before after (verbs.Update side flags key value) (Refused Enomem)) where
  abbrev Round : Type 0
  Round =
      (front : List Turned) × (global_turn : Turned) × (local_turn : Turned) × (thefts : List Turned) × (lists : LocalLists)
      × (called.told ≡ front ++ global_turn ∷ local_turn ∷ thefts)
      × GainsNothing global_turn.entry.part
      × (lock_named t.shape local_turn.lock ≡ Local before.cpu) × (lay t.shape local_turn ≡ in_locals lists)
      × (flat_map (λ (told : Turned). cpus_tried_in (lock_named t.shape told.lock) told.entry.part) thefts ≡ ring lists.steal t.shape.cpus)

  gains_none : (cpu hash_of : ℕ) (visits : List Visit) (gained : List ℕ) (lists : LocalLists) (lies : Content) → lies ≡ in_locals lists → Allows t.shape cpu (parts.Local (local.Refill hash_of visits gained None)) lies → gained ≡ []
  gains_none cpu hash_of visits gained lists lies is allowed = last_of_none gained (subst (λ (l : Content). Allows t.shape cpu (parts.Local (local.Refill hash_of visits gained None)) l) is allowed).2

  told_tried : (told : List Turned) → flat_map (λ (x : Turned). cpus_tried_in (lock_named t.shape x.lock) x.entry.part) told ≡ vain (turns_of (map (turn_at t.shape) told))
  told_tried [] = refl
  told_tried (x ∷ told) = ap (λ (l : List ℕ). cpus_tried_in (lock_named t.shape x.lock) x.entry.part ++ l) (told_tried told)

  module _ (hash_of : ℕ) (lists : LocalLists) (refilling stealing : List TurnAt) (refills : Refills t.shape before.cpu hash_of lists None refilling) where
    -- the turn of the global lists, that of the local lists, and the thefts behind them, as they are told
    pub record ToldRefill : Type 0 where
      pub front : List Turned
      pub global_turn : Turned
      pub local_turn : Turned
      pub thefts : List Turned
      pub are : called.told ≡ front ++ global_turn ∷ local_turn ∷ thefts
      pub global_is : turn_at t.shape global_turn ≡ refills.chased.last
      pub local_is : turn_at t.shape local_turn ≡ refills.last
      pub thefts_are : map (turn_at t.shape) thefts ≡ stealing

    told_refill : map (turn_at t.shape) called.told ≡ refilling ++ stealing → ToldRefill
    told_refill are = on (split_mapped (turn_at t.shape) called.told refills.chased.probing refills.chased.last (refills.last ∷ stealing) (are ∙ in_three))
      where
        in_three : refilling ++ stealing ≡ refills.chased.probing ++ refills.chased.last ∷ refills.last ∷ stealing
        in_three =
            ap (λ (l : List TurnAt). l ++ stealing) (refills.turns_are ∙ ap (λ (l : List TurnAt). l ++ refills.last ∷ []) refills.chased.turns_are)
            ∙ append_assoc (refills.chased.probing ++ refills.chased.last ∷ []) (refills.last ∷ []) stealing ∙ append_assoc refills.chased.probing (refills.chased.last ∷ []) (refills.last ∷ stealing)

        on : Split (turn_at t.shape) called.told refills.chased.probing refills.chased.last (refills.last ∷ stealing) → ToldRefill
        on split =
            let next = split_first (turn_at t.shape) split.back refills.last stealing split.back_is in
            record {
              front = split.front;
              global_turn = split.here;
              local_turn = next.0;
              thefts = next.1;
              are = split.are ∙ ap (λ (l : List Turned). split.front ++ split.here ∷ l) next.2;
              global_is = split.here_is;
              local_is = next.3;
              thefts_are = next.4;
            }

    round : map (turn_at t.shape) called.told ≡ refilling ++ stealing → vain (turns_of stealing) ≡ ring lists.steal t.shape.cpus → Round
    round are tried = on (told_refill are)
      where
        on : ToldRefill → Round
        on told =
            let free : List ℕ = refills.free ++ freed_by refills.shrink in
            let visits : List Visit = map flush_visit refills.flushed in
            let local_part : told.local_turn.entry.part ≡ parts.Local (local.Refill hash_of visits free None) = ap (λ (x : TurnAt). x.turn.part) told.local_is ∙ ap (λ (x : Turn). x.part) refills.last_is in
            let global_part : told.global_turn.entry.part ≡ parts.Global (global.Turn refills.flushed refills.active refills.inactive refills.free refills.shrink) = ap (λ (x : TurnAt). x.turn.part) told.global_is ∙ ap (λ (x : Turn). x.part) refills.chased.last_is in
            let lies : lay t.shape told.local_turn ≡ in_locals lists = ap (found t.shape) told.local_is ∙ refills.found_there in
            let allowed : Allows t.shape told.local_turn.entry.cpu (parts.Local (local.Refill hash_of visits free None)) (lay t.shape told.local_turn) =
            subst (λ (part : Part). Allows t.shape told.local_turn.entry.cpu part (lay t.shape told.local_turn)) local_part
            (called_may_be t before after (verbs.Update side flags key value) (Refused Enomem) called (told.front ++ told.global_turn ∷ []) told.thefts told.local_turn
            (told.are ∙ sym (append_assoc told.front (told.global_turn ∷ []) (told.local_turn ∷ told.thefts)))) in (
              told.front,
              told.global_turn,
              told.local_turn,
              told.thefts,
              lists,
              told.are,
              subst GainsNothing (sym global_part) (gains_none told.local_turn.entry.cpu hash_of visits free lists (lay t.shape told.local_turn) lies allowed),
              ap (λ (x : TurnAt). x.turn.lock) told.local_is ∙ ap (λ (x : Turn). x.lock) refills.last_is,
              lies,
              told_tried told.thefts ∙ ap (λ (l : List TurnAt). vain (turns_of l)) told.thefts_are ∙ tried,
            )

  refilled_round : (hash_of : ℕ) (lists : LocalLists) (gave : Option ℕ) (refilling stealing : List TurnAt) → Refills t.shape before.cpu hash_of lists gave refilling → map (turn_at t.shape) called.told ≡ refilling ++ stealing
      → MatchOption gave (Steals t.shape before.cpu hash_of (ring lists.steal t.shape.cpus) None stealing) (λ e. (stealing ≡ []) × (None ≡ Some e)) → Round
  refilled_round hash_of lists None refilling stealing refills are more = round hash_of lists refilling stealing refills are (steals_vain t.shape before.cpu hash_of (ring lists.steal t.shape.cpus) stealing more)
  refilled_round hash_of lists (Some e) refilling stealing refills are gave = absurd (none-some e gave.1)

pub none_after_a_round : NoneAfterARound
none_after_a_round t before after side flags key value evicting shared called =
    let turns : List TurnAt = map (turn_at t.shape) called.told in
    let takes : Acquires t.shape before.cpu (hash key t.shape.seed) None turns = lacked t.shape before.cpu side flags key value turns (first_chosen (is_lru t.shape.kind) _ _ evicting called.trace) in
    ⊎_elim (λ free. absurd free)
    (λ refill. refilled_round t before after side flags key value called (hash key t.shape.seed) refill.lists refill.gave refill.refilling refill.stealing refill.refills refill.turns_are refill.steals)
    (first_chosen t.shape.common (TakesFree before.cpu (hash key t.shape.seed) None turns ⊎ TakesByRefill t.shape before.cpu (hash key t.shape.seed) None turns) (TakesOwn t.shape before.cpu (hash key t.shape.seed) None turns) shared takes)

-- a shrink
nothing_reversed : (xs ys : List ℕ) → reverse xs ++ ys ≡ [] → xs ≡ []
nothing_reversed [] ys none = refl
nothing_reversed (x ∷ xs) ys none =
    let zero : length (reverse (x ∷ xs) ++ ys) ≡ 0 = ap length none in
    absurd (omega (arith, zero, length-append (reverse (x ∷ xs)) ys, length-reverse (x ∷ xs)))

own_lacks : (shrink : Option ShrinkNote) (set : ListSet) → AllowsOwnShrink shrink set → None ≡ slice_get (shrunk_into_free shrink set).free 0 → (note : ShrinkNote) × (shrink ≡ Some note) × (freed note.looks note.forced ≡ [])
own_lacks None set some none = absurd (some (none_at_head set.free none))
own_lacks (Some note) set allowed none = (note, refl, nothing_reversed (freed note.looks note.forced) set.free (none_at_head (reverse (freed note.looks note.forced) ++ set.free) none))

module _ (shape : Shape) (cpu hash_of : ℕ) (active inactive : List Visit) (shrink : Option ShrinkNote) where
  lacks_there : (lies : Content) → Allows shape cpu (parts.Own (own.Turn hash_of active inactive shrink None)) lies → (note : ShrinkNote) × (shrink ≡ Some note) × (freed note.looks note.forced ≡ [])
  lacks_there (in_bucket bodies) allowed = absurd allowed
  lacks_there (on_freelist stack) allowed = absurd allowed
  lacks_there (in_locals lists) allowed = absurd allowed
  lacks_there (in_global set) allowed = absurd allowed
  lacks_there (in_own set) allowed = own_lacks shrink (rotated_set own_scans active inactive set) allowed.1 allowed.2

module _ (t : TableView) (before : PassView) (steps : List Turned) (turns : List TurnAt) (hash_of : ℕ) where
  abbrev Shrunk : Type 0
  Shrunk =
      (others : List Turned) × (last : Turned) × (hashed : ℕ) × (active : List Visit) × (inactive : List Visit) × (note : ShrinkNote)
      × (steps ≡ others ++ last ∷ []) × (freed note.looks note.forced ≡ [])
      × Did t.shape before.cpu last (on_lock (CpuLru before.cpu) (parts.Own (own.Turn hashed active inactive (Some note) None)))

  own_turn : ℕ → List Visit → List Visit → Option ShrinkNote → Turn
  own_turn hashed active inactive shrink = on_lock (CpuLru before.cpu) (parts.Own (own.Turn hashed active inactive shrink None))

  ended : (active inactive : List Visit) (shrink : Option ShrinkNote) (probing : List Turn) → AllDid t.shape before.cpu steps (probing ++ own_turn hash_of active inactive shrink ∷ []) → Shrunk
  unfolding own_turn
  ended active inactive shrink probing did = on (did_at t.shape before.cpu steps probing (own_turn hash_of active inactive shrink) [] did)
    where
      on : DidAt t.shape before.cpu steps probing (on_lock (CpuLru before.cpu) (parts.Own (own.Turn hash_of active inactive shrink None))) [] → Shrunk
      on at = with (did_none t.shape before.cpu at.back [] refl at.back_did) (lacks_there t.shape before.cpu hash_of active inactive shrink (lay t.shape at.step) at.did.allowed)
        where
          with : at.back ≡ [] → (note : ShrinkNote) × (shrink ≡ Some note) × (freed note.looks note.forced ≡ []) → Shrunk
          with none (note, is, nothing) = (
            at.front,
            at.step,
            hash_of,
            active,
            inactive,
            note,
            at.steps_are ∙ ap (λ (l : List Turned). at.front ++ at.step ∷ l) none,
            nothing,
            subst (λ (s : Option ShrinkNote). Did t.shape before.cpu at.step (on_lock (CpuLru before.cpu) (parts.Own (own.Turn hash_of active inactive s None)))) is at.did,
          )

  shrunk : TakesOwn t.shape before.cpu hash_of None turns → AllDid t.shape before.cpu steps (turns_of turns) → Shrunk
  unfolding own_turn
  shrunk takes did =
      ended takes.active takes.inactive takes.shrink (turns_of takes.chased.probing)
      (subst (λ (l : List Turn). AllDid t.shape before.cpu steps l)
      (ap turns_of takes.chased.turns_are ∙ map-append (λ (at : TurnAt). at.turn) takes.chased.probing (takes.chased.last ∷ []) ∙ ap (λ (x : Turn). turns_of takes.chased.probing ++ x ∷ []) takes.chased.last_is)
      did)

pub none_after_a_shrink : NoneAfterAShrink
none_after_a_shrink t before after side flags key value evicting of_own called =
    let turns : List TurnAt = map (turn_at t.shape) called.told in
    let hash_of : ℕ = hash key t.shape.seed in
    let takes : Acquires t.shape before.cpu hash_of None turns = lacked t.shape before.cpu side flags key value turns (first_chosen (is_lru t.shape.kind) _ _ evicting called.trace) in
    shrunk t before called.steps turns hash_of (second_chosen t.shape.common (TakesFree before.cpu hash_of None turns ⊎ TakesByRefill t.shape before.cpu hash_of None turns) (TakesOwn t.shape before.cpu hash_of None turns) of_own takes)
    (called_did t before after (verbs.Update side flags key value) (Refused Enomem) called)
