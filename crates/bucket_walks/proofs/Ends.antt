-- The end of a call of next key or of a batch lookup: its turns are a trace of it, and nothing else has changed.
use Rattle.std.specs.Prelude.{◌==◌, nat_lt, min, unwrap_or, MatchBool, Ok, Err}
use Rattle.std.proofs.lemmas.Bool.{lt-ltb, le-ltb, ne_eqb}
use Rattle.std.proofs.Common.{◌≡◌, ℕ, cond, Bool, true, false, List, [], ◌∷◌, map, sym, refl, ap, ◌∙◌, subst, Option, Some, None}
use Rattle.map_types.specs.declared.attr.Shape.{Shape}
use Rattle.map_types.specs.declared.call.Verb.{Verb}
use Rattle.map_types.specs.declared.call.Verb.TheVariants as verbs
use Rattle.map_types.specs.declared.kind.DomainId.TheVariants.{Bucket}
use Rattle.map_types.specs.declared.refusal.Errno.TheVariants.{Enoent, Einval}
use Rattle.map_types.specs.declared.reply.Reply.{Reply}
use Rattle.map_types.specs.declared.reply.Reply.TheVariants.{Done, Refused, Batch}
use Rattle.map_types.specs.Kind.{is_lru}
use Rattle.place_words.specs.declared.bucket_part.BucketPart.TheVariants.{Next}
use Rattle.place_words.specs.declared.bucket_part.NextFound.{NextFound}
use Rattle.place_words.specs.declared.history.Part.TheVariants as parts
use Rattle.place_words.specs.PlainTraces.{spare_after}
use Rattle.place_words.specs.Traces.{IsTrace}
use Rattle.place_words.specs.Turns.{Turn, TurnAt, bucket_of_key, on_bucket_of, on_lock, turns_of}
use Rattle.place_words.specs.Walks.{IsNextTrace, IsReadTrace, GoesOn, Walks, buckets_from}
use Rattle.place_table.specs.declared.view.Turned.{Turned}
use Rattle.place_table.specs.Calls.{CanCall, Called, CalledWhole, spare_element, element_of}
use Rattle.place_table.specs.Known.{Learns, turn_of, turn_at}
use Rattle.place_table.specs.Passes.{PassView, TableView, spare_of}
use Rattle.place_table.proofs.TakeToGive.{stays_idle}
use Rattle.place_table.proofs.Worlds.{by_bool}
use Rattle.bucket_walks.specs.Looks.{CanWalk, Looked, LooksInto, WalksOn}
use Rattle.bucket_walks.specs.declared.read.BatchOut.{BatchOut}
use Rattle.bucket_walks.specs.declared.read.BatchOut.TheVariants as outs
use Rattle.bucket_walks.specs.declared.read.BatchRefusal.{BatchRefusal}
use Rattle.bucket_walks.specs.declared.read.BatchRefusal.TheVariants as refusals
use Rattle.bucket_walks.specs.declared.read.Planned.{Planned}
use Rattle.bucket_walks.specs.Plans.{Plans}
use Rattle.bucket_walks.specs.BatchReads.{Answers, IsToRead, ReadsOn, stop_of}
use Rattle.bucket_walks.proofs.Told.{turns_alone, looked_nowhere, looks_no_bits, looks_keep_spare, looks_move_none, looked_on}

-- a call may go over the buckets
pub can_walk : {t : TableView} {p : PassView} → CanCall t p → CanWalk t p
can_walk can = record { of_table = can.of_table; begun = can.begun; no_lock = can.in_no_call.holds_nothing }

-- a call whose turns are a trace of it
abbrev pub called_looked : {t : TableView} {p s : PassView} {steps told : List Turned} {lost : List ℕ} (verb : Verb) (reply : Reply) → CanCall t p → Looked t p s steps told lost → IsTrace t.shape p.cpu (spare_element p) verb (map (turn_at t.shape) told) reply
    → Called t p s verb reply
called_looked {t} {p} {s} {steps} {told} {lost} verb reply can looked trace =
    let goes = looked.went.made.goes in
    record {
      steps = steps;
      lost = lost;
      told = told;
      told_are = looked.told_are;
      leaves = record {
        made = looked.went.made;
        in_no_call = stays_idle p s steps lost can.in_no_call looked.went;
        by_call = looked.by_call;
        other_spares = λ other _. ap (spare_of other) looked.went.spares;
        bits = λ _. looked.bits;
        learns = subst (Learns t.shape p.view s.view steps) (sym (looks_no_bits t.shape told looked.are_looks)) looked.learns;
      };
      trace = trace;
      none_moved = λ _ _ _. looks_move_none told looked.are_looks;
      spare = (λ i. element_of (spare_of (goes.cpu i) (looked.went.spares i)))
          ∙ by_bool (is_lru t.shape.kind) (λ b. spare_element p ≡ cond b (spare_element p) (spare_after (spare_element p) (turns_of (map (turn_at t.shape) told)))) (λ _. refl) (λ _. sym (looks_keep_spare t.shape (spare_element p) told looked.are_looks));
    }

called_by : {t : TableView} {p s : PassView} {steps told : List Turned} {lost : List ℕ} (key : Option (List ℕ)) (reply : Reply) → CanCall t p → Looked t p s steps told lost → IsNextTrace t.shape key (map (turn_of t.shape) told) reply
    → Called t p s (verbs.Next key) reply
called_by {t} {told = told} key reply can looked trace =
    called_looked (verbs.Next key) reply can looked (subst (λ (turns : List Turn). IsNextTrace t.shape key turns reply) (sym (turns_alone t.shape told)) trace)

-- the first key of the map
pub called_first : {t : TableView} {p s : PassView} (reply : Reply) → CanCall t p → WalksOn t 0 p s reply → Called t p s (verbs.Next None) reply
called_first reply can walk = called_by None reply can walk.looked walk.trace

-- The key after another one, which is looked at first in its bucket

-- by the shape that the table tells
pub bucket_here : {shape told : Shape} {bucket : ℕ} (key : List ℕ) → told ≡ shape → bucket ≡ bucket_of_key told key → bucket ≡ bucket_of_key shape key
bucket_here key same is = is ∙ ap (λ (s : Shape). bucket_of_key s key) same

module _ {t : TableView} {p q : PassView} {bucket : ℕ} (key : List ℕ) (found : NextFound) (can : CanCall t p) (bucket_is : bucket ≡ bucket_of_key t.shape key) (into : LooksInto t bucket p q (Next key found)) where
  on_bucket : turn_of t.shape into.told ≡ on_bucket_of t.shape key (Next key found)
  on_bucket = into.turn ∙ (λ i. on_lock (Bucket (bucket_is i)) (parts.Bucket (Next key found)))

  pub called_here : (reply : Reply) → GoesOn t.shape key found [] reply → Called t p q (verbs.Next (Some key)) reply
  called_here reply goes_on = called_by (Some key) reply can into.looked (record { found = found; rest = []; turns_are = ap (λ (turn : Turn). turn ∷ []) on_bucket; goes_on = goes_on })

  pub called_on : {from : ℕ} {s : PassView} (reply : Reply) (walk : WalksOn t from q s reply) → GoesOn t.shape key found (map (turn_of t.shape) walk.told) reply → Called t p s (verbs.Next (Some key)) reply
  called_on reply walk goes_on =
      called_by (Some key) reply can (looked_on into.looked walk.looked)
      (record { found = found; rest = map (turn_of t.shape) walk.told; turns_are = ap (λ (turn : Turn). turn ∷ map (turn_of t.shape) walk.told) on_bucket; goes_on = goes_on })

-- Batch reads: which of their traces the tests choose
module _ (shape : Shape) (cpu : ℕ) (remove : Bool) (count : ℕ) (start : Option ℕ) (flags : ℕ) (turns : List TurnAt) (reply : Reply) where
  abbrev read_whole : Type 0
  read_whole = Walks shape cpu remove (min count shape.elements) (buckets_from shape (unwrap_or start 0)) [] turns reply

  abbrev replies : Reply → Type 0
  replies answer = (turns ≡ []) × (reply ≡ answer)

  -- by the tests of the flags, of the count and of the start
  abbrev chosen : Bool → Bool → Bool → Type 0
  chosen clear idle within = MatchBool clear (MatchBool idle (replies Done) (MatchBool within read_whole (replies (Refused Enoent)))) (replies (Refused Einval))

  by_tests : (clear idle within : Bool) → flags == 0 ≡ clear → count == 0 ≡ idle → nat_lt (unwrap_or start 0) shape.buckets ≡ within → chosen clear idle within → IsReadTrace shape cpu remove count start flags turns reply
  by_tests clear idle within clear_is idle_is within_is trace = subst (λ (z : Bool × Bool × Bool). chosen z.0 z.1 z.2) (λ i. (sym clear_is i, sym idle_is i, sym within_is i)) trace

is_zero : (n : ℕ) → n ≡ 0 → n == 0 ≡ true
is_zero n e = ap (λ (m : ℕ). m == 0) e

-- buckets were gone over
pub walks_read : (shape : Shape) (cpu : ℕ) (remove : Bool) (count : ℕ) (start : Option ℕ) (flags : ℕ) (turns : List TurnAt) (reply : Reply) → IsToRead shape count start flags
    → Walks shape cpu remove (min count shape.elements) (buckets_from shape (unwrap_or start 0)) [] turns reply → IsReadTrace shape cpu remove count start flags turns reply
walks_read shape cpu remove count start flags turns reply to_read trace =
    by_tests shape cpu remove count start flags turns reply true false true (is_zero flags to_read.0) (ne_eqb count 0 to_read.1) (lt-ltb (unwrap_or start 0) shape.buckets to_read.2) trace

module _ {t : TableView} {p : PassView} (remove : Bool) (count : ℕ) (start : Option ℕ) (flags : ℕ) (can : CanCall t p) where
  -- no lock was taken
  called_none : (reply : Reply) → IsReadTrace t.shape p.cpu remove count start flags [] reply → CalledWhole t p p (verbs.BatchRead remove count start flags) reply
  called_none reply trace = (called_looked (verbs.BatchRead remove count start flags) reply can (looked_nowhere t p) trace, refl)

  -- a batch read that makes no walk
  pub none_to_read : flags ≡ 0 → count ≡ 0 → Answers t p p (verbs.BatchRead remove count start flags) (Ok outs.Idle)
  none_to_read clear none = (
    refl,
    called_none Done (by_tests t.shape p.cpu remove count start flags [] Done true true (nat_lt (unwrap_or start 0) t.shape.buckets) (is_zero flags clear) (is_zero count none) refl (refl, refl)),
  )

  pub refused_read : (shape : Shape) (refusal : BatchRefusal) → shape ≡ t.shape → Plans shape count start flags (Err refusal) → Answers t p p (verbs.BatchRead remove count start flags) (Err refusal)
  refused_read shape refusals.Einval shape_is set = (
    refl,
    called_none (Refused Einval) (by_tests t.shape p.cpu remove count start flags [] (Refused Einval) false (count == 0) (nat_lt (unwrap_or start 0) t.shape.buckets) (ne_eqb flags 0 set) refl refl (refl, refl)),
  )
  refused_read shape refusals.Past shape_is (clear, some, past) = (
    refl,
    called_none (Refused Enoent)
        (by_tests t.shape p.cpu remove count start flags [] (Refused Enoent) true false false (is_zero flags clear) (ne_eqb count 0 some)
        (ap (λ (s : Shape). nat_lt (unwrap_or start 0) s.buckets) (sym shape_is) ∙ le-ltb (unwrap_or start 0) shape.buckets past) (refl, refl)),
  )
  refused_read shape refusals.NoMemory shape_is to_read = refl

-- Batch lookups: buckets were read
module _ {t : TableView} {p s : PassView} (count : ℕ) (start : Option ℕ) (flags : ℕ) (can : CanCall t p) where
  pub called_read : {pairs : List (List ℕ × List ℕ)} {next limit : ℕ} (shape : Shape) (planned : Planned) (out : BatchOut) → shape ≡ t.shape → Plans shape count start flags (Ok (Some planned)) → limit ≡ planned.out.limit → ReadsOn t planned.from p s limit pairs next → out ≡ outs.Read (stop_of shape next pairs) pairs next
      → Answers t p s (verbs.BatchRead false count start flags) (Ok out)
  called_read {pairs} {next} {limit} shape planned out shape_is plans limit_is read out_is =
      let reply : Reply = Batch (stop_of t.shape next pairs) pairs next in
      let to_read : IsToRead t.shape count start flags = subst (λ (x : Shape). IsToRead x count start flags) shape_is plans.0 in
      let read_here : ReadsOn t (unwrap_or start 0) p s (min count t.shape.elements) pairs next = subst (λ (z : ℕ × ℕ). ReadsOn t z.0 p s z.1 pairs next) (λ i. (plans.1.from_is i, ((limit_is ∙ plans.1.begins.limit_is) ∙ ap (λ (x : Shape). min count x.elements) shape_is) i)) read in
      let called : Called t p s (verbs.BatchRead false count start flags) reply =
      called_looked (verbs.BatchRead false count start flags) reply can read_here.looked (walks_read t.shape p.cpu false count start flags (map (turn_at t.shape) read_here.told) reply to_read read_here.trace) in
      subst (λ (o : BatchOut). Answers t p s (verbs.BatchRead false count start flags) (Ok o)) (sym (out_is ∙ ap (λ (x : Shape). outs.Read (stop_of x next pairs) pairs next) shape_is)) called
