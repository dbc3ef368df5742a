-- The turns of a call are on locks that the map has.
use Rattle.std.proofs.Common.{false, ◌≡◌, ℕ, zero, suc, ◌+◌, ◌-◌, ◌<◌, ◌≤◌, true, not, nat_lt, List, [], ◌∷◌, ◌++◌, Option, Some, None, ⊎_elim, sym, subst, arith}
use Rattle.std.specs.Prelude.{◌&&◌, IsTrue}
use Rattle.std.specs.List.{AllByRecursion, range_with_len}
use Rattle.std.proofs.lemmas.Bool.{lt-ltb}
use Rattle.key_hash.proofs.Buckets.{bucket_number-lt}
use Rattle.key_hash.specs.Jhash.{hash}
use Rattle.map_types.specs.declared.attr.Shape.{Shape}
use Rattle.map_types.specs.declared.call.Verb.{Verb}
use Rattle.map_types.specs.declared.call.Verb.TheVariants as verbs
use Rattle.map_types.specs.declared.kind.MapKind.{MapKind}
use Rattle.map_types.specs.declared.kind.MapKind.TheVariants.{Hash, PercpuHash, LruHash, LruPercpuHash}
use Rattle.map_types.specs.declared.reply.Reply.{Reply}
use Rattle.map_types.specs.Kind.{is_lru}
use Rattle.map_types.specs.Shape.{HasBounds}
use Rattle.place_words.specs.declared.bucket_part.BucketPart.{BucketPart}
use Rattle.place_words.specs.declared.bucket_part.BucketPart.TheVariants.{Lookup, Update, Delete, Take}
use Rattle.place_words.specs.declared.bucket_part.Put.{Put}
use Rattle.place_words.specs.declared.bucket_part.Put.TheVariants as puts
use Rattle.place_words.specs.declared.free_part.FreePart.{FreePart}
use Rattle.place_words.specs.declared.free_part.FreePart.TheVariants.{Pushed, Popped, FoundEmpty}
use Rattle.place_words.specs.Locks.{is_lock}
use Rattle.place_words.specs.Traces.{Turn, bucket_of_key, ring, on_bucket_of, on_freelist_of, found_empty, Pops, pushes, LooksFor, IsPlainTrace, element_gone}

-- Facts of each of a list

pub all_parts : {X : Type 0} (P : X → Type 0) (first second : List X) → AllByRecursion P (first ++ second) → AllByRecursion P first × AllByRecursion P second
all_parts P [] second all = (tt, all)
all_parts P (x ∷ first) second all = let later = all_parts P first second all.1 in ((all.0, later.0), later.1)

pub all_append : {X : Type 0} (P : X → Type 0) (first second : List X) → AllByRecursion P first → AllByRecursion P second → AllByRecursion P (first ++ second)
all_append P [] second before after = after
all_append P (x ∷ first) second before after = (before.0, all_append P first second before.1 after)

-- Turns on locks of the map

abbrev pub OnLock : Shape → Turn → Type 0
OnLock shape turn = IsTrue (is_lock shape turn.lock)

abbrev pub OnLocks : Shape → List Turn → Type 0
OnLocks shape turns = AllByRecursion (OnLock shape) turns

-- no built kind evicts, so that each CPU has a freelist
freelist_there : (kind : MapKind) (cpu cpus : ℕ) → is_lru kind ≡ false → cpu < cpus → (not (is_lru kind) && nat_lt cpu cpus) ≡ true
freelist_there Hash cpu cpus built within = lt-ltb cpu cpus within
freelist_there PercpuHash cpu cpus built within = lt-ltb cpu cpus within
freelist_there LruHash cpu cpus built within = cc
freelist_there LruPercpuHash cpu cpus built within = cc

-- the CPUs of a ring
abbrev pub AllBelow : ℕ → List ℕ → Type 0
AllBelow bound xs = AllByRecursion (λ x. x < bound) xs

pub range_below : (bound start count : ℕ) → start + count ≤ bound → AllBelow bound (range_with_len start count)
range_below bound start zero fits = tt
range_below bound start (suc count) fits = (omega arith, range_below bound (start + 1) count (omega arith))

ring_below : (cpu cpus : ℕ) → cpu < cpus → AllBelow cpus (ring cpu cpus)
ring_below cpu cpus within =
    all_append (λ x. x < cpus) (range_with_len cpu (cpus - cpu)) (range_with_len 0 cpu) (range_below cpus cpu (cpus - cpu) (omega arith)) (range_below cpus 0 cpu (omega arith))

module _ (shape : Shape) (bounds : HasBounds shape) (built : is_lru shape.kind ≡ false) where
  bucket_real : (key : List ℕ) (part : BucketPart) → OnLock shape (on_bucket_of shape key part)
  bucket_real key part = lt-ltb (bucket_of_key shape key) shape.buckets (bucket_number-lt (hash key shape.seed) shape.buckets bounds.buckets_power)

  freelist_real : (cpu : ℕ) (part : FreePart) → cpu < shape.cpus → OnLock shape (on_freelist_of cpu part)
  freelist_real cpu part within = freelist_there shape.kind cpu shape.cpus built within

  empties_real : (cpus : List ℕ) → AllBelow shape.cpus cpus → OnLocks shape (found_empty cpus)
  empties_real [] below = tt
  empties_real (cpu ∷ cpus) below = (freelist_real cpu FoundEmpty below.0, empties_real cpus below.1)

  -- the last turn is that of the key's bucket
  last_real : (turns looks : List Turn) (key : List ℕ) (part : BucketPart) → turns ≡ looks ++ on_bucket_of shape key part ∷ [] → OnLocks shape looks → OnLocks shape turns
  last_real turns looks key part are real =
      subst (OnLocks shape) (sym are) (all_append (OnLock shape) looks (on_bucket_of shape key part ∷ []) real (bucket_real key part, tt))

  pops_real : (cpu e : ℕ) (looks : List Turn) → cpu < shape.cpus → Pops shape cpu e looks → OnLocks shape looks
  pops_real cpu e looks within pops =
      let below = all_parts (λ x. x < shape.cpus) pops.passed (pops.giver ∷ pops.left) (subst (AllBelow shape.cpus) pops.ring_is (ring_below cpu shape.cpus within)) in
      subst (OnLocks shape) (sym pops.turns_are)
      (all_append (OnLock shape) (found_empty pops.passed) (on_freelist_of pops.giver (Popped e) ∷ []) (empties_real pops.passed below.0) (freelist_real pops.giver (Popped e) below.1.0, tt))

  pushes_real : (cpu : ℕ) (gone : Option ℕ) → cpu < shape.cpus → OnLocks shape (pushes cpu gone)
  pushes_real cpu None within = tt
  pushes_real cpu (Some e) within = (freelist_real cpu (Pushed e) within, tt)

  looks_real : (cpu : ℕ) (spare : Option ℕ) (put : Put) (looks : List Turn) → cpu < shape.cpus → LooksFor shape cpu spare put looks → OnLocks shape looks
  looks_real cpu spare (puts.Added e) looks within looked = pops_real cpu e looks within looked
  looks_real cpu spare (puts.Replaced new old) looks within looked = subst (OnLocks shape) (sym looked.0) tt
  looks_real cpu spare (puts.Written e) looks within looked = subst (OnLocks shape) (sym looked) tt
  looks_real cpu spare puts.Exists looks within looked = subst (OnLocks shape) (sym looked) tt
  looks_real cpu spare puts.Absent looks within looked = subst (OnLocks shape) (sym looked) tt
  looks_real cpu spare puts.Full looks within looked = subst (OnLocks shape) (sym looked) (empties_real (ring cpu shape.cpus) (ring_below cpu shape.cpus within))

  -- The turns of a call on one of the map's CPUs.
  pub trace_real : (cpu : ℕ) (spare : Option ℕ) (verb : Verb) (turns : List Turn) (reply : Reply) → cpu < shape.cpus → IsPlainTrace shape cpu spare verb turns reply → OnLocks shape turns
  trace_real cpu spare (verbs.Lookup side key) turns reply within trace = last_real turns [] key (Lookup side key trace.got) trace.turns_are tt
  trace_real cpu spare (verbs.Update side flags key value) turns reply within trace =
      ⊎_elim (λ refused. subst (OnLocks shape) (sym refused.1) tt)
      (λ known. last_real turns known.1.looks key (Update side flags key value None known.1.put) known.1.turns_are (looks_real cpu spare known.1.put known.1.looks within known.1.looks_are)) trace
  trace_real cpu spare (verbs.Delete key) turns reply within trace =
      last_real turns (pushes cpu trace.gone) key (Delete key trace.gone) trace.turns_are (pushes_real cpu trace.gone within)
  trace_real cpu spare (verbs.Take key) turns reply within trace =
      last_real turns (pushes cpu (element_gone trace.gone)) key (Take key trace.gone) trace.turns_are (pushes_real cpu (element_gone trace.gone) within)
  trace_real cpu spare (verbs.Next key) turns reply within trace = absurd trace
  trace_real cpu spare (verbs.BatchRead remove count start flags) turns reply within trace = absurd trace
  trace_real cpu spare (verbs.BatchUpdate flags pairs) turns reply within trace = absurd trace
  trace_real cpu spare (verbs.BatchDelete flags keys) turns reply within trace = absurd trace
  trace_real cpu spare (verbs.Each flags stop) turns reply within trace = absurd trace
