-- Parts that leave an element on a list, turns of probes, and what is kept through the turns of each call.
use Rattle.std.proofs.Common.{◌≡◌, ◌≢◌, ℕ, suc, ◌<◌, ◌≤◌, true, false, List, [], ◌∷◌, ◌++◌, refl, ap, sym, ◌∙◌, subst, arith}
use Rattle.std.specs.Prelude.{Option, None, Some, All, option_map, option_to_list}
use Rattle.std.specs.List.{flat_map}
use Rattle.std.proofs.lemmas.List.Elements.{All-nil, All-cons, All-head, All-tail}
use Rattle.map_types.specs.declared.attr.Shape.{Shape}
use Rattle.map_types.specs.declared.call.Call.{Call}
use Rattle.map_types.specs.declared.kind.DomainId.{DomainId}
use Rattle.map_types.specs.declared.kind.DomainId.TheVariants.{Bucket}
use Rattle.map_types.specs.declared.refusal.Errno.TheVariants.{Enomem}
use Rattle.map_types.specs.declared.reply.Reply.{Reply}
use Rattle.map_types.specs.declared.row.Row.{Row}
use Rattle.map_types.specs.Replies.{error_of}
use Rattle.place_words.specs.declared.history.Part.{Part}
use Rattle.place_words.specs.declared.list_part.GlobalPart.TheVariants as global
use Rattle.place_words.specs.declared.list_part.LocalPart.{LocalPart}
use Rattle.place_words.specs.declared.list_part.LocalPart.TheVariants as local
use Rattle.place_words.specs.declared.list_part.OwnPart.{OwnPart}
use Rattle.place_words.specs.declared.list_part.OwnPart.TheVariants as own
use Rattle.place_words.specs.declared.visits.Try.{Try}
use Rattle.place_words.specs.Choices.{own_got, refill_got}
use Rattle.place_words.specs.Globals.{global_after}
use Rattle.place_words.specs.Locals.{LocalLists, local_after}
use Rattle.place_words.specs.Locks.{is_same_lock}
use Rattle.place_words.specs.Logs.{State, all_turned, lies_in, stolen, does, after_one, answers}
use Rattle.place_words.specs.Sets.{ListSet, own_after}
use Rattle.place_words.specs.Takings.{probes_of, stored_hash, evicts, listed_rows, rows_brought}
use Rattle.place_words.specs.Turns.{Turn}
use Rattle.place_words.proofs.EachTurn.{TurnLaw, does_right, verb_passes}
use Rattle.place_words.proofs.ListContents.{AreElsewhere, all_turned-append}
use Rattle.place_words.proofs.NeverEmpty.{set_count, local_count}

-- Parts that leave an element

pub pop_leaves : (key_hash e : ℕ) (lists : LocalLists) → 1 ≤ local_count (local_after (local.Pop key_hash e) lists)
unfolding local_after
pop_leaves key_hash e lists = omega arith

pub add_leaves : (key_hash e cursor : ℕ) (lists : LocalLists) → 1 ≤ local_count (local_after (local.Add key_hash e cursor) lists)
unfolding local_after
add_leaves key_hash e cursor lists = omega arith

pub push_leaves : (e : ℕ) (lists : LocalLists) → 1 ≤ local_count (local_after (local.Push e true) lists)
unfolding local_after
push_leaves e lists = omega arith

pub refill_leaves : (part : LocalPart) (lists : LocalLists) → refill_got part ≢ None → 1 ≤ local_count (local_after part lists)
unfolding local_after
refill_leaves (local.Pop key_hash e) lists got = absurd (got refl)
refill_leaves (local.Refill key_hash flushed gained None) lists got = absurd (got refl)
refill_leaves (local.Refill key_hash flushed gained (Some e)) lists got = omega arith
refill_leaves (local.Steal stolen first second) lists got = absurd (got refl)
refill_leaves (local.Add key_hash e cursor) lists got = absurd (got refl)
refill_leaves (local.Push e done) lists got = absurd (got refl)

pub global_leaves : (e : ℕ) (set : ListSet) → 1 ≤ set_count (global_after (global.Push e) set)
unfolding global_after
global_leaves e set = omega arith

pub own_push_leaves : (e : ℕ) (set : ListSet) → 1 ≤ set_count (own_after (own.Push e) set)
unfolding own_after
own_push_leaves e set = omega arith

pub own_leaves : (part : OwnPart) (set : ListSet) → own_got part ≢ None → 1 ≤ set_count (own_after part set)
unfolding own_after
own_leaves (own.Turn key_hash active inactive shrink None) set got = absurd (got refl)
own_leaves (own.Turn key_hash active inactive shrink (Some e)) set got = omega arith
own_leaves (own.Push e) set got = absurd (got refl)

-- The probes of a turn are turns of buckets

abbrev pub AreOfBuckets : List Turn → Type 0
AreOfBuckets [] = Unit {0}
AreOfBuckets (turn ∷ turns) = (bucket : ℕ) × (turn.lock ≡ Bucket bucket) × AreOfBuckets turns

of_buckets_both : (xs ys : List Turn) → AreOfBuckets xs → AreOfBuckets ys → AreOfBuckets (xs ++ ys)
of_buckets_both [] ys first second = second
of_buckets_both (turn ∷ xs) ys first second = (first.0, first.1, of_buckets_both xs ys first.2 second)

evicts_in_buckets : (shape : Shape) (probe : Try) (hash : Option ℕ) → AreOfBuckets (option_to_list (option_map (evicts shape probe) hash))
evicts_in_buckets shape probe None = tt
evicts_in_buckets shape probe (Some hash) = (Rattle.key_hash.specs.Bucket.bucket_number hash shape.buckets, refl, tt)

-- a list turn without its own entry
abbrev pub probes_first : Shape → State → DomainId → Part → List Turn
probes_first shape state lock part =
    flat_map (λ (probe : Try). option_to_list (option_map (evicts shape probe) (stored_hash probe.element (rows_brought part ++ listed_rows (lies_in shape state lock))))) (probes_of part)

probes_in_buckets : (shape : Shape) (rows : List Row) (probes : List Try) → AreOfBuckets (flat_map (λ (probe : Try). option_to_list (option_map (evicts shape probe) (stored_hash probe.element rows))) probes)
probes_in_buckets shape rows [] = tt
probes_in_buckets shape rows (probe ∷ probes) =
    of_buckets_both (option_to_list (option_map (evicts shape probe) (stored_hash probe.element rows))) _ (evicts_in_buckets shape probe (stored_hash probe.element rows)) (probes_in_buckets shape rows probes)

pub probes_are : (shape : Shape) (state : State) (lock : DomainId) (part : Part) → AreOfBuckets (probes_first shape state lock part)
probes_are shape state lock part = probes_in_buckets shape (rows_brought part ++ listed_rows (lies_in shape state lock)) (probes_of part)

pub buckets_elsewhere : (lock : DomainId) → ((bucket : ℕ) → is_same_lock (Bucket bucket) lock ≡ false) → (turns : List Turn) → AreOfBuckets turns → AreElsewhere lock turns
buckets_elsewhere lock other [] are = tt
buckets_elsewhere lock other (turn ∷ turns) are = (ap (λ (l : DomainId). is_same_lock l lock) are.1 ∙ other are.0, buckets_elsewhere lock other turns are.2)

-- Calls one after another

-- what is kept through the turns of each call is kept through all, and no call answers ENOMEM
module _ (shape : Shape) (Kept : State → Type 0) where
  abbrev KeepsIt : ℕ → ℕ → List Turn → Type 0
  KeepsIt cpu number turns = (state : State) → Kept state → Kept (all_turned shape cpu number turns state)

  pub keeps_both : (cpu number : ℕ) (xs ys : List Turn) → KeepsIt cpu number xs → KeepsIt cpu number ys → KeepsIt cpu number (xs ++ ys)
  keeps_both cpu number xs ys first second state kept =
      subst Kept (sym (all_turned-append shape cpu number xs ys state)) (second (all_turned shape cpu number xs state) (first state kept))

  pub never_enomem : ((cpu number : ℕ) → cpu < shape.cpus → TurnLaw shape cpu number (λ side key value. Unit {0}) Kept (λ turns. (state : State) → Kept state → Kept (all_turned shape cpu number turns state)) ⊥)
      → (number : ℕ) (calls : List Call) (state : State) → All (λ (call : Call). call.cpu < shape.cpus) calls → Kept state → All (λ (reply : Reply). error_of reply ≢ Some Enomem) (answers shape number calls state)
  never_enomem law number [] state served kept = All-nil (λ (reply : Reply). error_of reply ≢ Some Enomem)
  never_enomem law number (call ∷ calls) state served kept =
      let within : call.cpu < shape.cpus = All-head (λ (one : Call). one.cpu < shape.cpus) call calls served in
      let right = does_right (law call.cpu number within) state kept call.verb (verb_passes call.verb) in
      All-cons (λ (reply : Reply). error_of reply ≢ Some Enomem) (does shape call.cpu number state call.verb).reply _ right.lacks
      (never_enomem law (suc number) calls (after_one shape number call state) (All-tail (λ (one : Call). one.cpu < shape.cpus) call calls served) (right.fits state kept))
