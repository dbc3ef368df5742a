-- The calls on a map that evicts, read from turns with what their moments tell: which beginning of them is the call's, and with which
-- reply. The turns determine it.
use Rattle.std.specs.Prelude.{ℕ, suc, ◌-◌, ◌==◌, ◌&&◌, nat_lt, min, not, Bool, true, false, List, [], ◌∷◌, ◌++◌, length, map, reverse, is_some, option_map, unwrap_or, Option, None, Some, if◌then◌else◌}
use Rattle.map_types.specs.declared.attr.Shape.{Shape}
use Rattle.map_types.specs.declared.call.Verb.{Verb}
use Rattle.map_types.specs.declared.call.Verb.TheVariants as verbs
use Rattle.map_types.specs.declared.kind.DomainId.TheVariants.{Local, Global, CpuLru, Bucket}
use Rattle.map_types.specs.declared.kind.Side.{Side}
use Rattle.map_types.specs.declared.refusal.Errno.{Errno}
use Rattle.map_types.specs.declared.refusal.Errno.TheVariants.{Enomem, Enoent, Einval}
use Rattle.map_types.specs.declared.reply.Reply.{Reply}
use Rattle.map_types.specs.declared.reply.Reply.TheVariants.{Done, Refused, Batch, Count}
use Rattle.map_types.specs.Kind.{is_percpu}
use Rattle.key_hash.specs.Jhash.{hash}
use Rattle.place_words.specs.declared.bucket_part.BucketPart.{BucketPart}
use Rattle.place_words.specs.declared.bucket_part.Put.{Put}
use Rattle.place_words.specs.declared.bucket_part.Put.TheVariants as puts
use Rattle.place_words.specs.declared.bucket_part.Walked.{Walked}
use Rattle.place_words.specs.declared.bucket_part.Walked.TheVariants.{Over, Taken}
use Rattle.place_words.specs.declared.history.Part.{Part}
use Rattle.place_words.specs.declared.visits.Flush.{Flush}
use Rattle.place_words.specs.Evicting.{left_over}
use Rattle.place_words.specs.Globals.{flush_visit}
use Rattle.place_words.specs.PlainTraces.{reply_of_got, reply_of_put, reply_of_gone, element_gone}
use Rattle.place_words.specs.Takings.{probes_of, freed_by, stolen_element, ring_next, set_of}
use Rattle.place_words.specs.Turns.{Turn, bucket_of_key, ring}
use Rattle.place_words.specs.Walks.{buckets_from, walked_out, pair_of, stopped_at, refused_with, updates_of, deletes_of}
use Rattle.trace_check.specs.Reading.{of_bucket, when, checked}
use Rattle.trace_check.specs.Calls.{got_in, gone_in, taken_in, walked_in, read_next, read_each}
use Rattle.evicting_traces.specs.Reading.{Seen, Reads, read_nothing, read_never, read_as, read_then, read_or, read_if, with_rest, read_seen, read_turn, read_turns}
use Rattle.evicting_traces.specs.Parts.{on, of_local, of_global, of_own, local_of, popped_in, refilled_in, Theft, stolen_in, added_in, pushed_in, Giving, given_in, freed_in, OwnGiving, own_given_in, own_freed_in, put_of, evicted, are_answers, hashes_noted, steal_noted}

-- A turn of a list lock with the turns of its probes: these are the turns up to the first in which nothing was to be evicted, and they
-- answer its probes, by the hashes that were noted of it.
abbrev pub read_group : {A : Type 0} → List Seen → (List Turn → Seen → Option A) → Option (A × List Seen)
read_group [] says = None
read_group (seen ∷ seens) says =
    if is_some (evicted seen.turn.part) then read_group seens (λ before. says (seen.turn ∷ before)) else with_rest seens (says [] seen)

-- the turns of probes, and the first turn behind them; that turn, if they answer it; and what it tells
unfoldable pub group : List Seen → Option ((List Turn × Seen) × List Seen)
group seens = read_group seens (λ before last. Some (before, last))

abbrev pub answers : Shape → List Turn → Seen → Bool
answers shape before last = are_answers shape (probes_of last.turn.part) (hashes_noted last.note) before

unfoldable pub answered_turn : Shape → List Seen → Option (Seen × List Seen)
answered_turn shape seens = read_group seens (λ before last. when (answers shape before last) last)

abbrev pub what_it_tells : {A : Type 0} → (Turn → Option A) → Option (Seen × List Seen) → Option (A × List Seen)
what_it_tells says None = None
what_it_tells says (Some found) = with_rest found.1 (says found.0.turn)

abbrev pub chased : {A : Type 0} → Shape → (Turn → Option A) → List Turn → Seen → Option A
chased shape says before last = checked (λ a. answers shape before last) (says last.turn)

abbrev pub read_chased : {A : Type 0} → Shape → (Turn → Option A) → Reads A
read_chased shape says seens = read_group seens (chased shape says)

-- An element is freed: it was pending somewhere; a refill had flushed it from there; or it is freed globally at once.
abbrev pub on_some_local : (Part → Option (Unit {0})) → Turn → Option ℕ
on_some_local says turn = if is_some (says turn.part) then local_of turn.lock else None

abbrev pub unflushed_from : ℕ → Seen → Option ℕ
unflushed_from e seen = if seen.flushed then on_some_local (of_local (pushed_in e false)) seen.turn else None

abbrev pub read_freed_globally : ℕ → Reads (Unit {0})
read_freed_globally e = read_turn (on Global (of_global (freed_in e)))

abbrev pub read_pending : ℕ → Reads (Unit {0})
read_pending e = read_as (λ cpu. tt) (read_turn (on_some_local (of_local (pushed_in e true))))

abbrev pub read_flushed : ℕ → Reads (Unit {0})
read_flushed e = read_then (read_seen (unflushed_from e)) (λ cpu. read_freed_globally e)

abbrev pub read_shared : ℕ → Reads (Unit {0})
read_shared e = read_or (read_pending e) (read_or (read_flushed e) (read_freed_globally e))

abbrev pub read_own_freed : Shape → ℕ → Reads (Unit {0})
read_own_freed shape e = read_turn (on (CpuLru (set_of shape e)) (of_own (own_freed_in e)))

abbrev pub read_frees : Shape → ℕ → Reads (Unit {0})
read_frees shape e = read_if shape.common (read_shared e) (read_own_freed shape e)

-- Elements are freed, and this is answered.
abbrev pub read_frees_all : {A : Type 0} → Shape → A → List ℕ → Reads A
read_frees_all shape a [] = read_nothing a
read_frees_all shape a (e ∷ es) = read_then (read_frees shape e) (λ u. read_frees_all shape a es)

abbrev pub read_frees_one : {A : Type 0} → Shape → A → Option ℕ → Reads A
read_frees_one shape a None = read_nothing a
read_frees_one shape a (Some e) = read_as (λ u. a) (read_frees shape e)

-- what a turn of the own lists got, if it is one of them, and what was stolen in one
abbrev pub own_got : ℕ → ℕ → Turn → Option (Option ℕ)
own_got cpu hash turn = option_map (λ (given : OwnGiving). given.3) (on (CpuLru cpu) (of_own (own_given_in hash)) turn)

abbrev pub theft_of : ℕ → Turn → Option (Option ℕ)
theft_of from turn = option_map (λ (theft : Theft). stolen_element theft.0) (on (Local from) (of_local stolen_in) turn)

-- An element is taken from the own set, or popped.
abbrev pub read_own : Shape → ℕ → ℕ → Reads (Option ℕ)
read_own shape cpu hash = read_as (λ (given : OwnGiving). given.3) (read_chased shape (on (CpuLru cpu) (of_own (own_given_in hash))))

abbrev pub read_pop : ℕ → ℕ → Reads (Option ℕ)
read_pop cpu hash = read_as (λ e. Some e) (read_turn (on (Local cpu) (of_local (popped_in hash))))

-- A refill: what it got, and where a round of thefts begins.
abbrev pub both : {A B : Type 0} → Option A → Option B → Option (A × B)
both None second = None
both (Some a) None = None
both (Some a) (Some b) = Some (a, b)

abbrev pub flushed_hashes : List Flush → List ℕ
flushed_hashes flushed = map (λ (flush : Flush). flush.hash) flushed

abbrev pub refilled : ℕ → ℕ → Giving → Seen → Option (Option ℕ × ℕ)
refilled cpu hash given seen =
    both (on (Local cpu) (of_local (refilled_in hash (map flush_visit given.0) (given.3 ++ freed_by given.4))) seen.turn) (steal_noted (flushed_hashes given.0) seen.note)

abbrev pub refilled_by : ℕ → ℕ → Option Giving → Seen → Option (Option ℕ × ℕ)
refilled_by cpu hash None seen = None
refilled_by cpu hash (Some given) seen = refilled cpu hash given seen

abbrev pub read_refill : Shape → ℕ → ℕ → Reads (Option ℕ × ℕ)
read_refill shape cpu hash = read_then (read_chased shape (on Global (of_global given_in))) (λ given. read_seen (refilled cpu hash given))

-- A round of thefts, and what was stolen is brought home.
abbrev pub read_home : Shape → ℕ → ℕ → ℕ → ℕ → Reads (Option ℕ)
read_home shape cpu hash from e = read_as (λ u. Some e) (read_turn (on (Local cpu) (of_local (added_in hash e (ring_next from shape.cpus)))))

abbrev pub after_theft : Reads (Option ℕ) → (ℕ → Reads (Option ℕ)) → Option ℕ → Reads (Option ℕ)
after_theft more home None = more
after_theft more home (Some e) = home e

abbrev pub read_steals : Shape → ℕ → ℕ → List ℕ → Reads (Option ℕ)
read_steals shape cpu hash [] = read_nothing None
read_steals shape cpu hash (from ∷ others) =
    read_then (read_chased shape (on (Local from) (of_local stolen_in)))
    (λ (theft : Theft). after_theft (read_steals shape cpu hash others) (read_home shape cpu hash from) (stolen_element theft.0))

abbrev pub read_by_refill : Shape → ℕ → ℕ → Reads (Option ℕ)
read_by_refill shape cpu hash =
    read_then (read_refill shape cpu hash)
    (λ (refill : Option ℕ × ℕ). after_theft (read_steals shape cpu hash (ring refill.1 shape.cpus)) (λ e. read_nothing (Some e)) refill.0)

abbrev pub read_shared_taking : Shape → ℕ → ℕ → Reads (Option ℕ)
read_shared_taking shape cpu hash = read_or (read_pop cpu hash) (read_by_refill shape cpu hash)

abbrev pub read_acquires : Shape → ℕ → ℕ → Reads (Option ℕ)
read_acquires shape cpu hash = read_if shape.common (read_shared_taking shape cpu hash) (read_own shape cpu hash)

-- A turn of the bucket of a key.
abbrev pub read_at : {A : Type 0} → Shape → List ℕ → (BucketPart → Option A) → Reads A
read_at shape key says = read_turn (on (Bucket (bucket_of_key shape key)) (of_bucket says))

-- what was done in the first turn, if it is this bucket's
unfoldable pub first_at : ℕ → Reads BucketPart
first_at bucket = read_turn (on (Bucket bucket) (of_bucket Some))

-- the reply of a call that is refused with an error, or does what it is asked for and has nothing to give
abbrev pub reply_of_refusal : Option Errno → Reply
reply_of_refusal None = Done
reply_of_refusal (Some errno) = Refused errno

abbrev pub read_lookup : Shape → Side → List ℕ → Reads Reply
read_lookup shape side key = read_as reply_of_got (read_at shape key (got_in side key))

abbrev pub read_delete : Shape → List ℕ → Reads Reply
read_delete shape key = read_then (read_at shape key (gone_in key)) (λ gone. read_frees_one shape (reply_of_gone gone) gone)

abbrev pub read_take : Shape → List ℕ → Reads Reply
read_take shape key = read_then (read_at shape key (taken_in key)) (λ gone. read_frees_one shape (reply_of_got gone) (element_gone gone))

-- An update: what it may put that was offered this element, or nothing.
abbrev pub may_put : Shape → ℕ → Put → Bool
may_put shape e (puts.Added added) = added == e
may_put shape e (puts.Replaced new old) = (new == e) && not (is_percpu shape.kind)
may_put shape e (puts.Written written) = is_percpu shape.kind
may_put shape e puts.Exists = true
may_put shape e puts.Absent = true
may_put shape e puts.Full = false

abbrev pub may_put_alone : Put → Bool
may_put_alone (puts.Added added) = false
may_put_alone (puts.Replaced new old) = false
may_put_alone (puts.Written written) = true
may_put_alone puts.Exists = false
may_put_alone puts.Absent = true
may_put_alone puts.Full = false

abbrev pub read_put : Shape → Side → ℕ → List ℕ → List ℕ → Option ℕ → (Put → Bool) → Reads Put
read_put shape side flags key value offer may =
    read_turn (λ (turn : Turn). checked may (on (Bucket (bucket_of_key shape key)) (of_bucket (put_of side flags key value offer)) turn))

abbrev pub read_offer : Shape → Side → ℕ → List ℕ → List ℕ → ℕ → Reads Reply
read_offer shape side flags key value e =
    read_then (read_put shape side flags key value (Some e) (may_put shape e)) (λ put. read_frees_one shape (reply_of_put put) (left_over e put))

abbrev pub after_taking : {A : Type 0} → A → (ℕ → Reads A) → Option ℕ → Reads A
after_taking none offers None = read_nothing none
after_taking none offers (Some e) = offers e

abbrev pub read_offers : Shape → ℕ → Side → ℕ → List ℕ → List ℕ → Reads Reply
read_offers shape cpu side flags key value =
    read_then (read_acquires shape cpu (hash key shape.seed)) (after_taking (Refused Enomem) (read_offer shape side flags key value))

abbrev pub read_write : Shape → Side → ℕ → List ℕ → List ℕ → Reads Reply
read_write shape side flags key value = read_as reply_of_put (read_put shape side flags key value None may_put_alone)

abbrev pub read_update : Shape → ℕ → Side → ℕ → List ℕ → List ℕ → Reads Reply
read_update shape cpu side flags key value =
    read_if (nat_lt 2 flags)
    (read_nothing (Refused Einval))
    (read_if (is_percpu shape.kind && (flags == 2)) (read_write shape side flags key value) (read_offers shape cpu side flags key value))

-- A call on one key, and batch writes, which are such calls in a row.
abbrev pub read_key : Shape → ℕ → Verb → Reads Reply
read_key shape cpu (verbs.Lookup side key) = read_lookup shape side key
read_key shape cpu (verbs.Update side flags key value) = read_update shape cpu side flags key value
read_key shape cpu (verbs.Delete key) = read_delete shape key
read_key shape cpu (verbs.Take key) = read_take shape key
read_key shape cpu (verbs.Next key) = read_never
read_key shape cpu (verbs.BatchRead remove count start flags) = read_never
read_key shape cpu (verbs.BatchUpdate flags pairs) = read_never
read_key shape cpu (verbs.BatchDelete flags keys) = read_never
read_key shape cpu (verbs.Each flags stop) = read_never

abbrev pub after_write : ℕ → Reads Reply → Option Errno → Reads Reply
after_write done more None = more
after_write done more (Some errno) = read_nothing (Count (Some errno) done)

abbrev pub read_writes : Shape → ℕ → List Verb → ℕ → Reads Reply
read_writes shape cpu [] done = read_nothing (Count None done)
read_writes shape cpu (entry ∷ entries) done =
    read_then (read_key shape cpu entry) (λ answer. after_write done (read_writes shape cpu entries (suc done)) (refused_with answer))

abbrev pub read_write_batch : Shape → ℕ → ℕ → List Verb → Reads Reply
read_write_batch shape cpu flags entries = read_if (flags == 0) (read_writes shape cpu entries 0) (read_nothing (Refused Einval))

-- A batch read: each bucket's turn, and what it took out is freed, last taken first.
abbrev pub read_emptied : Shape → ℕ → Bool → ℕ → Reads Walked
read_emptied shape bucket remove room =
    read_then (read_turn (on (Bucket bucket) (of_bucket (walked_in remove room)))) (λ result. read_frees_all shape result (reverse (walked_out remove result)))

abbrev pub after_bucket : ℕ → List (List ℕ × List ℕ) → (List (List ℕ × List ℕ) → Reads Reply) → Walked → Reads Reply
after_bucket bucket taken more (Over n) = read_nothing (Batch (stopped_at taken) taken bucket)
after_bucket bucket taken more (Taken all) = more (taken ++ map pair_of all)

abbrev pub read_walks : Shape → Bool → ℕ → List ℕ → List (List ℕ × List ℕ) → Reads Reply
read_walks shape remove limit [] taken = read_nothing (Batch (Some Enoent) taken shape.buckets)
read_walks shape remove limit (bucket ∷ buckets) taken =
    read_then (read_emptied shape bucket remove (limit - length taken)) (after_bucket bucket taken (λ now. read_walks shape remove limit buckets now))

abbrev pub read_batch : Shape → Bool → ℕ → Option ℕ → ℕ → Reads Reply
read_batch shape remove count start flags =
    read_if (flags == 0)
    (read_if (count == 0)
    (read_nothing Done)
    (read_if (nat_lt (unwrap_or start 0) shape.buckets)
    (read_walks shape remove (min count shape.elements) (buckets_from shape (unwrap_or start 0)) [])
    (read_nothing (Refused Enoent))))
    (read_nothing (Refused Einval))

-- Every call on a map that evicts. Next key and the walk over all elements are as on one that doesn't.
abbrev pub read_evicting : Shape → ℕ → Verb → Reads Reply
read_evicting shape cpu (verbs.Lookup side key) = read_lookup shape side key
read_evicting shape cpu (verbs.Update side flags key value) = read_update shape cpu side flags key value
read_evicting shape cpu (verbs.Delete key) = read_delete shape key
read_evicting shape cpu (verbs.Take key) = read_take shape key
read_evicting shape cpu (verbs.Next key) = read_turns (read_next shape key)
read_evicting shape cpu (verbs.BatchRead remove count start flags) = read_batch shape remove count start flags
read_evicting shape cpu (verbs.BatchUpdate flags pairs) = read_write_batch shape cpu flags (updates_of pairs)
read_evicting shape cpu (verbs.BatchDelete flags keys) = read_write_batch shape cpu flags (deletes_of keys)
read_evicting shape cpu (verbs.Each flags stop) = read_turns (read_each shape cpu stop flags)
