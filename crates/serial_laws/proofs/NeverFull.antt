-- On a map that evicts no reply of a run in serial order is E2BIG.
use Rattle.std.proofs.Common.{◌≡◌, ◌≢◌, ℕ, suc, ◌-◌, ◌+◌, Bool, true, false, ◌&&◌, cond, eqb, ltb, List, [], ◌∷◌, ◌++◌, length, All, Option, None, Some, refl, sym, ◌∙◌}
use Rattle.std.specs.Prelude.{map, min, option_map, unwrap_or}
use Rattle.std.specs.List.{list_any}
use Rattle.std.proofs.lemmas.Bool.{true≢false}
use Rattle.std.proofs.lemmas.List.Elements.{All-nil, All-cons}
use Rattle.map_types.specs.declared.attr.Shape.{Shape}
use Rattle.map_types.specs.declared.call.Call.{Call}
use Rattle.map_types.specs.declared.call.Verb.{Verb}
use Rattle.map_types.specs.declared.call.Verb.TheVariants as verbs
use Rattle.map_types.specs.declared.kind.DomainId.TheVariants.{Bucket}
use Rattle.map_types.specs.declared.kind.Side.{Side}
use Rattle.map_types.specs.declared.kind.Side.TheVariants.{Sys}
use Rattle.map_types.specs.declared.refusal.Errno.{Errno}
use Rattle.map_types.specs.declared.refusal.Errno.TheVariants.{Enoent, E2big, Einval}
use Rattle.map_types.specs.declared.reply.Reply.{Reply}
use Rattle.map_types.specs.declared.reply.Reply.TheVariants.{Done, Value, Refused, Batch, Count}
use Rattle.map_types.specs.Kind.{is_lru, is_percpu}
use Rattle.map_types.specs.Stored.{Stored}
use Rattle.map_types.specs.Replies.{error_of}
use Rattle.key_hash.specs.Jhash.{hash}
use Rattle.map_script.specs.declared.script.Script.{Script}
use Rattle.place_words.specs.declared.bucket_part.BucketPart.TheVariants.{Walk}
use Rattle.place_words.specs.declared.bucket_part.NextFound.{NextFound}
use Rattle.place_words.specs.declared.bucket_part.NextFound.TheVariants as nexts
use Rattle.place_words.specs.declared.bucket_part.Put.TheVariants as puts
use Rattle.place_words.specs.declared.bucket_part.Walked.{Walked}
use Rattle.place_words.specs.declared.bucket_part.Walked.TheVariants.{Over, Taken}
use Rattle.place_words.specs.declared.history.Part.TheVariants as parts
use Rattle.place_words.specs.Bodies.{first_key}
use Rattle.place_words.specs.Handing.{handed, is_stop, up_to_stop}
use Rattle.place_words.specs.Logs.{State, new_state, all_turned, taken_out, bucket_at, present_in, acquired, Does, first_does, put_offered, put_alone, puts_in, offered, evicting_does, plain_does, got_by, key_does, first_or, firsts, found_next, goes_on, next_does, walked, after_walk, walks, read_does, counted_or, writes, write_does, after_handing, hands, each_does, does, after_one, answers}
use Rattle.place_words.specs.PlainTraces.{reply_of_put, reply_of_got, reply_of_gone}
use Rattle.place_words.specs.Turns.{on_lock, bucket_of_key}
use Rattle.place_words.specs.Walks.{buckets_from, stopped_at, pair_of, walked_out, refused_with, updates_of, deletes_of}
use Rattle.map_report.specs.Runs.{serial}

abbrev IsOther : Reply → Type 0
IsOther reply = error_of reply ≢ Some E2big

got_other : (got : Option (ℕ × List ℕ)) → IsOther (reply_of_got got)
got_other None = λ is. absurd cc
got_other (Some got) = λ is. absurd cc

gone_other : (gone : Option ℕ) → IsOther (reply_of_gone gone)
gone_other None = λ is. absurd cc
gone_other (Some e) = λ is. absurd cc

stopped_other : (taken : List (List ℕ × List ℕ)) → stopped_at taken ≢ Some E2big
stopped_other [] = λ is. absurd cc
stopped_other (pair ∷ taken) = λ is. absurd cc

done_other : IsOther Done
done_other = λ is. absurd cc

absent_other : IsOther (Refused Enoent)
absent_other = λ is. absurd cc

invalid_other : IsOther (Refused Einval)
invalid_other = λ is. absurd cc

-- the error of a refusal is told
refusal_told : (reply : Reply) → IsOther reply → refused_with reply ≢ Some E2big
refusal_told Done other = λ is. absurd cc
refusal_told (Value bytes) other = λ is. absurd cc
refusal_told (Refused errno) other = other
refusal_told (Batch stop taken next) other = λ is. absurd cc
refusal_told (Count stop done) other = λ is. absurd cc

module _ (shape : Shape) (lru : is_lru shape.kind ≡ true) (cpu number : ℕ) where
  -- Updates

  written_other : (one percpu : Bool) (e old : ℕ) → IsOther (reply_of_put (cond one puts.Exists (cond percpu (puts.Written old) (puts.Replaced e old))))
  written_other true percpu e old = λ is. absurd cc
  written_other false true e old = λ is. absurd cc
  written_other false false e old = λ is. absurd cc

  absent_or : (two : Bool) (e : ℕ) → IsOther (reply_of_put (cond two puts.Absent (puts.Added e)))
  absent_or true e = λ is. absurd cc
  absent_or false e = λ is. absurd cc

  put_other : (flags e : ℕ) (found : Option Stored) → IsOther (reply_of_put (put_offered shape flags e found))
  put_other flags e None = absent_or (eqb flags 2) e
  put_other flags e (Some old) = written_other (eqb flags 1) (is_percpu shape.kind) e old.element

  alone_other : (found : Option Stored) → IsOther (reply_of_put (put_alone found))
  alone_other None = λ is. absurd cc
  alone_other (Some old) = λ is. absurd cc

  offered_other : (side : Side) (flags : ℕ) (key value : List ℕ) (state : State) (got : Option ℕ) → IsOther (offered shape cpu number side flags key value state got).reply
  offered_other side flags key value state None = λ is. absurd cc
  offered_other side flags key value state (Some e) = put_other flags e (present_in shape state key)

  evicting_other : (side : Side) (flags : ℕ) (key value : List ℕ) (state : State) → IsOther (evicting_does shape cpu number side flags key value state).reply
  evicting_other side flags key value state = by (is_percpu shape.kind && eqb flags 2)
    where
      by : (alone : Bool) → IsOther (cond alone (puts_in shape side flags key value (put_alone (present_in shape state key)))
          (first_does (acquired shape cpu number (hash key shape.seed) state).turns (offered shape cpu number side flags key value (all_turned shape cpu number (acquired shape cpu number (hash key shape.seed) state).turns state) (acquired shape cpu number (hash key shape.seed) state).got))).reply
      by true = alone_other (present_in shape state key)
      by false = offered_other side flags key value (all_turned shape cpu number (acquired shape cpu number (hash key shape.seed) state).turns state) (acquired shape cpu number (hash key shape.seed) state).got

  update_other : (side : Side) (flags : ℕ) (key value : List ℕ) (state : State) (many evicts : Bool) → is_lru shape.kind ≡ evicts
      → IsOther (cond many (record { turns = []; reply = Refused Einval }) (cond evicts (evicting_does shape cpu number side flags key value state) (plain_does shape cpu side flags key value state (present_in shape state key)))).reply
  update_other side flags key value state true evicts is = invalid_other
  update_other side flags key value state false true is = evicting_other side flags key value state
  update_other side flags key value state false false is = absurd (true≢false (sym lru ∙ is))

  key_other : (state : State) (verb : Verb) → IsOther (key_does shape cpu number state verb).reply
  unfolding key_does
  key_other state (verbs.Lookup side key) = got_other (got_by shape side cpu (present_in shape state key))
  key_other state (verbs.Update side flags key value) = update_other side flags key value state (ltb 2 flags) (is_lru shape.kind) refl
  key_other state (verbs.Delete key) = gone_other (option_map (λ (stored : Stored). stored.element) (present_in shape state key))
  key_other state (verbs.Take key) = got_other (got_by shape Sys cpu (present_in shape state key))
  key_other state (verbs.Next key) = invalid_other
  key_other state (verbs.BatchRead remove count start flags) = invalid_other
  key_other state (verbs.BatchUpdate flags pairs) = invalid_other
  key_other state (verbs.BatchDelete flags keys) = invalid_other
  key_other state (verbs.Each flags stop) = invalid_other

  -- Next key

  first_other : (key : Option (List ℕ)) (later : Does) → IsOther later.reply → IsOther (first_or key later).reply
  first_other None later rest = rest
  first_other (Some key) later rest = λ is. absurd cc

  firsts_other : (state : State) (buckets : List ℕ) → IsOther (firsts shape state buckets).reply
  firsts_other state [] = absent_other
  firsts_other state (bucket ∷ buckets) = first_other (first_key (bucket_at shape state bucket)) (firsts shape state buckets) (firsts_other state buckets)

  goes_other : (state : State) (key : List ℕ) (found : NextFound) → IsOther (goes_on shape state key found).reply
  goes_other state key nexts.Absent = firsts_other state (buckets_from shape 0)
  goes_other state key nexts.Last = firsts_other state (buckets_from shape (bucket_of_key shape key + 1))
  goes_other state key (nexts.Key next) = λ is. absurd cc

  next_other : (state : State) (key : Option (List ℕ)) → IsOther (next_does shape state key).reply
  unfolding next_does
  next_other state None = firsts_other state (buckets_from shape 0)
  next_other state (Some key) = goes_other state key (found_next key (bucket_at shape state (bucket_of_key shape key)) (present_in shape state key))

  -- Batches

  walk_other : (bucket : ℕ) (before : List (List ℕ × List ℕ)) (result : Walked) (later : List (List ℕ × List ℕ) → Does) → ((now : List (List ℕ × List ℕ)) → IsOther (later now).reply) → IsOther (after_walk bucket before result later).reply
  walk_other bucket before (Over n) later rest = stopped_other before
  walk_other bucket before (Taken all) later rest = rest (before ++ map pair_of all)

  walks_other : (remove : Bool) (limit : ℕ) (state : State) (buckets : List ℕ) (before : List (List ℕ × List ℕ)) → IsOther (walks shape cpu number remove limit state buckets before).reply
  walks_other remove limit state [] before = λ is. absurd cc
  walks_other remove limit state (bucket ∷ buckets) before =
      let room : ℕ = limit - length before in
      let result : Walked = walked shape cpu room (bucket_at shape state bucket) in
      let next : State = all_turned shape cpu number (taken_out shape cpu number state (walked_out remove result) (on_lock (Bucket bucket) (parts.Bucket (Walk remove room result)))) state in
      walk_other bucket before result (λ now. walks shape cpu number remove limit next buckets now) (λ now. walks_other remove limit next buckets now)

  read_other : (state : State) (remove : Bool) (count : ℕ) (start : Option ℕ) (flags : ℕ) → IsOther (read_does shape cpu number state remove count start flags).reply
  unfolding read_does
  read_other state remove count start flags = by (eqb flags 0) (eqb count 0) (ltb (unwrap_or start 0) shape.buckets)
    where
      by : (plainly nothing there : Bool)
          → IsOther (cond plainly (cond nothing (record { turns = []; reply = Done }) (cond there (walks shape cpu number remove (min count shape.elements) state (buckets_from shape (unwrap_or start 0)) []) (record { turns = []; reply = Refused Enoent }))) (record { turns = []; reply = Refused Einval })).reply
      by true true there = done_other
      by true false true = walks_other remove (min count shape.elements) state (buckets_from shape (unwrap_or start 0)) []
      by true false false = absent_other
      by false nothing there = invalid_other

  counted_other : (told : Option Errno) (done : ℕ) (later : Does) → told ≢ Some E2big → IsOther later.reply → IsOther (counted_or told done later).reply
  counted_other None done later other rest = rest
  counted_other (Some errno) done later other rest = other

  writes_other : (state : State) (entries : List Verb) (done : ℕ) → IsOther (writes shape cpu number state entries done).reply
  writes_other state [] done = λ is. absurd cc
  writes_other state (entry ∷ entries) done =
      let one : Does = key_does shape cpu number state entry in
      counted_other (refused_with one.reply) done (writes shape cpu number (all_turned shape cpu number one.turns state) entries (suc done)) (refusal_told one.reply (key_other state entry))
      (writes_other (all_turned shape cpu number one.turns state) entries (suc done))

  write_other : (state : State) (flags : ℕ) (entries : List Verb) → IsOther (write_does shape cpu number state flags entries).reply
  write_other state flags entries = by (eqb flags 0)
    where
      by : (plainly : Bool) → IsOther (cond plainly (writes shape cpu number state entries 0) (record { turns = []; reply = Refused Einval })).reply
      by true = writes_other state entries 0
      by false = invalid_other

  -- Walks over all elements

  handing_other : (stop : Option (List ℕ)) (bucket : ℕ) (before : List (List ℕ × List ℕ)) (result : Walked) (later : List (List ℕ × List ℕ) → Does) → ((now : List (List ℕ × List ℕ)) → IsOther (later now).reply) → IsOther (after_handing shape cpu stop bucket before result later).reply
  handing_other stop bucket before (Over n) later rest = λ is. absurd cc
  handing_other stop bucket before (Taken all) later rest = by (list_any (is_stop stop) (map (handed shape cpu) all))
    where
      now : List (List ℕ × List ℕ)
      now = before ++ up_to_stop stop (map (handed shape cpu) all)

      by : (stopped : Bool) → IsOther (cond stopped (record { turns = []; reply = Batch None now (suc bucket) }) (later now)).reply
      by true = λ is. absurd cc
      by false = rest now

  hands_other : (state : State) (stop : Option (List ℕ)) (buckets : List ℕ) (before : List (List ℕ × List ℕ)) → IsOther (hands shape cpu state stop buckets before).reply
  hands_other state stop [] before = λ is. absurd cc
  hands_other state stop (bucket ∷ buckets) before =
      let room : ℕ = shape.elements - length before in
      handing_other stop bucket before (walked shape cpu room (bucket_at shape state bucket)) (λ now. hands shape cpu state stop buckets now) (λ now. hands_other state stop buckets now)

  each_other : (state : State) (flags : ℕ) (stop : Option (List ℕ)) → IsOther (each_does shape cpu state flags stop).reply
  unfolding each_does
  each_other state flags stop = by (eqb flags 0)
    where
      by : (plainly : Bool) → IsOther (cond plainly (hands shape cpu state stop (buckets_from shape 0) []) (record { turns = []; reply = Refused Einval })).reply
      by true = hands_other state stop (buckets_from shape 0) []
      by false = invalid_other

  -- every call
  call_other : (state : State) (verb : Verb) → IsOther (does shape cpu number state verb).reply
  unfolding does
  call_other state (verbs.Lookup side key) = key_other state (verbs.Lookup side key)
  call_other state (verbs.Update side flags key value) = key_other state (verbs.Update side flags key value)
  call_other state (verbs.Delete key) = key_other state (verbs.Delete key)
  call_other state (verbs.Take key) = key_other state (verbs.Take key)
  call_other state (verbs.Next key) = next_other state key
  call_other state (verbs.BatchRead remove count start flags) = read_other state remove count start flags
  call_other state (verbs.BatchUpdate flags pairs) = write_other state flags (updates_of pairs)
  call_other state (verbs.BatchDelete flags keys) = write_other state flags (deletes_of keys)
  call_other state (verbs.Each flags stop) = each_other state flags stop

none_too_big : (shape : Shape) → is_lru shape.kind ≡ true → (number : ℕ) (calls : List Call) (state : State) → All (λ (reply : Reply). error_of reply ≢ Some E2big) (answers shape number calls state)
none_too_big shape lru number [] state = All-nil (λ (reply : Reply). error_of reply ≢ Some E2big)
none_too_big shape lru number (call ∷ calls) state =
    All-cons (λ (reply : Reply). error_of reply ≢ Some E2big) (does shape call.cpu number state call.verb).reply (answers shape (suc number) calls (after_one shape number call state)) (call_other shape lru call.cpu number state call.verb)
    (none_too_big shape lru (suc number) calls (after_one shape number call state))

pub never_full : (script : Script) → is_lru script.shape.kind ≡ true → All (λ (reply : Reply). error_of reply ≢ Some E2big) (serial script).replies
unfolding serial
never_full script lru = none_too_big script.shape lru 1 script.calls (new_state script.shape)
