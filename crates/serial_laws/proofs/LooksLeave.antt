-- On a map of any kind a call that only looks leaves in each bucket what lay there.
use Rattle.std.proofs.Common.{◌≡◌, ℕ, zero, suc, ◌+◌, ◌-◌, Bool, true, false, cond, nat_lt, ◌==◌, List, [], ◌∷◌, ◌++◌, length, map, take, slice_get, Option, Some, None, add-one, refl, ap, sym, ◌∙◌, subst}
use Rattle.std.specs.Prelude.{min, reverse, unwrap_or, IsFalse, ⊤}
use Rattle.std.specs.List.{list_any}
use Rattle.std.proofs.lemmas.Option.{none-some, same_Some}
use Rattle.map_types.specs.Kind.{is_lru}
use Rattle.map_types.specs.Stored.{Stored}
use Rattle.map_types.specs.declared.attr.Shape.{Shape}
use Rattle.map_types.specs.declared.call.Call.{Call}
use Rattle.map_types.specs.declared.call.Verb.{Verb}
use Rattle.map_types.specs.declared.call.Verb.TheVariants as verbs
use Rattle.map_types.specs.declared.kind.DomainId.TheVariants.{Bucket}
use Rattle.map_types.specs.declared.refusal.Errno.TheVariants.{Enoent, Einval}
use Rattle.map_types.specs.declared.reply.Reply.TheVariants.{Done, Refused, Batch}
use Rattle.map_script.specs.declared.script.Script.{Script}
use Rattle.place_words.specs.declared.bucket_part.BucketPart.{BucketPart}
use Rattle.place_words.specs.declared.bucket_part.BucketPart.TheVariants.{Lookup, Update, Delete, Take, Next, First, Walk, Evict}
use Rattle.place_words.specs.declared.bucket_part.NextFound.{NextFound}
use Rattle.place_words.specs.declared.bucket_part.NextFound.TheVariants as nexts
use Rattle.place_words.specs.declared.bucket_part.Walked.{Walked}
use Rattle.place_words.specs.declared.bucket_part.Walked.TheVariants.{Over, Taken}
use Rattle.place_words.specs.declared.free_part.FreePart.TheVariants.{Pushed}
use Rattle.place_words.specs.declared.history.Part.{Part}
use Rattle.place_words.specs.declared.history.Part.TheVariants as parts
use Rattle.place_words.specs.Bodies.{first_key}
use Rattle.place_words.specs.Buckets.{bucket_after}
use Rattle.place_words.specs.Handing.{handed, is_stop, up_to_stop}
use Rattle.place_words.specs.Histories.{Content, in_bucket, bucket_in, content, content_after}
use Rattle.place_words.specs.Locks.{is_same_lock}
use Rattle.place_words.specs.Logs.{State, new_state, bucket_at, present_in, turned, all_turned, all_freed, taken_out, Does, first_or, firsts, found_next, goes_on, key_does, next_does, walked, after_walk, walks, read_does, after_handing, hands, each_does, does, after_one, run}
use Rattle.place_words.specs.Turns.{Turn, on_lock, on_freelist_of, bucket_of_key}
use Rattle.place_words.specs.Walks.{buckets_from, pair_of, walked_out}
use Rattle.place_words.proofs.DoneLaws.{lies_a_bucket}
use Rattle.place_words.proofs.HistoryLemmas.{content_more}
use Rattle.serial_laws.specs.Laws.{OnlyLooks}
use Rattle.serial_laws.specs.WalkLaws.{buckets_before}

-- a turn that looks at a bucket
abbrev LooksAt : BucketPart → Type 0
LooksAt (Lookup side key got) = ⊤
LooksAt (Update side flags key value offer put) = ⊥
LooksAt (Delete key removed) = ⊥
LooksAt (Take key removed) = ⊥
LooksAt (Next key found) = ⊤
LooksAt (First key) = ⊤
LooksAt (Walk remove room result) = IsFalse remove
LooksAt (Evict e probed) = ⊥

abbrev IsLook : Part → Type 0
IsLook (parts.Bucket part) = LooksAt part
IsLook (parts.Free part) = ⊥
IsLook (parts.Local part) = ⊥
IsLook (parts.Global part) = ⊥
IsLook (parts.Own part) = ⊥

abbrev AreLooks : List Turn → Type 0
AreLooks [] = ⊤
AreLooks (turn ∷ turns) = IsLook turn.part × AreLooks turns

module _ (shape : Shape) (cpu number : ℕ) where
  at_leaves : (part : BucketPart) → LooksAt part → (bodies : List Stored) → bucket_after shape cpu part bodies ≡ bodies
  unfolding bucket_after
  at_leaves (Lookup side key got) look bodies = refl
  at_leaves (Update side flags key value offer put) look bodies = absurd look
  at_leaves (Delete key removed) look bodies = absurd look
  at_leaves (Take key removed) look bodies = absurd look
  at_leaves (Next key found) look bodies = refl
  at_leaves (First key) look bodies = refl
  at_leaves (Walk remove room (Over n)) look bodies = refl
  at_leaves (Walk true room (Taken all)) look bodies = absurd cc
  at_leaves (Walk false room (Taken all)) look bodies = refl
  at_leaves (Evict e probed) look bodies = absurd look

  part_leaves : (part : Part) → IsLook part → (bodies : List Stored) → unwrap_or (bucket_in (content_after shape cpu part (in_bucket bodies))) [] ≡ bodies
  part_leaves (parts.Bucket part) look bodies = at_leaves part look bodies
  part_leaves (parts.Free part) look bodies = absurd look
  part_leaves (parts.Local part) look bodies = absurd look
  part_leaves (parts.Global part) look bodies = absurd look
  part_leaves (parts.Own part) look bodies = absurd look

  turn_leaves : (turn : Turn) → IsLook turn.part → (state : State) (bucket : ℕ) → bucket_at shape (turned shape cpu number turn state) bucket ≡ bucket_at shape state bucket
  turn_leaves turn look state bucket = by (is_same_lock turn.lock (Bucket bucket))
    where
      by : (b : Bool) → unwrap_or (bucket_in (content shape (Bucket bucket) (cond b (state.logs (Bucket bucket) ++ record { ticket = state.next_ticket; cpu = cpu; call = number; part = turn.part } ∷ []) (state.logs (Bucket bucket))))) [] ≡ bucket_at shape state bucket
      by true =
          ap (λ (c : Content). unwrap_or (bucket_in c) []) (content_more shape (Bucket bucket) (state.logs (Bucket bucket)) (record { ticket = state.next_ticket; cpu = cpu; call = number; part = turn.part })
          ∙ ap (content_after shape cpu turn.part) (lies_a_bucket shape state bucket))
          ∙ part_leaves turn.part look (bucket_at shape state bucket)
      by false = refl

  turns_leave : (turns : List Turn) → AreLooks turns → (state : State) (bucket : ℕ) → bucket_at shape (all_turned shape cpu number turns state) bucket ≡ bucket_at shape state bucket
  turns_leave [] looks state bucket = refl
  turns_leave (turn ∷ turns) looks state bucket = turns_leave turns looks.1 (turned shape cpu number turn state) bucket ∙ turn_leaves turn looks.0 state bucket

  looks_both : (xs ys : List Turn) → AreLooks xs → AreLooks ys → AreLooks (xs ++ ys)
  looks_both [] ys first second = second
  looks_both (turn ∷ xs) ys first second = (first.0, looks_both xs ys first.1 second)

  -- Next key

  first_looks : (key : Option (List ℕ)) (later : Does) → AreLooks later.turns → AreLooks (first_or key later).turns
  first_looks None later rest = rest
  first_looks (Some key) later rest = tt

  firsts_look : (state : State) (buckets : List ℕ) → AreLooks (firsts shape state buckets).turns
  firsts_look state [] = tt
  firsts_look state (bucket ∷ buckets) = (tt, first_looks (first_key (bucket_at shape state bucket)) (firsts shape state buckets) (firsts_look state buckets))

  goes_look : (state : State) (key : List ℕ) (found : NextFound) → AreLooks (goes_on shape state key found).turns
  goes_look state key nexts.Absent = firsts_look state (buckets_from shape 0)
  goes_look state key nexts.Last = firsts_look state (buckets_from shape (bucket_of_key shape key + 1))
  goes_look state key (nexts.Key next) = tt

  next_looks : (state : State) (key : Option (List ℕ)) → AreLooks (next_does shape state key).turns
  unfolding next_does
  next_looks state None = firsts_look state (buckets_from shape 0)
  next_looks state (Some key) = (tt, goes_look state key (found_next key (bucket_at shape state (bucket_of_key shape key)) (present_in shape state key)))

  -- Batch reads that remove nothing

  -- what a walk does at a bucket
  abbrev pub bucket_turns : State → ℕ → ℕ → Walked → List Turn
  bucket_turns state bucket room result = taken_out shape cpu number state (walked_out false result) (on_lock (Bucket bucket) (parts.Bucket (Walk false room result)))

  one_turn : (state : State) (turn : Turn) → IsLook turn.part → AreLooks (taken_out shape cpu number state [] turn)
  one_turn state turn look = by (is_lru shape.kind)
    where
      by : (b : Bool) → AreLooks (cond b (turn ∷ all_freed shape cpu number (turned shape cpu number turn state) (reverse [])) (map (λ e. on_freelist_of cpu (Pushed e)) [] ++ turn ∷ []))
      by true = (look, tt)
      by false = (look, tt)

  bucket_looks : (state : State) (bucket room : ℕ) (result : Walked) → AreLooks (bucket_turns state bucket room result)
  bucket_looks state bucket room (Over n) = one_turn state (on_lock (Bucket bucket) (parts.Bucket (Walk false room (Over n)))) refl
  bucket_looks state bucket room (Taken all) = one_turn state (on_lock (Bucket bucket) (parts.Bucket (Walk false room (Taken all)))) refl

  pub turns_stay : (state : State) (bucket room : ℕ) (result : Walked) (other : ℕ) → bucket_at shape (all_turned shape cpu number (bucket_turns state bucket room result) state) other ≡ bucket_at shape state other
  turns_stay state bucket room result other = turns_leave (bucket_turns state bucket room result) (bucket_looks state bucket room result) state other

  walk_looks : (bucket : ℕ) (before : List (List ℕ × List ℕ)) (result : Walked) (later : List (List ℕ × List ℕ) → Does) → ((now : List (List ℕ × List ℕ)) → AreLooks (later now).turns) → AreLooks (after_walk bucket before result later).turns
  walk_looks bucket before (Over n) later rest = tt
  walk_looks bucket before (Taken all) later rest = rest (before ++ map pair_of all)

  walks_look : (limit : ℕ) (state : State) (buckets : List ℕ) (before : List (List ℕ × List ℕ)) → AreLooks (walks shape cpu number false limit state buckets before).turns
  walks_look limit state [] before = tt
  walks_look limit state (bucket ∷ buckets) before =
      let room : ℕ = limit - length before in
      let result : Walked = walked shape cpu room (bucket_at shape state bucket) in
      let turns : List Turn = bucket_turns state bucket room result in
      looks_both turns _ (bucket_looks state bucket room result)
      (walk_looks bucket before result (λ now. walks shape cpu number false limit (all_turned shape cpu number turns state) buckets now) (λ now. walks_look limit (all_turned shape cpu number turns state) buckets now))

  read_looks : (state : State) (count : ℕ) (start : Option ℕ) (flags : ℕ) → AreLooks (read_does shape cpu number state false count start flags).turns
  unfolding read_does
  read_looks state count start flags = by (flags == 0) (count == 0) (nat_lt (unwrap_or start 0) shape.buckets)
    where
      by : (plainly nothing there : Bool)
          → AreLooks (cond plainly (cond nothing (record { turns = []; reply = Done }) (cond there (walks shape cpu number false (min count shape.elements) state (buckets_from shape (unwrap_or start 0)) []) (record { turns = []; reply = Refused Enoent }))) (record { turns = []; reply = Refused Einval })).turns
      by true true there = tt
      by true false true = walks_look (min count shape.elements) state (buckets_from shape (unwrap_or start 0)) []
      by true false false = tt
      by false nothing there = tt

  -- Walks over all elements

  handing_looks : (stop : Option (List ℕ)) (bucket : ℕ) (before : List (List ℕ × List ℕ)) (result : Walked) (later : List (List ℕ × List ℕ) → Does) → ((now : List (List ℕ × List ℕ)) → AreLooks (later now).turns) → AreLooks (after_handing shape cpu stop bucket before result later).turns
  handing_looks stop bucket before (Over n) later rest = tt
  handing_looks stop bucket before (Taken all) later rest = by (list_any (is_stop stop) (map (handed shape cpu) all))
    where
      now : List (List ℕ × List ℕ)
      now = before ++ up_to_stop stop (map (handed shape cpu) all)

      by : (stopped : Bool) → AreLooks (cond stopped (record { turns = []; reply = Batch None now (suc bucket) }) (later now)).turns
      by true = tt
      by false = rest now

  hands_look : (state : State) (stop : Option (List ℕ)) (buckets : List ℕ) (before : List (List ℕ × List ℕ)) → AreLooks (hands shape cpu state stop buckets before).turns
  hands_look state stop [] before = tt
  hands_look state stop (bucket ∷ buckets) before =
      let room : ℕ = shape.elements - length before in
      let result : Walked = walked shape cpu room (bucket_at shape state bucket) in
      looks_both (on_lock (Bucket bucket) (parts.Bucket (Walk false room result)) ∷ []) _ (walk_is_look bucket room result)
      (handing_looks stop bucket before result (λ now. hands shape cpu state stop buckets now) (λ now. hands_look state stop buckets now))
    where
      walk_is_look : (bucket room : ℕ) (result : Walked) → AreLooks (on_lock (Bucket bucket) (parts.Bucket (Walk false room result)) ∷ [])
      walk_is_look bucket room (Over n) = (refl, tt)
      walk_is_look bucket room (Taken all) = (refl, tt)

  each_looks : (state : State) (flags : ℕ) (stop : Option (List ℕ)) → AreLooks (each_does shape cpu state flags stop).turns
  unfolding each_does
  each_looks state flags stop = by (flags == 0)
    where
      by : (plainly : Bool) → AreLooks (cond plainly (hands shape cpu state stop (buckets_from shape 0) []) (record { turns = []; reply = Refused Einval })).turns
      by true = hands_look state stop (buckets_from shape 0) []
      by false = tt

  -- every call that only looks
  call_looks : (state : State) (verb : Verb) → OnlyLooks verb → AreLooks (does shape cpu number state verb).turns
  unfolding does key_does
  call_looks state (verbs.Lookup side key) look = (tt, tt)
  call_looks state (verbs.Update side flags key value) look = absurd look
  call_looks state (verbs.Delete key) look = absurd look
  call_looks state (verbs.Take key) look = absurd look
  call_looks state (verbs.Next key) look = next_looks state key
  call_looks state (verbs.BatchRead remove count start flags) look = subst (λ (b : Bool). AreLooks (read_does shape cpu number state b count start flags).turns) (sym look) (read_looks state count start flags)
  call_looks state (verbs.BatchUpdate flags pairs) look = absurd look
  call_looks state (verbs.BatchDelete flags keys) look = absurd look
  call_looks state (verbs.Each flags stop) look = each_looks state flags stop

-- a call that only looks, and such calls one after another
pub look_leaves : (shape : Shape) (call : Call) (number : ℕ) (state : State) → OnlyLooks call.verb → (bucket : ℕ) → bucket_at shape (after_one shape number call state) bucket ≡ bucket_at shape state bucket
look_leaves shape call number state look bucket =
    turns_leave shape call.cpu number (does shape call.cpu number state call.verb).turns (call_looks shape call.cpu number state call.verb look) state bucket

abbrev pub AllLook : List Call → Type 0
AllLook [] = ⊤
AllLook (call ∷ calls) = OnlyLooks call.verb × AllLook calls

pub run_leaves : (shape : Shape) (calls : List Call) (number : ℕ) (state : State) → AllLook calls → (bucket : ℕ) → bucket_at shape (run shape number calls state) bucket ≡ bucket_at shape state bucket
run_leaves shape [] number state look bucket = refl
run_leaves shape (call ∷ calls) number state look bucket = run_leaves shape calls (suc number) (after_one shape number call state) look.1 bucket ∙ look_leaves shape call number state look.0 bucket

-- the call of an index
left_there : (shape : Shape) (calls : List Call) (n : ℕ) (call : Call) (number : ℕ) (state : State) → slice_get calls n ≡ Some call → OnlyLooks call.verb → (bucket : ℕ)
    → bucket_at shape (run shape number (take (suc n) calls) state) bucket ≡ bucket_at shape (run shape number (take n calls) state) bucket
left_there shape [] n call number state is look bucket = absurd (none-some call is)
left_there shape (first ∷ calls) zero call number state is look bucket =
    let looks : OnlyLooks first.verb = subst (λ (c : Call). OnlyLooks c.verb) (sym (same_Some first call is)) look in
    look_leaves shape first number state looks bucket
left_there shape (first ∷ calls) (suc n) call number state is look bucket = left_there shape calls n call (suc number) (after_one shape number first state) is look bucket

pub looks_leave : (script : Script) (n : ℕ) (call : Call) → slice_get script.calls n ≡ Some call → OnlyLooks call.verb → (bucket : ℕ) → buckets_before script (n + 1) bucket ≡ buckets_before script n bucket
looks_leave script n call is look bucket = rw add-one (left_there script.shape script.calls n call 1 (new_state script.shape) is look bucket)
