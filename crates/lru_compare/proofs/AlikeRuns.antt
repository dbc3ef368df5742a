-- Whole runs answer alike, where an element is free at each call.
use Rattle.std.proofs.Common.{◌≡◌, ℕ, zero, suc, ◌+◌, ◌/◌, ◌%◌, ◌≤◌, ◌<◌, Bool, true, false, not, ◌&&◌, nat_lt, ◌==◌, cond, eqb, List, [], ◌∷◌, ◌++◌, length, All, Option, Some, None, is_some, option_map, refl, ap, sym, ◌∙◌, subst, arith}
use Rattle.std.specs.Prelude.{bytes_eq, option_to_list, slice_get, reverse, drop, filter, find, MatchOption}
use Rattle.std.specs.List.{list_any, AllByRecursion}
use Rattle.std.proofs.lemmas.Bool.{eq-eqb, le-ltb}
use Rattle.map_types.specs.ElementLists.{times}
use Rattle.map_types.specs.Listed.{elements_of}
use Rattle.map_types.specs.declared.attr.Shape.{Shape}
use Rattle.map_types.specs.declared.call.Call.{Call}
use Rattle.map_types.specs.declared.call.Verb.{Verb}
use Rattle.map_types.specs.declared.call.Verb.TheVariants as verbs
use Rattle.map_types.specs.declared.kind.DomainId.TheVariants.{CpuLru}
use Rattle.map_types.specs.declared.kind.MapKind.TheVariants.{LruHash}
use Rattle.map_types.specs.declared.kind.Side.{Side}
use Rattle.map_types.specs.declared.kind.Side.TheVariants.{Sys}
use Rattle.map_types.specs.declared.refusal.Errno.TheVariants.{Enoent, Eexist, Einval}
use Rattle.map_types.specs.declared.reply.Reply.{Reply}
use Rattle.map_types.specs.declared.reply.Reply.TheVariants.{Done, Value, Refused}
use Rattle.map_types.specs.Kind.{is_lru, is_percpu}
use Rattle.map_types.specs.Stored.{Stored}
use Rattle.key_hash.specs.Jhash.{hash}
use Rattle.place_words.specs.declared.bucket_part.BucketPart.TheVariants.{Update, Delete, Take}
use Rattle.place_words.specs.declared.list_part.OwnPart.{OwnPart}
use Rattle.place_words.specs.AtRest.{IsAtRest, IsStart, sum_over, list_locks, locks_below, rows_on, elements_on, is_of}
use Rattle.place_words.specs.Bodies.{present, has_key, numbers}
use Rattle.place_words.specs.Histories.{own_in, replayed}
use Rattle.place_words.specs.Logs.{State, Taking, Does, first_does, lies_in, bucket_at, own_at, present_in, turned, all_turned, acquired, all_freed, taken_out, got_by, put_offered, offered, evicting_does, plain_does, puts_in, put_alone, does, key_does, after_one, answers, new_state}
use Rattle.place_words.specs.Locks.{is_lock}
use Rattle.place_words.specs.Moves.{elements_of_set}
use Rattle.place_words.specs.Openings.{is_free, opening_free, opening_owner, opening_stack}
use Rattle.place_words.specs.PlainTraces.{reply_of_put, reply_of_got, reply_of_gone, element_gone}
use Rattle.place_words.specs.Sets.{ListSet}
use Rattle.place_words.specs.Shares.{pushed_from, share_first, share_count}
use Rattle.place_words.specs.Takings.{set_of}
use Rattle.place_words.specs.Turns.{Turn, bucket_of_key, on_bucket_of}
use Rattle.place_words.proofs.ListContents.{lies_own}
use Rattle.place_words.proofs.ListTurns.{rows_fewer}
use Rattle.place_words.proofs.AnyStart.{done_from}
use Rattle.std.proofs.lemmas.List.Elements.{All-nil, All-cons}
use Rattle.lru_compare.specs.Strict as strict
use Rattle.lru_compare.specs.Strict.{Held, value_of, without, with_pairs, looked_up, unless_refused, refusal, after_call, holds_none}
use Rattle.lru_compare.specs.Law.{different}
use Rattle.lru_compare.proofs.FewKeys.{Agree, Meet, stored_hits, meets, some_free, fits, pair_hits}
use Rattle.lru_compare.proofs.OwnSets.{taking_part, taking_turn, acquires_free, bucket_beside, own_turned, free_taken}
use Rattle.lru_compare.proofs.AlikeSteps.{picked_first, picked_second, after_key, stays, looks, removes, frees, key_stays, free_beside, delete_keeps, take_keeps, delete_out, take_out, reads_value, puts_alike}

-- Where elements live

times_append : (e : ℕ) (xs ys : List ℕ) → times e (xs ++ ys) ≡ times e xs + times e ys
times_append e [] ys = omega arith
times_append e (x ∷ xs) ys = elim (eqb x e) as (λ b. cond b (suc (times e (xs ++ ys))) (times e (xs ++ ys)) ≡ cond b (suc (times e xs)) (times e xs) + times e ys) [
  | true ↦ omega (arith, times_append e xs ys)
  | false ↦ omega (arith, times_append e xs ys)
]

times_head : (e : ℕ) (xs : List ℕ) → 1 ≤ times e (e ∷ xs)
times_head e xs = subst (λ b. 1 ≤ cond b (suc (times e xs)) (times e xs)) (sym (eq-eqb e e refl)) (omega arith)

found_stands : (key : List ℕ) (bodies : List Stored) (s : Stored) → present key bodies ≡ Some s → 1 ≤ times s.element (numbers bodies)
found_stands key [] s is = cc
found_stands key (body ∷ bodies) s is = (elim (has_key key body) as (λ b. cond b (Some body) (find (has_key key) bodies) ≡ Some s → 1 ≤ times s.element (body.element ∷ numbers bodies)) [
  | true ↦ λ here. let same : body ≡ s = cc in subst (λ (t : Stored). 1 ≤ times t.element (body.element ∷ numbers bodies)) same (times_head body.element (numbers bodies))
  | false ↦ λ later. let there = found_stands key bodies s later in
      (elim (eqb body.element s.element) as (λ b. 1 ≤ cond b (suc (times s.element (numbers bodies))) (times s.element (numbers bodies))) [
        | true ↦ omega arith
        | false ↦ there
      ])
]) is

module _ (shape : Shape) (apart : shape.common ≡ false) (alone : shape.cpus ≡ 1) (state : State) (rests : IsAtRest shape (lies_in shape state)) where
  -- what stands in the one set lives there
  lives_in_set : (e : ℕ) → 1 ≤ times e (elements_of_set (own_at shape state 0)) → set_of shape e ≡ 0
  lives_in_set = subst (λ c. MatchOption (own_in c) ⊥ (λ (set : ListSet). (e : ℕ) → 1 ≤ times e (elements_of_set set) → set_of shape e ≡ 0)) (lies_own shape state 0) (rests.fit (CpuLru 0))

  pub free_lives : (e : ℕ) (rest : List ℕ) → (own_at shape state 0).free ≡ e ∷ rest → set_of shape e ≡ 0
  free_lives e rest is =
      let set : ListSet = own_at shape state 0 in
      let some : 1 ≤ times e set.free = subst (λ l. 1 ≤ times e l) (sym is) (times_head e rest) in
      lives_in_set e (omega (arith, some, times_append e set.free (elements_of set.lists.active ++ elements_of set.lists.inactive)))

  pub stored_lives : (key : List ℕ) (s : Stored) → present key (bucket_at shape state (bucket_of_key shape key)) ≡ Some s → set_of shape s.element ≡ 0
  stored_lives key s is =
      let bucket : ℕ = bucket_of_key shape key in
      let stands : 1 ≤ times s.element (numbers (bucket_at shape state bucket)) = found_stands key (bucket_at shape state bucket) s is in
      let locks : list_locks shape ≡ CpuLru 0 ∷ [] = picked_second shape.common _ _ apart ∙ ap (locks_below CpuLru) alone in
      let sum : sum_over (rows_on s.element (is_of shape bucket)) (lies_in shape state) (list_locks shape) ≡ rows_on s.element (is_of shape bucket) (lies_in shape state (CpuLru 0)) + 0 = ap (sum_over (rows_on s.element (is_of shape bucket)) (lies_in shape state)) locks in
      let lies : elements_on s.element (lies_in shape state (CpuLru 0)) ≡ times s.element (elements_of_set (own_at shape state 0)) = ap (elements_on s.element) (lies_own shape state 0) in
      lives_in_set s.element (omega (arith, stands, rests.placed s.element bucket, sum, rows_fewer s.element (is_of shape bucket) (lies_in shape state (CpuLru 0)), lies))

-- One call

-- what is asked of a call: it names one of the keys
abbrev pub Asks : List (List ℕ) → Verb → Type 0
Asks named (verbs.Lookup side key) = list_any (bytes_eq key) named ≡ true
Asks named (verbs.Update side flags key value) = list_any (bytes_eq key) named ≡ true
Asks named (verbs.Delete key) = list_any (bytes_eq key) named ≡ true
Asks named (verbs.Take key) = list_any (bytes_eq key) named ≡ true
Asks named (verbs.Next key) = ⊥
Asks named (verbs.BatchRead remove count start flags) = ⊥
Asks named (verbs.BatchUpdate flags pairs) = ⊥
Asks named (verbs.BatchDelete flags keys) = ⊥
Asks named (verbs.Each flags stop) = ⊥

module _ (shape : Shape) (named : List (List ℕ)) (number : ℕ) (kind : shape.kind ≡ LruHash) (apart : shape.common ≡ false) (alone : shape.cpus ≡ 1) (state : State) (held : Held)
    (rests : IsAtRest shape (lies_in shape state)) (agree : Agree shape 0 named state held) (fewer : different named < shape.elements) where
  -- what a call does is what strict recency makes of it
  abbrev pub Alike : Does → Held × Reply → Type 0
  Alike did after = (did.reply ≡ after.1) × Agree shape 0 named (all_turned shape 0 number did.turns state) after.0

  alike_lookup : (side : Side) (key : List ℕ) → list_any (bytes_eq key) named ≡ true → Alike (does shape 0 number state (verbs.Lookup side key)) (after_call (verbs.Lookup side key) held)
  unfolding does key_does after_call
  alike_lookup side key is_named = looks agree number kind apart key is_named side (present_in shape state key) (value_of key held) (meets agree key)

  -- a turn that takes a key out, and what it frees
  out_is : (gone : List ℕ) (turn : Turn) → taken_out shape 0 number state gone turn ≡ turn ∷ all_freed shape 0 number (turned shape 0 number turn state) (reverse gone)
  out_is gone turn = picked_first (is_lru shape.kind) _ _ (ap is_lru kind)

  delete_by : (key : List ℕ) → list_any (bytes_eq key) named ≡ true → (found : Option Stored) (value : Option (List ℕ)) → Meet (pair_hits key held.pairs) found value
      → ((s : Stored) → found ≡ Some s → set_of shape s.element ≡ 0)
      → (reply_of_gone (option_map (λ (s : Stored). s.element) found) ≡ (strict.taken_out key (λ v. Done) value held).1)
      × Agree shape 0 named (all_turned shape 0 number (on_bucket_of shape key (Delete key (option_map (λ (s : Stored). s.element) found)) ∷ all_freed shape 0 number (after_key shape 0 number key (Delete key (option_map (λ (s : Stored). s.element) found)) state) (reverse (option_to_list (option_map (λ (s : Stored). s.element) found)))) state) (strict.taken_out key (λ v. Done) value held).0
  delete_by key is_named None None meet lives = (
    refl,
    stays agree (after_key shape 0 number key (Delete key None) state) (key_stays shape 0 number key (Delete key None) state (delete_keeps shape 0 key _)) (ap length (free_beside shape 0 number key (Delete key None) state)),
  )
  delete_by key is_named None (Some value) meet lives = absurd meet
  delete_by key is_named (Some found) None meet lives = absurd meet
  delete_by key is_named (Some found) (Some value) meet lives = (
    refl,
    frees agree number kind apart found.element (after_key shape 0 number key (Delete key (Some found.element)) state) (with_pairs held (without key held)) (lives found refl)
        (removes agree number kind apart key is_named (Delete key (Some found.element)) found value (lives found refl) (delete_out shape 0 key found.element _) meet.1),
  )

  alike_delete : (key : List ℕ) → list_any (bytes_eq key) named ≡ true → Alike (does shape 0 number state (verbs.Delete key)) (after_call (verbs.Delete key) held)
  unfolding does key_does after_call
  alike_delete key is_named =
      let by = delete_by key is_named (present_in shape state key) (value_of key held) (meets agree key) (stored_lives shape apart alone state rests key) in (
        by.0,
        subst (λ turns. Agree shape 0 named (all_turned shape 0 number turns state) (strict.taken_out key (λ v. Done) (value_of key held) held).0)
            (sym (out_is (option_to_list (option_map (λ (s : Stored). s.element) (present_in shape state key))) (on_bucket_of shape key (Delete key (option_map (λ (s : Stored). s.element) (present_in shape state key)))))) by.1,
      )

  take_by : (key : List ℕ) → list_any (bytes_eq key) named ≡ true → (found : Option Stored) (value : Option (List ℕ)) → Meet (pair_hits key held.pairs) found value
      → ((s : Stored) → found ≡ Some s → set_of shape s.element ≡ 0)
      → (reply_of_got (got_by shape Sys 0 found) ≡ (strict.taken_out key Value value held).1)
      × Agree shape 0 named (all_turned shape 0 number (on_bucket_of shape key (Take key (got_by shape Sys 0 found)) ∷ all_freed shape 0 number (after_key shape 0 number key (Take key (got_by shape Sys 0 found)) state) (reverse (option_to_list (element_gone (got_by shape Sys 0 found))))) state) (strict.taken_out key Value value held).0
  take_by key is_named None None meet lives = (
    refl,
    stays agree (after_key shape 0 number key (Take key None) state) (key_stays shape 0 number key (Take key None) state (take_keeps shape 0 key _)) (ap length (free_beside shape 0 number key (Take key None) state)),
  )
  take_by key is_named None (Some value) meet lives = absurd meet
  take_by key is_named (Some found) None meet lives = absurd meet
  take_by key is_named (Some found) (Some value) meet lives = (
    ap Value (reads_value agree number kind apart Sys 0 found.values value meet.0),
    frees agree number kind apart found.element (after_key shape 0 number key (Take key (got_by shape Sys 0 (Some found))) state) (with_pairs held (without key held)) (lives found refl)
        (removes agree number kind apart key is_named (Take key (got_by shape Sys 0 (Some found))) found value (lives found refl) (take_out shape 0 key _ _) meet.1),
  )

  alike_take : (key : List ℕ) → list_any (bytes_eq key) named ≡ true → Alike (does shape 0 number state (verbs.Take key)) (after_call (verbs.Take key) held)
  unfolding does key_does after_call
  alike_take key is_named =
      let by = take_by key is_named (present_in shape state key) (value_of key held) (meets agree key) (stored_lives shape apart alone state rests key) in (
        by.0,
        subst (λ turns. Agree shape 0 named (all_turned shape 0 number turns state) (strict.taken_out key Value (value_of key held) held).0)
            (sym (out_is (option_to_list (element_gone (got_by shape Sys 0 (present_in shape state key)))) (on_bucket_of shape key (Take key (got_by shape Sys 0 (present_in shape state key)))))) by.1,
      )

  -- an update whose element was taken
  abbrev with_taken : Side → ℕ → List ℕ → List ℕ → Taking → Does
  with_taken side flags key value got = first_does got.turns (offered shape 0 number side flags key value (all_turned shape 0 number got.turns state) got.got)

  from_taking : (side : Side) (flags : ℕ) (key value : List ℕ) (first second : Taking) → first ≡ second → Alike (with_taken side flags key value second) (strict.put_in flags key value held)
      → Alike (with_taken side flags key value first) (strict.put_in flags key value held)
  from_taking side flags key value first second same alike = subst (λ got. Alike (with_taken side flags key value got) (strict.put_in flags key value held)) (sym same) alike

  update_by : (side : Side) (flags : ℕ) (key value : List ℕ) → list_any (bytes_eq key) named ≡ true → nat_lt 2 flags ≡ false → (free : List ℕ) → (own_at shape state 0).free ≡ free → 1 ≤ length free
      → Alike (with_taken side flags key value (acquired shape 0 number (hash key shape.seed) state)) (strict.put_in flags key value held)
  update_by side flags key value is_named known [] is some = absurd (omega (arith, some))
  update_by side flags key value is_named known (e ∷ rest) is some =
      let plenty : 1 ≤ length (own_at shape state 0).free = some_free agree fewer in
      let part : OwnPart = taking_part shape 0 number (hash key shape.seed) state plenty in
      let turn : Turn = taking_turn shape 0 number (hash key shape.seed) state plenty in
      let taken : State = turned shape 0 number turn state in
      let buckets : (b : ℕ) → bucket_at shape taken b ≡ bucket_at shape state b = λ b. bucket_beside shape 0 number b 0 part state in
      let left : (own_at shape taken 0).free ≡ rest =
      ap (λ set. set.free) (own_turned shape 0 number 0 part state) ∙ free_taken (hash key shape.seed) state.bits (own_at shape state 0) (slice_get (own_at shape state 0).free 0) ∙ ap (drop 1) is in
      let alike = puts_alike agree number kind apart key is_named side flags value e rest is (free_lives shape apart alone state rests e rest is) (fits agree fewer) taken buckets left
      (present_in shape state key) (value_of key held) known (meets agree key) (stored_lives shape apart alone state rests key) in
      let same : present_in shape taken key ≡ present_in shape state key = ap (present key) (buckets (bucket_of_key shape key)) in
      let offered_alike : Alike (with_taken side flags key value (record { turns = turn ∷ []; got = Some e })) (strict.put_in flags key value held) =
      subst (λ found. Alike (record { turns = turn ∷ on_bucket_of shape key (Update side flags key value (Some e) (put_offered shape flags e found)) ∷ all_freed shape 0 number (turned shape 0 number (on_bucket_of shape key (Update side flags key value (Some e) (put_offered shape flags e found))) taken) (option_to_list (Rattle.place_words.specs.Evicting.left_over e (put_offered shape flags e found))); reply = reply_of_put (put_offered shape flags e found) }) (strict.put_in flags key value held)) (sym same) alike in
      from_taking side flags key value (acquired shape 0 number (hash key shape.seed) state) (record { turns = turn ∷ []; got = Some e })
      (acquires_free shape 0 number (hash key shape.seed) state plenty apart ∙ ap (λ l. record { turns = turn ∷ []; got = slice_get l 0 }) is) offered_alike

  alike_update : (side : Side) (flags : ℕ) (key value : List ℕ) → list_any (bytes_eq key) named ≡ true
      → Alike (does shape 0 number state (verbs.Update side flags key value)) (after_call (verbs.Update side flags key value) held)
  unfolding does key_does after_call
  alike_update side flags key value is_named = by (nat_lt 2 flags) refl where
    by : (b : Bool) → nat_lt 2 flags ≡ b → Alike (cond b (record { turns = []; reply = Refused Einval }) (cond (is_lru shape.kind) (evicting_does shape 0 number side flags key value state) (plain_does shape 0 side flags key value state (present_in shape state key)))) (strict.put_in flags key value held)
    by true known = subst (λ c. Alike (record { turns = []; reply = Refused Einval }) (unless_refused (cond c (Some Einval) (cond (is_some (value_of key held)) (cond (flags == 1) (Some Eexist) None) (cond (flags == 2) (Some Enoent) None))) (with_pairs held ((key, value) ∷ without key held)) held)) (sym known) (refl, agree)
    by false known =
        let evicting = update_by side flags key value is_named known (own_at shape state 0).free refl (some_free agree fewer) in
        let none_alone : Alike (evicting_does shape 0 number side flags key value state) (strict.put_in flags key value held) =
        subst (λ b. Alike (cond (b && (flags == 2)) (puts_in shape side flags key value (put_alone (present_in shape state key))) (with_taken side flags key value (acquired shape 0 number (hash key shape.seed) state))) (strict.put_in flags key value held)) (sym (ap is_percpu kind)) evicting in
        subst (λ b. Alike (cond b (evicting_does shape 0 number side flags key value state) (plain_does shape 0 side flags key value state (present_in shape state key))) (strict.put_in flags key value held)) (sym (ap is_lru kind)) none_alone

  pub alike_call : (verb : Verb) → Asks named verb → Alike (does shape 0 number state verb) (after_call verb held)
  alike_call (verbs.Lookup side key) is_named = alike_lookup side key is_named
  alike_call (verbs.Update side flags key value) is_named = alike_update side flags key value is_named
  alike_call (verbs.Delete key) is_named = alike_delete key is_named
  alike_call (verbs.Take key) is_named = alike_take key is_named
  alike_call (verbs.Next key) asks = absurd asks
  alike_call (verbs.BatchRead remove count start flags) asks = absurd asks
  alike_call (verbs.BatchUpdate flags pairs) asks = absurd asks
  alike_call (verbs.BatchDelete flags keys) asks = absurd asks
  alike_call (verbs.Each flags stop) asks = absurd asks

-- A run

module _ (shape : Shape) (named : List (List ℕ)) (kind : shape.kind ≡ LruHash) (apart : shape.common ≡ false) (alone : shape.cpus ≡ 1) (fewer : different named < shape.elements) where
  -- the same on the CPU of a call
  alike_on : (cpu number : ℕ) (verb : Verb) (state : State) (held : Held) → cpu ≡ 0 → Asks named verb → IsStart shape state → Agree shape 0 named state held
      → ((does shape cpu number state verb).reply ≡ (after_call verb held).1) × Agree shape 0 named (all_turned shape cpu number (does shape cpu number state verb).turns state) (after_call verb held).0
  alike_on cpu number verb state held is asks start agree =
      subst (λ c. ((does shape c number state verb).reply ≡ (after_call verb held).1) × Agree shape 0 named (all_turned shape c number (does shape c number state verb).turns state) (after_call verb held).0) (sym is)
      (alike_call shape named number kind apart alone state held (start.rests (ap is_lru kind)) agree fewer verb asks)

  pub alike_run : (calls : List Call) (number : ℕ) (state : State) (held : Held) → AllByRecursion (λ (call : Call). (call.cpu ≡ 0) × Asks named call.verb) calls → IsStart shape state → Agree shape 0 named state held
      → strict.replies_from held calls ≡ answers shape number calls state
  alike_run [] number state held asked start agree = refl
  alike_run (call ∷ calls) number state held asked start agree =
      let now = alike_on call.cpu number call.verb state held asked.0.0 asked.0.1 start agree in
      let within : call.cpu < shape.cpus = omega (arith, asked.0.0, alone) in
      let served : All (λ (one : Call). one.cpu < shape.cpus) (call ∷ []) = All-cons (λ (one : Call). one.cpu < shape.cpus) call [] within (All-nil (λ (one : Call). one.cpu < shape.cpus)) in
      let start_then : IsStart shape (after_one shape number call state) = (done_from shape number (call ∷ []) state served start).1 in
      let rest = alike_run calls (suc number) (after_one shape number call state) (after_call call.verb held).0 asked.1 start_then now.1 in
      ap (λ r. r ∷ strict.replies_from (after_call call.verb held).0 calls) (sym now.0) ∙ ap (λ l. (does shape call.cpu number state call.verb).reply ∷ l) rest

-- The opening

all_free : (xs : List ℕ) (shape : Shape) → filter (λ e. is_free (opening_owner shape LruHash e)) xs ≡ xs
unfolding opening_owner
all_free [] shape = refl
all_free (x ∷ xs) shape = ap (λ l. x ∷ l) (all_free xs shape)

pushed_long : (a n : ℕ) → length (pushed_from a n) ≡ n
pushed_long a zero = refl
pushed_long a (suc n) = ap suc (pushed_long a n)

share_of_one : (elements : ℕ) → share_count elements 1 0 ≡ elements
share_of_one elements =
    let none : nat_lt 0 (elements % 1) ≡ false = le-ltb 0 (elements % 1) (omega arith) in
    ap (λ b. elements / 1 + cond b 1 0) none ∙ omega arith

stack_long : (shape : Shape) → shape.cpus ≡ 1 → length (opening_stack shape 0) ≡ shape.elements
unfolding opening_stack
stack_long shape alone =
    pushed_long (share_first shape.elements shape.cpus 0) (share_count shape.elements shape.cpus 0) ∙ ap (λ n. share_count shape.elements n 0) alone ∙ share_of_one shape.elements

set_there : (shape : Shape) → shape.kind ≡ LruHash → shape.common ≡ false → shape.cpus ≡ 1 → is_lock shape (CpuLru 0) ≡ true
set_there shape kind apart alone =
    ap (λ k. (is_lru k && not shape.common) && nat_lt 0 shape.cpus) kind ∙ ap (λ c. (true && not c) && nat_lt 0 shape.cpus) apart ∙ ap (λ n. nat_lt 0 n) alone

free_long : (shape : Shape) → shape.kind ≡ LruHash → shape.common ≡ false → shape.cpus ≡ 1 → length (opening_free shape (CpuLru 0)) ≡ shape.elements
unfolding opening_free
free_long shape kind apart alone =
    ap length (picked_first (is_lock shape (CpuLru 0)) (filter (λ e. is_free (opening_owner shape shape.kind e)) (opening_stack shape 0)) [] (set_there shape kind apart alone)
    ∙ ap (λ k. filter (λ e. is_free (opening_owner shape k e)) (opening_stack shape 0)) kind ∙ all_free (opening_stack shape 0) shape)
    ∙ stack_long shape alone

new_bucket : (shape : Shape) (bucket : ℕ) → bucket_at shape (new_state shape) bucket ≡ []
unfolding replayed
new_bucket shape bucket = refl

new_own : (shape : Shape) → (own_at shape (new_state shape) 0).free ≡ opening_free shape (CpuLru 0)
unfolding replayed
new_own shape = refl

pub agree_new : (shape : Shape) (named : List (List ℕ)) → shape.kind ≡ LruHash → shape.common ≡ false → shape.cpus ≡ 1 → shape.capacity ≡ shape.elements → Agree shape 0 named (new_state shape) (holds_none shape.capacity)
agree_new shape named kind apart alone room = record {
  same = λ key. ap (stored_hits key) (new_bucket shape (bucket_of_key shape key));
  once = λ key. omega arith;
  among = λ key none. refl;
  free = ap (λ l. length l + 0) (new_own shape) ∙ ap (λ n. n + 0) (free_long shape kind apart alone) ∙ omega arith;
  capacity = room;
}
