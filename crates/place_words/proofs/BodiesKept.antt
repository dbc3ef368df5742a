-- What holds of each element in a bucket, as that its key and its values have their sizes, holds at each moment of a run in serial
-- order, where it holds of what calls write.
use Rattle.std.proofs.Common.{ℕ, suc, ◌+◌, ◌<◌, Bool, true, false, cond, List, [], ◌∷◌, ◌++◌, ap, sym, ◌∙◌, subst}
use Rattle.std.specs.Prelude.{Option, None, Some, All, find, option_map, option_to_list, unwrap_or}
use Rattle.std.specs.List.{flat_map, range_with_len, position_or_len}
use Rattle.std.proofs.lemmas.List.Elements.{All-nil, All-cons, All-append, All-head, All-tail, All-take, All-drop, All-map, All-weaker}
use Rattle.map_types.specs.declared.attr.Shape.{Shape}
use Rattle.map_types.specs.declared.call.Call.{Call}
use Rattle.map_types.specs.declared.kind.DomainId.{DomainId}
use Rattle.map_types.specs.declared.kind.DomainId.TheVariants.{Local, Global, CpuLru, Bucket}
use Rattle.map_types.specs.declared.kind.Side.{Side}
use Rattle.map_types.specs.declared.row.Row.{Row}
use Rattle.map_types.specs.Sides.{values_written}
use Rattle.map_types.specs.Stored.{Stored}
use Rattle.place_words.specs.declared.bucket_part.BucketPart.{BucketPart}
use Rattle.place_words.specs.declared.bucket_part.BucketPart.TheVariants.{Lookup, Update, Delete, Take, Next, First, Walk, Evict}
use Rattle.place_words.specs.declared.bucket_part.Put.{Put}
use Rattle.place_words.specs.declared.bucket_part.Put.TheVariants as puts
use Rattle.place_words.specs.declared.bucket_part.Seen.TheVariants.{Removed, Held}
use Rattle.place_words.specs.declared.bucket_part.Walked.TheVariants.{Over, Taken}
use Rattle.place_words.specs.declared.history.Part.{Part}
use Rattle.place_words.specs.declared.history.Part.TheVariants as parts
use Rattle.place_words.specs.declared.list_part.GlobalPart.{GlobalPart}
use Rattle.place_words.specs.declared.list_part.LocalPart.{LocalPart}
use Rattle.place_words.specs.declared.list_part.OwnPart.TheVariants as own
use Rattle.place_words.specs.declared.visits.Try.{Try}
use Rattle.place_words.specs.Bodies.{has_key, has_number, without_key}
use Rattle.place_words.specs.Buckets.{new_stored, written_over, bucket_after_put, bucket_after}
use Rattle.place_words.specs.Choices.{own_turn, global_turn, refill_of, refill_got, steal_of, steal_got}
use Rattle.place_words.specs.Histories.{Content, content, content_after, bucket_in, in_bucket, replayed}
use Rattle.place_words.specs.Locals.{LocalLists}
use Rattle.place_words.specs.Locks.{is_same_lock}
use Rattle.place_words.specs.Logs.{State, turned, all_turned, lies_in, bucket_at, locals_at, globals_at, own_at, Taking, got_or, probed, taken_own, home_or, stolen, refilled, taken_shared, acquired, freed_at, freeing, does, new_state, after_one}
use Rattle.place_words.specs.Sets.{has_row}
use Rattle.place_words.specs.Takings.{probes_of, stored_hash, evicts, listed_rows, rows_brought, set_of}
use Rattle.place_words.specs.Turns.{Turn, ring, on_lock}
use Rattle.place_words.proofs.DoneLaws.{lies_a_bucket}
use Rattle.place_words.proofs.EachTurn.{IsOfCall, IsOfWalk, VerbPasses, TurnLaw, does_right}
use Rattle.place_words.proofs.HistoryLemmas.{content_more}

-- a turn that writes only what passes
abbrev pub WritesIn : (Side → List ℕ → List ℕ → Type 0) → BucketPart → Type 0
WritesIn Passes (Lookup side key got) = Unit {0}
WritesIn Passes (Update side flags key value offer put) = Passes side key value
WritesIn Passes (Delete key removed) = Unit {0}
WritesIn Passes (Take key removed) = Unit {0}
WritesIn Passes (Next key found) = Unit {0}
WritesIn Passes (First key) = Unit {0}
WritesIn Passes (Walk remove room result) = Unit {0}
WritesIn Passes (Evict e probed) = Unit {0}

abbrev pub Writes : (Side → List ℕ → List ℕ → Type 0) → Part → Type 0
Writes Passes (parts.Bucket part) = WritesIn Passes part
Writes Passes (parts.Free part) = Unit {0}
Writes Passes (parts.Local part) = Unit {0}
Writes Passes (parts.Global part) = Unit {0}
Writes Passes (parts.Own part) = Unit {0}

abbrev pub AllWrite : (Side → List ℕ → List ℕ → Type 0) → List Turn → Type 0
AllWrite Passes [] = Unit {0}
AllWrite Passes (turn ∷ turns) = Writes Passes turn.part × AllWrite Passes turns

module _ (shape : Shape) (Passes : Side → List ℕ → List ℕ → Type 0) where
  write_both : (xs ys : List Turn) → AllWrite Passes xs → AllWrite Passes ys → AllWrite Passes (xs ++ ys)
  write_both [] ys first second = second
  write_both (turn ∷ xs) ys first second = (first.0, write_both xs ys first.1 second)

  of_call : (of : List ℕ) (part : BucketPart) → IsOfCall Passes of part → WritesIn Passes part
  of_call of (Lookup side key got) is = tt
  of_call of (Update side flags key value offer put) is = is.1
  of_call of (Delete key removed) is = tt
  of_call of (Take key removed) is = tt
  of_call of (Next key found) is = tt
  of_call of (First key) is = tt
  of_call of (Walk remove room result) is = tt
  of_call of (Evict e probed) is = absurd is

  of_walk : (part : BucketPart) → IsOfWalk part → WritesIn Passes part
  of_walk (Lookup side key got) is = absurd is
  of_walk (Update side flags key value offer put) is = absurd is
  of_walk (Delete key removed) is = absurd is
  of_walk (Take key removed) is = absurd is
  of_walk (Next key found) is = absurd is
  of_walk (First key) is = tt
  of_walk (Walk remove room result) is = tt
  of_walk (Evict e probed) is = absurd is

  -- taking and freeing write nothing
  evict_writes : (probe : Try) (key_hash : Option ℕ) → AllWrite Passes (option_to_list (option_map (evicts shape probe) key_hash))
  evict_writes probe None = tt
  evict_writes probe (Some key_hash) = (tt, tt)

  chase_writes : (rows : List Row) (probes : List Try) → AllWrite Passes (flat_map (λ (probe : Try). option_to_list (option_map (evicts shape probe) (stored_hash probe.element rows))) probes)
  chase_writes rows [] = tt
  chase_writes rows (probe ∷ probes) = write_both (option_to_list (option_map (evicts shape probe) (stored_hash probe.element rows))) _ (evict_writes probe (stored_hash probe.element rows)) (chase_writes rows probes)

  probed_writes : (state : State) (lock : DomainId) (part : Part) → Writes Passes part → AllWrite Passes (probed shape state lock part)
  probed_writes state lock part one = write_both _ (on_lock lock part ∷ []) (chase_writes (rows_brought part ++ listed_rows (lies_in shape state lock)) (probes_of part)) (one, tt)

  home_writes : (cpu key_hash from : ℕ) (got : Option ℕ) (later : Taking) → AllWrite Passes later.turns → AllWrite Passes (home_or shape cpu key_hash from got later).turns
  home_writes cpu key_hash from None later rest = rest
  home_writes cpu key_hash from (Some e) later rest = (tt, tt)

  stolen_writes : (cpu key_hash : ℕ) (state : State) (cpus : List ℕ) → AllWrite Passes (stolen shape cpu key_hash state cpus).turns
  stolen_writes cpu key_hash state [] = tt
  stolen_writes cpu key_hash state (from ∷ others) =
      let lists : LocalLists = locals_at shape state from in
      let part : LocalPart = steal_of state.bits lists.free lists.pending in
      write_both (probed shape state (Local from) (parts.Local part)) _ (probed_writes state (Local from) (parts.Local part) tt)
      (home_writes cpu key_hash from (steal_got part) (stolen shape cpu key_hash state others) (stolen_writes cpu key_hash state others))

  later_writes : (got : Option ℕ) (later : Taking) → AllWrite Passes later.turns → AllWrite Passes (got_or got later).turns
  later_writes None later rest = rest
  later_writes (Some e) later rest = tt

  refilled_writes : (cpu number key_hash : ℕ) (state : State) (lists : LocalLists) → AllWrite Passes (refilled shape cpu number key_hash state lists).turns
  unfolding refilled
  refilled_writes cpu number key_hash state lists =
      let inner : GlobalPart = global_turn state.bits lists.pending (globals_at shape state) in
      let refill : LocalPart = refill_of key_hash inner in
      let turns : List Turn = probed shape state Global (parts.Global inner) ++ on_lock (Local cpu) (parts.Local refill) ∷ [] in
      write_both turns _ (write_both (probed shape state Global (parts.Global inner)) (on_lock (Local cpu) (parts.Local refill) ∷ []) (probed_writes state Global (parts.Global inner) tt) (tt, tt))
      (later_writes (refill_got refill) (stolen shape cpu key_hash (all_turned shape cpu number turns state) (ring lists.steal shape.cpus)) (stolen_writes cpu key_hash (all_turned shape cpu number turns state) (ring lists.steal shape.cpus)))

  shared_writes : (cpu number key_hash : ℕ) (state : State) (lists : LocalLists) (free : List ℕ) → AllWrite Passes (taken_shared shape cpu number key_hash state lists free).turns
  shared_writes cpu number key_hash state lists [] = refilled_writes cpu number key_hash state lists
  shared_writes cpu number key_hash state lists (e ∷ free) = (tt, tt)

  own_writes : (cpu key_hash : ℕ) (state : State) → AllWrite Passes (taken_own shape cpu key_hash state).turns
  unfolding taken_own
  own_writes cpu key_hash state = probed_writes state (CpuLru cpu) (parts.Own (own_turn key_hash state.bits (own_at shape state cpu))) tt

  pub acquired_writes : (cpu number key_hash : ℕ) (state : State) → AllWrite Passes (acquired shape cpu number key_hash state).turns
  unfolding acquired
  acquired_writes cpu number key_hash state = by shape.common
    where
      by : (common : Bool) → AllWrite Passes (cond common (taken_shared shape cpu number key_hash state (locals_at shape state cpu) (locals_at shape state cpu).free) (taken_own shape cpu key_hash state)).turns
      by true = shared_writes cpu number key_hash state (locals_at shape state cpu) (locals_at shape state cpu).free
      by false = own_writes cpu key_hash state

  freed_writes : (e : ℕ) (home : Option ℕ) → Writes Passes (freed_at e home).part
  freed_writes e None = tt
  freed_writes e (Some on) = tt

  pub freeing_writes : (state : State) (e : ℕ) → Writes Passes (freeing shape state e).part
  unfolding freeing
  freeing_writes state e = by shape.common
    where
      by : (common : Bool) → Writes Passes (cond common (freed_at e (find (λ on. has_row e (locals_at shape state on).pending) (range_with_len 0 shape.cpus))) (on_lock (CpuLru (set_of shape e)) (parts.Own (own.Push e)))).part
      by true = freed_writes e (find (λ on. has_row e (locals_at shape state on).pending) (range_with_len 0 shape.cpus))
      by false = tt

  -- Bodies
  module _ (P : Stored → Type 0)
      (new : (side : Side) (cpu e : ℕ) (key value : List ℕ) → cpu < shape.cpus → Passes side key value → P (new_stored shape side cpu e key value))
      (written : (side : Side) (cpu : ℕ) (key value : List ℕ) (body : Stored) → cpu < shape.cpus → Passes side key value → P body → P (record body { values = values_written shape side cpu body.values value })) where
    abbrev AllAre : List Stored → Type 0
    AllAre bodies = All (λ (body : Stored). P body) bodies

    around : (test : Stored → Bool) (bodies : List Stored) → AllAre bodies → AllAre (Rattle.std.specs.List.before_first test bodies ++ Rattle.std.specs.List.after_first test bodies)
    around test bodies all = All-append (λ (body : Stored). P body) (Rattle.std.specs.List.before_first test bodies) (Rattle.std.specs.List.after_first test bodies)
        (All-take (λ (body : Stored). P body) (position_or_len test bodies) bodies all) (All-drop (λ (body : Stored). P body) (position_or_len test bodies + 1) bodies all)

    over : (side : Side) (cpu : ℕ) (key value : List ℕ) (body : Stored) → cpu < shape.cpus → Passes side key value → P body → P (written_over shape side cpu key value body)
    over side cpu key value body within pass is = by (has_key key body)
      where
        by : (b : Bool) → P (cond b (record body { values = values_written shape side cpu body.values value }) body)
        by true = written side cpu key value body within pass is
        by false = is

    put_keeps : (side : Side) (cpu : ℕ) (key value : List ℕ) → cpu < shape.cpus → Passes side key value → (put : Put) (bodies : List Stored) → AllAre bodies → AllAre (bucket_after_put shape side cpu key value put bodies)
    put_keeps side cpu key value within pass (puts.Added e) bodies all = All-cons (λ (body : Stored). P body) (new_stored shape side cpu e key value) bodies (new side cpu e key value within pass) all
    put_keeps side cpu key value within pass (puts.Replaced fresh old) bodies all =
        All-cons (λ (body : Stored). P body) (new_stored shape side cpu fresh key value) (without_key key bodies) (new side cpu fresh key value within pass) (around (has_key key) bodies all)
    put_keeps side cpu key value within pass (puts.Written e) bodies all =
        All-map (λ (body : Stored). P body) (written_over shape side cpu key value) bodies
        (All-weaker (λ (body : Stored). P body) (λ (body : Stored). P (written_over shape side cpu key value body)) (λ body is. over side cpu key value body within pass is) bodies all)
    put_keeps side cpu key value within pass puts.Exists bodies all = all
    put_keeps side cpu key value within pass puts.Absent bodies all = all
    put_keeps side cpu key value within pass puts.Full bodies all = all

    part_keeps : (cpu : ℕ) → cpu < shape.cpus → (part : BucketPart) → WritesIn Passes part → (bodies : List Stored) → AllAre bodies → AllAre (bucket_after shape cpu part bodies)
    unfolding bucket_after
    part_keeps cpu within (Lookup side key got) pass bodies all = all
    part_keeps cpu within (Update side flags key value offer put) pass bodies all = put_keeps side cpu key value within pass put bodies all
    part_keeps cpu within (Delete key None) pass bodies all = all
    part_keeps cpu within (Delete key (Some e)) pass bodies all = around (has_key key) bodies all
    part_keeps cpu within (Take key None) pass bodies all = all
    part_keeps cpu within (Take key (Some got)) pass bodies all = around (has_key key) bodies all
    part_keeps cpu within (Next key found) pass bodies all = all
    part_keeps cpu within (First key) pass bodies all = all
    part_keeps cpu within (Walk remove room (Over n)) pass bodies all = all
    part_keeps cpu within (Walk true room (Taken gone)) pass bodies all = All-nil (λ (body : Stored). P body)
    part_keeps cpu within (Walk false room (Taken gone)) pass bodies all = all
    part_keeps cpu within (Evict e Removed) pass bodies all = around (has_number e) bodies all
    part_keeps cpu within (Evict e (Held holder)) pass bodies all = all

    content_keeps : (cpu : ℕ) → cpu < shape.cpus → (part : Part) → Writes Passes part → (bodies : List Stored) → AllAre bodies → AllAre (unwrap_or (bucket_in (content_after shape cpu part (in_bucket bodies))) [])
    content_keeps cpu within (parts.Bucket part) pass bodies all = part_keeps cpu within part pass bodies all
    content_keeps cpu within (parts.Free part) pass bodies all = all
    content_keeps cpu within (parts.Local part) pass bodies all = all
    content_keeps cpu within (parts.Global part) pass bodies all = all
    content_keeps cpu within (parts.Own part) pass bodies all = all

    abbrev pub BucketsAre : State → Type 0
    BucketsAre state = (bucket : ℕ) → All (λ (body : Stored). P body) (bucket_at shape state bucket)

    turned_keeps : (cpu number : ℕ) → cpu < shape.cpus → (turn : Turn) (state : State) → Writes Passes turn.part → BucketsAre state → BucketsAre (turned shape cpu number turn state)
    turned_keeps cpu number within turn state pass are bucket = by (is_same_lock turn.lock (Bucket bucket))
      where
        by : (b : Bool) → All (λ (body : Stored). P body) (unwrap_or (bucket_in (content shape (Bucket bucket) (cond b (state.logs (Bucket bucket) ++ (record { ticket = state.next_ticket; cpu = cpu; call = number; part = turn.part }) ∷ []) (state.logs (Bucket bucket))))) [])
        by true =
            let lies = content_more shape (Bucket bucket) (state.logs (Bucket bucket)) (record { ticket = state.next_ticket; cpu = cpu; call = number; part = turn.part }) ∙ ap (content_after shape cpu turn.part) (lies_a_bucket shape state bucket) in
            subst (λ (here : Content). All (λ (body : Stored). P body) (unwrap_or (bucket_in here) [])) (sym lies) (content_keeps cpu within turn.part pass (bucket_at shape state bucket) (are bucket))
        by false = are bucket

    all_keep : (cpu number : ℕ) → cpu < shape.cpus → (turns : List Turn) → AllWrite Passes turns → (state : State) → BucketsAre state → BucketsAre (all_turned shape cpu number turns state)
    all_keep cpu number within [] pass state are = are
    all_keep cpu number within (turn ∷ turns) pass state are = all_keep cpu number within turns pass.1 (turned shape cpu number turn state) (turned_keeps cpu number within turn state pass.0 are)

    bodies_law : (cpu number : ℕ) → cpu < shape.cpus → TurnLaw shape cpu number Passes (λ state. (bucket : ℕ) → All (λ (body : Stored). P body) (bucket_at shape state bucket)) (λ turns. AllWrite Passes turns) (Unit {0})
    bodies_law cpu number within = record {
      none = tt;
      both = write_both;
      keeps = λ turns pass state are. all_keep cpu number within turns pass state are;
      in_key = λ key part is. (of_call key part is, tt);
      in_bucket = λ bucket below part is. (of_walk part is, tt);
      pushes = λ plain e. (tt, tt);
      looks = λ plain from there part. (tt, tt);
      frees = λ lru state e. (freeing_writes state e, tt);
      takes = λ lru key_hash state are. acquired_writes cpu number key_hash state;
      lacks = λ lru key_hash state are none. tt;
    }

    -- at each moment of a run
    abbrev pub BucketsAlong : ℕ → List Call → State → Type 0
    BucketsAlong number [] state = BucketsAre state
    BucketsAlong number (call ∷ calls) state = BucketsAre state × BucketsAlong (suc number) calls (after_one shape number call state)

    pub buckets_along : (number : ℕ) (calls : List Call) (state : State) → All (λ (call : Call). call.cpu < shape.cpus) calls → All (λ (call : Call). VerbPasses Passes call.verb) calls → BucketsAre state → BucketsAlong number calls state
    buckets_along number [] state served pass are = are
    buckets_along number (call ∷ calls) state served pass are =
        let within : call.cpu < shape.cpus = All-head (λ (one : Call). one.cpu < shape.cpus) call calls served in
        let right = does_right (bodies_law call.cpu number within) state are call.verb (All-head (λ (one : Call). VerbPasses Passes one.verb) call calls pass) in (
          are,
          buckets_along (suc number) calls (after_one shape number call state) (All-tail (λ (one : Call). one.cpu < shape.cpus) call calls served) (All-tail (λ (one : Call). VerbPasses Passes one.verb) call calls pass)
              (all_keep call.cpu number within (does shape call.cpu number state call.verb).turns right.fits state are),
        )

    pub first_are : BucketsAre (new_state shape)
    unfolding replayed
    first_are bucket = All-nil (λ (body : Stored). P body)
