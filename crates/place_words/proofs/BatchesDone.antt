-- On a map that evicts next key and batches do in serial order what the rules say too, and the map is settled again after them.
use Rattle.std.proofs.Common.{◌≡◌, ℕ, suc, ◌+◌, ◌-◌, Bool, true, false, cond, eqb, ltb, List, [], ◌∷◌, ◌++◌, length, map, reverse, refl, ap, ◌∙◌, sym, subst, arith}
use Rattle.std.specs.Prelude.{Option, None, Some, MatchOption, MatchBool, nat_lt, min, unwrap_or}
use Rattle.std.specs.List.{list_any}
use Rattle.std.proofs.lemmas.Bool.{cond-true, ltb-true, ltb-false}
use Rattle.map_types.specs.declared.attr.Shape.{Shape}
use Rattle.map_types.specs.declared.call.Verb.{Verb}
use Rattle.map_types.specs.declared.call.Verb.TheVariants as verbs
use Rattle.map_types.specs.declared.kind.DomainId.{DomainId}
use Rattle.map_types.specs.declared.kind.DomainId.TheVariants.{Bucket}
use Rattle.map_types.specs.declared.refusal.Errno.{Errno}
use Rattle.map_types.specs.declared.refusal.Errno.TheVariants.{Enoent, Einval}
use Rattle.map_types.specs.declared.reply.Reply.{Reply}
use Rattle.map_types.specs.declared.reply.Reply.TheVariants.{Done, Refused, Batch, Count}
use Rattle.map_types.specs.ElementLists.{times}
use Rattle.map_types.specs.Kind.{is_lru}
use Rattle.map_types.specs.Stored.{Stored}
use Rattle.place_words.specs.declared.bucket_part.BucketPart.{BucketPart}
use Rattle.place_words.specs.declared.bucket_part.BucketPart.TheVariants.{Next, First, Walk}
use Rattle.place_words.specs.declared.bucket_part.NextFound.{NextFound}
use Rattle.place_words.specs.declared.bucket_part.NextFound.TheVariants as nexts
use Rattle.place_words.specs.declared.bucket_part.Walked.{Walked}
use Rattle.place_words.specs.declared.bucket_part.Walked.TheVariants.{Over, Taken}
use Rattle.place_words.specs.declared.history.Part.TheVariants as parts
use Rattle.place_words.specs.Bodies.{first_key}
use Rattle.place_words.specs.Buckets.{AllowsInBucket, AllowsWalk, as_read}
use Rattle.place_words.specs.Handing.{IsHandingTrace, StopsAt, handed, is_stop, up_to_stop}
use Rattle.place_words.specs.Histories.{Content}
use Rattle.place_words.specs.Logs.{State, lies_in, bucket_at, present_in, turned, all_turned, placed, all_freed, taken_out, Does, first_does, key_does, first_or, firsts, found_next, goes_on, next_does, walked, after_walk, walks, read_does, counted_or, writes, write_does, after_handing, hands, each_does, does}
use Rattle.place_words.specs.Moves.{brought_to_bucket, taken_from_bucket}
use Rattle.place_words.specs.Traces.{IsTrace}
use Rattle.place_words.specs.Turns.{Turn, TurnAt, on_lock, bucket_of_key, after_turns, AreAllowed}
use Rattle.place_words.specs.Walks.{buckets_from, IsNextTrace, TakesOut, walked_out, pair_of, Walks, IsKeyTrace, spare_left, refused_with, Writes, IsWriteBatch, updates_of, deletes_of}
use Rattle.place_words.proofs.DoneLaws.{allowed_both, IsKeyVerb}
use Rattle.place_words.proofs.EvictingDone.{IsAtRest, IsServed, freed_all, settled_then, freed_allowed, freed_settled, key_served}
use Rattle.place_words.proofs.KeepLaws.{times_turned}
use Rattle.place_words.proofs.PlacedContents.{after_both, lies_after_all}
use Rattle.place_words.proofs.PlacedLaws.{placed-append, placed_turns}
use Rattle.place_words.proofs.PlainlyDone.{AreKeyVerbs, updates_served, deletes_served}
use Rattle.place_words.proofs.Settled.{IsSettled, settled_anywhere}
use Rattle.place_words.proofs.Supplies.{first_of_two, Supplies}
use Rattle.place_words.proofs.WalksDone.{after_look, first_leaves, next_leaves, walk_leaves, next_done, each_done}

-- A call's turns are a trace of it with its reply, on a CPU with this spare, each may be made at its place, and then nothing is
-- in hand.
pub record IsKept (shape : Shape) (cpu number : ℕ) (spare : Option ℕ) (state : State) (verb : Verb) (did : Does) : Type 0 where
  pub trace : IsTrace shape cpu spare verb (placed shape cpu number did.turns state) did.reply
  pub allowed : AreAllowed shape cpu (lies_in shape state) did.turns
  pub settled : IsAtRest shape (after_turns shape cpu (lies_in shape state) did.turns)

-- Next key only reads buckets

module _ (shape : Shape) (cpu : ℕ) (state : State) where
  first_or_leaves : (key : Option (List ℕ)) (later : Does) → after_turns shape cpu (lies_in shape state) later.turns ≡ lies_in shape state → after_turns shape cpu (lies_in shape state) (first_or key later).turns ≡ lies_in shape state
  first_or_leaves None later rest = rest
  first_or_leaves (Some key) later rest = refl

  firsts_leave : (buckets : List ℕ) → after_turns shape cpu (lies_in shape state) (firsts shape state buckets).turns ≡ lies_in shape state
  firsts_leave [] = refl
  firsts_leave (bucket ∷ buckets) =
      let key : Option (List ℕ) = first_key (bucket_at shape state bucket) in
      ap (λ (c : DomainId → Content). after_turns shape cpu c (first_or key (firsts shape state buckets)).turns) (after_look shape cpu bucket (First key) (lies_in shape state) (first_leaves shape cpu key))
      ∙ first_or_leaves key (firsts shape state buckets) (firsts_leave buckets)

  goes_leave : (key : List ℕ) (found : NextFound) → after_turns shape cpu (lies_in shape state) (goes_on shape state key found).turns ≡ lies_in shape state
  goes_leave key nexts.Absent = firsts_leave (buckets_from shape 0)
  goes_leave key nexts.Last = firsts_leave (buckets_from shape (bucket_of_key shape key + 1))
  goes_leave key (nexts.Key next) = refl

  next_leave : (key : Option (List ℕ)) → after_turns shape cpu (lies_in shape state) (next_does shape state key).turns ≡ lies_in shape state
  unfolding next_does
  next_leave None = firsts_leave (buckets_from shape 0)
  next_leave (Some key) =
      let found : NextFound = found_next key (bucket_at shape state (bucket_of_key shape key)) (present_in shape state key) in
      ap (λ (c : DomainId → Content). after_turns shape cpu c (goes_on shape state key found).turns) (after_look shape cpu (bucket_of_key shape key) (Next key found) (lies_in shape state) (next_leaves shape cpu key found))
      ∙ goes_leave key found

  pub next_kept : IsAtRest shape (lies_in shape state) → (number : ℕ) (spare : Option ℕ) (key : Option (List ℕ)) → IsKept shape cpu number spare state (verbs.Next key) (next_does shape state key)
  next_kept rest_now number spare key =
      let done = next_done shape cpu state key in
      record {
        trace = subst (λ (turns : List Turn). IsNextTrace shape key turns (next_does shape state key).reply) (sym (placed_turns shape cpu number (next_does shape state key).turns state)) done.0;
        allowed = done.1;
        settled = subst (IsAtRest shape) (sym (next_leave key)) rest_now;
      }

-- A walk over all elements only reads buckets too

module _ (shape : Shape) (cpu : ℕ) (state : State) (stop : Option (List ℕ)) where
  handing_leaves : (bucket : ℕ) (before : List (List ℕ × List ℕ)) (result : Walked) (later : List (List ℕ × List ℕ) → Does) → ((now : List (List ℕ × List ℕ)) → after_turns shape cpu (lies_in shape state) (later now).turns ≡ lies_in shape state)
      → after_turns shape cpu (lies_in shape state) (after_handing shape cpu stop bucket before result later).turns ≡ lies_in shape state
  handing_leaves bucket before (Over n) later rest = refl
  handing_leaves bucket before (Taken all) later rest = by (list_any (is_stop stop) (map (handed shape cpu) all))
    where
      by : (stopped : Bool) → after_turns shape cpu (lies_in shape state) (cond stopped (record { turns = []; reply = Batch None (before ++ up_to_stop stop (map (handed shape cpu) all)) (suc bucket) }) (later (before ++ up_to_stop stop (map (handed shape cpu) all)))).turns ≡ lies_in shape state
      by true = refl
      by false = rest (before ++ up_to_stop stop (map (handed shape cpu) all))

  hands_leave : (buckets : List ℕ) (before : List (List ℕ × List ℕ)) → after_turns shape cpu (lies_in shape state) (hands shape cpu state stop buckets before).turns ≡ lies_in shape state
  hands_leave [] before = refl
  hands_leave (bucket ∷ buckets) before =
      let room : ℕ = shape.elements - length before in
      let result : Walked = walked shape cpu room (bucket_at shape state bucket) in
      let later : List (List ℕ × List ℕ) → Does = λ now. hands shape cpu state stop buckets now in
      ap (λ (c : DomainId → Content). after_turns shape cpu c (after_handing shape cpu stop bucket before result later).turns) (after_look shape cpu bucket (Walk false room result) (lies_in shape state) (walk_leaves shape cpu room result))
      ∙ handing_leaves bucket before result later (λ now. hands_leave buckets now)

  each_leaves : (flags : ℕ) → after_turns shape cpu (lies_in shape state) (each_does shape cpu state flags stop).turns ≡ lies_in shape state
  unfolding each_does
  each_leaves flags = by (eqb flags 0)
    where
      by : (plainly : Bool) → after_turns shape cpu (lies_in shape state) (cond plainly (hands shape cpu state stop (buckets_from shape 0) []) (record { turns = []; reply = Refused Einval })).turns ≡ lies_in shape state
      by true = hands_leave (buckets_from shape 0) []
      by false = refl

  pub each_kept : IsAtRest shape (lies_in shape state) → (number : ℕ) (spare : Option ℕ) (flags : ℕ) → IsKept shape cpu number spare state (verbs.Each flags stop) (each_does shape cpu state flags stop)
  each_kept rest_now number spare flags =
      let did : Does = each_does shape cpu state flags stop in
      let done = each_done shape cpu state stop flags in
      record {
        trace = subst (λ (turns : List Turn). IsHandingTrace shape cpu (StopsAt stop) flags turns did.reply) (sym (placed_turns shape cpu number did.turns state)) done.0;
        allowed = done.1;
        settled = subst (IsAtRest shape) (sym (each_leaves flags)) rest_now;
      }

-- Batch reads

walk_allowed : (shape : Shape) (cpu room : ℕ) (bodies : List Stored) → AllowsWalk shape cpu room (walked shape cpu room bodies) bodies
walk_allowed shape cpu room bodies = by (ltb room (length bodies)) refl
  where
    by : (more : Bool) → ltb room (length bodies) ≡ more → AllowsWalk shape cpu room (cond more (Over (length bodies)) (Taken (map (as_read shape cpu) bodies))) bodies
    by true is = (refl, ltb-true room (length bodies) is)
    by false is = (ltb-false room (length bodies) is, refl)

pub walk_takes : (remove : Bool) (room : ℕ) (result : Walked) (x : ℕ) → times x (brought_to_bucket (Walk remove room result)) + times x (walked_out remove result) ≡ times x (taken_from_bucket (Walk remove room result)) + times x []
walk_takes remove room (Over n) x = refl
walk_takes true room (Taken all) x = omega arith
walk_takes false room (Taken all) x = refl

module _ (shape : Shape) (cpu number : ℕ) (supplies : Supplies shape cpu) (lru : is_lru shape.kind ≡ true) where
  -- what a walk over buckets did
  record AreWalked (state : State) (remove : Bool) (limit : ℕ) (buckets : List ℕ) (before : List (List ℕ × List ℕ)) (did : Does) : Type 0 where
    trace : Walks shape cpu remove limit buckets before (placed shape cpu number did.turns state) did.reply
    allowed : AreAllowed shape cpu (lies_in shape state) did.turns
    settled : IsAtRest shape (after_turns shape cpu (lies_in shape state) did.turns)

  -- one bucket
  record WalksOne (state : State) (bucket : ℕ) (remove : Bool) (room : ℕ) (result : Walked) (turns : List Turn) : Type 0 where
    takes : TakesOut shape cpu (on_lock (Bucket bucket) (parts.Bucket (Walk remove room result))) (walked_out remove result) (placed shape cpu number turns state)
    allowed : AreAllowed shape cpu (lies_in shape state) turns
    settled : IsAtRest shape (after_turns shape cpu (lies_in shape state) turns)

  walk_one : (state : State) → IsAtRest shape (lies_in shape state) → (bucket : ℕ) (remove : Bool) (room : ℕ) (result : Walked) → AllowsInBucket shape cpu (Walk remove room result) (bucket_at shape state bucket)
      → WalksOne state bucket remove room result (taken_out shape cpu number state (walked_out remove result) (on_lock (Bucket bucket) (parts.Bucket (Walk remove room result))))
  walk_one state rest_now bucket remove room result may =
      let part : BucketPart = Walk remove room result in
      let turn : Turn = on_lock (Bucket bucket) (parts.Bucket part) in
      let gone : List ℕ = walked_out remove result in
      let here : IsSettled shape (lies_in shape state) bucket [] = settled_anywhere bucket rest_now in
      let moved : (x : ℕ) → times x (brought_to_bucket part) + times x (reverse gone) ≡ times x (taken_from_bucket part) + times x [] = λ x. omega (arith, walk_takes remove room result x, times_turned x gone) in
      let then : State = turned shape cpu number turn state in
      subst (λ (turns : List Turn). WalksOne state bucket remove room result turns) (sym (cond-true (is_lru shape.kind) _ _ lru)) (record {
        takes = first_of_two (is_lru shape.kind) _ _ lru (record {
          at_bucket = record { turn = turn; earlier = state.logs (Bucket bucket) };
          freeing = placed shape cpu number (all_freed shape cpu number then (reverse gone)) then;
          turns_are = refl;
          bucket_is = refl;
          frees = (freed_all shape cpu number supplies (reverse gone) then bucket (settled_then shape cpu number supplies state bucket part [] (reverse gone) here may moved)).frees;
        });
        allowed = freed_allowed shape cpu number supplies state bucket part [] (reverse gone) here may moved;
        settled = settled_anywhere 0 (freed_settled shape cpu number supplies state bucket part [] (reverse gone) here may moved);
      })

  may_walk : (state : State) (bucket : ℕ) (remove : Bool) (room : ℕ) → AllowsInBucket shape cpu (Walk remove room (walked shape cpu room (bucket_at shape state bucket))) (bucket_at shape state bucket)
  unfolding AllowsInBucket
  may_walk state bucket remove room = walk_allowed shape cpu room (bucket_at shape state bucket)

  walk_goes_on : (state : State) (remove : Bool) (limit bucket : ℕ) (buckets : List ℕ) (before : List (List ℕ × List ℕ)) (result : Walked) (one : List Turn) (later : List (List ℕ × List ℕ) → Does)
      → WalksOne state bucket remove (limit - length before) result one → ((now : List (List ℕ × List ℕ)) → AreWalked (all_turned shape cpu number one state) remove limit buckets now (later now))
      → AreWalked state remove limit (bucket ∷ buckets) before (first_does one (after_walk bucket before result later))
  walk_goes_on state remove limit bucket buckets before (Over n) one later walks_one rest = record {
    trace = (Over n, placed shape cpu number one state, [], (placed-append shape cpu number one [] state, walks_one.takes, (refl, refl)));
    allowed = allowed_both shape cpu (lies_in shape state) one [] walks_one.allowed tt;
    settled = subst (IsAtRest shape) (sym (after_both shape cpu (lies_in shape state) one [])) walks_one.settled;
  }
  walk_goes_on state remove limit bucket buckets before (Taken all) one later walks_one rest =
      let now : List (List ℕ × List ℕ) = before ++ map pair_of all in
      let then : State = all_turned shape cpu number one state in
      let turns : List Turn = (later now).turns in
      let next = rest now in
      let same = lies_after_all shape cpu number one state in
      record {
        trace = (Taken all, placed shape cpu number one state, placed shape cpu number turns then, (placed-append shape cpu number one turns state, walks_one.takes, next.trace));
        allowed = allowed_both shape cpu (lies_in shape state) one turns walks_one.allowed (subst (λ (c : DomainId → Content). AreAllowed shape cpu c turns) same next.allowed);
        settled = subst (IsAtRest shape) (sym (after_both shape cpu (lies_in shape state) one turns)) (subst (λ (c : DomainId → Content). IsAtRest shape (after_turns shape cpu c turns)) same next.settled);
      }

  walks_done : (buckets : List ℕ) (state : State) → IsAtRest shape (lies_in shape state) → (remove : Bool) (limit : ℕ) (before : List (List ℕ × List ℕ)) → AreWalked state remove limit buckets before (walks shape cpu number remove limit state buckets before)
  walks_done [] state rest_now remove limit before = record { trace = (refl, refl); allowed = tt; settled = rest_now }
  walks_done (bucket ∷ buckets) state rest_now remove limit before =
      let room : ℕ = limit - length before in
      let result : Walked = walked shape cpu room (bucket_at shape state bucket) in
      let one : List Turn = taken_out shape cpu number state (walked_out remove result) (on_lock (Bucket bucket) (parts.Bucket (Walk remove room result))) in
      let then : State = all_turned shape cpu number one state in
      let walks_one = walk_one state rest_now bucket remove room result (may_walk state bucket remove room) in
      let rest_then : IsAtRest shape (lies_in shape then) = subst (IsAtRest shape) (sym (lies_after_all shape cpu number one state)) walks_one.settled in
      walk_goes_on state remove limit bucket buckets before result one (λ now. walks shape cpu number remove limit then buckets now) walks_one (λ now. walks_done buckets then rest_then remove limit now)

  -- a choice of what a call does, with a choice of its traces
  record KeptBy (state : State) (Trace : List TurnAt → Reply → Type 0) (did : Does) : Type 0 where
    trace : Trace (placed shape cpu number did.turns state) did.reply
    allowed : AreAllowed shape cpu (lies_in shape state) did.turns
    settled : IsAtRest shape (after_turns shape cpu (lies_in shape state) did.turns)

  either_kept : (state : State) (b : Bool) (A B : List TurnAt → Reply → Type 0) (x y : Does) → KeptBy state A x → KeptBy state B y → KeptBy state (λ turns reply. MatchBool b (A turns reply) (B turns reply)) (cond b x y)
  either_kept state true A B x y one two = record { trace = one.trace; allowed = one.allowed; settled = one.settled }
  either_kept state false A B x y one two = record { trace = two.trace; allowed = two.allowed; settled = two.settled }

  answered : (state : State) → IsAtRest shape (lies_in shape state) → (answer : Reply) → KeptBy state (λ turns reply. (turns ≡ []) × (reply ≡ answer)) (record { turns = []; reply = answer })
  answered state rest_now answer = record { trace = (refl, refl); allowed = tt; settled = rest_now }

  walks_kept : (state : State) → IsAtRest shape (lies_in shape state) → (remove : Bool) (limit : ℕ) (buckets : List ℕ) → KeptBy state (λ turns reply. Walks shape cpu remove limit buckets [] turns reply) (walks shape cpu number remove limit state buckets [])
  walks_kept state rest_now remove limit buckets = let done = walks_done buckets state rest_now remove limit [] in record { trace = done.trace; allowed = done.allowed; settled = done.settled }

  pub read_kept : (state : State) → IsAtRest shape (lies_in shape state) → (spare : Option ℕ) (remove : Bool) (count : ℕ) (start : Option ℕ) (flags : ℕ)
      → IsKept shape cpu number spare state (verbs.BatchRead remove count start flags) (read_does shape cpu number state remove count start flags)
  unfolding read_does
  read_kept state rest_now spare remove count start flags =
      let kept = either_kept state (eqb flags 0) _ _ _ _
      (either_kept state (eqb count 0) _ _ _ _ (answered state rest_now Done)
      (either_kept state (nat_lt (unwrap_or start 0) shape.buckets) _ _ _ _
      (walks_kept state rest_now remove (min count shape.elements) (buckets_from shape (unwrap_or start 0)))
      (answered state rest_now (Refused Enoent))))
      (answered state rest_now (Refused Einval)) in
      record { trace = kept.trace; allowed = kept.allowed; settled = kept.settled }

  -- Batch writes

  entry_counted : (state : State) (spare : Option ℕ) (entry : Verb) (entries : List Verb) (done : ℕ) (one later : Does) (refused : Option Errno) → IsServed shape cpu number state entry one → refused_with one.reply ≡ refused
      → KeptBy (all_turned shape cpu number one.turns state) (λ turns reply. Writes shape cpu (spare_left shape spare (placed shape cpu number one.turns state)) entries (suc done) turns reply) later
      → KeptBy state (λ turns reply. Writes shape cpu spare (entry ∷ entries) done turns reply) (first_does one.turns (counted_or refused done later))
  entry_counted state spare entry entries done one later None served is rest =
      let then : State = all_turned shape cpu number one.turns state in
      let same = lies_after_all shape cpu number one.turns state in
      record {
        trace = (
          one.reply,
          placed shape cpu number one.turns state,
          placed shape cpu number later.turns then,
          (
            placed-append shape cpu number one.turns later.turns state,
            first_of_two (is_lru shape.kind) _ _ lru served.trace,
            subst (λ (o : Option Errno). MatchOption o (Writes shape cpu (spare_left shape spare (placed shape cpu number one.turns state)) entries (suc done) (placed shape cpu number later.turns then) later.reply)
                (λ errno. (placed shape cpu number later.turns then ≡ []) × (later.reply ≡ Count (Some errno) done))) (sym is) rest.trace,
          ),
        );
        allowed = allowed_both shape cpu (lies_in shape state) one.turns later.turns served.allowed (subst (λ (c : DomainId → Content). AreAllowed shape cpu c later.turns) same rest.allowed);
        settled = subst (IsAtRest shape) (sym (after_both shape cpu (lies_in shape state) one.turns later.turns)) (subst (λ (c : DomainId → Content). IsAtRest shape (after_turns shape cpu c later.turns)) same rest.settled);
      }
  entry_counted state spare entry entries done one later (Some errno) served is rest = record {
    trace = (
      one.reply,
      placed shape cpu number one.turns state,
      [],
      (
        placed-append shape cpu number one.turns [] state,
        first_of_two (is_lru shape.kind) _ _ lru served.trace,
        subst (λ (o : Option Errno). MatchOption o (Writes shape cpu (spare_left shape spare (placed shape cpu number one.turns state)) entries (suc done) [] (Count (Some errno) done))
            (λ x. ((let none : List TurnAt = [] in none) ≡ []) × (Count (Some errno) done ≡ Count (Some x) done))) (sym is) (refl, refl),
      ),
    );
    allowed = allowed_both shape cpu (lies_in shape state) one.turns [] served.allowed tt;
    settled = subst (IsAtRest shape) (sym (after_both shape cpu (lies_in shape state) one.turns [])) served.settled;
  }

  writes_kept : (entries : List Verb) → AreKeyVerbs entries → (state : State) → IsAtRest shape (lies_in shape state) → (spare : Option ℕ) (done : ℕ) → KeptBy state (λ turns reply. Writes shape cpu spare entries done turns reply) (writes shape cpu number state entries done)
  writes_kept [] are state rest_now spare done = record { trace = (refl, refl); allowed = tt; settled = rest_now }
  writes_kept (entry ∷ entries) are state rest_now spare done =
      let one : Does = key_does shape cpu number state entry in
      let then : State = all_turned shape cpu number one.turns state in
      let served = key_served shape cpu number supplies state rest_now lru entry are.0 in
      let rest_then : IsAtRest shape (lies_in shape then) = subst (IsAtRest shape) (sym (lies_after_all shape cpu number one.turns state)) served.settled in
      entry_counted state spare entry entries done one (writes shape cpu number then entries (suc done)) (refused_with one.reply) served refl
      (writes_kept entries are.1 then rest_then (spare_left shape spare (placed shape cpu number one.turns state)) (suc done))

  write_kept : (state : State) → IsAtRest shape (lies_in shape state) → (spare : Option ℕ) (flags : ℕ) (entries : List Verb) → AreKeyVerbs entries → KeptBy state (λ turns reply. IsWriteBatch shape cpu spare flags entries turns reply) (write_does shape cpu number state flags entries)
  write_kept state rest_now spare flags entries are =
      let kept = either_kept state (eqb flags 0) _ _ _ _ (writes_kept entries are state rest_now spare 0) (answered state rest_now (Refused Einval)) in
      record { trace = kept.trace; allowed = kept.allowed; settled = kept.settled }

  -- Every call

  key_kept : (state : State) → IsAtRest shape (lies_in shape state) → (spare : Option ℕ) (verb : Verb) → IsKeyVerb verb → KeptBy state (λ turns reply. IsKeyTrace shape cpu spare verb turns reply) (key_does shape cpu number state verb)
  key_kept state rest_now spare verb is =
      let served = key_served shape cpu number supplies state rest_now lru verb is in
      record { trace = first_of_two (is_lru shape.kind) _ _ lru served.trace; allowed = served.allowed; settled = served.settled }

  pub call_kept : (state : State) → IsAtRest shape (lies_in shape state) → (spare : Option ℕ) (verb : Verb) → IsKept shape cpu number spare state verb (does shape cpu number state verb)
  unfolding does
  call_kept state rest_now spare (verbs.Lookup side key) = let kept = key_kept state rest_now spare (verbs.Lookup side key) tt in record { trace = kept.trace; allowed = kept.allowed; settled = kept.settled }
  call_kept state rest_now spare (verbs.Update side flags key value) = let kept = key_kept state rest_now spare (verbs.Update side flags key value) tt in record { trace = kept.trace; allowed = kept.allowed; settled = kept.settled }
  call_kept state rest_now spare (verbs.Delete key) = let kept = key_kept state rest_now spare (verbs.Delete key) tt in record { trace = kept.trace; allowed = kept.allowed; settled = kept.settled }
  call_kept state rest_now spare (verbs.Take key) = let kept = key_kept state rest_now spare (verbs.Take key) tt in record { trace = kept.trace; allowed = kept.allowed; settled = kept.settled }
  call_kept state rest_now spare (verbs.Next key) = next_kept shape cpu state rest_now number spare key
  call_kept state rest_now spare (verbs.BatchRead remove count start flags) = read_kept state rest_now spare remove count start flags
  call_kept state rest_now spare (verbs.BatchUpdate flags pairs) = let kept = write_kept state rest_now spare flags (updates_of pairs) (updates_served pairs) in record { trace = kept.trace; allowed = kept.allowed; settled = kept.settled }
  call_kept state rest_now spare (verbs.BatchDelete flags keys) = let kept = write_kept state rest_now spare flags (deletes_of keys) (deletes_served keys) in record { trace = kept.trace; allowed = kept.allowed; settled = kept.settled }
  call_kept state rest_now spare (verbs.Each flags stop) = each_kept shape cpu state stop rest_now number spare flags
