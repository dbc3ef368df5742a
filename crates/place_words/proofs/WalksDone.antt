-- On a map that doesn't evict, next key and batch reads do in serial order what the rules say.
use Rattle.std.proofs.Common.{◌≡◌, ℕ, suc, ◌+◌, ◌-◌, Bool, true, false, cond, eqb, ltb, List, [], ◌∷◌, ◌++◌, length, map, refl, ap, sym, ◌∙◌, subst}
use Rattle.std.proofs.Math.Path.{fun_ext}
use Rattle.std.specs.List.{list_any}
use Rattle.std.specs.Prelude.{◌||◌, Option, None, Some, MatchBool, MatchOption, min, unwrap_or}
use Rattle.std.proofs.lemmas.Bool.{ltb-true, ltb-false}
use Rattle.map_types.specs.declared.attr.Shape.{Shape}
use Rattle.map_types.specs.declared.kind.DomainId.{DomainId}
use Rattle.map_types.specs.declared.kind.DomainId.TheVariants.{Bucket}
use Rattle.map_types.specs.declared.refusal.Errno.TheVariants.{Enoent, Einval}
use Rattle.map_types.specs.declared.reply.Reply.TheVariants.{Done, Refused, Batch}
use Rattle.map_types.specs.Kind.{is_lru}
use Rattle.map_types.specs.Stored.{Stored}
use Rattle.place_words.specs.declared.bucket_part.BucketPart.{BucketPart}
use Rattle.place_words.specs.declared.bucket_part.BucketPart.TheVariants.{Next, First, Walk}
use Rattle.place_words.specs.declared.bucket_part.NextFound.{NextFound}
use Rattle.place_words.specs.declared.bucket_part.NextFound.TheVariants as nexts
use Rattle.place_words.specs.declared.bucket_part.Walked.{Walked}
use Rattle.place_words.specs.declared.bucket_part.Walked.TheVariants.{Over, Taken}
use Rattle.place_words.specs.declared.free_part.FreePart.TheVariants.{Pushed}
use Rattle.place_words.specs.declared.history.Part.TheVariants as parts
use Rattle.place_words.specs.Bodies.{present, first_key, next_key}
use Rattle.place_words.specs.Buckets.{AllowsInBucket, AllowsNext, as_read, bucket_after}
use Rattle.place_words.specs.Handing.{HandsOver, HandsOverBuckets, IsHandingTrace, StopsAt, handed, is_stop, up_to_stop}
use Rattle.place_words.specs.Histories.{Content, Allows, content, content_after, in_bucket, on_freelist, in_locals, in_global, in_own}
use Rattle.place_words.specs.Locks.{is_same_lock}
use Rattle.place_words.specs.Logs.{State, turned, all_turned, lies_in, bucket_at, present_in, taken_out, Does, first_does, first_or, firsts, following, found_next, goes_on, next_does, walked, after_walk, walks, read_does, after_handing, hands, each_does, placed}
use Rattle.place_words.specs.Turns.{Turn, on_lock, on_freelist_of, bucket_of_key, after_turn, AreAllowed}
use Rattle.place_words.specs.Walks.{buckets_from, Firsts, GoesOn, IsNextTrace, IsFreedAfter, TakesOut, walked_out, pair_of, AfterWalk, Walks, IsReadTrace}
use Rattle.place_words.proofs.DoneLaws.{lies_a_bucket, lies_a_freelist, second_of, either_same}
use Rattle.place_words.proofs.ListContents.{AreElsewhere, log_stays}
use Rattle.place_words.proofs.PlacedLaws.{AreLegal, GoLegally, legally_none, legally_one, legally_both, placed-append, placed_turns}
use Rattle.place_words.proofs.PlainLaws.{chosen_second}

-- Next key

-- a part that leaves its bucket as it is
abbrev pub LeavesBucket : Shape → ℕ → BucketPart → Type 0
LeavesBucket shape cpu part = (bodies : List Stored) → bucket_after shape cpu part bodies ≡ bodies

look_leaves : (shape : Shape) (cpu : ℕ) (part : BucketPart) → LeavesBucket shape cpu part → (before : Content) → content_after shape cpu (parts.Bucket part) before ≡ before
look_leaves shape cpu part leaves (in_bucket bodies) = ap in_bucket (leaves bodies)
look_leaves shape cpu part leaves (on_freelist stack) = refl
look_leaves shape cpu part leaves (in_locals lists) = refl
look_leaves shape cpu part leaves (in_global set) = refl
look_leaves shape cpu part leaves (in_own set) = refl

pub after_look : (shape : Shape) (cpu bucket : ℕ) (part : BucketPart) (contents : DomainId → Content) → LeavesBucket shape cpu part → after_turn shape cpu contents (on_lock (Bucket bucket) (parts.Bucket part)) ≡ contents
after_look shape cpu bucket part contents leaves = fun_ext (λ lock. either_same (is_same_lock (Bucket bucket) lock) _ _ (look_leaves shape cpu part leaves (contents lock)))

pub first_leaves : (shape : Shape) (cpu : ℕ) (key : Option (List ℕ)) → LeavesBucket shape cpu (First key)
unfolding bucket_after
first_leaves shape cpu key bodies = refl

pub next_leaves : (shape : Shape) (cpu : ℕ) (key : List ℕ) (found : NextFound) → LeavesBucket shape cpu (Next key found)
unfolding bucket_after
next_leaves shape cpu key found bodies = refl

module _ (shape : Shape) (cpu : ℕ) (state : State) where
  -- a turn of a bucket that leaves it, and then others
  look_first : (bucket : ℕ) (part : BucketPart) (turns : List Turn) → LeavesBucket shape cpu part → AllowsInBucket shape cpu part (bucket_at shape state bucket) → AreAllowed shape cpu (lies_in shape state) turns
      → AreAllowed shape cpu (lies_in shape state) (on_lock (Bucket bucket) (parts.Bucket part) ∷ turns)
  look_first bucket part turns leaves may rest = (
    subst (Allows shape cpu (parts.Bucket part)) (sym (lies_a_bucket shape state bucket)) may,
    subst (λ (contents : DomainId → Content). AreAllowed shape cpu contents turns) (sym (after_look shape cpu bucket part (lies_in shape state) leaves)) rest,
  )

  abbrev AreFirsts : List ℕ → Does → Type 0
  AreFirsts buckets did = Firsts buckets did.turns did.reply × AreAllowed shape cpu (lies_in shape state) did.turns

  may_first : (bucket : ℕ) → AllowsInBucket shape cpu (First (first_key (bucket_at shape state bucket))) (bucket_at shape state bucket)
  unfolding AllowsInBucket
  may_first bucket = refl

  first_step : (bucket : ℕ) (buckets : List ℕ) (key : Option (List ℕ)) (later : Does) → AllowsInBucket shape cpu (First key) (bucket_at shape state bucket) → AreFirsts buckets later
      → AreFirsts (bucket ∷ buckets) (first_does (on_lock (Bucket bucket) (parts.Bucket (First key)) ∷ []) (first_or key later))
  first_step bucket buckets None later may rest = (
    (None, later.turns, refl, rest.0),
    look_first bucket (First None) later.turns (first_leaves shape cpu None) may rest.1,
  )
  first_step bucket buckets (Some key) later may rest = (
    (Some key, [], refl, (refl, refl)),
    look_first bucket (First (Some key)) [] (first_leaves shape cpu (Some key)) may tt,
  )

  firsts_done : (buckets : List ℕ) → AreFirsts buckets (firsts shape state buckets)
  firsts_done [] = ((refl, refl), tt)
  firsts_done (bucket ∷ buckets) = first_step bucket buckets (first_key (bucket_at shape state bucket)) (firsts shape state buckets) (may_first bucket) (firsts_done buckets)

  goes_done : (key : List ℕ) (found : NextFound) → GoesOn shape key found (goes_on shape state key found).turns (goes_on shape state key found).reply × AreAllowed shape cpu (lies_in shape state) (goes_on shape state key found).turns
  goes_done key nexts.Absent = firsts_done (buckets_from shape 0)
  goes_done key nexts.Last = firsts_done (buckets_from shape (bucket_of_key shape key + 1))
  goes_done key (nexts.Key next) = ((refl, refl), tt)

  may_next : (key : List ℕ) (bodies : List Stored) (found : Option Stored) → present key bodies ≡ found → AllowsNext key (found_next key bodies found) bodies
  may_next key bodies None is = is
  may_next key bodies (Some stored) is = by (next_key key bodies) refl
    where
      by : (next : Option (List ℕ)) → next_key key bodies ≡ next → AllowsNext key (following next) bodies
      by None none = subst (λ (o : Option Stored). MatchOption o ⊥ (λ (body : Stored). next_key key bodies ≡ None)) (sym is) none
      by (Some next) some = subst (λ (o : Option Stored). MatchOption o ⊥ (λ (body : Stored). next_key key bodies ≡ Some next)) (sym is) some

  may_next_in : (key : List ℕ) → AllowsInBucket shape cpu (Next key (found_next key (bucket_at shape state (bucket_of_key shape key)) (present_in shape state key))) (bucket_at shape state (bucket_of_key shape key))
  unfolding AllowsInBucket
  may_next_in key = may_next key (bucket_at shape state (bucket_of_key shape key)) (present_in shape state key) refl

  pub next_done : (key : Option (List ℕ)) → IsNextTrace shape key (next_does shape state key).turns (next_does shape state key).reply × AreAllowed shape cpu (lies_in shape state) (next_does shape state key).turns
  unfolding next_does
  next_done None = firsts_done (buckets_from shape 0)
  next_done (Some key) =
      let found : NextFound = found_next key (bucket_at shape state (bucket_of_key shape key)) (present_in shape state key) in (
        record { found = found; rest = (goes_on shape state key found).turns; turns_are = refl; goes_on = (goes_done key found).0 },
        look_first (bucket_of_key shape key) (Next key found) (goes_on shape state key found).turns (next_leaves shape cpu key found) (may_next_in key) (goes_done key found).1,
      )

-- Walks over all elements

pub walk_leaves : (shape : Shape) (cpu room : ℕ) (result : Walked) → LeavesBucket shape cpu (Walk false room result)
unfolding bucket_after
walk_leaves shape cpu room (Over n) bodies = refl
walk_leaves shape cpu room (Taken all) bodies = refl

-- what is handed over to a script's callback
pub hands_over : (stop : Option (List ℕ)) (pairs : List (List ℕ × List ℕ)) → HandsOver (StopsAt stop) pairs (up_to_stop stop pairs) (list_any (is_stop stop) pairs)
hands_over stop [] = (refl, refl)
hands_over stop (pair ∷ pairs) = by (is_stop stop pair) refl (hands_over stop pairs)
  where
    by : (stops : Bool) → is_stop stop pair ≡ stops → HandsOver (StopsAt stop) pairs (up_to_stop stop pairs) (list_any (is_stop stop) pairs)
        → HandsOver (StopsAt stop) (pair ∷ pairs) (pair ∷ cond stops [] (up_to_stop stop pairs)) (stops || list_any (is_stop stop) pairs)
    by true is later = (true, [], (refl, sym is, (refl, refl)))
    by false is later = (false, up_to_stop stop pairs, (refl, sym is, later))

module _ (shape : Shape) (cpu : ℕ) (state : State) (stop : Option (List ℕ)) where
  abbrev walk_in : ℕ → List (List ℕ × List ℕ) → Walked → BucketPart
  walk_in bucket before result = Walk false (shape.elements - length before) result

  abbrev AreHanded : List ℕ → List (List ℕ × List ℕ) → Does → Type 0
  AreHanded buckets before did = HandsOverBuckets shape cpu (StopsAt stop) buckets before did.turns did.reply × AreAllowed shape cpu (lies_in shape state) did.turns

  may_be_walked : (room bucket : ℕ) → AllowsInBucket shape cpu (Walk false room (walked shape cpu room (bucket_at shape state bucket))) (bucket_at shape state bucket)
  unfolding AllowsInBucket
  may_be_walked room bucket = by (ltb room (length (bucket_at shape state bucket))) refl
    where
      by : (over : Bool) → ltb room (length (bucket_at shape state bucket)) ≡ over
          → Rattle.place_words.specs.Buckets.AllowsWalk shape cpu room (cond over (Over (length (bucket_at shape state bucket))) (Taken (map (as_read shape cpu) (bucket_at shape state bucket)))) (bucket_at shape state bucket)
      by true is = (refl, ltb-true room (length (bucket_at shape state bucket)) is)
      by false is = (ltb-false room (length (bucket_at shape state bucket)) is, refl)

  handing_step : (bucket : ℕ) (buckets : List ℕ) (before : List (List ℕ × List ℕ)) (result : Walked) (later : List (List ℕ × List ℕ) → Does) → AllowsInBucket shape cpu (walk_in bucket before result) (bucket_at shape state bucket)
      → ((now : List (List ℕ × List ℕ)) → AreHanded buckets now (later now))
      → AreHanded (bucket ∷ buckets) before (first_does (on_lock (Bucket bucket) (parts.Bucket (walk_in bucket before result)) ∷ []) (after_handing shape cpu stop bucket before result later))
  handing_step bucket buckets before (Over n) later may rest = (
    (Over n, [], (refl, (refl, refl))),
    look_first shape cpu state bucket (walk_in bucket before (Over n)) [] (walk_leaves shape cpu (shape.elements - length before) (Over n)) may tt,
  )
  handing_step bucket buckets before (Taken all) later may rest = by (list_any (is_stop stop) pairs) (hands_over stop pairs)
    where
      pairs : List (List ℕ × List ℕ)
      pairs = map (handed shape cpu) all

      now : List (List ℕ × List ℕ)
      now = before ++ up_to_stop stop pairs

      leaves : LeavesBucket shape cpu (walk_in bucket before (Taken all))
      leaves = walk_leaves shape cpu (shape.elements - length before) (Taken all)

      by : (stopped : Bool) → HandsOver (StopsAt stop) pairs (up_to_stop stop pairs) stopped
          → AreHanded (bucket ∷ buckets) before (first_does (on_lock (Bucket bucket) (parts.Bucket (walk_in bucket before (Taken all))) ∷ []) (cond stopped (record { turns = []; reply = Batch None now (suc bucket) }) (later now)))
      by true over = (
        (Taken all, [], (refl, (up_to_stop stop pairs, true, (over, (refl, refl))))),
        look_first shape cpu state bucket (walk_in bucket before (Taken all)) [] leaves may tt,
      )
      by false over = (
        (Taken all, (later now).turns, (refl, (up_to_stop stop pairs, false, (over, (rest now).0)))),
        look_first shape cpu state bucket (walk_in bucket before (Taken all)) (later now).turns leaves may (rest now).1,
      )

  hands_done : (buckets : List ℕ) (before : List (List ℕ × List ℕ)) → AreHanded buckets before (hands shape cpu state stop buckets before)
  hands_done [] before = ((refl, refl), tt)
  hands_done (bucket ∷ buckets) before =
      let room : ℕ = shape.elements - length before in
      handing_step bucket buckets before (walked shape cpu room (bucket_at shape state bucket)) (λ now. hands shape cpu state stop buckets now) (may_be_walked room bucket) (λ now. hands_done buckets now)

  pub each_done : (flags : ℕ) → IsHandingTrace shape cpu (StopsAt stop) flags (each_does shape cpu state flags stop).turns (each_does shape cpu state flags stop).reply × AreAllowed shape cpu (lies_in shape state) (each_does shape cpu state flags stop).turns
  unfolding each_does
  each_done flags = by (eqb flags 0)
    where
      by : (plainly : Bool) → let did : Does = cond plainly (hands shape cpu state stop (buckets_from shape 0) []) (record { turns = []; reply = Refused Einval }) in
          MatchBool plainly (HandsOverBuckets shape cpu (StopsAt stop) (buckets_from shape 0) [] did.turns did.reply) ((did.turns ≡ []) × (did.reply ≡ Refused Einval)) × AreAllowed shape cpu (lies_in shape state) did.turns
      by true = hands_done (buckets_from shape 0) []
      by false = ((refl, refl), tt)

-- Batch reads

module _ (shape : Shape) (cpu number : ℕ) (plain : is_lru shape.kind ≡ false) where
  -- what a bucket's turn took out is pushed before its turn ends
  out_is : (state : State) (gone : List ℕ) (turn : Turn) → taken_out shape cpu number state gone turn ≡ map (λ e. on_freelist_of cpu (Pushed e)) gone ++ turn ∷ []
  out_is state gone turn = second_of (is_lru shape.kind) _ _ plain

  pushes_go : (gone : List ℕ) (state : State) → AreLegal shape state → GoLegally shape cpu number (map (λ e. on_freelist_of cpu (Pushed e)) gone) state
  pushes_go [] state legal = legally_none shape cpu number state legal
  pushes_go (e ∷ gone) state legal =
      let one : GoLegally shape cpu number (on_freelist_of cpu (Pushed e) ∷ []) state = legally_one shape cpu number (on_freelist_of cpu (Pushed e)) state legal (subst (Allows shape cpu (parts.Free (Pushed e))) (sym (lies_a_freelist shape state cpu)) tt) in
      legally_both shape cpu number (on_freelist_of cpu (Pushed e) ∷ []) _ state one (pushes_go gone (turned shape cpu number (on_freelist_of cpu (Pushed e)) state) one.after)

  pushes_elsewhere : (bucket : ℕ) (gone : List ℕ) → AreElsewhere (Bucket bucket) (map (λ e. on_freelist_of cpu (Pushed e)) gone)
  pushes_elsewhere bucket [] = tt
  pushes_elsewhere bucket (e ∷ gone) = (refl, pushes_elsewhere bucket gone)

  out_goes : (state : State) (gone : List ℕ) (bucket : ℕ) (part : BucketPart) → AreLegal shape state → AllowsInBucket shape cpu part (bucket_at shape state bucket)
      → GoLegally shape cpu number (taken_out shape cpu number state gone (on_lock (Bucket bucket) (parts.Bucket part))) state
  out_goes state gone bucket part legal may =
      let pushes : List Turn = map (λ e. on_freelist_of cpu (Pushed e)) gone in
      let turn : Turn = on_lock (Bucket bucket) (parts.Bucket part) in
      let pushed : State = all_turned shape cpu number pushes state in
      let first : GoLegally shape cpu number pushes state = pushes_go gone state legal in
      let same : lies_in shape pushed (Bucket bucket) ≡ in_bucket (bucket_at shape state bucket) = ap (content shape (Bucket bucket)) (log_stays shape cpu number pushes state (Bucket bucket) (pushes_elsewhere bucket gone)) ∙ lies_a_bucket shape state bucket in
      subst (λ (turns : List Turn). GoLegally shape cpu number turns state) (sym (out_is state gone turn))
      (legally_both shape cpu number pushes (turn ∷ []) state first (legally_one shape cpu number turn pushed first.after (subst (Allows shape cpu (parts.Bucket part)) (sym same) may)))

  out_takes : (state : State) (gone : List ℕ) (turn : Turn) → TakesOut shape cpu turn gone (placed shape cpu number (taken_out shape cpu number state gone turn) state)
  out_takes state gone turn = chosen_second (is_lru shape.kind) (IsFreedAfter shape turn gone (placed shape cpu number (taken_out shape cpu number state gone turn) state)) _ plain
      (placed_turns shape cpu number (taken_out shape cpu number state gone turn) state ∙ out_is state gone turn)

  -- a walk takes the whole bucket, or nothing where there is no room
  may_walk : (remove : Bool) (room : ℕ) (bodies : List Stored) → AllowsInBucket shape cpu (Walk remove room (walked shape cpu room bodies)) bodies
  unfolding AllowsInBucket
  may_walk remove room bodies = by (ltb room (length bodies)) refl
    where
      by : (over : Bool) → ltb room (length bodies) ≡ over → Rattle.place_words.specs.Buckets.AllowsWalk shape cpu room (cond over (Over (length bodies)) (Taken (map (as_read shape cpu) bodies))) bodies
      by true is = (refl, ltb-true room (length bodies) is)
      by false is = (ltb-false room (length bodies) is, refl)

  record IsWalked (remove : Bool) (limit : ℕ) (state : State) (buckets : List ℕ) (before : List (List ℕ × List ℕ)) (did : Does) : Type 0 where
    trace : Walks shape cpu remove limit buckets before (placed shape cpu number did.turns state) did.reply
    goes : GoLegally shape cpu number did.turns state

  -- what follows a walk's turn
  after_is : (remove : Bool) (limit : ℕ) (state : State) (bucket : ℕ) (buckets : List ℕ) (before : List (List ℕ × List ℕ)) (result : Walked) (later : List (List ℕ × List ℕ) → Does) → AreLegal shape state
      → ((now : List (List ℕ × List ℕ)) → IsWalked remove limit state buckets now (later now))
      → AfterWalk bucket before (placed shape cpu number (after_walk bucket before result later).turns state) (after_walk bucket before result later).reply result
      (λ now. Walks shape cpu remove limit buckets now (placed shape cpu number (after_walk bucket before result later).turns state) (after_walk bucket before result later).reply)
      × GoLegally shape cpu number (after_walk bucket before result later).turns state
  after_is remove limit state bucket buckets before (Over n) later legal rest = ((refl, refl), legally_none shape cpu number state legal)
  after_is remove limit state bucket buckets before (Taken all) later legal rest = let next = rest (before ++ map pair_of all) in (next.trace, next.goes)

  walks_done : (remove : Bool) (limit : ℕ) (state : State) → AreLegal shape state → (buckets : List ℕ) (before : List (List ℕ × List ℕ)) → IsWalked remove limit state buckets before (walks shape cpu number remove limit state buckets before)
  walks_done remove limit state legal [] before = record { trace = (refl, refl); goes = legally_none shape cpu number state legal }
  walks_done remove limit state legal (bucket ∷ buckets) before =
      let room : ℕ = limit - length before in
      let result : Walked = walked shape cpu room (bucket_at shape state bucket) in
      let turn : Turn = on_lock (Bucket bucket) (parts.Bucket (Walk remove room result)) in
      let turns : List Turn = taken_out shape cpu number state (walked_out remove result) turn in
      let now : State = all_turned shape cpu number turns state in
      let later : List (List ℕ × List ℕ) → Does = λ taken. walks shape cpu number remove limit now buckets taken in
      let first : GoLegally shape cpu number turns state = out_goes state (walked_out remove result) bucket (Walk remove room result) legal (may_walk remove room (bucket_at shape state bucket)) in
      let rest = after_is remove limit now bucket buckets before result later first.after (λ taken. walks_done remove limit now first.after buckets taken) in
      record {
        trace = (
          result,
          placed shape cpu number turns state,
          placed shape cpu number (after_walk bucket before result later).turns now,
          (placed-append shape cpu number turns (after_walk bucket before result later).turns state, out_takes state (walked_out remove result) turn, rest.0),
        );
        goes = legally_both shape cpu number turns (after_walk bucket before result later).turns state first rest.1;
      }

  pub read_done : (state : State) → AreLegal shape state → (remove : Bool) (count : ℕ) (start : Option ℕ) (flags : ℕ)
      → IsReadTrace shape cpu remove count start flags (placed shape cpu number (read_does shape cpu number state remove count start flags).turns state) (read_does shape cpu number state remove count start flags).reply
      × GoLegally shape cpu number (read_does shape cpu number state remove count start flags).turns state
  unfolding read_does
  read_done state legal remove count start flags = by (eqb flags 0) (eqb count 0) (ltb (unwrap_or start 0) shape.buckets)
    where
      by : (plainly nothing there : Bool)
          → let did : Does = cond plainly (cond nothing (record { turns = []; reply = Done }) (cond there (walks shape cpu number remove (min count shape.elements) state (buckets_from shape (unwrap_or start 0)) []) (record { turns = []; reply = Refused Enoent }))) (record { turns = []; reply = Refused Einval }) in
          MatchBool plainly (MatchBool nothing ((placed shape cpu number did.turns state ≡ []) × (did.reply ≡ Done))
          (MatchBool there (Walks shape cpu remove (min count shape.elements) (buckets_from shape (unwrap_or start 0)) [] (placed shape cpu number did.turns state) did.reply) ((placed shape cpu number did.turns state ≡ []) × (did.reply ≡ Refused Enoent))))
          ((placed shape cpu number did.turns state ≡ []) × (did.reply ≡ Refused Einval))
          × GoLegally shape cpu number did.turns state
      by true true there = ((refl, refl), legally_none shape cpu number state legal)
      by true false true = let done = walks_done remove (min count shape.elements) state legal (buckets_from shape (unwrap_or start 0)) [] in (done.trace, done.goes)
      by true false false = ((refl, refl), legally_none shape cpu number state legal)
      by false nothing there = ((refl, refl), legally_none shape cpu number state legal)
