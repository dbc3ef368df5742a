-- On a map that doesn't evict next key and batch reads by logs are those on plain lists.
use Rattle.std.proofs.Common.{◌≡◌, ℕ, ◌+◌, ◌-◌, ◌<◌, Bool, true, false, nat_lt, cond, List, [], ◌∷◌, ◌++◌, length, map, Option, Some, None, refl, ap, sym, ◌∙◌, subst, arith}
use Rattle.std.specs.Prelude.{unwrap_or, reverse}
use Rattle.std.specs.List.{flat_map}
use Rattle.std.proofs.lemmas.Bool.{lt-ltb}
use Rattle.key_hash.proofs.Buckets.{bucket_number-lt}
use Rattle.key_hash.specs.Jhash.{hash}
use Rattle.map_types.specs.Kind.{is_lru}
use Rattle.map_types.specs.Shape.{HasBounds}
use Rattle.map_types.specs.Stored.{Stored}
use Rattle.map_types.specs.declared.attr.Shape.{Shape}
use Rattle.map_types.specs.declared.kind.DomainId.TheVariants.{Bucket}
use Rattle.map_types.specs.declared.reply.Reply.{Reply}
use Rattle.map_types.specs.declared.reply.Reply.TheVariants.{Batch}
use Rattle.place_words.specs.declared.bucket_part.BucketPart.TheVariants.{First, Next, Walk}
use Rattle.place_words.specs.declared.bucket_part.NextFound.{NextFound}
use Rattle.place_words.specs.declared.bucket_part.NextFound.TheVariants as nexts
use Rattle.place_words.specs.declared.bucket_part.Walked.{Walked}
use Rattle.place_words.specs.declared.bucket_part.Walked.TheVariants.{Over, Taken}
use Rattle.place_words.specs.declared.finals.Finals.{Finals}
use Rattle.place_words.specs.declared.free_part.FreePart.TheVariants.{Pushed}
use Rattle.place_words.specs.declared.history.Part.TheVariants as parts
use Rattle.place_words.specs.Bodies.{present, first_key, numbers}
use Rattle.place_words.specs.Buckets.{as_read, bucket_after}
use Rattle.place_words.specs.Histories.{Content, bucket_in}
use Rattle.place_words.specs.Logs.{State, bucket_at, all_turned, all_freed, turned, taken_out, Does, first_does, first_or, firsts, found_next, goes_on, next_does, walked, after_walk, walks}
use Rattle.place_words.specs.Turns.{Turn, on_lock, on_bucket_of, on_freelist_of, bucket_of_key}
use Rattle.place_words.specs.Walks.{buckets_from, walked_out, pair_of, stopped_at}
use Rattle.place_words.proofs.BucketLaws.{numbers_read}
use Rattle.place_words.proofs.EachTurn.{AreWithin, first_within, others_within, buckets_within}
use Rattle.map_report.specs.Serial.{in_bucket_at, all_pushed, in_order, key_after, key_or_absent, pair_read, emptied, if_emptied, read_on}
use Rattle.map_report.specs.Soundness.{IsSound}
use Rattle.map_report.specs.Turns.{Happened, all_happened, unless_found, first_turns, turns_behind, next_turns, pushing_turns, read_turns}
use Rattle.serial_laws.proofs.Emptied.{sound_emptied}
use Rattle.serial_laws.proofs.Leads.{Leads, leads_none, leads_both, bucket_leads, look_leads, pushes_lead}
use Rattle.serial_laws.proofs.NextKey.{AreOwn, next_reply}
use Rattle.serial_laws.proofs.SameCalls.{Follows, IsSame, same_first, follows_on}

-- what lies in a bucket of the map
pub bucket_same : (shape : Shape) (lists : Finals) (before : List Happened) (state : State) → Follows shape lists before state → (bucket : ℕ) → bucket < shape.buckets → bucket_at shape state bucket ≡ in_bucket_at lists bucket
bucket_same shape lists before state follows bucket below =
    ap (λ (c : Content). unwrap_or (bucket_in c) []) (follows.contents (Bucket bucket) (lt-ltb bucket shape.buckets below))

-- Next key

module _ (shape : Shape) (bounds : HasBounds shape) (cpu : ℕ) (lists : Finals) (before : List Happened) (state : State) (follows : Follows shape lists before state) where
  -- a look that changes nothing
  first_leads : (bucket : ℕ) (found : Option (List ℕ)) → bucket < shape.buckets → Leads shape cpu (on_lock (Bucket bucket) (parts.Bucket (First found)) ∷ []) lists lists
  unfolding bucket_after
  first_leads bucket found below = look_leads shape cpu bucket (First found) lists below refl refl

  first_step : (bucket : ℕ) → bucket < shape.buckets → (found : Option (List ℕ)) (later : Does) (turns : List Turn) → IsSame shape cpu lists later turns (lists, later.reply)
      → IsSame shape cpu lists (first_does (on_lock (Bucket bucket) (parts.Bucket (First found)) ∷ []) (first_or found later)) (on_lock (Bucket bucket) (parts.Bucket (First found)) ∷ unless_found found turns) (lists, (first_or found later).reply)
  first_step bucket below None later turns rest =
      same_first shape cpu (on_lock (Bucket bucket) (parts.Bucket (First None)) ∷ []) (on_lock (Bucket bucket) (parts.Bucket (First None)) ∷ []) turns later lists lists (lists, later.reply) refl (first_leads bucket None below) rest
  first_step bucket below (Some key) later turns rest = record { turns_are = refl; reply_is = refl; leads = first_leads bucket (Some key) below }

  firsts_same : (buckets : List ℕ) → AreWithin (λ bucket. bucket < shape.buckets) buckets → IsSame shape cpu lists (firsts shape state buckets) (first_turns lists buckets) (lists, (firsts shape state buckets).reply)
  firsts_same [] within = record { turns_are = refl; reply_is = refl; leads = leads_none shape cpu lists }
  firsts_same (bucket ∷ buckets) within =
      let below : bucket < shape.buckets = first_within (λ b. b < shape.buckets) bucket buckets within in
      let found : Option (List ℕ) = first_key (bucket_at shape state bucket) in
      let later : Does = firsts shape state buckets in
      subst (λ (f : Option (List ℕ)). IsSame shape cpu lists (first_does (on_lock (Bucket bucket) (parts.Bucket (First found)) ∷ []) (first_or found later)) (on_lock (Bucket bucket) (parts.Bucket (First f)) ∷ unless_found f (first_turns lists buckets)) (lists, (first_or found later).reply))
      (ap first_key (bucket_same shape lists before state follows bucket below))
      (first_step bucket below found later (first_turns lists buckets) (firsts_same buckets (others_within (λ b. b < shape.buckets) bucket buckets within)))

  behind_same : (key : List ℕ) (found : NextFound) → IsSame shape cpu lists (goes_on shape state key found) (turns_behind shape key lists found) (lists, (goes_on shape state key found).reply)
  behind_same key nexts.Absent = firsts_same (buckets_from shape 0) (buckets_within shape 0)
  behind_same key nexts.Last = firsts_same (buckets_from shape (bucket_of_key shape key + 1)) (buckets_within shape (bucket_of_key shape key + 1))
  behind_same key (nexts.Key next) = record { turns_are = refl; reply_is = refl; leads = leads_none shape cpu lists }

  next_leads : (key : List ℕ) (found : NextFound) → Leads shape cpu (on_bucket_of shape key (Next key found) ∷ []) lists lists
  unfolding bucket_after
  next_leads key found = look_leads shape cpu (bucket_of_key shape key) (Next key found) lists (bucket_number-lt (hash key shape.seed) shape.buckets bounds.buckets_power) refl refl

  next_turns_same : (key : Option (List ℕ)) → IsSame shape cpu lists (next_does shape state key) (next_turns shape key lists) (lists, (next_does shape state key).reply)
  unfolding next_does
  next_turns_same None = firsts_same (buckets_from shape 0) (buckets_within shape 0)
  next_turns_same (Some key) =
      let below : bucket_of_key shape key < shape.buckets = bucket_number-lt (hash key shape.seed) shape.buckets bounds.buckets_power in
      let mine : List Stored = bucket_at shape state (bucket_of_key shape key) in
      let found : NextFound = found_next key mine (present key mine) in
      subst (λ (f : NextFound). IsSame shape cpu lists (first_does (on_bucket_of shape key (Next key found) ∷ []) (goes_on shape state key found)) (on_bucket_of shape key (Next key f) ∷ turns_behind shape key lists f) (lists, (goes_on shape state key found).reply))
      (ap (λ (b : List Stored). found_next key b (present key b)) (bucket_same shape lists before state follows (bucket_of_key shape key) below))
      (same_first shape cpu (on_bucket_of shape key (Next key found) ∷ []) (on_bucket_of shape key (Next key found) ∷ []) (turns_behind shape key lists found) (goes_on shape state key found) lists lists (lists, (goes_on shape state key found).reply) refl
      (next_leads key found) (behind_same key found))

  -- what lies in the buckets, in their order
  order_among : (buckets : List ℕ) → AreWithin (λ bucket. bucket < shape.buckets) buckets → flat_map (bucket_at shape state) buckets ≡ flat_map (in_bucket_at lists) buckets
  order_among [] within = refl
  order_among (bucket ∷ buckets) within =
      let here = bucket_same shape lists before state follows bucket (first_within (λ b. b < shape.buckets) bucket buckets within) in
      let rest = order_among buckets (others_within (λ b. b < shape.buckets) bucket buckets within) in
      λ i. here i ++ rest i

  pub next_same : IsSound shape lists → (key : Option (List ℕ)) → IsSame shape cpu lists (next_does shape state key) (next_turns shape key lists) (lists, key_or_absent (key_after key (in_order shape (in_bucket_at lists))))
  next_same sound key =
      let same = next_turns_same key in
      let own = λ (bucket : ℕ) (below : bucket < shape.buckets). subst (AreOwn shape bucket) (sym (bucket_same shape lists before state follows bucket below)) (sound.each_bucket bucket).own in
      record {
        turns_are = same.turns_are;
        reply_is = next_reply shape state bounds own key ∙ ap (λ (l : List Stored). key_or_absent (key_after key l)) (order_among (buckets_from shape 0) (buckets_within shape 0));
        leads = same.leads;
      }

-- Batch reads

-- what a batch read tells of a bucket
pairs_same : (shape : Shape) (cpu : ℕ) (bodies : List Stored) → map pair_of (map (as_read shape cpu) bodies) ≡ map (pair_read shape cpu) bodies
pairs_same shape cpu [] = refl
pairs_same shape cpu (body ∷ bodies) = ap (λ (l : List (List ℕ × List ℕ)). pair_read shape cpu body ∷ l) (pairs_same shape cpu bodies)

module _ (shape : Shape) (bounds : HasBounds shape) (plain : is_lru shape.kind ≡ false) (cpu number : ℕ) (few : cpu < shape.cpus) where
  -- elements that are taken out are pushed inside the turn
  out_is : (state : State) (gone : List ℕ) (turn : Turn) → taken_out shape cpu number state gone turn ≡ pushing_turns cpu gone turn
  out_is state gone turn = ap (λ (b : Bool). cond b (turn ∷ all_freed shape cpu number (turned shape cpu number turn state) (reverse gone)) (map (λ e. on_freelist_of cpu (Pushed e)) gone ++ turn ∷ [])) plain

  -- a bucket's turn that takes all, and pushes what it removes
  taken_leads : (remove : Bool) (bucket room : ℕ) (lists : Finals) → bucket < shape.buckets → IsSound shape lists
      → Leads shape cpu (pushing_turns cpu (cond remove (numbers (in_bucket_at lists bucket)) []) (on_lock (Bucket bucket) (parts.Bucket (Walk remove room (Taken (map (as_read shape cpu) (in_bucket_at lists bucket)))))))
      lists (if_emptied remove cpu bucket lists)
  unfolding bucket_after
  taken_leads true bucket room lists below sound =
      let taken : List ℕ = numbers (in_bucket_at lists bucket) in
      let own : cpu < length lists.freelists = omega (arith, sound.lengths.freelists, few) in
      let there : bucket < length lists.buckets = omega (arith, sound.lengths.buckets, below) in
      let middle : Finals = record lists { freelists = all_pushed cpu taken lists.freelists } in
      leads_both shape cpu (map (λ e. on_freelist_of cpu (Pushed e)) taken) (on_lock (Bucket bucket) (parts.Bucket (Walk true room (Taken (map (as_read shape cpu) (in_bucket_at lists bucket))))) ∷ []) lists middle (emptied cpu bucket lists)
      (pushes_lead shape cpu plain few taken lists own)
      (bucket_leads shape cpu bucket (Walk true room (Taken (map (as_read shape cpu) (in_bucket_at lists bucket)))) middle [] below there refl refl)
  taken_leads false bucket room lists below sound =
      look_leads shape cpu bucket (Walk false room (Taken (map (as_read shape cpu) (in_bucket_at lists bucket)))) lists below refl refl

  over_leads : (remove : Bool) (bucket room n : ℕ) (lists : Finals) → bucket < shape.buckets → Leads shape cpu (on_lock (Bucket bucket) (parts.Bucket (Walk remove room (Over n))) ∷ []) lists lists
  unfolding bucket_after
  over_leads remove bucket room n lists below = look_leads shape cpu bucket (Walk remove room (Over n)) lists below refl refl

  gone_same : (remove : Bool) (bodies : List Stored) → walked_out remove (Taken (map (as_read shape cpu) bodies)) ≡ cond remove (numbers bodies) []
  gone_same remove bodies = ap (λ (es : List ℕ). cond remove es []) (numbers_read shape cpu bodies)

  sound_left : (remove : Bool) (bucket : ℕ) (lists : Finals) → bucket < shape.buckets → IsSound shape lists → IsSound shape (if_emptied remove cpu bucket lists)
  sound_left true bucket lists below sound = sound_emptied shape cpu bucket lists few below sound
  sound_left false bucket lists below sound = sound

  module _ (remove : Bool) (limit : ℕ) where
    -- what a bucket's turn is, and what the batch does from it on
    abbrev bucket_turns : State → ℕ → ℕ → Walked → List Turn
    bucket_turns state bucket room result = taken_out shape cpu number state (walked_out remove result) (on_lock (Bucket bucket) (parts.Bucket (Walk remove room result)))

    abbrev walk_does : State → ℕ → List ℕ → List (List ℕ × List ℕ) → Walked → Does
    walk_does state bucket buckets taken result =
        first_does (bucket_turns state bucket (limit - length taken) result)
        (after_walk bucket taken result (λ now. walks shape cpu number remove limit (all_turned shape cpu number (bucket_turns state bucket (limit - length taken) result) state) buckets now))

    -- what is taken, and by which turns, where there is room
    abbrev taken_now : Finals → ℕ → List (List ℕ × List ℕ) → List (List ℕ × List ℕ)
    taken_now lists bucket taken = taken ++ map (pair_read shape cpu) (in_bucket_at lists bucket)

    abbrev taken_result : Finals → ℕ → Walked
    taken_result lists bucket = Taken (map (as_read shape cpu) (in_bucket_at lists bucket))

    abbrev taken_turns : Finals → ℕ → List (List ℕ × List ℕ) → List Turn
    taken_turns lists bucket taken =
        pushing_turns cpu (cond remove (numbers (in_bucket_at lists bucket)) []) (on_lock (Bucket bucket) (parts.Bucket (Walk remove (limit - length taken) (taken_result lists bucket))))

    over_same : (state : State) (bucket : ℕ) (buckets : List ℕ) (taken : List (List ℕ × List ℕ)) (lists : Finals) (n : ℕ) → bucket < shape.buckets
        → IsSame shape cpu lists (walk_does state bucket buckets taken (Over n)) (on_lock (Bucket bucket) (parts.Bucket (Walk remove (limit - length taken) (Over n))) ∷ []) (lists, Batch (stopped_at taken) taken bucket)
    over_same state bucket buckets taken lists n below = record {
      turns_are = ap (λ (ts : List Turn). ts ++ []) (out_is state [] (on_lock (Bucket bucket) (parts.Bucket (Walk remove (limit - length taken) (Over n)))));
      reply_is = refl;
      leads = over_leads remove bucket (limit - length taken) n lists below;
    }

    taken_same : (state : State) (bucket : ℕ) (buckets : List ℕ) (taken : List (List ℕ × List ℕ)) (lists : Finals) (turns : List Turn) (after : Finals × Reply) → bucket < shape.buckets → IsSound shape lists
        → IsSame shape cpu (if_emptied remove cpu bucket lists) (walks shape cpu number remove limit (all_turned shape cpu number (taken_turns lists bucket taken) state) buckets (taken_now lists bucket taken)) turns after
        → IsSame shape cpu lists (walk_does state bucket buckets taken (taken_result lists bucket)) (taken_turns lists bucket taken ++ turns) after
    taken_same state bucket buckets taken lists turns after below sound rest =
        let bodies : List Stored = in_bucket_at lists bucket in
        let room : ℕ = limit - length taken in
        let result : Walked = taken_result lists bucket in
        let turn : Turn = on_lock (Bucket bucket) (parts.Bucket (Walk remove room result)) in
        let next : Finals = if_emptied remove cpu bucket lists in
        let made : bucket_turns state bucket room result ≡ taken_turns lists bucket taken = out_is state (walked_out remove result) turn ∙ ap (λ (es : List ℕ). pushing_turns cpu es turn) (gone_same remove bodies) in
        let moved = subst (λ (ts : List Turn). IsSame shape cpu next (walks shape cpu number remove limit (all_turned shape cpu number ts state) buckets (taken_now lists bucket taken)) turns after) (sym made) rest in
        let told = subst (λ (ps : List (List ℕ × List ℕ)). IsSame shape cpu next (walks shape cpu number remove limit (all_turned shape cpu number (bucket_turns state bucket room result) state) buckets (taken ++ ps)) turns after) (sym (pairs_same shape cpu bodies)) moved in
        same_first shape cpu (bucket_turns state bucket room result) (taken_turns lists bucket taken) turns
        (walks shape cpu number remove limit (all_turned shape cpu number (bucket_turns state bucket room result) state) buckets (taken ++ map pair_of (map (as_read shape cpu) bodies)))
        lists next after made (taken_leads remove bucket room lists below sound) told

    either_same : (lists : Finals) (does : Walked → Does) (b : Bool) (w v : Walked) (t u : List Turn) (x y : Finals × Reply) → IsSame shape cpu lists (does w) t x → IsSame shape cpu lists (does v) u y
        → IsSame shape cpu lists (does (cond b w v)) (cond b t u) (cond b x y)
    either_same lists does true w v t u x y first second = first
    either_same lists does false w v t u x y first second = second

    pub walks_same : (buckets : List ℕ) → AreWithin (λ bucket. bucket < shape.buckets) buckets → (taken : List (List ℕ × List ℕ)) (lists : Finals) (before : List Happened) (state : State) → IsSound shape lists → Follows shape lists before state
        → IsSame shape cpu lists (walks shape cpu number remove limit state buckets taken) (read_turns shape cpu remove limit buckets taken lists) (read_on shape cpu remove limit buckets taken lists)
    walks_same [] within taken lists before state sound follows = record { turns_are = refl; reply_is = refl; leads = leads_none shape cpu lists }
    walks_same (bucket ∷ buckets) within taken lists before state sound follows =
        let bodies : List Stored = in_bucket_at lists bucket in
        let room : ℕ = limit - length taken in
        let below : bucket < shape.buckets = first_within (λ b. b < shape.buckets) bucket buckets within in
        let next : Finals = if_emptied remove cpu bucket lists in
        let turns : List Turn = taken_turns lists bucket taken in
        let rest = walks_same buckets (others_within (λ b. b < shape.buckets) bucket buckets within) (taken_now lists bucket taken) next (before ++ all_happened cpu number state.next_ticket turns) (all_turned shape cpu number turns state)
        (sound_left remove bucket lists below sound) (follows_on shape bounds plain lists next before state number cpu turns follows (taken_leads remove bucket room lists below sound)) in
        subst (λ (b : List Stored). IsSame shape cpu lists (walk_does state bucket buckets taken (walked shape cpu room b)) (read_turns shape cpu remove limit (bucket ∷ buckets) taken lists) (read_on shape cpu remove limit (bucket ∷ buckets) taken lists))
        (sym (bucket_same shape lists before state follows bucket below))
        (either_same lists (walk_does state bucket buckets taken) (nat_lt room (length bodies)) (Over (length bodies)) (taken_result lists bucket) _ _ _ _
        (over_same state bucket buckets taken lists (length bodies) below)
        (taken_same state bucket buckets taken lists (read_turns shape cpu remove limit buckets (taken_now lists bucket taken) next) (read_on shape cpu remove limit buckets (taken_now lists bucket taken) next) below sound rest))
