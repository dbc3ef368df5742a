-- Batch reads that remove nothing, over a map that nobody changes, give each key with its value once.
use Rattle.std.proofs.Common.{◌≡◌, ◌⊎◌, ℕ, zero, suc, ◌+◌, ◌-◌, ◌<◌, ◌≤◌, Bool, true, false, not, ◌&&◌, nat_lt, ◌==◌, cond, List, [], ◌∷◌, ◌++◌, length, map, Option, Some, None, inl, inr, ⊎_elim, refl, ap, sym, ◌∙◌, subst, arith, append_assoc}
use Rattle.std.specs.Prelude.{IsSome, min, option_map, unwrap_or}
use Rattle.std.specs.List.{flat_map, range_with_len}
use Rattle.std.proofs.lemmas.Bool.{eqb-true, ltb-true, ltb-false}
use Rattle.std.proofs.lemmas.Grind.{flat_map-append}
use Rattle.std.proofs.lemmas.List.{append-nil, map-append}
use Rattle.std.proofs.lemmas.Option.{none-some, same_Some}
use Rattle.map_types.specs.Stored.{Stored}
use Rattle.map_types.specs.declared.attr.Shape.{Shape}
use Rattle.map_types.specs.declared.call.Verb.TheVariants.{BatchRead}
use Rattle.map_types.specs.declared.refusal.Errno.{Errno}
use Rattle.map_types.specs.declared.refusal.Errno.TheVariants.{Enoent}
use Rattle.map_types.specs.declared.reply.Reply.{Reply}
use Rattle.map_types.specs.declared.reply.Reply.TheVariants.{Done, Refused, Batch}
use Rattle.place_words.specs.declared.bucket_part.Walked.{Walked}
use Rattle.place_words.specs.declared.bucket_part.Walked.TheVariants.{Over, Taken}
use Rattle.place_words.specs.Buckets.{as_read}
use Rattle.place_words.specs.Logs.{State, bucket_at, all_turned, after_walk, walks, read_does, does}
use Rattle.place_words.specs.Walks.{buckets_from, stopped_at, pair_of}
use Rattle.map_report.specs.Serial.{in_order, pair_read}
use Rattle.serial_laws.specs.WalkLaws.{Moment, answer_at, Holds, is_enoent, start_behind, read_more, read_through, has_room, with_room}
use Rattle.serial_laws.proofs.EachOnceOpening.{range-append}
use Rattle.serial_laws.proofs.LooksLeave.{bucket_turns, turns_stay}

abbrev Pairs : Type 0
Pairs = List (List ℕ × List ℕ)

-- what a batch read tells of a bucket
pairs_same : (shape : Shape) (cpu : ℕ) (bodies : List Stored) → map pair_of (map (as_read shape cpu) bodies) ≡ map (pair_read shape 0) bodies
pairs_same shape cpu [] = refl
pairs_same shape cpu (body ∷ bodies) = ap (λ (l : Pairs). pair_read shape 0 body ∷ l) (pairs_same shape cpu bodies)

stopped_other : (taken : Pairs) → is_enoent (stopped_at taken) ≡ false
stopped_other [] = refl
stopped_other (pair ∷ taken) = refl

-- One batch

-- How a batch ends that reads so many buckets from one on: it takes the first of them, all or up to one for which there is no room.
record EndsBatch (shape : Shape) (lie : ℕ → List Stored) (limit bucket count : ℕ) (taken : Pairs) (reply : Reply) : Type 0 where
  many : ℕ
  within : many ≤ count
  next : ℕ
  next_is : next ≡ bucket + many
  now : Pairs
  now_is : now ≡ taken ++ map (pair_read shape 0) (flat_map lie (range_with_len bucket many))
  stop : Option Errno
  reply_is : reply ≡ Batch stop now next
  ends : ((stop ≡ Some Enoent) × (many ≡ count)) ⊎ ((is_enoent stop ≡ false) × (many < count) × (limit - length now < length (lie next)))

-- a bucket more
more_now : (shape : Shape) (lie : ℕ → List Stored) (bucket many : ℕ) (taken all now : Pairs) → all ≡ map (pair_read shape 0) (lie bucket) → now ≡ (taken ++ all) ++ map (pair_read shape 0) (flat_map lie (range_with_len (bucket + 1) many))
    → now ≡ taken ++ map (pair_read shape 0) (flat_map lie (range_with_len bucket (suc many)))
more_now shape lie bucket many taken all now same is =
    let rest : List Stored = flat_map lie (range_with_len (bucket + 1) many) in
    is ∙ append_assoc taken all (map (pair_read shape 0) rest) ∙ ap (λ (l : Pairs). taken ++ (l ++ map (pair_read shape 0) rest)) same
    ∙ ap (λ (l : Pairs). taken ++ l) (sym (map-append (pair_read shape 0) (lie bucket) rest))

module _ (shape : Shape) (lie : ℕ → List Stored) (cpu number limit : ℕ) where
  abbrev HoldsNow : State → Type 0
  HoldsNow state = (bucket : ℕ) → bucket < shape.buckets → bucket_at shape state bucket ≡ lie bucket

  -- what a batch does from a bucket on
  abbrev walk_reply : State → ℕ → List ℕ → Pairs → Walked → Reply
  walk_reply state bucket buckets taken result =
      (after_walk bucket taken result (λ now. walks shape cpu number false limit (all_turned shape cpu number (bucket_turns shape cpu number state bucket (limit - length taken) result) state) buckets now)).reply

  one_over : (state : State) (bucket count : ℕ) (taken : Pairs) (n : ℕ) → limit - length taken < length (lie bucket) → EndsBatch shape lie limit bucket (suc count) taken (walk_reply state bucket (range_with_len (bucket + 1) count) taken (Over n))
  one_over state bucket count taken n over = record {
    many = 0;
    within = omega arith;
    next = bucket;
    next_is = omega arith;
    now = taken;
    now_is = sym (append-nil taken);
    stop = stopped_at taken;
    reply_is = refl;
    ends = inr (stopped_other taken, omega arith, over);
  }

  one_taken : (state : State) (bucket count : ℕ) (taken : Pairs) (bodies : List Stored) → bodies ≡ lie bucket
      → EndsBatch shape lie limit (bucket + 1) count (taken ++ map pair_of (map (as_read shape cpu) bodies)) (walk_reply state bucket (range_with_len (bucket + 1) count) taken (Taken (map (as_read shape cpu) bodies)))
      → EndsBatch shape lie limit bucket (suc count) taken (walk_reply state bucket (range_with_len (bucket + 1) count) taken (Taken (map (as_read shape cpu) bodies)))
  one_taken state bucket count taken bodies is rest = record {
    many = suc rest.many;
    within = omega (arith, rest.within);
    next = rest.next;
    next_is = omega (arith, rest.next_is);
    now = rest.now;
    now_is = more_now shape lie bucket rest.many taken (map pair_of (map (as_read shape cpu) bodies)) rest.now (pairs_same shape cpu bodies ∙ ap (map (pair_read shape 0)) is) rest.now_is;
    stop = rest.stop;
    reply_is = rest.reply_is;
    ends = ⊎_elim (λ whole. inl (whole.0, ap suc whole.1)) (λ part. inr (part.0, omega (arith, part.1), part.2)) rest.ends;
  }

  walks_read : (count bucket : ℕ) (taken : Pairs) (state : State) → HoldsNow state → bucket + count ≡ shape.buckets → EndsBatch shape lie limit bucket count taken (walks shape cpu number false limit state (range_with_len bucket count) taken).reply
  walks_read zero bucket taken state holds end = record {
    many = 0;
    within = omega arith;
    next = shape.buckets;
    next_is = sym end;
    now = taken;
    now_is = sym (append-nil taken);
    stop = Some Enoent;
    reply_is = refl;
    ends = inl (refl, refl);
  }
  walks_read (suc count) bucket taken state holds end =
      let bodies : List Stored = bucket_at shape state bucket in
      let room : ℕ = limit - length taken in
      let below : bucket < shape.buckets = omega (arith, end) in
      let is : bodies ≡ lie bucket = holds bucket below in
      let buckets : List ℕ = range_with_len (bucket + 1) count in
      elim (nat_lt room (length bodies)) as (λ b. nat_lt room (length bodies) ≡ b → EndsBatch shape lie limit bucket (suc count) taken (walk_reply state bucket buckets taken (cond b (Over (length bodies)) (Taken (map (as_read shape cpu) bodies))))) [
        | true ↦ λ test. one_over state bucket count taken (length bodies) (subst (λ (l : List Stored). limit - length taken < length l) is (ltb-true room (length bodies) test))
        | false ↦ λ test.
            let result : Walked = Taken (map (as_read shape cpu) bodies) in
            let after : State = all_turned shape cpu number (bucket_turns shape cpu number state bucket room result) state in
            one_taken state bucket count taken bodies is
            (walks_read count (bucket + 1) (taken ++ map pair_of (map (as_read shape cpu) bodies)) after (λ other there. turns_stay shape cpu number state bucket room result other ∙ holds other there) (omega (arith, end)))
      ] refl

-- A batch from a start on: none, one that starts past the last bucket, or one that reads.
abbrev Answers : Shape → (ℕ → List Stored) → ℕ → ℕ → Reply → Type 0
Answers shape lie count from reply =
    ((reply ≡ Done) × (count ≡ 0)) ⊎ (((reply ≡ Refused Enoent) × (shape.buckets ≤ from)) ⊎ ((from < shape.buckets) × EndsBatch shape lie (min count shape.elements) from (shape.buckets - from) [] reply))

batch_answer : (shape : Shape) (lie : ℕ → List Stored) (moment : Moment) → Holds shape lie moment → (count : ℕ) (start : Option ℕ) → Answers shape lie count (unwrap_or start 0) (answer_at shape moment (BatchRead false count start 0))
unfolding does read_does
batch_answer shape lie moment holds count start =
    let from : ℕ = unwrap_or start 0 in
    let limit : ℕ = min count shape.elements in
    elim (count == 0) as (λ b. (count == 0) ≡ b → Answers shape lie count from (cond b (record { turns = []; reply = Done }) (cond (nat_lt from shape.buckets) (walks shape moment.cpu moment.number false limit moment.state (buckets_from shape from) []) (record { turns = []; reply = Refused Enoent }))).reply) [
      | true ↦ λ none. inl (refl, eqb-true count 0 none)
      | false ↦ λ some.
          elim (nat_lt from shape.buckets) as (λ b. nat_lt from shape.buckets ≡ b → Answers shape lie count from (cond b (walks shape moment.cpu moment.number false limit moment.state (buckets_from shape from) []) (record { turns = []; reply = Refused Enoent })).reply) [
            | true ↦ λ there.
                let below : from < shape.buckets = ltb-true from shape.buckets there in
                inr (inr (below, walks_read shape lie moment.cpu moment.number limit (shape.buckets - from) from [] moment.state holds (omega (arith, below))))
            | false ↦ λ past. inr (inl (refl, ltb-false from shape.buckets past))
          ] refl
    ] refl

-- Batch after batch

mapped : (now : Pairs) (rest : Option Pairs) (all : Pairs) → option_map (λ (later : Pairs). now ++ later) rest ≡ Some all → (later : Pairs) × (rest ≡ Some later) × (all ≡ now ++ later)
mapped now None all is = absurd (none-some all is)
mapped now (Some later) all is = (later, refl, sym (same_Some (now ++ later) all is))

mapped_some : (now : Pairs) (rest : Option Pairs) → IsSome rest → IsSome (option_map (λ (later : Pairs). now ++ later) rest)
mapped_some now None some = cc
mapped_some now (Some later) some = refl

module _ (shape : Shape) (lie : ℕ → List Stored) where
  abbrev pairs_in : List ℕ → Pairs
  pairs_in buckets = map (pair_read shape 0) (flat_map lie buckets)

  -- buckets that were read, and those behind
  joined : (from many : ℕ) → from < shape.buckets → many ≤ shape.buckets - from → pairs_in (range_with_len from many) ++ pairs_in (buckets_from shape (from + many)) ≡ pairs_in (buckets_from shape from)
  joined from many below within =
      let left : ℕ = shape.buckets - (from + many) in
      let count : many + left ≡ shape.buckets - from = omega (arith, below, within) in
      sym (map-append (pair_read shape 0) (flat_map lie (range_with_len from many)) (flat_map lie (range_with_len (from + many) left)))
      ∙ ap (map (pair_read shape 0)) (sym (flat_map-append lie (range_with_len from many) (range_with_len (from + many) left)))
      ∙ ap pairs_in (range-append from many left ∙ ap (range_with_len from) count)

  -- what a batch that reads gives with those behind it
  batch_pairs : (limit from : ℕ) (reply : Reply) (later : Option Pairs) (all : Pairs) → from < shape.buckets → (reads : EndsBatch shape lie limit from (shape.buckets - from) [] reply)
      → ((rest : Pairs) → later ≡ Some rest → rest ≡ pairs_in (buckets_from shape reads.next))
      → read_more reply later ≡ Some all → all ≡ pairs_in (buckets_from shape from)
  batch_pairs limit from reply later all below reads others is =
      let told : read_more (Batch reads.stop reads.now reads.next) later ≡ Some all = ap (λ (r : Reply). read_more r later) (sym reads.reply_is) ∙ is in
      ⊎_elim
      (λ whole.
      let ended : Some reads.now ≡ Some all = ap (λ (stop : Option Errno). cond (is_enoent stop) (Some reads.now) (option_map (λ (rest : Pairs). reads.now ++ rest) later)) (sym whole.0) ∙ told in
      sym (same_Some reads.now all ended) ∙ reads.now_is ∙ ap (λ k. pairs_in (range_with_len from k)) whole.1)
      (λ part.
      let goes : option_map (λ (rest : Pairs). reads.now ++ rest) later ≡ Some all = ap (λ (b : Bool). cond b (Some reads.now) (option_map (λ (rest : Pairs). reads.now ++ rest) later)) (sym part.0) ∙ told in
      let split = mapped reads.now later all goes in
      let behind : split.0 ≡ pairs_in (buckets_from shape reads.next) = others split.0 split.1 in
      split.2 ∙ (λ i. reads.now_is i ++ behind i) ∙ ap (λ k. pairs_in (range_with_len from reads.many) ++ pairs_in (buckets_from shape k)) reads.next_is
      ∙ joined from reads.many below reads.within)
      reads.ends

  chain_pairs : (counts : List ℕ) (at : ℕ → Moment) → ((n : ℕ) → Holds shape lie (at n)) → (start : Option ℕ) (all : Pairs) → read_through shape at start counts ≡ Some all → all ≡ pairs_in (buckets_from shape (unwrap_or start 0))
  chain_pairs [] at holds start all is = absurd (none-some all is)
  chain_pairs (count ∷ counts) at holds start all is =
      let from : ℕ = unwrap_or start 0 in
      let reply : Reply = answer_at shape (at 0) (BatchRead false count start 0) in
      let behind : Option ℕ → Option Pairs = λ next. read_through shape (λ n. at (suc n)) next counts in
      ⊎_elim
      (λ none. chain_pairs counts (λ n. at (suc n)) (λ n. holds (suc n)) start all (ap (λ (r : Reply). read_more r (behind (start_behind start r))) (sym none.0) ∙ is))
      (λ some. ⊎_elim
      (λ past. absurd (none-some all (ap (λ (r : Reply). read_more r (behind (start_behind start r))) (sym past.0) ∙ is)))
      (λ reads. batch_pairs (min count shape.elements) from reply (behind (start_behind start reply)) all reads.0 reads.1
      (λ rest told. chain_pairs counts (λ n. at (suc n)) (λ n. holds (suc n)) (Some reads.1.next) rest (ap (λ (r : Reply). behind (start_behind start r)) (sym reads.1.reply_is) ∙ told)) is)
      some)
      (batch_answer shape lie (at 0) (holds 0) count start)

  -- Once a batch answers ENOENT, all pairs were given.
  pub all_pairs : (at : ℕ → Moment) → ((n : ℕ) → Holds shape lie (at n)) → (counts : List ℕ) (all : Pairs) → read_through shape at None counts ≡ Some all → all ≡ map (pair_read shape 0) (in_order shape lie)
  all_pairs at holds counts all is = chain_pairs counts at holds None all is

  -- so they were where the first of them starts at the first bucket
  pub all_from_first : (at : ℕ → Moment) → ((n : ℕ) → Holds shape lie (at n)) → (counts : List ℕ) (all : Pairs) → read_through shape at (Some 0) counts ≡ Some all → all ≡ map (pair_read shape 0) (in_order shape lie)
  all_from_first at holds counts all is = chain_pairs counts at holds (Some 0) all is

  -- a batch with room for its first bucket comes to a later one
  some_taken : (limit from many : ℕ) (now : Pairs) → now ≡ pairs_in (range_with_len from many) → length (lie from) ≤ limit → limit - length now < length (lie (from + many)) → 1 ≤ many
  some_taken limit from zero now is room over =
      let here : from + 0 ≡ from = omega arith in
      let same : length (lie (from + 0)) ≡ length (lie from) = ap (λ k. length (lie k)) here in
      let nothing : length now ≡ 0 = ap length is in
      absurd (omega (arith, room, over, same, nothing))
  some_taken limit from (suc many) now is room over = omega arith

  without_gain : (needed gained left : ℕ) → gained ≡ 0 → needed ≤ gained + left → needed ≤ left
  without_gain needed gained left none most = omega (arith, none, most)

  -- what a batch gains: a bucket at least, where it has room for the one that it starts at
  batch_ends : (limit from gained left : ℕ) (reply : Reply) (later : Option Pairs) → from < shape.buckets → (gained ≡ 0) ⊎ ((gained ≤ 1) × (length (lie from) ≤ limit)) → shape.buckets - from ≤ gained + left
      → (reads : EndsBatch shape lie limit from (shape.buckets - from) [] reply) → (reads.next < shape.buckets → shape.buckets - reads.next ≤ left → IsSome later) → IsSome (read_more reply later)
  batch_ends limit from gained left reply later below room few reads others =
      subst (λ (r : Reply). IsSome (read_more r later)) (sym reads.reply_is)
      (⊎_elim
      (λ whole. subst (λ (stop : Option Errno). IsSome (cond (is_enoent stop) (Some reads.now) (option_map (λ (rest : Pairs). reads.now ++ rest) later))) (sym whole.0) refl)
      (λ part.
      let over : limit - length reads.now < length (lie (from + reads.many)) = subst (λ k. limit - length reads.now < length (lie k)) reads.next_is part.2 in
      let far : gained ≤ reads.many = ⊎_elim (λ none. omega (arith, none)) (λ some. omega (arith, some.0, some_taken limit from reads.many reads.now reads.now_is some.1 over)) room in
      let rest : IsSome later = others (omega (arith, reads.next_is, part.1, below)) (omega (arith, reads.next_is, far, few, part.1, below)) in
      subst (λ (b : Bool). IsSome (cond b (Some reads.now) (option_map (λ (rest : Pairs). reads.now ++ rest) later))) (sym part.0) (mapped_some reads.now later rest))
      reads.ends)

  abbrev one_if : Bool → ℕ
  one_if b = cond b 1 0

  gain : (from count : ℕ) → from < shape.buckets → (one_if (has_room shape lie from count) ≡ 0) ⊎ ((one_if (has_room shape lie from count) ≤ 1) × (0 < count) × (length (lie from) ≤ min count shape.elements))
  gain from count below = by (nat_lt from shape.buckets) (nat_lt 0 count) (nat_lt (min count shape.elements) (length (lie from))) refl refl refl
    where
      by : (there some over : Bool) → nat_lt from shape.buckets ≡ there → nat_lt 0 count ≡ some → nat_lt (min count shape.elements) (length (lie from)) ≡ over
          → (one_if (cond there (some && not over) true) ≡ 0) ⊎ ((one_if (cond there (some && not over) true) ≤ 1) × (0 < count) × (length (lie from) ≤ min count shape.elements))
      by false some over past more less = absurd (omega (arith, below, ltb-false from shape.buckets past))
      by true false over here none less = inl refl
      by true true true here more less = inl refl
      by true true false here more less = inr (omega arith, ltb-true 0 count more, ltb-false (min count shape.elements) (length (lie from)) less)

  chain_ends : (counts : List ℕ) (at : ℕ → Moment) → ((n : ℕ) → Holds shape lie (at n)) → (start : Option ℕ) → unwrap_or start 0 < shape.buckets → shape.buckets - unwrap_or start 0 ≤ with_room shape lie at start counts
      → IsSome (read_through shape at start counts)
  chain_ends [] at holds start below few = absurd (omega (arith, below, few))
  chain_ends (count ∷ counts) at holds start below few =
      let from : ℕ = unwrap_or start 0 in
      let reply : Reply = answer_at shape (at 0) (BatchRead false count start 0) in
      let behind : Option ℕ → Option Pairs = λ next. read_through shape (λ n. at (suc n)) next counts in
      let rooms : Option ℕ → ℕ = λ next. with_room shape lie (λ n. at (suc n)) next counts in
      let gained : ℕ = one_if (has_room shape lie from count) in
      let most : shape.buckets - from ≤ gained + rooms (start_behind start reply) = few in
      ⊎_elim
      (λ none.
      let here : shape.buckets - from ≤ gained + rooms start = subst (λ (r : Reply). shape.buckets - from ≤ gained + rooms (start_behind start r)) none.0 most in
      let nothing : gained ≡ 0 = ⊎_elim (λ no. no) (λ room. absurd (omega (arith, none.1, room.1))) (gain from count below) in
      subst (λ (r : Reply). IsSome (read_more r (behind (start_behind start r)))) (sym none.0)
      (chain_ends counts (λ n. at (suc n)) (λ n. holds (suc n)) start below (without_gain (shape.buckets - from) gained (rooms start) nothing here)))
      (λ some. ⊎_elim
      (λ past. absurd (omega (arith, past.1, below)))
      (λ reads.
      let goes : start_behind start reply ≡ Some reads.1.next = ap (start_behind start) reads.1.reply_is in
      batch_ends (min count shape.elements) from gained (rooms (start_behind start reply)) reply (behind (start_behind start reply)) below
      (⊎_elim (λ no. inl no) (λ room. inr (room.0, room.2)) (gain from count below)) most reads.1
      (λ there left. subst (λ next. IsSome (behind next)) (sym goes) (chain_ends counts (λ n. at (suc n)) (λ n. holds (suc n)) (Some reads.1.next) there (subst (λ next. shape.buckets - reads.1.next ≤ rooms next) goes left))))
      some)
      (batch_answer shape lie (at 0) (holds 0) count start)

  -- One of them answers ENOENT, once as many as there are buckets had room.
  pub all_end : (at : ℕ → Moment) → ((n : ℕ) → Holds shape lie (at n)) → 0 < shape.buckets → (counts : List ℕ) → shape.buckets ≤ with_room shape lie at None counts → IsSome (read_through shape at None counts)
  all_end at holds some counts few = chain_ends counts at holds None some (omega (arith, few))
