-- Where the elements of a map that doesn't evict are between calls in serial order: each is once in a bucket, on a freelist or the
-- spare of a CPU, and every call leaves it so.
use Rattle.std.proofs.Common.{◌≡◌, ◌≢◌, ◌⊎◌, ℕ, zero, suc, ◌+◌, ◌<◌, Bool, true, false, cond, eqb, ltb, List, [], ◌∷◌, ◌++◌, refl, ap, ◌∙◌, sym, subst, ⊎_elim, inl, inr, arith}
use Rattle.std.specs.Prelude.{Option, None, All, option_to_list, unwrap_or}
use Rattle.std.proofs.lemmas.Bool.{cases_eq, ne_eqb, both_ways}
use Rattle.std.proofs.lemmas.List.Elements.{All-head, All-tail}
use Rattle.map_types.specs.declared.attr.Shape.{Shape}
use Rattle.map_types.specs.declared.call.Call.{Call}
use Rattle.map_types.specs.declared.call.Verb.{Verb}
use Rattle.map_types.specs.declared.kind.DomainId.TheVariants.{Bucket, Freelist}
use Rattle.map_types.specs.declared.kind.MapKind.TheVariants.{Hash}
use Rattle.map_types.specs.ElementLists.{times, one, put}
use Rattle.map_types.specs.Kind.{is_lru}
use Rattle.map_types.specs.Shape.{HasBounds}
use Rattle.key_hash.specs.Jhash.{hash}
use Rattle.key_hash.proofs.Buckets.{bucket_number-lt}
use Rattle.place_words.specs.declared.bucket_part.BucketPart.{BucketPart}
use Rattle.place_words.specs.declared.free_part.FreePart.{FreePart}
use Rattle.place_words.specs.declared.free_part.FreePart.TheVariants.{Pushed}
use Rattle.place_words.specs.declared.history.Entry.{Entry}
use Rattle.place_words.specs.declared.history.Part.TheVariants as parts
use Rattle.place_words.specs.Bodies.{numbers}
use Rattle.place_words.specs.Buckets.{AllowsInBucket, bucket_after}
use Rattle.place_words.specs.Freelists.{AllowsOnFreelist, freelist_after}
use Rattle.place_words.specs.Histories.{Content, Allows, content, content_after, bucket_in, freelist_in}
use Rattle.place_words.specs.Logs.{State, turned, all_turned, lies_in, bucket_at, freelist_at, does, after_one, run, placed, IsDone}
use Rattle.place_words.specs.Moves.{brought, taken}
use Rattle.place_words.specs.PlainTraces.{spare_after_part, spare_after}
use Rattle.place_words.specs.SerialOrder.{AreDone}
use Rattle.place_words.specs.Turns.{Turn, AreLegalAt, bucket_of_key, on_lock, on_freelist_of}
use Rattle.place_words.proofs.Balances.{all_brought, all_taken, Balances, trace_balances}
use Rattle.place_words.proofs.BucketLaws.{bucket_counts}
use Rattle.place_words.proofs.ContentLaws.{freelist_counts}
use Rattle.place_words.proofs.DoneLaws.{lies_a_bucket, lies_a_freelist}
use Rattle.place_words.proofs.EachTurn.{TurnLaw, does_right, verb_passes}
use Rattle.place_words.proofs.ListContents.{lies_turned, log_stays}
use Rattle.place_words.proofs.OnLocks.{ring_within}
use Rattle.place_words.proofs.PlacedLaws.{placed_turns, spares_after}
use Rattle.place_words.proofs.RestCounts.{sum_first}

-- Sums where one number changes

pub sum_below : (f g : ℕ → ℕ) (n : ℕ) → ((k : ℕ) → k < n → f k ≡ g k) → sum_first f n ≡ sum_first g n
sum_below f g zero same = refl
sum_below f g (suc n) same = omega (arith, same n (omega arith), sum_below f g n (λ k below. same k (omega (arith, below))))

sum_changed : (f g : ℕ → ℕ) (at n gone come : ℕ) → at < n → f at + gone ≡ g at + come → ((k : ℕ) → k ≢ at → f k ≡ g k) → sum_first f n + gone ≡ sum_first g n + come
sum_changed f g at zero gone come below here others = absurd (omega (arith, below))
sum_changed f g at (suc n) gone come below here others =
    ⊎_elim
    (λ (same : at ≡ n).
    let now : f n + gone ≡ g n + come = subst (λ k. f k + gone ≡ g k + come) same here in
    omega (arith, now, sum_below f g n (λ k less. others k (λ is. omega (arith, is, less, same)))))
    (λ (other : at ≡ n → ⊥).
    let rest = sum_changed f g at n gone come (omega (arith, below, other)) here others in
    let last : f n ≡ g n = others n (λ is. other (sym is)) in
    omega (arith, rest, last))
    (cases_eq at n)

-- how often an element is in buckets, on freelists, and a spare
abbrev pub in_buckets : Shape → State → ℕ → ℕ
in_buckets shape state e = sum_first (λ bucket. times e (numbers (bucket_at shape state bucket))) shape.buckets

abbrev pub on_freelists : Shape → State → ℕ → ℕ
on_freelists shape state e = sum_first (λ cpu. times e (freelist_at shape state cpu)) shape.cpus

abbrev pub in_spares : Shape → State → ℕ → ℕ
in_spares shape state e = sum_first (λ cpu. times e (option_to_list (state.spares cpu))) shape.cpus

-- each element is in one place, and only HASH has spares
pub record IsKept (shape : Shape) (state : State) : Type 0 where
  pub once : (e : ℕ) → in_buckets shape state e + on_freelists shape state e + in_spares shape state e ≡ one (ltb e shape.elements)
  pub no_spares : shape.kind ≢ Hash → (cpu : ℕ) → state.spares cpu ≡ None

-- a turn of a bucket of the map, or of a CPU's freelist
abbrev IsPlain : Shape → Turn → Type 0
IsPlain shape turn =
    ((bucket : ℕ) × (part : BucketPart) × ((bucket < shape.buckets) × (turn ≡ on_lock (Bucket bucket) (parts.Bucket part))))
    ⊎ ((on : ℕ) × (part : FreePart) × ((on < shape.cpus) × (turn ≡ on_freelist_of on part)))

abbrev ArePlain : Shape → List Turn → Type 0
ArePlain shape [] = Unit {0}
ArePlain shape (turn ∷ turns) = IsPlain shape turn × ArePlain shape turns

plain_both : (shape : Shape) (xs ys : List Turn) → ArePlain shape xs → ArePlain shape ys → ArePlain shape (xs ++ ys)
plain_both shape [] ys first second = second
plain_both shape (turn ∷ xs) ys first second = (first.0, plain_both shape xs ys first.1 second)

module _ (shape : Shape) (bounds : HasBounds shape) (plain : is_lru shape.kind ≡ false) (cpu number : ℕ) (within : cpu < shape.cpus) where
  plain_law : TurnLaw shape cpu number (λ side key value. Unit {0}) (λ state. Unit {0}) (λ turns. ArePlain shape turns) (Unit {0})
  plain_law = record {
    none = tt;
    both = plain_both shape;
    keeps = λ turns fits state kept. tt;
    in_key = λ key part is. (inl (bucket_of_key shape key, part, (bucket_number-lt (hash key shape.seed) shape.buckets bounds.buckets_power, refl)), tt);
    in_bucket = λ bucket below part is. (inl (bucket, part, (below, refl)), tt);
    pushes = λ plainly e. (inr (cpu, Pushed e, (within, refl)), tt);
    looks = λ plainly from there part. (inr (from, part, (ring_within cpu shape.cpus within from there, refl)), tt);
    frees = λ lru state e. absurd (both_ways (is_lru shape.kind) plain lru);
    takes = λ lru key_hash state kept. absurd (both_ways (is_lru shape.kind) plain lru);
    lacks = λ lru key_hash state kept none. tt;
  }

  -- One turn

  abbrev IsCounted : State → Turn → Type 0
  IsCounted state turn =
      (e : ℕ) → in_buckets shape (turned shape cpu number turn state) e + on_freelists shape (turned shape cpu number turn state) e + times e (taken turn.part)
      ≡ in_buckets shape state e + on_freelists shape state e + times e (brought turn.part)

  bucket_turn : (state : State) (bucket : ℕ) (part : BucketPart) → bucket < shape.buckets → Allows shape cpu (parts.Bucket part) (lies_in shape state (Bucket bucket)) → IsCounted state (on_lock (Bucket bucket) (parts.Bucket part))
  bucket_turn state bucket part below allowed e =
      let turn : Turn = on_lock (Bucket bucket) (parts.Bucket part) in
      let now : State = turned shape cpu number turn state in
      let may : AllowsInBucket shape cpu part (bucket_at shape state bucket) = subst (Allows shape cpu (parts.Bucket part)) (lies_a_bucket shape state bucket) allowed in
      let here : bucket_at shape now bucket ≡ bucket_after shape cpu part (bucket_at shape state bucket) =
      ap (λ (lies : Content). unwrap_or (bucket_in lies) []) (lies_turned shape cpu number turn state ∙ ap (content_after shape cpu (parts.Bucket part)) (lies_a_bucket shape state bucket)) in
      let counts = bucket_counts shape cpu (bucket_at shape state bucket) e part may in
      let at : times e (numbers (bucket_at shape now bucket)) ≡ times e (numbers (bucket_after shape cpu part (bucket_at shape state bucket))) = ap (λ bodies. times e (numbers bodies)) here in
      let sums : in_buckets shape now e + times e (taken (parts.Bucket part)) ≡ in_buckets shape state e + times e (brought (parts.Bucket part)) =
      sum_changed (λ k. times e (numbers (bucket_at shape now k))) (λ k. times e (numbers (bucket_at shape state k))) bucket shape.buckets _ _ below (omega (arith, counts, at))
      (λ k other. ap (λ (entries : List Entry). times e (numbers (unwrap_or (bucket_in (content shape (Bucket k) entries)) []))) (log_stays shape cpu number (turn ∷ []) state (Bucket k) (ne_eqb bucket k (λ is. other (sym is)), tt))) in
      let free : on_freelists shape now e ≡ on_freelists shape state e = refl in
      omega (arith, sums, free)

  freelist_turn : (state : State) (on : ℕ) (part : FreePart) → on < shape.cpus → Allows shape cpu (parts.Free part) (lies_in shape state (Freelist on)) → IsCounted state (on_freelist_of on part)
  freelist_turn state on part below allowed e =
      let turn : Turn = on_freelist_of on part in
      let now : State = turned shape cpu number turn state in
      let may : AllowsOnFreelist part (freelist_at shape state on) = subst (Allows shape cpu (parts.Free part)) (lies_a_freelist shape state on) allowed in
      let here : freelist_at shape now on ≡ freelist_after part (freelist_at shape state on) =
      ap (λ (lies : Content). unwrap_or (freelist_in lies) []) (lies_turned shape cpu number turn state ∙ ap (content_after shape cpu (parts.Free part)) (lies_a_freelist shape state on)) in
      let counts = freelist_counts part (freelist_at shape state on) may e in
      let at : times e (freelist_at shape now on) ≡ times e (freelist_after part (freelist_at shape state on)) = ap (times e) here in
      let sums : on_freelists shape now e + times e (taken (parts.Free part)) ≡ on_freelists shape state e + times e (brought (parts.Free part)) =
      sum_changed (λ k. times e (freelist_at shape now k)) (λ k. times e (freelist_at shape state k)) on shape.cpus _ _ below (omega (arith, counts, at))
      (λ k other. ap (λ (entries : List Entry). times e (unwrap_or (freelist_in (content shape (Freelist k) entries)) [])) (log_stays shape cpu number (turn ∷ []) state (Freelist k) (ne_eqb on k (λ is. other (sym is)), tt))) in
      let same : in_buckets shape now e ≡ in_buckets shape state e = refl in
      omega (arith, sums, same)

  turn_counts : (state : State) (turn : Turn) → IsPlain shape turn → Allows shape cpu turn.part (lies_in shape state turn.lock) → IsCounted state turn
  turn_counts state turn (inl (bucket, part, (below, is))) allowed =
      subst (IsCounted state) (sym is) (bucket_turn state bucket part below (subst (λ (t : Turn). Allows shape cpu t.part (lies_in shape state t.lock)) is allowed))
  turn_counts state turn (inr (on, part, (below, is))) allowed =
      subst (IsCounted state) (sym is) (freelist_turn state on part below (subst (λ (t : Turn). Allows shape cpu t.part (lies_in shape state t.lock)) is allowed))

  -- and all turns of a call
  turns_count : (turns : List Turn) (state : State) → ArePlain shape turns → AreLegalAt shape cpu (placed shape cpu number turns state) → (e : ℕ)
      → in_buckets shape (all_turned shape cpu number turns state) e + on_freelists shape (all_turned shape cpu number turns state) e + all_taken e turns
      ≡ in_buckets shape state e + on_freelists shape state e + all_brought e turns
  turns_count [] state plainly legal e = refl
  turns_count (turn ∷ turns) state plainly legal e =
      omega (arith, turn_counts state turn plainly.0 legal.0.1 e, turns_count turns (turned shape cpu number turn state) plainly.1 legal.1 e)

  -- Spares

  spare_elsewhere : (turn : Turn) (state : State) (c : ℕ) → c ≢ cpu → (turned shape cpu number turn state).spares c ≡ state.spares c
  unfolding put
  spare_elsewhere turn state c other = by (is_lru shape.kind)
    where
      written : (b : Bool) → b ≡ false → cond b (spare_after_part (state.spares cpu) turn.part) (state.spares c) ≡ state.spares c
      written true is = absurd cc
      written false is = refl

      by : (b : Bool) → (cond b state.spares (put state.spares cpu (spare_after_part (state.spares cpu) turn.part))) c ≡ state.spares c
      by true = refl
      by false = written (eqb c cpu) (ne_eqb c cpu other)

  spares_elsewhere : (turns : List Turn) (state : State) (c : ℕ) → c ≢ cpu → (all_turned shape cpu number turns state).spares c ≡ state.spares c
  spares_elsewhere [] state c other = refl
  spares_elsewhere (turn ∷ turns) state c other = spares_elsewhere turns (turned shape cpu number turn state) c other ∙ spare_elsewhere turn state c other

  spares_count : (turns : List Turn) (state : State) (e : ℕ)
      → in_spares shape (all_turned shape cpu number turns state) e + times e (option_to_list (state.spares cpu)) ≡ in_spares shape state e + times e (option_to_list (spare_after (state.spares cpu) turns))
  spares_count turns state e =
      let now : State = all_turned shape cpu number turns state in
      let mine : times e (option_to_list (now.spares cpu)) ≡ times e (option_to_list (spare_after (state.spares cpu) turns)) = ap (λ (s : Option ℕ). times e (option_to_list s)) (spares_after shape cpu number turns state plain) in
      sum_changed (λ c. times e (option_to_list (now.spares c))) (λ c. times e (option_to_list (state.spares c))) cpu shape.cpus _ _ within (omega (arith, mine))
      (λ c other. ap (λ (s : Option ℕ). times e (option_to_list s)) (spares_elsewhere turns state c other))

  -- a call that is done leaves each element in one place
  turns_keep : (turns : List Turn) (state : State) → ArePlain shape turns → AreLegalAt shape cpu (placed shape cpu number turns state) → Balances (state.spares cpu) turns → IsKept shape state → IsKept shape (all_turned shape cpu number turns state)
  turns_keep turns state plainly legal balances kept = record {
    once = λ e. omega (arith, turns_count turns state plainly legal e, spares_count turns state e, balances.even e, kept.once e);
    no_spares = λ other c. ⊎_elim
        (λ (same : c ≡ cpu). ap (λ k. (all_turned shape cpu number turns state).spares k) same ∙ spares_after shape cpu number turns state plain ∙ balances.none (kept.no_spares other cpu))
        (λ (apart : c ≡ cpu → ⊥). spares_elsewhere turns state c apart ∙ kept.no_spares other c)
        (cases_eq c cpu);
  }

  pub call_keeps : (state : State) (verb : Verb) → IsDone shape cpu number verb state → IsKept shape state → IsKept shape (all_turned shape cpu number (does shape cpu number state verb).turns state)
  call_keeps state verb done kept =
      let turns : List Turn = (does shape cpu number state verb).turns in
      let right = does_right plain_law state tt verb (verb_passes verb) in
      let balances : Balances (state.spares cpu) turns = subst (Balances (state.spares cpu)) (placed_turns shape cpu number turns state) (trace_balances shape cpu plain (state.spares cpu) verb (placed shape cpu number turns state) (does shape cpu number state verb).reply done.trace) in
      turns_keep turns state right.fits done.legal balances kept

-- and so does every run
pub run_keeps : (shape : Shape) → HasBounds shape → is_lru shape.kind ≡ false → (number : ℕ) (calls : List Call) (state : State) → All (λ (call : Call). call.cpu < shape.cpus) calls → AreDone shape number calls state → IsKept shape state → IsKept shape (run shape number calls state)
run_keeps shape bounds plain number [] state served done kept = kept
run_keeps shape bounds plain number (call ∷ calls) state served done kept =
    run_keeps shape bounds plain (suc number) calls (after_one shape number call state) (All-tail (λ (one : Call). one.cpu < shape.cpus) call calls served) done.1
    (call_keeps shape bounds plain call.cpu number (All-head (λ (one : Call). one.cpu < shape.cpus) call calls served) state call.verb done.0 kept)
