-- Every call on a key of a map that doesn't evict is a run of the core.
use Rattle.std.proofs.Common.{◌≡◌, ℕ, zero, suc, ◌+◌, ◌-◌, ◌<◌, ◌≤◌, Bool, true, false, cond, List, [], ◌∷◌, ◌++◌, length, map, Option, None, Some, refl, ap, ◌∙◌, sym, subst, ⊎_elim, arith}
use Rattle.std.specs.Prelude.{MatchOption, option_to_list, if◌then◌else◌}
use Rattle.std.specs.List.{range_with_len}
use Rattle.std.proofs.lemmas.Bool.{cond-false, lt-ltb}
use Rattle.std.proofs.lemmas.List.{append_assoc}
use Rattle.map_types.specs.declared.attr.Shape.{Shape}
use Rattle.map_types.specs.declared.call.Verb.{Verb}
use Rattle.map_types.specs.declared.call.Verb.TheVariants as verbs
use Rattle.map_types.specs.declared.kind.DomainId.{DomainId}
use Rattle.map_types.specs.declared.kind.DomainId.TheVariants.{Bucket}
use Rattle.map_types.specs.declared.kind.Side.{Side}
use Rattle.map_types.specs.declared.reply.Reply.{Reply}
use Rattle.map_types.specs.Kind.{is_lru}
use Rattle.map_types.specs.Shape.{HasBounds}
use Rattle.map_types.specs.Stored.{Stored}
use Rattle.map_types.specs.ElementLists.{put, IsIn, times, without}
use Rattle.map_types.proofs.RowLemmas.{by_test}
use Rattle.place_words.specs.declared.bucket_part.BucketPart.{BucketPart}
use Rattle.place_words.specs.declared.bucket_part.BucketPart.TheVariants.{Lookup, Update, Delete, Take}
use Rattle.place_words.specs.declared.bucket_part.Put.{Put}
use Rattle.place_words.specs.declared.bucket_part.Put.TheVariants as puts
use Rattle.place_words.specs.declared.free_part.FreePart.TheVariants.{Popped, FoundEmpty}
use Rattle.place_words.specs.declared.history.Part.TheVariants as parts
use Rattle.place_words.specs.Bodies.{present, without_key, numbers}
use Rattle.place_words.specs.Buckets.{AllowsInBucket, bucket_after, written_over}
use Rattle.place_words.specs.Histories.{Content, in_bucket, on_freelist, content_after, Allows}
use Rattle.place_words.specs.PlainTraces.{found_empty, pushes, LooksFor, IsPlainTrace, element_gone, spare_after}
use Rattle.place_words.specs.Turns.{Turn, ring, on_freelist_of, on_bucket_of, bucket_of_key, after_turns, AreAllowed}
use Rattle.place_words.proofs.PlacedContents.{after_both}
use Rattle.place_words.proofs.Splits.{there}
use Rattle.key_hash.proofs.Buckets.{bucket_number-lt}
use Rattle.place_words.specs.declared.step.Lists.{Lists}
use Rattle.place_words.specs.State.{State}
use Rattle.place_words.specs.Interleaving.{Drawn, Event, does, is_inner, part_steps, seen_by, lists_in, takes, interleaved, AreEnabled}
use Rattle.core_runs.proofs.Nests.{stamped, from_less, drawn}
use Rattle.core_runs.proofs.OwnNest.{weaker}
use Rattle.core_runs.proofs.PlainGoes.{Goes, goes_none, goes_keeping, goes_replacing, AreSpares, stamped_both, length_both, pushing, left_of, AreThere, numbers_without, present_in_numbers, bucket_once}
use Rattle.core_runs.proofs.PlainRuns.{core_lists, on_bodies, AreCpus, popping, added_runs}
use Rattle.core_runs.proofs.Tied.{IsTied}
use Rattle.core_runs.proofs.PlainNests.{allowed_parts, pushing_else, goes_removing, looks_else, goes_full}

-- CPUs of a ring
cpus_both : (shape : Shape) (xs ys : List ℕ) → AreCpus shape xs → AreCpus shape ys → AreCpus shape (xs ++ ys)
cpus_both shape [] ys first second = second
cpus_both shape (x ∷ xs) ys first second = (first.0, cpus_both shape xs ys first.1 second)

cpus_parts : (shape : Shape) (xs ys : List ℕ) → AreCpus shape (xs ++ ys) → AreCpus shape xs × AreCpus shape ys
cpus_parts shape [] ys both = (tt, both)
cpus_parts shape (x ∷ xs) ys both = let rest = cpus_parts shape xs ys both.1 in ((both.0, rest.0), rest.1)

range_cpus : (shape : Shape) (from n : ℕ) → from + n ≤ shape.cpus → AreCpus shape (range_with_len from n)
range_cpus shape from zero within = tt
range_cpus shape from (suc n) within = (omega (arith, within), range_cpus shape (from + 1) n (omega (arith, within)))

pub ring_cpus : (shape : Shape) (cpu : ℕ) → cpu < shape.cpus → AreCpus shape (ring cpu shape.cpus)
ring_cpus shape cpu within = cpus_both shape (range_with_len cpu (shape.cpus - cpu)) (range_with_len 0 cpu) (range_cpus shape cpu (shape.cpus - cpu) (omega (arith, within))) (range_cpus shape 0 cpu (omega (arith, within)))

popping_is : (passed : List ℕ) (giver e : ℕ) → found_empty passed ++ on_freelist_of giver (Popped e) ∷ [] ≡ popping passed giver e
popping_is [] giver e = refl
popping_is (c ∷ passed) giver e = ap (λ (l : List Turn). on_freelist_of c FoundEmpty ∷ l) (popping_is passed giver e)

popping_length : (passed : List ℕ) (giver e : ℕ) → length (popping passed giver e) ≡ suc (length passed)
popping_length [] giver e = refl
popping_length (c ∷ passed) giver e = ap suc (popping_length passed giver e)

-- Spares
looks_spare : (cpus : List ℕ) (turns : List Turn) (spare : Option ℕ) → spare_after spare (found_empty cpus ++ turns) ≡ spare_after spare turns
looks_spare [] turns spare = refl
looks_spare (c ∷ cpus) turns spare = looks_spare cpus turns spare

popping_spare : (passed : List ℕ) (giver e : ℕ) (turns : List Turn) (spare : Option ℕ) → spare_after spare (popping passed giver e ++ turns) ≡ spare_after spare turns
popping_spare [] giver e turns spare = refl
popping_spare (c ∷ passed) giver e turns spare = popping_spare passed giver e turns spare

-- less is known after it
pub goes_weaker : {shape : Shape} {cpu : ℕ} (contents : DomainId → Content) (Known Later Less : ℕ → ℕ → Type 0) (turns : List Turn) → ((c x : ℕ) → Less c x → Later c x) → Goes shape cpu contents Known turns Later → Goes shape cpu contents Known turns Less
goes_weaker contents Known Later Less turns less goes = record { run = λ s n call later tied from more. goes.run s n call later tied from (λ t held. more t (weaker less held)) }

module _ {shape : Shape} (bounds : HasBounds shape) (plain : is_lru shape.kind ≡ false) {cpu : ℕ} (within : cpu < shape.cpus) (contents : DomainId → Content) (spares : ℕ → Option ℕ) where
  abbrev Kept : Option ℕ → ℕ → ℕ → Type 0
  Kept spare = AreSpares (put spares cpu spare)

  kept_spares : (c x : ℕ) → Kept (spares cpu) c x → AreSpares spares c x
  unfolding put
  kept_spares c x is = by_test c cpu (λ b. cond b (spares cpu) (spares c) ≡ Some x → spares c ≡ Some x) (λ same have. ap spares same ∙ have) (λ other have. have) is

  bucket_there : (key : List ℕ) → bucket_of_key shape key < shape.buckets
  bucket_there key = Rattle.key_hash.proofs.Buckets.bucket_number-lt (Rattle.key_hash.specs.Jhash.hash key shape.seed) shape.buckets bounds.buckets_power

  -- a turn of the key's bucket that keeps its elements
  key_keeps : (key : List ℕ) (part : BucketPart) → is_inner (parts.Bucket part) ≡ false → part_steps shape cpu (Bucket (bucket_of_key shape key)) None (parts.Bucket part) ≡ [] → seen_by (parts.Bucket part) ≡ []
      → Allows shape cpu (parts.Bucket part) (contents (Bucket (bucket_of_key shape key))) → ((bodies : List Stored) → AllowsInBucket shape cpu part bodies → numbers (bucket_after shape cpu part bodies) ≡ numbers bodies)
      → Goes shape cpu contents (AreSpares spares) (on_bucket_of shape key part ∷ []) (Kept (spares cpu))
  key_keeps key part outer quiet blind allowed keeps =
      goes_weaker contents (AreSpares spares) (AreSpares spares) (Kept (spares cpu)) (on_bucket_of shape key part ∷ []) kept_spares
      (goes_keeping bounds within contents (AreSpares spares) (bucket_of_key shape key) part (bucket_there key) outer quiet blind allowed keeps)

  written_numbers : (side : Side) (key value : List ℕ) (bodies : List Stored) → numbers (map (written_over shape side cpu key value) bodies) ≡ numbers bodies
  written_numbers side key value [] = refl
  written_numbers side key value (body ∷ bodies) =
      ap (λ (x : ℕ). x ∷ numbers (map (written_over shape side cpu key value) bodies))
      (elim (Rattle.place_words.specs.Bodies.has_key key body) as (λ b. (if b then record body { values = Rattle.map_types.specs.Sides.values_written shape side cpu body.values value } else body).element ≡ body.element) [
        | true ↦ refl
        | false ↦ refl
      ])
      ∙ ap (λ (l : List ℕ). body.element ∷ l) (written_numbers side key value bodies)

  -- what an element's bucket is without it
  gone_numbers : (key : List ℕ) (e : ℕ) (bodies : List Stored) (Fact : Stored → Type 0) → MatchOption (present key bodies) ⊥ (λ (body : Stored). (body.element ≡ e) × Fact body) → ((x : ℕ) → times x (numbers bodies) ≤ 1)
      → AreThere (e ∷ []) (numbers bodies) × (numbers (without_key key bodies) ≡ left_of (e ∷ []) (numbers bodies))
  gone_numbers key e bodies Fact found once =
      let it = there (present key bodies) (λ (body : Stored). (body.element ≡ e) × Fact body) found in (
        (subst (λ (x : ℕ). IsIn x (numbers bodies)) it.fact.0 (present_in_numbers key bodies it.it it.is), tt),
        sym (numbers_without key bodies it.it it.is (once it.it.element)) ∙ ap (λ (x : ℕ). without x (numbers bodies)) it.fact.0,
      )

  -- An update
  put_goes : (side : Side) (flags : ℕ) (key value : List ℕ) (put : Put) (looks : List Turn) → LooksFor shape cpu (spares cpu) put looks → AreAllowed shape cpu contents (looks ++ on_bucket_of shape key (Update side flags key value None put) ∷ [])
      → Goes shape cpu contents (AreSpares spares) (looks ++ on_bucket_of shape key (Update side flags key value None put) ∷ []) (Kept (spare_after (spares cpu) (looks ++ on_bucket_of shape key (Update side flags key value None put) ∷ [])))
  unfolding bucket_after AllowsInBucket
  put_goes side flags key value (puts.Written e) looks none allowed =
      subst (λ (l : List Turn). AreAllowed shape cpu contents (l ++ on_bucket_of shape key (Update side flags key value None (puts.Written e)) ∷ []) → Goes shape cpu contents (AreSpares spares) (l ++ on_bucket_of shape key (Update side flags key value None (puts.Written e)) ∷ []) (Kept (spare_after (spares cpu) (l ++ on_bucket_of shape key (Update side flags key value None (puts.Written e)) ∷ [])))) (sym none)
      (λ may. key_keeps key (Update side flags key value None (puts.Written e)) refl refl refl may.0 (λ bodies _. written_numbers side key value bodies)) allowed
  put_goes side flags key value puts.Exists looks none allowed =
      subst (λ (l : List Turn). AreAllowed shape cpu contents (l ++ on_bucket_of shape key (Update side flags key value None puts.Exists) ∷ []) → Goes shape cpu contents (AreSpares spares) (l ++ on_bucket_of shape key (Update side flags key value None puts.Exists) ∷ []) (Kept (spare_after (spares cpu) (l ++ on_bucket_of shape key (Update side flags key value None puts.Exists) ∷ [])))) (sym none)
      (λ may. key_keeps key (Update side flags key value None puts.Exists) refl refl refl may.0 (λ bodies _. refl)) allowed
  put_goes side flags key value puts.Absent looks none allowed =
      subst (λ (l : List Turn). AreAllowed shape cpu contents (l ++ on_bucket_of shape key (Update side flags key value None puts.Absent) ∷ []) → Goes shape cpu contents (AreSpares spares) (l ++ on_bucket_of shape key (Update side flags key value None puts.Absent) ∷ []) (Kept (spare_after (spares cpu) (l ++ on_bucket_of shape key (Update side flags key value None puts.Absent) ∷ [])))) (sym none)
      (λ may. key_keeps key (Update side flags key value None puts.Absent) refl refl refl may.0 (λ bodies _. refl)) allowed
  put_goes side flags key value (puts.Replaced new old) looks (none, mine) allowed =
      subst (λ (l : List Turn). AreAllowed shape cpu contents (l ++ on_bucket_of shape key (Update side flags key value None (puts.Replaced new old)) ∷ []) → Goes shape cpu contents (AreSpares spares) (l ++ on_bucket_of shape key (Update side flags key value None (puts.Replaced new old)) ∷ []) (Kept (spare_after (spares cpu) (l ++ on_bucket_of shape key (Update side flags key value None (puts.Replaced new old)) ∷ [])))) (sym none)
      (λ may. goes_replacing bounds plain within contents spares (bucket_of_key shape key) side flags key value None new old (bucket_there key) mine may.0) allowed
  put_goes side flags key value puts.Full looks none allowed =
      subst (λ (l : List Turn). AreAllowed shape cpu contents (l ++ on_bucket_of shape key (Update side flags key value None puts.Full) ∷ []) → Goes shape cpu contents (AreSpares spares) (l ++ on_bucket_of shape key (Update side flags key value None puts.Full) ∷ []) (Kept (spare_after (spares cpu) (l ++ on_bucket_of shape key (Update side flags key value None puts.Full) ∷ [])))) (sym none)
      (λ may.
      let both = allowed_parts shape cpu contents (found_empty (ring cpu shape.cpus)) (on_bucket_of shape key (Update side flags key value None puts.Full) ∷ []) may in
      let same = looks_else bounds plain within (bucket_of_key shape key) (ring cpu shape.cpus) contents in
      let bodies = on_bodies (contents (Bucket (bucket_of_key shape key))) (AllowsInBucket shape cpu (Update side flags key value None puts.Full)) (subst (Allows shape cpu (parts.Bucket (Update side flags key value None puts.Full))) same both.1.0) in
      subst (λ (spare : Option ℕ). Goes shape cpu contents (AreSpares spares) (found_empty (ring cpu shape.cpus) ++ on_bucket_of shape key (Update side flags key value None puts.Full) ∷ []) (Kept spare)) (sym (looks_spare (ring cpu shape.cpus) (on_bucket_of shape key (Update side flags key value None puts.Full) ∷ []) (spares cpu)))
      (goes_weaker contents (AreSpares spares) (AreSpares spares) (Kept (spares cpu)) _ kept_spares
      (goes_full bounds plain within contents (AreSpares spares) (bucket_of_key shape key) (Update side flags key value None puts.Full) (ring cpu shape.cpus) bodies.bodies (bucket_there key) refl refl refl both.0 (ring_cpus shape cpu within) bodies.lies refl))) allowed
  put_goes side flags key value (puts.Added e) looks pops allowed =
      let turn : Turn = on_bucket_of shape key (Update side flags key value None (puts.Added e)) in
      let are : looks ≡ popping pops.passed pops.giver e = pops.turns_are ∙ popping_is pops.passed pops.giver e in
      let cpus = cpus_parts shape pops.passed (pops.giver ∷ pops.left) (subst (AreCpus shape) pops.ring_is (ring_cpus shape cpu within)) in
      subst (λ (l : List Turn). AreAllowed shape cpu contents (l ++ turn ∷ []) → Goes shape cpu contents (AreSpares spares) (l ++ turn ∷ []) (Kept (spare_after (spares cpu) (l ++ turn ∷ [])))) (sym are)
      (λ may.
      let both = allowed_parts shape cpu contents (popping pops.passed pops.giver e) (turn ∷ []) may in
      let bodies = on_bodies (after_turns shape cpu contents (popping pops.passed pops.giver e) (Bucket (bucket_of_key shape key))) (AllowsInBucket shape cpu (Update side flags key value None (puts.Added e))) both.1.0 in
      let long = popping_length pops.passed pops.giver e in
      let whole = after_both shape cpu contents (popping pops.passed pops.giver e) (turn ∷ []) in
      subst (λ (spare : Option ℕ). Goes shape cpu contents (AreSpares spares) (popping pops.passed pops.giver e ++ turn ∷ []) (Kept spare)) (sym (popping_spare pops.passed pops.giver e (turn ∷ []) (spares cpu)))
      (goes_weaker contents (AreSpares spares) (AreSpares spares) (Kept (spares cpu)) (popping pops.passed pops.giver e ++ turn ∷ []) kept_spares
      (record {
        run = λ s n call later tied from more.
            let nested : stamped n cpu call (popping pops.passed pops.giver e ++ turn ∷ []) ++ later ≡ stamped n cpu call (popping pops.passed pops.giver e) ++ drawn (n + suc (length pops.passed)) cpu call turn ∷ later =
            ap (λ (l : List Drawn). l ++ later) (stamped_both n cpu call (popping pops.passed pops.giver e) (turn ∷ [])) ∙ append_assoc (stamped n cpu call (popping pops.passed pops.giver e)) (stamped (n + length (popping pops.passed pops.giver e)) cpu call (turn ∷ [])) later
            ∙ ap (λ (k : ℕ). stamped n cpu call (popping pops.passed pops.giver e) ++ drawn (n + k) cpu call turn ∷ later) long in
            let one : length (turn ∷ []) ≡ 1 = refl in
            let sum = length_both (popping pops.passed pops.giver e) (turn ∷ []) in
            subst (λ (l : List Drawn). AreEnabled shape s (interleaved shape contents [] l)) (sym nested)
            (added_runs bounds plain within contents tied n call (bucket_of_key shape key) side flags key value None pops.passed pops.giver e later (bucket_there key) both.0 cpus.0 cpus.1.0
            (subst (λ (c : Content). MatchOption (Rattle.place_words.specs.Histories.bucket_in c) ⊥ (λ (l : List Stored). Unit {0})) (sym bodies.lies) tt)
            (from_less (suc (n + suc (length pops.passed))) (n + length (popping pops.passed pops.giver e ++ turn ∷ [])) later (omega (arith, sum, long, one)) from)
            (subst (λ (c : DomainId → Content). (u : State) → IsTied shape cpu [] (core_lists c) (AreSpares spares) u → AreEnabled shape u (interleaved shape c [] later)) whole more));
      }))) allowed

  -- A delete, or a take
  gone_goes : (key : List ℕ) (part : BucketPart) (gone : Option ℕ) → is_inner (parts.Bucket part) ≡ false → part_steps shape cpu (Bucket (bucket_of_key shape key)) None (parts.Bucket part) ≡ [] → seen_by (parts.Bucket part) ≡ []
      → ((bodies : List Stored) → AllowsInBucket shape cpu part bodies → ((x : ℕ) → times x (numbers bodies) ≤ 1) → AreThere (option_to_list gone) (numbers bodies) × (numbers (bucket_after shape cpu part bodies) ≡ left_of (option_to_list gone) (numbers bodies)))
      → AreAllowed shape cpu contents (pushes cpu gone ++ on_bucket_of shape key part ∷ [])
      → Goes shape cpu contents (AreSpares spares) (pushes cpu gone ++ on_bucket_of shape key part ∷ []) (Kept (spares cpu))
  gone_goes key part None outer quiet blind takes_out allowed = record {
    run = λ s n call later tied.
        let bodies = on_bodies (contents (Bucket (bucket_of_key shape key))) (AllowsInBucket shape cpu part) allowed.0 in
        let once : (x : ℕ) → times x (numbers bodies.bodies) ≤ 1 = λ x. subst (λ (l : Lists). times x l.first ≤ 1) (ap lists_in bodies.lies) (bucket_once bounds within tied (bucket_of_key shape key) x (lt-ltb (bucket_of_key shape key) shape.buckets (bucket_there key))) in
        let out = takes_out bodies.bodies bodies.fact once in
        (goes_weaker contents (AreSpares spares) (AreSpares spares) (Kept (spares cpu)) (on_bucket_of shape key part ∷ []) kept_spares
        (goes_removing bounds plain within contents (AreSpares spares) (bucket_of_key shape key) part [] bodies.bodies (bucket_there key) outer quiet blind bodies.lies tt out.0 out.1)).run s n call later tied;
  }
  gone_goes key part (Some e) outer quiet blind takes_out allowed = record {
    run = λ s n call later tied.
        let both = allowed_parts shape cpu contents (pushing cpu (e ∷ [])) (on_bucket_of shape key part ∷ []) allowed in
        let same = pushing_else shape cpu (bucket_of_key shape key) (e ∷ []) contents in
        let bodies = on_bodies (contents (Bucket (bucket_of_key shape key))) (AllowsInBucket shape cpu part) (subst (Allows shape cpu (parts.Bucket part)) same both.1.0) in
        let once : (x : ℕ) → times x (numbers bodies.bodies) ≤ 1 = λ x. subst (λ (l : Lists). times x l.first ≤ 1) (ap lists_in bodies.lies) (bucket_once bounds within tied (bucket_of_key shape key) x (lt-ltb (bucket_of_key shape key) shape.buckets (bucket_there key))) in
        let out = takes_out bodies.bodies bodies.fact once in
        (goes_weaker contents (AreSpares spares) (AreSpares spares) (Kept (spares cpu)) (pushing cpu (e ∷ []) ++ on_bucket_of shape key part ∷ []) kept_spares
        (goes_removing bounds plain within contents (AreSpares spares) (bucket_of_key shape key) part (e ∷ []) bodies.bodies (bucket_there key) outer quiet blind bodies.lies both.0 out.0 out.1)).run s n call later tied;
  }

  pushes_spare : (gone : Option ℕ) (turn : Turn) (spare : Option ℕ) → spare_after spare (pushes cpu gone ++ turn ∷ []) ≡ spare_after spare (turn ∷ [])
  pushes_spare None turn spare = refl
  pushes_spare (Some e) turn spare = refl

  plain_leaves : (b : Bool) (bucket : ℕ) (es : List ℕ) → b ≡ false → Rattle.place_words.specs.Interleaving.leave_steps b cpu bucket es ≡ []
  plain_leaves b bucket es is = cond-false b _ _ is

  delete_out : (key : List ℕ) (gone : Option ℕ) (bodies : List Stored) → AllowsInBucket shape cpu (Delete key gone) bodies → ((x : ℕ) → times x (numbers bodies) ≤ 1)
      → AreThere (option_to_list gone) (numbers bodies) × (numbers (bucket_after shape cpu (Delete key gone) bodies) ≡ left_of (option_to_list gone) (numbers bodies))
  unfolding AllowsInBucket bucket_after
  delete_out key None bodies may once = (tt, refl)
  delete_out key (Some e) bodies may once = gone_numbers key e bodies (λ _. Unit {0}) (with_unit (present key bodies) may) once
    where
      with_unit : (o : Option Stored) → MatchOption o ⊥ (λ (body : Stored). body.element ≡ e) → MatchOption o ⊥ (λ (body : Stored). (body.element ≡ e) × Unit {0})
      with_unit None none = none
      with_unit (Some body) is = (is, tt)

  take_out : (key : List ℕ) (gone : Option (ℕ × List ℕ)) (bodies : List Stored) → AllowsInBucket shape cpu (Take key gone) bodies → ((x : ℕ) → times x (numbers bodies) ≤ 1)
      → AreThere (option_to_list (element_gone gone)) (numbers bodies) × (numbers (bucket_after shape cpu (Take key gone) bodies) ≡ left_of (option_to_list (element_gone gone)) (numbers bodies))
  unfolding AllowsInBucket bucket_after
  take_out key None bodies may once = (tt, refl)
  take_out key (Some got) bodies may once = gone_numbers key got.0 bodies _ may once

  -- every call on a key
  pub key_goes : (verb : Verb) (turns : List Turn) (reply : Reply) → IsPlainTrace shape cpu (spares cpu) verb turns reply → AreAllowed shape cpu contents turns → Goes shape cpu contents (AreSpares spares) turns (Kept (spare_after (spares cpu) turns))
  unfolding bucket_after
  key_goes (verbs.Lookup side key) turns reply trace allowed =
      subst (λ (l : List Turn). AreAllowed shape cpu contents l → Goes shape cpu contents (AreSpares spares) l (Kept (spare_after (spares cpu) l))) (sym trace.turns_are)
      (λ may. key_keeps key (Lookup side key trace.got) refl refl refl may.0 (λ bodies _. refl)) allowed
  key_goes (verbs.Update side flags key value) turns reply trace allowed =
      ⊎_elim
      (λ refused. subst (λ (l : List Turn). Goes shape cpu contents (AreSpares spares) l (Kept (spare_after (spares cpu) l))) (sym refused.1) (goes_weaker contents (AreSpares spares) (AreSpares spares) (Kept (spares cpu)) [] kept_spares (goes_none contents (AreSpares spares))))
      (λ done. subst (λ (l : List Turn). AreAllowed shape cpu contents l → Goes shape cpu contents (AreSpares spares) l (Kept (spare_after (spares cpu) l))) (sym done.1.turns_are) (λ may. put_goes side flags key value done.1.put done.1.looks done.1.looks_are may) allowed)
      trace
  key_goes (verbs.Delete key) turns reply trace allowed =
      subst (λ (l : List Turn). AreAllowed shape cpu contents l → Goes shape cpu contents (AreSpares spares) l (Kept (spare_after (spares cpu) l))) (sym trace.turns_are)
      (λ may. subst (λ (spare : Option ℕ). Goes shape cpu contents (AreSpares spares) (pushes cpu trace.gone ++ on_bucket_of shape key (Delete key trace.gone) ∷ []) (Kept spare)) (sym (pushes_spare trace.gone (on_bucket_of shape key (Delete key trace.gone)) (spares cpu)))
      (gone_goes key (Delete key trace.gone) trace.gone refl (plain_leaves (is_lru shape.kind) (bucket_of_key shape key) (Rattle.place_words.specs.Moves.taken_from_bucket (Delete key trace.gone)) plain) refl (delete_out key trace.gone) may)) allowed
  key_goes (verbs.Take key) turns reply trace allowed =
      subst (λ (l : List Turn). AreAllowed shape cpu contents l → Goes shape cpu contents (AreSpares spares) l (Kept (spare_after (spares cpu) l))) (sym trace.turns_are)
      (λ may. subst (λ (spare : Option ℕ). Goes shape cpu contents (AreSpares spares) (pushes cpu (element_gone trace.gone) ++ on_bucket_of shape key (Take key trace.gone) ∷ []) (Kept spare)) (sym (pushes_spare (element_gone trace.gone) (on_bucket_of shape key (Take key trace.gone)) (spares cpu)))
      (gone_goes key (Take key trace.gone) (element_gone trace.gone) refl (plain_leaves (is_lru shape.kind) (bucket_of_key shape key) (Rattle.place_words.specs.Moves.taken_from_bucket (Take key trace.gone)) plain) refl (take_out key trace.gone) may)) allowed
  key_goes (verbs.Next key) turns reply trace allowed = absurd trace
  key_goes (verbs.BatchRead remove count start flags) turns reply trace allowed = absurd trace
  key_goes (verbs.BatchUpdate flags pairs) turns reply trace allowed = absurd trace
  key_goes (verbs.BatchDelete flags keys) turns reply trace allowed = absurd trace
  key_goes (verbs.Each flags stop) turns reply trace allowed = absurd trace
