-- Next key, batch reads and walks over all elements are runs of the core, on maps of any kind.
use Rattle.std.proofs.Common.{◌≡◌, ℕ, suc, ◌+◌, ◌-◌, ◌<◌, ◌≤◌, Bool, true, false, cond, eqb, List, [], ◌∷◌, ◌++◌, length, map, reverse, Option, None, Some, refl, ap, ◌∙◌, sym, subst, arith}
use Rattle.std.specs.Prelude.{MatchBool, MatchOption, unwrap_or, min, nat_lt}
use Rattle.std.proofs.lemmas.Bool.{cond-true, lt-ltb, eq-eqb}
use Rattle.std.proofs.lemmas.List.{append-nil}
use Rattle.map_types.specs.declared.attr.Shape.{Shape}
use Rattle.map_types.specs.declared.kind.DomainId.{DomainId}
use Rattle.map_types.specs.declared.kind.DomainId.TheVariants.{Bucket}
use Rattle.map_types.specs.declared.reply.Reply.{Reply}
use Rattle.map_types.specs.declared.reply.Reply.TheVariants.{Refused}
use Rattle.map_types.specs.declared.refusal.Errno.TheVariants.{Einval}
use Rattle.map_types.specs.Kind.{is_lru}
use Rattle.map_types.specs.Shape.{HasBounds}
use Rattle.map_types.specs.Stored.{Stored}
use Rattle.map_types.specs.ElementLists.{times, without}
use Rattle.map_types.proofs.RowLemmas.{by_test}
use Rattle.place_words.specs.Handing.{Callback, AfterHanding, HandsOverBuckets, IsHandingTrace}
use Rattle.place_words.specs.declared.bucket_part.BucketPart.{BucketPart}
use Rattle.place_words.specs.declared.bucket_part.BucketPart.TheVariants.{Next, First, Walk}
use Rattle.place_words.specs.declared.bucket_part.NextFound.{NextFound}
use Rattle.place_words.specs.declared.bucket_part.NextFound.TheVariants as nexts
use Rattle.place_words.specs.declared.bucket_part.Walked.{Walked}
use Rattle.place_words.specs.declared.bucket_part.Walked.TheVariants.{Over, Taken}
use Rattle.place_words.specs.declared.history.Part.TheVariants as parts
use Rattle.place_words.specs.Bodies.{numbers}
use Rattle.place_words.specs.Buckets.{AllowsInBucket, bucket_after, as_read}
use Rattle.place_words.specs.Histories.{Content, Allows}
use Rattle.place_words.specs.Moves.{taken_from_bucket}
use Rattle.place_words.specs.Turns.{Turn, TurnAt, turns_of, on_lock, on_bucket_of, bucket_of_key, after_turn, after_turns, AreAllowed}
use Rattle.place_words.specs.Walks.{Firsts, GoesOn, IsNextTrace, FreesAll, IsFreedAfter, AfterWalk, Walks, IsReadTrace, buckets_from, walked_out, pair_of}
use Rattle.place_words.proofs.EachTurn.{AreWithin, first_within, others_within, buckets_within}
use Rattle.place_words.specs.declared.step.Lists.{Lists}
use Rattle.place_words.specs.declared.step.Step.{Step}
use Rattle.place_words.specs.declared.step.Step.TheVariants as steps
use Rattle.place_words.specs.Interleaving.{part_steps, lists_in}
use Rattle.core_runs.proofs.BucketGoes.{gathered, goes_taking_out}
use Rattle.core_runs.proofs.Chases.{turns_split}
use Rattle.core_runs.proofs.Evictions.{Hands}
use Rattle.core_runs.proofs.EvictingCalls.{Supplies, first_one}
use Rattle.core_runs.proofs.OwnCalls.{Nobody}
use Rattle.core_runs.proofs.OwnNest.{stacked_turned}
use Rattle.core_runs.proofs.OwnTurns.{stacked}
use Rattle.core_runs.proofs.PlainCalls.{goes_weaker}
use Rattle.core_runs.proofs.PlainNests.{allowed_parts}
use Rattle.core_runs.proofs.PlainGoes.{Goes, goes_none, goes_both, goes_keeping, left_of, AreThere, bucket_once}
use Rattle.core_runs.proofs.PlainRuns.{on_bodies}
use Rattle.core_runs.proofs.SharedCalls.{AreOnLocks, on_parts, known_more}

module _ {shape : Shape} (bounds : HasBounds shape) {cpu : ℕ} (within : cpu < shape.cpus) (Known : ℕ → ℕ → Type 0) where
  -- the heads of buckets are looked at
  pub firsts_go : (buckets : List ℕ) (turns : List Turn) (reply : Reply) (contents : DomainId → Content) → Firsts buckets turns reply → AreWithin (λ b. b < shape.buckets) buckets → AreAllowed shape cpu contents turns → Goes shape cpu contents Known turns Known
  unfolding bucket_after
  firsts_go [] turns reply contents firsts there allowed = subst (λ (l : List Turn). Goes shape cpu contents Known l Known) (sym firsts.0) (goes_none contents Known)
  firsts_go (bucket ∷ buckets) turns reply contents (key, rest, are, goes_on) there allowed =
      let turn : Turn = on_lock (Bucket bucket) (parts.Bucket (First key)) in
      let may = subst (AreAllowed shape cpu contents) are allowed in
      subst (λ (l : List Turn). Goes shape cpu contents Known l Known) (sym are)
      (goes_both contents Known Known Known (turn ∷ []) rest
      (goes_keeping bounds within contents Known bucket (First key) (first_within (λ b. b < shape.buckets) bucket buckets there) refl refl refl may.0 (λ bodies _. refl))
      (ends key goes_on (λ later. firsts_go buckets rest reply (after_turn shape cpu contents turn) later (others_within (λ b. b < shape.buckets) bucket buckets there) may.1)))
    where
      ends : (k : Option (List ℕ)) → MatchOption k (Firsts buckets rest reply) (λ first. (rest ≡ []) × (reply ≡ Rattle.map_types.specs.declared.reply.Reply.TheVariants.Value first))
          → (Firsts buckets rest reply → Goes shape cpu (after_turn shape cpu contents (on_lock (Bucket bucket) (parts.Bucket (First key)))) Known rest Known) → Goes shape cpu (after_turn shape cpu contents (on_lock (Bucket bucket) (parts.Bucket (First key)))) Known rest Known
      ends None later go = go later
      ends (Some first) last go = subst (λ (l : List Turn). Goes shape cpu (after_turn shape cpu contents (on_lock (Bucket bucket) (parts.Bucket (First key)))) Known l Known) (sym last.0) (goes_none _ Known)

  goes_on_go : (key : List ℕ) (found : NextFound) (turns : List Turn) (reply : Reply) (contents : DomainId → Content) → GoesOn shape key found turns reply → AreAllowed shape cpu contents turns → Goes shape cpu contents Known turns Known
  goes_on_go key nexts.Absent turns reply contents firsts allowed = firsts_go (buckets_from shape 0) turns reply contents firsts (buckets_within shape 0) allowed
  goes_on_go key nexts.Last turns reply contents firsts allowed = firsts_go (buckets_from shape (bucket_of_key shape key + 1)) turns reply contents firsts (buckets_within shape (bucket_of_key shape key + 1)) allowed
  goes_on_go key (nexts.Key next) turns reply contents none allowed = subst (λ (l : List Turn). Goes shape cpu contents Known l Known) (sym none.0) (goes_none contents Known)

  -- next key
  pub next_goes : (key : Option (List ℕ)) (turns : List Turn) (reply : Reply) (contents : DomainId → Content) → IsNextTrace shape key turns reply → AreAllowed shape cpu contents turns → Goes shape cpu contents Known turns Known
  unfolding bucket_after
  next_goes None turns reply contents firsts allowed = firsts_go (buckets_from shape 0) turns reply contents firsts (buckets_within shape 0) allowed
  next_goes (Some key) turns reply contents trace allowed =
      let turn : Turn = on_bucket_of shape key (Next key trace.found) in
      let may = subst (AreAllowed shape cpu contents) trace.turns_are allowed in
      subst (λ (l : List Turn). Goes shape cpu contents Known l Known) (sym trace.turns_are)
      (goes_both contents Known Known Known (turn ∷ []) trace.rest
      (goes_keeping bounds within contents Known (bucket_of_key shape key) (Next key trace.found) (Rattle.key_hash.proofs.Buckets.bucket_number-lt (Rattle.key_hash.specs.Jhash.hash key shape.seed) shape.buckets bounds.buckets_power) refl refl refl may.0 (λ bodies _. refl))
      (goes_on_go key trace.found trace.rest reply (after_turn shape cpu contents turn) trace.goes_on may.1))

-- A walk over all elements

-- a bucket's turn that takes nothing out has no steps of its own, whatever the kind
no_steps : (evicts : Bool) → cond {A = List Step} evicts [] [] ≡ []
no_steps true = refl
no_steps false = refl

module _ {shape : Shape} (bounds : HasBounds shape) {cpu : ℕ} (within : cpu < shape.cpus) (Known : ℕ → ℕ → Type 0) where
  -- a bucket's turn that leaves it
  walk_goes : (bucket room : ℕ) (result : Walked) (contents : DomainId → Content) → bucket < shape.buckets → Allows shape cpu (parts.Bucket (Walk false room result)) (contents (Bucket bucket))
      → Goes shape cpu contents Known (on_lock (Bucket bucket) (parts.Bucket (Walk false room result)) ∷ []) Known
  unfolding bucket_after
  walk_goes bucket room (Over n) contents less may = goes_keeping bounds within contents Known bucket (Walk false room (Over n)) less refl (no_steps (is_lru shape.kind)) refl may (λ bodies _. refl)
  walk_goes bucket room (Taken all) contents less may = goes_keeping bounds within contents Known bucket (Walk false room (Taken all)) less refl (no_steps (is_lru shape.kind)) refl may (λ bodies _. refl)

  handing_goes : (Says : Callback) (bucket : ℕ) (before : List (List ℕ × List ℕ)) (rest : List Turn) (reply : Reply) (result : Walked) (contents : DomainId → Content) (More : List (List ℕ × List ℕ) → Type 0)
      → AfterHanding shape cpu Says bucket before rest reply result More → ((now : List (List ℕ × List ℕ)) → More now → Goes shape cpu contents Known rest Known) → Goes shape cpu contents Known rest Known
  handing_goes Says bucket before rest reply (Over n) contents More last go = subst (λ (l : List Turn). Goes shape cpu contents Known l Known) (sym last.0) (goes_none contents Known)
  handing_goes Says bucket before rest reply (Taken all) contents More (over, true, (hands, last)) go = subst (λ (l : List Turn). Goes shape cpu contents Known l Known) (sym last.0) (goes_none contents Known)
  handing_goes Says bucket before rest reply (Taken all) contents More (over, false, (hands, later)) go = go (before ++ over) later

  hands_go : (Says : Callback) (buckets : List ℕ) (before : List (List ℕ × List ℕ)) (turns : List Turn) (reply : Reply) (contents : DomainId → Content) → HandsOverBuckets shape cpu Says buckets before turns reply → AreWithin (λ b. b < shape.buckets) buckets → AreAllowed shape cpu contents turns
      → Goes shape cpu contents Known turns Known
  hands_go Says [] before turns reply contents trace there allowed = subst (λ (l : List Turn). Goes shape cpu contents Known l Known) (sym trace.0) (goes_none contents Known)
  hands_go Says (bucket ∷ buckets) before turns reply contents (result, rest, (are, goes_on)) there allowed =
      let room : ℕ = shape.elements - length before in
      let turn : Turn = on_lock (Bucket bucket) (parts.Bucket (Walk false room result)) in
      let may = subst (AreAllowed shape cpu contents) are allowed in
      subst (λ (l : List Turn). Goes shape cpu contents Known l Known) (sym are)
      (goes_both contents Known Known Known (turn ∷ []) rest
      (walk_goes bucket room result contents (first_within (λ b. b < shape.buckets) bucket buckets there) may.0)
      (handing_goes Says bucket before rest reply result (after_turn shape cpu contents turn) _ goes_on (λ now later. hands_go Says buckets now rest reply (after_turn shape cpu contents turn) later (others_within (λ b. b < shape.buckets) bucket buckets there) may.1)))

  pub each_goes : (Says : Callback) (flags : ℕ) (turns : List Turn) (reply : Reply) (contents : DomainId → Content) → IsHandingTrace shape cpu Says flags turns reply → AreAllowed shape cpu contents turns → Goes shape cpu contents Known turns Known
  each_goes Says flags turns reply contents trace allowed = by (eqb flags 0) trace
    where
      by : (plainly : Bool) → MatchBool plainly (HandsOverBuckets shape cpu Says (buckets_from shape 0) [] turns reply) ((turns ≡ []) × (reply ≡ Refused Einval)) → Goes shape cpu contents Known turns Known
      by true told = hands_go Says (buckets_from shape 0) [] turns reply contents told (buckets_within shape 0) allowed
      by false told = subst (λ (l : List Turn). Goes shape cpu contents Known l Known) (sym told.0) (goes_none contents Known)

-- What a walk takes out

there_all : (xs : List ℕ) → AreThere xs xs
there_all [] = tt
there_all (x ∷ xs) = (
  by_test x x (λ b. 0 < cond b (suc (times x xs)) (times x xs)) (λ same. omega arith) (λ other. absurd (other refl)),
  subst (AreThere xs) (sym (cond-true (eqb x x) xs (x ∷ without x xs) (eq-eqb x x refl))) (there_all xs),
)

left_none : (xs : List ℕ) → left_of xs xs ≡ []
left_none [] = refl
left_none (x ∷ xs) = ap (left_of xs) (cond-true (eqb x x) xs (x ∷ without x xs) (eq-eqb x x refl)) ∙ left_none xs

pub read_numbers : (shape : Shape) (cpu : ℕ) (bodies : List Stored) → numbers (map (as_read shape cpu) bodies) ≡ numbers bodies
read_numbers shape cpu [] = refl
read_numbers shape cpu (body ∷ bodies) = ap (λ (l : List ℕ). body.element ∷ l) (read_numbers shape cpu bodies)

pub walk_out : (shape : Shape) (cpu : ℕ) (remove : Bool) (room : ℕ) (result : Walked) (bodies : List Stored) → AllowsInBucket shape cpu (Walk remove room result) bodies
    → AreThere (walked_out remove result) (numbers bodies) × (numbers (bucket_after shape cpu (Walk remove room result) bodies) ≡ left_of (walked_out remove result) (numbers bodies))
unfolding AllowsInBucket bucket_after
walk_out shape cpu remove room (Over n) bodies may = (tt, refl)
walk_out shape cpu false room (Taken all) bodies may = (tt, refl)
walk_out shape cpu true room (Taken all) bodies may =
    let same : numbers all ≡ numbers bodies = ap numbers may.1 ∙ read_numbers shape cpu bodies in
    (subst (λ (xs : List ℕ). AreThere xs (numbers bodies)) (sym same) (there_all (numbers bodies)), sym (ap (λ (xs : List ℕ). left_of xs (numbers bodies)) same ∙ left_none (numbers bodies)))

pub walk_numbers : (shape : Shape) (cpu room : ℕ) (all bodies : List Stored) → AllowsInBucket shape cpu (Walk true room (Taken all)) bodies → numbers all ≡ numbers bodies
unfolding AllowsInBucket
walk_numbers shape cpu room all bodies may = ap numbers may.1 ∙ read_numbers shape cpu bodies

walk_steps : (lru : Bool) (cpu bucket : ℕ) (remove : Bool) (room : ℕ) (result : Walked) → lru ≡ true → Rattle.place_words.specs.Interleaving.leave_steps lru cpu bucket (taken_from_bucket (Walk remove room result)) ≡ map (λ e. steps.Detach cpu e bucket) (walked_out remove result)
walk_steps lru cpu bucket remove room (Over n) is = cond-true lru _ _ is
walk_steps lru cpu bucket remove room (Taken all) is = cond-true lru _ _ is

gathered_turned : (es : List ℕ) → gathered es [] ≡ reverse es
gathered_turned es = same es [] ∙ sym (stacked_turned es []) ∙ append-nil (reverse es)
  where
    same : (es hand : List ℕ) → gathered es hand ≡ stacked es hand
    same [] hand = refl
    same (e ∷ es) hand = refl

module _ {shape : Shape} (bounds : HasBounds shape) (lru : is_lru shape.kind ≡ true) {cpu : ℕ} (within : cpu < shape.cpus) (supplies : Supplies shape cpu) where
  -- Elements of the hand are freed one after another.
  frees_all : (es : List ℕ) (freeing : List TurnAt) (contents : DomainId → Content) → FreesAll shape es freeing → ((x : ℕ) → times x es ≤ 1) → AreOnLocks shape (turns_of freeing) → AreAllowed shape cpu contents (turns_of freeing)
      → Goes shape cpu contents (Hands cpu es Nobody) (turns_of freeing) Nobody
  frees_all [] freeing contents none once on allowed =
      subst (λ (l : List TurnAt). Goes shape cpu contents (Hands cpu [] Nobody) (turns_of l) Nobody) (sym none) (goes_weaker contents (Hands cpu [] Nobody) (Hands cpu [] Nobody) Nobody [] (λ c x none. absurd none) (goes_none contents (Hands cpu [] Nobody)))
  frees_all (e ∷ es) freeing contents (one, others, (is, frees, rest)) once on allowed =
      let are : turns_of freeing ≡ turns_of one ++ turns_of others = ap turns_of is ∙ turns_split one others in
      let may = allowed_parts shape cpu contents (turns_of one) (turns_of others) (subst (AreAllowed shape cpu contents) are allowed) in
      let ons = on_parts shape (turns_of one) (turns_of others) (subst (AreOnLocks shape) are on) in
      subst (λ (l : List Turn). Goes shape cpu contents (Hands cpu (e ∷ es) Nobody) l Nobody) (sym are)
      (goes_both contents (Hands cpu (e ∷ es) Nobody) (Hands cpu es Nobody) Nobody (turns_of one) (turns_of others)
      (supplies.frees contents e es one (let few = once e in let here = Rattle.place_words.proofs.ElementLemmas.times_cons_same e es in omega (arith, few, here)) frees ons.0 may.0)
      (frees_all es others (after_turns shape cpu contents (turns_of one)) rest (λ x. by_test e x (λ b. cond b (suc (times x es)) (times x es) ≤ 1 → times x es ≤ 1) (λ same few. omega (arith, few)) (λ other few. few) (once x)) ons.1 may.1))

  -- A walk's turn of a bucket, and the freeing of what it took out.
  takes_out_go : (bucket : ℕ) (remove : Bool) (room : ℕ) (result : Walked) (one : List TurnAt) (contents : DomainId → Content) → bucket < shape.buckets
      → IsFreedAfter shape (on_lock (Bucket bucket) (parts.Bucket (Walk remove room result))) (walked_out remove result) one → AreOnLocks shape (turns_of one) → AreAllowed shape cpu contents (turns_of one)
      → Goes shape cpu contents Nobody (turns_of one) Nobody
  takes_out_go bucket remove room result one contents less is on allowed =
      let part : BucketPart = Walk remove room result in
      let turn : Turn = on_lock (Bucket bucket) (parts.Bucket part) in
      let gone : List ℕ = walked_out remove result in
      let are : turns_of one ≡ turn ∷ turns_of is.freeing = ap turns_of is.turns_are ∙ ap (λ (t : Turn). t ∷ turns_of is.freeing) is.bucket_is in
      let may = subst (AreAllowed shape cpu contents) are allowed in
      let bodies = on_bodies (contents (Bucket bucket)) (AllowsInBucket shape cpu part) may.0 in
      let out = walk_out shape cpu remove room result bodies.bodies bodies.fact in
      subst (λ (l : List Turn). Goes shape cpu contents Nobody l Nobody) (sym are)
      (record {
        run = λ s n call later tied.
            let once : (x : ℕ) → times x (numbers bodies.bodies) ≤ 1 = λ x. subst (λ (l : Lists). times x l.first ≤ 1) (ap lists_in bodies.lies) (bucket_once bounds within tied bucket x (lt-ltb bucket shape.buckets less)) in
            (goes_both contents Nobody (Hands cpu (reverse gone) Nobody) Nobody (turn ∷ []) (turns_of is.freeing)
            (known_more contents (turn ∷ []) Nobody (Hands cpu (reverse gone) Nobody)
            (subst (λ (l : List ℕ). Goes shape cpu contents (Hands cpu [] Nobody) (turn ∷ []) (Hands cpu l Nobody)) (gathered_turned gone)
            (goes_taking_out bounds within bucket (lt-ltb bucket shape.buckets less) contents part gone [] bodies.bodies refl (walk_steps (is_lru shape.kind) cpu bucket remove room result lru) refl bodies.lies out.0 out.1)))
            (frees_all (reverse gone) is.freeing (after_turn shape cpu contents turn) is.frees (λ x. let turned = Rattle.place_words.proofs.KeepLaws.times_turned x gone in let few = out_once remove result bodies.bodies bodies.fact x (once x) in omega (arith, turned, few)) (on_parts shape (turn ∷ []) (turns_of is.freeing) (subst (AreOnLocks shape) are on)).1 may.1)).run s n call later tied;
      })
    where
      out_once : (remove : Bool) (result : Walked) (bodies : List Stored) → AllowsInBucket shape cpu (Walk remove room result) bodies → (x : ℕ) → times x (numbers bodies) ≤ 1 → times x (walked_out remove result) ≤ 1
      out_once remove (Over n) bodies may x once = omega arith
      out_once false (Taken all) bodies may x once = omega arith
      out_once true (Taken all) bodies may x once = let same = ap (times x) (walk_numbers shape cpu room all bodies may) in omega (arith, same, once)

  pub walks_go : (remove : Bool) (limit : ℕ) (buckets : List ℕ) (taken : List (List ℕ × List ℕ)) (turns : List TurnAt) (reply : Reply) (contents : DomainId → Content) → Walks shape cpu remove limit buckets taken turns reply → AreWithin (λ b. b < shape.buckets) buckets
      → AreOnLocks shape (turns_of turns) → AreAllowed shape cpu contents (turns_of turns) → Goes shape cpu contents Nobody (turns_of turns) Nobody
  walks_go remove limit [] taken turns reply contents walks there on allowed = subst (λ (l : List TurnAt). Goes shape cpu contents Nobody (turns_of l) Nobody) (sym walks.0) (goes_none contents Nobody)
  walks_go remove limit (bucket ∷ buckets) taken turns reply contents (result, one, rest, (is, takes, after_walk)) there on allowed =
      let are : turns_of turns ≡ turns_of one ++ turns_of rest = ap turns_of is ∙ turns_split one rest in
      let may = allowed_parts shape cpu contents (turns_of one) (turns_of rest) (subst (AreAllowed shape cpu contents) are allowed) in
      let ons = on_parts shape (turns_of one) (turns_of rest) (subst (AreOnLocks shape) are on) in
      subst (λ (l : List Turn). Goes shape cpu contents Nobody l Nobody) (sym are)
      (goes_both contents Nobody Nobody Nobody (turns_of one) (turns_of rest)
      (takes_out_go bucket remove (limit - length taken) result one contents (first_within (λ b. b < shape.buckets) bucket buckets there) (first_one _ _ (is_lru shape.kind) lru takes) ons.0 may.0)
      (ends result after_walk (λ now later. walks_go remove limit buckets now rest reply (after_turns shape cpu contents (turns_of one)) later (others_within (λ b. b < shape.buckets) bucket buckets there) ons.1 may.1)))
    where
      ends : (result : Walked) → AfterWalk bucket taken rest reply result (λ now. Walks shape cpu remove limit buckets now rest reply)
          → ((now : List (List ℕ × List ℕ)) → Walks shape cpu remove limit buckets now rest reply → Goes shape cpu (after_turns shape cpu contents (turns_of one)) Nobody (turns_of rest) Nobody) → Goes shape cpu (after_turns shape cpu contents (turns_of one)) Nobody (turns_of rest) Nobody
      ends (Over n) last go = subst (λ (l : List TurnAt). Goes shape cpu (after_turns shape cpu contents (turns_of one)) Nobody (turns_of l) Nobody) (sym last.0) (goes_none _ Nobody)
      ends (Taken all) later go = go (taken ++ map pair_of all) later

  -- a batch read
  pub read_goes : (remove : Bool) (count : ℕ) (start : Option ℕ) (flags : ℕ) (turns : List TurnAt) (reply : Reply) (contents : DomainId → Content) → IsReadTrace shape cpu remove count start flags turns reply → AreOnLocks shape (turns_of turns) → AreAllowed shape cpu contents (turns_of turns)
      → Goes shape cpu contents Nobody (turns_of turns) Nobody
  read_goes remove count start flags turns reply contents trace on allowed = by (eqb flags 0) (eqb count 0) (nat_lt (unwrap_or start 0) shape.buckets) trace
    where
      none : turns ≡ [] → Goes shape cpu contents Nobody (turns_of turns) Nobody
      none is = subst (λ (l : List TurnAt). Goes shape cpu contents Nobody (turns_of l) Nobody) (sym is) (goes_none contents Nobody)

      by : (plain nothing there : Bool) → MatchBool plain (MatchBool nothing ((turns ≡ []) × (reply ≡ Rattle.map_types.specs.declared.reply.Reply.TheVariants.Done))
          (MatchBool there (Walks shape cpu remove (min count shape.elements) (buckets_from shape (unwrap_or start 0)) [] turns reply) ((turns ≡ []) × (reply ≡ Rattle.map_types.specs.declared.reply.Reply.TheVariants.Refused Rattle.map_types.specs.declared.refusal.Errno.TheVariants.Enoent))))
          ((turns ≡ []) × (reply ≡ Rattle.map_types.specs.declared.reply.Reply.TheVariants.Refused Rattle.map_types.specs.declared.refusal.Errno.TheVariants.Einval)) → Goes shape cpu contents Nobody (turns_of turns) Nobody
      by true true there is = none is.0
      by true false true walks = walks_go remove (min count shape.elements) (buckets_from shape (unwrap_or start 0)) [] turns reply contents walks (buckets_within shape (unwrap_or start 0)) on allowed
      by true false false is = none is.0
      by false nothing there is = none is.0
