-- Batch writes of maps of any kind, and batch reads of maps that don't evict, are runs of the core.
use Rattle.std.proofs.Common.{◌≡◌, ℕ, suc, ◌-◌, ◌<◌, Bool, true, false, cond, eqb, List, [], ◌∷◌, ◌++◌, length, map, Option, None, Some, refl, ap, ◌∙◌, sym, subst}
use Rattle.std.specs.Prelude.{MatchBool, MatchOption}
use Rattle.std.proofs.lemmas.Bool.{cond-false}
use Rattle.map_types.specs.declared.attr.Shape.{Shape}
use Rattle.map_types.specs.declared.call.Verb.{Verb}
use Rattle.map_types.specs.declared.kind.DomainId.{DomainId}
use Rattle.map_types.specs.declared.kind.DomainId.TheVariants.{Bucket}
use Rattle.map_types.specs.declared.refusal.Errno.{Errno}
use Rattle.map_types.specs.declared.reply.Reply.{Reply}
use Rattle.map_types.specs.declared.reply.Reply.TheVariants.{Refused, Count}
use Rattle.map_types.specs.Kind.{is_lru}
use Rattle.map_types.specs.Shape.{HasBounds}
use Rattle.map_types.specs.ElementLists.{put}
use Rattle.map_types.proofs.RowLemmas.{by_test}
use Rattle.place_words.specs.declared.bucket_part.BucketPart.{BucketPart}
use Rattle.place_words.specs.declared.bucket_part.BucketPart.TheVariants.{Walk}
use Rattle.place_words.specs.declared.bucket_part.Walked.{Walked}
use Rattle.place_words.specs.declared.bucket_part.Walked.TheVariants.{Over, Taken}
use Rattle.place_words.specs.declared.history.Part.TheVariants as parts
use Rattle.place_words.specs.Buckets.{AllowsInBucket}
use Rattle.place_words.specs.Histories.{Content, Allows}
use Rattle.place_words.specs.Logs.{State, lies_in, all_turned, placed}
use Rattle.place_words.specs.Moves.{taken_from_bucket}
use Rattle.place_words.specs.PlainTraces.{spare_after, spare_after_part}
use Rattle.place_words.specs.Turns.{Turn, TurnAt, turns_of, on_lock, after_turns, AreAllowed}
use Rattle.place_words.specs.Walks.{AfterWalk, Walks, Writes, IsWriteBatch, walked_out, pair_of, refused_with, spare_left}
use Rattle.place_words.proofs.EachTurn.{AreWithin, first_within, others_within}
use Rattle.place_words.proofs.PlacedContents.{lies_after_all}
use Rattle.place_words.proofs.PlacedLaws.{placed_turns}
use Rattle.place_words.proofs.ElementLemmas.{put_here}
use Rattle.core_runs.proofs.Chases.{placed_split, turns_split}
use Rattle.core_runs.proofs.EvictingCalls.{Supplies, second, first_one, evicting_goes}
use Rattle.core_runs.proofs.OwnCalls.{AreFine, Nobody}
use Rattle.core_runs.proofs.PlainCalls.{goes_weaker, key_goes}
use Rattle.core_runs.proofs.PlainNests.{allowed_parts, goes_removing, pushing_else}
use Rattle.core_runs.proofs.PlainGoes.{Goes, goes_none, goes_both, AreSpares, pushing}
use Rattle.core_runs.proofs.PlainRuns.{on_bodies}
use Rattle.core_runs.proofs.SharedCalls.{AreOnLocks, on_parts, fine_both}
use Rattle.core_runs.proofs.WalkCalls.{walk_out}

-- On a map that evicts

module _ {shape : Shape} (bounds : HasBounds shape) (lru : is_lru shape.kind ≡ true) {cpu : ℕ} (within : cpu < shape.cpus) (supplies : Supplies shape cpu) where
  pub writes_go : (spare : Option ℕ) (entries : List Verb) (done number : ℕ) (turns : List Turn) (state : State) (reply : Reply) → Writes shape cpu spare entries done (placed shape cpu number turns state) reply
      → AreFine turns → AreOnLocks shape turns → AreAllowed shape cpu (lies_in shape state) turns → Goes shape cpu (lies_in shape state) Nobody turns Nobody
  writes_go spare [] done number turns state reply writes fine on allowed =
      let none : turns ≡ [] = sym (placed_turns shape cpu number turns state) ∙ ap turns_of writes.0 in subst (λ (l : List Turn). Goes shape cpu (lies_in shape state) Nobody l Nobody) (sym none) (goes_none (lies_in shape state) Nobody)
  writes_go spare (entry ∷ entries) done number turns state reply (answer, one, rest, (is, trace, goes_on)) fine on allowed =
      let split = placed_split shape cpu number turns state one rest is in
      let xs : List Turn = turns_of one in
      let ys : List Turn = turns_of rest in
      let all : turns ≡ xs ++ ys = sym (placed_turns shape cpu number turns state) ∙ ap turns_of is ∙ turns_split one rest in
      let fines = fine_both xs ys (subst AreFine all fine) in
      let ons = on_parts shape xs ys (subst (AreOnLocks shape) all on) in
      let may = allowed_parts shape cpu (lies_in shape state) xs ys (subst (AreAllowed shape cpu (lies_in shape state)) all allowed) in
      let passed : State = all_turned shape cpu number xs state in
      let lies_then : lies_in shape passed ≡ after_turns shape cpu (lies_in shape state) xs = lies_after_all shape cpu number xs state in
      let key_trace = first_one _ _ (is_lru shape.kind) lru trace in
      subst (λ (l : List Turn). Goes shape cpu (lies_in shape state) Nobody l Nobody) (sym all)
      (goes_both (lies_in shape state) Nobody Nobody Nobody xs ys
      (evicting_goes bounds lru within supplies number entry xs state answer (subst (λ (l : List TurnAt). Rattle.place_words.specs.Evicting.IsEvictingTrace shape cpu entry l answer) split.first key_trace) fines.0 ons.0 may.0)
      (ends (refused_with answer) goes_on
      (λ later. subst (λ (c : DomainId → Content). Goes shape cpu c Nobody ys Nobody) lies_then
      (writes_go (spare_left shape spare one) entries (suc done) number ys passed reply (subst (λ (l : List TurnAt). Writes shape cpu (spare_left shape spare one) entries (suc done) l reply) split.second later) fines.1 ons.1 (subst (λ (c : DomainId → Content). AreAllowed shape cpu c ys) (sym lies_then) may.1)))))
    where
      ends : (told : Option Errno) → MatchOption told (Writes shape cpu (spare_left shape spare one) entries (suc done) rest reply) (λ errno. (rest ≡ []) × (reply ≡ Count (Some errno) done))
          → (Writes shape cpu (spare_left shape spare one) entries (suc done) rest reply → Goes shape cpu (after_turns shape cpu (lies_in shape state) (turns_of one)) Nobody (turns_of rest) Nobody)
          → Goes shape cpu (after_turns shape cpu (lies_in shape state) (turns_of one)) Nobody (turns_of rest) Nobody
      ends None later go = go later
      ends (Some errno) last go = subst (λ (l : List TurnAt). Goes shape cpu (after_turns shape cpu (lies_in shape state) (turns_of one)) Nobody (turns_of l) Nobody) (sym last.0) (goes_none _ Nobody)

  pub write_goes : (spare : Option ℕ) (flags : ℕ) (entries : List Verb) (number : ℕ) (turns : List Turn) (state : State) (reply : Reply) → IsWriteBatch shape cpu spare flags entries (placed shape cpu number turns state) reply
      → AreFine turns → AreOnLocks shape turns → AreAllowed shape cpu (lies_in shape state) turns → Goes shape cpu (lies_in shape state) Nobody turns Nobody
  write_goes spare flags entries number turns state reply batch fine on allowed = by (eqb flags 0) batch
    where
      by : (plain : Bool) → MatchBool plain (Writes shape cpu spare entries 0 (placed shape cpu number turns state) reply) ((placed shape cpu number turns state ≡ []) × (reply ≡ Refused Rattle.map_types.specs.declared.refusal.Errno.TheVariants.Einval)) → Goes shape cpu (lies_in shape state) Nobody turns Nobody
      by true writes = writes_go spare entries 0 number turns state reply writes fine on allowed
      by false none = let empty : turns ≡ [] = sym (placed_turns shape cpu number turns state) ∙ ap turns_of none.0 in subst (λ (l : List Turn). Goes shape cpu (lies_in shape state) Nobody l Nobody) (sym empty) (goes_none (lies_in shape state) Nobody)

-- On one that doesn't

pub spare_both : (spare : Option ℕ) (xs ys : List Turn) → spare_after spare (xs ++ ys) ≡ spare_after (spare_after spare xs) ys
spare_both spare [] ys = refl
spare_both spare (x ∷ xs) ys = spare_both (spare_after_part spare x.part) xs ys

module _ {shape : Shape} (bounds : HasBounds shape) (plain : is_lru shape.kind ≡ false) {cpu : ℕ} (within : cpu < shape.cpus) where
  abbrev Kept : (ℕ → Option ℕ) → Option ℕ → ℕ → ℕ → Type 0
  Kept spares spare = AreSpares (put spares cpu spare)

  pub same_spare : (spares : ℕ → Option ℕ) (c x : ℕ) → Kept spares (spares cpu) c x → AreSpares spares c x
  unfolding put
  same_spare spares c x is = by_test c cpu (λ b. cond b (spares cpu) (spares c) ≡ Some x → spares c ≡ Some x) (λ same have. ap spares same ∙ have) (λ other have. have) is

  later_spare : (spares : ℕ → Option ℕ) (one last : Option ℕ) (c x : ℕ) → Kept spares last c x → Kept (put spares cpu one) last c x
  unfolding put
  later_spare spares one last c x is = by_test c cpu (λ b. cond b last (spares c) ≡ Some x → cond b last (cond b one (spares c)) ≡ Some x) (λ same have. have) (λ other have. have) is

  pub plain_writes_go : (spares : ℕ → Option ℕ) (entries : List Verb) (done : ℕ) (turns : List TurnAt) (reply : Reply) (contents : DomainId → Content) → Writes shape cpu (spares cpu) entries done turns reply
      → AreAllowed shape cpu contents (turns_of turns) → Goes shape cpu contents (AreSpares spares) (turns_of turns) (Kept spares (spare_after (spares cpu) (turns_of turns)))
  plain_writes_go spares [] done turns reply contents writes allowed =
      subst (λ (l : List TurnAt). Goes shape cpu contents (AreSpares spares) (turns_of l) (Kept spares (spare_after (spares cpu) (turns_of l)))) (sym writes.0) (goes_weaker contents (AreSpares spares) (AreSpares spares) (Kept spares (spares cpu)) [] (same_spare spares) (goes_none contents (AreSpares spares)))
  plain_writes_go spares (entry ∷ entries) done turns reply contents (answer, one, rest, (is, trace, goes_on)) allowed =
      let xs : List Turn = turns_of one in
      let ys : List Turn = turns_of rest in
      let all : turns_of turns ≡ xs ++ ys = ap turns_of is ∙ turns_split one rest in
      let may = allowed_parts shape cpu contents xs ys (subst (AreAllowed shape cpu contents) all allowed) in
      let key_trace = second _ _ (is_lru shape.kind) plain trace in
      let next : ℕ → Option ℕ = put spares cpu (spare_after (spares cpu) xs) in
      let next_is : next cpu ≡ spare_after (spares cpu) xs = put_here spares cpu (spare_after (spares cpu) xs) in
      let left_is : spare_left shape (spares cpu) one ≡ next cpu = cond-false (is_lru shape.kind) (spares cpu) (spare_after (spares cpu) xs) plain ∙ sym next_is in
      subst (λ (l : List Turn). Goes shape cpu contents (AreSpares spares) l (Kept spares (spare_after (spares cpu) l))) (sym all)
      (subst (λ (o : Option ℕ). Goes shape cpu contents (AreSpares spares) (xs ++ ys) (Kept spares o)) (ap (λ (o : Option ℕ). spare_after o ys) next_is ∙ sym (spare_both (spares cpu) xs ys))
      (goes_weaker contents (AreSpares spares) (AreSpares (put next cpu (spare_after (next cpu) ys))) (Kept spares (spare_after (next cpu) ys)) (xs ++ ys) (later_spare spares (spare_after (spares cpu) xs) (spare_after (next cpu) ys))
      (goes_both contents (AreSpares spares) (AreSpares next) (AreSpares (put next cpu (spare_after (next cpu) ys))) xs ys
      (key_goes bounds plain within contents spares entry xs answer key_trace may.0)
      (ends (refused_with answer) goes_on next
      (λ later. plain_writes_go next entries (suc done) rest reply (after_turns shape cpu contents xs) (subst (λ (o : Option ℕ). Writes shape cpu o entries (suc done) rest reply) left_is later) may.1)))))
    where
      ends : (told : Option Errno) → MatchOption told (Writes shape cpu (spare_left shape (spares cpu) one) entries (suc done) rest reply) (λ errno. (rest ≡ []) × (reply ≡ Count (Some errno) done)) → (next : ℕ → Option ℕ)
          → (Writes shape cpu (spare_left shape (spares cpu) one) entries (suc done) rest reply → Goes shape cpu (after_turns shape cpu contents (turns_of one)) (AreSpares next) (turns_of rest) (AreSpares (put next cpu (spare_after (next cpu) (turns_of rest)))))
          → Goes shape cpu (after_turns shape cpu contents (turns_of one)) (AreSpares next) (turns_of rest) (AreSpares (put next cpu (spare_after (next cpu) (turns_of rest))))
      ends None later next go = go later
      ends (Some errno) last next go =
          subst (λ (l : List TurnAt). Goes shape cpu (after_turns shape cpu contents (turns_of one)) (AreSpares next) (turns_of l) (AreSpares (put next cpu (spare_after (next cpu) (turns_of l))))) (sym last.0)
          (goes_weaker _ (AreSpares next) (AreSpares next) (AreSpares (put next cpu (next cpu))) [] (same_spare next) (goes_none _ (AreSpares next)))

  -- a batch read
  plain_steps : (bucket : ℕ) (part : BucketPart) (b : Bool) → b ≡ false → Rattle.place_words.specs.Interleaving.leave_steps b cpu bucket (taken_from_bucket part) ≡ []
  plain_steps bucket part b is = cond-false b _ _ is

  plain_walk_go : (Known : ℕ → ℕ → Type 0) (bucket : ℕ) (remove : Bool) (room : ℕ) (result : Walked) (contents : DomainId → Content) → bucket < shape.buckets
      → AreAllowed shape cpu contents (pushing cpu (walked_out remove result) ++ on_lock (Bucket bucket) (parts.Bucket (Walk remove room result)) ∷ [])
      → Goes shape cpu contents Known (pushing cpu (walked_out remove result) ++ on_lock (Bucket bucket) (parts.Bucket (Walk remove room result)) ∷ []) Known
  plain_walk_go Known bucket remove room result contents less allowed =
      let part : BucketPart = Walk remove room result in
      let gone : List ℕ = walked_out remove result in
      let both = allowed_parts shape cpu contents (pushing cpu gone) (on_lock (Bucket bucket) (parts.Bucket part) ∷ []) allowed in
      let bodies = on_bodies (contents (Bucket bucket)) (AllowsInBucket shape cpu part) (subst (Allows shape cpu (parts.Bucket part)) (pushing_else shape cpu bucket gone contents) both.1.0) in
      let out = walk_out shape cpu remove room result bodies.bodies bodies.fact in
      goes_removing bounds plain within contents Known bucket part gone bodies.bodies less refl (plain_steps bucket part (is_lru shape.kind) plain) refl bodies.lies both.0 out.0 out.1

  pub plain_walks_go : (Known : ℕ → ℕ → Type 0) (remove : Bool) (limit : ℕ) (buckets : List ℕ) (taken : List (List ℕ × List ℕ)) (turns : List TurnAt) (reply : Reply) (contents : DomainId → Content) → Walks shape cpu remove limit buckets taken turns reply → AreWithin (λ b. b < shape.buckets) buckets
      → AreAllowed shape cpu contents (turns_of turns) → Goes shape cpu contents Known (turns_of turns) Known
  plain_walks_go Known remove limit [] taken turns reply contents walks there allowed = subst (λ (l : List TurnAt). Goes shape cpu contents Known (turns_of l) Known) (sym walks.0) (goes_none contents Known)
  plain_walks_go Known remove limit (bucket ∷ buckets) taken turns reply contents (result, one, rest, (is, takes, after_walk)) there allowed =
      let are : turns_of turns ≡ turns_of one ++ turns_of rest = ap turns_of is ∙ turns_split one rest in
      let may = allowed_parts shape cpu contents (turns_of one) (turns_of rest) (subst (AreAllowed shape cpu contents) are allowed) in
      let one_is = second _ _ (is_lru shape.kind) plain takes in
      subst (λ (l : List Turn). Goes shape cpu contents Known l Known) (sym are)
      (goes_both contents Known Known Known (turns_of one) (turns_of rest)
      (subst (λ (l : List Turn). AreAllowed shape cpu contents l → Goes shape cpu contents Known l Known) (sym one_is) (plain_walk_go Known bucket remove (limit - length taken) result contents (first_within (λ b. b < shape.buckets) bucket buckets there)) may.0)
      (ends result after_walk (λ now later. plain_walks_go Known remove limit buckets now rest reply (after_turns shape cpu contents (turns_of one)) later (others_within (λ b. b < shape.buckets) bucket buckets there) may.1)))
    where
      ends : (result : Walked) → AfterWalk bucket taken rest reply result (λ now. Walks shape cpu remove limit buckets now rest reply)
          → ((now : List (List ℕ × List ℕ)) → Walks shape cpu remove limit buckets now rest reply → Goes shape cpu (after_turns shape cpu contents (turns_of one)) Known (turns_of rest) Known) → Goes shape cpu (after_turns shape cpu contents (turns_of one)) Known (turns_of rest) Known
      ends (Over n) last go = subst (λ (l : List TurnAt). Goes shape cpu (after_turns shape cpu contents (turns_of one)) Known (turns_of l) Known) (sym last.0) (goes_none _ Known)
      ends (Taken all) later go = go (taken ++ map pair_of all) later
