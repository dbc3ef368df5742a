-- Calls on keys of a map that evicts are runs of the core, where the takings and freeings of elements are.
use Rattle.std.proofs.Common.{◌≡◌, ℕ, ◌<◌, ◌≤◌, Bool, true, false, ◌&&◌, eqb, List, [], ◌∷◌, ◌++◌, map, Option, None, Some, refl, ap, ◌∙◌, sym, subst, ⊎_elim}
use Rattle.std.specs.Prelude.{IsTrue, MatchBool, MatchOption, option_to_list}
use Rattle.std.proofs.lemmas.Bool.{cond-true, lt-ltb}
use Rattle.map_types.specs.declared.attr.Shape.{Shape}
use Rattle.map_types.specs.declared.kind.DomainId.{DomainId}
use Rattle.map_types.specs.declared.kind.DomainId.TheVariants.{CpuLru, Bucket}
use Rattle.map_types.specs.Kind.{is_lru}
use Rattle.map_types.specs.Shape.{HasBounds}
use Rattle.map_types.specs.Stored.{Stored}
use Rattle.map_types.specs.ElementLists.{times, IsIn, without}
use Rattle.place_words.specs.declared.history.Part.TheVariants as parts
use Rattle.place_words.specs.declared.list_part.OwnPart.TheVariants as own
use Rattle.place_words.specs.Histories.{Content, Allows}
use Rattle.place_words.specs.Locks.{is_lock}
use Rattle.place_words.specs.Logs.{State, lies_in, placed}
use Rattle.place_words.specs.Turns.{Turn, TurnAt, turns_of, on_lock, on_bucket_of, bucket_of_key, after_turn, after_turns, AreAllowed}
use Rattle.place_words.specs.declared.bucket_part.BucketPart.TheVariants.{Lookup, Update, Delete, Take}
use Rattle.place_words.specs.declared.bucket_part.Put.{Put}
use Rattle.place_words.specs.declared.bucket_part.Put.TheVariants as puts
use Rattle.map_types.specs.declared.kind.Side.{Side}
use Rattle.place_words.specs.Bodies.{present, without_key, numbers}
use Rattle.place_words.specs.PlainTraces.{element_gone}
use Rattle.place_words.proofs.Splits.{there}
use Rattle.map_types.specs.declared.call.Verb.{Verb}
use Rattle.map_types.specs.declared.call.Verb.TheVariants as verbs
use Rattle.place_words.specs.Buckets.{AllowsInBucket, bucket_after}
use Rattle.map_types.specs.declared.reply.Reply.{Reply}
use Rattle.place_words.specs.Evicting.{FreesOne, MayPut, left_over, MayPutAlone, OffersOne, IsOfferTrace, IsWriteTrace, IsEvictingTrace}
use Rattle.place_words.specs.Takings.{set_of}
use Rattle.key_hash.proofs.Buckets.{bucket_number-lt}
use Rattle.core_runs.proofs.BucketGoes.{IsListed, goes_offer_added, goes_offer_replaced, gathered, goes_taking_out}
use Rattle.core_runs.proofs.PlainRuns.{on_bodies}
use Rattle.place_words.proofs.PlacedLaws.{placed_turns}
use Rattle.place_words.specs.Interleaving.{is_inner, part_steps, seen_by, lists_in}
use Rattle.core_runs.proofs.Chases.{placed_split, turns_split}
use Rattle.core_runs.proofs.Evictions.{Hands}
use Rattle.core_runs.proofs.PlainCalls.{goes_weaker}
use Rattle.core_runs.proofs.PlainNests.{allowed_parts}
use Rattle.core_runs.proofs.PlainGoes.{Goes, goes_none, goes_both, goes_keeping, bucket_once, left_of, AreThere, numbers_without, present_in_numbers}
use Rattle.place_words.specs.Takings.{Acquires, Frees}
use Rattle.core_runs.proofs.OwnCalls.{AreFine, Nobody, written_numbers, own_takes, own_listed, own_frees}
use Rattle.core_runs.proofs.SharedCalls.{AreOnLocks, on_parts, fine_both, known_more}
use Rattle.core_runs.proofs.SharedSupply.{shared_takes, shared_listed, shared_frees}

-- How elements are taken and freed on a CPU.
pub record Supplies (shape : Shape) (cpu : ℕ) : Type 0 where
  pub takes : (number hash : ℕ) (got : Option ℕ) (turns : List Turn) (state : State) → Acquires shape cpu hash got (placed shape cpu number turns state) → AreFine turns → AreOnLocks shape turns → AreAllowed shape cpu (lies_in shape state) turns
      → Goes shape cpu (lies_in shape state) Nobody turns (Hands cpu (option_to_list got) Nobody)
  pub listed : (number hash e : ℕ) (turns : List Turn) (state : State) → Acquires shape cpu hash (Some e) (placed shape cpu number turns state) → AreAllowed shape cpu (lies_in shape state) turns → IsListed shape (after_turns shape cpu (lies_in shape state) turns) e
  pub frees : (contents : DomainId → Content) (e : ℕ) (hand : List ℕ) (freeing : List TurnAt) → times e hand ≡ 0 → Frees shape e freeing → AreOnLocks shape (turns_of freeing) → AreAllowed shape cpu contents (turns_of freeing)
      → Goes shape cpu contents (Hands cpu (e ∷ hand) Nobody) (turns_of freeing) (Hands cpu hand Nobody)

pub second : (A B : Type 0) (b : Bool) → b ≡ false → MatchBool b A B → B
second A B true is it = absurd cc
second A B false is it = it

pub first_one : (A B : Type 0) (b : Bool) → b ≡ true → MatchBool b A B → A
first_one A B true is it = it
first_one A B false is it = absurd cc

pub own_supplies : {shape : Shape} (bounds : HasBounds shape) (lru : is_lru shape.kind ≡ true) (apart : shape.common ≡ false) {cpu : ℕ} (within : cpu < shape.cpus) → Supplies shape cpu
own_supplies {shape = shape} bounds lru apart {cpu = cpu} within = record {
  takes = λ number hash got turns state takes fine on allowed. own_takes bounds within own_lock number hash got turns state Nobody (second _ _ shape.common apart takes) fine allowed;
  listed = λ number hash e turns state takes allowed. own_listed bounds number hash e turns state own_lock (second _ _ shape.common apart takes) allowed;
  frees = λ contents e hand freeing gone frees on allowed.
      let are : turns_of freeing ≡ on_lock (CpuLru (set_of shape e)) (parts.Own (own.Push e)) ∷ [] = second _ _ shape.common apart frees in
      subst (λ (l : List Turn). AreAllowed shape cpu contents l → Goes shape cpu contents (Hands cpu (e ∷ hand) Nobody) l (Hands cpu hand Nobody)) (sym are) (λ may. own_frees bounds lru apart within contents e hand gone may.0) allowed;
}
  where
    own_lock : IsTrue (is_lock shape (CpuLru cpu))
    own_lock = rw (lru, apart, lt-ltb cpu shape.cpus within) refl

pub shared_supplies : {shape : Shape} (bounds : HasBounds shape) (lru : is_lru shape.kind ≡ true) (common : shape.common ≡ true) {cpu : ℕ} (within : cpu < shape.cpus) → Supplies shape cpu
shared_supplies {shape = shape} bounds lru common {cpu = cpu} within = record {
  takes = λ number hash got turns state takes fine on allowed. shared_takes bounds lru common within number hash got turns state (first_one _ _ shape.common common takes) fine on allowed;
  listed = λ number hash e turns state takes allowed. shared_listed common within number hash e turns state (first_one _ _ shape.common common takes) allowed;
  frees = λ contents e hand freeing gone frees on allowed. shared_frees bounds lru common within contents e hand freeing gone (first_one _ _ shape.common common frees) on allowed;
}

module _ {shape : Shape} (bounds : HasBounds shape) (lru : is_lru shape.kind ≡ true) {cpu : ℕ} (within : cpu < shape.cpus) (supplies : Supplies shape cpu) where
  -- what is freed, where there is something
  frees_one : (contents : DomainId → Content) (gone : Option ℕ) (freeing : List TurnAt) → FreesOne shape gone freeing → AreOnLocks shape (turns_of freeing) → AreAllowed shape cpu contents (turns_of freeing)
      → Goes shape cpu contents (Hands cpu (option_to_list gone) Nobody) (turns_of freeing) Nobody
  frees_one contents None freeing none on allowed =
      subst (λ (l : List TurnAt). Goes shape cpu contents (Hands cpu [] Nobody) (turns_of l) Nobody) (sym none) (goes_weaker contents (Hands cpu [] Nobody) (Hands cpu [] Nobody) Nobody [] (λ c x none. absurd none) (goes_none contents (Hands cpu [] Nobody)))
  frees_one contents (Some e) freeing frees on allowed = goes_weaker contents (Hands cpu (e ∷ []) Nobody) (Hands cpu [] Nobody) Nobody (turns_of freeing) (λ c x none. absurd none) (supplies.frees contents e [] freeing refl frees on allowed)

  pub bucket_there : (key : List ℕ) → bucket_of_key shape key < shape.buckets
  bucket_there key = bucket_number-lt (Rattle.key_hash.specs.Jhash.hash key shape.seed) shape.buckets bounds.buckets_power

  -- The bucket's turn of an update to which an element was offered leaves over what is freed.
  offer_goes : (contents : DomainId → Content) (side : Side) (flags : ℕ) (key value : List ℕ) (e : ℕ) (put : Put) → MayPut shape e put → IsListed shape contents e → Allows shape cpu (parts.Bucket (Update side flags key value (Some e) put)) (contents (Bucket (bucket_of_key shape key)))
      → Goes shape cpu contents (Hands cpu (e ∷ []) Nobody) (on_bucket_of shape key (Update side flags key value (Some e) put) ∷ []) (Hands cpu (option_to_list (left_over e put)) Nobody)
  unfolding bucket_after
  offer_goes contents side flags key value e (puts.Added added) may listed allowed =
      subst (λ (x : ℕ). Allows shape cpu (parts.Bucket (Update side flags key value (Some e) (puts.Added x))) (contents (Bucket (bucket_of_key shape key))) → Goes shape cpu contents (Hands cpu (e ∷ []) Nobody) (on_bucket_of shape key (Update side flags key value (Some e) (puts.Added x)) ∷ []) (Hands cpu [] Nobody)) (sym may)
      (λ can. goes_offer_added bounds lru within contents Nobody (bucket_of_key shape key) side flags key value (Some e) e [] (bucket_there key) can listed refl (λ c x none. absurd none)) allowed
  offer_goes contents side flags key value e (puts.Replaced new old) may listed allowed =
      subst (λ (x : ℕ). Allows shape cpu (parts.Bucket (Update side flags key value (Some e) (puts.Replaced x old))) (contents (Bucket (bucket_of_key shape key))) → Goes shape cpu contents (Hands cpu (e ∷ []) Nobody) (on_bucket_of shape key (Update side flags key value (Some e) (puts.Replaced x old)) ∷ []) (Hands cpu (old ∷ []) Nobody)) (sym may.0)
      (λ can. goes_offer_replaced bounds lru within contents Nobody (bucket_of_key shape key) side flags key value (Some e) e old [] (bucket_there key) can listed refl (λ c x none. absurd none)) allowed
  offer_goes contents side flags key value e (puts.Written written) may listed allowed =
      goes_keeping bounds within contents (Hands cpu (e ∷ []) Nobody) (bucket_of_key shape key) (Update side flags key value (Some e) (puts.Written written)) (bucket_there key) refl refl refl allowed (λ bodies _. written_numbers shape cpu side key value bodies)
  offer_goes contents side flags key value e puts.Exists may listed allowed =
      goes_keeping bounds within contents (Hands cpu (e ∷ []) Nobody) (bucket_of_key shape key) (Update side flags key value (Some e) puts.Exists) (bucket_there key) refl refl refl allowed (λ bodies _. refl)
  offer_goes contents side flags key value e puts.Absent may listed allowed =
      goes_keeping bounds within contents (Hands cpu (e ∷ []) Nobody) (bucket_of_key shape key) (Update side flags key value (Some e) puts.Absent) (bucket_there key) refl refl refl allowed (λ bodies _. refl)
  offer_goes contents side flags key value e puts.Full may listed allowed = absurd may

  -- An update that takes an element first
  offered_goes : (number : ℕ) (side : Side) (flags : ℕ) (key value : List ℕ) (turns : List Turn) (state : State) (reply : Reply) → IsOfferTrace shape cpu side flags key value (placed shape cpu number turns state) reply → AreFine turns → AreOnLocks shape turns → AreAllowed shape cpu (lies_in shape state) turns
      → Goes shape cpu (lies_in shape state) Nobody turns Nobody
  offered_goes number side flags key value turns state reply trace fine on allowed =
      let contents : DomainId → Content = lies_in shape state in
      let split = placed_split shape cpu number turns state trace.taking trace.rest trace.turns_are in
      let xs : List Turn = turns_of trace.taking in
      let all : turns ≡ xs ++ turns_of trace.rest = sym (placed_turns shape cpu number turns state) ∙ ap turns_of trace.turns_are ∙ turns_split trace.taking trace.rest in
      let fines = fine_both xs (turns_of trace.rest) (subst AreFine all fine) in
      let ons = on_parts shape xs (turns_of trace.rest) (subst (AreOnLocks shape) all on) in
      let may = allowed_parts shape cpu contents xs (turns_of trace.rest) (subst (AreAllowed shape cpu contents) all allowed) in
      subst (λ (l : List Turn). Goes shape cpu contents Nobody l Nobody) (sym all)
      (go trace.got xs (turns_of trace.rest) trace.rest refl (subst (λ (l : List TurnAt). Acquires shape cpu (Rattle.key_hash.specs.Jhash.hash key shape.seed) trace.got l) split.first trace.takes) fines.0 ons.0 ons.1 may trace.offers)
    where
      go : (got : Option ℕ) (xs ys : List Turn) (rest : List TurnAt) → turns_of rest ≡ ys → Acquires shape cpu (Rattle.key_hash.specs.Jhash.hash key shape.seed) got (placed shape cpu number xs state) → AreFine xs → AreOnLocks shape xs → AreOnLocks shape ys
          → AreAllowed shape cpu (lies_in shape state) xs × AreAllowed shape cpu (after_turns shape cpu (lies_in shape state) xs) ys
          → MatchOption got ((rest ≡ []) × (reply ≡ Rattle.map_types.specs.declared.reply.Reply.TheVariants.Refused Rattle.map_types.specs.declared.refusal.Errno.TheVariants.Enomem)) (λ e. OffersOne shape side flags key value e rest reply)
          → Goes shape cpu (lies_in shape state) Nobody (xs ++ ys) Nobody
      go None xs ys rest is takes fine on on_rest may offers =
          let none : ys ≡ [] = sym is ∙ ap turns_of offers.0 in
          goes_both (lies_in shape state) Nobody (Hands cpu [] Nobody) Nobody xs ys (supplies.takes number (Rattle.key_hash.specs.Jhash.hash key shape.seed) None xs state takes fine on may.0)
          (subst (λ (l : List Turn). Goes shape cpu (after_turns shape cpu (lies_in shape state) xs) (Hands cpu [] Nobody) l Nobody) (sym none) (goes_weaker (after_turns shape cpu (lies_in shape state) xs) (Hands cpu [] Nobody) (Hands cpu [] Nobody) Nobody [] (λ c x none. absurd none) (goes_none (after_turns shape cpu (lies_in shape state) xs) (Hands cpu [] Nobody))))
      go (Some e) xs ys rest is takes fine on on_rest may offers =
          let then_contents : DomainId → Content = after_turns shape cpu (lies_in shape state) xs in
          let turn : Turn = on_bucket_of shape key (Update side flags key value (Some e) offers.put) in
          let are : ys ≡ turn ∷ turns_of offers.freeing = sym is ∙ ap turns_of offers.turns_are ∙ ap (λ (t : Turn). t ∷ turns_of offers.freeing) offers.bucket_is in
          let can = subst (AreAllowed shape cpu then_contents) are may.1 in
          goes_both (lies_in shape state) Nobody (Hands cpu (e ∷ []) Nobody) Nobody xs ys (supplies.takes number (Rattle.key_hash.specs.Jhash.hash key shape.seed) (Some e) xs state takes fine on may.0)
          (subst (λ (l : List Turn). Goes shape cpu then_contents (Hands cpu (e ∷ []) Nobody) l Nobody) (sym are)
          (goes_both then_contents (Hands cpu (e ∷ []) Nobody) (Hands cpu (option_to_list (left_over e offers.put)) Nobody) Nobody (turn ∷ []) (turns_of offers.freeing)
          (offer_goes then_contents side flags key value e offers.put offers.may_put (supplies.listed number (Rattle.key_hash.specs.Jhash.hash key shape.seed) e xs state takes may.0) can.0)
          (frees_one (after_turn shape cpu then_contents turn) (left_over e offers.put) offers.freeing offers.frees (on_parts shape (turn ∷ []) (turns_of offers.freeing) (subst (AreOnLocks shape) are on_rest)).1 can.1)))

  -- What a delete or a take took out is freed.
  gone_goes : (contents : DomainId → Content) (key : List ℕ) (part : Rattle.place_words.specs.declared.bucket_part.BucketPart.BucketPart) (gone : Option ℕ) (freeing : List TurnAt) → is_inner (parts.Bucket part) ≡ false
      → part_steps shape cpu (Bucket (bucket_of_key shape key)) None (parts.Bucket part) ≡ map (λ e. Rattle.place_words.specs.declared.step.Step.TheVariants.Detach cpu e (bucket_of_key shape key)) (option_to_list gone) → seen_by (parts.Bucket part) ≡ []
      → ((bodies : List Stored) → AllowsInBucket shape cpu part bodies → ((x : ℕ) → times x (numbers bodies) ≤ 1) → AreThere (option_to_list gone) (numbers bodies) × (numbers (bucket_after shape cpu part bodies) ≡ left_of (option_to_list gone) (numbers bodies)))
      → FreesOne shape gone freeing → AreOnLocks shape (turns_of freeing) → AreAllowed shape cpu contents (on_bucket_of shape key part ∷ turns_of freeing)
      → Goes shape cpu contents Nobody (on_bucket_of shape key part ∷ turns_of freeing) Nobody
  gone_goes contents key part gone freeing outer steps_are blind takes_out frees on allowed = record {
    run = λ s n call later tied.
        let bodies = on_bodies (contents (Bucket (bucket_of_key shape key))) (AllowsInBucket shape cpu part) allowed.0 in
        let once : (x : ℕ) → times x (numbers bodies.bodies) ≤ 1 = λ x. subst (λ (l : Rattle.place_words.specs.declared.step.Lists.Lists). times x l.first ≤ 1) (ap lists_in bodies.lies) (bucket_once bounds within tied (bucket_of_key shape key) x (lt-ltb (bucket_of_key shape key) shape.buckets (bucket_there key))) in
        let out = takes_out bodies.bodies bodies.fact once in
        (goes_both contents Nobody (Hands cpu (option_to_list gone) Nobody) Nobody (on_bucket_of shape key part ∷ []) (turns_of freeing)
        (known_more contents (on_bucket_of shape key part ∷ []) Nobody (Hands cpu (option_to_list gone) Nobody)
        (subst (λ (l : List ℕ). Goes shape cpu contents (Hands cpu [] Nobody) (on_bucket_of shape key part ∷ []) (Hands cpu l Nobody)) (gathered_one gone)
        (goes_taking_out bounds within (bucket_of_key shape key) (lt-ltb (bucket_of_key shape key) shape.buckets (bucket_there key)) contents part (option_to_list gone) [] bodies.bodies outer steps_are blind bodies.lies out.0 out.1)))
        (frees_one (after_turn shape cpu contents (on_bucket_of shape key part)) gone freeing frees on allowed.1)).run s n call later tied;
  }
    where
      gathered_one : (gone : Option ℕ) → gathered (option_to_list gone) [] ≡ option_to_list gone
      gathered_one None = refl
      gathered_one (Some e) = refl

  gone_numbers : (key : List ℕ) (e : ℕ) (bodies : List Stored) (Fact : Stored → Type 0) → MatchOption (present key bodies) ⊥ (λ (body : Stored). (body.element ≡ e) × Fact body) → ((x : ℕ) → times x (numbers bodies) ≤ 1)
      → AreThere (e ∷ []) (numbers bodies) × (numbers (without_key key bodies) ≡ left_of (e ∷ []) (numbers bodies))
  gone_numbers key e bodies Fact found_there once =
      let it = there (present key bodies) (λ (body : Stored). (body.element ≡ e) × Fact body) found_there in (
        (subst (λ (x : ℕ). IsIn x (numbers bodies)) it.fact.0 (present_in_numbers key bodies it.it it.is), tt),
        sym (numbers_without key bodies it.it it.is (once it.it.element)) ∙ ap (λ (x : ℕ). without x (numbers bodies)) it.fact.0,
      )

  delete_out : (key : List ℕ) (gone : Option ℕ) (bodies : List Stored) → AllowsInBucket shape cpu (Delete key gone) bodies → ((x : ℕ) → times x (numbers bodies) ≤ 1)
      → AreThere (option_to_list gone) (numbers bodies) × (numbers (bucket_after shape cpu (Delete key gone) bodies) ≡ left_of (option_to_list gone) (numbers bodies))
  unfolding AllowsInBucket bucket_after
  delete_out key None bodies may once = (tt, refl)
  delete_out key (Some e) bodies may once = gone_numbers key e bodies (λ _. Unit {0}) (with_unit e (present key bodies) may) once
    where
      with_unit : (e : ℕ) (o : Option Stored) → MatchOption o ⊥ (λ (body : Stored). body.element ≡ e) → MatchOption o ⊥ (λ (body : Stored). (body.element ≡ e) × Unit {0})
      with_unit e None none = none
      with_unit e (Some body) is = (is, tt)

  take_out : (key : List ℕ) (gone : Option (ℕ × List ℕ)) (bodies : List Stored) → AllowsInBucket shape cpu (Take key gone) bodies → ((x : ℕ) → times x (numbers bodies) ≤ 1)
      → AreThere (option_to_list (element_gone gone)) (numbers bodies) × (numbers (bucket_after shape cpu (Take key gone) bodies) ≡ left_of (option_to_list (element_gone gone)) (numbers bodies))
  unfolding AllowsInBucket bucket_after
  take_out key None bodies may once = (tt, refl)
  take_out key (Some got) bodies may once = gone_numbers key got.0 bodies _ may once

  delete_steps : (key : List ℕ) (gone : Option ℕ) → part_steps shape cpu (Bucket (bucket_of_key shape key)) None (parts.Bucket (Delete key gone)) ≡ map (λ e. Rattle.place_words.specs.declared.step.Step.TheVariants.Detach cpu e (bucket_of_key shape key)) (option_to_list gone)
  delete_steps key None = cond-true (is_lru shape.kind) _ _ lru
  delete_steps key (Some e) = cond-true (is_lru shape.kind) _ _ lru

  take_steps : (key : List ℕ) (gone : Option (ℕ × List ℕ)) → part_steps shape cpu (Bucket (bucket_of_key shape key)) None (parts.Bucket (Take key gone)) ≡ map (λ e. Rattle.place_words.specs.declared.step.Step.TheVariants.Detach cpu e (bucket_of_key shape key)) (option_to_list (element_gone gone))
  take_steps key None = cond-true (is_lru shape.kind) _ _ lru
  take_steps key (Some got) = cond-true (is_lru shape.kind) _ _ lru

  keeps : (state : State) (key : List ℕ) (part : Rattle.place_words.specs.declared.bucket_part.BucketPart.BucketPart) → is_inner (parts.Bucket part) ≡ false → part_steps shape cpu (Bucket (bucket_of_key shape key)) None (parts.Bucket part) ≡ [] → seen_by (parts.Bucket part) ≡ []
      → ((bodies : List Stored) → AllowsInBucket shape cpu part bodies → numbers (bucket_after shape cpu part bodies) ≡ numbers bodies)
      → Allows shape cpu (parts.Bucket part) (lies_in shape state (Bucket (bucket_of_key shape key))) → Goes shape cpu (lies_in shape state) Nobody (on_bucket_of shape key part ∷ []) Nobody
  keeps state key part outer quiet blind same may = goes_keeping bounds within (lies_in shape state) Nobody (bucket_of_key shape key) part (bucket_there key) outer quiet blind may same

  -- an update that takes nothing
  alone_goes : (side : Side) (flags : ℕ) (key value : List ℕ) (put : Put) (state : State) → MayPutAlone put → AreAllowed shape cpu (lies_in shape state) (on_bucket_of shape key (Update side flags key value None put) ∷ []) → Goes shape cpu (lies_in shape state) Nobody (on_bucket_of shape key (Update side flags key value None put) ∷ []) Nobody
  unfolding bucket_after
  alone_goes side flags key value (puts.Added e) state may allowed = absurd may
  alone_goes side flags key value (puts.Replaced new old) state may allowed = absurd may
  alone_goes side flags key value (puts.Written e) state may allowed = keeps state key (Update side flags key value None (puts.Written e)) refl refl refl (λ bodies _. written_numbers shape cpu side key value bodies) allowed.0
  alone_goes side flags key value puts.Exists state may allowed = absurd may
  alone_goes side flags key value puts.Absent state may allowed = keeps state key (Update side flags key value None puts.Absent) refl refl refl (λ bodies _. refl) allowed.0
  alone_goes side flags key value puts.Full state may allowed = absurd may

  update_goes : (number : ℕ) (side : Side) (flags : ℕ) (key value : List ℕ) (turns : List Turn) (state : State) (reply : Reply) (alone : Bool)
      → MatchBool alone (IsWriteTrace shape side flags key value (placed shape cpu number turns state) reply) (IsOfferTrace shape cpu side flags key value (placed shape cpu number turns state) reply)
      → AreFine turns → AreOnLocks shape turns → AreAllowed shape cpu (lies_in shape state) turns → Goes shape cpu (lies_in shape state) Nobody turns Nobody
  update_goes number side flags key value turns state reply true trace fine on allowed =
      let are : turns ≡ on_bucket_of shape key (Update side flags key value None trace.put) ∷ [] = sym (placed_turns shape cpu number turns state) ∙ trace.turns_are in
      subst (λ (l : List Turn). AreAllowed shape cpu (lies_in shape state) l → Goes shape cpu (lies_in shape state) Nobody l Nobody) (sym are) (alone_goes side flags key value trace.put state trace.may_put) allowed
  update_goes number side flags key value turns state reply false trace fine on allowed = offered_goes number side flags key value turns state reply trace fine on allowed

  -- every call on a key
  pub evicting_goes : (number : ℕ) (verb : Verb) (turns : List Turn) (state : State) (reply : Reply) → IsEvictingTrace shape cpu verb (placed shape cpu number turns state) reply → AreFine turns → AreOnLocks shape turns → AreAllowed shape cpu (lies_in shape state) turns
      → Goes shape cpu (lies_in shape state) Nobody turns Nobody
  unfolding bucket_after
  evicting_goes number (verbs.Lookup side key) turns state reply trace fine on allowed =
      let are : turns ≡ on_bucket_of shape key (Lookup side key trace.got) ∷ [] = sym (placed_turns shape cpu number turns state) ∙ trace.turns_are in
      subst (λ (l : List Turn). AreAllowed shape cpu (lies_in shape state) l → Goes shape cpu (lies_in shape state) Nobody l Nobody) (sym are)
      (λ may. keeps state key (Lookup side key trace.got) refl refl refl (λ bodies _. refl) may.0) allowed
  evicting_goes number (verbs.Update side flags key value) turns state reply trace fine on allowed =
      ⊎_elim
      (λ refused. let none : turns ≡ [] = sym (placed_turns shape cpu number turns state) ∙ ap turns_of refused.1 in subst (λ (l : List Turn). Goes shape cpu (lies_in shape state) Nobody l Nobody) (sym none) (goes_none (lies_in shape state) Nobody))
      (λ done. update_goes number side flags key value turns state reply (Rattle.map_types.specs.Kind.is_percpu shape.kind && eqb flags 2) done.1 fine on allowed)
      trace
  evicting_goes number (verbs.Delete key) turns state reply trace fine on allowed =
      let are : turns ≡ on_bucket_of shape key (Delete key trace.gone) ∷ turns_of trace.freeing = sym (placed_turns shape cpu number turns state) ∙ ap turns_of trace.turns_are ∙ ap (λ (t : Turn). t ∷ turns_of trace.freeing) trace.bucket_is in
      subst (λ (l : List Turn). AreAllowed shape cpu (lies_in shape state) l → Goes shape cpu (lies_in shape state) Nobody l Nobody) (sym are)
      (λ may. gone_goes (lies_in shape state) key (Delete key trace.gone) trace.gone trace.freeing refl (delete_steps key trace.gone) refl (delete_out key trace.gone) trace.frees (on_parts shape (on_bucket_of shape key (Delete key trace.gone) ∷ []) (turns_of trace.freeing) (subst (AreOnLocks shape) are on)).1 may) allowed
  evicting_goes number (verbs.Take key) turns state reply trace fine on allowed =
      let are : turns ≡ on_bucket_of shape key (Take key trace.gone) ∷ turns_of trace.freeing = sym (placed_turns shape cpu number turns state) ∙ ap turns_of trace.turns_are ∙ ap (λ (t : Turn). t ∷ turns_of trace.freeing) trace.bucket_is in
      subst (λ (l : List Turn). AreAllowed shape cpu (lies_in shape state) l → Goes shape cpu (lies_in shape state) Nobody l Nobody) (sym are)
      (λ may. gone_goes (lies_in shape state) key (Take key trace.gone) (element_gone trace.gone) trace.freeing refl (take_steps key trace.gone) refl (take_out key trace.gone) trace.frees (on_parts shape (on_bucket_of shape key (Take key trace.gone) ∷ []) (turns_of trace.freeing) (subst (AreOnLocks shape) are on)).1 may) allowed
  evicting_goes number (verbs.Next key) turns state reply trace fine on allowed = absurd trace
  evicting_goes number (verbs.BatchRead remove count start flags) turns state reply trace fine on allowed = absurd trace
  evicting_goes number (verbs.BatchUpdate flags pairs) turns state reply trace fine on allowed = absurd trace
  evicting_goes number (verbs.BatchDelete flags keys) turns state reply trace fine on allowed = absurd trace
  evicting_goes number (verbs.Each flags stop) turns state reply trace fine on allowed = absurd trace
