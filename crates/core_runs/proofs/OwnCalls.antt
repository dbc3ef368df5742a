-- Calls on keys of a map whose CPUs have list sets of their own are runs of the core.
use Rattle.std.proofs.Common.{◌≡◌, ℕ, ◌<◌, ◌≤◌, Bool, true, false, ◌&&◌, ◌||◌, eqb, List, [], ◌∷◌, ◌++◌, map, Option, None, Some, refl, ap, ◌∙◌, sym, subst, inl, ⊎_elim, arith}
use Rattle.std.specs.Prelude.{All, IsTrue, IsFalse, MatchBool, MatchOption, option_to_list, if◌then◌else◌}
use Rattle.std.proofs.lemmas.Bool.{cases_Bool, cond-true, lt-ltb}
use Rattle.std.proofs.lemmas.List.{append_assoc, append-nil, map-append}
use Rattle.std.proofs.lemmas.List.Elements.{All-head, All-tail}
use Rattle.map_types.specs.declared.attr.Shape.{Shape}
use Rattle.map_types.specs.declared.kind.DomainId.{DomainId}
use Rattle.map_types.specs.declared.kind.DomainId.TheVariants.{CpuLru, Bucket}
use Rattle.map_types.specs.Kind.{is_lru}
use Rattle.map_types.specs.Shape.{HasBounds}
use Rattle.map_types.specs.Stored.{Stored}
use Rattle.map_types.specs.Listed.{elements_of}
use Rattle.map_types.specs.ElementLists.{times, IsIn, without}
use Rattle.map_types.proofs.RowLemmas.{times_append}
use Rattle.place_words.specs.declared.history.Part.TheVariants as parts
use Rattle.place_words.specs.declared.list_part.OwnPart.{OwnPart}
use Rattle.place_words.specs.declared.list_part.OwnPart.TheVariants as own
use Rattle.place_words.specs.Histories.{Content, in_bucket, on_freelist, in_locals, in_global, in_own, own_in, content_after, Allows}
use Rattle.place_words.specs.Locks.{is_lock, lock_number}
use Rattle.place_words.specs.Logs.{State, lies_in, all_turned, placed}
use Rattle.place_words.specs.SerialOrder.{FindsNoneHeld}
use Rattle.place_words.specs.Sets.{ListSet, AllowsOnOwn, own_after, is_listed}
use Rattle.place_words.specs.Takings.{TakesOwn, listed_rows}
use Rattle.place_words.specs.Turns.{Turn, TurnAt, turns_of, found, on_lock, on_bucket_of, bucket_of_key, after_turn, after_turns, AreAllowed}
use Rattle.place_words.specs.declared.bucket_part.BucketPart.TheVariants.{Lookup, Update, Delete, Take}
use Rattle.place_words.specs.declared.bucket_part.Put.{Put}
use Rattle.place_words.specs.declared.bucket_part.Put.TheVariants as puts
use Rattle.map_types.specs.declared.kind.Side.{Side}
use Rattle.place_words.specs.Bodies.{present, without_key, numbers}
use Rattle.place_words.specs.PlainTraces.{element_gone}
use Rattle.place_words.proofs.Splits.{there}
use Rattle.map_types.specs.declared.call.Verb.{Verb}
use Rattle.map_types.specs.declared.call.Verb.TheVariants as verbs
use Rattle.place_words.specs.Buckets.{AllowsInBucket, bucket_after, written_over}
use Rattle.map_types.specs.declared.reply.Reply.{Reply}
use Rattle.place_words.specs.Evicting.{FreesOne, MayPut, left_over, MayPutAlone, OffersOne, IsOfferTrace, IsWriteTrace, IsEvictingTrace}
use Rattle.place_words.specs.Takings.{set_of}
use Rattle.place_words.proofs.PlacedContents.{after_both, lies_after_all}
use Rattle.place_words.proofs.LockLemmas.{same_lock}
use Rattle.place_words.proofs.Settled.{turned_here}
use Rattle.key_hash.proofs.Buckets.{bucket_number-lt}
use Rattle.place_words.proofs.ElementLemmas.{times_cons_same}
use Rattle.place_words.proofs.WholeLemmas.{each_in_one_place}
use Rattle.core_runs.proofs.BucketGoes.{IsListed, goes_offer_added, goes_offer_replaced, gathered, goes_taking_out}
use Rattle.core_runs.proofs.PlainRuns.{on_bodies}
use Rattle.core_runs.proofs.ListGoes.{goes_push_own}
use Rattle.place_words.proofs.PlacedLaws.{placed_turns}
use Rattle.place_words.specs.State.{rows, HasCursorInside}
use Rattle.place_words.specs.Interleaving.{is_inner, part_steps, seen_by, set_lists, lists_in}
use Rattle.core_runs.proofs.Chases.{chase_of, freed_names, placed_split, head_is, turns_split, row_inside}
use Rattle.place_words.proofs.Cursors.{own_cursor}
use Rattle.core_runs.proofs.Evictions.{Hands, evicting}
use Rattle.core_runs.proofs.OwnNest.{evicting_else, weaker, goes_own}
use Rattle.core_runs.proofs.PlainCalls.{goes_weaker}
use Rattle.core_runs.proofs.PlainNests.{allowed_parts}
use Rattle.core_runs.proofs.PlainGoes.{Goes, goes_none, goes_both, goes_keeping, bucket_once, left_of, AreThere, numbers_without, present_in_numbers}
use Rattle.core_runs.proofs.Tied.{under}

pub written_numbers : (shape : Shape) (cpu : ℕ) (side : Side) (key value : List ℕ) (bodies : List Stored) → numbers (map (written_over shape side cpu key value) bodies) ≡ numbers bodies
written_numbers shape cpu side key value [] = refl
written_numbers shape cpu side key value (body ∷ bodies) =
    ap (λ (x : ℕ). x ∷ numbers (map (written_over shape side cpu key value) bodies))
    (elim (Rattle.place_words.specs.Bodies.has_key key body) as (λ b. (if b then record body { values = Rattle.map_types.specs.Sides.values_written shape side cpu body.values value } else body).element ≡ body.element) [
      | true ↦ refl
      | false ↦ refl
    ])
    ∙ ap (λ (l : List ℕ). body.element ∷ l) (written_numbers shape cpu side key value bodies)

pub record OnOwn (content : Content) (Fact : ListSet → Type 0) : Type 0 where
  pub set : ListSet
  pub lies : content ≡ in_own set
  pub fact : Fact set

pub on_own : (content : Content) (Fact : ListSet → Type 0) → MatchOption (own_in content) ⊥ Fact → OnOwn content Fact
on_own (in_bucket bodies) Fact may = absurd may
on_own (on_freelist stack) Fact may = absurd may
on_own (in_locals lists) Fact may = absurd may
on_own (in_global set) Fact may = absurd may
on_own (in_own set) Fact may = record { set = set; lies = refl; fact = may }

-- no turn of these found an element in a hand
abbrev pub AreFine : List Turn → Type 0
AreFine turns = All (λ (turn : Turn). FindsNoneHeld turn.part) turns

pub last_fine : (xs : List Turn) (x : Turn) → AreFine (xs ++ x ∷ []) → FindsNoneHeld x.part
last_fine [] x fine = All-head (λ (t : Turn). FindsNoneHeld t.part) x [] fine
last_fine (y ∷ xs) x fine = last_fine xs x (All-tail (λ (t : Turn). FindsNoneHeld t.part) y (xs ++ x ∷ []) fine)

own_rows : (set : ListSet) (content : Content) → content ≡ in_own set → elements_of (listed_rows content) ≡ elements_of set.lists.active ++ elements_of set.lists.inactive
own_rows set content is = ap (λ (c : Content). elements_of (listed_rows c)) is ∙ map-append (λ (row : Rattle.map_types.specs.declared.row.Row.Row). row.element) set.lists.active set.lists.inactive

-- An element is taken from the own set.
pub own_takes : {shape : Shape} (bounds : HasBounds shape) {cpu : ℕ} (within : cpu < shape.cpus) → IsTrue (is_lock shape (CpuLru cpu)) → (number hash : ℕ) (got : Option ℕ) (turns : List Turn) (state : State) (Known : ℕ → ℕ → Type 0)
    → TakesOwn shape cpu hash got (placed shape cpu number turns state) → AreFine turns → AreAllowed shape cpu (lies_in shape state) turns
    → Goes shape cpu (lies_in shape state) Known turns (Hands cpu (option_to_list got) Known)
own_takes {shape = shape} bounds {cpu = cpu} within is number hash got turns state Known takes fine allowed =
    let part : OwnPart = own.Turn hash takes.active takes.inactive takes.shrink got in
    let lock : DomainId = CpuLru cpu in
    let probing : List TurnAt = takes.chased.probing in
    let last : TurnAt = takes.chased.last in
    let split = placed_split shape cpu number turns state probing (last ∷ []) takes.chased.turns_are in
    let passed : State = all_turned shape cpu number (turns_of probing) state in
    let at_last : last ≡ (record { turn = last.turn; earlier = passed.logs last.turn.lock }) = head_is last (record { turn = last.turn; earlier = passed.logs last.turn.lock }) [] [] split.second in
    let turns_are : turns ≡ turns_of probing ++ on_lock lock (parts.Own part) ∷ [] =
    sym (placed_turns shape cpu number turns state) ∙ ap turns_of takes.chased.turns_are ∙ turns_split probing (last ∷ []) ∙ ap (λ (t : Turn). turns_of probing ++ t ∷ []) takes.chased.last_is in
    let fine_last : FindsNoneHeld (parts.Own part) = last_fine (turns_of probing) (on_lock lock (parts.Own part)) (subst AreFine turns_are fine) in
    let chase = chase_of shape bounds (listed_rows (found shape last)) (Rattle.place_words.specs.Takings.shrink_probes takes.shrink) (turns_of probing) fine_last takes.chased.chase in
    let es : List (ℕ × ℕ) = chase.es in
    let all : turns ≡ evicting es ++ on_lock lock (parts.Own part) ∷ [] = turns_are ∙ ap (λ (l : List Turn). l ++ on_lock lock (parts.Own part) ∷ []) chase.turns_are in
    let both = allowed_parts shape cpu (lies_in shape state) (evicting es) (on_lock lock (parts.Own part) ∷ []) (subst (AreAllowed shape cpu (lies_in shape state)) all allowed) in
    let by_what_lies : OnOwn (after_turns shape cpu (lies_in shape state) (evicting es) lock) (AllowsOnOwn part) → Goes shape cpu (lies_in shape state) Known turns (Hands cpu (option_to_list got) Known) = λ lies_then.
    let lies : lies_in shape state lock ≡ in_own lies_then.set = sym (evicting_else shape cpu lock (λ bucket. refl) es (lies_in shape state)) ∙ lies_then.lies in
    let found_is : found shape last ≡ in_own lies_then.set =
    ap (found shape) at_last ∙ ap (λ (t : Turn). lies_in shape passed t.lock) takes.chased.last_is
    ∙ ap (λ (c : DomainId → Content). c lock) (lies_after_all shape cpu number (turns_of probing) state)
    ∙ ap (λ (l : List Turn). after_turns shape cpu (lies_in shape state) l lock) chase.turns_are ∙ lies_then.lies in
    record {
      run = λ s n call later tied.
          let core_is : lists_in (lies_in shape state lock) ≡ set_lists lies_then.set = ap lists_in lies in
          let inside : HasCursorInside (set_lists lies_then.set) = subst HasCursorInside core_is (subst HasCursorInside (under bounds within tied lock is) (tied.placed.placed.cursors (lock_number shape lock))) in
          let goes = goes_own bounds within is (lies_in shape state) Known es hash takes.active takes.inactive takes.shrink got (record {
            set = lies_then.set;
            lies = lies;
            buckets = chase.buckets;
            evictions = both.0;
            allowed = lies_then.fact;
            freed = freed_names takes.shrink fine_last ∙ sym chase.names_are;
            listed = λ x there. subst (λ (l : List ℕ). IsIn x l) {y = elements_of lies_then.set.lists.active ++ elements_of lies_then.set.lists.inactive} (own_rows lies_then.set (found shape last) found_is) (chase.listed x there);
            cursor = own_cursor part lies_then.set inside;
          }) in
          (subst (λ (l : List Turn). Goes shape cpu (lies_in shape state) Known l (Hands cpu (option_to_list got) Known)) (sym all) goes).run s n call later tied;
    } in
    by_what_lies (on_own (after_turns shape cpu (lies_in shape state) (evicting es) lock) (AllowsOnOwn part) both.1.0)

-- What was taken is listed on the own set then.
pub own_listed : {shape : Shape} (bounds : HasBounds shape) {cpu : ℕ} (number hash e : ℕ) (turns : List Turn) (state : State) → IsTrue (is_lock shape (CpuLru cpu))
    → TakesOwn shape cpu hash (Some e) (placed shape cpu number turns state) → AreAllowed shape cpu (lies_in shape state) turns → IsListed shape (after_turns shape cpu (lies_in shape state) turns) e
unfolding own_after
own_listed {shape = shape} bounds {cpu = cpu} number hash e turns state is takes allowed =
    let part : OwnPart = own.Turn hash takes.active takes.inactive takes.shrink (Some e) in
    let lock : DomainId = CpuLru cpu in
    let before : List Turn = turns_of takes.chased.probing in
    let turns_are : turns ≡ before ++ on_lock lock (parts.Own part) ∷ [] =
    sym (placed_turns shape cpu number turns state) ∙ ap turns_of takes.chased.turns_are ∙ turns_split takes.chased.probing (takes.chased.last ∷ []) ∙ ap (λ (t : Turn). before ++ t ∷ []) takes.chased.last_is in
    let both = allowed_parts shape cpu (lies_in shape state) before (on_lock lock (parts.Own part) ∷ []) (subst (AreAllowed shape cpu (lies_in shape state)) turns_are allowed) in
    let passed = on_own (after_turns shape cpu (lies_in shape state) before lock) (AllowsOnOwn part) both.1.0 in
    let after : after_turns shape cpu (lies_in shape state) turns lock ≡ in_own (own_after part passed.set) =
    ap (λ (l : List Turn). after_turns shape cpu (lies_in shape state) l lock) turns_are ∙ ap (λ (c : DomainId → Content). c lock) (after_both shape cpu (lies_in shape state) before (on_lock lock (parts.Own part) ∷ []))
    ∙ turned_here shape cpu (after_turns shape cpu (lies_in shape state) before) (on_lock lock (parts.Own part)) lock (same_lock lock) ∙ ap (content_after shape cpu (parts.Own part)) passed.lies in
    record {
      lock = lock;
      is = is;
      list = refl;
      inside = subst (λ (c : Content). IsIn e (rows (lists_in c))) (sym after)
          (let sum = times_append e (set_lists (own_after part passed.set)).first (set_lists (own_after part passed.set)).second in
          let here = times_cons_same e (elements_of (Rattle.place_words.specs.Sets.shrunk_into_free takes.shrink (Rattle.place_words.specs.Sets.rotated_set Rattle.place_words.specs.Sets.own_scans takes.active takes.inactive passed.set)).lists.inactive) in omega (arith, sum, here));
    }

-- nothing is known to be in a hand
abbrev pub Nobody : ℕ → ℕ → Type 0
Nobody c x = ⊥

module _ {shape : Shape} (bounds : HasBounds shape) (lru : is_lru shape.kind ≡ true) (apart : shape.common ≡ false) {cpu : ℕ} (within : cpu < shape.cpus) where
  own_there : IsTrue (is_lock shape (CpuLru cpu))
  own_there = rw (lru, apart, lt-ltb cpu shape.cpus within) refl

  -- An element of the hand is freed.
  pub own_frees : (contents : DomainId → Content) (e : ℕ) (hand : List ℕ) → times e hand ≡ 0 → Allows shape cpu (parts.Own (own.Push e)) (contents (CpuLru (set_of shape e)))
      → Goes shape cpu contents (Hands cpu (e ∷ hand) Nobody) (on_lock (CpuLru (set_of shape e)) (parts.Own (own.Push e)) ∷ []) (Hands cpu hand Nobody)
  own_frees contents e hand gone allowed = record {
    run = λ s n call later tied.
        let passed = on_own (contents (CpuLru (set_of shape e))) (AllowsOnOwn (own.Push e)) allowed in
        let in_hand = tied.known cpu e (inl (let here = times_cons_same e hand in omega (arith, here), refl)) in
        let whole = each_in_one_place shape s tied.placed in
        let is : IsTrue (is_lock shape (CpuLru (set_of shape e))) = (whole.home_there e (CpuLru (set_of shape e)) in_hand.0 (whole.own lru apart e in_hand.0)).0 in
        (goes_push_own bounds within contents Nobody e hand (set_of shape e) passed.set is passed.lies passed.fact (listed_inside e passed.set passed.fact) gone (λ c x none. absurd none)).run s n call later tied;
  }
    where
      listed_inside : (e : ℕ) (set : ListSet) → is_listed e set.lists ≡ true → IsIn e (rows (set_lists set))
      listed_inside e set is =
          let sum = times_append e (elements_of set.lists.active) (elements_of set.lists.inactive) in
          ⊎_elim
          (λ (active : Rattle.place_words.specs.Sets.has_row e set.lists.active ≡ true). let inside = row_inside e set.lists.active active in omega (arith, sum, inside))
          (λ (no : Rattle.place_words.specs.Sets.has_row e set.lists.active ≡ false). let inside = row_inside e set.lists.inactive (subst (λ (b : Bool). (b || Rattle.place_words.specs.Sets.has_row e set.lists.inactive) ≡ true) no is) in omega (arith, sum, inside))
          (cases_Bool (Rattle.place_words.specs.Sets.has_row e set.lists.active))

  second : (A B : Type 0) (b : Bool) → b ≡ false → Rattle.std.specs.Prelude.MatchBool b A B → B
  second A B true is it = absurd cc
  second A B false is it = it

  -- what is freed, where there is something
  own_frees_one : (contents : DomainId → Content) (gone : Option ℕ) (freeing : List TurnAt) → FreesOne shape gone freeing → AreAllowed shape cpu contents (turns_of freeing)
      → Goes shape cpu contents (Hands cpu (option_to_list gone) Nobody) (turns_of freeing) Nobody
  own_frees_one contents None freeing none allowed =
      subst (λ (l : List TurnAt). Goes shape cpu contents (Hands cpu [] Nobody) (turns_of l) Nobody) (sym none) (goes_weaker contents (Hands cpu [] Nobody) (Hands cpu [] Nobody) Nobody [] (λ c x none. absurd none) (goes_none contents (Hands cpu [] Nobody)))
  own_frees_one contents (Some e) freeing frees allowed =
      let are : turns_of freeing ≡ on_lock (CpuLru (set_of shape e)) (parts.Own (own.Push e)) ∷ [] = second _ _ shape.common apart frees in
      subst (λ (l : List Turn). AreAllowed shape cpu contents l → Goes shape cpu contents (Hands cpu (e ∷ []) Nobody) l Nobody) (sym are)
      (λ may. goes_weaker contents (Hands cpu (e ∷ []) Nobody) (Hands cpu [] Nobody) Nobody _ (λ c x none. absurd none) (own_frees contents e [] refl may.0)) allowed

  bucket_there : (key : List ℕ) → bucket_of_key shape key < shape.buckets
  bucket_there key = bucket_number-lt (Rattle.key_hash.specs.Jhash.hash key shape.seed) shape.buckets bounds.buckets_power

  -- The bucket's turn of an update to which an element was offered leaves over what is freed.
  offer_goes : (contents : DomainId → Content) (side : Side) (flags : ℕ) (key value : List ℕ) (e : ℕ) (put : Put) → MayPut shape e put → IsListed shape contents e → Allows shape cpu (parts.Bucket (Update side flags key value (Some e) put)) (contents (Bucket (bucket_of_key shape key)))
      → Goes shape cpu contents (Hands cpu (e ∷ []) Nobody) (on_bucket_of shape key (Update side flags key value (Some e) put) ∷ []) (Hands cpu (option_to_list (left_over e put)) Nobody)
  unfolding bucket_after
  offer_goes contents side flags key value e (puts.Added added) may listed allowed =
      subst (λ (x : ℕ). Allows shape cpu (parts.Bucket (Update side flags key value (Some e) (puts.Added x))) (contents (Bucket (bucket_of_key shape key))) → Goes shape cpu contents (Hands cpu (e ∷ []) Nobody) (on_bucket_of shape key (Update side flags key value (Some e) (puts.Added x)) ∷ []) (Hands cpu [] Nobody)) (sym may)
      (λ can. goes_offer_added bounds lru within contents Nobody (bucket_of_key shape key) side flags key value (Some e) e [] (bucket_there key) can listed refl (λ c x none. absurd none)) allowed
  offer_goes contents side flags key value e (puts.Replaced new old) may listed allowed =
      subst (λ (x : ℕ). Allows shape cpu (parts.Bucket (Update side flags key value (Some e) (puts.Replaced x old))) (contents (Bucket (bucket_of_key shape key))) → Goes shape cpu contents (Hands cpu (e ∷ []) Nobody) (on_bucket_of shape key (Update side flags key value (Some e) (puts.Replaced x old)) ∷ []) (Hands cpu (old ∷ []) Nobody)) (sym may.0)
      (λ can. goes_offer_replaced bounds lru within contents Nobody (bucket_of_key shape key) side flags key value (Some e) e old [] (bucket_there key) can listed refl (λ c x none. absurd none)) allowed
  offer_goes contents side flags key value e (puts.Written written) may listed allowed =
      goes_keeping bounds within contents (Hands cpu (e ∷ []) Nobody) (bucket_of_key shape key) (Update side flags key value (Some e) (puts.Written written)) (bucket_there key) refl refl refl allowed (λ bodies _. written_numbers shape cpu side key value bodies)
  offer_goes contents side flags key value e puts.Exists may listed allowed =
      goes_keeping bounds within contents (Hands cpu (e ∷ []) Nobody) (bucket_of_key shape key) (Update side flags key value (Some e) puts.Exists) (bucket_there key) refl refl refl allowed (λ bodies _. refl)
  offer_goes contents side flags key value e puts.Absent may listed allowed =
      goes_keeping bounds within contents (Hands cpu (e ∷ []) Nobody) (bucket_of_key shape key) (Update side flags key value (Some e) puts.Absent) (bucket_there key) refl refl refl allowed (λ bodies _. refl)
  offer_goes contents side flags key value e puts.Full may listed allowed = absurd may

  pub fine_parts : (xs ys : List Turn) → AreFine (xs ++ ys) → AreFine xs × AreFine ys
  fine_parts [] ys fine = (Rattle.std.proofs.lemmas.List.Elements.All-nil (λ (t : Turn). FindsNoneHeld t.part), fine)
  fine_parts (x ∷ xs) ys fine =
      let rest = fine_parts xs ys (All-tail (λ (t : Turn). FindsNoneHeld t.part) x (xs ++ ys) fine) in
      (Rattle.std.proofs.lemmas.List.Elements.All-cons (λ (t : Turn). FindsNoneHeld t.part) x xs (All-head (λ (t : Turn). FindsNoneHeld t.part) x (xs ++ ys) fine) rest.0, rest.1)

  -- An update that takes an element first
  offered_goes : (number : ℕ) (side : Side) (flags : ℕ) (key value : List ℕ) (turns : List Turn) (state : State) (reply : Reply) → IsOfferTrace shape cpu side flags key value (placed shape cpu number turns state) reply → AreFine turns → AreAllowed shape cpu (lies_in shape state) turns
      → Goes shape cpu (lies_in shape state) Nobody turns Nobody
  offered_goes number side flags key value turns state reply trace fine allowed =
      let contents : DomainId → Content = lies_in shape state in
      let split = placed_split shape cpu number turns state trace.taking trace.rest trace.turns_are in
      let xs : List Turn = turns_of trace.taking in
      let all : turns ≡ xs ++ turns_of trace.rest = sym (placed_turns shape cpu number turns state) ∙ ap turns_of trace.turns_are ∙ turns_split trace.taking trace.rest in
      let fines = fine_parts xs (turns_of trace.rest) (subst AreFine all fine) in
      let may = allowed_parts shape cpu contents xs (turns_of trace.rest) (subst (AreAllowed shape cpu contents) all allowed) in
      subst (λ (l : List Turn). Goes shape cpu contents Nobody l Nobody) (sym all)
      (go trace.got xs (turns_of trace.rest) trace.rest refl (subst (λ (l : List TurnAt). TakesOwn shape cpu (Rattle.key_hash.specs.Jhash.hash key shape.seed) trace.got l) split.first (second _ _ shape.common apart trace.takes)) fines.0 may trace.offers)
    where
      go : (got : Option ℕ) (xs ys : List Turn) (rest : List TurnAt) → turns_of rest ≡ ys → TakesOwn shape cpu (Rattle.key_hash.specs.Jhash.hash key shape.seed) got (placed shape cpu number xs state) → AreFine xs
          → AreAllowed shape cpu (lies_in shape state) xs × AreAllowed shape cpu (after_turns shape cpu (lies_in shape state) xs) ys
          → MatchOption got ((rest ≡ []) × (reply ≡ Rattle.map_types.specs.declared.reply.Reply.TheVariants.Refused Rattle.map_types.specs.declared.refusal.Errno.TheVariants.Enomem)) (λ e. OffersOne shape side flags key value e rest reply)
          → Goes shape cpu (lies_in shape state) Nobody (xs ++ ys) Nobody
      go None xs ys rest is takes fine may offers =
          let none : ys ≡ [] = sym is ∙ ap turns_of offers.0 in
          goes_both (lies_in shape state) Nobody (Hands cpu [] Nobody) Nobody xs ys (own_takes bounds within own_there number (Rattle.key_hash.specs.Jhash.hash key shape.seed) None xs state Nobody takes fine may.0)
          (subst (λ (l : List Turn). Goes shape cpu (after_turns shape cpu (lies_in shape state) xs) (Hands cpu [] Nobody) l Nobody) (sym none) (goes_weaker (after_turns shape cpu (lies_in shape state) xs) (Hands cpu [] Nobody) (Hands cpu [] Nobody) Nobody [] (λ c x none. absurd none) (goes_none (after_turns shape cpu (lies_in shape state) xs) (Hands cpu [] Nobody))))
      go (Some e) xs ys rest is takes fine may offers =
          let then_contents : DomainId → Content = after_turns shape cpu (lies_in shape state) xs in
          let turn : Turn = on_bucket_of shape key (Update side flags key value (Some e) offers.put) in
          let are : ys ≡ turn ∷ turns_of offers.freeing = sym is ∙ ap turns_of offers.turns_are ∙ ap (λ (t : Turn). t ∷ turns_of offers.freeing) offers.bucket_is in
          let can = subst (AreAllowed shape cpu then_contents) are may.1 in
          goes_both (lies_in shape state) Nobody (Hands cpu (e ∷ []) Nobody) Nobody xs ys (own_takes bounds within own_there number (Rattle.key_hash.specs.Jhash.hash key shape.seed) (Some e) xs state Nobody takes fine may.0)
          (subst (λ (l : List Turn). Goes shape cpu then_contents (Hands cpu (e ∷ []) Nobody) l Nobody) (sym are)
          (goes_both then_contents (Hands cpu (e ∷ []) Nobody) (Hands cpu (option_to_list (left_over e offers.put)) Nobody) Nobody (turn ∷ []) (turns_of offers.freeing)
          (offer_goes then_contents side flags key value e offers.put offers.may_put (own_listed bounds number (Rattle.key_hash.specs.Jhash.hash key shape.seed) e xs state own_there takes may.0) can.0)
          (own_frees_one (after_turn shape cpu then_contents turn) (left_over e offers.put) offers.freeing offers.frees can.1)))

  -- What a delete or a take took out is freed.
  gone_goes : (contents : DomainId → Content) (key : List ℕ) (part : Rattle.place_words.specs.declared.bucket_part.BucketPart.BucketPart) (gone : Option ℕ) (freeing : List TurnAt) → is_inner (parts.Bucket part) ≡ false
      → part_steps shape cpu (Bucket (bucket_of_key shape key)) None (parts.Bucket part) ≡ map (λ e. Rattle.place_words.specs.declared.step.Step.TheVariants.Detach cpu e (bucket_of_key shape key)) (option_to_list gone) → seen_by (parts.Bucket part) ≡ []
      → ((bodies : List Stored) → AllowsInBucket shape cpu part bodies → ((x : ℕ) → times x (numbers bodies) ≤ 1) → AreThere (option_to_list gone) (numbers bodies) × (numbers (bucket_after shape cpu part bodies) ≡ left_of (option_to_list gone) (numbers bodies)))
      → FreesOne shape gone freeing → AreAllowed shape cpu contents (on_bucket_of shape key part ∷ turns_of freeing)
      → Goes shape cpu contents Nobody (on_bucket_of shape key part ∷ turns_of freeing) Nobody
  gone_goes contents key part gone freeing outer steps_are blind takes_out frees allowed = record {
    run = λ s n call later tied.
        let bodies = on_bodies (contents (Bucket (bucket_of_key shape key))) (AllowsInBucket shape cpu part) allowed.0 in
        let once : (x : ℕ) → times x (numbers bodies.bodies) ≤ 1 = λ x. subst (λ (l : Rattle.place_words.specs.declared.step.Lists.Lists). times x l.first ≤ 1) (ap lists_in bodies.lies) (bucket_once bounds within tied (bucket_of_key shape key) x (lt-ltb (bucket_of_key shape key) shape.buckets (bucket_there key))) in
        let out = takes_out bodies.bodies bodies.fact once in
        (goes_both contents Nobody (Hands cpu (option_to_list gone) Nobody) Nobody (on_bucket_of shape key part ∷ []) (turns_of freeing)
        (known_more contents (on_bucket_of shape key part ∷ []) (Hands cpu (option_to_list gone) Nobody)
        (subst (λ (l : List ℕ). Goes shape cpu contents (Hands cpu [] Nobody) (on_bucket_of shape key part ∷ []) (Hands cpu l Nobody)) (gathered_one gone)
        (goes_taking_out bounds within (bucket_of_key shape key) (lt-ltb (bucket_of_key shape key) shape.buckets (bucket_there key)) contents part (option_to_list gone) [] bodies.bodies outer steps_are blind bodies.lies out.0 out.1)))
        (own_frees_one (after_turn shape cpu contents (on_bucket_of shape key part)) gone freeing frees allowed.1)).run s n call later tied;
  }
    where
      gathered_one : (gone : Option ℕ) → gathered (option_to_list gone) [] ≡ option_to_list gone
      gathered_one None = refl
      gathered_one (Some e) = refl

      known_more : (contents : DomainId → Content) (turns : List Turn) (Later : ℕ → ℕ → Type 0) → Goes shape cpu contents (Hands cpu [] Nobody) turns Later → Goes shape cpu contents Nobody turns Later
      known_more contents turns Later goes = record {
        run = λ s n call later tied. goes.run s n call later (weaker (λ c x held. ⊎_elim (λ (mine : IsIn x [] × (c ≡ cpu)). absurd (omega (arith, mine.0))) (λ (none : Nobody c x). none) held) tied);
      }

  gone_numbers : (key : List ℕ) (e : ℕ) (bodies : List Stored) (Fact : Stored → Type 0) → MatchOption (present key bodies) ⊥ (λ (body : Stored). (body.element ≡ e) × Fact body) → ((x : ℕ) → times x (numbers bodies) ≤ 1)
      → AreThere (e ∷ []) (numbers bodies) × (numbers (without_key key bodies) ≡ left_of (e ∷ []) (numbers bodies))
  gone_numbers key e bodies Fact found_there once =
      let it = there (present key bodies) (λ (body : Stored). (body.element ≡ e) × Fact body) found_there in (
        (subst (λ (x : ℕ). IsIn x (numbers bodies)) it.fact.0 (present_in_numbers key bodies it.it it.is), tt),
        sym (numbers_without key bodies it.it it.is (once it.it.element)) ∙ ap (λ (x : ℕ). without x (numbers bodies)) it.fact.0,
      )

  delete_out : (key : List ℕ) (gone : Option ℕ) (bodies : List Stored) → AllowsInBucket shape cpu (Delete key gone) bodies → ((x : ℕ) → times x (numbers bodies) ≤ 1)
      → AreThere (option_to_list gone) (numbers bodies) × (numbers (bucket_after shape cpu (Delete key gone) bodies) ≡ left_of (option_to_list gone) (numbers bodies))
  unfolding AllowsInBucket bucket_after
  delete_out key None bodies may once = (tt, refl)
  delete_out key (Some e) bodies may once = gone_numbers key e bodies (λ _. Unit {0}) (with_unit e (present key bodies) may) once
    where
      with_unit : (e : ℕ) (o : Option Stored) → MatchOption o ⊥ (λ (body : Stored). body.element ≡ e) → MatchOption o ⊥ (λ (body : Stored). (body.element ≡ e) × Unit {0})
      with_unit e None none = none
      with_unit e (Some body) is = (is, tt)

  take_out : (key : List ℕ) (gone : Option (ℕ × List ℕ)) (bodies : List Stored) → AllowsInBucket shape cpu (Take key gone) bodies → ((x : ℕ) → times x (numbers bodies) ≤ 1)
      → AreThere (option_to_list (element_gone gone)) (numbers bodies) × (numbers (bucket_after shape cpu (Take key gone) bodies) ≡ left_of (option_to_list (element_gone gone)) (numbers bodies))
  unfolding AllowsInBucket bucket_after
  take_out key None bodies may once = (tt, refl)
  take_out key (Some got) bodies may once = gone_numbers key got.0 bodies _ may once

  delete_steps : (key : List ℕ) (gone : Option ℕ) → part_steps shape cpu (Bucket (bucket_of_key shape key)) None (parts.Bucket (Delete key gone)) ≡ map (λ e. Rattle.place_words.specs.declared.step.Step.TheVariants.Detach cpu e (bucket_of_key shape key)) (option_to_list gone)
  delete_steps key None = cond-true (is_lru shape.kind) _ _ lru
  delete_steps key (Some e) = cond-true (is_lru shape.kind) _ _ lru

  take_steps : (key : List ℕ) (gone : Option (ℕ × List ℕ)) → part_steps shape cpu (Bucket (bucket_of_key shape key)) None (parts.Bucket (Take key gone)) ≡ map (λ e. Rattle.place_words.specs.declared.step.Step.TheVariants.Detach cpu e (bucket_of_key shape key)) (option_to_list (element_gone gone))
  take_steps key None = cond-true (is_lru shape.kind) _ _ lru
  take_steps key (Some got) = cond-true (is_lru shape.kind) _ _ lru

  keeps : (state : State) (key : List ℕ) (part : Rattle.place_words.specs.declared.bucket_part.BucketPart.BucketPart) → is_inner (parts.Bucket part) ≡ false → part_steps shape cpu (Bucket (bucket_of_key shape key)) None (parts.Bucket part) ≡ [] → seen_by (parts.Bucket part) ≡ []
      → ((bodies : List Stored) → AllowsInBucket shape cpu part bodies → numbers (bucket_after shape cpu part bodies) ≡ numbers bodies)
      → Allows shape cpu (parts.Bucket part) (lies_in shape state (Bucket (bucket_of_key shape key))) → Goes shape cpu (lies_in shape state) Nobody (on_bucket_of shape key part ∷ []) Nobody
  keeps state key part outer quiet blind same may = goes_keeping bounds within (lies_in shape state) Nobody (bucket_of_key shape key) part (bucket_there key) outer quiet blind may same

  -- an update that takes nothing
  alone_goes : (side : Side) (flags : ℕ) (key value : List ℕ) (put : Put) (state : State) → MayPutAlone put → AreAllowed shape cpu (lies_in shape state) (on_bucket_of shape key (Update side flags key value None put) ∷ []) → Goes shape cpu (lies_in shape state) Nobody (on_bucket_of shape key (Update side flags key value None put) ∷ []) Nobody
  unfolding bucket_after
  alone_goes side flags key value (puts.Added e) state may allowed = absurd may
  alone_goes side flags key value (puts.Replaced new old) state may allowed = absurd may
  alone_goes side flags key value (puts.Written e) state may allowed = keeps state key (Update side flags key value None (puts.Written e)) refl refl refl (λ bodies _. written_numbers shape cpu side key value bodies) allowed.0
  alone_goes side flags key value puts.Exists state may allowed = absurd may
  alone_goes side flags key value puts.Absent state may allowed = keeps state key (Update side flags key value None puts.Absent) refl refl refl (λ bodies _. refl) allowed.0
  alone_goes side flags key value puts.Full state may allowed = absurd may

  update_goes : (number : ℕ) (side : Side) (flags : ℕ) (key value : List ℕ) (turns : List Turn) (state : State) (reply : Reply) (alone : Bool)
      → MatchBool alone (IsWriteTrace shape side flags key value (placed shape cpu number turns state) reply) (IsOfferTrace shape cpu side flags key value (placed shape cpu number turns state) reply)
      → AreFine turns → AreAllowed shape cpu (lies_in shape state) turns → Goes shape cpu (lies_in shape state) Nobody turns Nobody
  update_goes number side flags key value turns state reply true trace fine allowed =
      let are : turns ≡ on_bucket_of shape key (Update side flags key value None trace.put) ∷ [] = sym (placed_turns shape cpu number turns state) ∙ trace.turns_are in
      subst (λ (l : List Turn). AreAllowed shape cpu (lies_in shape state) l → Goes shape cpu (lies_in shape state) Nobody l Nobody) (sym are) (alone_goes side flags key value trace.put state trace.may_put) allowed
  update_goes number side flags key value turns state reply false trace fine allowed = offered_goes number side flags key value turns state reply trace fine allowed

  -- every call on a key
  pub own_goes : (number : ℕ) (verb : Verb) (turns : List Turn) (state : State) (reply : Reply) → IsEvictingTrace shape cpu verb (placed shape cpu number turns state) reply → AreFine turns → AreAllowed shape cpu (lies_in shape state) turns
      → Goes shape cpu (lies_in shape state) Nobody turns Nobody
  unfolding bucket_after
  own_goes number (verbs.Lookup side key) turns state reply trace fine allowed =
      let are : turns ≡ on_bucket_of shape key (Lookup side key trace.got) ∷ [] = sym (placed_turns shape cpu number turns state) ∙ trace.turns_are in
      subst (λ (l : List Turn). AreAllowed shape cpu (lies_in shape state) l → Goes shape cpu (lies_in shape state) Nobody l Nobody) (sym are)
      (λ may. keeps state key (Lookup side key trace.got) refl refl refl (λ bodies _. refl) may.0) allowed
  own_goes number (verbs.Update side flags key value) turns state reply trace fine allowed =
      ⊎_elim
      (λ refused. let none : turns ≡ [] = sym (placed_turns shape cpu number turns state) ∙ ap turns_of refused.1 in subst (λ (l : List Turn). Goes shape cpu (lies_in shape state) Nobody l Nobody) (sym none) (goes_none (lies_in shape state) Nobody))
      (λ done. update_goes number side flags key value turns state reply (Rattle.map_types.specs.Kind.is_percpu shape.kind && eqb flags 2) done.1 fine allowed)
      trace
  own_goes number (verbs.Delete key) turns state reply trace fine allowed =
      let are : turns ≡ on_bucket_of shape key (Delete key trace.gone) ∷ turns_of trace.freeing = sym (placed_turns shape cpu number turns state) ∙ ap turns_of trace.turns_are ∙ ap (λ (t : Turn). t ∷ turns_of trace.freeing) trace.bucket_is in
      subst (λ (l : List Turn). AreAllowed shape cpu (lies_in shape state) l → Goes shape cpu (lies_in shape state) Nobody l Nobody) (sym are)
      (λ may. gone_goes (lies_in shape state) key (Delete key trace.gone) trace.gone trace.freeing refl (delete_steps key trace.gone) refl (delete_out key trace.gone) trace.frees may) allowed
  own_goes number (verbs.Take key) turns state reply trace fine allowed =
      let are : turns ≡ on_bucket_of shape key (Take key trace.gone) ∷ turns_of trace.freeing = sym (placed_turns shape cpu number turns state) ∙ ap turns_of trace.turns_are ∙ ap (λ (t : Turn). t ∷ turns_of trace.freeing) trace.bucket_is in
      subst (λ (l : List Turn). AreAllowed shape cpu (lies_in shape state) l → Goes shape cpu (lies_in shape state) Nobody l Nobody) (sym are)
      (λ may. gone_goes (lies_in shape state) key (Take key trace.gone) (element_gone trace.gone) trace.freeing refl (take_steps key trace.gone) refl (take_out key trace.gone) trace.frees may) allowed
  own_goes number (verbs.Next key) turns state reply trace fine allowed = absurd trace
  own_goes number (verbs.BatchRead remove count start flags) turns state reply trace fine allowed = absurd trace
  own_goes number (verbs.BatchUpdate flags pairs) turns state reply trace fine allowed = absurd trace
  own_goes number (verbs.BatchDelete flags keys) turns state reply trace fine allowed = absurd trace
  own_goes number (verbs.Each flags stop) turns state reply trace fine allowed = absurd trace
