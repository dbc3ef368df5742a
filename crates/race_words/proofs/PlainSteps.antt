-- Turns of a map that doesn't evict as steps of the core: each may be done where its locks are held, what it takes out is there, and what
-- it puts is in the CPU's hand; and what lies in the map and in hands after it is known.
use Rattle.std.proofs.Common.{◌≡◌, ◌≢◌, ◌⊎◌, inl, inr, ℕ, ◌+◌, ◌<◌, Bool, true, false, ◌&&◌, ltb, List, [], ◌∷◌, ◌++◌, map, Option, None, Some, refl, ap, ◌∙◌, sym, subst, arith, not}
use Rattle.std.specs.Prelude.{IsTrue}
use Rattle.std.proofs.lemmas.Bool.{and_parts, true≢false}
use Rattle.map_types.specs.declared.attr.Shape.{Shape}
use Rattle.map_types.specs.declared.kind.DomainId.{DomainId}
use Rattle.map_types.specs.declared.kind.DomainId.TheVariants.{Bucket, Freelist, CpuLru}
use Rattle.map_types.specs.declared.kind.Side.{Side}
use Rattle.map_types.specs.Kind.{is_lru}
use Rattle.map_types.specs.Shape.{HasBounds}
use Rattle.map_types.specs.Stored.{Stored}
use Rattle.map_types.specs.ElementLists.{put, times, IsIn, IsHead}
use Rattle.map_types.proofs.RowLemmas.{times_append, by_test}
use Rattle.place_words.specs.declared.bucket_part.BucketPart.{BucketPart}
use Rattle.place_words.specs.declared.bucket_part.BucketPart.TheVariants.{Lookup, Update, Delete, Take, First, Walk, Evict}
use Rattle.place_words.specs.declared.bucket_part.BucketPart.TheVariants as bucket_parts
use Rattle.place_words.specs.declared.bucket_part.Put.TheVariants as puts
use Rattle.place_words.specs.declared.free_part.FreePart.{FreePart}
use Rattle.place_words.specs.declared.free_part.FreePart.TheVariants.{Pushed, Popped, FoundEmpty}
use Rattle.place_words.specs.declared.history.Part.{Part}
use Rattle.place_words.specs.declared.history.Part.TheVariants as parts
use Rattle.place_words.specs.declared.owner.Owner.{Owner}
use Rattle.place_words.specs.declared.owner.Owner.TheVariants as owners
use Rattle.place_words.specs.declared.step.Lists.{Lists}
use Rattle.place_words.specs.declared.step.Step.{Step}
use Rattle.place_words.specs.declared.step.Step.TheVariants as steps
use Rattle.place_words.specs.Bodies.{numbers, present}
use Rattle.place_words.specs.Buckets.{AllowsInBucket, bucket_after}
use Rattle.place_words.specs.Freelists.{AllowsOnFreelist, without_top, freelist_after}
use Rattle.place_words.specs.Histories.{Content, Allows, in_bucket, on_freelist, content_after}
use Rattle.place_words.specs.Interleaving.{Event, does, bucket_steps, part_steps, seen_by, seen_in, lists_in, AreEnabled, leave_steps}
use Rattle.place_words.specs.Locks.{is_lock, lock_number, lock_named}
use Rattle.place_words.specs.Moves.{taken_from_bucket, brought_to_bucket}
use Rattle.place_words.specs.Openings.{is_free}
use Rattle.place_words.specs.Places.{Placed, has_row, lies_at}
use Rattle.place_words.specs.State.{State, rows, is_bucket}
use Rattle.place_words.specs.Steps.{IsEnabled, after, lists_under, with_row, without_row, with_free, without_free}
use Rattle.place_words.specs.Turns.{on_lock, after_turn}
use Rattle.place_words.proofs.BucketLaws.{bucket_counts, times_more}
use Rattle.place_words.proofs.ElementLemmas.{at_put, put_here, put_else}
use Rattle.place_words.proofs.LockLemmas.{named_by_number, same_lock, other_lock}
use Rattle.place_words.proofs.RowLemmas.{Stands, stands_where, free_is, bucket_is, head_is_in}
use Rattle.place_words.proofs.Settled.{turned_here, turned_elsewhere}
use Rattle.place_words.proofs.Splits.{there}
use Rattle.core_runs.specs.Races.{PaysAt, PaysBucket, PaysFree, PushesInside, left_inside, owed_after, owed_given}
use Rattle.core_runs.specs.Words.{WordsAllow, ListsAllow}
use Rattle.core_runs.proofs.Fits.{Fits, fits_alike, bucket_apart, other_sort, attach_fits, detach_fits, settle_fits, claim_fits, give_list_fits, give_bucket_fits, gives_bucket, gives_same}
use Rattle.core_runs.proofs.PlainGoes.{present_in_numbers}
use Rattle.core_runs.proofs.PlainRuns.{core_lists, on_bodies, on_stack, head_first, without_head, then_alike}
use Rattle.core_runs.proofs.RaceRuns.{bases}
use Rattle.core_runs.proofs.Reduced.{none}
use Rattle.core_runs.proofs.Ties.{with_lists, lists_here, lists_else}
use Rattle.core_runs.proofs.Words.{both_allow}
use Rattle.step_check.proofs.Reaches.{state_after}
use Rattle.race_words.proofs.Hands.{Hand, hand, hand_after, MayHand}

-- Events may be done, and lead to a state of which this holds.
abbrev pub LeadTo : Shape → (State → Type 0) → State → List Event → Type 0
LeadTo shape Then s events = AreEnabled shape s events × Then (state_after shape s events)

pub lead_step : (shape : Shape) (Then : State → Type 0) (s : State) (step : Step) (events : List Event) → IsEnabled shape s step → LeadTo shape Then (after shape s step) events → LeadTo shape Then s (does step ∷ events)
unfolding AreEnabled state_after
lead_step shape Then s step events can rest = ((can, rest.0), rest.1)

pub lead_none : (shape : Shape) (Then : State → Type 0) (s : State) → Then s → LeadTo shape Then s []
unfolding AreEnabled state_after
lead_none shape Then s then = (tt, then)

-- Hands

-- each CPU's spare, and what it has popped, are in its hand, and they aren't one
pub record HandsIn (shape : Shape) (hands : ℕ → Hand) (s : State) : Type 0 where
  pub spares : (c e : ℕ) → (hands c).spare ≡ Some e → (e < shape.elements) × (s.owner e ≡ owners.Hand c)
  pub popped : (c e : ℕ) → (hands c).popped ≡ Some e → (e < shape.elements) × (s.owner e ≡ owners.Hand c)
  pub apart : (c e : ℕ) → (hands c).spare ≡ Some e → (hands c).popped ≡ Some e → ⊥

-- an element is in none of them
pub record Away (hands : ℕ → Hand) (e : ℕ) : Type 0 where
  pub spare : (c : ℕ) → (hands c).spare ≡ Some e → ⊥
  pub popped : (c : ℕ) → (hands c).popped ≡ Some e → ⊥

not_hand : (o : Owner) (c : ℕ) → o ≡ owners.Free ⊎ ((b : ℕ) × (o ≡ owners.Bucket b)) → o ≡ owners.Hand c → ⊥
not_hand o c (inl free) is = absurd (let both : owners.Free ≡ owners.Hand c = sym free ∙ is in cc)
not_hand o c (inr there) is = absurd (let both : owners.Bucket there.0 ≡ owners.Hand c = sym there.1 ∙ is in cc)

one_hand : (c d : ℕ) → owners.Hand c ≡ owners.Hand d → c ≡ d
one_hand c d same = cc

none_some : {A : Type 0} (e : ℕ) → (◌≡◌ {A = Option ℕ} None (Some e)) → A
none_some e same = absurd cc

some_same : (d e : ℕ) → (◌≡◌ {A = Option ℕ} (Some d) (Some e)) → d ≡ e
some_same d e same = cc

module _ {shape : Shape} {hands : ℕ → Hand} {s : State} (held : HandsIn shape hands s) where
  away : (e : ℕ) → s.owner e ≡ owners.Free ⊎ ((b : ℕ) × (s.owner e ≡ owners.Bucket b)) → Away hands e
  away e out = record {
    spare = λ c is. not_hand (s.owner e) c out (held.spares c e is).1;
    popped = λ c is. not_hand (s.owner e) c out (held.popped c e is).1;
  }

  -- another element has another owner
  hands_put : (t : State) (e : ℕ) (o : Owner) → Away hands e → t.owner ≡ put s.owner e o → HandsIn shape hands t
  hands_put t e o gone is = record {
    spares = λ c x at. let was = held.spares c x at in (was.0, ap (λ (f : ℕ → Owner). f x) is ∙ put_else s.owner e o x (λ same. gone.spare c (at ∙ ap Some same)) ∙ was.1);
    popped = λ c x at. let was = held.popped c x at in (was.0, ap (λ (f : ℕ → Owner). f x) is ∙ put_else s.owner e o x (λ same. gone.popped c (at ∙ ap Some same)) ∙ was.1);
    apart = held.apart;
  }

  pub hands_same : (t : State) → t.owner ≡ s.owner → HandsIn shape hands t
  hands_same t is = record {
    spares = λ c x at. let was = held.spares c x at in (was.0, ap (λ (f : ℕ → Owner). f x) is ∙ was.1);
    popped = λ c x at. let was = held.popped c x at in (was.0, ap (λ (f : ℕ → Owner). f x) is ∙ was.1);
    apart = held.apart;
  }

  hands_alike : (other : ℕ → Hand) → ((c : ℕ) → other c ≡ hands c) → HandsIn shape other s
  hands_alike other same = record {
    spares = λ c x at. held.spares c x (ap (λ (h : Hand). h.spare) (sym (same c)) ∙ at);
    popped = λ c x at. held.popped c x (ap (λ (h : Hand). h.popped) (sym (same c)) ∙ at);
    apart = λ c x one two. held.apart c x (ap (λ (h : Hand). h.spare) (sym (same c)) ∙ one) (ap (λ (h : Hand). h.popped) (sym (same c)) ∙ two);
  }

  -- one CPU's hand changes
  hand_put : (cpu : ℕ) (h : Hand) → ((e : ℕ) → h.spare ≡ Some e → (e < shape.elements) × (s.owner e ≡ owners.Hand cpu)) → ((e : ℕ) → h.popped ≡ Some e → (e < shape.elements) × (s.owner e ≡ owners.Hand cpu))
      → ((e : ℕ) → h.spare ≡ Some e → h.popped ≡ Some e → ⊥) → HandsIn shape (put hands cpu h) s
  hand_put cpu h spare popped apart = record {
    spares = λ c x. at_put hands cpu h (λ d (g : Hand). g.spare ≡ Some x → (x < shape.elements) × (s.owner x ≡ owners.Hand d)) c (λ is. spare x is) (λ _ is. held.spares c x is);
    popped = λ c x. at_put hands cpu h (λ d (g : Hand). g.popped ≡ Some x → (x < shape.elements) × (s.owner x ≡ owners.Hand d)) c (λ is. popped x is) (λ _ is. held.popped c x is);
    apart = λ c x. at_put hands cpu h (λ d (g : Hand). g.spare ≡ Some x → g.popped ≡ Some x → ⊥) c (λ one two. apart x one two) (λ _ one two. held.apart c x one two);
  }

  -- without what it popped, or without its spare
  without_popped : (cpu : ℕ) → HandsIn shape (put hands cpu (hand (hands cpu).spare None)) s
  without_popped cpu = hand_put cpu (hand (hands cpu).spare None) (λ e is. held.spares cpu e is) (λ e is. none_some e is) (λ e one two. none_some e two)

  without_spare : (cpu : ℕ) → HandsIn shape (put hands cpu (hand None (hands cpu).popped)) s
  without_spare cpu = hand_put cpu (hand None (hands cpu).popped) (λ e is. none_some e is) (λ e is. held.popped cpu e is) (λ e one two. none_some e one)

  popped_away : (cpu e : ℕ) → (hands cpu).popped ≡ Some e → Away (put hands cpu (hand (hands cpu).spare None)) e
  popped_away cpu e mine = record {
    spare = λ c. at_put hands cpu (hand (hands cpu).spare None) (λ d (g : Hand). g.spare ≡ Some e → ⊥) c (λ is. held.apart cpu e is mine)
        (λ other is. other (one_hand c cpu (sym (held.spares c e is).1 ∙ (held.popped cpu e mine).1)));
    popped = λ c. at_put hands cpu (hand (hands cpu).spare None) (λ d (g : Hand). g.popped ≡ Some e → ⊥) c (λ is. none_some e is)
        (λ other is. other (one_hand c cpu (sym (held.popped c e is).1 ∙ (held.popped cpu e mine).1)));
  }

  spare_away : (cpu e : ℕ) → (hands cpu).spare ≡ Some e → Away (put hands cpu (hand None (hands cpu).popped)) e
  spare_away cpu e mine = record {
    spare = λ c. at_put hands cpu (hand None (hands cpu).popped) (λ d (g : Hand). g.spare ≡ Some e → ⊥) c (λ is. none_some e is)
        (λ other is. other (one_hand c cpu (sym (held.spares c e is).1 ∙ (held.spares cpu e mine).1)));
    popped = λ c. at_put hands cpu (hand None (hands cpu).popped) (λ d (g : Hand). g.popped ≡ Some e → ⊥) c (λ is. held.apart cpu e mine is)
        (λ other is. other (one_hand c cpu (sym (held.popped c e is).1 ∙ (held.spares cpu e mine).1)));
  }

put_twice : (hands : ℕ → Hand) (cpu : ℕ) (g h : Hand) (c : ℕ) → put hands cpu h c ≡ put (put hands cpu g) cpu h c
put_twice hands cpu g h c = by_test c cpu (λ _. put hands cpu h c ≡ put (put hands cpu g) cpu h c)
    (λ same. ap (put hands cpu h) same ∙ put_here hands cpu h ∙ sym (ap (put (put hands cpu g) cpu h) same ∙ put_here (put hands cpu g) cpu h))
    (λ other. put_else hands cpu h c other ∙ sym (put_else (put hands cpu g) cpu h c other ∙ put_else hands cpu g c other))

put_back : (hands : ℕ → Hand) (cpu c : ℕ) → put hands cpu (hands cpu) c ≡ hands c
put_back hands cpu c = by_test c cpu (λ _. put hands cpu (hands cpu) c ≡ hands c) (λ same. ap (put hands cpu (hands cpu)) same ∙ put_here hands cpu (hands cpu) ∙ ap hands (sym same)) (λ other. put_else hands cpu (hands cpu) c other)

-- an element that lies in a bucket, and one that is free
pub in_chain : {shape : Shape} {s : State} → Placed shape s → (b e : ℕ) → IsTrue (is_lock shape (Bucket b)) → IsIn e (lists_under shape s (Bucket b)).first → (e < shape.elements) × (s.owner e ≡ owners.Bucket b)
in_chain {shape} {s} p b e is inside =
    let k : ℕ = lock_number shape (Bucket b) in
    let there : Stands shape.elements e (has_row (is_lru shape.kind) (lock_named shape k) (s.owner e) (lies_at k (p.place e))) =
    stands_where shape.elements e (times e (rows (s.lists k))) (has_row (is_lru shape.kind) (lock_named shape k) (s.owner e) (lies_at k (p.place e))) (p.placed.rows k e) (omega (arith, inside, times_append e (s.lists k).first (s.lists k).second)) in
    (there.real, bucket_is b (s.owner e) (subst (λ (l : DomainId). has_row (is_lru shape.kind) l (s.owner e) (lies_at k (p.place e)) ≡ true) (named_by_number shape (Bucket b) is) there.stands))

pub is_free_there : {shape : Shape} {s : State} → Placed shape s → (lock : DomainId) (e : ℕ) → IsIn e (lists_under shape s lock).free → (e < shape.elements) × (s.owner e ≡ owners.Free)
is_free_there {shape} {s} p lock e inside =
    let k : ℕ = lock_number shape lock in
    let there : Stands shape.elements e (is_free (s.owner e) && lies_at k (p.place e)) = stands_where shape.elements e (times e (s.lists k).free) (is_free (s.owner e) && lies_at k (p.place e)) (p.placed.free k e) inside in
    (there.real, free_is (s.owner e) (and_parts (is_free (s.owner e)) _ there.stands).0)

module _ {shape : Shape} (bounds : HasBounds shape) (plain : is_lru shape.kind ≡ false) {cpu : ℕ} (within : cpu < shape.cpus) where
  evicts_not : {A : Type 0} → IsTrue (is_lru shape.kind) → A
  evicts_not lru = absurd (true≢false (sym lru ∙ plain))

  module _ (contents : DomainId → Content) (owed : ℕ → List ℕ) (hands : ℕ → Hand) where
    abbrev now_of : DomainId → Part → DomainId → Content
    now_of lock part = after_turn shape cpu contents (on_lock lock part)

    -- what is known of the core between turns, and once a turn was made
    abbrev pub Between : State → Type 0
    Between s = Fits shape (bases contents) owed none (core_lists contents) s × HandsIn shape hands s

    abbrev pub Turned : DomainId → Option ℕ → Part → State → Type 0
    Turned lock outer part t = Fits shape (bases (now_of lock part)) (owed_after outer lock part owed) none (core_lists (now_of lock part)) t × HandsIn shape (put hands cpu (hand_after (hands cpu) part)) t

    abbrev pub turn_word : DomainId → Option ℕ → Part → List Event
    turn_word lock outer part = map does (part_steps shape cpu lock outer part) ++ (seen_by part ++ does (steps.Give cpu lock (lists_in (now_of lock part lock))) ∷ [])

    abbrev pub TurnLeads : DomainId → Option ℕ → Part → State → Type 0
    TurnLeads lock outer part s = LeadTo shape (Turned lock outer part) s (turn_word lock outer part)

    elsewhere : (lock other : DomainId) (part : Part) → lock ≢ other → contents other ≡ now_of lock part other
    elsewhere lock other part apart = sym (turned_elsewhere shape cpu contents (on_lock lock part) other (other_lock lock other apart))

    -- A bucket is given back.
    gives : (outer : Option ℕ) (b : ℕ) (part : BucketPart) (bodies : List Stored) (out ins : ℕ → List ℕ) (s : State) → IsTrue (is_lock shape (Bucket b)) → contents (Bucket b) ≡ in_bucket bodies
        → Fits shape (bases contents) out ins (core_lists contents) s → ((c : ℕ) → c ≢ b → out c ≡ owed c) → ((c : ℕ) → c ≢ b → ins c ≡ [])
        → ((e : ℕ) → times e (numbers (bucket_after shape cpu part bodies)) + times e (out b) ≡ times e (numbers bodies) + times e (ins b)) → s.holder (lock_number shape (Bucket b)) ≡ Some cpu
        → HandsIn shape (put hands cpu (hand_after (hands cpu) (parts.Bucket part))) s
        → LeadTo shape (Turned (Bucket b) outer (parts.Bucket part)) s (does (steps.Give cpu (Bucket b) (lists_in (now_of (Bucket b) (parts.Bucket part) (Bucket b)))) ∷ [])
    unfolding WordsAllow ListsAllow
    gives outer b part bodies out ins s is lies fits else_out else_ins counts held hands_in =
        let now : DomainId → Content = now_of (Bucket b) (parts.Bucket part) in
        let new : List ℕ = numbers (bucket_after shape cpu part bodies) in
        let chain : Lists = record { free = []; first = new; second = []; cursor = None } in
        let now_is : lists_in (now (Bucket b)) ≡ chain =
        ap lists_in (turned_here shape cpu contents (on_lock (Bucket b) (parts.Bucket part)) (Bucket b) (same_lock (Bucket b)) ∙ ap (content_after shape cpu (parts.Bucket part)) lies) in
        let can : IsEnabled shape s (steps.Give cpu (Bucket b) chain) =
        both_allow bounds s fits.placed (steps.Give cpu (Bucket b) chain) (record { is_cpu = within; is_lock = is; held = held })
        (gives_bucket fits bounds b new is (λ e. omega (arith, counts e, ap (λ (c : Content). times e (lists_in c).first) lies))) in
        subst (λ (l : Lists). LeadTo shape (Turned (Bucket b) outer (parts.Bucket part)) s (does (steps.Give cpu (Bucket b) l) ∷ [])) (sym now_is)
        (lead_step shape (Turned (Bucket b) outer (parts.Bucket part)) s (steps.Give cpu (Bucket b) chain) [] can
        (lead_none shape (Turned (Bucket b) outer (parts.Bucket part)) (after shape s (steps.Give cpu (Bucket b) chain)) (
          fits_alike (give_bucket_fits fits bounds cpu b chain is can) (bases now) (owed_given (Some b) owed) none (core_lists now)
              (λ c. by_test c b (λ _. put (bases contents) b new c ≡ bases now c)
              (λ same. subst (λ (d : ℕ). put (bases contents) b new d ≡ bases now d) (sym same) (put_here (bases contents) b new ∙ sym (ap (λ (l : Lists). l.first) now_is)))
              (λ apart. put_else (bases contents) b new c apart ∙ ap (λ (k : Content). (lists_in k).first) (elsewhere (Bucket b) (Bucket c) (parts.Bucket part) (bucket_apart b c (λ same. apart (sym same))))))
              (λ c. by_test c b (λ _. put out b [] c ≡ put owed b [] c)
              (λ same. subst (λ (d : ℕ). put out b [] d ≡ put owed b [] d) (sym same) (put_here out b [] ∙ sym (put_here owed b [])))
              (λ apart. put_else out b [] c apart ∙ else_out c apart ∙ sym (put_else owed b [] c apart)))
              (λ c. by_test c b (λ _. put ins b [] c ≡ [])
              (λ same. subst (λ (d : ℕ). put ins b [] d ≡ []) (sym same) (put_here ins b []))
              (λ apart. put_else ins b [] c apart ∙ else_ins c apart))
              (λ lock list. ap lists_in (elsewhere (Bucket b) lock (parts.Bucket part) (other_sort b lock list))),
          hands_same hands_in (after shape s (steps.Give cpu (Bucket b) chain)) refl,
        )))

    -- A turn of a bucket that brings nothing, and whose steps are those inside it
    quiet_leads : (outer : Option ℕ) (b : ℕ) (part : BucketPart) (bodies : List Stored) (s : State) → IsTrue (is_lock shape (Bucket b)) → contents (Bucket b) ≡ in_bucket bodies → AllowsInBucket shape cpu part bodies
        → ((e : ℕ) → times e (owed b) ≡ times e (left_inside (is_lru shape.kind) part)) → s.holder (lock_number shape (Bucket b)) ≡ Some cpu → Between s
        → bucket_steps shape cpu b part ≡ [] → seen_in part ≡ [] → brought_to_bucket part ≡ [] → left_inside false part ≡ taken_from_bucket part → hand_after (hands cpu) (parts.Bucket part) ≡ hands cpu
        → TurnLeads (Bucket b) outer (parts.Bucket part) s
    quiet_leads outer b part bodies s is lies allowed paid held between steps_are blind brought inside same =
        let give : List Event = does (steps.Give cpu (Bucket b) (lists_in (now_of (Bucket b) (parts.Bucket part) (Bucket b)))) ∷ [] in
        subst (λ (l : List Step). LeadTo shape (Turned (Bucket b) outer (parts.Bucket part)) s (map does l ++ (seen_in part ++ give))) (sym steps_are)
        (subst (λ (l : List Event). LeadTo shape (Turned (Bucket b) outer (parts.Bucket part)) s (l ++ give)) (sym blind)
        (gives outer b part bodies owed none s is lies between.0 (λ c apart. refl) (λ c apart. refl)
        (λ e. omega (
          arith,
          bucket_counts shape cpu bodies e part allowed,
          paid e,
          ap (λ (l : Bool). times e (left_inside l part)) plain,
          ap (times e) inside,
          ap (times e) brought,
        ))
        held
        (hands_alike between.1 (put hands cpu (hand_after (hands cpu) (parts.Bucket part))) (λ c. ap (λ (h : Hand). put hands cpu h c) same ∙ put_back hands cpu c))))

    -- of a map that doesn't evict nothing is taken out in the bucket's own turn
    none_left : (b : ℕ) (es : List ℕ) → leave_steps (is_lru shape.kind) cpu b es ≡ []
    none_left b es = ap (λ (l : Bool). leave_steps l cpu b es) plain

    -- An element that the CPU has popped is put.
    added_leads : (outer : Option ℕ) (b : ℕ) (side : Side) (flags : ℕ) (key value : List ℕ) (offer : Option ℕ) (e : ℕ) (bodies : List Stored) (s : State) → IsTrue (is_lock shape (Bucket b)) → contents (Bucket b) ≡ in_bucket bodies
        → AllowsInBucket shape cpu (Update side flags key value offer (puts.Added e)) bodies → ((x : ℕ) → times x (owed b) ≡ 0) → s.holder (lock_number shape (Bucket b)) ≡ Some cpu → (hands cpu).popped ≡ Some e → Between s
        → TurnLeads (Bucket b) outer (parts.Bucket (Update side flags key value offer (puts.Added e))) s
    unfolding WordsAllow ListsAllow
    added_leads outer b side flags key value offer e bodies s is lies allowed paid held mine between =
        let part : BucketPart = Update side flags key value offer (puts.Added e) in
        let has = between.1.popped cpu e mine in
        let give : List Event = does (steps.Give cpu (Bucket b) (lists_in (now_of (Bucket b) (parts.Bucket part) (Bucket b)))) ∷ [] in
        let can : IsEnabled shape s (steps.Attach cpu e b) =
        both_allow bounds s between.0.placed (steps.Attach cpu e b) (record { holds = record { is_cpu = within; is_lock = is; held = held }; real = has.0; in_hand = has.1; not_carried = λ lru. evicts_not lru }) tt in
        lead_step shape (Turned (Bucket b) outer (parts.Bucket part)) s (steps.Attach cpu e b) give can
        (gives outer b part bodies owed (put none b (e ∷ [])) (after shape s (steps.Attach cpu e b)) is lies (attach_fits between.0 bounds cpu e b is can) (λ c apart. refl) (λ c apart. put_else none b (e ∷ []) c apart)
        (λ x. omega (arith, bucket_counts shape cpu bodies x part allowed, paid x, ap (times x) (put_here none b (e ∷ []))))
        held
        (hands_put (without_popped between.1 cpu) (after shape s (steps.Attach cpu e b)) e (owners.Bucket b) (popped_away between.1 cpu e mine) refl))

    -- The CPU's spare replaces another element, which is the spare then.
    replaced_leads : (outer : Option ℕ) (b : ℕ) (side : Side) (flags : ℕ) (key value : List ℕ) (offer : Option ℕ) (new old : ℕ) (bodies : List Stored) (s : State) → IsTrue (is_lock shape (Bucket b)) → contents (Bucket b) ≡ in_bucket bodies
        → AllowsInBucket shape cpu (Update side flags key value offer (puts.Replaced new old)) bodies → ((x : ℕ) → times x (owed b) ≡ 0) → s.holder (lock_number shape (Bucket b)) ≡ Some cpu → (hands cpu).spare ≡ Some new → Between s
        → TurnLeads (Bucket b) outer (parts.Bucket (Update side flags key value offer (puts.Replaced new old))) s
    unfolding WordsAllow ListsAllow AllowsInBucket
    replaced_leads outer b side flags key value offer new old bodies s is lies allowed paid held mine between =
        let part : BucketPart = Update side flags key value offer (puts.Replaced new old) in
        let give : List Event = does (steps.Give cpu (Bucket b) (lists_in (now_of (Bucket b) (parts.Bucket part) (Bucket b)))) ∷ [] in
        let has = between.1.spares cpu new mine in
        let found = there (present key bodies) _ allowed in
        let inside : IsIn old (numbers bodies) = subst (λ (x : ℕ). IsIn x (numbers bodies)) found.fact.0 (present_in_numbers key bodies found.it found.is) in
        let base : times old (bases contents b) ≡ times old (numbers bodies) = ap (λ (c : Content). times old (lists_in c).first) lies in
        let was = in_chain between.0.placed b old is (omega (arith, between.0.chains b is old, paid old, base, inside)) in
        let other : old ≢ new = λ same. not_hand (s.owner old) cpu (inr (b, was.1)) (ap s.owner same ∙ has.1) in
        let can : IsEnabled shape s (steps.Attach cpu new b) =
        both_allow bounds s between.0.placed (steps.Attach cpu new b) (record { holds = record { is_cpu = within; is_lock = is; held = held }; real = has.0; in_hand = has.1; not_carried = λ lru. evicts_not lru }) tt in
        let t : State = after shape s (steps.Attach cpu new b) in
        let fits : Fits shape (bases contents) owed (put none b (new ∷ [])) (core_lists contents) t = attach_fits between.0 bounds cpu new b is can in
        let can_too : IsEnabled shape t (steps.Detach cpu old b) = record {
          holds = record { is_cpu = within; is_lock = is; held = held };
          real = was.0;
          inside = omega (arith, fits.chains b is old, paid old, base, inside);
        } in
        let u : State = after shape t (steps.Detach cpu old b) in
        let less : ℕ → Hand = put hands cpu (hand None (hands cpu).popped) in
        let at_t : HandsIn shape less t = hands_put (without_spare between.1 cpu) t new (owners.Bucket b) (spare_away between.1 cpu new mine) refl in
        let gone : Away less old = away at_t old (inr (b, put_else s.owner new (owners.Bucket b) old other ∙ was.1)) in
        let at_u : HandsIn shape less u = hands_put at_t u old (owners.Hand cpu) gone refl in
        let kept : (less cpu).popped ≡ (hands cpu).popped = ap (λ (h : Hand). h.popped) (put_here hands cpu (hand None (hands cpu).popped)) in
        lead_step shape (Turned (Bucket b) outer (parts.Bucket part)) s (steps.Attach cpu new b) (does (steps.Detach cpu old b) ∷ give) can
        (lead_step shape (Turned (Bucket b) outer (parts.Bucket part)) t (steps.Detach cpu old b) give can_too
        (gives outer b part bodies (put owed b (old ∷ owed b)) (put none b (new ∷ [])) u is lies (detach_fits fits bounds cpu old b is can_too) (λ c apart. put_else owed b (old ∷ owed b) c apart) (λ c apart. put_else none b (new ∷ []) c apart)
        (λ x. omega (arith, bucket_counts shape cpu bodies x part allowed, paid x, ap (times x) (put_here none b (new ∷ [])), ap (times x) (put_here owed b (old ∷ owed b)), times_more x old (owed b)))
        held
        (hands_alike
        (hand_put at_u cpu (hand (Some old) (hands cpu).popped)
        (λ x at. let same : old ≡ x = some_same old x at in subst (λ (y : ℕ). (y < shape.elements) × (u.owner y ≡ owners.Hand cpu)) same (was.0, put_here t.owner old (owners.Hand cpu)))
        (λ x at. at_u.popped cpu x (kept ∙ at))
        (λ x one two. gone.popped cpu (kept ∙ two ∙ sym one)))
        (put hands cpu (hand (Some old) (hands cpu).popped)) (λ c. put_twice hands cpu (hand None (hands cpu).popped) (hand (Some old) (hands cpu).popped) c))))

    -- A turn of a bucket
    bucket_leads : (outer : Option ℕ) (b : ℕ) (part : BucketPart) (bodies : List Stored) (s : State) → IsTrue (is_lock shape (Bucket b)) → contents (Bucket b) ≡ in_bucket bodies → AllowsInBucket shape cpu part bodies
        → ((e : ℕ) → times e (owed b) ≡ times e (left_inside (is_lru shape.kind) part)) → s.holder (lock_number shape (Bucket b)) ≡ Some cpu → MayHand (hands cpu) (parts.Bucket part) → Between s
        → TurnLeads (Bucket b) outer (parts.Bucket part) s
    bucket_leads outer b (Lookup side key got) bodies s is lies allowed paid held may between = quiet_leads outer b (Lookup side key got) bodies s is lies allowed paid held between refl refl refl refl refl
    bucket_leads outer b (Update side flags key value offer (puts.Added e)) bodies s is lies allowed paid held may between = added_leads outer b side flags key value offer e bodies s is lies allowed paid held may between
    bucket_leads outer b (Update side flags key value offer (puts.Replaced new old)) bodies s is lies allowed paid held may between = replaced_leads outer b side flags key value offer new old bodies s is lies allowed paid held may between
    bucket_leads outer b (Update side flags key value offer (puts.Written e)) bodies s is lies allowed paid held may between = quiet_leads outer b (Update side flags key value offer (puts.Written e)) bodies s is lies allowed paid held between refl refl refl refl refl
    bucket_leads outer b (Update side flags key value offer puts.Exists) bodies s is lies allowed paid held may between = quiet_leads outer b (Update side flags key value offer puts.Exists) bodies s is lies allowed paid held between refl refl refl refl refl
    bucket_leads outer b (Update side flags key value offer puts.Absent) bodies s is lies allowed paid held may between = quiet_leads outer b (Update side flags key value offer puts.Absent) bodies s is lies allowed paid held between refl refl refl refl refl
    bucket_leads outer b (Update side flags key value offer puts.Full) bodies s is lies allowed paid held may between = quiet_leads outer b (Update side flags key value offer puts.Full) bodies s is lies allowed paid held between refl refl refl refl refl
    bucket_leads outer b (Delete key removed) bodies s is lies allowed paid held may between = quiet_leads outer b (Delete key removed) bodies s is lies allowed paid held between (none_left b (taken_from_bucket (Delete key removed))) refl refl refl refl
    bucket_leads outer b (Take key removed) bodies s is lies allowed paid held may between = quiet_leads outer b (Take key removed) bodies s is lies allowed paid held between (none_left b (taken_from_bucket (Take key removed))) refl refl refl refl
    bucket_leads outer b (bucket_parts.Next key found) bodies s is lies allowed paid held may between = quiet_leads outer b (bucket_parts.Next key found) bodies s is lies allowed paid held between refl refl refl refl refl
    bucket_leads outer b (First key) bodies s is lies allowed paid held may between = quiet_leads outer b (First key) bodies s is lies allowed paid held between refl refl refl refl refl
    bucket_leads outer b (Walk remove room result) bodies s is lies allowed paid held may between = quiet_leads outer b (Walk remove room result) bodies s is lies allowed paid held between (none_left b (taken_from_bucket (Walk remove room result))) refl refl refl refl
    bucket_leads outer b (Evict e probed) bodies s is lies allowed paid held may between = absurd may

    -- Lists that lie under another lock are given back.
    gives_list : (lock : DomainId) (part : Part) (then : ℕ → List ℕ) (lists : DomainId → Lists) (others : ℕ → Hand) (s : State) → IsTrue (is_lock shape lock) → is_bucket lock ≡ false → lists lock ≡ lists_in (now_of lock part lock)
        → ((other : DomainId) → lock ≢ other → lists other ≡ lists_in (contents other)) → Fits shape (bases contents) then none lists s → s.holder (lock_number shape lock) ≡ Some cpu → HandsIn shape others s
        → LeadTo shape (λ t. Fits shape (bases (now_of lock part)) then none (core_lists (now_of lock part)) t × HandsIn shape others t) s (does (steps.Give cpu lock (lists_in (now_of lock part lock))) ∷ [])
    unfolding WordsAllow ListsAllow
    gives_list lock part then lists others s is list here else_ fits held hands_in =
        let now : DomainId → Content = now_of lock part in
        let new : Lists = lists_in (now lock) in
        let Then : State → Type 0 = λ t. Fits shape (bases now) then none (core_lists now) t × HandsIn shape others t in
        let can : IsEnabled shape s (steps.Give cpu lock new) =
        both_allow bounds s fits.placed (steps.Give cpu lock new) (record { is_cpu = within; is_lock = is; held = held }) (gives_same fits bounds lock new is list here) in
        lead_step shape Then s (steps.Give cpu lock new) [] can
        (lead_none shape Then (after shape s (steps.Give cpu lock new)) (
          fits_alike (give_list_fits fits bounds cpu lock new is list can) (bases now) then none (core_lists now)
              (λ c. ap (λ (k : Content). (lists_in k).first) (elsewhere lock (Bucket c) part (λ same. other_sort c lock list (sym same))))
              (λ c. refl) (λ c. refl)
              (λ other _. then_alike shape cpu contents (on_lock lock part) lists else_ other),
          hands_same hands_in (after shape s (steps.Give cpu lock new)) refl,
        ))

    abbrev stack_of : List ℕ → Lists
    stack_of stack = record { free = stack; first = []; second = []; cursor = None }

    module _ (c : ℕ) (is : IsTrue (is_lock shape (Freelist c))) (stack : List ℕ) (lies : contents (Freelist c) ≡ on_freelist stack) (s : State) (held : s.holder (lock_number shape (Freelist c)) ≡ Some cpu) (between : Between s) where
      then_stack : (part : FreePart) → lists_in (now_of (Freelist c) (parts.Free part) (Freelist c)) ≡ stack_of (freelist_after part stack)
      then_stack part =
          ap lists_in (turned_here shape cpu contents (on_lock (Freelist c) (parts.Free part)) (Freelist c) (same_lock (Freelist c)) ∙ ap (content_after shape cpu (parts.Free part)) lies)

      same_hands : (part : Part) {t : State} → hand_after (hands cpu) part ≡ hands cpu → HandsIn shape hands t → HandsIn shape (put hands cpu (hand_after (hands cpu) part)) t
      same_hands part same at = hands_alike at (put hands cpu (hand_after (hands cpu) part)) (λ d. ap (λ (h : Hand). put hands cpu h d) same ∙ put_back hands cpu d)

      empty_leads : (outer : Option ℕ) → TurnLeads (Freelist c) outer (parts.Free FoundEmpty) s
      empty_leads outer =
          gives_list (Freelist c) (parts.Free FoundEmpty) owed (core_lists contents) (put hands cpu (hands cpu)) s is refl (ap lists_in lies ∙ sym (then_stack FoundEmpty)) (λ other apart. refl) between.0 held
          (same_hands (parts.Free FoundEmpty) refl between.1)

      -- An element is popped.
      popped_leads : (outer : Option ℕ) (e : ℕ) → AllowsOnFreelist (Popped e) stack → TurnLeads (Freelist c) outer (parts.Free (Popped e)) s
      unfolding WordsAllow ListsAllow
      popped_leads outer e allowed =
          let lock : DomainId = Freelist c in
          let left : List ℕ = without_top stack in
          let under : lists_under shape s lock ≡ stack_of stack = between.0.others lock is refl ∙ ap lists_in lies in
          let was = is_free_there between.0.placed lock e (subst (λ (l : Lists). IsIn e l.free) (sym under) (head_is_in e stack allowed)) in
          let can : IsEnabled shape s (steps.Claim cpu e lock) =
          both_allow bounds s between.0.placed (steps.Claim cpu e lock) (record { is_cpu = within; is_lock = is; held = held }, was.0) (subst (λ (l : Lists). IsHead e l.free) (sym under) allowed) in
          let made : with_row lock e (without_free e (core_lists contents lock)) ≡ stack_of left =
          ap (λ (l : Lists). with_row lock e (without_free e l)) (ap lists_in lies ∙ ap stack_of (head_first e stack allowed)) ∙ ap stack_of (without_head e left) in
          let t : State = after shape s (steps.Claim cpu e lock) in
          let gone : Away hands e = away between.1 e (inl was.1) in
          let at_t : HandsIn shape hands t = hands_put between.1 t e (owners.Hand cpu) gone refl in
          lead_step shape (Turned lock outer (parts.Free (Popped e))) s (steps.Claim cpu e lock) (does (steps.Give cpu lock (lists_in (now_of lock (parts.Free (Popped e)) lock))) ∷ []) can
          (gives_list lock (parts.Free (Popped e)) owed (with_lists lock (stack_of left) (core_lists contents)) (put hands cpu (hand (hands cpu).spare (Some e))) t is refl
          (lists_here lock (stack_of left) (core_lists contents) ∙ sym (then_stack (Popped e))) (λ other apart. lists_else lock other (stack_of left) (core_lists contents) apart)
          (claim_fits between.0 bounds cpu e lock (stack_of left) is refl made can) held
          (hand_put at_t cpu (hand (hands cpu).spare (Some e))
          (λ x at. at_t.spares cpu x at)
          (λ x at. subst (λ (y : ℕ). (y < shape.elements) × (t.owner y ≡ owners.Hand cpu)) (some_same e x at) (was.0, put_here s.owner e (owners.Hand cpu)))
          (λ x one two. gone.spare cpu (one ∙ sym two))))

      -- An element is pushed inside the turn of a bucket.
      pushed_leads : (b e : ℕ) → IsTrue (is_lock shape (Bucket b)) → s.holder (lock_number shape (Bucket b)) ≡ Some cpu → times e (owed b) < times e (bases contents b) → TurnLeads (Freelist c) (Some b) (parts.Free (Pushed e)) s
      unfolding WordsAllow ListsAllow
      pushed_leads b e is_b held_b owing =
          let lock : DomainId = Freelist c in
          let inside : IsIn e (lists_under shape s (Bucket b)).first = omega (arith, between.0.chains b is_b e, owing) in
          let was = in_chain between.0.placed b e is_b inside in
          let can : IsEnabled shape s (steps.Detach cpu e b) = record { holds = record { is_cpu = within; is_lock = is_b; held = held_b }; real = was.0; inside = inside } in
          let t : State = after shape s (steps.Detach cpu e b) in
          let then : ℕ → List ℕ = put owed b (e ∷ owed b) in
          let fits : Fits shape (bases contents) then none (core_lists contents) t = detach_fits between.0 bounds cpu e b is_b can in
          let can_too : IsEnabled shape t (steps.Settle cpu e lock) =
          both_allow bounds t fits.placed (steps.Settle cpu e lock)
          (record { holds = record { is_cpu = within; is_lock = is; held = held }; has_free_list = refl; real = was.0; in_hand = put_here s.owner e (owners.Hand cpu); listed = λ lru. evicts_not lru }) tt in
          let u : State = after shape t (steps.Settle cpu e lock) in
          let gone : Away hands e = away between.1 e (inr (b, was.1)) in
          let at_u : HandsIn shape hands u = hands_put (hands_put between.1 t e (owners.Hand cpu) gone refl) u e owners.Free gone refl in
          let give : List Event = does (steps.Give cpu lock (lists_in (now_of lock (parts.Free (Pushed e)) lock))) ∷ [] in
          let Then : State → Type 0 = Turned lock (Some b) (parts.Free (Pushed e)) in
          lead_step shape Then s (steps.Detach cpu e b) (does (steps.Settle cpu e lock) ∷ give) can
          (lead_step shape Then t (steps.Settle cpu e lock) give can_too
          (gives_list lock (parts.Free (Pushed e)) then (with_lists lock (stack_of (e ∷ stack)) (core_lists contents)) (put hands cpu (hands cpu)) u is refl
          (lists_here lock (stack_of (e ∷ stack)) (core_lists contents) ∙ sym (then_stack (Pushed e))) (λ other apart. lists_else lock other (stack_of (e ∷ stack)) (core_lists contents) apart)
          (settle_fits fits bounds cpu e lock (stack_of (e ∷ stack)) is refl (ap (λ (l : Lists). with_free e (without_row e l)) (ap lists_in lies)) can_too) held
          (same_hands (parts.Free (Pushed e)) refl at_u)))

    -- Any turn
    pub turn_leads : (lock : DomainId) (outer : Option ℕ) (part : Part) (s : State) → PaysAt shape owed outer lock part → Allows shape cpu part (contents lock) → s.holder (lock_number shape lock) ≡ Some cpu
        → ((b : ℕ) → outer ≡ Some b → s.holder (lock_number shape (Bucket b)) ≡ Some cpu) → ((b e : ℕ) → outer ≡ Some b → part ≡ parts.Free (Pushed e) → times e (owed b) < times e (bases contents b))
        → MayHand (hands cpu) part → Between s → TurnLeads lock outer part s
    turn_leads lock outer (parts.Bucket part) s pays allowed held held_outer owing may between =
        bucket_at lock pays pays.lock_is allowed held
      where
        bucket_at : (lock : DomainId) (pays : PaysBucket shape owed lock part) → lock ≡ Bucket pays.bucket → Allows shape cpu (parts.Bucket part) (contents lock) → s.holder (lock_number shape lock) ≡ Some cpu → TurnLeads lock outer (parts.Bucket part) s
        bucket_at lock pays is allowed held =
            let b : ℕ = pays.bucket in
            let found = on_bodies (contents (Bucket b)) (AllowsInBucket shape cpu part) (subst (λ (l : DomainId). Allows shape cpu (parts.Bucket part) (contents l)) is allowed) in
            subst (λ (l : DomainId). TurnLeads l outer (parts.Bucket part) s) (sym is)
            (bucket_leads outer b part found.bodies s pays.there found.lies found.fact pays.paid (subst (λ (l : DomainId). s.holder (lock_number shape l) ≡ Some cpu) is held) may between)
    turn_leads lock outer (parts.Free part) s pays allowed held held_outer owing may between =
        free_at lock pays pays.lock_is allowed held
      where
        free_at : (lock : DomainId) (pays : PaysFree shape outer lock part) → lock ≡ Freelist pays.cpu → Allows shape cpu (parts.Free part) (contents lock) → s.holder (lock_number shape lock) ≡ Some cpu → TurnLeads lock outer (parts.Free part) s
        free_at lock pays is allowed held =
            let c : ℕ = pays.cpu in
            let found = on_stack (contents (Freelist c)) (AllowsOnFreelist part) (subst (λ (l : DomainId). Allows shape cpu (parts.Free part) (contents l)) is allowed) in
            let mine : s.holder (lock_number shape (Freelist c)) ≡ Some cpu = subst (λ (l : DomainId). s.holder (lock_number shape l) ≡ Some cpu) is held in
            subst (λ (l : DomainId). TurnLeads l outer (parts.Free part) s) (sym is) (by c pays.there found.stack found.lies mine part found.fact pays.inside (λ b e outer_is part_is. owing b e outer_is (ap parts.Free part_is)))
          where
            by : (c : ℕ) → IsTrue (is_lock shape (Freelist c)) → (stack : List ℕ) → contents (Freelist c) ≡ on_freelist stack → s.holder (lock_number shape (Freelist c)) ≡ Some cpu
                → (part : FreePart) → AllowsOnFreelist part stack → PushesInside shape outer part → ((b e : ℕ) → outer ≡ Some b → part ≡ Pushed e → times e (owed b) < times e (bases contents b)) → TurnLeads (Freelist c) outer (parts.Free part) s
            by c there stack lies mine (Pushed e) fact inside owes =
                subst (λ (o : Option ℕ). TurnLeads (Freelist c) o (parts.Free (Pushed e)) s) (sym inside.around_is)
                (pushed_leads c there stack lies s mine between inside.bucket e inside.there (held_outer inside.bucket inside.around_is) (owes inside.bucket e inside.around_is refl))
            by c there stack lies mine (Popped e) fact inside owes = popped_leads c there stack lies s mine between outer e fact
            by c there stack lies mine FoundEmpty fact inside owes = empty_leads c there stack lies s mine between outer
    turn_leads lock outer (parts.Local part) s pays allowed held held_outer owing may between = absurd pays
    turn_leads lock outer (parts.Global part) s pays allowed held held_outer owing may between = absurd pays
    turn_leads lock outer (parts.Own part) s pays allowed held held_outer owing may between = evicts_not (set_evicts pays.cpu pays.there)
      where
        set_evicts : (c : ℕ) → IsTrue (is_lock shape (CpuLru c)) → IsTrue (is_lru shape.kind)
        set_evicts c is = (and_parts (is_lru shape.kind) (not shape.common) (and_parts (is_lru shape.kind && not shape.common) (ltb c shape.cpus) is).0).0
