-- A race of a map that doesn't evict, of which the histories are legal and the pushes inside turns are right: what words allow of the
-- interleaving may be done.
use Rattle.std.proofs.Common.{◌≡◌, ◌≢◌, ℕ, zero, suc, ◌+◌, Bool, true, false, cond, List, [], ◌∷◌, ◌++◌, map, take, Option, None, refl, ap, ◌∙◌, sym, subst, arith}
use Rattle.std.specs.Prelude.{IsTrue}
use Rattle.map_types.specs.declared.attr.Shape.{Shape}
use Rattle.map_types.specs.declared.kind.DomainId.{DomainId}
use Rattle.map_types.specs.declared.kind.DomainId.TheVariants.{Bucket, Freelist}
use Rattle.map_types.specs.Kind.{is_lru}
use Rattle.map_types.specs.Shape.{HasBounds}
use Rattle.map_types.specs.Stored.{Stored}
use Rattle.map_types.specs.ElementLists.{put, times, IsHead}
use Rattle.map_types.proofs.RowLemmas.{by_test}
use Rattle.place_words.specs.declared.bucket_part.BucketPart.{BucketPart}
use Rattle.place_words.specs.declared.bucket_part.BucketPart.TheVariants.{Lookup, Update, Delete, Take, First, Walk, Evict}
use Rattle.place_words.specs.declared.bucket_part.BucketPart.TheVariants as bucket_parts
use Rattle.place_words.specs.declared.bucket_part.Put.TheVariants as puts
use Rattle.place_words.specs.declared.bucket_part.Seen.TheVariants.{Removed, Held}
use Rattle.place_words.specs.declared.free_part.FreePart.{FreePart}
use Rattle.place_words.specs.declared.free_part.FreePart.TheVariants.{Pushed, Popped, FoundEmpty}
use Rattle.place_words.specs.Bodies.{numbers}
use Rattle.place_words.specs.Buckets.{AllowsInBucket, bucket_after}
use Rattle.place_words.specs.Freelists.{AllowsOnFreelist, without_top, freelist_after}
use Rattle.place_words.specs.Locks.{is_lock, is_same_lock}
use Rattle.place_words.specs.Moves.{taken_from_bucket, brought_to_bucket}
use Rattle.place_words.proofs.BucketLaws.{bucket_counts, times_more}
use Rattle.place_words.specs.declared.step.Lists.{Lists}
use Rattle.place_words.specs.declared.step.Step.{Step}
use Rattle.place_words.specs.declared.step.Step.TheVariants as steps
use Rattle.place_words.specs.Places.{Placed}
use Rattle.place_words.specs.State.{State}
use Rattle.place_words.specs.Steps.{IsEnabled, after, with_row, without_row, with_free, without_free}
use Rattle.place_words.proofs.ElementLemmas.{put_here, put_else}
use Rattle.place_words.specs.Interleaving.{Drawn, Event, does, sees, bucket_steps, freelist_steps, seen_in, detaches, leave_steps, takes}
use Rattle.core_runs.specs.Words.{Words, words_of, RunsByWords, RunsByLists, ListsAllow}
use Rattle.core_runs.specs.Races.{PushesInside, left_inside, owed_pushed}
use Rattle.core_runs.proofs.Ties.{with_lists, lists_here}
use Rattle.core_runs.proofs.Words.{words_go, both_allow}
use Rattle.core_runs.proofs.Fits.{Fits, fits_alike, take_fits, attach_fits, detach_fits, settle_fits, claim_fits, give_list_fits, give_bucket_fits, gives_bucket, gives_same}
use Rattle.core_runs.proofs.PlainRuns.{head_first, without_head}

-- What words allow, lists allow too, up to any event.
abbrev pub Follows : Shape → State → List Event → Type 0
Follows shape s events = (n : ℕ) → RunsByWords shape (words_of s) (take n events) → RunsByLists shape s (take n events)

abbrev pub none : ℕ → List ℕ
none b = []

module _ {shape : Shape} (bounds : HasBounds shape) where
  pub follows_step : (s : State) (step : Step) (events : List Event) → Placed shape s → ListsAllow shape s step → (IsEnabled shape s step → Follows shape (after shape s step) events) → Follows shape s (does step ∷ events)
  unfolding RunsByWords RunsByLists
  follows_step s step events p lists next zero words = tt
  follows_step s step events p lists next (suc n) words =
      (lists, next (both_allow bounds s p step words.0 lists) n (subst (λ (w : Words). RunsByWords shape w (take n events)) (sym (words_go shape s step)) words.1))

  pub follows_sees : (s : State) (e holder : ℕ) (events : List Event) → Follows shape s events → Follows shape s (sees e holder ∷ events)
  unfolding RunsByWords RunsByLists
  follows_sees s e holder events next zero words = tt
  follows_sees s e holder events next (suc n) words = next n words.1

  pub follows_none : (s : State) → Follows shape s []
  unfolding RunsByLists
  follows_none s zero words = tt
  follows_none s (suc n) words = tt

  -- locks that are taken
  pub follows_takes : {base out ins : ℕ → List ℕ} {lists : DomainId → Lists} (turns : List Drawn) (s : State) (events : List Event) → Fits shape base out ins lists s
      → ((t : State) → Fits shape base out ins lists t → Follows shape t events) → Follows shape s (map takes turns ++ events)
  unfolding ListsAllow
  follows_takes [] s events fits next = next s fits
  follows_takes (x ∷ turns) s events fits next =
      follows_step s (steps.Take x.entry.cpu x.lock) (map takes turns ++ events) fits.placed tt
      (λ can. follows_takes turns (after shape s (steps.Take x.entry.cpu x.lock)) events (take_fits fits bounds x.entry.cpu x.lock can) next)

  -- what is detached in a turn of the bucket itself
  pub follows_detaches : {base out ins : ℕ → List ℕ} {lists : DomainId → Lists} (cpu b : ℕ) (es : List ℕ) (s : State) (events : List Event) → IsTrue (is_lock shape (Bucket b)) → Fits shape base out ins lists s
      → ((t : State) (out' : ℕ → List ℕ) → ((e : ℕ) → times e (out' b) ≡ times e es + times e (out b)) → ((c : ℕ) → c ≢ b → out' c ≡ out c) → Fits shape base out' ins lists t → Follows shape t events)
      → Follows shape s (map does (detaches cpu b es) ++ events)
  unfolding ListsAllow
  follows_detaches {out = out} cpu b [] s events is fits next = next s out (λ e. omega arith) (λ c apart. refl) fits
  follows_detaches {out = out} cpu b (x ∷ es) s events is fits next =
      follows_step s (steps.Detach cpu x b) (map does (detaches cpu b es) ++ events) fits.placed tt
      (λ can. follows_detaches {out = put out b (x ∷ out b)} cpu b es (after shape s (steps.Detach cpu x b)) events is (detach_fits fits bounds cpu x b is can)
      (λ t out' counts same fits'. next t out'
      (λ e. omega (arith, counts e, ap (times e) (put_here out b (x ∷ out b)), times_more e x (out b), times_more e x es))
      (λ c apart. same c apart ∙ put_else out b (x ∷ out b) c apart) fits'))

  -- what leaves the bucket for good: in its own turn on a map that evicts, else inside it
  follows_leave : {base owed : ℕ → List ℕ} {lists : DomainId → Lists} (lru : Bool) (cpu b : ℕ) (es : List ℕ) (s : State) (events : List Event) → IsTrue (is_lock shape (Bucket b)) → Fits shape base owed none lists s
      → ((t : State) (out' : ℕ → List ℕ) → ((e : ℕ) → times e (out' b) + times e (cond lru [] es) ≡ times e es + times e (owed b)) → ((c : ℕ) → c ≢ b → out' c ≡ owed c) → Fits shape base out' none lists t → Follows shape t events)
      → Follows shape s (map does (leave_steps lru cpu b es) ++ events)
  follows_leave true cpu b es s events is fits next = follows_detaches cpu b es s events is fits (λ t out' counts same fits'. next t out' (λ e. omega (arith, counts e)) same fits')
  follows_leave {owed = owed} false cpu b es s events is fits next = next s owed (λ e. omega arith) (λ c apart. refl) fits

  -- The steps of a turn of a bucket
  pub record Moved (part : BucketPart) (owed out' ins' : ℕ → List ℕ) (b : ℕ) : Type 0 where
    pub leaves : (e : ℕ) → times e (out' b) + times e (left_inside (is_lru shape.kind) part) ≡ times e (taken_from_bucket part) + times e (owed b)
    pub comes : (e : ℕ) → times e (ins' b) ≡ times e (brought_to_bucket part)
    pub else_out : (c : ℕ) → c ≢ b → out' c ≡ owed c
    pub else_ins : (c : ℕ) → c ≢ b → ins' c ≡ []

  module _ {base owed : ℕ → List ℕ} {lists : DomainId → Lists} (cpu b : ℕ) (s : State) (events : List Event) (is : IsTrue (is_lock shape (Bucket b))) (fits : Fits shape base owed none lists s) where
    abbrev pub Next : BucketPart → Type 0
    Next part = (t : State) (out' ins' : ℕ → List ℕ) → Moved part owed out' ins' b → Fits shape base out' ins' lists t → Follows shape t events

    quiet : (part : BucketPart) → left_inside (is_lru shape.kind) part ≡ [] → taken_from_bucket part ≡ [] → brought_to_bucket part ≡ [] → Next part → Follows shape s events
    quiet part inside taken brought next = next s owed none
        (record {
          leaves = λ e. omega (arith, ap (times e) inside, ap (times e) taken);
          comes = λ e. ap (times e) (sym brought);
          else_out = λ c apart. refl;
          else_ins = λ c apart. refl;
        }) fits

    own_steps : (part : BucketPart) → Next part → Follows shape s (map does (bucket_steps shape cpu b part) ++ events)
    unfolding ListsAllow
    own_steps (Lookup side key got) next = quiet (Lookup side key got) refl refl refl next
    own_steps (Update side flags key value offer (puts.Added e)) next =
        follows_step s (steps.Attach cpu e b) events fits.placed tt
        (λ can. next (after shape s (steps.Attach cpu e b)) owed (put none b (e ∷ []))
        (record {
          leaves = λ x. omega arith;
          comes = λ x. ap (times x) (put_here none b (e ∷ []));
          else_out = λ c apart. refl;
          else_ins = λ c apart. put_else none b (e ∷ []) c apart;
        }) (attach_fits fits bounds cpu e b is can))
    own_steps (Update side flags key value offer (puts.Replaced new old)) next =
        follows_step s (steps.Attach cpu new b) (does (steps.Detach cpu old b) ∷ events) fits.placed tt
        (λ can.
        let t : State = after shape s (steps.Attach cpu new b) in
        let fits' = attach_fits fits bounds cpu new b is can in
        follows_step t (steps.Detach cpu old b) events fits'.placed tt
        (λ can'. next (after shape t (steps.Detach cpu old b)) (put owed b (old ∷ owed b)) (put none b (new ∷ []))
        (record {
          leaves = λ x. omega (arith, ap (times x) (put_here owed b (old ∷ owed b)), times_more x old (owed b));
          comes = λ x. ap (times x) (put_here none b (new ∷ []));
          else_out = λ c apart. put_else owed b (old ∷ owed b) c apart;
          else_ins = λ c apart. put_else none b (new ∷ []) c apart;
        }) (detach_fits fits' bounds cpu old b is can')))
    own_steps (Update side flags key value offer (puts.Written e)) next = quiet (Update side flags key value offer (puts.Written e)) refl refl refl next
    own_steps (Update side flags key value offer puts.Exists) next = quiet (Update side flags key value offer puts.Exists) refl refl refl next
    own_steps (Update side flags key value offer puts.Absent) next = quiet (Update side flags key value offer puts.Absent) refl refl refl next
    own_steps (Update side flags key value offer puts.Full) next = quiet (Update side flags key value offer puts.Full) refl refl refl next
    own_steps (Delete key removed) next =
        follows_leave (is_lru shape.kind) cpu b (taken_from_bucket (Delete key removed)) s events is fits
        (λ t out' counts same fits'. next t out' none (record { leaves = counts; comes = λ e. refl; else_out = same; else_ins = λ c apart. refl }) fits')
    own_steps (Take key removed) next =
        follows_leave (is_lru shape.kind) cpu b (taken_from_bucket (Take key removed)) s events is fits
        (λ t out' counts same fits'. next t out' none (record { leaves = counts; comes = λ e. refl; else_out = same; else_ins = λ c apart. refl }) fits')
    own_steps (bucket_parts.Next key found) next = quiet (bucket_parts.Next key found) refl refl refl next
    own_steps (First key) next = quiet (First key) refl refl refl next
    own_steps (Walk remove room result) next =
        follows_leave (is_lru shape.kind) cpu b (taken_from_bucket (Walk remove room result)) s events is fits
        (λ t out' counts same fits'. next t out' none (record { leaves = counts; comes = λ e. refl; else_out = same; else_ins = λ c apart. refl }) fits')
    own_steps (Evict e probed) next =
        follows_detaches cpu b (taken_from_bucket (Evict e probed)) s events is fits
        (λ t out' counts same fits'. next t out' none (record { leaves = λ x. omega (arith, counts x); comes = λ x. refl; else_out = same; else_ins = λ c apart. refl }) fits')

  follows_seen : (part : BucketPart) (s : State) (events : List Event) → Follows shape s events → Follows shape s (seen_in part ++ events)
  follows_seen (Lookup side key got) s events next = next
  follows_seen (Update side flags key value offer put) s events next = next
  follows_seen (Delete key removed) s events next = next
  follows_seen (Take key removed) s events next = next
  follows_seen (bucket_parts.Next key found) s events next = next
  follows_seen (First key) s events next = next
  follows_seen (Walk remove room result) s events next = next
  follows_seen (Evict e Removed) s events next = next
  follows_seen (Evict e (Held holder)) s events next = follows_sees s e holder events next

  abbrev pub chain_of : List ℕ → Lists
  chain_of es = record { free = []; first = es; second = []; cursor = None }

  -- A turn of a bucket, of a map of any kind
  pub bucket_turn : {base owed : ℕ → List ℕ} {lists : DomainId → Lists} (cpu b : ℕ) (part : BucketPart) (bodies : List Stored) (new : List ℕ) (s : State) (more : List Event) → IsTrue (is_lock shape (Bucket b))
      → Fits shape base owed none lists s → base b ≡ numbers bodies → AllowsInBucket shape cpu part bodies → ((e : ℕ) → times e (owed b) ≡ times e (left_inside (is_lru shape.kind) part)) → new ≡ numbers (bucket_after shape cpu part bodies)
      → ((t : State) → Fits shape (put base b new) (put owed b []) none lists t → Follows shape t more)
      → Follows shape s (map does (bucket_steps shape cpu b part) ++ (seen_in part ++ does (steps.Give cpu (Bucket b) (chain_of new)) ∷ more))
  unfolding ListsAllow
  bucket_turn {base = base} {owed = owed} cpu b part bodies new s more is fits base_is allowed paid new_is next =
      own_steps cpu b s (seen_in part ++ does (steps.Give cpu (Bucket b) (chain_of new)) ∷ more) is fits part
      (λ t out' ins' moved fits'. follows_seen part t (does (steps.Give cpu (Bucket b) (chain_of new)) ∷ more)
      (follows_step t (steps.Give cpu (Bucket b) (chain_of new)) more fits'.placed
      (gives_bucket fits' bounds b new is
      (λ e. omega (arith, ap (times e) new_is, ap (times e) base_is, bucket_counts shape cpu bodies e part allowed, moved.leaves e, moved.comes e, paid e)))
      (λ can. next (after shape t (steps.Give cpu (Bucket b) (chain_of new)))
      (fits_alike (give_bucket_fits fits' bounds cpu b (chain_of new) is can) (put base b new) (put owed b []) none _ (λ c. refl)
      (λ c. by_test c b (λ _. put out' b [] c ≡ put owed b [] c) (λ same. subst (λ (d : ℕ). put out' b [] d ≡ put owed b [] d) (sym same) (put_here out' b [] ∙ sym (put_here owed b [])))
      (λ apart. put_else out' b [] c apart ∙ moved.else_out c apart ∙ sym (put_else owed b [] c apart)))
      (λ c. by_test c b (λ _. put ins' b [] c ≡ []) (λ same. subst (λ (d : ℕ). put ins' b [] d ≡ []) (sym same) (put_here ins' b []))
      (λ apart. put_else ins' b [] c apart ∙ moved.else_ins c apart))
      (λ lock list. refl)))))

  abbrev pub stack_of : List ℕ → Lists
  stack_of stack = record { free = stack; first = []; second = []; cursor = None }

  given_twice : (lock other : DomainId) (x y : Lists) (lists : DomainId → Lists) → with_lists lock x (with_lists lock y lists) other ≡ with_lists lock x lists other
  given_twice lock other x y lists = by (is_same_lock lock other)
    where
      by : (b : Bool) → cond b x (cond b y (lists other)) ≡ cond b x (lists other)
      by true = refl
      by false = refl

  -- A turn of a freelist
  pub free_turn : {base owed : ℕ → List ℕ} {lists : DomainId → Lists} (cpu c : ℕ) (around : Option ℕ) (part : FreePart) (stack : List ℕ) (s : State) (more : List Event) → IsTrue (is_lock shape (Freelist c))
      → Fits shape base owed none lists s → lists (Freelist c) ≡ stack_of stack → AllowsOnFreelist part stack → PushesInside shape around part
      → ((t : State) → Fits shape base (owed_pushed around part owed) none (with_lists (Freelist c) (stack_of (freelist_after part stack)) lists) t → Follows shape t more)
      → Follows shape s (map does (freelist_steps cpu around (Freelist c) part) ++ does (steps.Give cpu (Freelist c) (stack_of (freelist_after part stack))) ∷ more)
  unfolding ListsAllow
  free_turn {base = base} {owed = owed} {lists = lists} cpu c around (Pushed e) stack s more is fits lies allowed inside next =
      subst (λ (a : Option ℕ). ((t : State) → Fits shape base (owed_pushed a (Pushed e) owed) none (with_lists (Freelist c) (stack_of (e ∷ stack)) lists) t → Follows shape t more)
      → Follows shape s (map does (freelist_steps cpu a (Freelist c) (Pushed e)) ++ does (steps.Give cpu (Freelist c) (stack_of (e ∷ stack))) ∷ more)) (sym inside.around_is)
      (λ go.
      follows_step s (steps.Detach cpu e inside.bucket) (does (steps.Settle cpu e (Freelist c)) ∷ does (steps.Give cpu (Freelist c) (stack_of (e ∷ stack))) ∷ more) fits.placed tt
      (λ can.
      let t : State = after shape s (steps.Detach cpu e inside.bucket) in
      let fits' = detach_fits fits bounds cpu e inside.bucket inside.there can in
      follows_step t (steps.Settle cpu e (Freelist c)) (does (steps.Give cpu (Freelist c) (stack_of (e ∷ stack))) ∷ more) fits'.placed tt
      (λ can'.
      let u : State = after shape t (steps.Settle cpu e (Freelist c)) in
      let fits'' = settle_fits fits' bounds cpu e (Freelist c) (stack_of (e ∷ stack)) is refl (ap (λ (l : Lists). with_free e (without_row e l)) lies) can' in
      follows_step u (steps.Give cpu (Freelist c) (stack_of (e ∷ stack))) more fits''.placed (gives_same fits'' bounds (Freelist c) (stack_of (e ∷ stack)) is refl (lists_here (Freelist c) (stack_of (e ∷ stack)) lists))
      (λ can''. go (after shape u (steps.Give cpu (Freelist c) (stack_of (e ∷ stack))))
      (fits_alike (give_list_fits fits'' bounds cpu (Freelist c) (stack_of (e ∷ stack)) is refl can'') base (put owed inside.bucket (e ∷ owed inside.bucket)) none (with_lists (Freelist c) (stack_of (e ∷ stack)) lists)
      (λ b. refl) (λ b. refl) (λ b. refl) (λ lock list. given_twice (Freelist c) lock (stack_of (e ∷ stack)) (stack_of (e ∷ stack)) lists)))))) next
  free_turn {base = base} {owed = owed} {lists = lists} cpu c around (Popped e) stack s more is fits lies allowed inside next =
      let left : List ℕ = without_top stack in
      let made : with_row (Freelist c) e (without_free e (lists (Freelist c))) ≡ stack_of left =
      ap (λ (l : Lists). with_row (Freelist c) e (without_free e l)) (lies ∙ ap stack_of (head_first e stack allowed)) ∙ ap stack_of (without_head e left) in
      follows_step s (steps.Claim cpu e (Freelist c)) (does (steps.Give cpu (Freelist c) (stack_of left)) ∷ more) fits.placed
      (subst (λ (l : Lists). IsHead e l.free) (sym (fits.others (Freelist c) is refl ∙ lies)) allowed)
      (λ can.
      let t : State = after shape s (steps.Claim cpu e (Freelist c)) in
      let fits' = claim_fits fits bounds cpu e (Freelist c) (stack_of left) is refl made can in
      follows_step t (steps.Give cpu (Freelist c) (stack_of left)) more fits'.placed (gives_same fits' bounds (Freelist c) (stack_of left) is refl (lists_here (Freelist c) (stack_of left) lists))
      (λ can'. next (after shape t (steps.Give cpu (Freelist c) (stack_of left)))
      (fits_alike (give_list_fits fits' bounds cpu (Freelist c) (stack_of left) is refl can') base owed none (with_lists (Freelist c) (stack_of left) lists)
      (λ b. refl) (λ b. refl) (λ b. refl) (λ lock list. given_twice (Freelist c) lock (stack_of left) (stack_of left) lists))))
  free_turn {base = base} {owed = owed} {lists = lists} cpu c around FoundEmpty stack s more is fits lies allowed inside next =
      follows_step s (steps.Give cpu (Freelist c) (stack_of stack)) more fits.placed (gives_same fits bounds (Freelist c) (stack_of stack) is refl lies)
      (λ can. next (after shape s (steps.Give cpu (Freelist c) (stack_of stack))) (give_list_fits fits bounds cpu (Freelist c) (stack_of stack) is refl can))
