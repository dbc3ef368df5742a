-- What calls on one key of a map that doesn't evict did.
use Rattle.std.proofs.Common.{◌≡◌, ℕ, true, false, ⊎_elim, List, [], ◌∷◌, ◌++◌, map, refl, ap, sym, ◌∙◌, subst, Option, None, Some, MatchOption}
use Rattle.std.specs.Prelude.{◌≢◌, IsSome, IsTrue, IsFalse}
use Rattle.std.proofs.lemmas.Option.{none-some}
use Rattle.map_types.specs.declared.attr.Shape.{Shape}
use Rattle.map_types.specs.declared.call.Verb.TheVariants as verbs
use Rattle.map_types.specs.declared.kind.Side.{Side}
use Rattle.map_types.specs.declared.refusal.Errno.TheVariants.{E2big}
use Rattle.map_types.specs.declared.reply.Reply.{Reply}
use Rattle.map_types.specs.declared.reply.Reply.TheVariants.{Done, Refused}
use Rattle.map_types.specs.Kind.{is_percpu}
use Rattle.map_types.specs.Stored.{Stored}
use Rattle.map_types.specs.declared.kind.DomainId.TheVariants.{Bucket}
use Rattle.place_words.specs.declared.bucket_part.BucketPart.TheVariants.{Update, Delete}
use Rattle.place_words.specs.declared.bucket_part.Put.{Put}
use Rattle.place_words.specs.declared.bucket_part.Put.TheVariants as puts
use Rattle.place_words.specs.declared.free_part.FreePart.TheVariants.{Pushed}
use Rattle.place_words.specs.Bodies.{present, without_key}
use Rattle.place_words.specs.Buckets.{IsPresentWith, AllowsInBucket, bucket_after}
use Rattle.place_words.specs.PlainTraces.{IsUpdateTrace, IsPutTrace, IsDeleteTrace, LooksFor, pushes, found_empty, reply_of_put, reply_of_gone, spare_after, spare_after_put, spare_after_part}
use Rattle.place_words.specs.Turns.{Turn, turns_of, ring, bucket_of_key, on_bucket_of, on_freelist_of}
use Rattle.place_words.proofs.PlainLaws.{trace_plain, plain_spare}
use Rattle.place_table.specs.declared.view.Turned.{Turned}
use Rattle.place_table.specs.Calls.{spare_element}
use Rattle.place_table.specs.Known.{turn_at}
use Rattle.refusals.specs.Made.{lay, bodies_in, Did, AllDid}
use Rattle.refusals.specs.Plain.{E2bigLooksAtEach, PresentKeyPopsNothing, PresentKeyTakesTheSpare, DeletedIsPushed}
use Rattle.refusals.proofs.KeyLemmas.{new_there, absent_not_there}
use Rattle.refusals.proofs.MadeLemmas.{called_did, did_none, did_at, allowed_there, left_there}

-- Updates of a map that doesn't evict

module _ (shape : Shape) (cpu : ℕ) (spare : Option ℕ) (side : Side) (flags : ℕ) (key value : List ℕ) where
  abbrev Told_full : List Turn → Type 0
  Told_full turns = turns ≡ found_empty (ring cpu shape.cpus) ++ on_bucket_of shape key (Update side flags key value None puts.Full) ∷ []

  full_looks : (put : Put) (looks turns : List Turn) → LooksFor shape cpu spare put looks → turns ≡ looks ++ on_bucket_of shape key (Update side flags key value None put) ∷ [] → Refused E2big ≡ reply_of_put put → Told_full turns
  full_looks (puts.Added e) looks turns for are is = absurd cc
  full_looks (puts.Replaced new old) looks turns for are is = absurd cc
  full_looks (puts.Written e) looks turns for are is = absurd cc
  full_looks puts.Exists looks turns for are is = absurd cc
  full_looks puts.Absent looks turns for are is = absurd cc
  full_looks puts.Full looks turns for are is = subst (λ (l : List Turn). turns ≡ l ++ on_bucket_of shape key (Update side flags key value None puts.Full) ∷ []) for are

  pub looks_at_each : (turns : List Turn) → IsUpdateTrace shape cpu spare side flags key value turns (Refused E2big) → Told_full turns
  looks_at_each turns trace = ⊎_elim (λ refused. absurd cc) (λ put. full_looks put.1.put put.1.looks turns put.1.looks_are put.1.turns_are put.1.reply_is) trace

pub e2big_looks_at_each : E2bigLooksAtEach
e2big_looks_at_each t before after side flags key value plain called =
    let trace : IsUpdateTrace t.shape before.cpu (spare_element before) side flags key value (turns_of (map (turn_at t.shape) called.told)) (Refused E2big) =
    trace_plain t.shape before.cpu (spare_element before) (map (turn_at t.shape) called.told) (Refused E2big) plain (verbs.Update side flags key value) called.trace in
    subst (λ (turns : List Turn). AllDid t.shape before.cpu called.steps turns) (looks_at_each t.shape before.cpu (spare_element before) side flags key value (turns_of (map (turn_at t.shape) called.told)) trace)
    (called_did t before after (verbs.Update side flags key value) (Refused E2big) called)

-- lists that end alike
never_empty : {X : Type 0} (xs : List X) (y : X) → [] ≡ xs ++ y ∷ [] → ⊥
never_empty [] y is = absurd cc
never_empty (x ∷ xs) y is = absurd cc

same_end : {X : Type 0} (xs ys : List X) (x y : X) → xs ++ x ∷ [] ≡ ys ++ y ∷ [] → (xs ≡ ys) × (x ≡ y)
same_end [] [] x y is = (refl, cc)
same_end [] (b ∷ ys) x y is = absurd (never_empty ys y (rest is))
  where
    rest : x ∷ [] ≡ b ∷ (ys ++ y ∷ []) → [] ≡ ys ++ y ∷ []
    rest e = cc
same_end (a ∷ xs) [] x y is = absurd (never_empty xs x (sym (rest is)))
  where
    rest : a ∷ (xs ++ x ∷ []) ≡ y ∷ [] → xs ++ x ∷ [] ≡ []
    rest e = cc
same_end (a ∷ xs) (b ∷ ys) x y is = both (heads is) (same_end xs ys x y (tails is))
  where
    heads : a ∷ (xs ++ x ∷ []) ≡ b ∷ (ys ++ y ∷ []) → a ≡ b
    heads e = cc

    tails : a ∷ (xs ++ x ∷ []) ≡ b ∷ (ys ++ y ∷ []) → xs ++ x ∷ [] ≡ ys ++ y ∷ []
    tails e = cc

    both : a ≡ b → (xs ≡ ys) × (x ≡ y) → (a ∷ xs ≡ b ∷ ys) × (x ≡ y)
    both first others = (let tail : xs ≡ ys = others.0 in cc, others.1)

-- what an update puts where the key is there
module _ (shape : Shape) (cpu : ℕ) (spare : Option ℕ) (side : Side) (flags : ℕ) (key value : List ℕ) where
  looks_nowhere : (put : Put) (looks : List Turn) (bodies : List Stored) → LooksFor shape cpu spare put looks → AllowsInBucket shape cpu (Update side flags key value None put) bodies → IsSome (present key bodies) → looks ≡ []
  unfolding AllowsInBucket
  looks_nowhere (puts.Added e) looks bodies for allowed there = absurd (absent_not_there (present key bodies) allowed.0 there)
  looks_nowhere (puts.Replaced new old) looks bodies for allowed there = for.0
  looks_nowhere (puts.Written e) looks bodies for allowed there = for
  looks_nowhere puts.Exists looks bodies for allowed there = for
  looks_nowhere puts.Absent looks bodies for allowed there = for
  looks_nowhere puts.Full looks bodies for allowed there = absurd (absent_not_there (present key bodies) allowed.0 there)

  -- an update's turns are looks, and that of the bucket at the end, as these steps did them
  pub record EndsInBucket (looks : List Turned) (step : Turned) (turns : List Turn) (reply : Reply) : Type 0 where
    pub trace : IsPutTrace shape cpu spare side flags key value turns reply
    pub looks_did : AllDid shape cpu looks trace.looks
    pub did : Did shape cpu step (on_bucket_of shape key (Update side flags key value None trace.put))

  pub ends_in_bucket : (steps looks : List Turned) (step : Turned) (turns : List Turn) (reply : Reply) → steps ≡ looks ++ step ∷ [] → AllDid shape cpu steps turns
      → IsUpdateTrace shape cpu spare side flags key value turns reply → EndsInBucket looks step turns reply
  ends_in_bucket steps looks step turns reply are did trace =
      ⊎_elim (λ unknown. absurd (never_empty looks step (sym (did_none shape cpu steps turns unknown.1 did) ∙ are))) (λ known. on known.1) trace
    where
      on : IsPutTrace shape cpu spare side flags key value turns reply → EndsInBucket looks step turns reply
      on put =
          let at = did_at shape cpu steps put.looks (on_bucket_of shape key (Update side flags key value None put.put)) [] (subst (λ (l : List Turn). AllDid shape cpu steps l) put.turns_are did) in
          let back : at.back ≡ [] = did_none shape cpu at.back [] refl at.back_did in
          let same = same_end looks at.front step at.step (sym are ∙ at.steps_are ∙ ap (λ (l : List Turned). at.front ++ at.step ∷ l) back) in
          record {
            trace = put;
            looks_did = subst (λ (l : List Turned). AllDid shape cpu l put.looks) (sym same.0) at.front_did;
            did = subst (λ (x : Turned). Did shape cpu x (on_bucket_of shape key (Update side flags key value None put.put))) (sym same.1) at.did;
          }

pub present_pops_nothing : PresentKeyPopsNothing
present_pops_nothing t before after side flags key value reply plain called looks step are there =
    let turns : List Turn = turns_of (map (turn_at t.shape) called.told) in
    let trace : IsUpdateTrace t.shape before.cpu (spare_element before) side flags key value turns reply =
    trace_plain t.shape before.cpu (spare_element before) (map (turn_at t.shape) called.told) reply plain (verbs.Update side flags key value) called.trace in
    let ends = ends_in_bucket t.shape before.cpu (spare_element before) side flags key value called.steps looks step turns reply are (called_did t before after (verbs.Update side flags key value) reply called) trace in
    did_none t.shape before.cpu looks ends.trace.looks
    (looks_nowhere t.shape before.cpu (spare_element before) side flags key value ends.trace.put ends.trace.looks (bodies_in (lay t.shape step)) ends.trace.looks_are
    (allowed_there t.shape before.cpu (Update side flags key value None ends.trace.put) (lay t.shape step) ends.did.allowed) there)
    ends.looks_did

-- the spare
module _ (shape : Shape) (cpu : ℕ) (spare : Option ℕ) (side : Side) (flags : ℕ) (key value : List ℕ) where
  abbrev Swaps : Option ℕ → List Stored → Stored → Type 0
  Swaps now bodies old = (now ≡ Some old.element) × IsPresentWith key bodies (λ body. spare ≡ Some body.element)

  fact_of : (found : Option Stored) (old : Stored) (Fact : Stored → Type 0) → found ≡ Some old → MatchOption found ⊥ Fact → Fact old
  fact_of None old Fact is there = absurd there
  fact_of (Some body) old Fact is there = subst Fact (same is) there
    where
      same : Some body ≡ Some old → body ≡ old
      same s = cc

  swaps : (put : Put) (looks turns : List Turn) (bodies : List Stored) (old : Stored) → is_percpu shape.kind ≡ false → LooksFor shape cpu spare put looks → Done ≡ reply_of_put put
      → AllowsInBucket shape cpu (Update side flags key value None put) bodies → present key bodies ≡ Some old
      → Swaps (spare_after_put spare put) (bucket_after shape cpu (Update side flags key value None put) bodies) old
  unfolding AllowsInBucket bucket_after
  swaps (puts.Added e) looks turns bodies old single for is allowed there = absurd (none-some old (sym allowed.0 ∙ there))
  swaps (puts.Replaced new gone) looks turns bodies old single for is allowed there = (
    ap Some (sym (fact_of (present key bodies) old (λ body. (body.element ≡ gone) × (flags ≢ 1) × IsFalse (is_percpu shape.kind)) there allowed).0),
    subst (λ (o : Option Stored). MatchOption o ⊥ (λ body. spare ≡ Some body.element)) (sym (new_there shape side cpu new key value (without_key key bodies))) for.1,
  )
  swaps (puts.Written e) looks turns bodies old single for is allowed there =
      let has : is_percpu shape.kind ≡ true = (fact_of (present key bodies) old (λ body. (body.element ≡ e) × (flags ≢ 1) × IsTrue (is_percpu shape.kind)) there allowed).2 in absurd cc
  swaps puts.Exists looks turns bodies old single for is allowed there = absurd cc
  swaps puts.Absent looks turns bodies old single for is allowed there = absurd cc
  swaps puts.Full looks turns bodies old single for is allowed there = absurd cc

  -- looks leave the spare
  spare_past : (s : Option ℕ) (xs : List Turn) (turn : Turn) → xs ≡ [] → spare_after s (xs ++ turn ∷ []) ≡ spare_after_part s turn.part
  spare_past s [] turn none = refl
  spare_past s (x ∷ xs) turn none = absurd cc

pub present_takes_spare : PresentKeyTakesTheSpare
present_takes_spare t before after side flags key value plain single called looks step are old there =
    let turns : List Turn = turns_of (map (turn_at t.shape) called.told) in
    let spare : Option ℕ = spare_element before in
    let trace : IsUpdateTrace t.shape before.cpu spare side flags key value turns Done =
    trace_plain t.shape before.cpu spare (map (turn_at t.shape) called.told) Done plain (verbs.Update side flags key value) called.trace in
    let ends = ends_in_bucket t.shape before.cpu spare side flags key value called.steps looks step turns Done are (called_did t before after (verbs.Update side flags key value) Done called) trace in
    let bodies : List Stored = bodies_in (lay t.shape step) in
    let allowed = allowed_there t.shape before.cpu (Update side flags key value None ends.trace.put) (lay t.shape step) ends.did.allowed in
    let nowhere : ends.trace.looks ≡ [] = looks_nowhere t.shape before.cpu spare side flags key value ends.trace.put ends.trace.looks bodies ends.trace.looks_are allowed (subst (λ (o : Option Stored). IsSome o) (sym there) refl) in
    let swapped = swaps t.shape before.cpu spare side flags key value ends.trace.put ends.trace.looks turns bodies old single ends.trace.looks_are ends.trace.reply_is allowed there in
    let now : spare_element after ≡ spare_after_put spare ends.trace.put =
    called.spare ∙ plain_spare t.shape spare (map (turn_at t.shape) called.told) plain ∙ ap (spare_after spare) ends.trace.turns_are
    ∙ spare_past t.shape before.cpu spare side flags key value spare ends.trace.looks (on_bucket_of t.shape key (Update side flags key value None ends.trace.put)) nowhere in (
      now ∙ swapped.0,
      subst (λ (l : List Stored). IsPresentWith key l (λ body. spare ≡ Some body.element)) (sym (left_there t.shape before.cpu step (Bucket (bucket_of_key t.shape key)) (Update side flags key value None ends.trace.put) ends.did)) swapped.1,
    )

-- Deletes

pub deleted_is_pushed : DeletedIsPushed
deleted_is_pushed t before after key plain called =
    let trace : IsDeleteTrace t.shape before.cpu key (turns_of (map (turn_at t.shape) called.told)) Done =
    trace_plain t.shape before.cpu (spare_element before) (map (turn_at t.shape) called.told) Done plain (verbs.Delete key) called.trace in
    gone trace.gone (subst (λ (turns : List Turn). AllDid t.shape before.cpu called.steps turns) trace.turns_are (called_did t before after (verbs.Delete key) Done called)) trace.reply_is
  where
    gone : (out : Option ℕ) → AllDid t.shape before.cpu called.steps (pushes before.cpu out ++ on_bucket_of t.shape key (Delete key out) ∷ []) → Done ≡ reply_of_gone out
        → (e : ℕ) × AllDid t.shape before.cpu called.steps (on_freelist_of before.cpu (Pushed e) ∷ on_bucket_of t.shape key (Delete key (Some e)) ∷ [])
    gone None did is = absurd cc
    gone (Some e) did is = (e, did)
