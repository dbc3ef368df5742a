-- From what an update does in its key's bucket to what its turn leaves, for each that it may put.
use Rattle.std.proofs.Common.{◌≡◌, ◌≢◌, ℕ, suc, ◌<◌, cond, true, false, List, [], ◌∷◌, sym, refl, ap, ◌∙◌, subst, arith, Option, Some, None}
use Rattle.std.specs.Prelude.{IfSome, MatchOption, slice_get, map, All}
use Rattle.map_types.specs.declared.attr.Shape.{Shape}
use Rattle.map_types.specs.declared.kind.DomainId.TheVariants.{Bucket}
use Rattle.map_types.specs.Kind.{is_lru, is_percpu}
use Rattle.map_types.specs.Stored.{Stored, IsSized}
use Rattle.map_types.specs.ElementLists.{times, without, IsIn}
use Rattle.map_types.proofs.RowLemmas.{by_test}
use Rattle.percpu_values.specs.BodyList.{BodyList}
use Rattle.bucket_chain.specs.Turns.{IsTurn}
use Rattle.place_words.specs.declared.bucket_part.BucketPart.{BucketPart}
use Rattle.place_words.specs.declared.bucket_part.BucketPart.TheVariants.{Update}
use Rattle.place_words.specs.declared.bucket_part.Put.{Put}
use Rattle.place_words.specs.declared.bucket_part.Put.TheVariants as puts
use Rattle.place_words.specs.declared.history.Part.{Part}
use Rattle.place_words.specs.Bodies.{numbers, present, without_key}
use Rattle.place_words.specs.Buckets.{AllowsInBucket, AllowsPut, bucket_after, bucket_after_put, bucket_marks, marks_of_put, new_stored, written_over}
use Rattle.place_words.specs.Histories.{in_bucket}
use Rattle.place_words.proofs.BucketLaws.{present_is_in}
use Rattle.place_words.specs.declared.step.Lists.{Lists}
use Rattle.place_words.specs.Steps.{with_row, without_row}
use Rattle.place_words.proofs.ElementLemmas.{times_cons_same, times_cons_other, times_without_same, times_without_other}
use Rattle.place_table.specs.Contents.{lists_of}
use Rattle.place_table.specs.InBucket.{IsAt}
use Rattle.place_table.specs.Passes.{PassView, TableView, CanAttach, CanMark, GaveBack, MayGiveBack, Attached, Detached}
use Rattle.place_table.specs.declared.content.Content.TheVariants as contents
use Rattle.place_table.specs.Views.{with_in_hand, without_in_hand}
use Rattle.place_table.proofs.BucketTurns.{IsTurnWith, unchanged_turn, added_turn, replaced_turn, written_turn}
use Rattle.place_table.proofs.Entries.{append_nil}
use Rattle.place_table.proofs.BucketBodies.{sized_at}
use Rattle.place_table.specs.BucketHeld.{HoldsBucket}
use Rattle.place_table.specs.BucketPuts.{Asked, IsOffered, IsRefusal, Adds, Writes, Replaces, offer_on, update_part, with_offer}
use Rattle.place_table.specs.BucketTurns.{GivenBack, MarkedOn}
use Rattle.place_table.proofs.BucketOut.{rows_here, sets_none, is_real, can_mark_at}
use Rattle.place_table.proofs.BucketTurned.{unchanged}
use Rattle.place_words.specs.declared.owner.Owner.TheVariants as owners
use Rattle.place_words.specs.Interleaving.{bucket_steps, put_steps}
use Rattle.place_table.specs.declared.view.OwnerSeen.{OwnerSeen}
use Rattle.place_table.specs.Passes.{CanDetach}
use Rattle.place_table.proofs.BucketUnder.{Under, none_changed, under_nothing, under_marked_on, under_attached, under_detached, can_mark, can_attach, can_detach, Gives, gives}

-- an element that leaves where another came, whichever it is
swapped : (new old x : ℕ) (all : List ℕ) → IsIn old all → times x (new ∷ without old all) ≡ times x (without old (new ∷ all))
swapped new old x all there =
    by_test new old (λ z. times x (new ∷ without old all) ≡ times x (cond z all (new ∷ without old all)))
    (λ same. subst (λ n. times x (n ∷ without old all) ≡ times x all) (sym same) same_again) (λ _. refl)
  where
    same_again : times x (old ∷ without old all) ≡ times x all
    same_again =
        by_test x old (λ _. times x (old ∷ without old all) ≡ times x all)
        (λ is. subst (λ n. times n (old ∷ without old all) ≡ times n all) (sym is) (let more = times_cons_same old (without old all) in let fewer = times_without_same old all in omega arith))
        (λ other. times_cons_other x old (without old all) other ∙ times_without_other x old all other)

-- what lies in a bucket in which these bodies stand
abbrev lying : List Stored → Lists
lying bodies = lists_of (in_bucket bodies)

-- what may be put by a refusal
pub exists_allowed : (shape : Shape) {flags place : ℕ} {key : List ℕ} {bodies : List Stored} → IsAt key place bodies → flags ≡ 1 → AllowsPut shape flags key puts.Exists bodies
exists_allowed shape {flags} {place} {key} {bodies} at is = subst (λ (o : Option Stored). MatchOption o ⊥ (λ _. flags ≡ 1)) (sym at.present_is) is

-- An element that comes to the bucket, and one that leaves it

module _ {t : TableView} {bucket : ℕ} {q : PassView} {bodies : List Stored} (h : HoldsBucket t bucket q bodies) where
  -- one that is offered may be attached
  pub can_attach_offered : {body : Stored} (e : ℕ) → IsOffered t bucket q body → e ≡ body.element → CanAttach t e bucket q
  can_attach_offered {body} e offered e_is = subst (λ n. CanAttach t n bucket q) (sym e_is) (can_attach h body.element offered.in_hand offered.not_carried offered.hashed)

  -- what it changes of owners
  abbrev attaching : ℕ → List OwnerSeen
  attaching e = record { element = e; owner = owners.Bucket bucket } ∷ []

  module _ (e : ℕ) (r : PassView) (attached : Attached bucket e q r) where
    pub under_added : Under t bucket q r bodies (with_row (Bucket bucket) e (lying bodies)) [] (attaching e) (without_in_hand e q.cpu q.view.hand)
    under_added = under_attached (under_nothing h) e r attached

    -- its bit may be set
    pub can_mark_new : e < t.shape.elements → CanMark t e bucket r
    can_mark_new real = can_mark under_added.holds e (let more = times_cons_same e (numbers bodies) in let some_there : 0 < times e (e ∷ numbers bodies) = omega arith in some_there) real

    module _ (r2 : PassView) (marked : MarkedOn t e r r2) where
      under_marked_new : Under t bucket q r2 bodies (with_row (Bucket bucket) e (lying bodies)) (cond (is_lru t.shape.kind) (e ∷ []) []) (attaching e) (without_in_hand e q.cpu q.view.hand)
      under_marked_new = under_marked_on e r2 under_added marked

      -- and that of a key's body may be detached
      pub can_detach_was : (key : List ℕ) (was : Stored) (old : ℕ) → present key bodies ≡ Some was → old ≡ was.element → CanDetach t old bucket r2
      can_detach_was key was old holder old_is = can_detach under_marked_new.holds old still_inside (subst (λ n. n < t.shape.elements) (sym old_is) (is_real h key was holder))
        where
          still_inside : IsIn old (e ∷ numbers bodies)
          still_inside =
              let there : 0 < times old (numbers bodies) = subst (λ n. IsIn n (numbers bodies)) (sym old_is) (present_is_in key bodies was holder) in
              by_test e old (λ z. 0 < cond z (suc (times old (numbers bodies))) (times old (numbers bodies))) (λ _. omega arith) (λ _. there)

      pub under_replaced : (old : ℕ) (r3 : PassView) → Detached bucket old r2 r3
          → Under t bucket q r3 bodies (without_row old (with_row (Bucket bucket) e (lying bodies))) (cond (is_lru t.shape.kind) (e ∷ []) []) (record { element = old; owner = owners.Hand q.cpu } ∷ attaching e) (with_in_hand old q.cpu (without_in_hand e q.cpu q.view.hand))
      under_replaced old r3 detached = under_detached under_marked_new old r3 detached

-- What is owed where the bucket is given back, and what it leaves

module _ {t : TableView} {bucket : ℕ} {q : PassView} (chain : BodyList) (h : HoldsBucket t bucket q chain.bodies) (asked : Asked) where
  abbrev key : List ℕ
  key = asked.update.key

  abbrev flags : ℕ
  flags = asked.update.flags

  -- the part of an update that put this
  abbrev pub part_of : Put → BucketPart
  part_of put = Update asked.update.side flags key asked.update.value asked.offer put

  -- An update that is refused
  module _ (put : Put) (refusal : IsRefusal put) where
    refused_turn : AllowsPut t.shape flags key put chain.bodies → IsTurn t.shape q.cpu (part_of put) chain.bodies chain.bodies
    unfolding AllowsInBucket bucket_after
    refused_turn allowed = record { allowed = allowed; left = stays put refusal }
      where
        stays : (put : Put) → IsRefusal put → chain.bodies ≡ bucket_after_put t.shape asked.update.side q.cpu key asked.update.value put chain.bodies
        stays (puts.Added e) refusal = absurd refusal
        stays (puts.Replaced new old) refusal = absurd refusal
        stays (puts.Written e) refusal = absurd refusal
        stays puts.Exists refusal = refl
        stays puts.Absent refusal = refl
        stays puts.Full refusal = refl

    refused_sets : bucket_marks (part_of put) ≡ []
    refused_sets = go put refusal
      where
        go : (put : Put) → IsRefusal put → marks_of_put put ≡ []
        go (puts.Added e) refusal = absurd refusal
        go (puts.Replaced new old) refusal = absurd refusal
        go (puts.Written e) refusal = absurd refusal
        go puts.Exists refusal = refl
        go puts.Absent refusal = refl
        go puts.Full refusal = refl

    refused_steps : bucket_steps t.shape q.cpu bucket (part_of put) ≡ []
    refused_steps = go put refusal
      where
        go : (put : Put) → IsRefusal put → put_steps q.cpu bucket put ≡ []
        go (puts.Added e) refusal = absurd refusal
        go (puts.Replaced new old) refusal = absurd refusal
        go (puts.Written e) refusal = absurd refusal
        go puts.Exists refusal = refl
        go puts.Absent refusal = refl
        go puts.Full refusal = refl

    pub refuses : AllowsPut t.shape flags key put chain.bodies → (found : Option Part) → IfSome found (λ x. x ≡ update_part asked put) → Gives (under_nothing h) chain (part_of put) found
    refuses allowed found is = unchanged chain h (part_of put) (unchanged_turn t.shape q.cpu chain.bodies h.sized (part_of put) (refused_turn allowed)) refl refused_sets refused_steps found is

  module _ {shape : Shape} {cpu : ℕ} (shape_is : shape ≡ t.shape) (cpu_is : cpu ≡ q.cpu) where
    -- A key is written in place
    module _ (place : ℕ) (at : IsAt key place chain.bodies) (body : Stored) (e : ℕ) (found_there : slice_get chain.bodies place ≡ Some body) (e_is : e ≡ body.element) where
      pub can_mark_there : CanMark t e bucket q
      can_mark_there = can_mark_at h key body e (at.present_is ∙ (sym at.body_is ∙ found_there)) e_is

      module _ (r : PassView) (marked : MarkedOn t e q r) (back : BodyList) (percpu : is_percpu t.shape.kind ≡ true) (replaces : flags ≢ 1) (wrote : back.bodies ≡ map (written_over shape asked.update.side cpu key asked.update.value) chain.bodies) (sized : All (IsSized shape) back.bodies) where
        turn_written : IsTurnWith t.shape q.cpu (part_of (puts.Written e)) chain.bodies back.bodies (numbers chain.bodies)
        turn_written =
            written_turn t.shape q.cpu chain.bodies back.bodies h.sized asked.update.side flags key asked.update.value asked.offer e place body replaces percpu (at.body_is ∙ sym at.present_is) (sym found_there) e_is
            (wrote ∙ (λ i. map (written_over (shape_is i) asked.update.side (cpu_is i) key asked.update.value) chain.bodies)) (subst (λ (s : Shape). All (IsSized s) back.bodies) shape_is sized)

        pub writes : (found : Option Part) → IfSome found (λ x. x ≡ update_part asked (puts.Written e))
            → MayGiveBack t (Bucket bucket) r (contents.Bucket back) found × ((s : PassView) → GaveBack t (Bucket bucket) r s (contents.Bucket back) found → Writes t bucket q s asked)
        writes found is =
            let g : Gives (under_marked_on e r (under_nothing h) marked) back (part_of (puts.Written e)) found =
            gives (under_marked_on e r (under_nothing h) marked) back (part_of (puts.Written e)) (numbers chain.bodies) turn_written (rows_here chain.bodies) refl refl refl (λ _. none_changed t.shape bucket q.cpu (part_of (puts.Written e)) refl) found is in
            (g.0, λ s gave. record { written = e; gives = g.1 s gave })

    -- An element was attached, whose body was filled and put at the head
    module _ (number e : ℕ) (e_is : e ≡ number) (offer_is : asked.offer ≡ offer_on shape.kind e) (filled : Stored) (filled_as : filled ≡ new_stored shape asked.update.side cpu number key asked.update.value) (fits : IsSized shape filled) (r : PassView) (attached : Attached bucket e q r) where
      filled_is : filled ≡ new_stored t.shape asked.update.side q.cpu e key asked.update.value
      filled_is = filled_as ∙ (λ i. new_stored (shape_is i) asked.update.side (cpu_is i) (sym e_is i) key asked.update.value)

      is_sized : IsSized t.shape filled
      is_sized = subst (λ (s : Shape). IsSized s filled) shape_is fits

      offer_here : asked.offer ≡ offer_on t.shape.kind number
      offer_here = offer_is ∙ (λ i. offer_on (shape_is i).kind (e_is i))

      -- for an absent key
      pub adds : (back : BodyList) → present key chain.bodies ≡ None → flags ≢ 2 → back.bodies ≡ filled ∷ chain.bodies → (found : Option Part) → IfSome found (λ x. x ≡ update_part asked (puts.Added e))
          → MayGiveBack t (Bucket bucket) r (contents.Bucket back) found × ((s : PassView) → GaveBack t (Bucket bucket) r s (contents.Bucket back) found → Adds t bucket q s asked.update number)
      adds back absent other left found is =
          let g : Gives (under_added h e r attached) back (part_of (puts.Added e)) found =
          gives (under_added h e r attached) back (part_of (puts.Added e)) (e ∷ numbers chain.bodies) (added_turn t.shape q.cpu chain.bodies back.bodies h.sized asked.update.side flags key asked.update.value asked.offer e filled absent other filled_is is_sized left)
          (λ x. ap (λ (l : List ℕ). times x (e ∷ l)) (sym (append_nil (numbers chain.bodies)))) refl refl (sets_none t.shape (part_of (puts.Added e)) refl) (λ _ x owner. refl) found is in (
            g.0,
            λ s gave. subst (λ (z : ℕ × Option ℕ). GivenBack t bucket q s (update_part (with_offer asked.update z.1) (puts.Added z.0)) (without_in_hand z.0 q.cpu q.view.hand)) (λ i. (e_is i, offer_here i)) (g.1 s gave),
          )

      -- in the place of a present key's
      module _ (r2 : PassView) (marked : MarkedOn t e r r2) (old : ℕ) (r3 : PassView) (detached : Detached bucket old r2 r3) (place : ℕ) (was : Stored) (found_there : slice_get chain.bodies place ≡ Some was) (holder : present filled.key chain.bodies ≡ Some was) (old_is : old ≡ was.element)
          (back : BodyList) (single : is_percpu t.shape.kind ≡ false) (replaces : flags ≢ 1) (left : back.bodies ≡ filled ∷ without_key filled.key chain.bodies) where
        under : Under t bucket q r3 chain.bodies (without_row old (with_row (Bucket bucket) e (lying chain.bodies))) (cond (is_lru t.shape.kind) (e ∷ []) []) (record { element = old; owner = owners.Hand q.cpu } ∷ record { element = e; owner = owners.Bucket bucket } ∷ []) (with_in_hand old q.cpu (without_in_hand e q.cpu q.view.hand))
        under = under_replaced h e r attached r2 marked old r3 detached

        gives_replaced : (found : Option Part) → IfSome found (λ x. x ≡ update_part asked (puts.Replaced e old)) → Gives under back (part_of (puts.Replaced e old)) found
        gives_replaced found is =
            gives under back (part_of (puts.Replaced e old)) (e ∷ without old (numbers chain.bodies))
            (replaced_turn t.shape q.cpu chain.bodies back.bodies h.sized asked.update.side flags key asked.update.value asked.offer e old filled was replaces single filled_is is_sized holder left old_is)
            (λ x. swapped e old x (numbers chain.bodies) (subst (λ n. IsIn n (numbers chain.bodies)) (sym old_is) (present_is_in filled.key chain.bodies was holder)) ∙ ap (times x) (sym (append_nil (without old (e ∷ numbers chain.bodies))))) refl refl refl (λ _ x owner. refl) found is

        pub replaces_it : (found : Option Part) → IfSome found (λ x. x ≡ update_part asked (puts.Replaced e old))
            → MayGiveBack t (Bucket bucket) r3 (contents.Bucket back) found × ((s : PassView) → GaveBack t (Bucket bucket) r3 s (contents.Bucket back) found → Replaces t bucket q s asked.update number was)
        replaces_it found is =
            let g = gives_replaced found is in (
              g.0,
              λ s gave. record {
                gives = subst (λ (z : ℕ × ℕ × Option ℕ). GivenBack t bucket q s (update_part (with_offer asked.update z.2) (puts.Replaced z.0 z.1)) (with_in_hand z.1 q.cpu (without_in_hand z.0 q.cpu q.view.hand))) (λ i. (e_is i, old_is i, offer_here i)) (g.1 s gave);
                is_out = (is_real h filled.key was holder, sized_at t.shape chain.bodies place was h.sized found_there);
              },
            )
