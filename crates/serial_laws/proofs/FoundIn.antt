-- What a turn of a bucket may be is determined by what lies there.
use Rattle.std.proofs.Common.{◌≡◌, ◌≢◌, ℕ, eqb, List, ap, ◌∙◌, sym, subst}
use Rattle.std.specs.Prelude.{Option, None, Some, MatchOption, IsTrue, IsFalse, option_map}
use Rattle.std.proofs.lemmas.Bool.{eq-eqb, ne_eqb, cond-true, cond-false}
use Rattle.std.proofs.lemmas.Option.{none-some}
use Rattle.map_types.specs.declared.attr.Shape.{Shape}
use Rattle.map_types.specs.declared.kind.Side.{Side}
use Rattle.map_types.specs.declared.kind.Side.TheVariants.{Sys}
use Rattle.map_types.specs.Kind.{is_percpu}
use Rattle.map_types.specs.Sides.{value_read}
use Rattle.map_types.specs.Stored.{Stored}
use Rattle.place_words.specs.declared.bucket_part.BucketPart.TheVariants.{Lookup, Delete, Take}
use Rattle.place_words.specs.declared.bucket_part.Put.{Put}
use Rattle.place_words.specs.declared.bucket_part.Put.TheVariants as puts
use Rattle.place_words.specs.Bodies.{present}
use Rattle.place_words.specs.Buckets.{IsPresentWith, AllowsInBucket, AllowsPut}
use Rattle.place_words.specs.Evicting.{MayPut, MayPutAlone}
use Rattle.place_words.specs.Logs.{put_offered, put_alone, got_by}

module _ (key : List ℕ) (bodies : List Stored) where
  -- the key is absent, and can't be present
  pub absent_found : (found : Option Stored) → present key bodies ≡ found → present key bodies ≡ None → found ≡ None
  absent_found found is none = sym is ∙ none

  -- or it is present, with a fact
  pub found_with : (found : Option Stored) (Fact : Stored → Type 0) → present key bodies ≡ found → IsPresentWith key bodies Fact → MatchOption found ⊥ Fact
  found_with found Fact is there = subst (λ (o : Option Stored). MatchOption o ⊥ Fact) is there

module _ (shape : Shape) (side : Side) (cpu : ℕ) (key : List ℕ) (bodies : List Stored) where
  reads_are : (found : Option Stored) (got : ℕ × List ℕ) → MatchOption found ⊥ (λ (body : Stored). (body.element ≡ got.0) × (got.1 ≡ value_read shape side cpu body.values)) → Some got ≡ got_by shape side cpu found
  reads_are None got there = absurd there
  reads_are (Some body) got there = (λ i. Some (sym there.0 i, there.1 i))

  pub lookup_gets : (got : Option (ℕ × List ℕ)) (found : Option Stored) → present key bodies ≡ found → AllowsInBucket shape cpu (Lookup side key got) bodies → got ≡ got_by shape side cpu found
  unfolding AllowsInBucket
  lookup_gets None found is may = ap (got_by shape side cpu) (sym (absent_found key bodies found is may))
  lookup_gets (Some got) found is may = reads_are found got (found_with key bodies found _ is may)

module _ (shape : Shape) (cpu : ℕ) (key : List ℕ) (bodies : List Stored) where
  pub take_gets : (got : Option (ℕ × List ℕ)) (found : Option Stored) → present key bodies ≡ found → AllowsInBucket shape cpu (Take key got) bodies → got ≡ got_by shape Sys cpu found
  unfolding AllowsInBucket
  take_gets None found is may = ap (got_by shape Sys cpu) (sym (absent_found key bodies found is may))
  take_gets (Some got) found is may = reads_are shape Sys cpu key bodies found got (found_with key bodies found _ is may)

  deleted_is : (found : Option Stored) (e : ℕ) → MatchOption found ⊥ (λ (body : Stored). body.element ≡ e) → Some e ≡ option_map (λ (stored : Stored). stored.element) found
  deleted_is None e there = absurd there
  deleted_is (Some body) e there = ap Some (sym there)

  pub delete_gets : (gone : Option ℕ) (found : Option Stored) → present key bodies ≡ found → AllowsInBucket shape cpu (Delete key gone) bodies → gone ≡ option_map (λ (stored : Stored). stored.element) found
  unfolding AllowsInBucket
  delete_gets None found is may = ap (option_map (λ (stored : Stored). stored.element)) (sym (absent_found key bodies found is may))
  delete_gets (Some e) found is may = deleted_is found e (found_with key bodies found _ is may)

-- What an update puts

module _ (shape : Shape) (flags : ℕ) (key : List ℕ) (bodies : List Stored) (e : ℕ) where
  added_is : (found : Option Stored) (added : ℕ) → found ≡ None → flags ≢ 2 → added ≡ e → puts.Added added ≡ put_offered shape flags e found
  added_is None added none other is = ap puts.Added is ∙ sym (cond-false (eqb flags 2) _ _ (ne_eqb flags 2 other))
  added_is (Some old) added none other is = absurd (none-some old (sym none))

  absent_is : (found : Option Stored) → found ≡ None → flags ≡ 2 → puts.Absent ≡ put_offered shape flags e found
  absent_is None none two = sym (cond-true (eqb flags 2) _ _ (eq-eqb flags 2 two))
  absent_is (Some old) none two = absurd (none-some old (sym none))

  replaced_is : (found : Option Stored) (new old : ℕ) → MatchOption found ⊥ (λ (body : Stored). (body.element ≡ old) × (flags ≢ 1) × IsFalse (is_percpu shape.kind)) → new ≡ e → puts.Replaced new old ≡ put_offered shape flags e found
  replaced_is None new old there is = absurd there
  replaced_is (Some body) new old there is =
      (λ i. puts.Replaced (is i) (sym there.0 i)) ∙ sym (cond-false (eqb flags 1) _ _ (ne_eqb flags 1 there.1) ∙ cond-false (is_percpu shape.kind) _ _ there.2)

  written_is : (found : Option Stored) (written : ℕ) → MatchOption found ⊥ (λ (body : Stored). (body.element ≡ written) × (flags ≢ 1) × IsTrue (is_percpu shape.kind)) → puts.Written written ≡ put_offered shape flags e found
  written_is None written there = absurd there
  written_is (Some body) written there = ap puts.Written (sym there.0) ∙ sym (cond-false (eqb flags 1) _ _ (ne_eqb flags 1 there.1) ∙ cond-true (is_percpu shape.kind) _ _ there.2)

  exists_is : (found : Option Stored) → MatchOption found ⊥ (λ (body : Stored). flags ≡ 1) → puts.Exists ≡ put_offered shape flags e found
  exists_is None there = absurd there
  exists_is (Some body) there = sym (cond-true (eqb flags 1) _ _ (eq-eqb flags 1 there))

  pub offered_puts : (put : Put) (found : Option Stored) → present key bodies ≡ found → MayPut shape e put → AllowsPut shape flags key put bodies → put ≡ put_offered shape flags e found
  offered_puts (puts.Added added) found is may allowed = added_is found added (absent_found key bodies found is allowed.0) allowed.1 may
  offered_puts (puts.Replaced new old) found is may allowed = replaced_is found new old (found_with key bodies found _ is allowed) may.0
  offered_puts (puts.Written written) found is may allowed = written_is found written (found_with key bodies found _ is allowed)
  offered_puts puts.Exists found is may allowed = exists_is found (found_with key bodies found _ is allowed)
  offered_puts puts.Absent found is may allowed = absent_is found (absent_found key bodies found is allowed.0) allowed.1
  offered_puts puts.Full found is may allowed = absurd may

module _ (shape : Shape) (flags : ℕ) (key : List ℕ) (bodies : List Stored) where
  alone_written : (found : Option Stored) (written : ℕ) → MatchOption found ⊥ (λ (body : Stored). (body.element ≡ written) × (flags ≢ 1) × IsTrue (is_percpu shape.kind)) → puts.Written written ≡ put_alone found
  alone_written None written there = absurd there
  alone_written (Some body) written there = ap puts.Written (sym there.0)

  pub alone_puts : (put : Put) (found : Option Stored) → present key bodies ≡ found → MayPutAlone put → AllowsPut shape flags key put bodies → put ≡ put_alone found
  alone_puts (puts.Added added) found is may allowed = absurd may
  alone_puts (puts.Replaced new old) found is may allowed = absurd may
  alone_puts (puts.Written written) found is may allowed = alone_written found written (found_with key bodies found _ is allowed)
  alone_puts puts.Exists found is may allowed = absurd may
  alone_puts puts.Absent found is may allowed = ap put_alone (sym (absent_found key bodies found is allowed.0))
  alone_puts puts.Full found is may allowed = absurd may
