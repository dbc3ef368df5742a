-- From what a chain's calls say to each kind of turn of a bucket: it is allowed there and leaves what the bucket is, all
-- bodies still have the map's sizes, and which elements lie there.
use Rattle.std.proofs.Common.{◌≡◌, ◌≢◌, ℕ, suc, ◌<◌, true, false, eqb, List, [], ◌∷◌, length, map, get_or, Option, None, Some, refl, ap, sym, ◌∙◌, subst, arith}
use Rattle.std.specs.Prelude.{All, MatchOption, slice_get, if◌then◌else◌}
use Rattle.std.proofs.lemmas.List.Elements.{All-cons}
use Rattle.std.proofs.lemmas.Option.{slice_get-get_or}
use Rattle.map_types.specs.declared.attr.Shape.{Shape}
use Rattle.map_types.specs.declared.kind.Side.{Side}
use Rattle.map_types.specs.declared.kind.Side.TheVariants.{Sys}
use Rattle.map_types.specs.Kind.{is_lru, is_percpu}
use Rattle.map_types.specs.Sides.{value_read}
use Rattle.map_types.specs.Stored.{Stored, IsSized}
use Rattle.place_words.specs.declared.bucket_part.BucketPart.{BucketPart}
use Rattle.place_words.specs.declared.bucket_part.BucketPart.TheVariants.{Lookup, Update, Delete, Take}
use Rattle.place_words.specs.declared.bucket_part.Put.TheVariants as puts
use Rattle.place_words.specs.Bodies.{present, without_key, numbers}
use Rattle.place_words.specs.Buckets.{AllowsInBucket, bucket_after, new_stored, written_over}
use Rattle.map_types.specs.ElementLists.{times, without}
use Rattle.map_types.proofs.RowLemmas.{by_test}
use Rattle.place_words.proofs.BucketLaws.{key_taken, numbers_written}
use Rattle.place_words.proofs.ElementLemmas.{times_cons_same, times_cons_other, times_without_same, times_without_other}
use Rattle.bucket_chain.specs.Turns.{IsTurn}
use Rattle.bucket_chain.proofs.SizeLaws.{sizes_stay}
use Rattle.bucket_chain.proofs.Turns.{found_body, found_key, lookup_misses, lookup_finds, update_exists, update_absent, update_full, update_adds, update_replaces, delete_misses, delete_takes, take_misses, take_takes}

-- what a turn of a bucket leaves: each element lies there as often as it stands in this list
pub record IsTurnWith (shape : Shape) (cpu : ℕ) (part : BucketPart) (before after : List Stored) (elements : List ℕ) : Type 0 where
  pub turn : IsTurn shape cpu part before after
  pub sized : All (IsSized shape) after
  pub counts : (x : ℕ) → times x (numbers after) ≡ times x elements

-- an element and what is left are all that there were
pub left_is : (e : ℕ) (left all : List ℕ) → ((x : ℕ) → times x (e ∷ left) ≡ times x all) → (x : ℕ) → times x left ≡ times x (without e all)
left_is e left all out x =
    let here : times e left ≡ times e (without e all) = omega (arith, out e, times_cons_same e left, times_without_same e all) in
    by_test x e (λ _. times x left ≡ times x (without e all))
    (λ same. subst (λ k. times k left ≡ times k (without e all)) (sym same) here)
    (λ other. sym (times_cons_other x e left other) ∙ out x ∙ sym (times_without_other x e all other))

-- the elements without that of a key
without_is : (key : List ℕ) (bodies : List Stored) (body : Stored) → present key bodies ≡ Some body → (x : ℕ) → times x (numbers (without_key key bodies)) ≡ times x (without body.element (numbers bodies))
without_is key bodies body found x =
    left_is body.element (numbers (without_key key bodies)) (numbers bodies) (key_taken key bodies body found) x

-- Turns that leave the bucket. The body of a key is given by the two clauses of its search: that what stands at the place is
-- that of the key, and that it is this body.
module _ (shape : Shape) (cpu : ℕ) (before : List Stored) (sized : All (IsSized shape) before) where
  pub unchanged_turn : (part : BucketPart) → IsTurn shape cpu part before before → IsTurnWith shape cpu part before before (numbers before)
  unchanged_turn part turn = record { turn = turn; sized = sized; counts = λ x. refl }

  pub lookup_missed_turn : (side : Side) (key : List ℕ) → present key before ≡ None → IsTurnWith shape cpu (Lookup side key None) before before (numbers before)
  lookup_missed_turn side key none = unchanged_turn _ (lookup_misses shape cpu before side key none)

  pub lookup_got_turn : (side : Side) (key : List ℕ) (place : ℕ) (body : Stored) (e : ℕ) (bytes : List ℕ) → slice_get before place ≡ present key before → Some body ≡ slice_get before place
      → e ≡ body.element → bytes ≡ value_read shape side cpu body.values → IsTurnWith shape cpu (Lookup side key (Some (e, bytes))) before before (numbers before)
  lookup_got_turn side key place body e bytes found at number read =
      unchanged_turn _ (lookup_finds shape cpu before side key body (e, bytes) (found_body key before place body found at) number read)

  -- nothing of the body is told
  pub exists_turn : (side : Side) (flags : ℕ) (key value : List ℕ) (offer : Option ℕ) (place : ℕ) → slice_get before place ≡ present key before → place < length before
      → flags ≡ 1 → IsTurnWith shape cpu (Update side flags key value offer puts.Exists) before before (numbers before)
  exists_turn side flags key value offer place found within is =
      let blank : Stored = record { element = 0; key = []; values = [] } in
      let held = sym found ∙ slice_get-get_or before place blank within in
      unchanged_turn _ (update_exists shape cpu before side flags key value offer (get_or before place blank) held is)

  pub absent_turn : (side : Side) (flags : ℕ) (key value : List ℕ) (offer : Option ℕ) → present key before ≡ None → flags ≡ 2
      → IsTurnWith shape cpu (Update side flags key value offer puts.Absent) before before (numbers before)
  absent_turn side flags key value offer none is =
      unchanged_turn _ (update_absent shape cpu before side flags key value offer none is)

  pub full_turn : (side : Side) (flags : ℕ) (key value : List ℕ) (offer : Option ℕ) → present key before ≡ None → flags ≢ 2 → is_lru shape.kind ≡ false
      → IsTurnWith shape cpu (Update side flags key value offer puts.Full) before before (numbers before)
  full_turn side flags key value offer none other plain =
      unchanged_turn _ (update_full shape cpu before side flags key value offer none other plain)

  pub delete_missed_turn : (key : List ℕ) → present key before ≡ None → IsTurnWith shape cpu (Delete key None) before before (numbers before)
  delete_missed_turn key none = unchanged_turn _ (delete_misses shape cpu before key none)

  pub take_missed_turn : (key : List ℕ) → present key before ≡ None → IsTurnWith shape cpu (Take key None) before before (numbers before)
  take_missed_turn key none = unchanged_turn _ (take_misses shape cpu before key none)

-- Turns that change it
module _ (shape : Shape) (cpu : ℕ) (before after : List Stored) (sized : All (IsSized shape) before) where
  -- the bodies without that of a key
  without_sized : (key : List ℕ) → All (IsSized shape) (without_key key before)
  unfolding bucket_after
  without_sized key = sizes_stay shape cpu before sized (Delete key (Some 0)) tt

  -- one `add_head` of a body that was filled for the key
  pub added_turn : (side : Side) (flags : ℕ) (key value : List ℕ) (offer : Option ℕ) (e : ℕ) (body : Stored) → present key before ≡ None → flags ≢ 2
      → body ≡ new_stored shape side cpu e key value → IsSized shape body → after ≡ body ∷ before
      → IsTurnWith shape cpu (Update side flags key value offer (puts.Added e)) before after (e ∷ numbers before)
  added_turn side flags key value offer e body none other new fits left = record {
    turn = update_adds shape cpu before after side flags key value offer e body none other new left;
    sized = subst (λ (l : List Stored). All (IsSized shape) l) (sym left) (All-cons (IsSized shape) body before fits sized);
    counts = λ x. ap (λ (l : List Stored). times x (numbers l)) left ∙ ap (λ (one : Stored). times x (one.element ∷ numbers before)) new;
  }

  -- one `replace_head` by such a body, which gave back the old one
  pub replaced_turn : (side : Side) (flags : ℕ) (key value : List ℕ) (offer : Option ℕ) (e was : ℕ) (body old : Stored) → flags ≢ 1 → is_percpu shape.kind ≡ false
      → body ≡ new_stored shape side cpu e key value → IsSized shape body → present body.key before ≡ Some old → after ≡ body ∷ without_key body.key before → was ≡ old.element
      → IsTurnWith shape cpu (Update side flags key value offer (puts.Replaced e was)) before after (e ∷ without was (numbers before))
  replaced_turn side flags key value offer e was body old other kind new fits found left number =
      let turn = update_replaces shape cpu before after side flags key value offer e body old other kind new found left in
      let rest = without_key body.key before in
      record {
        turn = subst (λ k. IsTurn shape cpu (Update side flags key value offer (puts.Replaced e k)) before after) (sym number) turn;
        sized = subst (λ (l : List Stored). All (IsSized shape) l) (sym left) (All-cons (IsSized shape) body rest fits (without_sized body.key));
        counts = λ x. ap (λ (l : List Stored). times x (numbers l)) left
            ∙ ap (λ k. if eqb body.element x then suc k else k) (without_is body.key before old found x)
            ∙ ap (λ (one : Stored). times x (one.element ∷ without old.element (numbers before))) new
            ∙ ap (λ k. times x (e ∷ without k (numbers before))) (sym number);
      }

  -- one write of a side's value over the values of the key
  pub written_turn : (side : Side) (flags : ℕ) (key value : List ℕ) (offer : Option ℕ) (e place : ℕ) (body : Stored) → flags ≢ 1 → is_percpu shape.kind ≡ true
      → slice_get before place ≡ present key before → Some body ≡ slice_get before place → e ≡ body.element → after ≡ map (written_over shape side cpu key value) before → All (IsSized shape) after
      → IsTurnWith shape cpu (Update side flags key value offer (puts.Written e)) before after (numbers before)
  unfolding AllowsInBucket bucket_after
  written_turn side flags key value offer e place body other kind found at number wrote fits = record {
    turn = record {
      allowed = subst (λ (o : Option Stored). MatchOption o ⊥ (λ one. (one.element ≡ e) × (flags ≢ 1) × (is_percpu shape.kind ≡ true))) (at ∙ found) (sym number, other, kind);
      left = wrote;
    };
    sized = fits;
    counts = λ x. ap (λ (l : List Stored). times x (numbers l)) wrote ∙ ap (times x) (numbers_written shape side cpu key value before);
  }

  gone_counts : (key : List ℕ) (body : Stored) (e : ℕ) → present key before ≡ Some body → after ≡ without_key body.key before → e ≡ body.element → (x : ℕ) → times x (numbers after) ≡ times x (without e (numbers before))
  gone_counts key body e held left number x =
      ap (λ (l : List Stored). times x (numbers l)) (left ∙ ap (λ (k : List ℕ). without_key k before) (found_key key before body held))
      ∙ without_is key before body held x ∙ ap (λ k. times x (without k (numbers before))) (sym number)

  -- one `take_out` of the place that was found for the key
  pub gone_turn : (key : List ℕ) (place : ℕ) (body : Stored) (e : ℕ) → slice_get before place ≡ present key before → Some body ≡ slice_get before place
      → after ≡ without_key body.key before → e ≡ body.element → IsTurnWith shape cpu (Delete key (Some e)) before after (without e (numbers before))
  gone_turn key place body e found at left number =
      let held = found_body key before place body found at in
      record {
        turn = subst (λ k. IsTurn shape cpu (Delete key (Some k)) before after) (sym number) (delete_takes shape cpu before after key body held left);
        sized = subst (λ (l : List Stored). All (IsSized shape) l) (sym left) (without_sized body.key);
        counts = gone_counts key body e held left number;
      }

  -- the same of a take, which gives what the system call reads of the body
  pub taken_turn : (key : List ℕ) (place : ℕ) (body : Stored) (e : ℕ) (bytes : List ℕ) → slice_get before place ≡ present key before → Some body ≡ slice_get before place
      → after ≡ without_key body.key before → e ≡ body.element → bytes ≡ value_read shape Sys cpu body.values → IsTurnWith shape cpu (Take key (Some (e, bytes))) before after (without e (numbers before))
  taken_turn key place body e bytes found at left number read =
      let held = found_body key before place body found at in
      record {
        turn = subst (λ k. IsTurn shape cpu (Take key (Some (k, bytes))) before after) (sym number) (take_takes shape cpu before after key body bytes held read left);
        sized = subst (λ (l : List Stored). All (IsSized shape) l) (sym left) (without_sized body.key);
        counts = gone_counts key body e held left number;
      }
