-- From what a chain's calls say to the turn of a bucket that they make: it is allowed there, and leaves what the list is.
use Rattle.std.proofs.Common.{◌≡◌, ◌≢◌, ℕ, zero, suc, ◌+◌, ◌<◌, ◌≤◌, Bool, true, false, List, [], ◌∷◌, length, map, drop, Option, None, Some, refl, ap, sym, ◌∙◌, subst}
use Rattle.std.specs.Prelude.{MatchOption, is_some, option_map, slice_get}
use Rattle.std.proofs.lemmas.Slice.Eq.{bytes_eq-Decides}
use Rattle.map_types.specs.declared.attr.Shape.{Shape}
use Rattle.map_types.specs.declared.kind.Side.{Side}
use Rattle.map_types.specs.declared.kind.Side.TheVariants.{Prog, Sys}
use Rattle.map_types.specs.Kind.{is_lru, is_percpu}
use Rattle.map_types.specs.Parts.{part_size, values_in, written_own}
use Rattle.map_types.specs.Sides.{value_read}
use Rattle.map_types.specs.Stored.{Stored}
use Rattle.place_words.specs.declared.bucket_part.BucketPart.TheVariants.{Lookup, Update, Delete, Take, Next, First, Walk, Evict}
use Rattle.place_words.specs.declared.bucket_part.Put.TheVariants as puts
use Rattle.place_words.specs.declared.bucket_part.NextFound.TheVariants as nexts
use Rattle.place_words.specs.declared.bucket_part.Walked.TheVariants.{Over, Taken}
use Rattle.place_words.specs.declared.bucket_part.Seen.TheVariants.{Removed, Held}
use Rattle.place_words.specs.Bodies.{has_key, present, without_key, body_of, without_element, first_key, next_key}
use Rattle.place_words.specs.Buckets.{IsPresentWith, AllowsInBucket, bucket_after, new_stored, as_read}
use Rattle.place_words.specs.Sizes.{AreSized}
use Rattle.place_words.proofs.Splits.{find_passes}
use Rattle.bucket_chain.specs.Places.{place_of_key, key_at, rewritten}
use Rattle.bucket_chain.proofs.Found.{position_some}
use Rattle.bucket_chain.proofs.WriteLaws.{own_written_over, all_written_over}
use Rattle.bucket_chain.specs.Turns.{IsTurn}

-- the key is present, and this holds of its body
present_with : (key : List ℕ) (bodies : List Stored) (body : Stored) (Fact : Stored → Type 0) → present key bodies ≡ Some body → Fact body → IsPresentWith key bodies Fact
present_with key bodies body Fact is fact =
    subst (λ (found : Option Stored). MatchOption found ⊥ Fact) (sym is) fact

-- the body at the place that was found for a key
pub found_body : (key : List ℕ) (bodies : List Stored) (place : ℕ) (body : Stored) → slice_get bodies place ≡ present key bodies → Some body ≡ slice_get bodies place → present key bodies ≡ Some body
found_body key bodies place body found is = sym found ∙ sym is

-- the body that is found holds the key
pub found_key : (key : List ℕ) (bodies : List Stored) (body : Stored) → present key bodies ≡ Some body → body.key ≡ key
found_key key bodies body found = (bytes_eq-Decides body.key key).0 (find_passes (has_key key) bodies body found)

-- the key at a place, where there is a body
pub first_dropped : (k : ℕ) (bodies : List Stored) → first_key (drop k bodies) ≡ option_map (λ (body : Stored). body.key) (slice_get bodies k)
first_dropped zero [] = refl
first_dropped (suc k) [] = refl
first_dropped zero (body ∷ bodies) = refl
first_dropped (suc k) (body ∷ bodies) = first_dropped k bodies

first_is : (bodies : List Stored) → first_key bodies ≡ option_map (λ (body : Stored). body.key) (slice_get bodies 0)
first_is [] = refl
first_is (body ∷ bodies) = refl

pub next_is : (key : List ℕ) (bodies : List Stored) (place : ℕ) → Some place ≡ place_of_key key bodies → next_key key bodies ≡ option_map (λ (body : Stored). body.key) (slice_get bodies (place + 1))
next_is key bodies place at =
    ap (λ k. first_key (drop (k + 1) bodies)) (sym (position_some (has_key key) bodies place (sym at))) ∙ first_dropped (place + 1) bodies

-- Turns that leave the list

module _ (shape : Shape) (cpu : ℕ) (bodies : List Stored) where
  pub lookup_misses : (side : Side) (key : List ℕ) → present key bodies ≡ None → IsTurn shape cpu (Lookup side key None) bodies bodies
  unfolding AllowsInBucket bucket_after
  lookup_misses side key none = record { allowed = none; left = refl }

  pub lookup_finds : (side : Side) (key : List ℕ) (body : Stored) (got : ℕ × List ℕ) → present key bodies ≡ Some body → got.0 ≡ body.element → got.1 ≡ value_read shape side cpu body.values
      → IsTurn shape cpu (Lookup side key (Some got)) bodies bodies
  unfolding AllowsInBucket bucket_after
  lookup_finds side key body got found element bytes = record {
    allowed = present_with key bodies body _ found (sym element, bytes);
    left = refl;
  }

  pub update_exists : (side : Side) (flags : ℕ) (key value : List ℕ) (offer : Option ℕ) (body : Stored) → present key bodies ≡ Some body → flags ≡ 1
      → IsTurn shape cpu (Update side flags key value offer puts.Exists) bodies bodies
  unfolding AllowsInBucket bucket_after
  update_exists side flags key value offer body found is = record { allowed = present_with key bodies body _ found is; left = refl }

  pub update_absent : (side : Side) (flags : ℕ) (key value : List ℕ) (offer : Option ℕ) → present key bodies ≡ None → flags ≡ 2
      → IsTurn shape cpu (Update side flags key value offer puts.Absent) bodies bodies
  unfolding AllowsInBucket bucket_after
  update_absent side flags key value offer none is = record { allowed = (none, is); left = refl }

  pub update_full : (side : Side) (flags : ℕ) (key value : List ℕ) (offer : Option ℕ) → present key bodies ≡ None → flags ≢ 2 → is_lru shape.kind ≡ false
      → IsTurn shape cpu (Update side flags key value offer puts.Full) bodies bodies
  unfolding AllowsInBucket bucket_after
  update_full side flags key value offer none other kind = record { allowed = (none, other, kind); left = refl }

  pub delete_misses : (key : List ℕ) → present key bodies ≡ None → IsTurn shape cpu (Delete key None) bodies bodies
  unfolding AllowsInBucket bucket_after
  delete_misses key none = record { allowed = none; left = refl }

  pub take_misses : (key : List ℕ) → present key bodies ≡ None → IsTurn shape cpu (Take key None) bodies bodies
  unfolding AllowsInBucket bucket_after
  take_misses key none = record { allowed = none; left = refl }

  pub next_misses : (key : List ℕ) → present key bodies ≡ None → IsTurn shape cpu (Next key nexts.Absent) bodies bodies
  unfolding AllowsInBucket bucket_after
  next_misses key none = record { allowed = none; left = refl }

  -- the body at the place after that of the key
  pub next_ends : (key : List ℕ) (place : ℕ) (body : Stored) → Some place ≡ place_of_key key bodies → present key bodies ≡ Some body → None ≡ slice_get bodies (place + 1)
      → IsTurn shape cpu (Next key nexts.Last) bodies bodies
  unfolding AllowsInBucket bucket_after
  next_ends key place body at found is = record {
    allowed = present_with key bodies body _ found (next_is key bodies place at ∙ ap (option_map (λ (one : Stored). one.key)) (sym is));
    left = refl;
  }

  pub next_follows : (key : List ℕ) (place : ℕ) (body next : Stored) → Some place ≡ place_of_key key bodies → present key bodies ≡ Some body → Some next ≡ slice_get bodies (place + 1)
      → IsTurn shape cpu (Next key (nexts.Key next.key)) bodies bodies
  unfolding AllowsInBucket bucket_after
  next_follows key place body next at found is = record {
    allowed = present_with key bodies body _ found (next_is key bodies place at ∙ ap (option_map (λ (one : Stored). one.key)) (sym is));
    left = refl;
  }

  pub first_of_none : None ≡ slice_get bodies 0 → IsTurn shape cpu (First None) bodies bodies
  unfolding AllowsInBucket bucket_after
  first_of_none is = record { allowed = sym (first_is bodies ∙ ap (option_map (λ (one : Stored). one.key)) (sym is)); left = refl }

  pub first_of_some : (body : Stored) → Some body ≡ slice_get bodies 0 → IsTurn shape cpu (First (Some body.key)) bodies bodies
  unfolding AllowsInBucket bucket_after
  first_of_some body is = record { allowed = sym (first_is bodies ∙ ap (option_map (λ (one : Stored). one.key)) (sym is)); left = refl }

  pub walk_passes : (remove : Bool) (room n : ℕ) → n ≡ length bodies → room < n → IsTurn shape cpu (Walk remove room (Over n)) bodies bodies
  unfolding AllowsInBucket bucket_after
  walk_passes remove room n count above = record { allowed = (count, above); left = refl }

  pub walk_reads : (room : ℕ) (all : List Stored) → length bodies ≤ room → all ≡ map (as_read shape cpu) bodies → IsTurn shape cpu (Walk false room (Taken all)) bodies bodies
  unfolding AllowsInBucket bucket_after
  walk_reads room all fits read = record { allowed = (fits, read); left = refl }

  pub evict_finds_held : (e holder : ℕ) → None ≡ body_of e bodies → holder < shape.cpus → holder ≢ cpu → IsTurn shape cpu (Evict e (Held holder)) bodies bodies
  unfolding AllowsInBucket bucket_after
  evict_finds_held e holder none on other = record { allowed = (sym none, on, other); left = refl }

-- Turns that change it

module _ (shape : Shape) (cpu : ℕ) (bodies now : List Stored) where
  -- one `add_head`
  pub update_adds : (side : Side) (flags : ℕ) (key value : List ℕ) (offer : Option ℕ) (e : ℕ) (body : Stored) → present key bodies ≡ None → flags ≢ 2
      → body ≡ new_stored shape side cpu e key value → now ≡ body ∷ bodies → IsTurn shape cpu (Update side flags key value offer (puts.Added e)) bodies now
  unfolding AllowsInBucket bucket_after
  update_adds side flags key value offer e body none other new left = record {
    allowed = (none, other);
    left = left ∙ ap (λ (one : Stored). one ∷ bodies) new;
  }

  -- one `replace_head`, which gave back the old body
  pub update_replaces : (side : Side) (flags : ℕ) (key value : List ℕ) (offer : Option ℕ) (e : ℕ) (body old : Stored) → flags ≢ 1 → is_percpu shape.kind ≡ false
      → body ≡ new_stored shape side cpu e key value → present body.key bodies ≡ Some old → now ≡ body ∷ without_key body.key bodies
      → IsTurn shape cpu (Update side flags key value offer (puts.Replaced e old.element)) bodies now
  unfolding AllowsInBucket bucket_after
  update_replaces side flags key value offer e body old other kind new found left =
      let same : body.key ≡ key = ap (λ (one : Stored). one.key) new in
      record {
        allowed = present_with key bodies old _ (ap (λ (k : List ℕ). present k bodies) (sym same) ∙ found) (refl, other, kind);
        left = left ∙ ap (λ (k : List ℕ). body ∷ without_key k bodies) same ∙ ap (λ (one : Stored). one ∷ without_key key bodies) new;
      }

  -- one `write_own` of the CPU's part at the place that was found for the key
  pub update_writes_own : (flags : ℕ) (key value : List ℕ) (offer : Option ℕ) (place : ℕ) (body : Stored) → is_percpu shape.kind ≡ true → flags ≢ 1
      → present key bodies ≡ Some body → key_at place bodies ≡ key → now ≡ map (rewritten (key_at place bodies) (written_own cpu value)) bodies
      → IsTurn shape cpu (Update Prog flags key value offer (puts.Written body.element)) bodies now
  unfolding AllowsInBucket bucket_after
  update_writes_own flags key value offer place body kind other found at wrote = record {
    allowed = present_with key bodies body _ found (refl, other, kind);
    left = wrote ∙ ap (λ (k : List ℕ). map (rewritten k (written_own cpu value)) bodies) at ∙ own_written_over shape cpu key value bodies kind;
  }

  -- one `write_all` there
  pub update_writes_all : (flags : ℕ) (key value : List ℕ) (offer : Option ℕ) (place : ℕ) (body : Stored) → AreSized shape bodies → is_percpu shape.kind ≡ true → 1 ≤ shape.cpus → flags ≢ 1
      → present key bodies ≡ Some body → key_at place bodies ≡ key → now ≡ map (rewritten (key_at place bodies) (λ values. values_in (length values) (part_size values) value)) bodies
      → IsTurn shape cpu (Update Sys flags key value offer (puts.Written body.element)) bodies now
  unfolding AllowsInBucket bucket_after
  update_writes_all flags key value offer place body sized kind some other found at wrote = record {
    allowed = present_with key bodies body _ found (refl, other, kind);
    left = wrote ∙ ap (λ (k : List ℕ). map (rewritten k (λ values. values_in (length values) (part_size values) value)) bodies) at ∙ all_written_over shape cpu key value bodies kind some sized;
  }

  -- one `take_out` of the place that was found for the key
  pub delete_takes : (key : List ℕ) (body : Stored) → present key bodies ≡ Some body → now ≡ without_key body.key bodies → IsTurn shape cpu (Delete key (Some body.element)) bodies now
  unfolding AllowsInBucket bucket_after
  delete_takes key body found left = record {
    allowed = present_with key bodies body _ found refl;
    left = left ∙ ap (λ (k : List ℕ). without_key k bodies) (found_key key bodies body found);
  }

  pub take_takes : (key : List ℕ) (body : Stored) (bytes : List ℕ) → present key bodies ≡ Some body → bytes ≡ value_read shape Sys cpu body.values → now ≡ without_key body.key bodies
      → IsTurn shape cpu (Take key (Some (body.element, bytes))) bodies now
  unfolding AllowsInBucket bucket_after
  take_takes key body bytes found read left = record {
    allowed = present_with key bodies body _ found (refl, read);
    left = left ∙ ap (λ (k : List ℕ). without_key k bodies) (found_key key bodies body found);
  }

  -- a walk that took each body out
  pub walk_empties : (room : ℕ) (all : List Stored) → length bodies ≤ room → all ≡ map (as_read shape cpu) bodies → now ≡ [] → IsTurn shape cpu (Walk true room (Taken all)) bodies now
  unfolding AllowsInBucket bucket_after
  walk_empties room all fits read left = record { allowed = (fits, read); left = left }

  -- one `take_element`
  pub evict_takes : (e : ℕ) (body : Stored) → Some body ≡ body_of e bodies → now ≡ without_element e bodies → IsTurn shape cpu (Evict e Removed) bodies now
  unfolding AllowsInBucket bucket_after
  evict_takes e body taken left = record { allowed = ap is_some (sym taken); left = left }
