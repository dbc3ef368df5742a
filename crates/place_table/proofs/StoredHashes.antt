-- Stored hashes, as elements move and as a lock is given back.
use Rattle.std.proofs.Common.{◌≡◌, ◌≢◌, ℕ, suc, ◌+◌, ◌<◌, ◌≤◌, ◌⊎◌, inl, inr, ⊎_elim, eqb, cond, Bool, true, false, List, [], ◌∷◌, ◌++◌, sym, refl, ap, ◌∙◌, subst, arith, Option, Some, None}
use Rattle.std.specs.Prelude.{◌&&◌, ◌==◌, IsTrue, IsFalse, find, option_map}
use Rattle.std.proofs.lemmas.List.{map-append}
use Rattle.std.proofs.lemmas.Bool.{and_parts, eqb-true}
use Rattle.map_types.specs.declared.attr.Shape.{Shape}
use Rattle.map_types.specs.declared.kind.DomainId.{DomainId}
use Rattle.map_types.specs.declared.kind.DomainId.TheVariants.{Local, Global, CpuLru, Bucket, Freelist}
use Rattle.map_types.specs.Kind.{is_lru}
use Rattle.key_hash.specs.Bucket.{bucket_number}
use Rattle.place_words.specs.declared.home.Home.{Home}
use Rattle.place_words.specs.declared.owner.Owner.{Owner}
use Rattle.place_words.specs.declared.owner.Owner.TheVariants as owners
use Rattle.map_types.specs.ElementLists.{put, times, IsIn}
use Rattle.place_words.specs.Histories.{content, in_bucket, on_freelist, in_locals, in_global, in_own}
use Rattle.place_words.specs.Takings.{stored_hash}
use Rattle.map_types.specs.declared.row.Row.{Row}
use Rattle.map_types.specs.Listed.{elements_of}
use Rattle.place_words.specs.Histories as histories
use Rattle.place_words.specs.Locks.{lock_named, rank_of}
use Rattle.place_words.specs.Openings.{is_free}
use Rattle.place_words.specs.declared.step.Lists.{Lists}
use Rattle.place_words.specs.State.{rows, is_bucket}
use Rattle.place_words.specs.Places.{PlacedAt, ElementPlace, under_lock, lies_at}
use Rattle.place_words.specs.Wholeness.{all_of}
use Rattle.map_types.specs.ElementLists.{IsHead}
use Rattle.map_types.proofs.RowLemmas.{times_append, by_test}
use Rattle.place_words.specs.Steps.{with_row, without_row, with_free, without_free}
use Rattle.place_words.proofs.ElementLemmas.{at_put, put_here, put_else}
use Rattle.place_words.proofs.RowLemmas.{stands_where, lies_is, row_lies, head_is_in, free_is, rows_with_row_other, rows_without_row_other, rows_without_row_same}
use Rattle.place_table.specs.declared.content.Content.{Content}
use Rattle.place_table.specs.declared.content.Content.TheVariants as contents
use Rattle.place_table.specs.declared.view.InHand.{InHand}
use Rattle.place_table.specs.declared.view.HashIn.{HashIn}
use Rattle.place_table.specs.Contents.{content_told, lists_of, FitsLock}
use Rattle.place_table.specs.StoredHashes.{stored_in}
use Rattle.place_table.specs.Views.{is_among, is_in_hand_of, hash_known, bucket_known, kept_hashes, hash_given, hashes_given}
use Rattle.place_table.specs.Rules.{Tagged, entries, IsFresh, HashesRight, HasRow, IsBrought, IsHashed, HasHash, HasCome}
use Rattle.place_table.proofs.Entries.{append_nil}
use Rattle.place_table.proofs.Worlds.{by_bool, true_false, some_is, none_some, both_true}

-- What a row tells

-- an element that has a hash among rows is one of their elements
pub stored_is_in : (e h : ℕ) (rows : List Row) → stored_hash e rows ≡ Some h → IsIn e (elements_of rows)
stored_is_in e h [] is = absurd (none_some is)
stored_is_in e h (row ∷ rows) is =
    by_test row.element e (λ b. option_map (λ (r : Row). r.hash) (cond b (Some row) (find (λ (r : Row). r.element == e) rows)) ≡ Some h → 0 < cond b (suc (times e (elements_of rows))) (times e (elements_of rows)))
    (λ _ _. omega arith) (λ _ later. stored_is_in e h rows later) is

pub stored_listed : (c : histories.Content) (e h : ℕ) → stored_in c e ≡ Some h → IsIn e (rows (lists_of c))
unfolding stored_in
stored_listed (in_bucket bodies) e h is = absurd (none_some is)
stored_listed (on_freelist stack) e h is = absurd (none_some is)
stored_listed (in_locals lists) e h is = let inside = stored_is_in e h lists.pending is in let both = times_append e (elements_of lists.pending) [] in omega (arith, inside, both)
stored_listed (in_global set) e h is = subst (IsIn e) (map-append (λ (row : Row). row.element) set.lists.active set.lists.inactive) (stored_is_in e h (set.lists.active ++ set.lists.inactive) is)
stored_listed (in_own set) e h is = subst (IsIn e) (map-append (λ (row : Row). row.element) set.lists.active set.lists.inactive) (stored_is_in e h (set.lists.active ++ set.lists.inactive) is)

pub stored_no_bucket : (shape : Shape) (lock : DomainId) (here : Content) (e h : ℕ) → FitsLock shape lock here → stored_in (content_told lock here) e ≡ Some h → IsFalse (is_bucket lock)
unfolding stored_in
stored_no_bucket shape lock (contents.Bucket chain) e h fits is = absurd (none_some is)
stored_no_bucket shape lock (contents.Freelist freelist) e h fits is = absurd (none_some is)
stored_no_bucket shape (Local c) (contents.Local lists) e h fits is = refl
stored_no_bucket shape Global (contents.Local lists) e h fits is = refl
stored_no_bucket shape (CpuLru c) (contents.Local lists) e h fits is = refl
stored_no_bucket shape (Bucket b) (contents.Local lists) e h fits is = absurd fits
stored_no_bucket shape (Freelist c) (contents.Local lists) e h fits is = refl
stored_no_bucket shape (Local c) (contents.Set set) e h fits is = refl
stored_no_bucket shape Global (contents.Set set) e h fits is = refl
stored_no_bucket shape (CpuLru c) (contents.Set set) e h fits is = refl
stored_no_bucket shape (Bucket b) (contents.Set set) e h fits is = absurd fits
stored_no_bucket shape (Freelist c) (contents.Set set) e h fits is = refl

-- and one of their elements has a hash
is_stored : (e : ℕ) (rows : List Row) → IsIn e (elements_of rows) → (h : ℕ) × (stored_hash e rows ≡ Some h)
is_stored e [] inside = absurd (let none : 0 < 0 = inside in omega arith)
is_stored e (row ∷ rows) inside =
    by_test row.element e (λ b. 0 < cond b (suc (times e (elements_of rows))) (times e (elements_of rows)) → (h : ℕ) × (option_map (λ (r : Row). r.hash) (cond b (Some row) (find (λ (r : Row). r.element == e) rows)) ≡ Some h))
    (λ _ _. (row.hash, refl)) (λ _ later. is_stored e rows later) inside

pub listed_stored : (shape : Shape) (lock : DomainId) (here : Content) (e : ℕ) → FitsLock shape lock here → IsFalse (is_bucket lock) → IsIn e (rows (lists_of (content_told lock here))) → (h : ℕ) × (stored_in (content_told lock here) e ≡ Some h)
unfolding stored_in
listed_stored shape (Bucket b) here e fits no_bucket inside = absurd cc
listed_stored shape (Freelist c) (contents.Freelist freelist) e fits no_bucket inside = let none_there : 0 < 0 = inside in absurd (omega arith)
listed_stored shape (Freelist c) (contents.Bucket chain) e fits no_bucket inside = absurd fits
listed_stored shape (Freelist c) (contents.Local lists) e fits no_bucket inside = absurd fits
listed_stored shape (Freelist c) (contents.Set set) e fits no_bucket inside = absurd fits
listed_stored shape (Local c) (contents.Bucket chain) e fits no_bucket inside = absurd fits
listed_stored shape (Local c) (contents.Freelist freelist) e fits no_bucket inside = absurd fits
listed_stored shape (Local c) (contents.Local lists) e fits no_bucket inside = is_stored e lists.pending (subst (IsIn e) (append_nil (elements_of lists.pending)) inside)
listed_stored shape (Local c) (contents.Set set) e fits no_bucket inside = absurd fits
listed_stored shape Global (contents.Bucket chain) e fits no_bucket inside = absurd fits
listed_stored shape Global (contents.Freelist freelist) e fits no_bucket inside = absurd fits
listed_stored shape Global (contents.Local lists) e fits no_bucket inside = absurd fits
listed_stored shape Global (contents.Set set) e fits no_bucket inside =
    is_stored e (set.active ++ set.inactive) (subst (IsIn e) (sym (map-append (λ (row : Row). row.element) set.active set.inactive)) inside)
listed_stored shape (CpuLru c) (contents.Bucket chain) e fits no_bucket inside = absurd fits
listed_stored shape (CpuLru c) (contents.Freelist freelist) e fits no_bucket inside = absurd fits
listed_stored shape (CpuLru c) (contents.Local lists) e fits no_bucket inside = absurd fits
listed_stored shape (CpuLru c) (contents.Set set) e fits no_bucket inside =
    is_stored e (set.active ++ set.inactive) (subst (IsIn e) (sym (map-append (λ (row : Row). row.element) set.active set.inactive)) inside)

-- the locks of buckets and freelists, under which no row has a hash
abbrev pub HasNoHashes : DomainId → Type 0
HasNoHashes (Local c) = ⊥
HasNoHashes Global = ⊥
HasNoHashes (CpuLru c) = ⊥
HasNoHashes (Bucket b) = Unit {0}
HasNoHashes (Freelist c) = Unit {0}

pub none_stored : (shape : Shape) (lock : DomainId) (here : Content) (e n : ℕ) → HasNoHashes lock → FitsLock shape lock here → stored_in (content_told lock here) e ≡ Some n → ⊥
unfolding stored_in
none_stored shape lock (contents.Bucket chain) e n no_hashes fits is = none_some is
none_stored shape lock (contents.Freelist freelist) e n no_hashes fits is = none_some is
none_stored shape (Local c) (contents.Local lists) e n no_hashes fits is = no_hashes
none_stored shape Global (contents.Local lists) e n no_hashes fits is = no_hashes
none_stored shape (CpuLru c) (contents.Local lists) e n no_hashes fits is = no_hashes
none_stored shape (Bucket b) (contents.Local lists) e n no_hashes fits is = fits
none_stored shape (Freelist c) (contents.Local lists) e n no_hashes fits is = fits
none_stored shape (Local c) (contents.Set set) e n no_hashes fits is = no_hashes
none_stored shape Global (contents.Set set) e n no_hashes fits is = no_hashes
none_stored shape (CpuLru c) (contents.Set set) e n no_hashes fits is = no_hashes
none_stored shape (Bucket b) (contents.Set set) e n no_hashes fits is = fits
none_stored shape (Freelist c) (contents.Set set) e n no_hashes fits is = fits

-- something is noted of the stored hash of an element in the hand of a CPU
pub record IsNoted (e c : ℕ) (hashes : List HashIn) : Type 0 where
  pub noted : HashIn
  pub last : hash_known e c hashes ≡ Some noted

-- the stored hash once a lock is given back
abbrev pub renewed : Bool → Option ℕ → ℕ → ℕ
renewed false found h = h
renewed true None h = h
renewed true (Some n) h = n

pub in_all : (e : ℕ) (lists : Lists) → IsIn e (rows lists) → IsIn e (all_of lists)
in_all e lists inside = let both = times_append e lists.free (rows lists) in omega arith

-- an element on the lists of a lock that is no bucket's lies there
pub lies_on : (shape : Shape) (lists : ℕ → Lists) (owner : ℕ → Owner) (home : ℕ → Home) (place : ℕ → ElementPlace) (p : PlacedAt shape lists owner home place) (k e : ℕ) → IsFalse (is_bucket (lock_named shape k)) → IsIn e (all_of (lists k)) → place e ≡ under_lock k
lies_on shape lists owner home place p k e no_bucket inside =
    let both = times_append e (lists k).free (rows (lists k)) in
    lies_is k (place e)
    (⊎_elim
    (λ (free : 0 < times e (lists k).free). (and_parts (is_free (owner e)) (lies_at k (place e)) (stands_where shape.elements e _ _ (p.free k e) free).stands).1)
    (λ (listed : 0 < times e (rows (lists k))). row_lies (is_lru shape.kind) (lock_named shape k) (owner e) (lies_at k (place e)) no_bucket (stands_where shape.elements e _ _ (p.rows k e) listed).stands)
    (one_of (times e (lists k).free) (times e (rows (lists k))) (omega arith)))
  where
    one_of : (m n : ℕ) → 0 < m + n → (0 < m) ⊎ (0 < n)
    one_of m n some_there = by_test m 0 (λ _. (0 < m) ⊎ (0 < n)) (λ none. inr (omega arith)) (λ more. inl (omega arith))

same_lies : (i j : ℕ) → under_lock i ≡ under_lock j → i ≡ j
same_lies i j e = cc

-- and on those of no other
pub lies_on_one : (shape : Shape) (lists : ℕ → Lists) (owner : ℕ → Owner) (home : ℕ → Home) (place : ℕ → ElementPlace) (p : PlacedAt shape lists owner home place) (k j e : ℕ) → j ≢ k → IsFalse (is_bucket (lock_named shape k)) → IsFalse (is_bucket (lock_named shape j)) → IsIn e (all_of (lists k)) → times e (all_of (lists j)) ≡ 0
lies_on_one shape lists owner home place p k j e ne no_bucket nor_other inside =
    by_test (times e (all_of (lists j))) 0 (λ _. times e (all_of (lists j)) ≡ 0)
    (λ none. none)
    (λ some_there. absurd (ne (same_lies j k (sym (lies_on shape lists owner home place p j e nor_other (omega arith)) ∙ lies_on shape lists owner home place p k e no_bucket inside))))

-- A lock that this CPU holds, the last that it took, is given back with a content whose rows have new hashes only for what came in
-- the turn and is in the CPU's hand. What is listed there has its row since the lock was taken, or came in the turn.
module _ (shape : Shape) (holder : ℕ → Option ℕ) (lists : ℕ → Lists) (owner : ℕ → Owner) (home : ℕ → Home) (place : ℕ → ElementPlace) (p : PlacedAt shape lists owner home place) (log : ℕ → List Tagged) (hash : ℕ → ℕ) (right : HashesRight shape holder lists owner log hash)
    (k cpu : ℕ) (held : holder k ≡ Some cpu) (here : Content) (fits : FitsLock shape (lock_named shape k) here) (l' : List Tagged) (new_is : content shape (lock_named shape k) (entries l') ≡ content_told (lock_named shape k) here)
    (same_rows : (e : ℕ) → times e (rows (lists_of (content_told (lock_named shape k) here))) ≡ times e (rows (lists k)))
    (innermost : (m : ℕ) → m ≢ k → holder m ≡ Some cpu → rank_of (lock_named shape m) < rank_of (lock_named shape k))
    (fresh : ℕ → Bool) (fresh_is : (e : ℕ) → fresh e ≡ true → owner e ≡ owners.Hand cpu)
    (come : ℕ → Bool) (come_is : (e : ℕ) → come e ≡ true → owner e ≡ owners.Hand cpu → fresh e ≡ true)
    (rowed : (e : ℕ) → IsFalse (is_bucket (lock_named shape k)) → IsIn e (rows (lists k)) → HasRow shape log hash k e ⊎ (come e ≡ true))
    (kept : (j e h n : ℕ) → (j ≡ k) ⊎ (come e ≡ true) → fresh e ≡ false → holder j ≡ Some cpu → stored_in (content shape (lock_named shape j) (entries (log j))) e ≡ Some h → stored_in (content_told (lock_named shape k) here) e ≡ Some n → h ≡ n) where
  -- it, as histories tell it
  abbrev back : histories.Content
  back = content_told (lock_named shape k) here

  pub was_listed : (e n : ℕ) → stored_in back e ≡ Some n → IsIn e (rows (lists k))
  was_listed e n is = let inside = stored_listed back e n is in let same = same_rows e in omega (arith, same)

  pub hash_stays : (e : ℕ) → fresh e ≡ false → renewed true (stored_in back e) (hash e) ≡ hash e
  hash_stays e other = go (stored_in back e) refl
    where
      go : (found : Option ℕ) → stored_in back e ≡ found → renewed true found (hash e) ≡ hash e
      go None is = refl
      go (Some n) is =
          let no_bucket = stored_no_bucket shape (lock_named shape k) here e n fits is in
          let listed = was_listed e n is in
          let by_row : HasRow shape log hash k e → n ≡ hash e = λ had. sym (kept k e (hash e) n (inl refl) other held had.stored is) in
          ⊎_elim by_row
          (λ (came : come e ≡ true). ⊎_elim by_row
          (⊎_elim
          (λ (f : IsFresh holder owner k e). true_false (sym (come_is e came (f.in_hand ∙ ap owners.Hand (some_is (sym f.held ∙ held)))) ∙ other))
          (λ (brought : IsBrought shape holder log hash k e). sym (kept brought.from e (hash e) n (inr came) other (brought.holds ∙ (sym brought.held ∙ held)) brought.row.stored is)))
          (right.have k e no_bucket listed))
          (rowed e no_bucket listed)

  abbrev IsListed : ℕ → ℕ → Type 0
  IsListed m e = HasRow shape (put log k l') (λ x. renewed true (stored_in back x) (hash x)) m e ⊎ (IsFresh (put holder k None) owner m e ⊎ IsBrought shape (put holder k None) (put log k l') (λ x. renewed true (stored_in back x) (hash x)) m e)

  -- a row of another lock stays, where the hash does
  row_stays : (m e : ℕ) → m ≢ k → renewed true (stored_in back e) (hash e) ≡ hash e → HasRow shape log hash m e → HasRow shape (put log k l') (λ x. renewed true (stored_in back x) (hash x)) m e
  row_stays m e ne same had = record {
    stored = ap (λ (l : List Tagged). stored_in (content shape (lock_named shape m) (entries l)) e) (put_else log k l' m ne) ∙ (had.stored ∙ ap Some (sym same));
  }

  pub elsewhere : (m e : ℕ) → IsFalse (is_bucket (lock_named shape m)) → m ≢ k → IsIn e (all_of (lists m)) → (found : Option ℕ) → stored_in back e ≡ found → renewed true found (hash e) ≡ hash e
  elsewhere m e nb ne inside None is = refl
  elsewhere m e nb ne inside (Some n) is =
      let no_bucket = stored_no_bucket shape (lock_named shape k) here e n fits is in
      let there = lies_on shape lists owner home place p k e no_bucket (in_all e (lists k) (was_listed e n is)) in
      absurd (ne (same_lies m k (sym (lies_on shape lists owner home place p m e nb inside) ∙ there)))

  -- and so does what is brought from one that is still held
  brought_stays : (m e : ℕ) → m ≢ k → renewed true (stored_in back e) (hash e) ≡ hash e → IsBrought shape holder log hash m e → IsBrought shape (put holder k None) (put log k l') (λ x. renewed true (stored_in back x) (hash x)) m e
  brought_stays m e ne same brought =
      let holds : put holder k None m ≡ holder m = put_else holder k None m ne in
      by_test brought.from k (λ _. IsBrought shape (put holder k None) (put log k l') (λ x. renewed true (stored_in back x) (hash x)) m e)
      (λ is_k.
      let cpu_is : brought.cpu ≡ cpu = some_is (sym brought.holds ∙ (ap holder is_k ∙ held)) in
      let above = innermost m ne (brought.held ∙ ap Some cpu_is) in
      let low : rank_of (lock_named shape k) < rank_of (lock_named shape m) = subst (λ (z : ℕ). rank_of (lock_named shape z) < rank_of (lock_named shape m)) is_k brought.low in
      absurd (omega (arith, above, low)))
      (λ other. record { cpu = brought.cpu; from = brought.from; held = holds ∙ brought.held; holds = put_else holder k None brought.from other ∙ brought.holds; low = brought.low; row = row_stays brought.from e other same brought.row })

  -- what a pass knows of the stored hash of what is in the hand of a CPU
  pub hashed_gave : (hashes hashes' : List HashIn) (came came' : List ℕ) (m e c : ℕ) → IsFalse (is_bucket (lock_named shape m)) → IsIn e (rows (lists m))
      → ((noted : HashIn) → hash_known e c hashes ≡ Some noted → IsNoted e c hashes') → (c ≡ cpu → is_among e came ≡ true → m ≡ k → (n : ℕ) → stored_in back e ≡ Some n → IsNoted e c hashes') → (m ≢ k → came' ≡ came)
      → IsHashed shape holder log hash hashes came m e c → IsHashed shape (put holder k None) (put log k l') (λ x. renewed true (stored_in back x) (hash x)) hashes' came' m e c
  hashed_gave hashes hashes' came came' m e c nb inside noted given same_came is = record {
    from = ⊎_elim
        (λ (gave : HasHash true hashes e c). has_hash (noted gave.noted gave.last))
        (⊎_elim
        (λ (off : HasHash false hashes e c). has_hash (noted off.noted off.last))
        (λ (come : HasCome holder came m e c). by_test m k (λ _. HasHash true hashes' e c ⊎ (HasHash false hashes' e c ⊎ HasCome (put holder k None) came' m e c))
        (λ same.
        let at_k : IsIn e (rows (lists_of back)) = (let there : IsIn e (rows (lists k)) = subst (λ (z : ℕ). IsIn e (rows (lists z))) same inside in let counted = same_rows e in omega (arith, counted)) in
        let row = listed_stored shape (lock_named shape k) here e fits (subst (λ (z : ℕ). IsFalse (is_bucket (lock_named shape z))) same nb) at_k in
        has_hash (given (some_is (sym come.held ∙ (ap holder same ∙ held))) come.inside same row.0 row.1))
        (λ ne. inr (inr (comes ne come)))))
        is.from;
    row = λ held'. by_test m k (λ _. HasRow shape (put log k l') (λ x. renewed true (stored_in back x) (hash x)) m e ⊎ (IsBrought shape (put holder k None) (put log k l') (λ x. renewed true (stored_in back x) (hash x)) m e ⊎ HasCome (put holder k None) came' m e c))
        (λ same. absurd (none_some (sym (ap (put holder k None) same ∙ put_here holder k None) ∙ held')))
        (λ ne.
        let stays : renewed true (stored_in back e) (hash e) ≡ hash e = elsewhere m e nb ne (in_all e (lists m) inside) (stored_in back e) refl in
        ⊎_elim
        (λ (had : HasRow shape log hash m e). inl (row_stays m e ne stays had))
        (⊎_elim
        (λ (brought : IsBrought shape holder log hash m e). inr (inl (brought_stays m e ne stays brought)))
        (λ (come : HasCome holder came m e c). inr (inr (comes ne come))))
        (is.row (sym (put_else holder k None m ne) ∙ held')));
  }
    where
      comes : m ≢ k → HasCome holder came m e c → HasCome (put holder k None) came' m e c
      comes ne come = record { held = put_else holder k None m ne ∙ come.held; inside = ap (is_among e) (same_came ne) ∙ come.inside }

      has_hash : IsNoted e c hashes' → HasHash true hashes' e c ⊎ (HasHash false hashes' e c ⊎ HasCome (put holder k None) came' m e c)
      has_hash is = by_bool is.noted.given (λ t. is.noted.given ≡ t → HasHash true hashes' e c ⊎ (HasHash false hashes' e c ⊎ HasCome (put holder k None) came' m e c))
          (λ _ yes. inl record { noted = is.noted; last = is.last; given_is = yes })
          (λ _ no. inr (inl record { noted = is.noted; last = is.last; given_is = no })) refl

  pub hashes_gave : HashesRight shape (put holder k None) (put lists k (lists_of back)) owner (put log k l') (λ e. renewed true (stored_in back e) (hash e))
  hashes_gave = record {
    in_bucket = λ e b is. ap (λ (h : ℕ). bucket_number h shape.buckets) (hash_stays e (by_bool (fresh e) (λ t. t ≡ false) (λ yes. absurd (not_both b cpu (sym is ∙ fresh_is e yes))) (λ _. refl))) ∙ right.in_bucket e b is;
    have = λ m e no_bucket inside. by_test m k (λ _. IsListed m e)
        (λ same. subst (λ (z : ℕ). IsListed z e) (sym same) (at_k e (subst (λ (z : ℕ). IsFalse (is_bucket (lock_named shape z))) same no_bucket)
        (subst (λ (l : Lists). IsIn e (rows l)) (ap (put lists k (lists_of back)) same ∙ put_here lists k (lists_of back)) inside)))
        (λ ne. at_other m e ne no_bucket (subst (λ (l : Lists). IsIn e (rows l)) (put_else lists k (lists_of back) m ne) inside));
  }
    where
      not_both : (b c : ℕ) → owners.Bucket b ≡ owners.Hand c → ⊥
      not_both b c e = cc

      at_k : (e : ℕ) → IsFalse (is_bucket (lock_named shape k)) → IsIn e (rows (lists_of back)) → IsListed k e
      at_k e nb inside =
          let s = listed_stored shape (lock_named shape k) here e fits nb inside in
          inl record {
            stored = ap (λ (l : List Tagged). stored_in (content shape (lock_named shape k) (entries l)) e) (put_here log k l') ∙ (ap (λ c. stored_in c e) new_is ∙ (s.1 ∙ ap Some (sym (ap (λ (o : Option ℕ). renewed true o (hash e)) s.1))));
          }

      at_other : (m e : ℕ) → m ≢ k → IsFalse (is_bucket (lock_named shape m)) → IsIn e (rows (lists m)) → IsListed m e
      at_other m e ne nb inside =
          let same : renewed true (stored_in back e) (hash e) ≡ hash e = elsewhere m e nb ne (in_all e (lists m) inside) (stored_in back e) refl in
          let holds : put holder k None m ≡ holder m = put_else holder k None m ne in
          ⊎_elim
          (λ (had : HasRow shape log hash m e). inl (row_stays m e ne same had))
          (⊎_elim
          (λ (fresh : IsFresh holder owner m e). inr (inl record { cpu = fresh.cpu; held = holds ∙ fresh.held; in_hand = fresh.in_hand }))
          (λ (brought : IsBrought shape holder log hash m e). inr (inr (brought_stays m e ne same brought))))
          (right.have m e nb inside)

-- What passes know

same_hand : (e c : ℕ) (x : HashIn) (hand : List InHand) → (eqb x.element e && eqb x.cpu c) ≡ true → is_in_hand_of e c hand ≡ is_in_hand_of x.element x.cpu hand
same_hand e c x hand same = let both = both_true _ _ same in λ i. is_in_hand_of (sym (eqb-true x.element e both.0) i) (sym (eqb-true x.cpu c both.1) i) hand

pub kept_there : (e c : ℕ) (hand : List InHand) (hashes : List HashIn) → is_in_hand_of e c hand ≡ true → hash_known e c (kept_hashes hand hashes) ≡ hash_known e c hashes
kept_there e c hand [] there = refl
kept_there e c hand (x ∷ xs) there =
    by_bool (is_in_hand_of x.element x.cpu hand) (λ t. hash_known e c (cond t (x ∷ kept_hashes hand xs) (kept_hashes hand xs)) ≡ hash_known e c (x ∷ xs))
    (λ _. ap (cond (eqb x.element e && eqb x.cpu c) (Some x)) (kept_there e c hand xs there))
    (λ gone. by_bool (eqb x.element e && eqb x.cpu c) (λ t. hash_known e c (kept_hashes hand xs) ≡ cond t (Some x) (hash_known e c xs))
    (λ same. true_false (sym there ∙ (same_hand e c x hand same ∙ gone)))
    (λ _. kept_there e c hand xs there))

pub kept_known : (e c : ℕ) (noted : HashIn) (hand : List InHand) (hashes : List HashIn) → hash_known e c (kept_hashes hand hashes) ≡ Some noted → (hash_known e c hashes ≡ Some noted) × (is_in_hand_of e c hand ≡ true)
kept_known e c noted hand [] is = absurd (none_some is)
kept_known e c noted hand (x ∷ xs) is =
    by_bool (is_in_hand_of x.element x.cpu hand) (λ t. hash_known e c (cond t (x ∷ kept_hashes hand xs) (kept_hashes hand xs)) ≡ Some noted → (hash_known e c (x ∷ xs) ≡ Some noted) × (is_in_hand_of e c hand ≡ true))
    (λ there f. by_bool (eqb x.element e && eqb x.cpu c) (λ t. (eqb x.element e && eqb x.cpu c) ≡ t → cond t (Some x) (hash_known e c (kept_hashes hand xs)) ≡ Some noted → (cond t (Some x) (hash_known e c xs) ≡ Some noted) × (is_in_hand_of e c hand ≡ true))
    (λ same _ g. (g, same_hand e c x hand same ∙ there)) (λ _ _ g. kept_known e c noted hand xs g) refl f)
    (λ gone f. by_bool (eqb x.element e && eqb x.cpu c) (λ t. (cond t (Some x) (hash_known e c xs) ≡ Some noted) × (is_in_hand_of e c hand ≡ true))
    (λ same. true_false (sym (kept_known e c noted hand xs f).1 ∙ (same_hand e c x hand same ∙ gone)))
    (λ _. kept_known e c noted hand xs f)) is

-- the bucket of a hash that was given is that of what was noted last
pub bucket_noted : (e c b : ℕ) (hashes : List HashIn) → bucket_known e c hashes ≡ Some b → (noted : HashIn) × (hash_known e c hashes ≡ Some noted) × (noted.bucket ≡ b)
bucket_noted e c b [] is = absurd (none_some is)
bucket_noted e c b (x ∷ xs) is =
    by_bool (eqb x.element e && eqb x.cpu c) (λ t. cond t (cond x.given (Some x.bucket) None) (bucket_known e c xs) ≡ Some b → (noted : HashIn) × (cond t (Some x) (hash_known e c xs) ≡ Some noted) × (noted.bucket ≡ b))
    (λ _ f. (x, refl, by_bool x.given (λ t. cond t (Some x.bucket) None ≡ Some b → x.bucket ≡ b) (λ _ g. some_is g) (λ _ g. absurd (none_some g)) f))
    (λ _ f. bucket_noted e c b xs f) is

-- from a content that is given back
pub record IsGiven (content : histories.Content) (buckets x c : ℕ) (noted : HashIn) (hand : List InHand) : Type 0 where
  pub hash : ℕ
  pub in_hand : is_in_hand_of x c hand ≡ true
  pub stored : stored_in content x ≡ Some hash
  pub bucket_is : bucket_number hash buckets ≡ noted.bucket

pub record IsOlder (content : histories.Content) (cpu : ℕ) (came : List ℕ) (x c : ℕ) (noted : HashIn) (hand : List InHand) (hashes : List HashIn) : Type 0 where
  pub known : hash_known x c hashes ≡ Some noted
  pub none_stored : c ≡ cpu → is_in_hand_of x c hand ≡ true → is_among x came ≡ true → stored_in content x ≡ None

module _ (content : histories.Content) (cpu buckets : ℕ) (came : List ℕ) (x c : ℕ) (hashes : List HashIn) where
  pub given_known : (noted : HashIn) (hand : List InHand) → hash_known x c (hashes_given cpu buckets content came hand hashes) ≡ Some noted → IsGiven content buckets x c noted hand ⊎ IsOlder content cpu came x c noted hand hashes
  given_known noted [] found = inr record { known = found; none_stored = λ _ in_hand _. true_false (sym in_hand) }
  given_known noted (y ∷ ys) found =
      by_bool (eqb y.cpu cpu && is_among y.element came) (λ t. hash_known x c (cond t (hash_given buckets y (stored_in content y.element) (hashes_given cpu buckets content came ys hashes)) (hashes_given cpu buckets content came ys hashes)) ≡ Some noted → IsGiven content buckets x c noted (y ∷ ys) ⊎ IsOlder content cpu came x c noted (y ∷ ys) hashes)
      (λ _ f. go (stored_in content y.element) refl f (given_known noted ys))
      (λ other f. miss (eqb y.element x && eqb y.cpu c) refl
      (λ is mine inside. let both = both_true _ _ is in
      true_false (sym (all_here (eqb-true y.cpu c both.1 ∙ mine) (ap (λ (n : ℕ). is_among n came) (eqb-true y.element x both.0) ∙ inside)) ∙ other))
      (given_known noted ys f)) found
    where
      all_here : {p : ℕ} {t : Bool} → p ≡ cpu → t ≡ true → (eqb p cpu && t) ≡ true
      all_here {p} {t} same is = (λ i. eqb (same i) cpu && is i) ∙ by_test cpu cpu (λ b. (b && true) ≡ true) (λ _. refl) (λ other. absurd (other refl))

      Before : Type 0
      Before = hash_known x c (hashes_given cpu buckets content came ys hashes) ≡ Some noted → IsGiven content buckets x c noted ys ⊎ IsOlder content cpu came x c noted ys hashes

      or_later : (t : Bool) → is_in_hand_of x c ys ≡ true → cond t true (is_in_hand_of x c ys) ≡ true
      or_later true later = refl
      or_later false later = later

      miss : (t : Bool) → (eqb y.element x && eqb y.cpu c) ≡ t → (t ≡ true → c ≡ cpu → is_among x came ≡ true → stored_in content x ≡ None) → IsGiven content buckets x c noted ys ⊎ IsOlder content cpu came x c noted ys hashes → IsGiven content buckets x c noted (y ∷ ys) ⊎ IsOlder content cpu came x c noted (y ∷ ys) hashes
      miss t is none_here before =
          ⊎_elim
          (λ (given : IsGiven content buckets x c noted ys). inl record { hash = given.hash; in_hand = or_later (eqb y.element x && eqb y.cpu c) given.in_hand; stored = given.stored; bucket_is = given.bucket_is })
          (λ (older : IsOlder content cpu came x c noted ys hashes). inr record {
            known = older.known;
            none_stored = λ mine in_hand inside. by_bool t (λ u. t ≡ u → stored_in content x ≡ None) (λ yes _. none_here yes mine inside) (λ no _. older.none_stored mine (sym (ap (λ (u : Bool). cond u true (is_in_hand_of x c ys)) (is ∙ no)) ∙ in_hand) inside) refl;
          })
          before

      here : (eqb y.element x && eqb y.cpu c) ≡ true → stored_in content y.element ≡ stored_in content x
      here is = ap (stored_in content) (eqb-true y.element x (both_true _ _ is).0)

      go : (at : Option ℕ) → stored_in content y.element ≡ at → hash_known x c (hash_given buckets y at (hashes_given cpu buckets content came ys hashes)) ≡ Some noted → Before → IsGiven content buckets x c noted (y ∷ ys) ⊎ IsOlder content cpu came x c noted (y ∷ ys) hashes
      go None at found before = miss (eqb y.element x && eqb y.cpu c) refl (λ is _ _. sym (here is) ∙ at) (before found)
      go (Some h) at found before =
          let new : HashIn = record { element = y.element; cpu = y.cpu; bucket = bucket_number h buckets; given = true } in
          by_bool (eqb y.element x && eqb y.cpu c) (λ t. (eqb y.element x && eqb y.cpu c) ≡ t → cond t (Some new) (hash_known x c (hashes_given cpu buckets content came ys hashes)) ≡ Some noted → IsGiven content buckets x c noted (y ∷ ys) ⊎ IsOlder content cpu came x c noted (y ∷ ys) hashes)
          (λ yes _ f. inl record { hash = h; in_hand = ap (λ (u : Bool). cond u true (is_in_hand_of x c ys)) yes; stored = sym (here yes) ∙ at; bucket_is = ap (λ (n : HashIn). n.bucket) (some_is f) })
          (λ no _ f. miss false no (λ u _ _. true_false (sym u)) (before f)) refl found

  -- something is noted then of what had something noted, and of what came and has a row there
  given_more : (t : Bool) (y : InHand) (at : Option ℕ) (rest : List HashIn) → IsNoted x c rest → IsNoted x c (cond t (hash_given buckets y at rest) rest)
  given_more false y at rest is = is
  given_more true y None rest is = is
  given_more true y (Some h) rest is =
      let new : HashIn = record { element = y.element; cpu = y.cpu; bucket = bucket_number h buckets; given = true } in
      by_bool (eqb y.element x && eqb y.cpu c) (λ t. cond t (Some new) (hash_known x c rest) ≡ hash_known x c (new ∷ rest) → IsNoted x c (new ∷ rest))
      (λ _ same. record { noted = new; last = sym same })
      (λ _ same. record { noted = is.noted; last = sym same ∙ is.last }) refl

  pub given_kept : (hand : List InHand) → IsNoted x c hashes → IsNoted x c (hashes_given cpu buckets content came hand hashes)
  given_kept [] is = is
  given_kept (y ∷ ys) is = given_more (eqb y.cpu cpu && is_among y.element came) y (stored_in content y.element) (hashes_given cpu buckets content came ys hashes) (given_kept ys is)

  pub given_new : (h : ℕ) (hand : List InHand) → is_in_hand_of x c hand ≡ true → c ≡ cpu → is_among x came ≡ true → stored_in content x ≡ Some h → IsNoted x c (hashes_given cpu buckets content came hand hashes)
  given_new h [] in_hand mine inside stored = true_false (sym in_hand)
  given_new h (y ∷ ys) in_hand mine inside stored =
      let rest : List HashIn = hashes_given cpu buckets content came ys hashes in
      let new : HashIn = record { element = y.element; cpu = y.cpu; bucket = bucket_number h buckets; given = true } in
      by_bool (eqb y.element x && eqb y.cpu c) (λ t. (eqb y.element x && eqb y.cpu c) ≡ t → cond t true (is_in_hand_of x c ys) ≡ true → IsNoted x c (hashes_given cpu buckets content came (y ∷ ys) hashes))
      (λ _ yes _.
      let both = both_true _ _ yes in
      let its : (eqb y.cpu cpu && is_among y.element came) ≡ true = (λ i. eqb (eqb-true y.cpu c both.1 i) cpu && is_among (eqb-true y.element x both.0 i) came) ∙ ((λ i. eqb (mine i) cpu && inside i) ∙ by_test cpu cpu (λ t. (t && true) ≡ true) (λ _. refl) (λ other. absurd (other refl))) in
      let at : stored_in content y.element ≡ Some h = ap (stored_in content) (eqb-true y.element x both.0) ∙ stored in
      record { noted = new; last = (λ i. hash_known x c (cond (its i) (hash_given buckets y (at i) rest) rest)) ∙ ap (λ (t : Bool). cond t (Some new) (hash_known x c rest)) yes })
      (λ _ no later. given_more (eqb y.cpu cpu && is_among y.element came) y (stored_in content y.element) rest (given_new h ys later mine inside stored)) refl in_hand

-- An element has another owner, and under one lock lie other lists.
module _ (shape : Shape) (holder : ℕ → Option ℕ) (lists : ℕ → Lists) (owner : ℕ → Owner) (log : ℕ → List Tagged) (hash : ℕ → ℕ) (right : HashesRight shape holder lists owner log hash) (k e : ℕ) (new : Lists) (to : Owner) where
  pub hashes_moved : ((b : ℕ) → to ≡ owners.Bucket b → bucket_number (hash e) shape.buckets ≡ b)
      → ((x : ℕ) → x ≢ e → IsIn x (rows new) → IsIn x (rows (lists k)))
      → ((m : ℕ) → IsFalse (is_bucket (lock_named shape m)) → IsIn e (rows (put lists k new m)) → HasRow shape log hash m e ⊎ (IsFresh holder (put owner e to) m e ⊎ IsBrought shape holder log hash m e))
      → HashesRight shape holder (put lists k new) (put owner e to) log hash
  hashes_moved of_bucket rows_there have_e = record {
    in_bucket = λ x b. at_put owner e to (λ y o. o ≡ owners.Bucket b → bucket_number (hash y) shape.buckets ≡ b) x (of_bucket b) (λ _ is. right.in_bucket x b is);
    have = λ m x no_bucket inside. by_test x e (λ _. HasRow shape log hash m x ⊎ (IsFresh holder (put owner e to) m x ⊎ IsBrought shape holder log hash m x))
        (λ same. subst (λ (y : ℕ). HasRow shape log hash m y ⊎ (IsFresh holder (put owner e to) m y ⊎ IsBrought shape holder log hash m y)) (sym same) (have_e m no_bucket (subst (λ (y : ℕ). IsIn y (rows (put lists k new m))) same inside)))
        (λ other. ⊎_elim
        (λ (had : HasRow shape log hash m x). inl had)
        (⊎_elim
        (λ (fresh : IsFresh holder owner m x). inr (inl record { cpu = fresh.cpu; held = fresh.held; in_hand = put_else owner e to x other ∙ fresh.in_hand }))
        (λ (brought : IsBrought shape holder log hash m x). inr (inr brought)))
        (right.have m x no_bucket (at_put lists k new (λ i l. IsIn x (rows l) → IsIn x (rows (lists i))) m (rows_there x other) (λ _ in_rows. in_rows) inside)));
  }

-- Claim, settle, attach and detach
module _ (shape : Shape) (holder : ℕ → Option ℕ) (lists : ℕ → Lists) (owner : ℕ → Owner) (home : ℕ → Home) (place : ℕ → ElementPlace) (p : PlacedAt shape lists owner home place) (log : ℕ → List Tagged) (hash : ℕ → ℕ) (right : HashesRight shape holder lists owner log hash)
    (lock : DomainId) (k e c : ℕ) (held : holder k ≡ Some c) where
  pub hashes_claimed : IsHead e (lists k).free → HashesRight shape holder (put lists k (with_row lock e (without_free e (lists k)))) (put owner e (owners.Hand c)) log hash
  hashes_claimed head =
      let l : Lists = lists k in
      let inside : IsIn e l.free = head_is_in e l.free head in
      hashes_moved shape holder lists owner log hash right k e (with_row lock e (without_free e l)) (owners.Hand c)
      (λ b is. hand_no_bucket c b is)
      (λ x other there. let r = rows_with_row_other lock x e (without_free e l) other in omega arith)
      (λ m nb there. by_test m k (λ _. HasRow shape log hash m e ⊎ (IsFresh holder (put owner e (owners.Hand c)) m e ⊎ IsBrought shape holder log hash m e))
      (λ same. inr (inl record { cpu = c; held = ap holder same ∙ held; in_hand = put_here owner e (owners.Hand c) }))
      (λ other. ⊎_elim (λ (had : HasRow shape log hash m e). inl had)
      (⊎_elim (λ (fresh : IsFresh holder owner m e). let free_now = owner_free in absurd (not_free fresh.cpu (sym free_now ∙ fresh.in_hand))) (λ (brought : IsBrought shape holder log hash m e). inr (inr brought)))
      (right.have m e nb (at_put lists k (with_row lock e (without_free e l)) (λ i z. i ≢ k → IsIn e (rows z) → IsIn e (rows (lists i))) m (λ ne. absurd (ne refl)) (λ _ _ in_rows. in_rows) other there))))
    where
      owner_free : owner e ≡ owners.Free
      owner_free = free_is (owner e) (and_parts (is_free (owner e)) (lies_at k (place e)) (stands_where shape.elements e _ _ (p.free k e) (head_is_in e (lists k).free head)).stands).0

      hand_no_bucket : (c b : ℕ) → owners.Hand c ≡ owners.Bucket b → bucket_number (hash e) shape.buckets ≡ b
      hand_no_bucket c b is = absurd cc

      not_free : (c : ℕ) → owners.Free ≡ owners.Hand c → ⊥
      not_free c is = cc

  pub hashes_settled : IsFalse (is_bucket (lock_named shape k)) → IsIn e (rows (lists k)) → times e (rows (lists k)) ≤ 1 → HashesRight shape holder (put lists k (with_free e (without_row e (lists k)))) (put owner e owners.Free) log hash
  hashes_settled no_bucket listed once =
      let l : Lists = lists k in
      let new : Lists = with_free e (without_row e l) in
      hashes_moved shape holder lists owner log hash right k e new owners.Free
      (λ b is. free_no_bucket b is)
      (λ x other there. let r = rows_without_row_other x e l other in let same : rows new ≡ rows (without_row e l) = refl in omega arith)
      (λ m nb there. by_test m k (λ _. HasRow shape log hash m e ⊎ (IsFresh holder (put owner e owners.Free) m e ⊎ IsBrought shape holder log hash m e))
      (λ same. absurd (gone m same there))
      (λ other. absurd (other (same_lies m k (sym (lies_on shape lists owner home place p m e nb (in_all e (lists m) (at_put lists k new (λ i z. i ≢ k → IsIn e (rows z) → IsIn e (rows (lists i))) m (λ ne. absurd (ne refl)) (λ _ _ in_rows. in_rows) other there))) ∙ lies_on shape lists owner home place p k e no_bucket (in_all e l listed))))))
    where
      free_no_bucket : (b : ℕ) → owners.Free ≡ owners.Bucket b → bucket_number (hash e) shape.buckets ≡ b
      free_no_bucket b is = absurd cc

      gone : (m : ℕ) → m ≡ k → IsIn e (rows (put lists k (with_free e (without_row e (lists k))) m)) → ⊥
      gone m same there =
          let at : IsIn e (rows (with_free e (without_row e (lists k)))) = subst (λ (z : Lists). IsIn e (rows z)) (ap (put lists k (with_free e (without_row e (lists k)))) same ∙ put_here lists k (with_free e (without_row e (lists k)))) there in
          let none = rows_without_row_same e (lists k) once in
          omega arith

  -- the lock is a bucket
  pub hashes_attached : IsTrue (is_bucket (lock_named shape k)) → (b : ℕ) → bucket_number (hash e) shape.buckets ≡ b → owner e ≡ owners.Hand c → ((m : ℕ) → IsFalse (is_bucket (lock_named shape m)) → holder m ≡ Some c → ⊥)
      → HashesRight shape holder (put lists k (with_row lock e (lists k))) (put owner e (owners.Bucket b)) log hash
  hashes_attached bucket b of_bucket was alone =
      let l : Lists = lists k in
      let new : Lists = with_row lock e l in
      hashes_moved shape holder lists owner log hash right k e new (owners.Bucket b)
      (λ d is. of_bucket ∙ same_buckets b d is)
      (λ x other there. let r = rows_with_row_other lock x e l other in omega arith)
      (λ m nb there. ⊎_elim (λ (had : HasRow shape log hash m e). inl had)
      (⊎_elim (λ (fresh : IsFresh holder owner m e). absurd (alone m nb (fresh.held ∙ ap Some (same_hands fresh.cpu c (sym fresh.in_hand ∙ was))))) (λ (brought : IsBrought shape holder log hash m e). inr (inr brought)))
      (right.have m e nb (at_put lists k new (λ i z. IsFalse (is_bucket (lock_named shape i)) → IsIn e (rows z) → IsIn e (rows (lists i))) m (λ nb _. true_false (sym bucket ∙ nb)) (λ _ _ in_rows. in_rows) nb there)))
    where
      same_buckets : (b d : ℕ) → owners.Bucket b ≡ owners.Bucket d → b ≡ d
      same_buckets b d is = cc

      same_hands : (c d : ℕ) → owners.Hand c ≡ owners.Hand d → c ≡ d
      same_hands c d is = cc

  pub hashes_detached : IsTrue (is_bucket (lock_named shape k)) → (b : ℕ) → owner e ≡ owners.Bucket b → HashesRight shape holder (put lists k (without_row e (lists k))) (put owner e (owners.Hand c)) log hash
  hashes_detached bucket b was =
      let l : Lists = lists k in
      let new : Lists = without_row e l in
      hashes_moved shape holder lists owner log hash right k e new (owners.Hand c)
      (λ d is. hand_no_bucket d is)
      (λ x other there. let r = rows_without_row_other x e l other in omega arith)
      (λ m nb there. ⊎_elim (λ (had : HasRow shape log hash m e). inl had)
      (⊎_elim (λ (fresh : IsFresh holder owner m e). absurd (not_both b fresh.cpu (sym was ∙ fresh.in_hand))) (λ (brought : IsBrought shape holder log hash m e). inr (inr brought)))
      (right.have m e nb (at_put lists k new (λ i z. IsFalse (is_bucket (lock_named shape i)) → IsIn e (rows z) → IsIn e (rows (lists i))) m (λ nb _. true_false (sym bucket ∙ nb)) (λ _ _ in_rows. in_rows) nb there)))
    where
      hand_no_bucket : (b : ℕ) → owners.Hand c ≡ owners.Bucket b → bucket_number (hash e) shape.buckets ≡ b
      hand_no_bucket b is = absurd cc

      not_both : (b c : ℕ) → owners.Bucket b ≡ owners.Hand c → ⊥
      not_both b c is = cc
