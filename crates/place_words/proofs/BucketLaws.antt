-- What each turn of a bucket keeps: its keys stay distinct, and its elements are the same but for those that the turn
-- brings and takes.
use Rattle.std.proofs.Common.{◌≡◌, ℕ, suc, ◌+◌, ◌<◌, Bool, true, false, ◌||◌, eqb, List, [], ◌∷◌, ◌++◌, map, Option, None, Some, refl, ap, sym, ◌∙◌, subst, arith}
use Rattle.std.specs.Prelude.{bytes_eq, find, IsSome, if◌then◌else◌}
use Rattle.std.specs.List.{list_any, before_first, after_first}
use Rattle.std.proofs.lemmas.Bool.{eq-eqb, eqb-true}
use Rattle.std.proofs.lemmas.List.{map-append}
use Rattle.std.proofs.lemmas.Slice.Eq.{bytes_eq-Decides}
use Rattle.map_types.specs.declared.attr.Shape.{Shape}
use Rattle.map_types.specs.declared.kind.Side.{Side}
use Rattle.map_types.specs.declared.kind.Side.TheVariants.{Prog, Sys}
use Rattle.map_types.specs.Sides.{values_written}
use Rattle.map_types.specs.Stored.{Stored}
use Rattle.place_words.specs.declared.bucket_part.BucketPart.{BucketPart}
use Rattle.place_words.specs.declared.bucket_part.BucketPart.TheVariants.{Lookup, Update, Delete, Take, Next, First, Walk, Evict}
use Rattle.place_words.specs.declared.bucket_part.Put.{Put}
use Rattle.place_words.specs.declared.bucket_part.Put.TheVariants as puts
use Rattle.place_words.specs.declared.bucket_part.Walked.TheVariants.{Over, Taken}
use Rattle.place_words.specs.declared.bucket_part.Seen.TheVariants.{Removed, Held}
use Rattle.place_words.specs.Bodies.{has_key, has_number, HasDistinctKeys, present, without_key, body_of, without_element, numbers}
use Rattle.place_words.specs.Buckets.{AllowsPut, AllowsInBucket, written_over, bucket_after_put, bucket_after, bucket_marks, as_read}
use Rattle.map_types.specs.ElementLists.{IsIn, times}
use Rattle.place_words.specs.Moves.{brought_to_bucket, taken_from_bucket}
use Rattle.place_words.proofs.Splits.{there, some_there, find_passes, none_passes, find_splits, any_cut}

-- Distinct keys

pub distinct_cut : (front back : List Stored) (body : Stored) → HasDistinctKeys (front ++ body ∷ back) → HasDistinctKeys (front ++ back)
distinct_cut [] back body distinct = distinct.1
distinct_cut (first ∷ front) back body distinct =
    ((any_cut (has_key first.key) front back body distinct.0).1, distinct_cut front back body distinct.1)

-- the first that passes is out
distinct_out : (test : Stored → Bool) (bodies : List Stored) (body : Stored) → find test bodies ≡ Some body → HasDistinctKeys bodies → HasDistinctKeys (before_first test bodies ++ after_first test bodies)
distinct_out test bodies body found distinct =
    distinct_cut (before_first test bodies) (after_first test bodies) body (subst (λ (l : List Stored). HasDistinctKeys l) (find_splits test bodies body found) distinct)

-- the order of two keys doesn't matter
pub bytes_differ : (a b : List ℕ) → bytes_eq a b ≡ false → bytes_eq b a ≡ false
bytes_differ a b differ =
    elim (bytes_eq b a) as (λ r. bytes_eq b a ≡ r → r ≡ false) [
      | true ↦ λ same. let equal : b ≡ a = (bytes_eq-Decides b a).0 same in let found : bytes_eq a b ≡ true = (bytes_eq-Decides a b).1 (sym equal) in cc
      | false ↦ λ same. refl
    ] refl

pub key_cut : (front back : List Stored) (body : Stored) → HasDistinctKeys (front ++ body ∷ back) → list_any (has_key body.key) (front ++ back) ≡ false
key_cut [] back body distinct = distinct.0
key_cut (first ∷ front) back body distinct =
    let other : bytes_eq first.key body.key ≡ false = bytes_differ body.key first.key (any_cut (has_key first.key) front back body distinct.0).0 in
    rw (other, key_cut front back body distinct.1) refl

-- a key is gone with its element
pub key_gone : (key : List ℕ) (bodies : List Stored) (body : Stored) → present key bodies ≡ Some body → HasDistinctKeys bodies → list_any (has_key key) (without_key key bodies) ≡ false
key_gone key bodies body found distinct =
    let front : List Stored = before_first (has_key key) bodies in
    let back : List Stored = after_first (has_key key) bodies in
    let holds : body.key ≡ key = (bytes_eq-Decides body.key key).0 (find_passes (has_key key) bodies body found) in
    let split : HasDistinctKeys (front ++ body ∷ back) = subst (λ (l : List Stored). HasDistinctKeys l) (find_splits (has_key key) bodies body found) distinct in
    subst (λ (k : List ℕ). list_any (has_key k) (front ++ back) ≡ false) holds (key_cut front back body split)

-- elements that keep their keys
any_kept : (change : Stored → Stored) → ((body : Stored) → (change body).key ≡ body.key) → (key : List ℕ) (bodies : List Stored) → list_any (has_key key) (map change bodies) ≡ list_any (has_key key) bodies
any_kept change same key [] = refl
any_kept change same key (body ∷ bodies) =
    ap (λ (k : List ℕ). bytes_eq k key || list_any (has_key key) (map change bodies)) (same body) ∙ ap (λ (b : Bool). has_key key body || b) (any_kept change same key bodies)

distinct_kept : (change : Stored → Stored) → ((body : Stored) → (change body).key ≡ body.key) → (bodies : List Stored) → HasDistinctKeys bodies → HasDistinctKeys (map change bodies)
distinct_kept change same [] distinct = tt
distinct_kept change same (body ∷ bodies) distinct =
    (ap (λ (k : List ℕ). list_any (has_key k) (map change bodies)) (same body) ∙ any_kept change same body.key bodies ∙ distinct.0, distinct_kept change same bodies distinct.1)

written_key : (shape : Shape) (side : Side) (cpu : ℕ) (key value : List ℕ) (body : Stored) → (written_over shape side cpu key value body).key ≡ body.key
written_key shape side cpu key value body =
    elim (has_key key body) as (λ b. (if b then record body { values = values_written shape side cpu body.values value } else body).key ≡ body.key) [
      | true ↦ refl
      | false ↦ refl
    ]

written_number : (shape : Shape) (side : Side) (cpu : ℕ) (key value : List ℕ) (body : Stored) → (written_over shape side cpu key value body).element ≡ body.element
written_number shape side cpu key value body =
    elim (has_key key body) as (λ b. (if b then record body { values = values_written shape side cpu body.values value } else body).element ≡ body.element) [
      | true ↦ refl
      | false ↦ refl
    ]

put_keeps_keys : (shape : Shape) (side : Side) (cpu flags : ℕ) (key value : List ℕ) (put : Put) (bucket : List Stored)
    → AllowsPut shape flags key put bucket → HasDistinctKeys bucket → HasDistinctKeys (bucket_after_put shape side cpu key value put bucket)
put_keeps_keys shape side cpu flags key value (puts.Added e) bucket allowed distinct = (none_passes (has_key key) bucket allowed.0, distinct)
put_keeps_keys shape side cpu flags key value (puts.Replaced new old) bucket allowed distinct =
    let found = there (present key bucket) _ allowed in
    (key_gone key bucket found.it found.is distinct, distinct_out (has_key key) bucket found.it found.is distinct)
put_keeps_keys shape side cpu flags key value (puts.Written e) bucket allowed distinct =
    distinct_kept (written_over shape side cpu key value) (written_key shape side cpu key value) bucket distinct
put_keeps_keys shape side cpu flags key value puts.Exists bucket allowed distinct = distinct
put_keeps_keys shape side cpu flags key value puts.Absent bucket allowed distinct = distinct
put_keeps_keys shape side cpu flags key value puts.Full bucket allowed distinct = distinct

pub keys_stay_distinct : (shape : Shape) (cpu : ℕ) (part : BucketPart) (bucket : List Stored)
    → AllowsInBucket shape cpu part bucket → HasDistinctKeys bucket → HasDistinctKeys (bucket_after shape cpu part bucket)
unfolding AllowsInBucket bucket_after
keys_stay_distinct shape cpu (Lookup side key got) bucket allowed distinct = distinct
keys_stay_distinct shape cpu (Update side flags key value offer put) bucket allowed distinct =
    put_keeps_keys shape side cpu flags key value put bucket allowed distinct
keys_stay_distinct shape cpu (Delete key None) bucket allowed distinct = distinct
keys_stay_distinct shape cpu (Delete key (Some e)) bucket allowed distinct =
    let found = there (present key bucket) _ allowed in
    distinct_out (has_key key) bucket found.it found.is distinct
keys_stay_distinct shape cpu (Take key None) bucket allowed distinct = distinct
keys_stay_distinct shape cpu (Take key (Some gone)) bucket allowed distinct =
    let found = there (present key bucket) _ allowed in
    distinct_out (has_key key) bucket found.it found.is distinct
keys_stay_distinct shape cpu (Next key found) bucket allowed distinct = distinct
keys_stay_distinct shape cpu (First key) bucket allowed distinct = distinct
keys_stay_distinct shape cpu (Walk remove room (Over n)) bucket allowed distinct = distinct
keys_stay_distinct shape cpu (Walk true room (Taken all)) bucket allowed distinct = tt
keys_stay_distinct shape cpu (Walk false room (Taken all)) bucket allowed distinct = distinct
keys_stay_distinct shape cpu (Evict e Removed) bucket allowed distinct =
    let found = some_there (body_of e bucket) allowed in
    distinct_out (has_number e) bucket found.it found.is distinct
keys_stay_distinct shape cpu (Evict e (Held holder)) bucket allowed distinct = distinct

-- Elements

-- one element and the rest
pub times_more : (x e : ℕ) (elements : List ℕ) → times x (e ∷ elements) ≡ times x elements + times x (e ∷ [])
times_more x e elements =
    elim (eqb e x) as (λ b. (if b then suc (times x elements) else times x elements) ≡ times x elements + (if b then 1 else 0)) [
      | true ↦ omega arith
      | false ↦ omega arith
    ]

times_middle : (x e : ℕ) (front back : List ℕ) → times x (e ∷ (front ++ back)) ≡ times x (front ++ e ∷ back)
times_middle x e [] back = refl
times_middle x e (first ∷ front) back =
    let rest = times_middle x e front back in
    let before = times_more x e (first ∷ (front ++ back)) in
    let inside = times_more x first (front ++ back) in
    let after = times_more x first (front ++ e ∷ back) in
    let around = times_more x e (front ++ back) in
    omega (arith, rest, before, inside, after, around)

-- the first that passes is out, and no other element with it
element_out : (test : Stored → Bool) (bodies : List Stored) (body : Stored) → find test bodies ≡ Some body → (x : ℕ)
    → times x (body.element ∷ numbers (before_first test bodies ++ after_first test bodies)) ≡ times x (numbers bodies)
element_out test bodies body found x =
    let front : List Stored = before_first test bodies in
    let back : List Stored = after_first test bodies in
    let element = λ (stored : Stored). stored.element in
    ap (λ (l : List ℕ). times x (body.element ∷ l)) (map-append element front back) ∙ times_middle x body.element (numbers front) (numbers back)
    ∙ ap (times x) (sym (map-append element front (body ∷ back))) ∙ ap (λ (l : List Stored). times x (numbers l)) (sym (find_splits test bodies body found))

pub key_taken : (key : List ℕ) (bodies : List Stored) (body : Stored) → present key bodies ≡ Some body → (x : ℕ)
    → times x (body.element ∷ numbers (without_key key bodies)) ≡ times x (numbers bodies)
key_taken key bodies body found x = element_out (has_key key) bodies body found x

pub element_taken : (e : ℕ) (bodies : List Stored) → IsSome (body_of e bodies) → (x : ℕ)
    → times x (e ∷ numbers (without_element e bodies)) ≡ times x (numbers bodies)
element_taken e bodies some x =
    let found = some_there (body_of e bodies) some in
    let is : found.it.element ≡ e = eqb-true found.it.element e (find_passes (has_number e) bodies found.it found.is) in
    ap (λ k. times x (k ∷ numbers (without_element e bodies))) (sym is) ∙ element_out (has_number e) bodies found.it found.is x

-- elements that keep their numbers
numbers_kept : (change : Stored → Stored) → ((body : Stored) → (change body).element ≡ body.element) → (bodies : List Stored) → numbers (map change bodies) ≡ numbers bodies
numbers_kept change same [] = refl
numbers_kept change same (body ∷ bodies) =
    ap (λ e. e ∷ numbers (map change bodies)) (same body) ∙ ap (λ (l : List ℕ). body.element ∷ l) (numbers_kept change same bodies)

pub numbers_read : (shape : Shape) (cpu : ℕ) (bodies : List Stored) → numbers (map (as_read shape cpu) bodies) ≡ numbers bodies
numbers_read shape cpu bodies = numbers_kept (as_read shape cpu) (λ body. refl) bodies

pub numbers_written : (shape : Shape) (side : Side) (cpu : ℕ) (key value : List ℕ) (bodies : List Stored) → numbers (map (written_over shape side cpu key value) bodies) ≡ numbers bodies
numbers_written shape side cpu key value bodies =
    numbers_kept (written_over shape side cpu key value) (written_number shape side cpu key value) bodies

-- The turns that move elements

module _ (shape : Shape) (cpu : ℕ) (bucket : List Stored) where
  pub replaced_numbers : (side : Side) (flags : ℕ) (key value : List ℕ) (offer : Option ℕ) (new old : ℕ)
      → AllowsInBucket shape cpu (Update side flags key value offer (puts.Replaced new old)) bucket → (x : ℕ)
      → times x (old ∷ numbers (bucket_after shape cpu (Update side flags key value offer (puts.Replaced new old)) bucket)) ≡ times x (new ∷ numbers bucket)
  unfolding AllowsInBucket bucket_after
  replaced_numbers side flags key value offer new old allowed x =
      let found = there (present key bucket) _ allowed in
      let left = numbers (without_key key bucket) in
      let out : times x (old ∷ left) ≡ times x (numbers bucket) =
      ap (λ k. times x (k ∷ left)) (sym found.fact.0) ∙ key_taken key bucket found.it found.is x in
      omega (arith, out, times_more x old (new ∷ left), times_more x new left, times_more x old left, times_more x new (numbers bucket))

  pub deleted_numbers : (key : List ℕ) (e : ℕ) → AllowsInBucket shape cpu (Delete key (Some e)) bucket → (x : ℕ)
      → times x (e ∷ numbers (bucket_after shape cpu (Delete key (Some e)) bucket)) ≡ times x (numbers bucket)
  unfolding AllowsInBucket bucket_after
  deleted_numbers key e allowed x =
      let found = there (present key bucket) _ allowed in
      ap (λ k. times x (k ∷ numbers (without_key key bucket))) (sym found.fact) ∙ key_taken key bucket found.it found.is x

  pub taken_numbers : (key : List ℕ) (gone : ℕ × List ℕ) → AllowsInBucket shape cpu (Take key (Some gone)) bucket → (x : ℕ)
      → times x (gone.0 ∷ numbers (bucket_after shape cpu (Take key (Some gone)) bucket)) ≡ times x (numbers bucket)
  unfolding AllowsInBucket bucket_after
  taken_numbers key gone allowed x =
      let found = there (present key bucket) _ allowed in
      ap (λ k. times x (k ∷ numbers (without_key key bucket))) (sym found.fact.0) ∙ key_taken key bucket found.it found.is x

  pub evicted_numbers : (e : ℕ) → AllowsInBucket shape cpu (Evict e Removed) bucket → (x : ℕ)
      → times x (e ∷ numbers (bucket_after shape cpu (Evict e Removed) bucket)) ≡ times x (numbers bucket)
  unfolding AllowsInBucket bucket_after
  evicted_numbers e allowed x = element_taken e bucket allowed x

  -- a walk gives all elements, and where it removes, none is left
  pub walked_numbers : (remove : Bool) (room : ℕ) (all : List Stored) → AllowsInBucket shape cpu (Walk remove room (Taken all)) bucket → numbers all ≡ numbers bucket
  unfolding AllowsInBucket
  walked_numbers remove room all allowed = ap numbers allowed.1 ∙ numbers_read shape cpu bucket

-- All turns at once: what lies there after it and what was taken is what lay there and what was brought.
module _ (shape : Shape) (cpu : ℕ) (bucket : List Stored) (x : ℕ) where
  pub bucket_counts : (part : BucketPart) → AllowsInBucket shape cpu part bucket
      → times x (numbers (bucket_after shape cpu part bucket)) + times x (taken_from_bucket part) ≡ times x (numbers bucket) + times x (brought_to_bucket part)
  unfolding AllowsInBucket bucket_after
  bucket_counts (Lookup side key got) allowed = refl
  bucket_counts (Update side flags key value offer (puts.Added e)) allowed = omega (arith, times_more x e (numbers bucket))
  bucket_counts (Update side flags key value offer (puts.Replaced new old)) allowed =
      let left = numbers (without_key key bucket) in
      omega (arith, replaced_numbers shape cpu bucket side flags key value offer new old allowed x, times_more x old (new ∷ left), times_more x new (numbers bucket))
  bucket_counts (Update side flags key value offer (puts.Written e)) allowed =
      ap (λ (l : List ℕ). times x l + 0) (numbers_written shape side cpu key value bucket)
  bucket_counts (Update side flags key value offer puts.Exists) allowed = refl
  bucket_counts (Update side flags key value offer puts.Absent) allowed = refl
  bucket_counts (Update side flags key value offer puts.Full) allowed = refl
  bucket_counts (Delete key None) allowed = refl
  bucket_counts (Delete key (Some e)) allowed =
      omega (arith, deleted_numbers shape cpu bucket key e allowed x, times_more x e (numbers (without_key key bucket)))
  bucket_counts (Take key None) allowed = refl
  bucket_counts (Take key (Some gone)) allowed =
      omega (arith, taken_numbers shape cpu bucket key gone allowed x, times_more x gone.0 (numbers (without_key key bucket)))
  bucket_counts (Next key found) allowed = refl
  bucket_counts (First key) allowed = refl
  bucket_counts (Walk remove room (Over n)) allowed = refl
  bucket_counts (Walk true room (Taken all)) allowed =
      let same = ap (times x) (walked_numbers shape cpu bucket true room all allowed) in omega arith
  bucket_counts (Walk false room (Taken all)) allowed = refl
  bucket_counts (Evict e Removed) allowed =
      omega (arith, evicted_numbers shape cpu bucket e allowed x, times_more x e (numbers (without_element e bucket)))
  bucket_counts (Evict e (Held holder)) allowed = refl

-- Elements that lie there

one_itself : (e : ℕ) → times e (e ∷ []) ≡ 1
one_itself e = ap (λ (b : Bool). if b then 1 else 0) (eq-eqb e e refl)

-- the element of a key lies in its bucket
pub present_is_in : (key : List ℕ) (bodies : List Stored) (body : Stored) → present key bodies ≡ Some body → IsIn body.element (numbers bodies)
present_is_in key bodies body found =
    let e = body.element in
    let left = numbers (without_key key bodies) in
    omega (arith, one_itself e, key_taken key bodies body found e, times_more e e left)

alone : (x e : ℕ) → IsIn x (e ∷ []) → e ≡ x
alone x e is_in =
    elim (eqb e x) as (λ b. eqb e x ≡ b → 0 < (if b then 1 else 0) → e ≡ x) [
      | true ↦ λ is some. eqb-true e x is
      | false ↦ λ is some. absurd (omega arith)
    ] refl is_in

-- each element whose bit a turn sets lies in the bucket after the turn
pub marked_is_in : (shape : Shape) (cpu : ℕ) (part : BucketPart) (bucket : List Stored)
    → AllowsInBucket shape cpu part bucket → (x : ℕ) → IsIn x (bucket_marks part) → IsIn x (numbers (bucket_after shape cpu part bucket))
unfolding AllowsInBucket bucket_after
marked_is_in shape cpu (Lookup Prog key None) bucket allowed x marked = absurd (omega arith)
marked_is_in shape cpu (Lookup Prog key (Some got)) bucket allowed x marked =
    let found = there (present key bucket) _ allowed in
    let is : found.it.element ≡ x = found.fact.0 ∙ alone x got.0 marked in
    subst (λ k. IsIn k (numbers bucket)) is (present_is_in key bucket found.it found.is)
marked_is_in shape cpu (Lookup Sys key got) bucket allowed x marked = absurd (omega arith)
marked_is_in shape cpu (Update side flags key value offer (puts.Added e)) bucket allowed x marked = absurd (omega arith)
marked_is_in shape cpu (Update side flags key value offer (puts.Replaced new old)) bucket allowed x marked =
    omega (arith, marked, times_more x new (numbers (without_key key bucket)))
marked_is_in shape cpu (Update side flags key value offer (puts.Written e)) bucket allowed x marked =
    let found = there (present key bucket) _ allowed in
    let is : found.it.element ≡ x = found.fact.0 ∙ alone x e marked in
    let before : IsIn x (numbers bucket) = subst (λ k. IsIn k (numbers bucket)) is (present_is_in key bucket found.it found.is) in
    subst (λ (l : List ℕ). IsIn x l) (sym (numbers_written shape side cpu key value bucket)) before
marked_is_in shape cpu (Update side flags key value offer puts.Exists) bucket allowed x marked = absurd (omega arith)
marked_is_in shape cpu (Update side flags key value offer puts.Absent) bucket allowed x marked = absurd (omega arith)
marked_is_in shape cpu (Update side flags key value offer puts.Full) bucket allowed x marked = absurd (omega arith)
marked_is_in shape cpu (Delete key _) bucket allowed x marked = absurd (omega arith)
marked_is_in shape cpu (Take key _) bucket allowed x marked = absurd (omega arith)
marked_is_in shape cpu (Next key found) bucket allowed x marked = absurd (omega arith)
marked_is_in shape cpu (First key) bucket allowed x marked = absurd (omega arith)
marked_is_in shape cpu (Walk remove room result) bucket allowed x marked = absurd (omega arith)
marked_is_in shape cpu (Evict e probed) bucket allowed x marked = absurd (omega arith)
