-- Deletes, takes and updates are read as their traces.
use Rattle.std.proofs.Common.{◌≡◌, ℕ, ◌<◌, ◌≤◌, Bool, true, false, List, [], ◌∷◌, ◌++◌, Option, None, Some, refl, ap, ◌∙◌, sym, subst, ⊎_elim, arith}
use Rattle.std.specs.Prelude.{◌⊎◌, ◌==◌, ◌&&◌, ◌||◌, nat_lt, bytes_eq}
use Rattle.std.proofs.Common.{inl, inr}
use Rattle.std.proofs.lemmas.Bool.{and_parts, and_from, eqb-true, eq-eqb, ltb-true, ltb-false}
use Rattle.map_types.specs.declared.attr.Shape.{Shape}
use Rattle.map_types.specs.declared.call.Verb.TheVariants as verbs
use Rattle.map_types.specs.declared.kind.Side.{Side}
use Rattle.map_types.specs.declared.refusal.Errno.TheVariants.{Einval}
use Rattle.map_types.specs.declared.reply.Reply.{Reply}
use Rattle.map_types.specs.declared.reply.Reply.TheVariants.{Refused}
use Rattle.place_words.specs.declared.bucket_part.BucketPart.{BucketPart}
use Rattle.place_words.specs.declared.bucket_part.BucketPart.TheVariants.{Lookup, Update, Delete, Take, Next, First, Walk, Evict}
use Rattle.place_words.specs.declared.bucket_part.Put.{Put}
use Rattle.place_words.specs.declared.bucket_part.Put.TheVariants as puts
use Rattle.place_words.specs.declared.free_part.FreePart.TheVariants.{Popped, FoundEmpty}
use Rattle.place_words.specs.declared.history.Part.TheVariants as parts
use Rattle.place_words.specs.PlainTraces.{found_empty, pushes, LooksFor, IsPutTrace, IsDeleteTrace, IsTakeTrace, reply_of_got, reply_of_gone, reply_of_put, element_gone, spare_after, spare_after_part, spare_after_put}
use Rattle.place_words.specs.Turns.{Turn, ring, on_bucket_of, on_freelist_of, bucket_of_key}
use Rattle.trace_check.specs.Reading.{IsReader, read_nothing, read_as, read_at, same_side, same_turn, same_turns, are_pops}
use Rattle.trace_check.specs.Calls.{Answer, gone_in, taken_in, put_in, is_spare, looks_for, read_put}
use Rattle.trace_check.specs.Laws.{IsKeyCall, ReadsDeletes, ReadsTakes, ReadsUpdates}
use Rattle.trace_check.proofs.Readers.{AreFree, IsAs, IsNothing, nothing_reader, as_reader, same_reader, if_reader}
use Rattle.trace_check.proofs.Tests.{one_side, side_same, one_key, key_same, one_turn, one_row, row_same, free_pushes, free_empty, free_more, when_told, when_so, IsAt, Tells, at_reader}
use Rattle.trace_check.proofs.Keys.{at_spare}

-- A call of one group of turns: its reply and the spare that it leaves go by what the bucket's turn tells.
pub one_group : {A : Type 0} (bucket : ℕ) (part_of : A → BucketPart) (Looks : A → List Turn → Type 0) (says : BucketPart → Option A) (looks : A → List Turn → Bool) (spare : Option ℕ) (reply_of : A → Reply) (spare_of : A → Option ℕ) (Rel : List Turn → Reply → Type 0)
    → Tells part_of Looks says looks → ((a : A) → spare_after_part spare (parts.Bucket (part_of a)) ≡ spare_of a)
    → ((xs : List Turn) (reply : Reply) (a : A) → IsAt bucket part_of Looks xs a → reply ≡ reply_of a → Rel xs reply)
    → ((xs : List Turn) (reply : Reply) → Rel xs reply → (a : A) × (IsAt bucket part_of Looks xs a × (reply ≡ reply_of a)))
    → IsReader (λ xs (answer : Answer). Rel xs answer.0 × (answer.1 ≡ spare_after spare xs)) (read_as (λ a. (reply_of a, spare_of a)) (read_at bucket says looks))
one_group {A = A} bucket part_of Looks says looks spare reply_of spare_of Rel tells leaves there back =
    same_reader (IsAs answer At) Told (read_as answer (read_at bucket says looks)) forth home (as_reader answer At (read_at bucket says looks) (at_reader bucket part_of Looks says looks tells))
  where
    answer : A → Answer
    answer a = (reply_of a, spare_of a)

    At : List Turn → A → Type 0
    At = IsAt bucket part_of Looks

    Told : List Turn → Answer → Type 0
    Told xs b = Rel xs b.0 × (b.1 ≡ spare_after spare xs)

    left : (xs : List Turn) (a : A) → At xs a → spare_after spare xs ≡ spare_of a
    left xs a at = at_spare spare xs a at (tells.are_free a at.before at.looks) ∙ leaves a

    forth : (xs : List Turn) (b : Answer) → IsAs answer At xs b → Told xs b
    forth xs b is = (there xs b.0 is.0 is.1.0 (ap (λ (c : Answer). c.0) is.1.1), ap (λ (c : Answer). c.1) is.1.1 ∙ sym (left xs is.0 is.1.0))

    home : (xs : List Turn) (b : Answer) → Told xs b → IsAs answer At xs b
    home xs b is =
        let one = back xs b.0 is.0 in
        (one.0, (one.1.0, ap (λ (r : Reply). (r, b.1)) one.1.1 ∙ ap (λ (o : Option ℕ). (reply_of one.0, o)) (is.1 ∙ left xs one.0 one.1.0)))

-- delete
delete_only : (key : List ℕ) (part : BucketPart) (gone : Option ℕ) → gone_in key part ≡ Some gone → part ≡ Delete key gone
delete_only key (Lookup s k found) freed is = absurd cc
delete_only key (Update s flags k value offer put) freed is = absurd cc
delete_only key (Delete k found) freed is =
    let told = when_told (bytes_eq key k) found freed is in
    ap (λ (l : List ℕ). Delete l found) (sym (one_key key k told.0)) ∙ ap (λ (o : Option ℕ). Delete key o) told.1
delete_only key (Take k _) freed is = absurd cc
delete_only key (Next k found) freed is = absurd cc
delete_only key (First k) freed is = absurd cc
delete_only key (Walk remove room result) freed is = absurd cc
delete_only key (Evict e probed) freed is = absurd cc

-- a row of turns of freelists, tested
pub row_tells : {A : Type 0} (part_of : A → BucketPart) (says : BucketPart → Option A) (row : A → List Turn) → ((a : A) → AreFree (row a)) → ((a : A) → says (part_of a) ≡ Some a) → ((part : BucketPart) (a : A) → says part ≡ Some a → part ≡ part_of a)
    → Tells part_of (λ a before. before ≡ row a) says (λ a before. same_turns (row a) before)
row_tells part_of says row free says_it says_only = record {
  says_it = says_it;
  says_only = says_only;
  looks_so = λ a before is. ap (same_turns (row a)) is ∙ row_same (row a) (free a);
  looks_only = λ a before is. sym (one_row (row a) before is);
  are_free = λ a before is. subst AreFree (sym is) (free a);
}

pub reads_deletes : ReadsDeletes
reads_deletes shape cpu spare key =
    one_group (bucket_of_key shape key) (λ gone. Delete key gone) (λ gone before. before ≡ pushes cpu gone) (gone_in key) (λ gone before. same_turns (pushes cpu gone) before) spare reply_of_gone (λ gone. spare) (IsDeleteTrace shape cpu key)
    (row_tells (λ gone. Delete key gone) (gone_in key) (pushes cpu) (free_pushes cpu) (λ gone. when_so (bytes_eq key key) gone (key_same key)) (delete_only key))
    (λ gone. refl)
    (λ xs reply gone at is. record { gone = gone; turns_are = at.xs_are ∙ ap (λ (l : List Turn). l ++ on_bucket_of shape key (Delete key gone) ∷ []) at.looks; reply_is = is })
    (λ xs reply is. (is.gone, (record { before = pushes cpu is.gone; looks = refl; xs_are = is.turns_are }, is.reply_is)))

-- take
take_only : (key : List ℕ) (part : BucketPart) (gone : Option (ℕ × List ℕ)) → taken_in key part ≡ Some gone → part ≡ Take key gone
take_only key (Lookup s k found) freed is = absurd cc
take_only key (Update s flags k value offer put) freed is = absurd cc
take_only key (Delete k _) freed is = absurd cc
take_only key (Take k found) freed is =
    let told = when_told (bytes_eq key k) found freed is in
    ap (λ (l : List ℕ). Take l found) (sym (one_key key k told.0)) ∙ ap (λ (o : Option (ℕ × List ℕ)). Take key o) told.1
take_only key (Next k found) freed is = absurd cc
take_only key (First k) freed is = absurd cc
take_only key (Walk remove room result) freed is = absurd cc
take_only key (Evict e probed) freed is = absurd cc

pub reads_takes : ReadsTakes
reads_takes shape cpu spare key =
    one_group (bucket_of_key shape key) (λ gone. Take key gone) (λ gone before. before ≡ pushes cpu (element_gone gone)) (taken_in key) (λ gone before. same_turns (pushes cpu (element_gone gone)) before) spare reply_of_got (λ gone. spare) (IsTakeTrace shape cpu key)
    (row_tells (λ gone. Take key gone) (taken_in key) (λ gone. pushes cpu (element_gone gone)) (λ gone. free_pushes cpu (element_gone gone)) (λ gone. when_so (bytes_eq key key) gone (key_same key)) (take_only key))
    (λ gone. refl)
    (λ xs reply gone at is. record { gone = gone; turns_are = at.xs_are ∙ ap (λ (l : List Turn). l ++ on_bucket_of shape key (Take key gone) ∷ []) at.looks; reply_is = is })
    (λ xs reply is. (is.gone, (record { before = pushes cpu (element_gone is.gone); looks = refl; xs_are = is.turns_are }, is.reply_is)))

-- update
or_told : (b c : Bool) → (b || c) ≡ true → (b ≡ true) ⊎ (c ≡ true)
or_told true c is = inl refl
or_told false c is = inr is

or_left : (b c : Bool) → b ≡ true → (b || c) ≡ true
or_left true c is = refl
or_left false c is = absurd cc

or_right : (b c : Bool) → c ≡ true → (b || c) ≡ true
or_right true c is = refl
or_right false c is = is

record PopsAlong (cpus : List ℕ) (e : ℕ) (turns : List Turn) : Type 0 where
  passed : List ℕ
  giver : ℕ
  left : List ℕ
  cpus_are : cpus ≡ passed ++ giver ∷ left
  turns_are : turns ≡ found_empty passed ++ on_freelist_of giver (Popped e) ∷ []

pops_only : (cpus : List ℕ) (e : ℕ) (turns : List Turn) → are_pops cpus e turns ≡ true → PopsAlong cpus e turns
pops_only [] e turns is = absurd cc
pops_only (cpu ∷ cpus) e [] is = absurd cc
pops_only (cpu ∷ cpus) e (turn ∷ turns) is =
    ⊎_elim
    (λ first.
    let both = and_parts (same_turn (on_freelist_of cpu FoundEmpty) turn) (are_pops cpus e turns) first in
    let more = pops_only cpus e turns both.1 in
    record {
      passed = cpu ∷ more.passed;
      giver = more.giver;
      left = more.left;
      cpus_are = ap (λ (l : List ℕ). cpu ∷ l) more.cpus_are;
      turns_are = ap (λ (t : Turn). t ∷ turns) (sym (one_turn (on_freelist_of cpu FoundEmpty) turn both.0)) ∙ ap (λ (l : List Turn). on_freelist_of cpu FoundEmpty ∷ l) more.turns_are;
    })
    (λ last. record { passed = []; giver = cpu; left = cpus; cpus_are = refl; turns_are = sym (one_row (on_freelist_of cpu (Popped e) ∷ []) (turn ∷ turns) last) })
    (or_told (same_turn (on_freelist_of cpu FoundEmpty) turn && are_pops cpus e turns) (same_turns (on_freelist_of cpu (Popped e) ∷ []) (turn ∷ turns)) is)

pops_so : (passed : List ℕ) (giver : ℕ) (left : List ℕ) (e : ℕ) → are_pops (passed ++ giver ∷ left) e (found_empty passed ++ on_freelist_of giver (Popped e) ∷ []) ≡ true
pops_so [] giver left e =
    or_right (same_turn (on_freelist_of giver FoundEmpty) (on_freelist_of giver (Popped e)) && are_pops left e []) (same_turns (on_freelist_of giver (Popped e) ∷ []) (on_freelist_of giver (Popped e) ∷ []))
    (row_same (on_freelist_of giver (Popped e) ∷ []) (refl, tt))
pops_so (cpu ∷ passed) giver left e =
    let turns : List Turn = found_empty passed ++ on_freelist_of giver (Popped e) ∷ [] in
    let here = and_parts (same_turn (on_freelist_of cpu FoundEmpty) (on_freelist_of cpu FoundEmpty)) true (row_same (on_freelist_of cpu FoundEmpty ∷ []) (refl, tt)) in
    or_left (same_turn (on_freelist_of cpu FoundEmpty) (on_freelist_of cpu FoundEmpty) && are_pops (passed ++ giver ∷ left) e turns) (same_turns (on_freelist_of cpu (Popped e) ∷ []) (on_freelist_of cpu FoundEmpty ∷ turns))
    (and_from (same_turn (on_freelist_of cpu FoundEmpty) (on_freelist_of cpu FoundEmpty)) (are_pops (passed ++ giver ∷ left) e turns) here.0 (pops_so passed giver left e))

put_only : (side : Side) (flags : ℕ) (key value : List ℕ) (part : BucketPart) (put : Put) → put_in side flags key value part ≡ Some put → part ≡ Update side flags key value None put
put_only side flags key value (Lookup s k found) put is = absurd cc
put_only side flags key value (Update s f k v None made) put is =
    let told = when_told (((same_side side s && flags == f) && bytes_eq key k) && bytes_eq value v) made put is in
    let last = and_parts ((same_side side s && flags == f) && bytes_eq key k) (bytes_eq value v) told.0 in
    let third = and_parts (same_side side s && flags == f) (bytes_eq key k) last.0 in
    let first = and_parts (same_side side s) (flags == f) third.0 in
    ap (λ (t : Side). Update t f k v None made) (sym (one_side side s first.0))
    ∙ ap (λ (n : ℕ). Update side n k v None made) (sym (eqb-true flags f first.1))
    ∙ ap (λ (l : List ℕ). Update side flags l v None made) (sym (one_key key k third.1))
    ∙ ap (λ (l : List ℕ). Update side flags key l None made) (sym (one_key value v last.1))
    ∙ ap (λ (p : Put). Update side flags key value None p) told.1
put_only side flags key value (Update s f k v (Some offer) made) put is = absurd cc
put_only side flags key value (Delete k _) put is = absurd cc
put_only side flags key value (Take k _) put is = absurd cc
put_only side flags key value (Next k found) put is = absurd cc
put_only side flags key value (First k) put is = absurd cc
put_only side flags key value (Walk remove room result) put is = absurd cc
put_only side flags key value (Evict e probed) put is = absurd cc

spare_only : (spare : Option ℕ) (new : ℕ) → is_spare spare new ≡ true → spare ≡ Some new
spare_only None new is = absurd cc
spare_only (Some e) new is = ap Some (eqb-true e new is)

module _ (shape : Shape) (cpu : ℕ) (spare : Option ℕ) where
  looks_so : (put : Put) (before : List Turn) → LooksFor shape cpu spare put before → looks_for shape cpu spare put before ≡ true
  looks_so (puts.Added e) before is =
      ap (λ (l : List ℕ). are_pops l e before) is.ring_is ∙ ap (are_pops (is.passed ++ is.giver ∷ is.left) e) is.turns_are ∙ pops_so is.passed is.giver is.left e
  looks_so (puts.Replaced new old) before is =
      and_from (same_turns [] before) (is_spare spare new) (ap (same_turns []) is.0) (ap (λ (o : Option ℕ). is_spare o new) is.1 ∙ eq-eqb new new refl)
  looks_so (puts.Written e) before is = ap (same_turns []) is
  looks_so puts.Exists before is = ap (same_turns []) is
  looks_so puts.Absent before is = ap (same_turns []) is
  looks_so puts.Full before is = ap (same_turns (found_empty (ring cpu shape.cpus))) is ∙ row_same (found_empty (ring cpu shape.cpus)) (free_empty (ring cpu shape.cpus))

  looks_only : (put : Put) (before : List Turn) → looks_for shape cpu spare put before ≡ true → LooksFor shape cpu spare put before
  looks_only (puts.Added e) before is =
      let pops = pops_only (ring cpu shape.cpus) e before is in
      record { passed = pops.passed; giver = pops.giver; left = pops.left; ring_is = pops.cpus_are; turns_are = pops.turns_are }
  looks_only (puts.Replaced new old) before is =
      let both = and_parts (same_turns [] before) (is_spare spare new) is in
      (sym (one_row [] before both.0), spare_only spare new both.1)
  looks_only (puts.Written e) before is = sym (one_row [] before is)
  looks_only puts.Exists before is = sym (one_row [] before is)
  looks_only puts.Absent before is = sym (one_row [] before is)
  looks_only puts.Full before is = sym (one_row (found_empty (ring cpu shape.cpus)) before is)

  looks_free : (put : Put) (before : List Turn) → LooksFor shape cpu spare put before → AreFree before
  looks_free (puts.Added e) before is = subst AreFree (sym is.turns_are) (free_more (found_empty is.passed) (on_freelist_of is.giver (Popped e) ∷ []) (free_empty is.passed) (refl, tt))
  looks_free (puts.Replaced new old) before is = subst AreFree (sym is.0) tt
  looks_free (puts.Written e) before is = subst AreFree (sym is) tt
  looks_free puts.Exists before is = subst AreFree (sym is) tt
  looks_free puts.Absent before is = subst AreFree (sym is) tt
  looks_free puts.Full before is = subst AreFree (sym is) (free_empty (ring cpu shape.cpus))

  reads_put : (side : Side) (flags : ℕ) (key value : List ℕ) → IsReader (λ xs (answer : Answer). IsPutTrace shape cpu spare side flags key value xs answer.0 × (answer.1 ≡ spare_after spare xs)) (read_put shape cpu spare side flags key value)
  reads_put side flags key value =
      one_group (bucket_of_key shape key) (λ put. Update side flags key value None put) (LooksFor shape cpu spare) (put_in side flags key value) (looks_for shape cpu spare) spare reply_of_put (spare_after_put spare) (IsPutTrace shape cpu spare side flags key value)
      (record {
        says_it = λ put. when_so (((same_side side side && flags == flags) && bytes_eq key key) && bytes_eq value value) put
            (and_from ((same_side side side && flags == flags) && bytes_eq key key) (bytes_eq value value) (and_from (same_side side side && flags == flags) (bytes_eq key key) (and_from (same_side side side) (flags == flags) (side_same side) (eq-eqb flags flags refl)) (key_same key)) (key_same value));
        says_only = put_only side flags key value;
        looks_so = looks_so;
        looks_only = looks_only;
        are_free = looks_free;
      })
      (λ put. refl)
      (λ xs reply put at is. record { put = put; looks = at.before; looks_are = at.looks; turns_are = at.xs_are; reply_is = is })
      (λ xs reply is. (is.put, (record { before = is.looks; looks = is.looks_are; xs_are = is.turns_are }, is.reply_is)))

pub reads_updates : ReadsUpdates
reads_updates shape cpu spare side flags key value =
    if_reader (nat_lt 2 flags) Rel (read_nothing (Refused Einval, spare)) (read_put shape cpu spare side flags key value)
    (λ above.
    let more : 2 < flags = ltb-true 2 flags above in
    same_reader (IsNothing (Refused Einval, spare)) Rel (read_nothing (Refused Einval, spare))
    (λ xs a is. (inl (more, is.0, ap (λ (b : Answer). b.0) is.1), ap (λ (b : Answer). b.1) is.1 ∙ sym (ap (spare_after spare) is.0)))
    (λ xs a is. ⊎_elim
    (λ refused. (refused.1, ap (λ (r : Reply). (r, a.1)) refused.2 ∙ ap (λ (o : Option ℕ). (Refused Einval, o)) (is.1 ∙ ap (spare_after spare) refused.1)))
    (λ one. let below : flags ≤ 2 = one.0 in absurd (omega (arith, more, below)))
    is.0)
    (nothing_reader (Refused Einval, spare)))
    (λ within.
    let most : flags ≤ 2 = ltb-false 2 flags within in
    same_reader Put Rel (read_put shape cpu spare side flags key value)
    (λ xs a is. (inr (most, is.0), is.1))
    (λ xs a is. ⊎_elim (λ refused. let more : 2 < flags = refused.0 in absurd (omega (arith, more, most))) (λ one. (one.1, is.1)) is.0)
    (reads_put shape cpu spare side flags key value))
  where
    Rel : List Turn → Answer → Type 0
    Rel = IsKeyCall shape cpu spare (verbs.Update side flags key value)

    Put : List Turn → Answer → Type 0
    Put xs answer = IsPutTrace shape cpu spare side flags key value xs answer.0 × (answer.1 ≡ spare_after spare xs)
