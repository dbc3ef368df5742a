-- What the tests of turns say.
use Rattle.std.proofs.Common.{◌≡◌, ℕ, Bool, true, false, List, [], ◌∷◌, Option, None, Some, refl, ap, ◌∙◌, sym}
use Rattle.std.specs.Prelude.{◌==◌, ◌&&◌, bytes_eq, if◌then◌else◌}
use Rattle.std.proofs.lemmas.Bool.{and_parts, and_from, eqb-true, eq-eqb}
use Rattle.std.proofs.lemmas.Option.{same_Some}
use Rattle.map_types.specs.declared.kind.DomainId.{DomainId}
use Rattle.map_types.specs.declared.kind.Side.{Side}
use Rattle.place_words.specs.declared.bucket_part.BucketPart.{BucketPart}
use Rattle.place_words.specs.declared.bucket_part.BucketPart.TheVariants as bucket
use Rattle.place_words.specs.declared.bucket_part.Put.{Put}
use Rattle.place_words.specs.declared.history.Part.{Part}
use Rattle.place_words.specs.declared.history.Part.TheVariants as parts
use Rattle.place_words.specs.declared.list_part.GlobalPart.{GlobalPart}
use Rattle.place_words.specs.declared.list_part.GlobalPart.TheVariants as global
use Rattle.place_words.specs.declared.list_part.LocalPart.{LocalPart}
use Rattle.place_words.specs.declared.list_part.LocalPart.TheVariants as local
use Rattle.place_words.specs.declared.list_part.OwnPart.{OwnPart}
use Rattle.place_words.specs.declared.list_part.OwnPart.TheVariants as own
use Rattle.place_words.specs.declared.visits.Visit.{Visit}
use Rattle.place_words.specs.Locks.{is_same_lock}
use Rattle.place_words.specs.Turns.{Turn, on_lock}
use Rattle.place_words.proofs.LockLemmas.{same_lock, one_lock}
use Rattle.trace_check.specs.Reading.{of_bucket, checked, same_side}
use Rattle.trace_check.specs.Calls.{same_bool, got_in, gone_in, taken_in, walked_in}
use Rattle.trace_check.proofs.Tests.{one_side, side_same, one_key, key_same, when_told, when_so}
use Rattle.trace_check.proofs.Batches.{walk_only, walk_says}
use Rattle.evicting_traces.specs.Parts.{on, of_local, of_global, of_own, visit_of, same_visit, same_visits, popped_in, refilled_in, Theft, stolen_in, added_in, pushed_in, Giving, given_in, freed_in, OwnGiving, own_given_in, own_freed_in, same_offer, put_of}

-- what a test lets through
pub checked_told : {A : Type 0} (test : A → Bool) (o : Option A) (a : A) → checked test o ≡ Some a → (o ≡ Some a) × (test a ≡ true)
checked_told test None a is = absurd cc
checked_told test (Some b) a is =
    let told = when_told (test b) b a is in
    (ap Some told.1, ap test (sym told.1) ∙ told.0)

pub checked_so : {A : Type 0} (test : A → Bool) (o : Option A) (a : A) → o ≡ Some a → test a ≡ true → checked test o ≡ Some a
checked_so test o a is passes = ap (checked test) is ∙ when_so (test a) a passes

-- a reader tells exactly what is of this form, and what it is made of
pub record Tells {A B : Type 0} (of : A → B) (says : B → Option A) : Type 0 where
  pub says_it : (a : A) → says (of a) ≡ Some a
  pub says_only : (b : B) (a : A) → says b ≡ Some a → b ≡ of a

pub tells_local : {A : Type 0} (of : A → LocalPart) (says : LocalPart → Option A) → Tells of says → Tells (λ a. parts.Local (of a)) (of_local says)
tells_local {A = A} of says tells = record { says_it = tells.says_it; says_only = only }
  where
    only : (part : Part) (a : A) → of_local says part ≡ Some a → part ≡ parts.Local (of a)
    only (parts.Bucket part) a is = absurd cc
    only (parts.Free part) a is = absurd cc
    only (parts.Local part) a is = ap parts.Local (tells.says_only part a is)
    only (parts.Global part) a is = absurd cc
    only (parts.Own part) a is = absurd cc

pub tells_global : {A : Type 0} (of : A → GlobalPart) (says : GlobalPart → Option A) → Tells of says → Tells (λ a. parts.Global (of a)) (of_global says)
tells_global {A = A} of says tells = record { says_it = tells.says_it; says_only = only }
  where
    only : (part : Part) (a : A) → of_global says part ≡ Some a → part ≡ parts.Global (of a)
    only (parts.Bucket part) a is = absurd cc
    only (parts.Free part) a is = absurd cc
    only (parts.Local part) a is = absurd cc
    only (parts.Global part) a is = ap parts.Global (tells.says_only part a is)
    only (parts.Own part) a is = absurd cc

pub tells_own : {A : Type 0} (of : A → OwnPart) (says : OwnPart → Option A) → Tells of says → Tells (λ a. parts.Own (of a)) (of_own says)
tells_own {A = A} of says tells = record { says_it = tells.says_it; says_only = only }
  where
    only : (part : Part) (a : A) → of_own says part ≡ Some a → part ≡ parts.Own (of a)
    only (parts.Bucket part) a is = absurd cc
    only (parts.Free part) a is = absurd cc
    only (parts.Local part) a is = absurd cc
    only (parts.Global part) a is = absurd cc
    only (parts.Own part) a is = ap parts.Own (tells.says_only part a is)

pub tells_bucket : {A : Type 0} (of : A → BucketPart) (says : BucketPart → Option A) → Tells of says → Tells (λ a. parts.Bucket (of a)) (of_bucket says)
tells_bucket {A = A} of says tells = record { says_it = tells.says_it; says_only = only }
  where
    only : (part : Part) (a : A) → of_bucket says part ≡ Some a → part ≡ parts.Bucket (of a)
    only (parts.Bucket part) a is = ap parts.Bucket (tells.says_only part a is)
    only (parts.Free part) a is = absurd cc
    only (parts.Local part) a is = absurd cc
    only (parts.Global part) a is = absurd cc
    only (parts.Own part) a is = absurd cc

pub tells_on : {A : Type 0} (lock : DomainId) (of : A → Part) (says : Part → Option A) → Tells of says → Tells (λ a. on_lock lock (of a)) (on lock says)
tells_on {A = A} lock of says tells = record {
  says_it = λ a. ap (λ (b : Bool). if b then says (of a) else None) (same_lock lock) ∙ tells.says_it a;
  says_only = λ turn a is. by turn a (is_same_lock turn.lock lock) refl is;
}
  where
    by : (turn : Turn) (a : A) (b : Bool) → is_same_lock turn.lock lock ≡ b → (if b then says turn.part else None) ≡ Some a → turn ≡ on_lock lock (of a)
    by turn a true same is = ap (λ l. on_lock l turn.part) (one_lock turn.lock lock same) ∙ ap (on_lock lock) (tells.says_only turn.part a is)
    by turn a false same is = absurd cc

-- visits
pub one_bool : (a b : Bool) → same_bool a b ≡ true → a ≡ b
one_bool true b is = sym is
one_bool false false is = refl
one_bool false true is = absurd cc

pub bool_same : (a : Bool) → same_bool a a ≡ true
bool_same true = refl
bool_same false = refl

one_visit : (visit other : Visit) → same_visit visit other ≡ true → visit ≡ other
one_visit visit other is =
    let told = and_parts (visit.element == other.element) (same_bool visit.bit other.bit) is in
    ap (λ n. visit_of n visit.bit) (eqb-true visit.element other.element told.0) ∙ ap (visit_of other.element) (one_bool visit.bit other.bit told.1)

one_visits : (visits others : List Visit) → same_visits visits others ≡ true → visits ≡ others
one_visits [] [] is = refl
one_visits [] (other ∷ others) is = absurd cc
one_visits (visit ∷ visits) [] is = absurd cc
one_visits (visit ∷ visits) (other ∷ others) is =
    let told = and_parts (same_visit visit other) (same_visits visits others) is in
    ap (λ (v : Visit). v ∷ visits) (one_visit visit other told.0) ∙ ap (λ (l : List Visit). other ∷ l) (one_visits visits others told.1)

visits_same : (visits : List Visit) → same_visits visits visits ≡ true
visits_same [] = refl
visits_same (visit ∷ visits) =
    and_from (same_visit visit visit) (same_visits visits visits) (and_from (visit.element == visit.element) (same_bool visit.bit visit.bit) (eq-eqb visit.element visit.element refl) (bool_same visit.bit)) (visits_same visits)

-- turns of local lists
pub tells_popped : (hash : ℕ) → Tells (λ e. local.Pop hash e) (popped_in hash)
tells_popped hash = record { says_it = λ e. when_so (hash == hash) e (eq-eqb hash hash refl); says_only = only }
  where
    only : (part : LocalPart) (e : ℕ) → popped_in hash part ≡ Some e → part ≡ local.Pop hash e
    only (local.Pop h x) e is =
        let told = when_told (hash == h) x e is in ap (λ n. local.Pop n x) (sym (eqb-true hash h told.0)) ∙ ap (local.Pop hash) told.1
    only (local.Refill h visits gained got) e is = absurd cc
    only (local.Steal got first second) e is = absurd cc
    only (local.Add h x cursor) e is = absurd cc
    only (local.Push x done) e is = absurd cc

pub tells_refilled : (hash : ℕ) (flushed : List Visit) (gained : List ℕ) → Tells (λ got. local.Refill hash flushed gained got) (refilled_in hash flushed gained)
tells_refilled hash flushed gained = record {
  says_it = λ got. when_so (((hash == hash) && same_visits flushed flushed) && bytes_eq gained gained) got
      (and_from ((hash == hash) && same_visits flushed flushed) (bytes_eq gained gained) (and_from (hash == hash) (same_visits flushed flushed) (eq-eqb hash hash refl) (visits_same flushed)) (key_same gained));
  says_only = only;
}
  where
    only : (part : LocalPart) (got : Option ℕ) → refilled_in hash flushed gained part ≡ Some got → part ≡ local.Refill hash flushed gained got
    only (local.Pop h x) got is = absurd cc
    only (local.Refill h visits elements found) got is =
        let told = when_told (((hash == h) && same_visits flushed visits) && bytes_eq gained elements) found got is in
        let outer = and_parts ((hash == h) && same_visits flushed visits) (bytes_eq gained elements) told.0 in
        let inner = and_parts (hash == h) (same_visits flushed visits) outer.0 in
        ap (λ n. local.Refill n visits elements found) (sym (eqb-true hash h inner.0))
        ∙ ap (λ (l : List Visit). local.Refill hash l elements found) (sym (one_visits flushed visits inner.1))
        ∙ ap (λ (l : List ℕ). local.Refill hash flushed l found) (sym (one_key gained elements outer.1))
        ∙ ap (local.Refill hash flushed gained) told.1
    only (local.Steal found first second) got is = absurd cc
    only (local.Add h x cursor) got is = absurd cc
    only (local.Push x done) got is = absurd cc

pub tells_stolen : Tells (λ (theft : Theft). local.Steal theft.0 theft.1 theft.2) stolen_in
tells_stolen = record { says_it = λ theft. refl; says_only = only }
  where
    only : (part : LocalPart) (theft : Theft) → stolen_in part ≡ Some theft → part ≡ local.Steal theft.0 theft.1 theft.2
    only (local.Pop h x) theft is = absurd cc
    only (local.Refill h visits elements found) theft is = absurd cc
    only (local.Steal found first second) theft is = ap (λ (t : Theft). local.Steal t.0 t.1 t.2) (same_Some (found, first, second) theft is)
    only (local.Add h x cursor) theft is = absurd cc
    only (local.Push x done) theft is = absurd cc

pub tells_added : (hash e cursor : ℕ) → Tells (λ (u : Unit {0}). local.Add hash e cursor) (added_in hash e cursor)
tells_added hash e cursor = record {
  says_it = λ u. when_so (((hash == hash) && (e == e)) && (cursor == cursor)) tt
      (and_from ((hash == hash) && (e == e)) (cursor == cursor) (and_from (hash == hash) (e == e) (eq-eqb hash hash refl) (eq-eqb e e refl)) (eq-eqb cursor cursor refl));
  says_only = only;
}
  where
    only : (part : LocalPart) (u : Unit {0}) → added_in hash e cursor part ≡ Some u → part ≡ local.Add hash e cursor
    only (local.Pop h x) u is = absurd cc
    only (local.Refill h visits elements found) u is = absurd cc
    only (local.Steal found first second) u is = absurd cc
    only (local.Add h x next) u is =
        let told = when_told (((hash == h) && (e == x)) && (cursor == next)) tt u is in
        let outer = and_parts ((hash == h) && (e == x)) (cursor == next) told.0 in
        let inner = and_parts (hash == h) (e == x) outer.0 in
        ap (λ n. local.Add n x next) (sym (eqb-true hash h inner.0)) ∙ ap (λ n. local.Add hash n next) (sym (eqb-true e x inner.1)) ∙ ap (local.Add hash e) (sym (eqb-true cursor next outer.1))
    only (local.Push x done) u is = absurd cc

pub tells_pushed : (e : ℕ) (done : Bool) → Tells (λ (u : Unit {0}). local.Push e done) (pushed_in e done)
tells_pushed e done = record {
  says_it = λ u. when_so ((e == e) && same_bool done done) tt (and_from (e == e) (same_bool done done) (eq-eqb e e refl) (bool_same done));
  says_only = only;
}
  where
    only : (part : LocalPart) (u : Unit {0}) → pushed_in e done part ≡ Some u → part ≡ local.Push e done
    only (local.Pop h x) u is = absurd cc
    only (local.Refill h visits elements found) u is = absurd cc
    only (local.Steal found first second) u is = absurd cc
    only (local.Add h x next) u is = absurd cc
    only (local.Push x did) u is =
        let told = when_told ((e == x) && same_bool done did) tt u is in
        let outer = and_parts (e == x) (same_bool done did) told.0 in
        ap (λ n. local.Push n did) (sym (eqb-true e x outer.0)) ∙ ap (local.Push e) (sym (one_bool done did outer.1))

-- of the global lists, and of a CPU's own
abbrev pub global_of : Giving → GlobalPart
global_of given = global.Turn given.0 given.1 given.2 given.3 given.4

pub tells_given : Tells global_of given_in
tells_given = record { says_it = λ given. refl; says_only = only }
  where
    only : (part : GlobalPart) (given : Giving) → given_in part ≡ Some given → part ≡ global_of given
    only (global.Turn flushed active inactive free shrink) given is = ap global_of (same_Some (flushed, active, inactive, free, shrink) given is)
    only (global.Push x) given is = absurd cc

pub tells_freed : (e : ℕ) → Tells (λ (u : Unit {0}). global.Push e) (freed_in e)
tells_freed e = record { says_it = λ u. when_so (e == e) tt (eq-eqb e e refl); says_only = only }
  where
    only : (part : GlobalPart) (u : Unit {0}) → freed_in e part ≡ Some u → part ≡ global.Push e
    only (global.Turn flushed active inactive free shrink) u is = absurd cc
    only (global.Push x) u is = ap global.Push (sym (eqb-true e x (when_told (e == x) tt u is).0))

abbrev pub own_of : ℕ → OwnGiving → OwnPart
own_of hash given = own.Turn hash given.0 given.1 given.2 given.3

pub tells_own_given : (hash : ℕ) → Tells (own_of hash) (own_given_in hash)
tells_own_given hash = record { says_it = λ given. when_so (hash == hash) given (eq-eqb hash hash refl); says_only = only }
  where
    only : (part : OwnPart) (given : OwnGiving) → own_given_in hash part ≡ Some given → part ≡ own_of hash given
    only (own.Turn h active inactive shrink got) given is =
        let told = when_told (hash == h) (active, inactive, shrink, got) given is in
        ap (λ n. own.Turn n active inactive shrink got) (sym (eqb-true hash h told.0)) ∙ ap (own_of hash) told.1
    only (own.Push x) given is = absurd cc

pub tells_own_freed : (e : ℕ) → Tells (λ (u : Unit {0}). own.Push e) (own_freed_in e)
tells_own_freed e = record { says_it = λ u. when_so (e == e) tt (eq-eqb e e refl); says_only = only }
  where
    only : (part : OwnPart) (u : Unit {0}) → own_freed_in e part ≡ Some u → part ≡ own.Push e
    only (own.Turn h active inactive shrink got) u is = absurd cc
    only (own.Push x) u is = ap own.Push (sym (eqb-true e x (when_told (e == x) tt u is).0))

-- of a bucket
pub tells_got : (side : Side) (key : List ℕ) → Tells (λ got. bucket.Lookup side key got) (got_in side key)
tells_got side key = record {
  says_it = λ got. when_so (same_side side side && bytes_eq key key) got (and_from (same_side side side) (bytes_eq key key) (side_same side) (key_same key));
  says_only = only;
}
  where
    only : (part : BucketPart) (got : Option (ℕ × List ℕ)) → got_in side key part ≡ Some got → part ≡ bucket.Lookup side key got
    only (bucket.Lookup s k found) got is =
        let told = when_told (same_side side s && bytes_eq key k) found got is in
        let outer = and_parts (same_side side s) (bytes_eq key k) told.0 in
        ap (λ (t : Side). bucket.Lookup t k found) (sym (one_side side s outer.0)) ∙ ap (λ (l : List ℕ). bucket.Lookup side l found) (sym (one_key key k outer.1)) ∙ ap (bucket.Lookup side key) told.1
    only (bucket.Update s f k v o put) got is = absurd cc
    only (bucket.Delete k _) got is = absurd cc
    only (bucket.Take k _) got is = absurd cc
    only (bucket.Next k found) got is = absurd cc
    only (bucket.First k) got is = absurd cc
    only (bucket.Walk remove room result) got is = absurd cc
    only (bucket.Evict e probed) got is = absurd cc

pub tells_gone : (key : List ℕ) → Tells (λ gone. bucket.Delete key gone) (gone_in key)
tells_gone key = record { says_it = λ gone. when_so (bytes_eq key key) gone (key_same key); says_only = only }
  where
    only : (part : BucketPart) (out : Option ℕ) → gone_in key part ≡ Some out → part ≡ bucket.Delete key out
    only (bucket.Lookup s k found) out is = absurd cc
    only (bucket.Update s f k v o put) out is = absurd cc
    only (bucket.Delete k found) out is =
        let told = when_told (bytes_eq key k) found out is in
        ap (λ (l : List ℕ). bucket.Delete l found) (sym (one_key key k told.0)) ∙ ap (bucket.Delete key) told.1
    only (bucket.Take k found) out is = absurd cc
    only (bucket.Next k found) out is = absurd cc
    only (bucket.First k) out is = absurd cc
    only (bucket.Walk remove room result) out is = absurd cc
    only (bucket.Evict e probed) out is = absurd cc

pub tells_taken : (key : List ℕ) → Tells (λ gone. bucket.Take key gone) (taken_in key)
tells_taken key = record { says_it = λ gone. when_so (bytes_eq key key) gone (key_same key); says_only = only }
  where
    only : (part : BucketPart) (out : Option (ℕ × List ℕ)) → taken_in key part ≡ Some out → part ≡ bucket.Take key out
    only (bucket.Lookup s k found) out is = absurd cc
    only (bucket.Update s f k v o put) out is = absurd cc
    only (bucket.Delete k found) out is = absurd cc
    only (bucket.Take k found) out is =
        let told = when_told (bytes_eq key k) found out is in
        ap (λ (l : List ℕ). bucket.Take l found) (sym (one_key key k told.0)) ∙ ap (bucket.Take key) told.1
    only (bucket.Next k found) out is = absurd cc
    only (bucket.First k) out is = absurd cc
    only (bucket.Walk remove room result) out is = absurd cc
    only (bucket.Evict e probed) out is = absurd cc

pub tells_walked : (remove : Bool) (room : ℕ) → Tells (λ result. bucket.Walk remove room result) (walked_in remove room)
tells_walked remove room = record { says_it = walk_says remove room; says_only = walk_only remove room }

one_offer : (offer other : Option ℕ) → same_offer offer other ≡ true → offer ≡ other
one_offer None None is = refl
one_offer None (Some x) is = absurd cc
one_offer (Some e) None is = absurd cc
one_offer (Some e) (Some x) is = ap Some (eqb-true e x is)

offer_same : (offer : Option ℕ) → same_offer offer offer ≡ true
offer_same None = refl
offer_same (Some e) = eq-eqb e e refl

module _ (side : Side) (flags : ℕ) (key value : List ℕ) (offer : Option ℕ) where
  put_says : (put : Put) → put_of side flags key value offer (bucket.Update side flags key value offer put) ≡ Some put
  put_says put =
      when_so ((((same_side side side && (flags == flags)) && bytes_eq key key) && bytes_eq value value) && same_offer offer offer) put
      (and_from (((same_side side side && (flags == flags)) && bytes_eq key key) && bytes_eq value value) (same_offer offer offer)
      (and_from ((same_side side side && (flags == flags)) && bytes_eq key key) (bytes_eq value value)
      (and_from (same_side side side && (flags == flags)) (bytes_eq key key)
      (and_from (same_side side side) (flags == flags) (side_same side) (eq-eqb flags flags refl)) (key_same key)) (key_same value)) (offer_same offer))

  put_only : (part : BucketPart) (put : Put) → put_of side flags key value offer part ≡ Some put → part ≡ bucket.Update side flags key value offer put
  put_only (bucket.Lookup s k found) put is = absurd cc
  put_only (bucket.Update s f k v o made) put is =
      let told = when_told ((((same_side side s && (flags == f)) && bytes_eq key k) && bytes_eq value v) && same_offer offer o) made put is in
      let fifth = and_parts (((same_side side s && (flags == f)) && bytes_eq key k) && bytes_eq value v) (same_offer offer o) told.0 in
      let fourth = and_parts ((same_side side s && (flags == f)) && bytes_eq key k) (bytes_eq value v) fifth.0 in
      let third = and_parts (same_side side s && (flags == f)) (bytes_eq key k) fourth.0 in
      let first = and_parts (same_side side s) (flags == f) third.0 in
      ap (λ (t : Side). bucket.Update t f k v o made) (sym (one_side side s first.0))
      ∙ ap (λ (n : ℕ). bucket.Update side n k v o made) (sym (eqb-true flags f first.1))
      ∙ ap (λ (l : List ℕ). bucket.Update side flags l v o made) (sym (one_key key k third.1))
      ∙ ap (λ (l : List ℕ). bucket.Update side flags key l o made) (sym (one_key value v fourth.1))
      ∙ ap (λ (q : Option ℕ). bucket.Update side flags key value q made) (sym (one_offer offer o fifth.1))
      ∙ ap (bucket.Update side flags key value offer) told.1
  put_only (bucket.Delete k _) put is = absurd cc
  put_only (bucket.Take k _) put is = absurd cc
  put_only (bucket.Next k found) put is = absurd cc
  put_only (bucket.First k) put is = absurd cc
  put_only (bucket.Walk remove room result) put is = absurd cc
  put_only (bucket.Evict e probed) put is = absurd cc

  pub tells_put : Tells (λ put. bucket.Update side flags key value offer put) (put_of side flags key value offer)
  tells_put = record { says_it = put_says; says_only = put_only }
