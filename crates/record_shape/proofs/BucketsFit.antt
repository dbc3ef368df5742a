-- The turns of buckets and freelists fit: their elements lie there, and so do the bodies that they read.
use Rattle.std.proofs.Common.{◌≡◌, ℕ, ◌<◌, ◌≤◌, List, [], ◌∷◌, ◌++◌, length, map, reverse, refl, ap, ◌∙◌, sym, subst, arith}
use Rattle.std.specs.Prelude.{None, Some}
use Rattle.std.specs.List.{after_first, before_first}
use Rattle.std.proofs.Math.ListN.{length-map}
use Rattle.std.proofs.lemmas.List.{reverse-append}
use Rattle.map_types.specs.Shape.{HasBounds}
use Rattle.map_types.specs.Sides.{value_read}
use Rattle.map_types.specs.Stored.{Stored}
use Rattle.map_types.specs.declared.attr.Shape.{Shape}
use Rattle.map_types.specs.declared.kind.DomainId.TheVariants.{Bucket, Freelist}
use Rattle.map_types.specs.declared.kind.Side.{Side}
use Rattle.map_types.specs.declared.kind.Side.TheVariants.{Sys}
use Rattle.place_words.specs.Bodies.{numbers, has_key, present, without_key, first_key}
use Rattle.place_words.specs.Buckets.{AllowsPut, AllowsNext, AllowsInBucket, as_read, bucket_after, bucket_after_put}
use Rattle.place_words.specs.Freelists.{AllowsOnFreelist, freelist_after}
use Rattle.place_words.specs.Histories.{Content, in_bucket, on_freelist, in_locals, in_global, in_own, Allows, content_after}
use Rattle.place_words.specs.Turns.{Turn, TurnAt, turns_of, found, on_lock}
use Rattle.place_words.specs.declared.bucket_part.BucketPart.{BucketPart}
use Rattle.place_words.specs.declared.bucket_part.BucketPart.TheVariants.{Lookup, Update, Delete, Take, Next, First, Walk, Evict}
use Rattle.place_words.specs.declared.bucket_part.NextFound.{NextFound}
use Rattle.place_words.specs.declared.bucket_part.NextFound.TheVariants as nexts
use Rattle.place_words.specs.declared.bucket_part.Put.{Put}
use Rattle.place_words.specs.declared.bucket_part.Put.TheVariants as puts
use Rattle.place_words.specs.declared.bucket_part.Seen.TheVariants.{Held, Removed}
use Rattle.place_words.specs.declared.bucket_part.Walked.TheVariants.{Over, Taken}
use Rattle.place_words.specs.declared.free_part.FreePart.{FreePart}
use Rattle.place_words.specs.declared.free_part.FreePart.TheVariants.{Pushed, Popped, FoundEmpty}
use Rattle.place_words.specs.declared.history.Part.{Part}
use Rattle.place_words.specs.declared.history.Part.TheVariants as parts
use Rattle.place_words.proofs.BucketLaws.{present_is_in}
use Rattle.place_words.proofs.EachTurn.{AreWithin, first_within, others_within}
use Rattle.place_words.proofs.Splits.{there, find_splits}
use Rattle.record_shape.specs.Fits.{AllFit}
use Rattle.place_words.specs.Real.{IsReal}
use Rattle.record_shape.specs.ShapedParts.{BucketFits, FirstFits, FreeFits, IsElement, IsValue, NextFits, OptionFits, PartFits, PutFits, ReadFits, TakenFits}
use Rattle.record_shape.proofs.RealLemmas.{AreOnceBelow, below_bound, real_length}
use Rattle.record_shape.proofs.SaysLaws.{both_fit}
use Rattle.record_shape.proofs.ValueLemmas.{read_fits}
use Rattle.record_shape.proofs.Premises.{BodyFits, ContentFits, Says, SaysBucket, Stands}

-- ---- lists of which each fits

pub all_split : {A : Type 0} (Fits : A → Type 0) (xs ys : List A) → AllFit Fits (xs ++ ys) → AllFit Fits xs × AllFit Fits ys
all_split Fits [] ys all = (tt, all)
all_split Fits (x ∷ xs) ys all = let rest = all_split Fits xs ys all.1 in ((all.0, rest.0), rest.1)

pub all_both : {A : Type 0} (Fits Also : A → Type 0) (xs : List A) → AllFit Fits xs → AllFit Also xs → AllFit (λ x. Fits x × Also x) xs
all_both Fits Also [] all also = tt
all_both Fits Also (x ∷ xs) all also = ((all.0, also.0), all_both Fits Also xs all.1 also.1)

pub all_map : {A B : Type 0} (Fits : B → Type 0) (f : A → B) (xs : List A) → AllFit (λ a. Fits (f a)) xs → AllFit Fits (map f xs)
all_map Fits f [] all = tt
all_map Fits f (x ∷ xs) all = (all.0, all_map Fits f xs all.1)

pub all_reverse : {A : Type 0} (Fits : A → Type 0) (xs : List A) → AllFit Fits xs → AllFit Fits (reverse xs)
all_reverse Fits [] all = tt
all_reverse Fits (x ∷ xs) all =
    subst (AllFit Fits) (sym (reverse-append (x ∷ []) xs)) (both_fit Fits (reverse xs) (x ∷ []) (all_reverse Fits xs all.1) (all.0, tt))

-- ---- elements that lie there

abbrev pub AreReal : Shape → List ℕ → Type 0
AreReal shape elements = AreOnceBelow shape.elements elements

real_at : (shape : Shape) (xs : List ℕ) → AreReal shape xs → AreWithin (IsElement shape) xs
real_at shape xs real = below_bound shape.elements xs real

-- a CPU of a map that can be made
pub record Known (shape : Shape) (cpu : ℕ) : Type 0 where
  pub bounds : HasBounds shape
  pub below : cpu < shape.cpus

-- a bucket has no more bodies than the map has elements
bodies_few : (shape : Shape) (bodies : List Stored) → IsReal shape (in_bucket bodies) → length bodies ≤ shape.elements
bodies_few shape bodies real =
    subst (λ n. n ≤ shape.elements) (length-map bodies (λ (body : Stored). body.element)) (real_length shape (in_bucket bodies) real)

-- ---- parts of buckets

-- what is known of a part beside what lies there: the element that an update was offered, and the one that a probe asked for
abbrev pub Offers : Shape → BucketPart → Type 0
Offers shape (Lookup side key got) = Unit {0}
Offers shape (Update side flags key value offer put) = OptionFits shape.elements offer
Offers shape (Delete key removed) = Unit {0}
Offers shape (Take key removed) = Unit {0}
Offers shape (Next key found) = Unit {0}
Offers shape (First key) = Unit {0}
Offers shape (Walk remove room result) = Unit {0}
Offers shape (Evict element probed) = IsElement shape element

-- the body of a key fits, and its element is real
present_fits : (shape : Shape) (key : List ℕ) (bodies : List Stored) (body : Stored) → present key bodies ≡ Some body
    → AllFit (BodyFits shape) bodies → BodyFits shape body
present_fits shape key bodies body is all =
    let split = subst (λ (l : List Stored). AllFit (BodyFits shape) l) (find_splits (has_key key) bodies body is) all in
    (all_split (BodyFits shape) (before_first (has_key key) bodies) (body ∷ after_first (has_key key) bodies) split).1.0

-- so do the bodies behind it
behind_fit : (shape : Shape) (key : List ℕ) (bodies : List Stored) (body : Stored) → present key bodies ≡ Some body → AllFit (BodyFits shape) bodies
    → AllFit (BodyFits shape) (after_first (has_key key) bodies)
behind_fit shape key bodies body is all =
    let split = subst (λ (l : List Stored). AllFit (BodyFits shape) l) (find_splits (has_key key) bodies body is) all in
    (all_split (BodyFits shape) (before_first (has_key key) bodies) (body ∷ after_first (has_key key) bodies) split).1.1

-- the key at the head, where there is one
first_fits : (shape : Shape) (bodies : List Stored) → AllFit (BodyFits shape) bodies → FirstFits shape (first_key bodies)
first_fits shape [] all = tt
first_fits shape (body ∷ bodies) all = all.0.key

-- elements that a walk took, as the system call reads them
taken_fit : (shape : Shape) (cpu : ℕ) → Known shape cpu → (bodies : List Stored) → AreWithin (IsElement shape) (numbers bodies) → AllFit (BodyFits shape) bodies
    → AllFit (TakenFits shape) (map (as_read shape cpu) bodies)
taken_fit shape cpu known [] real all = tt
taken_fit shape cpu known (body ∷ bodies) real all = (
  record {
    element = first_within (IsElement shape) body.element (numbers bodies) real;
    key = all.0.key;
    value = value_read shape Sys cpu body.values;
    is = refl;
    fits = read_fits shape body cpu known.below Sys all.0;
  },
  taken_fit shape cpu known bodies (others_within (IsElement shape) body.element (numbers bodies) real) all.1,
)

module _ (shape : Shape) (cpu : ℕ) (known : Known shape cpu) (bodies : List Stored) (real : AreReal shape (numbers bodies)) (all : AllFit (BodyFits shape) bodies) where
  -- the element that holds a key is real
  present_real : (key : List ℕ) (body : Stored) → present key bodies ≡ Some body → IsElement shape body.element
  present_real key body is = real_at shape (numbers bodies) real body.element (present_is_in key bodies body is)

  -- what is read of a key that is present
  read_fits_there : (side : Side) (key : List ℕ) (got : ℕ × List ℕ) → AllowsInBucket shape cpu (Lookup side key (Some got)) bodies → ReadFits shape side (Some got)
  unfolding AllowsInBucket
  read_fits_there side key got allowed =
      let found = there (present key bodies) _ allowed in (
        subst (IsElement shape) found.fact.0 (present_real key found.it found.is),
        subst (IsValue shape side) (sym found.fact.1) (read_fits shape found.it cpu known.below side (present_fits shape key bodies found.it found.is all)),
      )

  -- what an update put: a new element stands in the bucket after it, an old one before it
  put_fits : (side : Side) (flags : ℕ) (key value : List ℕ) (put : Put) → AllowsPut shape flags key put bodies
      → AreReal shape (numbers (bucket_after_put shape side cpu key value put bodies)) → PutFits shape put
  put_fits side flags key value (puts.Added e) allowed after =
      first_within (IsElement shape) e (numbers bodies) (real_at shape (e ∷ numbers bodies) after)
  put_fits side flags key value (puts.Replaced new old) allowed after =
      let found = there (present key bodies) _ allowed in
      let now : List ℕ = numbers (without_key key bodies) in
      (first_within (IsElement shape) new now (real_at shape (new ∷ now) after), subst (IsElement shape) found.fact.0 (present_real key found.it found.is))
  put_fits side flags key value (puts.Written e) allowed after =
      let found = there (present key bodies) _ allowed in subst (IsElement shape) found.fact.0 (present_real key found.it found.is)
  put_fits side flags key value puts.Exists allowed after = tt
  put_fits side flags key value puts.Absent allowed after = tt
  put_fits side flags key value puts.Full allowed after = tt

  -- the key after another
  next_fits : (key : List ℕ) (found : NextFound) → AllowsNext key found bodies → NextFits shape found
  next_fits key nexts.Absent allowed = tt
  next_fits key nexts.Last allowed = tt
  next_fits key (nexts.Key next) allowed =
      let found = there (present key bodies) _ allowed in
      subst (FirstFits shape) found.fact (first_fits shape (after_first (has_key key) bodies) (behind_fit shape key bodies found.it found.is all))

  -- a bucket's part fits where it may be made
  pub bucket_part_fits : (part : BucketPart) → AllowsInBucket shape cpu part bodies → AreReal shape (numbers (bucket_after shape cpu part bodies))
      → SaysBucket shape part → Offers shape part → BucketFits shape part
  unfolding AllowsInBucket bucket_after
  bucket_part_fits (Lookup side key None) allowed after says offers = (says, tt)
  bucket_part_fits (Lookup side key (Some got)) allowed after says offers = (says, read_fits_there side key got allowed)
  bucket_part_fits (Update side flags key value offer put) allowed after says offers =
      (says.0, says.1, says.2, offers, put_fits side flags key value put allowed after)
  bucket_part_fits (Delete key None) allowed after says offers = (says, tt)
  bucket_part_fits (Delete key (Some e)) allowed after says offers =
      let found = there (present key bodies) _ allowed in (says, subst (IsElement shape) found.fact (present_real key found.it found.is))
  bucket_part_fits (Take key None) allowed after says offers = (says, tt)
  bucket_part_fits (Take key (Some gone)) allowed after says offers = (says, read_fits_there Sys key gone allowed)
  bucket_part_fits (Next key found) allowed after says offers = (says, next_fits key found allowed)
  bucket_part_fits (First key) allowed after says offers = subst (FirstFits shape) (sym allowed) (first_fits shape bodies all)
  bucket_part_fits (Walk remove room (Over n)) allowed after says offers =
      let most : length bodies ≤ shape.elements = bodies_few shape bodies real in
      let few : shape.elements ≤ 65566 = known.bounds.elements_bounded in
      (says, omega (arith, allowed.0, most, few))
  bucket_part_fits (Walk remove room (Taken elements)) allowed after says offers =
      let most : length bodies ≤ shape.elements = bodies_few shape bodies real in
      let few : shape.elements ≤ 65566 = known.bounds.elements_bounded in
      let long : length elements ≡ length bodies = ap length allowed.1 ∙ length-map bodies (as_read shape cpu) in (
        says,
        (
          omega (arith, long, most, few),
          subst (AllFit (TakenFits shape)) (sym allowed.1) (taken_fit shape cpu known bodies (real_at shape (numbers bodies) real) all),
        ),
      )
  bucket_part_fits (Evict e Removed) allowed after says offers = (offers, tt)
  bucket_part_fits (Evict e (Held holder)) allowed after says offers = (offers, allowed.1)

-- ---- parts of freelists

pub free_part_fits : (shape : Shape) (part : FreePart) (stack : List ℕ) → AllowsOnFreelist part stack → AreReal shape stack
    → AreReal shape (freelist_after part stack) → FreeFits shape part
free_part_fits shape (Pushed e) stack allowed before after = first_within (IsElement shape) e stack (real_at shape (e ∷ stack) after)
free_part_fits shape (Popped e) [] allowed before after = absurd allowed
free_part_fits shape (Popped e) (top ∷ stack) allowed before after =
    subst (IsElement shape) allowed (first_within (IsElement shape) top stack (real_at shape (top ∷ stack) before))
free_part_fits shape FoundEmpty stack allowed before after = tt

-- ---- turns, where they stand

-- a turn stands and says what it must
abbrev pub Right : Shape → ℕ → TurnAt → Type 0
Right shape cpu at = Stands shape cpu at × Says shape at.turn.part

-- what is known of a part where some content lies
pub record Lies (shape : Shape) (cpu : ℕ) (part : Part) (content : Content) : Type 0 where
  pub allowed : Allows shape cpu part content
  pub before : IsReal shape content
  pub after : IsReal shape (content_after shape cpu part content)
  pub fits : ContentFits shape content
  pub says : Says shape part

pub lies_there : (shape : Shape) (cpu : ℕ) (at : TurnAt) (turn : Turn) → at.turn ≡ turn → Right shape cpu at → Lies shape cpu turn.part (found shape at)
lies_there shape cpu at turn is right =
    subst (λ (t : Turn). Lies shape cpu t.part (found shape at)) is
    (record { allowed = right.0.allowed; before = right.0.before; after = right.0.after; fits = right.0.fits; says = right.1 })

-- the part of a turn fits, and is of the lock's kind
abbrev pub Fitting : Shape → Turn → Type 0
Fitting shape turn = PartFits shape turn.lock turn.part

-- it does wherever it may stand
abbrev pub FitsAnywhere : Shape → ℕ → Turn → Type 0
FitsAnywhere shape cpu turn = (at : TurnAt) → at.turn ≡ turn → Right shape cpu at → Fitting shape turn

-- turns at their places, and that their parts fit
abbrev pub AreRight : Shape → ℕ → List TurnAt → Type 0
AreRight shape cpu turns = AllFit (Right shape cpu) turns

abbrev pub TurnsFit : Shape → List TurnAt → Type 0
TurnsFit shape turns = AllFit (λ (at : TurnAt). Fitting shape at.turn) turns

bucket_lies : (shape : Shape) (cpu : ℕ) → Known shape cpu → (part : BucketPart) → Offers shape part → (content : Content)
    → Lies shape cpu (parts.Bucket part) content → BucketFits shape part
bucket_lies shape cpu known part offers (in_bucket bodies) lies =
    bucket_part_fits shape cpu known bodies lies.before lies.fits part lies.allowed lies.after lies.says offers
bucket_lies shape cpu known part offers (on_freelist stack) lies = absurd lies.allowed
bucket_lies shape cpu known part offers (in_locals lists) lies = absurd lies.allowed
bucket_lies shape cpu known part offers (in_global set) lies = absurd lies.allowed
bucket_lies shape cpu known part offers (in_own set) lies = absurd lies.allowed

free_lies : (shape : Shape) (cpu : ℕ) (part : FreePart) (content : Content) → Lies shape cpu (parts.Free part) content → FreeFits shape part
free_lies shape cpu part (in_bucket bodies) lies = absurd lies.allowed
free_lies shape cpu part (on_freelist stack) lies = free_part_fits shape part stack lies.allowed lies.before lies.after
free_lies shape cpu part (in_locals lists) lies = absurd lies.allowed
free_lies shape cpu part (in_global set) lies = absurd lies.allowed
free_lies shape cpu part (in_own set) lies = absurd lies.allowed

-- a bucket's turn and a freelist's fit wherever they may stand
pub bucket_anywhere : (shape : Shape) (cpu : ℕ) → Known shape cpu → (bucket : ℕ) (part : BucketPart) → Offers shape part
    → FitsAnywhere shape cpu (on_lock (Bucket bucket) (parts.Bucket part))
bucket_anywhere shape cpu known bucket part offers at is right =
    bucket_lies shape cpu known part offers (found shape at) (lies_there shape cpu at (on_lock (Bucket bucket) (parts.Bucket part)) is right)

pub free_anywhere : (shape : Shape) (cpu : ℕ) (list : ℕ) (part : FreePart) → FitsAnywhere shape cpu (on_lock (Freelist list) (parts.Free part))
free_anywhere shape cpu list part at is right =
    free_lies shape cpu part (found shape at) (lies_there shape cpu at (on_lock (Freelist list) (parts.Free part)) is right)

-- turns that fit anywhere fit where they stand
fits_where : (shape : Shape) (cpu : ℕ) (turns : List TurnAt) → AllFit (FitsAnywhere shape cpu) (turns_of turns) → AreRight shape cpu turns → TurnsFit shape turns
fits_where shape cpu [] fits right = tt
fits_where shape cpu (at ∷ turns) fits right = (fits.0 at refl right.0, fits_where shape cpu turns fits.1 right.1)

pub fit_where : (shape : Shape) (cpu : ℕ) (turns : List TurnAt) (told : List Turn) → turns_of turns ≡ told → AllFit (FitsAnywhere shape cpu) told
    → AreRight shape cpu turns → TurnsFit shape turns
fit_where shape cpu turns told is fits right = fits_where shape cpu turns (subst (AllFit (FitsAnywhere shape cpu)) (sym is) fits) right

-- and what is told of them
pub told_fit : (shape : Shape) (turns : List TurnAt) (told : List Turn) → turns_of turns ≡ told → TurnsFit shape turns → AllFit (Fitting shape) told
told_fit shape turns told is fits = subst (AllFit (Fitting shape)) is (all_map (Fitting shape) (λ (at : TurnAt). at.turn) turns fits)
