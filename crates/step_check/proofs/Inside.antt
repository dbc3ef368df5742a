-- What is pushed inside a turn: of its call's turns of freelists those which it is around.
use Rattle.std.proofs.Common.{◌≡◌, ◌≢◌, ℕ, ◌⊎◌, inl, inr, Bool, true, false, ◌&&◌, cond, eqb, ltb, List, [], ◌∷◌, ◌++◌, Option, None, Some, refl, ap, ◌∙◌, sym, subst}
use Rattle.std.specs.Prelude.{find}
use Rattle.std.proofs.lemmas.Bool.{eqb-true, ne_eqb, and_parts}
use Rattle.map_types.specs.declared.kind.DomainId.TheVariants.{Bucket}
use Rattle.place_words.specs.declared.history.Part.{Part}
use Rattle.place_words.specs.declared.history.Part.TheVariants as parts
use Rattle.place_words.specs.Locks.{rank_of}
use Rattle.place_words.specs.Moves.{brought_to_freelist}
use Rattle.place_words.specs.Interleaving.{Drawn, is_inner, encloses, enclosing, bucket_around, bucket_of_lock}
use Rattle.step_check.proofs.Begun.{Stands, stands_around}

-- the innermost of the turns that enclose one
abbrev pub around_of : Drawn → List Drawn → Option Drawn
around_of x later = find (λ outer. encloses outer x) later

-- what a turn pushes
abbrev pub pushed_by : Part → List ℕ
pushed_by (parts.Bucket part) = []
pushed_by (parts.Free part) = brought_to_freelist part
pushed_by (parts.Local part) = []
pushed_by (parts.Global part) = []
pushed_by (parts.Own part) = []

-- a turn that was found is this one
abbrev pub is_turn : Drawn → Option Drawn → Bool
is_turn y None = false
is_turn y (Some z) = eqb z.entry.ticket y.entry.ticket

abbrev pub pushed_in : Bool → Part → List ℕ
pushed_in true part = pushed_by part
pushed_in false part = []

-- what these turns push inside one, in their order
abbrev pub inside : Drawn → List Drawn → List ℕ
inside y [] = []
inside y (x ∷ later) = pushed_in (eqb x.entry.call y.entry.call && is_turn y (around_of x later)) x.entry.part ++ inside y later

-- a turn of a bucket was found
pub record InBucket (around : Option Drawn) : Type 0 where
  pub turn : Drawn
  pub bucket : ℕ
  pub is : around ≡ Some turn
  pub lock_is : turn.lock ≡ Bucket bucket

-- each push is made inside a turn of a bucket
abbrev pub ArePushedInside : List Drawn → Type 0
ArePushedInside [] = Unit {0}
ArePushedInside (x ∷ later) = ((pushed_by x.entry.part ≡ []) ⊎ InBucket (around_of x later)) × ArePushedInside later

-- The bucket around a turn is that of the turn around it.
abbrev pub bucket_of_turn : Option Drawn → Option ℕ
bucket_of_turn None = None
bucket_of_turn (Some z) = bucket_of_lock z.lock

last_around : (xs : List Drawn) (z : Drawn) → bucket_around (xs ++ z ∷ []) ≡ bucket_of_lock z.lock
last_around [] z = refl
last_around (x ∷ []) z = refl
last_around (x ∷ y ∷ xs) z = last_around (y ∷ xs) z

pub bucket_around_is : (x : Drawn) (later : List Drawn) → bucket_around (enclosing x later) ≡ bucket_of_turn (around_of x later)
unfolding enclosing
bucket_around_is x [] = refl
bucket_around_is x (z ∷ later) = by (bucket_around_is x later) (encloses z x)
  where
    by : bucket_around (enclosing x later) ≡ bucket_of_turn (around_of x later) → (b : Bool)
        → bucket_around (cond b (enclosing z later ++ z ∷ []) (enclosing x later)) ≡ bucket_of_turn (cond b (Some z) (around_of x later))
    by rest true = last_around (enclosing z later) z
    by rest false = rest

pub record FoundAround (x z : Drawn) (later : List Drawn) : Type 0 where
  pub around : Stands z (enclosing x later)
  pub encloses : encloses z x ≡ true

none_some : (z : Drawn) → (◌≡◌ {A = Option Drawn} None (Some z)) → ⊥
none_some z e = cc

some_same : (y z : Drawn) → (◌≡◌ {A = Option Drawn} (Some y) (Some z)) → y ≡ z
some_same y z e = cc

stands_last : (z : Drawn) (xs : List Drawn) → Stands z (xs ++ z ∷ [])
stands_last z [] = inl refl
stands_last z (x ∷ xs) = inr (stands_last z xs)

pub found_around : (x z : Drawn) (later : List Drawn) → around_of x later ≡ Some z → FoundAround x z later
unfolding enclosing
found_around x z [] found = absurd (none_some z found)
found_around x z (y ∷ later) found = by (λ e. found_around x z later e) (encloses y x) refl found
  where
    by : (around_of x later ≡ Some z → FoundAround x z later) → (b : Bool) → encloses y x ≡ b → cond b (Some y) (around_of x later) ≡ Some z → FoundAround x z (y ∷ later)
    by rest true is same =
        let it : y ≡ z = some_same y z same in
        record {
          around = subst (λ (d : Drawn). Stands d (enclosing x (y ∷ later))) it (subst (λ (b : Bool). Stands y (cond b (enclosing y later ++ y ∷ []) (enclosing x later))) (sym is) (stands_last y (enclosing y later)));
          encloses = subst (λ (d : Drawn). Rattle.place_words.specs.Interleaving.encloses d x ≡ true) it is;
        }
    by rest false is same =
        let there : FoundAround x z later = rest same in
        record {
          around = subst (λ (b : Bool). Stands z (cond b (enclosing y later ++ y ∷ []) (enclosing x later))) (sym is) there.around;
          encloses = there.encloses;
        }

-- a turn that encloses another is of its call
pub encloses_call : (z x : Drawn) → encloses z x ≡ true → z.entry.call ≡ x.entry.call
encloses_call z x is =
    eqb-true z.entry.call x.entry.call (and_parts (eqb z.entry.cpu x.entry.cpu) (eqb z.entry.call x.entry.call)
    (and_parts (is_inner x.entry.part && ltb (rank_of z.lock) (rank_of x.lock)) (eqb z.entry.cpu x.entry.cpu && eqb z.entry.call x.entry.call) is).1).1

-- Inside a turn with another ticket than all these nothing is pushed by them.
pub inside_none : (y : Drawn) (xs : List Drawn) → ((z : Drawn) → Stands z xs → z.entry.ticket ≢ y.entry.ticket) → inside y xs ≡ []
inside_none y [] apart = refl
inside_none y (x ∷ later) apart =
    ap (λ (b : Bool). pushed_in b x.entry.part ++ inside y later) (by (eqb x.entry.call y.entry.call) (around_of x later) refl)
    ∙ inside_none y later (λ z at. apart z (inr at))
  where
    and_false : (a : Bool) → (a && false) ≡ false
    and_false true = refl
    and_false false = refl

    by : (a : Bool) (o : Option Drawn) → around_of x later ≡ o → (a && is_turn y o) ≡ false
    by a None found = and_false a
    by a (Some z) found =
        ap (λ (b : Bool). a && b) (ne_eqb z.entry.ticket y.entry.ticket (apart z (inr (stands_around x z later (found_around x z later found).around)))) ∙ and_false a
