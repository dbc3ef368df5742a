-- What the turns of a call did, from its contract.
use Rattle.std.proofs.Common.{◌≡◌, ℕ, ⊎_elim, List, [], ◌∷◌, ◌++◌, map, refl, ap, sym, ◌∙◌, subst}
use Rattle.std.specs.Prelude.{All}
use Rattle.std.proofs.lemmas.List.Elements.{All-head, All-tail}
use Rattle.map_types.specs.declared.attr.Shape.{Shape}
use Rattle.map_types.specs.declared.call.Verb.{Verb}
use Rattle.map_types.specs.declared.kind.DomainId.{DomainId}
use Rattle.map_types.specs.declared.reply.Reply.{Reply}
use Rattle.place_words.specs.declared.bucket_part.BucketPart.{BucketPart}
use Rattle.place_words.specs.declared.history.Entry.{Entry}
use Rattle.place_words.specs.declared.history.Part.TheVariants as parts
use Rattle.place_words.specs.Buckets.{AllowsInBucket, bucket_after}
use Rattle.place_words.specs.Histories.{Content, in_bucket, on_freelist, in_locals, in_global, in_own, content, content_after, Allows}
use Rattle.place_words.specs.Locks.{lock_named}
use Rattle.place_words.specs.Turns.{Turn, turns_of}
use Rattle.place_table.specs.declared.view.Turned.{Turned}
use Rattle.place_table.specs.Calls.{Called, AreTold, IsTold}
use Rattle.place_table.specs.Known.{AreAllowedAt, IsBy, turn_of, turn_at}
use Rattle.place_table.specs.Passes.{PassView, TableView}
use Rattle.refusals.specs.Made.{lay, left, bodies_in, Did, AllDid}

pub turns_at : (shape : Shape) (steps : List Turned) → turns_of (map (turn_at shape) steps) ≡ map (turn_of shape) steps
turns_at shape [] = refl
turns_at shape (step ∷ steps) = ap (λ (l : List Turn). turn_of shape step ∷ l) (turns_at shape steps)

module _ (shape : Shape) (cpu call : ℕ) where
  did_one : (lost : List ℕ) (step told : Turned) → IsTold shape lost step told → step.entry.cpu ≡ cpu → Allows shape step.entry.cpu step.entry.part (lay shape step) → Did shape cpu step (turn_of shape told)
  did_one lost step told is by allowed = ⊎_elim (λ same. as_made same) (λ other. record {
    lock_is = ap (λ (k : ℕ). lock_named shape k) (sym other.1.lock);
    allowed = subst (λ (c : ℕ). Allows shape c told.entry.part (lay shape step)) (other.1.cpu ∙ by) other.1.allowed;
    leaves = sym other.1.leaves ∙ ap (λ (c : ℕ). content_after shape c told.entry.part (lay shape step)) (other.1.cpu ∙ by);
  }) is.0
    where
      as_made : told ≡ step → Did shape cpu step (turn_of shape told)
      as_made same = subst (λ (x : Turned). Did shape cpu step (turn_of shape x)) (sym same) (record {
        lock_is = refl;
        allowed = subst (λ (c : ℕ). Allows shape c step.entry.part (lay shape step)) by allowed;
        leaves = ap (λ (c : ℕ). content_after shape c step.entry.part (lay shape step)) by;
      })

  did_all : (lost : List ℕ) (steps told : List Turned) → AreTold shape lost steps told → All (IsBy cpu call) steps → AreAllowedAt shape steps → AllDid shape cpu steps (map (turn_of shape) told)
  did_all lost [] [] are by allowed = tt
  did_all lost [] (told ∷ others) are by allowed = absurd are
  did_all lost (step ∷ steps) [] are by allowed = absurd are
  did_all lost (step ∷ steps) (told ∷ others) are by allowed =
      (did_one lost step told are.0 (All-head (IsBy cpu call) step steps by).0 allowed.0.allowed, did_all lost steps others are.1 (All-tail (IsBy cpu call) step steps by) allowed.1)

-- the turns of a call, as its trace tells them
pub called_did : (t : TableView) (before after : PassView) (verb : Verb) (reply : Reply) (called : Called t before after verb reply) → AllDid t.shape before.cpu called.steps (turns_of (map (turn_at t.shape) called.told))
called_did t before after verb reply called =
    subst (λ (turns : List Turn). AllDid t.shape before.cpu called.steps turns) (sym (turns_at t.shape called.told))
    (did_all t.shape before.cpu before.call called.lost called.steps called.told called.told_are called.leaves.by_call called.leaves.learns.allowed)

module _ (shape : Shape) (cpu : ℕ) where
  pub did_single : (steps : List Turned) (turn : Turn) → AllDid shape cpu steps (turn ∷ []) → (step : Turned) × (steps ≡ step ∷ []) × Did shape cpu step turn
  did_single [] turn did = absurd did
  did_single (step ∷ []) turn did = (step, refl, did.0)
  did_single (step ∷ other ∷ steps) turn did = absurd did.1

  -- the steps that did some turns, one, and others
  pub record DidAt (steps : List Turned) (xs : List Turn) (y : Turn) (zs : List Turn) : Type 0 where
    pub front : List Turned
    pub step : Turned
    pub back : List Turned
    pub steps_are : steps ≡ front ++ step ∷ back
    pub front_did : AllDid shape cpu front xs
    pub did : Did shape cpu step y
    pub back_did : AllDid shape cpu back zs

  pub did_at : (steps : List Turned) (xs : List Turn) (y : Turn) (zs : List Turn) → AllDid shape cpu steps (xs ++ y ∷ zs) → DidAt steps xs y zs
  did_at [] [] y zs did = absurd did
  did_at (step ∷ steps) [] y zs did = record { front = []; step = step; back = steps; steps_are = refl; front_did = tt; did = did.0; back_did = did.1 }
  did_at [] (x ∷ xs) y zs did = absurd did
  did_at (step ∷ steps) (x ∷ xs) y zs did = with (did_at steps xs y zs did.1)
    where
      with : DidAt steps xs y zs → DidAt (step ∷ steps) (x ∷ xs) y zs
      with at = record { front = step ∷ at.front; step = at.step; back = at.back; steps_are = ap (λ (l : List Turned). step ∷ l) at.steps_are; front_did = (did.0, at.front_did); did = at.did; back_did = at.back_did }

  -- of a turn of a bucket
  pub allowed_there : (part : BucketPart) (lies : Content) → Allows shape cpu (parts.Bucket part) lies → AllowsInBucket shape cpu part (bodies_in lies)
  allowed_there part (in_bucket bodies) allowed = allowed
  allowed_there part (on_freelist stack) allowed = absurd allowed
  allowed_there part (in_locals lists) allowed = absurd allowed
  allowed_there part (in_global set) allowed = absurd allowed
  allowed_there part (in_own set) allowed = absurd allowed

  after_there : (part : BucketPart) (lies : Content) → Allows shape cpu (parts.Bucket part) lies → bodies_in (content_after shape cpu (parts.Bucket part) lies) ≡ bucket_after shape cpu part (bodies_in lies)
  after_there part (in_bucket bodies) allowed = refl
  after_there part (on_freelist stack) allowed = absurd allowed
  after_there part (in_locals lists) allowed = absurd allowed
  after_there part (in_global set) allowed = absurd allowed
  after_there part (in_own set) allowed = absurd allowed

  pub left_there : (step : Turned) (lock : DomainId) (part : BucketPart) → Did shape cpu step (record { lock = lock; part = parts.Bucket part }) → bodies_in (left shape step) ≡ bucket_after shape cpu part (bodies_in (lay shape step))
  left_there step lock part did = ap bodies_in did.leaves ∙ after_there part (lay shape step) did.allowed

-- the steps that did nothing
pub did_none : (shape : Shape) (cpu : ℕ) (steps : List Turned) (turns : List Turn) → turns ≡ [] → AllDid shape cpu steps turns → steps ≡ []
did_none shape cpu [] [] none did = refl
did_none shape cpu (step ∷ steps) [] none did = absurd did
did_none shape cpu steps (turn ∷ turns) none did = absurd cc

-- a list whose elements make some, one, and others
pub record Split {A B : Type 0} (f : A → B) (xs : List A) (ys : List B) (y : B) (zs : List B) : Type 0 where
  pub front : List A
  pub here : A
  pub back : List A
  pub are : xs ≡ front ++ here ∷ back
  pub here_is : f here ≡ y
  pub back_is : map f back ≡ zs

pub split_mapped : {A B : Type 0} (f : A → B) (xs : List A) (front : List B) (here : B) (back : List B) → map f xs ≡ front ++ here ∷ back → Split f xs front here back
split_mapped f [] [] here back are = absurd cc
split_mapped f [] (y ∷ front) here back are = absurd cc
split_mapped f (x ∷ xs) [] here back are = record { front = []; here = x; back = xs; are = refl; here_is = cc; back_is = cc }
split_mapped f (x ∷ xs) (y ∷ front) here back are = more (split_mapped f xs front here back (tails are))
  where
    tails : f x ∷ map f xs ≡ y ∷ (front ++ here ∷ back) → map f xs ≡ front ++ here ∷ back
    tails is = cc

    more : Split f xs front here back → Split f (x ∷ xs) (y ∷ front) here back
    more split = record { front = x ∷ split.front; here = split.here; back = split.back; are = ap (λ l. x ∷ l) split.are; here_is = split.here_is; back_is = split.back_is }

pub split_first : {A B : Type 0} (f : A → B) (xs : List A) (y : B) (zs : List B) → map f xs ≡ y ∷ zs → (x : A) × (others : List A) × (xs ≡ x ∷ others) × (f x ≡ y) × (map f others ≡ zs)
split_first f [] y zs are = absurd cc
split_first f (x ∷ xs) y zs are = (x, xs, refl, cc, cc)

-- a turn that is told could be made where it stands
abbrev pub AllMayBe : Shape → List Turned → Type 0
AllMayBe shape [] = Unit {0}
AllMayBe shape (told ∷ others) = Allows shape told.entry.cpu told.entry.part (lay shape told) × AllMayBe shape others

module _ (shape : Shape) (lost : List ℕ) where
  told_one : (step told : Turned) → IsTold shape lost step told → Allows shape step.entry.cpu step.entry.part (lay shape step) → Allows shape told.entry.cpu told.entry.part (lay shape told)
  told_one step told is allowed =
      ⊎_elim (λ same. subst (λ (x : Turned). Allows shape x.entry.cpu x.entry.part (lay shape x)) (sym same) allowed)
      (λ other. subst (λ (lies : Content). Allows shape told.entry.cpu told.entry.part lies) (same_lies other.1.lock other.1.earlier) other.1.allowed) is.0
    where
      same_lies : told.lock ≡ step.lock → told.earlier ≡ step.earlier → lay shape step ≡ lay shape told
      same_lies lock earlier = ap (λ (k : ℕ). content shape (lock_named shape k) step.earlier) (sym lock) ∙ ap (λ (log : List Entry). content shape (lock_named shape told.lock) log) (sym earlier)

  told_may_be : (steps told : List Turned) → AreTold shape lost steps told → AreAllowedAt shape steps → AllMayBe shape told
  told_may_be [] [] are allowed = tt
  told_may_be [] (x ∷ xs) are allowed = absurd are
  told_may_be (s ∷ ss) [] are allowed = absurd are
  told_may_be (s ∷ ss) (x ∷ xs) are allowed = (told_one s x are.0 allowed.0.allowed, told_may_be ss xs are.1 allowed.1)

  may_be_there : (front back : List Turned) (told : Turned) → AllMayBe shape (front ++ told ∷ back) → Allows shape told.entry.cpu told.entry.part (lay shape told)
  may_be_there [] back told all = all.0
  may_be_there (x ∷ front) back told all = may_be_there front back told all.1

pub called_may_be : (t : TableView) (before after : PassView) (verb : Verb) (reply : Reply) (called : Called t before after verb reply) (front back : List Turned) (told : Turned)
    → called.told ≡ front ++ told ∷ back → Allows t.shape told.entry.cpu told.entry.part (lay t.shape told)
called_may_be t before after verb reply called front back told are =
    may_be_there t.shape called.lost front back told (subst (AllMayBe t.shape) are (told_may_be t.shape called.lost called.steps called.told called.told_are called.leaves.learns.allowed))
