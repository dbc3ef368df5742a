-- The turns of a call on a map that doesn't evict: those of freelists stand before that of the bucket in which they are made, and what is
-- pushed there is what the bucket's turn takes out.
use Rattle.std.proofs.Common.{◌≡◌, ℕ, ◌+◌, ◌⊎◌, inl, inr, Bool, true, false, ◌&&◌, cond, eqb, ltb, List, [], ◌∷◌, ◌++◌, map, Option, Some, refl, ap, ◌∙◌, sym, subst, arith}
use Rattle.std.specs.Prelude.{find}
use Rattle.std.proofs.lemmas.Bool.{cond-true, cond-false, eq-eqb, ne_eqb}
use Rattle.map_types.specs.declared.kind.DomainId.{DomainId}
use Rattle.map_types.specs.declared.kind.DomainId.TheVariants.{Bucket, Freelist}
use Rattle.map_types.specs.ElementLists.{times}
use Rattle.map_types.proofs.RowLemmas.{times_append}
use Rattle.place_words.specs.declared.history.Part.{Part}
use Rattle.place_words.specs.declared.history.Part.TheVariants as parts
use Rattle.place_words.specs.Locks.{rank_of}
use Rattle.place_words.specs.Turns.{Turn}
use Rattle.place_words.proofs.BucketLaws.{times_more}
use Rattle.place_words.specs.Interleaving.{Drawn, turn_of, is_inner, encloses}
use Rattle.core_runs.specs.Races.{left_inside}
use Rattle.step_check.proofs.Begun.{Stands, HaveOwnTickets}
use Rattle.step_check.proofs.Inside.{around_of, pushed_by, is_turn, pushed_in, inside, InBucket, ArePushedInside, inside_none}

-- what leaves a bucket of a map that doesn't evict in the turns of freelists inside a turn
abbrev pub left_of : Part → List ℕ
left_of (parts.Bucket part) = left_inside false part
left_of (parts.Free part) = []
left_of (parts.Local part) = []
left_of (parts.Global part) = []
left_of (parts.Own part) = []

-- a turn of a bucket that takes out what was pushed before it
pub record Closes (es : List ℕ) (turn : Turn) : Type 0 where
  pub bucket : ℕ
  pub lock_is : turn.lock ≡ Bucket bucket
  pub quiet : pushed_by turn.part ≡ []
  pub pays : (e : ℕ) → times e es ≡ times e (left_of turn.part)

-- a look at a freelist, before which nothing was pushed
pub record Looks (es : List ℕ) (turn : Turn) : Type 0 where
  pub cpu : ℕ
  pub lock_is : turn.lock ≡ Freelist cpu
  pub quiet : pushed_by turn.part ≡ []
  pub nothing : es ≡ []

pub record Pushes (e : ℕ) (turn : Turn) : Type 0 where
  pub cpu : ℕ
  pub lock_is : turn.lock ≡ Freelist cpu
  pub pushes : pushed_by turn.part ≡ e ∷ []
  pub inner : is_inner turn.part ≡ true

abbrev pub Nested : List ℕ → List Turn → Type 0
Nested es [] = es ≡ []
Nested es (turn ∷ turns) = (Closes es turn × Nested [] turns) ⊎ ((Looks es turn × Nested [] turns) ⊎ ((e : ℕ) × Pushes e turn × Nested (e ∷ es) turns))

pub nested_both : (es : List ℕ) (xs ys : List Turn) → Nested es xs → Nested [] ys → Nested es (xs ++ ys)
nested_both es [] ys first second = subst (λ (l : List ℕ). Nested l ys) (sym first) second
nested_both es (x ∷ xs) ys (inl closes) second = inl (closes.0, nested_both [] xs ys closes.1 second)
nested_both es (x ∷ xs) ys (inr (inl looks)) second = inr (inl (looks.0, nested_both [] xs ys looks.1 second))
nested_both es (x ∷ xs) ys (inr (inr pushes)) second = inr (inr (pushes.0, pushes.1, nested_both (pushes.0 ∷ es) xs ys pushes.2 second))

-- the turns are those of a call
abbrev pub OfCall : ℕ → ℕ → List Drawn → Type 0
OfCall cpu call turns = (y : Drawn) → Stands y turns → (y.entry.cpu ≡ cpu) × (y.entry.call ≡ call)

-- the next turn of a lock that is taken before freelists
abbrev pub next : List Drawn → Option Drawn
next turns = find (λ (y : Drawn). ltb (rank_of y.lock) 4) turns

next_here : (x : Drawn) (later : List Drawn) (b : ℕ) → x.lock ≡ Bucket b → next (x ∷ later) ≡ Some x
next_here x later b is = ap (λ (l : DomainId). cond (ltb (rank_of l) 4) (Some x) (next later)) is

next_on : (x : Drawn) (later : List Drawn) (c : ℕ) → x.lock ≡ Freelist c → next (x ∷ later) ≡ next later
next_on x later c is = ap (λ (l : DomainId). cond (ltb (rank_of l) 4) (Some x) (next later)) is

-- around a turn of a freelist is the next one of its call
around_is_next : (cpu call c : ℕ) (x : Drawn) (later : List Drawn) → x.entry.cpu ≡ cpu → x.entry.call ≡ call → x.lock ≡ Freelist c → is_inner x.entry.part ≡ true → OfCall cpu call later → around_of x later ≡ next later
around_is_next cpu call c x [] cpu_is call_is lock_is inner of = refl
around_is_next cpu call c x (z ∷ later) cpu_is call_is lock_is inner of =
    let same : encloses z x ≡ ltb (rank_of z.lock) 4 =
    ap (λ (b : Bool). (b && ltb (rank_of z.lock) (rank_of x.lock)) && (eqb z.entry.cpu x.entry.cpu && eqb z.entry.call x.entry.call)) inner
    ∙ ap (λ (l : DomainId). (true && ltb (rank_of z.lock) (rank_of l)) && (eqb z.entry.cpu x.entry.cpu && eqb z.entry.call x.entry.call)) lock_is
    ∙ ap (λ (b : Bool). (true && ltb (rank_of z.lock) 4) && (b && eqb z.entry.call x.entry.call)) (eq-eqb z.entry.cpu x.entry.cpu ((of z (inl refl)).0 ∙ sym cpu_is))
    ∙ ap (λ (b : Bool). (true && ltb (rank_of z.lock) 4) && (true && b)) (eq-eqb z.entry.call x.entry.call ((of z (inl refl)).1 ∙ sym call_is))
    ∙ and_true (ltb (rank_of z.lock) 4) in
    ap (λ (b : Bool). cond b (Some z) (around_of x later)) same
    ∙ ap (λ (o : Option Drawn). cond (ltb (rank_of z.lock) 4) (Some z) o) (around_is_next cpu call c x later cpu_is call_is lock_is inner (λ y at. of y (inr at)))
  where
    and_true : (b : Bool) → ((true && b) && (true && true)) ≡ b
    and_true true = refl
    and_true false = refl

some_item : (x : ℕ) (xs : List ℕ) → x ∷ xs ≡ [] → ⊥
some_item x xs same = cc

-- where something was pushed a bucket's turn follows
next_bucket : (e : ℕ) (es : List ℕ) (turns : List Drawn) → Nested (e ∷ es) (map turn_of turns) → InBucket (next turns)
next_bucket e es [] nested = absurd (some_item e es nested)
next_bucket e es (x ∷ later) (inl closes) = record { turn = x; bucket = closes.0.bucket; is = next_here x later closes.0.bucket closes.0.lock_is; lock_is = closes.0.lock_is }
next_bucket e es (x ∷ later) (inr (inl looks)) = absurd (some_item e es looks.0.nothing)
next_bucket e es (x ∷ later) (inr (inr pushes)) =
    let there : InBucket (next later) = next_bucket pushes.0 (e ∷ es) later pushes.2 in
    record { turn = there.turn; bucket = there.bucket; is = next_on x later pushes.1.cpu pushes.1.lock_is ∙ there.is; lock_is = there.lock_is }

bucket_no_freelist : (b c : ℕ) → Bucket b ≡ Freelist c → ⊥
bucket_no_freelist b c same = cc

times_pushed : (e x : ℕ) (es more : List ℕ) (t : Bool) → times e (cond t es []) + times e (cond t (x ∷ []) [] ++ more) ≡ times e (cond t (x ∷ es) []) + times e more
times_pushed e x es more true = omega (arith, times_append e (x ∷ []) more, times_more e x es)
times_pushed e x es more false = omega arith

quiet_in : (b : Bool) (part : Part) → pushed_by part ≡ [] → pushed_in b part ≡ []
quiet_in true part quiet = quiet
quiet_in false part quiet = refl

pushed_in_is : (b : Bool) (part : Part) (x : ℕ) → pushed_by part ≡ x ∷ [] → pushed_in b part ≡ cond b (x ∷ []) []
pushed_in_is true part x pushes = pushes
pushed_in_is false part x pushes = refl

pub no_more : (b : Bool) → ◌≡◌ {A = List ℕ} (cond b [] []) []
no_more true = refl
no_more false = refl

pub quiet_inside : (y x : Drawn) (later : List Drawn) → pushed_by x.entry.part ≡ [] → inside y (x ∷ later) ≡ inside y later
quiet_inside y x later quiet = ap (λ (l : List ℕ). l ++ inside y later) (quiet_in (eqb x.entry.call y.entry.call && is_turn y (around_of x later)) x.entry.part quiet)

-- Each bucket's turn of such a call takes out what is pushed inside it; of the first of them also what was pushed before these turns.
pub nested_pays : (cpu call : ℕ) (es : List ℕ) (turns : List Drawn) → OfCall cpu call turns → HaveOwnTickets turns → Nested es (map turn_of turns)
    → (y : Drawn) → Stands y turns → (b : ℕ) → y.lock ≡ Bucket b → (e : ℕ) → times e (cond (is_turn y (next turns)) es []) + times e (inside y turns) ≡ times e (left_of y.entry.part)
nested_pays cpu call es [] of own nested y at b lock_is e = absurd at
nested_pays cpu call es (x ∷ later) of own (inl closes) y (inl is) b lock_is e =
    subst (λ (d : Drawn). times e (cond (is_turn d (next (x ∷ later))) es []) + times e (inside d (x ∷ later)) ≡ times e (left_of d.entry.part)) is
    (let first : cond (is_turn x (next (x ∷ later))) es [] ≡ es =
    ap (λ (o : Option Drawn). cond (is_turn x o) es []) (next_here x later closes.0.bucket closes.0.lock_is) ∙ cond-true (eqb x.entry.ticket x.entry.ticket) es [] (eq-eqb x.entry.ticket x.entry.ticket refl) in
    let none : inside x (x ∷ later) ≡ [] = quiet_inside x x later closes.0.quiet ∙ inside_none x later own.0 in
    omega (arith, ap (times e) first, ap (times e) none, closes.0.pays e))
nested_pays cpu call es (x ∷ later) of own (inl closes) y (inr at) b lock_is e =
    let rest = nested_pays cpu call [] later (λ z there. of z (inr there)) own.1 closes.1 y at b lock_is e in
    let first : cond (is_turn y (next (x ∷ later))) es [] ≡ [] =
    ap (λ (o : Option Drawn). cond (is_turn y o) es []) (next_here x later closes.0.bucket closes.0.lock_is)
    ∙ cond-false (eqb x.entry.ticket y.entry.ticket) es [] (ne_eqb x.entry.ticket y.entry.ticket (λ same. own.0 y at (sym same))) in
    omega (arith, rest, ap (times e) first, ap (times e) (quiet_inside y x later closes.0.quiet), ap (times e) (no_more (is_turn y (next later))))
nested_pays cpu call es (x ∷ later) of own (inr (inl looks)) y (inl is) b lock_is e =
    absurd (bucket_no_freelist b looks.0.cpu (sym lock_is ∙ ap (λ (d : Drawn). d.lock) (sym is) ∙ looks.0.lock_is))
nested_pays cpu call es (x ∷ later) of own (inr (inl looks)) y (inr at) b lock_is e =
    let rest = nested_pays cpu call [] later (λ z there. of z (inr there)) own.1 looks.1 y at b lock_is e in
    let first : cond (is_turn y (next (x ∷ later))) es [] ≡ cond (is_turn y (next later)) [] [] =
    ap (λ (o : Option Drawn). cond (is_turn y o) es []) (next_on x later looks.0.cpu looks.0.lock_is) ∙ ap (λ (l : List ℕ). cond (is_turn y (next later)) l []) looks.0.nothing in
    omega (arith, rest, ap (times e) first, ap (times e) (quiet_inside y x later looks.0.quiet))
nested_pays cpu call es (x ∷ later) of own (inr (inr pushes)) y (inl is) b lock_is e =
    absurd (bucket_no_freelist b pushes.1.cpu (sym lock_is ∙ ap (λ (d : Drawn). d.lock) (sym is) ∙ pushes.1.lock_is))
nested_pays cpu call es (x ∷ later) of own (inr (inr pushes)) y (inr at) b lock_is e =
    let t : Bool = is_turn y (next later) in
    let rest : times e (cond t (pushes.0 ∷ es) []) + times e (inside y later) ≡ times e (left_of y.entry.part) =
    nested_pays cpu call (pushes.0 ∷ es) later (λ z there. of z (inr there)) own.1 pushes.2 y at b lock_is e in
    let first : cond (is_turn y (next (x ∷ later))) es [] ≡ cond t es [] = ap (λ (o : Option Drawn). cond (is_turn y o) es []) (next_on x later pushes.1.cpu pushes.1.lock_is) in
    let mine : (eqb x.entry.call y.entry.call && is_turn y (around_of x later)) ≡ t =
    ap (λ (b : Bool). b && is_turn y (around_of x later)) (eq-eqb x.entry.call y.entry.call ((of x (inl refl)).1 ∙ sym (of y (inr at)).1))
    ∙ ap (is_turn y) (around_is_next cpu call pushes.1.cpu x later (of x (inl refl)).0 (of x (inl refl)).1 pushes.1.lock_is pushes.1.inner (λ z there. of z (inr there))) in
    let more : inside y (x ∷ later) ≡ cond t (pushes.0 ∷ []) [] ++ inside y later =
    ap (λ (b : Bool). pushed_in b x.entry.part ++ inside y later) mine ∙ ap (λ (l : List ℕ). l ++ inside y later) (pushed_in_is t x.entry.part pushes.0 pushes.1.pushes) in
    omega (arith, rest, ap (times e) first, ap (times e) more, times_pushed e pushes.0 es (inside y later) t)

-- Each push of such a call is made inside a turn of a bucket.
pub nested_pushes : (cpu call : ℕ) (es : List ℕ) (turns : List Drawn) → OfCall cpu call turns → Nested es (map turn_of turns) → ArePushedInside turns
nested_pushes cpu call es [] of nested = tt
nested_pushes cpu call es (x ∷ later) of (inl closes) = (inl closes.0.quiet, nested_pushes cpu call [] later (λ z there. of z (inr there)) closes.1)
nested_pushes cpu call es (x ∷ later) of (inr (inl looks)) = (inl looks.0.quiet, nested_pushes cpu call [] later (λ z there. of z (inr there)) looks.1)
nested_pushes cpu call es (x ∷ later) of (inr (inr pushes)) = (
  inr (subst InBucket (sym (around_is_next cpu call pushes.1.cpu x later (of x (inl refl)).0 (of x (inl refl)).1 pushes.1.lock_is pushes.1.inner (λ z there. of z (inr there)))) (next_bucket pushes.0 es later pushes.2)),
  nested_pushes cpu call (pushes.0 ∷ es) later (λ z there. of z (inr there)) pushes.2,
)
