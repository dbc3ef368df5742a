-- The turn of a bucket from which all is taken out, head first: what was taken so far, what the turn asks when the bucket is given
-- back, and what it leaves; and the turn that leaves a bucket for which there is no room.
use Rattle.std.proofs.Common.{◌≡◌, ℕ, suc, ◌+◌, ◌-◌, ◌<◌, ◌≤◌, cond, Bool, true, false, List, [], ◌∷◌, length, map, eqb, sym, refl, ap, ◌∙◌, subst, arith, Option, Some, None}
use Rattle.std.specs.Prelude.{IsTrue, All, IfSome, nat_lt, reverse, remove, slice_get}
use Rattle.std.proofs.lemmas.Bool.{ltb-true, ltb-false}
use Rattle.std.proofs.lemmas.List.{reverse-reverse}
use Rattle.std.proofs.lemmas.List.Elements.{All-nil, All-cons, All-head, All-tail, All-same}
use mathlib.Core.List.{reverse_aux}
use Rattle.map_types.specs.declared.attr.Shape.{Shape}
use Rattle.map_types.specs.declared.kind.DomainId.TheVariants.{Bucket}
use Rattle.map_types.specs.Kind.{is_lru}
use Rattle.map_types.specs.ElementLists.{times, without, IsIn}
use Rattle.map_types.specs.Stored.{Stored, IsSized}
use Rattle.map_types.proofs.RowLemmas.{by_test}
use Rattle.percpu_values.specs.BodyList.{BodyList}
use Rattle.bucket_chain.specs.Turns.{IsTurn}
use Rattle.owner_words.specs.Owners.{owner_by}
use Rattle.place_words.specs.declared.bucket_part.BucketPart.{BucketPart}
use Rattle.place_words.specs.declared.bucket_part.BucketPart.TheVariants.{Walk}
use Rattle.place_words.specs.declared.bucket_part.Walked.{Walked}
use Rattle.place_words.specs.declared.bucket_part.Walked.TheVariants.{Over, Taken}
use Rattle.place_words.specs.declared.history.Part.{Part}
use Rattle.place_words.specs.declared.history.Part.TheVariants as parts
use Rattle.place_words.specs.declared.owner.Owner.{Owner}
use Rattle.place_words.specs.declared.owner.Owner.TheVariants as owners
use Rattle.place_words.specs.Bodies.{numbers}
use Rattle.place_words.specs.Buckets.{AllowsInBucket, bucket_after}
use Rattle.place_words.specs.Histories.{in_bucket}
use Rattle.place_words.specs.Interleaving.{detaches, leave_steps}
use Rattle.place_words.specs.Moves.{taken_from_bucket}
use Rattle.place_words.specs.Turns.{on_lock}
use Rattle.place_words.specs.Walks.{walked_out}
use Rattle.place_words.specs.declared.step.Lists.{Lists}
use Rattle.place_words.specs.Steps.{without_row}
use Rattle.place_words.proofs.ElementLemmas.{times_cons_same}
use Rattle.place_table.specs.declared.content.Content.TheVariants as contents
use Rattle.place_table.specs.Contents.{lists_of}
use Rattle.place_table.specs.declared.view.OwnerSeen.{OwnerSeen}
use Rattle.place_table.specs.InBucket.{InBucket}
use Rattle.place_table.specs.Owners.{owner_left}
use Rattle.place_table.specs.Passes.{PassView, TableView, CanDetach, Detached, GaveBack, MayGiveBack}
use Rattle.place_table.proofs.BucketBodies.{rows_taken}
use Rattle.place_table.proofs.BucketOut.{rows_here, sets_none}
use Rattle.place_table.proofs.BucketTurned.{unchanged}
use Rattle.place_table.proofs.BucketTurns.{IsTurnWith, unchanged_turn}
use Rattle.place_table.proofs.BucketUnder.{Under, Gives, gives, holds_bucket, under_nothing, under_detached, can_detach, AreChangedBy}
use Rattle.place_table.proofs.Worlds.{by_bool, true_false, some_is, none_some}
use Rattle.lru_ops.specs.Under.{GivenBack, IsOut}
use Rattle.lru_ops.proofs.Ends.{changed_given}
use Rattle.place_table.specs.BucketTurns.{Entered}
use Rattle.map_batch.specs.LruTakes.{TakesInto, with_all_in_hand}
use Rattle.bucket_walks.specs.BatchReads.{PairsSoFar, IsGathered, walked_by, all_read}

-- The head of a bucket, which is taken out, and a bucket without one

pub head_out : (bodies left : List Stored) (body : Stored) → Some body ≡ slice_get bodies 0 → left ≡ remove bodies 0 → bodies ≡ body ∷ left
head_out [] left body at is = absurd (none_some (sym at))
head_out (x ∷ xs) left body at is = λ i. some_is (sym at) i ∷ sym is i

pub none_out : (bodies : List Stored) → None ≡ slice_get bodies 0 → bodies ≡ []
none_out [] at = refl
none_out (x ∷ xs) at = absurd (none_some at)

-- Bodies, where some were taken out: the last of them first, and what is left

module _ (P : Stored → Type 0) where
  all_left : (gone left : List Stored) → All P (reverse_aux gone left) → All P left
  all_left [] left all = all
  all_left (body ∷ gone) left all = All-tail P body left (all_left gone (body ∷ left) all)

  all_gone : (gone left : List Stored) → All P (reverse_aux gone left) → All P gone
  all_gone [] left all = All-nil P
  all_gone (body ∷ gone) left all = All-cons P body gone (All-head P body left (all_left gone (body ∷ left) all)) (all_gone gone (body ∷ left) all)

-- one element more on the one side or on the other
one_over : (x e n m : ℕ) → n + cond (eqb x e) (suc m) m ≡ cond (eqb x e) (suc n) n + m
one_over x e n m = by_test x e (λ z. n + cond z (suc m) m ≡ cond z (suc n) n + m) (λ _. omega arith) (λ _. omega arith)

counted_apart : (x : ℕ) (gone left : List Stored) → times x (numbers (reverse_aux gone left)) ≡ times x (numbers gone) + times x (numbers left)
counted_apart x [] left = omega arith
counted_apart x (body ∷ gone) left = counted_apart x gone (body ∷ left) ∙ one_over body.element x (times x (numbers gone)) (times x (numbers left))

length_apart : (gone left : List Stored) → length (reverse_aux gone left) ≡ length gone + length left
length_apart [] left = omega arith
length_apart (body ∷ gone) left = let apart = length_apart gone (body ∷ left) in omega (arith, apart)

numbers_apart : (gone left : List Stored) → numbers (reverse_aux gone left) ≡ reverse_aux (numbers gone) (numbers left)
numbers_apart [] left = refl
numbers_apart (body ∷ gone) left = numbers_apart gone (body ∷ left)

pub numbers_read : (shape : Shape) (cpu : ℕ) (bodies : List Stored) → numbers (all_read shape cpu bodies) ≡ numbers bodies
numbers_read shape cpu [] = refl
numbers_read shape cpu (body ∷ bodies) = ap (λ (l : List ℕ). body.element ∷ l) (numbers_read shape cpu bodies)

-- an element that came to the hand of a CPU
abbrev pub to_hand_of : ℕ → ℕ → OwnerSeen
to_hand_of cpu e = record { element = e; owner = owners.Hand cpu }

none_leaves : (lru : Bool) (cpu bucket : ℕ) → leave_steps lru cpu bucket [] ≡ []
none_leaves true cpu bucket = refl
none_leaves false cpu bucket = refl

-- elements that are detached one after another, each of which comes to the CPU's hand
detached_owners : (cpu bucket e : ℕ) (owner : Owner) (elements earlier : List ℕ) → owner_left (map (to_hand_of cpu) (reverse_aux elements earlier)) e owner ≡ owner_by (detaches cpu bucket elements) e (owner_left (map (to_hand_of cpu) earlier) e owner)
detached_owners cpu bucket e owner [] earlier = refl
detached_owners cpu bucket e owner (x ∷ elements) earlier = detached_owners cpu bucket e owner elements (x ∷ earlier)

-- a bucket without its head
pub without_head : (body : Stored) (left : List Stored) → without_row body.element (lists_of (in_bucket (body ∷ left))) ≡ lists_of (in_bucket left)
without_head body left =
    by_test body.element body.element (λ z. record { free = []; first = cond z (numbers left) (body.element ∷ without body.element (numbers left)); second = []; cursor = None } ≡ lists_of (in_bucket left))
    (λ _. refl) (λ other. absurd (other refl))

-- of bodies whose elements are a map's, each is of the map
all_out : (t : TableView) (bodies : List Stored) → All (IsSized t.shape) bodies → ((e : ℕ) → IsIn e (numbers bodies) → e < t.shape.elements) → All (λ (body : Stored). IsOut t (Some body)) bodies
all_out t [] sized real = All-nil (λ (body : Stored). IsOut t (Some body))
all_out t (body ∷ bodies) sized real =
    All-cons (λ (one : Stored). IsOut t (Some one)) body bodies
    (real body.element (let here = times_cons_same body.element (numbers bodies) in omega (arith, here)), All-head (IsSized t.shape) body bodies sized)
    (all_out t bodies (All-tail (IsSized t.shape) body bodies sized) (λ e inside. real e (more e inside)))
  where
    more : (e : ℕ) → IsIn e (numbers bodies) → IsIn e (body.element ∷ numbers bodies)
    more e inside = by_test body.element e (λ z. 0 < cond z (suc (times e (numbers bodies))) (times e (numbers bodies))) (λ _. omega arith) (λ _. inside)

-- The bucket that is held

module _ {t : TableView} {bucket : ℕ} {q : PassView} {bodies : List Stored} (b : InBucket t bucket q bodies) where
  -- From where it was taken: these bodies are left in it, and these were taken out, the last first.
  pub record TakingOut (r : PassView) (left gone : List Stored) : Type 0 where
    pub under : Under t bucket q r bodies (lists_of (in_bucket left)) [] (map (to_hand_of q.cpu) (numbers gone)) (with_all_in_hand gone q.cpu q.view.hand)
    pub split : reverse_aux gone left ≡ bodies

  pub taking_begins : TakingOut q bodies []
  taking_begins = record { under = under_nothing (holds_bucket b); split = refl }

  real_here : (e : ℕ) → IsIn e (numbers bodies) → e < t.shape.elements
  real_here e inside = b.elements.rows_real e (subst (λ (n : ℕ). 0 < n) (rows_taken b e) inside)

  module _ {r : PassView} {left gone : List Stored} (body : Stored) (so_far : TakingOut r (body ∷ left) gone) where
    pub can_take_next : CanDetach t body.element bucket r
    can_take_next =
        let e : ℕ = body.element in
        let here : times e (e ∷ numbers left) ≡ suc (times e (numbers left)) = times_cons_same e (numbers left) in
        let apart : times e (numbers bodies) ≡ times e (numbers gone) + times e (e ∷ numbers left) = ap (λ (l : List Stored). times e (numbers l)) (sym so_far.split) ∙ counted_apart e gone (body ∷ left) in
        can_detach so_far.under.holds e (omega (arith, here)) (real_here e (omega (arith, apart, here)))

    pub taking_more : (s : PassView) → Detached bucket body.element r s → TakingOut s left (body ∷ gone)
    taking_more s detached = record {
      under = subst (λ (l : Lists). Under t bucket q s bodies l [] (map (to_hand_of q.cpu) (numbers (body ∷ gone))) (with_all_in_hand (body ∷ gone) q.cpu q.view.hand)) (without_head body left) (under_detached so_far.under body.element s detached);
      split = so_far.split;
    }

  -- all were taken out
  module _ {r : PassView} {gone : List Stored} (so_far : TakingOut r [] gone) where
    pub all_are_out : All (λ (body : Stored). IsOut t (Some body)) gone
    all_are_out = all_gone (λ (body : Stored). IsOut t (Some body)) gone [] (All-same (λ (body : Stored). IsOut t (Some body)) (reverse gone) bodies so_far.split (all_out t bodies b.sized real_here))

    pub each_once : (e : ℕ) → times e (numbers gone) ≤ 1
    each_once e =
        let apart : times e (numbers bodies) ≡ times e (numbers gone) + 0 = ap (λ (l : List Stored). times e (numbers l)) (sym so_far.split) ∙ counted_apart e gone [] in
        omega (arith, apart, rows_taken b e, b.elements.rows_once e)

    pub gone_are : (shape : Shape) (cpu : ℕ) → numbers gone ≡ reverse (numbers (all_read shape cpu bodies))
    gone_are shape cpu =
        sym (ap (λ (l : List ℕ). reverse l) (numbers_read shape cpu bodies ∙ (ap numbers (sym so_far.split) ∙ numbers_apart gone [])) ∙ reverse-reverse (numbers gone))

-- The loop: what was taken out lies on a stack that had room for so many.
pub record Emptying (t : TableView) (bucket : ℕ) (q : PassView) (bodies : List Stored) (r : PassView) (left : List Stored) (gone : BodyList) (spare : ℕ) : Type 0 where
  pub inside : InBucket t bucket q bodies
  pub taking : TakingOut inside r left gone.bodies
  pub room : gone.spare + length gone.bodies ≡ spare

pub emptying_begins : {t : TableView} {bucket : ℕ} {q : PassView} {bodies : List Stored} {gone : BodyList} → InBucket t bucket q bodies → gone.bodies ≡ [] → Emptying t bucket q bodies q bodies gone gone.spare
emptying_begins {t} {bucket} {q} {bodies} {gone} inside none = record {
  inside = inside;
  taking = subst (λ (l : List Stored). TakingOut inside q bodies l) (sym none) (taking_begins inside);
  room = let long : length gone.bodies ≡ 0 = ap length none in omega (arith, long);
}

module _ {t : TableView} {bucket spare : ℕ} {q r : PassView} {bodies left now : List Stored} {gone : BodyList} (so_far : Emptying t bucket q bodies r left gone spare) (body : Stored) (at : Some body ≡ slice_get left 0) (is : now ≡ remove left 0) where
  left_is : left ≡ body ∷ now
  left_is = head_out left now body at is

  taking_here : TakingOut so_far.inside r (body ∷ now) gone.bodies
  taking_here = subst (λ (l : List Stored). TakingOut so_far.inside r l gone.bodies) left_is so_far.taking

  pub can_detach_head : (e : ℕ) → e ≡ body.element → CanDetach t e bucket r
  can_detach_head e e_is = subst (λ (x : ℕ). CanDetach t x bucket r) (sym e_is) (can_take_next so_far.inside body taking_here)

  pub has_space : (room : ℕ) → length bodies ≤ room → room ≤ spare → 1 ≤ gone.spare
  has_space room fits enough =
      let apart : length bodies ≡ length gone.bodies + suc (length now) = ap length (sym taking_here.split) ∙ length_apart gone.bodies (body ∷ now) in
      omega (arith, apart, so_far.room, fits, enough)

  pub emptying_more : (e : ℕ) (s : PassView) (after : BodyList) → e ≡ body.element → Detached bucket e r s → after ≡ record { bodies = body ∷ gone.bodies; spare = gone.spare - 1 } → 1 ≤ gone.spare → Emptying t bucket q bodies s now after spare
  emptying_more e s after e_is detached after_is some = record {
    inside = so_far.inside;
    taking = subst (λ (l : List Stored). TakingOut so_far.inside s now l) (sym (ap (λ (z : BodyList). z.bodies) after_is)) (taking_more so_far.inside body taking_here s (subst (λ (x : ℕ). Detached bucket x r s) e_is detached));
    room = ap (λ (z : BodyList). z.spare + length z.bodies) after_is ∙ omega (arith, some, so_far.room);
  }

  pub fewer_left : length now < length left
  fewer_left = let long : length left ≡ suc (length now) = ap length left_is in omega (arith, long)

-- the room that a batch has left is no more than all that it has
pub room_enough : {room limit spare : ℕ} (taken : ℕ) → room ≡ limit - taken → limit ≤ spare → room ≤ spare
room_enough taken is enough = omega (arith, is, enough)

-- The parts of a turn that takes out or leaves a bucket

left_alone : (shape : Shape) (cpu room : ℕ) (bodies : List Stored) → room < length bodies → IsTurn shape cpu (Walk true room (Over (length bodies))) bodies bodies
unfolding AllowsInBucket bucket_after
left_alone shape cpu room bodies over = record { allowed = (refl, over); left = refl }

emptied : (shape : Shape) (cpu room : ℕ) (bodies : List Stored) → length bodies ≤ room → IsTurn shape cpu (Walk true room (Taken (all_read shape cpu bodies))) bodies []
unfolding AllowsInBucket bucket_after
emptied shape cpu room bodies fits = record { allowed = (fits, refl); left = refl }

-- by what was gathered: whether there was room
no_room : (shape : Shape) (cpu room : ℕ) (bodies : List Stored) (whole : Bool) (out now : PairsSoFar) → IsGathered (walked_by shape cpu room bodies) whole out now → whole ≡ false → nat_lt room (length bodies) ≡ true
no_room shape cpu room bodies whole out now gathered is =
    by_bool (nat_lt room (length bodies)) (λ z. IsGathered (cond z (Over (length bodies)) (Taken (all_read shape cpu bodies))) whole out now → z ≡ true)
    (λ _ _. refl) (λ _ read. absurd (true_false (sym read.0 ∙ is))) gathered

has_room : (shape : Shape) (cpu room : ℕ) (bodies : List Stored) (whole : Bool) (out now : PairsSoFar) → IsGathered (walked_by shape cpu room bodies) whole out now → whole ≡ true → nat_lt room (length bodies) ≡ false
has_room shape cpu room bodies whole out now gathered is =
    by_bool (nat_lt room (length bodies)) (λ z. IsGathered (cond z (Over (length bodies)) (Taken (all_read shape cpu bodies))) whole out now → z ≡ false)
    (λ _ left. absurd (true_false (sym is ∙ left.0))) (λ _ _. refl) gathered

-- What was read of the bucket that was entered, by the shape, the CPU and the room that were told
module _ {t : TableView} {bucket : ℕ} {p q : PassView} {chain : BodyList} (entered : Entered t bucket p q chain) (lru : IsTrue (is_lru t.shape.kind)) (told : Shape) (cpu room : ℕ) (told_is : told ≡ t.shape) (cpu_is : cpu ≡ q.cpu)
    (out now : PairsSoFar) (room_is : room ≡ out.limit - length out.pairs) (whole : Bool) (gathered : IsGathered (walked_by told cpu (out.limit - length out.pairs) chain.bodies) whole out now) where
  abbrev b : InBucket t bucket q chain.bodies
  b = entered.inside

  abbrev walked : Walked
  walked = walked_by told cpu room chain.bodies

  abbrev part : BucketPart
  part = Walk true room walked

  gathered_here : IsGathered walked whole out now
  gathered_here = subst (λ (n : ℕ). IsGathered (walked_by told cpu n chain.bodies) whole out now) (sym room_is) gathered

  -- the turn, from where the bucket was taken
  takes_into : (s : PassView) (gone : List Stored) → GivenBack t bucket q s (parts.Bucket part) (with_all_in_hand gone q.cpu q.view.hand) → numbers gone ≡ reverse (walked_out true walked) → All (λ (body : Stored). IsOut t (Some body)) gone → ((e : ℕ) → times e (numbers gone) ≤ 1)
      → TakesInto t bucket p s whole out now gone
  takes_into s gone given gone_is are_out once = record {
    step = given.step;
    told = given.told;
    lost = given.lost;
    changed = changed_given entered.no_lock (record { evicts = lru; took = entered.took; inside = entered.inside }) given;
    walked = walked;
    turn = given.turn ∙ ap (λ (n : ℕ). on_lock (Bucket bucket) (parts.Bucket (Walk true n walked))) room_is;
    gathered = gathered_here;
    gone_is = gone_is;
    hand = given.hand_is ∙ ap (λ (z : PassView). with_all_in_hand gone z.cpu z.view.hand) entered.took.after_is;
    are_out = are_out;
    once = once;
  }

  -- there is no room
  module _ (left : whole ≡ false) where
    over_is : nat_lt room (length chain.bodies) ≡ true
    over_is = no_room told cpu room chain.bodies whole out now gathered_here left

    walked_over : walked ≡ Over (length chain.bodies)
    walked_over = ap (λ z. cond z (Over (length chain.bodies)) (Taken (all_read told cpu chain.bodies))) over_is

    leaves : (found : Option Part) → IfSome found (λ x. x ≡ parts.Bucket part) → Gives (under_nothing (holds_bucket b)) chain part found
    leaves =
        unchanged chain (holds_bucket b) part
        (unchanged_turn t.shape q.cpu chain.bodies b.sized part (subst (λ (w : Walked). IsTurn t.shape q.cpu (Walk true room w) chain.bodies chain.bodies) (sym walked_over) (left_alone t.shape q.cpu room chain.bodies (ltb-true room (length chain.bodies) over_is))))
        refl refl
        (ap (λ (w : Walked). leave_steps (is_lru t.shape.kind) q.cpu bucket (taken_from_bucket (Walk true room w))) walked_over ∙ none_leaves (is_lru t.shape.kind) q.cpu bucket)

    pub may_give_over : (found : Option Part) → IfSome found (λ x. x ≡ parts.Bucket part) → MayGiveBack t (Bucket bucket) q (contents.Bucket chain) found
    may_give_over found is = (leaves found is).0

    pub left_over : (s : PassView) (gone : List Stored) (found : Option Part) → gone ≡ [] → IfSome found (λ x. x ≡ parts.Bucket part) → GaveBack t (Bucket bucket) q s (contents.Bucket chain) found → TakesInto t bucket p s false out now gone
    left_over s gone found none is gave =
        subst (λ (z : Bool × List Stored). TakesInto t bucket p s z.0 out now z.1) (λ i. (left i, sym none i)) (takes_into s [] ((leaves found is).1 s gave)
        (ap (λ (w : Walked). reverse (walked_out true w)) (sym walked_over)) (All-nil (λ (body : Stored). IsOut t (Some body))) (λ e. omega arith))

  pub fits_here : whole ≡ true → length chain.bodies ≤ room
  fits_here taken = ltb-false room (length chain.bodies) (has_room told cpu room chain.bodies whole out now gathered_here taken)

  -- all was taken out
  module _ (taken : whole ≡ true) {r : PassView} {left gone : List Stored} (back : BodyList) (so_far : TakingOut b r left gone) (at : None ≡ slice_get left 0) (back_was : back.bodies ≡ remove left 0) where
    left_none : left ≡ []
    left_none = none_out left at

    back_is : back.bodies ≡ []
    back_is = back_was ∙ ap (λ (l : List Stored). remove l 0) left_none

    at_end : TakingOut b r [] gone
    at_end = subst (λ (l : List Stored). TakingOut b r l gone) left_none so_far

    fits_is : nat_lt room (length chain.bodies) ≡ false
    fits_is = has_room told cpu room chain.bodies whole out now gathered_here taken

    walked_all : walked ≡ Taken (all_read t.shape q.cpu chain.bodies)
    walked_all = ap (λ z. cond z (Over (length chain.bodies)) (Taken (all_read told cpu chain.bodies))) fits_is ∙ (λ i. Taken (all_read (told_is i) (cpu_is i) chain.bodies))

    -- what was taken out is told to have come to the CPU's hand
    owned_out : AreChangedBy t.shape bucket q.cpu part (map (to_hand_of q.cpu) (numbers gone))
    owned_out e owner =
        ap (λ (l : List ℕ). owner_left (map (to_hand_of q.cpu) l) e owner) (gone_are b at_end t.shape q.cpu)
        ∙ (detached_owners q.cpu bucket e owner (numbers (all_read t.shape q.cpu chain.bodies)) []
        ∙ (λ i. owner_by (leave_steps (sym lru i) q.cpu bucket (taken_from_bucket (Walk true room (sym walked_all i)))) e owner))

    empties : (found : Option Part) → IfSome found (λ x. x ≡ parts.Bucket part) → Gives at_end.under back part found
    empties =
        let turn : IsTurnWith t.shape q.cpu part chain.bodies back.bodies [] = record {
          turn = subst (λ (z : Walked × List Stored). IsTurn t.shape q.cpu (Walk true room z.0) chain.bodies z.1) (λ i. (sym walked_all i, sym back_is i)) (emptied t.shape q.cpu room chain.bodies (ltb-false room (length chain.bodies) fits_is));
          sized = All-same (IsSized t.shape) back.bodies [] back_is (All-nil (IsSized t.shape));
          counts = λ x. ap (λ (l : List Stored). times x (numbers l)) back_is;
        } in
        gives at_end.under back part [] turn (rows_here []) refl refl (sets_none t.shape part refl) (λ _. owned_out)

    pub may_give_empty : (found : Option Part) → IfSome found (λ x. x ≡ parts.Bucket part) → MayGiveBack t (Bucket bucket) r (contents.Bucket back) found
    may_give_empty found is = (empties found is).0

    pub taken_out : (s : PassView) (found : Option Part) → IfSome found (λ x. x ≡ parts.Bucket part) → GaveBack t (Bucket bucket) r s (contents.Bucket back) found → TakesInto t bucket p s true out now gone
    taken_out s found is gave =
        subst (λ (w : Bool). TakesInto t bucket p s w out now gone) taken (takes_into s gone ((empties found is).1 s gave)
        (gone_are b at_end t.shape q.cpu ∙ ap (λ (w : Walked). reverse (walked_out true w)) (sym walked_all)) (all_are_out b at_end) (each_once b at_end))
