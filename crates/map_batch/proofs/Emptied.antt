-- Bodies that leave the bucket that is held one after another, head first, each for the freelist of the CPU.
use Rattle.std.proofs.Common.{◌≡◌, ℕ, suc, ◌+◌, ◌<◌, ◌≤◌, cond, true, false, List, [], ◌∷◌, ◌++◌, length, map, take, drop, sym, refl, ap, ◌∙◌, subst, arith, Some}
use Rattle.std.specs.Prelude.{All, not, slice_get, bytes_eq}
use Rattle.std.specs.List.{position_or_len}
use Rattle.std.proofs.lemmas.List.{map-append, append_assoc}
use Rattle.std.proofs.lemmas.List.Elements.{All-nil, All-head, All-tail}
use Rattle.std.proofs.lemmas.Slice.Eq.{bytes_eq-Decides}
use Rattle.map_types.specs.ElementLists.{times, IsIn}
use Rattle.map_types.specs.declared.attr.Shape.{Shape}
use Rattle.map_types.specs.Kind.{is_lru}
use Rattle.map_types.specs.Stored.{Stored, IsSized}
use Rattle.map_types.proofs.RowLemmas.{by_test}
use Rattle.place_words.specs.declared.free_part.FreePart.TheVariants.{Pushed}
use Rattle.place_words.specs.declared.owner.Owner.TheVariants as owners
use Rattle.place_words.specs.Bodies.{numbers, has_key, without_key}
use Rattle.place_words.specs.Histories.{in_bucket}
use Rattle.place_words.specs.Turns.{Turn, on_freelist_of}
use Rattle.place_words.specs.declared.step.Lists.{Lists}
use Rattle.place_table.specs.declared.view.OwnerSeen.{OwnerSeen}
use Rattle.place_table.specs.declared.view.Turned.{Turned}
use Rattle.place_table.specs.Contents.{lists_of}
use Rattle.place_table.specs.InBucket.{InBucket}
use Rattle.place_table.specs.Known.{IsBy, turn_of}
use Rattle.place_table.specs.Passes.{PassView, TableView, Detached}
use Rattle.place_table.specs.Views.{is_among, is_in_hand_of, notes_below, with_in_hand, without_in_hand}
use Rattle.place_table.proofs.Entries.{append_nil}
use Rattle.place_table.proofs.Hands.{in_hand_more, hand_back}
use Rattle.place_table.proofs.Worlds.{some_is, none_some}
use Rattle.place_table.specs.BucketHeld.{Holds}
use Rattle.place_table.proofs.BucketOut.{rows_here}
use Rattle.place_table.proofs.BucketUnder.{Under, holds_bucket, under_nothing, under_detached, can_detach}
use Rattle.hash_ops.proofs.Between.{Between, may_reach, holds_reached, between_nothing, between_reached, between_on}
use Rattle.hash_ops.proofs.HandLemmas.{none_in_hand}
use Rattle.map_batch.specs.PlainTakes.{CanPushOut, PushesOut, PushesAll}
use Rattle.map_batch.proofs.LruOut.{without_head}

-- A list whose first one goes

without_head_key : (body : Stored) (bodies : List Stored) → without_key body.key (body ∷ bodies) ≡ bodies
without_head_key body bodies =
    let same : bytes_eq body.key body.key ≡ true = (bytes_eq-Decides body.key body.key).1 refl in
    let behind : ℕ = position_or_len (has_key body.key) bodies in
    ap (λ b. take (cond (not b) (1 + behind) 0) (body ∷ bodies) ++ drop (cond (not b) (1 + behind) 0 + 1) (body ∷ bodies)) same

-- the body at the head was taken out
pub head_out : (bodies left : List Stored) (body : Stored) → slice_get bodies 0 ≡ Some body → left ≡ without_key body.key bodies → bodies ≡ body ∷ left
head_out [] left body found is = absurd (none_some found)
head_out (first ∷ others) left body found is =
    let same : first ≡ body = some_is found in
    let left_is : left ≡ others = is ∙ (ap (λ (b : Stored). without_key body.key (b ∷ others)) same ∙ without_head_key body others) in
    λ i. same i ∷ sym left_is i

inside_behind : (gone left : List Stored) (body : Stored) → IsIn body.element (numbers (gone ++ body ∷ left))
inside_behind [] left body = by_test body.element body.element (λ b. 0 < cond b (suc (times body.element (numbers left))) (times body.element (numbers left))) (λ _. omega arith) (λ other. absurd (other refl))
inside_behind (one ∷ gone) left body =
    let later : 0 < times body.element (numbers (gone ++ body ∷ left)) = inside_behind gone left body in
    by_test one.element body.element (λ b. 0 < cond b (suc (times body.element (numbers (gone ++ body ∷ left)))) (times body.element (numbers (gone ++ body ∷ left)))) (λ _. omega arith) (λ _. later)

sized_behind : (shape : Shape) (gone left : List Stored) (body : Stored) → All (IsSized shape) (gone ++ body ∷ left) → IsSized shape body
sized_behind shape [] left body all = All-head (IsSized shape) body left all
sized_behind shape (one ∷ gone) left body all = sized_behind shape gone left body (All-tail (IsSized shape) one (gone ++ body ∷ left) all)

-- Pushes

-- the turns in which these elements are pushed
abbrev pub pushes_of : ℕ → List ℕ → List Turn
pushes_of cpu elements = map (λ e. on_freelist_of cpu (Pushed e)) elements

pushes_more : (cpu : ℕ) (gone : List Stored) (body : Stored) → pushes_of cpu (numbers (gone ++ body ∷ [])) ≡ pushes_of cpu (numbers gone) ++ on_freelist_of cpu (Pushed body.element) ∷ []
pushes_more cpu gone body =
    ap (pushes_of cpu) (map-append (λ (b : Stored). b.element) gone (body ∷ [])) ∙ map-append (λ (e : ℕ). on_freelist_of cpu (Pushed e)) (numbers gone) (body.element ∷ [])

-- From where the bucket was taken: these bodies were pushed, each in a turn of the CPU's freelist, and these are left. The hands hold
-- what they held.
pub record Emptied (t : TableView) (bucket : ℕ) (q r : PassView) (bodies gone left : List Stored) : Type 0 where
  pub inner : List Turned
  pub bodies_are : bodies ≡ gone ++ left
  pub changed : List OwnerSeen
  pub holds : Holds t bucket r bodies (lists_of (in_bucket left)) [] changed
  pub between : Between t q r inner
  pub turns : map (turn_of t.shape) inner ≡ pushes_of q.cpu (numbers gone)
  pub spares : r.spares ≡ q.spares
  pub hands : (x c : ℕ) → is_in_hand_of x c r.view.hand ≡ is_in_hand_of x c q.view.hand

emptied_none : {t : TableView} {bucket : ℕ} {q : PassView} {bodies : List Stored} → InBucket t bucket q bodies → Emptied t bucket q q bodies [] bodies
emptied_none {t} {bucket} {q} {bodies} b = record {
  inner = [];
  bodies_are = refl;
  changed = [];
  holds = holds_bucket b;
  between = between_nothing t q;
  turns = refl;
  spares = refl;
  hands = λ _ _. refl;
}

-- One body more
module _ {t : TableView} {bucket : ℕ} {q r : PassView} {bodies gone left : List Stored} (body : Stored) (so_far : Emptied t bucket q r bodies gone (body ∷ left)) where
  lies_there : IsIn body.element (numbers bodies)
  lies_there = subst (λ (l : List Stored). IsIn body.element (numbers l)) (sym so_far.bodies_are) (inside_behind gone left body)

  is_real : body.element < t.shape.elements
  is_real = so_far.holds.elements.rows_real body.element (subst (λ (n : ℕ). 0 < n) (rows_here bodies body.element) lies_there)

  -- once it is in hand the bucket holds the others
  under_out : (out : PassView) → Detached bucket body.element r out → Under t bucket r out bodies (lists_of (in_bucket left)) [] (record { element = body.element; owner = owners.Hand r.cpu } ∷ so_far.changed) (with_in_hand body.element r.cpu r.view.hand)
  under_out out is =
      subst (λ (l : Lists). Under t bucket r out bodies l [] (record { element = body.element; owner = owners.Hand r.cpu } ∷ so_far.changed) (with_in_hand body.element r.cpu r.view.hand)) (without_head body left) (under_detached (under_nothing so_far.holds) body.element out is)

  between_out : (out : PassView) → Detached bucket body.element r out → Between t r out []
  between_out out is =
      let u = under_out out is in record {
        goes = u.goes;
        notes = ap notes_below u.holds.notes ∙ u.below_is;
        bits = ap (λ (z : PassView). z.view.bits) is.1;
        carried = u.carried;
        by_call = All-nil (IsBy r.cpu r.call);
        learns = u.learns;
        told = tt;
      }

  pub can_push_out : CanPushOut t bucket body r
  can_push_out = record {
    detach = can_detach so_far.holds body.element (inside_behind [] left body) is_real;
    push = λ out is. record {
      can = may_reach (under_out out is).holds;
      real = is_real;
      sized = sized_behind t.shape gone left body (subst (All (IsSized t.shape)) so_far.bodies_are so_far.holds.sized);
      in_hand = (λ i. is_in_hand_of body.element ((is.1 i).cpu) ((is.1 i).view.hand)) ∙ in_hand_more body.element r.cpu r.view.hand;
    };
  }

  emptied_more : {s : PassView} → InBucket t bucket q bodies → is_lru t.shape.kind ≡ false → PushesOut t bucket body r s → Emptied t bucket q s bodies (gone ++ body ∷ []) left
  emptied_more {s} b plain one =
      let cpu_is : r.cpu ≡ q.cpu = so_far.between.goes.cpu in
      let mine : is_among r.cpu q.view.cpus ≡ true = ap (λ (c : ℕ). is_among c q.view.cpus) cpu_is ∙ b.begun in
      let none : is_in_hand_of body.element r.cpu r.view.hand ≡ false = so_far.hands body.element r.cpu ∙ none_in_hand b body.element r.cpu plain mine lies_there in
      let turn : turn_of t.shape one.pushed.step ≡ on_freelist_of q.cpu (Pushed body.element) =
      one.pushed.turn ∙ (ap (λ (z : PassView). on_freelist_of z.cpu (Pushed body.element)) one.detached.1 ∙ ap (λ (c : ℕ). on_freelist_of c (Pushed body.element)) cpu_is) in
      record {
        inner = so_far.inner ++ one.pushed.step ∷ [];
        bodies_are = so_far.bodies_are ∙ sym (append_assoc gone (body ∷ []) left);
        changed = record { element = body.element; owner = owners.Hand r.cpu } ∷ so_far.changed;
        holds = holds_reached (under_out one.out one.detached).holds s (one.pushed.step ∷ []) one.pushed.reached;
        between = between_on so_far.between (between_on (between_out one.out one.detached) (between_reached one.pushed.reached));
        turns = map-append (turn_of t.shape) so_far.inner (one.pushed.step ∷ []) ∙ ((λ i. so_far.turns i ++ turn i ∷ []) ∙ sym (pushes_more q.cpu gone body));
        spares = one.pushed.reached.spares ∙ (ap (λ (z : PassView). z.spares) one.detached.1 ∙ so_far.spares);
        hands = λ x c.
            ap (is_in_hand_of x c) (one.pushed.hand ∙ ap (λ (z : PassView). without_in_hand body.element z.cpu z.view.hand) one.detached.1)
            ∙ (hand_back body.element r.cpu r.view.hand none x c ∙ so_far.hands x c);
      }

emptied_on : {t : TableView} {bucket : ℕ} {q r s : PassView} {bodies gone : List Stored} (more left : List Stored) → InBucket t bucket q bodies → is_lru t.shape.kind ≡ false → Emptied t bucket q r bodies gone (more ++ left) → PushesAll t bucket more r s → Emptied t bucket q s bodies (gone ++ more) left
emptied_on {t} {bucket} {q} {r} {s} {bodies} {gone} [] left b plain so_far same =
    subst (λ (z : PassView × List Stored). Emptied t bucket q z.0 bodies z.1 left) (λ i. (sym same i, sym (append_nil gone) i)) so_far
emptied_on {t} {bucket} {q} {r} {s} {bodies} {gone} (body ∷ more) left b plain so_far pushed =
    subst (λ (l : List Stored). Emptied t bucket q s bodies l left) (append_assoc gone (body ∷ []) more) (emptied_on more left b plain (emptied_more body so_far b plain pushed.1) pushed.2)

-- The loop

-- these bodies were pushed so far, and these are left
pub record PushedSoFar (t : TableView) (bucket : ℕ) (q r : PassView) (bodies left : List Stored) : Type 0 where
  pub gone : List Stored
  pub bodies_are : bodies ≡ gone ++ left
  pub pushed : PushesAll t bucket gone q r

pub pushed_none : (t : TableView) (bucket : ℕ) (q : PassView) (bodies : List Stored) → PushedSoFar t bucket q q bodies bodies
pushed_none t bucket q bodies = record { gone = []; bodies_are = refl; pushed = refl }

pushes_all_more : {t : TableView} {bucket : ℕ} {r s : PassView} (q : PassView) (gone : List Stored) (body : Stored) → PushesAll t bucket gone q r → PushesOut t bucket body r s → PushesAll t bucket (gone ++ body ∷ []) q s
pushes_all_more {t} {bucket} {r} {s} q [] body same one = (s, subst (λ (z : PassView). PushesOut t bucket body z s) same one, refl)
pushes_all_more q (first ∷ gone) body pushed one = (pushed.0, pushed.1, pushes_all_more pushed.0 gone body pushed.2 one)

pub pushed_more : {t : TableView} {bucket : ℕ} {q r s : PassView} {bodies left now : List Stored} (body : Stored) → left ≡ body ∷ now → PushedSoFar t bucket q r bodies left → PushesOut t bucket body r s → PushedSoFar t bucket q s bodies now
pushed_more {q = q} {now = now} body left_is so_far one = record {
  gone = so_far.gone ++ body ∷ [];
  bodies_are = so_far.bodies_are ∙ (ap (λ (l : List Stored). so_far.gone ++ l) left_is ∙ sym (append_assoc so_far.gone (body ∷ []) now));
  pushed = pushes_all_more q so_far.gone body so_far.pushed one;
}

pub emptied_of : {t : TableView} {bucket : ℕ} {q r : PassView} {bodies left : List Stored} → InBucket t bucket q bodies → is_lru t.shape.kind ≡ false → (so_far : PushedSoFar t bucket q r bodies left) → Emptied t bucket q r bodies so_far.gone left
emptied_of {t} {bucket} {q} {r} {bodies} {left} b plain so_far =
    emptied_on so_far.gone left b plain (subst (λ (l : List Stored). Emptied t bucket q q bodies [] l) so_far.bodies_are (emptied_none b)) so_far.pushed

-- the next body may be pushed
pub can_push_next : {t : TableView} {bucket : ℕ} {q r : PassView} {bodies left now : List Stored} (body : Stored) → InBucket t bucket q bodies → is_lru t.shape.kind ≡ false → left ≡ body ∷ now → PushedSoFar t bucket q r bodies left → CanPushOut t bucket body r
can_push_next {t} {bucket} {q} {r} {bodies} {left} {now} body b plain left_is so_far =
    can_push_out body (subst (λ (l : List Stored). Emptied t bucket q r bodies so_far.gone l) left_is (emptied_of b plain so_far))

-- and none is left at the end
pub none_left : (left : List Stored) (done count : ℕ) → done + length left ≡ count → count ≤ done → left ≡ []
none_left [] done count is end = refl
none_left (body ∷ left) done count is end = absurd (omega (arith, is, end))

pub pushed_all : {t : TableView} {bucket : ℕ} {q r : PassView} {bodies left : List Stored} → left ≡ [] → PushedSoFar t bucket q r bodies left → PushesAll t bucket bodies q r
pushed_all {t} {bucket} {q} {r} none so_far =
    subst (λ (l : List Stored). PushesAll t bucket l q r) (sym (so_far.bodies_are ∙ (ap (λ (l : List Stored). so_far.gone ++ l) none ∙ append_nil so_far.gone))) so_far.pushed

pub emptied_all : {t : TableView} {bucket : ℕ} {q r : PassView} {bodies : List Stored} → InBucket t bucket q bodies → is_lru t.shape.kind ≡ false → PushesAll t bucket bodies q r → Emptied t bucket q r bodies bodies []
emptied_all {t} {bucket} {q} {r} {bodies} b plain pushed =
    emptied_on bodies [] b plain (subst (λ (l : List Stored). Emptied t bucket q q bodies [] l) (sym (append_nil bodies)) (emptied_none b)) pushed
