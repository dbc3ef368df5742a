-- Elements that are freed one after another: what is in hand meanwhile and afterwards, and the turns that free them.
use Rattle.std.proofs.Common.{◌≡◌, ℕ, suc, ◌+◌, ◌<◌, ◌≤◌, eqb, cond, Bool, true, false, List, [], ◌∷◌, ◌++◌, length, map, sym, refl, ap, ◌∙◌, subst, arith, Some}
use Rattle.std.specs.Prelude.{◌&&◌, IsFalse}
use Rattle.std.proofs.lemmas.List.{map-append, append_assoc}
use Rattle.std.proofs.lemmas.List.Elements.{All-nil, All-head, All-tail}
use Rattle.map_types.specs.declared.attr.Shape.{Shape}
use Rattle.map_types.specs.Kind.{is_lru}
use Rattle.map_types.specs.ElementLists.{times, IsIn}
use Rattle.map_types.specs.Stored.{Stored}
use Rattle.map_types.proofs.RowLemmas.{by_test}
use Rattle.percpu_values.specs.BodyList.{BodyList}
use Rattle.place_words.specs.Bodies.{numbers}
use Rattle.place_words.specs.Takings.{Frees}
use Rattle.place_words.specs.Turns.{TurnAt}
use Rattle.place_words.specs.Walks.{FreesAll}
use Rattle.place_words.proofs.ElementLemmas.{times_cons_same}
use Rattle.place_table.specs.declared.view.InHand.{InHand}
use Rattle.place_table.specs.declared.view.Turned.{Turned}
use Rattle.place_table.specs.Calls.{finds_moved_on}
use Rattle.place_table.specs.Known.{BitTouch, Learns, IsBy, turn_at}
use Rattle.place_table.specs.Passes.{PassView, TableView}
use Rattle.place_table.specs.Views.{is_in_hand_of, with_in_hand, without_in_hand}
use Rattle.place_table.proofs.Entries.{append_nil}
use Rattle.place_table.proofs.Going.{goes_nowhere, goes_of_table, goes_begun, learns_none}
use Rattle.place_table.proofs.Hands.{in_hand_less, in_hand_less_else, hand_back}
use Rattle.place_table.proofs.Worlds.{by_bool}
use Rattle.lru_ops.specs.Lists.{Changed, CanFree, Freed}
use Rattle.lru_ops.specs.Under.{IsOut}
use Rattle.lru_ops.proofs.Ends.{changed_on}
use Rattle.map_batch.specs.LruTakes.{CanFreeAll, FreedAll, with_all_in_hand, without_all_in_hand}

-- Bodies whose elements stand there once each

module _ (body : Stored) (left : List Stored) (once : (e : ℕ) → times e (numbers (body ∷ left)) ≤ 1) where
  -- that of the first stands nowhere behind it
  not_behind : times body.element (numbers left) ≡ 0
  not_behind =
      let here : times body.element (body.element ∷ numbers left) ≡ suc (times body.element (numbers left)) = times_cons_same body.element (numbers left) in
      omega (arith, here, once body.element)

  once_behind : (e : ℕ) → times e (numbers left) ≤ 1
  once_behind e = by_test body.element e (λ z. cond z (suc (times e (numbers left))) (times e (numbers left)) ≤ 1 → times e (numbers left) ≤ 1) (λ _ few. omega (arith, few)) (λ _ few. few) (once e)

  other_behind : (e : ℕ) → IsIn e (numbers left) → e ≡ body.element → ⊥
  other_behind e inside same =
      let there : IsIn body.element (numbers left) = subst (λ (x : ℕ). IsIn x (numbers left)) same inside in
      omega (arith, there, not_behind)

in_more : (body : Stored) (left : List Stored) (e : ℕ) → IsIn e (numbers left) → IsIn e (numbers (body ∷ left))
in_more body left e inside = by_test body.element e (λ z. 0 < cond z (suc (times e (numbers left))) (times e (numbers left))) (λ _. omega arith) (λ _. inside)

-- What is in hand once they were taken out

pub in_hand_all : (gone : List Stored) (cpu : ℕ) (hand : List InHand) (e : ℕ) → IsIn e (numbers gone) → is_in_hand_of e cpu (with_all_in_hand gone cpu hand) ≡ true
in_hand_all [] cpu hand e inside = absurd (omega (arith, inside))
in_hand_all (body ∷ gone) cpu hand e inside =
    by_test body.element e (λ z. 0 < cond z (suc (times e (numbers gone))) (times e (numbers gone)) → cond (z && eqb cpu cpu) true (is_in_hand_of e cpu (with_all_in_hand gone cpu hand)) ≡ true)
    (λ _ _. by_test cpu cpu (λ b. cond b true (is_in_hand_of e cpu (with_all_in_hand gone cpu hand)) ≡ true) (λ _. refl) (λ other. absurd (other refl)))
    (λ _ behind. in_hand_all gone cpu hand e behind) inside

out_of_hand_all : (gone : List Stored) (cpu : ℕ) (hand : List InHand) (e : ℕ) → times e (numbers gone) ≡ 0 → is_in_hand_of e cpu hand ≡ false → is_in_hand_of e cpu (with_all_in_hand gone cpu hand) ≡ false
out_of_hand_all [] cpu hand e none empty = empty
out_of_hand_all (body ∷ gone) cpu hand e none empty =
    by_test body.element e (λ z. cond z (suc (times e (numbers gone))) (times e (numbers gone)) ≡ 0 → cond (z && eqb cpu cpu) true (is_in_hand_of e cpu (with_all_in_hand gone cpu hand)) ≡ false)
    (λ _ some. absurd (omega (arith, some))) (λ _ behind. out_of_hand_all gone cpu hand e behind empty) none

-- and once they have left it

-- two hands that hold the same hold the same without one element, and without some
same_less : (e cpu : ℕ) (hand other : List InHand) → ((x c : ℕ) → is_in_hand_of x c hand ≡ is_in_hand_of x c other) → (x c : ℕ) → is_in_hand_of x c (without_in_hand e cpu hand) ≡ is_in_hand_of x c (without_in_hand e cpu other)
same_less e cpu hand other same x c =
    let else : (x ≡ e → c ≡ cpu → ⊥) → is_in_hand_of x c (without_in_hand e cpu hand) ≡ is_in_hand_of x c (without_in_hand e cpu other) =
    λ apart. in_hand_less_else x c e cpu hand apart ∙ (same x c ∙ sym (in_hand_less_else x c e cpu other apart)) in
    by_test x e (λ _. is_in_hand_of x c (without_in_hand e cpu hand) ≡ is_in_hand_of x c (without_in_hand e cpu other))
    (λ it. by_test c cpu (λ _. is_in_hand_of x c (without_in_hand e cpu hand) ≡ is_in_hand_of x c (without_in_hand e cpu other))
    (λ mine. (λ i. is_in_hand_of (it i) (mine i) (without_in_hand e cpu hand)) ∙ (in_hand_less e cpu hand ∙ (sym (in_hand_less e cpu other) ∙ (λ i. is_in_hand_of (sym it i) (sym mine i) (without_in_hand e cpu other)))))
    (λ theirs. else (λ _ mine. theirs mine)))
    (λ others. else (λ it _. others it))

same_less_all : (gone : List Stored) (cpu : ℕ) (hand other : List InHand) → ((x c : ℕ) → is_in_hand_of x c hand ≡ is_in_hand_of x c other) → (x c : ℕ) → is_in_hand_of x c (without_all_in_hand gone cpu hand) ≡ is_in_hand_of x c (without_all_in_hand gone cpu other)
same_less_all [] cpu hand other same = same
same_less_all (body ∷ gone) cpu hand other same = same_less_all gone cpu (without_in_hand body.element cpu hand) (without_in_hand body.element cpu other) (same_less body.element cpu hand other same)

-- what came to an empty hand and left it again leaves all hands as they were
pub all_back : (gone : List Stored) (cpu : ℕ) (hand : List InHand) → ((e : ℕ) → times e (numbers gone) ≤ 1) → ((e : ℕ) → is_in_hand_of e cpu hand ≡ false) → (x c : ℕ) → is_in_hand_of x c (without_all_in_hand gone cpu (with_all_in_hand gone cpu hand)) ≡ is_in_hand_of x c hand
all_back [] cpu hand once empty x c = refl
all_back (body ∷ gone) cpu hand once empty x c =
    let e : ℕ = body.element in
    let taken : List InHand = with_all_in_hand gone cpu hand in
    let none : is_in_hand_of e cpu taken ≡ false = out_of_hand_all gone cpu hand e (not_behind body gone once) (empty e) in
    same_less_all gone cpu (without_in_hand e cpu (with_in_hand e cpu taken)) taken (hand_back e cpu taken none) x c ∙ all_back gone cpu hand (once_behind body gone once) empty x c

-- the last one leaves it
less_last : (done : List Stored) (body : Stored) (cpu : ℕ) (hand : List InHand) → without_all_in_hand (done ++ body ∷ []) cpu hand ≡ without_in_hand body.element cpu (without_all_in_hand done cpu hand)
less_last [] body cpu hand = refl
less_last (one ∷ done) body cpu hand = less_last done body cpu (without_in_hand one.element cpu hand)

-- The turns that free one more
frees_last : (shape : Shape) (done : List ℕ) (e : ℕ) (turns one : List TurnAt) → FreesAll shape done turns → Frees shape e one → FreesAll shape (done ++ e ∷ []) (turns ++ one)
frees_last shape [] e turns one none freed = (one, [], (ap (λ (l : List TurnAt). l ++ one) none ∙ sym (append_nil one), freed, refl))
frees_last shape (x ∷ done) e turns one (first, others, (turns_are, it, rest)) freed =
    (first, others ++ one, (ap (λ (l : List TurnAt). l ++ one) turns_are ∙ append_assoc first others one, it, frees_last shape done e others one rest freed))

-- The loop: these are left of those that are to be freed.
pub changed_nothing : (t : TableView) (p : PassView) → Changed t p p [] [] []
changed_nothing t p = record {
  told_are = tt;
  made = record { goes = goes_nowhere p; held = refl; notes = refl };
  by_call = All-nil (IsBy p.cpu p.call);
  spares = refl;
  carried = refl;
  learns = subst (Learns t.shape p.view p.view []) (by_bool (is_lru t.shape.kind) (λ (b : Bool). ◌≡◌ {A = List BitTouch} [] (cond b [] [])) (λ _. refl) (λ _. refl)) (learns_none t.shape p.view);
  none_moved = λ _ _ _. All-nil (λ (turn : Turned). IsFalse (finds_moved_on turn.entry.part));
}

pub record FreedSome (t : TableView) (all left : List Stored) (before after : PassView) : Type 0 where
  pub done : List Stored
  pub split : done ++ left ≡ all
  pub freed : FreedAll t done before after
  pub can : CanFreeAll t left after

pub freed_none : {t : TableView} {all : List Stored} {p : PassView} → CanFreeAll t all p → FreedSome t all all p p
freed_none {t} {all} {p} can = record {
  done = [];
  split = refl;
  freed = record { steps = []; changed = changed_nothing t p; trace = refl; hand = refl };
  can = can;
}

module _ {t : TableView} {all left : List Stored} {p r : PassView} (body : Stored) (so_far : FreedSome t all (body ∷ left) p r) where
  can_free_next : CanFree t body r
  can_free_next =
      let can = so_far.can in
      let out = All-head (λ (one : Stored). IsOut t (Some one)) body left can.are_out in
      let here : IsIn body.element (numbers (body ∷ left)) = (let one : times body.element (body.element ∷ numbers left) ≡ suc (times body.element (numbers left)) = times_cons_same body.element (numbers left) in omega (arith, one)) in
      record {
        of_table = can.of_table;
        begun = can.begun;
        no_lock = can.no_lock;
        real = out.0;
        sized = out.1;
        in_hand = can.in_hand body.element here;
        not_carried = ap (is_in_hand_of body.element r.cpu) can.carries_nothing;
      }

  freed_more : (s : PassView) → Freed t body r s → FreedSome t all left p s
  freed_more s one =
      let can = so_far.can in
      let goes = one.changed.made.goes in
      let before = so_far.freed in
      record {
        done = so_far.done ++ body ∷ [];
        split = append_assoc so_far.done (body ∷ []) left ∙ so_far.split;
        freed = record {
          steps = before.steps ++ one.steps;
          changed = changed_on before.changed one.changed;
          trace = subst (λ (z : List ℕ × List TurnAt). FreesAll t.shape z.0 z.1)
              (λ i. (sym (map-append (λ (b : Stored). b.element) so_far.done (body ∷ [])) i, sym (map-append (turn_at t.shape) before.steps one.steps) i))
              (frees_last t.shape (numbers so_far.done) body.element (map (turn_at t.shape) before.steps) (map (turn_at t.shape) one.steps) before.trace one.trace);
          hand = one.hand ∙ ((λ i. without_in_hand body.element (before.changed.made.goes.cpu i) (before.hand i)) ∙ sym (less_last so_far.done body p.cpu p.view.hand));
        };
        can = record {
          of_table = goes_of_table t r s one.steps [] goes can.of_table;
          begun = goes_begun r s one.steps [] goes can.begun;
          no_lock = one.changed.made.held ∙ can.no_lock;
          carries_nothing = one.changed.carried ∙ can.carries_nothing;
          are_out = All-tail (λ (b : Stored). IsOut t (Some b)) body left can.are_out;
          once = once_behind body left can.once;
          in_hand = λ e inside.
              (λ i. is_in_hand_of e (goes.cpu i) (one.hand i))
              ∙ (in_hand_less_else e r.cpu body.element r.cpu r.view.hand (λ same _. other_behind body left can.once e inside same) ∙ can.in_hand e (in_more body left e inside));
        };
      }

-- none is left
pub freed_all : {t : TableView} {all left : List Stored} {p s : PassView} → FreedSome t all left p s → left ≡ [] → FreedAll t all p s
freed_all {t} {all} {left} {p} {s} so_far none =
    subst (λ (l : List Stored). FreedAll t l p s) (sym (append_nil so_far.done) ∙ (ap (λ (l : List Stored). so_far.done ++ l) (sym none) ∙ so_far.split)) so_far.freed

-- The stack whose top is freed next, and which has the room that it had

module _ {t : TableView} {all : List Stored} {p r : PassView} {stack : BodyList} (now : BodyList) (body : Stored) (so_far : FreedSome t all stack.bodies p r) {spare : ℕ} (top : stack ≡ record { bodies = body ∷ now.bodies; spare = spare }) where
  top_is : stack.bodies ≡ body ∷ now.bodies
  top_is = ap (λ (s : BodyList). s.bodies) top

  here : FreedSome t all (body ∷ now.bodies) p r
  here = subst (λ (l : List Stored). FreedSome t all l p r) top_is so_far

  pub can_free_top : CanFree t body r
  can_free_top = can_free_next body here

  pub freed_top : (s : PassView) → Freed t body r s → FreedSome t all now.bodies p s
  freed_top s freed = freed_more body here s freed

  pub same_room : (room : ℕ) → now.spare ≡ stack.spare + 1 → stack.spare + length stack.bodies ≡ room → now.spare + length now.bodies ≡ room
  same_room room one so_far_room = let long : length stack.bodies ≡ suc (length now.bodies) = ap length top_is in omega (arith, long, one, so_far_room)

  pub fewer_left : length now.bodies < length stack.bodies
  fewer_left = let long : length stack.bodies ≡ suc (length now.bodies) = ap length top_is in omega (arith, long)

pub none_left : {stack now : BodyList} {room : ℕ} → stack.bodies ≡ [] → now ≡ stack → stack.spare + length stack.bodies ≡ room → now ≡ record { bodies = []; spare = room }
none_left {stack} {now} {room} none same so_far =
    let all : stack.spare ≡ room = (let long : length stack.bodies ≡ 0 = ap length none in omega (arith, long, so_far)) in
    same ∙ (λ i. record { bodies = none i; spare = all i })
