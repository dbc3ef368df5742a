-- The entries of a batch write have their points one after another.
use Rattle.std.proofs.Common.{◌≡◌, inl, inr, ℕ, suc, ◌<◌, ◌≤◌, Bool, true, false, List, [], ◌∷◌, ◌++◌, map, Option, None, Some, refl, ap, sym, ◌∙◌, subst, ⊎_elim, arith}
use Rattle.std.specs.Prelude.{MatchOption}
use Rattle.map_types.specs.declared.attr.Shape.{Shape}
use Rattle.map_types.specs.declared.call.Verb.{Verb}
use Rattle.map_types.specs.declared.refusal.Errno.{Errno}
use Rattle.map_types.specs.declared.reply.Reply.{Reply}
use Rattle.map_types.specs.declared.reply.Reply.TheVariants.{Count}
use Rattle.place_words.specs.declared.history.LockHistory.{LockHistory}
use Rattle.place_words.specs.Interleaving.{Drawn, tickets_of, turn_of}
use Rattle.place_words.specs.Tickets.{AscendIn}
use Rattle.place_words.specs.Turns.{Turn, TurnAt, turns_of}
use Rattle.place_words.specs.Walks.{refused_with, spare_left, Writes}
use Rattle.turn_order.proofs.InOrder.{ticket_from}
use Rattle.turn_order.proofs.Members.{IsAmong, among_back, among_front, append_among, contains_among, map_among}
use Rattle.step_check.proofs.PlacedTurns.{at_of}
use Rattle.one_map.specs.Answers.{AreAnswered, HasNoTurn, HasNoTurnFrom, HasPoint, IsAnsweredFrom}
use Rattle.one_map.specs.CallTurns.{is_on_keys}
use Rattle.one_map.specs.Laws.{IsOneMap}
use Rattle.one_map.proofs.Asides.{AreAside, HaveOne, aside_among, clash, same_one, turn_among}
use Rattle.one_map.proofs.KeyPoints.{IsAnsweredBy, Made, key_answered}

-- Turns whose tickets rise

abbrev pub Rises : List Drawn → Type 0
Rises [] = Unit {0}
Rises (x ∷ xs) = ((y : Drawn) → IsAmong y xs → x.entry.ticket < y.entry.ticket) × Rises xs

pub rises_of : (from : ℕ) (xs : List Drawn) (to : ℕ) → AscendIn from (tickets_of xs) to → Rises xs
rises_of from [] to ascend = tt
rises_of from (x ∷ xs) to ascend =
    (λ y there. let above = ticket_from (suc x.entry.ticket) xs to y ascend.1 there in omega (arith, above), rises_of (suc x.entry.ticket) xs to ascend.1)

pub rises_later : (first later : List Drawn) → Rises (first ++ later) → Rises later
rises_later [] later rise = rise
rises_later (x ∷ first) later rise = rises_later first later rise.1

pub rises_first : (first later : List Drawn) → Rises (first ++ later) → Rises first
rises_first [] later rise = tt
rises_first (x ∷ first) later rise = (λ y there. rise.0 y (among_front y first later there), rises_first first later rise.1)

rises_between : (first later : List Drawn) → Rises (first ++ later) → (x y : Drawn) → IsAmong x first → IsAmong y later → x.entry.ticket < y.entry.ticket
rises_between [] later rise x y one two = absurd one
rises_between (z ∷ first) later rise x y (inl same) two = subst (λ (d : Drawn). d.entry.ticket < y.entry.ticket) same (rise.0 y (among_back y first later two))
rises_between (z ∷ first) later rise x y (inr one) two = rises_between first later rise.1 x y one two

-- Parts of a list

head_or : TurnAt → List TurnAt → TurnAt
head_or at [] = at
head_or at (other ∷ rest) = other

tail_of : List TurnAt → List TurnAt
tail_of [] = []
tail_of (at ∷ rest) = rest

record Parted (histories : List LockHistory) (mine : List Drawn) (one rest : List TurnAt) : Type 0 where
  first : List Drawn
  later : List Drawn
  mine_is : mine ≡ first ++ later
  first_is : map (at_of histories) first ≡ one
  later_is : map (at_of histories) later ≡ rest

parted : (histories : List LockHistory) (mine : List Drawn) (one rest : List TurnAt) → map (at_of histories) mine ≡ one ++ rest → Parted histories mine one rest
unfolding tail_of head_or
parted histories mine [] rest is = record { first = []; later = mine; mine_is = refl; first_is = refl; later_is = is }
parted histories [] (at ∷ one) rest is = absurd cc
parted histories (x ∷ mine) (at ∷ one) rest is =
    let more : Parted histories mine one rest = parted histories mine one rest (ap tail_of is) in
    record {
      first = x ∷ more.first;
      later = more.later;
      mine_is = ap (λ (l : List Drawn). x ∷ l) more.mine_is;
      first_is = (λ i. head_or at (is i) ∷ more.first_is i);
      later_is = more.later_is;
    }

nothing : (histories : List LockHistory) (mine : List Drawn) → map (at_of histories) mine ≡ [] → (x : Drawn) → IsAmong x mine → ⊥
nothing histories [] none x there = there
nothing histories (y ∷ mine) none x there = absurd cc

module _ (shape : Shape) (histories : List LockHistory) (turns : List Drawn) (whole : IsOneMap shape turns) (number cpu : ℕ) where
  -- the turns of a call from a ticket on
  pub record AreLeft (least : ℕ) (mine : List Drawn) : Type 0 where
    pub stand : (x : Drawn) → IsAmong x mine → IsAmong x turns
    pub call_is : (x : Drawn) → IsAmong x mine → x.entry.call ≡ number
    pub cpu_is : (x : Drawn) → IsAmong x mine → x.entry.cpu ≡ cpu
    pub from : (x : Drawn) → IsAmong x mine → least ≤ x.entry.ticket
    pub every : (x : Drawn) → IsAmong x turns → x.entry.call ≡ number → is_on_keys x.entry.part ≡ true → least ≤ x.entry.ticket → IsAmong x mine
    pub rise : Rises mine

  none_left : (least : ℕ) (mine : List Drawn) → AreLeft least mine → map (at_of histories) mine ≡ [] → HasNoTurnFrom turns number least
  none_left least mine left none other there call_is low = by (is_on_keys other.entry.part) refl
    where
      by : (b : Bool) → is_on_keys other.entry.part ≡ b → is_on_keys other.entry.part ≡ false
      by true is = absurd (nothing histories mine none other (left.every other (contains_among other turns there) call_is is low))
      by false is = is

  pub no_turn : (mine : List Drawn) → AreLeft 0 mine → map (at_of histories) mine ≡ [] → HasNoTurn turns number
  no_turn mine left none other there call_is = none_left 0 mine left none other there call_is (omega arith)

  -- One entry, whose turns stand first
  module _ (least : ℕ) (mine first later : List Drawn) (mine_is : mine ≡ first ++ later) (left : AreLeft least mine) (its : List TurnAt) (first_is : map (at_of histories) first ≡ its) where
    at_front : (x : Drawn) → IsAmong x first → IsAmong x mine
    at_front x there = subst (λ (l : List Drawn). IsAmong x l) (sym mine_is) (among_front x first later there)

    at_back : (x : Drawn) → IsAmong x later → IsAmong x mine
    at_back x there = subst (λ (l : List Drawn). IsAmong x l) (sym mine_is) (among_back x first later there)

    all_rise : Rises (first ++ later)
    all_rise = subst (λ (l : List Drawn). Rises l) mine_is left.rise

    pub made_first : (turn : Turn) → IsAmong turn (turns_of its) → Made shape turns whole number cpu (λ (d : Drawn). IsAmong d first) turn
    made_first turn there =
        let one = map_among (λ (at : TurnAt). at.turn) turn its there in
        let drawn = map_among (at_of histories) one.0 first (subst (λ (l : List TurnAt). IsAmong one.0 l) (sym first_is) one.1) in (
          record {
            drawn = drawn.0;
            stands = left.stand drawn.0 (at_front drawn.0 drawn.1);
            turn_is = ap (λ (t : TurnAt). t.turn) drawn.2 ∙ one.2;
            call_is = left.call_is drawn.0 (at_front drawn.0 drawn.1);
            cpu_is = left.cpu_is drawn.0 (at_front drawn.0 drawn.1);
          },
          drawn.1,
        )

    left_behind : (next : ℕ) → ((x : Drawn) → IsAmong x later → next ≤ x.entry.ticket)
        → ((x : Drawn) → IsAmong x turns → x.entry.call ≡ number → is_on_keys x.entry.part ≡ true → next ≤ x.entry.ticket → IsAmong x later) → AreLeft next later
    left_behind next low each = record {
      stand = λ x there. left.stand x (at_back x there);
      call_is = λ x there. left.call_is x (at_back x there);
      cpu_is = λ x there. left.cpu_is x (at_back x there);
      from = low;
      every = each;
      rise = rises_later first later all_rise;
    }

    placed : (x : Drawn) → IsAmong x turns → x.entry.call ≡ number → is_on_keys x.entry.part ≡ true → least ≤ x.entry.ticket → {P : Type 0} → (IsAmong x first → P) → (IsAmong x later → P) → P
    placed x there call_is on low {P} here behind =
        ⊎_elim (λ (one : IsAmong x first). here one) (λ (two : IsAmong x later). behind two)
        (append_among x first later (subst (λ (l : List Drawn). IsAmong x l) mine_is (left.every x there call_is on low)))

    pub entry_answered : (verb : Verb) (answer : Reply) → IsAnsweredBy shape turns whole number cpu (λ (d : Drawn). IsAmong d first) verb answer (turns_of its)
        → (next : ℕ) × IsAnsweredFrom shape turns number cpu least next verb answer × AreLeft next later
    entry_answered verb answer (inl unseen) = (
      least,
      inl (unseen.0, refl),
      left_behind least (λ x there. left.from x (at_back x there)) (λ x there call_is on low.
          placed x there call_is on low
          (λ here. clash (is_on_keys x.entry.part) on
          (aside_among (turns_of (map (at_of histories) first)) (subst (λ (l : List TurnAt). AreAside (turns_of l)) (sym first_is) unseen.1) (turn_of x) (turn_among histories x first here)))
          (λ behind. behind)),
    )
    entry_answered verb answer (inr answered) =
        let point : HasPoint shape turns number cpu verb answer = answered.0.0 in
        let inside : IsAmong point.drawn first = answered.0.1 in
        let one : HaveOne (turns_of (map (at_of histories) first)) = subst (λ (l : List TurnAt). HaveOne (turns_of l)) (sym first_is) answered.1 in
        let least_is : least ≤ point.drawn.entry.ticket = left.from point.drawn (at_front point.drawn inside) in (
          suc point.drawn.entry.ticket,
          inr (
            point,
            least_is,
            refl,
            λ other there call_is on low high.
                placed other (contains_among other turns there) call_is on low
                (λ here. same_one histories first one other point.drawn here inside on point.on_keys)
                (λ behind. let above = rises_between first later all_rise point.drawn other inside behind in absurd (omega (arith, above, high))),
          ),
          left_behind (suc point.drawn.entry.ticket)
              (λ x there. let above = rises_between first later all_rise point.drawn x inside there in omega (arith, above))
              (λ x there call_is on low.
              placed x there call_is on (omega (arith, least_is, low))
              (λ here.
              let same = same_one histories first one x point.drawn here inside on point.on_keys in
              absurd (omega (arith, low, ap (λ (d : Drawn). d.entry.ticket) same)))
              (λ behind. behind)),
        )

  pub writes_answered : (spare : Option ℕ) (entries : List Verb) (done : ℕ) (its : List TurnAt) (reply : Reply) → Writes shape cpu spare entries done its reply → (least : ℕ) (mine : List Drawn) → map (at_of histories) mine ≡ its → AreLeft least mine
      → AreAnswered shape turns number cpu least entries done reply
  writes_answered spare [] done its reply writes least mine are left = (writes.1, none_left least mine left (are ∙ writes.0))
  writes_answered spare (entry ∷ entries) done its reply writes least mine are left =
      let part : Parted histories mine writes.1 writes.2 = parted histories mine writes.1 writes.2 (are ∙ writes.3.0) in
      let one = entry_answered least mine part.first part.later part.mine_is left writes.1 part.first_is entry writes.0
      (key_answered shape turns whole number cpu (λ (d : Drawn). IsAmong d part.first) spare entry writes.1 writes.0 writes.3.1 (made_first least mine part.first part.later part.mine_is left writes.1 part.first_is)) in (
        writes.0,
        one.0,
        one.1,
        by (refused_with writes.0)
            (λ more. writes_answered (spare_left shape spare writes.1) entries (suc done) writes.2 reply more one.0 part.later part.later_is one.2)
            (λ none. none_left one.0 part.later one.2 (part.later_is ∙ none)) writes.3.2,
      )
    where
      by : (refused : Option Errno) {P Q N : Type 0} → (P → Q) → (writes.2 ≡ [] → N) → MatchOption refused P (λ errno. (writes.2 ≡ []) × (reply ≡ Count (Some errno) done))
          → MatchOption refused Q (λ errno. (reply ≡ Count (Some errno) done) × N)
      by None go stop may = go may
      by (Some errno) go stop may = (may.1, stop may.0)
