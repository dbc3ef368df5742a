-- What a pass tells of its steps on words is so, and what the rule refuses: a step on a word that leaves it otherwise than the
-- step tells, and a word read otherwise than it is.
use Rattle.std.proofs.Common.{◌≡◌, ◌≢◌, ℕ, ◌+◌, ◌<◌, ◌⊎◌, inl, inr, ⊎_elim, cond, true, List, [], ◌∷◌, ◌++◌, length, take, get_or, set, sym, refl, ap, ◌∙◌, subst, arith, Some, None, get_or-set_same, get_or-set_other}
use mathlib.Core.Option.{some, some-injective}
use lib.ListN.{get_elem?}
use Rattle.atomic_table.specs.Table.{State, Allows, Act, stepped}
use Rattle.atomic_table.proofs.Lists.{at_set, set_here, set_else}
use Rattle.map_types.specs.declared.attr.Shape.{Shape}
use Rattle.map_types.specs.declared.kind.DomainId.TheVariants.{Local}
use Rattle.map_types.specs.ElementLists.{one}
use Rattle.map_types.proofs.RowLemmas.{by_test}
use Rattle.place_words.specs.declared.history.Entry.{Entry}
use Rattle.place_words.specs.declared.history.StrandStep.{StrandStep}
use Rattle.place_words.specs.declared.home.Home.TheVariants as homes
use Rattle.place_words.specs.declared.owner.Owner.TheVariants as owners
use Rattle.place_words.specs.Codes.{home_code}
use Rattle.place_words.specs.Locks.{is_lock, lock_number}
use Rattle.place_words.proofs.LockLemmas.{number_within}
use Rattle.place_table.specs.declared.content.Behind.{Behind}
use Rattle.place_table.specs.declared.view.View.{View}
use Rattle.place_table.specs.declared.view.Ticket.TheVariants.{Drawn}
use Rattle.place_table.specs.declared.view.Ended.{Ended}
use Rattle.place_table.specs.declared.view.WordStep.{WordStep}
use Rattle.place_table.specs.Views.{is_among, ticket_drawn, marked, cleared, bit_read, owner_read, home_read}
use Rattle.place_table.specs.Words.{word_count, owner_word, home_word, bit_word, ticket_word, opening_words}
use Rattle.place_table.specs.Refusals.{IsToldTrue}
use Rattle.place_table.specs.Rules.{World, Rule, ArePast, givers, logs_of, AreReadingsCounted}
use Rattle.place_table.specs.Plays.{Seated, GivesBack, DrawsTicket, Marks, Clears, SeesBit}
use Rattle.place_table.proofs.Locks.{there, seat_at}
use Rattle.place_table.proofs.StepOrder.{Has, HasBy, steps_of, has_last, has_first, has_split, touches_by, by_touches, by_steps, some_by, strand_by, one_strand_by, Ascend, ascends, before_last, order_is, number_is, lead_last}
use Rattle.place_table.proofs.Worlds.{true_false}
use Rattle.place_table.proofs.Counted.{gives_before, strands_long, home_last}
use Rattle.std.specs.Prelude.{IsTrue}

abbrev get_or_in : List ℕ → ℕ → ℕ
get_or_in words i = get_or words i 0

zero_one : (m : ℕ) → m ≡ 0 → m ≡ 1 → ⊥
zero_one m a b = omega arith

-- Steps of the strands of a pass

abbrev HasEnded : WordStep → List Ended → Type 0
HasEnded x [] = ⊥
HasEnded x (e ∷ es) = Has x e.touched ⊎ HasEnded x es

abbrev HasMade : WordStep → View → Type 0
HasMade x v = Has x v.touched ⊎ HasEnded x v.ended

-- a strand that has ended, and has made the step
record MadeBefore (w : World) (pass : ℕ) (ts : List ℕ) (x : WordStep) : Type 0 where
  strand : ℕ
  by : HasBy strand x w.touches
  past : is_among strand ts ≡ true
  pass_of_strand : w.pass_of_strand strand ≡ pass

past_made : (shape : Shape) (w : World) (pass : ℕ) (ts : List ℕ) (es : List Ended) (x : WordStep) → ArePast shape w pass ts es → HasEnded x es → MadeBefore w pass ts x
past_made shape w pass [] [] x past has = absurd has
past_made shape w pass [] (e ∷ es) x past has = absurd past
past_made shape w pass (t ∷ ts) [] x past has = absurd past
past_made shape w pass (t ∷ ts) (e ∷ es) x past has =
    ⊎_elim
    (λ (here : Has x e.touched). record {
      strand = t;
      by = touches_by t w.touches x (subst (Has x) past.0.touched_are here);
      past = by_test t t (λ b. cond b true (is_among t ts) ≡ true) (λ _. refl) (λ n. absurd (n refl));
      pass_of_strand = past.0.pass_of_strand;
    })
    (λ (later : HasEnded x es). let found = past_made shape w pass ts es x past.2 later in record {
      strand = found.strand;
      by = found.by;
      past = by_test t found.strand (λ b. cond b true (is_among found.strand ts) ≡ true) (λ _. refl) (λ _. found.past);
      pass_of_strand = found.pass_of_strand;
    })
    has

past_has : (shape : Shape) (w : World) (pass t : ℕ) (ts : List ℕ) (es : List Ended) (x : WordStep) → ArePast shape w pass ts es → is_among t ts ≡ true → HasBy t x w.touches → HasEnded x es
past_has shape w pass t [] [] x past among by = true_false (sym among)
past_has shape w pass t [] (e ∷ es) x past among by = absurd past
past_has shape w pass t (u ∷ ts) [] x past among by = absurd past
past_has shape w pass t (u ∷ ts) (e ∷ es) x past among by =
    by_test u t (λ b. cond b true (is_among t ts) ≡ true → HasEnded x (e ∷ es))
    (λ same _. inl (subst (Has x) (sym past.0.touched_are) (by_touches u w.touches x (subst (λ (z : ℕ). HasBy z x w.touches) (sym same) by))))
    (λ _ later. inr (past_has shape w pass t ts es x past.2 later by)) among

-- a pass that is there, one of whose strands has made the step
record Maker (s : State Behind View) (x : WordStep) : Type 0 where
  pass : ℕ
  view : View
  seated : get_elem? s.views pass ≡ some view
  made : HasMade x view

module _ (shape : Shape) (s : State Behind View) (r : Rule shape s) (x : WordStep) where
  maker : Has x (steps_of r.world.touches) → Maker s x
  maker has =
      let w = r.world in
      let by = some_by w.touches x has in
      let of = strand_by w (length s.views) by.0 w.touches x r.of_strands by.1 in
      let j : ℕ = w.pass_of_strand by.0 in let at = seat_at s.views j of.seated in let kn = r.knows j at.0 at.1 in
      record {
        pass = j;
        view = at.0;
        seated = at.1;
        made = by_test (w.current j) by.0 (λ b. cond b true (is_among by.0 (w.past j)) ≡ true → HasMade x at.0)
            (λ same _. inl (subst (Has x) (sym kn.strand.touched_are) (by_touches (w.current j) w.touches x (subst (λ (z : ℕ). HasBy z x w.touches) (sym same) by.1))))
            (λ _ among. inr (past_has shape w j by.0 (w.past j) at.0.ended x kn.past among by.1)) of.listed;
      }

  -- by the current strand of a pass, or by one that has ended
  by_current : (j : ℕ) (v : View) → get_elem? s.views j ≡ some v → Has x v.touched → HasBy (r.world.current j) x r.world.touches
  by_current j v at has = touches_by (r.world.current j) r.world.touches x (subst (Has x) (r.knows j v at).strand.touched_are has)

  by_ended : (j : ℕ) (v : View) → get_elem? s.views j ≡ some v → HasEnded x v.ended → MadeBefore r.world j (r.world.past j) x
  by_ended j v at has = past_made shape r.world j (r.world.past j) v.ended x (r.knows j v at).past has

  among_all : (j : ℕ) (v : View) → get_elem? s.views j ≡ some v → HasMade x v → Has x (steps_of r.world.touches)
  among_all j v at made =
      ⊎_elim
      (λ (now : Has x v.touched). by_steps (r.world.current j) r.world.touches x (by_current j v at now))
      (λ (before : HasEnded x v.ended). let found = by_ended j v at before in by_steps found.strand r.world.touches x found.by)
      made

-- The pass has one step more, the other passes have the same
module _ (shape : Shape) (s : State Behind View) (r : Rule shape s) (pass : ℕ) (v u : View) (at_pass : get_elem? s.views pass ≡ some v) (after : State Behind View) (r' : Rule shape after) (views_are : after.views ≡ set s.views pass u) (x : WordStep) (more : u.touched ≡ v.touched ++ x ∷ []) (same : u.ended ≡ v.ended) where
  here_then : get_elem? after.views pass ≡ some u
  here_then = ap (λ (l : List View). get_elem? l pass) views_are ∙ set_here s.views pass u (there s.views pass v at_pass)

  else_then : (j : ℕ) (o : View) → j ≢ pass → get_elem? s.views j ≡ some o → get_elem? after.views j ≡ some o
  else_then j o other at = ap (λ (l : List View). get_elem? l j) views_are ∙ (set_else s.views pass j u other ∙ at)

  -- what was made is there still
  on : (y : WordStep) → Has y (steps_of r.world.touches) → Has y (steps_of r'.world.touches)
  on y has =
      let m = maker shape s r y has in
      by_test m.pass pass (λ _. Has y (steps_of r'.world.touches))
      (λ is.
      let is_view : m.view ≡ v = some-injective m.view v (sym m.seated ∙ (ap (get_elem? s.views) is ∙ at_pass)) in
      among_all shape after r' y pass u here_then
      (⊎_elim
      (λ (now : Has y v.touched). inl (subst (Has y) (sym more) (has_first v.touched x y now)))
      (λ (before : HasEnded y v.ended). inr (subst (HasEnded y) (sym same) before))
      (subst (HasMade y) is_view m.made)))
      (λ other. among_all shape after r' y m.pass m.view (else_then m.pass m.view other m.seated) m.made)

  -- and nothing else but the step
  back : (y : WordStep) → Has y (steps_of r'.world.touches) → Has y (steps_of r.world.touches) ⊎ (y ≡ x)
  back y has =
      let m = maker shape after r' y has in
      ⊎_elim
      (λ t. ⊎_elim
      (λ (now : Has y u.touched). ⊎_elim
      (λ (old : Has y v.touched). inl (among_all shape s r y pass v at_pass (inl old)))
      (λ (is : y ≡ x). inr is)
      (has_split v.touched x y (subst (Has y) more now)))
      (λ (before : HasEnded y u.ended). inl (among_all shape s r y pass v at_pass (inr (subst (HasEnded y) same before))))
      (subst (HasMade y) (sym t.1) m.made))
      (λ t. inl (among_all shape s r y m.pass m.view t.1 m.made))
      (at_set s.views pass m.pass u m.view (sym (ap (λ (l : List View). get_elem? l m.pass) views_are) ∙ m.seated))

  by_it : HasBy (r'.world.current pass) x r'.world.touches
  by_it = by_current shape after r' x pass u here_then (subst (Has x) (sym more) (has_last v.touched x))

  -- the step wasn't there before
  none : Has x (steps_of r.world.touches) → ⊥
  none has =
      let w = r'.world in let kn = r'.knows pass u here_then in
      let m = maker shape s r x has in
      by_test m.pass pass (λ _. ⊥)
      (λ is.
      let is_view : m.view ≡ v = some-injective m.view v (sym m.seated ∙ (ap (get_elem? s.views) is ∙ at_pass)) in
      ⊎_elim
      (λ (now : Has x v.touched).
      let before = before_last 0 v.touched x x (subst (Ascend 0) (sym kn.strand.touched_are ∙ more) (ascends (w.current pass) 0 0 w.touches (omega arith) r'.in_time)) now in
      let low : x.at < x.at = before in omega arith)
      (λ (ended : HasEnded x v.ended).
      let found = by_ended shape after r' x pass u here_then (subst (HasEnded x) (sym same) ended) in
      let one = one_strand_by 0 w.touches found.strand (w.current pass) x r'.in_time found.by by_it in
      true_false (sym (ap (λ (z : ℕ). is_among z (w.past pass)) (sym one) ∙ found.past) ∙ kn.apart))
      (subst (HasMade x) is_view m.made))
      (λ other.
      let at = else_then m.pass m.view other m.seated in
      ⊎_elim
      (λ (now : Has x m.view.touched).
      let one = one_strand_by 0 w.touches (w.current m.pass) (w.current pass) x r'.in_time (by_current shape after r' x m.pass m.view at now) by_it in
      other (sym (r'.knows m.pass m.view at).strand.pass_of_strand ∙ (ap w.pass_of_strand one ∙ kn.strand.pass_of_strand)))
      (λ (ended : HasEnded x m.view.ended).
      let found = by_ended shape after r' x m.pass m.view at ended in
      let one = one_strand_by 0 w.touches found.strand (w.current pass) x r'.in_time found.by by_it in
      other (sym found.pass_of_strand ∙ (ap w.pass_of_strand one ∙ kn.strand.pass_of_strand)))
      m.made)

  one_more : steps_of r'.world.touches ≡ steps_of r.world.touches ++ x ∷ []
  one_more = order_is 0 r.world.touches r'.world.touches x r.in_time r'.in_time on back (by_steps (r'.world.current pass) r'.world.touches x by_it) none

  told : x.word < word_count shape → IsToldTrue s.words after.words (length r.world.touches) x
  told real =
      let led = lead_last x.word (get_or (opening_words shape) x.word 0) (get_or s.words x.word 0) (get_or after.words x.word 0) r.world.touches r'.world.touches x refl one_more (r.lead x.word real) (r'.lead x.word real) in
      let number = number_is 0 r.world.touches r'.world.touches x r'.in_time one_more in
      record { saw = led.0; left = led.1; numbered = omega (arith, number) }

pub tells_true : (shape : Shape) (s : State Behind View) (pass i n : ℕ) (v u : View) (cs : List (ℕ × Behind)) (a : Act Behind) (x : WordStep) (r : Rule shape s) → get_elem? s.views pass ≡ some v → Rule shape (stepped s i n pass cs u a)
    → x.word < word_count shape → u.touched ≡ v.touched ++ x ∷ [] → u.ended ≡ v.ended → IsToldTrue s.words (set s.words i n) (length r.world.touches) x
tells_true shape s pass i n v u cs a x r at_pass r' real more same = told shape s r pass v u at_pass (stepped s i n pass cs u a) r' refl x more same real

-- A home that is told to be local lists is told with the number of turns that their lock had then.
pub tells_turns : (shape : Shape) (s : State Behind View) (pass i n : ℕ) (v : View) (cs : List (ℕ × Behind)) (a : Act Behind) (at turns e cpu : ℕ) (r : Rule shape s) → get_elem? s.views pass ≡ some v → Rule shape (stepped s i n pass cs (home_read at turns e (homes.In (Local cpu)) v) a)
    → IsTrue (is_lock shape (Local cpu)) → turns ≡ length (logs_of r.world (lock_number shape (Local cpu)))
tells_turns shape s pass i n v cs a at turns e cpu r at_pass r' is_there =
    let k : ℕ = lock_number shape (Local cpu) in
    let u : View = home_read at turns e (homes.In (Local cpu)) v in
    let x : WordStep = record { at = at; word = home_word v.shape e; seen = Some (home_code (homes.In (Local cpu))); left = home_code (homes.In (Local cpu)) } in
    let more : steps_of r'.world.touches ≡ steps_of r.world.touches ++ x ∷ [] = one_more shape s r pass v u at_pass (stepped s i n pass cs u a) r' refl x refl refl in
    let number : at ≡ length r.world.touches = (let counted = number_is 0 r.world.touches r'.world.touches x r'.in_time more in omega (arith, counted)) in
    let kn = r'.knows pass u (here_then shape s r pass v u at_pass (stepped s i n pass cs u a) r' refl x refl refl) in
    let read = home_last shape r'.world.touches v.homes_read (record { element = e; home = homes.In (Local cpu); at = at; turns = turns }) kn.homes_read in
    read.1 ∙ (ap (λ (z : ℕ). length (givers k (take z r'.world.touches))) number ∙ (gives_before k r.world.touches r'.world.touches x more
    ∙ (ap length (r.gave_back k (number_within shape (Local cpu) is_there)) ∙ strands_long (r.world.log k))))

-- and is kept so
pub keeps_turns : (shape : Shape) (s : State Behind View) (pass : ℕ) (v : View) (r : Rule shape s) → get_elem? s.views pass ≡ some v → AreReadingsCounted shape r.world.touches v.homes_read
keeps_turns shape s pass v r at_pass = (r.knows pass v at_pass).homes_read

-- A mark that stores nothing is refused: the rule doesn't allow it where the bit is 0.
pub mark_stores : (shape : Shape) (slots pass e : ℕ) (me : Seated) (s : State Behind View) → Rule shape s → length s.homes ≡ slots → get_elem? s.views pass ≡ some me.0 → e < shape.elements → get_or s.words (bit_word shape e) 0 ≡ 0
    → Allows (Rule shape) slots pass me (bit_word shape e) (λ n. n) (λ _. Marks e me) → ⊥
mark_stores shape slots pass e me s r wide seated real is allows =
    let i : ℕ = bit_word shape e in let shape_is = (r.knows pass me.0 seated).shape_is in
    let got = allows s r wide seated (omega (arith, is)) in
    let v_is : got.0 ≡ marked got.4.0 e me.0 = ap (λ (z : Seated). z.0) got.4.1 in
    let x : WordStep = record { at = got.4.0; word = bit_word me.0.shape e; seen = None; left = 1 } in
    let on : x.word ≡ i = ap (λ (z : Shape). bit_word z e) shape_is in
    let told = tells_true shape s pass i (get_or s.words i 0) me.0 got.0 me.1 got.1 x r seated got.3 (omega (arith, on)) (ap (λ (z : View). z.touched) v_is) (ap (λ (z : View). z.ended) v_is) in
    let stays = get_or-set_same s.words i (get_or s.words i 0) 0 (omega (arith, r.words)) in
    zero_one 0 refl (sym is ∙ (sym stays ∙ (ap (get_or_in (set s.words i (get_or s.words i 0))) (sym on) ∙ told.left)))

-- A clear that only loads is refused where the bit is 1.
pub clear_stores : (shape : Shape) (slots pass e : ℕ) (me : Seated) (s : State Behind View) → Rule shape s → length s.homes ≡ slots → get_elem? s.views pass ≡ some me.0 → e < shape.elements → get_or s.words (bit_word shape e) 0 ≡ 1
    → Allows (Rule shape) slots pass me (bit_word shape e) (λ n. n) (Clears e me) → ⊥
clear_stores shape slots pass e me s r wide seated real is allows =
    let i : ℕ = bit_word shape e in let shape_is = (r.knows pass me.0 seated).shape_is in
    let got = allows s r wide seated (omega (arith, is)) in
    let v_is : got.0 ≡ cleared got.4.at e got.4.bit me.0 = ap (λ (z : Seated). z.0) got.4.after_is in
    let x : WordStep = record { at = got.4.at; word = bit_word me.0.shape e; seen = Some (one got.4.bit); left = 0 } in
    let on : x.word ≡ i = ap (λ (z : Shape). bit_word z e) shape_is in
    let told = tells_true shape s pass i (get_or s.words i 0) me.0 got.0 me.1 got.1 x r seated got.3 (omega (arith, on)) (ap (λ (z : View). z.touched) v_is) (ap (λ (z : View). z.ended) v_is) in
    let stays = get_or-set_same s.words i (get_or s.words i 0) 0 (omega (arith, r.words)) in
    zero_one 0 refl (sym (sym is ∙ (sym stays ∙ (ap (get_or_in (set s.words i (get_or s.words i 0))) (sym on) ∙ told.left))))

-- The bit of another element, told as this one's, is refused where the two differ.
pub looks_there : (shape : Shape) (slots pass e d : ℕ) (me : Seated) (s : State Behind View) → Rule shape s → length s.homes ≡ slots → get_elem? s.views pass ≡ some me.0 → e < shape.elements → d < shape.elements → get_or s.words (bit_word shape d) 0 ≡ 1 → get_or s.words (bit_word shape e) 0 ≡ 0
    → Allows (Rule shape) slots pass me (bit_word shape d) (λ n. n) (SeesBit e me) → ⊥
looks_there shape slots pass e d me s r wide seated real there_too is none allows =
    let i : ℕ = bit_word shape e in let j : ℕ = bit_word shape d in let shape_is = (r.knows pass me.0 seated).shape_is in
    let got = allows s r wide seated (omega (arith, is)) in
    let v_is : got.0 ≡ bit_read got.4.at e got.4.bit me.0 = ap (λ (z : Seated). z.0) got.4.after_is in
    let x : WordStep = record { at = got.4.at; word = bit_word me.0.shape e; seen = Some (one got.4.bit); left = one got.4.bit } in
    let on : x.word ≡ i = ap (λ (z : Shape). bit_word z e) shape_is in
    let told = tells_true shape s pass j (get_or s.words j 0) me.0 got.0 me.1 got.1 x r seated got.3 (omega (arith, on)) (ap (λ (z : View). z.touched) v_is) (ap (λ (z : View). z.ended) v_is) in
    zero_one 0 refl (sym none ∙ (ap (get_or_in s.words) (sym on) ∙ (sym told.saw ∙ (sym got.4.found_is ∙ is))))

-- An owner that is told as free without a look, by a step that leaves its word, is refused where the element isn't free.
pub owner_looks : (shape : Shape) (slots pass e j : ℕ) (f : ℕ → ℕ) (me : Seated) (s : State Behind View) → Rule shape s → length s.homes ≡ slots → get_elem? s.views pass ≡ some me.0 → e < shape.elements → owner_word shape e ≢ j → get_or s.words j 0 < 18446744073709551616
    → 0 < get_or s.words (owner_word shape e) 0 → Allows (Rule shape) slots pass me j f (λ _ after. (at : ℕ) × (after ≡ (owner_read at e owners.Free me.0, me.1))) → ⊥
owner_looks shape slots pass e j f me s r wide seated real apart small taken allows =
    let i : ℕ = owner_word shape e in let shape_is = (r.knows pass me.0 seated).shape_is in
    let got = allows s r wide seated small in
    let v_is : got.0 ≡ owner_read got.4.0 e owners.Free me.0 = ap (λ (z : Seated). z.0) got.4.1 in
    let x : WordStep = record { at = got.4.0; word = owner_word me.0.shape e; seen = Some 0; left = 0 } in
    let on : x.word ≡ i = ap (λ (z : Shape). owner_word z e) shape_is in
    let told = tells_true shape s pass j (f (get_or s.words j 0)) me.0 got.0 me.1 got.1 x r seated got.3 (omega (arith, on)) (ap (λ (z : View). z.touched) v_is) (ap (λ (z : View). z.ended) v_is) in
    let none : get_or s.words i 0 ≡ 0 = ap (get_or_in s.words) (sym on) ∙ sym told.saw in
    omega (arith, none, taken)

-- A draw that adds another number than 1 is refused.
pub draws_one : (shape : Shape) (slots pass : ℕ) (f : ℕ → ℕ) (me : Seated) (s : State Behind View) → Rule shape s → length s.homes ≡ slots → get_elem? s.views pass ≡ some me.0 → get_or s.words (ticket_word shape) 0 < 18446744073709551616
    → f (get_or s.words (ticket_word shape) 0) ≢ 1 + get_or s.words (ticket_word shape) 0 → Allows (Rule shape) slots pass me (ticket_word shape) f (DrawsTicket me) → ⊥
draws_one shape slots pass f me s r wide seated small other allows =
    let i : ℕ = ticket_word shape in let n : ℕ = get_or s.words i 0 in let shape_is = (r.knows pass me.0 seated).shape_is in
    let got = allows s r wide seated small in
    let v_is : got.0 ≡ ticket_drawn got.4.at n me.0 = ap (λ (z : Seated). z.0) got.4.after_is in
    let x : WordStep = record { at = got.4.at; word = ticket_word me.0.shape; seen = Some n; left = 1 + n } in
    let on : x.word ≡ i = ap ticket_word shape_is in
    let told = tells_true shape s pass i (f n) me.0 got.0 me.1 got.1 x r seated got.3 (omega (arith, on)) (ap (λ (z : View). z.touched) v_is) (ap (λ (z : View). z.ended) v_is) in
    let stays = get_or-set_same s.words i (f n) 0 (omega (arith, r.words)) in
    other (sym stays ∙ (ap (get_or_in (set s.words i (f n))) (sym on) ∙ told.left))

-- So is one from another word: the ticket word would be one more than it is.
pub draws_there : (shape : Shape) (slots pass i : ℕ) (f : ℕ → ℕ) (me : Seated) (s : State Behind View) → Rule shape s → length s.homes ≡ slots → get_elem? s.views pass ≡ some me.0 → ticket_word shape ≢ i → get_or s.words i 0 < 18446744073709551616
    → Allows (Rule shape) slots pass me i f (DrawsTicket me) → ⊥
draws_there shape slots pass i f me s r wide seated apart small allows =
    let j : ℕ = ticket_word shape in let n : ℕ = get_or s.words i 0 in let shape_is = (r.knows pass me.0 seated).shape_is in
    let got = allows s r wide seated small in
    let v_is : got.0 ≡ ticket_drawn got.4.at n me.0 = ap (λ (z : Seated). z.0) got.4.after_is in
    let x : WordStep = record { at = got.4.at; word = ticket_word me.0.shape; seen = Some n; left = 1 + n } in
    let on : x.word ≡ j = ap ticket_word shape_is in
    let told = tells_true shape s pass i (f n) me.0 got.0 me.1 got.1 x r seated got.3 (omega (arith, on)) (ap (λ (z : View). z.touched) v_is) (ap (λ (z : View). z.ended) v_is) in
    let stays = get_or-set_other s.words i j (f n) 0 (λ z. apart z) in
    let was : n ≡ get_or s.words j 0 = told.saw ∙ ap (get_or_in s.words) on in
    let now : get_or s.words j 0 ≡ 1 + n = sym stays ∙ (ap (get_or_in (set s.words i (f n))) (sym on) ∙ told.left) in
    omega (arith, was, now)

-- A turn that is recorded with another ticket than the one drawn is refused.
pub gives_drawn : (shape : Shape) (slots pass i : ℕ) (f : ℕ → ℕ) (me : Seated) (entry : Entry) (kept : List StrandStep) (s : State Behind View) → Rule shape s → length s.homes ≡ slots → get_elem? s.views pass ≡ some me.0
    → get_or s.words i 0 < 18446744073709551616 → kept ≢ me.0.kept → me.0.ticket ≢ Drawn entry.ticket → Allows (Rule shape) slots pass me i f (λ _. GivesBack entry kept me) → ⊥
gives_drawn shape slots pass i f me entry kept s r wide seated small more other allows = ⊎_elim more other (allows s r wide seated small).4.ticket_is
