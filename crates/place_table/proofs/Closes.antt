-- The last state of a table whose one pass has all CPUs and holds no lock.
use Rattle.std.proofs.Common.{◌≡◌, ◌≢◌, ℕ, ◌<◌, ◌^◌, cond, Bool, true, false, List, [], ◌∷◌, length, sym, refl, ap, ◌∙◌, subst, Option, Some, None, get_or, ◌≤◌, arith}
use Rattle.std.specs.Prelude.{◌||◌, IsTrue, All, slice_get, unwrap_or, Result, Ok, Err, IfOk}
use mathlib.Core.Option.{some}
use lib.ListN.{get_elem?}
use Rattle.atomic_table.specs.Table.{State, Final, Seen}
use Rattle.map_types.specs.declared.attr.Shape.{Shape}
use Rattle.map_types.specs.Creation.{IsShape}
use Rattle.map_types.specs.declared.kind.DomainId.{DomainId}
use Rattle.map_types.specs.declared.kind.DomainId.TheVariants as named
use Rattle.map_types.specs.Stored.{Stored, IsSized}
use Rattle.map_types.proofs.CreationLemmas.{bounds_of_shape}
use Rattle.map_types.proofs.RowLemmas.{by_test}
use Rattle.place_words.specs.declared.history.Entry.{Entry}
use Rattle.place_words.specs.declared.history.Strand.{Strand}
use Rattle.place_words.specs.Histories as histories
use Rattle.place_words.specs.Histories.{bucket_in, content, IsLegal}
use Rattle.place_words.specs.Locks.{is_lock, lock_named, lock_number, lock_count}
use Rattle.place_words.specs.Logs.{bucket_at}
use Rattle.place_words.specs.Strands.{places_on, AreSharedOut}
use Rattle.place_words.proofs.LockLemmas.{named_by_number, number_within}
use Rattle.place_words.specs.State as cores
use Rattle.place_words.specs.Places.{Placed}
use Rattle.place_table.specs.declared.content.Behind.{Behind}
use Rattle.place_table.specs.declared.content.Content.{Content}
use Rattle.place_table.specs.declared.content.Content.TheVariants as lying
use Rattle.place_table.specs.declared.view.View.{View}
use Rattle.place_table.specs.declared.view.Ended.{Ended}
use Rattle.place_table.specs.Contents.{content_told, lists_of, FitsLock}
use Rattle.place_table.specs.Views.{is_among, hold_at, is_in_hand_of, known_log, bit_seen, current_strand, all_strands, next}
use Rattle.place_table.specs.Words.{ticket_word}
use Rattle.owner_words.specs.Owners.{OwnersTold}
use Rattle.place_table.specs.Tickets.{NoneLost, turn_tickets}
use Rattle.place_table.proofs.TicketLemmas.{each_append, each_to, exact_there, first_there, inner_there}
use Rattle.place_table.specs.Nested.{EachNested}
use Rattle.place_table.proofs.Nesting.{each_nested_on, nested_at}
use Rattle.place_table.proofs.TicketsShared.{idle_reached, all_nested}
use Rattle.place_words.proofs.Ascending.{ascend_to}
use Rattle.place_table.proofs.TicketsClosed as tickets_closed
use Rattle.place_table.specs.Rules.{World, Rule, PassKnows, entries, hold_of, is_hand_of, turns_on, turns_of, indexes, StandIn, ArePast, HaveNoSteps, touches_of, IsOfStrand, AreReads, logs_of, marks_under, IsMarked}
use Rattle.place_table.specs.Passes.{PassView, HasCpusOf, HandsReal, IsInNoCall, spare_of}
use Rattle.place_table.specs.Closing.{ClosedView, AreSlots, has_lock, strands_told, state_left, AreTurnsOf, IsClosed, AreTouchesOf, AreWordsOf, HaveTickets}
use Rattle.place_table.specs.Elements.{HoldsEachOnce}
use Rattle.place_words.specs.Real.{IsAlwaysReal}
use Rattle.place_table.specs.Leaving.{WasLeft}
use Rattle.place_table.proofs.Worlds.{true_false, none_some, hold_of_mine, has_mine, own_hand, by_bool}
use Rattle.place_table.proofs.ElementsLeft.{IsSpare, each_once}
use Rattle.place_table.proofs.Locks.{free_home, seat_at}
use Rattle.place_table.proofs.Leaves.{passes_below, any_of}
use Rattle.place_table.proofs.MapLeft.{bucket_left}
use Rattle.place_table.proofs.Parted.{all_within}
use Rattle.place_table.proofs.SharedOut.{item_there, shared_told}
use Rattle.place_table.proofs.StrandMoves.{done, past_done, among_done}
use Rattle.place_table.proofs.StrandNumbers.{tag_at, tagged_at, has_turn, strand_here, are_turns_of}
use Rattle.place_table.proofs.Touches.{are_touches_of}
use Rattle.map_types.specs.ElementLists.{IsIn}
use Rattle.map_types.specs.Kind.{is_lru}
use Rattle.place_table.specs.declared.view.Hold.{Hold}

-- what was true at the end, before anything is handed out
pub record AtEnd (shape : Shape) (v : View) (words : List ℕ) (slots : List Behind) : Type 0 where
  pub shape_is : v.shape ≡ shape
  pub is_shape : IsShape shape
  pub log : ℕ → List Entry
  pub lost : ℕ → Bool
  pub core : cores.State
  pub legal : (k : ℕ) → IsLegal shape (lock_named shape k) (log k)
  pub real : (k : ℕ) → k < lock_count shape → IsTrue (has_lock shape k) → IsAlwaysReal shape (lock_named shape k) (log k)
  pub nobody : (k : ℕ) → core.holder k ≡ None
  pub placed : Placed shape core
  pub lists_are : (k : ℕ) → k < lock_count shape → IsTrue (has_lock shape k) → core.lists k ≡ lists_of (content shape (lock_named shape k) (log k))
  pub hands : (e c : ℕ) → c < shape.cpus → is_hand_of c (core.owner e) ≡ is_in_hand_of e c v.hand
  pub known : (k : ℕ) (turns : List Entry) → known_log k v.known ≡ Some turns → log k ≡ turns
  pub bits : (e : ℕ) (bit : Bool) → bit_seen e v.bits ≡ Some bit → core.bit e ≡ bit
  pub unmarked : is_lru shape.kind ≡ false → (e : ℕ) → e < shape.elements → core.bit e ≡ false
  pub turns : (k : ℕ) → AreTurnsOf k (all_strands v) (log k)
  pub stand : (n : ℕ) (strand : Ended) → slice_get (all_strands v) n ≡ Some strand → StandIn log strand.steps
  pub nested : EachNested shape lost (all_strands v)
  pub words_told : AreWordsOf shape core words
  pub touches : AreTouchesOf shape (all_strands v) words
  pub recorded : (n : ℕ) (strand : Ended) → slice_get (all_strands v) n ≡ Some strand
      → (k : ℕ) → k < lock_count shape → IsTrue (has_lock shape k) → lost k ≡ false → places_on (lock_named shape k) strand.kept ≡ indexes (turns_on k strand.steps)
  pub drawn : ℕ
  pub drawn_is : drawn ≡ v.reached
  pub counted : drawn < 2 ^ 64
  pub ticketed : NoneLost shape lost → HaveTickets shape log (all_strands v) drawn
  pub all_drawn : NoneLost shape lost → v.refused ≡ 0
  pub owned : IsTrue (is_lru shape.kind) → NoneLost shape lost → OwnersTold shape (λ lock. log (lock_number shape lock))
  pub losses : (k : ℕ) → is_among k v.lost ≡ true → (k < lock_count shape) × IsTrue (has_lock shape k) × (lost k ≡ true)
  pub slots_are : AreSlots shape log lost slots

no_members : (xs : List ℕ) → ((c : ℕ) → is_among c xs ≡ false) → xs ≡ []
no_members [] h = refl
no_members (x ∷ xs) h = true_false (sym (by_test x x (λ b. cond b true (is_among x xs) ≡ true) (λ _. refl) (λ n. absurd (n refl))) ∙ h x)

past_empty : (shape : Shape) (w : World) (j t k : ℕ) (ts : List ℕ) (es : List Ended) → ArePast shape w j ts es → HaveNoSteps es → is_among t ts ≡ true → turns_of t 0 (w.log k) ≡ []
past_empty shape w j t k [] [] p empty h = true_false (sym h)
past_empty shape w j t k [] (e ∷ es) p empty h = absurd p
past_empty shape w j t k (u ∷ us) [] p empty h = absurd p
past_empty shape w j t k (u ∷ us) (e ∷ es) p empty h =
    by_test u t (λ b. cond b true (is_among t us) ≡ true → turns_of t 0 (w.log k) ≡ [])
    (λ same _. subst (λ (z : ℕ). turns_of z 0 (w.log k) ≡ []) same (sym (p.0.steps_are k) ∙ ap (turns_on k) empty.0.0))
    (λ _ f. past_empty shape w j t k us es p.2 empty.1 f) h

module _ (shape : Shape) (s : State Behind View) (r : Rule shape s) (pass : ℕ) (v : View) (at_pass : get_elem? s.views pass ≡ some v) (all : (c : ℕ) → c < shape.cpus → is_among c v.cpus ≡ true) (no_lock : v.held ≡ []) where
  pub nobody : (k : ℕ) → r.world.core.holder k ≡ None
  nobody k = go (r.world.core.holder k) refl
    where
      go : (h : Option ℕ) → r.world.core.holder k ≡ h → h ≡ None
      go None e = refl
      go (Some c) e =
          let w = r.world in let kn = r.knows pass v at_pass in
          let mine = has_mine shape w pass v c kn (all c (r.ranked.within c k e)) in
          absurd (none_some (sym (ap (hold_at k) no_lock) ∙ (kn.held k ∙ (ap (λ (z : Option ℕ). hold_of pass w.pass_of_cpu k z (w.log k) (w.core.lists k) (w.lost k)) e ∙ hold_of_mine w.pass_of_cpu pass k c (w.log k) (w.core.lists k) (w.lost k) mine))))

  -- so no turn is under way in which a bit was set
  not_marked : (e : ℕ) → IsMarked s.views e → ⊥
  not_marked e m = go m.view.held refl m.noted
    where
      go : (held : List Hold) → m.view.held ≡ held → IsIn e (marks_under held m.view.notes) → ⊥
      go [] is inside = let none : 0 < 0 = inside in omega arith
      go (h ∷ hs) is inside = none_some (sym (nobody h.lock) ∙ (first_there shape s r m.pass m.view m.seat h hs is).holder_is)

  -- a pass that is another has no CPU, and its strands have no turn
  other_pass : (j : ℕ) (u : View) → j ≢ pass → PassKnows shape r.world j u → u.cpus ≡ []
  other_pass j u other ku = no_members u.cpus (λ c. alone c (is_among c u.cpus) refl)
    where
      alone : (c : ℕ) (b : Bool) → is_among c u.cpus ≡ b → b ≡ false
      alone c false e = refl
      alone c true e =
          let a = has_mine shape r.world j u c ku e in
          let b = has_mine shape r.world pass v c (r.knows pass v at_pass) (all c (ku.within c e)) in
          absurd (other (sym a ∙ b))

  no_turn : (t k : ℕ) → r.world.pass_of_strand t ≢ pass → r.world.pass_of_strand t < length s.views → is_among t (r.world.current (r.world.pass_of_strand t) ∷ r.world.past (r.world.pass_of_strand t)) ≡ true → turns_of t 0 (r.world.log k) ≡ []
  no_turn t k other below among =
      let w = r.world in
      let j : ℕ = w.pass_of_strand t in
      let at = seat_at s.views j below in let u : View = at.0 in let ku = r.knows j u at.1 in
      let idle = ku.idle (other_pass j u other ku) in
      by_test (w.current j) t (λ b. cond b true (is_among t (w.past j)) ≡ true → turns_of t 0 (w.log k) ≡ [])
      (λ same _. subst (λ (z : ℕ). turns_of z 0 (w.log k) ≡ []) same (sym (ku.strand.steps_are k) ∙ ap (turns_on k) idle.0.0))
      (λ _ f. past_empty shape w j t k (w.past j) u.ended ku.past idle.1 f) among

  -- each turn is one of this pass's strands
  listed : (k place : ℕ) → place < length (entries (r.world.log k)) → is_among (tag_at (r.world.log k) place) (done r.world pass) ≡ true
  listed k place less =
      let w = r.world in
      let t : ℕ = tag_at (w.log k) place in
      let there = item_there (entries (w.log k)) place less in
      let tagged = tagged_at w (length s.views) (w.log k) place there.0 (r.tagged k) there.1 in
      by_test (w.pass_of_strand t) pass (λ _. is_among t (done w pass) ≡ true)
      (λ mine. among_done w pass t (subst (λ (z : ℕ). is_among t (w.current z ∷ w.past z) ≡ true) mine tagged.listed))
      (λ other. absurd (has_turn (w.log k) 0 place less (no_turn t k other tagged.seated tagged.listed)))

  -- and a step on a word that is none of them only read it
  past_reads : (j t : ℕ) (ts : List ℕ) (es : List Ended) → ArePast shape r.world j ts es → HaveNoSteps es → is_among t ts ≡ true → AreReads (touches_of t r.world.touches)
  past_reads j t [] [] p empty among = true_false (sym among)
  past_reads j t [] (x ∷ xs) p empty among = absurd p
  past_reads j t (u ∷ us) [] p empty among = absurd p
  past_reads j t (u ∷ us) (x ∷ xs) p empty among =
      by_test u t (λ b. cond b true (is_among t us) ≡ true → AreReads (touches_of t r.world.touches))
      (λ same _. subst (λ (z : ℕ). AreReads (touches_of z r.world.touches)) same (subst AreReads p.0.touched_are empty.0.1))
      (λ _ f. past_reads j t us xs p.2 empty.1 f) among

  only_reads : (t : ℕ) → IsOfStrand r.world (length s.views) t → is_among t (done r.world pass) ≡ false → AreReads (touches_of t r.world.touches)
  only_reads t of not_mine =
      let w = r.world in
      by_test (w.pass_of_strand t) pass (λ _. AreReads (touches_of t w.touches))
      (λ mine. true_false (sym (among_done w pass t (subst (λ (z : ℕ). is_among t (w.current z ∷ w.past z) ≡ true) mine of.listed)) ∙ not_mine))
      (λ other.
      let j : ℕ = w.pass_of_strand t in
      let at = seat_at s.views j of.seated in let u : View = at.0 in let ku = r.knows j u at.1 in
      let idle = ku.idle (other_pass j u other ku) in
      by_test (w.current j) t (λ b. cond b true (is_among t (w.past j)) ≡ true → AreReads (touches_of t w.touches))
      (λ same _. subst (λ (z : ℕ). AreReads (touches_of z w.touches)) same (subst AreReads ku.strand.touched_are idle.0.1))
      (λ _ f. past_reads j t (w.past j) u.ended ku.past idle.1 f) of.listed)

  strands : ArePast shape r.world pass (done r.world pass) (all_strands v)
  strands = let kn = r.knows pass v at_pass in past_done shape r.world pass v kn.strand kn.past kn.apart

  -- the turns of each lock are those of its strands
  pub turns_now : (k : ℕ) → AreTurnsOf k (all_strands v) (entries (r.world.log k))
  turns_now k = are_turns_of shape r.world pass (length s.views) k (done r.world pass) (all_strands v) strands (r.tagged k) (listed k)

  pub at_end : (words : List ℕ) (slots : List Behind) → s.words ≡ words → length s.homes ≡ length slots → ((k : ℕ) (b : Behind) → get_elem? s.homes k ≡ some (some b) → get_elem? slots k ≡ some b) → AtEnd shape v words slots
  at_end words slots words_are counted given_back =
      let w = r.world in let kn = r.knows pass v at_pass in record {
        shape_is = kn.shape_is;
        is_shape = r.is_shape;
        log = λ k. entries (w.log k);
        lost = w.lost;
        core = w.core;
        legal = r.legal;
        real = r.real;
        nobody = nobody;
        placed = r.placed;
        lists_are = λ k below there. (free_home shape k (w.core.holder k) (entries (w.log k)) (w.core.lists k) (w.lost k) (get_elem? s.homes k) (nobody k) (r.homes k below there)).1;
        hands = λ e c less. own_hand shape w pass v e c kn (all c less);
        known = kn.known;
        bits = kn.bits;
        words_told = subst (AreWordsOf shape w.core) words_are record { locks = r.lock_words; owners = r.owner_words; homes = r.home_words; bits = r.bit_words };
        touches = subst (AreTouchesOf shape (all_strands v)) words_are (are_touches_of shape w pass (length s.views) (done w pass) (all_strands v) s.words strands r.in_time r.of_strands r.lead only_reads);
        unmarked = λ plain e _. by_bool (w.core.bit e) (λ b. b ≡ false) (λ is_set. absurd (not_marked e (r.unmarked plain e is_set))) (λ _. refl);
        turns = turns_now;
        stand = λ n strand at_n. (strand_here shape w pass (done w pass) (all_strands v) n strand strands at_n).is.stand;
        nested = let mine = r.tickets.known pass v at_pass in all_nested shape w.lost v no_lock mine.nested mine.ended_nested;
        recorded = λ n strand at_n. (strand_here shape w pass (done w pass) (all_strands v) n strand strands at_n).is.kept_are;
        drawn = get_or s.words (ticket_word shape) 0;
        drawn_is =
            exact_there shape (get_or s.words (ticket_word shape) 0) (logs_of w) w.lost w.pass_of_cpu s.views pass v at_pass (λ c less. has_mine shape w pass v c kn (all c less)) r.tickets
            ∙ idle_reached (get_or s.words (ticket_word shape) 0) r.tickets.drawing r.tickets.stand v v.ticket no_lock (r.tickets.known pass v at_pass).ticket;
        counted = let most = r.tickets.bounded in omega arith;
        all_drawn = λ none. (r.tickets.known pass v at_pass).all_drawn none;
        owned = λ lru none. (r.owners lru none).told;
        ticketed = λ none.
            let mine = r.tickets.known pass v at_pass in
            let drawn : ℕ = get_or s.words (ticket_word shape) 0 in record {
              each_once = tickets_closed.each_once shape drawn (logs_of w) w.lost w.pass_of_cpu s.views r.tickets none
                  (λ t c out. let found = inner_there out.view.held out.inner out.inner_is in none_some (sym (nobody found.0.lock) ∙ (first_there shape s r (w.pass_of_cpu c) out.view out.seat found.0 found.1 found.2).holder_is));
              in_histories = λ k below there. r.tickets.ascend k (none k below there);
              in_strands =
                  let low : next v ≤ drawn = (let a = mine.reached in let b = mine.all_drawn none in omega arith) in
                  each_append v.ended (current_strand v ∷ []) drawn (each_to v.ended (next v) drawn low mine.ended) (ascend_to 0 (turn_tickets v.steps) (next v) drawn low mine.strand, tt);
            };
        losses = λ k among. let is = kn.losses k among in (is.below, is.there, is.lost);
        slots_are = record {
          counted = sym counted ∙ r.slots;
          each = λ k below there.
              let home = free_home shape k (w.core.holder k) (entries (w.log k)) (w.core.lists k) (w.lost k) (get_elem? s.homes k) (nobody k) (r.homes k below there) in
              (home.0.0, given_back k home.0.0 home.0.1, home.0.2);
        };
      }

pub closes : (shape : Shape) (words : List ℕ) (slots : List Behind) (pass : ℕ) (v : View) → Final (Seen (Rule shape) pass v) words slots → ((c : ℕ) → c < shape.cpus → is_among c v.cpus ≡ true) → v.held ≡ [] → AtEnd shape v words slots
closes shape words slots pass v f all no_lock = at_end shape f.0 f.1.0 pass v f.1.1 all no_lock words slots f.2 f.3 f.4

-- The whole

or_right : (x y : Bool) → y ≡ true → (x || y) ≡ true
or_right true y e = refl
or_right false y e = e

neither : (x y : Bool) → (x || y) ≡ false → (x ≡ false) × (y ≡ false)
neither true y e = true_false e
neither false y e = (refl, e)

-- the bodies of a bucket have the sizes of the map
told_sized : (shape : Shape) (bucket : ℕ) (here : Content) → FitsLock shape (named.Bucket bucket) here → All (IsSized shape) (unwrap_or (bucket_in (content_told (named.Bucket bucket) here)) [])
told_sized shape bucket (lying.Bucket chain) fits = fits
told_sized shape bucket (lying.Freelist freelist) fits = absurd fits
told_sized shape bucket (lying.Local lists) fits = absurd fits
told_sized shape bucket (lying.Set set) fits = absurd fits

bodies_sized : (shape : Shape) (v : View) (words : List ℕ) (slots : List Behind) (e : AtEnd shape v words slots) (bit : ℕ → Bool) (spares : List (Option Stored)) (bucket : ℕ) → bucket < shape.buckets
    → All (IsSized shape) (bucket_at shape (state_left shape e.log bit spares) bucket)
bodies_sized shape v words slots e bit spares bucket less =
    let lock = named.Bucket bucket in
    let k : ℕ = lock_number shape lock in
    let there = passes_below bucket shape.buckets less in
    let same : lock_named shape k ≡ lock = named_by_number shape lock there in
    let at = e.slots_are.each k (number_within shape lock there) (passes_named lock k same there) in
    subst (λ (c : histories.Content). All (IsSized shape) (unwrap_or (bucket_in c) []))
    (subst (λ (l : DomainId). content_told l at.2.here ≡ content shape l (e.log k)) same at.2.told_is)
    (told_sized shape bucket at.2.here (subst (λ (l : DomainId). FitsLock shape l at.2.here) same at.2.fits))
  where
    passes_named : (lock : DomainId) (k : ℕ) → lock_named shape k ≡ lock → is_lock shape lock ≡ true → has_lock shape k ≡ true
    passes_named lock k same there = ap (is_lock shape) same ∙ there

module _ (shape : Shape) (p : PassView) (words : List ℕ) (slots : List Behind) (closed : ClosedView) (e : AtEnd shape p.view words slots) (all : (c : ℕ) → c < shape.cpus → is_among c p.view.cpus ≡ true) (idle : IsInNoCall p)
    (hands : HandsReal shape p.view.cpus p.view.hand) (mine : HasCpusOf shape (current_strand p.view)) (within : All (HasCpusOf shape) (all_strands p.view)) (was : WasLeft shape e.log e.lost e.core.bit (all_strands p.view) p.spares closed) where
  -- what is in hand are the spares
  held_spare : (x c : ℕ) → c < shape.cpus → is_hand_of c (e.core.owner x) ≡ true → IsSpare shape p.spares x c
  held_spare x c below held =
      let kept = idle.spares_only x c (all c below) (sym (e.hands x c below) ∙ held) in
      record { body = kept.0; kept = kept.1; element = kept.2; hash = ap (λ (s : Shape). s.kind) (sym e.shape_is) ∙ kept.3 }

  spare_held : (c : ℕ) (body : Stored) → spare_of c p.spares ≡ Some body → (body.element < shape.elements) × (is_hand_of c (e.core.owner body.element) ≡ true)
  spare_held c body is =
      let here = idle.spares_in_hand c body is in
      let real = hands body.element c here in
      (real.0, e.hands body.element c (mine c real.1) ∙ here)

  each_left : HoldsEachOnce shape closed.finals
  each_left =
      subst (HoldsEachOnce shape) (sym was.left.finals_are)
      (each_once shape (bounds_of_shape shape e.is_shape) e.log e.core e.placed e.lists_are e.core.bit p.spares held_spare spare_held)

  none_lost_of : closed.lost ≡ false → NoneLost shape e.lost
  none_lost_of kept k below there =
      by_bool (e.lost k) (λ b. e.lost k ≡ b → b ≡ false)
      (λ _ is. true_false (sym (was.left.lost_is ∙ any_of shape (λ i. was.strands_lost || e.lost i) k below there (or_right was.strands_lost (e.lost k) is)) ∙ kept)) (λ _ _. refl) refl

  pub closed_is : IsClosed shape p closed
  closed_is = record {
    log = e.log;
    lost = λ k. was.strands_lost || e.lost k;
    core = e.core;
    legal = e.legal;
    real = e.real;
    nobody = e.nobody;
    placed = e.placed;
    lists_are = e.lists_are;
    hands = e.hands;
    in_hand = λ x c has. let real = hands x c has in (real.0, mine c real.1);
    sized = λ bucket less. subst (All (IsSized shape)) (sym (bucket_left was.left bucket less)) (bodies_sized shape p.view words slots e e.core.bit p.spares bucket less);
    elements = each_left;
    known = e.known;
    bits = e.bits;
    unmarked = e.unmarked;
    turns = e.turns;
    stand = e.stand;
    nested = nested_at shape (λ k. was.strands_lost || e.lost k) (all_strands p.view) (each_nested_on shape e.lost (λ k. was.strands_lost || e.lost k) (all_strands p.view) (λ k lo. (neither was.strands_lost (e.lost k) lo).1) e.nested);
    words = words;
    words_told = e.words_told;
    touches = e.touches;
    recorded = λ n strand at_n k below there lo. e.recorded n strand at_n k below there (neither was.strands_lost (e.lost k) lo).1;
    strands_lost = was.strands_lost;
    all_lost = λ all k. ap (λ (b : Bool). b || e.lost k) all;
    drawn = e.drawn;
    drawn_is = e.drawn_is;
    counted = e.counted;
    ticketed = λ kept. e.ticketed (none_lost_of kept);
    all_drawn = λ kept. e.all_drawn (none_lost_of kept);
    owners = λ lru kept. e.owned lru (none_lost_of kept);
    losses = λ k among. let is = e.losses k among in
        was.left.lost_is ∙ any_of shape (λ i. was.strands_lost || e.lost i) k is.0 is.1 (or_right was.strands_lost (e.lost k) is.2);
    left = was.left;
    shared_out = λ k below there lo.
        let none_lost = neither was.strands_lost (e.lost k) lo in
        subst (λ (l : List Strand). AreSharedOut (lock_named shape k) l (e.log k))
        (sym (was.left.strands_are ∙ ap (λ (b : Bool). cond {A = List Strand} b [] (strands_told shape (all_strands p.view))) none_lost.0))
        (shared_told shape k (lock_named shape k) (all_strands p.view) (e.log k) (e.turns k) (λ n strand at_n. e.recorded n strand at_n k below there none_lost.1) within);
  }

-- The same by what is seen of a table and of a pass

pub at_its_end : (shape key given : Shape) (words : List ℕ) (slots : List Behind) (pass : ℕ) (v u : View) → key ≡ shape → shape ≡ given → v ≡ u → Final (Seen (Rule key) pass v) words slots
    → ((c : ℕ) → c < given.cpus → is_among c u.cpus ≡ true) → u.held ≡ [] → AtEnd shape v words slots
at_its_end shape key given words slots pass v u key_is shape_is view_is f all no_lock =
    closes shape words slots pass v (subst (λ (s : Shape). Final (Seen (Rule s) pass v) words slots) key_is f)
    (λ c below. ap (λ (w : View). is_among c w.cpus) view_is ∙ all c (subst (λ (s : Shape). c < s.cpus) shape_is below))
    (ap (λ (w : View). w.held) view_is ∙ no_lock)

pub if_closed : {E : Type 0} (shape given : Shape) (p q : PassView) (words : List ℕ) (slots : List Behind) (r : Result ClosedView E) (e : AtEnd shape p.view words slots) → ((c : ℕ) → c < given.cpus → is_among c q.view.cpus ≡ true) → IsInNoCall q
    → HandsReal p.view.shape p.view.cpus p.view.hand → All (HasCpusOf p.view.shape) p.view.ended → HasCpusOf p.view.shape (current_strand p.view) → shape ≡ given → p ≡ q
    → IfOk r (WasLeft shape e.log e.lost e.core.bit (all_strands p.view) p.spares) → IfOk r (IsClosed given q)
if_closed shape given p q words slots (Ok closed) e all idle hands ended current shape_is pass_is left =
    subst (λ (s : Shape). IsClosed s q closed) shape_is
    (subst (λ (x : PassView). IsClosed shape x closed) pass_is
    (closed_is shape p words slots closed e
    (λ c below. ap (λ (x : PassView). is_among c x.view.cpus) pass_is ∙ all c (subst (λ (s : Shape). c < s.cpus) shape_is below)) (subst IsInNoCall (sym pass_is) idle)
    (subst (λ (s : Shape). HandsReal s p.view.cpus p.view.hand) e.shape_is hands) (subst (λ (s : Shape). HasCpusOf s (current_strand p.view)) e.shape_is current) (subst (λ (s : Shape). All (HasCpusOf s) (all_strands p.view)) e.shape_is (all_within p.view ended current)) left))
if_closed shape given p q words slots (Err refused) e all idle hands ended current shape_is pass_is left = tt
