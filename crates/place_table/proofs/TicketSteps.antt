-- The steps on the ticket word: it is read, and a ticket is drawn.
use Rattle.place_table.proofs.StrandMoves.{is_one}
use Rattle.std.proofs.Math.Nat.{mod-eq_of_lt}
use Rattle.std.proofs.Common.{◌≡◌, ℕ, ◌+◌, ◌%◌, ◌^◌, ◌<◌, ◌≤◌, inl, inr, ⊎_elim, cond, List, [], ◌∷◌, length, get_or, set, sym, refl, ap, ◌∙◌, subst, arith, Some, None, Option, length-set, get_or-set_other, get_or-set_same, eqb, zero, suc, ◌⊎◌, Bool, true, false}
use Rattle.std.specs.Prelude.{nat_lt, IsTrue}
use Rattle.std.proofs.lemmas.Bool.{ltb-false}
use mathlib.Core.Option.{some}
use lib.ListN.{get_elem?}
use Rattle.atomic_table.specs.Table.{State, Allows, keeps, stepped}
use Rattle.atomic_table.proofs.Lists.{at_set}
use Rattle.map_types.specs.declared.attr.Shape.{Shape}
use Rattle.map_types.proofs.CreationLemmas.{bounds_of_shape}
use Rattle.place_words.specs.declared.history.Entry.{Entry}
use Rattle.place_words.specs.Locks.{lock_count, lock_number}
use Rattle.place_table.specs.declared.content.Behind.{Behind}
use Rattle.place_table.specs.declared.view.Known.{Known}
use Rattle.place_table.specs.declared.view.View.{View}
use Rattle.place_table.specs.Idle.{LearnsAll}
use Rattle.place_table.proofs.Closes.{turns_now}
use Rattle.place_table.proofs.IdleRule.{rule_idle}
use Rattle.map_types.proofs.RowLemmas.{by_test}
use Rattle.std.proofs.lemmas.Option.{same_Some}
use Rattle.place_table.specs.declared.view.Hold.{Hold}
use Rattle.place_table.specs.declared.view.WordStep.{WordStep}
use Rattle.place_table.specs.declared.view.Ticket.{Ticket}
use Rattle.place_table.specs.declared.view.Ticket.TheVariants.{Unread, Drawing, Drawn, Refused}
use Rattle.place_table.specs.Views.{is_among, touching, ticketed, found_below, ticket_drawn, came_at, has_all, known_log, learning}
use Rattle.place_table.specs.Words.{owner_word, home_word, bit_word, ticket_word, ticket_bound}
use Rattle.place_table.specs.Rules.{World, Rule, PassKnows, IsSeen, HasRow, IsFresh, IsBrought, logs_of, entries}
use Rattle.place_table.specs.Tickets.{Tickets, NoneLost, Inner, innermost, TicketFits}
use Rattle.map_types.specs.declared.kind.DomainId.{DomainId}
use Rattle.map_types.specs.Kind.{is_lru}
use Rattle.place_words.specs.Locks.{is_lock, lock_named}
use Rattle.place_words.proofs.Ascending.{ticket_below}
use Rattle.place_words.proofs.LockLemmas.{named_by_number, number_within}
use Rattle.place_table.specs.Owners.{Owners}
use Rattle.place_table.specs.Views.{hold_at}
use Rattle.place_table.proofs.OwnersKept.{alike_found}
use Rattle.place_table.proofs.OwnersNoted.{noted_first}
use Rattle.place_table.proofs.OwnersOrder.{apart_there, owners_stay, owners_drawn}
use Rattle.place_table.proofs.Worlds.{hold_at_first}
use Rattle.place_table.specs.Plays.{Seated, ReadsTicket, DrawsTicket, SeesTicket, TakesTicket, WordFits}
use Rattle.place_table.proofs.Worlds.{by_bool, true_false, has_mine, here_all, others, hashed_stands, lock_still_lost, past_stays, tagged_stays, SameStrands, hash_stands, none_some}
use Rattle.place_table.proofs.StepLog.{made, time_more, givers_other, touches_with, lead_with, of_strands_with, strand_with, past_same, other_same, reads_more}
use Rattle.place_table.proofs.NotesDone.{noted_more, word_off}
use Rattle.place_table.proofs.Locks.{there, allows_of}
use Rattle.place_table.specs.Laws.{StepsAs, stays}
use Rattle.place_table.proofs.TicketLemmas.{exact_there, theirs_there, first_there, inner_there}
use Rattle.place_table.proofs.Nesting.{log_there}
use Rattle.place_table.proofs.TicketChanges.{tickets_read, tickets_drawn, tickets_seen}
use Rattle.place_table.proofs.Counted.{counted_more, reading_more, homes_more}
use Rattle.place_table.proofs.MarksNoted.{marked_on}

-- one step more
abbrev looked : World → ℕ → WordStep → World
looked w pass x = record {
  core = w.core;
  log = w.log;
  lost = w.lost;
  pass_of_cpu = w.pass_of_cpu;
  pass_of_strand = w.pass_of_strand;
  cpus_of_strand = w.cpus_of_strand;
  current = w.current;
  past = w.past;
  next = w.next;
  hash = w.hash;
  touches = touches_with w pass x;
}

module _ (shape : Shape) (s : State Behind View) (r : Rule shape s) (pass : ℕ) (v : View) (at_pass : get_elem? s.views pass ≡ some v) where
  -- the ticket word becomes n, by a pass that has a CPU, or that only reads
  learning_rule : (n : ℕ) (seen : Option ℕ) (ticket : Ticket) (reached : ℕ) (learned : List Known) (cs : List (ℕ × Behind))
      → ((k : ℕ) (log : List Entry) → known_log k learned ≡ Some log → entries (r.world.log k) ≡ log) → (((learned ≡ []) × (v.bits ≡ [])) ⊎ ((c : ℕ) → c < shape.cpus → is_among c v.cpus ≡ true)) → IsSeen seen (get_or s.words (ticket_word shape) 0) → (v.cpus ≡ [] → seen ≡ Some n)
      → Tickets shape n (logs_of r.world) r.world.lost r.world.pass_of_cpu (set s.views pass (learning learned (ticketed ticket reached (touching (made r.world) (ticket_word shape) seen n v) v)))
      → (IsTrue (is_lru shape.kind) → NoneLost shape r.world.lost → Owners shape n r.world.core.owner r.world.core.home r.world.hash (logs_of r.world) (set s.views pass (learning learned (ticketed ticket reached (touching (made r.world) (ticket_word shape) seen n v) v))))
      → Rule shape (stepped s (ticket_word shape) n pass cs (learning learned (ticketed ticket reached (touching (made r.world) (ticket_word shape) seen n v) v)) keeps)
  learning_rule n seen ticket reached learned cs right_logs right_only seen_is only_read tickets owned =
      let i : ℕ = ticket_word shape in
      let w = r.world in
      let x : WordStep = record { at = made w; word = i; seen = seen; left = n } in
      let w' : World = looked w pass x in
      let kn = r.knows pass v at_pass in
      let nv : View = learning learned (ticketed ticket reached (touching (made w) i seen n v) v) in
      let same : SameStrands w w' = record { pass_of_strand = λ _. refl; cpus_of_strand = λ _. refl; next = refl; current = λ _. refl; past = λ _. refl; pass_of_cpu = λ _. refl; still = λ _ z. z } in
      record {
        world = w';
        is_shape = r.is_shape;
        words = length-set s.words i n ∙ r.words;
        slots = r.slots;
        lock_words = λ m h. get_or-set_other s.words i m n 0 (λ y. omega arith) ∙ r.lock_words m h;
        owner_words = λ y h. get_or-set_other s.words i (owner_word shape y) n 0 (λ z. omega arith) ∙ r.owner_words y h;
        home_words = λ y h. get_or-set_other s.words i (home_word shape y) n 0 (λ z. omega arith) ∙ r.home_words y h;
        bit_words = λ y h. get_or-set_other s.words i (bit_word shape y) n 0 (λ z. omega arith) ∙ r.bit_words y h;
        placed = r.placed;
        ranked = r.ranked;
        hashes = λ lru. let right = r.hashes lru in record {
          in_bucket = right.in_bucket;
          have = λ k y no_bucket inside. ⊎_elim
              (λ (had : HasRow shape w.log w.hash k y). inl record { stored = had.stored })
              (⊎_elim
              (λ (fresh : IsFresh w.core.holder w.core.owner k y). inr (inl record { cpu = fresh.cpu; held = fresh.held; in_hand = fresh.in_hand }))
              (λ (br : IsBrought shape w.core.holder w.log w.hash k y). inr (inr record { cpu = br.cpu; from = br.from; held = br.held; holds = br.holds; low = br.low; row = record { stored = br.row.stored } })))
              (right.have k y no_bucket inside);
        };
        legal = r.legal;
        real = r.real;
        unmarked = λ plain y is_set. marked_on s.views pass v nv at_pass (λ x inside. inside) y (r.unmarked plain y is_set);
        homes = r.homes;
        seated = λ c h. subst (λ (z : ℕ). w.pass_of_cpu c < z) (sym (length-set s.views pass nv)) (r.seated c h);
        tagged = λ k. tagged_stays w w' (length s.views) (length (set s.views pass nv)) (w.log k) (sym (length-set s.views pass nv)) same (r.tagged k);
        in_time = time_more w.touches (w.current pass, x) r.in_time refl;
        gave_back = λ m below. givers_other m w.touches (w.current pass, x) (λ at _. omega arith) ∙ r.gave_back m below;
        lead = lead_with shape s r (w.current pass) x (omega (arith, r.words)) seen_is;
        of_strands = of_strands_with shape w pass v kn x w' (length s.views) (length (set s.views pass nv)) (there s.views pass v at_pass) (sym (length-set s.views pass nv)) same r.of_strands;
        tickets = subst (λ (z : ℕ). Tickets shape z (logs_of w) w.lost w.pass_of_cpu (set s.views pass nv)) (sym (get_or-set_same s.words i n 0 (omega (arith, r.words)))) tickets;
        owners = λ lru none. subst (λ (z : ℕ). Owners shape z w.core.owner w.core.home w.hash (logs_of w) (set s.views pass nv)) (sym (get_or-set_same s.words i n 0 (omega (arith, r.words)))) (owned lru none);
        knows = λ j u h. ⊎_elim
            (λ t. subst (λ (z : ℕ × View). PassKnows shape w' z.0 z.1) (λ i. (sym t.0 i, t.1 i)) record {
              shape_is = kn.shape_is;
              cpus = kn.cpus;
              within = kn.within;
              held = kn.held;
              ascends = kn.ascends;
              hands = kn.hands;
              carried = kn.carried;
              hashed = λ lru y d lock real within in_hand at. let k : ℕ = lock_number shape lock in
                  hashed_stands shape w.core.holder w'.core.holder w.log w'.log w.hash w'.hash v.hashes v.hashes (came_at k v.held v.notes) (came_at k v.held v.notes) k y d
                  (λ m held. (held, refl)) (λ held. held) refl refl (λ inside. inside) (kn.hashed lru y d lock real within in_hand at);
              rowed = kn.rowed;
              hashes = λ y d noted within found. hash_stands shape w.hash w'.hash v.hand y d noted.bucket (kn.hashes y d noted within found) (λ _. refl);
              homes_read = homes_more shape w.touches (w.current pass, x) v.homes_read kn.homes_read;
              readings = λ y d read within found. reading_more shape w.core.holder w.log w.core.home w.touches (w.current pass, x) v.hand y d read (kn.readings y d read within found);
              known = right_logs;
              bits = kn.bits;
              only = right_only;
              losses = λ k among. lock_still_lost shape w w' k (λ lo. lo) (kn.losses k among);
              noted = noted_more shape v.touched (x ∷ []) v.held v.notes kn.noted (word_off shape v.touched x v.held v.notes kn.noted (omega arith));
              strand = strand_with shape w pass v kn x w' same (λ _. refl) (λ _ z. z) refl;
              past = past_stays shape w w' pass (w.past pass) v.ended same (λ _ _ _ _. refl) (λ _ z. z) (λ t among _. past_same shape w pass v kn x t among) kn.past;
              apart = kn.apart;
              idle = λ empty. let was = kn.idle empty in ((was.0.0, reads_more v.touched x was.0.1 (only_read empty)), was.1);
            })
            (λ t. others shape w w' j u same (r.knows j u t.1) (λ _. refl) (λ _ _ _. refl) (λ _ _ _. refl) (λ _ _ _. refl) (λ _ z. z) (r.knows j u t.1).known (r.knows j u t.1).bits (λ _ _ _ _. refl) (λ _ _ _ _ _ _ at. inl at) (λ _ _ _ _ _ _. refl)
            (λ tag own. other_same shape w pass v kn x j tag t.0 own) (λ read. counted_more shape w.touches (w.current pass, x) read.at read.turns read.home) (λ _ _ _ _ _ _ _ still. still))
            (at_set s.views pass j nv u h);
      }

  ticket_rule : (n : ℕ) (seen : Option ℕ) (ticket : Ticket) (reached : ℕ) (cs : List (ℕ × Behind)) → IsSeen seen (get_or s.words (ticket_word shape) 0) → (v.cpus ≡ [] → seen ≡ Some n)
      → Tickets shape n (logs_of r.world) r.world.lost r.world.pass_of_cpu (set s.views pass (ticketed ticket reached (touching (made r.world) (ticket_word shape) seen n v) v))
      → (IsTrue (is_lru shape.kind) → NoneLost shape r.world.lost → Owners shape n r.world.core.owner r.world.core.home r.world.hash (logs_of r.world) (set s.views pass (ticketed ticket reached (touching (made r.world) (ticket_word shape) seen n v) v)))
      → Rule shape (stepped s (ticket_word shape) n pass cs (ticketed ticket reached (touching (made r.world) (ticket_word shape) seen n v) v) keeps)
  ticket_rule n seen ticket reached cs seen_is only_read tickets owned =
      let kn = r.knows pass v at_pass in
      learning_rule n seen ticket reached v.known cs kn.known kn.only seen_is only_read tickets owned

-- what a pass knows of the word is so
word_fits : (shape : Shape) (s : State Behind View) (r : Rule shape s) (pass : ℕ) (v : View) → get_elem? s.views pass ≡ some v → WordFits v (get_or s.words (ticket_word shape) 0)
word_fits shape s r pass v at_pass =
    let w = r.world in let kn = r.knows pass v at_pass in record {
      reached = (r.tickets.known pass v at_pass).reached;
      refused = ⊎_elim (λ (none : v.refused ≡ 0). inl none) (λ (high : ticket_bound ≤ v.reached). inr (let low = (r.tickets.known pass v at_pass).reached in omega arith)) (r.tickets.known pass v at_pass).refused;
      exact = λ all. exact_there shape (get_or s.words (ticket_word shape) 0) (logs_of w) w.lost w.pass_of_cpu s.views pass v at_pass
          (λ c less. has_mine shape w pass v c kn (here_all v.shape.cpus v.cpus all c (subst (λ z. c < z.cpus) (sym kn.shape_is) less))) r.tickets;
    }

-- the turns of the first n locks
abbrev all_known : World → ℕ → List Known
all_known w zero = []
all_known w (suc n) = (record { lock = n; log = entries (w.log n) }) ∷ all_known w n

known_all : (w : World) (k n : ℕ) → k < n → known_log k (all_known w n) ≡ Some (entries (w.log k))
known_all w k zero few = absurd (omega (arith, few))
known_all w k (suc n) few =
    by_test n k (λ b. cond b (Some (entries (w.log n))) (known_log k (all_known w n)) ≡ Some (entries (w.log k)))
    (λ same. ap (λ (m : ℕ). Some (entries (w.log m))) same)
    (λ other. known_all w k n (omega (arith, few, other)))

known_only : (w : World) (k n : ℕ) (log : List Entry) → known_log k (all_known w n) ≡ Some log → entries (w.log k) ≡ log
known_only w k zero log is = absurd (none_some is)
known_only w k (suc n) log is =
    by_test n k (λ b. cond b (Some (entries (w.log n))) (known_log k (all_known w n)) ≡ Some log → entries (w.log k) ≡ log)
    (λ same here. ap (λ (m : ℕ). entries (w.log m)) (sym same) ∙ same_Some (entries (w.log n)) log here)
    (λ other rest. known_only w k n log rest)
    is

-- what a pass knows of turns then, where it has all CPUs and where it hasn't
abbrev known_then : Bool → Shape → World → View → List Known
known_then true shape w v = all_known w (lock_count shape)
known_then false shape w v = v.known

module _ (shape : Shape) (s : State Behind View) (r : Rule shape s) (pass : ℕ) (v : View) (at_pass : get_elem? s.views pass ≡ some v) where
  all_cpus : has_all v ≡ true → (c : ℕ) → c < shape.cpus → is_among c v.cpus ≡ true
  all_cpus all c less = here_all v.shape.cpus v.cpus all c (subst (λ (z : Shape). c < z.cpus) (sym (r.knows pass v at_pass).shape_is) less)

  right_then : (b : Bool) (k : ℕ) (log : List Entry) → known_log k (known_then b shape r.world v) ≡ Some log → entries (r.world.log k) ≡ log
  right_then true k log is = known_only r.world k (lock_count shape) log is
  right_then false k log is = (r.knows pass v at_pass).known k log is

  only_then : (b : Bool) → has_all v ≡ b → ((known_then b shape r.world v ≡ []) × (v.bits ≡ [])) ⊎ ((c : ℕ) → c < shape.cpus → is_among c v.cpus ≡ true)
  only_then true all = inr (all_cpus all)
  only_then false other = (r.knows pass v at_pass).only

  learns_then : (b : Bool) → has_all v ≡ b → has_all v ≡ true → LearnsAll shape v (known_then b shape r.world v)
  learns_then true is all = record {
    log = logs_of r.world;
    known = λ k below. known_all r.world k (lock_count shape) below;
    knew = (r.knows pass v at_pass).known;
    legal = r.legal;
    idle = λ lru no_lock no_hand. rule_idle shape s r pass v at_pass (all_cpus all) no_lock no_hand lru;
    turns = λ no_lock. turns_now shape s r pass v at_pass (all_cpus all) no_lock;
    strands = (r.tickets.known pass v at_pass).ended;
    strand = (r.tickets.known pass v at_pass).strand;
  }
  learns_then false is all = true_false (sym all ∙ is)

-- the ticket word is read by a pass that draws none
pub sees_step : (shape : Shape) (slots pass : ℕ) (me : Seated) → me.0.ticket ≡ Unread → StepsAs shape slots pass me (ticket_word shape) (λ n. n) stays (SeesTicket me)
unfolding learning_rule
sees_step shape slots pass me unread s r wide at_pass small =
    let v : View = me.0 in let w = r.world in let n : ℕ = get_or s.words (ticket_word shape) 0 in let kn = r.knows pass v at_pass in
    let learned : List Known = known_then (has_all v) shape w v in (
      learning learned (ticketed v.ticket n (touching (made w) (ticket_word shape) (Some n) n v) v),
      keeps,
      tt,
      (
        learning_rule shape s r pass v at_pass n (Some n) v.ticket n learned me.1 (right_then shape s r pass v at_pass (has_all v)) (only_then shape s r pass v at_pass (has_all v) refl) refl (λ _. refl)
            (tickets_seen shape n (logs_of w) w.lost w.pass_of_cpu s.views pass v (touching (made w) (ticket_word shape) (Some n) n v) learned at_pass unread r.tickets)
            (λ lru none. owners_stay shape n w.core.owner w.core.home w.hash (logs_of w) s.views pass v _ at_pass record { cpus = refl; held = refl; changed = refl; read = refl; ticket = inl refl } (r.owners lru none)),
        refl,
      ),
      record {
        fits = word_fits shape s r pass v at_pass;
        at = made w;
        learned = learned;
        learns = λ all. subst (λ (z : Shape). LearnsAll z v learned) (sym kn.shape_is) (learns_then shape s r pass v at_pass (has_all v) refl all);
        after_is = λ i. (learning learned (ticketed v.ticket n (touching (made w) (ticket_word (sym kn.shape_is i)) (Some n) n v) v), me.1);
      },
    )

pub sees_ticket : (shape : Shape) (slots pass : ℕ) (me : Seated) (i : ℕ) → i ≡ ticket_word shape → me.0.ticket ≡ Unread → Allows (Rule shape) slots pass me i (λ n. n) (SeesTicket me)
sees_ticket shape slots pass me i is unread =
    subst (λ (z : ℕ). Allows (Rule shape) slots pass me z (λ n. n) (SeesTicket me)) (sym is)
    (allows_of shape slots pass me (ticket_word shape) (λ n. n) stays (SeesTicket me) (sees_step shape slots pass me unread))

-- the ticket word is read by a pass that holds a lock
pub reads_step : (shape : Shape) (slots pass : ℕ) (me : Seated) (hold : Hold) (below : List Hold) → me.0.held ≡ hold ∷ below → me.0.ticket ≡ Unread → StepsAs shape slots pass me (ticket_word shape) (λ n. n) stays (ReadsTicket me)
unfolding ticket_rule learning_rule
reads_step shape slots pass me hold below held unread s r wide at_pass small =
    let v : View = me.0 in let w = r.world in let n : ℕ = get_or s.words (ticket_word shape) 0 in let kn = r.knows pass v at_pass in
    let first = first_there shape s r pass v at_pass hold below held in (
      ticketed (found_below n) n (touching (made w) (ticket_word shape) (Some n) n v) v,
      keeps,
      tt,
      (
        ticket_rule shape s r pass v at_pass n (Some n) (found_below n) n me.1 refl (λ _. refl)
            (tickets_read shape n (logs_of w) w.lost w.pass_of_cpu s.views pass v record { cpu = hold.cpu } (touching (made w) (ticket_word shape) (Some n) n v) at_pass unread (ap innermost held)
            (log_there shape w pass v kn) (let bounds = bounds_of_shape shape r.is_shape in omega arith) (r.ranked.within hold.cpu hold.lock first.holder_is) first.mine r.tickets)
            (λ lru none. owners_stay shape n w.core.owner w.core.home w.hash (logs_of w) s.views pass v _ at_pass record { cpus = refl; held = refl; changed = refl; read = refl; ticket = alike_found n v.ticket unread } (r.owners lru none)),
        refl,
      ),
      record {
        fits = word_fits shape s r pass v at_pass;
        at = made w;
        after_is = λ i. (ticketed (found_below n) n (touching (made w) (ticket_word (sym kn.shape_is i)) (Some n) n v) v, me.1);
      },
    )

pub reads_ticket : (shape : Shape) (slots pass : ℕ) (me : Seated) (hold : Hold) (below : List Hold) (i : ℕ) → i ≡ ticket_word shape → me.0.held ≡ hold ∷ below → me.0.ticket ≡ Unread → Allows (Rule shape) slots pass me i (λ n. n) (ReadsTicket me)
reads_ticket shape slots pass me hold below i is held unread =
    subst (λ (z : ℕ). Allows (Rule shape) slots pass me z (λ n. n) (ReadsTicket me)) (sym is)
    (allows_of shape slots pass me (ticket_word shape) (λ n. n) stays (ReadsTicket me) (reads_step shape slots pass me hold below held unread))

-- a ticket is drawn by a pass that was about to
pub draws_step : (shape : Shape) (slots pass : ℕ) (me : Seated) → me.0.ticket ≡ Drawing → StepsAs shape slots pass me (ticket_word shape) (λ n. 1 + n) stays (DrawsTicket me)
unfolding ticket_rule learning_rule
draws_step shape slots pass me is_drawing s r wide at_pass small =
    let v : View = me.0 in let w = r.world in let n : ℕ = get_or s.words (ticket_word shape) 0 in let kn = r.knows pass v at_pass in
    let t = r.tickets in
    let fits : TicketFits n t.drawing t.stand v Drawing = subst (TicketFits n t.drawing t.stand v) is_drawing (t.known pass v at_pass).ticket in
    let found = inner_there v.held fits.0.inner fits.0.inner_is in
    let first = first_there shape s r pass v at_pass found.0 found.1 found.2 in
    let cpu_within : found.0.cpu < shape.cpus = r.ranked.within found.0.cpu found.0.lock first.holder_is in (
      ticketed (Drawn n) v.reached (touching (made w) (ticket_word shape) (Some n) (1 + n) v) v,
      keeps,
      tt,
      (
        ticket_rule shape s r pass v at_pass (1 + n) (Some n) (Drawn n) v.reached me.1 refl (λ empty. true_false (sym (kn.cpus found.0.cpu cpu_within ∙ (ap (λ (z : ℕ). eqb z pass) first.mine ∙ is_one pass)) ∙ ap (is_among found.0.cpu) empty))
            (tickets_drawn shape n (logs_of w) w.lost w.pass_of_cpu s.views pass v (touching (made w) (ticket_word shape) (Some n) (1 + n) v) at_pass is_drawing (theirs_there shape s r)
            (λ inner inner_is. let its = inner_there v.held inner inner_is in subst (λ (z : Inner). z.cpu < shape.cpus) (sym its.3) (r.ranked.within its.0.cpu its.0.lock (first_there shape s r pass v at_pass its.0 its.1 its.2).holder_is)) t)
            (λ lru none.
            let first_noted = noted_first shape v.touched found.0.lock found.0 v.held v.notes (ap (hold_at found.0.lock) found.2 ∙ hold_at_first found.0 found.1) kn.noted in
            subst (λ (m : ℕ). Owners shape m w.core.owner w.core.home w.hash (logs_of w) (set s.views pass (ticketed (Drawn n) v.reached (touching (made w) (ticket_word shape) (Some n) (1 + n) v) v))) (let g : suc n ≡ 1 + n = omega arith in g)
            (owners_drawn shape n w.core.owner w.core.home w.hash (logs_of w) s.views pass v v.reached (touching (made w) (ticket_word shape) (Some n) (1 + n) v) at_pass (apart_there shape w s.views pass v r.knows at_pass) is_drawing
            found.0 found.1 found.2 first_noted.3 first_noted.4 first_noted.5
            (λ lock place entry is at. ticket_below 0 (logs_of w (lock_number shape lock)) n place entry (t.ascend (lock_number shape lock) (none (lock_number shape lock) (number_within shape lock is) (subst (λ (d : DomainId). IsTrue (is_lock shape d)) (sym (named_by_number shape lock is)) is))) at)
            (λ j u x at drawn. let theirs : TicketFits n t.drawing t.stand u (Drawn x) = subst (TicketFits n t.drawing t.stand u) drawn (t.known j u at).ticket in theirs.3)
            (r.owners lru none))),
        refl,
      ),
      record {
        fits = word_fits shape s r pass v at_pass;
        at = made w;
        after_is = λ i. (ticketed (Drawn n) v.reached (touching (made w) (ticket_word (sym kn.shape_is i)) (Some n) (1 + n) v) v, me.1);
      },
    )

-- the addition doesn't wrap
pub draws_ticket : (shape : Shape) (slots pass : ℕ) (me : Seated) (i : ℕ) → i ≡ ticket_word shape → me.0.ticket ≡ Drawing → Allows (Rule shape) slots pass me i (λ n. (n + 1) % 2 ^ 64) (DrawsTicket me)
draws_ticket shape slots pass me i is is_drawing = subst (λ (z : ℕ). Allows (Rule shape) slots pass me z (λ n. (n + 1) % 2 ^ 64) (DrawsTicket me)) (sym is) at
  where
    at : Allows (Rule shape) slots pass me (ticket_word shape) (λ n. (n + 1) % 2 ^ 64) (DrawsTicket me)
    at s r wide at_pass small =
        let n : ℕ = get_or s.words (ticket_word shape) 0 in
        let few : n + 1 < 2 ^ 64 = (let most = r.tickets.bounded in omega arith) in
        let next : (n + 1) % 2 ^ 64 ≡ 1 + n = mod-eq_of_lt few ∙ omega arith in
        let x = draws_step shape slots pass me is_drawing s r wide at_pass small in
        (x.0, x.1, x.2, subst (λ (z : ℕ). Rule shape (stepped s (ticket_word shape) z pass me.1 x.0 x.1)) (sym next) x.3.0, x.4)

-- where the word was low enough the pass is about to draw
pub drawing_below : (n : ℕ) → n < ticket_bound → found_below n ≡ Drawing
drawing_below n low =
    by_bool (nat_lt n ticket_bound) (λ b. nat_lt n ticket_bound ≡ b → cond b Drawing Refused ≡ Drawing) (λ _ _. refl) (λ _ high. let more = ltb-false n ticket_bound high in absurd (omega (arith, low, more))) refl

pub is_drawing : (before : Seated) (n : ℕ) (after : Seated) → n < ticket_bound → ReadsTicket before n after → after.0.ticket ≡ Drawing
is_drawing before n after low reads = ap (λ (z : Seated). z.0.ticket) reads.after_is ∙ drawing_below n low

-- both steps
pub takes_none : (before : Seated) (n : ℕ) (after : Seated) → ticket_bound ≤ n → ReadsTicket before n after → TakesTicket before None after
takes_none before n after high reads = (n, reads.at, reads.fits, high, reads.after_is)

pub takes_some : (before : Seated) (n : ℕ) (between : Seated) (t : ℕ) (after : Seated) → n < ticket_bound → ReadsTicket before n between → DrawsTicket between t after → TakesTicket before (Some t) after
takes_some before n between t after low reads draws = (
  n,
  reads.at,
  draws.at,
  reads.fits,
  low,
  subst (λ (z : Seated). WordFits z.0 t) reads.after_is draws.fits,
  draws.after_is ∙ (λ i. (ticket_drawn draws.at t (reads.after_is i).0, (reads.after_is i).1)),
)
