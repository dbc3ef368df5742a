-- What lies under the locks between two turns of a run on a map whose CPUs share lists: what the turns before leave, but of a CPU's lists
-- in whose refill the turn of the global lists was made only what the refill needs. Such a turn and others keep it.
use Rattle.std.proofs.Common.{◌≡◌, ◌≢◌, ℕ, Bool, true, false, cond, List, [], ◌∷◌, ◌++◌, map, take, length, refl, ap, ◌∙◌, sym, subst, ⊎_elim, arith}
use Rattle.std.specs.Prelude.{IsTrue}
use Rattle.std.proofs.lemmas.Bool.{cases_Bool, cond-true, true≢false}
use Rattle.std.proofs.lemmas.List.{append_assoc}
use Rattle.std.proofs.Math.Seq.{take-length}
use Rattle.map_types.specs.declared.attr.Shape.{Shape}
use Rattle.map_types.specs.declared.kind.DomainId.{DomainId}
use Rattle.map_types.specs.declared.kind.DomainId.TheVariants.{Local, Global, CpuLru, Bucket, Freelist}
use Rattle.map_types.specs.Kind.{is_lru}
use Rattle.map_types.specs.Listed.{elements_of}
use Rattle.map_types.specs.Shape.{HasBounds}
use Rattle.map_types.specs.ElementLists.{times}
use Rattle.map_types.proofs.RowLemmas.{times_append}
use Rattle.place_words.specs.declared.history.Part.{Part}
use Rattle.place_words.specs.declared.history.Part.TheVariants as parts
use Rattle.place_words.specs.declared.list_part.GlobalPart.TheVariants as global
use Rattle.place_words.specs.declared.list_part.LocalPart.{LocalPart}
use Rattle.place_words.specs.declared.list_part.LocalPart.TheVariants as local
use Rattle.place_words.specs.declared.step.Lists.{Lists}
use Rattle.place_words.specs.Choices.{among}
use Rattle.place_words.specs.Histories.{Content, Allows, in_locals, content_after}
use Rattle.place_words.specs.Interleaving.{Drawn, turn_of, Event, does, enclosing, bucket_around, lists_in, part_steps, seen_by, takes, not_begun, turn_events, AreEnabled}
use Rattle.place_words.specs.Locals.{AllowsOnLocal}
use Rattle.place_words.specs.Locks.{is_lock, is_same_lock, lock_number}
use Rattle.place_words.specs.Places.{Placed}
use Rattle.place_words.specs.State.{State, rows, is_bucket}
use Rattle.place_words.specs.Steps.{lists_under}
use Rattle.place_words.specs.Turns.{on_lock, after_turn}
use Rattle.place_words.specs.declared.step.Step.TheVariants as steps
use Rattle.place_words.proofs.KeepLaws.{times_turned}
use Rattle.place_words.proofs.LockLemmas.{same_lock, one_lock}
use Rattle.place_words.proofs.Settled.{turned_here, turned_elsewhere}
use Rattle.core_runs.specs.SharedRaces.{Midst, IsStolenThere, LocalPays, SharedAt}
use Rattle.core_runs.specs.Words.{words_of, RunsByWords, RunsByLists}
use Rattle.core_runs.proofs.Fits.{Fits, number_apart, fits_alike}
use Rattle.core_runs.proofs.Nests.{goes_on}
use Rattle.core_runs.proofs.OwnTurns.{stacked}
use Rattle.core_runs.proofs.RaceRuns.{bases}
use Rattle.core_runs.proofs.Reduced.{Follows, none, follows_none}
use Rattle.core_runs.proofs.SharedRuns.{is_local, MidLocal, Midway, shared_turn}
use Rattle.core_runs.proofs.SharedCalls.{on_locals}
use Rattle.core_runs.proofs.Words.{runs_both}
use Rattle.step_check.proofs.SharedGoing.{IsOther, SameMidst}

-- a CPU's lists against what its turns leave: at rest the same, and once a refill's turn of the global lists was made as many free ones as
-- the refill finds, and no listed ones if all that were listed are flushed
pub record MidLists (l was : Lists) (busy : Bool) (got sent : List ℕ) : Type 0 where
  pub rest : busy ≡ false → (l ≡ was) × (got ≡ []) × (sent ≡ [])
  pub free : busy ≡ true → l.free ≡ stacked got was.free
  pub rows_are : busy ≡ true → ((x : ℕ) → times x sent ≡ times x (rows was)) → (x : ℕ) → times x (rows l) ≡ 0

-- what lies under local locks in the core, and under others what turns leave
abbrev pub lists_as : Shape → State → (DomainId → Content) → DomainId → Lists
lists_as shape s contents (Local c) = lists_under shape s (Local c)
lists_as shape s contents Global = lists_in (contents Global)
lists_as shape s contents (CpuLru c) = lists_in (contents (CpuLru c))
lists_as shape s contents (Bucket b) = lists_in (contents (Bucket b))
lists_as shape s contents (Freelist c) = lists_in (contents (Freelist c))

pub record Standing (shape : Shape) (contents : DomainId → Content) (m : Midst) (s : State) : Type 0 where
  pub fits : Fits shape (bases contents) none none (lists_as shape s contents) s
  pub locals : (c : ℕ) → IsTrue (is_lock shape (Local c)) → MidLists (lists_under shape s (Local c)) (lists_in (contents (Local c))) (m.busy c) (m.got c) (m.sent c)

-- A turn's events, as its locks are taken and what follows.
pub turn_block : (shape : Shape) (contents : DomainId → Content) (begun : List ℕ) (x : Drawn) (later : List Drawn)
    → turn_events shape (enclosing x later) begun (lists_in (after_turn shape x.entry.cpu contents (turn_of x) x.lock)) x ≡ map takes (not_begun begun (enclosing x later ++ x ∷ [])) ++ goes_on shape contents (enclosing x later) x []
unfolding turn_events
turn_block shape contents begun x later =
    let around : List Drawn = enclosing x later in
    let give : List Event = does (steps.Give x.entry.cpu x.lock (lists_in (after_turn shape x.entry.cpu contents (turn_of x) x.lock))) ∷ [] in
    let word : List Event = map does (part_steps shape x.entry.cpu x.lock (bucket_around around) x.entry.part) in
    append_assoc (map takes (not_begun begun (around ++ x ∷ [])) ++ word) (seen_by x.entry.part) give
    ∙ append_assoc (map takes (not_begun begun (around ++ x ∷ []))) word (seen_by x.entry.part ++ give)

-- Contents for a turn of one lock: its own is what turns leave, and of other local lists it is what the core has, whatever that is.

abbrev local_content : Lists → Content
local_content l = in_locals (record { free = l.free; pending = map (λ (e : ℕ). record { element = e; hash = 0 }) (rows l); steal = 0 })

abbrev seen_contents : Shape → State → DomainId → (DomainId → Content) → DomainId → Content
seen_contents shape s at contents (Local c) = cond (is_same_lock at (Local c)) (contents (Local c)) (local_content (lists_under shape s (Local c)))
seen_contents shape s at contents Global = contents Global
seen_contents shape s at contents (CpuLru c) = contents (CpuLru c)
seen_contents shape s at contents (Bucket b) = contents (Bucket b)
seen_contents shape s at contents (Freelist c) = contents (Freelist c)

abbrev seen_midst : DomainId → Midst → Midst
seen_midst at m = record {
  busy = λ c. cond (is_same_lock at (Local c)) (m.busy c) true;
  got = λ c. cond (is_same_lock at (Local c)) (m.got c) [];
  sent = λ c. cond (is_same_lock at (Local c)) (m.sent c) [];
}

named_elements : (es : List ℕ) → elements_of (map (λ (e : ℕ). record { element = e; hash = 0 }) es) ≡ es
named_elements [] = refl
named_elements (e ∷ es) = ap (λ (l : List ℕ). e ∷ l) (named_elements es)

mid_real : (l was : Lists) (busy : Bool) (got sent : List ℕ) → MidLists l was busy got sent → (busy ≡ true → (x : ℕ) → times x sent ≡ times x (rows was)) → MidLocal l was busy got sent
mid_real l was true got sent mid sent_is = record { free = mid.free refl; rows_are = λ x. omega (arith, mid.rows_are refl (sent_is refl) x, sent_is refl x); same = λ rests. absurd (true≢false rests) }
mid_real l was false got sent mid sent_is =
    let rest = mid.rest refl in
    record {
      free = ap (λ (k : Lists). k.free) rest.0 ∙ sym (ap (λ (g : List ℕ). stacked g was.free) rest.1);
      rows_are = λ x. omega (arith, ap (λ (k : Lists). times x (rows k)) rest.0, ap (times x) rest.2);
      same = λ _. rest.0;
    }

mid_seen : (l : Lists) → MidLocal l (lists_in (local_content l)) true [] []
mid_seen l = record { free = refl; rows_are = λ x. omega (arith, ap (times x) (named_elements (rows l)), times_append x (elements_of (map (λ (e : ℕ). record { element = e; hash = 0 }) (rows l))) []); same = λ rests. absurd (true≢false rests) }

-- at a refill all that was listed was flushed
sent_in : (shape : Shape) (content : Content) (m : Midst) (begun : Bool) (mine c cpu : ℕ) (part : LocalPart) → LocalPays content m begun mine c part → Allows shape cpu (parts.Local part) content → m.busy c ≡ true
    → (x : ℕ) → times x (m.sent c) ≡ times x (rows (lists_in content))
sent_in shape content m begun mine c cpu (local.Pop key e) pays allowed busy = absurd (true≢false (sym busy ∙ pays))
sent_in shape content m begun mine c cpu (local.Refill key flushed gained got) pays allowed busy = λ x.
    let found = on_locals content (AllowsOnLocal shape (local.Refill key flushed gained got)) allowed in
    omega (arith, pays.1 x, ap (times x) found.fact.1, times_turned x (elements_of found.lists.pending), ap (λ (k : Content). times x (rows (lists_in k))) found.lies, times_append x (elements_of found.lists.pending) [])
sent_in shape content m begun mine c cpu (local.Steal got first second) pays allowed busy = absurd (true≢false (sym busy ∙ pays.0))
sent_in shape content m begun mine c cpu (local.Add key e cursor) pays allowed busy = absurd (true≢false (sym busy ∙ pays.0))
sent_in shape content m begun mine c cpu (local.Push e done) pays allowed busy = absurd (true≢false (sym busy ∙ pays))

pays_alike : (content other : Content) (m n : Midst) (begun : Bool) (mine c : ℕ) (part : LocalPart) → content ≡ other → m.busy c ≡ n.busy c → m.got c ≡ n.got c → m.sent c ≡ n.sent c → LocalPays content m begun mine c part → LocalPays other n begun mine c part
pays_alike content other m n begun mine c (local.Pop key e) same busy got sent pays = sym busy ∙ pays
pays_alike content other m n begun mine c (local.Refill key flushed gained got_one) same busy got sent pays = (sym got ∙ pays.0, λ e. ap (times e) (sym sent) ∙ pays.1 e)
pays_alike content other m n begun mine c (local.Steal got_one first second) same busy got sent pays = (sym busy ∙ pays.0, subst (λ (k : Content). IsStolenThere k got_one) same pays.1)
pays_alike content other m n begun mine c (local.Add key e cursor) same busy got sent pays = (sym busy ∙ pays.0, pays.1, pays.2)
pays_alike content other m n begun mine c (local.Push e done) same busy got sent pays = sym busy ∙ pays

no_bucket_lock : (c b : ℕ) → Local c ≢ Bucket b
no_bucket_lock c b same = absurd cc

no_global_lock : (c : ℕ) → Local c ≢ Global
no_global_lock c same = absurd cc

local_name : (c d : ℕ) → Local c ≡ Local d → c ≡ d
local_name c d same = cc

-- the part's own local lists
sent_at : (shape : Shape) (contents : DomainId → Content) (m : Midst) (begun : Bool) (cpu : ℕ) (lock : DomainId) (part : Part) (c : ℕ) → lock ≡ Local c → SharedAt shape contents m begun cpu lock part → Allows shape cpu part (contents lock) → m.busy c ≡ true
    → (x : ℕ) → times x (m.sent c) ≡ times x (rows (lists_in (contents (Local c))))
sent_at shape contents m begun cpu lock (parts.Bucket part) c is pays allowed busy x = absurd (no_bucket_lock c pays.bucket (sym is ∙ pays.lock_is))
sent_at shape contents m begun cpu lock (parts.Free part) c is pays allowed busy x = absurd pays
sent_at shape contents m begun cpu lock (parts.Local part) c is pays allowed busy x =
    let same : pays.cpu ≡ c = local_name pays.cpu c (sym pays.lock_is ∙ is) in
    sent_in shape (contents (Local c)) m begun cpu c cpu part (subst (λ (d : ℕ). LocalPays (contents (Local d)) m begun cpu d part) same pays.pays) (subst (λ (l : DomainId). Allows shape cpu (parts.Local part) (contents l)) is allowed) busy x
sent_at shape contents m begun cpu lock (parts.Global part) c is pays allowed busy x = absurd (no_global_lock c (sym is ∙ pays.lock_is))
sent_at shape contents m begun cpu lock (parts.Own part) c is pays allowed busy x = absurd pays

module _ {shape : Shape} (bounds : HasBounds shape) (lru : is_lru shape.kind ≡ true) (common : IsTrue shape.common) {contents : DomainId → Content} {m : Midst} {s : State} (standing : Standing shape contents m s) where
  module _ (begun : List ℕ) (x : Drawn) (later : List Drawn) (other : IsOther x.entry.part) (on : IsTrue (is_lock shape x.lock)) (pays : SharedAt shape contents m (among begun x.entry.ticket) x.entry.cpu x.lock x.entry.part)
      (allowed : Allows shape x.entry.cpu x.entry.part (contents x.lock)) where
    seen : DomainId → Content
    seen = seen_contents shape s x.lock contents

    seen_m : Midst
    seen_m = seen_midst x.lock m

    seen_here : (lock : DomainId) → x.lock ≡ lock → seen lock ≡ contents lock
    unfolding seen
    seen_here (Local c) is = cond-true (is_same_lock x.lock (Local c)) (contents (Local c)) (local_content (lists_under shape s (Local c))) (ap (λ (l : DomainId). is_same_lock l (Local c)) is ∙ same_lock (Local c))
    seen_here Global is = refl
    seen_here (CpuLru c) is = refl
    seen_here (Bucket b) is = refl
    seen_here (Freelist c) is = refl

    seen_pays : SharedAt shape seen seen_m (among begun x.entry.ticket) x.entry.cpu x.lock x.entry.part
    unfolding seen seen_m
    seen_pays = by x.entry.part other pays
      where
        by : (part : Part) → IsOther part → SharedAt shape contents m (among begun x.entry.ticket) x.entry.cpu x.lock part → SharedAt shape seen seen_m (among begun x.entry.ticket) x.entry.cpu x.lock part
        by (parts.Bucket part) is p = p
        by (parts.Free part) is p = p
        by (parts.Local part) is p =
            let at : is_same_lock x.lock (Local p.cpu) ≡ true = ap (λ (l : DomainId). is_same_lock l (Local p.cpu)) p.lock_is ∙ same_lock (Local p.cpu) in
            record {
              cpu = p.cpu;
              lock_is = p.lock_is;
              there = p.there;
              pays = pays_alike (contents (Local p.cpu)) (seen (Local p.cpu)) m seen_m (among begun x.entry.ticket) x.entry.cpu p.cpu part (sym (seen_here (Local p.cpu) p.lock_is))
                  (sym (cond-true (is_same_lock x.lock (Local p.cpu)) (m.busy p.cpu) true at)) (sym (cond-true (is_same_lock x.lock (Local p.cpu)) (m.got p.cpu) [] at)) (sym (cond-true (is_same_lock x.lock (Local p.cpu)) (m.sent p.cpu) [] at)) p.pays;
            }
        by (parts.Global (global.Turn flushed active inactive free shrink)) is p = absurd is
        by (parts.Global (global.Push e)) is p = record { lock_is = p.lock_is; pays = p.pays }
        by (parts.Own part) is p = p

    seen_midway : Midway seen seen_m (lists_as shape s contents)
    unfolding seen seen_m
    seen_midway = record { others = others_are; locals = locals_are }
      where
        others_are : (lock : DomainId) → is_bucket lock ≡ false → is_local lock ≡ false → lists_as shape s contents lock ≡ lists_in (seen lock)
        others_are (Local c) list loc = absurd (true≢false loc)
        others_are Global list loc = refl
        others_are (CpuLru c) list loc = refl
        others_are (Bucket b) list loc = refl
        others_are (Freelist c) list loc = refl

        locals_are : (c : ℕ) → MidLocal (lists_as shape s contents (Local c)) (lists_in (seen (Local c))) (seen_m.busy c) (seen_m.got c) (seen_m.sent c)
        locals_are c = by (is_same_lock x.lock (Local c)) refl
          where
            by : (b : Bool) → is_same_lock x.lock (Local c) ≡ b
                → MidLocal (lists_under shape s (Local c)) (lists_in (cond b (contents (Local c)) (local_content (lists_under shape s (Local c))))) (cond b (m.busy c) true) (cond b (m.got c) []) (cond b (m.sent c) [])
            by true at =
                let is : x.lock ≡ Local c = one_lock x.lock (Local c) at in
                mid_real _ _ _ _ _ (standing.locals c (subst (λ (l : DomainId). IsTrue (is_lock shape l)) is on)) (λ busy. sent_at shape contents m (among begun x.entry.ticket) x.entry.cpu x.lock x.entry.part c is pays allowed busy)
            by false at = mid_seen (lists_under shape s (Local c))

    seen_now : lists_in (after_turn shape x.entry.cpu seen (turn_of x) x.lock) ≡ lists_in (after_turn shape x.entry.cpu contents (turn_of x) x.lock)
    seen_now =
        ap lists_in
        (turned_here shape x.entry.cpu seen (turn_of x) x.lock (same_lock x.lock) ∙ ap (content_after shape x.entry.cpu x.entry.part) (seen_here x.lock refl)
        ∙ sym (turned_here shape x.entry.cpu contents (turn_of x) x.lock (same_lock x.lock)))

    -- What words allow of its events may be done.
    pub other_enabled : RunsByWords shape (words_of s) (turn_events shape (enclosing x later) begun (lists_in (after_turn shape x.entry.cpu contents (turn_of x) x.lock)) x)
        → AreEnabled shape s (turn_events shape (enclosing x later) begun (lists_in (after_turn shape x.entry.cpu contents (turn_of x) x.lock)) x)
    unfolding seen
    other_enabled words =
        let around : List Drawn = enclosing x later in
        let events : List Event = turn_events shape around begun (lists_in (after_turn shape x.entry.cpu contents (turn_of x) x.lock)) x in
        let block : events ≡ map takes (not_begun begun (around ++ x ∷ [])) ++ goes_on shape seen around x [] =
        ap (λ (l : Lists). turn_events shape around begun l x) (sym seen_now) ∙ turn_block shape seen begun x later in
        let follows : Follows shape s events =
        subst (Follows shape s) (sym block)
        (shared_turn bounds lru common seen seen_m begun x later (lists_as shape s contents) s [] seen_pays (subst (Allows shape x.entry.cpu x.entry.part) (sym (seen_here x.lock refl)) allowed) seen_midway
        (fits_alike standing.fits (bases seen) none none (lists_as shape s contents) (λ b. refl) (λ b. refl) (λ b. refl) (λ lock list. refl))
        (λ t lists' mid' fits'. follows_none bounds t)) in
        let all : take (length events) events ≡ events = take-length events in
        runs_both bounds events s standing.fits.placed words (subst (RunsByLists shape s) all (follows (length events) (subst (RunsByWords shape (words_of s)) (sym all) words)))

-- After another turn, where lists under other locks are as they were: what a lock was given back with lies there.
pub other_stands : {shape : Shape} {contents : DomainId → Content} {m now_m : Midst} {s t : State} (cpu : ℕ) (lock : DomainId) (part : Part) → Standing shape contents m s → IsTrue (is_lock shape lock) → Placed shape t
    → t.lists (lock_number shape lock) ≡ lists_in (content_after shape cpu part (contents lock)) → ((j : ℕ) → j ≢ lock_number shape lock → t.lists j ≡ s.lists j)
    → ((c : ℕ) → lock ≡ Local c → (now_m.busy c ≡ false) × (now_m.got c ≡ []) × (now_m.sent c ≡ [])) → ((c : ℕ) → lock ≢ Local c → SameMidst m now_m c)
    → Standing shape (after_turn shape cpu contents (on_lock lock part)) now_m t
other_stands {shape} {contents} {m} {now_m} {s} {t} cpu lock part standing on placed given others rests same_m = record {
  fits = record {
    placed = placed;
    chains = λ b is e. decided (Bucket b) is
        (λ same lies. omega (arith, ap (λ (l : Lists). times e l.first) lies))
        (λ same lies kept. omega (arith, ap (λ (l : Lists). times e l.first) lies, ap (λ (k : Content). times e (lists_in k).first) kept, standing.fits.chains b is e));
    others = others_are;
  };
  locals = λ c is. decided (Local c) is
      (λ same lies. let at = rests c same in record { rest = λ _. (lies, at.1, at.2); free = λ busy. absurd (true≢false (sym busy ∙ at.0)); rows_are = λ busy. absurd (true≢false (sym busy ∙ at.0)) })
      (λ apart lies kept. let at = same_m c apart in mid_same lies kept at (standing.locals c is));
}
  where
    now : DomainId → Content
    now = after_turn shape cpu contents (on_lock lock part)

    decided : {F : Type 0} (l : DomainId) → IsTrue (is_lock shape l) → (lock ≡ l → lists_under shape t l ≡ lists_in (now l) → F) → (lock ≢ l → lists_under shape t l ≡ lists_under shape s l → now l ≡ contents l → F) → F
    decided l is here there = ⊎_elim
        (λ (same : is_same_lock lock l ≡ true).
        let at : lock ≡ l = one_lock lock l same in
        here at (ap (λ (k : DomainId). t.lists (lock_number shape k)) (sym at) ∙ given ∙ ap lists_in (ap (λ (k : DomainId). content_after shape cpu part (contents k)) at ∙ sym (turned_here shape cpu contents (on_lock lock part) l same))))
        (λ (differs : is_same_lock lock l ≡ false).
        let apart : lock ≢ l = λ at. true≢false (sym (ap (λ (k : DomainId). is_same_lock k l) at ∙ same_lock l) ∙ differs) in
        there apart (others (lock_number shape l) (number_apart shape l lock is on (λ at. apart (sym at)))) (turned_elsewhere shape cpu contents (on_lock lock part) l differs))
        (cases_Bool (is_same_lock lock l))

    lies_in : (l : DomainId) → IsTrue (is_lock shape l) → lists_under shape s l ≡ lists_in (contents l) → lists_under shape t l ≡ lists_in (now l)
    lies_in l is was = decided l is (λ same lies. lies) (λ apart lies kept. lies ∙ was ∙ ap lists_in (sym kept))

    others_are : (l : DomainId) → IsTrue (is_lock shape l) → is_bucket l ≡ false → lists_under shape t l ≡ lists_as shape t now l
    others_are (Local c) is list = refl
    others_are Global is list = lies_in Global is (standing.fits.others Global is list)
    others_are (CpuLru c) is list = lies_in (CpuLru c) is (standing.fits.others (CpuLru c) is list)
    others_are (Bucket b) is list = absurd (true≢false list)
    others_are (Freelist c) is list = lies_in (Freelist c) is (standing.fits.others (Freelist c) is list)

    mid_same : {c : ℕ} → lists_under shape t (Local c) ≡ lists_under shape s (Local c) → now (Local c) ≡ contents (Local c) → SameMidst m now_m c → MidLists (lists_under shape s (Local c)) (lists_in (contents (Local c))) (m.busy c) (m.got c) (m.sent c)
        → MidLists (lists_under shape t (Local c)) (lists_in (now (Local c))) (now_m.busy c) (now_m.got c) (now_m.sent c)
    mid_same {c} lies kept at mid =
        subst (λ (l : Lists). MidLists l (lists_in (now (Local c))) (now_m.busy c) (now_m.got c) (now_m.sent c)) (sym lies)
        (subst (λ (k : Content). MidLists (lists_under shape s (Local c)) (lists_in k) (now_m.busy c) (now_m.got c) (now_m.sent c)) (sym kept)
        (subst (λ (b : Bool). MidLists (lists_under shape s (Local c)) (lists_in (contents (Local c))) b (now_m.got c) (now_m.sent c)) (sym at.busy)
        (subst (λ (g : List ℕ). MidLists (lists_under shape s (Local c)) (lists_in (contents (Local c))) (m.busy c) g (now_m.sent c)) (sym at.got)
        (subst (λ (g : List ℕ). MidLists (lists_under shape s (Local c)) (lists_in (contents (Local c))) (m.busy c) (m.got c) g) (sym at.sent) mid))))
