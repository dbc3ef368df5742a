-- Under the lock of a list lies a list of its sort, and after a turn there what the turn's part makes of it. Turns of other locks
-- leave it.
use Rattle.std.proofs.Common.{◌≡◌, ℕ, zero, suc, Bool, true, false, cond, List, [], ◌∷◌, ◌++◌, refl, ap, sym, ◌∙◌, subst}
use Rattle.std.specs.Prelude.{unwrap_or}
use Rattle.map_types.specs.declared.attr.Shape.{Shape}
use Rattle.map_types.specs.declared.kind.DomainId.{DomainId}
use Rattle.map_types.specs.declared.kind.DomainId.TheVariants.{Local, Global, CpuLru}
use Rattle.place_words.specs.declared.history.Entry.{Entry}
use Rattle.place_words.specs.declared.history.Part.{Part}
use Rattle.place_words.specs.declared.history.Part.TheVariants as parts
use Rattle.place_words.specs.declared.list_part.GlobalPart.{GlobalPart}
use Rattle.place_words.specs.declared.list_part.LocalPart.{LocalPart}
use Rattle.place_words.specs.Globals.{global_after}
use Rattle.place_words.specs.Histories.{Content, content, content_after, opening_content, replayed, in_bucket, on_freelist, in_locals, in_global, in_own, locals_in, global_in, own_in}
use Rattle.place_words.specs.Locals.{LocalLists, new_locals, local_after}
use Rattle.place_words.specs.Locks.{is_same_lock}
use Rattle.place_words.specs.Logs.{State, turned, all_turned, lies_in, locals_at, globals_at, own_at}
use Rattle.place_words.specs.Sets.{ListSet, new_set}
use Rattle.place_words.specs.Turns.{Turn, on_lock}
use Rattle.place_words.proofs.HistoryLemmas.{content_more}
use Rattle.place_words.proofs.LockLemmas.{same_lock}

-- the sort of what lies under a lock
sort_of : Content → ℕ
sort_of (in_bucket bodies) = 0
sort_of (on_freelist stack) = 1
sort_of (in_locals lists) = 2
sort_of (in_global set) = 3
sort_of (in_own set) = 4

sort_stays : (shape : Shape) (cpu : ℕ) (part : Part) (before : Content) → sort_of (content_after shape cpu part before) ≡ sort_of before
unfolding sort_of
sort_stays shape cpu (parts.Bucket part) (in_bucket bodies) = refl
sort_stays shape cpu (parts.Bucket part) (on_freelist stack) = refl
sort_stays shape cpu (parts.Bucket part) (in_locals lists) = refl
sort_stays shape cpu (parts.Bucket part) (in_global set) = refl
sort_stays shape cpu (parts.Bucket part) (in_own set) = refl
sort_stays shape cpu (parts.Free part) (in_bucket bodies) = refl
sort_stays shape cpu (parts.Free part) (on_freelist stack) = refl
sort_stays shape cpu (parts.Free part) (in_locals lists) = refl
sort_stays shape cpu (parts.Free part) (in_global set) = refl
sort_stays shape cpu (parts.Free part) (in_own set) = refl
sort_stays shape cpu (parts.Local part) (in_bucket bodies) = refl
sort_stays shape cpu (parts.Local part) (on_freelist stack) = refl
sort_stays shape cpu (parts.Local part) (in_locals lists) = refl
sort_stays shape cpu (parts.Local part) (in_global set) = refl
sort_stays shape cpu (parts.Local part) (in_own set) = refl
sort_stays shape cpu (parts.Global part) (in_bucket bodies) = refl
sort_stays shape cpu (parts.Global part) (on_freelist stack) = refl
sort_stays shape cpu (parts.Global part) (in_locals lists) = refl
sort_stays shape cpu (parts.Global part) (in_global set) = refl
sort_stays shape cpu (parts.Global part) (in_own set) = refl
sort_stays shape cpu (parts.Own part) (in_bucket bodies) = refl
sort_stays shape cpu (parts.Own part) (on_freelist stack) = refl
sort_stays shape cpu (parts.Own part) (in_locals lists) = refl
sort_stays shape cpu (parts.Own part) (in_global set) = refl
sort_stays shape cpu (parts.Own part) (in_own set) = refl

sort_replayed : (shape : Shape) (before : Content) (entries : List Entry) → sort_of (replayed shape before entries) ≡ sort_of before
unfolding replayed
sort_replayed shape before [] = refl
sort_replayed shape before (entry ∷ entries) = sort_replayed shape (content_after shape entry.cpu entry.part before) entries ∙ sort_stays shape entry.cpu entry.part before

other_sort : {X : Type 0} (m n : ℕ) → m ≡ n → Rattle.std.proofs.Common.eqb m n ≡ false → X
other_sort m n is other = absurd (Rattle.std.proofs.lemmas.Bool.eqb-false m n other is)

one_local : (here : Content) (d : LocalLists) → sort_of here ≡ 2 → here ≡ in_locals (unwrap_or (locals_in here) d)
unfolding sort_of
one_local (in_bucket bodies) d is = other_sort 0 2 is refl
one_local (on_freelist stack) d is = other_sort 1 2 is refl
one_local (in_locals lists) d is = refl
one_local (in_global set) d is = other_sort 3 2 is refl
one_local (in_own set) d is = other_sort 4 2 is refl

one_global : (here : Content) (d : ListSet) → sort_of here ≡ 3 → here ≡ in_global (unwrap_or (global_in here) d)
unfolding sort_of
one_global (in_bucket bodies) d is = other_sort 0 3 is refl
one_global (on_freelist stack) d is = other_sort 1 3 is refl
one_global (in_locals lists) d is = other_sort 2 3 is refl
one_global (in_global set) d is = refl
one_global (in_own set) d is = other_sort 4 3 is refl

one_own : (here : Content) (d : ListSet) → sort_of here ≡ 4 → here ≡ in_own (unwrap_or (own_in here) d)
unfolding sort_of
one_own (in_bucket bodies) d is = other_sort 0 4 is refl
one_own (on_freelist stack) d is = other_sort 1 4 is refl
one_own (in_locals lists) d is = other_sort 2 4 is refl
one_own (in_global set) d is = other_sort 3 4 is refl
one_own (in_own set) d is = refl

pub lies_locals : (shape : Shape) (state : State) (cpu : ℕ) → lies_in shape state (Local cpu) ≡ in_locals (locals_at shape state cpu)
unfolding sort_of
lies_locals shape state cpu = one_local _ (new_locals cpu) (sort_replayed shape (opening_content shape (Local cpu)) (state.logs (Local cpu)))

pub lies_globals : (shape : Shape) (state : State) → lies_in shape state Global ≡ in_global (globals_at shape state)
unfolding sort_of
lies_globals shape state = one_global _ (new_set []) (sort_replayed shape (opening_content shape Global) (state.logs Global))

pub lies_own : (shape : Shape) (state : State) (cpu : ℕ) → lies_in shape state (CpuLru cpu) ≡ in_own (own_at shape state cpu)
unfolding sort_of
lies_own shape state cpu = one_own _ (new_set []) (sort_replayed shape (opening_content shape (CpuLru cpu)) (state.logs (CpuLru cpu)))

-- After a turn

chosen : {X : Type 0} (b : Bool) (x y : X) → b ≡ true → cond b x y ≡ x
chosen true x y is = refl
chosen false x y is = absurd cc

-- what lies under the lock of the turn
pub lies_turned : (shape : Shape) (cpu number : ℕ) (turn : Turn) (state : State) → lies_in shape (turned shape cpu number turn state) turn.lock ≡ content_after shape cpu turn.part (lies_in shape state turn.lock)
lies_turned shape cpu number turn state =
    let entry : Entry = record { ticket = state.next_ticket; cpu = cpu; call = number; part = turn.part } in
    ap (content shape turn.lock) (chosen (is_same_lock turn.lock turn.lock) (state.logs turn.lock ++ entry ∷ []) (state.logs turn.lock) (same_lock turn.lock))
    ∙ content_more shape turn.lock (state.logs turn.lock) entry

pub locals_turned : (shape : Shape) (cpu number on : ℕ) (part : LocalPart) (state : State) → locals_at shape (turned shape cpu number (on_lock (Local on) (parts.Local part)) state) on ≡ local_after part (locals_at shape state on)
locals_turned shape cpu number on part state =
    ap (λ (lies : Content). unwrap_or (locals_in lies) (new_locals on)) (lies_turned shape cpu number (on_lock (Local on) (parts.Local part)) state ∙ ap (content_after shape cpu (parts.Local part)) (lies_locals shape state on))

pub globals_turned : (shape : Shape) (cpu number : ℕ) (part : GlobalPart) (state : State) → globals_at shape (turned shape cpu number (on_lock Global (parts.Global part)) state) ≡ global_after part (globals_at shape state)
globals_turned shape cpu number part state =
    ap (λ (lies : Content). unwrap_or (global_in lies) (new_set [])) (lies_turned shape cpu number (on_lock Global (parts.Global part)) state ∙ ap (content_after shape cpu (parts.Global part)) (lies_globals shape state))

-- Turns of other locks

abbrev pub AreElsewhere : DomainId → List Turn → Type 0
AreElsewhere lock [] = Unit {0}
AreElsewhere lock (turn ∷ turns) = (is_same_lock turn.lock lock ≡ false) × AreElsewhere lock turns

pub elsewhere_both : (lock : DomainId) (xs ys : List Turn) → AreElsewhere lock xs → AreElsewhere lock ys → AreElsewhere lock (xs ++ ys)
elsewhere_both lock [] ys first second = second
elsewhere_both lock (turn ∷ xs) ys first second = (first.0, elsewhere_both lock xs ys first.1 second)

other_log : {X : Type 0} (b : Bool) (x y : X) → b ≡ false → cond b x y ≡ y
other_log true x y is = absurd cc
other_log false x y is = refl

pub log_stays : (shape : Shape) (cpu number : ℕ) (turns : List Turn) (state : State) (lock : DomainId) → AreElsewhere lock turns → (all_turned shape cpu number turns state).logs lock ≡ state.logs lock
log_stays shape cpu number [] state lock apart = refl
log_stays shape cpu number (turn ∷ turns) state lock apart =
    log_stays shape cpu number turns (turned shape cpu number turn state) lock apart.1 ∙ other_log (is_same_lock turn.lock lock) _ (state.logs lock) apart.0

pub all_turned-append : (shape : Shape) (cpu number : ℕ) (xs ys : List Turn) (state : State) → all_turned shape cpu number (xs ++ ys) state ≡ all_turned shape cpu number ys (all_turned shape cpu number xs state)
all_turned-append shape cpu number [] ys state = refl
all_turned-append shape cpu number (turn ∷ xs) ys state = all_turned-append shape cpu number xs ys (turned shape cpu number turn state)
