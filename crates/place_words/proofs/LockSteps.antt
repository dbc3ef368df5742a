-- The steps that take locks and give them back keep the places and the ranks, and nobody waits in a circle.
use Rattle.std.proofs.Common.{◌≡◌, ◌≢◌, ℕ, zero, suc, ◌+◌, ◌<◌, ◌≤◌, ◌&&◌, ltb, Option, None, Some, ap, ◌∙◌, sym, subst, ⊎_elim, arith}
use Rattle.std.proofs.lemmas.Bool.{cases_eq}
use Rattle.map_types.specs.declared.attr.Shape.{Shape}
use Rattle.map_types.specs.declared.kind.DomainId.{DomainId}
use Rattle.map_types.specs.declared.kind.DomainId.TheVariants.{Local, Global, CpuLru, Bucket, Freelist}
use Rattle.map_types.specs.Kind.{is_lru}
use Rattle.place_words.specs.Locks.{rank_of, lock_number, lock_named}
use Rattle.place_words.proofs.LockLemmas.{named_by_number}
use Rattle.place_words.specs.declared.step.Lists.{Lists}
use Rattle.map_types.specs.ElementLists.{put, one, times}
use Rattle.place_words.specs.Openings.{is_free}
use Rattle.place_words.specs.State.{State, rows, HasOnlyItsLists}
use Rattle.place_words.specs.Places.{lies_at, has_row, Placed}
use Rattle.place_words.specs.Ranks.{Ranked, AreWants, Waits, IsStuck}
use Rattle.place_words.specs.Steps.{CanTake, taken, CanGive, given}
use Rattle.place_words.proofs.ElementLemmas.{at_put, put_here, put_else}
use Rattle.place_words.proofs.FrameLemmas.{fit_put, cursors_put}

-- a lock given back with the same elements
pub give_keeps : (shape : Shape) (s : State) (cpu : ℕ) (lock : DomainId) (lists : Lists) → CanGive shape s cpu lock lists → Placed shape s → Placed shape (given shape s lock lists)
give_keeps shape s cpu lock lists can p =
    let k = lock_number shape lock in
    let named = named_by_number shape lock can.holds.is_lock in
    record {
      place = p.place;
      placed = record {
        free = λ j x. at_put s.lists k lists (λ i l. times x l.free ≡ one (ltb x shape.elements && (is_free (s.owner x) && lies_at i (p.place x)))) j (can.same_free x ∙ p.placed.free k x) (λ _. p.placed.free j x);
        rows = λ j x. at_put s.lists k lists (λ i l. times x (rows l) ≡ one (ltb x shape.elements && has_row (is_lru shape.kind) (lock_named shape i) (s.owner x) (lies_at i (p.place x)))) j (can.same_rows x ∙ p.placed.rows k x) (λ _. p.placed.rows j x);
        owners = p.placed.owners;
        places = p.placed.places;
        homes = p.placed.homes;
        fit = fit_put shape s.lists k lists (subst (λ (d : DomainId). HasOnlyItsLists d lists) (sym named) can.fit) p.placed.fit;
        cursors = cursors_put s.lists k lists can.cursor p.placed.cursors;
      };
    }

-- the ranks speak of the holders alone
pub ranked_along : (shape : Shape) (s t : State) → t.holder ≡ s.holder → Ranked shape s → Ranked shape t
ranked_along shape s t same r = record {
  apart = λ cpu j k at_j at_k. r.apart cpu j k (ap (λ (h : ℕ → Option ℕ). h j) (sym same) ∙ at_j) (ap (λ (h : ℕ → Option ℕ). h k) (sym same) ∙ at_k);
  within = λ cpu k at_k. r.within cpu k (ap (λ (h : ℕ → Option ℕ). h k) (sym same) ∙ at_k);
}

pub take_ranked : (shape : Shape) (s : State) (cpu : ℕ) (lock : DomainId) → CanTake shape s cpu lock → Ranked shape s → Ranked shape (taken shape s cpu lock)
take_ranked shape s cpu lock can r = record { apart = apart; within = within }
  where
    k : ℕ
    k = lock_number shape lock

    holder : ℕ → Option ℕ
    holder = put s.holder (lock_number shape lock) (Some cpu)

    -- whoever holds the lock now is the CPU, and what else is held was held
    now_held : (c j : ℕ) → put s.holder (lock_number shape lock) (Some cpu) j ≡ Some c → (j ≢ lock_number shape lock → s.holder j ≡ Some c) × (j ≡ lock_number shape lock → cpu ≡ c)
    now_held c j is = (λ other. sym (put_else s.holder (lock_number shape lock) (Some cpu) j other) ∙ is, λ here. let at_lock : Some cpu ≡ Some c = sym (put_here s.holder (lock_number shape lock) (Some cpu)) ∙ (ap (put s.holder (lock_number shape lock) (Some cpu)) (sym here) ∙ is) in cc)

    rank_named : rank_of (lock_named shape (lock_number shape lock)) ≡ rank_of lock
    rank_named = ap rank_of (named_by_number shape lock can.is_lock)

    -- the CPU held nothing of the rank of the lock
    clash : (c j i : ℕ) → i ≡ lock_number shape lock → cpu ≡ c → s.holder j ≡ Some c → rank_of (lock_named shape j) ≡ rank_of (lock_named shape i) → ⊥
    clash c j i here same was ranks =
        let below = can.above j (was ∙ ap Some (sym same)) in
        let rank : rank_of (lock_named shape i) ≡ rank_of lock = ap (λ (x : ℕ). rank_of (lock_named shape x)) here ∙ rank_named in
        omega arith

    apart : (c j i : ℕ) → put s.holder (lock_number shape lock) (Some cpu) j ≡ Some c → put s.holder (lock_number shape lock) (Some cpu) i ≡ Some c → rank_of (lock_named shape j) ≡ rank_of (lock_named shape i) → j ≡ i
    apart c j i at_j at_i ranks =
        let held_j = now_held c j at_j in
        let held_i = now_held c i at_i in
        ⊎_elim
        (λ (j_here : j ≡ lock_number shape lock). ⊎_elim
        (λ (i_here : i ≡ lock_number shape lock). j_here ∙ sym i_here)
        (λ (i_other : i ≡ lock_number shape lock → ⊥). absurd (clash c i j j_here (held_j.1 j_here) (held_i.0 i_other) (sym ranks)))
        (cases_eq i (lock_number shape lock)))
        (λ (j_other : j ≡ lock_number shape lock → ⊥). ⊎_elim
        (λ (i_here : i ≡ lock_number shape lock). absurd (clash c j i i_here (held_i.1 i_here) (held_j.0 j_other) ranks))
        (λ (i_other : i ≡ lock_number shape lock → ⊥). r.apart c j i (held_j.0 j_other) (held_i.0 i_other) ranks)
        (cases_eq i (lock_number shape lock)))
        (cases_eq j (lock_number shape lock))

    within : (c j : ℕ) → put s.holder (lock_number shape lock) (Some cpu) j ≡ Some c → c < shape.cpus
    within c j at_j =
        let held = now_held c j at_j in
        ⊎_elim
        (λ (here : j ≡ lock_number shape lock). subst (λ (x : ℕ). x < shape.cpus) (held.1 here) can.is_cpu)
        (λ (other : j ≡ lock_number shape lock → ⊥). r.within c j (held.0 other))
        (cases_eq j (lock_number shape lock))

pub give_ranked : (shape : Shape) (s : State) (lock : DomainId) (lists : Lists) → Ranked shape s → Ranked shape (given shape s lock lists)
give_ranked shape s lock lists r = record {
  apart = λ c j i at_j at_i ranks. r.apart c j i (was c j at_j) (was c i at_i) ranks;
  within = λ c j at_j. r.within c j (was c j at_j);
}
  where
    was : (c j : ℕ) → put s.holder (lock_number shape lock) None j ≡ Some c → s.holder j ≡ Some c
    was c j at_j =
        at_put s.holder (lock_number shape lock) None (λ i h. h ≡ Some c → s.holder i ≡ Some c) j (λ none. absurd cc) (λ _ is. is) at_j

rank_bounded : (lock : DomainId) → rank_of lock ≤ 4
rank_bounded (Local cpu) = omega arith
rank_bounded Global = omega arith
rank_bounded (CpuLru cpu) = omega arith
rank_bounded (Bucket bucket) = omega arith
rank_bounded (Freelist cpu) = omega arith

-- whoever holds a lock waits for one of a higher rank, whose holder waits for one of a still higher rank
climb : (shape : Shape) (s : State) (wants : ℕ → Option ℕ) → AreWants shape s wants → ((cpu k : ℕ) → s.holder k ≡ Some cpu → Waits s wants cpu)
    → (steps : ℕ) (cpu k : ℕ) → s.holder k ≡ Some cpu → 4 < steps + rank_of (lock_named shape k) → ⊥
climb shape s wants are all zero cpu k held high = let low = rank_bounded (lock_named shape k) in omega arith
climb shape s wants are all (suc steps) cpu k held high =
    let waits = all cpu k held in
    let above = are cpu k waits.lock waits.wanted held in
    climb shape s wants are all steps waits.holder waits.lock waits.held (omega arith)

pub never_stuck : (shape : Shape) (s : State) (wants : ℕ → Option ℕ) → AreWants shape s wants → IsStuck s wants → ⊥
never_stuck shape s wants are stuck =
    climb shape s wants are stuck.all_wait 5 stuck.holder stuck.lock stuck.held (omega arith)
