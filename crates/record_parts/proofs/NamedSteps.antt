-- The marks by which it is judged that the steps of a strand are in order, step after step.
use Rattle.std.proofs.Common.{◌≡◌, ℕ, suc, ◌+◌, ◌<◌, Bool, true, false, cond, leb, ◌&&◌, List, ◌∷◌, length, get_or, replicate, set, drop, refl, ap, sym, ◌∙◌, subst, inl, inr, arith}
use Rattle.std.proofs.Math.Path.{fun_ext}
use Rattle.std.proofs.Math.ListN.{length-set}
use Rattle.std.specs.Prelude.{slice_get}
use Rattle.std.proofs.lemmas.Bool.{cases_eq, cases_lt, eq-eqb, ne_eqb}
use Rattle.std.proofs.lemmas.List.{drop_more, get_or-set_other, get_or-set_same, get_or_past, length-replicate}
use Rattle.std.proofs.lemmas.List.Elements.{All-replicate, All-set, All-weaker}
use Rattle.map_types.specs.declared.attr.Shape.{Shape}
use Rattle.map_types.specs.ElementLists.{put}
use Rattle.place_words.specs.declared.history.Entry.{Entry}
use Rattle.place_words.specs.declared.history.LockHistory.{LockHistory}
use Rattle.place_words.specs.declared.history.StrandStep.{StrandStep}
use Rattle.place_words.specs.Locks.{lock_count, lock_number}
use Rattle.map_report.specs.Record.{entries_of}
use Rattle.record_parts.specs.declared.strands.Mark.{Mark}
use Rattle.record_parts.specs.StrandTables.{AreMarks, are_named, froms, next_of, nothing_marked}
use Rattle.record_flaws.specs.StrandFlaws.{passes}
use Rattle.record_parts.proofs.NamedEntries.{put_here, put_elsewhere}

-- nothing was marked for a strand that comes
pub froms_first : (shape : Shape) (stamp : ℕ) (marks : List Mark) → 0 < stamp → AreMarks shape stamp marks → froms stamp marks ≡ (λ _. 0)
froms_first shape stamp marks some are = fun_ext (λ k. elim (cases_lt k (length marks)) [
  | inl within ↦
      let less : (get_or marks k nothing_marked).stamp < stamp = are.1 k nothing_marked within in
      ap (λ (b : Bool). cond b (suc (get_or marks k nothing_marked).last) 0) (ne_eqb (get_or marks k nothing_marked).stamp stamp (λ same. absurd (omega (arith, same, less))))
  | inr past ↦
      ap (next_of stamp) (get_or_past marks k nothing_marked past)
      ∙ ap (λ (b : Bool). cond b 1 0) (ne_eqb 0 stamp (λ same. absurd (omega (arith, same, some))))
])

pub marks_more : (shape : Shape) (stamp : ℕ) (marks : List Mark) → AreMarks shape stamp marks → AreMarks shape (stamp + 1) marks
marks_more shape stamp marks are = (are.0, All-weaker (λ (mark : Mark). mark.stamp < stamp) (λ (mark : Mark). mark.stamp < stamp + 1) (λ mark less. omega (arith, less)) marks are.1)

pub marks_set : (shape : Shape) (stamp : ℕ) (marks now : List Mark) (number last : ℕ) → now ≡ set marks number (record { stamp = stamp; last = last }) → AreMarks shape (stamp + 1) marks → AreMarks shape (stamp + 1) now
marks_set shape stamp marks now number last is are =
    let mark : Mark = record { stamp = stamp; last = last } in
    subst (AreMarks shape (stamp + 1)) (sym is)
    (length-set marks number mark ∙ are.0, All-set (λ (m : Mark). m.stamp < stamp + 1) marks number mark (omega arith) are.1)

froms_set : (stamp : ℕ) (marks : List Mark) (number last : ℕ) → number < length marks → froms stamp (set marks number (record { stamp = stamp; last = last })) ≡ put (froms stamp marks) number (suc last)
froms_set stamp marks number last within = fun_ext (λ k. elim (cases_eq k number) [
  | inl same ↦
      let mark : Mark = record { stamp = stamp; last = last } in
      ap (next_of stamp) (ap (λ (j : ℕ). get_or (set marks number mark) j nothing_marked) same ∙ get_or-set_same marks number mark nothing_marked within)
      ∙ (ap (λ (b : Bool). cond b (suc last) 0) (eq-eqb stamp stamp refl) ∙ (sym (put_here (froms stamp marks) number (suc last)) ∙ ap (put (froms stamp marks) number (suc last)) (sym same)))
  | inr other ↦
      let mark : Mark = record { stamp = stamp; last = last } in
      ap (next_of stamp) (get_or-set_other marks number k mark nothing_marked other) ∙ sym (put_elsewhere (froms stamp marks) number (suc last) k other)
])

both_true : (x y z : Bool) → x ≡ true → y ≡ true → ((x && y) && z) ≡ z
both_true true y z so second = ap (λ (b : Bool). b && z) second
both_true false y z so second = absurd cc

pub named_step : (shape : Shape) (histories : List LockHistory) (test : Entry → Bool) (stamp : ℕ) (marks now : List Mark) (number : ℕ) (steps : List StrandStep) (i : ℕ) (step : StrandStep)
    → i < length steps → get_or steps i step ≡ step → passes test (slice_get (entries_of histories step.lock) step.index) ≡ true
    → number ≡ lock_number shape step.lock → leb (froms stamp marks number) step.index ≡ true → number < length marks
    → now ≡ set marks number (record { stamp = stamp; last = step.index })
    → are_named shape histories test (froms stamp now) (drop (i + 1) steps) ≡ are_named shape histories test (froms stamp marks) (drop i steps)
named_step shape histories test stamp marks now number steps i step less at passing numbered least within is =
    let moved : froms stamp now ≡ put (froms stamp marks) (lock_number shape step.lock) (suc step.index) =
    ap (froms stamp) is ∙ (froms_set stamp marks number step.index within ∙ ap (λ (k : ℕ). put (froms stamp marks) k (suc step.index)) numbered) in
    let least_there : leb (froms stamp marks (lock_number shape step.lock)) step.index ≡ true = ap (λ (k : ℕ). leb (froms stamp marks k) step.index) (sym numbered) ∙ least in
    ap (λ (from : ℕ → ℕ). are_named shape histories test from (drop (i + 1) steps)) moved
    ∙ (sym (both_true (passes test (slice_get (entries_of histories step.lock) step.index)) (leb (froms stamp marks (lock_number shape step.lock)) step.index)
    (are_named shape histories test (put (froms stamp marks) (lock_number shape step.lock) (suc step.index)) (drop (i + 1) steps)) passing least_there)
    ∙ ap (are_named shape histories test (froms stamp marks)) (sym (drop_more steps i step less ∙ ap (λ (s : StrandStep). s ∷ drop (i + 1) steps) at)))

-- a step that isn't right
pub not_named : (shape : Shape) (histories : List LockHistory) (test : Entry → Bool) (from : ℕ → ℕ) (steps : List StrandStep) (i : ℕ) (step : StrandStep)
    → i < length steps → get_or steps i step ≡ step
    → (passes test (slice_get (entries_of histories step.lock) step.index) && leb (from (lock_number shape step.lock)) step.index) ≡ false
    → are_named shape histories test from (drop i steps) ≡ false
not_named shape histories test from steps i step less at wrong =
    ap (are_named shape histories test from) (drop_more steps i step less ∙ ap (λ (s : StrandStep). s ∷ drop (i + 1) steps) at)
    ∙ ap (λ (b : Bool). b && are_named shape histories test (put from (lock_number shape step.lock) (suc step.index)) (drop (i + 1) steps)) wrong

-- at first nothing is marked
pub none_marked : (shape : Shape) (n : ℕ) (marks : List Mark) → n ≡ lock_count shape → marks ≡ replicate n nothing_marked → AreMarks shape 1 marks
none_marked shape n marks many is =
    subst (AreMarks shape 1) (sym is)
    (length-replicate n nothing_marked ∙ many, All-replicate (λ (m : Mark). m.stamp < 1) n nothing_marked (omega arith))
