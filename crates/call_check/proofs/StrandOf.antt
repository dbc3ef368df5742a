-- Which strand each CPU is in, in each phase.
use Rattle.std.proofs.Common.{◌≡◌, ℕ, ◌+◌, ◌*◌, ◌<◌, Bool, true, false, cond, eqb, List, [], ◌∷◌, get_or, Some, refl, ap, sym, ◌∙◌, subst, inl, inr, arith}
use Rattle.std.specs.Prelude.{All, ◌||◌, slice_get}
use Rattle.std.specs.List.{list_any}
use Rattle.std.proofs.lemmas.Bool.{cases_eq, cases_lt, eq-eqb, ne_eqb}
use Rattle.std.proofs.lemmas.List.Elements.{All-tail}
use Rattle.std.proofs.lemmas.Option.{same_Some}
use Rattle.map_script.specs.declared.script.Script.{Script}
use Rattle.map_script.specs.WellFormed.{IsWellFormed}
use Rattle.place_words.specs.declared.history.Strand.{Strand}
use Rattle.map_report.specs.declared.record.RunRecord.{RunRecord}
use Rattle.map_report.specs.Record.{has_cpu}
use Rattle.record_shape.specs.WellShaped.{WellShaped}
use Rattle.record_flaws.specs.StrandFlaws.{AreStrandsRight}
use Rattle.call_check.specs.StrandPlaces.{cell}
use Rattle.call_check.proofs.CpuLists.{and_both, or_first, or_second}
use Rattle.call_check.proofs.KnownStrands.{cpus_low}
use Rattle.call_check.proofs.KnownStrands.{apart_in}

pub low_of : (bound cpu : ℕ) (cpus : List ℕ) → All (λ (c : ℕ). c < bound) cpus → has_cpu cpu cpus ≡ true → cpu < bound
low_of bound cpu [] low is = absurd cc
low_of bound cpu (c ∷ cpus) low is = elim (cases_eq c cpu) [
  | inl same ↦ let first : c < bound = low 0 c (omega arith) in omega (arith, same, first)
  | inr other ↦ low_of bound cpu cpus (All-tail (λ (k : ℕ). k < bound) c cpus low) (ap (λ (b : Bool). b || has_cpu cpu cpus) (sym (ne_eqb c cpu other)) ∙ is)
]

one_cell : (phase other : ℕ) (cpu c : ℕ) → cpu < 16 → c < 16 → cell other c ≡ cell phase cpu → (other ≡ phase) × (c ≡ cpu)
one_cell phase other cpu c low low_too same =
    let flat : other * 16 + c ≡ phase * 16 + cpu = same in
    (omega (arith, flat), omega (arith, flat))

any_cell : (phase other cpu : ℕ) (cpus : List ℕ) → cpu < 16 → All (λ (c : ℕ). c < 16) cpus → list_any (λ c. eqb (cell other c) (cell phase cpu)) cpus ≡ true
    → (other ≡ phase) × (has_cpu cpu cpus ≡ true)
any_cell phase other cpu [] low all some = absurd cc
any_cell phase other cpu (c ∷ cpus) low all some = elim (cases_eq (cell other c) (cell phase cpu)) [
  | inl same ↦ let one = one_cell phase other cpu c low (all 0 c (omega arith)) same in (one.0, or_first (eqb c cpu) (has_cpu cpu cpus) (eq-eqb c cpu one.1))
  | inr apart ↦
      let rest = any_cell phase other cpu cpus low (All-tail (λ (k : ℕ). k < 16) c cpus all)
      (ap (λ (b : Bool). b || list_any (λ c. eqb (cell other c) (cell phase cpu)) cpus) (sym (ne_eqb (cell other c) (cell phase cpu) apart)) ∙ some) in
      (rest.0, or_second (eqb c cpu) (has_cpu cpu cpus) rest.1)
]

cell_any : (phase cpu : ℕ) (cpus : List ℕ) → has_cpu cpu cpus ≡ true → list_any (λ c. eqb (cell phase c) (cell phase cpu)) cpus ≡ true
cell_any phase cpu [] is = absurd cc
cell_any phase cpu (c ∷ cpus) is = elim (cases_eq c cpu) [
  | inl same ↦ or_first _ _ (eq-eqb (cell phase c) (cell phase cpu) (ap (cell phase) same))
  | inr other ↦ or_second _ _ (cell_any phase cpu cpus (ap (λ (b : Bool). b || has_cpu cpu cpus) (sym (ne_eqb c cpu other)) ∙ is))
]

-- the first strands lead there
abbrev pub FirstLead : List Strand → List ℕ → ℕ → Type 0
FirstLead strands table place =
    (n : ℕ) (strand : Strand) → n < place → slice_get strands n ≡ Some strand → (cpu : ℕ) → has_cpu cpu strand.cpus ≡ true → get_or table (cell strand.phase cpu) 0 ≡ n

pub one_more_leads : (script : Script) (kept : RunRecord) → IsWellFormed script → WellShaped script kept → AreStrandsRight script kept
    → (place : ℕ) (strand : Strand) → slice_get kept.strands place ≡ Some strand → (old now : List ℕ)
    → ((k : ℕ) → get_or now k 0 ≡ cond (list_any (λ cpu. eqb (cell strand.phase cpu) k) strand.cpus) place (get_or old k 0))
    → FirstLead kept.strands old place → FirstLead kept.strands now (place + 1)
one_more_leads script kept formed well right place strand at old now written lead n other less at_other cpu has =
    let low : cpu < 16 = low_of 16 cpu other.cpus (cpus_low script kept formed well n other at_other) has in
    elim (cases_lt n place) [
      | inl before ↦ by (list_any (λ c. eqb (cell strand.phase c) (cell other.phase cpu)) strand.cpus) refl low before
      | inr behind ↦
          let same : place ≡ n = omega (arith, less, behind) in
          let one : strand ≡ other = same_Some strand other (sym at ∙ (ap (slice_get kept.strands) same ∙ at_other)) in
          let some : list_any (λ c. eqb (cell strand.phase c) (cell other.phase cpu)) strand.cpus ≡ true =
          subst (λ (s : Strand). list_any (λ c. eqb (cell s.phase c) (cell other.phase cpu)) s.cpus ≡ true) (sym one) (cell_any other.phase cpu other.cpus has) in
          written (cell other.phase cpu) ∙ (ap (λ (b : Bool). cond b place (get_or old (cell other.phase cpu) 0)) some ∙ same)
    ]
  where
    by : (b : Bool) → list_any (λ c. eqb (cell strand.phase c) (cell other.phase cpu)) strand.cpus ≡ b → cpu < 16 → n < place → get_or now (cell other.phase cpu) 0 ≡ n
    by true some low before =
        let one = any_cell other.phase strand.phase cpu strand.cpus low (cpus_low script kept formed well place strand at) some in
        absurd (apart_in script kept right.strand_of right.cpus_are place strand at n other before at_other cpu one.1
        (and_both (eqb other.phase strand.phase) (has_cpu cpu other.cpus) (eq-eqb other.phase strand.phase (sym one.0)) has))
    by false none low before =
        written (cell other.phase cpu) ∙ (ap (λ (b : Bool). cond b place (get_or old (cell other.phase cpu) 0)) none ∙ lead n other before at_other cpu has)
