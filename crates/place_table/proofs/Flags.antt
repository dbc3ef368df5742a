-- The CPUs of a pass as flags.
use Rattle.std.proofs.Common.{◌≡◌, ◌≢◌, ℕ, ◌+◌, ◌<◌, ◌≤◌, ⊎_elim, cond, Bool, true, false, List, [], ◌∷◌, ◌++◌, length, get_or, set, sym, refl, ap, ◌∙◌, subst, arith, length-set, get_or-set_same, get_or-set_other}
use Rattle.std.specs.Prelude.{replicate, nat_lt, ◌&&◌, ◌||◌}
use Rattle.std.proofs.lemmas.Bool.{lt-ltb, le-ltb, cases_lt}
use Rattle.std.proofs.lemmas.List.{same_lists, get_or_default}
use Rattle.std.proofs.lemmas.List.FromFn.{get_or-map-range_with_len, length-map-range_with_len}
use Rattle.place_table.specs.Views.{is_among, without_cpu}
use Rattle.place_table.specs.Passes.{flags_of}
use Rattle.place_table.proofs.Splits.{among_without_same, among_without_other}
use Rattle.place_table.proofs.StrandMoves.{among_append}
use Rattle.place_table.proofs.Worlds.{among_first}
use Rattle.map_types.proofs.RowLemmas.{by_test}

pub length_flags : (cpus : List ℕ) → length (flags_of cpus) ≡ 16
unfolding flags_of
length_flags cpus = length-map-range_with_len (λ cpu. is_among cpu cpus) 0 16

pub flag_at : (cpus : List ℕ) (cpu : ℕ) (d : Bool) → cpu < 16 → get_or (flags_of cpus) cpu d ≡ is_among cpu cpus
unfolding flags_of
flag_at cpus cpu d few = get_or-map-range_with_len (λ c. is_among c cpus) 0 16 cpu cpu d few (omega arith)

-- flags that say of each CPU whether it is among these
pub flags_by : (flags : List Bool) (cpus : List ℕ) → length flags ≡ 16 → ((cpu : ℕ) → cpu < 16 → get_or flags cpu false ≡ is_among cpu cpus) → flags ≡ flags_of cpus
flags_by flags cpus long each =
    same_lists flags (flags_of cpus) (long ∙ sym (length_flags cpus))
    (λ cpu d below. let few : cpu < 16 = omega (arith, long) in get_or_default flags cpu d false below ∙ (each cpu few ∙ sym (flag_at cpus cpu d few)))

pub no_flags : replicate {A = Bool} 16 false ≡ flags_of []
unfolding flags_of
no_flags = refl

among_more : (cpu c : ℕ) (cpus : List ℕ) → c ≢ cpu → is_among c (cpu ∷ cpus) ≡ is_among c cpus
among_more cpu c cpus other = by_test cpu c (λ b. cond b true (is_among c cpus) ≡ is_among c cpus) (λ e. absurd (other (sym e))) (λ _. refl)

pub flag_added : (cpus : List ℕ) (cpu : ℕ) → cpu < 16 → set (flags_of cpus) cpu true ≡ flags_of (cpu ∷ cpus)
flag_added cpus cpu few =
    flags_by (set (flags_of cpus) cpu true) (cpu ∷ cpus) (length-set (flags_of cpus) cpu true ∙ length_flags cpus)
    (λ c below. by_test c cpu (λ _. get_or (set (flags_of cpus) cpu true) c false ≡ is_among c (cpu ∷ cpus))
    (λ same. subst (λ (z : ℕ). get_or (set (flags_of cpus) cpu true) z false ≡ is_among z (cpu ∷ cpus)) (sym same)
    (get_or-set_same (flags_of cpus) cpu true false (omega (arith, length_flags cpus)) ∙ sym (among_first cpu cpus)))
    (λ other. get_or-set_other (flags_of cpus) cpu c true false other ∙ (flag_at cpus c false below ∙ sym (among_more cpu c cpus other))))

pub flag_dropped : (cpus : List ℕ) (cpu : ℕ) → cpu < 16 → set (flags_of cpus) cpu false ≡ flags_of (without_cpu cpu cpus)
flag_dropped cpus cpu few =
    flags_by (set (flags_of cpus) cpu false) (without_cpu cpu cpus) (length-set (flags_of cpus) cpu false ∙ length_flags cpus)
    (λ c below. by_test c cpu (λ _. get_or (set (flags_of cpus) cpu false) c false ≡ is_among c (without_cpu cpu cpus))
    (λ same. subst (λ (z : ℕ). get_or (set (flags_of cpus) cpu false) z false ≡ is_among z (without_cpu cpu cpus)) (sym same)
    (get_or-set_same (flags_of cpus) cpu false false (omega (arith, length_flags cpus)) ∙ sym (among_without_same cpu cpus)))
    (λ other. get_or-set_other (flags_of cpus) cpu c false false other ∙ (flag_at cpus c false below ∙ sym (among_without_other c cpu cpus other))))

-- Flags of two passes, up to a CPU

abbrev pub AddedBelow : List Bool → List Bool → ℕ → List Bool → Type 0
AddedBelow flags others n now = (length now ≡ 16) × ((cpu : ℕ) → get_or now cpu false ≡ (get_or flags cpu false || (nat_lt cpu n && get_or others cpu false)))

or_false : (a b : Bool) → b ≡ false → (a || b) ≡ a
or_false true b is = refl
or_false false b is = is

and_first : (a b : Bool) → a ≡ false → (a && b) ≡ false
and_first a b is = ap (λ x. x && b) is

pub added_none : (flags others : List Bool) → length flags ≡ 16 → AddedBelow flags others 0 flags
added_none flags others long = (long, λ cpu. sym (or_false (get_or flags cpu false) (nat_lt cpu 0 && get_or others cpu false) (and_first (nat_lt cpu 0) (get_or others cpu false) (le-ltb cpu 0 (omega arith)))))

pub added_more : (flags others now : List Bool) (n : ℕ) → n < 16 → AddedBelow flags others n now → AddedBelow flags others (n + 1) (set now n (get_or now n false || get_or others n false))
added_more flags others now n few so_far = (
  length-set now n (get_or now n false || get_or others n false) ∙ so_far.0,
  λ cpu. by_test cpu n (λ _. get_or (set now n (get_or now n false || get_or others n false)) cpu false ≡ (get_or flags cpu false || (nat_lt cpu (n + 1) && get_or others cpu false)))
      (λ same. subst (λ (z : ℕ). get_or (set now n (get_or now n false || get_or others n false)) z false ≡ (get_or flags z false || (nat_lt z (n + 1) && get_or others z false))) (sym same)
      (get_or-set_same now n (get_or now n false || get_or others n false) false (omega (arith, so_far.0))
      ∙ (ap (λ b. b || get_or others n false) (so_far.1 n ∙ or_false (get_or flags n false) (nat_lt n n && get_or others n false) (and_first (nat_lt n n) (get_or others n false) (le-ltb n n (omega arith))))
      ∙ ap (λ b. get_or flags n false || (b && get_or others n false)) (sym (lt-ltb n (n + 1) (omega arith))))))
      (λ other. get_or-set_other now n cpu (get_or now n false || get_or others n false) false other
      ∙ (so_far.1 cpu ∙ ap (λ b. get_or flags cpu false || (b && get_or others cpu false)) (same_below cpu n other))),
)
  where
    same_below : (a b : ℕ) → a ≢ b → nat_lt a b ≡ nat_lt a (b + 1)
    same_below a b other =
        ⊎_elim
        (λ (below : a < b). lt-ltb a b below ∙ sym (lt-ltb a (b + 1) (omega arith)))
        (λ (above : b ≤ a). le-ltb a b above ∙ sym (le-ltb a (b + 1) (omega arith)))
        (cases_lt a b)

pub added_all : (flags others now : List Bool) (n : ℕ) (cpus more : List ℕ) → 16 ≤ n → AddedBelow flags others n now → flags ≡ flags_of cpus → others ≡ flags_of more → now ≡ flags_of (cpus ++ more)
added_all flags others now n cpus more all so_far is others_are =
    flags_by now (cpus ++ more) so_far.0
    (λ cpu few. so_far.1 cpu
    ∙ ((λ i. get_or (is i) cpu false || (lt-ltb cpu n (let below : cpu < n = omega arith in below) i && get_or (others_are i) cpu false))
    ∙ ((λ i. flag_at cpus cpu false few i || flag_at more cpu false few i)
    ∙ (or_cond (is_among cpu cpus) (is_among cpu more) ∙ sym (among_append cpu cpus more)))))
  where
    or_cond : (a b : Bool) → (a || b) ≡ cond a true b
    or_cond true b = refl
    or_cond false b = refl
