-- What the tests of a theft's walks tell.
use Rattle.std.proofs.Common.{◌≡◌, ℕ, Bool, true, false, not, cond, eqb, List, [], ◌∷◌, reverse, length, refl, ap, sym, ◌∙◌, subst, arith}
use Rattle.std.specs.Prelude.{All, MatchBool, is_some, count_by}
use Rattle.std.proofs.lemmas.Bool.{eq-eqb, eqb-true}
use Rattle.std.proofs.lemmas.List.{nil_from_length, length-reverse, reverse-reverse}
use Rattle.std.proofs.lemmas.List.Elements.{All-cons, All-nil, All-rest, All-get_or}
use Rattle.map_types.specs.declared.row.Row.{Row}
use Rattle.place_words.specs.declared.visits.Look.{Look}
use Rattle.place_words.specs.declared.visits.Try.{Try}
use Rattle.place_words.specs.Locals.{AreSparing, AreUnsparing, IsSearch}
use Rattle.place_words.specs.Shrinking.{IsFirstEnd, look_removed, try_removed}
use Rattle.local_replay.specs.Walks.{is_probed, spares, spares_none}
use Rattle.local_replay.proofs.PartLaws.{seen, by_cases, unlike}
use Rattle.local_replay.proofs.WalkMeaning.{Means, ends_at, told, tell}

probed_from : (bit some : Bool) → cond bit (not some) some ≡ true → some ≡ not bit
probed_from true true is = absurd cc
probed_from true false is = refl
probed_from false true is = refl
probed_from false false is = absurd cc

probed_to : (bit some : Bool) → some ≡ not bit → cond bit (not some) some ≡ true
probed_to true true is = absurd cc
probed_to true false is = refl
probed_to false true is = refl
probed_to false false is = absurd cc

abbrev Probed : Look → Type 0
Probed look = is_some look.probed ≡ not look.bit

abbrev Tested : Look → Type 0
Tested look = is_probed look ≡ true

all_probed : (looks : List Look) → All Tested looks → All Probed looks
all_probed [] all = All-nil Probed
all_probed (look ∷ looks) all =
    All-cons Probed look looks (probed_from look.bit (is_some look.probed) (All-get_or Tested (look ∷ looks) 0 look (omega arith) all)) (all_probed looks (All-rest Tested look looks (look ∷ looks) refl all))

all_tested : (looks : List Look) → All Probed looks → All Tested looks
all_tested [] all = All-nil Tested
all_tested (look ∷ looks) all =
    All-cons Tested look looks (probed_to look.bit (is_some look.probed) (All-get_or Probed (look ∷ looks) 0 look (omega arith) all)) (all_tested looks (All-rest Probed look looks (look ∷ looks) refl all))

abbrev Fine : Try → Type 0
Fine try = ◌≡◌ {A = Bool} true true

all_fine : (tries : List Try) → All Fine tries
all_fine [] = All-nil Fine
all_fine (try ∷ tries) = All-cons Fine try tries refl (all_fine tries)

sparing_told : (pending : List Row) (looks : List Look) → spares (reverse pending) looks ≡ true → AreSparing pending looks
sparing_told pending looks is =
    let means : Means (λ (look : Look). look.element) is_probed look_removed (reverse pending) looks = told (λ (look : Look). look.element) is_probed look_removed (reverse pending) looks is in
    record {
      from_tail = means.from_tail;
      probed = all_probed looks means.fit;
      until = subst (λ (n : ℕ). IsFirstEnd (ends_at look_removed n) looks) (length-reverse pending) means.until;
    }

sparing_tells : (pending : List Row) (looks : List Look) → AreSparing pending looks → spares (reverse pending) looks ≡ true
sparing_tells pending looks are =
    tell (λ (look : Look). look.element) is_probed look_removed (reverse pending) looks (record {
      from_tail = are.from_tail;
      fit = all_tested looks are.probed;
      until = subst (λ (n : ℕ). IsFirstEnd (ends_at look_removed n) looks) (sym (length-reverse pending)) are.until;
    })

unsparing_told : (pending : List Row) (tries : List Try) → spares_none (reverse pending) tries ≡ true → AreUnsparing pending tries
unsparing_told pending tries is =
    let means : Means (λ (try : Try). try.element) (λ (try : Try). true) try_removed (reverse pending) tries = told (λ (try : Try). try.element) (λ (try : Try). true) try_removed (reverse pending) tries is in
    record {
      from_tail = means.from_tail;
      until = subst (λ (n : ℕ). IsFirstEnd (ends_at try_removed n) tries) (length-reverse pending) means.until;
    }

unsparing_tells : (pending : List Row) (tries : List Try) → AreUnsparing pending tries → spares_none (reverse pending) tries ≡ true
unsparing_tells pending tries are =
    tell (λ (try : Try). try.element) (λ (try : Try). true) try_removed (reverse pending) tries (record {
      from_tail = are.from_tail;
      fit = all_fine tries;
      until = subst (λ (n : ℕ). IsFirstEnd (ends_at try_removed n) tries) (sym (length-reverse pending)) are.until;
    })

module _ (free : List ℕ) (items : List Row) (steal : ℕ) (first : List Look) (second : List Try) where
  pub search_refuses : spares items first ≡ false → IsSearch (seen free items steal) first second → ⊥
  search_refuses miss search_is =
      unlike (subst (λ (l : List Row). spares l first ≡ true) (reverse-reverse items) (sparing_tells (reverse items) first search_is.sparing)) miss

  pub search_second : free ≡ [] → spares items first ≡ true → eqb (count_by look_removed first) 0 ≡ true → (b : Bool) → b ≡ spares_none items second
      → MatchBool b (IsSearch (seen free items steal) first second) (¬ IsSearch (seen free items steal) first second)
  search_second none all count b is =
      by_cases b (IsSearch (seen free items steal) first second)
      (λ hit. record {
        none_free = ap reverse none;
        sparing = sparing_told (reverse items) first (subst (λ (l : List Row). spares l first ≡ true) (sym (reverse-reverse items)) all);
        unsparing = subst (λ (x : Bool). MatchBool x (AreUnsparing (reverse items) second) (second ≡ [])) (sym count)
            (unsparing_told (reverse items) second (subst (λ (l : List Row). spares_none l second ≡ true) (sym (reverse-reverse items)) (sym is ∙ hit)));
      })
      (λ miss search_is. unlike
      (subst (λ (l : List Row). spares_none l second ≡ true) (reverse-reverse items) (unsparing_tells (reverse items) second
      (subst (λ (x : Bool). MatchBool x (AreUnsparing (reverse items) second) (second ≡ [])) count search_is.unsparing)))
      (sym is ∙ miss))

  pub search_one : free ≡ [] → spares items first ≡ true → eqb (count_by look_removed first) 0 ≡ false → (b : Bool) → b ≡ eqb (length second) 0
      → MatchBool b (IsSearch (seen free items steal) first second) (¬ IsSearch (seen free items steal) first second)
  search_one none all count b is =
      by_cases b (IsSearch (seen free items steal) first second)
      (λ hit. record {
        none_free = ap reverse none;
        sparing = sparing_told (reverse items) first (subst (λ (l : List Row). spares l first ≡ true) (sym (reverse-reverse items)) all);
        unsparing = subst (λ (x : Bool). MatchBool x (AreUnsparing (reverse items) second) (second ≡ [])) (sym count)
            (nil_from_length second (eqb-true (length second) 0 (sym is ∙ hit)));
      })
      (λ miss search_is. unlike
      (eq-eqb (length second) 0 (ap length (subst (λ (x : Bool). MatchBool x (AreUnsparing (reverse items) second) (second ≡ [])) count search_is.unsparing)))
      (sym is ∙ miss))
