-- What an object that answers by place answers next.
use Rattle.std.proofs.Common.{◌≡◌, ℕ, Bool, true, false, ◌&&◌, List, [], ◌∷◌, ◌++◌, map, length, get_or, refl, ap, ◌∙◌, sym, subst}
use Rattle.std.proofs.lemmas.Bool.{true≢false}
use Rattle.std.proofs.lemmas.List.{map-append, length-map}
use Rattle.std.specs.Prelude.{IsPermutation}
use Rattle.lru_lists.specs.declared.bits.BitCall.{BitCall}
use Rattle.lru_lists.specs.declared.bits.ProbeCall.{ProbeCall}
use Rattle.place_words.specs.declared.bucket_part.Seen.{Seen}
use Rattle.place_words.specs.declared.bucket_part.Seen.TheVariants.{Held}
use Rattle.place_words.specs.declared.visits.Visit.{Visit}
use Rattle.lru_lists.specs.declared.notes.Noted.TheVariants.{Kept}
use Rattle.lru_lists.specs.declared.notes.RotateNotes.{RotateNotes}
use Rattle.lru_lists.specs.Notes.{AreNoted}
use Rattle.lru_lists.specs.Sets.{SetView, IsSet, listed, with_listed}
use Rattle.lru_rotate.specs.Rotating.{Rotation, cleared}
use Rattle.place_words.specs.Rotation.{rotated, AreRotationVisits}
use Rattle.set_replay.specs.ByPlace.{ByPlace, Fed, call_bit, visit_bits}
use Rattle.set_replay.specs.Judged.{ToldRotation, RotationJudged, KeptSame}
use Rattle.set_replay.proofs.Unique.{unique_rotation}

-- the next answer is what is told at the next place
pub by_place_push : {A : Type 0} (past : A) (told given : List A) → ByPlace past told given → ByPlace past told (given ++ get_or told (length given) past ∷ [])
by_place_push past [] [] by = (refl, tt)
by_place_push past (t ∷ told) [] by = (refl, tt)
by_place_push past [] (x ∷ given) by = (by.0, by_place_push past [] given by.1)
by_place_push past (t ∷ told) (x ∷ given) by = (by.0, by_place_push past told given by.1)

-- answers of some calls, one more of which is the next by place
pub answered_push : {A B : Type 0} (past : A) (answer : B → A) (told : List A) (calls : List B) (call : B)
    → answer call ≡ get_or told (length calls) past → ByPlace past told (map answer calls) → ByPlace past told (map answer (calls ++ call ∷ []))
answered_push past answer told calls call is by =
    subst (λ given. ByPlace past told given)
    (ap (λ n. map answer calls ++ get_or told n past ∷ []) (length-map calls answer) ∙ ap (λ x. map answer calls ++ x ∷ []) (sym is) ∙ sym (map-append answer calls (call ∷ [])))
    (by_place_push past told (map answer calls) by)

pub fed_call : (bits : List Bool) (seens : List Seen) (calls : List BitCall) (call : BitCall) (probes : List ProbeCall) (lost : Bool)
    → call_bit call ≡ get_or bits (length calls) false → Fed bits seens calls probes lost → Fed bits seens (calls ++ call ∷ []) probes lost
fed_call bits seens calls call probes lost is fed = (answered_push false call_bit bits calls call is fed.0, fed.1)

pub fed_probe : (bits : List Bool) (seens : List Seen) (calls : List BitCall) (probes : List ProbeCall) (probe : ProbeCall) (lost : Bool)
    → probe.probed ≡ get_or seens (length probes) (Held 0) → Fed bits seens calls probes lost → Fed bits seens calls (probes ++ probe ∷ []) lost
fed_probe bits seens calls probes probe lost is fed =
    (fed.0, λ kept. answered_push (Held 0) (λ (p : ProbeCall). p.probed) seens probes probe is (fed.1 kept))

-- nothing was asked yet
pub none_fed : (bits : List Bool) (seens : List Seen) (calls : List BitCall) (probes : List ProbeCall) (lost : Bool) → calls ≡ [] → probes ≡ [] → Fed bits seens calls probes lost
none_fed bits seens calls probes lost no_calls no_probes = (
  subst (λ (xs : List BitCall). ByPlace false bits (map call_bit xs)) (sym no_calls) tt,
  λ kept. subst (λ (xs : List ProbeCall). ByPlace (Held 0) seens (map (λ (probe : ProbeCall). probe.probed) xs)) (sym no_probes) tt,
)

bits_of_cleared : (visits : List Visit) → map call_bit (cleared visits) ≡ visit_bits visits
bits_of_cleared [] = refl
bits_of_cleared (visit ∷ visits) = ap (λ bits. visit.bit ∷ bits) (bits_of_cleared visits)

-- a rotation whose calls were answered by place finds the bits that are told
pub told_rotation : (scans : ℕ) (before after : SetView) (bits : List Bool) (calls calls_after : List BitCall) (notes notes_after : RotateNotes)
    → calls ≡ [] → notes ≡ record { active = Kept []; inactive = Kept [] } → Rotation scans before after calls calls_after notes notes_after
    → IsPermutation (before.active ++ before.inactive) (after.active ++ after.inactive)
    → IsSet after → ByPlace false bits (map call_bit calls_after) → ToldRotation scans bits before after notes_after
told_rotation scans before after bits calls calls_after notes notes_after none empty rotation moved is_set by =
    let visits = rotation.active ++ rotation.inactive in
    record {
      active = rotation.active;
      inactive = rotation.inactive;
      visits = rotation.visits;
      set = rotation.set;
      rows = moved;
      whole = is_set;
      by_place = subst (λ given. ByPlace false bits given)
          (ap (map call_bit) rotation.asked ∙ ap (λ (c : List BitCall). map call_bit (c ++ cleared visits)) none ∙ bits_of_cleared visits) by;
      noted_active = subst (λ (n : RotateNotes). AreNoted rotation.active n.active notes_after.active) empty rotation.noted_active;
      noted_inactive = subst (λ (n : RotateNotes). AreNoted rotation.inactive n.inactive notes_after.inactive) empty rotation.noted_inactive;
    }

-- Where the rotation that finds what is told noted what is told, that is lawful, and else it isn't.
pub judged_same : (scans : ℕ) (before after : SetView) (active inactive : List Visit) (notes : RotateNotes) (first second : List Visit)
    → ToldRotation scans (visit_bits (active ++ inactive)) before after notes → notes.active ≡ Kept first → notes.inactive ≡ Kept second
    → first ≡ active → second ≡ inactive
    → RotationJudged scans active inactive before after true
judged_same scans before after active inactive notes first second told is_first is_second same_active same_inactive =
    let kept_active : first ≡ told.active = subst (λ n. AreNoted told.active (Kept []) n) is_first told.noted_active in
    let kept_inactive : second ≡ told.inactive = subst (λ n. AreNoted told.inactive (Kept []) n) is_second told.noted_inactive in
    let a : told.active ≡ active = sym kept_active ∙ same_active in
    let i : told.inactive ≡ inactive = sym kept_inactive ∙ same_inactive in
    record {
      allowed = λ yes. subst (λ (x : List Visit). AreRotationVisits scans (listed before) active x) i (subst (λ (x : List Visit). AreRotationVisits scans (listed before) x told.inactive) a told.visits);
      set = λ yes. told.set ∙ ap (λ (x : List Visit). with_listed (rotated scans (listed before) x told.inactive) before) a ∙ ap (λ (x : List Visit). with_listed (rotated scans (listed before) active x) before) i;
      rows = told.rows;
      whole = told.whole;
      refused = λ no. absurd (true≢false no);
    }

pub judged_other : (scans : ℕ) (before after : SetView) (active inactive : List Visit) (notes : RotateNotes) (first second : List Visit)
    → ToldRotation scans (visit_bits (active ++ inactive)) before after notes → notes.active ≡ Kept first → notes.inactive ≡ Kept second
    → (first ≡ active → second ≡ inactive → ⊥)
    → RotationJudged scans active inactive before after false
judged_other scans before after active inactive notes first second told is_first is_second differ =
    let kept_active : first ≡ told.active = subst (λ n. AreNoted told.active (Kept []) n) is_first told.noted_active in
    let kept_inactive : second ≡ told.inactive = subst (λ n. AreNoted told.inactive (Kept []) n) is_second told.noted_inactive in
    record {
      allowed = λ yes. absurd (true≢false (sym yes));
      set = λ yes. absurd (true≢false (sym yes));
      rows = told.rows;
      whole = told.whole;
      refused = λ no are.
          let same = unique_rotation scans (listed before) active inactive told.active told.inactive are told.visits told.by_place in
          differ (kept_active ∙ same.0) (kept_inactive ∙ same.1);
    }

pub judged_rotation : (scans : ℕ) (before after : SetView) (active inactive : List Visit) (notes : RotateNotes) (b c : Bool)
    → ToldRotation scans (visit_bits (active ++ inactive)) before after notes → KeptSame notes.active active b → KeptSame notes.inactive inactive c
    → RotationJudged scans active inactive before after (b && c)
judged_rotation scans before after active inactive notes true true told p q =
    judged_same scans before after active inactive notes p.kept q.kept told p.is q.is (p.same_then refl) (q.same_then refl)
judged_rotation scans before after active inactive notes true false told p q =
    judged_other scans before after active inactive notes p.kept q.kept told p.is q.is (λ a i. true≢false (sym (q.same_where i)))
judged_rotation scans before after active inactive notes false c told p q =
    judged_other scans before after active inactive notes p.kept q.kept told p.is q.is (λ a i. true≢false (sym (p.same_where a)))
