-- What a shrink that finds what is told tells of what is told.
use Rattle.std.proofs.Common.{◌≡◌, ℕ, ◌<◌, ◌+◌, ◌-◌, Bool, true, false, ◌&&◌, List, [], ◌∷◌, ◌++◌, map, length, take, get_or, refl, ap, ◌∙◌, sym, subst, arith}
use Rattle.std.specs.Prelude.{Option, None, Some, reverse, option_map, option_to_list}
use Rattle.std.specs.List.{cons_option}
use Rattle.std.proofs.lemmas.Bool.{true≢false}
use Rattle.std.proofs.lemmas.List.{append-nil, reverse-append, map-append, take_more, length-map, length-reverse}
use Rattle.map_types.specs.ElementLists.{times}
use Rattle.map_types.specs.Stored.{Stored}
use Rattle.map_types.specs.declared.row.Row.{Row}
use Rattle.percpu_values.specs.BodyList.{BodyList}
use Rattle.place_words.specs.Bodies.{numbers}
use Rattle.place_words.specs.Shrinking.{IsShrink, freed}
use Rattle.place_words.specs.declared.bucket_part.Seen.{Seen}
use Rattle.place_words.specs.declared.bucket_part.Seen.TheVariants.{Held}
use Rattle.place_words.specs.declared.visits.Look.{Look}
use Rattle.place_words.specs.declared.visits.ShrinkNote.{ShrinkNote}
use Rattle.place_words.specs.declared.visits.Try.{Try}
use Rattle.row_list.proofs.ElementLemmas.{times_reverse}
use Rattle.lru_lists.specs.Notes.{AreNoted}
use Rattle.lru_lists.specs.Sets.{SetView, IsSet, listed}
use Rattle.lru_lists.specs.declared.bits.BitCall.{BitCall}
use Rattle.lru_lists.specs.declared.bits.ProbeCall.{ProbeCall}
use Rattle.lru_lists.specs.declared.notes.Noted.TheVariants.{Kept}
use Rattle.lru_lists.specs.declared.notes.ShrinkNotes.{ShrinkNotes}
use Rattle.lru_shrink.specs.Asking.{Questions}
use Rattle.lru_shrink.specs.Shrunk.{AreStacked, Shrink, cleared, probe_by, probes_of_looks, probes_of_tries}
use Rattle.set_replay.specs.ByPlace.{ByPlace, call_bit, look_bits, look_seens, try_seens}
use Rattle.set_replay.specs.Judged.{AreOut, ShrunkInto, ToldShrink, ShrinkJudged, KeptSame}
use Rattle.set_replay.proofs.Unique.{unique_shrink}

-- Stacks of bodies

numbers_reverse : (bodies : List Stored) → numbers (reverse bodies) ≡ reverse (numbers bodies)
numbers_reverse [] = refl
numbers_reverse (body ∷ bodies) =
    ap numbers (reverse-append (body ∷ []) bodies)
    ∙ (map-append (λ (b : Stored). b.element) (reverse bodies) (body ∷ [])
    ∙ (ap (λ (l : List ℕ). l ++ body.element ∷ []) (numbers_reverse bodies) ∙ sym (reverse-append (body.element ∷ []) (numbers bodies))))

-- what came on an empty stack, the first deepest
stacked_numbers : (gives : Stored → Type 0) (elements : List ℕ) (before after : BodyList) → AreStacked gives elements before after → before.bodies ≡ [] → numbers after.bodies ≡ reverse elements
stacked_numbers gives elements before after s none =
    ap (λ (z : BodyList). numbers z.bodies) s.stacked
    ∙ (ap (λ (l : List Stored). numbers (reverse s.bodies ++ l)) none
    ∙ (ap numbers (append-nil (reverse s.bodies)) ∙ (numbers_reverse s.bodies ∙ ap reverse s.numbers)))

-- Answers

bits_of_cleared : (looks : List Look) → map call_bit (cleared looks) ≡ look_bits looks
bits_of_cleared [] = refl
bits_of_cleared (look ∷ looks) = ap (λ bits. look.bit ∷ bits) (bits_of_cleared looks)

abbrev found : List ProbeCall → List Seen
found probes = map (λ probe. probe.probed) probes

found_by_looks : (rows : List Row) (looks : List Look) → found (probes_of_looks rows looks) ≡ look_seens looks
found_by_looks rows [] = refl
found_by_looks rows (look ∷ looks) = go look.probed (found_by_looks rows looks)
  where
    go : (probed : Option Seen) → found (probes_of_looks rows looks) ≡ look_seens looks
        → found (cons_option (option_map (probe_by rows look.element) probed) (probes_of_looks rows looks)) ≡ cons_option probed (look_seens looks)
    go None same = same
    go (Some seen) same = ap (λ l. seen ∷ l) same

found_by_tries : (rows : List Row) (tries : List Try) → found (probes_of_tries rows tries) ≡ try_seens tries
found_by_tries rows [] = refl
found_by_tries rows (try ∷ tries) = ap (λ l. try.probed ∷ l) (found_by_tries rows tries)

found_by_both : (rows : List Row) (looks : List Look) (forced : List Try) → found (probes_of_looks rows looks ++ probes_of_tries rows forced) ≡ look_seens looks ++ try_seens forced
found_by_both rows looks forced =
    map-append (λ (probe : ProbeCall). probe.probed) (probes_of_looks rows looks) (probes_of_tries rows forced)
    ∙ (ap (λ l. l ++ found (probes_of_tries rows forced)) (found_by_looks rows looks) ∙ ap (λ l. look_seens looks ++ l) (found_by_tries rows forced))

-- A shrink into an empty stack

module _ {scans target : ℕ} {gives : Stored → Type 0} {before after : SetView} {asked asked_after : Questions} {out out_after : BodyList} {notes notes_after : ShrinkNotes} {answer : ℕ}
    (s : Shrink scans target gives (record { set = before; asked = asked; out = out; notes = notes }) (record { set = after; asked = asked_after; out = out_after; notes = notes_after }) answer) where
  freed_times : out.bodies ≡ [] → (e : ℕ) → times e (numbers out_after.bodies) ≡ times e (freed s.looks s.forced)
  freed_times none e = ap (times e) (stacked_numbers gives (freed s.looks s.forced) out out_after s.left none) ∙ times_reverse e (freed s.looks s.forced)

  are_out : IsSet before → out.bodies ≡ [] → AreOut after out out_after
  are_out whole none = record {
    below = λ e some.
        let same = freed_times none e in
        let all = s.rows e in
        subst (λ (n : ℕ). e < n) (sym (ap (λ (z : SetView). z.elements) s.set)) (whole.below e (omega (arith, some, same, all)));
    once = λ e.
        let same = freed_times none e in
        let all = s.rows e in
        let once = whole.once e in
        omega (arith, same, all, once);
    room =
        let spare : out_after.spare ≡ out.spare - length s.left.bodies = ap (λ (z : BodyList). z.spare) s.left.stacked in
        let names : length (numbers out_after.bodies) ≡ length (reverse (freed s.looks s.forced)) = ap (λ (l : List ℕ). length l) (stacked_numbers gives (freed s.looks s.forced) out out_after s.left none) in
        let gone : length s.left.bodies ≡ length (freed s.looks s.forced) = sym (length-map s.left.bodies (λ (b : Stored). b.element)) ∙ ap (λ (l : List ℕ). length l) s.left.numbers in
        omega (arith, spare, names, gone, length-reverse (freed s.looks s.forced), length-map out_after.bodies (λ (b : Stored). b.element), s.left.fits);
  }

  pub told_shrink : (bits : List Bool) (seens : List Seen)
      → IsSet before → out.bodies ≡ []
      → asked.calls ≡ [] → asked.probes ≡ [] → notes ≡ record { looks = Kept []; forced = Kept [] }
      → ByPlace false bits (map call_bit asked_after.calls) → ByPlace (Held 0) seens (found asked_after.probes)
      → ToldShrink scans target bits seens before after out out_after asked_after.probes notes_after
  told_shrink bits seens whole none no_calls no_probes no_notes by_bits by_seens = record {
    looks = s.looks;
    forced = s.forced;
    shrinks = s.shrinks;
    into = record {
      set = s.set;
      freed = stacked_numbers gives (freed s.looks s.forced) out out_after s.left none;
      probed = s.probed ∙ ap (λ (p : List ProbeCall). p ++ probes_of_looks (before.active ++ before.inactive) s.looks ++ probes_of_tries (before.active ++ before.inactive) s.forced) no_probes;
    };
    came = are_out whole none;
    bits_by_place = subst (λ given. ByPlace false bits given)
        (ap (map call_bit) s.asked ∙ (ap (λ (c : List BitCall). map call_bit (c ++ cleared s.looks)) no_calls ∙ bits_of_cleared s.looks)) by_bits;
    seens_by_place = subst (λ given. ByPlace (Held 0) seens given)
        (ap found s.probed ∙ (ap (λ (p : List ProbeCall). found (p ++ probes_of_looks (before.active ++ before.inactive) s.looks ++ probes_of_tries (before.active ++ before.inactive) s.forced)) no_probes
        ∙ found_by_both (before.active ++ before.inactive) s.looks s.forced)) by_seens;
    noted_looks = subst (λ (n : ShrinkNotes). AreNoted s.looks n.looks notes_after.looks) no_notes s.noted_looks;
    noted_forced = subst (λ (n : ShrinkNotes). AreNoted s.forced n.forced notes_after.forced) no_notes s.noted_forced;
  }

-- Where the shrink that finds what is told noted what is told, that is lawful, and else it isn't.
pub judged_shrink : (scans : ℕ) (note : ShrinkNote) (before after : SetView) (out out_after : BodyList) (probes : List ProbeCall) (notes : ShrinkNotes) (b c : Bool)
    → ToldShrink scans note.target (look_bits note.looks) (look_seens note.looks ++ try_seens note.forced) before after out out_after probes notes → KeptSame notes.looks note.looks b → KeptSame notes.forced note.forced c
    → ShrinkJudged scans note before after out out_after probes (b && c)
judged_shrink scans note before after out out_after probes notes b c told p q = go b c p.same_then p.same_where q.same_then q.same_where
  where
    target : ℕ
    target = note.target

    looks : List Look
    looks = note.looks

    forced : List Try
    forced = note.forced

    kept_looks : p.kept ≡ told.looks
    kept_looks = subst (λ n. AreNoted told.looks (Kept []) n) p.is told.noted_looks

    kept_forced : q.kept ≡ told.forced
    kept_forced = subst (λ n. AreNoted told.forced (Kept []) n) q.is told.noted_forced

    other : (p.kept ≡ looks → q.kept ≡ forced → ⊥) → ShrinkJudged scans note before after out out_after probes false
    other differ = record {
      allowed = λ yes. absurd (true≢false (sym yes));
      came = told.came;
      into = λ yes. absurd (true≢false (sym yes));
      refused = λ no are.
          let same = unique_shrink scans target (listed before) looks told.looks forced told.forced are told.shrinks told.bits_by_place told.seens_by_place in
          differ (kept_looks ∙ same.0) (kept_forced ∙ same.1);
    }

    go : (b c : Bool) → (b ≡ true → p.kept ≡ looks) → (p.kept ≡ looks → b ≡ true) → (c ≡ true → q.kept ≡ forced) → (q.kept ≡ forced → c ≡ true)
        → ShrinkJudged scans note before after out out_after probes (b && c)
    go true true then_looks where_looks then_forced where_forced =
        let l : told.looks ≡ looks = sym kept_looks ∙ then_looks refl in
        let f : told.forced ≡ forced = sym kept_forced ∙ then_forced refl in
        record {
          allowed = λ yes. subst (λ (x : List Try). IsShrink scans target (listed before) looks x) f (subst (λ (x : List Look). IsShrink scans target (listed before) x told.forced) l told.shrinks);
          came = told.came;
          into = λ yes. subst (λ (x : List Try). ShrunkInto looks x before after out_after probes) f (subst (λ (x : List Look). ShrunkInto x told.forced before after out_after probes) l told.into);
          refused = λ no. absurd (true≢false no);
        }
    go true false then_looks where_looks then_forced where_forced = other (λ l f. true≢false (sym (where_forced f)))
    go false c then_looks where_looks then_forced where_forced = other (λ l f. true≢false (sym (where_looks l)))

-- the same, where the bits, the answers, and what is told are as they were read
pub judged_told : (scans : ℕ) (note : ShrinkNote) (before after : SetView) (out out_after : BodyList) (probes : List ProbeCall) (notes : ShrinkNotes) (b c : Bool)
    (looks : List Look) (forced : List Try) (bits bits_read : List Bool) (seens seens_read : List Seen)
    → looks ≡ note.looks → forced ≡ note.forced → bits_read ≡ bits → bits ≡ look_bits looks → seens_read ≡ seens → seens ≡ look_seens looks ++ try_seens forced
    → ToldShrink scans note.target bits_read seens_read before after out out_after probes notes → KeptSame notes.looks looks b → KeptSame notes.forced forced c
    → ShrinkJudged scans note before after out out_after probes (b && c)
judged_told scans note before after out out_after probes notes b c looks forced bits bits_read seens seens_read looks_are forced_are bits_same bits_are seens_same seens_are told p q =
    let by_bits : bits_read ≡ look_bits note.looks = bits_same ∙ (bits_are ∙ ap look_bits looks_are) in
    let by_seens : seens_read ≡ look_seens note.looks ++ try_seens note.forced =
    seens_same ∙ (seens_are ∙ (ap (λ (l : List Look). look_seens l ++ try_seens forced) looks_are ∙ ap (λ (f : List Try). look_seens note.looks ++ try_seens f) forced_are)) in
    judged_shrink scans note before after out out_after probes notes b c
    (subst (λ (s : List Seen). ToldShrink scans note.target (look_bits note.looks) s before after out out_after probes notes) by_seens
    (subst (λ (l : List Bool). ToldShrink scans note.target l seens_read before after out out_after probes notes) by_bits told))
    (subst (λ (l : List Look). KeptSame notes.looks l b) looks_are p) (subst (λ (f : List Try). KeptSame notes.forced f c) forced_are q)

-- What the probes of looks found, one look more

seens_push : (looks : List Look) (look : Look) → look_seens (looks ++ look ∷ []) ≡ look_seens looks ++ option_to_list look.probed
seens_push [] look = go look.probed
  where
    go : (probed : Option Seen) → cons_option probed [] ≡ option_to_list probed
    go None = refl
    go (Some seen) = refl
seens_push (first ∷ looks) look = go first.probed (seens_push looks look)
  where
    go : (probed : Option Seen) → look_seens (looks ++ look ∷ []) ≡ look_seens looks ++ option_to_list look.probed
        → cons_option probed (look_seens (looks ++ look ∷ [])) ≡ cons_option probed (look_seens looks) ++ option_to_list look.probed
    go None same = same
    go (Some seen) same = ap (λ l. seen ∷ l) same

pub seens_more : (looks : List Look) (k : ℕ) (x : Look) → k < length looks → look_seens (take (k + 1) looks) ≡ look_seens (take k looks) ++ option_to_list (get_or looks k x).probed
seens_more looks k x within = ap look_seens (take_more looks k x within) ∙ seens_push (take k looks) (get_or looks k x)

-- found so far, and one look more
pub seens_step : (looks : List Look) (k : ℕ) (x : Look) (now new : List Seen) → new ≡ now ++ option_to_list (get_or looks k x).probed
    → now ≡ look_seens (take k looks) → k < length looks → new ≡ look_seens (take (k + 1) looks)
seens_step looks k x now new is so_far within =
    is ∙ (ap (λ l. l ++ option_to_list (get_or looks k x).probed) so_far ∙ sym (seens_more looks k x within))
