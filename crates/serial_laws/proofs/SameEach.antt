-- On a map that doesn't evict the walk over all elements by logs is that on plain lists.
use Rattle.std.proofs.Common.{◌≡◌, ℕ, suc, ◌+◌, ◌-◌, ◌≤◌, ◌<◌, Bool, true, false, cond, List, [], ◌∷◌, ◌++◌, length, map, get_or, Option, Some, None, is_some, refl, ap, sym, ◌∙◌, subst, arith, append_assoc, length-append}
use Rattle.std.specs.Prelude.{◌||◌, bytes_eq}
use Rattle.std.specs.List.{AllByRecursion, flat_map, list_any, range_with_len}
use Rattle.std.specs.Option.{option_or}
use Rattle.std.proofs.lemmas.Bool.{le-ltb, true≢false}
use Rattle.std.proofs.lemmas.List.{append-nil, length-map, map-append}
use Rattle.std.proofs.lemmas.List.Folds.{find-append}
use Rattle.std.proofs.lemmas.Slice.Eq.{bytes_eq-Decides}
use Rattle.map_types.specs.Stored.{Stored, IsSized}
use Rattle.map_types.specs.declared.attr.Shape.{Shape}
use Rattle.map_types.specs.declared.kind.DomainId.TheVariants.{Bucket}
use Rattle.map_types.specs.declared.reply.Reply.{Reply}
use Rattle.map_types.specs.declared.reply.Reply.TheVariants.{Batch}
use Rattle.percpu_values.proofs.SideLemmas.{program_reads}
use Rattle.place_words.specs.declared.bucket_part.BucketPart.TheVariants.{Walk}
use Rattle.place_words.specs.declared.bucket_part.Walked.{Walked}
use Rattle.place_words.specs.declared.bucket_part.Walked.TheVariants.{Over, Taken}
use Rattle.place_words.specs.declared.finals.Finals.{Finals}
use Rattle.place_words.specs.declared.history.Part.TheVariants as parts
use Rattle.place_words.specs.Bodies.{has_key, present}
use Rattle.place_words.specs.Buckets.{as_read, bucket_after}
use Rattle.place_words.specs.Handing.{handed, is_stop, up_to_stop}
use Rattle.place_words.specs.Logs.{State, bucket_at, Does, first_does, walked, after_handing, hands}
use Rattle.place_words.specs.Turns.{Turn, on_lock, bucket_of_key}
use Rattle.place_words.specs.Walks.{buckets_from}
use Rattle.place_words.proofs.EachTurn.{AreWithin, first_within, others_within, buckets_within}
use Rattle.map_report.specs.EachOnce.{in_buckets}
use Rattle.map_report.specs.Serial.{in_bucket_at, in_order, program_pair, next_behind, handing_reply}
use Rattle.map_report.specs.Soundness.{IsSound}
use Rattle.map_report.specs.Turns.{Happened, handing_turns}
use Rattle.serial_laws.proofs.Leads.{leads_none, look_leads}
use Rattle.serial_laws.proofs.NextKey.{AreOwn}
use Rattle.serial_laws.proofs.SameCalls.{Follows, IsSame, same_first}
use Rattle.serial_laws.proofs.SameWalks.{bucket_same}
use Rattle.serial_laws.proofs.UpToStop.{up_to_all, up_to_append}

-- As many elements as lie in the buckets

first_long : (lie : ℕ → List Stored) (bucket : List Stored) (a : ℕ) → bucket ≡ lie (a + 0) → length bucket ≡ length (lie a)
first_long lie bucket a same = let none : a + 0 ≡ a = omega arith in ap length same ∙ ap (λ n. length (lie n)) none

lie_long : (lie : ℕ → List Stored) (buckets : List (List Stored)) (a : ℕ) → ((i : ℕ) → get_or buckets i [] ≡ lie (a + i))
    → length (flat_map lie (range_with_len a (length buckets))) ≡ length (flat_map (λ bucket. map (λ (stored : Stored). stored.element) bucket) buckets)
lie_long lie [] a same = refl
lie_long lie (bucket ∷ buckets) a same =
    let later : (i : ℕ) → get_or buckets i [] ≡ lie ((a + 1) + i) = λ i. let more : a + suc i ≡ (a + 1) + i = omega arith in same (suc i) ∙ ap lie more in
    let rest = lie_long lie buckets (a + 1) later in
    omega (
      arith,
      first_long lie bucket a (same 0),
      rest,
      length-append (lie a) (flat_map lie (range_with_len (a + 1) (length buckets))),
      length-append (map (λ (stored : Stored). stored.element) bucket) (flat_map (λ b. map (λ (stored : Stored). stored.element) b) buckets),
      length-map bucket (λ (stored : Stored). stored.element),
    )

pub order_long : (shape : Shape) (lists : Finals) → IsSound shape lists → length (in_order shape (in_bucket_at lists)) ≡ length (in_buckets lists)
order_long shape lists sound =
    let all : shape.buckets - 0 ≡ length lists.buckets = omega (arith, sound.lengths.buckets) in
    let start = λ (i : ℕ). let none : i ≡ 0 + i = omega arith in ap (in_bucket_at lists) none in
    ap (λ n. length (flat_map (in_bucket_at lists) (range_with_len 0 n))) all ∙ lie_long (in_bucket_at lists) lists.buckets 0 start

order_few : (shape : Shape) (lists : Finals) → IsSound shape lists → length (in_order shape (in_bucket_at lists)) ≤ shape.elements
order_few shape lists sound = omega (arith, order_long shape lists sound, sound.each_once.total)

-- What the callback is handed of a bucket

handed_pairs : (shape : Shape) (cpu : ℕ) (bodies : List Stored) → AllByRecursion (IsSized shape) bodies → map (handed shape cpu) (map (as_read shape cpu) bodies) ≡ map (program_pair shape cpu) bodies
handed_pairs shape cpu [] sized = refl
handed_pairs shape cpu (body ∷ bodies) sized =
    let value = program_reads shape cpu body.values (record { counted = sized.0.parts_counted; sized = sized.0.parts_sized }) in
    let rest = handed_pairs shape cpu bodies sized.1 in
    λ i. (body.key, value i) ∷ rest i

-- one of them stops the walk where its key is there
pub key_stops : (shape : Shape) (cpu : ℕ) (key : List ℕ) (bodies : List Stored) → list_any (is_stop (Some key)) (map (program_pair shape cpu) bodies) ≡ is_some (present key bodies)
key_stops shape cpu key [] = refl
key_stops shape cpu key (body ∷ bodies) =
    elim (bytes_eq body.key key) as (λ b. b || list_any (is_stop (Some key)) (map (program_pair shape cpu) bodies) ≡ is_some (cond b (Some body) (present key bodies))) [
      | true ↦ refl
      | false ↦ key_stops shape cpu key bodies
    ]

pub none_stops : (pairs : List (List ℕ × List ℕ)) → list_any (is_stop None) pairs ≡ false
none_stops [] = refl
none_stops (pair ∷ pairs) = none_stops pairs

-- a key is there in its bucket alone
own_bucket : (shape : Shape) (key : List ℕ) (bucket : ℕ) (bodies : List Stored) → AreOwn shape bucket bodies → is_some (present key bodies) ≡ true → bucket_of_key shape key ≡ bucket
own_bucket shape key bucket [] own there = absurd (true≢false (sym there))
own_bucket shape key bucket (body ∷ bodies) own there =
    (elim (bytes_eq body.key key) as (λ b. bytes_eq body.key key ≡ b → is_some (cond b (Some body) (present key bodies)) ≡ true → bucket_of_key shape key ≡ bucket) [
      | true ↦ λ same known. ap (bucket_of_key shape) (sym ((bytes_eq-Decides body.key key).0 same)) ∙ own.0
      | false ↦ λ other later. own_bucket shape key bucket bodies own.1 later
    ]) refl there

-- The walk, bucket after bucket

module _ (shape : Shape) (cpu : ℕ) (lists : Finals) (stop : Option (List ℕ)) where
  abbrev pairs_in : ℕ → List (List ℕ × List ℕ)
  pairs_in bucket = map (program_pair shape cpu) (in_bucket_at lists bucket)

  abbrev stops_in : ℕ → Bool
  stops_in bucket = list_any (is_stop stop) (pairs_in bucket)

  -- the reply where these buckets are left, and where the walk ends
  abbrev told : List ℕ → List (List ℕ × List ℕ) → Reply
  told [] before = Batch None before shape.buckets
  told (bucket ∷ buckets) before = cond (stops_in bucket) (Batch None (before ++ up_to_stop stop (pairs_in bucket)) (suc bucket)) (told buckets (before ++ pairs_in bucket))

  abbrev ends : List ℕ → ℕ
  ends [] = shape.buckets
  ends (bucket ∷ buckets) = cond (stops_in bucket) (suc bucket) (ends buckets)

  abbrev left : List ℕ → List (List ℕ × List ℕ)
  left buckets = map (program_pair shape cpu) (flat_map (in_bucket_at lists) buckets)

  told_is : (buckets : List ℕ) (before : List (List ℕ × List ℕ)) → told buckets before ≡ Batch None (before ++ up_to_stop stop (left buckets)) (ends buckets)
  told_is [] before = ap (λ (l : List (List ℕ × List ℕ)). Batch None l shape.buckets) (sym (append-nil before))
  told_is (bucket ∷ buckets) before =
      let mine : List (List ℕ × List ℕ) = pairs_in bucket in
      let rest : List (List ℕ × List ℕ) = up_to_stop stop (left buckets) in
      let both : up_to_stop stop (left (bucket ∷ buckets)) ≡ up_to_stop stop mine ++ cond (stops_in bucket) [] rest =
      ap (up_to_stop stop) (map-append (program_pair shape cpu) (in_bucket_at lists bucket) (flat_map (in_bucket_at lists) buckets)) ∙ up_to_append stop mine (left buckets) in
      (elim (stops_in bucket) as (λ b. stops_in bucket ≡ b → cond b (Batch None (before ++ up_to_stop stop mine) (suc bucket)) (told buckets (before ++ mine)) ≡ Batch None (before ++ (up_to_stop stop mine ++ cond b [] rest)) (cond b (suc bucket) (ends buckets))) [
        | true ↦ λ here. ap (λ (l : List (List ℕ × List ℕ)). Batch None (before ++ l) (suc bucket)) (sym (append-nil (up_to_stop stop mine)))
        | false ↦ λ none.
            told_is buckets (before ++ mine)
            ∙ ap (λ (l : List (List ℕ × List ℕ)). Batch None l (ends buckets)) (append_assoc before mine rest ∙ ap (λ (l : List (List ℕ × List ℕ)). before ++ (l ++ rest)) (sym (up_to_all stop mine none)))
      ]) refl
      ∙ ap (λ (l : List (List ℕ × List ℕ)). Batch None (before ++ l) (ends (bucket ∷ buckets))) (sym both)

-- it ends behind the bucket of the key, where that is there
ends_are : (shape : Shape) (cpu : ℕ) (lists : Finals) → ((bucket : ℕ) → AreOwn shape bucket (in_bucket_at lists bucket)) → (stop : Option (List ℕ)) (buckets : List ℕ)
    → ends shape cpu lists stop buckets ≡ next_behind shape stop (flat_map (in_bucket_at lists) buckets)
ends_are shape cpu lists own None [] = refl
ends_are shape cpu lists own None (bucket ∷ buckets) = ap (λ (b : Bool). cond b (suc bucket) (ends shape cpu lists None buckets)) (none_stops (pairs_in shape cpu lists None bucket)) ∙ ends_are shape cpu lists own None buckets
ends_are shape cpu lists own (Some key) [] = refl
ends_are shape cpu lists own (Some key) (bucket ∷ buckets) =
    let here : List Stored = in_bucket_at lists bucket in
    let rest : List Stored = flat_map (in_bucket_at lists) buckets in
    ap (λ (b : Bool). cond b (suc bucket) (ends shape cpu lists (Some key) buckets)) (key_stops shape cpu key here)
    ∙ (elim (present key here) as (λ found. present key here ≡ found → cond (is_some found) (suc bucket) (ends shape cpu lists (Some key) buckets) ≡ cond (is_some (option_or found (present key rest))) (suc (bucket_of_key shape key)) shape.buckets) [
      | None ↦ λ none. ends_are shape cpu lists own (Some key) buckets
      | Some body ↦ λ known. ap suc (sym (own_bucket shape key bucket here (own bucket) (ap is_some known)))
    ]) refl
    ∙ ap (λ (found : Option Stored). cond (is_some found) (suc (bucket_of_key shape key)) shape.buckets) (sym (find-append (has_key key) here rest))

module _ (shape : Shape) (cpu : ℕ) (lists : Finals) (before : List Happened) (state : State) (follows : Follows shape lists before state) (sound : IsSound shape lists) (stop : Option (List ℕ)) where
  -- a bucket's turn, and what comes behind it
  abbrev taken_turn : ℕ → ℕ → Turn
  taken_turn bucket room = on_lock (Bucket bucket) (parts.Bucket (Walk false room (Taken (map (as_read shape cpu) (in_bucket_at lists bucket)))))

  turn_same : (bucket room : ℕ) (later : Does) (turns : List Turn) (reply : Reply) → bucket < shape.buckets → IsSame shape cpu lists later turns (lists, reply)
      → IsSame shape cpu lists (first_does (taken_turn bucket room ∷ []) later) (taken_turn bucket room ∷ turns) (lists, reply)
  unfolding bucket_after
  turn_same bucket room later turns reply below rest =
      same_first shape cpu (taken_turn bucket room ∷ []) (taken_turn bucket room ∷ []) turns later lists lists (lists, reply) refl
      (look_leads shape cpu bucket (Walk false room (Taken (map (as_read shape cpu) (in_bucket_at lists bucket)))) lists below refl refl) rest

  hands_same : (buckets : List ℕ) → AreWithin (λ bucket. bucket < shape.buckets) buckets → (over : List (List ℕ × List ℕ)) → length over + length (flat_map (in_bucket_at lists) buckets) ≤ shape.elements
      → IsSame shape cpu lists (hands shape cpu state stop buckets over) (handing_turns shape cpu stop buckets (length over) lists) (lists, told shape cpu lists stop buckets over)
  hands_same [] within over room = record { turns_are = refl; reply_is = refl; leads = leads_none shape cpu lists }
  hands_same (bucket ∷ buckets) within over room =
      let below : bucket < shape.buckets = first_within (λ b. b < shape.buckets) bucket buckets within in
      let bodies : List Stored = in_bucket_at lists bucket in
      let mine : List (List ℕ × List ℕ) = pairs_in shape cpu lists stop bucket in
      let free : ℕ = shape.elements - length over in
      let long : length (bodies ++ flat_map (in_bucket_at lists) buckets) ≡ length bodies + length (flat_map (in_bucket_at lists) buckets) = length-append bodies (flat_map (in_bucket_at lists) buckets) in
      let more : length (over ++ mine) ≡ length over + length bodies = length-append over mine ∙ ap (λ (n : ℕ). length over + n) (length-map bodies (program_pair shape cpu)) in
      let fits : walked shape cpu free (bucket_at shape state bucket) ≡ Taken (map (as_read shape cpu) bodies) =
      ap (walked shape cpu free) (bucket_same shape lists before state follows bucket below)
      ∙ ap (λ (b : Bool). cond b (Over (length bodies)) (Taken (map (as_read shape cpu) bodies))) (le-ltb free (length bodies) (omega (arith, room, long))) in
      let rest = hands_same buckets (others_within (λ b. b < shape.buckets) bucket buckets within) (over ++ mine) (omega (arith, room, long, more)) in
      let turns : List Turn = handing_turns shape cpu stop buckets (length over + length bodies) lists in
      let later : IsSame shape cpu lists (hands shape cpu state stop buckets (over ++ mine)) turns (lists, told shape cpu lists stop buckets (over ++ mine)) =
      subst (λ (n : ℕ). IsSame shape cpu lists (hands shape cpu state stop buckets (over ++ mine)) (handing_turns shape cpu stop buckets n lists) (lists, told shape cpu lists stop buckets (over ++ mine))) more rest in
      let behind =
      (elim (stops_in shape cpu lists stop bucket) as (λ b. stops_in shape cpu lists stop bucket ≡ b → IsSame shape cpu lists (cond b (record { turns = []; reply = Batch None (over ++ up_to_stop stop mine) (suc bucket) }) (hands shape cpu state stop buckets (over ++ up_to_stop stop mine)))
      (cond b [] turns) (lists, cond b (Batch None (over ++ up_to_stop stop mine) (suc bucket)) (told shape cpu lists stop buckets (over ++ mine)))) [
        | true ↦ λ here. record { turns_are = refl; reply_is = refl; leads = leads_none shape cpu lists }
        | false ↦ λ none.
            subst (λ (l : List (List ℕ × List ℕ)). IsSame shape cpu lists (hands shape cpu state stop buckets (over ++ l)) turns (lists, told shape cpu lists stop buckets (over ++ mine))) (sym (up_to_all stop mine none)) later
      ]) refl in
      let handed_over = subst (λ (l : List (List ℕ × List ℕ)). IsSame shape cpu lists (cond (list_any (is_stop stop) l) (record { turns = []; reply = Batch None (over ++ up_to_stop stop l) (suc bucket) }) (hands shape cpu state stop buckets (over ++ up_to_stop stop l)))
      (cond (stops_in shape cpu lists stop bucket) [] turns) (lists, told shape cpu lists stop (bucket ∷ buckets) over)) (sym (handed_pairs shape cpu bodies (sound.each_bucket bucket).sized)) behind in
      subst (λ (w : Walked). IsSame shape cpu lists (first_does (on_lock (Bucket bucket) (parts.Bucket (Walk false free w)) ∷ []) (after_handing shape cpu stop bucket over w (λ now. hands shape cpu state stop buckets now)))
      (handing_turns shape cpu stop (bucket ∷ buckets) (length over) lists) (lists, told shape cpu lists stop (bucket ∷ buckets) over)) (sym fits)
      (turn_same bucket free (after_handing shape cpu stop bucket over (Taken (map (as_read shape cpu) bodies)) (λ now. hands shape cpu state stop buckets now)) (cond (stops_in shape cpu lists stop bucket) [] turns) (told shape cpu lists stop (bucket ∷ buckets) over) below handed_over)

  -- the walk does by logs what it does on lists
  pub each_same : IsSame shape cpu lists (hands shape cpu state stop (buckets_from shape 0) []) (handing_turns shape cpu stop (buckets_from shape 0) 0 lists) (lists, handing_reply shape cpu stop (in_order shape (in_bucket_at lists)))
  each_same =
      let all : List ℕ = buckets_from shape 0 in
      let few : 0 + length (in_order shape (in_bucket_at lists)) ≤ shape.elements = omega (arith, order_few shape lists sound) in
      let reply : told shape cpu lists stop all [] ≡ handing_reply shape cpu stop (in_order shape (in_bucket_at lists)) =
      told_is shape cpu lists stop all []
      ∙ ap (Batch None (up_to_stop stop (map (program_pair shape cpu) (in_order shape (in_bucket_at lists))))) (ends_are shape cpu lists (λ bucket. (sound.each_bucket bucket).own) stop all) in
      subst (λ (r : Reply). IsSame shape cpu lists (hands shape cpu state stop all []) (handing_turns shape cpu stop all 0 lists) (lists, r)) reply (hands_same all (buckets_within shape 0) [] few)
