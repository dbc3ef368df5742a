-- Where no key lies in the buckets of a map that doesn't evict, its user sees none, and the other way round.
use Rattle.std.proofs.Common.{◌≡◌, ℕ, Bool, true, cond, List, [], ◌∷◌, Option, Some, None, is_some, refl, ap, sym, ◌∙◌}
use Rattle.std.proofs.lemmas.Bool.{true≢false}
use Rattle.std.proofs.lemmas.Slice.Eq.{bytes_eq-Decides}
use Rattle.map_types.specs.Shape.{HasBounds}
use Rattle.map_types.specs.Stored.{Stored}
use Rattle.map_types.specs.declared.attr.Shape.{Shape}
use Rattle.place_words.specs.declared.finals.Finals.{Finals}
use Rattle.place_words.specs.Bodies.{present}
use Rattle.place_words.specs.Turns.{bucket_of_key}
use Rattle.map_report.specs.Serial.{in_bucket_at, in_order}
use Rattle.map_report.specs.Soundness.{IsSound}
use Rattle.serial_laws.specs.Entries.{Entry, entry_of}
use Rattle.serial_laws.proofs.EntrySteps.{Agrees, Have, look_ups}
use Rattle.serial_laws.proofs.NextKey.{present_in_order}

-- a key that lies in its bucket has an entry, and one that has an entry lies there
pub some_both : (found : Option Stored) (entry : Option Entry) (held : List (List (List ℕ))) → Have found entry held → is_some found ≡ true → is_some entry ≡ true
some_both None entry held have some = absurd cc
some_both (Some stored) None held have some = cc
some_both (Some stored) (Some entry) held have some = refl

some_back : (found : Option Stored) (entry : Option Entry) (held : List (List (List ℕ))) → Have found entry held → is_some entry ≡ true → is_some found ≡ true
some_back found None held have some = absurd cc
some_back None (Some entry) held have some = cc
some_back (Some stored) (Some entry) held have some = refl

first_found : (body : Stored) (bodies : List Stored) → is_some (present body.key (body ∷ bodies)) ≡ true
first_found body bodies = ap (λ (b : Bool). is_some (cond b (Some body) (present body.key bodies))) ((bytes_eq-Decides body.key body.key).1 refl)

first_seen : (entry : Entry) (entries : List Entry) → is_some (entry_of entry.key (entry ∷ entries)) ≡ true
first_seen entry entries = ap (λ (b : Bool). is_some (cond b (Some entry) (entry_of entry.key entries))) ((bytes_eq-Decides entry.key entry.key).1 refl)

module _ (shape : Shape) (bounds : HasBounds shape) (lists : Finals) (sound : IsSound shape lists) where
  abbrev order : List Stored
  order = in_order shape (in_bucket_at lists)

  in_its_bucket : (key : List ℕ) → present key order ≡ present key (in_bucket_at lists (bucket_of_key shape key))
  in_its_bucket key = present_in_order shape bounds (in_bucket_at lists) (λ bucket below. (sound.each_bucket bucket).own) key

  -- a key that lies in some bucket has an entry
  pub entry_there : (entries : List Entry) → Agrees shape lists entries → (key : List ℕ) → is_some (present key order) ≡ true → is_some (entry_of key entries) ≡ true
  entry_there entries agree key there = some_both _ _ _ (look_ups shape lists.buckets entries key agree) (ap is_some (sym (in_its_bucket key)) ∙ there)

  -- and one that has an entry lies in some bucket
  pub lies_there : (entries : List Entry) → Agrees shape lists entries → (key : List ℕ) → is_some (entry_of key entries) ≡ true → is_some (present key order) ≡ true
  lies_there entries agree key there = ap is_some (in_its_bucket key) ∙ some_back _ _ _ (look_ups shape lists.buckets entries key agree) there

  pub none_lie : Agrees shape lists [] → order ≡ []
  none_lie agree = by order refl
    where
      by : (bodies : List Stored) → order ≡ bodies → bodies ≡ []
      by [] is = refl
      by (body ∷ bodies) is =
          absurd (true≢false (sym (entry_there [] agree body.key (ap (λ (l : List Stored). is_some (present body.key l)) is ∙ first_found body bodies))))

  pub none_seen : (entries : List Entry) → Agrees shape lists entries → order ≡ [] → entries ≡ []
  none_seen [] agree none = refl
  none_seen (entry ∷ entries) agree none =
      let found = some_back _ _ _ (look_ups shape lists.buckets (entry ∷ entries) entry.key agree) (first_seen entry entries) in
      absurd (true≢false (sym (ap is_some (in_its_bucket entry.key) ∙ found) ∙ ap (λ (l : List Stored). is_some (present entry.key l)) none))
