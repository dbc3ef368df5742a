-- Calls on one key, by what the first turn behind tells.
use Rattle.std.proofs.Common.{◌≡◌, ℕ, Bool, true, false, List, [], ◌∷◌, Option, None, Some, refl, ap, sym, ◌∙◌}
use Rattle.std.specs.Prelude.{if◌then◌else◌}
use Rattle.map_types.specs.declared.attr.Shape.{Shape}
use Rattle.map_types.specs.declared.kind.DomainId.TheVariants.{Bucket}
use Rattle.map_types.specs.declared.kind.Side.{Side}
use Rattle.map_types.specs.declared.refusal.Errno.TheVariants.{Enomem}
use Rattle.map_types.specs.declared.reply.Reply.{Reply}
use Rattle.map_types.specs.declared.reply.Reply.TheVariants.{Refused}
use Rattle.key_hash.specs.Jhash.{hash}
use Rattle.place_words.specs.declared.bucket_part.BucketPart.{BucketPart}
use Rattle.place_words.specs.declared.bucket_part.Put.{Put}
use Rattle.place_words.specs.declared.history.Part.{Part}
use Rattle.place_words.specs.declared.history.Part.TheVariants as parts
use Rattle.place_words.specs.Evicting.{left_over}
use Rattle.place_words.specs.Locks.{is_same_lock}
use Rattle.place_words.specs.PlainTraces.{element_gone, reply_of_gone, reply_of_got, reply_of_put}
use Rattle.place_words.specs.Turns.{Turn, bucket_of_key}
use Rattle.trace_check.specs.Reading.{of_bucket, when, checked}
use Rattle.trace_check.specs.Calls.{got_in, gone_in, taken_in}
use Rattle.evicting_traces.specs.Reading.{Seen, Reads, told, then_read, with_rest, read_turn}
use Rattle.evicting_traces.specs.Parts.{on, put_of}
use Rattle.evicting_traces.specs.Calls.{first_at, read_frees_one, read_acquires, read_lookup, read_delete, read_take, read_put, may_put, may_put_alone, read_write, read_offer, after_taking, read_offers}

says_of : {A : Type 0} → (BucketPart → Option A) → Option (BucketPart × List Seen) → Option (A × List Seen)
says_of says None = None
says_of says (Some found) = with_rest found.1 (says found.0)

module _ {A : Type 0} (bucket : ℕ) (says : BucketPart → Option A) where
  by_part : (part : Part) (rest : List Seen) → with_rest rest (of_bucket says part) ≡ says_of says (with_rest rest (of_bucket Some part))
  unfolding says_of
  by_part (parts.Bucket part) rest = refl
  by_part (parts.Free part) rest = refl
  by_part (parts.Local part) rest = refl
  by_part (parts.Global part) rest = refl
  by_part (parts.Own part) rest = refl

  by_lock : (b : Bool) (part : Part) (rest : List Seen) → with_rest rest (if b then of_bucket says part else None) ≡ says_of says (with_rest rest (if b then of_bucket Some part else None))
  unfolding says_of
  by_lock true part rest = by_part part rest
  by_lock false part rest = refl

  at_is : (seens : List Seen) → read_turn (on (Bucket bucket) (of_bucket says)) seens ≡ says_of says (first_at bucket seens)
  unfolding says_of first_at
  at_is [] = refl
  at_is (seen ∷ rest) = by_lock (is_same_lock seen.turn.lock (Bucket bucket)) seen.turn.part rest

  pub at_none : (seens : List Seen) → first_at bucket seens ≡ None → read_turn (on (Bucket bucket) (of_bucket says)) seens ≡ None
  unfolding says_of
  at_none seens none = at_is seens ∙ ap (says_of says) none

  pub at_one : (seens : List Seen) (part : BucketPart) (rest : List Seen) (o : Option A) → first_at bucket seens ≡ Some (part, rest) → says part ≡ o → read_turn (on (Bucket bucket) (of_bucket says)) seens ≡ with_rest rest o
  unfolding says_of
  at_one seens part rest o found is = at_is seens ∙ ap (says_of says) found ∙ ap (with_rest rest) is

module _ (shape : Shape) (key : List ℕ) (seens : List Seen) where
  abbrev number : ℕ
  number = bucket_of_key shape key

  -- lookup
  pub lookup_none : (side : Side) → first_at number seens ≡ None → read_lookup shape side key seens ≡ None
  lookup_none side none = ap (told reply_of_got) (at_none number (got_in side key) seens none)

  pub lookup_other : (side : Side) (part : BucketPart) (rest : List Seen) → first_at number seens ≡ Some (part, rest) → got_in side key part ≡ None → read_lookup shape side key seens ≡ None
  lookup_other side part rest found is = ap (told reply_of_got) (at_one number (got_in side key) seens part rest None found is)

  pub lookup_one : (side : Side) (part : BucketPart) (rest : List Seen) (got : Option (ℕ × List ℕ)) → first_at number seens ≡ Some (part, rest) → got_in side key part ≡ Some got → read_lookup shape side key seens ≡ Some (reply_of_got got, rest)
  lookup_one side part rest got found is = ap (told reply_of_got) (at_one number (got_in side key) seens part rest (Some got) found is)

  -- delete
  abbrev after_delete : Option ℕ → Reads Reply
  after_delete gone = read_frees_one shape (reply_of_gone gone) gone

  pub delete_none : first_at number seens ≡ None → read_delete shape key seens ≡ None
  delete_none none = ap (then_read after_delete) (at_none number (gone_in key) seens none)

  pub delete_other : (part : BucketPart) (rest : List Seen) → first_at number seens ≡ Some (part, rest) → gone_in key part ≡ None → read_delete shape key seens ≡ None
  delete_other part rest found is = ap (then_read after_delete) (at_one number (gone_in key) seens part rest None found is)

  pub delete_one : (part : BucketPart) (rest : List Seen) (gone : Option ℕ) (r : Option (Reply × List Seen)) → first_at number seens ≡ Some (part, rest) → gone_in key part ≡ Some gone → read_frees_one shape (reply_of_gone gone) gone rest ≡ r → read_delete shape key seens ≡ r
  delete_one part rest gone r found is frees = ap (then_read after_delete) (at_one number (gone_in key) seens part rest (Some gone) found is) ∙ frees

  -- take
  abbrev after_take : Option (ℕ × List ℕ) → Reads Reply
  after_take gone = read_frees_one shape (reply_of_got gone) (element_gone gone)

  pub take_none : first_at number seens ≡ None → read_take shape key seens ≡ None
  take_none none = ap (then_read after_take) (at_none number (taken_in key) seens none)

  pub take_other : (part : BucketPart) (rest : List Seen) → first_at number seens ≡ Some (part, rest) → taken_in key part ≡ None → read_take shape key seens ≡ None
  take_other part rest found is = ap (then_read after_take) (at_one number (taken_in key) seens part rest None found is)

  pub take_one : (part : BucketPart) (rest : List Seen) (gone : Option (ℕ × List ℕ)) (r : Option (Reply × List Seen)) → first_at number seens ≡ Some (part, rest) → taken_in key part ≡ Some gone → read_frees_one shape (reply_of_got gone) (element_gone gone) rest ≡ r → read_take shape key seens ≡ r
  take_one part rest gone r found is frees = ap (then_read after_take) (at_one number (taken_in key) seens part rest (Some gone) found is) ∙ frees

-- the same bucket by another name
pub here : (seens : List Seen) {one other : ℕ} {o : Option (BucketPart × List Seen)} → first_at one seens ≡ o → one ≡ other → first_at other seens ≡ o
here seens found is = sym (ap (λ n. first_at n seens) is) ∙ found

-- what may be put
check : {A : Type 0} → (A → Bool) → Option (A × List Seen) → Option (A × List Seen)
check may None = None
check may (Some found) = with_rest found.1 (when (may found.0) found.0)

module _ {A : Type 0} (says : Turn → Option A) (may : A → Bool) where
  by_told : (o : Option A) (rest : List Seen) → with_rest rest (checked may o) ≡ check may (with_rest rest o)
  unfolding check
  by_told None rest = refl
  by_told (Some a) rest = refl

  checked_is : (seens : List Seen) → read_turn (λ (turn : Turn). checked may (says turn)) seens ≡ check may (read_turn says seens)
  unfolding check
  checked_is [] = refl
  checked_is (seen ∷ rest) = by_told (says seen.turn) rest

module _ (shape : Shape) (side : Side) (flags : ℕ) (key value : List ℕ) (seens : List Seen) where
  abbrev at_key : ℕ
  at_key = bucket_of_key shape key

  module _ (offer : Option ℕ) (may : Put → Bool) where
    abbrev says : BucketPart → Option Put
    says = put_of side flags key value offer

    put_none : first_at at_key seens ≡ None → read_put shape side flags key value offer may seens ≡ None
    unfolding check
    put_none none = checked_is (on (Bucket at_key) (of_bucket says)) may seens ∙ ap (check may) (at_none at_key says seens none)

    put_other : (part : BucketPart) (rest : List Seen) → first_at at_key seens ≡ Some (part, rest) → says part ≡ None → read_put shape side flags key value offer may seens ≡ None
    unfolding check
    put_other part rest found is = checked_is (on (Bucket at_key) (of_bucket says)) may seens ∙ ap (check may) (at_one at_key says seens part rest None found is)

    put_one : (part : BucketPart) (rest : List Seen) (put : Put) (b : Bool) → first_at at_key seens ≡ Some (part, rest) → says part ≡ Some put → may put ≡ b → read_put shape side flags key value offer may seens ≡ with_rest rest (when b put)
    unfolding check
    put_one part rest put b found is passes =
        checked_is (on (Bucket at_key) (of_bucket says)) may seens ∙ ap (check may) (at_one at_key says seens part rest (Some put) found is) ∙ ap (λ c. with_rest rest (when c put)) passes

  pub write_none : first_at at_key seens ≡ None → read_write shape side flags key value seens ≡ None
  write_none none = ap (told reply_of_put) (put_none None may_put_alone none)

  pub write_other : (part : BucketPart) (rest : List Seen) → first_at at_key seens ≡ Some (part, rest) → put_of side flags key value None part ≡ None → read_write shape side flags key value seens ≡ None
  write_other part rest found is = ap (told reply_of_put) (put_other None may_put_alone part rest found is)

  pub write_one : (part : BucketPart) (rest : List Seen) (put : Put) → first_at at_key seens ≡ Some (part, rest) → put_of side flags key value None part ≡ Some put → may_put_alone put ≡ true → read_write shape side flags key value seens ≡ Some (reply_of_put put, rest)
  write_one part rest put found is may = ap (told reply_of_put) (put_one None may_put_alone part rest put true found is may)

  pub write_not : (part : BucketPart) (rest : List Seen) (put : Put) → first_at at_key seens ≡ Some (part, rest) → put_of side flags key value None part ≡ Some put → may_put_alone put ≡ false → read_write shape side flags key value seens ≡ None
  write_not part rest put found is may = ap (told reply_of_put) (put_one None may_put_alone part rest put false found is may)

  module _ (e : ℕ) where
    abbrev after_put : Put → Reads Reply
    after_put put = read_frees_one shape (reply_of_put put) (left_over e put)

    pub offer_none : first_at at_key seens ≡ None → read_offer shape side flags key value e seens ≡ None
    offer_none none = ap (then_read after_put) (put_none (Some e) (may_put shape e) none)

    pub offer_other : (part : BucketPart) (rest : List Seen) → first_at at_key seens ≡ Some (part, rest) → put_of side flags key value (Some e) part ≡ None → read_offer shape side flags key value e seens ≡ None
    offer_other part rest found is = ap (then_read after_put) (put_other (Some e) (may_put shape e) part rest found is)

    pub offer_one : (part : BucketPart) (rest : List Seen) (put : Put) (left : Option ℕ) (r : Option (Reply × List Seen)) → first_at at_key seens ≡ Some (part, rest) → put_of side flags key value (Some e) part ≡ Some put → may_put shape e put ≡ true
        → left ≡ left_over e put → read_frees_one shape (reply_of_put put) left rest ≡ r → read_offer shape side flags key value e seens ≡ r
    offer_one part rest put left r found is may left_is frees =
        ap (then_read after_put) (put_one (Some e) (may_put shape e) part rest put true found is may) ∙ ap (λ o. read_frees_one shape (reply_of_put put) o rest) (sym left_is) ∙ frees

    pub offer_not : (part : BucketPart) (rest : List Seen) (put : Put) → first_at at_key seens ≡ Some (part, rest) → put_of side flags key value (Some e) part ≡ Some put → may_put shape e put ≡ false → read_offer shape side flags key value e seens ≡ None
    offer_not part rest put found is may = ap (then_read after_put) (put_one (Some e) (may_put shape e) part rest put false found is may)

  module _ (cpu : ℕ) where
    abbrev after_acquired : Option ℕ → Reads Reply
    after_acquired = after_taking (Refused Enomem) (read_offer shape side flags key value)

    offers_one : (h : ℕ) (got : Option ℕ) (rest : List Seen) → Some (got, rest) ≡ read_acquires shape cpu h seens → h ≡ hash key shape.seed → read_offers shape cpu side flags key value seens ≡ after_acquired got rest
    offers_one h got rest found is = ap (λ n. then_read after_acquired (read_acquires shape cpu n seens)) (sym is) ∙ ap (then_read after_acquired) (sym found)

    pub offers_none : (h : ℕ) (got : Option ℕ) (rest : List Seen) → Some (got, rest) ≡ read_acquires shape cpu h seens → h ≡ hash key shape.seed → got ≡ None → read_offers shape cpu side flags key value seens ≡ Some (Refused Enomem, rest)
    offers_none h got rest found is none = offers_one h got rest found is ∙ ap (λ o. after_acquired o rest) none

    pub offers_some : (h : ℕ) (got : Option ℕ) (e : ℕ) (rest : List Seen) → Some (got, rest) ≡ read_acquires shape cpu h seens → h ≡ hash key shape.seed → got ≡ Some e → read_offers shape cpu side flags key value seens ≡ read_offer shape side flags key value e rest
    offers_some h got e rest found is some = offers_one h got rest found is ∙ ap (λ o. after_acquired o rest) some
