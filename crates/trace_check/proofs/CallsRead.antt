-- A call of any verb, read against its reply.
use Rattle.std.proofs.Common.{◌≡◌, ◌≢◌, ℕ, zero, suc, ◌-◌, ◌<◌, ◌≤◌, Bool, false, List, [], ◌∷◌, length, Option, None, Some, refl, ap, sym, ◌∙◌, arith}
use Rattle.std.specs.Prelude.{nat_lt, if◌then◌else◌}
use Rattle.std.proofs.lemmas.Option.{same_Some}
use Rattle.map_types.specs.declared.attr.Shape.{Shape}
use Rattle.map_types.specs.declared.call.Verb.{Verb}
use Rattle.map_types.specs.declared.call.Verb.TheVariants as verbs
use Rattle.map_types.specs.declared.kind.Side.{Side}
use Rattle.map_types.specs.declared.refusal.Errno.TheVariants.{Einval}
use Rattle.map_types.specs.declared.reply.Reply.{Reply}
use Rattle.map_types.specs.declared.reply.Reply.TheVariants.{Refused}
use Rattle.map_types.specs.Pairs.{pair_at, HaveSizes}
use Rattle.place_words.specs.declared.bucket_part.Put.{Put}
use Rattle.place_words.specs.PlainTraces.{reply_of_put, spare_after_put}
use Rattle.place_words.specs.Turns.{Turn}
use Rattle.trace_check.specs.BySpares.{Left, read_key_by, read_plain_by}
use Rattle.trace_check.specs.Calls.{Answer, read_what_was_put, read_put}
use Rattle.trace_check.specs.LawsBySpares.{counted_by}
use Rattle.trace_check.specs.Reading.{IsReadAs, told, read_nothing}
use Rattle.trace_check.proofs.Answering.{also_read}
use Rattle.trace_check.proofs.WalkedPairs.{KeyValue}

pub same_verb : (shape : Shape) (cpu : ℕ) (left : Left) (turns : List Turn) (verb other : Verb) (reply : Reply) (result : Option (List Turn)) → verb ≡ other
    → IsReadAs (read_plain_by shape cpu left other turns) reply result → IsReadAs (read_plain_by shape cpu left verb turns) reply result
same_verb shape cpu left turns verb other reply result is read = also_read reply result (ap (λ (v : Verb). read_plain_by shape cpu left v turns) is) read

pub reply_again : (spare : Option ℕ) (o : Option (Reply × List Turn)) → told (λ (answer : Answer). answer.0) (told (λ (reply : Reply). (reply, spare)) o) ≡ o
reply_again spare None = refl
reply_again spare (Some found) = refl

pub keys_sized : (key_size value_size : ℕ) (pairs : List KeyValue) → HaveSizes key_size value_size pairs → (i : ℕ) → i < length pairs → length (pair_at pairs i).0 ≡ key_size
keys_sized key_size value_size [] have i within = absurd (omega arith)
keys_sized key_size value_size (pair ∷ pairs) have zero within = have.0
keys_sized key_size value_size (pair ∷ pairs) have (suc i) within = keys_sized key_size value_size pairs have.2 i (omega arith)

not_above : (flags : ℕ) → flags ≤ 2 → nat_lt 2 flags ≡ false
not_above zero small = refl
not_above (suc zero) small = refl
not_above (suc (suc zero)) small = refl
not_above (suc (suc (suc flags))) small = absurd (omega arith)

pub update_read : (shape : Shape) (cpu : ℕ) (spares : Left) (side : Side) (flags : ℕ) (key value : List ℕ) (turns rest : List Turn) (spare : Option ℕ) (left : ℕ) (put : Put) → flags ≤ 2 → spare ≡ spares left → left ≡ length turns
    → Some (put, rest) ≡ read_what_was_put shape cpu spare side flags key value turns → read_key_by shape cpu spares (verbs.Update side flags key value) turns ≡ Some (reply_of_put put, rest)
update_read shape cpu spares side flags key value turns rest spare left put small spare_is left_is read =
    ap (λ (b : Bool). told (λ (answer : Answer). answer.0) (if b then read_nothing (Refused Einval, spares (length turns)) turns else read_put shape cpu (spares (length turns)) side flags key value turns))
    (not_above flags small)
    ∙ ap (λ (s : Option ℕ). told (λ (answer : Answer). answer.0) (read_put shape cpu s side flags key value turns)) (sym (spare_is ∙ ap spares left_is))
    ∙ ap (λ (o : Option (Put × List Turn)). told (λ (answer : Answer). answer.0) (told (λ (p : Put). (reply_of_put p, spare_after_put spare p)) o)) (sym read)

pub none_counted : (whole : ℕ) (found : Option (Reply × List Turn)) (reply : Reply) → ((rest : List Turn) → found ≢ Some (reply, rest)) → (n : ℕ) → counted_by whole found ≢ Some (n, reply)
none_counted whole None reply differs n = λ some. absurd cc
none_counted whole (Some (other, rest)) reply differs n = λ some.
    let pair : ◌≡◌ {A = ℕ × Reply} (whole - length rest, other) (n, reply) = same_Some (whole - length rest, other) (n, reply) some in
    differs rest (ap (λ (r : Reply). Some (r, rest)) (ap (λ (p : ℕ × Reply). p.1) pair))
