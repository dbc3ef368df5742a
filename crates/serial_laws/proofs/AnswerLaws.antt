-- What a map that doesn't evict, as its user sees it, answers, and where it has no room.
use Rattle.std.proofs.Common.{◌≡◌, ◌≢◌, ◌↔◌, ℕ, zero, suc, true, false, List, [], ◌∷◌, All, Option, Some, None, is_some, take, length, slice_get, sym, ◌∙◌, ap, refl, subst, nat_lt, ◌==◌, ◌<◌, ◌≤◌, arith}
use Rattle.std.specs.Prelude.{min, unwrap_or}
use Rattle.std.specs.List.{AllByRecursion}
use Rattle.std.proofs.lemmas.Bool.{cond_both, eqb-true, eqb-false, ltb-true, ltb-false}
use Rattle.std.proofs.lemmas.List.Elements.{recursion_from_All}
use Rattle.std.proofs.lemmas.Option.{none-some, same_Some}
use Rattle.map_types.specs.Kind.{is_lru}
use Rattle.map_types.specs.Shape.{HasBounds}
use Rattle.map_types.specs.declared.attr.Shape.{Shape}
use Rattle.map_types.specs.declared.call.Call.{Call}
use Rattle.map_types.specs.declared.call.Verb.{Verb}
use Rattle.map_types.specs.declared.call.Verb.TheVariants.{Lookup, Update, Delete, Take, Next, BatchRead, BatchUpdate, BatchDelete, Each}
use Rattle.map_types.specs.declared.kind.Side.{Side}
use Rattle.map_types.specs.declared.kind.Side.TheVariants.{Sys}
use Rattle.map_types.specs.declared.refusal.Errno.{Errno}
use Rattle.map_types.specs.declared.refusal.Errno.TheVariants.{Enoent, E2big, Einval}
use Rattle.map_types.specs.declared.reply.Reply.{Reply}
use Rattle.map_types.specs.declared.reply.Reply.TheVariants.{Done, Refused, Batch}
use Rattle.serial_laws.specs.Served.{IsCallFor}
use Rattle.map_script.specs.declared.script.Script.{Script}
use Rattle.place_words.specs.declared.finals.Finals.{Finals}
use Rattle.place_words.specs.Walks.{buckets_from}
use Rattle.map_report.specs.Serial.{opening, in_bucket_at, in_order, key_after, key_or_absent, after_update, after_delete, after_call, replies_from, lists_after}
use Rattle.serial_laws.specs.Entries.{Entry, entry_of, read, put, refusal, unless, taken_out, answered, entries_after}
use Rattle.serial_laws.specs.Laws.{FindsNoRoom, lists_before}
use Rattle.serial_laws.proofs.EntryRun.{list_replies, agrees_run}
use Rattle.serial_laws.proofs.EntryWalks.{agrees_step}
use Rattle.serial_laws.proofs.SoundRun.{sound_run}
use Rattle.serial_laws.proofs.StayLaws.{read_not_refused, each_not_refused}

-- what is at most a number, and isn't it, is below it
below_is : (a b : ℕ) → a ≤ b → (a == b) ≡ false → a < b
below_is a b most test = omega (arith, eqb-false a b test)

-- the reply to the call of an index is its reply on the lists before it
pub reply_here : (shape : Shape) (calls : List Call) (n : ℕ) (call : Call) (lists : Finals) → slice_get calls n ≡ Some call
    → slice_get (replies_from shape lists calls) n ≡ Some (after_call shape call.cpu call.verb (lists_after shape lists (take n calls))).1
reply_here shape [] n call lists none = absurd (none-some call none)
reply_here shape (first ∷ calls) zero call lists is =
    ap (λ (here : Call). Some (after_call shape here.cpu here.verb lists).1) (same_Some first call is)
reply_here shape (first ∷ calls) (suc n) call lists is =
    reply_here shape calls n call (after_call shape first.cpu first.verb lists).0 is

-- what is there isn't absent
there_is : (found : Option Entry) → is_some found ≡ true → found ≡ None → ⊥
there_is None there is = absurd cc
there_is (Some entry) there is = absurd cc

absent_is : (found : Option Entry) → is_some found ≡ false → found ≡ None
absent_is None absent = refl
absent_is (Some entry) absent = absurd cc

-- neither a lookup nor what takes a key out is refused for want of room
read_not_big : (shape : Shape) (side : Side) (cpu : ℕ) (found : Option Entry) → read shape side cpu found ≢ Refused E2big
read_not_big shape side cpu None = λ is. absurd cc
read_not_big shape side cpu (Some entry) = λ is. absurd cc

taken_not_big : (key : List ℕ) (reply : Reply) (found : Option Entry) (entries : List Entry) → reply ≢ Refused E2big → (taken_out key reply found entries).1 ≢ Refused E2big
taken_not_big key reply None entries not_big = λ is. absurd cc
taken_not_big key reply (Some entry) entries not_big = not_big

-- an update is, exactly where it finds none
update_big : (shape : Shape) (side : Side) (flags : ℕ) (key value : List ℕ) (entries after : List Entry)
    → ((unless (refusal shape.capacity flags (is_some (entry_of key entries)) (length entries)) entries after).1 ≡ Refused E2big) ↔ FindsNoRoom shape entries (Update side flags key value)
update_big shape side flags key value entries after =
    let P = λ (refused : Option Errno). ((unless refused entries after).1 ≡ Refused E2big) ↔ FindsNoRoom shape entries (Update side flags key value) in
    cond_both (nat_lt 2 flags) _ _ P (λ more. (λ is. absurd cc, λ finds. absurd (omega (arith, ltb-true 2 flags more, finds.0))))
    (λ few. cond_both (is_some (entry_of key entries)) _ _ P
    (λ there. cond_both (flags == 1) _ _ P (λ one. (λ is. absurd cc, λ finds. absurd (there_is (entry_of key entries) there finds.1)))
    (λ other. (λ is. absurd cc, λ finds. absurd (there_is (entry_of key entries) there finds.1))))
    (λ absent. cond_both (flags == 2) _ _ P (λ two. (λ is. absurd cc, λ finds. absurd (omega (arith, eqb-true flags 2 two, finds.0))))
    (λ other. cond_both (length entries == shape.capacity) _ _ P
    (λ full. (λ is. (below_is flags 2 (ltb-false 2 flags few) other, absent_is (entry_of key entries) absent, eqb-true (length entries) shape.capacity full), λ finds. refl))
    (λ room. (λ is. absurd cc, λ finds. absurd (eqb-false (length entries) shape.capacity room finds.2))))))

-- nor is next key
next_not_big : (key : Option (List ℕ)) → key_or_absent key ≢ Refused E2big
next_not_big None = λ is. absurd cc
next_not_big (Some key) = λ is. absurd cc

-- nor what a batch answers that does nothing
done_not_big : Done ≢ Refused E2big
done_not_big = λ is. absurd cc

absent_not_big : Refused Enoent ≢ Refused E2big
absent_not_big = λ is. absurd cc

invalid_not_big : Refused Einval ≢ Refused E2big
invalid_not_big = λ is. absurd cc

-- nor what a walk over all elements answers
handed_not_big : (over : List (List ℕ × List ℕ)) (next : ℕ) → Batch None over next ≢ Refused E2big
handed_not_big over next = λ is. absurd cc

-- E2BIG is the reply to a call exactly where it finds no room, where the call answers what it does on these entries
call_big : (shape : Shape) (cpu : ℕ) (verb : Verb) (lists : Finals) (entries : List Entry) → (after_call shape cpu verb lists).1 ≡ (answered shape cpu verb (after_call shape cpu verb lists).1 entries).1
    → ((after_call shape cpu verb lists).1 ≡ Refused E2big) ↔ FindsNoRoom shape entries verb
unfolding after_call answered
call_big shape cpu (Lookup side key) lists entries same = (λ is. absurd (read_not_big shape side cpu (entry_of key entries) (sym same ∙ is)), λ finds. absurd finds)
call_big shape cpu (Update side flags key value) lists entries same =
    let big = update_big shape side flags key value entries (put shape side cpu key value entries) in
    (λ is. big.0 (sym same ∙ is), λ finds. same ∙ big.1 finds)
call_big shape cpu (Delete key) lists entries same =
    (λ is. absurd (taken_not_big key Done (entry_of key entries) entries (λ done. absurd cc) (sym same ∙ is)), λ finds. absurd finds)
call_big shape cpu (Take key) lists entries same =
    (λ is. absurd (taken_not_big key (read shape Sys cpu (entry_of key entries)) (entry_of key entries) entries (read_not_big shape Sys cpu (entry_of key entries)) (sym same ∙ is)), λ finds. absurd finds)
call_big shape cpu (Next key) lists entries same = (λ is. absurd (next_not_big (key_after key (in_order shape (in_bucket_at lists))) is), λ finds. absurd finds)
call_big shape cpu (BatchRead remove count start flags) lists entries same =
    let P : Finals × Reply → Type 0 = λ after. after.1 ≢ Refused E2big in
    let not_big = cond_both (flags == 0) _ _ P
    (λ known. cond_both (count == 0) _ _ P (λ none. done_not_big)
    (λ some. cond_both (nat_lt (unwrap_or start 0) shape.buckets) _ _ P
    (λ there. read_not_refused E2big shape cpu remove (min count shape.elements) (buckets_from shape (unwrap_or start 0)) [] lists) (λ past. absent_not_big)))
    (λ other. invalid_not_big) in
    (λ is. absurd (not_big is), λ finds. absurd finds)
call_big shape cpu (BatchUpdate flags pairs) lists entries same =
    let not_big = cond_both (flags == 0) _ _ (λ (after : Finals × Reply). after.1 ≢ Refused E2big)
    (λ known. each_not_refused E2big (λ (pair : List ℕ × List ℕ). after_update shape Sys cpu 0 pair.0 pair.1) pairs 0 lists) (λ other. invalid_not_big) in
    (λ is. absurd (not_big is), λ finds. absurd finds)
call_big shape cpu (BatchDelete flags keys) lists entries same =
    let not_big = cond_both (flags == 0) _ _ (λ (after : Finals × Reply). after.1 ≢ Refused E2big)
    (λ known. each_not_refused E2big (after_delete shape cpu) keys 0 lists) (λ other. invalid_not_big) in
    (λ is. absurd (not_big is), λ finds. absurd finds)
call_big shape cpu (Each flags stop) lists entries same =
    let not_big = cond_both (flags == 0) _ _ (λ (after : Finals × Reply). after.1 ≢ Refused E2big) (λ known. handed_not_big _ _) (λ other. invalid_not_big) in
    (λ is. absurd (not_big is), λ finds. absurd finds)

-- what holds of each call holds of that of an index
call_there : (P : Call → Type 0) (calls : List Call) (n : ℕ) (call : Call) → AllByRecursion P calls → slice_get calls n ≡ Some call → P call
call_there P [] n call all is = absurd (none-some call is)
call_there P (first ∷ calls) zero call all is = subst P (same_Some first call is) all.0
call_there P (first ∷ calls) (suc n) call all is = call_there P calls n call all.1 is

-- The reply to the call of an index is E2BIG exactly where it finds no room.
pub too_big : (script : Script) → HasBounds script.shape → All (IsCallFor script.shape) script.calls → is_lru script.shape.kind ≡ false → (n : ℕ) (call : Call) → slice_get script.calls n ≡ Some call
    → (slice_get (list_replies script) n ≡ Some (Refused E2big)) ↔ FindsNoRoom script.shape (entries_after script.shape [] (take n script.calls) (list_replies script)) call.verb
too_big script bounds are plain n call is =
    let shape : Shape = script.shape in
    let lists : Finals = lists_before script n in
    let entries : List Entry = entries_after shape [] (take n script.calls) (list_replies script) in
    let on_map : IsCallFor shape call = call_there (IsCallFor shape) script.calls n call (recursion_from_All (IsCallFor shape) script.calls are) is in
    let step = agrees_step shape call lists entries bounds plain on_map (sound_run script bounds are plain n) (agrees_run script bounds are plain n) in
    let at = reply_here shape script.calls n call (opening shape) is in
    let big = call_big shape call.cpu call.verb lists entries step.0 in
    (λ refused. big.0 (same_Some _ _ (sym at ∙ refused)), λ finds. at ∙ ap Some (big.1 finds))
