-- Which calls leave the lists of a map as they were.
use Rattle.std.proofs.Common.{◌≡◌, ◌≢◌, ℕ, zero, suc, ◌+◌, ◌-◌, ◌==◌, nat_lt, Bool, false, List, [], ◌∷◌, ◌++◌, Option, Some, None, take, length, map, refl, ap, sym, ◌∙◌, add-one}
use Rattle.std.specs.Prelude.{slice_get, min, unwrap_or}
use Rattle.std.proofs.lemmas.Bool.{cond_both}
use Rattle.std.proofs.lemmas.Option.{none-some, same_Some}
use Rattle.map_types.specs.Stored.{Stored}
use Rattle.map_types.specs.declared.attr.Shape.{Shape}
use Rattle.map_types.specs.declared.call.Call.{Call}
use Rattle.map_types.specs.declared.call.Verb.{Verb}
use Rattle.map_types.specs.declared.call.Verb.TheVariants.{Lookup, Update, Delete, Take, Next, BatchRead, BatchUpdate, BatchDelete, Each}
use Rattle.map_types.specs.declared.kind.Side.{Side}
use Rattle.map_types.specs.declared.kind.Side.TheVariants.{Sys}
use Rattle.map_types.specs.declared.refusal.Errno.{Errno}
use Rattle.map_types.specs.declared.reply.Reply.{Reply}
use Rattle.map_types.specs.declared.reply.Reply.TheVariants.{Done, Refused}
use Rattle.map_script.specs.declared.script.Script.{Script}
use Rattle.place_words.specs.declared.finals.Finals.{Finals}
use Rattle.place_words.specs.Bodies.{present}
use Rattle.place_words.specs.Walks.{buckets_from, refused_with}
use Rattle.map_report.specs.Freelists.{popped}
use Rattle.serial_laws.specs.Laws.{OnlyLooks, lists_before}
use Rattle.map_report.specs.Serial.{opening, bucket_at, in_bucket_at, value_or_absent, added, updated, deleted, after_update, after_delete, pair_read, if_emptied, read_on, after_read, unless_stopped, each_done, unless_flags, after_call, replies_from, lists_after}
use Rattle.map_report.specs.ListRuns.{serial_on_lists}

-- a call that is refused leaves the lists
abbrev Stays : Errno → Finals → Finals × Reply → Type 0
Stays errno lists after = after.1 ≡ Refused errno → after.0 ≡ lists

added_stays : (errno : Errno) (shape : Shape) (side : Side) (cpu : ℕ) (key value : List ℕ) (lists : Finals) (top : Option (ℕ × List (List ℕ))) → Stays errno lists (added shape side cpu key value lists top)
added_stays errno shape side cpu key value lists None = λ refused. refl
added_stays errno shape side cpu key value lists (Some top) = λ refused. absurd cc

updated_stays : (errno : Errno) (shape : Shape) (side : Side) (cpu flags : ℕ) (key value : List ℕ) (lists : Finals) (found : Option Stored) → Stays errno lists (updated shape side cpu flags key value lists found)
updated_stays errno shape side cpu flags key value lists None =
    cond_both (flags == 2) _ _ (Stays errno lists) (λ two refused. refl) (λ other. added_stays errno shape side cpu key value lists (popped cpu lists.freelists))
updated_stays errno shape side cpu flags key value lists (Some old) =
    cond_both (flags == 1) _ _ (Stays errno lists) (λ one refused. refl) (λ other refused. absurd cc)

-- a key that is there is taken out, and the call isn't refused
deleted_stays : (errno : Errno) (shape : Shape) (cpu : ℕ) (key : List ℕ) (lists : Finals) (found : Option Stored) → Stays errno lists (deleted shape cpu key lists Done found)
deleted_stays errno shape cpu key lists None = λ refused. refl
deleted_stays errno shape cpu key lists (Some old) = λ refused. absurd cc

taken_stays : (errno : Errno) (shape : Shape) (cpu : ℕ) (key : List ℕ) (lists : Finals) (found : Option Stored) → Stays errno lists (deleted shape cpu key lists (value_or_absent shape Sys cpu found) found)
taken_stays errno shape cpu key lists None = λ refused. refl
taken_stays errno shape cpu key lists (Some old) = λ refused. absurd cc

-- what a batch tells isn't that it was refused, once it is under way
pub read_not_refused : (errno : Errno) (shape : Shape) (cpu : ℕ) (remove : Bool) (limit : ℕ) (buckets : List ℕ) (taken : List (List ℕ × List ℕ)) (lists : Finals) → (read_on shape cpu remove limit buckets taken lists).1 ≢ Refused errno
read_not_refused errno shape cpu remove limit [] taken lists = λ is. absurd cc
read_not_refused errno shape cpu remove limit (bucket ∷ buckets) taken lists =
    cond_both (nat_lt (limit - length taken) (length (in_bucket_at lists bucket))) _ _ (λ (after : Finals × Reply). after.1 ≢ Refused errno) (λ over is. absurd cc)
    (λ fits. read_not_refused errno shape cpu remove limit buckets (taken ++ map (pair_read shape cpu) (in_bucket_at lists bucket)) (if_emptied remove cpu bucket lists))

stop_not_refused : {X : Type 0} (errno : Errno) (told : Option Errno) (done : ℕ) (now : X) (later : X × Reply) → later.1 ≢ Refused errno → (unless_stopped told done now later).1 ≢ Refused errno
stop_not_refused errno None done now later rest = rest
stop_not_refused errno (Some other) done now later rest = λ is. absurd cc

pub each_not_refused : {A X : Type 0} (errno : Errno) (one : A → X → X × Reply) (entries : List A) (done : ℕ) (now : X) → (each_done one entries done now).1 ≢ Refused errno
each_not_refused errno one [] done now = λ is. absurd cc
each_not_refused errno one (entry ∷ entries) done now =
    stop_not_refused errno (refused_with (one entry now).1) done (one entry now).0 (each_done one entries (suc done) (one entry now).0)
    (each_not_refused errno one entries (suc done) (one entry now).0)

unless_flags_stays : (errno : Errno) (flags : ℕ) (lists : Finals) (after : Finals × Reply) → Stays errno lists after → Stays errno lists (unless_flags flags lists after)
unless_flags_stays errno flags lists after stays = cond_both (flags == 0) _ _ (Stays errno lists) (λ plain. stays) (λ other refused. refl)

read_refused_stays : (errno : Errno) (shape : Shape) (cpu : ℕ) (remove : Bool) (count start : ℕ) (lists : Finals) → Stays errno lists (after_read shape cpu remove count start lists)
read_refused_stays errno shape cpu remove count start lists =
    cond_both (count == 0) _ _ (Stays errno lists) (λ none refused. refl)
    (λ some. cond_both (nat_lt start shape.buckets) _ _ (Stays errno lists)
    (λ there refused. absurd (read_not_refused errno shape cpu remove (min count shape.elements) (buckets_from shape start) [] lists refused)) (λ past refused. refl))

refused_stays : (errno : Errno) (shape : Shape) (cpu : ℕ) (verb : Verb) (lists : Finals) → Stays errno lists (after_call shape cpu verb lists)
unfolding after_call
refused_stays errno shape cpu (Lookup side key) lists = λ refused. refl
refused_stays errno shape cpu (Update side flags key value) lists =
    cond_both (nat_lt 2 flags) _ _ (Stays errno lists) (λ above refused. refl) (λ known. updated_stays errno shape side cpu flags key value lists (present key (bucket_at shape lists key)))
refused_stays errno shape cpu (Delete key) lists = deleted_stays errno shape cpu key lists (present key (bucket_at shape lists key))
refused_stays errno shape cpu (Take key) lists = taken_stays errno shape cpu key lists (present key (bucket_at shape lists key))
refused_stays errno shape cpu (Next key) lists = λ refused. refl
refused_stays errno shape cpu (BatchRead remove count start flags) lists =
    unless_flags_stays errno flags lists (after_read shape cpu remove count (unwrap_or start 0) lists) (read_refused_stays errno shape cpu remove count (unwrap_or start 0) lists)
refused_stays errno shape cpu (BatchUpdate flags pairs) lists =
    unless_flags_stays errno flags lists _ (λ refused. absurd (each_not_refused errno (λ (pair : List ℕ × List ℕ). after_update shape Sys cpu 0 pair.0 pair.1) pairs 0 lists refused))
refused_stays errno shape cpu (BatchDelete flags keys) lists =
    unless_flags_stays errno flags lists _ (λ refused. absurd (each_not_refused errno (after_delete shape cpu) keys 0 lists refused))
refused_stays errno shape cpu (Each flags stop) lists = unless_flags_stays errno flags lists _ (λ refused. refl)

-- a batch read that removes nothing
pub read_stays : (shape : Shape) (cpu : ℕ) (remove : Bool) → remove ≡ false → (limit : ℕ) (buckets : List ℕ) (taken : List (List ℕ × List ℕ)) (lists : Finals) → (read_on shape cpu remove limit buckets taken lists).0 ≡ lists
read_stays shape cpu remove none limit [] taken lists = refl
read_stays shape cpu remove none limit (bucket ∷ buckets) taken lists =
    cond_both (nat_lt (limit - length taken) (length (in_bucket_at lists bucket))) _ _ (λ (after : Finals × Reply). after.0 ≡ lists) (λ over. refl)
    (λ fits. read_stays shape cpu remove none limit buckets (taken ++ map (pair_read shape cpu) (in_bucket_at lists bucket)) (if_emptied remove cpu bucket lists)
    ∙ ap (λ (b : Bool). if_emptied b cpu bucket lists) none)

look_stays : (shape : Shape) (cpu : ℕ) (verb : Verb) (lists : Finals) → OnlyLooks verb → (after_call shape cpu verb lists).0 ≡ lists
unfolding after_call
look_stays shape cpu (Lookup side key) lists is = refl
look_stays shape cpu (Update side flags key value) lists is = absurd is
look_stays shape cpu (Delete key) lists is = absurd is
look_stays shape cpu (Take key) lists is = absurd is
look_stays shape cpu (Next key) lists is = refl
look_stays shape cpu (BatchRead remove count start flags) lists is =
    let P : Finals × Reply → Type 0 = λ after. after.0 ≡ lists in
    cond_both (flags == 0) _ _ P
    (λ plain. cond_both (count == 0) _ _ P (λ none. refl)
    (λ some. cond_both (nat_lt (unwrap_or start 0) shape.buckets) _ _ P
    (λ there. read_stays shape cpu remove is (min count shape.elements) (buckets_from shape (unwrap_or start 0)) [] lists) (λ past. refl)))
    (λ other. refl)
look_stays shape cpu (BatchUpdate flags pairs) lists is = absurd is
look_stays shape cpu (BatchDelete flags keys) lists is = absurd is
look_stays shape cpu (Each flags stop) lists is = cond_both (flags == 0) _ _ (λ (after : Finals × Reply). after.0 ≡ lists) (λ plain. refl) (λ other. refl)

-- the lists after the call of an index are what that call makes of those before it
next_lists : (shape : Shape) (calls : List Call) (n : ℕ) (call : Call) (lists : Finals) → slice_get calls n ≡ Some call
    → lists_after shape lists (take (suc n) calls) ≡ (after_call shape call.cpu call.verb (lists_after shape lists (take n calls))).0
next_lists shape [] n call lists none = absurd (none-some call none)
next_lists shape (first ∷ calls) zero call lists is = ap (λ (here : Call). (after_call shape here.cpu here.verb lists).0) (same_Some first call is)
next_lists shape (first ∷ calls) (suc n) call lists is = next_lists shape calls n call (after_call shape first.cpu first.verb lists).0 is

-- and its reply is the call's
reply_at : (shape : Shape) (calls : List Call) (n : ℕ) (reply : Reply) (lists : Finals) → slice_get (replies_from shape lists calls) n ≡ Some reply
    → (call : Call) × (slice_get calls n ≡ Some call) × ((after_call shape call.cpu call.verb (lists_after shape lists (take n calls))).1 ≡ reply)
reply_at shape [] n reply lists none = absurd (none-some reply none)
reply_at shape (first ∷ calls) zero reply lists is = (first, refl, same_Some _ reply is)
reply_at shape (first ∷ calls) (suc n) reply lists is = reply_at shape calls n reply (after_call shape first.cpu first.verb lists).0 is

pub looks_stay : (script : Script) (n : ℕ) (call : Call) → slice_get script.calls n ≡ Some call → OnlyLooks call.verb → lists_before script (n + 1) ≡ lists_before script n
looks_stay script n call is look =
    rw add-one (next_lists script.shape script.calls n call (opening script.shape) is ∙ look_stays script.shape call.cpu call.verb (lists_before script n) look)

pub replies_are : (script : Script) → (serial_on_lists script).replies ≡ replies_from script.shape (opening script.shape) script.calls
unfolding serial_on_lists
replies_are script = refl

pub refusals_stay : (script : Script) (n : ℕ) (errno : Errno) → slice_get (serial_on_lists script).replies n ≡ Some (Refused errno) → lists_before script (n + 1) ≡ lists_before script n
refusals_stay script n errno is =
    let at = reply_at script.shape script.calls n (Refused errno) (opening script.shape) (ap (λ (replies : List Reply). slice_get replies n) (sym (replies_are script)) ∙ is) in
    rw add-one (next_lists script.shape script.calls n at.0 (opening script.shape) at.1 ∙ refused_stays errno script.shape at.0.cpu at.0.verb (lists_before script n) at.2)

-- what is kept is what the map holds after the last call
take_whole : {A : Type 0} (xs : List A) → take (length xs) xs ≡ xs
take_whole [] = refl
take_whole (x ∷ xs) = ap (λ rest. x ∷ rest) (take_whole xs)

pub finals_are : (script : Script) → (serial_on_lists script).finals ≡ lists_before script (length script.calls)
unfolding serial_on_lists
finals_are script = ap (λ (calls : List Call). lists_after script.shape (opening script.shape) calls) (sym (take_whole script.calls))
