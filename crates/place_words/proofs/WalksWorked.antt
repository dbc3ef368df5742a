-- Next key and batches, worked: the turns of such calls with their replies, and changed ones, which are none.
use Rattle.std.proofs.Common.{ℕ, inl, inr, true, false, List, [], ◌∷◌, refl, arith}
use Rattle.std.specs.Prelude.{None, Some}
use Rattle.map_types.specs.declared.attr.Shape.{Shape}
use Rattle.map_types.specs.declared.call.Verb.TheVariants as verbs
use Rattle.map_types.specs.declared.kind.DomainId.TheVariants.{Local, Bucket}
use Rattle.map_types.specs.declared.kind.MapKind.TheVariants.{Hash}
use Rattle.map_types.specs.declared.kind.Side.TheVariants.{Sys}
use Rattle.map_types.specs.declared.refusal.Errno.TheVariants.{Enoent, E2big, Enospc, Einval}
use Rattle.map_types.specs.declared.reply.Reply.TheVariants.{Done, Value, Refused, Batch, Count}
use Rattle.map_types.specs.Stored.{Stored}
use Rattle.key_hash.specs.Jhash.{hash, absorb, start, add_block, mix, finish, finish_a, finish_b, finish_c, mix_a, mix_b, mix_c}
use Rattle.key_hash.specs.Bucket.{bucket_number}
use Rattle.place_words.specs.declared.bucket_part.BucketPart.{BucketPart}
use Rattle.place_words.specs.declared.bucket_part.BucketPart.TheVariants.{Update, Delete, Next, First, Walk}
use Rattle.place_words.specs.declared.bucket_part.NextFound.TheVariants as nexts
use Rattle.place_words.specs.declared.bucket_part.Put.TheVariants as puts
use Rattle.place_words.specs.declared.bucket_part.Walked.TheVariants.{Over, Taken}
use Rattle.place_words.specs.declared.free_part.FreePart.TheVariants.{Pushed, Popped, FoundEmpty}
use Rattle.place_words.specs.declared.history.Part.TheVariants as parts
use Rattle.place_words.specs.declared.list_part.LocalPart.TheVariants as local
use Rattle.place_words.specs.Traces.{IsTrace}
use Rattle.place_words.specs.Turns.{TurnAt, Turn, on_lock, on_freelist_of}
use Rattle.place_words.proofs.Worked.{lru_hash}

-- Buckets 2 and 3 hold two keys each: 04 and 03, and 02 and 01.
shape : Shape
shape = record {
  kind = Hash;
  cpus = 1;
  capacity = 4;
  elements = 5;
  buckets = 4;
  key_size = 1;
  value_size = 1;
  seed = 0;
  common = false;
}

-- what came before doesn't matter here
at : Turn → TurnAt
at turn = record { turn = turn; earlier = [] }

on : ℕ → BucketPart → TurnAt
on bucket part = at (on_lock (Bucket bucket) (parts.Bucket part))

read : ℕ → ℕ → Stored
read e key = record { element = e; key = key ∷ []; values = (key ∷ []) ∷ [] }

-- the first key of all
first_turns : List TurnAt
first_turns = on 0 (First None) ∷ on 1 (First None) ∷ on 2 (First (Some (4 ∷ []))) ∷ []

first_key : IsTrace shape 0 None (verbs.Next None) first_turns (Value (4 ∷ []))
unfolding shape at on first_turns
first_key = (None, _, refl, (None, _, refl, (Some (4 ∷ []), [], refl, (refl, refl))))

-- it ends at the first bucket that isn't empty
first_too_far : IsTrace shape 0 None (verbs.Next None) (on 0 (First (Some (4 ∷ []))) ∷ on 1 (First None) ∷ []) (Value (4 ∷ [])) → ⊥
unfolding shape at on
first_too_far (None, rest, same, more) = grind (arith, same)
first_too_far (Some key, rest, same, more) = grind (arith, same, more.0)

-- the last of its bucket goes on at the next bucket
last_turns : List TurnAt
last_turns = on 2 (Next (3 ∷ []) nexts.Last) ∷ on 3 (First (Some (2 ∷ []))) ∷ []

after_last : IsTrace shape 0 None (verbs.Next (Some (3 ∷ []))) last_turns (Value (2 ∷ []))
unfolding shape at on last_turns hash absorb start add_block mix finish finish_a finish_b finish_c mix_a mix_b mix_c bucket_number
after_last = record { found = nexts.Last; rest = _; turns_are = refl; goes_on = (Some (2 ∷ []), [], refl, (refl, refl)) }

-- the last of all has none
at_end : IsTrace shape 0 None (verbs.Next (Some (1 ∷ []))) (on 3 (Next (1 ∷ []) nexts.Last) ∷ []) (Refused Enoent)
unfolding shape at on hash absorb start add_block mix finish finish_a finish_b finish_c mix_a mix_b mix_c bucket_number
at_end = record { found = nexts.Last; rest = []; turns_are = refl; goes_on = (refl, refl) }

-- an absent key goes on at the first bucket
absent_turns : List TurnAt
absent_turns = on 3 (Next (5 ∷ []) nexts.Absent) ∷ first_turns

after_absent : IsTrace shape 0 None (verbs.Next (Some (5 ∷ []))) absent_turns (Value (4 ∷ []))
unfolding shape at on first_turns absent_turns hash absorb start add_block mix finish finish_a finish_b finish_c mix_a mix_b mix_c bucket_number
after_absent = record { found = nexts.Absent; rest = _; turns_are = refl; goes_on = (None, _, refl, (None, _, refl, (Some (4 ∷ []), [], refl, (refl, refl)))) }

-- Batch reads: a count of 0, flags, a start past the buckets
idle : IsTrace shape 0 None (verbs.BatchRead false 0 None 0) [] Done
unfolding shape
idle = (refl, refl)

flagged : IsTrace shape 0 None (verbs.BatchRead false 0 None 1) [] (Refused Einval)
unfolding shape
flagged = (refl, refl)

past : IsTrace shape 0 None (verbs.BatchRead false 2 (Some 4) 0) [] (Refused Enoent)
unfolding shape
past = (refl, refl)

-- no room for the first bucket that isn't empty
no_room : IsTrace shape 0 None (verbs.BatchRead false 1 None 0) (on 0 (Walk false 1 (Taken [])) ∷ on 1 (Walk false 1 (Taken [])) ∷ on 2 (Walk false 1 (Over 2)) ∷ []) (Batch (Some Enospc) [] 2)
unfolding shape at on
no_room = (Taken [], on 0 (Walk false 1 (Taken [])) ∷ [], _, (refl, refl, (Taken [], on 1 (Walk false 1 (Taken [])) ∷ [], _, (refl, refl, (Over 2, on 2 (Walk false 1 (Over 2)) ∷ [], [], (refl, refl, (refl, refl)))))))

-- no room for the second one
some_room : IsTrace shape 0 None (verbs.BatchRead false 3 (Some 2) 0) (on 2 (Walk false 3 (Taken (read 0 4 ∷ read 1 3 ∷ []))) ∷ on 3 (Walk false 1 (Over 2)) ∷ []) (Batch None ((4 ∷ [], 4 ∷ []) ∷ (3 ∷ [], 3 ∷ []) ∷ []) 3)
unfolding shape at on read
some_room = (Taken (read 0 4 ∷ read 1 3 ∷ []), on 2 (Walk false 3 (Taken (read 0 4 ∷ read 1 3 ∷ []))) ∷ [], _, (refl, refl, (Over 2, on 3 (Walk false 1 (Over 2)) ∷ [], [], (refl, refl, (refl, refl)))))

-- a take of a bucket on a map that doesn't evict pushes in the order taken, inside the bucket's turn
taken_turns : List TurnAt
taken_turns = at (on_freelist_of 0 (Pushed 2)) ∷ at (on_freelist_of 0 (Pushed 3)) ∷ on 3 (Walk true 5 (Taken (read 2 2 ∷ read 3 1 ∷ []))) ∷ []

takes_all : IsTrace shape 0 None (verbs.BatchRead true 7 (Some 3) 0) taken_turns (Batch (Some Enoent) ((2 ∷ [], 2 ∷ []) ∷ (1 ∷ [], 1 ∷ []) ∷ []) 4)
unfolding shape at on read taken_turns
takes_all = (Taken (read 2 2 ∷ read 3 1 ∷ []), taken_turns, [], (refl, refl, (refl, refl)))

-- and on one that evicts, the last taken is freed first, after it
lru : Shape
lru = lru_hash 2 1 true

pushed : ℕ → TurnAt
pushed e = at (on_lock (Local 0) (parts.Local (local.Push e true)))

evicted_turns : List TurnAt
evicted_turns = on 1 (Walk true 2 (Taken (read 1 2 ∷ read 0 1 ∷ []))) ∷ pushed 0 ∷ pushed 1 ∷ []

takes_evicting : IsTrace lru 0 None (verbs.BatchRead true 2 (Some 1) 0) evicted_turns (Batch (Some Enoent) ((2 ∷ [], 2 ∷ []) ∷ (1 ∷ [], 1 ∷ []) ∷ []) 2)
unfolding lru at on read pushed evicted_turns
takes_evicting = (
  Taken (read 1 2 ∷ read 0 1 ∷ []),
  evicted_turns,
  [],
  (
    refl,
    record {
      at_bucket = on 1 (Walk true 2 (Taken (read 1 2 ∷ read 0 1 ∷ [])));
      freeing = pushed 0 ∷ pushed 1 ∷ [];
      turns_are = refl;
      bucket_is = refl;
      frees = (
        pushed 0 ∷ [],
        pushed 1 ∷ [],
        (refl, inl (record { on = 0; turns_are = refl }), (pushed 1 ∷ [], [], (refl, inl (record { on = 0; turns_are = refl }), refl))),
      );
    },
    (refl, refl),
  ),
)

-- Batch writes end with the first entry that is refused: here the map is full at the second
full_turns : List TurnAt
full_turns =
    at (on_freelist_of 0 (Popped 1)) ∷ on 3 (Update Sys 0 (1 ∷ []) (161 ∷ []) None (puts.Added 1))
    ∷ at (on_freelist_of 0 FoundEmpty) ∷ on 3 (Update Sys 0 (2 ∷ []) (162 ∷ []) None puts.Full) ∷ []

fills : IsTrace shape 0 (Some 0) (verbs.BatchUpdate 0 ((1 ∷ [], 161 ∷ []) ∷ (2 ∷ [], 162 ∷ []) ∷ (3 ∷ [], 163 ∷ []) ∷ [])) full_turns (Count (Some E2big) 1)
unfolding shape at on full_turns hash absorb start add_block mix finish finish_a finish_b finish_c mix_a mix_b mix_c bucket_number
fills = (
  Done,
  at (on_freelist_of 0 (Popped 1)) ∷ on 3 (Update Sys 0 (1 ∷ []) (161 ∷ []) None (puts.Added 1)) ∷ [],
  _,
  (
    refl,
    inr (
      omega arith,
      record {
        put = puts.Added 1;
        looks = on_freelist_of 0 (Popped 1) ∷ [];
        looks_are = record { passed = []; giver = 0; left = []; ring_is = refl; turns_are = refl };
        turns_are = refl;
        reply_is = refl;
      },
    ),
    (
      Refused E2big,
      at (on_freelist_of 0 FoundEmpty) ∷ on 3 (Update Sys 0 (2 ∷ []) (162 ∷ []) None puts.Full) ∷ [],
      [],
      (
        refl,
        inr (
          omega arith,
          record { put = puts.Full; looks = on_freelist_of 0 FoundEmpty ∷ []; looks_are = refl; turns_are = refl; reply_is = refl },
        ),
        (refl, refl),
      ),
    ),
  ),
)

deletes : IsTrace shape 0 (Some 0) (verbs.BatchDelete 0 ((1 ∷ []) ∷ (2 ∷ []) ∷ [])) (on 3 (Delete (1 ∷ []) None) ∷ []) (Count (Some Enoent) 0)
unfolding shape at on hash absorb start add_block mix finish finish_a finish_b finish_c mix_a mix_b mix_c bucket_number
deletes = (Refused Enoent, on 3 (Delete (1 ∷ []) None) ∷ [], [], (refl, record { gone = None; turns_are = refl; reply_is = refl }, (refl, refl)))

batch_flags : IsTrace shape 0 (Some 0) (verbs.BatchDelete 1 ((1 ∷ []) ∷ [])) [] (Refused Einval)
unfolding shape
batch_flags = (refl, refl)
