-- What lookups and updates of a key did on a map of any kind, once they answer: what says otherwise is refused.
use Rattle.std.specs.Prelude.{◌≡◌, ℕ, true, false, List, MatchOption, IsSome, if◌then◌else◌}
use Rattle.map_types.specs.declared.attr.Shape.{Shape}
use Rattle.map_types.specs.declared.call.Verb.TheVariants as verbs
use Rattle.map_types.specs.declared.kind.Side.{Side}
use Rattle.map_types.specs.declared.refusal.Errno.TheVariants.{E2big, Enoent, Enomem}
use Rattle.map_types.specs.declared.reply.Reply.TheVariants.{Done, Value, Refused}
use Rattle.map_types.specs.Kind.{is_lru, is_percpu}
use Rattle.map_types.specs.Sides.{value_read, new_values, values_written}
use Rattle.place_words.specs.Bodies.{present}
use Rattle.place_words.specs.Buckets.{IsAbsent, IsPresentWith}
use Rattle.place_table.specs.declared.view.Turned.{Turned}
use Rattle.place_table.specs.Calls.{Called}
use Rattle.place_table.specs.Passes.{PassView, TableView}
use Rattle.refusals.specs.Made.{lay, left, bodies_in, MadeOnly, MadeUpdate}

-- Lookups

-- A lookup that answers ENOENT made one turn, of the key's bucket, where no such key lay; also where the record of that turn is lost.
abbrev pub EnoentIsAbsent : Type 0
EnoentIsAbsent =
    (t : TableView) (before after : PassView) (side : Side) (key : List ℕ) (called : Called t before after (verbs.Lookup side key) (Refused Enoent))
    → MadeOnly t.shape key called.steps (λ step. IsAbsent key (bodies_in (lay t.shape step)))

-- One that answers a value read it of the element that has the key there, as its side reads it.
abbrev pub ValueLiesThere : Type 0
ValueLiesThere =
    (t : TableView) (before after : PassView) (side : Side) (key bytes : List ℕ) (called : Called t before after (verbs.Lookup side key) (Value bytes))
    → MadeOnly t.shape key called.steps (λ step. IsPresentWith key (bodies_in (lay t.shape step)) (λ body. bytes ≡ value_read t.shape side before.cpu body.values))

-- Updates that are done

-- After a turn the key is there with these bytes as a side writes them: over the values that it had, where there is one for each CPU,
-- else as new ones.
abbrev pub HoldsWritten : Shape → Side → ℕ → List ℕ → List ℕ → Turned → Type 0
HoldsWritten shape side cpu key value step =
    IsPresentWith key (bodies_in (left shape step)) (λ body. MatchOption (present key (bodies_in (lay shape step)))
    (body.values ≡ new_values shape side cpu value)
    (λ old. body.values ≡ (if is_percpu shape.kind then values_written shape side cpu old.values value else new_values shape side cpu value)))

-- An update that is done made its turn of the key's bucket, after which the key is there with its value; also where its record is lost.
abbrev pub DoneIsWritten : Type 0
DoneIsWritten =
    (t : TableView) (before after : PassView) (side : Side) (flags : ℕ) (key value : List ℕ) (called : Called t before after (verbs.Update side flags key value) Done)
    → MadeUpdate t.shape before.cpu side flags key value called.steps (λ step. HoldsWritten t.shape side before.cpu key value step)

-- An update by BPF_NOEXIST (1) that is done found no such key in that turn, and one by BPF_EXIST (2) found it.
abbrev pub NoexistFindsNone : Type 0
NoexistFindsNone =
    (t : TableView) (before after : PassView) (side : Side) (key value : List ℕ) (called : Called t before after (verbs.Update side 1 key value) Done)
    → MadeUpdate t.shape before.cpu side 1 key value called.steps (λ step. IsAbsent key (bodies_in (lay t.shape step)))

abbrev pub ExistFindsIt : Type 0
ExistFindsIt =
    (t : TableView) (before after : PassView) (side : Side) (key value : List ℕ) (called : Called t before after (verbs.Update side 2 key value) Done)
    → MadeUpdate t.shape before.cpu side 2 key value called.steps (λ step. IsSome (present key (bodies_in (lay t.shape step))))

-- Updates that are refused

-- E2BIG is answered of no map that evicts, and ENOMEM of no other.
abbrev pub E2bigIsPlain : Type 0
E2bigIsPlain =
    (t : TableView) (before after : PassView) (side : Side) (flags : ℕ) (key value : List ℕ) → Called t before after (verbs.Update side flags key value) (Refused E2big) → is_lru t.shape.kind ≡ false

abbrev pub EnomemIsEvicting : Type 0
EnomemIsEvicting =
    (t : TableView) (before after : PassView) (side : Side) (flags : ℕ) (key value : List ℕ) → Called t before after (verbs.Update side flags key value) (Refused Enomem) → is_lru t.shape.kind ≡ true
