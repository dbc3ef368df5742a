-- Values of a side that are written over a body's: they fit where the bodies have the map's sizes, and leave what that
-- side writes.
use Rattle.std.proofs.Common.{◌≡◌, ℕ, ◌*◌, ◌<◌, ◌≤◌, Bool, true, false, List, [], ◌∷◌, length, map, get_or, refl, ap, sym, ◌∙◌, subst, arith}
use Rattle.std.specs.Prelude.{if◌then◌else◌}
use Rattle.std.proofs.lemmas.List.Elements.{All-get_or, All-head, All-tail}
use Rattle.map_types.specs.declared.attr.Shape.{Shape}
use Rattle.map_types.specs.declared.kind.Side.{Side}
use Rattle.map_types.specs.declared.kind.Side.TheVariants.{Prog, Sys}
use Rattle.map_types.specs.Kind.{is_percpu}
use Rattle.map_types.specs.Parts.{AreOfSize, part_size, values_in, written_own}
use Rattle.map_types.specs.Sides.{part_count, values_written}
use Rattle.map_types.specs.Stored.{Stored, HasSizes}
use Rattle.map_types.specs.ValueLen.{round8, value_len_of}
use Rattle.percpu_values.proofs.SideLemmas.{HaveSizes}
use Rattle.place_words.specs.Bodies.{has_key}
use Rattle.place_words.specs.Buckets.{written_over}
use Rattle.place_words.specs.Sizes.{AreSized}
use Rattle.bucket_chain.specs.Places.{values_at, rewritten}
use Rattle.bucket_chain.proofs.Keys.{values_at-is}

-- there is a part
pub some_part : (shape : Shape) (cpu : ℕ) → cpu < shape.cpus → 1 ≤ part_count shape
some_part shape cpu on =
    elim (is_percpu shape.kind) as (λ b. 1 ≤ (if b then shape.cpus else 1)) [
      | true ↦ omega arith
      | false ↦ omega arith
    ]

-- the size of the first part is that of all
pub part_size_is : (size : ℕ) (values : List (List ℕ)) → AreOfSize size values → 1 ≤ length values → part_size values ≡ size
part_size_is size [] sizes some = absurd (omega arith)
part_size_is size (value ∷ values) sizes some = sizes.0

-- the values at a place have the map's sizes
pub sized_at : (shape : Shape) (bodies : List Stored) (place : ℕ) → AreSized shape bodies → place < length bodies → HaveSizes (part_count shape) shape.value_size (values_at place bodies)
sized_at shape bodies place sized within =
    let blank : Stored = record { element = 0; key = []; values = [] } in
    let at : HasSizes shape.key_size (part_count shape) shape.value_size (get_or bodies place blank) =
    All-get_or (HasSizes shape.key_size (part_count shape) shape.value_size) bodies place blank within sized in
    let have : HaveSizes (part_count shape) shape.value_size (get_or bodies place blank).values = record { counted = at.parts_counted; sized = at.parts_sized } in
    subst (λ (values : List (List ℕ)). HaveSizes (part_count shape) shape.value_size values) (sym (values_at-is place bodies blank within)) have

-- A program writes the part of its CPU: there is one, a value has its size, and that is the program's write.
pub own_within : (shape : Shape) (cpu : ℕ) (values : List (List ℕ)) → is_percpu shape.kind ≡ true → cpu < shape.cpus → HaveSizes (part_count shape) shape.value_size values → cpu < length values
own_within shape cpu values is on have =
    let counted : length values ≡ shape.cpus = subst (λ b. length values ≡ (if b then shape.cpus else 1)) is have.counted in
    omega arith

pub part_exact : (shape : Shape) (cpu : ℕ) (values : List (List ℕ)) (bytes : List ℕ) → cpu < shape.cpus → HaveSizes (part_count shape) shape.value_size values → length bytes ≡ shape.value_size → length bytes ≡ part_size values
part_exact shape cpu values bytes on have long =
    long ∙ sym (part_size_is shape.value_size values have.sized (omega (arith, have.counted, some_part shape cpu on)))

-- A system call writes all parts: their fields are as long as its value, and that is the system call's write.
pub all_exact : (shape : Shape) (values : List (List ℕ)) (bytes : List ℕ) → is_percpu shape.kind ≡ true → 1 ≤ shape.cpus → HaveSizes (part_count shape) shape.value_size values → length bytes ≡ value_len_of shape Sys → length bytes ≡ length values * round8 (part_size values)
all_exact shape values bytes is some have long =
    let counted : length values ≡ shape.cpus = subst (λ b. length values ≡ (if b then shape.cpus else 1)) is have.counted in
    let exact : length bytes ≡ shape.cpus * round8 shape.value_size = subst (λ b. length bytes ≡ (if b then shape.cpus * round8 shape.value_size else shape.value_size)) is long in
    let size : part_size values ≡ shape.value_size = part_size_is shape.value_size values have.sized (omega arith) in
    exact ∙ sym (ap (λ n. n * round8 (part_size values)) counted ∙ ap (λ n. shape.cpus * round8 n) size)

pub all_written : (shape : Shape) (cpu : ℕ) (values : List (List ℕ)) (bytes : List ℕ) → is_percpu shape.kind ≡ true → 1 ≤ shape.cpus → HaveSizes (part_count shape) shape.value_size values → values_in (length values) (part_size values) bytes ≡ values_written shape Sys cpu values bytes
all_written shape cpu values bytes is some have =
    let counted : length values ≡ shape.cpus = subst (λ b. length values ≡ (if b then shape.cpus else 1)) is have.counted in
    let size : part_size values ≡ shape.value_size = part_size_is shape.value_size values have.sized (omega arith) in
    let now : values_in (length values) (part_size values) bytes ≡ values_in shape.cpus shape.value_size bytes =
    ap (λ n. values_in n (part_size values) bytes) counted ∙ ap (λ n. values_in shape.cpus n bytes) size in
    now ∙ sym (ap (λ b. if b then values_in shape.cpus shape.value_size bytes else written_own 0 bytes values) is)

-- The same of a whole bucket, in which the body that holds the key is written over.

-- a change of a key's values that a side's write makes at each body of the map's sizes
rewritten_over : (shape : Shape) (side : Side) (cpu : ℕ) (key value : List ℕ) (change : List (List ℕ) → List (List ℕ)) (bodies : List Stored) → AreSized shape bodies
    → ((values : List (List ℕ)) → HaveSizes (part_count shape) shape.value_size values → change values ≡ values_written shape side cpu values value)
    → map (rewritten key change) bodies ≡ map (written_over shape side cpu key value) bodies
rewritten_over shape side cpu key value change [] sized same = refl
rewritten_over shape side cpu key value change (body ∷ bodies) sized same =
    let fits : Stored → Type 0 = HasSizes shape.key_size (part_count shape) shape.value_size in
    let here : fits body = All-head fits body bodies sized in
    let new = same body.values (record { counted = here.parts_counted; sized = here.parts_sized }) in
    let first : rewritten key change body ≡ written_over shape side cpu key value body =
    ap (λ (values : List (List ℕ)). if has_key key body then record body { values = values } else body) new in
    ap (λ (now : Stored). now ∷ map (rewritten key change) bodies) first
    ∙ ap (λ (rest : List Stored). written_over shape side cpu key value body ∷ rest) (rewritten_over shape side cpu key value change bodies (All-tail fits body bodies sized) same)

pub own_written_over : (shape : Shape) (cpu : ℕ) (key value : List ℕ) (bodies : List Stored) → is_percpu shape.kind ≡ true
    → map (rewritten key (written_own cpu value)) bodies ≡ map (written_over shape Prog cpu key value) bodies
own_written_over shape cpu key value bodies is =
    sym (ap (λ (b : Bool). map (rewritten key (λ values. if b then written_own cpu value values else written_own 0 value values)) bodies) is)

pub all_written_over : (shape : Shape) (cpu : ℕ) (key value : List ℕ) (bodies : List Stored) → is_percpu shape.kind ≡ true → 1 ≤ shape.cpus → AreSized shape bodies
    → map (rewritten key (λ values. values_in (length values) (part_size values) value)) bodies ≡ map (written_over shape Sys cpu key value) bodies
all_written_over shape cpu key value bodies is some sized =
    rewritten_over shape Sys cpu key value (λ values. values_in (length values) (part_size values) value) bodies sized (λ values have. all_written shape cpu values value is some have)
