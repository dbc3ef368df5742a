use Rattle.std.proofs.Common.{◌≡◌, ℕ, List, length, map, ap, sym, ◌∙◌, subst}
use Rattle.std.specs.Prelude.{All}
use Rattle.std.proofs.lemmas.List.Elements.{All-map, All-weaker}
use Rattle.map_types.specs.declared.attr.Shape.{Shape}
use Rattle.map_types.specs.declared.kind.Side.{Side}
use Rattle.map_types.specs.Parts.{part_size, values_in, written_own}
use Rattle.map_types.specs.Stored.{Stored, IsSized}
use Rattle.map_types.specs.ValueLen.{value_len_of}
use Rattle.place_words.specs.Buckets.{written_over}
use Rattle.bucket_chain.specs.Places.{rewritten}
use Rattle.bucket_chain.proofs.Found.{key_found}
use Rattle.bucket_chain.proofs.SizeLaws.{written_sized}
use Rattle.bucket_chain.proofs.WriteLaws.{sized_at, own_within, part_exact, all_exact, own_written_over, all_written_over}
use Rattle.bucket_chain.proofs.values.write_value.Goals as goal

-- what is written over leaves the sizes
sizes_kept : (shape : Shape) (side : Side) (cpu : ℕ) (key value : List ℕ) (bodies now : List Stored) → length value ≡ value_len_of shape side
    → All (IsSized shape) bodies → now ≡ map (written_over shape side cpu key value) bodies → All (IsSized shape) now
sizes_kept shape side cpu key value bodies now long sized is =
    let change = written_over shape side cpu key value in
    let each = All-weaker (IsSized shape) (λ body. IsSized shape (change body)) (λ body one. written_sized shape side cpu key value body long one) bodies sized in
    subst (λ (list : List Stored). All (IsSized shape) list) (sym is) (All-map (IsSized shape) change bodies each)

pub write_own-requires-clause-in_range : goal.write_own-requires-clause-in_range
write_own-requires-clause-in_range c =
    let shape = c.args.shape.now in
    let bodies = c.args.chain.now.bodies in
    let have = sized_at shape bodies c.args.place c.requires.sized (key_found c.args.key.now bodies c.args.place c.requires.place).0 in
    own_within shape c.args.cpu _ c.requires.kind c.requires.cpu have

pub write_own-requires-clause-exact : goal.write_own-requires-clause-exact
write_own-requires-clause-exact c =
    let shape = c.args.shape.now in
    let bodies = c.args.chain.now.bodies in
    let have = sized_at shape bodies c.args.place c.requires.sized (key_found c.args.key.now bodies c.args.place c.requires.place).0 in
    part_exact shape c.args.cpu _ c.args.value.now c.requires.cpu have (c.requires.value ∙ ap (value_len_of shape) c.in-Prog.is)

pub write_all-requires-clause-exact : goal.write_all-requires-clause-exact
write_all-requires-clause-exact c =
    let shape = c.args.shape.now in
    let bodies = c.args.chain.now.bodies in
    let have = sized_at shape bodies c.args.place c.requires.sized (key_found c.args.key.now bodies c.args.place c.requires.place).0 in
    all_exact shape _ c.args.value.now c.requires.kind c.requires.bounds.some_cpu have (c.requires.value ∙ ap (value_len_of shape) c.in-Sys.is)

pub returns-in-Prog : goal.returns-in-Prog
returns-in-Prog c =
    let shape = c.args.shape.now in
    let bodies = c.args.chain.now.bodies in
    let key = c.args.key.now in
    let value = c.args.value.now in
    let there = key_found key bodies c.args.place c.requires.place in
    let written =
    c.write_own.ensures.of_key ∙ ap (λ (k : List ℕ). map (rewritten k (written_own c.args.cpu value)) bodies) there.1
    ∙ own_written_over shape c.args.cpu key value bodies c.requires.kind
    ∙ ap (λ (side : Side). map (written_over shape side c.args.cpu key value) bodies) (sym c.in-Prog.is) in
    record {
      written = written;
      sized = sizes_kept shape c.args.side c.args.cpu key value bodies _ c.requires.value c.requires.sized written;
    }

pub returns-in-Sys : goal.returns-in-Sys
returns-in-Sys c =
    let shape = c.args.shape.now in
    let bodies = c.args.chain.now.bodies in
    let key = c.args.key.now in
    let value = c.args.value.now in
    let there = key_found key bodies c.args.place c.requires.place in
    let written =
    c.write_all.ensures.of_key ∙ ap (λ (k : List ℕ). map (rewritten k (λ values. values_in (length values) (part_size values) value)) bodies) there.1
    ∙ all_written_over shape c.args.cpu key value bodies c.requires.kind c.requires.bounds.some_cpu c.requires.sized
    ∙ ap (λ (side : Side). map (written_over shape side c.args.cpu key value) bodies) (sym c.in-Sys.is) in
    record {
      written = written;
      sized = sizes_kept shape c.args.side c.args.cpu key value bodies _ c.requires.value c.requires.sized written;
    }
