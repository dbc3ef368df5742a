-- What a body ends as after its values, or it whole, are lent.
use Rattle.std.specs.Prelude.{List, ℕ}
use Rattle.std.specs.Borrow.{Lends, MutBor, Fml}
use Rattle.map_types.specs.Stored.{Stored}
use Rattle.percpu_values.specs.contracts.values.Values as values
use Rattle.percpu_values.specs.contracts.body.Body as body
use Rattle.percpu_values.specs.contracts.boxed.BoxedBody as boxed

abbrev pub with_values : Stored → List (List ℕ) → Stored
with_values stored values = record stored { values = values }

-- r lends the values of s: what is last written through r are the values of s, and the rest stays
abbrev pub LendsValues : MutBor Stored → MutBor (List (List ℕ)) → Fml
LendsValues s r = Lends body.the_row values.the_row s r (with_values s.now)

-- r lends the body of s
abbrev pub LendsBody : MutBor Stored → MutBor Stored → Fml
LendsBody s r = Lends boxed.the_row body.the_row s r (λ w. w)
