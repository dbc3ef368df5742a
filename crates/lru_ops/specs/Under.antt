-- How a bucket of a map that evicts is taken.
use Rattle.std.specs.Prelude.{ℕ, IsTrue}
use Rattle.map_types.specs.declared.kind.DomainId.TheVariants.{Bucket}
use Rattle.map_types.specs.Kind.{is_lru}
use Rattle.percpu_values.specs.BodyList.{BodyList}
use Rattle.place_table.specs.declared.content.Content.TheVariants as contents
use Rattle.place_table.specs.InBucket.{InBucket}
use Rattle.place_table.specs.Passes.{PassView, TableView, TookLock}
pub use Rattle.place_table.specs.BucketTurns.{CanEnter, GivenBack, LooksUp, IsOut}

-- the bucket was taken, of a map that evicts, whatever is in hand
pub record Enters (t : TableView) (bucket : ℕ) (p q : PassView) (chain : BodyList) : Type 0 where
  pub evicts : IsTrue (is_lru t.shape.kind)
  pub took : TookLock t (Bucket bucket) p q (contents.Bucket chain)
  pub inside : InBucket t bucket q chain.bodies
