-- The spares at first.
use Rattle.std.proofs.Common.{◌≡◌, Bool, true, false, cond, [], refl, ap}
use Rattle.std.proofs.lemmas.Bool.{both_ways}
use Rattle.map_types.specs.Creation.{IsShape}
use Rattle.map_types.specs.Kind.{is_lru}
use Rattle.map_types.specs.Shape.{HasBounds}
use Rattle.map_types.specs.declared.attr.Shape.{Shape}
use Rattle.map_types.specs.declared.kind.MapKind.{MapKind}
use Rattle.map_types.specs.declared.kind.MapKind.TheVariants.{Hash, PercpuHash, LruHash, LruPercpuHash}
use Rattle.place_words.specs.Openings.{opening_spares}
use Rattle.map_report.specs.Freelists.{opening_stacks, spares_popped}
use Rattle.map_report.specs.Serial.{has_spares, opening}
use Rattle.call_check.proofs.OpeningSpares.{opening_spares_are}

of_kind : (kind : MapKind) → has_spares kind ≡ true → kind ≡ Hash
of_kind Hash is = refl
of_kind PercpuHash is = absurd (both_ways false refl is)
of_kind LruHash is = absurd (both_ways false refl is)
of_kind LruPercpuHash is = absurd (both_ways false refl is)

pub some_at_first : (shape : Shape) → IsShape shape → has_spares shape.kind ≡ true → (opening shape).spares ≡ opening_spares shape
some_at_first shape is has = opening_spares_are shape (of_kind shape.kind has)

pub none_at_first : (shape : Shape) → has_spares shape.kind ≡ false → (opening shape).spares ≡ []
unfolding opening
none_at_first shape none = ap (λ (b : Bool). (spares_popped (cond b shape.cpus 0) (opening_stacks shape.elements shape.cpus)).0) none

-- a map that doesn't evict shares no lists
pub not_common : (shape : Shape) → HasBounds shape → is_lru shape.kind ≡ false → shape.common ≡ false
not_common shape bounds plain = by shape.common refl
  where
    by : (b : Bool) → shape.common ≡ b → shape.common ≡ false
    by true common = let lru = bounds.common_evicts common in absurd cc
    by false own = own
