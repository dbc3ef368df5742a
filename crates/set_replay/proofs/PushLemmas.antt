-- Which elements a set lists.
use Rattle.std.proofs.Common.{◌≡◌, ℕ, Bool, true, false, ◌∷◌, refl, ap, ◌∙◌, sym, subst, arith}
use Rattle.std.proofs.lemmas.Bool.{true≢false}
use Rattle.percpu_values.specs.BodyList.{pushed}
use Rattle.map_types.specs.Stored.{Stored}
use Rattle.place_words.specs.Sets.{ListSet, is_listed, pushed_free}
use Rattle.place_words.proofs.KeepLaws.{listed_one, listed_none}
use Rattle.place_words.proofs.RowCounts.{rows_any}
use Rattle.lru_lists.specs.Sets.{SetView, IsSet, IsListed, listed, taken_off, with_free}
use Rattle.set_replay.specs.Pushing.{set_of, HasFreeRoom, PushJudged}
use Rattle.set_replay.proofs.SetRoom.{room_to_push}

pub is_listed_where : (e : ℕ) (set : SetView) → IsListed e set → is_listed e (listed set) ≡ true
is_listed_where e set some = go (is_listed e (listed set)) refl
  where
    go : (b : Bool) → is_listed e (listed set) ≡ b → is_listed e (listed set) ≡ true
    go true is = is
    go false is = absurd (omega (arith, some, listed_none e (listed set) is, rows_any e set.active, rows_any e set.inactive))

pub unlisted_where : (e : ℕ) (set : SetView) → (IsListed e set → ⊥) → is_listed e (listed set) ≡ false
unlisted_where e set none = go (is_listed e (listed set)) refl
  where
    go : (b : Bool) → is_listed e (listed set) ≡ b → is_listed e (listed set) ≡ false
    go false is = is
    go true is = absurd (none (omega (arith, listed_one e (listed set) is, rows_any e set.active, rows_any e set.inactive)))

pub not_pushed : (e : ℕ) (before after : SetView) → (IsListed e before → ⊥) → PushJudged e before after false
not_pushed e before after none = record {
  allowed = λ yes. absurd (true≢false (sym yes));
  set = λ yes. absurd (true≢false (sym yes));
  room = λ yes. absurd (true≢false (sym yes));
  bound = λ yes. absurd (true≢false (sym yes));
  whole = λ yes. absurd (true≢false (sym yes));
  refused = λ no. unlisted_where e before none;
}

pub was_pushed : (e : ℕ) (before middle after : SetView) (body : Stored) → IsSet before → HasFreeRoom before → IsListed e before → body.element ≡ e → middle ≡ taken_off e before
    → after ≡ with_free (pushed body middle.free) middle → IsSet after → PushJudged e before after true
was_pushed e before middle after body whole room some is_e is_middle is_after is_set = record {
  allowed = λ yes. is_listed_where e before some;
  set = λ yes. ap set_of is_after ∙ (ap (λ (m : SetView). set_of (with_free (pushed body m.free) m)) is_middle ∙ ap (λ (n : ℕ). pushed_free_with n) is_e);
  room = λ yes. subst HasFreeRoom (sym is_after) (subst (λ (m : SetView). HasFreeRoom (with_free (pushed body m.free) m)) (sym is_middle) (omega (arith, room, room_to_push e before whole room some)));
  bound = λ yes. ap (λ (z : SetView). z.elements) is_after ∙ ap (λ (z : SetView). z.elements) is_middle;
  whole = λ yes. is_set;
  refused = λ no. absurd (true≢false no);
}
  where
    pushed_free_with : ℕ → ListSet
    pushed_free_with n = record { lists = (pushed_free e (set_of before)).lists; free = n ∷ (set_of before).free }
