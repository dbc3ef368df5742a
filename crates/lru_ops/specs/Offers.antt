-- What an update's turn of its key's bucket leaves over, and what the update leaves once that is freed.
use Rattle.std.specs.Prelude.{◌≡◌, ℕ, true, List, [], map, option_map, Option, None, Some, Result, Ok, Err}
use Rattle.key_hash.specs.Jhash.{hash}
use Rattle.map_types.specs.declared.kind.Side.{Side}
use Rattle.map_types.specs.declared.refusal.Errno.TheVariants as errnos
use Rattle.map_types.specs.declared.reply.Reply.{Reply}
use Rattle.map_types.specs.declared.reply.Reply.TheVariants.{Done, Refused}
use Rattle.map_types.specs.Stored.{Stored}
use Rattle.place_words.specs.declared.bucket_part.Put.{Put}
use Rattle.place_words.specs.declared.bucket_part.Put.TheVariants as puts
use Rattle.place_words.specs.Evicting.{MayPut, MayPutAlone, left_over, OffersOne}
use Rattle.place_words.specs.PlainTraces.{reply_of_put}
use Rattle.place_table.specs.declared.view.InHand.{InHand}
use Rattle.place_table.specs.declared.view.Turned.{Turned}
use Rattle.place_table.specs.Known.{turn_at}
use Rattle.place_table.specs.Passes.{PassView, TableView, IsPassOf, HasBegun}
use Rattle.place_table.specs.Views.{is_in_hand_of, with_in_hand, without_in_hand}
use Rattle.lru_ops.specs.declared.map.LruRefusal.{LruRefusal}
use Rattle.lru_ops.specs.declared.map.LruRefusal.TheVariants as refusals
use Rattle.lru_ops.specs.Lists.{Changed, IsTakenFor, CanFree, Freed}
use Rattle.lru_ops.specs.Under.{GivenBack, IsOut}
pub use Rattle.place_table.specs.BucketPuts.{UpdateCall, update_call, Asked, asked_of, AreUpdateArguments, IsOffered, update_part, PutsInPlace, IsRefusal, Adds, Replaces, Writes}

-- what is in hand where an update that was offered an element put this
abbrev pub hand_after : ℕ → Put → ℕ → List InHand → List InHand
hand_after e (puts.Added added) cpu hand = without_in_hand e cpu hand
hand_after e (puts.Replaced new old) cpu hand = with_in_hand old cpu (without_in_hand e cpu hand)
hand_after e (puts.Written written) cpu hand = hand
hand_after e puts.Exists cpu hand = hand
hand_after e puts.Absent cpu hand = hand
hand_after e puts.Full cpu hand = hand

-- An update, and the element that it was offered.
pub record Offer : Type 0 where
  pub update : UpdateCall
  pub element : ℕ

-- as its entry tells it
abbrev pub asked_with : Offer → Asked
asked_with offer = record { update = offer.update; offer = Some offer.element }

abbrev pub offer_of : Side → ℕ → List ℕ → List ℕ → ℕ → Offer
offer_of side flags key value e = record { update = update_call side flags key value; element = e }

-- The turn of an update that was offered an element. What is left over is in the CPU's hand.
pub record Offers (t : TableView) (bucket : ℕ) (q s : PassView) (offer : Offer) (left : Option Stored) (reply : Reply) : Type 0 where
  pub put : Put
  pub may_put : MayPut t.shape offer.element put
  pub gives : GivenBack t bucket q s (update_part (asked_with offer) put) (hand_after offer.element put q.cpu q.view.hand)
  pub left_is : option_map (λ (body : Stored). body.element) left ≡ left_over offer.element put
  pub is_out : IsOut t left
  pub reply_is : reply ≡ reply_of_put put

-- the turn of an update that was offered nothing
pub record PutsAlone (t : TableView) (bucket : ℕ) (q s : PassView) (update : UpdateCall) (reply : Reply) : Type 0 where
  pub put : Put
  pub may_put : MayPutAlone put
  pub gives : PutsInPlace t bucket q s (record { update = update; offer = None }) put
  pub reply_is : reply ≡ reply_of_put put

-- an update in its bucket that was offered an element
abbrev pub OfferEnds : TableView → ℕ → PassView → PassView → Offer → Option Stored → Result (Unit {0}) LruRefusal → Type 0
OfferEnds t bucket q s offer left (Ok done) = Offers t bucket q s offer left Done
OfferEnds t bucket q s offer left (Err refusals.Einval) = ⊥
OfferEnds t bucket q s offer left (Err refusals.Enoent) = Offers t bucket q s offer left (Refused errnos.Enoent)
OfferEnds t bucket q s offer left (Err refusals.Eexist) = Offers t bucket q s offer left (Refused errnos.Eexist)
OfferEnds t bucket q s offer left (Err refusals.Enomem) = ⊥

-- and one that was offered nothing
abbrev pub AloneEnds : TableView → ℕ → PassView → PassView → UpdateCall → Result (Unit {0}) LruRefusal → Type 0
AloneEnds t bucket q s update (Ok done) = PutsAlone t bucket q s update Done
AloneEnds t bucket q s update (Err refusals.Einval) = ⊥
AloneEnds t bucket q s update (Err refusals.Enoent) = PutsAlone t bucket q s update (Refused errnos.Enoent)
AloneEnds t bucket q s update (Err refusals.Eexist) = ⊥
AloneEnds t bucket q s update (Err refusals.Enomem) = ⊥

-- what is left over can be freed, and was, where there is anything
abbrev pub CanFreeLeft : TableView → Option Stored → PassView → Type 0
CanFreeLeft t None p = Unit {0}
CanFreeLeft t (Some body) p = CanFree t body p

abbrev pub HasFreedLeft : TableView → Option Stored → PassView → PassView → Type 0
HasFreedLeft t None before after = after ≡ before
HasFreedLeft t (Some body) before after = Freed t body before after

-- A pass holds no lock and carries nothing, and its CPU has one element in hand, which was taken for this key.
pub record CanOffer (t : TableView) (key : List ℕ) (body : Stored) (p : PassView) : Type 0 where
  pub of_table : IsPassOf t p
  pub begun : HasBegun p
  pub no_lock : p.view.held ≡ []
  pub carries_nothing : p.view.carried ≡ []
  pub taken : IsTakenFor t (hash key t.shape.seed) p body
  pub in_hand : is_in_hand_of body.element p.cpu p.view.hand ≡ true
  pub no_other : (e : ℕ) → is_in_hand_of e p.cpu p.view.hand ≡ true → e ≡ body.element

-- what is in hand afterwards is what was before, but for this element of the CPU's
abbrev pub IsOutOfHand : ℕ → PassView → PassView → Type 0
IsOutOfHand e before after = (x cpu : ℕ) → is_in_hand_of x cpu after.view.hand ≡ is_in_hand_of x cpu (without_in_hand e before.cpu before.view.hand)

-- An element was offered to its key's bucket, and what was left over is freed.
pub record HasOffered (t : TableView) (before after : PassView) (offer : Offer) (reply : Reply) : Type 0 where
  pub steps : List Turned
  pub told : List Turned
  pub lost : List ℕ
  pub changed : Changed t before after steps told lost
  pub trace : OffersOne t.shape offer.update.side offer.update.flags offer.update.key offer.update.value offer.element (map (turn_at t.shape) told) reply
  pub hand : IsOutOfHand offer.element before after

abbrev pub OfferAnswers : TableView → PassView → PassView → Offer → Result (Unit {0}) LruRefusal → Type 0
OfferAnswers t before after offer (Ok done) = HasOffered t before after offer Done
OfferAnswers t before after offer (Err refusals.Einval) = ⊥
OfferAnswers t before after offer (Err refusals.Enoent) = HasOffered t before after offer (Refused errnos.Enoent)
OfferAnswers t before after offer (Err refusals.Eexist) = HasOffered t before after offer (Refused errnos.Eexist)
OfferAnswers t before after offer (Err refusals.Enomem) = ⊥
