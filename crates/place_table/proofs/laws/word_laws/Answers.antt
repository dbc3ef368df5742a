use Rattle.place_table.proofs.HomeSteps.{clears_step, rehomes_step, sees_home_step}
use Rattle.place_table.proofs.Locks.{tries}
use Rattle.place_table.proofs.GivenBack.{gives_back, gives_lead}
use Rattle.place_table.proofs.OwnerSteps.{claims_step, settles_step, attaches_step, detaches_step}
use Rattle.place_table.proofs.WordSteps.{marks_step, sees_bit_step, sees_owner_step}
use Rattle.place_table.proofs.Joins.{joins_no_step}
use Rattle.place_table.proofs.Splits.{splits_no_step}
use Rattle.place_table.proofs.TicketSteps.{reads_step, draws_step, sees_step}
use Rattle.place_table.proofs.laws.word_laws.Goals as goal

pub returns : goal.returns
returns c = record {
  take = λ shape slots pass me lock cpu has is may unread. tries shape slots pass me lock cpu has is may unread;
  give = λ shape slots pass v behind slots_below lock hold below innermost is at_lock entry kept may. gives_back shape slots pass v behind slots_below lock hold below innermost is at_lock entry kept may;
  leads = λ shape pass v behind slots_below lock hold below innermost is at_lock entry kept may lost lost_is s r seated. gives_lead shape 0 pass v behind slots_below lock hold below innermost is at_lock entry kept may lost lost_is s r seated;
  claim = λ shape slots pass me e lock hold real is found head unread around. claims_step shape slots pass me e lock hold real is found head unread around;
  settle = λ shape slots pass me e lock hold real is found has_free_list has in_hand listed unread around. settles_step shape slots pass me e lock hold real is found has_free_list has in_hand listed unread around;
  attach = λ shape slots pass me e bucket hold real there found has in_hand not_carried hashed unread around. attaches_step shape slots pass me e bucket hold real there found has in_hand not_carried hashed unread around;
  detach = λ shape slots pass me e bucket hold there found inside unread around. detaches_step shape slots pass me e bucket hold there found inside unread around;
  rehome = λ shape slots pass me c e from to common real has known may unread around. rehomes_step shape slots pass me c e from to common real has known may unread around;
  mark = λ shape slots pass me e bucket hold there found inside. marks_step shape slots pass me e bucket hold there found inside;
  clear = λ shape slots pass me e cpu real has in_hand. clears_step shape slots pass me e cpu real has in_hand;
  glance = λ shape slots pass me e real. (sees_bit_step shape slots pass me e real, (λ unread. sees_owner_step shape slots pass me e real unread), sees_home_step shape slots pass me e real);
  ticket = λ shape slots pass me. (
    λ hold below held unread. reads_step shape slots pass me hold below held unread,
    λ is_drawing. draws_step shape slots pass me is_drawing,
    λ unread. sees_step shape slots pass me unread,
  );
  split = λ shape pass c v has no_lock s r at. splits_no_step shape pass c v has no_lock s r at;
  join = λ shape pass other v u no_lock nor_lock apart s r at there. joins_no_step shape pass other v u apart no_lock nor_lock s r at there;
}
