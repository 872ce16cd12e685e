-- The alarm that is found is one of the log's.
use Rattle.std.proofs.Common.{◌∙◌, sym, subst, ◌<◌}
use Rattle.std.proofs.lemmas.List.{length-map}
use Rattle.des_base.proofs.TableLemmas.{place_of-within}
use Rattle.log_order.specs.Adding.{names_of}
use Rattle.log_order.specs.Log.{Alarm}
use Rattle.replay.proofs.matching.place_alone.Goals as goal

pub is_maybe-requires : goal.is_maybe-requires
is_maybe-requires c = subst (λ n. c.in-Some.alarm < n) (length-map c.args.log.now.alarms (λ (a : Alarm). a.name)) (place_of-within _ (names_of c.args.log.now.alarms) c.in-Some.alarm (sym c.in-Some.is ∙ c.find.ensures))
