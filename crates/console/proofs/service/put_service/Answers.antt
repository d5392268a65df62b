use Rattle.std.proofs.Common.{◌++◌, length, refl, sym, ap, ◌∙◌, inr, append_assoc}
use Rattle.std.proofs.lemmas.Result.{on_ok_weaker}
use Rattle.console.specs.Service.{service_words, station_lines}
use Rattle.console.proofs.service.put_service.Goals as goal

pub returns-clause-ok : goal.returns-clause-ok
returns-clause-ok g c = on_ok_weaker c.put_stations.result (λ put. (
  service_words (length put.0) c.rounds.result c.store-store.result ++ station_lines 1 put.0,
  inr (c.rounds.result, c.store-store.result, put.0, refl),
  put.2 ∙ ap (λ text. text ++ station_lines 1 put.0) (c.in_ok-put_whole_service.ensures.ok ∙ ap (λ n. c.args.out.now.items ++ service_words n c.rounds.result c.store-store.result) (sym put.1))
      ∙ append_assoc c.args.out.now.items (service_words (length put.0) c.rounds.result c.store-store.result) (station_lines 1 put.0),
)) c.put_stations.ensures.ok
