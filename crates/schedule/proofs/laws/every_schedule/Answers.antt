use Rattle.schedule.proofs.Soundness.{reached}
use Rattle.schedule.proofs.Later.{run_grows, next_shortens}
use Rattle.schedule.proofs.Sealing.{sealed_begins, reads_grow, answers_read, answers_borne}
use Rattle.schedule.proofs.Messages.{none_of_the_base_lost, none_made_lost}
use Rattle.schedule.proofs.laws.every_schedule.Goals as goal

pub returns : goal.returns
returns g c = record {
  stepped = λ base n es w run. (reached base n es w run).stepped;
  bounds = λ base n es w run. let h = reached base n es w run in (h.shown, h.stored);
  published = λ base n es w run fs w' more. (run_grows base fs w w' (reached base n es w run) more).published;
  shortened = λ base n es w run e w' one. next_shortens base w w' e (reached base n es w run) one;
  answers = λ base n es w run fs w' more. (run_grows base fs w w' (reached base n es w run) more).answers;
  borne_out = answers_borne;
  read = reads_grow;
  read_answers = answers_read;
  sealed = sealed_begins;
  waiting = none_of_the_base_lost;
  made = none_made_lost;
}
