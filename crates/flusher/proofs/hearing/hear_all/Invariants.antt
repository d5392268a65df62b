use Rattle.std.proofs.Common.{◌≡◌, ◌≤◌, take, length}
use Rattle.std.specs.Prelude.{All, vec_capacity, vec_len}
use Rattle.crossbeam_channel.specs.Ends.{receives_on}
use Rattle.answers.specs.Views.{received_of}
use Rattle.flusher.specs.Heard.{AreHeard, HaveAllCome, heard}
use Rattle.flusher.specs.Submitted.{HasShortAnswer}
use Rattle.flusher.proofs.hearing.hear_all.Given as goal

abbrev pub invariant-loop-k : goal.invariant-loop-k
invariant-loop-k g l = record {
  heard : AreHeard g.J.Centre.base (take l.k l.commands) (heard (received_of l.initial.receiver.pass) l.initial.viewer (length l.initial.viewer))
      (heard (received_of l.receiver.pass) l.viewer l.reached) l.answers.items;
  within : l.reached ≤ length l.viewer;
  all : HaveAllCome l.k l.initial.listening l.listening (received_of l.initial.receiver.pass) (received_of l.receiver.pass);
  count : vec_len l.answers ≡ l.k;
  short : All HasShortAnswer l.answers.items;
  room : vec_capacity l.answers ≡ vec_capacity l.initial.answers;
  same : receives_on l.receiver.channel ≡ receives_on l.initial.receiver.channel;
}
